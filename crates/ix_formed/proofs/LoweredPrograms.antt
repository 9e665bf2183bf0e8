-- What comes of an accepted source besides being formed.
use Rattle.std.specs.Prelude.{◌≡◌, ◌<◌, ◌^◌, length, Ok}
use Rattle.ix_core.specs.declared.program.Program.{Program}
use Rattle.ix_core.specs.Formed.{Formed}
use Rattle.ix_tree.specs.declared.decl.Unit.{Unit as Source}
use Rattle.ix_meaning.specs.Resolved.{Accepts, names}
use Rattle.ix_plain.specs.Program.{program}
use Rattle.ix_meaning.proofs.FewDeclarations.{few_members}
use Rattle.ix_formed.specs.Parsed.{IsParsed}
use Rattle.ix_formed.proofs.FieldsFit.{IsAccepted}
use Rattle.ix_formed.proofs.FormedSources.{formed_source, source_apart}
use Rattle.ix_core.specs.Ready.{HasFew, LocalsApart}
use Rattle.ix_formed.proofs.ApartLocals.{own_slots_apart}
use Rattle.ix_formed.proofs.FewDeclared.{few_methods, few_locals_and_fields}

module _ (source : Source) (made : Program) (accepts : Accepts source) (parsed : IsParsed source) (is : program (names source) source.classes ≡ Ok made) where
  accepted : IsAccepted source made
  accepted = record { can = parsed.can; accepts = accepts; written = parsed.written; few = few_members source parsed.can; made = is }

  formed : Formed made
  formed = formed_source source made parsed accepts (few_members source parsed.can) is

  -- No claim on a local names another local of the same slot.
  pub lowered_apart : LocalsApart made
  lowered_apart = own_slots_apart made formed (source_apart source made parsed accepts (few_members source parsed.can) is)

  -- Methods, locals and fields have numbers of 32 bits.
  pub lowered_methods_few : length made.methods < 2 ^ 32
  lowered_methods_few = few_methods source made accepted

  pub lowered_few : HasFew made
  lowered_few = few_locals_and_fields source made accepted
