-- The program of an accepted source, whose tree the grammar writes, is formed.
use Rattle.std.proofs.Common.{◌≡◌, ◌<◌, ◌^◌, ℕ, ◌+◌, true, List, [], ◌∷◌, Ok, refl, sym, subst, arith}
use Rattle.ix_core.specs.declared.program.Method.{Method}
use Rattle.ix_core.specs.declared.program.Program.{Program}
use Rattle.ix_core.specs.Formed.{Formed}
use Rattle.ix_tree.specs.declared.decl.Unit.{Unit as Source}
use Rattle.ix_tree.specs.Placed.{Placed}
use Rattle.ix_meaning.specs.Classes.{parents}
use Rattle.ix_meaning.specs.Members as members
use Rattle.ix_meaning.specs.Resolved.{names, Accepts}
use Rattle.ix_meaning.specs.Source.{members_in}
use Rattle.ix_plain.specs.Members.{first_numbers}
use Rattle.ix_plain.specs.Program.{program, tables}
use Rattle.ix_formed.specs.Additions.{AllOf}
use Rattle.ix_formed.specs.OwnSlots.{AllOwnSlots}
use Rattle.ix_formed.specs.Parsed.{IsParsed}
use Rattle.ix_formed.specs.Readable.{is_readable}
use Rattle.ix_formed.specs.Shape.{MethodHasShape}
use Rattle.ix_formed.proofs.ClassesFit.{matched_with, methods_have, numbers_go}
use Rattle.ix_formed.proofs.ClassFields.{IsMember, members_are, all_have_fields}
use Rattle.ix_formed.proofs.DefaultConstructors.{defaults_inside}
use Rattle.ix_formed.proofs.FieldsFit.{IsAccepted, shape, said}
use Rattle.ix_formed.proofs.FieldsInitialised.{constructor_fits_inside}
use Rattle.ix_formed.proofs.FormedPrograms.{FitsInside, WhereConstructor, formed_of, own_slots_of}
use Rattle.ix_formed.proofs.HeadsAre.{IsWritten}
use Rattle.ix_formed.proofs.NumberLists.{all_so, all_joined, all_split}

module _ (unit : Source) (p : Program) (is : IsAccepted unit p) where
  written_inside : (methods : List Method) → AllOf (IsWritten unit p is (IsMember unit p) (tables (names unit) unit.classes)) methods → AllOf (MethodHasShape p) methods → AllOf (WhereConstructor unit p is) methods
  written_inside [] ws has = tt
  written_inside (method ∷ methods) ws has = ((λ constructor. constructor_fits_inside unit p is method ws.0 constructor has.0.locals), written_inside methods ws.1 has.1)

  constructors_inside : (end : ℕ) → Placed end unit → is_readable unit.classes ≡ true → AllOf (WhereConstructor unit p is) p.methods
  constructors_inside end placed readable =
      let have = methods_have unit p is in
      let shapes = all_split (MethodHasShape p) have.written have.default (subst (AllOf (MethodHasShape p)) have.same (shape unit p is).each) in
      let ws = (matched_with unit p is (IsMember unit p) (members_are unit p is end placed readable)).1 in
      let defaults = defaults_inside unit p is (parents unit.classes) (members.methods unit.classes) 0 0 (first_numbers unit.classes) unit.classes have.default refl (numbers_go unit p is) (omega arith) (said unit p is)
      (all_have_fields unit p is end placed readable) have.are_default in
      subst (AllOf (WhereConstructor unit p is)) (sym have.same)
      (all_joined (WhereConstructor unit p is) have.written have.default (written_inside have.written ws shapes.0)
      (all_so (FitsInside p) (WhereConstructor unit p is) (λ method inside constructor. inside) have.default defaults))

-- What an accepted source becomes is formed.
pub formed_source : (unit : Source) (p : Program) → IsParsed unit → Accepts unit → members_in unit.classes + 1 < 2 ^ 32 → program (names unit) unit.classes ≡ Ok p → Formed p
formed_source unit p parsed accepts few made =
    let is : IsAccepted unit p = record { can = parsed.can; accepts = accepts; written = parsed.written; few = few; made = made } in
    formed_of unit p is parsed.placed.0 parsed.placed.1 parsed.readable (constructors_inside unit p is parsed.placed.0 parsed.placed.1 parsed.readable)

-- Its locals have slots of their own.
pub source_apart : (unit : Source) (p : Program) → IsParsed unit → Accepts unit → members_in unit.classes + 1 < 2 ^ 32 → program (names unit) unit.classes ≡ Ok p → AllOwnSlots p
source_apart unit p parsed accepts few made =
    let is : IsAccepted unit p = record { can = parsed.can; accepts = accepts; written = parsed.written; few = few; made = made } in
    own_slots_of unit p is parsed.placed.0 parsed.placed.1 parsed.readable (constructors_inside unit p is parsed.placed.0 parsed.placed.1 parsed.readable)
