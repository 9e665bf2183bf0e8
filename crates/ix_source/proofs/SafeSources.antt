-- The program of a source without errors on names does what the source says; so where the program is safe the source is.
use Rattle.std.proofs.Common.{◌≡◌, ℕ, List, Ok}
use Rattle.ix_core.specs.declared.fact.Profile.{Profile}
use Rattle.ix_core.specs.declared.program.Program.{Program}
use Rattle.ix_core.specs.Safe.{Input, CanRun, Begins, Safe, start}
use Rattle.ix_core.specs.Tables.{tables_of}
use Rattle.ix_tree.specs.declared.decl.Unit.{Unit as Source}
use Rattle.ix_meaning.proofs.FewDeclarations.{few_members}
use Rattle.ix_formed.specs.Parsed.{IsParsed}
use Rattle.ix_formed.proofs.FieldsFit.{IsAccepted}
use Rattle.ix_meaning.specs.Resolved.{Accepts, names}
use Rattle.ix_plain.specs.Program.{program as program_of}
use Rattle.ix_source.specs.Promise.{SafeSource}
use Rattle.ix_source.specs.Source.{source}
use Rattle.ix_source.specs.Whole.{Keeps}
use Rattle.ix_source.proofs.EntriesBegin.{enters_begins}
use Rattle.ix_source.proofs.RunsMeet.{all_meet}
use Rattle.ix_source.proofs.SafeRuns.{good_run}
use Rattle.ix_source.proofs.WholeRuns.{keeps}

accepted : (unit : Source) (p : Program) → IsParsed unit → Accepts unit → program_of (names unit) unit.classes ≡ Ok p → IsAccepted unit p
accepted unit p fine accepts made = record { can = fine.can; accepts = accepts; written = fine.written; few = few_members unit fine.can; made = made }

-- Runs with the same entry and inputs end alike, wrap alike and show the same, both ways, and what one has shown the other shows first.
pub source_kept : (unit : Source) (p : Program) → IsParsed unit → Accepts unit → program_of (names unit) unit.classes ≡ Ok p → (method : ℕ) (inputs : List Input) → CanRun p method inputs
    → Keeps (tables_of p) (start p method inputs) (source unit method inputs)
source_kept unit p fine accepts made method inputs entry = keeps _ _ _ (λ n. all_meet unit p fine accepts made method inputs entry n)

-- Where no run of the program on the machine is bad, no run of the source is.
pub safe_source : (unit : Source) (p : Program) → IsParsed unit → Accepts unit → program_of (names unit) unit.classes ≡ Ok p → (profile : Profile) → Safe p profile → SafeSource profile unit
safe_source unit p fine accepts made profile safe method inputs enters n counts =
    let begins : Begins p method inputs = enters_begins unit p (accepted unit p fine accepts made) method inputs enters in
    good_run p method inputs profile safe begins (source unit method inputs) n (all_meet unit p fine accepts made method inputs begins.entry n) counts
