-- Sources whose programs are one but for claims and places do the same.
use Rattle.std.proofs.Common.{◌≡◌, ℕ, List, ◌++◌, map, Ok, Option, Some, None, refl, sym, ap, ◌∙◌, append_assoc}
use Rattle.std.specs.Prelude.{option_map, unwrap_or}
use Rattle.ix_core.specs.declared.program.Program.{Program}
use Rattle.ix_core.specs.Machine.{Ending, no_limits}
use Rattle.ix_core.specs.Safe.{Input, CanRun, start, state_after}
use Rattle.ix_core.specs.Tables.{tables_of}
use Rattle.ix_core.specs.Traces.{Observation}
use Rattle.ix_tree.specs.declared.decl.Unit.{Unit as Source}
use Rattle.ix_source.specs.Source.{Shown, source}
use Rattle.ix_source.specs.Seen.{seen}
use Rattle.ix_source.specs.Whole.{Same, Keeps, IsKept}
use Rattle.ix_formed.specs.Parsed.{IsParsed}
use Rattle.ix_formed.proofs.FieldsFit.{IsAccepted}
use Rattle.ix_meaning.proofs.FewDeclarations.{few_members}
use Rattle.ix_meaning.specs.Resolved.{Accepts, names}
use Rattle.ix_plain.specs.Program.{program as program_of}
use Rattle.ix_source.proofs.EntriesBegin.{enters_begins}
use Rattle.ix_source.proofs.SafeSources.{source_kept}
use Rattle.ix_source.specs.Promise.{Enters}
use Rattle.ix_same_code.specs.Bare.{bare_ending, bare_seen}
use Rattle.ix_same_code.specs.Parts.{SameCode, SameRun}
use Rattle.ix_same_code.proofs.BareSteps.{mapped_both}
use Rattle.ix_same_code.proofs.SameRuns.{same_run, same_entry}
use Rattle.ix_same_text.specs.Alike.{Alike, Follows, SameSource}

ended_alike : (other : Option Ending) (ending : Ending) → Some ending ≡ option_map bare_ending other → (theirs : Ending) × (other ≡ Some theirs) × (ending ≡ bare_ending theirs)
ended_alike None ending e = absurd cc
ended_alike (Some theirs) ending e = (theirs, refl, ap (λ (o : Option Ending). unwrap_or o ending) e)

same_back : (program other : Program) → SameCode program other → SameCode other program
same_back program other same = record { classes = sym same.classes; methods = sym same.methods; types = sym same.types }

module _ (program other : Program) (same : SameCode program other) (method : ℕ) (inputs : List Input) (one two : ℕ → Shown)
    (kept : Keeps (tables_of program) (start program method inputs) one) (kept_too : Keeps (tables_of other) (start other method inputs) two) where
  ends_alike : (n : ℕ) (ending : Ending) → (one n).ending ≡ Some ending → (m : ℕ) × Alike (one n) (two m)
  ends_alike n ending is =
      let mine = kept.of_source n ending is in
      let both = same_run program other same no_limits method inputs mine.0 in
      let found = ended_alike (state_after other no_limits method inputs mine.0).ended (bare_ending ending) (ap (option_map bare_ending) (sym mine.1.ended) ∙ both.ended) in
      let theirs = kept_too.of_machine mine.0 found.0 found.1 in (
        theirs.0,
        record {
          ending = ap (option_map bare_ending) is ∙ (ap Some found.2 ∙ ap (option_map bare_ending) (sym theirs.1.source_ended));
          events = ap (map bare_seen) (sym mine.1.shown) ∙ (both.seen ∙ ap (map bare_seen) theirs.1.shown);
          wrapped = sym mine.1.wrapped ∙ (both.wrapped ∙ theirs.1.wrapped);
        },
      )

  shows_first : (n : ℕ) → (m : ℕ) × (rest : List Observation) × (map bare_seen (two m).events ≡ map bare_seen (one n).events ++ rest)
  shows_first n =
      let mine = kept.source_first n in
      let both = same_run program other same no_limits method inputs mine.0 in
      let theirs = kept_too.shown_first mine.0 in (
        theirs.0,
        map bare_seen mine.1.rest ++ map bare_seen theirs.1.rest,
        ap (map bare_seen) theirs.1.is
            ∙ (mapped_both bare_seen (seen (tables_of other) mine.0 (start other method inputs)) theirs.1.rest
            ∙ (ap (λ (events : List Observation). events ++ map bare_seen theirs.1.rest) (sym both.seen ∙ (ap (map bare_seen) mine.1.is ∙ mapped_both bare_seen (one n).events mine.1.rest))
            ∙ append_assoc (map bare_seen (one n).events) (map bare_seen mine.1.rest) (map bare_seen theirs.1.rest))),
      )

-- What lowering keeps of both sources, and programs that are one but for claims and places: each source does what the other does.
pub same_sources : (unit other : Source) (program lowered : Program) → IsKept unit program → IsKept other lowered → SameCode program lowered
    → (method : ℕ) (inputs : List Input) → CanRun program method inputs → SameSource unit other method inputs
same_sources unit other program lowered kept kept_too same method inputs entry =
    let mine = kept method inputs entry in
    let theirs = kept_too method inputs (same_entry program lowered same method inputs entry) in
    record {
      on = record {
        ends = ends_alike program lowered same method inputs (source unit method inputs) (source other method inputs) mine theirs;
        shows = shows_first program lowered same method inputs (source unit method inputs) (source other method inputs) mine theirs;
      };
      back = record {
        ends = ends_alike lowered program (same_back program lowered same) method inputs (source other method inputs) (source unit method inputs) theirs mine;
        shows = shows_first lowered program (same_back program lowered same) method inputs (source other method inputs) (source unit method inputs) theirs mine;
      };
    }

-- A source without errors on names, and its program.
pub record HasProgram (unit : Source) (program : Program) : Type 0 where
  pub parsed : IsParsed unit
  pub accepts : Accepts unit
  pub made : program_of (names unit) unit.classes ≡ Ok program

-- Two such sources whose programs are one but for claims and places: on all inputs that the second takes each does what the other does.
pub same_meaning : (unit other : Source) (program lowered : Program) → HasProgram unit program → HasProgram other lowered → SameCode program lowered
    → (method : ℕ) (inputs : List Input) → Enters other method inputs → SameSource unit other method inputs
same_meaning unit other program lowered one two same method inputs enters =
    let fine : IsAccepted other lowered = record { can = two.parsed.can; accepts = two.accepts; written = two.parsed.written; few = few_members other two.parsed.can; made = two.made } in
    let begins = enters_begins other lowered fine method inputs enters in
    same_sources unit other program lowered (source_kept unit program one.parsed one.accepts one.made) (source_kept other lowered two.parsed two.accepts two.made) same method inputs
    (same_entry lowered program (same_back program lowered same) method inputs begins.entry)
