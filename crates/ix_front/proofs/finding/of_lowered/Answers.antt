use Rattle.std.proofs.Common.{sym, ◌≡◌, ◌∙◌, ap, Ok, Err}
use Rattle.ix_plain.specs.Program.{program}
use Rattle.ix_formed.proofs.PlacedPrograms.{placed_program}
use Rattle.ix_meaning.specs.Resolved.{names}
use Rattle.ix_front.specs.Found as spec
use Rattle.ix_front.proofs.NamesFound.{accepted_only, unlowered_found, unlowered_only, unlowered_placed, unlowered_formed}
use Rattle.ix_front.proofs.finding.of_lowered.Goals as goal

pub returns-in-Ok-clause-right : goal.returns-in-Ok-clause-right
returns-in-Ok-clause-right c =
    let made : program (names c.args.unit.now) c.args.unit.now.classes ≡ Ok _ = ap (λ n. program n c.args.unit.now.classes) (sym c.requires.table) ∙ c.in-Ok.ensures.program in
    spec.named _ c.requires.accepts made

pub returns-in-Ok-clause-only : goal.returns-in-Ok-clause-only
returns-in-Ok-clause-only c = λ other found.
    let made : program (names c.args.unit.now) c.args.unit.now.classes ≡ Ok _ = ap (λ n. program n c.args.unit.now.classes) (sym c.requires.table) ∙ c.in-Ok.ensures.program in
    accepted_only c.args.unit.now _ other c.requires.accepts made found

pub returns-in-Some-clause-right : goal.returns-in-Some-clause-right
returns-in-Some-clause-right c =
    unlowered_found c.args.unit.now _ _ c.requires.accepts
    (λ which place is. ap (λ n. program n c.args.unit.now.classes) (sym c.requires.table) ∙ c.in-Err.ensures.limit which place (ap Err is)) c.in-Some.ensures

pub returns-in-Some-clause-only : goal.returns-in-Some-clause-only
returns-in-Some-clause-only c = λ other found.
    unlowered_only c.args.unit.now _ _ other c.requires.accepts
    (λ which place is. ap (λ n. program n c.args.unit.now.classes) (sym c.requires.table) ∙ c.in-Err.ensures.limit which place (ap Err is)) c.in-Some.ensures found

pub returns-in-Some-clause-placed : goal.returns-in-Some-clause-placed
returns-in-Some-clause-placed c = λ end placed.
    unlowered_placed end c.args.unit.now _ _ placed
    (λ which place is. ap (λ n. program n c.args.unit.now.classes) (sym c.requires.table) ∙ c.in-Err.ensures.limit which place (ap Err is)) c.in-Some.ensures

pub returns-in-Ok-clause-placed : goal.returns-in-Ok-clause-placed
returns-in-Ok-clause-placed c = λ end placed.
    let source = c.args.unit.now in
    let made : program (names source) source.classes ≡ Ok c.in-Ok.program = ap (λ n. program n source.classes) (sym c.requires.table) ∙ c.in-Ok.ensures.program in
    placed_program end source placed (names source) c.in-Ok.program made

pub returns-in-Ok-clause-formed : goal.returns-in-Ok-clause-formed
returns-in-Ok-clause-formed c =
    let source = c.args.unit.now in
    let made : program (names source) source.classes ≡ Ok c.in-Ok.program = ap (λ n. program n source.classes) (sym c.requires.table) ∙ c.in-Ok.ensures.program in (
      c.in-Ok.ensures.formed c.requires.parsed c.requires.accepts c.requires.table,
      record {
        methods = c.lowered_is_few.ensures.methods source c.in-Ok.program c.requires.accepts c.requires.parsed made;
        few = c.lowered_is_few.ensures.few source c.in-Ok.program c.requires.accepts c.requires.parsed made;
        apart = c.lowered_locals_are_apart.ensures.apart source c.in-Ok.program c.requires.accepts c.requires.parsed made;
      },
    )

pub returns-in-Some-clause-formed : goal.returns-in-Some-clause-formed
returns-in-Some-clause-formed c = unlowered_formed _ _ c.in-Some.ensures
