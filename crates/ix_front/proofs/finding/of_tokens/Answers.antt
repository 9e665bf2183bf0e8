use Rattle.std.proofs.lemmas.Result.{IfOk-weaker}
use Rattle.ix_formed.proofs.ParsedTrees.{parsed}
use Rattle.ix_front.specs.Found as spec
use Rattle.ix_front.proofs.BytesFound.{tree_found, refusal_only, refusal_of, refusal_placed, refusal_formed}
use Rattle.ix_front.proofs.finding.of_tokens.Goals as goal

pub returns-in-Ok-clause-right : goal.returns-in-Ok-clause-right
returns-in-Ok-clause-right c = IfOk-weaker c.of_unit.result _ _ (λ finding is. spec.tree _ c.in-Ok.ensures.found is) c.of_unit.ensures.right

pub returns-in-Ok-clause-only : goal.returns-in-Ok-clause-only
returns-in-Ok-clause-only c = λ other found. c.of_unit.ensures.only other (tree_found _ _ _ other c.in-Ok.ensures.only c.in-Ok.ensures.only_refused found)

pub returns-in-Some-clause-right : goal.returns-in-Some-clause-right
returns-in-Some-clause-right c = refusal_of _ _ _ _ c.in-Some.ensures c.in-Err.ensures.refused

pub returns-in-Some-clause-only : goal.returns-in-Some-clause-only
returns-in-Some-clause-only c = λ other found. refusal_only _ _ _ _ other c.in-Some.ensures c.in-Err.ensures.only c.in-Err.ensures.only_refused found

pub returns-in-Some-clause-placed : goal.returns-in-Some-clause-placed
returns-in-Some-clause-placed c = refusal_placed _ _ _ _ c.requires.in_order c.in-Err.ensures.within c.in-Some.ensures

pub returns-in-Some-clause-formed : goal.returns-in-Some-clause-formed
returns-in-Some-clause-formed c = refusal_formed _ _ _ _ c.in-Some.ensures

pub returns-in-Ok-clause-placed : goal.returns-in-Ok-clause-placed
returns-in-Ok-clause-placed c = c.of_unit.ensures.placed c.args.end c.in-Ok.ensures.placed

pub of_unit-requires : goal.of_unit-requires
of_unit-requires c =
    record { parsed = parsed c.args.tokens.now c.in-Ok.unit c.requires.ints c.in-Ok.ensures.found c.in-Ok.ensures.resolvable c.args.end c.in-Ok.ensures.placed }
