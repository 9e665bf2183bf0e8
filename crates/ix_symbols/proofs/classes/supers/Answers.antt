use Rattle.std.proofs.Common.{rules, ◌≡◌, ◌∙◌, sym, ap, Some, ◌++◌, ◌∷◌, [], true, false, drop, ◌+◌}
use Rattle.ix_meaning.specs.Classes as spec
use Rattle.ix_symbols.proofs.Climbing.{unseen_stop, unseen_on}
use Rattle.ix_symbols.proofs.classes.supers.Goals as goal

pub returns-then-is_seen : goal.returns-then-is_seen
returns-then-is_seen c =
    let is : spec.parent c.args.parents.now c.loop-turn.here ≡ Some c.in-Some.next = search rules in
    let seen : spec.is_among c.in-Some.next (c.args.class ∷ c.loop-turn.supers) ≡ true = search rules in
    sym (unseen_stop c.args.parents.now c.loop-turn.turn-index c.loop-turn.here c.in-Some.next (c.args.class ∷ c.loop-turn.supers) c.loop-turn.supers c.loop-turn-test.true is seen) ∙ c.loop-turn.invariant

pub loop-turn-preserved : goal.loop-turn-preserved
loop-turn-preserved c =
    let is : spec.parent c.args.parents.now c.loop-turn.here ≡ Some c.in-Some.next = search rules in
    let new : spec.is_among c.in-Some.next (c.args.class ∷ c.loop-turn.supers) ≡ false = search rules in
    let pushed : c.push.new.self ≡ c.loop-turn.supers ++ c.in-Some.next ∷ [] = search rules in
    ap (λ l. l ++ spec.unseen (c.args.class ∷ l) (spec.way_up c.args.parents.now (drop (c.loop-turn.turn-index + 1) c.args.parents.now) c.in-Some.next)) pushed
    ∙ unseen_on c.args.parents.now c.loop-turn.turn-index c.loop-turn.here c.in-Some.next (c.args.class ∷ c.loop-turn.supers) c.loop-turn.supers c.loop-turn-test.true is new
    ∙ c.loop-turn.invariant
