use Rattle.std.proofs.Common.{rules, arith, w64, to_z, of_z, ◌∙◌}
use Rattle.std.proofs.lemmas.Int.{to_z-of_z}
use Rattle.ix_facts.specs.Bounds as spec
use Rattle.ix_intervals.specs.BestLaws.{next_low}
use Rattle.ix_transfer.proofs.new_ends.new_low.Goals as goal

pub loop-fact-preserved : goal.loop-fact-preserved
loop-fact-preserved c =
    next_low (spec.range_low_by c.args.t.now) c.args.new.now c.loop-fact.fact-index _ (omega (arith, c.loop-fact-test.true)) (to_z w64 c.loop-fact.low-bits) (to_z w64 (of_z w64 c.low_of-low.result)) _
    (to_z-of_z w64 c.low_of-low.result (search rules) ∙ c.low_of-low.ensures.value) c.loop-fact.invariant
