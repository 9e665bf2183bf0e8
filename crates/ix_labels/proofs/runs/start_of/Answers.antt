use Rattle.std.proofs.Common.{◌≡◌, inl, inr, ◌+◌, ◌-◌, ◌<◌, ◌≤◌, refl, subst, arith}
use Rattle.std.proofs.lemmas.Bool.{cases_lt}
use Rattle.ix_labels.specs.Runs.{Continues}
use Rattle.ix_labels.proofs.runs.start_of.Goals as goal

pub returns-then-not-continues : goal.returns-then-not-continues
returns-then-not-continues c =
    let at = c.args.at in
    let back = c.loop-back.back in
    let low : back ≤ at = c.loop-back.invariant.0 in
    record {
      on = omega arith;
      begins = inr (c.continues.ensures.no c.if-not-continues.true);
      continues = λ k more within. let far : at < k + back = omega (arith, low, more) in c.loop-back.invariant.1 k far within;
    }

pub loop-back-preserved : goal.loop-back-preserved
loop-back-preserved c =
    let at = c.args.at in
    let back = c.loop-back.back in
    let more : back < at = c.loop-back-test.true in (
      omega (arith, more),
      λ k far within. elim (cases_lt at (k + back)) [
        | inl before ↦ c.loop-back.invariant.1 k before within
        | inr here ↦ let is : at - back ≡ k = omega (arith, far, here, more) in subst (Continues c.args.nodes.now c.args.kept.now) is (c.continues.ensures.yes c.if-not-continues.false)
      ],
    )

pub returns : goal.returns
returns c =
    let at = c.args.at in
    let past : at ≤ c.loop-back.back = c.loop-back-test.false in
    record {
      on = omega arith;
      begins = inl refl;
      continues = λ k more within. let far : at < k + c.loop-back.back = omega (arith, past, more) in c.loop-back.invariant.1 k far within;
    }
