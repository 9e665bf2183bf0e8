use Rattle.std.specs.Prelude.{pos}
use Rattle.std.proofs.Common.{◌≡◌, ◌∷◌, ◌++◌, ◌+◌, take, drop, refl, arith, ap, subst, sym, ◌∙◌}
use Rattle.ix_core.specs.declared.fact.Path.TheVariants.{Slot}
use Rattle.ix_core.specs.declared.fact.Fact.{Fact}
use Rattle.ix_core.specs.declared.fact.Fact.TheVariants.{Rng}
use Rattle.ix_test_facts.specs.OverGroups.{put_before, is_of_greater}
use Rattle.ix_test_facts.proofs.OwnPut.{one_passed, one_found, none_found}
use Rattle.ix_test_facts.proofs.own.before_greater.Goals as goal

pub loop-fact-init : goal.loop-fact-init
loop-fact-init c = record { counted = refl; passed = λ own. refl }

pub loop-fact-preserved : goal.loop-fact-preserved
loop-fact-preserved c = record {
  counted = ap (λ n. n + 1) c.loop-fact.invariant.counted;
  passed = one_passed (is_of_greater c.args.p.now) c.args.on_p.now c.loop-fact.fact-index (Rng (Slot 0) (pos 0) (pos 0)) c.loop-fact-test.true (sym c.is_of_greater.ensures ∙ c.if-is_of_greater.false) c.loop-fact.invariant.passed;
}

pub returns-then-is_of_greater : goal.returns-then-is_of_greater
returns-then-is_of_greater c =
    let facts = c.args.on_p.now in
    let k = c.loop-fact.fact-index in
    let found = one_found (is_of_greater c.args.p.now) facts k (Rng (Slot 0) (pos 0) (pos 0)) c.loop-fact-test.true (sym c.is_of_greater.ensures ∙ c.if-is_of_greater.true) c.loop-fact.invariant.passed in
    record {
      within = omega (arith, c.loop-fact.invariant.counted, c.loop-fact-test.true);
      own = subst (λ n. (own : Fact) → put_before (is_of_greater c.args.p.now) own facts ≡ take n facts ++ own ∷ drop n facts) (sym c.loop-fact.invariant.counted) found;
    }

pub returns : goal.returns
returns c =
    let facts = c.args.on_p.now in
    let k = c.loop-fact.fact-index in
    let found = none_found (is_of_greater c.args.p.now) facts k c.loop-fact-test.false c.loop-fact.invariant.passed in
    record {
      within = omega (arith, c.loop-fact.invariant.counted, c.loop-fact.auto.fact-index-end);
      own = subst (λ n. (own : Fact) → put_before (is_of_greater c.args.p.now) own facts ≡ take n facts ++ own ∷ drop n facts) (sym c.loop-fact.invariant.counted) found;
    }
