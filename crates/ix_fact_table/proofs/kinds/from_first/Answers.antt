use Rattle.std.proofs.Common.{◌≡◌, ◌∷◌, refl, inr, ap, sym, subst, ◌∙◌}
use Rattle.ix_facts.specs.Facts.{IsIn}
use Rattle.ix_facts.specs.Kinds.{of_kind}
use Rattle.ix_fact_table.proofs.kinds.from_first.Goals as goal

pub loop-fact-preserved : goal.loop-fact-preserved
loop-fact-preserved c =
    let own = c.args.kind in
    let fact = c.in-Some.fact.now in
    let more = c.in-Some.more.now in
    let is = c.in-Some.ensures.cases.0 in
    let other : of_kind own (fact ∷ more) ≡ of_kind own more = rw (sym c.is_of_kind.ensures ∙ c.if-is_of_kind.false) refl in
    record {
      same = sym other ∙ (ap (of_kind own) (sym is) ∙ c.loop-fact.invariant.same);
      part = λ f i. c.loop-fact.invariant.part f (subst (IsIn f) (sym is) (inr i));
    }
