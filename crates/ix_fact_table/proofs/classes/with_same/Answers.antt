use Rattle.std.proofs.Common.{◌≡◌, subst, inr}
use Rattle.std.proofs.lemmas.Result.{IfOk-weaker}
use Rattle.ix_core.specs.declared.fact.Fact.TheVariants.{Same}
use Rattle.ix_facts.specs.Closure.{Follows}
use Rattle.ix_fact_table.proofs.JoinedClasses.{joined_sound}
use Rattle.ix_fact_table.proofs.classes.with_same.Goals as goal

pub returns-in-Same-clause-sound : goal.returns-in-Same-clause-sound
returns-in-Same-clause-sound c =
    let is : c.args.fact.now ≡ Same c.in-Same.a c.in-Same.b = c.in-Same.is in
    IfOk-weaker c.joined.result _ _
    (λ next joined facts follows sound.
    joined_sound c.path_order_laws.ensures.same c.path_order_laws.ensures.itself facts c.args.roots.items next.items c.in-Same.a c.in-Same.b (inr (subst (Follows facts) is follows)) joined sound)
    c.joined.ensures.joined
