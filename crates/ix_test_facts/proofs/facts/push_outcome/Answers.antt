use Rattle.std.proofs.Common.{◌≡◌, ◌++◌, sym, subst}
use Rattle.std.specs.Prelude.{OnOk}
use Rattle.ix_facts.specs.Facts.{in_orders}
use Rattle.ix_test_facts.specs.OverGroups as over
use Rattle.ix_test_facts.proofs.facts.push_outcome.Goals as goal

pub returns-in-Below : goal.returns-in-Below
returns-in-Below g c = subst (λ o. OnOk c.push_below.result (c.push_below.new.out.items ≡ c.args.out.now.items ++ over.outcome_facts (in_orders (g.K.Know.known c.args.know.now)) (g.K.Indexed.on_path c.args.know.now) (over.outcome_of o))) (sym c.in-Below.is) c.push_below.ensures

pub returns-in-Apart : goal.returns-in-Apart
returns-in-Apart g c = subst (λ o. OnOk c.push_apart.result (c.push_apart.new.out.items ≡ c.args.out.now.items ++ over.outcome_facts (in_orders (g.K.Know.known c.args.know.now)) (g.K.Indexed.on_path c.args.know.now) (over.outcome_of o))) (sym c.in-Apart.is) c.push_apart.ensures
