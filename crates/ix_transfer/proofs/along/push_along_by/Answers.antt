use Rattle.std.proofs.Common.{◌≡◌, ◌++◌, sym, subst}
use Rattle.std.specs.Prelude.{OnOk}
use Rattle.ix_transfer.specs.OverNamed as over
use Rattle.ix_facts.specs.Closure.{kept}
use Rattle.ix_transfer.proofs.along.push_along_by.Goals as goal

pub returns-in-Less : goal.returns-in-Less
returns-in-Less g c = subst (λ f. OnOk c.push_along_less.result (c.push_along_less.new.out.items ≡ c.args.out.now.items ++ kept (over.along_by (g.K.Indexed.on_path c.args.know.now) c.args.t.now f))) (sym c.in-Less.is) c.push_along_less.ensures
