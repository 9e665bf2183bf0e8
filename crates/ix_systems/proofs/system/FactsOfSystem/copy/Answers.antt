use Rattle.std.proofs.Common.{subst}
use Rattle.std.specs.Prelude.{◌++◌}
use Rattle.ix_facts.specs.Facts.{in_orders}
use Rattle.ix_facts.specs.Forget.{of_path, without}
use Rattle.ix_facts.specs.Kinds.{of_kind}
use Rattle.ix_facts.specs.Systems.{IsTable}
use Rattle.ix_systems.specs.KindTables.{known_facts}
use Rattle.ix_fact_table.proofs.TableForms.{same_new}
use Rattle.ix_systems.proofs.KnownClasses.{copy_new}
use Rattle.ix_systems.proofs.system.FactsOfSystem.copy.Goals as goal

pub returns : goal.returns
returns g c =
    let own = g.K.OneKind.KIND in
    let known = g.N.Know.known c.args.know.now in
    let t = c.args.target.now in
    let front = without (of_path t) (known_facts c.args.self.now) in
    let result = known_facts c.in_ok-table.table in
    let table : IsTable (front ++ of_kind own c.in_ok-new.new.items) result = subst (λ l. IsTable (front ++ of_kind own l) result) c.deref.ensures.value c.in_ok-table.ensures.table in
    let same = c.in_ok-new.ensures.facts in
    record { facts = same_new own front c.in_ok-new.new.items (copy_new (in_orders (without (of_path t) known)) c.args.ty.now t c.args.source.now) result same.there same.back table }
