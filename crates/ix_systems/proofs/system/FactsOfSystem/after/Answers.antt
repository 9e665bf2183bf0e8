use Rattle.std.proofs.Common.{subst}
use Rattle.std.specs.Prelude.{◌++◌}
use Rattle.ix_facts.specs.Forget.{without}
use Rattle.ix_facts.specs.After.{of_target, beside_target}
use Rattle.ix_facts.specs.Kinds.{of_kind}
use Rattle.ix_facts.specs.Systems.{IsTable}
use Rattle.ix_systems.specs.KindTables.{known_facts}
use Rattle.ix_fact_table.proofs.TableForms.{same_new}
use Rattle.ix_systems.proofs.KnownClasses.{after_new}
use Rattle.ix_systems.proofs.system.FactsOfSystem.after.Goals as goal

pub returns : goal.returns
returns g c =
    let own = g.K.OneKind.KIND in
    let known = g.N.Know.known c.args.know.now in
    let kind = c.args.op.now.kind in
    let front = without (of_target kind) (known_facts c.args.self.now) in
    let result = known_facts c.in_ok-table.table in
    let table : IsTable (front ++ of_kind own c.in_ok-new.new.items) result = subst (λ l. IsTable (front ++ of_kind own l) result) c.deref.ensures.value c.in_ok-table.ensures.table in
    let same = c.in_ok-new.ensures.facts in
    record { facts = same_new own front c.in_ok-new.new.items (after_new (beside_target kind known) c.args.profile kind) result same.there same.back table }
