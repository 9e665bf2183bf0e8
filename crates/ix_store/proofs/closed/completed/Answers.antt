use Rattle.std.proofs.Common.{◌≡◌, ◌++◌, ◌∙◌, ap, sym, subst}
use Rattle.std.proofs.lemmas.Result.{IfOk-weaker}
use Rattle.ix_facts.specs.declared.kind.Kind.TheVariants as kind
use Rattle.ix_facts.specs.Closure.{IsClosedOf}
use Rattle.ix_facts.specs.Kinds.{of_kind}
use Rattle.ix_facts.specs.Systems.{HaveClasses, IsTable}
use Rattle.ix_fact_table.specs.Beside.{AreBeside}
use Rattle.ix_fact_table.specs.FactTables.{facts_of, table_kind}
use Rattle.ix_fact_table.specs.Saturated.{IsSaturated}
use Rattle.ix_store.specs.StoredFacts.{facts_in}
use Rattle.ix_store.proofs.KnownStores.{is_closed_known}
use Rattle.ix_store.proofs.StoresOf.{table_closed}
use Rattle.ix_store.proofs.TablesInTurn.{any_table, table_any, table_in_turn, ranges_table}
use Rattle.ix_store.proofs.closed.completed.Goals as goal

pub with_all-requires : goal.with_all-requires
with_all-requires c = record { classes = subst HaveClasses (sym c.deref-2.ensures.value) c.in_ok-more.ensures.classes }

pub over_with-requires : goal.over_with-requires
over_with-requires c =
    let known = c.args.known.now in
    let facts = facts_in known in
    let own = table_kind known.table in
    let new = c.args.new.items in
    let more = c.in_ok-more.more.items in
    let first = c.args.first in
    let whole = c.in_ok-whole.whole in
    let told : IsTable (facts ++ new) (facts_of first) = any_table own facts new (facts_of first) known.holds.kind c.requires.table in
    let both : IsTable (facts_of first ++ more) (facts_of whole) =
    any_table (table_kind first) (facts_of first) more (facts_of whole) (c.requires.kind ∙ known.holds.kind) (subst (λ l. IsTable (facts_of first ++ of_kind (table_kind first) l) (facts_of whole)) c.deref-2.ensures.value c.in_ok-whole.ensures.table) in
    let all : IsTable (facts ++ (new ++ more)) (facts_of whole) = table_in_turn facts new more (facts_of first) (facts_of whole) told both in
    let added : c.deref-4.result.now ≡ new ++ more = c.deref-4.ensures.value ∙ (c.in_ok-extend_from_slice.ensures.items ∙ ap (λ l. new ++ l) c.deref-3.ensures.value) in
    record {
      kind = c.in_ok-whole.ensures.kind ∙ c.requires.kind;
      table = table_any own facts c.deref-4.result.now (facts_of whole) known.holds.kind (subst (λ l. IsTable (facts ++ l) (facts_of whole)) (sym added) all);
    }

pub returns : goal.returns
returns c =
    let known = c.args.known.now in
    let facts = facts_in known in
    let own = table_kind known.table in
    let new = c.args.new.items in
    let more = c.in_ok-more.more.items in
    let first = c.args.first in
    let whole = c.in_ok-whole.whole in
    let told : IsTable (facts ++ new) (facts_of first) = any_table own facts new (facts_of first) known.holds.kind c.requires.table in
    let both : IsTable (facts_of first ++ more) (facts_of whole) =
    any_table (table_kind first) (facts_of first) more (facts_of whole) (c.requires.kind ∙ known.holds.kind) (subst (λ l. IsTable (facts_of first ++ of_kind (table_kind first) l) (facts_of whole)) c.deref-2.ensures.value c.in_ok-whole.ensures.table) in
    let all : IsTable (facts ++ (new ++ more)) (facts_of whole) = table_in_turn facts new more (facts_of first) (facts_of whole) told both in
    let ranges = c.ranges-2.result.now in
    let searches = c.searches.result.now in
    let met : IsTable (of_kind kind.Range (facts ++ new)) ranges = subst (IsTable (of_kind kind.Range (facts ++ new))) (sym c.ranges-2.ensures.ranges) (ranges_table (facts ++ new) (facts_of first) told) in
    let are : AreBeside facts new ranges searches = record { closed = is_closed_known known; plain = c.requires.plain; met = met; answers = c.searches.ensures.all; only = c.searches.ensures.only } in
    let saturated : IsSaturated (facts ++ new) (facts ++ (new ++ more)) =
    subst (λ l. IsSaturated (facts ++ l) (facts ++ (l ++ more))) c.deref.ensures.value (c.in_ok-more.ensures.saturated facts (subst (λ l. AreBeside facts l ranges searches) (sym c.deref.ensures.value) are)) in
    record { closed = IfOk-weaker c.over_with.result _ _ (λ over is. subst (λ t. IsClosedOf (facts ++ new) (facts_of t)) (sym is) (table_closed (facts ++ new) (facts ++ (new ++ more)) (facts_of whole) saturated all)) c.over_with.ensures.over }
