use Rattle.std.specs.Prelude.{[], false, take, drop}
use Rattle.std.proofs.Common.{rules, ◌≡◌, ◌≤◌, ap, sym, subst, ◌∙◌, length}
use Rattle.ix_facts.specs.Closure.{Closed}
use Rattle.ix_facts.specs.Exact.{named_ints, named_arrays}
use Rattle.ix_facts.specs.Facts.{in_orders}
use Rattle.ix_bounds.specs.Ends.{ends_in}
use Rattle.ix_bounds.specs.Links.{links_in}
use Rattle.ix_fact_paths.specs.ByPath.{put_all}
use Rattle.ix_fact_table.specs.FactTables.{facts_of}
use Rattle.ix_fact_table.specs.TableLaws.{all_may}
use Rattle.ix_store.specs.EmptyRanges.{some_empty}
use Rattle.ix_store.specs.Orders.{ordered_by}
use Rattle.ix_store.proofs.ClosedTests.{closed_by_test}
use Rattle.ix_store.proofs.OrdersNames.{ints_in_orders, arrays_in_orders}
use Rattle.ix_store.proofs.known.Known.with_lists.Goals as goal

pub orders_beside-requires : goal.orders_beside-requires
orders_beside-requires c = record { plain = λ t. subst (λ l. in_orders l ≡ l) (sym c.as_slice-facts.ensures.facts) (c.over.invariant.one_order t) }

pub invariant_of-result : goal.invariant_of-result
invariant_of-result c =
    let table = c.over.inside.table in
    let facts = facts_of table in
    let orders : ordered_by facts c.in_ok-turned.turned ≡ in_orders facts = subst (λ l. ordered_by l c.in_ok-turned.turned ≡ in_orders l) c.as_slice-facts.ensures.facts c.in_ok-turned.ensures in
    let ordered : c.ordered.result.now ≡ in_orders facts = c.ordered.ensures ∙ (c.in_ok-turned.ensures ∙ ap in_orders c.as_slice-facts.ensures.facts) in
    record {
      holds = record {
        kind = c.over.invariant.kind;
        orders = orders;
        in_ends = subst (λ l. c.ends_of-ends.result ≤ length l) orders c.ends_of-ends.ensures.within;
        all_ends = subst (λ l. ends_in (take c.ends_of-ends.result l) ≡ ends_in l) orders c.ends_of-ends.ensures.ends;
        in_links = subst (λ l. c.before_links-from_links.result ≤ length l) ordered c.before_links-from_links.ensures.within;
        all_links = subst (λ l. links_in (drop c.before_links-from_links.result l) ≡ links_in l) ordered c.before_links-from_links.ensures.links;
        each_int = c.in_ok-ints.ensures.ints ∙ (ap (λ t. put_all [] (named_ints (facts_of t))) (sym c.over.view_is) ∙ ints_in_orders facts (λ f i. (all_may table f i).tells));
        each_array = c.in_ok-ints.ensures.arrays ∙ (ap (λ t. put_all [] (named_arrays (facts_of t))) (sym c.over.view_is) ∙ arrays_in_orders facts (λ f i. (all_may table f i).tells));
        full = subst (λ t. some_empty (facts_of t) ≡ false) (sym c.over.view_is) c.requires.full;
        closed = closed_by_test facts (subst (λ t. Closed (facts_of t)) (sym c.over.view_is) c.requires.closed);
        few = search rules;
      };
    }
