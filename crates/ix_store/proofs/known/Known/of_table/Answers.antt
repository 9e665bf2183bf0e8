use Rattle.std.proofs.Common.{ap, sym, subst, ◌∙◌}
use Rattle.ix_facts.specs.Stores.{IsStoreOf, Reached}
use Rattle.ix_fact_table.specs.FactTables.{facts_of}
use Rattle.ix_store.specs.EmptyRanges.{some_empty}
use Rattle.ix_store.proofs.StoresOf.{closed_unreachable, closed_reached}
use Rattle.ix_store.proofs.known.Known.of_table.Goals as goal

pub returns-then-has_empty : goal.returns-then-has_empty
returns-then-has_empty c = record { store = λ facts closed. closed_unreachable facts (facts_of c.args.over) closed (ap (λ t. some_empty (facts_of t)) (sym c.over.view_is) ∙ (sym c.has_empty.ensures ∙ c.if-has_empty.true)) }

pub returns : goal.returns
returns c = record {
  store = λ facts closed. subst (λ t. IsStoreOf facts (Reached (facts_of t))) (sym c.in_ok-known.ensures.table) (closed_reached facts (facts_of c.args.over) closed (ap (λ t. some_empty (facts_of t)) (sym c.over.view_is) ∙ (sym c.has_empty.ensures ∙ c.if-has_empty.false)));
}
