use Rattle.std.proofs.Common.{◌≡◌, ◌∙◌, ap, sym, subst}
use Rattle.ix_facts.specs.Exact.{named_ints}
use Rattle.ix_facts.specs.Facts.{in_orders}
use Rattle.ix_facts.specs.Forget.{without}
use Rattle.ix_facts.specs.Named.{IsAmongPaths}
use Rattle.ix_fact_paths.specs.ChangedPaths.{is_changed}
use Rattle.ix_fact_table.specs.FactTables.{facts_of}
use Rattle.ix_store.specs.StoredFacts.{facts_in}
use Rattle.ix_store.proofs.OverInts.{left_among, without_plain}
use Rattle.ix_store.proofs.known.Known.table_beside.Goals as goal

pub invariant_of-over : goal.invariant_of-over
invariant_of-over c =
    let known = c.args.self.now in
    let is = is_changed c.args.changed.now in
    let facts : facts_of c.of_part-table.result ≡ without is (facts_in known) = c.of_part-table.ensures.facts ∙ (c.in_ok-fewer.ensures ∙ ap (without is) c.as_slice.ensures.facts) in
    record {
      kind = c.of_part-table.ensures.kind ∙ known.holds.kind;
      rising = c.in_ok-ints.ensures.rising;
      among = λ t p i. subst (IsAmongPaths p) (sym (c.in_ok-ints.ensures.told t)) (left_among is known p (subst (λ l. IsAmongPaths p (named_ints l)) facts i));
      one_order = λ t. subst (λ l. in_orders l ≡ l) (sym facts) (without_plain is known (c.is_plain.ensures.plain t));
    }
