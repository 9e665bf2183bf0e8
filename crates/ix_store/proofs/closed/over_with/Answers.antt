use Rattle.std.proofs.Common.{◌∙◌, sym, subst}
use Rattle.ix_facts.specs.Named.{IsAmongPaths}
use Rattle.ix_fact_table.specs.FactTables.{facts_of, table_kind}
use Rattle.ix_store.proofs.OverInts.{grown_among, grown_plain}
use Rattle.ix_store.proofs.closed.over_with.Goals as goal

pub invariant_of-over : goal.invariant_of-over
invariant_of-over c =
    let known = c.args.known.now in
    let added = c.args.added.now in
    let table = c.args.table in
    let own = table_kind known.table in
    record {
      kind = c.requires.kind ∙ known.holds.kind;
      rising = c.in_ok-ints.ensures.rising;
      among = λ t p i. subst (IsAmongPaths p) (sym (c.in_ok-ints.ensures.told t)) (grown_among known added (facts_of table) own known.holds.kind c.requires.table p i);
      one_order = λ t. grown_plain known added (facts_of table) own known.holds.kind c.requires.table (c.is_plain_with.ensures.known t) (c.is_plain_with.ensures.new t);
    }
