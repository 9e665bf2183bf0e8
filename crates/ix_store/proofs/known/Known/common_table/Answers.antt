use Rattle.std.proofs.Common.{◌∙◌, sym, subst}
use Rattle.ix_facts.specs.Named.{IsAmongPaths}
use Rattle.ix_fact_table.specs.FactTables.{facts_of}
use Rattle.ix_store.specs.StoredFacts.{facts_in}
use Rattle.ix_store.proofs.OverInts.{common_among, common_plain}
use Rattle.ix_store.proofs.known.Known.common_table.Goals as goal

pub invariant_of-over : goal.invariant_of-over
invariant_of-over c =
    let known = c.args.self.now in
    let other = facts_in c.args.other.now in
    let common = facts_of c.in_ok-table.table in
    record {
      kind = c.in_ok-table.ensures.kind ∙ known.holds.kind;
      rising = c.in_ok-ints.ensures.rising;
      among = λ t p i. subst (IsAmongPaths p) (sym (c.in_ok-ints.ensures.told t)) (common_among known other common c.in_ok-table.ensures.common p i);
      one_order = λ t. common_plain known other common c.in_ok-table.ensures.common (c.is_plain.ensures.plain t);
    }
