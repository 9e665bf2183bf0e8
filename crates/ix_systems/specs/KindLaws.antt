-- The laws of the table of the facts of one kind, as a lattice and as a system.
use Rattle.std.specs.Prelude.{◌≡◌, ◌↔◌, true}
use Rattle.std.proofs.Common.{◌∙◌, subst}
use Rattle.ix_lattice.specs.Lattice.{LatticeLaws, IsJoin}
use Rattle.ix_core.specs.declared.fact.Fact.{Fact}
use Rattle.ix_facts.specs.Facts.{IsIn}
use Rattle.ix_facts.specs.Closure.{SaysAll, IsCommon}
use Rattle.ix_facts.specs.Kinds.{is_of}
use Rattle.ix_facts.specs.Systems.{MayStand}
use Rattle.ix_fact_table.specs.TableLaws.{table_laws, all_may, above_left, above_right, common_above, all_own as own_facts, common_part as common_facts}
use Rattle.ix_systems.specs.declared.facts_of.FactsOf.{FactsOf}
use Rattle.ix_systems.specs.KindTables.{known_facts, FactsBelow, facts_rank}

pub facts_laws : {K : Type 0} {g : _} → LatticeLaws (FactsBelow {K = K} {g = g}) (facts_rank {K = K} {g = g})
facts_laws = record {
  reflexive = λ a. table_laws.reflexive a.table;
  transitive = λ a b c. table_laws.transitive a.table b.table c.table;
  falls = λ a b. table_laws.falls a.table b.table;
  level = λ a b. table_laws.level a.table b.table;
}

pub all_own : {K : Type 0} {g : _} (facts : FactsOf K g) (f : Fact) → IsIn f (known_facts facts) → is_of g.KIND f ≡ true
all_own facts f i = subst (λ k. is_of k f ≡ true) facts.own (own_facts facts.table f i)

pub all_may_stand : {K : Type 0} {g : _} (facts : FactsOf K g) (f : Fact) → IsIn f (known_facts facts) → MayStand f
all_may_stand facts f i = all_may facts.table f i

pub order_itself : {K : Type 0} {g : _} (low high : FactsOf K g) → FactsBelow low high ↔ SaysAll (known_facts low) (known_facts high)
order_itself low high = (λ below. below, λ says. says)

pub common_part : {K : Type 0} {g : _} (first second join : FactsOf K g) → IsJoin FactsBelow first second join → IsCommon (known_facts first) (known_facts second) (known_facts join)
common_part first second join is =
    common_facts first.table second.table join.table
    (λ table same up more. is.least (record { table = table; of = first.of; own = same ∙ first.own }) up more)
    is.left is.right

pub is_join : {K : Type 0} {g : _} (first second join : FactsOf K g) → IsCommon (known_facts first) (known_facts second) (known_facts join) → IsJoin FactsBelow first second join
is_join first second join is = record {
  left = above_left (known_facts first) (known_facts second) (known_facts join) is;
  right = above_right (known_facts first) (known_facts second) (known_facts join) is;
  least = λ other up more. common_above (known_facts first) (known_facts second) (known_facts join) (known_facts other) is up more;
}
