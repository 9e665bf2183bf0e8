-- Where a table says some facts already, it is the table of itself and these facts.
use Rattle.std.specs.Prelude.{◌≡◌, ◌↔◌, true, List, ◌++◌}
use Rattle.std.proofs.Common.{⊎_elim}
use Rattle.ix_core.specs.declared.fact.Fact.{Fact}
use Rattle.ix_facts.specs.declared.kind.Kind.{Kind}
use Rattle.ix_facts.specs.Closure.{Said, SaysAll}
use Rattle.ix_facts.specs.Systems.{Merges, IsTable, given, weaker}
use Rattle.ix_facts.proofs.FactLists.{in_left, in_either}
use Rattle.ix_facts.proofs.SaidLaws.{said_itself}
use Rattle.ix_facts.proofs.SaidTables.{table_says}
use Rattle.ix_facts.proofs.SystemLaws.{default_merges, in_orders_merges}
use Rattle.ix_fact_table.specs.Rising.{is_table_of}
use Rattle.ix_fact_table.specs.TableLaws.{table_is}
use Rattle.ix_fact_table.specs.Walks.{AllCovered}
use Rattle.ix_fact_table.proofs.MergedTables.{self_table}
use Rattle.ix_fact_table.proofs.TableForms.{covered_says}

merged_said : (facts : List Fact) (f : Fact) → Said facts f → Merges facts f
merged_said facts f said = ⊎_elim (λ d. default_merges facts f d) (λ x. weaker x.0 f x.2 (in_orders_merges facts facts (λ g i. given g i) x.0 x.1)) said

module _ (own : Kind) (table : List Fact) (form : is_table_of own table ≡ true) where
  -- it says all of some facts where it says all of their table
  said_of_table : (new more : List Fact) → IsTable new more → SaysAll table more ↔ SaysAll table new
  said_of_table new more is = (
    λ says f said. says f (is.says f (merged_said new f said)),
    λ says. table_says table new table more says (self_table own table form) is,
  )

  pub already_table : (new : List Fact) → SaysAll table new → IsTable (table ++ new) table
  already_table new says =
      table_is own table form (table ++ new) (λ f i. ⊎_elim (λ j. said_itself table f j) (λ j. says f (said_itself new f j)) (in_either f table new i)) (λ f i. given f (in_left f table new i))

  -- it says all of some facts where it covers each fact of their table
  pub covers_new : (new more : List Fact) → is_table_of own more ≡ true → IsTable new more → AllCovered table more ↔ SaysAll table new
  covers_new new more other is =
      let covered = covered_says own own table more form other in
      let says = said_of_table new more is in
      (λ all. says.0 (covered.0 all), λ all. covered.1 (says.1 all))
