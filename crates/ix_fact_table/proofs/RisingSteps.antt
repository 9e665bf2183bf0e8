-- A fact before those of a table, by key and in its form, makes a table with them.
use Rattle.std.specs.Prelude.{◌≡◌, true, ◌&&◌, List, [], ◌∷◌}
use Rattle.std.proofs.Common.{sym, subst, ⊎_elim}
use Rattle.std.proofs.lemmas.Bool.{and_parts}
use Rattle.std.specs.Ordering.{is_lt}
use Rattle.ix_core.specs.declared.fact.Fact.{Fact}
use Rattle.ix_facts.specs.declared.kind.Kind.{Kind}
use Rattle.ix_facts.specs.Kinds.{is_of, of_kind}
use Rattle.ix_facts.specs.Systems.{IsTable}
use Rattle.ix_fact_table.specs.FactOrder.{fact_cmp}
use Rattle.ix_fact_table.specs.Entries.{is_entry}
use Rattle.ix_fact_table.specs.Rising.{is_table_of}
use Rattle.ix_fact_table.specs.RisingLaws.{is_less, below_on, rises_parts, rises_from, table_rises, table_each, table_from}
use Rattle.ix_fact_table.specs.TableLaws.{one_entry}
use Rattle.ix_fact_table.proofs.MergedTables.{kind_all, self_table}

abbrev pub Kept : Kind → Fact → Type 0
Kept own f = (is_of own f && is_entry f) ≡ true

pub one_kept : (own : Kind) (f : Fact) → Kept own f → is_table_of own (f ∷ []) ≡ true
one_kept own f k = let b = and_parts (is_of own f) (is_entry f) k in one_entry own f b.0 b.1

pub next_kept : (own : Kind) (last fact : Fact) (rest : List Fact) → Kept own last → is_lt (fact_cmp last fact) ≡ true → is_table_of own (fact ∷ rest) ≡ true → is_table_of own (last ∷ fact ∷ rest) ≡ true
next_kept own last fact rest k less form =
    let rise = table_rises own (fact ∷ rest) form in
    let parts = rises_parts fact rest rise in
    table_from own (last ∷ fact ∷ rest) (rises_from last (fact ∷ rest) (below_on last fact rest (is_less (fact_cmp last fact) less) parts.0) rise)
    (λ f i. ⊎_elim (λ e. subst (λ g. (is_of own g ≡ true) × (is_entry g ≡ true)) (sym e) (and_parts (is_of own last) (is_entry last) k)) (λ j. table_each own (fact ∷ rest) form f j) i)

pub kept_table : (own : Kind) (facts : List Fact) → is_table_of own facts ≡ true → IsTable (of_kind own facts) facts
kept_table own facts form =
    subst (λ l. IsTable l facts) (sym (kind_all own facts (λ f i. (table_each own facts form f i).0))) (self_table own facts form)
