-- A fact put among facts that rise by key, at the place that a binary search tells: both lists in one.
use Rattle.std.specs.Prelude.{◌≡◌, ◌⊎◌, ℕ, zero, suc, ◌+◌, ◌<◌, ◌≤◌, true, false, List, [], ◌∷◌, ◌++◌, Err, length, take, drop, get_or, set, refl}
use Rattle.std.specs.List.{insert}
use Rattle.std.specs.List.Sorted.{IsBinarySearchResult}
use Rattle.std.specs.Ordering.{is_eq}
use Rattle.std.specs.declared.cmp.Ordering.TheVariants.{Less as Before, Equal, Greater}
use Rattle.std.proofs.Common.{arith, add-one, inl, inr, ap, sym, ◌∙◌, subst, ⊎_elim, append_assoc}
use Rattle.std.proofs.Math.Seq.{drop-cons}
use Rattle.std.proofs.lemmas.List.{append-nil, take-append-drop, take-set, drop-set}
use Rattle.ix_core.specs.declared.fact.Fact.{Fact}
use Rattle.ix_facts.specs.declared.kind.Kind.{Kind}
use Rattle.ix_facts.specs.Facts.{IsIn, is_default}
use Rattle.ix_facts.specs.Kinds.{is_of, of_kind}
use Rattle.ix_facts.specs.Systems.{HasClass, IsTable}
use Rattle.ix_fact_table.specs.FactOrder.{fact_cmp, at_key, alike_back}
use Rattle.ix_fact_table.specs.Meets.{met}
use Rattle.ix_fact_table.specs.Rising.{rises, is_table_of}
use Rattle.ix_fact_table.specs.Entries.{HasInt, entry_of}
use Rattle.ix_fact_table.specs.RisingLaws.{table_rises}
use Rattle.ix_fact_table.specs.Walks.{ArePast, HasBoth, Merging}
use Rattle.ix_fact_table.proofs.MergedTables.{halves_form, halves_table, one_form, one_table, no_table}
use Rattle.ix_fact_table.proofs.KeySearches.{comparisons_rise, earlier}
use Rattle.ix_fact_table.proofs.WalksAlongBoth.{has_first_alone, merging_starts, merging_left, merging_right, merging_both, merging_ends}

-- what holds at each place of a part holds of each fact of it
take_each : (P : Fact → Type 0) (facts : List Fact) (n : ℕ) → ((k : ℕ) (d : Fact) → k < n → k < length facts → P (get_or facts k d)) → (f : Fact) → IsIn f (take n facts) → P f
take_each P facts zero all f i = absurd i
take_each P [] (suc n) all f i = absurd i
take_each P (g ∷ facts) (suc n) all f i = ⊎_elim (λ e. subst P (sym e) (all 0 g (omega arith) (omega arith))) (λ j. take_each P facts n (λ k d a b. all (suc k) d (omega arith) (omega arith)) f j) i

drop_each : (P : Fact → Type 0) (facts : List Fact) (n : ℕ) → ((k : ℕ) (d : Fact) → n ≤ k → k < length facts → P (get_or facts k d)) → (f : Fact) → IsIn f (drop n facts) → P f
drop_each P [] zero all f i = absurd i
drop_each P (g ∷ facts) zero all f i = ⊎_elim (λ e. subst P (sym e) (all 0 g (omega arith) (omega arith))) (λ j. drop_each P facts zero (λ k d a b. all (suc k) d (omega arith) (omega arith)) f j) i
drop_each P [] (suc n) all f i = absurd i
drop_each P (g ∷ facts) (suc n) all f i = drop_each P facts n (λ k d a b. all (suc k) d (omega arith) (omega arith)) f i

all_each : (P : Fact → Type 0) (facts : List Fact) → ((k : ℕ) (d : Fact) → k < length facts → P (get_or facts k d)) → (f : Fact) → IsIn f facts → P f
all_each P [] all f i = absurd i
all_each P (g ∷ facts) all f i = ⊎_elim (λ e. subst P (sym e) (all 0 g (omega arith))) (λ j. all_each P facts (λ k d a. all (suc k) d (omega arith)) f j) i

module _ (facts : List Fact) (e : Fact) (rise : rises facts ≡ true) where
  abbrev Whole : List Fact → Type 0
  Whole all = HasBoth facts (e ∷ []) all × (rises all ≡ true)

  -- what is before the fact is passed
  passed : (front back all : List Fact) → ((f : Fact) → IsIn f front → fact_cmp f e ≡ Before) → Merging facts (e ∷ []) (front ++ back) (e ∷ []) all → Merging facts (e ∷ []) back (e ∷ []) (all ++ front)
  passed [] back all less now = rw append-nil now
  passed (f ∷ front) back all less now =
      let next = passed front back (all ++ f ∷ []) (λ g i. less g (inr i)) (merging_left facts (e ∷ []) ((f ∷ front) ++ back) (e ∷ []) f (front ++ back) e [] refl refl all (less f (inl refl)) now) in
      rw append_assoc at next

  reached : (front back : List Fact) → front ++ back ≡ facts → ((f : Fact) → IsIn f front → fact_cmp f e ≡ Before) → Merging facts (e ∷ []) back (e ∷ []) front
  reached front back whole less = passed front back [] less (subst (λ l. Merging facts (e ∷ []) l (e ∷ []) []) (sym whole) (merging_starts facts (e ∷ []) rise refl))

  put_met : (front : List Fact) (g : Fact) (back : List Fact) → front ++ g ∷ back ≡ facts → ((f : Fact) → IsIn f front → fact_cmp f e ≡ Before) → fact_cmp g e ≡ Equal → Whole (front ++ met g e ∷ back)
  put_met front g back whole less same =
      let past = merging_both facts (e ∷ []) (g ∷ back) (e ∷ []) g back e [] refl refl front same (reached front (g ∷ back) whole less) in
      let is : ((front ++ met g e ∷ []) ++ back) ++ [] ≡ front ++ met g e ∷ back = simp (append-nil, append_assoc) in
      subst Whole is (merging_ends facts (e ∷ []) back [] (front ++ met g e ∷ []) (inr refl) past)

  put_new : (front back : List Fact) → front ++ back ≡ facts → ((f : Fact) → IsIn f front → fact_cmp f e ≡ Before) → ((f : Fact) → IsIn f back → fact_cmp f e ≡ Greater) → Whole (front ++ e ∷ back)
  put_new front [] whole less more =
      let is : (front ++ []) ++ e ∷ [] ≡ front ++ e ∷ [] = simp append-nil in
      subst Whole is (merging_ends facts (e ∷ []) [] (e ∷ []) front (inl refl) (reached front [] whole less))
  put_new front (g ∷ back) whole less more =
      let past = merging_right facts (e ∷ []) (g ∷ back) (e ∷ []) g back e [] refl refl front (more g (inl refl)) (reached front (g ∷ back) whole less) in
      let is : ((front ++ e ∷ []) ++ g ∷ back) ++ [] ≡ front ++ e ∷ g ∷ back = simp (append-nil, append_assoc) in
      subst Whole is (merging_ends facts (e ∷ []) (g ∷ back) [] (front ++ e ∷ []) (inr refl) past)

  pub put_at_gap : (found : List Fact) (at : ℕ) → found ≡ facts → IsBinarySearchResult (λ f. fact_cmp f e) found (Err at) → Whole (insert facts at e)
  put_at_gap found at same parted =
      let point = subst (λ l. IsBinarySearchResult (λ f. fact_cmp f e) l (Err at)) same parted (comparisons_rise facts e rise) in
      put_new (take at facts) (drop at facts) (take-append-drop at facts)
      (take_each (λ f. fact_cmp f e ≡ Before) facts at (λ k d a b. point.0 k d (omega arith) a))
      (drop_each (λ f. fact_cmp f e ≡ Greater) facts at (λ k d a b. point.1 k d a b))

  pub put_at_key : (at : ℕ) (g : Fact) → at < length facts → g ≡ get_or facts at g → ((d : Fact) → fact_cmp (get_or facts at d) e ≡ Equal) → Whole (set facts at (met g e))
  put_at_key at g within is same =
      let whole : take at facts ++ g ∷ drop (at + 1) facts ≡ facts = ap (λ l. take at facts ++ l) (ap (λ x. x ∷ drop (at + 1) facts) is ∙ sym (rw add-one (drop-cons facts at g within))) ∙ take-append-drop at facts in
      let here : set facts at (met g e) ≡ take at facts ++ met g e ∷ drop (at + 1) facts = sym (take-append-drop at (set facts at (met g e))) ∙ rw (take-set facts at (met g e), drop-set facts at (met g e) within) refl in
      let less = take_each (λ f. fact_cmp f e ≡ Before) facts at
      (λ k d a b. sym (alike_back (get_or facts at d) e (get_or facts k d) (at_key (get_or facts at d) e (ap is_eq (same d)))) ∙ earlier facts rise k at d a within) in
      subst Whole (sym here) (put_met (take at facts) g (drop (at + 1) facts) whole less (ap (λ f. fact_cmp f e) is ∙ same g))

  pub put_behind : ArePast facts (length facts) e → Whole (facts ++ e ∷ [])
  put_behind past = put_new facts [] (append-nil facts) (all_each (λ f. fact_cmp f e ≡ Before) facts (λ k d a. past k d a)) (λ f i. absurd i)

-- a fact that is put into a table of its kind makes the table of one fact more
module _ (own : Kind) (f : Fact) (table : List Fact) (form : is_table_of own table ≡ true) where
  pub none_put : (is_of own f ≡ false) ⊎ (is_default f ≡ true) → (facts : List Fact) → IsTable (of_kind own facts) table → IsTable (of_kind own (facts ++ f ∷ [])) table
  none_put none facts is = halves_table own (facts ++ f ∷ []) facts (f ∷ []) table [] refl form refl is (no_table own f none) table (has_first_alone table) (table_rises own table form)

  module _ (kind : is_of own f ≡ true) (tells : is_default f ≡ false) (class : HasClass f) (int : HasInt f) (all : List Fact) (has : HasBoth table (entry_of f ∷ []) all) (rise : rises all ≡ true) where
    pub put_form : is_table_of own all ≡ true
    put_form = halves_form own table (entry_of f ∷ []) form (one_form own f kind tells class int) all has rise

    pub put_table : (facts : List Fact) → IsTable (of_kind own facts) table → IsTable (of_kind own (facts ++ f ∷ [])) all
    put_table facts is = halves_table own (facts ++ f ∷ []) facts (f ∷ []) table (entry_of f ∷ []) refl form (one_form own f kind tells class int) is (one_table own f kind tells class int) all has rise
