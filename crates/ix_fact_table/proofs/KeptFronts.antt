-- The facts at the front that stand as a table keeps them, and the next one.
use Rattle.std.specs.Prelude.{◌≡◌, ◌+◌, ℕ, zero, suc, true, List, [], ◌∷◌, ◌++◌, take, drop, refl}
use Rattle.std.proofs.Common.{add-one, sym, ap, subst, ◌∙◌, append_assoc}
use Rattle.std.specs.Ordering.{is_lt}
use Rattle.ix_core.specs.declared.fact.Fact.{Fact}
use Rattle.ix_facts.specs.declared.kind.Kind.{Kind}
use Rattle.ix_fact_table.specs.FactOrder.{fact_cmp}
use Rattle.ix_fact_table.specs.Rising.{is_table_of}
use Rattle.ix_fact_table.proofs.RisingSteps.{Kept, one_kept, next_kept}

next_take : (facts : List Fact) (k : ℕ) (f : Fact) (rest : List Fact) → drop k facts ≡ f ∷ rest → take (suc k) facts ≡ take k facts ++ f ∷ []
next_take facts zero f rest e = subst (λ l. take 1 l ≡ f ∷ []) (sym e) refl
next_take [] (suc k) f rest e = absurd cc
next_take (g ∷ facts) (suc k) f rest e = ap (λ l. g ∷ l) (next_take facts k f rest e)

next_drop : (facts : List Fact) (k : ℕ) (f : Fact) (rest : List Fact) → drop k facts ≡ f ∷ rest → drop (suc k) facts ≡ rest
next_drop facts zero f rest e = subst (λ l. drop 1 l ≡ rest) (sym e) refl
next_drop [] (suc k) f rest e = absurd cc
next_drop (g ∷ facts) (suc k) f rest e = next_drop facts k f rest e

-- what stands in order behind the fact stands in order behind those before it
abbrev pub Fronts : Kind → List Fact → ℕ → Fact → Type 0
Fronts own facts k last = (rest : List Fact) → is_table_of own (last ∷ rest) ≡ true → is_table_of own (take k facts ++ last ∷ rest) ≡ true

module _ (own : Kind) (facts : List Fact) (k : ℕ) (last : Fact) (behind : List Fact) (here : drop k facts ≡ last ∷ behind) (kept : Kept own last) (fronts : Fronts own facts k last) where
  pub kept_until : is_table_of own (take (k + 1) facts) ≡ true
  kept_until = rw (add-one, next_take facts k last behind here) (fronts [] (one_kept own last kept))

  pub next_here : (fact : Fact) (rest : List Fact) → behind ≡ fact ∷ rest → drop (k + 1) facts ≡ fact ∷ rest
  next_here fact rest e = rw add-one (next_drop facts k last behind here ∙ e)

  pub next_fronts : (fact : Fact) → is_lt (fact_cmp last fact) ≡ true → Fronts own facts (k + 1) fact
  next_fronts fact less rest form =
      rw (add-one, next_take facts k last behind here) (rw append_assoc (fronts (fact ∷ rest) (next_kept own last fact rest kept less form)))
