-- Parts of several pieces of a text, one behind the other.
use Rattle.std.proofs.Common.{◌≡◌, ◌≤◌, ℕ, List, [], ◌∷◌, ◌++◌, length, sym, subst, length-append, arith}
use Rattle.ix_lexer.specs.declared.token.Token.{Token}
use Rattle.ix_lexer.specs.Spans.{InOrder}
use Rattle.ix_tree.specs.Parts.{Part, listed, each}
use Rattle.ix_grammar.specs.Patterns.{sign}
use Rattle.ix_lexer.specs.declared.fixed.TheConstants.{COMMA}
use Rattle.ix_grammar.specs.Lists.{IsSeparated, IsRepeated, first_item, next_item, no_item, one_more}
use Rattle.ix_lexer.proofs.SplitInOrder.{order_within, order_both}
use Rattle.ix_tree.proofs.PartPlaces.{Stand, stand_joined, stand_no_entries, stand_alone}

-- ---- repetitions of the grammar

-- Each item, whose parts these are, stands where its tokens are, and has at least one token.
abbrev pub ItemsStand : {A : Type 0} → (List Token → A → Type 0) → (A → List Part) → Type 0
ItemsStand {A = A} Item parts = (lo hi : ℕ) (ts : List Token) (x : A) → Item ts x → InOrder lo hi ts → (1 ≤ length ts) × Stand lo hi (length ts) (parts x)

module _ {A : Type 0} (Item : List Token → A → Type 0) (parts : A → List Part) (items_stand : ItemsStand Item parts) {S : Type 0} (list : S → List A) (add : S → A → S)
    (adds : (s : S) (x : A) → list (add s x) ≡ list s ++ x ∷ []) where
  pub repeated_stand : (none : S) → list none ≡ [] → (lo hi : ℕ) (ts : List Token) (s : S) → IsRepeated Item none add ts s → InOrder lo hi ts → Stand lo hi (length ts) (listed (each parts (list s)))
  repeated_stand none empty lo hi _ _ no_item o = subst (λ y. Stand lo hi 0 (listed (each parts y))) (sym empty) (stand_no_entries parts lo hi 0)
  repeated_stand none empty lo hi _ _ (one_more {before} {tokens} {items} {item} d i) o =
      let (mid, a, b, p, q) = order_both lo hi before tokens o in
      let (one, t) = items_stand mid hi tokens item i q in
      let s = repeated_stand none empty lo mid before items d p in
      subst (λ y. Stand lo hi (length (before ++ tokens)) (listed (each parts y))) (sym (adds items item))
      (stand_joined parts lo mid mid hi (length before) (length tokens) (length (before ++ tokens)) (list items) item s t a (omega arith) b one (omega (arith, length-append before tokens)))

  pub separated_stand : (start : A → S) → ((x : A) → list (start x) ≡ x ∷ []) → (lo hi : ℕ) (ts : List Token) (s : S) → IsSeparated Item start add ts s → InOrder lo hi ts
      → Stand lo hi (length ts) (listed (each parts (list s)))
  separated_stand start starts lo hi _ _ (first_item {tokens} {item} i) o =
      let (one, t) = items_stand lo hi tokens item i o in
      subst (λ y. Stand lo hi (length tokens) (listed (each parts y))) (sym (starts item)) (stand_alone parts lo hi (length tokens) item t one)
  separated_stand start starts lo hi _ _ (next_item {before} {tokens} {items} {item} comma d i) o =
      let (mid, a, b, p, q) = order_both lo hi before (sign COMMA comma ∷ tokens) o in
      let (one, t) = items_stand comma.to hi tokens item i q.2 in
      let s = separated_stand start starts lo mid before items d p in
      subst (λ y. Stand lo hi (length (before ++ sign COMMA comma ∷ tokens)) (listed (each parts y))) (sym (adds items item))
      (stand_joined parts lo mid comma.to hi (length before) (length tokens) (length (before ++ sign COMMA comma ∷ tokens)) (list items) item s t
      a (omega (arith, q.0, q.1)) (order_within comma.to hi tokens q.2) one (omega (arith, length-append before (sign COMMA comma ∷ tokens))))
