-- Repetitions of the grammar, whose items stand one behind the other.
use Rattle.std.proofs.Common.{◌≡◌, ◌≤◌, ℕ, List, [], ◌∷◌, ◌++◌, map, refl, sym, ap, subst, arith}
use Rattle.ix_lexer.specs.declared.token.Token.{Token}
use Rattle.ix_lexer.specs.declared.fixed.TheConstants.{COMMA}
use Rattle.ix_lexer.specs.Spans.{InOrder}
use Rattle.ix_tree.specs.Placed.{Layout, LaidOut}
use Rattle.ix_tree.proofs.Layouts.{Laid, laid_rows, laid_one}
use Rattle.ix_grammar.specs.Patterns.{sign}
use Rattle.ix_grammar.specs.Lists.{IsSeparated, IsRepeated, first_item, next_item, no_item, one_more}
use Rattle.ix_lexer.proofs.SplitInOrder.{order_both}

map_joined : {A B : Type 0} (of : A → B) (xs : List A) (x : A) → map of (xs ++ x ∷ []) ≡ map of xs ++ of x ∷ []
map_joined of [] x = refl
map_joined of (y ∷ xs) x = ap (λ l. of y ∷ l) (map_joined of xs x)

-- a list with one more entry
pub laid_joined : {A : Type 0} (of : A → Layout) (start lo mid next hi : ℕ) (xs : List A) (x : A) → Laid start lo mid (map of xs) → LaidOut start next hi (of x) → mid ≤ next → Laid start lo hi (map of (xs ++ x ∷ []))
laid_joined of start lo mid next hi xs x a b le =
    subst (λ l. Laid start lo hi l) (sym (map_joined of xs x)) (laid_rows start lo mid next hi (map of xs) (of x ∷ []) a (laid_one start next hi (of x) b) le)

-- Each item stands where its tokens are.
abbrev pub ItemsLaid : {A : Type 0} → (List Token → A → Type 0) → (A → Layout) → Type 0
ItemsLaid {A = A} Item of = (start lo hi : ℕ) (ts : List Token) (x : A) → Item ts x → InOrder lo hi ts → LaidOut start lo hi (of x)

module _ {A B : Type 0} (Item : List Token → A → Type 0) (tree : A → B) (of : B → Layout) (items_laid : ItemsLaid Item (λ x. of (tree x))) {S : Type 0} (list : S → List B) (add : S → A → S)
    (adds : (s : S) (x : A) → list (add s x) ≡ list s ++ tree x ∷ []) where
  pub repeated_laid : (none : S) → list none ≡ [] → (start lo hi : ℕ) (ts : List Token) (s : S) → IsRepeated Item none add ts s → InOrder lo hi ts → Laid start lo hi (map of (list s))
  repeated_laid none empty start lo hi _ _ no_item o = subst (λ l. Laid start lo hi (map of l)) (sym empty) o
  repeated_laid none empty start lo hi _ _ (one_more {before} {tokens} {items} {item} d i) o =
      let (mid, a, b, p, q) = order_both lo hi before tokens o in
      subst (λ l. Laid start lo hi (map of l)) (sym (adds items item))
      (laid_joined of start lo mid mid hi (list items) (tree item) (repeated_laid none empty start lo mid before items d p) (items_laid start mid hi tokens item i q) (omega arith))

  pub separated_laid : (first : A → S) → ((x : A) → list (first x) ≡ tree x ∷ []) → (start lo hi : ℕ) (ts : List Token) (s : S) → IsSeparated Item first add ts s → InOrder lo hi ts → Laid start lo hi (map of (list s))
  separated_laid first starts start lo hi _ _ (first_item {tokens} {item} i) o =
      subst (λ l. Laid start lo hi (map of l)) (sym (starts item)) (laid_one start lo hi (of (tree item)) (items_laid start lo hi tokens item i o))
  separated_laid first starts start lo hi _ _ (next_item {before} {tokens} {items} {item} comma d i) o =
      let (mid, a, b, p, q) = order_both lo hi before (sign COMMA comma ∷ tokens) o in
      subst (λ l. Laid start lo hi (map of l)) (sym (adds items item))
      (laid_joined of start lo mid comma.to hi (list items) (tree item) (separated_laid first starts start lo mid before items d p) (items_laid start comma.to hi tokens item i q.2) (omega (arith, q.0, q.1)))
