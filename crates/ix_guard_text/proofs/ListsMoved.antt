-- Repetitions of the grammar over moved tokens.
use Rattle.std.proofs.Common.{◌≡◌, List, [], ◌∷◌, ◌++◌, subst}
use Rattle.ix_lexer.specs.declared.token.Token.{Token}
use Rattle.ix_lexer.specs.declared.fixed.TheConstants.{COMMA}
use Rattle.ix_grammar.specs.Patterns.{sign}
use Rattle.ix_grammar.specs.Lists.{IsSeparated, IsRepeated, first_item, next_item, no_item, one_more}
use Rattle.ix_guard_text.proofs.ClassesAgain.{map_both}
use Rattle.ix_guard_text.specs.Moved.{Move, moved_span, moved_token, moved_tokens}

pub both : (move : Move) (ts us : List Token) → moved_tokens move (ts ++ us) ≡ moved_tokens move ts ++ moved_tokens move us
both move ts us = map_both (moved_token move) ts us

-- What is in one relation with some tokens is, once it is moved, in the other with the moved tokens.
abbrev pub Moves : Move → {A : Type 0} → (List Token → A → Type 0) → (List Token → A → Type 0) → (A → A) → Type 0
Moves move {A = A} Was Is of = (ts : List Token) (x : A) → Was ts x → Is (moved_tokens move ts) (of x)

-- the same tokens in the same relation with what is equal
pub same_found : {A : Type 0} (Is : List Token → A → Type 0) {ts : List Token} {x y : A} → x ≡ y → Is ts x → Is ts y
same_found Is {ts} e d = subst (λ z. Is ts z) e d

module _ (move : Move) {A S : Type 0} (Was Is : List Token → A → Type 0) (of : A → A) (moves : Moves move Was Is of) (all : S → S) (add : S → A → S)
    (adds : (s : S) (x : A) → add (all s) (of x) ≡ all (add s x)) where
  pub repeated : (none : S) → none ≡ all none → Moves move (IsRepeated Was none add) (IsRepeated Is none add) all
  repeated none empty _ _ no_item = subst (λ s. IsRepeated Is none add [] s) empty no_item
  repeated none empty _ _ (one_more {before} {tokens} {items} {item} d x) =
      rw (both move before tokens)
      (subst (λ s. IsRepeated Is none add (moved_tokens move before ++ moved_tokens move tokens) s) (adds items item) (one_more (repeated none empty before items d) (moves tokens item x)))

  pub separated : (start : A → S) → ((x : A) → start (of x) ≡ all (start x)) → Moves move (IsSeparated Was start add) (IsSeparated Is start add) all
  separated start starts _ _ (first_item {tokens} {item} x) = subst (λ s. IsSeparated Is start add (moved_tokens move tokens) s) (starts item) (first_item (moves tokens item x))
  separated start starts _ _ (next_item {before} {tokens} {items} {item} comma d x) =
      rw (both move before (sign COMMA comma ∷ tokens))
      (subst (λ s. IsSeparated Is start add (moved_tokens move before ++ sign COMMA (moved_span move comma) ∷ moved_tokens move tokens) s) (adds items item)
      (next_item (moved_span move comma) (separated start starts before items d) (moves tokens item x)))
