-- Repetitions of the grammar over tokens at other places.
use Rattle.std.proofs.Common.{◌≡◌, List, [], ◌∷◌, ◌++◌, map, refl, sym, ap, ◌∙◌}
use Rattle.ix_lexer.specs.declared.token.Token.{Token}
use Rattle.ix_lexer.specs.declared.fixed.TheConstants.{COMMA}
use Rattle.ix_grammar.specs.Patterns.{sign}
use Rattle.ix_grammar.specs.Lists.{IsSeparated, IsRepeated, first_item, next_item, no_item, one_more}
use Rattle.ix_guard_text.specs.Respanned.{Places, next, behind, respanned}

pub both : (ts us : List Token) (at : Places) → respanned at (ts ++ us) ≡ respanned at ts ++ respanned (behind ts at) us
both [] us at = refl
both (t ∷ ts) us at = ap (λ l. record { kind = t.kind; span = at 0 } ∷ l) (both ts us (next at))

pub map_joined : {A B : Type 0} (of : A → B) (xs : List A) (x : A) → map of (xs ++ x ∷ []) ≡ map of xs ++ of x ∷ []
map_joined of [] x = refl
map_joined of (y ∷ xs) x = ap (λ l. of y ∷ l) (map_joined of xs x)

pub same_joined : {A B : Type 0} (of : A → B) (xs ys : List A) (x y : A) → map of xs ≡ map of ys → of x ≡ of y → map of (xs ++ x ∷ []) ≡ map of (ys ++ y ∷ [])
same_joined of xs ys x y e f = map_joined of xs x ∙ (rw (e, f) refl) ∙ sym (map_joined of ys y)

-- What these tokens are, and that it is the same as this.
pub record Again {A : Type 0} (Is : List Token → A → Type 0) (Same : A → A → Type 0) (ts : List Token) (x : A) : Type 0 where
  pub found : A
  pub is : Is ts found
  pub same : Same x found

-- What is in one relation with some tokens is in the other with these tokens at any places, up to what is the same.
abbrev pub Stays : {A : Type 0} → (List Token → A → Type 0) → (List Token → A → Type 0) → (A → A → Type 0) → Type 0
Stays {A = A} Was Is Same = (ts : List Token) (x : A) → Was ts x → (at : Places) → Again Is Same (respanned at ts) x

module _ {A S : Type 0} (Was Is : List Token → A → Type 0) (Same : A → A → Type 0) (stays : Stays Was Is Same) (SameAll : S → S → Type 0) (add : S → A → S)
    (adds : (s t : S) (x y : A) → SameAll s t → Same x y → SameAll (add s x) (add t y)) where
  pub repeated : (none : S) → SameAll none none → Stays (IsRepeated Was none add) (IsRepeated Is none add) SameAll
  repeated none empty _ _ no_item at = record { found = none; is = no_item; same = empty }
  repeated none empty _ _ (one_more {before} {tokens} {items} {item} d x) at =
      let first = repeated none empty before items d at in
      let last = stays tokens item x (behind before at) in
      rw (both before tokens at)
      (record { found = add first.found last.found; is = one_more first.is last.is; same = adds items first.found item last.found first.same last.same })

  pub separated : (start : A → S) → ((x y : A) → Same x y → SameAll (start x) (start y)) → Stays (IsSeparated Was start add) (IsSeparated Is start add) SameAll
  separated start starts _ _ (first_item {tokens} {item} x) at =
      let first = stays tokens item x at in record { found = start first.found; is = first_item first.is; same = starts item first.found first.same }
  separated start starts _ _ (next_item {before} {tokens} {items} {item} comma d x) at =
      let first = separated start starts before items d at in
      let last = stays tokens item x (next (behind before at)) in
      rw (both before (sign COMMA comma ∷ tokens) at)
      (record { found = add first.found last.found; is = next_item (behind before at 0) first.is last.is; same = adds items first.found item last.found first.same last.same })
