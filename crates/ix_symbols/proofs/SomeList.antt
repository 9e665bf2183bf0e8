-- The computed list is the list of errors, so there is one for all errors.
use Rattle.std.proofs.Common.{◌≡◌, ◌≢◌, ℕ, ◌<◌, ◌==◌, ◌&&◌, ◌⊎◌, inl, inr, Bool, true, false, nat_lt, if◌then◌else◌, List, [], ◌∷◌, refl, sym, subst, arith}
use Rattle.std.specs.List.{AllByRecursion}
use Rattle.std.proofs.lemmas.Bool.{cases_lt}
use Rattle.std.proofs.lemmas.Bool.Decides.{nat_tests}
use Rattle.ix_meaning.specs.declared.note.NameError.{NameError}
use Rattle.ix_meaning.specs.Listed.{order, same_span, IsBefore, Rises, IsListed, is_same, goes_before, insert, listed}
use Rattle.ix_meaning.proofs.ErrorLists.{In, to_in, from_in, of_all}
use Rattle.ix_symbols.proofs.SortedErrors.{same_error, before_trans}

-- ---- of two errors one goes before the other, or they are one

less : (a b : ℕ) → a < b → nat_lt a b ≡ true
less a b h = grind (arith, nat_tests, h)

not_less : (a b : ℕ) → b < a → nat_lt a b ≡ false
not_less a b h = grind (arith, nat_tests, h)

no_less : (a b : ℕ) → a ≡ b → nat_lt a b ≡ false
no_less a b h = grind (arith, nat_tests, h)

same : (a b : ℕ) → a ≡ b → (a == b) ≡ true
same a b h = grind (arith, nat_tests, h)

below : (a b : ℕ) → a < b → (a == b) ≡ false
below a b h = grind (arith, nat_tests, h)

above : (a b : ℕ) → b < a → (a == b) ≡ false
above a b h = grind (arith, nat_tests, h)

-- by each of three numbers
data Compared (a b : ℕ) : Type 0 where
  lower : a < b → Compared a b
  equal : a ≡ b → Compared a b
  higher : b < a → Compared a b

compared : (a b : ℕ) → Compared a b
compared a b = elim (cases_lt a b) [ inl h ↦ lower h | inr h ↦ elim (cases_lt b a) [ inl g ↦ higher g | inr g ↦ equal (omega (arith, h, g)) ] ]

data Placed (e y : NameError) : Type 0 where
  here : is_same e y ≡ true → e ≡ y → Placed e y
  before : is_same e y ≡ false → goes_before e y ≡ true → IsBefore e y → Placed e y
  behind : is_same e y ≡ false → goes_before e y ≡ false → IsBefore y e → Placed e y

module _ (e y : NameError) where
  by_end : e.span.from ≡ y.span.from → order e.rule ≡ order y.rule → Compared e.span.to y.span.to → Placed e y
  by_end f o (lower t) =
      before (rw (same _ _ f, below _ _ t) refl) (rw (same _ _ f, no_less _ _ f, no_less _ _ o, same _ _ o, less _ _ t) refl) (inr (f, inr (o, t)))
  by_end f o (equal t) = here (rw (same _ _ f, same _ _ t, same _ _ o) refl) (same_error e y (f, o, t))
  by_end f o (higher t) =
      behind (rw (same _ _ f, above _ _ t) refl) (rw (same _ _ f, no_less _ _ f, no_less _ _ o, same _ _ o, not_less _ _ t) refl) (inr (sym f, inr (sym o, t)))

  other_rule : (b : Bool) → (order e.rule == order y.rule) ≡ false → (b && order e.rule == order y.rule) ≡ false
  other_rule true h = h
  other_rule false h = refl

  by_rule : e.span.from ≡ y.span.from → Compared (order e.rule) (order y.rule) → Placed e y
  by_rule f (lower o) = before (other_rule (same_span e.span y.span) (below _ _ o)) (rw (no_less _ _ f, same _ _ f, less _ _ o) refl) (inr (f, inl o))
  by_rule f (equal o) = by_end f o (compared e.span.to y.span.to)
  by_rule f (higher o) =
      behind (other_rule (same_span e.span y.span) (above _ _ o)) (rw (no_less _ _ f, same _ _ f, not_less _ _ o, above _ _ o) refl) (inr (sym f, inl o))

  by_start : Compared e.span.from y.span.from → Placed e y
  by_start (lower f) = before (rw (below _ _ f) refl) (rw (less _ _ f) refl) (inl f)
  by_start (equal f) = by_rule f (compared (order e.rule) (order y.rule))
  by_start (higher f) = behind (rw (above _ _ f) refl) (rw (not_less _ _ f, above _ _ f) refl) (inl f)

  placed : Placed e y
  placed = by_start (compared e.span.from y.span.from)

-- ---- what is in a list with one error more

-- the first of a list in which the error is inserted, with what is known of the rest
record Inserted (e : NameError) (ys zs : List NameError) : Type 0 where
  new : In e zs
  old : (x : NameError) → In x ys → In x zs
  only : (x : NameError) → In x zs → (x ≡ e) ⊎ In x ys

behind_head : (e y : NameError) (ys zs : List NameError) → Inserted e ys zs → Inserted e (y ∷ ys) (y ∷ zs)
behind_head e y ys zs i = record { new = inr i.new; old = old; only = only }
  where
    old : (x : NameError) → In x (y ∷ ys) → In x (y ∷ zs)
    old x (inl h) = inl h
    old x (inr h) = inr (i.old x h)

    only : (x : NameError) → In x (y ∷ zs) → (x ≡ e) ⊎ In x (y ∷ ys)
    only x (inl h) = inr (inl h)
    only x (inr h) = elim (i.only x h) [ inl k ↦ inl k | inr k ↦ inr (inr k) ]

at_head : (e : NameError) (ys : List NameError) → Inserted e ys (e ∷ ys)
at_head e ys = record { new = inl refl; old = λ x h. inr h; only = λ x h. h }

there_already : (e y : NameError) (ys : List NameError) → e ≡ y → Inserted e (y ∷ ys) (y ∷ ys)
there_already e y ys h = record { new = inl h; old = λ x k. k; only = λ x k. inr k }

abbrev inserted_by : NameError → NameError → List NameError → Bool → Bool → List NameError
inserted_by e y ys same first = if same then y ∷ ys else if first then e ∷ y ∷ ys else y ∷ insert e ys

insert_is : (e y : NameError) (ys : List NameError) (b c : Bool) → is_same e y ≡ b → goes_before e y ≡ c → insert e (y ∷ ys) ≡ inserted_by e y ys b c
insert_is e y ys b c p q = rw (p, q) refl

insert_same : (e y : NameError) (ys : List NameError) → is_same e y ≡ true → insert e (y ∷ ys) ≡ y ∷ ys
insert_same e y ys p = rw p refl

inserted : (e : NameError) (ys : List NameError) → Inserted e ys (insert e ys)
inserted e [] = at_head e []
inserted e (y ∷ ys) = by (placed e y) (inserted e ys)
  where
    by : Placed e y → Inserted e ys (insert e ys) → Inserted e (y ∷ ys) (insert e (y ∷ ys))
    by (here p h) i = subst (Inserted e (y ∷ ys)) (sym (insert_same e y ys p)) (there_already e y ys h)
    by (before p q h) i = subst (Inserted e (y ∷ ys)) (sym (insert_is e y ys false true p q)) (at_head e (y ∷ ys))
    by (behind p q h) i = subst (Inserted e (y ∷ ys)) (sym (insert_is e y ys false false p q)) (behind_head e y ys (insert e ys) i)

-- ---- the list rises

all_in : (P : NameError → Type 0) (xs : List NameError) → ((x : NameError) → In x xs → P x) → AllByRecursion P xs
all_in P [] each = tt
all_in P (x ∷ xs) each = (each x (inl refl), all_in P xs (λ y h. each y (inr h)))

all_behind : (e y : NameError) (ys : List NameError) → IsBefore e y → AllByRecursion (IsBefore y) ys → AllByRecursion (IsBefore e) ys
all_behind e y ys first all = all_in (IsBefore e) ys (λ x h. before_trans e y x first (of_all (IsBefore y) ys x all h))

rises : (e : NameError) (ys : List NameError) → Rises ys → Rises (insert e ys)
rises e [] r = (tt, tt)
rises e (y ∷ ys) r = by (placed e y) (rises e ys r.1)
  where
    later : IsBefore y e → (x : NameError) → In x (insert e ys) → IsBefore y x
    later h x k = elim ((inserted e ys).only x k) [ inl is ↦ subst (IsBefore y) (sym is) h | inr is ↦ of_all (IsBefore y) ys x r.0 is ]

    by : Placed e y → Rises (insert e ys) → Rises (insert e (y ∷ ys))
    by (here p h) up = subst Rises (sym (insert_same e y ys p)) r
    by (before p q h) up = subst Rises (sym (insert_is e y ys false true p q)) ((h, all_behind e y ys h r.0), r)
    by (behind p q h) up = subst Rises (sym (insert_is e y ys false false p q)) (all_in (IsBefore y) (insert e ys) (later h), up)

all_rise : (es : List NameError) → Rises (listed es)
all_rise [] = tt
all_rise (e ∷ es) = rises e (listed es) (all_rise es)

-- ---- the list has all errors and no other

has_all : (es : List NameError) (x : NameError) → In x es → In x (listed es)
has_all [] x h = h
has_all (e ∷ es) x (inl h) = subst (λ (v : NameError). In v (listed (e ∷ es))) (sym h) (inserted e (listed es)).new
has_all (e ∷ es) x (inr h) = (inserted e (listed es)).old x (has_all es x h)

has_only : (es : List NameError) (x : NameError) → In x (listed es) → In x es
has_only [] x h = h
has_only (e ∷ es) x h = elim ((inserted e (listed es)).only x h) [ inl is ↦ inl is | inr is ↦ inr (has_only es x is) ]

pub listed_is : (es : List NameError) → IsListed es (listed es)
listed_is es = record {
  rises = all_rise es;
  found = λ y h. from_in es y (has_only es y (to_in (listed es) y h));
  all = λ e h. from_in (listed es) e (has_all es e (to_in es e h));
}

not_empty : (e : NameError) (es ys : List NameError) → In e ys → ys ≡ [] → ⊥
not_empty e es ys h none = subst (In e) none h

-- Errors, if there are any, have a list.
pub some_list : (es : List NameError) → es ≢ [] → (ys : List NameError) × IsListed es ys × (ys ≢ [])
some_list [] some = absurd (some refl)
some_list (e ∷ es) some = (listed (e ∷ es), listed_is (e ∷ es), not_empty e es (listed (e ∷ es)) (has_all (e ∷ es) e (inl refl)))
