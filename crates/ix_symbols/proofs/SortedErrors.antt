-- Errors that are sorted by start, rule and end are listed once each run of equal ones has only its first.
use Rattle.std.proofs.Common.{suc, length, slice_index_or, ◌≡◌, ℕ, ◌+◌, ◌<◌, ◌==◌, ◌&&◌, ◌⊎◌, inl, inr, Bool, true, false, cond, Some, List, [], ◌∷◌, refl, sym, ◌∙◌, ap, subst, arith, slice_get}
use Rattle.std.specs.List.{Contains, AllByRecursion, dedup, dedup_from}
use Rattle.std.specs.List.Sorted.{IsPermutation, IsSortedBy}
use Rattle.std.specs.Ordering.{nat_cmp, ordering_then, MatchOrdering, is_lt}
use Rattle.std.specs.declared.cmp.Ordering.{Ordering}
use Rattle.std.specs.declared.cmp.Ordering.TheVariants.{Less, Equal, Greater}
use Rattle.std.specs.Cmp.{ranks}
use Rattle.std.proofs.lemmas.List.Sorted.{Contains-permutation, IsPermutation-sym}
use Rattle.std.proofs.lemmas.Bool.{eqb-true, eqb-false}
use Rattle.ix_meaning.specs.declared.note.NameError.{NameError}
use Rattle.ix_meaning.specs.declared.note.Rule.{Rule}
use Rattle.ix_meaning.specs.declared.note.Rule.TheVariants as rule
use Rattle.ix_meaning.specs.Listed.{order, IsBefore, Rises, IsListed}
use Rattle.ix_meaning.proofs.ErrorLists.{In, to_in, from_in}

-- ---- the order of the rules tells them apart

all_rules : List Rule
all_rules = rule.UnknownName ∷ rule.UnknownName ∷ rule.DuplicateName ∷ rule.TypeMismatch ∷ rule.WrongArguments ∷ rule.CyclicClass ∷ rule.NotStatic ∷ rule.FinalAssigned
    ∷ rule.NotAssignable ∷ rule.BreakOutside ∷ rule.UnknownAnnotation ∷ rule.BadArgument ∷ rule.BadName ∷ rule.WrongTarget ∷ rule.InheritedName ∷ []

at_order : (r : Rule) → slice_get all_rules (order r) ≡ Some r
unfolding all_rules
at_order rule.UnknownName = refl
at_order rule.DuplicateName = refl
at_order rule.TypeMismatch = refl
at_order rule.WrongArguments = refl
at_order rule.CyclicClass = refl
at_order rule.NotStatic = refl
at_order rule.FinalAssigned = refl
at_order rule.NotAssignable = refl
at_order rule.BreakOutside = refl
at_order rule.UnknownAnnotation = refl
at_order rule.BadArgument = refl
at_order rule.BadName = refl
at_order rule.WrongTarget = refl
at_order rule.InheritedName = refl

some_same : {A : Type 0} (x y : A) → Some x ≡ Some y → x ≡ y
some_same x y h = cc

same_rule : (r s : Rule) → order r ≡ order s → r ≡ s
same_rule r s h = some_same r s (sym (at_order r) ∙ ap (slice_get all_rules) h ∙ at_order s)

-- ---- the order of the sort

abbrev pub error_cmp : NameError → NameError → Ordering
error_cmp x y = ordering_then (ordering_then (nat_cmp x.span.from y.span.from) (nat_cmp (order x.rule) (order y.rule))) (nat_cmp x.span.to y.span.to)

-- x and y have one start, one rule and one end
abbrev pub Same : NameError → NameError → Type 0
Same x y = (x.span.from ≡ y.span.from) × (order x.rule ≡ order y.rule) × (x.span.to ≡ y.span.to)

pub same_error : (x y : NameError) → Same x y → x ≡ y
same_error x y h =
    ap (λ n. record { rule = x.rule; span = record { from = n; to = x.span.to } }) h.0
    ∙ ap (λ n. record { rule = x.rule; span = record { from = y.span.from; to = n } }) h.2
    ∙ ap (λ r. record { rule = r; span = y.span }) (same_rule x.rule y.rule h.1)

abbrev NotAfter : NameError → NameError → Type 0
NotAfter x y = IsBefore x y ⊎ Same x y

not_after_by : (a b c d e f : ℕ) (r s t : Ordering) → MatchOrdering r (a < b) (a ≡ b) (b < a) → MatchOrdering s (c < d) (c ≡ d) (d < c) → MatchOrdering t (e < f) (e ≡ f) (f < e)
    → is_lt (ordering_then (ordering_then r s) t) ≡ false → ((b < a) ⊎ ((b ≡ a) × ((d < c) ⊎ ((d ≡ c) × (f < e))))) ⊎ ((b ≡ a) × (d ≡ c) × (f ≡ e))
not_after_by a b c d e f Less s t p q u h = cc
not_after_by a b c d e f Equal Less t p q u h = cc
not_after_by a b c d e f Equal Equal Less p q u h = cc
not_after_by a b c d e f Equal Equal Equal p q u h = inr (sym p, sym q, sym u)
not_after_by a b c d e f Equal Equal Greater p q u h = inl (inr (sym p, inr (sym q, u)))
not_after_by a b c d e f Equal Greater t p q u h = inl (inr (sym p, inl q))
not_after_by a b c d e f Greater s t p q u h = inl (inl p)

not_after : (x y : NameError) → is_lt (error_cmp y x) ≡ false → NotAfter x y
not_after x y h = not_after_by y.span.from x.span.from (order y.rule) (order x.rule) y.span.to x.span.to
    (nat_cmp y.span.from x.span.from) (nat_cmp (order y.rule) (order x.rule)) (nat_cmp y.span.to x.span.to)
    (ranks y.span.from x.span.from) (ranks (order y.rule) (order x.rule)) (ranks y.span.to x.span.to) h

pub before_trans : (x y z : NameError) → IsBefore x y → IsBefore y z → IsBefore x z
before_trans x y z (inl p) (inl q) = inl (omega (arith, p, q))
before_trans x y z (inl p) (inr (e, q)) = inl (omega (arith, p, e))
before_trans x y z (inr (e, p)) (inl q) = inl (omega (arith, e, q))
before_trans x y z (inr (e, inl p)) (inr (f, inl q)) = inr (e ∙ f, inl (omega (arith, p, q)))
before_trans x y z (inr (e, inl p)) (inr (f, inr (g, q))) = inr (e ∙ f, inl (omega (arith, p, g)))
before_trans x y z (inr (e, inr (g, p))) (inr (f, inl q)) = inr (e ∙ f, inl (omega (arith, g, q)))
before_trans x y z (inr (e, inr (g, p))) (inr (f, inr (h, q))) = inr (e ∙ f, inr (g ∙ h, omega (arith, p, q)))

not_after_trans : (x y z : NameError) → NotAfter x y → NotAfter y z → NotAfter x z
not_after_trans x y z (inl p) (inl q) = inl (before_trans x y z p q)
not_after_trans x y z (inl p) (inr q) = inl (subst (IsBefore x) (same_error y z q) p)
not_after_trans x y z (inr p) q = subst (λ (v : NameError). NotAfter v z) (sym (same_error x y p)) q

all_before : (x y : NameError) (zs : List NameError) → IsBefore x y → AllByRecursion (IsBefore y) zs → AllByRecursion (IsBefore x) zs
all_before x y [] p q = tt
all_before x y (z ∷ zs) p q = (before_trans x y z p q.0, all_before x y zs p q.1)

all_not_after : (x y : NameError) (zs : List NameError) → NotAfter x y → AllByRecursion (NotAfter y) zs → AllByRecursion (NotAfter x) zs
all_not_after x y [] p q = tt
all_not_after x y (z ∷ zs) p q = (not_after_trans x y z p q.0, all_not_after x y zs p q.1)

-- each error is after none of those that follow
Sorted : List NameError → Type 0
Sorted [] = Unit {0}
Sorted (x ∷ xs) = AllByRecursion (NotAfter x) xs × Sorted xs

onward : (x : NameError) (xs : List NameError) (k : ℕ) (d : NameError) → is_lt (error_cmp (slice_index_or (x ∷ xs) (suc k + 1) d) (slice_index_or (x ∷ xs) (suc k) d)) ≡ false
    → is_lt (error_cmp (slice_index_or xs (k + 1) d) (slice_index_or xs k d)) ≡ false
onward x xs k d h = let e : suc k + 1 ≡ suc (k + 1) = omega arith in subst (λ n. is_lt (error_cmp (slice_index_or (x ∷ xs) n d) (slice_index_or xs k d)) ≡ false) e h

sorted_from : (xs : List NameError) → IsSortedBy (λ x y. is_lt (error_cmp x y)) xs → Sorted xs
unfolding Sorted
sorted_from [] h = tt
sorted_from (x ∷ []) h = (tt, tt)
sorted_from (x ∷ y ∷ zs) h =
    let later = sorted_from (y ∷ zs) (λ k d low lt. onward x (y ∷ zs) k d (h (suc k) d (omega arith) (omega (arith, lt)))) in
    let first : NotAfter x y = not_after x y (h 0 x (omega arith) (omega arith)) in
    ((first, all_not_after x y zs first later.0), later)

-- ---- each once

abbrev pub same_key : NameError → NameError → Bool
same_key x y = (x.span.from == y.span.from && order x.rule == order y.rule) && x.span.to == y.span.to

later : NameError → List NameError → List NameError
later x [] = []
later x (y ∷ ys) = cond (same_key y x) (later x ys) (y ∷ later y ys)

dedup_later : (x : NameError) (ys : List NameError) → dedup_from same_key x ys ≡ x ∷ later x ys
unfolding later
dedup_later x [] = refl
dedup_later x (y ∷ ys) = by (same_key y x) (dedup_later x ys) (dedup_later y ys)
  where
    by : (b : Bool) → dedup_from same_key x ys ≡ x ∷ later x ys → dedup_from same_key y ys ≡ y ∷ later y ys
        → cond b (dedup_from same_key x ys) (x ∷ dedup_from same_key y ys) ≡ x ∷ cond b (later x ys) (y ∷ later y ys)
    by true p q = p
    by false p q = ap (λ l. x ∷ l) q

keys_differ : (a b c d e f : ℕ) (s t u : Bool) → (a == b) ≡ s → (c == d) ≡ t → (e == f) ≡ u → ((s && t) && u) ≡ false → a ≡ b → c ≡ d → e ≡ f → ⊥
keys_differ a b c d e f true true true p q r h x y z = cc
keys_differ a b c d e f true true false p q r h x y z = eqb-false e f r z
keys_differ a b c d e f true false u p q r h x y z = eqb-false c d q y
keys_differ a b c d e f false t u p q r h x y z = eqb-false a b p x

-- where the keys differ, what isn't after is before
apart : (x y : NameError) → same_key y x ≡ false → NotAfter x y → IsBefore x y
apart x y h (inl p) = p
apart x y h (inr p) =
    absurd (keys_differ y.span.from x.span.from (order y.rule) (order x.rule) y.span.to x.span.to
    (y.span.from == x.span.from) (order y.rule == order x.rule) (y.span.to == x.span.to) refl refl refl h (sym p.0) (sym p.1) (sym p.2))

keys_same : (a b c d e f : ℕ) (s t u : Bool) → (a == b) ≡ s → (c == d) ≡ t → (e == f) ≡ u → ((s && t) && u) ≡ true → (a ≡ b) × (c ≡ d) × (e ≡ f)
keys_same a b c d e f true true true p q r h = (eqb-true a b p, eqb-true c d q, eqb-true e f r)
keys_same a b c d e f true true false p q r h = cc
keys_same a b c d e f true false u p q r h = cc
keys_same a b c d e f false t u p q r h = cc

alike : (x y : NameError) → same_key y x ≡ true → y ≡ x
alike x y h =
    same_error y x (keys_same y.span.from x.span.from (order y.rule) (order x.rule) y.span.to x.span.to
    (y.span.from == x.span.from) (order y.rule == order x.rule) (y.span.to == x.span.to) refl refl refl h)

record Later (x : NameError) (zs ys : List NameError) : Type 0 where
  above : AllByRecursion (IsBefore x) ys
  rises : Rises ys
  found : (y : NameError) → In y ys → In y zs
  has_all : (e : NameError) → In e zs → In e (x ∷ ys)

drop_one : (x y : NameError) (ys : List NameError) → same_key y x ≡ true → Later x ys (later x ys) → Later x (y ∷ ys) (later x ys)
drop_one x y ys b l = record {
  above = l.above;
  rises = l.rises;
  found = λ w h. inr (l.found w h);
  has_all = has_too;
}
  where
    has_too : (e : NameError) → In e (y ∷ ys) → In e (x ∷ later x ys)
    has_too e (inl h) = inl (h ∙ alike x y b)
    has_too e (inr h) = l.has_all e h

keep_one : (x y : NameError) (ys : List NameError) → same_key y x ≡ false → NotAfter x y → Later y ys (later y ys) → Later x (y ∷ ys) (y ∷ later y ys)
keep_one x y ys b lt m =
    let before : IsBefore x y = apart x y b lt in
    record {
      above = (before, all_before x y (later y ys) before m.above);
      rises = (m.above, m.rises);
      found = found_by;
      has_all = has_too;
    }
  where
    found_by : (w : NameError) → In w (y ∷ later y ys) → In w (y ∷ ys)
    found_by w (inl h) = inl h
    found_by w (inr h) = inr (m.found w h)

    has_too : (e : NameError) → In e (y ∷ ys) → In e (x ∷ y ∷ later y ys)
    has_too e (inl h) = inr (inl h)
    has_too e (inr h) = inr (m.has_all e h)

step : (x y : NameError) (ys : List NameError) (b : Bool) → same_key y x ≡ b → NotAfter x y → Later x ys (later x ys) → Later y ys (later y ys)
    → Later x (y ∷ ys) (cond b (later x ys) (y ∷ later y ys))
step x y ys true b lt l m = drop_one x y ys b l
step x y ys false b lt l m = keep_one x y ys b lt m

later_is : (x : NameError) (zs : List NameError) → AllByRecursion (NotAfter x) zs → Sorted zs → Later x zs (later x zs)
unfolding Sorted later
later_is x [] a s = record { above = tt; rises = tt; found = λ y h. h; has_all = λ e h. absurd h }
later_is x (y ∷ ys) a s = step x y ys (same_key y x) refl a.0 (later_is x ys a.1 s.1) (later_is y ys s.0 s.1)

-- ---- the list

once_listed : (sorted : List NameError) → Sorted sorted → IsListed sorted (dedup same_key sorted)
unfolding Sorted
once_listed [] s = record { rises = tt; found = λ y h. h; all = λ e h. h }
once_listed (x ∷ zs) s =
    let l = later_is x zs s.0 s.1 in
    subst (λ (v : List NameError). IsListed (x ∷ zs) v) (sym (dedup_later x zs)) (record {
      rises = (l.above, l.rises);
      found = λ y h. from_in (x ∷ zs) y (found_by l y (to_in (x ∷ later x zs) y h));
      all = λ e h. from_in (x ∷ later x zs) e (has_too l e (to_in (x ∷ zs) e h));
    })
  where
    found_by : Later x zs (later x zs) → (y : NameError) → In y (x ∷ later x zs) → In y (x ∷ zs)
    found_by l y (inl h) = inl h
    found_by l y (inr h) = inr (l.found y h)

    has_too : Later x zs (later x zs) → (e : NameError) → In e (x ∷ zs) → In e (x ∷ later x zs)
    has_too l e (inl h) = inl h
    has_too l e (inr h) = l.has_all e h

of_permutation : (es sorted ys : List NameError) → IsPermutation es sorted → IsListed sorted ys → IsListed es ys
of_permutation es sorted ys moved l = record {
  rises = l.rises;
  found = λ y h. Contains-permutation sorted es y (IsPermutation-sym es sorted moved) (l.found y h);
  all = λ e h. l.all e (Contains-permutation es sorted e moved h);
}

pub sorted_listed : (es sorted ys : List NameError) → IsPermutation es sorted → IsSortedBy (λ x y. is_lt (error_cmp x y)) sorted → ys ≡ dedup same_key sorted → IsListed es ys
sorted_listed es sorted ys moved up is =
    of_permutation es sorted ys moved (subst (λ (v : List NameError). IsListed sorted v) (sym is) (once_listed sorted (sorted_from sorted up)))

pub none_listed : (es ys : List NameError) → IsListed es ys → (ys ≡ [] → es ≡ []) × (es ≡ [] → ys ≡ [])
none_listed es ys l = (none es ys l, none_back es ys l)
  where
    none : (es ys : List NameError) → IsListed es ys → ys ≡ [] → es ≡ []
    none [] ys l h = refl
    none (e ∷ es) ys l h = let c = l.all e (0, omega arith, refl) in absurd (omega (arith, c.1, ap length h))

    none_back : (es ys : List NameError) → IsListed es ys → es ≡ [] → ys ≡ []
    none_back es [] l h = refl
    none_back es (y ∷ ys) l h = let c = l.found y (0, omega arith, refl) in absurd (omega (arith, c.1, ap length h))
