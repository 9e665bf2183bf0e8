-- The best of a part of some facts is that of all, where each fact that gives a number is in the part.
use Rattle.std.specs.Prelude.{◌≡◌, ◌⊎◌, ℕ, ◌<◌, ◌+◌, ℤ, Option, Some, None, List, [], ◌∷◌, ◌++◌, length, drop, slice_index_or, refl}
use Rattle.std.specs.Int.{int_min, int_max}
use Rattle.std.proofs.Common.{add-one, inl, inr, ap, sym, ◌∙◌, arith, ⊎_elim}
use Rattle.std.proofs.Math.Seq.{drop-cons}
use Rattle.std.proofs.lemmas.Int.{ints, clamps}
use Rattle.ix_core.specs.declared.fact.Fact.{Fact}
use Rattle.ix_facts.specs.Facts.{IsIn}
use Rattle.ix_facts.specs.Bounds.{best, at_least, at_most, greatest}
use Rattle.ix_facts.specs.Exact.{each}

max_joined : (x y z : ℤ) → int_max (int_max x y) z ≡ int_max x (int_max y z)
max_joined x y z = omega (arith, ints, clamps)

min_joined : (x y z : ℤ) → int_min (int_min x y) z ≡ int_min x (int_min y z)
min_joined x y z = omega (arith, ints, clamps)

max_turned : (x y : ℤ) → int_max x y ≡ int_max y x
max_turned x y = omega (arith, ints, clamps)

max_twice : (x : ℤ) → int_max x x ≡ x
max_twice x = omega (arith, ints, clamps)

pub joined : (x y z : Option ℤ) → best int_max (best int_max x y) z ≡ best int_max x (best int_max y z)
joined None y z = refl
joined (Some x) None z = refl
joined (Some x) (Some y) None = refl
joined (Some x) (Some y) (Some z) = ap Some (max_joined x y z)

pub least_joined : (x y z : Option ℤ) → best int_min (best int_min x y) z ≡ best int_min x (best int_min y z)
least_joined None y z = refl
least_joined (Some x) None z = refl
least_joined (Some x) (Some y) None = refl
least_joined (Some x) (Some y) (Some z) = ap Some (min_joined x y z)

turned : (x y : Option ℤ) → best int_max x y ≡ best int_max y x
turned None None = refl
turned None (Some y) = refl
turned (Some x) None = refl
turned (Some x) (Some y) = ap Some (max_turned x y)

twice : (x : Option ℤ) → best int_max x x ≡ x
twice None = refl
twice (Some x) = ap Some (max_twice x)

pub low_joined : (x : ℤ) (y z : Option ℤ) → at_least (at_least x y) z ≡ at_least x (best int_max y z)
low_joined x None z = refl
low_joined x (Some y) None = refl
low_joined x (Some y) (Some z) = max_joined x y z

pub high_joined : (x : ℤ) (y z : Option ℤ) → at_most (at_most x y) z ≡ at_most x (best int_min y z)
high_joined x None z = refl
high_joined x (Some y) None = refl
high_joined x (Some y) (Some z) = min_joined x y z

-- ---- a number that is at hand already

first_in : (x rest : Option ℤ) → best int_max x (best int_max x rest) ≡ best int_max x rest
first_in x rest = sym (joined x x rest) ∙ ap (λ v. best int_max v rest) (twice x)

later_in : (x y rest : Option ℤ) → best int_max x rest ≡ rest → best int_max x (best int_max y rest) ≡ best int_max y rest
later_in x y rest e = sym (joined x y rest) ∙ (ap (λ v. best int_max v rest) (turned x y) ∙ (joined y x rest ∙ ap (best int_max y) e))

-- a best counts both its numbers, and what is better than a number counts what that counts
pub counts_second : (x y both : Option ℤ) → both ≡ best int_max x y → best int_max both y ≡ both
counts_second x y both e = rw e (joined x y y ∙ ap (best int_max x) (twice y))

pub counts_still : (x y more new : Option ℤ) → best int_max x y ≡ x → new ≡ best int_max x more → best int_max new y ≡ new
counts_still x y more new c e = rw e (joined x more y ∙ (ap (best int_max x) (turned more y) ∙ (sym (joined x y more) ∙ ap (λ v. best int_max v more) c)))

fact_in : (by : Fact → Option ℤ) (facts : List Fact) (x : Fact) → IsIn x facts → best int_max (by x) (greatest by facts) ≡ greatest by facts
fact_in by [] x i = absurd i
fact_in by (y ∷ facts) x i =
    ⊎_elim
    (λ e. ap (λ z. best int_max (by z) (best int_max (by y) (greatest by facts))) e ∙ first_in (by y) (greatest by facts))
    (λ j. later_in (by x) (by y) (greatest by facts) (fact_in by facts x j))
    i

-- each fact gives no number, or is among the others
abbrev pub Counts : (Fact → Option ℤ) → List Fact → List Fact → Type 0
Counts by facts more = (f : Fact) → IsIn f facts → (by f ≡ None) ⊎ IsIn f more

counted : (by : Fact → Option ℤ) (more : List Fact) (x : Fact) → (by x ≡ None) ⊎ IsIn x more → best int_max (by x) (greatest by more) ≡ greatest by more
counted by more x h = ⊎_elim (λ e. ap (λ n. best int_max n (greatest by more)) e) (λ i. fact_in by more x i) h

all_counted : (by : Fact → Option ℤ) (facts more : List Fact) → Counts by facts more → best int_max (greatest by facts) (greatest by more) ≡ greatest by more
all_counted by [] more k = refl
all_counted by (x ∷ facts) more k =
    joined (by x) (greatest by facts) (greatest by more) ∙ (ap (best int_max (by x)) (all_counted by facts more (λ f i. k f (inr i))) ∙ counted by more x (k x (inl refl)))

pub same_greatest : (by : Fact → Option ℤ) (part all : List Fact) → ((f : Fact) → IsIn f part → IsIn f all) → Counts by all part → greatest by part ≡ greatest by all
same_greatest by part all only every =
    sym (all_counted by all part every) ∙ (turned (greatest by all) (greatest by part) ∙ all_counted by part all (λ f i. inr (only f i)))

pub greatest_of_both : (by : Fact → Option ℤ) (xs ys : List Fact) → greatest by (xs ++ ys) ≡ best int_max (greatest by xs) (greatest by ys)
greatest_of_both by [] ys = refl
greatest_of_both by (x ∷ xs) ys = ap (best int_max (by x)) (greatest_of_both by xs ys) ∙ sym (joined (by x) (greatest by xs) (greatest by ys))

-- ---- one step of a loop over facts, of which each gives a list

pub next_each : (by : Fact → Option ℤ) (rule : Fact → List Fact) (facts : List Fact) (k : ℕ) (d : Fact) → k < length facts → (old new whole : Option ℤ) → new ≡ best int_max old (greatest by (rule (slice_index_or facts k d)))
    → best int_max old (greatest by (each rule (drop k facts))) ≡ whole → best int_max new (greatest by (each rule (drop (k + 1) facts))) ≡ whole
next_each by rule facts k d h old new whole n w =
    let rest = greatest by (each rule (drop (k + 1) facts)) in
    let here = rule (slice_index_or facts k d) in
    ap (λ x. best int_max x rest) n
    ∙ (joined old (greatest by here) rest
    ∙ (ap (best int_max old) (sym (greatest_of_both by here (each rule (drop (k + 1) facts))) ∙ ap (λ l. greatest by (each rule l)) (sym at_drop)) ∙ w))
  where
    at_drop : drop k facts ≡ slice_index_or facts k d ∷ drop (k + 1) facts
    at_drop = rw add-one (drop-cons facts k d h)
