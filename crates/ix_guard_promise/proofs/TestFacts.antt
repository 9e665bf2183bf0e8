-- What the three comparisons of a guard's test tell where they fail: `0 <= index` and `index < array.length`.
use Rattle.std.proofs.Common.{◌≡◌, ℕ, false, List, [], ◌∷◌, ◌++◌, inl, inr, refl, sym, subst, ⊎_elim}
use Rattle.std.specs.Prelude.{◌==◌, pos, negsuc, ◌+ℤ◌, ◌-ℤ◌}
use Rattle.ix_num.specs.Ints.{greatest_int}
use Rattle.ix_core.specs.declared.fact.Fact.{Fact}
use Rattle.ix_core.specs.declared.fact.Fact.TheVariants.{Rng, IsLen, Upper}
use Rattle.ix_core.specs.declared.fact.Path.{Path}
use Rattle.ix_core.specs.declared.fact.Path.TheVariants.{Slot}
use Rattle.ix_core.specs.declared.fact.PathOff.TheVariants.{Nothing}
use Rattle.ix_core.specs.declared.fact.Profile.{Profile}
use Rattle.ix_core.specs.declared.op.Literal.TheVariants as literal
use Rattle.ix_core.specs.declared.op.OpKind.TheVariants as op
use Rattle.ix_facts.specs.Facts.{IsIn}
use Rattle.ix_facts.specs.Closure.{Follows, given}
use Rattle.ix_facts.specs.Bounds
use Rattle.ix_facts.specs.Exact.{each}
use Rattle.ix_facts.specs.Forget.{of_slot, without}
use Rattle.ix_facts.specs.AfterTest.{Below, below_facts, range_part, difference_part, bound_part, length_part, sum_part, at_below, at_above, high_end, low_end, bound_moved, below_by}
use Rattle.ix_facts.specs.PathOrder.{path_itself}
use Rattle.ix_facts.specs.Stores.{Reached, IsAbove, Gives, operated, with_outcome}
use Rattle.ix_facts.proofs.ClosureLaws.{follows_from, said_follows, in_kept}
use Rattle.ix_facts.proofs.FactLists.{in_left, in_right}
use Rattle.ix_facts.proofs.Frame.{without_in}
use Rattle.ix_guard_promise.specs.KnownFacts.{inside_facts}

-- a store whose facts follow
pub each_follows : (facts others : List Fact) → ((f : Fact) → IsIn f others → Follows facts f) → IsAbove facts (Reached others)
each_follows facts others follow = inr (λ f said. follows_from facts others follow f (said_follows others f said))

one_follows : (facts : List Fact) (one : Fact) → Follows facts one → IsAbove facts (Reached (one ∷ []))
one_follows facts one first = each_follows facts (one ∷ []) (λ f i. ⊎_elim (λ e. subst (Follows facts) (sym e) first) (λ none. absurd none) i)

two_follow : (facts : List Fact) (one two : Fact) → Follows facts one → Follows facts two → IsAbove facts (Reached (one ∷ two ∷ []))
two_follow facts one two first second = each_follows facts (one ∷ two ∷ []) (λ f i. ⊎_elim
    (λ e. subst (Follows facts) (sym e) first)
    (λ j. ⊎_elim (λ e. subst (Follows facts) (sym e) second) (λ none. absurd none) j) i)

-- ---- the facts between the comparisons

abbrev pub zero_facts : ℕ → List Fact
zero_facts slot = Rng (Slot slot) (pos 0) (pos 0) ∷ []

abbrev pub from_zero : ℕ → Fact
from_zero index = Rng (Slot index) (pos 0) greatest_int

abbrev pub low_facts : ℕ → List Fact
low_facts index = from_zero index ∷ []

abbrev pub length_facts : (array index length : ℕ) → List Fact
length_facts array index length = from_zero index ∷ IsLen (Slot length) (Slot array) ∷ []

-- ---- `index < 0` fails

pub zero_made : (profile : Profile) (slot : ℕ) → Gives (operated profile (op.Const slot (literal.Int (pos 0)))) (Reached []) (Reached (zero_facts slot))
zero_made profile slot = one_follows _ (Rng (Slot slot) (pos 0) (pos 0)) (given (Rng (Slot slot) (pos 0) (pos 0)) (inl refl))

zero_bound : (slot : ℕ) → Bounds.lower_bound (zero_facts slot) (Slot slot) ≡ pos 0
zero_bound slot = rw (path_itself (Slot slot)) refl

low_given : (slot index : ℕ) → IsIn (Rng (Slot index) (Bounds.lower_bound (zero_facts slot) (Slot slot) -ℤ pos 1 -ℤ pos 1 +ℤ pos 2) greatest_int) (below_facts (zero_facts slot) (Slot slot) (Slot index) (pos 1))
low_given slot index =
    let facts : List Fact = zero_facts slot in
    let p : Path = Slot slot in
    let q : Path = Slot index in
    let f : Fact = Rng (Slot index) (Bounds.lower_bound (zero_facts slot) (Slot slot) -ℤ pos 1 -ℤ pos 1 +ℤ pos 2) greatest_int in
    in_left f (range_part facts p q (pos 1)) (difference_part facts p q (pos 1) ++ (bound_part facts p q (pos 1) ++ (length_part facts p q (pos 1) ++ sum_part facts p q (pos 1))))
    (in_right f (at_below (high_end facts p q (pos 1)) facts p) (at_above (low_end facts p q (pos 1)) facts q) (inl refl))

pub low_told : (slot index : ℕ) → Gives (with_outcome (Below (Slot slot) (Slot index) (pos 1))) (Reached (zero_facts slot)) (Reached (low_facts index))
low_told slot index = one_follows _ (from_zero index) (given (from_zero index) (inr (in_kept (from_zero index) (from_zero index) (below_facts (zero_facts slot) (Slot slot) (Slot index) (pos 1))
    (subst (λ n. IsIn (Rng (Slot index) (n -ℤ pos 1 -ℤ pos 1 +ℤ pos 2) greatest_int) (below_facts (zero_facts slot) (Slot slot) (Slot index) (pos 1))) (zero_bound slot) (low_given slot index))
    (inl refl))))

-- ---- `index >= array.length` fails

pub length_made : (profile : Profile) (array index slot : ℕ) → (index == slot) ≡ false → Gives (operated profile (op.Length slot array)) (Reached (low_facts index)) (Reached (length_facts array index slot))
length_made profile array index slot apart =
    two_follow _ (from_zero index) (IsLen (Slot slot) (Slot array))
    (given (from_zero index) (in_left (from_zero index) (without (of_slot slot) (low_facts index)) _ (without_in (of_slot slot) (from_zero index) (low_facts index) (inl refl) apart)))
    (given (IsLen (Slot slot) (Slot array)) (in_right (IsLen (Slot slot) (Slot array)) (without (of_slot slot) (low_facts index)) _ (inl refl)))

high_given : (array index slot : ℕ) → IsIn (Upper (Slot index) (Slot array) Nothing (pos 0)) (each (bound_moved (Slot index) (negsuc 0) (Slot slot)) (length_facts array index slot))
high_given array index slot = rw (path_itself (Slot slot)) (inl refl)

high_in : (array index slot : ℕ) → IsIn (Upper (Slot index) (Slot array) Nothing (pos 0)) (below_facts (length_facts array index slot) (Slot index) (Slot slot) (pos 0))
high_in array index slot =
    let facts : List Fact = length_facts array index slot in
    let p : Path = Slot index in
    let q : Path = Slot slot in
    let f : Fact = Upper (Slot index) (Slot array) Nothing (pos 0) in
    in_right f (range_part facts p q (pos 0)) (difference_part facts p q (pos 0) ++ (bound_part facts p q (pos 0) ++ (length_part facts p q (pos 0) ++ sum_part facts p q (pos 0))))
    (in_right f (difference_part facts p q (pos 0)) (bound_part facts p q (pos 0) ++ (length_part facts p q (pos 0) ++ sum_part facts p q (pos 0)))
    (in_left f (bound_part facts p q (pos 0)) (length_part facts p q (pos 0) ++ sum_part facts p q (pos 0))
    (in_left f (each (bound_moved (Slot index) (negsuc 0) (Slot slot)) facts) (each (below_by (λ r c. each (bound_moved r (c +ℤ pos 0 -ℤ pos 2) q) facts) p) facts) (high_given array index slot))))

pub high_told : (array index slot : ℕ) → Gives (with_outcome (Below (Slot index) (Slot slot) (pos 0))) (Reached (length_facts array index slot)) (Reached (inside_facts array index))
high_told array index slot =
    two_follow _ (from_zero index) (Upper (Slot index) (Slot array) Nothing (pos 0))
    (given (from_zero index) (inl refl))
    (given (Upper (Slot index) (Slot array) Nothing (pos 0)) (inr (inr (in_kept (Upper (Slot index) (Slot array) Nothing (pos 0)) (Upper (Slot index) (Slot array) Nothing (pos 0)) (below_facts (length_facts array index slot) (Slot index) (Slot slot) (pos 0)) (high_in array index slot) (inl refl)))))
