-- The values of a call with its result in the slot behind them.
use Rattle.std.specs.Prelude.{◌≡◌, ℕ, zero, suc, ◌<◌, ◌==◌, false, pos, List, [], ◌∷◌, refl}
use Rattle.std.proofs.Common.{arith, sym}
use Rattle.std.proofs.lemmas.Bool.{false≢true}
use Rattle.std.proofs.lemmas.Bool.Decides.{nat_tests}
use Rattle.std.proofs.lemmas.Int.{ints}
use Rattle.ix_core.specs.Heap.{Held, Num, value_at}
use Rattle.ix_core.specs.Objects.{IsIntHeld}

pub with_result : ℕ → List Held → Held → List Held
with_result zero values value = value ∷ []
with_result (suc r) [] value = Num (pos 0) ∷ with_result r [] value
with_result (suc r) (x ∷ values) value = x ∷ with_result r values value

pub front_same : (r : ℕ) (values : List Held) (value : Held) (k : ℕ) → k < r → value_at (with_result r values value) k ≡ value_at values k
unfolding with_result
front_same zero values value k lt = absurd (omega (arith, lt))
front_same (suc r) [] value zero lt = refl
front_same (suc r) [] value (suc k) lt = front_same r [] value k (omega (arith, lt))
front_same (suc r) (x ∷ values) value zero lt = refl
front_same (suc r) (x ∷ values) value (suc k) lt = front_same r values value k (omega (arith, lt))

pub result_at : (r : ℕ) (values : List Held) (value : Held) → value_at (with_result r values value) r ≡ value
unfolding with_result
result_at zero values value = refl
result_at (suc r) [] value = result_at r [] value
result_at (suc r) (x ∷ values) value = result_at r values value

-- of every slot but the result's the two lists have the same
pub same_but : (r : ℕ) (values : List Held) (a b : Held) (k : ℕ) → (k == r) ≡ false → value_at (with_result r values a) k ≡ value_at (with_result r values b) k
unfolding with_result
same_but zero values a b zero apart = absurd (false≢true (sym apart))
same_but zero values a b (suc k) apart = refl
same_but (suc r) [] a b zero apart = refl
same_but (suc r) [] a b (suc k) apart = same_but r [] a b k (grind (arith, nat_tests))
same_but (suc r) (x ∷ values) a b zero apart = refl
same_but (suc r) (x ∷ values) a b (suc k) apart = same_but r values a b k (grind (arith, nat_tests))

pub each_held : (P : Held → Type 0) (r : ℕ) (values : List Held) (value : Held) → P (Num (pos 0)) → P value → ((k : ℕ) → P (value_at values k)) → (k : ℕ) → P (value_at (with_result r values value) k)
unfolding with_result
each_held P zero values value none here each zero = here
each_held P zero values value none here each (suc k) = none
each_held P (suc r) [] value none here each zero = none
each_held P (suc r) [] value none here each (suc k) = each_held P r [] value none here (λ j. none) k
each_held P (suc r) (x ∷ values) value none here each zero = each 0
each_held P (suc r) (x ∷ values) value none here each (suc k) = each_held P r values value none here (λ j. each (suc j)) k

pub zero_int : IsIntHeld (Num (pos 0))
zero_int = record { from = omega (arith, ints); to = omega (arith, ints) }
