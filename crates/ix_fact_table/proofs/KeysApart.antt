-- Keys that rise are apart, and sorted keys that are apart rise.
use Rattle.std.specs.Prelude.{◌≡◌, ◌<◌, ℕ, suc, ◌+◌, Bool, true, false, ◌&&◌, List, [], ◌∷◌, length, drop, get_or, slice_index_or, refl}
use Rattle.std.specs.List.{IsDistinct, AllByRecursion}
use Rattle.std.specs.List.Sorted.{IsSorted, IsStrictlySortedBy}
use Rattle.std.specs.Ordering.{is_lt, is_eq, eq_by_cmp, ordering_reverse}
use Rattle.std.specs.declared.cmp.Ordering.{Ordering}
use Rattle.std.specs.declared.cmp.Ordering.TheVariants.{Less as Before, Equal, Greater}
use Rattle.std.proofs.Common.{arith, add-one, ap, sym, ◌∙◌, subst}
use Rattle.std.proofs.Math.Seq.{drop-cons}
use Rattle.std.proofs.lemmas.Bool.{and_parts, false≢true}
use Rattle.ix_core.specs.declared.fact.Fact.{Fact}
use Rattle.ix_fact_table.specs.Apart.{rise_from, all_rise}
use Rattle.ix_fact_table.specs.FactOrder.{fact_cmp, fact_total}

less_is : (o : Ordering) → is_lt o ≡ true → o ≡ Before
less_is Before h = refl
less_is Equal h = absurd (false≢true h)
less_is Greater h = absurd (false≢true h)

through : (last key : Fact) (keys : List Fact) → fact_cmp last key ≡ Before → AllByRecursion (λ y. fact_cmp key y ≡ Before) keys → AllByRecursion (λ y. fact_cmp last y ≡ Before) keys
through last key [] less all = tt
through last key (next ∷ keys) less all = (fact_total.trans last key next less all.0, through last key keys less all.1)

strictly : (last : Fact) (keys : List Fact) → rise_from last keys ≡ true → AllByRecursion (λ y. fact_cmp last y ≡ Before) keys × IsStrictlySortedBy fact_cmp keys
unfolding IsStrictlySortedBy
strictly last [] h = (tt, tt)
strictly last (key ∷ keys) h =
    let parts = and_parts (is_lt (fact_cmp last key)) (rise_from key keys) h in
    let less = less_is (fact_cmp last key) parts.0 in
    let rest = strictly key keys parts.1 in
    ((less, through last key keys less rest.0), (rest.0, rest.1))

-- whether each key is less than the next one, told by the next key and those behind it
pub next_rises : (last : Fact) (more : List Fact) (place : ℕ) (default : Fact) (less whole : Bool) → place < length more → less ≡ is_lt (fact_cmp last (get_or more place default)) → rise_from last (drop place more) ≡ whole
    → whole ≡ (less && rise_from (get_or more place default) (drop (place + 1) more))
next_rises last more place default less whole within is so_far =
    let cut : drop place more ≡ get_or more place default ∷ drop (place + 1) more = rw add-one (drop-cons more place default within) in
    sym so_far ∙ (ap (rise_from last) cut ∙ ap (λ b. b && rise_from (get_or more place default) (drop (place + 1) more)) (sym is))

pub rising_strict : (keys : List Fact) → all_rise keys ≡ true → IsStrictlySortedBy fact_cmp keys
unfolding IsStrictlySortedBy
rising_strict [] h = tt
rising_strict (key ∷ keys) h = strictly key keys h

-- of two that aren't equal, where the second isn't before the first, the first is before the second
first_before : (one other : Fact) (o : Ordering) → fact_cmp one other ≡ o → is_lt (fact_cmp other one) ≡ false → is_eq o ≡ false → is_lt o ≡ true
first_before one other Before e back apart = refl
first_before one other Equal e back apart = absurd (false≢true (sym apart))
first_before one other Greater e back apart = absurd (false≢true (sym back ∙ ap is_lt (fact_total.antisymm other one ∙ ap ordering_reverse e)))

next_sorted : (last key : Fact) (keys : List Fact) → IsSorted fact_cmp (last ∷ key ∷ keys) → IsSorted fact_cmp (key ∷ keys)
next_sorted last key keys sorted k d low high =
    let e : suc k + 1 ≡ suc (k + 1) = omega arith in
    subst (λ n. is_lt (fact_cmp (slice_index_or (last ∷ key ∷ keys) n d) (slice_index_or (key ∷ keys) k d)) ≡ false) e (sorted (suc k) d (omega (arith)) (omega (arith, high)))

rise_by : (last : Fact) (keys : List Fact) → IsSorted fact_cmp (last ∷ keys) → IsDistinct (eq_by_cmp fact_cmp) (last ∷ keys) → rise_from last keys ≡ true
unfolding IsDistinct
rise_by last [] sorted apart = refl
rise_by last (key ∷ keys) sorted apart =
    let back = sorted 0 last (omega (arith)) (omega (arith)) in
    let here = first_before last key (fact_cmp last key) refl back apart.0.0 in
    let rest = rise_by key keys (next_sorted last key keys sorted) apart.1 in
    rw here (rw rest refl)

pub apart_rise : (keys : List Fact) → IsSorted fact_cmp keys → IsDistinct (eq_by_cmp fact_cmp) keys → all_rise keys ≡ true
apart_rise [] sorted apart = refl
apart_rise (key ∷ keys) sorted apart = rise_by key keys sorted apart

-- neither of two facts decides whether they are at one key
pub key_flips : (f g : Fact) → eq_by_cmp fact_cmp f g ≡ eq_by_cmp fact_cmp g f
key_flips f g = by_reverse (fact_cmp f g) (fact_cmp g f) (fact_total.antisymm f g)
  where
    by_reverse : (o r : Ordering) → o ≡ ordering_reverse r → is_eq o ≡ is_eq r
    by_reverse o Before e = ap is_eq e
    by_reverse o Equal e = ap is_eq e
    by_reverse o Greater e = ap is_eq e
