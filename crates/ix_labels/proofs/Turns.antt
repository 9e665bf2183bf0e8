-- The order in which labels are made one after the other: the entry, the nodes of the code, and node 1, the end of the body.
use Rattle.std.proofs.Common.{◌≡◌, inl, inr, ◌+◌, ◌-◌, ◌<◌, ℕ, zero, suc, if◌then◌else◌, List, [], ◌∷◌, Some, length, slice_get, unwrap_or, arith, refl, sym, ap, subst, ◌∙◌}
use Rattle.std.proofs.lemmas.Bool.{cases_eq, cases_lt, eq-eqb, ne_eqb}
use Rattle.ix_labels.specs.Runs.{node_before, node_in_turn}
use Rattle.ix_labels.specs.RunLaws.{there}

-- the turn of a node, which is the same number as that of the node before it
abbrev pub turn_of : ℕ → ℕ → ℕ
turn_of = node_before

pub turn_within : (count at : ℕ) → at < count → turn_of count at < count
turn_within count zero within = within
turn_within count (suc zero) within = omega (arith, within)
turn_within count (suc (suc at)) within = omega (arith, within)

at_turn : (count turn : ℕ) → suc (suc turn) ≡ count → node_in_turn count (suc turn) ≡ 1
at_turn count turn is = ap (λ b. if b then 1 else suc (suc turn)) (eq-eqb (suc (suc turn)) count is)

before_turn : (count turn : ℕ) → (suc (suc turn) ≡ count → ⊥) → node_in_turn count (suc turn) ≡ suc (suc turn)
before_turn count turn other = ap (λ b. if b then 1 else suc (suc turn)) (ne_eqb (suc (suc turn)) count other)

end_back : (count : ℕ) → 1 < count → node_in_turn count (count - 1) ≡ 1
end_back zero within = absurd (omega (arith, within))
end_back (suc zero) within = absurd (omega (arith, within))
end_back (suc (suc count)) within =
    let e : suc (suc count) - 1 ≡ suc count = omega arith in
    ap (node_in_turn (suc (suc count))) e ∙ at_turn (suc (suc count)) count refl

pub turn_back : (count at : ℕ) → at < count → node_in_turn count (turn_of count at) ≡ at
turn_back count zero within = refl
turn_back count (suc zero) within = end_back count within
turn_back count (suc (suc at)) within = before_turn count at (λ is. omega (arith, is, within))

pub node_turn : (count turn : ℕ) → turn < count → turn_of count (node_in_turn count turn) ≡ turn
node_turn count zero within = refl
node_turn count (suc turn) within = elim (cases_eq (suc (suc turn)) count) [
  | inl is ↦ ap (turn_of count) (at_turn count turn is) ∙ (let e : count - 1 ≡ suc turn = omega (arith, is) in e)
  | inr other ↦ ap (turn_of count) (before_turn count turn other)
]

pub node_within : (count turn : ℕ) → turn < count → node_in_turn count turn < count
node_within count zero within = within
node_within count (suc turn) within = elim (cases_eq (suc (suc turn)) count) [
  | inl is ↦ subst (λ n. n < count) (sym (at_turn count turn is)) (omega (arith, is))
  | inr other ↦ subst (λ n. n < count) (sym (before_turn count turn other)) (elim (cases_lt (suc (suc turn)) count) [
    | inl low ↦ low
    | inr high ↦ absurd (other (omega (arith, high, within)))
  ])
]

-- the node before one that has a turn behind the first two is the one whose turn is before
pub turn_down : (count at : ℕ) → 1 < at → at ≡ suc (turn_of count at)
turn_down count zero more = absurd (omega (arith, more))
turn_down count (suc zero) more = absurd (omega (arith, more))
turn_down count (suc (suc at)) more = refl

-- what is in the order of turns, in the order of the nodes
abbrev pub tabled : {A : Type 0} → (ℕ → A) → ℕ → ℕ → List A
tabled given from zero = []
tabled given from (suc count) = given from ∷ tabled given (suc from) count

tabled_many : {A : Type 0} (given : ℕ → A) (from count : ℕ) → length (tabled given from count) ≡ count
tabled_many given from zero = refl
tabled_many given from (suc count) = ap (λ n. suc n) (tabled_many given (suc from) count)

tabled_there : {A : Type 0} (given : ℕ → A) (from count at : ℕ) → at < count → slice_get (tabled given from count) at ≡ Some (given (from + at))
tabled_there given from zero at within = absurd (omega (arith, within))
tabled_there given from (suc count) zero within = let e : from ≡ from + 0 = omega arith in ap (λ n. Some (given n)) e
tabled_there given from (suc count) (suc at) within = let e : suc from + at ≡ from + suc at = omega arith in tabled_there given (suc from) count at (omega (arith, within)) ∙ ap (λ n. Some (given n)) e

abbrev pub in_order : {A : Type 0} → A → ℕ → List A → List A
in_order none count made = tabled (λ at. unwrap_or (slice_get made (turn_of count at)) none) 0 count

pub order_many : {A : Type 0} (none : A) (count : ℕ) (made : List A) → length (in_order none count made) ≡ count
order_many none count made = tabled_many (λ at. unwrap_or (slice_get made (turn_of count at)) none) 0 count

pub order_there : {A : Type 0} (none : A) (count : ℕ) (made : List A) (at : ℕ) → length made ≡ count → at < count → slice_get (in_order none count made) at ≡ slice_get made (turn_of count at)
order_there none count made at many within =
    let turn = turn_of count at in
    let low = turn_within count at within in
    let l = there made turn (omega (arith, low, many)) in
    let e : 0 + at ≡ at = omega arith in
    tabled_there (λ n. unwrap_or (slice_get made (turn_of count n)) none) 0 count at within ∙ ap (λ n. Some (unwrap_or (slice_get made (turn_of count n)) none)) e
    ∙ ap (λ o. Some (unwrap_or o none)) l.1 ∙ sym l.1
