-- What is known of a sign by the table that has it.
use Rattle.std.proofs.Common.{◌≡◌, ℕ, ◌<◌, ◌==◌, Bool, true, false, cond, List, [], ◌∷◌, Option, Some, None, refl, arith, inl, inr, eqb-true}
use Rattle.ix_text.specs.declared.span.Span.{Span}
use Rattle.ix_lexer.specs.declared.token.Token.{Token}
use Rattle.ix_tree.specs.declared.expr.BinaryOp.{BinaryOp}
use Rattle.ix_lexer.proofs.Scans.{chosen}
use Rattle.ix_grammar_rules.specs.Rule.{look}
use Rattle.ix_grammar.specs.Patterns.{sign, a_sign, row, with_span, one_of, an_operator, binary_signs}

-- no sign of the table is in the other one
abbrev pub lacks : {W : Type 0} → Option W → Bool
lacks None = true
lacks (Some w) = false

abbrev pub are_apart : {V W : Type 0} → List (ℕ × V) → List (ℕ × W) → Bool
are_apart [] other = true
are_apart (r ∷ table) other = cond (lacks (row other r.0)) (are_apart table other) false

lacks_none : {W : Type 0} (o : Option W) → lacks o ≡ true → o ≡ None
lacks_none None h = refl
lacks_none (Some w) h = absurd (cc)

pub apart : {V W : Type 0} (table : List (ℕ × V)) (other : List (ℕ × W)) (number : ℕ) (v : V) → are_apart table other ≡ true → row table number ≡ Some v → row other number ≡ None
apart [] other number v a h = absurd (cc)
apart (r ∷ table) other number v a h = elim (chosen (lacks (row other r.0)) (are_apart table other) false true a) [
  | inl l ↦ elim (chosen (number == r.0) (Some r.1) (row table number) (Some v) h) [
    | inl w ↦ (let e : number ≡ r.0 = eqb-true number r.0 w.0 in rw e (lacks_none (row other r.0) l.0))
    | inr w ↦ apart table other number v l.1 w.1
  ]
  | inr l ↦ absurd (cc)
]

none_if : {A : Type 0} (b : Bool) (x : A) → b ≡ false → cond b (Some x) None ≡ None
none_if b x h = rw h refl

-- a sign of a table is no sign that the table lacks
pub other_sign : {V : Type 0} (table : List (ℕ × V)) (number n : ℕ) (v : V) (s : Span) (us : List Token) → row table n ≡ None → row table number ≡ Some v → look (a_sign n) (sign number s ∷ us) ≡ None
other_sign table number n v s us lacks h = none_if (number == n) s (not_eq (number == n) refl)
  where
    not_eq : (b : Bool) → (number == n) ≡ b → (number == n) ≡ false
    not_eq true e = let same : number ≡ n = eqb-true number n e in absurd (clash (rw same at h))
      where
        clash : row table n ≡ Some v → ⊥
        clash g = cc
    not_eq false e = e

-- a sign of one table is none of another
pub other_table : {V W : Type 0} (table : List (ℕ × V)) (other : List (ℕ × W)) (number : ℕ) (v : V) (s : Span) (us : List Token) → are_apart table other ≡ true → row table number ≡ Some v → look (one_of other) (sign number s ∷ us) ≡ None
other_table table other number v s us a h = rw (apart table other number v a h) refl

pub no_operator : {V : Type 0} (table : List (ℕ × V)) (number : ℕ) (v : V) (s : Span) (us : List Token) (level : ℕ) → are_apart table binary_signs ≡ true → row table number ≡ Some v → look (an_operator level) (sign number s ∷ us) ≡ None
no_operator table number v s us level a h = rw (apart table binary_signs number v a h) refl

-- an operator of one level is none of another
pub other_level : (number n m : ℕ) (op : BinaryOp) (s : Span) (us : List Token) → m < n → row binary_signs number ≡ Some (n, op) → look (an_operator m) (sign number s ∷ us) ≡ None
other_level number n m op s us lt h = rw h (spanned_none (n == m) op s (unequal (n == m) refl))
  where
    spanned_none : (b : Bool) (op : BinaryOp) (s : Span) → b ≡ false → with_span (cond b (Some op) None) s ≡ None
    spanned_none b op s e = rw e refl

    unequal : (b : Bool) → (n == m) ≡ b → (n == m) ≡ false
    unequal true e = let same : n ≡ m = eqb-true n m e in absurd (omega (arith, same, lt))
    unequal false e = e
