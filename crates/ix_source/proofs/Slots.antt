-- What slots hold after a temporary or a variable was written.
use Rattle.std.proofs.Common.{◌≡◌, ◌≤◌, ◌<◌, ℕ, ◌==◌, true, false, List, length, Option, Some, None, true≢false, refl, sym, ap, ◌∙◌, arith}
use Rattle.std.specs.Prelude.{slice_set}
use Rattle.std.proofs.lemmas.List.{length-set}
use Rattle.ix_core.specs.Heap.{Held, value_at}
use Rattle.ix_core.proofs.Cases.{by_test, differ, equal}
use Rattle.ix_core.proofs.Heaps.{value_set, value_other}
use Rattle.ix_meaning.specs.declared.note.Meaning.{Meaning}
use Rattle.ix_meaning.specs.declared.note.Meaning.TheVariants as meaning
use Rattle.ix_plain.specs.Scope.{slot_of, is_among}
use Rattle.ix_source.specs.Runs.{Variables, set_at, held_by, with_held}
use Rattle.ix_source.specs.Along.{Setting, IsSet, Agrees, Keeps, is_variable}

false≢true : false ≡ true → ⊥
false≢true e = true≢false (sym e)

set_here : (n : ℕ) (value : Held) (values : ℕ → Held) → set_at n value values n ≡ value
set_here n value values = by_test (n == n) (λ t. rw t refl) (λ e. absurd (differ n n e refl))

set_there : (n k : ℕ) (value : Held) (values : ℕ → Held) → (k == n) ≡ false → set_at n value values k ≡ values k
set_there n k value values e = rw e refl

-- the variable that is written holds the value
pub held_here : (m : Meaning) → is_variable m ≡ true → (value : Held) (variables : Variables) → held_by (with_held (Some m) value variables) (Some m) ≡ value
held_here (meaning.Local n) k value variables = set_here n value variables.locals
held_here (meaning.Param n) k value variables = set_here n value variables.params
held_here other k value variables = absurd (false≢true k)

-- and every other one what it held
pub held_there : (m o : Meaning) → is_variable o ≡ true → (o ≡ m → ⊥) → (value : Held) (variables : Variables) → held_by (with_held (Some m) value variables) (Some o) ≡ held_by variables (Some o)
held_there (meaning.Local n) (meaning.Local k) v other value variables = by_test (k == n) (λ t. absurd (other (ap meaning.Local (equal k n t)))) (λ e. set_there n k value variables.locals e)
held_there (meaning.Param n) (meaning.Param k) v other value variables = by_test (k == n) (λ t. absurd (other (ap meaning.Param (equal k n t)))) (λ e. set_there n k value variables.params e)
held_there (meaning.Local n) (meaning.Param k) v other value variables = refl
held_there (meaning.Param n) (meaning.Local k) v other value variables = refl
held_there (meaning.Local n) o v other value variables = absurd (false≢true v)
held_there (meaning.Param n) o v other value variables = absurd (false≢true v)
held_there m o v other value variables = refl

pub this_there : (m : Option Meaning) (value : Held) (variables : Variables) → (with_held m value variables).this ≡ variables.this
this_there None value variables = refl
this_there (Some (meaning.Local n)) value variables = refl
this_there (Some (meaning.Param n)) value variables = refl
this_there (Some m) value variables = refl

some_same : (a b : Meaning) → Some a ≡ Some b → a ≡ b
some_same a b e = cc e

none_some : (m : Meaning) → None ≡ Some m → ⊥
none_some m e = cc e

is_off : (s t : ℕ) → (s ≡ t → ⊥) → (s == t) ≡ false
is_off s t other = by_test (s == t) (λ e. absurd (other (equal s t e))) (λ e. e)

module _ (z : Setting) (set : IsSet z) where
  -- a temporary is no variable's slot
  pub agrees_temporary : (slots : List Held) (variables : Variables) (t : ℕ) (value : Held) → z.base ≤ t → Agrees z slots variables → Agrees z (slice_set slots t value) variables
  agrees_temporary slots variables t value le a = record {
    held = λ slot m own. let low = set.low slot m own in value_other slots t slot value (is_off slot t (λ e. omega (arith, le, low, e))) ∙ a.held slot m own;
    this = λ has. let low = set.this_low has in (value_other slots t 0 value (is_off 0 t (λ e. omega (arith, le, low, e))) ∙ (a.this has).0, (a.this has).1);
  }

  pub keeps_temporary : (slots : List Held) (t free : ℕ) (value : Held) → free ≤ t → Keeps z free slots (slice_set slots t value)
  keeps_temporary slots t free value le = record {
    size = length-set slots t value;
    same = λ slot low stays. value_other slots t slot value (is_off slot t (λ e. omega (arith, le, low, e)));
  }

  -- a variable's slot is written with the variable
  pub agrees_variable : (slots : List Held) (variables : Variables) (t : ℕ) (m : Meaning) (value : Held) → z.owner t ≡ Some m → t < length slots → Agrees z slots variables
      → Agrees z (slice_set slots t value) (with_held (Some m) value variables)
  agrees_variable slots variables t m value own room a = record {
    held = λ slot o owns. by_test (slot == t)
        (λ e. let is : slot ≡ t = equal slot t e in
        let same : o ≡ m = some_same o m (sym owns ∙ ap z.owner is ∙ own) in
        ap (value_at (slice_set slots t value)) is ∙ value_set slots t value room ∙ sym (held_here m (set.kind t m own) value variables) ∙ ap (λ x. held_by (with_held (Some m) value variables) (Some x)) (sym same))
        (λ e. value_other slots t slot value e ∙ a.held slot o owns ∙ sym (held_there m o (set.kind slot o owns) (λ same. differ slot t e (sym (set.own slot o owns) ∙ ap (λ x. slot_of z.scope (Some x)) same ∙ set.own t m own)) value variables));
    this = λ has. (value_other slots t 0 value (is_off 0 t (λ e. none_some m (sym (set.this has) ∙ ap z.owner e ∙ own))) ∙ (a.this has).0, this_there (Some m) value variables ∙ (a.this has).1);
  }

  pub keeps_variable : (slots : List Held) (t free : ℕ) (value : Held) → is_among t z.scope.assigned ≡ true → Keeps z free slots (slice_set slots t value)
  keeps_variable slots t free value assigned = record {
    size = length-set slots t value;
    same = λ slot low stays. value_other slots t slot value (is_off slot t (λ e. true≢false (sym assigned ∙ ap (λ s. is_among s z.scope.assigned) (sym e) ∙ stays)));
  }
