-- Bodies by example, of `int get(int[] a, int i)`: behind a guard `a[i]` is guarded; without one, and where the guard's index was assigned, it isn't.
use Rattle.std.proofs.Common.{◌≡◌, ℕ, [], ◌∷◌, Some, refl}
use Rattle.std.specs.Prelude.{pos}
use Rattle.ix_num.specs.declared.rel.Rel.TheVariants.{Eq, Lt, Ge}
use Rattle.ix_text.specs.declared.span.Span.{Span}
use Rattle.ix_core.specs.declared.claim.Base.TheVariants as base
use Rattle.ix_core.specs.declared.claim.Type_.{Type_}
use Rattle.ix_core.specs.declared.claim.Type_.TheVariants as type
use Rattle.ix_core.specs.declared.op.Literal.TheVariants as literal
use Rattle.ix_core.specs.declared.op.Op.{Op}
use Rattle.ix_core.specs.declared.op.OpKind.{OpKind}
use Rattle.ix_core.specs.declared.op.OpKind.TheVariants as op
use Rattle.ix_core.specs.declared.op.Test.{Test}
use Rattle.ix_core.specs.Code.{Code, End, Do, If, Return, Throw}
use Rattle.ix_core.specs.Types.{int_type}
use Rattle.ix_guard_promise.specs.Known.{Known, Nowhere, Unknown, Inside, behind}
use Rattle.ix_guard_promise.specs.Guards.{Guarded, Guards, IsGuarded, IsTest, outside, ends, does, returns}
use Rattle.ix_guard_promise.proofs.GuardedPieces.{guard_then}

abbrev span : ℕ → ℕ → Span
span from to = record { from = from; to = to }

abbrev ints : Type_
ints = type.Array base.Int 1 []

abbrev done : OpKind → Span → Op
done kind place = record { kind = kind; span = place; parts = [] }

-- `a` is in slot 0, `i` in slot 1; the guard stands from 40 to 60, and the `i` of `a[i]` from 72 to 73
abbrev guard_span : Span
guard_span = span 40 60

abbrev index_span : Span
index_span = span 72 73

abbrev null : Op
null = done (op.Const 2 (literal.NullOf ints)) guard_span

abbrev low : Op
low = done (op.Const 3 (literal.Int (pos 0))) guard_span

abbrev size : Op
size = done (op.Length 4 0) guard_span

abbrev is_null : Test
is_null = record { rel = Eq; left = 0; right = 2; ty = ints; left_span = guard_span; right_span = guard_span }

abbrev is_negative : Test
is_negative = record { rel = Lt; left = 1; right = 3; ty = int_type; left_span = guard_span; right_span = guard_span }

abbrev is_too_high : Test
is_too_high = record { rel = Ge; left = 1; right = 4; ty = int_type; left_span = guard_span; right_span = guard_span }

abbrev load : Op
load = done (op.Load 2 0 1 ints) index_span

-- `return a[i];`
abbrev returned : Code
returned = Do load (Return (Some 2) index_span End)

-- `if (a == null || i < 0 || i >= a.length) throw new E(); return a[i];`
abbrev guarded_body : Code
guarded_body = If (outside null low size is_null is_negative is_too_high) (Throw (69 ∷ []) guard_span End) End returned

is_test : IsTest 0 1 null low size is_null is_negative is_too_high
is_test = record {
  null_slot = 2;
  zero_slot = 3;
  length_slot = 4;
  ty = ints;
  null_type = ints;
  makes_null = refl;
  makes_zero = refl;
  makes_length = refl;
  asks_null = record { by = refl; first = refl; second = refl; of = refl };
  asks_negative = record { by = refl; first = refl; second = refl; of = refl };
  asks_too_high = record { by = refl; first = refl; second = refl; of = refl };
  apart = refl;
}

some_same : (one other : ℕ × ℕ) → Some one ≡ Some other → (one.0 ≡ other.0) × (one.1 ≡ other.1)
some_same one other same = (cc, cc)

row_guarded : Guards index_span guarded_body
row_guarded =
    guard_then index_span 0 1 null low size is_null is_negative is_too_high (69 ∷ []) guard_span returned Unknown Unknown is_test
    (does load (Return (Some 2) index_span End) (Inside 0 1) Unknown (λ access is at. some_same (0, 1) access is)
    (returns (Some 2) index_span End (Inside 0 1) Unknown (ends Nowhere Unknown tt)))

-- what a body asks of its first operation
first_asks : (first : Op) (rest : Code) (before end : Known) → Guarded index_span before (Do first rest) end → IsGuarded index_span before first
first_asks _ _ _ _ (does first rest before end guarded next) = guarded

-- `return a[i];` alone
row_unguarded : Guards index_span returned → ⊥
row_unguarded guards = first_asks load (Return (Some 2) index_span End) Unknown Unknown guards (0, 1) refl refl

-- behind `i = j;` nothing is known of `a[i]`, and behind `j = i;` what was known
row_assigned : behind (op.Copy 1 5 int_type) (Inside 0 1) ≡ Unknown
row_assigned = refl

row_other_assigned : behind (op.Copy 5 1 int_type) (Inside 0 1) ≡ Inside 0 1
row_other_assigned = refl
