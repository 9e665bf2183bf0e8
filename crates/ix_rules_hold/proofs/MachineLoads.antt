-- What is loaded meets the claims on elements with which its array was made.
use Rattle.std.specs.Prelude.{◌≡◌, ℕ, ◌<◌, ℤ, pos, int_le, int_lt, unsigned_abs, true, List, length}
use Rattle.std.proofs.Common.{arith, sym, subst, ⊎_elim}
use Rattle.std.proofs.lemmas.Bool.{and_parts}
use Rattle.std.proofs.lemmas.Int.{ints}
use Rattle.ix_core.specs.declared.claim.Claim.{Claim}
use Rattle.ix_core.specs.declared.claim.Type_.{Type_}
use Rattle.ix_core.specs.declared.op.OpKind.TheVariants as op
use Rattle.ix_core.specs.Claims.{AreTrueOf}
use Rattle.ix_core.specs.Heap.{Held, Num, Boolean, Null, At, Heap, value_at, object_at, array_at, int_of, is_within}
use Rattle.ix_core.specs.Machine.{int_at}
use Rattle.ix_core.specs.Objects.{HeapKeeps, kind_claims, MeetsElement}
use Rattle.ix_core.specs.World.{World}
use Rattle.ix_rules_hold.specs.MachineSteps.{LoadsMet, IsNumber, HoldsElements}

is_below : (index : ℤ) (size : ℕ) → is_within index size ≡ true → unsigned_abs index < size
is_below index size e = let both = and_parts (int_le (pos 0) index) (int_lt index (pos size)) e in let a = both.0 in let b = both.1 in omega (arith, ints, a, b)

element_true : (claims : List Claim) (held : Held) → IsNumber held → MeetsElement claims held → AreTrueOf claims (int_of held)
element_true claims (Num n) is meets = meets
element_true claims (Boolean answer) is meets = absurd is
element_true claims Null is meets = absurd is
element_true claims (At number) is meets = absurd is

pub loads_met : (world : World) (building : ℕ → Type 0) (slots : List Held) (heap : Heap) → HeapKeeps world building heap → (t a i : ℕ) (ty : Type_) → ((number : ℕ) → value_at slots a ≡ At number → HoldsElements ty heap number)
    → LoadsMet (op.Load t a i ty) slots heap
loads_met world building slots heap keeps t a i ty holds number e inside =
    let cell = value_at (array_at heap number) (unsigned_abs (int_at slots i)) in
    ⊎_elim
    (λ none. subst (λ claims. AreTrueOf claims (int_of cell)) (sym none) tt)
    (λ typed.
    subst (λ claims. AreTrueOf claims (int_of cell)) typed.0
    (element_true (kind_claims (object_at heap number).kind) cell (typed.1 (unsigned_abs (int_at slots i))) (keeps.elements number (unsigned_abs (int_at slots i)) (is_below (int_at slots i) (length (array_at heap number)) inside))))
    (holds number e)
