-- Paths and offsets are equal in their orders exactly where they are the same.
use Rattle.std.specs.Prelude.{◌≡◌, ℕ, ◌==◌, ◌&&◌, refl}
use Rattle.std.specs.Ordering.{is_eq, nat_cmp, ordering_then}
use Rattle.std.proofs.Common.{arith}
use Rattle.std.proofs.lemmas.Bool.Decides.{nat_tests}
use Rattle.ix_core.specs.declared.fact.Path.{Path}
use Rattle.ix_core.specs.declared.fact.Path.TheVariants.{Slot, FieldOf}
use Rattle.ix_core.specs.declared.fact.PathOff.{PathOff}
use Rattle.ix_core.specs.declared.fact.PathOff.TheVariants.{Nothing, Plus, Minus}
use Rattle.ix_facts.specs.Bounds.{is_path, is_offset}
use Rattle.ix_facts.specs.PathOrder.{path_cmp, offset_cmp}

nat_equal : (s t : ℕ) → is_eq (nat_cmp s t) ≡ (s == t)
nat_equal s t = grind (arith, nat_tests)

both_equal : (s t f g : ℕ) → is_eq (ordering_then (nat_cmp s t) (nat_cmp f g)) ≡ ((s == t) && (f == g))
both_equal s t f g = grind (arith, nat_tests)

pub path_equal : (p q : Path) → is_eq (path_cmp p q) ≡ is_path p q
path_equal (Slot s) (Slot t) = nat_equal s t
path_equal (Slot s) (FieldOf t g) = refl
path_equal (FieldOf s f) (Slot t) = refl
path_equal (FieldOf s f) (FieldOf t g) = both_equal s t f g

pub offset_equal : (x y : PathOff) → is_eq (offset_cmp x y) ≡ is_offset x y
offset_equal Nothing Nothing = refl
offset_equal Nothing (Plus q) = refl
offset_equal Nothing (Minus q) = refl
offset_equal (Plus p) Nothing = refl
offset_equal (Plus p) (Plus q) = path_equal p q
offset_equal (Plus p) (Minus q) = refl
offset_equal (Minus p) Nothing = refl
offset_equal (Minus p) (Plus q) = refl
offset_equal (Minus p) (Minus q) = path_equal p q
