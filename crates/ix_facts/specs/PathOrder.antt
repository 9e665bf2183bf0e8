-- The orders of paths and of offsets, by which tables are kept. Slots come before fields, each by its numbers.
use Rattle.std.specs.Prelude.{◌≡◌, ℕ, ◌==◌, true, refl}
use Rattle.std.specs.declared.cmp.Ordering.{Ordering}
use Rattle.std.specs.declared.cmp.Ordering.TheVariants.{Less, Equal, Greater}
use Rattle.std.specs.Ordering.{nat_cmp, ordering_then, then_cmp, on}
use Rattle.std.specs.Cmp.{IsTotalOrder}
use Rattle.std.proofs.Common.{arith, ap, subst}
use Rattle.std.proofs.lemmas.Bool.{false≢true, and_parts, and_from, eqb-true}
use Rattle.std.proofs.lemmas.Bool.Decides.{nat_tests}
use Rattle.std.proofs.lemmas.Cmp.{then_total, on_total, nat_cmp_total}
use Rattle.ix_core.specs.declared.fact.Path.{Path}
use Rattle.ix_core.specs.declared.fact.Path.TheVariants.{Slot, FieldOf}
use Rattle.ix_core.specs.declared.fact.PathOff.{PathOff}
use Rattle.ix_core.specs.declared.fact.PathOff.TheVariants.{Nothing, Plus, Minus}
use Rattle.ix_facts.specs.Bounds.{is_path}

abbrev pub path_cmp : Path → Path → Ordering
path_cmp (Slot s) (Slot t) = nat_cmp s t
path_cmp (Slot s) (FieldOf t g) = Less
path_cmp (FieldOf s f) (Slot t) = Greater
path_cmp (FieldOf s f) (FieldOf t g) = ordering_then (nat_cmp s t) (nat_cmp f g)

-- ---- the order is total

abbrev tag : Path → ℕ
tag (Slot s) = 0
tag (FieldOf s f) = 1

abbrev first : Path → ℕ
first (Slot s) = s
first (FieldOf s f) = s

abbrev second : Path → ℕ
second (Slot s) = 0
second (FieldOf s f) = f

abbrev by_parts : Path → Path → Ordering
by_parts = then_cmp (on tag nat_cmp) (then_cmp (on first nat_cmp) (on second nat_cmp))

then_equal : (o : Ordering) → ordering_then o Equal ≡ o
then_equal Less = refl
then_equal Equal = refl
then_equal Greater = refl

parts_same : (p q : Path) → by_parts p q ≡ path_cmp p q
parts_same (Slot s) (Slot t) = then_equal (nat_cmp s t)
parts_same (Slot s) (FieldOf t g) = refl
parts_same (FieldOf s f) (Slot t) = refl
parts_same (FieldOf s f) (FieldOf t g) = refl

pub path_total : IsTotalOrder path_cmp
path_total =
    let same : by_parts ≡ path_cmp = λ i p q. parts_same p q i in
    subst (λ (cmp : Path → Path → Ordering). IsTotalOrder cmp) same (then_total (on_total tag nat_cmp_total) (then_total (on_total first nat_cmp_total) (on_total second nat_cmp_total)))

-- ---- offsets: none before `+`, `+` before `-`, each by its path

abbrev pub offset_cmp : PathOff → PathOff → Ordering
offset_cmp Nothing Nothing = Equal
offset_cmp Nothing (Plus q) = Less
offset_cmp Nothing (Minus q) = Less
offset_cmp (Plus p) Nothing = Greater
offset_cmp (Plus p) (Plus q) = path_cmp p q
offset_cmp (Plus p) (Minus q) = Less
offset_cmp (Minus p) Nothing = Greater
offset_cmp (Minus p) (Plus q) = Greater
offset_cmp (Minus p) (Minus q) = path_cmp p q

abbrev sign : PathOff → ℕ
sign Nothing = 0
sign (Plus q) = 1
sign (Minus q) = 2

abbrev offset_path : PathOff → Path
offset_path Nothing = Slot 0
offset_path (Plus q) = q
offset_path (Minus q) = q

abbrev by_sign : PathOff → PathOff → Ordering
by_sign = then_cmp (on sign nat_cmp) (on offset_path path_cmp)

signs_same : (x y : PathOff) → by_sign x y ≡ offset_cmp x y
signs_same Nothing Nothing = refl
signs_same Nothing (Plus q) = refl
signs_same Nothing (Minus q) = refl
signs_same (Plus p) Nothing = refl
signs_same (Plus p) (Plus q) = refl
signs_same (Plus p) (Minus q) = refl
signs_same (Minus p) Nothing = refl
signs_same (Minus p) (Plus q) = refl
signs_same (Minus p) (Minus q) = refl

pub offset_total : IsTotalOrder offset_cmp
offset_total =
    let same : by_sign ≡ offset_cmp = λ i x y. signs_same x y i in
    subst (λ (cmp : PathOff → PathOff → Ordering). IsTotalOrder cmp) same (then_total (on_total sign nat_cmp_total) (on_total offset_path path_total))

-- ---- a path is itself, and no other is the same

pub path_itself : (p : Path) → is_path p p ≡ true
path_itself (Slot s) = grind (arith, nat_tests)
path_itself (FieldOf s f) = let a : (s == s) ≡ true = grind (arith, nat_tests) in let b : (f == f) ≡ true = grind (arith, nat_tests) in and_from (s == s) (f == f) a b

pub path_same : (p q : Path) → is_path p q ≡ true → p ≡ q
path_same (Slot s) (Slot t) h = ap Slot (eqb-true s t h)
path_same (Slot s) (FieldOf t g) h = absurd (false≢true h)
path_same (FieldOf s f) (Slot t) h = absurd (false≢true h)
path_same (FieldOf s f) (FieldOf t g) h =
    let both = and_parts (s == t) (f == g) h in
    let a = eqb-true s t both.0 in
    let b = eqb-true f g both.1 in
    cc
