-- Paths at one place are the same path.
use Rattle.std.specs.Prelude.{◌≡◌, ℕ, true, nat_eq, nat_lt, refl}
use Rattle.std.proofs.Common.{arith, ap, sym, ◌∙◌, subst}
use Rattle.std.proofs.lemmas.Bool.{false≢true, and_parts}
use Rattle.std.proofs.lemmas.Bool.Decides.{nat_tests}
use Rattle.ix_core.specs.declared.fact.Path.{Path}
use Rattle.ix_core.specs.declared.fact.Path.TheVariants.{Slot, FieldOf}
use Rattle.ix_core.proofs.Cases.{by_test}
use Rattle.ix_facts.specs.Bounds.{is_path}
use Rattle.ix_facts.specs.PathOrder.{path_same, path_itself}
use Rattle.ix_fact_paths.specs.ByPath.{is_near, near_place}
use Rattle.ix_fact_paths.specs.Marks.{has_place}

pub number_itself : (n : ℕ) → nat_eq n n ≡ true
number_itself n = grind (arith, nat_tests)

pub number_same : (m n : ℕ) → nat_eq m n ≡ true → m ≡ n
number_same m n h = grind (arith, nat_tests)

pub placed_same : (x p : Path) → has_place x ≡ true → has_place p ≡ true → near_place x ≡ near_place p → x ≡ p
placed_same (Slot s) (Slot t) has too e = ap Slot (omega (arith, e))
placed_same (Slot s) (FieldOf t g) has too e = absurd (omega (arith, e))
placed_same (FieldOf s f) (Slot t) has too e = absurd (omega (arith, e))
placed_same (FieldOf s f) (FieldOf t g) has too e =
    let a : s ≡ 0 = number_same s 0 has in
    let b : t ≡ 0 = number_same t 0 too in
    let c : f ≡ g = omega (arith, e) in
    cc

pub near_placed : (p : Path) → is_near p ≡ true → has_place p ≡ true
near_placed (Slot s) near = refl
near_placed (FieldOf s f) near = (and_parts (nat_eq s 0) (nat_lt f 1024) near).0

pub same_place : (x p : Path) → is_near x ≡ true → is_near p ≡ true → near_place x ≡ near_place p → x ≡ p
same_place x p near by e = placed_same x p (near_placed x near) (near_placed p by) e

-- places tell near paths apart
pub place_tells : (x p : Path) → is_near x ≡ true → is_near p ≡ true → nat_eq (near_place x) (near_place p) ≡ is_path x p
place_tells x p near by =
    by_test (is_path x p)
    (λ t. ap (λ q. nat_eq (near_place q) (near_place p)) (path_same x p t) ∙ (number_itself (near_place p) ∙ sym t))
    (λ t. by_test (nat_eq (near_place x) (near_place p))
    (λ u. let e : x ≡ p = same_place x p near by (number_same (near_place x) (near_place p) u) in absurd (false≢true (sym t ∙ subst (λ q. is_path q p ≡ true) (sym e) (path_itself p))))
    (λ u. u ∙ sym t))
