-- What the answers of tests tell.
use Rattle.std.specs.Prelude.{◌≡◌, Bool, true, false, ◌||◌, ◌==◌, ℤ, ◌≤ℤ◌, int_le, Option, None, List, [], refl}
use Rattle.std.proofs.Common.{arith, ap, sym, ◌∙◌, subst}
use Rattle.std.proofs.lemmas.Bool.{and_parts, false≢true, eqb-true}
use Rattle.std.proofs.lemmas.Int.{ints}
use Rattle.ix_core.specs.declared.fact.Path.{Path}
use Rattle.ix_core.specs.declared.fact.Path.TheVariants.{Slot, FieldOf}
use Rattle.ix_core.specs.declared.fact.Fact.{Fact}
use Rattle.ix_core.specs.declared.fact.PathOff.{PathOff}
use Rattle.ix_core.specs.declared.fact.PathOff.TheVariants.{Nothing, Plus, Minus}
use Rattle.ix_facts.specs.Bounds.{is_path, is_offset, when}
use Rattle.ix_facts.specs.Exact.{if_so}
use Rattle.ix_facts.specs.PathOrder.{path_itself, path_same}
use Rattle.ix_core.proofs.Cases.{by_test}
pub use Rattle.ix_facts.specs.NamedLaws.{or_else, or_first, or_second}

pub path_true : (p q : Path) → is_path p q ≡ true → p ≡ q
path_true (Slot s) (Slot t) h = ap Slot (eqb-true s t h)
path_true (Slot s) (FieldOf t g) h = absurd (false≢true h)
path_true (FieldOf s f) (Slot t) h = absurd (false≢true h)
path_true (FieldOf s f) (FieldOf t g) h =
    let both = and_parts (s == t) (f == g) h in
    let a = eqb-true s t both.0 in
    let b = eqb-true f g both.1 in
    cc

pub off : (p q : Path) → is_path p q ≡ false → is_path q p ≡ false
off p q n =
    by_test (is_path q p) (λ t. absurd (false≢true (sym n ∙ subst (λ r. is_path r q ≡ true) (path_same q p t) (path_itself q)))) (λ t. t)

pub offset_true : (x y : PathOff) → is_offset x y ≡ true → x ≡ y
offset_true Nothing Nothing h = refl
offset_true Nothing (Plus q) h = absurd (false≢true h)
offset_true Nothing (Minus q) h = absurd (false≢true h)
offset_true (Plus p) Nothing h = absurd (false≢true h)
offset_true (Plus p) (Plus q) h = ap Plus (path_true p q h)
offset_true (Plus p) (Minus q) h = absurd (false≢true h)
offset_true (Minus p) Nothing h = absurd (false≢true h)
offset_true (Minus p) (Plus q) h = absurd (false≢true h)
offset_true (Minus p) (Minus q) h = ap Minus (path_true p q h)

pub not_first : (x y : Bool) → (x || y) ≡ false → x ≡ false
not_first true y n = n
not_first false y n = refl

pub not_second : (x y : Bool) → (x || y) ≡ false → y ≡ false
not_second true y n = absurd (false≢true (sym n))
not_second false y n = n

pub neither : (s t : Bool) → (s || t) ≡ false → (s ≡ false) × (t ≡ false)
neither true t x = absurd (false≢true (sym x))
neither false t x = (refl, x)

pub at_most_true : (x y : ℤ) → int_le x y ≡ true → x ≤ℤ y
at_most_true x y h = grind (arith, ints)

pub at_most_is : (x y : ℤ) → x ≤ℤ y → int_le x y ≡ true
at_most_is x y h = grind (arith, ints)

pub none_if : (t : Bool) (facts : List Fact) → t ≡ false → if_so t facts ≡ []
none_if t facts n = ap (λ b. if_so b facts) n

pub no_number : (t : Bool) (number : Option ℤ) → t ≡ false → when t number ≡ None
no_number t number n = ap (λ b. when b number) n
