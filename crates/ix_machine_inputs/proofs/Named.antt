-- A text that is a class's name, a dot and a method's name.
use Rattle.std.specs.Prelude.{◌≡◌, ℕ, List, [], ◌∷◌, ◌++◌, drop, Some, refl, Bool, true, false, nat_eq}
use Rattle.std.specs.Str.{bytes_eq}
use Rattle.std.specs.Str.Pattern.{FindsTextPrefix}
use Rattle.std.proofs.Common.{sym, ◌∙◌, ap, ◌≢◌, length, ◌+◌}
use Rattle.std.proofs.lemmas.Slice.Eq.{bytes_eq-Decides}
use Rattle.std.proofs.lemmas.Bool.Decides.{Decides-eqb}

-- what is left behind the class's name
pub behind : (entry class rest : List ℕ) → ((n : ℕ) × FindsTextPrefix class entry (Some n) × (rest ≡ drop n entry) × (length rest + n ≡ length entry)) → entry ≡ class ++ rest
behind entry class rest is = is.1.1 ∙ ap (λ (more : List ℕ). class ++ more) (sym is.2)

same_number : (x : ℕ) → nat_eq x x ≡ true
same_number x = (Decides-eqb x x).1 refl

same_front : (front xs ys : List ℕ) → bytes_eq (front ++ xs) (front ++ ys) ≡ bytes_eq xs ys
same_front [] xs ys = refl
same_front (x ∷ front) xs ys = rw (same_number x) (same_front front xs ys)

never : (b : Bool) → (b ≢ true) → false ≡ b
never true wrong = absurd (wrong refl)
never false wrong = refl

-- no dot follows
pub no_dot : (entry class rest method : List ℕ) → entry ≡ class ++ rest → ((more : List ℕ) → rest ≢ 46 ∷ more) → false ≡ bytes_eq entry (class ++ 46 ∷ method)
no_dot entry class rest method is other = never _ (λ same. other method ((bytes_eq-Decides rest (46 ∷ method)).0 (sym (same_front class rest (46 ∷ method)) ∙ (ap (λ (text : List ℕ). bytes_eq text (class ++ 46 ∷ method)) (sym is) ∙ same))))

-- a dot and a name follow
pub dotted : (entry class rest name method : List ℕ) → entry ≡ class ++ rest → rest ≡ 46 ∷ name → bytes_eq name method ≡ bytes_eq entry (class ++ 46 ∷ method)
dotted entry class rest name method is dot = sym (ap (λ (text : List ℕ). bytes_eq text (class ++ 46 ∷ method)) (is ∙ ap (λ (more : List ℕ). class ++ more) dot) ∙ same_front class (46 ∷ name) (46 ∷ method))
