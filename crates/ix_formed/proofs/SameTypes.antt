-- A type is one with itself, and what follows of a type from what it is below.
use Rattle.std.proofs.Common.{◌≡◌, ℕ, ℤ, true, List, [], ◌∷◌, refl, ap, ◌∙◌, arith}
use Rattle.std.specs.Prelude.{◌==◌, ◌&&◌}
use Rattle.std.specs.Ordering.{int_eq}
use Rattle.std.proofs.lemmas.Bool.{false≢true, and_parts}
use Rattle.std.proofs.lemmas.Bool.Decides.{Decides-int_eq}
use Rattle.std.proofs.lemmas.Cmp.{int_eq_equiv}
use Rattle.ix_core.specs.declared.claim.Base.{Base}
use Rattle.ix_core.specs.declared.claim.Base.TheVariants as base
use Rattle.ix_core.specs.declared.claim.Claim.{Claim}
use Rattle.ix_core.specs.declared.claim.Claim.TheVariants as claim
use Rattle.ix_core.specs.declared.claim.Name.{Name}
use Rattle.ix_core.specs.declared.claim.Name.TheVariants as name
use Rattle.ix_core.specs.declared.claim.Off.{Off}
use Rattle.ix_core.specs.declared.claim.Off.TheVariants as off
use Rattle.ix_core.specs.declared.claim.Type_.{Type_}
use Rattle.ix_core.specs.declared.claim.Type_.TheVariants as type
use Rattle.ix_core.specs.declared.program.Program.{Program}
use Rattle.ix_core.specs.SameClaims.{same_name, same_offset, same_claim}
use Rattle.ix_core.specs.Types.{int_type, bool_type, same_base, same_type, same_claims, is_of, is_type, is_reference_type}
use Rattle.ix_core.proofs.Cases.{equal}
use Rattle.ix_meaning.specs.Types as meaning
use Rattle.ix_formed.specs.Typed.{IsResult}
use Rattle.ix_formed.proofs.NumberLists.{both_true, is_itself}

same_int : (n : ℤ) → int_eq n n ≡ true
same_int n = int_eq_equiv.refl n

pub name_itself : (n : Name) → same_name n n ≡ true
name_itself (name.Param k) = is_itself k
name_itself (name.Local k) = is_itself k
name_itself (name.FieldNamed k) = is_itself k

offset_itself : (o : Off) → same_offset o o ≡ true
offset_itself off.Nothing = refl
offset_itself (off.Plus n) = name_itself n
offset_itself (off.Minus n) = name_itself n

pub claim_itself : (c : Claim) → same_claim c c ≡ true
claim_itself (claim.Range a b) = both_true (int_eq a a) (int_eq b b) (same_int a) (same_int b)
claim_itself (claim.Low a) = same_int a
claim_itself (claim.Length a) = same_int a
claim_itself (claim.Same n) = name_itself n
claim_itself (claim.Less n a) = both_true (same_name n n) (int_eq a a) (name_itself n) (same_int a)
claim_itself (claim.Upper n o a) = both_true (same_name n n) (same_offset o o && int_eq a a) (name_itself n) (both_true (same_offset o o) (int_eq a a) (offset_itself o) (same_int a))
claim_itself (claim.Search n) = name_itself n
claim_itself (claim.Negative n) = name_itself n

claims_itself : (claims : List Claim) → same_claims claims claims ≡ true
claims_itself [] = refl
claims_itself (c ∷ cs) = both_true (same_claim c c) (same_claims cs cs) (claim_itself c) (claims_itself cs)

int_is : (a b : ℤ) → int_eq a b ≡ true → a ≡ b
int_is a b e = grind (arith, Decides-int_eq)

name_is : (n m : Name) → same_name n m ≡ true → n ≡ m
name_is (name.Param k) (name.Param j) e = ap name.Param (equal k j e)
name_is (name.Local k) (name.Local j) e = ap name.Local (equal k j e)
name_is (name.FieldNamed k) (name.FieldNamed j) e = ap name.FieldNamed (equal k j e)
name_is _ _ e = absurd (false≢true e)

offset_is : (a b : Off) → same_offset a b ≡ true → a ≡ b
offset_is off.Nothing off.Nothing e = refl
offset_is (off.Plus n) (off.Plus m) e = ap off.Plus (name_is n m e)
offset_is (off.Minus n) (off.Minus m) e = ap off.Minus (name_is n m e)
offset_is _ _ e = absurd (false≢true e)

claim_is : (c d : Claim) → same_claim c d ≡ true → c ≡ d
claim_is (claim.Range a b) (claim.Range x y) e = let q = and_parts (int_eq a x) (int_eq b y) e in ap (λ n. claim.Range n b) (int_is a x q.0) ∙ ap (claim.Range x) (int_is b y q.1)
claim_is (claim.Low a) (claim.Low x) e = ap claim.Low (int_is a x e)
claim_is (claim.Length a) (claim.Length x) e = ap claim.Length (int_is a x e)
claim_is (claim.Same n) (claim.Same m) e = ap claim.Same (name_is n m e)
claim_is (claim.Less n a) (claim.Less m x) e = let q = and_parts (same_name n m) (int_eq a x) e in ap (λ n. claim.Less n a) (name_is n m q.0) ∙ ap (claim.Less m) (int_is a x q.1)
claim_is (claim.Upper n o a) (claim.Upper m u x) e =
    let q = and_parts (same_name n m) (same_offset o u && int_eq a x) e in
    let r = and_parts (same_offset o u) (int_eq a x) q.1 in
    ap (λ n. claim.Upper n o a) (name_is n m q.0) ∙ ap (λ o. claim.Upper m o a) (offset_is o u r.0) ∙ ap (claim.Upper m u) (int_is a x r.1)
claim_is (claim.Search n) (claim.Search m) e = ap claim.Search (name_is n m e)
claim_is (claim.Negative n) (claim.Negative m) e = ap claim.Negative (name_is n m e)
claim_is _ _ e = absurd (false≢true e)

claims_are : (cs ds : List Claim) → same_claims cs ds ≡ true → cs ≡ ds
claims_are [] [] e = refl
claims_are (c ∷ cs) (d ∷ ds) e = let q = and_parts (same_claim c d) (same_claims cs ds) e in ap (λ c. c ∷ cs) (claim_is c d q.0) ∙ ap (λ cs. d ∷ cs) (claims_are cs ds q.1)
claims_are _ _ e = absurd (false≢true e)

base_is : (a b : Base) → same_base a b ≡ true → a ≡ b
base_is base.Int base.Int e = refl
base_is base.Bool base.Bool e = refl
base_is (base.Class c) (base.Class d) e = ap base.Class (equal c d e)
base_is _ _ e = absurd (false≢true e)

-- two types that are one are equal
pub same_is : (t u : Type_) → same_type t u ≡ true → t ≡ u
same_is type.Void type.Void e = refl
same_is (type.Plain a) (type.Plain b) e = ap type.Plain (base_is a b e)
same_is (type.Array a m cs) (type.Array b n ds) e =
    let q = and_parts (same_base a b) ((m == n) && same_claims cs ds) e in
    let r = and_parts (m == n) (same_claims cs ds) q.1 in
    ap (λ a. type.Array a m cs) (base_is a b q.0) ∙ ap (λ m. type.Array b m cs) (equal m n r.0) ∙ ap (type.Array b n) (claims_are cs ds r.1)
same_is _ _ e = absurd (false≢true e)

pub same_itself : (ty : Type_) → same_type ty ty ≡ true
same_itself type.Void = refl
same_itself (type.Plain base.Int) = refl
same_itself (type.Plain base.Bool) = refl
same_itself (type.Plain (base.Class class)) = is_itself class
same_itself (type.Array base.Int depth claims) = both_true (depth == depth) (same_claims claims claims) (is_itself depth) (claims_itself claims)
same_itself (type.Array base.Bool depth claims) = both_true (depth == depth) (same_claims claims claims) (is_itself depth) (claims_itself claims)
same_itself (type.Array (base.Class class) depth claims) =
    both_true (class == class) ((depth == depth) && same_claims claims claims) (is_itself class) (both_true (depth == depth) (same_claims claims claims) (is_itself depth) (claims_itself claims))

module _ (p : Program) where
  -- only an int is one of int, and only a boolean one of boolean
  pub of_int : (ty : Type_) → is_of p ty int_type ≡ true → ty ≡ int_type
  of_int type.Void e = absurd (false≢true e)
  of_int (type.Plain base.Int) e = refl
  of_int (type.Plain base.Bool) e = absurd (false≢true e)
  of_int (type.Plain (base.Class class)) e = absurd (false≢true e)
  of_int (type.Array of depth claims) e = absurd (false≢true e)

  pub of_bool : (ty : Type_) → is_of p ty bool_type ≡ true → ty ≡ bool_type
  of_bool type.Void e = absurd (false≢true e)
  of_bool (type.Plain base.Int) e = absurd (false≢true e)
  of_bool (type.Plain base.Bool) e = refl
  of_bool (type.Plain (base.Class class)) e = absurd (false≢true e)
  of_bool (type.Array of depth claims) e = absurd (false≢true e)

  -- what fits a type is one
  pub fits_real : (supers : ℕ → List ℕ) (ty need : Type_) → IsResult p ty → is_type p need ≡ true → meaning.fits supers ty need ≡ true → is_type p ty ≡ true
  fits_real supers type.Void type.Void result real fits = real
  fits_real supers type.Void (type.Plain of) result real fits = absurd (false≢true fits)
  fits_real supers type.Void (type.Array of depth claims) result real fits = absurd (false≢true fits)
  fits_real supers (type.Plain of) need result real fits = result
  fits_real supers (type.Array of depth claims) need result real fits = result

  -- a reference, or a value of int or boolean, is a value
  pub reference_real : (ty : Type_) → IsResult p ty → meaning.is_reference ty ≡ true → (is_type p ty ≡ true) × (is_reference_type ty ≡ true)
  reference_real type.Void result e = absurd (false≢true e)
  reference_real (type.Plain base.Int) result e = absurd (false≢true e)
  reference_real (type.Plain base.Bool) result e = absurd (false≢true e)
  reference_real (type.Plain (base.Class class)) result e = (result, refl)
  reference_real (type.Array of depth claims) result e = (result, refl)

  pub primitive_real : (ty : Type_) → IsResult p ty → meaning.is_primitive ty ≡ true → is_type p ty ≡ true
  primitive_real type.Void result e = absurd (false≢true e)
  primitive_real (type.Plain of) result e = result
  primitive_real (type.Array of depth claims) result e = result

  pub real_result : (ty : Type_) → is_type p ty ≡ true → IsResult p ty
  real_result type.Void e = absurd (false≢true e)
  real_result (type.Plain of) e = e
  real_result (type.Array of depth claims) e = e

pub reference_is : (ty : Type_) → meaning.is_reference ty ≡ true → is_reference_type ty ≡ true
reference_is type.Void e = e
reference_is (type.Plain base.Int) e = e
reference_is (type.Plain base.Bool) e = e
reference_is (type.Plain (base.Class class)) e = e
reference_is (type.Array of depth claims) e = e

-- two ints or two booleans that are one (JLS 15.21)
pub primitive_same : (t u : Type_) → meaning.is_primitive t ≡ true → meaning.same_type t u ≡ true → t ≡ u
primitive_same (type.Plain base.Int) (type.Plain base.Int) p e = refl
primitive_same (type.Plain base.Bool) (type.Plain base.Bool) p e = refl
primitive_same (type.Plain base.Int) _ p e = absurd (false≢true e)
primitive_same (type.Plain base.Bool) _ p e = absurd (false≢true e)
primitive_same _ _ p e = absurd (false≢true p)
