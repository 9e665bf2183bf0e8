-- A type that is written is a type of the program, and the claims of a declaration fit it.
use Rattle.std.proofs.Common.{◌≡◌, ◌<◌, ℕ, Bool, true, false, List, [], ◌∷◌, ◌++◌, length, Option, Some, None, refl, sym, ap, subst, ◌∙◌, arith}
use Rattle.std.specs.Prelude.{if◌then◌else◌, ◌&&◌, ◌||◌, nat_lt, ◌==◌}
use Rattle.std.specs.List.{list_all}
use Rattle.std.proofs.lemmas.Bool.Decides.{nat_tests}
use Rattle.ix_core.specs.declared.claim.Base.{Base}
use Rattle.ix_core.specs.declared.claim.Base.TheVariants as base
use Rattle.ix_core.specs.declared.claim.Claim.{Claim}
use Rattle.ix_core.specs.declared.claim.Name.{Name}
use Rattle.ix_core.specs.declared.claim.Type_.{Type_}
use Rattle.ix_core.specs.declared.claim.Type_.TheVariants as type
use Rattle.ix_core.specs.declared.program.Program.{Program}
use Rattle.ix_core.specs.Formed.{claim_fits}
use Rattle.ix_core.specs.Types.{is_int_type, is_array_type, is_element_claim, is_empty, is_base, is_type}
use Rattle.ix_core.proofs.Cases.{by_test}
use Rattle.ix_tree.specs.declared.annot.Annot.{Annot}
use Rattle.ix_tree.specs.declared.annot.BaseTree.{BaseTree}
use Rattle.ix_tree.specs.declared.annot.BaseTree.TheVariants as tree
use Rattle.ix_tree.specs.declared.annot.TypeTree.{TypeTree}
use Rattle.ix_annot.specs.declared.scope.Target.{Target}
use Rattle.ix_annot.specs.declared.scope.Target.TheVariants as on
use Rattle.ix_annot.specs.Named.{Names}
use Rattle.ix_annot.specs.Expansion.{expanded}
use Rattle.ix_meaning.specs.Annotated.{given, claims_from, aimed, names_nothing, is_int_tree, target_before, is_element, class_use, based, written, unless, element_claims, variable}
use Rattle.ix_meaning.specs.Types.{shaped}
use Rattle.ix_formed.specs.Additions.{AllOf}
use Rattle.ix_formed.specs.Written as trees
use Rattle.ix_formed.specs.Written.{is_written_type}
use Rattle.ix_formed.proofs.ClaimsFit.{all_true, distinct_so, Knows, StandsOn, expanded_fits, expanded_elements, expanded_other}
use Rattle.ix_formed.proofs.NumberLists.{all_joined, both_true}
use Rattle.ix_formed.proofs.ProgramsHaveShape.{less_is}

-- ---- the claims of several annotations

pub given_elements : (names : Names) (annots : List Annot) → names.target ≡ on.Element → AllOf (λ c. is_element_claim c ≡ true) (given names annots).claims
given_elements names [] e = tt
given_elements names (annot ∷ annots) e =
    all_joined (λ c. is_element_claim c ≡ true) (claims_from (expanded annot names)) (given names annots).claims (expanded_elements names annot e) (given_elements names annots e)

pub given_none : (names : Names) (annots : List Annot) → names.target ≡ on.Other → (given names annots).claims ≡ []
given_none names [] e = refl
given_none names (annot ∷ annots) e = ap (λ l. l ++ (given names annots).claims) (expanded_other names annot e) ∙ given_none names annots e

pub given_fit : (names : Names) (ty : Type_) (types : Name → Option Type_) → Knows names types → StandsOn names.target ty → (annots : List Annot) → AllOf (λ c. claim_fits ty types c ≡ true) (given names annots).claims
given_fit names ty types knows stands [] = tt
given_fit names ty types knows stands (annot ∷ annots) =
    all_joined (λ c. claim_fits ty types c ≡ true) (claims_from (expanded annot names)) (given names annots).claims (expanded_fits names ty types knows annot stands) (given_fit names ty types knows stands annots)

-- ---- types

-- claims that the elements of an array of that base may have
abbrev pub ElementsFit : BaseTree → List Claim → Type 0
ElementsFit tree.Int claims = AllOf (λ c. is_element_claim c ≡ true) claims
ElementsFit _ claims = claims ≡ []

-- a class's name means a class of the program
abbrev pub NamesClasses : Program → (List ℕ → Option ℕ) → Type 0
NamesClasses p class = (name : List ℕ) (number : ℕ) → class name ≡ Some number → number < length p.classes

module _ (p : Program) where
  shaped_int : (depth : ℕ) (claims : List Claim) → AllOf (λ c. is_element_claim c ≡ true) claims → is_type p (shaped base.Int depth claims) ≡ true
  shaped_int depth claims all =
      by_test (depth == 0)
      (λ t. ap (λ b. is_type p (if b then type.Plain base.Int else type.Array base.Int depth claims)) t)
      (λ f. let lt : nat_lt 0 depth ≡ true = grind (arith, nat_tests) in
      ap (λ b. is_type p (if b then type.Plain base.Int else type.Array base.Int depth claims)) f
      ∙ both_true (nat_lt 0 depth) (list_all is_element_claim claims) lt (all_true is_element_claim claims all))

  shaped_other : (of : Base) (depth : ℕ) → is_base p of ≡ true → is_int_type (type.Plain of) ≡ false → is_type p (shaped of depth []) ≡ true
  shaped_other of depth there other =
      by_test (depth == 0)
      (λ t. ap (λ b. is_type p (if b then type.Plain of else type.Array of depth [])) t ∙ there)
      (λ f. let lt : nat_lt 0 depth ≡ true = grind (arith, nat_tests) in
      ap (λ b. is_type p (if b then type.Plain of else type.Array of depth [])) f
      ∙ both_true (is_base p of) (nat_lt 0 depth && (if is_int_type (type.Plain of) then list_all is_element_claim [] else is_empty [])) there
      (both_true (nat_lt 0 depth) (if is_int_type (type.Plain of) then list_all is_element_claim [] else is_empty []) lt (ap (λ b. if b then list_all is_element_claim [] else is_empty []) other)))

  class_type_is : (class : List ℕ → Option ℕ) → NamesClasses p class → (name : List ℕ) (o : Option ℕ) → class name ≡ o → (depth : ℕ) (ty : Type_) (span : _)
      → (class_use o depth [] span).ty ≡ Some ty → is_type p ty ≡ true
  class_type_is class there name None e depth ty span is = absurd cc
  class_type_is class there name (Some number) e depth ty span is =
      let same : shaped (base.Class number) depth [] ≡ ty = cc in
      subst (λ t. is_type p t ≡ true) same (shaped_other (base.Class number) depth (less_is number (length p.classes) (there name number e)) refl)

  -- a type that is written, with claims that its elements may have
  pub written_is_type : (class : List ℕ → Option ℕ) → NamesClasses p class → (ty : TypeTree) (claims : List Claim) → ElementsFit ty.base claims → (t : Type_) → (written class ty claims).ty ≡ Some t → is_type p t ≡ true
  written_is_type class there ty claims fit t e = by_base ty.base fit e
    where
      by_base : (of : BaseTree) → ElementsFit of claims → (based class of ty.depth claims).ty ≡ Some t → is_type p t ≡ true
      by_base tree.Int fit e = let same : shaped base.Int ty.depth claims ≡ t = cc in subst (λ t. is_type p t ≡ true) same (shaped_int ty.depth claims fit)
      by_base tree.Boolean fit e =
          let same : shaped base.Bool ty.depth claims ≡ t = cc in
          subst (λ t. is_type p t ≡ true) same (subst (λ (l : List Claim). is_type p (shaped base.Bool ty.depth l) ≡ true) (sym fit) (shaped_other base.Bool ty.depth refl refl))
      by_base (tree.Named name) fit e =
          class_type_is class there name.text (class name.text) refl ty.depth t name.span (sym (ap (λ (l : List Claim). (class_use (class name.text) ty.depth l name.span).ty) fit) ∙ e)

-- ---- the claims on the elements of a declaration's type

element_claims_fit : (ty : TypeTree) (annots : List Annot) → ElementsFit ty.base (element_claims (target_before ty) annots)
element_claims_fit ty annots = by_base ty.base
  where
    by_depth : (b : Bool) → AllOf (λ c. is_element_claim c ≡ true) (element_claims (if b then on.Int else on.Element) annots)
    by_depth true = tt
    by_depth false = distinct_so (λ c. is_element_claim c ≡ true) (given (names_nothing on.Element) annots).claims (given_elements (names_nothing on.Element) annots refl)

    by_base : (of : BaseTree) → ElementsFit of (element_claims (if is_int_tree of then (if ty.depth == 0 then on.Int else on.Element) else on.Other) annots)
    by_base tree.Int = by_depth (ty.depth == 0)
    by_base tree.Boolean = refl
    by_base (tree.Named name) = refl

-- the type of a variable, a field or a result
pub declared_is_type : (p : Program) (class : List ℕ → Option ℕ) → NamesClasses p class → (ty : TypeTree) (annots : List Annot) (t : Type_) → (written class ty (element_claims (target_before ty) annots)).ty ≡ Some t → is_type p t ≡ true
declared_is_type p class there ty annots t e = written_is_type p class there ty (element_claims (target_before ty) annots) (element_claims_fit ty annots) t e

-- ---- the claims of a declaration

abbrev pub Fit : Type_ → (Name → Option Type_) → List Claim → Type 0
Fit ty types claims = AllOf (λ c. claim_fits ty types c ≡ true) claims

int_is : (class : List ℕ → Option ℕ) (ty : TypeTree) (claims : List Claim) (t : Type_) → target_before ty ≡ on.Int → (written class ty claims).ty ≡ Some t → is_int_type t ≡ true
int_is class ty claims t e is = by_base ty.base e is
  where
    by_depth : (b : Bool) → b ≡ (ty.depth == 0) → ◌≡◌ {A = Target} (if b then on.Int else on.Element) on.Int → shaped base.Int ty.depth claims ≡ t → is_int_type t ≡ true
    by_depth true d e same = subst (λ t. is_int_type t ≡ true) same (ap (λ b. is_int_type (if b then type.Plain base.Int else type.Array base.Int ty.depth claims)) (sym d))
    by_depth false d e same = absurd cc

    by_base : (of : BaseTree) → ◌≡◌ {A = Target} (if is_int_tree of then (if ty.depth == 0 then on.Int else on.Element) else on.Other) on.Int → (based class of ty.depth claims).ty ≡ Some t → is_int_type t ≡ true
    by_base tree.Int e is = let same : shaped base.Int ty.depth claims ≡ t = cc in by_depth (ty.depth == 0) refl e same
    by_base tree.Boolean e is = absurd cc
    by_base (tree.Named name) e is = absurd cc

array_is : (class : List ℕ → Option ℕ) (ty : TypeTree) (claims : List Claim) (t : Type_) → nat_lt 0 ty.depth ≡ true → (written class ty claims).ty ≡ Some t → is_array_type t ≡ true
array_is class ty claims t lt is = by_base ty.base is
  where
    shape : (of : Base) → is_array_type (shaped of ty.depth claims) ≡ true
    shape of =
        let f : (ty.depth == 0) ≡ false = grind (arith, nat_tests) in
        ap (λ b. is_array_type (if b then type.Plain of else type.Array of ty.depth claims)) f

    by_class : (o : Option ℕ) (span : _) → (class_use o ty.depth claims span).ty ≡ Some t → is_array_type t ≡ true
    by_class None span is = absurd cc
    by_class (Some number) span is = let same : shaped (base.Class number) ty.depth claims ≡ t = cc in subst (λ t. is_array_type t ≡ true) same (shape (base.Class number))

    by_base : (of : BaseTree) → (based class of ty.depth claims).ty ≡ Some t → is_array_type t ≡ true
    by_base tree.Int is = let same : shaped base.Int ty.depth claims ≡ t = cc in subst (λ t. is_array_type t ≡ true) same (shape base.Int)
    by_base tree.Boolean is = let same : shaped base.Bool ty.depth claims ≡ t = cc in subst (λ t. is_array_type t ≡ true) same (shape base.Bool)
    by_base (tree.Named name) is = by_class (class name.text) name.span is

pub knows_aimed : (names : Names) (target : Target) (types : Name → Option Type_) → Knows names types → Knows (aimed names target) types
knows_aimed names target types k = record { ints = k.ints; arrays = k.arrays }

-- Each claim of a variable's, a field's or a result's declaration fits its type.
pub variable_fits : (class : List ℕ → Option ℕ) (names : Names) (annots : List Annot) (ty : TypeTree) (types : Name → Option Type_) → is_written_type ty ≡ true → Knows names types → (t : Type_)
    → (written class ty (element_claims (target_before ty) annots)).ty ≡ Some t → Fit t types (variable class names annots ty).claims
variable_fits class names annots ty types is_written knows t e =
    distinct_so (λ c. claim_fits t types c ≡ true)
    (unless (is_element (target_before ty)) (given (aimed names (target_before ty)) annots).claims ++ (given (aimed names on.Array) ty.annots).claims)
    (all_joined (λ c. claim_fits t types c ≡ true) (unless (is_element (target_before ty)) (given (aimed names (target_before ty)) annots).claims) (given (aimed names on.Array) ty.annots).claims
    (before (target_before ty) refl) behind)
  where
    before : (first : Target) → target_before ty ≡ first → Fit t types (unless (is_element first) (given (aimed names first) annots).claims)
    before on.Element same = tt
    before on.Int same = given_fit (aimed names on.Int) t types (knows_aimed names on.Int types knows) (int_is class ty (element_claims (target_before ty) annots) t same e) annots
    before on.Other same = given_fit (aimed names on.Other) t types (knows_aimed names on.Other types knows) tt annots
    before on.Method same = given_fit (aimed names on.Method) t types (knows_aimed names on.Method types knows) tt annots
    before on.BooleanMethod same = given_fit (aimed names on.BooleanMethod) t types (knows_aimed names on.BooleanMethod types knows) tt annots
    before on.Constructor same = given_fit (aimed names on.Constructor) t types (knows_aimed names on.Constructor types knows) tt annots
    before on.Array same = absurd (never ty.base same)
      where
        never_depth : (b : Bool) → ◌≡◌ {A = Target} (if b then on.Int else on.Element) on.Array → ⊥
        never_depth true e = absurd cc
        never_depth false e = absurd cc

        never : (of : BaseTree) → ◌≡◌ {A = Target} (if is_int_tree of then (if ty.depth == 0 then on.Int else on.Element) else on.Other) on.Array → ⊥
        never tree.Int e = never_depth (ty.depth == 0) e
        never tree.Boolean e = absurd cc
        never (tree.Named name) e = absurd cc

    empty_or_not : (marks : List Annot) → (trees.is_empty marks || nat_lt 0 ty.depth) ≡ true → Fit t types (given (aimed names on.Array) marks).claims
    empty_or_not [] w = tt
    empty_or_not (annot ∷ marks) w = given_fit (aimed names on.Array) t types (knows_aimed names on.Array types knows) (array_is class ty (element_claims (target_before ty) annots) t w e) (annot ∷ marks)

    behind : Fit t types (given (aimed names on.Array) ty.annots).claims
    behind = empty_or_not ty.annots is_written
