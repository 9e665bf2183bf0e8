-- Types that are the same, and values of them.
use Rattle.std.specs.Prelude.{◌≡◌, ℕ, ◌==◌, true, ◌&&◌, List, [], ◌∷◌, Some, refl}
use Rattle.std.proofs.Common.{ap, subst}
use Rattle.std.proofs.lemmas.Bool.{and_parts, false≢true}
use Rattle.ix_core.specs.declared.claim.Base.{Base}
use Rattle.ix_core.specs.declared.claim.Base.TheVariants as base
use Rattle.ix_core.specs.declared.claim.Claim.{Claim}
use Rattle.ix_core.specs.declared.claim.Type_.{Type_}
use Rattle.ix_core.specs.declared.claim.Type_.TheVariants as type
use Rattle.ix_core.specs.declared.program.Program.{Program}
use Rattle.ix_core.specs.Formed.{ends_within}
use Rattle.ix_core.specs.Heap.{Held, Num, Boolean, Null, At, Heap}
use Rattle.ix_core.specs.SameClaims.{same_claim}
use Rattle.ix_core.specs.Tables.{most_on_way}
use Rattle.ix_core.specs.Typed.{IsOfType}
use Rattle.ix_core.specs.Types.{same_base, same_claims, same_type, is_below, is_of}
use Rattle.ix_core.proofs.Ancestors.{above}
use Rattle.ix_core.proofs.Cases.{equal}
use Rattle.ix_core.proofs.RepeatedClaims as repeated

base_is : (of other : Base) → same_base of other ≡ true → of ≡ other
base_is base.Int base.Int e = refl
base_is base.Bool base.Bool e = refl
base_is (base.Class class) (base.Class other) e = ap base.Class (equal class other e)
base_is base.Int base.Bool e = absurd (false≢true e)
base_is base.Int (base.Class other) e = absurd (false≢true e)
base_is base.Bool base.Int e = absurd (false≢true e)
base_is base.Bool (base.Class other) e = absurd (false≢true e)
base_is (base.Class class) base.Int e = absurd (false≢true e)
base_is (base.Class class) base.Bool e = absurd (false≢true e)

claims_are : (claims others : List Claim) → same_claims claims others ≡ true → claims ≡ others
claims_are [] [] e = refl
claims_are (claim ∷ claims) (other ∷ others) e =
    let parts = and_parts (same_claim claim other) (same_claims claims others) e in
    let first = repeated.same_claims claim other parts.0 in
    let rest = claims_are claims others parts.1 in
    cc
claims_are [] (other ∷ others) e = absurd (false≢true e)
claims_are (claim ∷ claims) [] e = absurd (false≢true e)

-- types that are tested to be the same are
pub type_is : (ty other : Type_) → same_type ty other ≡ true → ty ≡ other
type_is type.Void type.Void e = refl
type_is (type.Plain of) (type.Plain other) e = ap type.Plain (base_is of other e)
type_is (type.Array of depth element) (type.Array other deep others) e =
    let parts = and_parts (same_base of other) ((depth == deep) && same_claims element others) e in
    let more = and_parts (depth == deep) (same_claims element others) parts.1 in
    let first = base_is of other parts.0 in
    let second = equal depth deep more.0 in
    let third = claims_are element others more.1 in
    cc
type_is type.Void (type.Plain other) e = absurd (false≢true e)
type_is type.Void (type.Array other deep others) e = absurd (false≢true e)
type_is (type.Plain of) type.Void e = absurd (false≢true e)
type_is (type.Plain of) (type.Array other deep others) e = absurd (false≢true e)
type_is (type.Array of depth element) type.Void e = absurd (false≢true e)
type_is (type.Array of depth element) (type.Plain other) e = absurd (false≢true e)

-- each class's way up ends
abbrev pub WaysEnd : Program → Type 0
WaysEnd program = (class : ℕ) → ends_within program most_on_way (Some class) ≡ true

module _ (program : Program) (ends : WaysEnd program) where
  below_below : (class other third : ℕ) → is_below program class other ≡ true → is_below program other third ≡ true → is_below program class third ≡ true
  below_below class other third e f = above program most_on_way most_on_way (Some class) other third (ends class) e f

  -- a value of a type is one of each type above it
  pub of_above : (heap : Heap) (ty other : Type_) (value : Held) → is_of program ty other ≡ true → IsOfType program heap ty value → IsOfType program heap other value
  of_above heap (type.Plain (base.Class class)) (type.Plain (base.Class other)) Null e is = tt
  of_above heap (type.Plain (base.Class class)) (type.Plain (base.Class other)) (At number) e is = (is.0, is.1, below_below is.0 class other is.2 e)
  of_above heap (type.Plain (base.Class class)) (type.Plain (base.Class other)) (Num n) e is = absurd is
  of_above heap (type.Plain (base.Class class)) (type.Plain (base.Class other)) (Boolean answer) e is = absurd is
  of_above heap (type.Plain (base.Class class)) (type.Plain base.Int) value e is = absurd (false≢true e)
  of_above heap (type.Plain (base.Class class)) (type.Plain base.Bool) value e is = absurd (false≢true e)
  of_above heap (type.Plain (base.Class class)) (type.Array of depth element) value e is = absurd (false≢true e)
  of_above heap (type.Plain (base.Class class)) type.Void value e is = absurd (false≢true e)
  of_above heap (type.Plain base.Int) other value e is = subst (λ ty. IsOfType program heap ty value) (type_is (type.Plain base.Int) other e) is
  of_above heap (type.Plain base.Bool) other value e is = subst (λ ty. IsOfType program heap ty value) (type_is (type.Plain base.Bool) other e) is
  of_above heap (type.Array of depth element) other value e is = subst (λ ty. IsOfType program heap ty value) (type_is (type.Array of depth element) other e) is
  of_above heap type.Void other value e is = absurd is
