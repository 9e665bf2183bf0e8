-- Words of inputs, and claims that inputs don't meet.
use Rattle.std.proofs.Common.{◌≡◌, ℕ, pos, negsuc, true, [], ◌∷◌, Option, Some, None, refl}
use Rattle.std.specs.Fmt.{digits}
use Rattle.ix_core.specs.declared.claim.Base.TheVariants as base
use Rattle.ix_core.specs.declared.claim.Claim.{Claim}
use Rattle.ix_core.specs.declared.claim.Claim.TheVariants as claim
use Rattle.ix_core.specs.declared.claim.Name.TheVariants as name
use Rattle.ix_core.specs.declared.claim.Off.TheVariants as off
use Rattle.ix_core.specs.declared.claim.Type_.TheVariants as type
use Rattle.ix_core.specs.declared.program.Method.{Method}
use Rattle.ix_core.specs.Inputs.{Unmet, first_unmet, word_of}
use Rattle.ix_core.specs.Safe.{Whole, Flag, Ints}
use Rattle.ix_core.proofs.Programs.{int, block, param, static_method}

-- `5`, `-2147483648`, `true`, `[]`, `[1,-20]`
words : word_of (Whole (pos 5)) ∷ word_of (Whole (negsuc 2147483647)) ∷ word_of (Flag true) ∷ word_of (Ints []) ∷ word_of (Ints (pos 1 ∷ negsuc 19 ∷ [])) ∷ []
    ≡ (53 ∷ []) ∷ (45 ∷ 50 ∷ 49 ∷ 52 ∷ 55 ∷ 52 ∷ 56 ∷ 51 ∷ 54 ∷ 52 ∷ 56 ∷ []) ∷ (116 ∷ 114 ∷ 117 ∷ 101 ∷ []) ∷ (91 ∷ 93 ∷ []) ∷ (91 ∷ 49 ∷ 44 ∷ 45 ∷ 50 ∷ 48 ∷ 93 ∷ []) ∷ []
unfolding digits
words = refl

-- static int get(@NonNegative int @MinLen(2) [] a, @IndexFor("a") int i)
abbrev get : Method
get = static_method 0 (param 0 (claim.Length (pos 2) ∷ []) ∷ param 1 (claim.Low (pos 0) ∷ claim.Upper (name.Param 0) off.Nothing (pos 0) ∷ []) ∷ []) (type.Array base.Int 1 (claim.Low (pos 0) ∷ []) ∷ int ∷ []) int [] 2 (block [])

abbrev unmet : ℕ → Claim → Option Unmet
unmet number which = Some (record { param = number; claim = which })

-- the least parameter first, and its own claims before those on elements
gets : first_unmet get (Ints (pos 4 ∷ pos 5 ∷ []) ∷ Whole (pos 1) ∷ []) ∷ first_unmet get (Ints (pos 4 ∷ pos 5 ∷ []) ∷ Whole (pos 2) ∷ []) ∷ first_unmet get (Ints (pos 4 ∷ pos 5 ∷ []) ∷ Whole (negsuc 0) ∷ [])
    ∷ first_unmet get (Ints (pos 4 ∷ negsuc 0 ∷ []) ∷ Whole (negsuc 0) ∷ []) ∷ first_unmet get (Ints (negsuc 0 ∷ []) ∷ Whole (pos 0) ∷ []) ∷ []
    ≡ None ∷ unmet 1 (claim.Upper (name.Param 0) off.Nothing (pos 0)) ∷ unmet 1 (claim.Low (pos 0)) ∷ unmet 0 (claim.Low (pos 0)) ∷ unmet 0 (claim.Length (pos 2)) ∷ []
gets = refl
