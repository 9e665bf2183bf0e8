-- Which parameters the claims of a result and the posts of a method name, as tests.
use Rattle.std.specs.Prelude.{ℕ, zero, suc, Bool, true, false, ◌==◌, ◌||◌, List, [], ◌∷◌, Option, None, Some}
use Rattle.ix_core.specs.declared.claim.Claim.{Claim}
use Rattle.ix_core.specs.declared.claim.Name.{Name}
use Rattle.ix_core.specs.declared.claim.Name.TheVariants.{Param}
use Rattle.ix_core.specs.declared.claim.Post.{Post}
use Rattle.ix_core.specs.declared.program.Method.{Method}
use Rattle.ix_core.specs.Objects.{claim_names, post_names}

abbrev pub is_param : ℕ → Name → Bool
is_param number (Param other) = other == number
is_param number _ = false

abbrev pub some_param : ℕ → List Name → Bool
some_param number [] = false
some_param number (name ∷ names) = is_param number name || some_param number names

-- the claim names the parameter
abbrev pub names_param : ℕ → Claim → Bool
names_param number claim = some_param number (claim_names claim)

abbrev pub some_names_param : ℕ → List Claim → Bool
some_names_param number [] = false
some_names_param number (claim ∷ claims) = names_param number claim || some_names_param number claims

-- a post names it: it is on it, or its claim names it
abbrev pub post_names_param : ℕ → Post → Bool
post_names_param number post = some_param number (post_names post)

abbrev pub some_post_names_param : ℕ → List Post → Bool
some_post_names_param number [] = false
some_post_names_param number (post ∷ posts) = post_names_param number post || some_post_names_param number posts

-- The parameter that has a slot, of a static method or of one with `this`, which has slot 0.
abbrev pub param_of : Bool → ℕ → Option ℕ
param_of true slot = Some slot
param_of false zero = None
param_of false (suc number) = Some number

abbrev pub is_named_by : Method → Option ℕ → Bool
is_named_by method None = false
is_named_by method (Some number) = some_names_param number method.result_claims || some_post_names_param number method.posts

-- a claim of the result or a post names the parameter that has the slot
abbrev pub is_named : Method → ℕ → Bool
is_named method slot = is_named_by method (param_of method.is_static slot)
