-- An annotation as its claims, or the one error that it has. The errors are tested in this order: unknown.annotation, too many claims,
-- bad.argument, wrong.target, bad.name, inherited.name.
use Rattle.std.specs.Prelude.{nat_lt, ℤ, Bool, true, false, ◌&&◌, ◌||◌, if◌then◌else◌, Option, Some, None, option_map, Result, Ok, Err, List, [], ◌∷◌, ◌++◌, map}
use Rattle.std.specs.List.{list_any}
use Rattle.ix_tree.specs.declared.annot.Annot.{Annot}
use Rattle.ix_core.specs.declared.claim.Name.{Name}
use Rattle.ix_core.specs.declared.claim.Name.TheVariants.{FieldNamed}
use Rattle.ix_core.specs.declared.claim.Off.{Off}
use Rattle.ix_core.specs.declared.claim.Off.TheVariants as off
use Rattle.ix_core.specs.declared.claim.Claim.{Claim}
use Rattle.ix_core.specs.declared.claim.Claim.TheVariants as claim
use Rattle.ix_core.specs.declared.claim.Post.{Post}
use Rattle.ix_annot.specs.declared.texts.Offset.{Offset}
use Rattle.ix_annot.specs.declared.texts.Offset.TheVariants.{Constant, Plus, Minus}
use Rattle.ix_annot.specs.declared.table.Targets.{Targets}
use Rattle.ix_annot.specs.declared.table.Says.{Says}
use Rattle.ix_annot.specs.declared.table.EachArray.{EachArray}
use Rattle.ix_annot.specs.declared.table.EachArray.TheVariants.{Below, SameLength, SearchResult, NotFound}
use Rattle.ix_annot.specs.declared.arguments.Written.{Written}
use Rattle.ix_annot.specs.declared.arguments.Written.TheVariants.{OfArray, Upper, Less}
use Rattle.ix_annot.specs.declared.arguments.Plan.{Plan}
use Rattle.ix_annot.specs.declared.arguments.Promise.{Promise}
use Rattle.ix_annot.specs.declared.texts.Naming.{Naming}
use Rattle.ix_annot.specs.declared.scope.Scope.{Scope}
use Rattle.ix_annot.specs.declared.scope.Holds.TheVariants.{Int, Array}
use Rattle.ix_annot.specs.declared.scope.Found.{Found}
use Rattle.ix_annot.specs.declared.scope.Claims.{Claims}
use Rattle.ix_annot.specs.declared.scope.AnnotError.{AnnotError}
use Rattle.ix_annot.specs.declared.scope.AnnotError.TheVariants.{Unknown, TooMany, BadArgument, WrongTarget, BadName, InheritedName}
use Rattle.ix_annot.specs.Named.{Names, names_in, named}
use Rattle.ix_annot.specs.Table.{row_named, fits, counted, most_claims}
use Rattle.ix_annot.specs.Arguments.{with_others, preceded_by, plan}

-- ---- the claims, with what their names mean: none where a name is bad

abbrev pub array_claim : EachArray → Name → Claim
array_claim (Below c) array = claim.Upper array off.Nothing c
array_claim SameLength array = claim.Same array
array_claim SearchResult array = claim.Search array
array_claim NotFound array = claim.Negative array

abbrev pub offset_named : Names → Offset → Option (Off × ℤ)
offset_named names (Constant c) = Some (off.Nothing, c)
offset_named names (Plus naming c) = option_map (λ name. (off.Plus name, c)) (named names Int naming)
offset_named names (Minus naming c) = option_map (λ name. (off.Minus name, c)) (named names Int naming)

abbrev pub upper_claim : Option Name → Option (Off × ℤ) → Option Claim
upper_claim (Some array) (Some offset) = Some (claim.Upper array offset.0 offset.1)
upper_claim _ _ = None

abbrev pub claim_of : Names → Written → Option Claim
claim_of names (OfArray each array) = option_map (array_claim each) (named names Array array)
claim_of names (Upper array offset) = upper_claim (named names Array array) (offset_named names offset)
claim_of names (Less naming c) = option_map (λ name. claim.Less name c) (named names Int naming)

abbrev pub claims_of : Names → List Written → Option (List Claim)
claims_of names [] = Some []
claims_of names (one ∷ others) = with_others (claim_of names one) (claims_of names others)

-- ---- RULE inherited.name: a field's claim names an inherited field that isn't final

abbrev pub may_change : Option Found → Bool
may_change None = false
may_change (Some variable) = variable.may_change

abbrev pub offset_may_change : Names → Offset → Bool
offset_may_change names (Constant c) = false
offset_may_change names (Plus naming c) = may_change (names.found naming)
offset_may_change names (Minus naming c) = may_change (names.found naming)

abbrev pub names_inherited : Names → Written → Bool
names_inherited names (OfArray each array) = may_change (names.found array)
names_inherited names (Upper array offset) = may_change (names.found array) || offset_may_change names offset
names_inherited names (Less naming c) = may_change (names.found naming)

abbrev pub is_field : Option Name → Bool
is_field (Some (FieldNamed number)) = true
is_field _ = false

-- ---- what a method promises where it returns: each claim of each that is named

abbrev pub posts_on : Option Bool → List Claim → Name → List Post
posts_on when claims on = map (λ claim. record { when = when; on = on; claim = claim }) claims

abbrev pub posts_of_first : Option Bool → List Claim → Option Name → Option (List Post) → Option (List Post)
posts_of_first when claims None others = None
posts_of_first when claims (Some name) others = preceded_by (posts_on when claims name) others

-- None where a name is bad.
abbrev pub posts_of : Names → Option Bool → List Claim → List Naming → Option (List Post)
posts_of names when claims [] = Some []
posts_of names when claims (one ∷ others) = posts_of_first when claims (named names Int one) (posts_of names when claims others)

abbrev pub given : Names → Bool → Option Promise → List Claim → Option Claims
given names effect_free None claims = Some (record { list = claims; effect_free = effect_free; posts = [] })
given names effect_free (Some promise) claims = option_map (λ posts. record { list = []; effect_free = effect_free; posts = posts }) (posts_of names promise.when claims promise.on)

-- ---- the whole

abbrev pub or_bad_name : Option Claims → Result Claims AnnotError
or_bad_name None = Err BadName
or_bad_name (Some claims) = Ok claims

abbrev pub with_claims : Names → Plan → Option (List Claim) → Result Claims AnnotError
with_claims names plan None = Err BadName
with_claims names plan (Some claims) =
    if is_field names.own && list_any (names_inherited names) plan.written then Err InheritedName
    else or_bad_name (given names plan.effect_free plan.promise (plan.first ++ claims))

abbrev pub with_plan : Names → Targets → Option Plan → Result Claims AnnotError
with_plan names targets None = Err BadArgument
with_plan names targets (Some plan) = if fits targets names.target then with_claims names plan (claims_of names plan.written) else Err WrongTarget

abbrev pub with_row : Annot → Names → Option (Targets × Says) → Result Claims AnnotError
with_row annot names None = Err Unknown
with_row annot names (Some row) = with_plan names row.0 (plan row.1 annot.args)

-- The claims of an annotation, or its error, with no regard to how many claims it counts.
unfoldable pub expanded : Annot → Names → Result Claims AnnotError
expanded annot names = with_row annot names (row_named annot.name.text)

-- The claims of an annotation, or its error. An annotation counts claims only where it is in the table.
unfoldable pub expansion : Annot → Scope → Result Claims AnnotError
expansion annot scope = if nat_lt most_claims (counted annot) then Err TooMany else expanded annot (names_in scope)
