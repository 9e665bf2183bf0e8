-- What the annotations of a declaration give together.
use Rattle.std.specs.Prelude.{ℕ, ◌==◌, Bool, true, false, not, ◌||◌, if◌then◌else◌, Option, Some, None, Result, Ok, Err, List, [], ◌∷◌, ◌++◌, filter}
use Rattle.ix_text.specs.declared.span.Span.{Span}
use Rattle.ix_tree.specs.declared.annot.Annot.{Annot}
use Rattle.ix_tree.specs.declared.annot.BaseTree.{BaseTree}
use Rattle.ix_tree.specs.declared.annot.BaseTree.TheVariants.{Int as IntTree, Boolean as BooleanTree, Named}
use Rattle.ix_tree.specs.declared.annot.TypeTree.{TypeTree}
use Rattle.ix_core.specs.declared.claim.Base.TheVariants.{Int, Bool as Boolean, Class}
use Rattle.ix_core.specs.declared.claim.Type_.{Type_ as Ty}
use Rattle.ix_core.specs.declared.claim.Claim.{Claim}
use Rattle.ix_core.specs.declared.claim.Post.{Post}
use Rattle.ix_core.specs.Posts.{same_post}
use Rattle.ix_core.specs.SameClaims.{distinct}
use Rattle.ix_annot.specs.Named.{Names}
use Rattle.ix_annot.specs.declared.scope.Claims.{Claims}
use Rattle.ix_annot.specs.declared.scope.AnnotError.{AnnotError}
use Rattle.ix_annot.specs.declared.scope.AnnotError.TheVariants.{Unknown, BadName, WrongTarget, InheritedName}
use Rattle.ix_annot.specs.declared.scope.Target.{Target}
use Rattle.ix_annot.specs.declared.scope.Target.TheVariants as on
use Rattle.ix_annot.specs.declared.table.Targets.{Targets}
use Rattle.ix_annot.specs.declared.table.Says.{Says}
use Rattle.ix_annot.specs.Table as table
use Rattle.ix_annot.specs.Expansion.{expanded}
use Rattle.ix_meaning.specs.declared.note.Meaning.TheVariants.{ClassNamed}
use Rattle.ix_meaning.specs.declared.note.Rule.{Rule}
use Rattle.ix_meaning.specs.declared.note.Note.{Note}
use Rattle.ix_meaning.specs.declared.note.Rule.TheVariants as rule
use Rattle.ix_meaning.specs.declared.note.Note.TheVariants.{Use, WrongAnnot}
use Rattle.ix_meaning.specs.Types.{Judged, judged, shaped, wrong}

-- The rule that an annotation breaks. What is no error of an annotation stands for none of them and is never asked for.
abbrev pub rule_of : AnnotError → Rule
rule_of Unknown = rule.UnknownAnnotation
rule_of BadName = rule.BadName
rule_of WrongTarget = rule.WrongTarget
rule_of InheritedName = rule.InheritedName
rule_of _ = rule.BadArgument

-- What annotations give: claims, the mark of a method, what it promises where it returns, and errors.
pub record Given : Type 0 where
  pub claims : List Claim
  pub effect_free : Bool
  pub posts : List Post
  pub notes : List Note

abbrev pub claims_from : Result Claims AnnotError → List Claim
claims_from (Ok c) = c.list
claims_from (Err e) = []

abbrev pub frees : Result Claims AnnotError → Bool
frees (Ok c) = c.effect_free
frees (Err e) = false

abbrev pub posts_from : Result Claims AnnotError → List Post
posts_from (Ok c) = c.posts
posts_from (Err e) = []

-- RULES unknown.annotation, bad.argument, bad.name, wrong.target, inherited.name, at the annotation
abbrev pub errors_from : Result Claims AnnotError → Span → List Note
errors_from (Ok c) p = []
errors_from (Err e) p = WrongAnnot (record { rule = rule_of e; span = p }) ∷ []

abbrev pub given : Names → List Annot → Given
given names [] = record { claims = []; effect_free = false; posts = []; notes = [] }
given names (a ∷ annots) = record {
  claims = claims_from (expanded a names) ++ (given names annots).claims;
  effect_free = frees (expanded a names) || (given names annots).effect_free;
  posts = posts_from (expanded a names) ++ (given names annots).posts;
  notes = errors_from (expanded a names) a.span ++ (given names annots).notes;
}

abbrev pub names_nothing : Target → Names
names_nothing target = record { found = λ naming. None; target = target; own = None }

abbrev pub aimed : Names → Target → Names
aimed names target = record names { target = target }

-- ---- a type as it is written

abbrev pub is_int_tree : BaseTree → Bool
is_int_tree IntTree = true
is_int_tree _ = false

-- What an annotation before the type stands on: an int, or the elements of an array of ints.
abbrev pub target_before : TypeTree → Target
target_before ty = if is_int_tree ty.base then (if ty.depth == 0 then on.Int else on.Element) else on.Other

abbrev pub is_element : Target → Bool
is_element on.Element = true
is_element _ = false

-- RULE unknown.name, for the class of a type
abbrev pub class_use : Option ℕ → ℕ → List Claim → Span → Judged
class_use None d cs p = judged None (wrong rule.UnknownName p)
class_use (Some c) d cs p = judged (Some (shaped (Class c) d cs)) (Use p (ClassNamed c) ∷ [])

abbrev pub based : (List ℕ → Option ℕ) → BaseTree → ℕ → List Claim → Judged
based class IntTree d cs = judged (Some (shaped Int d cs)) []
based class BooleanTree d cs = judged (Some (shaped Boolean d cs)) []
based class (Named name) d cs = class_use (class name.text) d cs name.span

-- The type that is written, with these claims on its elements.
abbrev pub written : (List ℕ → Option ℕ) → TypeTree → List Claim → Judged
written class ty cs = based class ty.base ty.depth cs

-- ---- a declaration

pub record Declaration : Type 0 where
  pub ty : Option Ty
  pub claims : List Claim
  pub notes : List Note

abbrev pub unless : Bool → List Claim → List Claim
unless b cs = if b then [] else cs

abbrev pub element_claims : Target → List Annot → List Claim
element_claims first before = if is_element first then distinct (given (names_nothing first) before).claims else []

-- What a declaration says: its type, and its own claims, each once. `first` is what an annotation before the type stands on, and `second`
-- what one behind the base stands on.
abbrev pub declaration : (List ℕ → Option ℕ) → Names → Target → Target → List Annot → TypeTree → Declaration
declaration class names first second before ty = record {
  ty = (written class ty (element_claims first before)).ty;
  claims = distinct (unless (is_element first) (given (aimed names first) before).claims ++ (given (aimed names second) ty.annots).claims);
  notes = (written class ty []).notes ++ ((given (aimed names first) before).notes ++ (given (aimed names second) ty.annots).notes);
}

-- of a variable that isn't static
abbrev pub variable : (List ℕ → Option ℕ) → Names → List Annot → TypeTree → Declaration
variable class names before ty = declaration class names (target_before ty) on.Array before ty

-- of a static field, on which no annotation may stand
abbrev pub static_field : (List ℕ → Option ℕ) → List Annot → TypeTree → Declaration
static_field class before ty = declaration class (names_nothing on.Other) on.Other on.Other before ty

-- ---- what a name is declared with

-- a variable
abbrev pub of_variable : List Claim → Claims
of_variable claims = record { list = claims; effect_free = false; posts = [] }

-- each post once, at its first place
abbrev pub distinct_posts : List Post → List Post
distinct_posts [] = []
distinct_posts (post ∷ posts) = post ∷ filter (λ other. not (same_post post other)) (distinct_posts posts)

-- a method with these claims on its result, and marked so
abbrev pub marked : List Claim → Given → Claims
marked claims marks = record { list = claims; effect_free = marks.effect_free; posts = distinct_posts marks.posts }

-- ---- annotations of a method

abbrev pub is_row_of_method : Option (Targets × Says) → Bool
is_row_of_method None = false
is_row_of_method (Some row) = table.is_of_method row.0

-- An annotation that isn't in the table counts as one of the result.
abbrev pub is_of_method : Annot → Bool
is_of_method annot = is_row_of_method (table.row_named annot.name.text)

abbrev pub of_method : List Annot → List Annot
of_method annots = filter is_of_method annots

abbrev pub of_result : List Annot → List Annot
of_result annots = filter (λ annot. not (is_of_method annot)) annots
