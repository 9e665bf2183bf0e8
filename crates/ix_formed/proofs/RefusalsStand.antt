-- A source that is refused for its names is refused at places in its text.
use Rattle.std.proofs.Common.{◌≡◌, ◌≤◌, ℕ, Bool, true, false, List, [], ◌∷◌, Option, Some, None, inl, inr, arith}
use Rattle.std.specs.List.{All, AllByRecursion, Contains, list_any}
use Rattle.std.specs.Prelude.{if◌then◌else◌}
use Rattle.std.proofs.lemmas.List.Elements.{All-from_recursion, All-weaker, All-contains, All-contains_itself}
use Rattle.ix_tree.specs.declared.decl.Unit.{Unit as Source}
use Rattle.ix_tree.specs.Placed.{Placed}
use Rattle.ix_meaning.specs.declared.note.NameError.{NameError}
use Rattle.ix_meaning.specs.declared.note.NameErrors.{NameErrors}
use Rattle.ix_meaning.specs.declared.note.NameErrors.TheVariants.{Errors, Limit, Memory}
use Rattle.ix_meaning.specs.declared.note.Note.{Note}
use Rattle.ix_meaning.specs.declared.note.Note.TheVariants.{Use, Typed, Declares, Wrong, WrongAnnot}
use Rattle.ix_meaning.specs.declared.note.Which.{Which}
use Rattle.ix_meaning.specs.Limits.{Passed, limit, inheritance_limit}
use Rattle.ix_meaning.specs.Listed.{wrongs, wrong_annots, comes_before, firsts, derived, IsListed}
use Rattle.ix_meaning.specs.Resolved.{name_errors, IsPassed, Refuses}
use Rattle.ix_meaning.specs.Source.{notes}
use Rattle.ix_formed.specs.EachNode.{InText, SourceNodes}
use Rattle.ix_formed.proofs.PlacedNodes.{placed_nodes}
use Rattle.ix_formed.specs.Refusals as place
use Rattle.ix_formed.proofs.ListsJoin.{all_joined}
use Rattle.ix_formed.proofs.ErrorsStand.{AllStand}
use Rattle.ix_formed.proofs.LimitsStand as limits
use Rattle.ix_formed.proofs.LimitsStand.{limit_within, inheritance_limit_within}
use Rattle.ix_formed.proofs.SourcesStand.{notes_stand}

-- ---- errors

abbrev ErrorsStand : ℕ → List NameError → Type 0
ErrorsStand end errors = AllByRecursion (λ (error : NameError). InText end error.span) errors

wrongs_stand : (end : ℕ) (ns : List Note) → AllStand end ns → ErrorsStand end (wrongs ns)
wrongs_stand end [] h = tt
wrongs_stand end (Use span meaning ∷ ns) h = wrongs_stand end ns h.1
wrongs_stand end (Typed span ty ∷ ns) h = wrongs_stand end ns h.1
wrongs_stand end (Declares span declared ∷ ns) h = wrongs_stand end ns h.1
wrongs_stand end (Wrong error ∷ ns) h = (h.0, wrongs_stand end ns h.1)
wrongs_stand end (WrongAnnot error ∷ ns) h = wrongs_stand end ns h.1

wrong_annots_stand : (end : ℕ) (ns : List Note) → AllStand end ns → ErrorsStand end (wrong_annots ns)
wrong_annots_stand end [] h = tt
wrong_annots_stand end (Use span meaning ∷ ns) h = wrong_annots_stand end ns h.1
wrong_annots_stand end (Typed span ty ∷ ns) h = wrong_annots_stand end ns h.1
wrong_annots_stand end (Declares span declared ∷ ns) h = wrong_annots_stand end ns h.1
wrong_annots_stand end (Wrong error ∷ ns) h = wrong_annots_stand end ns h.1
wrong_annots_stand end (WrongAnnot error ∷ ns) h = (h.0, wrong_annots_stand end ns h.1)

firsts_stand : (end : ℕ) (all es : List NameError) → ErrorsStand end es → ErrorsStand end (firsts all es)
firsts_stand end all [] h = tt
firsts_stand end all (e ∷ es) h = first_or_not (firsts_stand end all es h.1) (list_any (comes_before e) all)
  where
    first_or_not : ErrorsStand end (firsts all es) → (b : Bool) → ErrorsStand end (if b then firsts all es else e ∷ firsts all es)
    first_or_not later true = later
    first_or_not later false = (h.0, later)

pub derived_stand : (end : ℕ) (ns : List Note) → AllStand end ns → ErrorsStand end (derived ns)
derived_stand end ns h = all_joined (λ (error : NameError). InText end error.span) (wrongs ns) (firsts (wrong_annots ns) (wrong_annots ns)) (wrongs_stand end ns h) (firsts_stand end (wrong_annots ns) (wrong_annots ns) (wrong_annots_stand end ns h))

-- each error of a source whose nodes stand in a text stands there
pub errors_stand : (end : ℕ) (unit : Source) → SourceNodes (InText end) unit → All (λ (error : NameError). InText end error.span) (name_errors unit)
errors_stand end unit h = All-from_recursion (λ (error : NameError). InText end error.span) (name_errors unit) (derived_stand end (notes unit.classes) (notes_stand end unit h).all)

listed_stand : (end : ℕ) (es ys : List NameError) → IsListed es ys → All (λ (error : NameError). InText end error.span) es → All (λ (error : NameError). error.span.from ≤ end) ys
listed_stand end es ys listed all =
    All-weaker (Contains ys) (λ (error : NameError). error.span.from ≤ end)
    (λ y c. let at = All-contains (λ (error : NameError). InText end error.span) es y all (listed.found y c) in omega (arith, at.0, at.1)) ys (All-contains_itself ys)

-- ---- limits

passed_within : (end : ℕ) (o : Option Passed) (which : Which) (at : ℕ) → limits.IsWithin end o → IsPassed o (Limit which at) → at ≤ end
passed_within end None which at h is = absurd is
passed_within end (Some p) which at h is = let e : p.place ≡ at = cc in omega (arith, h, e)

-- ---- the whole

pub refusal_within : (end : ℕ) (unit : Source) (why : NameErrors) → Placed end unit → Refuses unit why → place.IsWithin end why
refusal_within end unit (Errors errors) placed refused = listed_stand end (name_errors unit) errors refused.listed (errors_stand end unit (placed_nodes end unit placed))
refusal_within end unit (Limit which at) placed (inl is) = passed_within end (limit unit.classes) which at (limit_within end unit (placed_nodes end unit placed)) is
refusal_within end unit (Limit which at) placed (inr (none, no_errors, is)) =
    passed_within end (inheritance_limit unit.classes) which at (inheritance_limit_within end unit (placed_nodes end unit placed)) is
refusal_within end unit Memory placed refused = tt
