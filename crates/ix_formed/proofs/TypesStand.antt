-- Errors on annotations and types stand where these are laid out.
use Rattle.std.proofs.Common.{ℕ, Bool, true, false, List, [], ◌∷◌, ◌++◌, map, Option, Some, None}
use Rattle.std.specs.List.{AllByRecursion}
use Rattle.std.specs.Prelude.{Result, Ok, Err, filter, if◌then◌else◌}
use Rattle.ix_text.specs.declared.span.Span.{Span}
use Rattle.ix_core.specs.declared.claim.Claim.{Claim}
use Rattle.ix_tree.specs.declared.annot.Annot.{Annot}
use Rattle.ix_tree.specs.declared.annot.BaseTree.{BaseTree}
use Rattle.ix_tree.specs.declared.annot.BaseTree.TheVariants as tree
use Rattle.ix_tree.specs.declared.annot.TypeTree.{TypeTree}
use Rattle.ix_tree.specs.Placed.{annot_piece, base_pieces}
use Rattle.ix_annot.specs.Named.{Names}
use Rattle.ix_annot.specs.declared.scope.AnnotError.{AnnotError}
use Rattle.ix_annot.specs.declared.scope.Claims.{Claims}
use Rattle.ix_annot.specs.declared.scope.Target.{Target}
use Rattle.ix_annot.specs.Expansion.{expanded}
use Rattle.ix_meaning.specs.declared.note.Meaning.TheVariants.{ClassNamed}
use Rattle.ix_meaning.specs.declared.note.Rule.TheVariants as rule
use Rattle.ix_meaning.specs.Annotated.{given, errors_from, aimed, written, based, class_use, declaration}
use Rattle.ix_formed.specs.EachNode.{InText, AnnotNodes, TypeNodes}
use Rattle.ix_formed.proofs.PiecesLie.{AllLie, row_lies, pieces_parted}
use Rattle.ix_formed.proofs.ErrorsStand.{Stand, none, both, used, is_wrong}

abbrev pub AnnotsStand : ℕ → List Annot → Type 0
AnnotsStand end annots = AllByRecursion (AnnotNodes (InText end)) annots

pub annots_stand : (end : ℕ) (annots : List Annot) → AllLie end (map annot_piece annots) → AnnotsStand end annots
annots_stand end [] h = tt
annots_stand end (annot ∷ annots) h = (h.0, annots_stand end annots h.1)

-- those that pass a test stand where all stand
pub some_stand : (end : ℕ) (test : Annot → Bool) (annots : List Annot) → AnnotsStand end annots → AnnotsStand end (filter test annots)
some_stand end test [] h = tt
some_stand end test (annot ∷ annots) h = kept (some_stand end test annots h.1) (test annot)
  where
    kept : AnnotsStand end (filter test annots) → (b : Bool) → AnnotsStand end (if b then annot ∷ filter test annots else filter test annots)
    kept rest true = (h.0, rest)
    kept rest false = rest

errors_stand : {end : ℕ} (r : Result Claims AnnotError) (span : Span) → InText end span → Stand end (errors_from r span)
errors_stand (Ok claims) span at = none
errors_stand (Err error) span at = record { all = (at, tt) }

pub given_stand : {end : ℕ} (names : Names) (annots : List Annot) → AnnotsStand end annots → Stand end (given names annots).notes
given_stand names [] h = none
given_stand names (annot ∷ annots) h = both (errors_stand (expanded annot names) annot.span h.0.0) (given_stand names annots h.1)

-- ---- types

class_stands : {end : ℕ} (class : Option ℕ) (depth : ℕ) (claims : List Claim) (span : Span) → InText end span → Stand end (class_use class depth claims span).notes
class_stands None depth claims span at = is_wrong rule.UnknownName span at
class_stands (Some class) depth claims span at = used span (ClassNamed class) none

base_stands : {end : ℕ} (class : List ℕ → Option ℕ) (of : BaseTree) (depth : ℕ) (claims : List Claim) → AllLie end (base_pieces of) → Stand end (based class of depth claims).notes
base_stands class tree.Int depth claims h = none
base_stands class tree.Boolean depth claims h = none
base_stands class (tree.Named name) depth claims h = class_stands (class name.text) depth claims name.span h.0.0

-- the base of a type, and its annotations
pub record TypeStands (end : ℕ) (ty : TypeTree) : Type 0 where
  pub base : AllLie end (base_pieces ty.base)
  pub annots : AnnotsStand end ty.annots

pub type_stands : (end : ℕ) (ty : TypeTree) → TypeNodes (InText end) ty → TypeStands end ty
type_stands end ty h =
    let q = pieces_parted end (base_pieces ty.base) (map annot_piece ty.annots) (row_lies end (base_pieces ty.base ++ map annot_piece ty.annots) h.1) in
    record { base = q.0; annots = annots_stand end ty.annots q.1 }

pub written_stands : {end : ℕ} (class : List ℕ → Option ℕ) (ty : TypeTree) (claims : List Claim) → TypeStands end ty → Stand end (written class ty claims).notes
written_stands class ty claims h = base_stands class ty.base ty.depth claims h.base

-- ---- declarations

pub declaration_stands : {end : ℕ} (class : List ℕ → Option ℕ) (names : Names) (first second : Target) (before : List Annot) (ty : TypeTree)
    → AnnotsStand end before → TypeNodes (InText end) ty → Stand end (declaration class names first second before ty).notes
declaration_stands {end} class names first second before ty a b =
    let t = type_stands end ty b in
    both (written_stands class ty [] t) (both (given_stand (aimed names first) before a) (given_stand (aimed names second) ty.annots t.annots))
