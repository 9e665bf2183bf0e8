-- Types and declarations of variables say the same at their places moved.
use Rattle.std.proofs.Common.{◌≡◌, ℕ, List, [], map, Option, Some, None, refl, sym, subst}
use Rattle.ix_text.specs.declared.span.Span.{Span}
use Rattle.ix_core.specs.declared.claim.Claim.{Claim}
use Rattle.ix_tree.specs.declared.annot.Annot.{Annot}
use Rattle.ix_tree.specs.declared.annot.BaseTree.{BaseTree}
use Rattle.ix_tree.specs.declared.annot.BaseTree.TheVariants as tree
use Rattle.ix_tree.specs.declared.annot.TypeTree.{TypeTree}
use Rattle.ix_annot.specs.declared.scope.Target.{Target}
use Rattle.ix_annot.specs.declared.scope.Target.TheVariants as on
use Rattle.ix_annot.specs.Named.{Names}
use Rattle.ix_meaning.specs.declared.note.Meaning.TheVariants.{ClassNamed}
use Rattle.ix_meaning.specs.declared.note.Rule.TheVariants as rule
use Rattle.ix_meaning.specs.Annotated.{Declaration, aimed, names_nothing, is_int_tree, target_before, class_use, based, written, element_claims, declaration, variable}
use Rattle.ix_guard_text.specs.Moved.{Move, moved_span, moved_annot, moved_base, moved_type}
use Rattle.ix_guard_text.specs.MovedNotes.{AreMoved}
use Rattle.ix_guard_text.proofs.NotesMove.{none, both, used, is_wrong, MovedJudged}
use Rattle.ix_guard_text.proofs.AnnotsMove.{given_moves}

module _ (move : Move) where
  pub int_tree_moved : (base : BaseTree) → is_int_tree (moved_base move base) ≡ is_int_tree base
  int_tree_moved tree.Int = refl
  int_tree_moved tree.Boolean = refl
  int_tree_moved (tree.Named name) = refl

  pub target_moved : (ty : TypeTree) → target_before (moved_type move ty) ≡ target_before ty
  target_moved ty = rw (int_tree_moved ty.base) refl

  class_moves : (class : Option ℕ) (depth : ℕ) (claims : List Claim) (p : Span) → MovedJudged move (class_use class depth claims p) (class_use class depth claims (moved_span move p))
  class_moves None depth claims p = record { ty = refl; notes = is_wrong rule.UnknownName p }
  class_moves (Some class) depth claims p = record { ty = refl; notes = used p (ClassNamed class) none }

  base_moves : (class : List ℕ → Option ℕ) (base : BaseTree) (depth : ℕ) (claims : List Claim) → MovedJudged move (based class base depth claims) (based class (moved_base move base) depth claims)
  base_moves class tree.Int depth claims = record { ty = refl; notes = none }
  base_moves class tree.Boolean depth claims = record { ty = refl; notes = none }
  base_moves class (tree.Named name) depth claims = class_moves (class name.text) depth claims name.span

  pub written_moves : (class : List ℕ → Option ℕ) (ty : TypeTree) (claims : List Claim) → MovedJudged move (written class ty claims) (written class (moved_type move ty) claims)
  written_moves class ty claims = base_moves class ty.base ty.depth claims

  pub element_claims_moved : (first : Target) (before : List Annot) → element_claims first (map (moved_annot move) before) ≡ element_claims first before
  element_claims_moved first before = rw (given_moves move (names_nothing first) before).claims refl

  -- Declarations say the same, their notes at their places moved.
  pub record MovedDeclaration (d e : Declaration) : Type 0 where
    pub ty : d.ty ≡ e.ty
    pub claims : d.claims ≡ e.claims
    pub notes : AreMoved move d.notes e.notes

  pub declaration_moves : (class : List ℕ → Option ℕ) (names : Names) (first second : Target) (before : List Annot) (ty : TypeTree)
      → MovedDeclaration (declaration class names first second before ty) (declaration class names first second (map (moved_annot move) before) (moved_type move ty))
  declaration_moves class names first second before ty =
      let one = given_moves move (aimed names first) before in
      let two = given_moves move (aimed names second) ty.annots in
      record {
        ty = rw (element_claims_moved first before) (written_moves class ty (element_claims first before)).ty;
        claims = rw (one.claims, two.claims) refl;
        notes = both (written_moves class ty []).notes (both one.notes two.notes);
      }

  -- of a variable that isn't static
  pub variable_moves : (class : List ℕ → Option ℕ) (names others : Names) → others ≡ names → (before : List Annot) (ty : TypeTree)
      → MovedDeclaration (variable class names before ty) (variable class others (map (moved_annot move) before) (moved_type move ty))
  variable_moves class names others e before ty =
      let was = variable class names before ty in
      subst (λ n. MovedDeclaration was (variable class n (map (moved_annot move) before) (moved_type move ty))) (sym e)
      (subst (λ t. MovedDeclaration was (declaration class names t on.Array (map (moved_annot move) before) (moved_type move ty))) (sym (target_moved ty)) (declaration_moves class names (target_before ty) on.Array before ty))
