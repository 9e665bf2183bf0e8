-- Annotations mean the same at their places moved.
use Rattle.std.proofs.Common.{◌≡◌, ℕ, Bool, true, false, List, [], ◌∷◌, map, filter, Option, Some, None, Result, Ok, Err, refl, ap}
use Rattle.std.specs.Prelude.{if◌then◌else◌, not, nat_lt}
use Rattle.ix_text.specs.declared.span.Span.{Span}
use Rattle.ix_tree.specs.declared.annot.Annot.{Annot}
use Rattle.ix_tree.specs.declared.annot.AnnotArg.{AnnotArg}
use Rattle.ix_tree.specs.declared.annot.Ident.{Ident}
use Rattle.ix_annot.specs.declared.scope.AnnotError.{AnnotError}
use Rattle.ix_annot.specs.declared.scope.Claims.{Claims}
use Rattle.ix_annot.specs.declared.table.Targets.{Targets}
use Rattle.ix_annot.specs.declared.table.Says.{Says}
use Rattle.ix_annot.specs.declared.table.Says.TheVariants.{Nothing, EffectFree, AtLeast, Between, LengthAtLeast, Arrays, Offsets, Bounds, Ensures, EnsuresIf}
use Rattle.ix_annot.specs.Named.{Names}
use Rattle.ix_annot.specs.Table.{arg_name, argument, row_named, counted, counted_in, counted_of}
use Rattle.ix_annot.specs.Arguments.{are_taken, plan_of, plan}
use Rattle.ix_annot.specs.Expansion.{expanded, with_row}
use Rattle.ix_meaning.specs.Annotated.{Given, given, errors_from, is_of_method, of_method, of_result}
use Rattle.ix_meaning.specs.Declarators.{counting}
use Rattle.ix_guard_text.specs.Bare.{bare_maybe as maybe}
use Rattle.ix_guard_text.specs.Moved.{Move, moved_name, moved_arg, moved_annot}
use Rattle.ix_guard_text.specs.MovedNotes.{AreMoved}
use Rattle.ix_guard_text.proofs.NotesMove.{none, both}

module _ (move : Move) where
  arg_name_moved : (name : Option Ident) → arg_name (maybe (moved_name move) name) ≡ arg_name name
  arg_name_moved None = refl
  arg_name_moved (Some name) = refl

  pub argument_moved : (name : List ℕ) (args : List AnnotArg) → argument name (map (moved_arg move) args) ≡ argument name args
  argument_moved name [] = refl
  argument_moved name (arg ∷ args) = rw (arg_name_moved arg.name, argument_moved name args) refl

  pub taken_moved : (says : Says) (args : List AnnotArg) → are_taken says (map (moved_arg move) args) ≡ are_taken says args
  taken_moved says [] = refl
  taken_moved says (arg ∷ args) = rw (arg_name_moved arg.name, argument_moved (arg_name arg.name) args, taken_moved says args) refl

  plan_of_moved : (says : Says) (args : List AnnotArg) → plan_of says (map (moved_arg move) args) ≡ plan_of says args
  plan_of_moved Nothing args = refl
  plan_of_moved EffectFree args = refl
  plan_of_moved (AtLeast least) args = refl
  plan_of_moved Between args = simp argument_moved refl
  plan_of_moved LengthAtLeast args = simp argument_moved refl
  plan_of_moved (Arrays least each) args = simp argument_moved refl
  plan_of_moved Offsets args = simp argument_moved refl
  plan_of_moved Bounds args = simp argument_moved refl
  plan_of_moved Ensures args = simp argument_moved refl
  plan_of_moved EnsuresIf args = simp argument_moved refl

  pub plan_moved : (says : Says) (args : List AnnotArg) → plan says (map (moved_arg move) args) ≡ plan says args
  unfolding plan
  plan_moved says args = rw (taken_moved says args, plan_of_moved says args) refl

  pub expanded_moved : (annot : Annot) (names : Names) → expanded (moved_annot move annot) names ≡ expanded annot names
  unfolding expanded
  expanded_moved annot names = by_row (row_named annot.name.text)
    where
      by_row : (row : Option (Targets × Says)) → with_row (moved_annot move annot) names row ≡ with_row annot names row
      by_row None = refl
      by_row (Some row) = rw (plan_moved row.1 annot.args) refl

  counted_of_moved : (says : Says) (args : List AnnotArg) → counted_of says (map (moved_arg move) args) ≡ counted_of says args
  counted_of_moved Nothing args = refl
  counted_of_moved EffectFree args = refl
  counted_of_moved (AtLeast least) args = refl
  counted_of_moved Between args = refl
  counted_of_moved LengthAtLeast args = refl
  counted_of_moved (Arrays least each) args = simp argument_moved refl
  counted_of_moved Offsets args = simp argument_moved refl
  counted_of_moved Bounds args = simp argument_moved refl
  counted_of_moved Ensures args = simp argument_moved refl
  counted_of_moved EnsuresIf args = simp argument_moved refl

  pub counted_moved : (annot : Annot) → counted (moved_annot move annot) ≡ counted annot
  counted_moved annot = by_row (row_named annot.name.text)
    where
      by_row : (row : Option (Targets × Says)) → counted_in row (map (moved_arg move) annot.args) ≡ counted_in row annot.args
      by_row None = refl
      by_row (Some row) = counted_of_moved row.1 annot.args

  -- ---- those that pass a test that no place decides

  pub filter_moved : (test : Annot → Bool) → ((annot : Annot) → test (moved_annot move annot) ≡ test annot) → (annots : List Annot) → filter test (map (moved_annot move) annots) ≡ map (moved_annot move) (filter test annots)
  filter_moved test is [] = refl
  filter_moved test is (annot ∷ annots) = rw (is annot, filter_moved test is annots) (kept (test annot))
    where
      kept : (b : Bool) → (if b then moved_annot move annot ∷ map (moved_annot move) (filter test annots) else map (moved_annot move) (filter test annots))
          ≡ map (moved_annot move) (if b then annot ∷ filter test annots else filter test annots)
      kept true = refl
      kept false = refl

  pub counting_moved : (annots : List Annot) → counting (map (moved_annot move) annots) ≡ map (moved_annot move) (counting annots)
  counting_moved = filter_moved (λ annot. nat_lt 0 (counted annot)) (λ annot. ap (nat_lt 0) (counted_moved annot))

  pub of_method_moved : (annots : List Annot) → of_method (map (moved_annot move) annots) ≡ map (moved_annot move) (of_method annots)
  of_method_moved = filter_moved is_of_method (λ annot. refl)

  pub of_result_moved : (annots : List Annot) → of_result (map (moved_annot move) annots) ≡ map (moved_annot move) (of_result annots)
  of_result_moved = filter_moved (λ annot. not (is_of_method annot)) (λ annot. refl)

  -- ---- what annotations give together

  errors_moves : (r : Result Claims AnnotError) (p q : Span) → AreMoved move (errors_from r p) (errors_from r q)
  errors_moves (Ok claims) p q = none
  errors_moves (Err error) p q = record { same = refl }

  -- Annotations give the same, their notes at their places moved.
  pub record MovedGiven (g h : Given) : Type 0 where
    pub claims : g.claims ≡ h.claims
    pub effect_free : g.effect_free ≡ h.effect_free
    pub posts : g.posts ≡ h.posts
    pub notes : AreMoved move g.notes h.notes

  pub given_moves : (names : Names) (annots : List Annot) → MovedGiven (given names annots) (given names (map (moved_annot move) annots))
  given_moves names [] = record { claims = refl; effect_free = refl; posts = refl; notes = none }
  given_moves names (annot ∷ annots) =
      let rest = given_moves names annots in
      rw (expanded_moved annot names)
      (record {
        claims = rw rest.claims refl;
        effect_free = rw rest.effect_free refl;
        posts = rw rest.posts refl;
        notes = both (errors_moves (expanded annot names) annot.span _) rest.notes;
      })
