-- Annotations and types of moved tokens.
use Rattle.std.proofs.Common.{◌≡◌, ℕ, ◌+◌, max, List, [], ◌∷◌, ◌++◌, map, Option, Some, None, refl, sym, ap, subst, ◌∙◌}
use Rattle.ix_lexer.specs.declared.fixed.TheConstants.{CLOSE_BRACE, CLOSE_PAREN, OPEN_BRACKET, CLOSE_BRACKET}
use Rattle.ix_tree.specs.declared.annot.Annot.{Annot}
use Rattle.ix_tree.specs.declared.annot.AnnotArg.{AnnotArg}
use Rattle.ix_tree.specs.declared.annot.BaseTree.{BaseTree}
use Rattle.ix_tree.specs.declared.annot.BaseTree.TheVariants.{Int, Boolean, Named}
use Rattle.ix_tree.specs.declared.annot.Ident.{Ident}
use Rattle.ix_grammar.specs.declared.found.At.{At}
use Rattle.ix_grammar.specs.declared.found.FoundType.{FoundType}
use Rattle.ix_grammar.specs.declared.found.Notes.{Notes}
use Rattle.ix_grammar.specs.Patterns.{sign}
use Rattle.ix_grammar.specs.Lists.{IsSeparated, alone, joined}
use Rattle.ix_grammar.specs.AnnotGrammar as g
use Rattle.ix_grammar.specs.AnnotGrammar.{IsText, IsValue, IsNamed, IsAnnot, IsNotes, name_height, args_height, annot_height, no_notes, with_note}
use Rattle.ix_grammar.specs.TypeGrammar as t
use Rattle.ix_grammar.specs.TypeGrammar.{IsBase, IsPairs, IsTypeRest, IsType, base_height, plain_type, array_of}
use Rattle.ix_guard_text.specs.Bare.{bare_maybe as maybe}
use Rattle.ix_guard_text.proofs.ListsAgain.{map_joined}
use Rattle.ix_guard_text.specs.Moved.{Move, moved_span, moved_tokens, moved_name, moved_arg, moved_annot, moved_base}
use Rattle.ix_guard_text.specs.MovedFound.{moved_at, moved_found_base, moved_notes, moved_found_type}
use Rattle.ix_guard_text.proofs.ListsMoved.{both, Moves, repeated, separated}

module _ (move : Move) where
  -- ---- annotations

  text_moves : Moves move IsText IsText (λ x. x)
  text_moves _ _ (g.text found) = g.text (moved_at move found)

  texts_move : Moves move (IsSeparated IsText alone joined) (IsSeparated IsText alone joined) (λ x. x)
  texts_move = separated move IsText IsText (λ x. x) text_moves (λ x. x) joined (λ s x. refl) alone (λ x. refl)

  value_moves : Moves move IsValue IsValue (moved_at move)
  value_moves _ _ (g.number found) = g.number (moved_at move found)
  value_moves _ _ (g.minus_number minus found) = g.minus_number (moved_span move minus) (moved_at move found)
  value_moves _ _ (g.least minus span) = g.least (moved_span move minus) (moved_span move span)
  value_moves _ _ (g.one_text found) = g.one_text (moved_at move found)
  value_moves _ _ (g.truth span) = g.truth (moved_span move span)
  value_moves _ _ (g.falsity span) = g.falsity (moved_span move span)
  value_moves _ _ (g.no_texts left right) = g.no_texts (moved_span move left) (moved_span move right)
  value_moves _ _ (g.texts left right {tokens} {found} d) =
      rw (both move tokens (sign CLOSE_BRACE right ∷ [])) (g.texts (moved_span move left) (moved_span move right) (texts_move tokens found d))

  named_moves : Moves move IsNamed IsNamed (moved_arg move)
  named_moves _ _ (g.named name assign {tokens} {found} d) = g.named (moved_name move name) (moved_span move assign) (value_moves tokens found d)

  args_move : Moves move (IsSeparated IsNamed alone joined) (IsSeparated IsNamed alone joined) (map (moved_arg move))
  args_move = separated move IsNamed IsNamed (moved_arg move) named_moves (map (moved_arg move)) joined (λ s x. sym (map_joined (moved_arg move) s x)) alone (λ x. refl)

  pub annot_moves : Moves move IsAnnot IsAnnot (moved_annot move)
  annot_moves _ _ (g.bare span name) = g.bare (moved_span move span) (moved_name move name)
  annot_moves _ _ (g.no_args span name left right) = g.no_args (moved_span move span) (moved_name move name) (moved_span move left) (moved_span move right)
  annot_moves _ _ (g.plain span name left right {tokens} {found} d) =
      rw (both move tokens (sign CLOSE_PAREN right ∷ []))
      (g.plain (moved_span move span) (moved_name move name) (moved_span move left) (moved_span move right) (value_moves tokens found d))
  annot_moves _ _ (g.with_names span name left right {tokens} {args} d) =
      rw (both move tokens (sign CLOSE_PAREN right ∷ []))
      (g.with_names (moved_span move span) (moved_name move name) (moved_span move left) (moved_span move right) (args_move tokens args d))

  name_height_moved : (name : Option Ident) → name_height (maybe (moved_name move) name) ≡ name_height name
  name_height_moved None = refl
  name_height_moved (Some name) = refl

  args_height_moved : (args : List AnnotArg) → args_height (map (moved_arg move) args) ≡ args_height args
  args_height_moved [] = refl
  args_height_moved (arg ∷ args) = ap (λ n. max (1 + n) (args_height (map (moved_arg move) args))) (name_height_moved arg.name) ∙ ap (λ n. max (1 + name_height arg.name) n) (args_height_moved args)

  pub annot_height_moved : (annot : Annot) → annot_height (moved_annot move annot) ≡ annot_height annot
  annot_height_moved annot = ap (λ n. 1 + max 1 n) (args_height_moved annot.args)

  abbrev notes_of : List Annot → ℕ → Notes
  notes_of annots height = record { annots = annots; height = height }

  notes_joined : (notes : Notes) (annot : Annot) → with_note (moved_notes move notes) (moved_annot move annot) ≡ moved_notes move (with_note notes annot)
  notes_joined notes annot =
      ap (λ n. notes_of (map (moved_annot move) notes.annots ++ moved_annot move annot ∷ []) (max notes.height n)) (annot_height_moved annot)
      ∙ ap (λ l. notes_of l (max notes.height (annot_height annot))) (sym (map_joined (moved_annot move) notes.annots annot))

  pub notes_move : Moves move IsNotes IsNotes (moved_notes move)
  notes_move = repeated move IsAnnot IsAnnot (moved_annot move) annot_moves (moved_notes move) with_note notes_joined no_notes refl

  -- ---- types

  pub base_height_moved : (base : BaseTree) → base_height (moved_base move base) ≡ base_height base
  base_height_moved Int = refl
  base_height_moved Boolean = refl
  base_height_moved (Named name) = refl

  pub base_moves : Moves move IsBase IsBase (moved_found_base move)
  base_moves _ _ (t.int span) = t.int (moved_span move span)
  base_moves _ _ (t.boolean span) = t.boolean (moved_span move span)
  base_moves _ _ (t.named name) = t.named (moved_name move name)

  pub pairs_move : Moves move IsPairs IsPairs (moved_at move)
  pairs_move _ _ (t.pair left right) = t.pair (moved_span move left) (moved_span move right)
  pairs_move _ _ (t.more_pairs {tokens} {pairs} left right d) =
      rw (both move tokens (sign OPEN_BRACKET left ∷ sign CLOSE_BRACKET right ∷ [])) (t.more_pairs (moved_span move left) (moved_span move right) (pairs_move tokens pairs d))

  abbrev with_height : FoundType → ℕ → FoundType
  with_height found height = record { ty = found.ty; height = height }

  plain_moved : (base : At BaseTree) → plain_type (moved_found_base move base) ≡ moved_found_type move (plain_type base)
  plain_moved base = ap (λ n. with_height (plain_type (moved_found_base move base)) (1 + n)) (base_height_moved base.value)

  array_moved : (base : At BaseTree) (notes : Notes) (pairs : At ℕ) → array_of (moved_found_base move base) (moved_notes move notes) (moved_at move pairs) ≡ moved_found_type move (array_of base notes pairs)
  array_moved base notes pairs =
      ap (λ n. with_height (array_of (moved_found_base move base) (moved_notes move notes) (moved_at move pairs)) (1 + max n notes.height)) (base_height_moved base.value)

  rest_moves : (base : At BaseTree) → Moves move (IsTypeRest base) (IsTypeRest (moved_found_base move base)) (moved_found_type move)
  rest_moves base _ _ t.no_rest = subst (λ x. IsTypeRest (moved_found_base move base) [] x) (plain_moved base) t.no_rest
  rest_moves base _ _ (t.array {before} {tokens} {notes} {pairs} d p) =
      rw (both move before tokens)
      (subst (λ x. IsTypeRest (moved_found_base move base) (moved_tokens move before ++ moved_tokens move tokens) x) (array_moved base notes pairs)
      (t.array (notes_move before notes d) (pairs_move tokens pairs p)))

  pub type_moves : Moves move IsType IsType (moved_found_type move)
  type_moves _ _ (t.type {before} {tokens} {base} {ty} b d) = rw (both move before tokens) (t.type (base_moves before base b) (rest_moves base tokens ty d))
