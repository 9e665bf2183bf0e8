-- What the rules of expressions read is in the grammar.
use Rattle.std.proofs.Common.{◌≡◌, ℕ, zero, suc, ◌+◌, ◌-◌, ◌≤◌, arith, Bool, true, false, List, [], ◌∷◌, ◌++◌, refl, sym, subst, append_assoc}
use Rattle.std.proofs.lemmas.List.{append-nil}
use Rattle.ix_text.specs.declared.span.Span.{Span}
use Rattle.ix_lexer.specs.declared.token.Token.{Token}
use Rattle.ix_lexer.specs.declared.fixed.TheConstants.{TRUE, FALSE, NULL, THIS, NEW, INT, BOOLEAN, AT, MINUS, DOT, COMMA, OPEN_PAREN, CLOSE_PAREN, OPEN_BRACKET, CLOSE_BRACKET, OPEN_BRACE, CLOSE_BRACE}
use Rattle.ix_tree.specs.declared.annot.Ident.{Ident}
use Rattle.ix_grammar_rules.specs.declared.aims.Aim.{Aim}
use Rattle.ix_grammar_rules.specs.declared.aims.Aim.TheVariants as aim
use Rattle.ix_grammar.specs.declared.found.Found.{Found}
use Rattle.ix_grammar.specs.declared.found.FoundInit.{FoundInit}
use Rattle.ix_grammar.specs.declared.found.FoundItems.{FoundItems}
use Rattle.ix_grammar.specs.declared.found.Several.{Several}
use Rattle.ix_grammar.specs.declared.found.Form.{Form}
use Rattle.ix_grammar.specs.declared.found.Form.TheVariants as form
use Rattle.ix_grammar_rules.specs.Rule.{Rule, pure, stop}
use Rattle.ix_grammar.specs.Patterns.{sign, name_token, unary_signs, step_signs, assign_signs}
use Rattle.ix_grammar.specs.ExprNodes.{no_exprs, with_expr, all_args, no_inits, with_init, makes_array}
use Rattle.ix_grammar_rules.specs.ExprRules.{extra, Parts, Below, inner, inner_init, more_exprs, args, more_inits, items, name_or_call, enclosed, word, creation, object_or_array, noted_array, noted, array, array_rest, first_part, field_or_call, index, index_unless, further, primary_of, only_variable, variable_of, step_behind, value_of, prefixed, unary_of, operand, level_of, assignment, maybe_assigned, whole_of, to_statement, statement_of, init_of, parts_of, no_parts, nothing_below, below, expr, init, statement_expr}
use Rattle.std.proofs.lemmas.Bool.{leb-true}
use Rattle.ix_tree.specs.declared.annot.BaseTree.{BaseTree}
use Rattle.ix_tree.specs.declared.annot.BaseTree.TheVariants.{Int, Boolean, Named}
use Rattle.ix_grammar.specs.declared.found.At.{At}
use Rattle.ix_grammar.specs.declared.found.Notes.{Notes}
use Rattle.ix_grammar.specs.Lists.{no_item, one_more}
use Rattle.ix_grammar.specs.AnnotGrammar.{IsNotes, no_notes, with_note}
use Rattle.ix_grammar.specs.TypeGrammar as types
use Rattle.ix_grammar.specs.TypeGrammar.{based, counted, IsBase}
use Rattle.ix_grammar_rules.specs.TypeRules.{next_pair, pairs}
use Rattle.ix_grammar_rules.proofs.ListsSound.{sign_fits}
use Rattle.ix_grammar_rules.proofs.AnnotSound.{annot_behind_sound, annots_from_sound}
use Rattle.ix_grammar_rules.proofs.TypeSound.{pairs_sound}
use Rattle.ix_grammar.specs.ExprGrammar as g
use Rattle.ix_grammar.specs.ExprGrammar.{IsMorePairs, Primary, Whole, Level, IsExpr, IsExprs, IsArgs, IsInit, IsInits, IsItems, IsStatementExpr}
use Rattle.ix_grammar_rules.proofs.SoundRules.{Sound, After, weaken, pure_sound, stop_sound, bind_sound, sign_sound, name_sound, number_sound, least_sound, one_sound, operator_sound, map_sound, loop_sound}

-- ---- arguments

module _ (inner : Rule Found) (sound : Sound (IsExpr Whole) inner) where
  more_exprs_sound : (s : Several) (front : List Token) → IsExprs front s → Sound (After IsExprs IsExprs front) (more_exprs inner s)
  unfolding more_exprs
  more_exprs_sound s front d = sign_sound COMMA true _ _
      (λ c. bind_sound _ _ sound (λ f us x. pure_sound _ (subst (λ y. IsExprs (front ++ sign COMMA c ∷ y) (with_expr s f)) (sym (append-nil us)) (g.and c d x))))
      (pure_sound _ (subst (λ y. IsExprs y s) (sym (append-nil front)) d))

  -- behind the opening parenthesis
  pub args_sound : Sound (λ ts a. (left : Span) → IsArgs (sign OPEN_PAREN left ∷ ts) a) (args inner)
  unfolding args
  args_sound = sign_sound CLOSE_PAREN true _ _ (λ right. pure_sound _ (λ left. g.no_args left right))
      (bind_sound _ _ sound (λ f us x. bind_sound _ _ (loop_sound (more_exprs inner) IsExprs IsExprs more_exprs_sound (with_expr no_exprs f) us (g.one x))
      (λ s vs d. sign_sound CLOSE_PAREN true _ _ (λ right. pure_sound _ (λ left. subst (λ y. IsArgs (sign OPEN_PAREN left ∷ y) (all_args s right)) (append_assoc us vs (sign CLOSE_PAREN right ∷ [])) (g.some_args left right d))) stop_sound)))

-- ---- the entries of an array

module _ (one : Rule FoundInit) (sound : Sound IsInit one) where
  more_inits_sound : (s : FoundItems) (front : List Token) → IsInits front s → Sound (After IsInits IsItems front) (more_inits one s)
  unfolding more_inits
  more_inits_sound s front d = sign_sound COMMA true _ _
      (λ c. sign_sound CLOSE_BRACE true _ _ (λ right. pure_sound _ (g.with_comma c right d))
      (map_sound _ _ sound (λ i us x. g.later c d x)))
      (sign_sound CLOSE_BRACE true _ _ (λ right. pure_sound _ (g.some_items right d)) stop_sound)

  pub items_sound : (open_at : Span) → Sound IsItems (items one open_at)
  unfolding items
  items_sound open_at = sign_sound CLOSE_BRACE true _ _ (λ right. pure_sound _ (g.no_items right))
      (bind_sound _ _ sound (λ i us x. loop_sound (more_inits one) IsInits IsItems more_inits_sound (with_init (no_inits open_at) i) us (g.first x)))

-- ---- the rules of the parts

abbrev pub IsVariable : List Token → Found → Type 0
IsVariable ts f = IsExpr Primary ts f × (f.form ≡ form.Variable)

pub record SoundParts (p : Parts) : Type 0 where
  pub whole : Sound (IsExpr Whole) p.whole
  pub level : (n : ℕ) → Sound (IsExpr (Level n)) (p.level n)
  pub variable : Sound IsVariable p.variable
  pub init : Sound IsInit p.init

pub record SoundBelow (b : Below) : Type 0 where
  pub lower : SoundParts b.lower
  pub lowest : SoundParts b.lowest

pub inner_sound : (b : Below) → SoundBelow b → (n : ℕ) → Sound (IsExpr Whole) (inner b n)
inner_sound b s zero = let l = s.lower in l.whole
inner_sound b s (suc n) = let l = s.lowest in l.whole

inner_init_sound : (b : Below) → SoundBelow b → (n : ℕ) → Sound IsInit (inner_init b n)
inner_init_sound b s zero = let l = s.lower in l.init
inner_init_sound b s (suc n) = let l = s.lowest in l.init

value_named : form.Value ≡ form.Variable → ⊥
value_named e = cc

statement_named : form.Statement ≡ form.Variable → ⊥
statement_named e = cc

-- A variable has no operators.
pub as_primary : {n : ℕ} {ts : List Token} {f : Found} → IsExpr (Level n) ts f → f.form ≡ form.Variable → IsExpr Primary ts f
as_primary (g.primary d) e = d
as_primary (g.wider d) e = as_primary d e
as_primary (g.least m l) e = absurd (value_named e)
as_primary (g.signed n op s r d) e = absurd (value_named e)
as_primary (g.step_before n up s r d v) e = absurd (statement_named e)
as_primary (g.step_after n up s r d v) e = absurd (statement_named e)
as_primary (g.operators n number op s r d x) e = absurd (value_named e)

-- ---- creations

more_pairs_sound : (last : Span) (found : At ℕ) (front : List Token) → IsMorePairs last front found → Sound (After (IsMorePairs last) (IsMorePairs last) front) (next_pair found)
unfolding next_pair
more_pairs_sound last found front d = sign_sound OPEN_BRACKET true _ _ (λ l. sign_sound CLOSE_BRACKET true _ _ (λ r. pure_sound _ (g.one_more l r d)) stop_sound) (pure_sound _ (subst (λ y. IsMorePairs last y found) (sym (append-nil front)) d))

later_pairs_sound : (last : Span) → Sound (IsMorePairs last) (pairs 1 last)
unfolding pairs
later_pairs_sound last = loop_sound next_pair (IsMorePairs last) (IsMorePairs last) (more_pairs_sound last) (counted 1 last) [] g.no_more

module _ (b : Below) (s : SoundBelow b) (a : Aim) (left : ℕ) (start : Span) where
  -- behind these tokens and a bracket
  rest_sound : (before base_tokens : List Token) (notes : Notes) (base : At BaseTree) → IsNotes before notes → IsBase base_tokens base → (o : Span)
      → Sound (λ ts f. IsExpr Primary (sign NEW start ∷ (before ++ (base_tokens ++ (sign OPEN_BRACKET o ∷ ts)))) f) (array_rest b a start base notes)
  unfolding array_rest
  rest_sound before base_tokens notes base n p o = sign_sound CLOSE_BRACKET true _ _
      (λ r. bind_sound _ _ (pairs_sound 1 r (sign OPEN_BRACKET o ∷ sign CLOSE_BRACKET r ∷ []) (types.pair o r))
      (λ found ps q. sign_sound OPEN_BRACE true _ _ (λ c. map_sound _ _ (items_sound _ (inner_init_sound b s (extra a form.Array)) c) (λ i us d. g.array_of_items start c n p q d)) stop_sound))
      (bind_sound _ _ (inner_sound b s (extra a form.Array)) (λ h us x. sign_sound CLOSE_BRACKET true _ _
      (λ r. map_sound _ _ (later_pairs_sound r) (λ found ps q. g.array_of_length start o r n p x q)) stop_sound))

  array_sound : (before base_tokens : List Token) (notes : Notes) (base : At BaseTree) → IsNotes before notes → IsBase base_tokens base
      → Sound (λ ts f. IsExpr Primary (sign NEW start ∷ (before ++ (base_tokens ++ ts))) f) (array b a start base notes)
  unfolding array
  array_sound before base_tokens notes base n p = sign_sound OPEN_BRACKET true _ _ (λ o. rest_sound before base_tokens notes base n p o) stop_sound

  object_sound : (x : Ident) → Sound (λ ts f. IsExpr Primary (sign NEW start ∷ (name_token x ∷ ts)) f) (object_or_array b a left start x)
  unfolding object_or_array
  object_sound x = sign_sound OPEN_PAREN true _ _ (λ o. map_sound _ _ (args_sound _ (inner_sound b s (extra a form.Statement))) (λ r us d. g.new_object start x (d o)))
      (sign_sound OPEN_BRACKET _ _ _ (λ o. rest_sound [] (name_token x ∷ []) no_notes (based (Named x) x.span) no_item (types.named x) o) stop_sound)

  noted_array_sound : (before : List Token) (notes : Notes) → IsNotes before notes → Sound (λ ts f. IsExpr Primary (sign NEW start ∷ (before ++ ts)) f) (noted_array b a start notes)
  unfolding noted_array
  noted_array_sound before notes n = sign_sound INT true _ _ (λ t. array_sound before (sign INT t ∷ []) notes (based Int t) n (types.int t))
      (sign_sound BOOLEAN true _ _ (λ t. array_sound before (sign BOOLEAN t ∷ []) notes (based Boolean t) n (types.boolean t))
      (name_sound true _ _ (λ x. array_sound before (name_token x ∷ []) notes (based (Named x) x.span) n (types.named x)) stop_sound))

  noted_sound : (at : Span) → extra a form.Array + 4 ≤ left → Sound (λ ts f. IsExpr Primary (sign NEW start ∷ (sign AT at ∷ ts)) f) (noted b a left start at)
  unfolding noted
  noted_sound at four = bind_sound _ _ (annot_behind_sound (left - (extra a form.Array + 2)) at (omega (arith, four)))
      (λ n seen d. bind_sound _ _ (annots_from_sound (left - (extra a form.Array + 2)) (with_note no_notes n) (sign AT at ∷ seen) (one_more no_item d.0, omega (arith, d.1)))
      (λ notes later e. weaken _ (λ ts f d. subst (λ y. IsExpr Primary (sign NEW start ∷ (sign AT at ∷ y)) f) (append_assoc seen later ts) d) (noted_array_sound ((sign AT at ∷ seen) ++ later) notes e.0)))

  creation_sound : Sound (λ ts f. IsExpr Primary (sign NEW start ∷ ts) f) (creation b a left start)
  unfolding creation
  creation_sound = name_sound true _ _ object_sound
      (sign_sound INT _ _ _ (λ t. array_sound [] (sign INT t ∷ []) no_notes (based Int t) no_item (types.int t))
      (sign_sound BOOLEAN _ _ _ (λ t. array_sound [] (sign BOOLEAN t ∷ []) no_notes (based Boolean t) no_item (types.boolean t))
      (sign_fits AT _ _ _ (λ fits at. noted_sound at (leb-true (extra a form.Array + 4) left fits)) stop_sound)))

module _ (b : Below) (s : SoundBelow b) (left : ℕ) where
  -- ---- primaries

  pub name_or_call_sound : (a : Aim) (x : Ident) → Sound (λ ts f. IsExpr Primary (name_token x ∷ ts) f) (name_or_call b a left x)
  unfolding name_or_call
  name_or_call_sound a x = sign_sound OPEN_PAREN _ _ _ (λ o. map_sound _ _ (args_sound _ (inner_sound b s (extra a form.Statement))) (λ r us d. g.call x (d o))) (pure_sound _ (g.variable x))

  enclosed_sound : (a : Aim) (o : Span) → Sound (λ ts f. IsExpr Primary (sign OPEN_PAREN o ∷ ts) f) (enclosed b a o)
  unfolding enclosed
  enclosed_sound a o = bind_sound _ _ (inner_sound b s (extra a form.Value)) (λ f us d. sign_sound CLOSE_PAREN true _ _ (λ right. pure_sound _ (g.paren o right d)) stop_sound)

  word_sound : (a : Aim) (other : Rule Found) → Sound (IsExpr Primary) other → Sound (IsExpr Primary) (word a left other)
  unfolding word
  word_sound a other o = sign_sound TRUE _ _ _ (λ s. pure_sound _ (g.truth s)) (sign_sound FALSE _ _ _ (λ s. pure_sound _ (g.falsity s)) (sign_sound NULL _ _ _ (λ s. pure_sound _ (g.null s)) (sign_sound THIS _ _ _ (λ s. pure_sound _ (g.this s)) o)))

  first_part_sound : (a : Aim) → Sound (IsExpr Primary) (first_part b a left)
  unfolding first_part
  first_part_sound a = number_sound _ _ _ (λ n. pure_sound _ (g.number n.value n.span)) (name_sound _ _ _ (λ x. name_or_call_sound a x) (sign_sound OPEN_PAREN _ _ _ (λ o. enclosed_sound a o) (sign_sound NEW _ _ _ (λ start. creation_sound b s a left start) (word_sound a stop stop_sound))))

  pub field_or_call_sound : (a : Aim) (f : Found) (front : List Token) (dot : Span) (x : Ident) → IsExpr Primary front f → Sound (λ ts r. After (IsExpr Primary) (IsExpr Primary) front (sign DOT dot ∷ name_token x ∷ ts) r) (field_or_call b a left f x)
  unfolding field_or_call
  field_or_call_sound a f front dot x d = sign_sound OPEN_PAREN _ _ _ (λ o. map_sound _ _ (args_sound _ (inner_sound b s (extra a form.Statement))) (λ r us e. g.call_on dot x d (e o))) (pure_sound _ (g.select dot x d))

  index_sound : (a : Aim) (f : Found) (front : List Token) → makes_array f.form ≡ false → IsExpr Primary front f → Sound (After (IsExpr Primary) (IsExpr Primary) front) (index b a left f)
  unfolding index
  index_sound a f front none d = sign_sound OPEN_BRACKET _ _ _ (λ o. bind_sound _ _ (inner_sound b s (extra a form.Variable)) (λ h us x. sign_sound CLOSE_BRACKET true _ _ (λ right. pure_sound _ (g.index o right d none x)) stop_sound))
      (pure_sound _ (subst (λ y. IsExpr Primary y f) (sym (append-nil front)) d))

  index_unless_sound : (c : Bool) (a : Aim) (f : Found) (front : List Token) → makes_array f.form ≡ c → IsExpr Primary front f → Sound (After (IsExpr Primary) (IsExpr Primary) front) (index_unless c b a left f)
  unfolding index_unless
  index_unless_sound true a f front e d = pure_sound _ (subst (λ y. IsExpr Primary y f) (sym (append-nil front)) d)
  index_unless_sound false a f front e d = index_sound a f front e d

  pub further_sound : (a : Aim) (f : Found) (front : List Token) → IsExpr Primary front f → Sound (After (IsExpr Primary) (IsExpr Primary) front) (further b a left f)
  unfolding further
  further_sound a f front d = sign_sound DOT _ _ _ (λ dot. name_sound true _ _ (λ x. field_or_call_sound a f front dot x d) stop_sound) (index_unless_sound (makes_array f.form) a f front refl d)

  pub primary_sound : (a : Aim) → Sound (IsExpr Primary) (primary_of b a left)
  unfolding primary_of
  primary_sound a = bind_sound _ _ (first_part_sound a) (λ f front d. loop_sound (further b a left) (IsExpr Primary) (IsExpr Primary) (λ t us e. further_sound a t us e) f front d)

  -- ---- operators

  only_variable_sound : (f : Found) (front : List Token) (k : Form) → f.form ≡ k → IsExpr Primary front f → Sound (λ later r. IsVariable (front ++ later) r) (only_variable f k)
  unfolding only_variable
  only_variable_sound f front form.Variable e d = pure_sound _ (subst (λ y. IsExpr Primary y f) (sym (append-nil front)) d, e)
  only_variable_sound f front form.Statement e d = stop_sound
  only_variable_sound f front form.Array e d = stop_sound
  only_variable_sound f front form.Value e d = stop_sound

  variable_sound : Sound IsVariable (variable_of b left)
  unfolding variable_of
  variable_sound = bind_sound _ _ (primary_sound aim.Variable) (λ f front d. only_variable_sound f front f.form refl d)

  alone : (f : Found) (front : List Token) → IsExpr Primary front f → Sound (λ later r. IsExpr (Level 0) (front ++ later) r) (pure f)
  alone f front d = pure_sound _ (subst (λ y. IsExpr (Level 0) y f) (sym (append-nil front)) (g.primary d))

  step_behind_sound : (f : Found) (front : List Token) (k : Form) → f.form ≡ k → IsExpr Primary front f → Sound (λ later r. IsExpr (Level 0) (front ++ later) r) (step_behind left f k)
  unfolding step_behind
  step_behind_sound f front form.Variable e d = one_sound step_signs _ _ _ (λ number x r. pure_sound _ (g.step_after number x.value x.span r d e)) (alone f front d)
  step_behind_sound f front form.Statement e d = alone f front d
  step_behind_sound f front form.Array e d = alone f front d
  step_behind_sound f front form.Value e d = alone f front d

  value_sound : Sound (IsExpr (Level 0)) (value_of b left)
  unfolding value_of
  value_sound = bind_sound _ _ (primary_sound aim.Value) (λ f front d. step_behind_sound f front f.form refl d)

  prefixed_sound : (other : Rule Found) (Q : List Token → Found → Type 0) → ((ts : List Token) (f : Found) → IsExpr (Level 0) ts f → f.form ≡ form.Statement → Q ts f) → Sound Q other → Sound Q (prefixed b left other)
  unfolding prefixed
  prefixed_sound other Q w o = one_sound step_signs _ _ _ (λ number x r. map_sound _ _ (let l = s.lower in l.variable) (λ f us d. w _ _ (g.step_before number x.value x.span r d.0 d.1) refl)) o

  unary_sound : Sound (IsExpr (Level 0)) (unary_of b left)
  unfolding unary_of
  unary_sound = sign_sound MINUS _ _ _
      (λ m. least_sound true _ _ (λ literal. pure_sound _ (g.least m literal)) (map_sound _ _ (let l = s.lower in l.level 0) (λ f us d. g.signed MINUS _ m refl d)))
      (one_sound unary_signs _ _ _ (λ number x r. map_sound _ _ (let l = s.lower in l.level 0) (λ f us d. g.signed number x.value x.span r d))
      (prefixed_sound _ (IsExpr (Level 0)) (λ ts f d e. d) value_sound))

  operand_sound : (n : ℕ) (f : Found) (front : List Token) → IsExpr (Level (suc n)) front f → Sound (After (IsExpr (Level (suc n))) (IsExpr (Level (suc n))) front) (operand b left n f)
  unfolding operand
  operand_sound n f front d = operator_sound n _ _ _ (λ number x r. map_sound _ _ (let l = s.lower in l.level n) (λ h us e. g.operators n number x.value x.span r d e))
      (pure_sound _ (subst (λ y. IsExpr (Level (suc n)) y f) (sym (append-nil front)) d))

  level_sound : (n : ℕ) → Sound (IsExpr (Level n)) (level_of b left n)
  unfolding level_of
  level_sound zero = unary_sound
  level_sound (suc n) = bind_sound _ _ (level_sound n) (λ f front d. loop_sound (operand b left n) (IsExpr (Level (suc n))) (IsExpr (Level (suc n))) (λ t us e. operand_sound n t us e) f front (g.wider d))

  whole_alone : (f : Found) (front : List Token) → IsExpr (Level 10) front f → Sound (λ later r. IsExpr Whole (front ++ later) r) (pure f)
  whole_alone f front d = pure_sound _ (subst (λ y. IsExpr Whole y f) (sym (append-nil front)) (g.binary d))

  assignment_sound : (f : Found) (front : List Token) (other : Rule Found) (Q : List Token → Found → Type 0) → ((ts : List Token) (h : Found) → IsExpr Whole ts h → h.form ≡ form.Statement → Q ts h)
      → IsVariable front f → Sound (λ later r. Q (front ++ later) r) other → Sound (λ later r. Q (front ++ later) r) (assignment b left f other)
  unfolding assignment
  assignment_sound f front other Q w v o = one_sound assign_signs _ _ _ (λ number x r. map_sound _ _ (let l = s.lower in l.whole) (λ h us e. w _ _ (g.assign number x.value x.span r v.0 v.1 e) refl)) o

  maybe_assigned_sound : (f : Found) (front : List Token) (k : Form) → f.form ≡ k → IsExpr (Level 10) front f → Sound (λ later r. IsExpr Whole (front ++ later) r) (maybe_assigned b left f k)
  unfolding maybe_assigned
  maybe_assigned_sound f front form.Variable e d = assignment_sound f front (pure f) (IsExpr Whole) (λ ts h d e. d) (as_primary d e, e) (whole_alone f front d)
  maybe_assigned_sound f front form.Statement e d = whole_alone f front d
  maybe_assigned_sound f front form.Array e d = whole_alone f front d
  maybe_assigned_sound f front form.Value e d = whole_alone f front d

  whole_sound : Sound (IsExpr Whole) (whole_of b left)
  unfolding whole_of
  whole_sound = bind_sound _ _ (level_sound 10) (λ f front d. maybe_assigned_sound f front f.form refl d)

  -- ---- statements and initialisers

  of_level : (n : ℕ) (ts : List Token) (f : Found) → IsExpr (Level 0) ts f → IsExpr (Level n) ts f
  of_level zero ts f d = d
  of_level (suc n) ts f d = g.wider (of_level n ts f d)

  as_statement : (ts : List Token) (f : Found) → IsExpr (Level 0) ts f → f.form ≡ form.Statement → IsStatementExpr ts f
  as_statement ts f d e = record { is = g.binary (of_level 10 ts f d); form = e }

  pub to_statement_sound : (f : Found) (front : List Token) (k : Form) → f.form ≡ k → IsExpr Primary front f → Sound (λ later r. IsStatementExpr (front ++ later) r) (to_statement b left f k)
  unfolding to_statement
  to_statement_sound f front form.Variable e d = assignment_sound f front _ IsStatementExpr (λ ts h d e. record { is = d; form = e }) (d, e)
      (one_sound step_signs _ _ _ (λ number x r. pure_sound _ (as_statement _ _ (g.step_after number x.value x.span r d e) refl)) stop_sound)
  to_statement_sound f front form.Statement e d = pure_sound _ (subst (λ y. IsStatementExpr y f) (sym (append-nil front)) (as_statement front f (g.primary d) e))
  to_statement_sound f front form.Array e d = stop_sound
  to_statement_sound f front form.Value e d = stop_sound

  statement_sound : Sound IsStatementExpr (statement_of b left)
  unfolding statement_of
  statement_sound = prefixed_sound _ IsStatementExpr as_statement (bind_sound _ _ (primary_sound aim.Statement) (λ f front d. to_statement_sound f front f.form refl d))

  init_sound : Sound IsInit (init_of b left)
  unfolding init_of
  init_sound = sign_sound OPEN_BRACE _ _ _ (λ o. map_sound _ _ (items_sound _ (let l = s.lower in l.init) o) (λ r us d. g.entries o d)) (map_sound _ _ (let l = s.lower in l.whole) (λ f us d. g.value d))

  parts_sound : SoundParts (parts_of b left)
  unfolding parts_of
  parts_sound = record { whole = whole_sound; level = level_sound; variable = variable_sound; init = init_sound }

-- ---- every height

no_parts_sound : SoundParts no_parts
no_parts_sound = record { whole = stop_sound; level = λ n. stop_sound; variable = stop_sound; init = stop_sound }

pub sound_below : (left : ℕ) → SoundBelow (below left)
unfolding below
sound_below zero = let p : SoundParts nothing_below = parts_sound (record { lower = no_parts; lowest = no_parts }) (record { lower = no_parts_sound; lowest = no_parts_sound }) 0 in record { lower = p; lowest = p }
sound_below (suc left) = let s = sound_below left in record { lower = parts_sound (below left) s left; lowest = s.lower }

pub expr_sound : (left : ℕ) → Sound (IsExpr Whole) (expr left)
expr_sound left = whole_sound (below left) (sound_below left) left

pub init_is_sound : (left : ℕ) → Sound IsInit (init left)
init_is_sound left = init_sound (below left) (sound_below left) left

pub statement_expr_sound : (left : ℕ) → Sound IsStatementExpr (statement_expr left)
statement_expr_sound left = statement_sound (below left) (sound_below left) left
