-- Where the rules of expressions stop, what they took goes on to an expression that is low enough. Where nothing is low enough, they take nothing.
use Rattle.std.proofs.Common.{◌≡◌, ℕ, zero, suc, ◌+◌, ◌<◌, ◌≤◌, nat_le, nat_lt, arith, Bool, true, false, List, [], ◌∷◌, ◌++◌, refl, ap, ◌⊎◌, inl, inr}
use Rattle.std.proofs.lemmas.Bool.{leb-true, ltb-true, ltb-false, false_from_ne_true}
use Rattle.ix_text.specs.declared.span.Span.{Span}
use Rattle.ix_lexer.specs.declared.token.Token.{Token}
use Rattle.ix_lexer.specs.declared.fixed.TheConstants.{TRUE, FALSE, NULL, THIS, NEW, MINUS, DOT, OPEN_PAREN, CLOSE_PAREN, OPEN_BRACKET, CLOSE_BRACKET, OPEN_BRACE, CLOSE_BRACE}
use Rattle.ix_tree.specs.declared.annot.Ident.{Ident}
use Rattle.ix_tree.specs.declared.expr.ExprKind.{ExprKind}
use Rattle.ix_tree.specs.declared.expr.ExprKind.TheVariants as e
use Rattle.ix_grammar_rules.specs.declared.aims.Aim.{Aim}
use Rattle.ix_grammar_rules.specs.declared.aims.Aim.TheVariants as aim
use Rattle.ix_grammar.specs.declared.found.Form.{Form}
use Rattle.ix_grammar.specs.declared.found.Form.TheVariants as form
use Rattle.ix_grammar.specs.declared.found.Found.{Found}
use Rattle.ix_grammar.specs.declared.found.FoundInit.{FoundInit}
use Rattle.ix_grammar_rules.specs.Rule.{Rule, pure, stop, loop, On}
use Rattle.ix_grammar.specs.Patterns.{sign, name_token, least_token, unary_signs, step_signs, assign_signs}
use Rattle.ix_grammar.specs.ExprNodes.{leaf, within, element, called, called_on, least_int, items_init, no_inits, makes_array}
use Rattle.ix_grammar_rules.specs.ExprRules.{extra, Parts, Below, args, name_or_call, enclosed, word, first_part, field_or_call, index, index_unless, further, primary_of, only_variable, variable_of, step_behind, value_of, prefixed, unary_of, operand, level_of, assignment, maybe_assigned, whole_of, to_statement, statement_of, init_of, parts_of, no_parts, nothing_below, below, expr, level, variable, init, statement_expr}
use Rattle.ix_grammar.specs.ExprGrammar as g
use Rattle.ix_grammar.specs.ExprGrammar.{Kind, Primary, Whole, Level, IsExpr, IsArgs, IsInit, IsStatementExpr}
use Rattle.ix_grammar_rules.proofs.ExactRules.{Exact, exact_more, pure_exact, stop_exact, bind_exact, map_exact, maybe_map, after_exact, done_exact, turns_exact, sign_exact, name_exact, number_exact, least_exact, one_exact, operator_exact, end_sign, must_name, nothing_stop, nothing_take}
use Rattle.ix_grammar_rules.proofs.ExprExact.{Low, LowInit, args_exact, items_exact, NoParts, ExactParts, ExactBelow, inner_exact, statement_of_level, Wanted, Prim, prim_of, prim_name, prim_field, call_args_exact, creation_exact}
use Rattle.ix_grammar_rules.proofs.ExprHeights.{extra_at_most}
use Rattle.ix_grammar_rules.proofs.ExprSound.{IsVariable, as_primary}
use Rattle.ix_grammar_rules.proofs.Follows.{tall}
use Rattle.ix_grammar_rules.proofs.ListsViable.{here}
use Rattle.ix_grammar_rules.proofs.SoundRules.{After}
use Rattle.ix_grammar_rules.proofs.ViableRules.{Viable, Nothing, nothing_bind}

-- it is that, and low enough
abbrev pub Upto : Kind → ℕ → List Token → Found → Type 0
Upto kind left ts f = IsExpr kind ts f × (f.height ≤ left)

-- whether there is room
pub room : (n left : ℕ) → (n < left) ⊎ (left ≤ n)
room n left = at (nat_lt n left) refl
  where
    at : (c : Bool) → nat_lt n left ≡ c → (n < left) ⊎ (left ≤ n)
    at true e = inl (ltb-true n left e)
    at false e = inr (ltb-false n left e)

module _ (left : ℕ) (b : Below) (l : ExactBelow left b) where
  -- ---- primaries

  pub name_or_call_exact : (a : Aim) (x : Ident) → 2 ≤ left → Exact (λ ts f. Prim a left (name_token x ∷ ts) f) (name_or_call b a left x)
  unfolding name_or_call
  name_or_call_exact a x two = sign_exact OPEN_PAREN _ _ _ (λ t o. map_exact _ _ (call_args_exact left b l a o (leb-true (extra a form.Statement + 2) left t))
      (λ r us d. prim_of a left _ (called x r) (g.call x d.0) (omega (arith, d.1, leb-true (extra a form.Statement + 2) left t))))
      (pure_exact _ (prim_name a left x two))

  enclosed_exact : (a : Aim) (o : Span) → extra a form.Value + 2 ≤ left → Exact (λ ts f. Prim a left (sign OPEN_PAREN o ∷ ts) f) (enclosed b a o)
  unfolding enclosed
  enclosed_exact a o room = bind_exact _ _ (inner_exact left b l (extra a form.Value) (extra_at_most a form.Value) (omega (arith, room)))
      (λ f us d. end_sign CLOSE_PAREN (λ right. within o right f) (λ right. prim_of a left _ (within o right f) (g.paren o right d.0) (omega (arith, d.1))))

  -- a literal or `this`
  leaf_prim : (a : Aim) (ts : List Token) (kind : ExprKind) (s : Span) → IsExpr Primary ts (leaf kind s) → extra a form.Value + 1 ≤ left → Prim a left ts (leaf kind s)
  leaf_prim a ts kind s d room = prim_of a left ts (leaf kind s) d (omega (arith, room))

  word_exact : (a : Aim) (other : Rule Found) → Exact (Prim a left) other → Exact (Prim a left) (word a left other)
  unfolding word
  word_exact a other o = sign_exact TRUE _ _ _ (λ t s. pure_exact _ (leaf_prim a _ _ s (g.truth s) (leb-true (extra a form.Value + 1) left t)))
      (sign_exact FALSE _ _ _ (λ t s. pure_exact _ (leaf_prim a _ _ s (g.falsity s) (leb-true (extra a form.Value + 1) left t)))
      (sign_exact NULL _ _ _ (λ t s. pure_exact _ (leaf_prim a _ _ s (g.null s) (leb-true (extra a form.Value + 1) left t)))
      (sign_exact THIS _ _ _ (λ t s. pure_exact _ (leaf_prim a _ _ s (g.this s) (leb-true (extra a form.Value + 1) left t))) o)))

  first_exact : (a : Aim) → extra a form.Value + 1 ≤ left → Exact (Prim a left) (first_part b a left)
  unfolding first_part
  first_exact a room = number_exact _ _ _ (λ t n. pure_exact _ (leaf_prim a _ _ n.span (g.number n.value n.span) (leb-true (extra a form.Value + 1) left t)))
      (name_exact _ _ _ (λ t x. name_or_call_exact a x (leb-true 2 left t))
      (sign_exact OPEN_PAREN _ _ _ (λ t o. enclosed_exact a o (leb-true (extra a form.Value + 2) left t))
      (sign_exact NEW _ _ _ (λ t s. creation_exact left b l a s (leb-true (extra a form.Statement + 2) left t))
      (word_exact a stop (stop_exact (sign TRUE here ∷ [], leaf (e.Bool true) here, leaf_prim a _ _ here (g.truth here) room))))))

  pub field_or_call_exact : (a : Aim) (f : Found) (front : List Token) (dot : Span) (x : Ident) → IsExpr Primary front f → f.height < left
      → Exact (λ ts r. After (Prim a left) (Prim a left) front (sign DOT dot ∷ name_token x ∷ ts) r) (field_or_call b a left f x)
  unfolding field_or_call
  field_or_call_exact a f front dot x d lt = sign_exact OPEN_PAREN _ _ _
      (λ t o. map_exact _ _ (call_args_exact left b l a o (omega (arith, tall d, leb-true (extra a form.Statement + (f.height + 1)) left t)))
      (λ r us y. prim_of a left _ (called_on f x r) (g.call_on dot x d y.0) (omega (arith, tall d, y.1, leb-true (extra a form.Statement + (f.height + 1)) left t))))
      (pure_exact _ (prim_field a left front f dot x d lt))

  index_exact : (a : Aim) (f : Found) (front : List Token) → makes_array f.form ≡ false → Prim a left front f → Exact (After (Prim a left) (Prim a left) front) (index b a left f)
  unfolding index
  index_exact a f front none p = sign_exact OPEN_BRACKET _ _ _
      (λ t o. bind_exact _ _ (inner_exact left b l (extra a form.Variable) (extra_at_most a form.Variable) (omega (arith, tall p.is, leb-true (extra a form.Variable + (f.height + 1)) left t)))
      (λ h us x. end_sign CLOSE_BRACKET (λ right. On (element f h right)) (λ right. prim_of a left _ (element f h right) (g.index o right p.is none x.0) (omega (arith, x.1, leb-true (extra a form.Variable + (f.height + 1)) left t)))))
      (done_exact (Prim a left) (Prim a left) front f p)

  index_unless_exact : (c : Bool) (a : Aim) (f : Found) (front : List Token) → makes_array f.form ≡ c → Prim a left front f → Exact (After (Prim a left) (Prim a left) front) (index_unless c b a left f)
  unfolding index_unless
  index_unless_exact true a f front none p = done_exact (Prim a left) (Prim a left) front f p
  index_unless_exact false a f front none p = index_exact a f front none p

  pub further_exact : (a : Aim) (f : Found) (front : List Token) → Prim a left front f → Exact (After (Prim a left) (Prim a left) front) (further b a left f)
  unfolding further
  further_exact a f front p = sign_exact DOT _ _ _ (λ t dot. must_name _ (λ x. field_or_call_exact a f front dot x p.is (ltb-true f.height left t))) (index_unless_exact (makes_array f.form) a f front refl p)

  pub chain_exact : (a : Aim) (f : Found) (front : List Token) → Prim a left front f → Exact (λ later r. Prim a left (front ++ later) r) (loop (further b a left) f)
  chain_exact a f front p = turns_exact (further b a left) (Prim a left) (further_exact a) f front p

  primary_exact : (a : Aim) → extra a form.Value + 1 ≤ left → Exact (Prim a left) (primary_of b a left)
  unfolding primary_of
  primary_exact a room = bind_exact _ _ (first_exact a room) (λ f front p. chain_exact a f front p)

  -- ---- operators

  only_variable_exact : (f : Found) (front : List Token) (k : Form) → f.form ≡ k → Prim aim.Variable left front f → Exact (λ later r. Wanted aim.Variable left (front ++ later) r) (only_variable f k)
  unfolding only_variable
  only_variable_exact f front form.Variable e p = after_exact (Wanted aim.Variable left) front f ((p.is, e), p.low (ap (extra aim.Variable) e))
  only_variable_exact f front form.Statement e p = stop_exact p.goes
  only_variable_exact f front form.Array e p = stop_exact p.goes
  only_variable_exact f front form.Value e p = stop_exact p.goes

  variable_exact : 2 ≤ left → Exact (λ ts f. IsVariable ts f × (f.height ≤ left)) (variable_of b left)
  unfolding variable_of
  variable_exact two = bind_exact _ _ (primary_exact aim.Variable two) (λ f front p. only_variable_exact f front f.form refl p)

  alone : (f : Found) (front : List Token) → Prim aim.Value left front f → Exact (λ later r. Upto (Level 0) left (front ++ later) r) (pure f)
  alone f front p = after_exact (Upto (Level 0) left) front f (g.primary p.is, p.low refl)

  step_behind_exact : (f : Found) (front : List Token) (k : Form) → f.form ≡ k → Prim aim.Value left front f → Exact (λ later r. Upto (Level 0) left (front ++ later) r) (step_behind left f k)
  unfolding step_behind
  step_behind_exact f front form.Variable e p = one_exact step_signs _ _ _ (λ t number x r. pure_exact _ (g.step_after number x.value x.span r p.is e, omega (arith, ltb-true f.height left t))) (alone f front p)
  step_behind_exact f front form.Statement e p = alone f front p
  step_behind_exact f front form.Array e p = alone f front p
  step_behind_exact f front form.Value e p = alone f front p

  value_exact : 1 ≤ left → Exact (Upto (Level 0) left) (value_of b left)
  unfolding value_of
  value_exact one = bind_exact _ _ (primary_exact aim.Value one) (λ f front p. step_behind_exact f front f.form refl p)

  prefixed_exact : (other : Rule Found) (Q : List Token → Found → Type 0) → ((ts : List Token) (f : Found) → IsExpr (Level 0) ts f → f.form ≡ form.Statement → f.height ≤ left → Q ts f) → Exact Q other → Exact Q (prefixed b left other)
  unfolding prefixed
  prefixed_exact other Q w o = one_exact step_signs _ _ _ (λ t number x r. map_exact _ _ (let p = l.lower in p.variable (omega (arith, leb-true 3 left t)))
      (λ f us d. w _ _ (g.step_before number x.value x.span r d.0.0 d.0.1) refl d.1)) o

  -- the operand of a sign
  operand_below : 2 ≤ left → Exact (Low (Level 0) 1 left) (b.lower.level 0)
  operand_below two = let p = l.lower in p.level (omega (arith, two)) 0

  -- Where no operand is low enough, only the literal may follow a minus.
  maybe_operand : (1 < left) ⊎ (left ≤ 1) → Exact (Low (Level 0) 1 left) (b.lower.level 0) ⊎ Nothing (b.lower.level 0)
  maybe_operand (inl two) = inl (operand_below two)
  maybe_operand (inr le) = let p = l.lower in let n = p.none le in inr (n.level 0)

  unary_exact : (1 < left) ⊎ (left ≤ 1) → 1 ≤ left → Exact (Upto (Level 0) left) (unary_of b left)
  unfolding unary_of
  unary_exact either one = sign_exact MINUS _ _ _
      (λ t m. least_exact true _ _ (λ u s. pure_exact _ (g.least m s, one))
      (maybe_map _ _ (maybe_operand either) (least_token here ∷ [], least_int m here, (g.least m here, one)) (λ f us d. (g.signed MINUS _ m refl d.0, d.1))))
      (one_exact unary_signs _ _ _ (λ t number x r. map_exact _ _ (operand_below (leb-true 2 left t)) (λ f us d. (g.signed number x.value x.span r d.0, d.1)))
      (prefixed_exact _ (Upto (Level 0) left) (λ ts f d e h. (d, h)) (value_exact one)))

  operand_exact : (n : ℕ) (f : Found) (front : List Token) → Upto (Level (suc n)) left front f → Exact (After (Upto (Level (suc n)) left) (Upto (Level (suc n)) left) front) (operand b left n f)
  unfolding operand
  operand_exact n f front d = operator_exact n _ _ _ (λ t number x r. map_exact _ _ (let p = l.lower in p.level (omega (arith, tall d.0, ltb-true f.height left t)) n)
      (λ h us y. (g.operators n number x.value x.span r d.0 y.0, omega (arith, y.1, ltb-true f.height left t))))
      (done_exact (Upto (Level (suc n)) left) (Upto (Level (suc n)) left) front f d)

  level_exact : 1 ≤ left → (n : ℕ) → Exact (Upto (Level n) left) (level_of b left n)
  unfolding level_of
  level_exact one zero = unary_exact (room 1 left) one
  level_exact one (suc n) = bind_exact _ _ (level_exact one n) (λ f front d. turns_exact (operand b left n) (Upto (Level (suc n)) left) (operand_exact n) f front (g.wider d.0, d.1))

  whole_alone : (f : Found) (front : List Token) → Upto (Level 10) left front f → Exact (λ later r. Upto Whole left (front ++ later) r) (pure f)
  whole_alone f front d = after_exact (Upto Whole left) front f (g.binary d.0, d.1)

  assignment_exact : (f : Found) (front : List Token) (other : Rule Found) (Q : List Token → Found → Type 0) → ((ts : List Token) (h : Found) → IsExpr Whole ts h → h.form ≡ form.Statement → h.height ≤ left → Q ts h)
      → IsVariable front f → Exact (λ later r. Q (front ++ later) r) other → Exact (λ later r. Q (front ++ later) r) (assignment b left f other)
  unfolding assignment
  assignment_exact f front other Q w v o = one_exact assign_signs _ _ _ (λ t number x r. map_exact _ _ (let p = l.lower in p.whole (omega (arith, tall v.0, ltb-true f.height left t)))
      (λ h us y. w _ _ (g.assign number x.value x.span r v.0 v.1 y.0) refl (omega (arith, y.1, ltb-true f.height left t)))) o

  maybe_assigned_exact : (f : Found) (front : List Token) (k : Form) → f.form ≡ k → Upto (Level 10) left front f → Exact (λ later r. Upto Whole left (front ++ later) r) (maybe_assigned b left f k)
  unfolding maybe_assigned
  maybe_assigned_exact f front form.Variable e d = assignment_exact f front (pure f) (Upto Whole left) (λ ts h d e le. (d, le)) (as_primary d.0 e, e) (whole_alone f front d)
  maybe_assigned_exact f front form.Statement e d = whole_alone f front d
  maybe_assigned_exact f front form.Array e d = whole_alone f front d
  maybe_assigned_exact f front form.Value e d = whole_alone f front d

  whole_exact : 1 ≤ left → Exact (Upto Whole left) (whole_of b left)
  unfolding whole_of
  whole_exact one = bind_exact _ _ (level_exact one 10) (λ f front d. maybe_assigned_exact f front f.form refl d)

  -- ---- statements and initialisers

  abbrev pub UptoRun : List Token → Found → Type 0
  UptoRun ts f = IsStatementExpr ts f × (f.height ≤ left)

  pub to_statement_exact : (f : Found) (front : List Token) (k : Form) → f.form ≡ k → Prim aim.Statement left front f → Exact (λ later r. UptoRun (front ++ later) r) (to_statement b left f k)
  unfolding to_statement
  to_statement_exact f front form.Variable e p = assignment_exact f front _ UptoRun (λ ts h d e le. (record { is = d; form = e }, le)) (p.is, e)
      (one_exact step_signs _ _ _ (λ t number x r. pure_exact _ (statement_of_level _ _ (g.step_after number x.value x.span r p.is e) refl, omega (arith, ltb-true f.height left t))) (stop_exact p.goes))
  to_statement_exact f front form.Statement e p = after_exact UptoRun front f (statement_of_level front f (g.primary p.is) e, p.low (ap (extra aim.Statement) e))
  to_statement_exact f front form.Array e p = stop_exact p.goes
  to_statement_exact f front form.Value e p = stop_exact p.goes

  statement_exact : 2 ≤ left → Exact UptoRun (statement_of b left)
  unfolding statement_of
  statement_exact two = prefixed_exact _ UptoRun (λ ts f d e le. (statement_of_level ts f d e, le)) (bind_exact _ _ (primary_exact aim.Statement two) (λ f front p. to_statement_exact f front f.form refl p))

  -- Where no entry is low enough, only the closing brace may follow, and where no expression is, only the opening one may come.
  maybe_entry : (1 < left) ⊎ (left ≤ 1) → Exact (LowInit 1 left) b.lower.init ⊎ Nothing b.lower.init
  maybe_entry (inl two) = let p = l.lower in inl (p.init two)
  maybe_entry (inr le) = let p = l.lower in let n = p.none le in inr n.init

  maybe_value : (1 < left) ⊎ (left ≤ 1) → Exact (Low Whole 1 left) b.lower.whole ⊎ Nothing b.lower.whole
  maybe_value (inl two) = let p = l.lower in inl (p.whole two)
  maybe_value (inr le) = let p = l.lower in let n = p.none le in inr n.whole

  abbrev UptoInit : List Token → FoundInit → Type 0
  UptoInit ts i = IsInit ts i × (i.height ≤ left)

  init_exact : (1 < left) ⊎ (left ≤ 1) → 1 ≤ left → Exact UptoInit (init_of b left)
  unfolding init_of
  init_exact either one = sign_exact OPEN_BRACE _ _ _ (λ t o. map_exact _ _ (items_exact b.lower.init 1 left o one (maybe_entry either)) (λ s us d. (g.entries o d.0, d.1)))
      (maybe_map _ _ (maybe_value either) (sign OPEN_BRACE here ∷ sign CLOSE_BRACE here ∷ [], items_init here (no_inits here), (g.entries here (g.no_items here), one)) (λ f us d. (g.value d.0, d.1)))

-- ---- where there is no room

pub below_false : (n left : ℕ) → left < n → nat_le n left ≡ false
below_false n left lt = false_from_ne_true (nat_le n left) (λ e. omega (arith, lt, leb-true n left e))

module _ (left : ℕ) (b : Below) (le : left ≤ 1) where
  word_nothing : (a : Aim) (other : Rule Found) → left < extra a form.Value + 1 → Nothing other → Nothing (word a left other)
  unfolding word
  word_nothing a other lt n = let no = below_false (extra a form.Value + 1) left lt in nothing_take _ _ _ _ no (nothing_take _ _ _ _ no (nothing_take _ _ _ _ no (nothing_take _ _ _ _ no n)))

  first_nothing : (a : Aim) → left < extra a form.Value + 1 → Nothing (first_part b a left)
  unfolding first_part
  first_nothing a lt = nothing_take _ _ _ _ (below_false (extra a form.Value + 1) left lt) (nothing_take _ _ _ _ (below_false 2 left (omega (arith, le)))
      (nothing_take _ _ _ _ (below_false (extra a form.Value + 2) left (omega (arith, lt))) (nothing_take _ _ _ _ (below_false (extra a form.Statement + 2) left (omega (arith, le))) (word_nothing a stop lt nothing_stop))))

  primary_nothing : (a : Aim) → left < extra a form.Value + 1 → Nothing (primary_of b a left)
  unfolding primary_of
  primary_nothing a lt = nothing_bind _ _ (first_nothing a lt)

  prefixed_nothing : (other : Rule Found) → Nothing other → Nothing (prefixed b left other)
  unfolding prefixed
  prefixed_nothing other n = nothing_take _ _ _ _ (below_false 3 left (omega (arith, le))) n

  pub variable_of_nothing : Nothing (variable_of b left)
  unfolding variable_of
  variable_of_nothing = nothing_bind _ _ (primary_nothing aim.Variable (omega (arith, le)))

  pub statement_of_nothing : Nothing (statement_of b left)
  unfolding statement_of
  statement_of_nothing = prefixed_nothing _ (nothing_bind _ _ (primary_nothing aim.Statement (omega (arith, le))))

  level_nothing : left ≡ 0 → (n : ℕ) → Nothing (level_of b left n)
  unfolding level_of unary_of value_of
  level_nothing z zero = nothing_take _ _ _ _ (below_false 1 left (omega (arith, z))) (nothing_take _ _ _ _ (below_false 2 left (omega (arith, z)))
      (prefixed_nothing _ (nothing_bind _ _ (primary_nothing aim.Value (omega (arith, z))))))
  level_nothing z (suc n) = nothing_bind _ _ (level_nothing z n)

  whole_nothing : left ≡ 0 → Nothing (whole_of b left)
  unfolding whole_of
  whole_nothing z = nothing_bind _ _ (level_nothing z 10)

  init_nothing : left ≡ 0 → Nothing b.lower.whole → Nothing (init_of b left)
  unfolding init_of
  init_nothing z n = nothing_take _ _ _ _ (below_false 1 left (omega (arith, z))) (nothing_bind _ _ n)

  pub parts_nothing : left ≡ 0 → Nothing b.lower.whole → NoParts (parts_of b left)
  unfolding parts_of
  parts_nothing z n = record { whole = whole_nothing z; level = level_nothing z; init = init_nothing z n }

-- ---- every height

-- the rules of some height, seen from one that is so much higher
parts_exact : (n left more : ℕ) (b : Below) → ExactBelow left b → (left ≡ 0 → Nothing b.lower.whole) → left + n ≡ more → ExactParts n more (parts_of b left)
unfolding parts_of
parts_exact n left more b l z e = record {
  whole = λ lt. exact_more _ (λ ts f d. (d.0, omega (arith, d.1, e))) (whole_exact left b l (omega (arith, lt, e)));
  level = λ lt m. exact_more _ (λ ts f d. (d.0, omega (arith, d.1, e))) (level_exact left b l (omega (arith, lt, e)) m);
  variable = λ lt. exact_more _ (λ ts f d. (d.0, omega (arith, d.1, e))) (variable_exact left b l (omega (arith, lt, e)));
  init = λ lt. exact_more _ (λ ts i d. (d.0, omega (arith, d.1, e))) (init_exact left b l (room 1 left) (omega (arith, lt, e)));
  none = λ le. let no : left ≡ 0 = omega (arith, le, e) in parts_nothing left b (omega (arith, no)) no (z no);
}

nothing_parts : (n : ℕ) → ExactParts n 0 nothing_below
unfolding parts_of
nothing_parts n = record {
  whole = λ lt. absurd (omega (arith, lt));
  level = λ lt m. absurd (omega (arith, lt));
  variable = λ lt. absurd (omega (arith, lt));
  init = λ lt. absurd (omega (arith, lt));
  none = λ le. parts_nothing 0 (record { lower = no_parts; lowest = no_parts }) (omega arith) refl nothing_stop;
}

-- seen from one more height
one_higher : (n left : ℕ) (p : Parts) → ExactParts n left p → ExactParts (suc n) (suc left) p
one_higher n left p x = record {
  whole = λ lt. exact_more _ (λ ts f d. (d.0, omega (arith, d.1))) (x.whole (omega (arith, lt)));
  level = λ lt m. exact_more _ (λ ts f d. (d.0, omega (arith, d.1))) (x.level (omega (arith, lt)) m);
  variable = λ lt. exact_more _ (λ ts f d. (d.0, omega (arith, d.1))) (x.variable (omega (arith, lt)));
  init = λ lt. exact_more _ (λ ts i d. (d.0, omega (arith, d.1))) (x.init (omega (arith, lt)));
  none = λ le. x.none (omega (arith, le));
}

pub exact_below : (left : ℕ) → ExactBelow left (below left)
unfolding below
exact_below zero = record { lower = nothing_parts 1; lowest = nothing_parts 2 }
exact_below (suc left) = let l = exact_below left in record { lower = parts_exact 1 left (suc left) (below left) l (λ z. let p = l.lower in let n = p.none (omega (arith, z)) in n.whole) (omega arith); lowest = one_higher 1 left (below left).lower l.lower }

-- ---- expressions

pub expr_exact : (left : ℕ) → 1 ≤ left → Exact (λ ts f. IsExpr Whole ts f × (f.height ≤ left)) (expr left)
expr_exact left one = whole_exact left (below left) (exact_below left) one

pub expr_viable : (left : ℕ) → 1 ≤ left → Viable (λ ts f. IsExpr Whole ts f × (f.height ≤ left)) (expr left)
expr_viable left one = let e = expr_exact left one in e.viable

pub nothing_expr : Nothing (expr 0)
nothing_expr = whole_nothing 0 (below 0) (omega arith) refl

pub maybe_expr : (left : ℕ) → Exact (λ ts f. IsExpr Whole ts f × (f.height ≤ left)) (expr left) ⊎ Nothing (expr left)
maybe_expr zero = inr nothing_expr
maybe_expr (suc left) = inl (expr_exact (suc left) (omega arith))

pub level_viable : (left : ℕ) → 1 ≤ left → (n : ℕ) → Viable (λ ts f. IsExpr (Level n) ts f × (f.height ≤ left)) (level left n)
level_viable left one n = let e = level_exact left (below left) (exact_below left) one n in e.viable

pub nothing_level : (n : ℕ) → Nothing (level 0 n)
nothing_level n = level_nothing 0 (below 0) (omega arith) refl n

pub variable_viable : (left : ℕ) → 2 ≤ left → Viable (λ ts f. IsVariable ts f × (f.height ≤ left)) (variable left)
variable_viable left two = let e = variable_exact left (below left) (exact_below left) two in e.viable

pub nothing_variable : (left : ℕ) → left ≤ 1 → Nothing (variable left)
nothing_variable left le = variable_of_nothing left (below left) le

-- The least one is a call of a name.
pub statement_expr_exact : (left : ℕ) → 2 ≤ left → Exact (λ ts f. IsStatementExpr ts f × (f.height ≤ left)) (statement_expr left)
statement_expr_exact left two = statement_exact left (below left) (exact_below left) two

pub statement_expr_viable : (left : ℕ) → 2 ≤ left → Viable (λ ts f. IsStatementExpr ts f × (f.height ≤ left)) (statement_expr left)
statement_expr_viable left two = let e = statement_expr_exact left two in e.viable

pub nothing_statement : (left : ℕ) → left ≤ 1 → Nothing (statement_expr left)
nothing_statement left le = statement_of_nothing left (below left) le

pub maybe_statement : (left : ℕ) → Exact (λ ts f. IsStatementExpr ts f × (f.height ≤ left)) (statement_expr left) ⊎ Nothing (statement_expr left)
maybe_statement zero = inr (nothing_statement 0 (omega arith))
maybe_statement (suc zero) = inr (nothing_statement 1 (omega arith))
maybe_statement (suc (suc left)) = inl (statement_expr_exact (suc (suc left)) (omega arith))

pub init_viable : (left : ℕ) → 1 ≤ left → Viable (λ ts i. IsInit ts i × (i.height ≤ left)) (init left)
init_viable left one = let e = init_exact left (below left) (exact_below left) (room 1 left) one in e.viable

pub nothing_init : Nothing (init 0)
nothing_init = let l = exact_below 0 in let p = l.lower in let n = p.none (omega arith) in init_nothing 0 (below 0) (omega arith) refl n.whole

pub args_viable : (opening : Span) (left : ℕ) → Viable (λ ts a. IsArgs (sign OPEN_PAREN opening ∷ ts) a × (a.height ≤ left)) (args (expr left))
args_viable opening left = let e = exact_more _ (λ ts a d. (d.0, omega (arith, d.1))) (args_exact (expr left) 0 left opening (omega arith) (low_expr (maybe_expr left))) in e.viable
  where
    low_expr : Exact (Upto Whole left) (expr left) ⊎ Nothing (expr left) → Exact (Low Whole 0 left) (expr left) ⊎ Nothing (expr left)
    low_expr (inl x) = inl (exact_more _ (λ ts f d. (d.0, omega (arith, d.1))) x)
    low_expr (inr n) = inr n
