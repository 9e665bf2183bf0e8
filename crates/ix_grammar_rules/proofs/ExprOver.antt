-- Expressions with more height left.
use Rattle.std.proofs.Common.{ℕ, zero, suc, ◌+◌, ◌-◌, ◌<◌, ◌≤◌, Bool, true, false, arith}
use Rattle.std.proofs.lemmas.Bool.{le-leb, lt-ltb, leb-true, ltb-true}
use Rattle.ix_text.specs.declared.span.Span.{Span}
use Rattle.ix_tree.specs.declared.annot.BaseTree.{BaseTree}
use Rattle.ix_tree.specs.declared.annot.BaseTree.TheVariants.{Int, Boolean, Named}
use Rattle.ix_tree.specs.declared.annot.Ident.{Ident}
use Rattle.ix_grammar_rules.specs.declared.aims.Aim.{Aim}
use Rattle.ix_grammar_rules.specs.declared.aims.Aim.TheVariants as aim
use Rattle.ix_grammar.specs.declared.found.At.{At}
use Rattle.ix_grammar.specs.declared.found.Form.{Form}
use Rattle.ix_grammar.specs.declared.found.Form.TheVariants as form
use Rattle.ix_grammar.specs.declared.found.Found.{Found}
use Rattle.ix_grammar.specs.declared.found.FoundInit.{FoundInit}
use Rattle.ix_grammar.specs.declared.found.FoundItems.{FoundItems}
use Rattle.ix_grammar.specs.declared.found.Notes.{Notes}
use Rattle.ix_grammar.specs.declared.found.Several.{Several}
use Rattle.ix_grammar_rules.specs.Rule.{Rule, stop}
use Rattle.ix_grammar.specs.AnnotGrammar.{no_notes, with_note}
use Rattle.ix_grammar.specs.TypeGrammar.{based}
use Rattle.ix_grammar.specs.ExprNodes.{no_exprs, with_expr, no_inits, with_init, makes_array}
use Rattle.ix_grammar_rules.specs.ExprRules.{extra, Below, inner, inner_init, more_exprs, args, more_inits, items, name_or_call, enclosed, word, creation, object_or_array, noted_array, noted, array, array_rest, first_part, field_or_call, index, index_unless, further, primary_of, only_variable, variable_of, step_behind, value_of, prefixed, unary_of, operand, level_of, assignment, maybe_assigned, whole_of, to_statement, statement_of, init_of, parts_of, below, expr, init, statement_expr}
use Rattle.ix_grammar_rules.proofs.OverRules.{Over, over_pure, over_stop, over_take, over_bind, over_loop}
use Rattle.ix_grammar_rules.proofs.AnnotOver.{over_token, over_last, over_then, over_map, over_turns, annot_behind_over, annots_from_over, pairs_over}
use Rattle.ix_grammar_rules.proofs.ExprHeights.{Within, LowBelow, extra_at_most, first_within, further_within, primary_within, level_within, operand_within, stop_parts, low_below}

-- the rules of the next two heights, where there is so much room that a token leads to them
pub record OverBelow (left : ℕ) (b c : Below) : Type 0 where
  pub inside : (n : ℕ) → n ≤ 1 → n + 1 ≤ left → Over (inner b n) (inner c n)
  pub entry : (n : ℕ) → n ≤ 1 → n + 1 ≤ left → Over (inner_init b n) (inner_init c n)
  pub level : (n : ℕ) → 1 ≤ left → Over (b.lower.level n) (c.lower.level n)
  pub variable : 1 ≤ left → Over b.lower.variable c.lower.variable

-- ---- lists

more_exprs_over : (e e' : Rule Found) → Over e e' → (s : Several) → Over (more_exprs e s) (more_exprs e' s)
unfolding more_exprs
more_exprs_over e e' o s = over_token _ _ _ _ _ (λ comma. over_map _ _ _ o) (over_pure _)

pub args_part_over : (e e' : Rule Found) → Over e e' → Over (args e) (args e')
unfolding args
args_part_over e e' o = over_token _ _ _ _ _ (λ right. over_pure _)
    (over_then _ _ _ _ o (λ f. over_then _ _ _ _ (over_turns _ _ (more_exprs_over e e' o) (with_expr no_exprs f)) (λ s. over_last _ _)))

more_inits_over : (e e' : Rule FoundInit) → Over e e' → (s : FoundItems) → Over (more_inits e s) (more_inits e' s)
unfolding more_inits
more_inits_over e e' o s = over_token _ _ _ _ _ (λ comma. over_token _ _ _ _ _ (λ right. over_pure _) (over_map _ _ _ o)) (over_last _ _)

items_over : (e e' : Rule FoundInit) → Over e e' → (open_at : Span) → Over (items e open_at) (items e' open_at)
unfolding items
items_over e e' o open_at = over_token _ _ _ _ _ (λ right. over_pure _) (over_then _ _ _ _ o (λ i. over_turns _ _ (more_inits_over e e' o) (with_init (no_inits open_at) i)))

-- ---- one height

module _ (left more : ℕ) (room : left + 3 ≤ more) (b c : Below) (l : LowBelow left b) (o : OverBelow left b c) where
  args_inside : (a : Aim) → extra a form.Statement + 1 ≤ left → Over (args (inner b (extra a form.Statement))) (args (inner c (extra a form.Statement)))
  args_inside a le = args_part_over _ _ (o.inside (extra a form.Statement) (extra_at_most a form.Statement) le)

  pub called_over : (a : Aim) (x : Ident) → Over (name_or_call b a left x) (name_or_call c a more x)
  unfolding name_or_call
  called_over a x = over_take _ _ _ _ _ _ _ (le-leb (extra a form.Statement + 2) more (omega (arith, room, extra_at_most a form.Statement)))
      (λ open_at f. over_map _ _ _ (args_inside a (omega (arith, leb-true (extra a form.Statement + 2) left f)))) (over_pure _)

  enclosed_over : (a : Aim) (open_at : Span) → extra a form.Value + 1 ≤ left → Over (enclosed b a open_at) (enclosed c a open_at)
  unfolding enclosed
  enclosed_over a open_at le = over_then _ _ _ _ (o.inside (extra a form.Value) (extra_at_most a form.Value) le) (λ f. over_last _ _)

  word_over : (a : Aim) (other other' : Rule Found) → Over other other' → Over (word a left other) (word a more other')
  unfolding word
  word_over a other other' p =
      let fits = le-leb (extra a form.Value + 1) more (omega (arith, room, extra_at_most a form.Value)) in
      over_take _ _ _ _ _ _ _ fits (λ s f. over_pure _) (over_take _ _ _ _ _ _ _ fits (λ s f. over_pure _)
      (over_take _ _ _ _ _ _ _ fits (λ s f. over_pure _) (over_take _ _ _ _ _ _ _ fits (λ s f. over_pure _) p)))

  rest_over : (a : Aim) (start : Span) (base : At BaseTree) (notes : Notes) → extra a form.Array + 1 ≤ left → Over (array_rest b a start base notes) (array_rest c a start base notes)
  unfolding array_rest
  rest_over a start base notes le = over_token _ _ _ _ _
      (λ right. over_then _ _ _ _ (pairs_over 1 right) (λ found. over_token _ _ _ _ _
      (λ open_at. over_map _ _ _ (items_over _ _ (o.entry (extra a form.Array) (extra_at_most a form.Array) le) open_at)) over_stop))
      (over_then _ _ _ _ (o.inside (extra a form.Array) (extra_at_most a form.Array) le) (λ g. over_token _ _ _ _ _ (λ right. over_map _ _ _ (pairs_over 1 right)) over_stop))

  array_over : (a : Aim) (start : Span) (base : At BaseTree) (notes : Notes) → extra a form.Array + 1 ≤ left → Over (array b a start base notes) (array c a start base notes)
  unfolding array
  array_over a start base notes le = over_token _ _ _ _ _ (λ open_at. rest_over a start base notes le) over_stop

  object_over : (a : Aim) (start : Span) (x : Ident) → extra a form.Statement + 2 ≤ left → Over (object_or_array b a left start x) (object_or_array c a more start x)
  unfolding object_or_array
  object_over a start x le = over_token _ _ _ _ _ (λ open_at. over_map _ _ _ (args_inside a (omega (arith, le))))
      (over_take _ _ _ _ _ _ _ (le-leb (extra a form.Array + 3) more (omega (arith, room, le, extra_at_most a form.Array)))
      (λ open_at f. rest_over a start (based (Named x) x.span) no_notes (omega (arith, leb-true (extra a form.Array + 3) left f))) over_stop)

  noted_over : (a : Aim) (start : Span) (notes : Notes) → extra a form.Array + 1 ≤ left → Over (noted_array b a start notes) (noted_array c a start notes)
  unfolding noted_array
  noted_over a start notes le = over_token _ _ _ _ _ (λ s. array_over a start (based Int s) notes le) (over_token _ _ _ _ _ (λ s. array_over a start (based Boolean s) notes le)
      (over_token _ _ _ _ _ (λ x. array_over a start (based (Named x) x.span) notes le) over_stop))

  annotated_over : (a : Aim) (start at : Span) → extra a form.Array + 4 ≤ left → Over (noted b a left start at) (noted c a more start at)
  unfolding noted
  annotated_over a start at le =
      let high : 3 ≤ more - (extra a form.Array + 2) = omega (arith, room, le) in
      over_then _ _ _ _ (annot_behind_over (left - (extra a form.Array + 2)) (more - (extra a form.Array + 2)) at high)
      (λ first. over_then _ _ _ _ (annots_from_over (left - (extra a form.Array + 2)) (more - (extra a form.Array + 2)) (with_note no_notes first) high)
      (λ notes. noted_over a start notes (omega (arith, le))))

  creation_over : (a : Aim) (start : Span) → extra a form.Statement + 2 ≤ left → Over (creation b a left start) (creation c a more start)
  unfolding creation
  creation_over a start le =
      let fits = le-leb (extra a form.Array + 2) more (omega (arith, room, extra_at_most a form.Array)) in
      over_token _ _ _ _ _ (λ x. object_over a start x le)
      (over_take _ _ _ _ _ _ _ fits (λ s f. array_over a start (based Int s) no_notes (omega (arith, leb-true (extra a form.Array + 2) left f)))
      (over_take _ _ _ _ _ _ _ fits (λ s f. array_over a start (based Boolean s) no_notes (omega (arith, leb-true (extra a form.Array + 2) left f)))
      (over_take _ _ _ _ _ _ _ (le-leb (extra a form.Array + 4) more (omega (arith, room, le, extra_at_most a form.Array))) (λ at f. annotated_over a start at (leb-true (extra a form.Array + 4) left f)) over_stop)))

  first_over : (a : Aim) → Over (first_part b a left) (first_part c a more)
  unfolding first_part
  first_over a = over_take _ _ _ _ _ _ _ (le-leb (extra a form.Value + 1) more (omega (arith, room, extra_at_most a form.Value))) (λ n f. over_pure _)
      (over_take _ _ _ _ _ _ _ (le-leb 2 more (omega (arith, room))) (λ x f. called_over a x)
      (over_take _ _ _ _ _ _ _ (le-leb (extra a form.Value + 2) more (omega (arith, room, extra_at_most a form.Value))) (λ open_at f. enclosed_over a open_at (omega (arith, leb-true (extra a form.Value + 2) left f)))
      (over_take _ _ _ _ _ _ _ (le-leb (extra a form.Statement + 2) more (omega (arith, room, extra_at_most a form.Statement))) (λ s f. creation_over a s (leb-true (extra a form.Statement + 2) left f))
      (word_over a stop stop over_stop))))

  -- of an expression that may be too high
  pub field_over : (a : Aim) (f : Found) (x : Ident) → 0 < f.height → extra a form.Statement + (f.height + 1) ≤ more → Over (field_or_call b a left f x) (field_or_call c a more f x)
  unfolding field_or_call
  field_over a f x pos le = over_take _ _ _ _ _ _ _ (le-leb (extra a form.Statement + (f.height + 1)) more le)
      (λ open_at t. over_map _ _ _ (args_inside a (omega (arith, pos, leb-true (extra a form.Statement + (f.height + 1)) left t)))) (over_pure _)

  index_over : (a : Aim) (f : Found) → 0 < f.height → extra a form.Variable + (f.height + 1) ≤ more → Over (index b a left f) (index c a more f)
  unfolding index
  index_over a f pos le = over_take _ _ _ _ _ _ _ (le-leb (extra a form.Variable + (f.height + 1)) more le)
      (λ open_at t. over_then _ _ _ _ (o.inside (extra a form.Variable) (extra_at_most a form.Variable) (omega (arith, pos, leb-true (extra a form.Variable + (f.height + 1)) left t))) (λ g. over_last _ _)) (over_pure _)

  unless_over : (d : Bool) (a : Aim) (f : Found) → 0 < f.height → extra a form.Variable + (f.height + 1) ≤ more → Over (index_unless d b a left f) (index_unless d c a more f)
  unfolding index_unless
  unless_over true a f pos le = over_pure _
  unless_over false a f pos le = index_over a f pos le

  pub further_over : (a : Aim) (f : Found) → 0 < f.height → f.height + 2 ≤ more → Over (further b a left f) (further c a more f)
  unfolding further
  further_over a f pos le = over_take _ _ _ _ _ _ _ (lt-ltb f.height more (omega (arith, le)))
      (λ dot t. over_token _ _ _ _ _ (λ x. field_over a f x pos (omega (arith, le, extra_at_most a form.Statement))) over_stop)
      (unless_over (makes_array f.form) a f pos (omega (arith, le, extra_at_most a form.Variable)))

  primary_over : (a : Aim) → Over (primary_of b a left) (primary_of c a more)
  unfolding primary_of
  primary_over a = over_bind _ _ _ _ (first_within left b l a) (first_over a) (λ f w. over_loop (further b a left) (further c a more) (Within left) (Within left) (further_within left b l a)
      (λ g v. further_over a g v.0 (omega (arith, v.1, room))) f w)

  only_over : (f : Found) (k : Form) → Over (only_variable f k) (only_variable f k)
  unfolding only_variable
  only_over f form.Variable = over_pure _
  only_over f form.Statement = over_stop
  only_over f form.Array = over_stop
  only_over f form.Value = over_stop

  variable_over : Over (variable_of b left) (variable_of c more)
  unfolding variable_of
  variable_over = over_then _ _ _ _ (primary_over aim.Variable) (λ f. only_over f f.form)

  step_over : (f : Found) (k : Form) → f.height < more → Over (step_behind left f k) (step_behind more f k)
  unfolding step_behind
  step_over f form.Variable lt = over_take _ _ _ _ _ _ _ (lt-ltb f.height more lt) (λ s t. over_pure _) (over_pure _)
  step_over f form.Statement lt = over_pure _
  step_over f form.Array lt = over_pure _
  step_over f form.Value lt = over_pure _

  value_over : Over (value_of b left) (value_of c more)
  unfolding value_of
  value_over = over_bind _ _ _ _ (primary_within left b l aim.Value) (primary_over aim.Value) (λ f w. step_over f f.form (omega (arith, w.1, room)))

  prefixed_over : (other other' : Rule Found) → Over other other' → Over (prefixed b left other) (prefixed c more other')
  unfolding prefixed
  prefixed_over other other' p = over_take _ _ _ _ _ _ _ (le-leb 3 more (omega (arith, room))) (λ s f. over_map _ _ _ (o.variable (omega (arith, leb-true 3 left f)))) p

  unary_over : Over (unary_of b left) (unary_of c more)
  unfolding unary_of
  unary_over = over_take _ _ _ _ _ _ _ (le-leb 1 more (omega (arith, room))) (λ m f. over_token _ _ _ _ _ (λ s. over_pure _) (over_map _ _ _ (o.level 0 (leb-true 1 left f))))
      (over_take _ _ _ _ _ _ _ (le-leb 2 more (omega (arith, room))) (λ s f. over_map _ _ _ (o.level 0 (omega (arith, leb-true 2 left f)))) (prefixed_over _ _ value_over))

  operand_over : (n : ℕ) (f : Found) → Within left f → Over (operand b left n f) (operand c more n f)
  unfolding operand
  operand_over n f w = over_take _ _ _ _ _ _ _ (lt-ltb f.height more (omega (arith, w.1, room))) (λ s t. over_map _ _ _ (o.level n (omega (arith, w.0, ltb-true f.height left t)))) (over_pure _)

  level_over : (n : ℕ) → Over (level_of b left n) (level_of c more n)
  unfolding level_of
  level_over zero = unary_over
  level_over (suc n) = over_bind _ _ _ _ (level_within left b l n) (level_over n) (λ f w. over_loop (operand b left n) (operand c more n) (Within left) (Within left) (operand_within left b l n) (operand_over n) f w)

  assignment_over : (f : Found) (other other' : Rule Found) → f.height < more → Over other other' → Over (assignment b left f other) (assignment c more f other')
  unfolding assignment
  assignment_over f other other' lt p = over_take _ _ _ _ _ _ _ (lt-ltb f.height more lt) (λ s t. over_map _ _ _ (o.inside 0 (omega arith) (omega (arith, ltb-true f.height left t)))) p

  assigned_over : (f : Found) (k : Form) → f.height < more → Over (maybe_assigned b left f k) (maybe_assigned c more f k)
  unfolding maybe_assigned
  assigned_over f form.Variable lt = assignment_over f _ _ lt (over_pure _)
  assigned_over f form.Statement lt = over_pure _
  assigned_over f form.Array lt = over_pure _
  assigned_over f form.Value lt = over_pure _

  whole_over : Over (whole_of b left) (whole_of c more)
  unfolding whole_of
  whole_over = over_bind _ _ _ _ (level_within left b l 10) (level_over 10) (λ f w. assigned_over f f.form (omega (arith, w.1, room)))

  pub to_statement_over : (f : Found) (k : Form) → f.height < more → Over (to_statement b left f k) (to_statement c more f k)
  unfolding to_statement
  to_statement_over f form.Variable lt = assignment_over f _ _ lt (over_take _ _ _ _ _ _ _ (lt-ltb f.height more lt) (λ s t. over_pure _) over_stop)
  to_statement_over f form.Statement lt = over_pure _
  to_statement_over f form.Array lt = over_stop
  to_statement_over f form.Value lt = over_stop

  statement_over : Over (statement_of b left) (statement_of c more)
  unfolding statement_of
  statement_over = prefixed_over _ _ (over_bind _ _ _ _ (primary_within left b l aim.Statement) (primary_over aim.Statement) (λ f w. to_statement_over f f.form (omega (arith, w.1, room))))

  init_part_over : Over b.lower.whole c.lower.whole → Over (init_of b left) (init_of c more)
  unfolding init_of
  init_part_over p = over_take _ _ _ _ _ _ _ (le-leb 1 more (omega (arith, room))) (λ open_at f. over_map _ _ _ (items_over _ _ (o.entry 0 (omega arith) (leb-true 1 left f)) open_at)) (over_map _ _ _ p)

-- ---- every height

-- No token leads to a part of no height.
no_room : (b c : Below) → OverBelow 0 b c
no_room b c = record {
  inside = λ n one le. absurd (omega (arith, le));
  entry = λ n one le. absurd (omega (arith, le));
  level = λ n le. absurd (omega (arith, le));
  variable = λ le. absurd (omega (arith, le));
}

lower_over : (left more : ℕ) → left + 4 ≤ more → OverBelow left (below left) (below more) → Over (below left).lower.whole (below more).lower.whole
unfolding below parts_of
lower_over zero zero room o = absurd (omega (arith, room))
lower_over zero (suc more) room o = whole_over 0 more (omega (arith, room)) _ (below more) (record { lower = stop_parts 1 0; lowest = stop_parts 2 0 }) (no_room _ _)
lower_over (suc left) more room o = o.inside 0 (omega arith) (omega arith)

module _ (left more : ℕ) (room : left + 4 ≤ more) (o : OverBelow left (below left) (below more)) where
  next_inside_over : (n : ℕ) → n ≤ 1 → n + 1 ≤ suc left → Over (inner (below (suc left)) n) (inner (below (suc more)) n)
  unfolding below parts_of
  next_inside_over zero one le = whole_over left more (omega (arith, room)) (below left) (below more) (low_below left) o
  next_inside_over (suc zero) one le = o.inside 0 (omega arith) (omega (arith, le))
  next_inside_over (suc (suc n)) one le = absurd (omega (arith, one))

  next_entry_over : (n : ℕ) → n ≤ 1 → n + 1 ≤ suc left → Over (inner_init (below (suc left)) n) (inner_init (below (suc more)) n)
  unfolding below parts_of
  next_entry_over zero one le = init_part_over left more (omega (arith, room)) (below left) (below more) (low_below left) o (lower_over left more room o)
  next_entry_over (suc zero) one le = o.entry 0 (omega arith) (omega (arith, le))
  next_entry_over (suc (suc n)) one le = absurd (omega (arith, one))

  next_below : OverBelow (suc left) (below (suc left)) (below (suc more))
  unfolding below parts_of
  next_below = record {
    inside = next_inside_over;
    entry = next_entry_over;
    level = λ n le. level_over left more (omega (arith, room)) (below left) (below more) (low_below left) o n;
    variable = λ le. variable_over left more (omega (arith, room)) (below left) (below more) (low_below left) o;
  }

pub over_below : (left more : ℕ) → left + 4 ≤ more → OverBelow left (below left) (below more)
over_below zero more room = no_room (below 0) (below more)
over_below (suc left) zero room = absurd (omega (arith, room))
over_below (suc left) (suc more) room = next_below left more (omega (arith, room)) (over_below left more (omega (arith, room)))

pub expr_over : (left more : ℕ) → left + 4 ≤ more → Over (expr left) (expr more)
expr_over left more room = whole_over left more (omega (arith, room)) (below left) (below more) (low_below left) (over_below left more room)

pub statement_expr_over : (left more : ℕ) → left + 4 ≤ more → Over (statement_expr left) (statement_expr more)
statement_expr_over left more room = statement_over left more (omega (arith, room)) (below left) (below more) (low_below left) (over_below left more room)

pub args_over : (left more : ℕ) → left + 5 ≤ more → Over (args (expr left)) (args (expr more))
args_over left more room = args_part_over _ _ (expr_over left more (omega (arith, room)))

pub init_over : (left more : ℕ) → left + 5 ≤ more → Over (init left) (init more)
init_over left more room = init_part_over left more (omega (arith, room)) (below left) (below more) (low_below left) (over_below left more (omega (arith, room))) (lower_over left more (omega (arith, room)) (over_below left more (omega (arith, room))))
