-- How expressions are read (JLS 15), with one token in hand. The number is the height that is left for the node.
use Rattle.std.specs.Prelude.{ℕ, zero, suc, ◌+◌, ◌-◌, nat_le, nat_lt, Bool, true, false}
use Rattle.ix_text.specs.declared.span.Span.{Span}
use Rattle.ix_lexer.specs.declared.fixed.TheConstants.{TRUE, FALSE, NULL, THIS, NEW, INT, BOOLEAN, AT, MINUS, DOT, COMMA, OPEN_PAREN, CLOSE_PAREN, OPEN_BRACKET, CLOSE_BRACKET, OPEN_BRACE, CLOSE_BRACE}
use Rattle.ix_tree.specs.declared.annot.Ident.{Ident}
use Rattle.ix_tree.specs.declared.expr.ExprKind.TheVariants as e
use Rattle.ix_tree.specs.declared.expr.UnaryOp.TheVariants.{Minus}
use Rattle.ix_tree.specs.declared.annot.BaseTree.{BaseTree}
use Rattle.ix_tree.specs.declared.annot.BaseTree.TheVariants.{Int, Boolean, Named}
use Rattle.ix_grammar.specs.declared.found.At.{At}
use Rattle.ix_grammar.specs.declared.found.Notes.{Notes}
use Rattle.ix_grammar.specs.AnnotGrammar.{no_notes, with_note}
use Rattle.ix_grammar_rules.specs.AnnotRules.{annot_behind, annots_from}
use Rattle.ix_grammar.specs.TypeGrammar.{based}
use Rattle.ix_grammar_rules.specs.TypeRules.{pairs}
use Rattle.ix_grammar_rules.specs.declared.aims.Aim.{Aim}
use Rattle.ix_grammar_rules.specs.declared.aims.Aim.TheVariants as aim
use Rattle.ix_grammar.specs.declared.found.Args.{Args}
use Rattle.ix_grammar.specs.declared.found.Found.{Found}
use Rattle.ix_grammar.specs.declared.found.FoundInit.{FoundInit}
use Rattle.ix_grammar.specs.declared.found.FoundItems.{FoundItems}
use Rattle.ix_grammar.specs.declared.found.Several.{Several}
use Rattle.ix_grammar.specs.declared.found.Form.{Form}
use Rattle.ix_grammar.specs.declared.found.Form.TheVariants as form
use Rattle.ix_grammar_rules.specs.Rule.{Rule, pure, take, bind, stop, loop, Turn, On, Done}
use Rattle.ix_grammar.specs.Patterns.{a_sign, a_name, a_number, a_least, one_of, an_operator, unary_signs, step_signs, assign_signs}
use Rattle.ix_grammar.specs.ExprNodes.{makes_array, leaf, named, within, selected, element, called, called_on, created, created_type, new_array, new_items, unary, least_int, stepped_before, stepped_after, joined, assigned, no_exprs, with_expr, all_args, value_init, items_init, no_inits, with_init, closed_by}

-- ---- what a primary is read for

-- How much higher than a primary of this form the node must be that it ends in: a statement is a call or the creation of an object, or its
-- parts are one lower; likewise a variable.
abbrev pub extra : Aim → Form → ℕ
extra aim.Value f = 0
extra aim.Statement form.Statement = 0
extra aim.Statement f = 1
extra aim.Variable form.Variable = 0
extra aim.Variable f = 1

-- ---- what the rules of one height read with

-- the rules for the parts of a node, that is, of a height that is one lower
pub record Parts : Type 1 where
  pub whole : Rule Found
  pub level : ℕ → Rule Found
  pub variable : Rule Found
  pub init : Rule FoundInit

-- the rules of the next two heights
pub record Below : Type 1 where
  pub lower : Parts
  pub lowest : Parts

-- An expression within a primary that must be wrapped so often.
abbrev pub inner : Below → ℕ → Rule Found
inner b zero = b.lower.whole
inner b (suc n) = b.lowest.whole

abbrev pub inner_init : Below → ℕ → Rule FoundInit
inner_init b zero = b.lower.init
inner_init b (suc n) = b.lowest.init

-- ---- arguments

-- {"," Expr}
unfoldable pub more_exprs : Rule Found → Several → Rule (Turn Several Several)
more_exprs expr s = take (a_sign COMMA) true (λ comma. bind expr (λ f. pure (On (with_expr s f)))) (pure (Done s))

-- [Expr {"," Expr}] ")"
unfoldable pub args : Rule Found → Rule Args
args expr =
    take (a_sign CLOSE_PAREN) true (λ right. pure (all_args no_exprs right))
    (bind expr (λ f. bind (loop (more_exprs expr) (with_expr no_exprs f)) (λ s. take (a_sign CLOSE_PAREN) true (λ right. pure (all_args s right)) stop)))

-- ---- the entries of an array (JLS 10.6)

-- behind an entry: its comma and the next entry, or the closing brace, before which one comma may stand
unfoldable pub more_inits : Rule FoundInit → FoundItems → Rule (Turn FoundItems FoundItems)
more_inits init s =
    take (a_sign COMMA) true (λ comma. take (a_sign CLOSE_BRACE) true (λ right. pure (Done (closed_by s right))) (bind init (λ i. pure (On (with_init s i)))))
    (take (a_sign CLOSE_BRACE) true (λ right. pure (Done (closed_by s right))) stop)

-- [Init {"," Init} [","]] "}"
unfoldable pub items : Rule FoundInit → Span → Rule FoundItems
items init open_at =
    take (a_sign CLOSE_BRACE) true (λ right. pure (no_inits right))
    (bind init (λ i. loop (more_inits init) (with_init (no_inits open_at) i)))

-- ---- primaries (JLS 15.8 to 15.12)

-- behind a name: a variable or a call
unfoldable pub name_or_call : Below → Aim → ℕ → Ident → Rule Found
name_or_call b aim left x =
    take (a_sign OPEN_PAREN) (nat_le (extra aim form.Statement + 2) left) (λ open_at. bind (args (inner b (extra aim form.Statement))) (λ a. pure (called x a)))
    (pure (named x))

-- behind an opening parenthesis
unfoldable pub enclosed : Below → Aim → Span → Rule Found
enclosed b aim open_at = bind (inner b (extra aim form.Value)) (λ f. take (a_sign CLOSE_PAREN) true (λ right. pure (within open_at right f)) stop)

-- a literal or `this`
unfoldable pub word : Aim → ℕ → Rule Found → Rule Found
word aim left other =
    take (a_sign TRUE) (nat_le (extra aim form.Value + 1) left) (λ s. pure (leaf (e.Bool true) s))
    (take (a_sign FALSE) (nat_le (extra aim form.Value + 1) left) (λ s. pure (leaf (e.Bool false) s))
    (take (a_sign NULL) (nat_le (extra aim form.Value + 1) left) (λ s. pure (leaf e.Null s))
    (take (a_sign THIS) (nat_le (extra aim form.Value + 1) left) (λ s. pure (leaf e.This s)) other)))

-- ---- creations (JLS 15.9, 15.10.1)

-- Behind the first bracket: a length, or a bracket and the entries.
unfoldable pub array_rest : Below → Aim → Span → At BaseTree → Notes → Rule Found
array_rest b aim start base notes =
    take (a_sign CLOSE_BRACKET) true (λ right. bind (pairs 1 right) (λ found. take (a_sign OPEN_BRACE) true
    (λ open_at. bind (items (inner_init b (extra aim form.Array)) open_at) (λ s. pure (new_items start (created_type base notes found) s))) stop))
    (bind (inner b (extra aim form.Array)) (λ g. take (a_sign CLOSE_BRACKET) true (λ right. bind (pairs 1 right) (λ found. pure (new_array start (created_type base notes found) g found.span))) stop))

-- behind the base
unfoldable pub array : Below → Aim → Span → At BaseTree → Notes → Rule Found
array b aim start base notes = take (a_sign OPEN_BRACKET) true (λ open_at. array_rest b aim start base notes) stop

-- behind a name: an object, or an array of objects
unfoldable pub object_or_array : Below → Aim → ℕ → Span → Ident → Rule Found
object_or_array b aim left start x =
    take (a_sign OPEN_PAREN) true (λ open_at. bind (args (inner b (extra aim form.Statement))) (λ a. pure (created start x a)))
    (take (a_sign OPEN_BRACKET) (nat_le (extra aim form.Array + 3) left) (λ open_at. array_rest b aim start (based (Named x) x.span) no_notes) stop)

-- behind the annotations
unfoldable pub noted_array : Below → Aim → Span → Notes → Rule Found
noted_array b aim start notes =
    take (a_sign INT) true (λ s. array b aim start (based Int s) notes)
    (take (a_sign BOOLEAN) true (λ s. array b aim start (based Boolean s) notes)
    (take a_name true (λ x. array b aim start (based (Named x) x.span) notes) stop))

-- behind an @
unfoldable pub noted : Below → Aim → ℕ → Span → Span → Rule Found
noted b aim left start at = bind (annot_behind (left - (extra aim form.Array + 2)) at) (λ first. bind (annots_from (left - (extra aim form.Array + 2)) (with_note no_notes first)) (noted_array b aim start))

-- behind `new`
unfoldable pub creation : Below → Aim → ℕ → Span → Rule Found
creation b aim left start =
    take a_name true (object_or_array b aim left start)
    (take (a_sign INT) (nat_le (extra aim form.Array + 2) left) (λ s. array b aim start (based Int s) no_notes)
    (take (a_sign BOOLEAN) (nat_le (extra aim form.Array + 2) left) (λ s. array b aim start (based Boolean s) no_notes)
    (take (a_sign AT) (nat_le (extra aim form.Array + 4) left) (noted b aim left start) stop)))

-- the first part of a primary
unfoldable pub first_part : Below → Aim → ℕ → Rule Found
first_part b aim left =
    take a_number (nat_le (extra aim form.Value + 1) left) (λ n. pure (leaf (e.Int n.value) n.span))
    (take a_name (nat_le 2 left) (name_or_call b aim left)
    (take (a_sign OPEN_PAREN) (nat_le (extra aim form.Value + 2) left) (enclosed b aim)
    (take (a_sign NEW) (nat_le (extra aim form.Statement + 2) left) (creation b aim left)
    (word aim left stop))))

-- behind a dot and a name: a field or a call
unfoldable pub field_or_call : Below → Aim → ℕ → Found → Ident → Rule (Turn Found Found)
field_or_call b aim left f x =
    take (a_sign OPEN_PAREN) (nat_le (extra aim form.Statement + (f.height + 1)) left) (λ open_at. bind (args (inner b (extra aim form.Statement))) (λ a. pure (On (called_on f x a))))
    (pure (On (selected f x)))

-- an index
unfoldable pub index : Below → Aim → ℕ → Found → Rule (Turn Found Found)
index b aim left f =
    take (a_sign OPEN_BRACKET) (nat_le (extra aim form.Variable + (f.height + 1)) left)
    (λ open_at. bind (inner b (extra aim form.Variable)) (λ g. take (a_sign CLOSE_BRACKET) true (λ right. pure (On (element f g right))) stop))
    (pure (Done f))

-- No index follows an expression that creates an array.
unfoldable pub index_unless : Bool → Below → Aim → ℕ → Found → Rule (Turn Found Found)
index_unless true b aim left f = pure (Done f)
index_unless false b aim left f = index b aim left f

-- what follows a primary and makes a longer one of it
unfoldable pub further : Below → Aim → ℕ → Found → Rule (Turn Found Found)
further b aim left f =
    take (a_sign DOT) (nat_lt f.height left) (λ dot. take a_name true (field_or_call b aim left f) stop)
    (index_unless (makes_array f.form) b aim left f)

unfoldable pub primary_of : Below → Aim → ℕ → Rule Found
primary_of b aim left = bind (first_part b aim left) (loop (further b aim left))

-- ---- operators

-- only a variable
unfoldable pub only_variable : Found → Form → Rule Found
only_variable f form.Variable = pure f
only_variable f _ = stop

unfoldable pub variable_of : Below → ℕ → Rule Found
variable_of b left = bind (primary_of b aim.Variable left) (λ f. only_variable f f.form)

-- behind a primary that is a value: `++` and `--` follow a variable
unfoldable pub step_behind : ℕ → Found → Form → Rule Found
step_behind left f form.Variable = take (one_of step_signs) (nat_lt f.height left) (λ step. pure (stepped_after step.value f step.span)) (pure f)
step_behind left f _ = pure f

unfoldable pub value_of : Below → ℕ → Rule Found
value_of b left = bind (primary_of b aim.Value left) (λ f. step_behind left f f.form)

unfoldable pub prefixed : Below → ℕ → Rule Found → Rule Found
prefixed b left other = take (one_of step_signs) (nat_le 3 left) (λ step. bind b.lower.variable (λ f. pure (stepped_before step.value step.span f))) other

-- JLS 15.14, 15.15
unfoldable pub unary_of : Below → ℕ → Rule Found
unary_of b left =
    take (a_sign MINUS) (nat_le 1 left) (λ minus. take a_least true (λ literal. pure (least_int minus literal)) (bind (b.lower.level 0) (λ f. pure (unary Minus minus f))))
    (take (one_of unary_signs) (nat_le 2 left) (λ op. bind (b.lower.level 0) (λ f. pure (unary op.value op.span f)))
    (prefixed b left (value_of b left)))

-- an operator of a level and its right operand
unfoldable pub operand : Below → ℕ → ℕ → Found → Rule (Turn Found Found)
operand b left level f = take (an_operator level) (nat_lt f.height left) (λ op. bind (b.lower.level level) (λ g. pure (On (joined op.value f g)))) (pure (Done f))

-- Level 0 is an expression without operators with two operands; the next levels have those of one more level, each to the left.
unfoldable pub level_of : Below → ℕ → ℕ → Rule Found
level_of b left zero = unary_of b left
level_of b left (suc level) = bind (level_of b left level) (loop (operand b left level))

-- JLS 15.26
unfoldable pub assignment : Below → ℕ → Found → Rule Found → Rule Found
assignment b left f other = take (one_of assign_signs) (nat_lt f.height left) (λ op. bind b.lower.whole (λ g. pure (assigned op.value f g))) other

unfoldable pub maybe_assigned : Below → ℕ → Found → Form → Rule Found
maybe_assigned b left f form.Variable = assignment b left f (pure f)
maybe_assigned b left f _ = pure f

unfoldable pub whole_of : Below → ℕ → Rule Found
whole_of b left = bind (level_of b left 10) (λ f. maybe_assigned b left f f.form)

-- ---- expressions that are statements (JLS 14.8): no operator with two operands may follow, and a variable alone is none

unfoldable pub to_statement : Below → ℕ → Found → Form → Rule Found
to_statement b left f form.Variable = assignment b left f (take (one_of step_signs) (nat_lt f.height left) (λ step. pure (stepped_after step.value f step.span)) stop)
to_statement b left f form.Statement = pure f
to_statement b left f _ = stop

unfoldable pub statement_of : Below → ℕ → Rule Found
statement_of b left = prefixed b left (bind (primary_of b aim.Statement left) (λ f. to_statement b left f f.form))

-- JLS 8.3, 10.6
unfoldable pub init_of : Below → ℕ → Rule FoundInit
init_of b left =
    take (a_sign OPEN_BRACE) (nat_le 1 left) (λ open_at. bind (items b.lower.init open_at) (λ s. pure (items_init open_at s)))
    (bind b.lower.whole (λ f. pure (value_init f)))

-- ---- every height

unfoldable pub parts_of : Below → ℕ → Parts
parts_of b left = record { whole = whole_of b left; level = level_of b left; variable = variable_of b left; init = init_of b left }

-- no part is left
abbrev pub no_parts : Parts
no_parts = record { whole = stop; level = λ level. stop; variable = stop; init = stop }

-- Where no height is left, a token that begins an expression is too high.
abbrev pub nothing_below : Parts
nothing_below = parts_of (record { lower = no_parts; lowest = no_parts }) 0

unfoldable pub below : ℕ → Below
below zero = record { lower = nothing_below; lowest = nothing_below }
below (suc left) = record { lower = parts_of (below left) left; lowest = (below left).lower }

abbrev pub expr : ℕ → Rule Found
expr left = whole_of (below left) left

abbrev pub level : ℕ → ℕ → Rule Found
level left = level_of (below left) left

abbrev pub primary : Aim → ℕ → Rule Found
primary aim left = primary_of (below left) aim left

abbrev pub variable : ℕ → Rule Found
variable left = variable_of (below left) left

abbrev pub statement_expr : ℕ → Rule Found
statement_expr left = statement_of (below left) left

abbrev pub init : ℕ → Rule FoundInit
init left = init_of (below left) left
