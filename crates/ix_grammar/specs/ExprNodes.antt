-- The nodes of expressions, with their heights: a node is 1 higher than the highest of its parts.
use Rattle.std.specs.Prelude.{ℕ, negsuc, ◌+◌, max, Bool, true, false, List, [], ◌∷◌, ◌++◌, Option, Some, None}
use Rattle.ix_text.specs.declared.span.Span.{Span}
use Rattle.ix_num.specs.declared.arith.Arith.{Arith}
use Rattle.ix_tree.specs.declared.annot.Ident.{Ident}
use Rattle.ix_tree.specs.declared.expr.BinaryOp.{BinaryOp}
use Rattle.ix_tree.specs.declared.expr.UnaryOp.{UnaryOp}
use Rattle.ix_tree.specs.declared.expr.ExprKind.{ExprKind}
use Rattle.ix_tree.specs.declared.expr.ExprKind.TheVariants as e
use Rattle.ix_tree.specs.declared.expr.Init.TheVariants as init
use Rattle.ix_tree.specs.declared.annot.Annot.{Annot}
use Rattle.ix_tree.specs.declared.annot.BaseTree.{BaseTree}
use Rattle.ix_grammar.specs.Nodes.{across}
use Rattle.ix_grammar.specs.declared.found.At.{At}
use Rattle.ix_grammar.specs.declared.found.Notes.{Notes}
use Rattle.ix_grammar.specs.declared.found.Args.{Args}
use Rattle.ix_grammar.specs.declared.found.Found.{Found}
use Rattle.ix_grammar.specs.declared.found.FoundInit.{FoundInit}
use Rattle.ix_grammar.specs.declared.found.FoundItems.{FoundItems}
use Rattle.ix_grammar.specs.declared.found.FoundType.{FoundType}
use Rattle.ix_grammar.specs.declared.found.Several.{Several}
use Rattle.ix_grammar.specs.declared.found.Form.{Form}
use Rattle.ix_grammar.specs.TypeGrammar.{base_height}
use Rattle.ix_grammar.specs.declared.found.Form.TheVariants.{Variable, Statement, Array, Value}

-- the number is the height of the highest part, 0 where there is none
abbrev pub node : ExprKind → Form → ℕ → Span → Found
node kind form parts outer = record { expr = record { kind = kind; span = outer }; form = form; height = parts + 1; outer = outer }

-- JLS 15.8
abbrev pub leaf : ExprKind → Span → Found
leaf kind span = node kind Value 0 span

abbrev pub named : Ident → Found
named x = node (e.Name x) Variable 1 x.span

-- Parentheses leave no node and count as one (JLS 15.8.5).
abbrev pub within : Span → Span → Found → Found
within left right f = record { expr = f.expr; form = Value; height = f.height + 1; outer = across left right }

-- JLS 15.11
abbrev pub selected : Found → Ident → Found
selected f x = node (e.Select f.expr x) Variable (max f.height 1) (across f.outer x.span)

-- JLS 15.10.3
abbrev pub element : Found → Found → Span → Found
element f g right = node (e.Index f.expr g.expr) Variable (max f.height g.height) (across f.outer right)

-- JLS 15.12
abbrev pub called : Ident → Args → Found
called x a = node (e.Call None x a.items) Statement (max 1 a.height) (across x.span a.end)

abbrev pub called_on : Found → Ident → Args → Found
called_on f x a = node (e.Call (Some f.expr) x a.items) Statement (max f.height (max 1 a.height)) (across f.outer a.end)

-- JLS 15.9
abbrev pub created : Span → Ident → Args → Found
created start x a = node (e.New x a.items) Statement (max 1 a.height) (across start a.end)

-- The type of a new array: from its first annotation, or its base, to its last bracket.
abbrev pub type_start : List Annot → Span → Span
type_start [] base = base
type_start (annot ∷ annots) base = annot.span

abbrev pub created_type : At BaseTree → Notes → At ℕ → FoundType
created_type base notes brackets = record {
  ty = record { base = base.value; annots = notes.annots; depth = brackets.value; span = across (type_start notes.annots base.span) brackets.span };
  height = 1 + max (base_height base.value) notes.height;
}

-- JLS 15.10.1, with the place of the last token
abbrev pub new_array : Span → FoundType → Found → Span → Found
new_array start t g end = node (e.NewArray t.ty g.expr) Array (max t.height g.height) (across start end)

abbrev pub new_items : Span → FoundType → FoundItems → Found
new_items start t s = node (e.NewItems t.ty s.items) Array (max t.height s.height) (across start s.end)

-- JLS 15.15
abbrev pub unary : UnaryOp → Span → Found → Found
unary op start f = node (e.Unary op f.expr) Value f.height (across start f.outer)

-- the literal -2147483648 (JLS 3.10.1)
abbrev pub least_int : Span → Span → Found
least_int minus literal = leaf (e.Int (negsuc 2147483647)) (across minus literal)

abbrev pub step_kind : Bool → Bool → Found → ExprKind
step_kind up after f = e.Step up after f.expr

-- JLS 15.15.1, 15.15.2
abbrev pub stepped_before : Bool → Span → Found → Found
stepped_before up start f = node (step_kind up false f) Statement f.height (across start f.outer)

-- JLS 15.14.2, 15.14.3
abbrev pub stepped_after : Bool → Found → Span → Found
stepped_after up f end = node (step_kind up true f) Statement f.height (across f.outer end)

-- JLS 15.17 to 15.24
abbrev pub joined : BinaryOp → Found → Found → Found
joined op f g = node (e.Binary op f.expr g.expr) Value (max f.height g.height) (across f.outer g.outer)

-- JLS 15.26
abbrev pub assigned : Option Arith → Found → Found → Found
assigned op f g = node (e.Assign op f.expr g.expr) Statement (max f.height g.height) (across f.outer g.outer)

-- ---- lists

abbrev pub no_exprs : Several
no_exprs = record { items = []; height = 0 }

abbrev pub with_expr : Several → Found → Several
with_expr s f = record { items = s.items ++ f.expr ∷ []; height = max s.height f.height }

abbrev pub all_args : Several → Span → Args
all_args s end = record { items = s.items; height = s.height; end = end }

-- ---- initialisers (JLS 10.6)

abbrev pub value_init : Found → FoundInit
value_init f = record { init = init.Value f.expr; height = f.height + 1; end = f.outer }

abbrev pub items_init : Span → FoundItems → FoundInit
items_init left s = record { init = init.Items s.items (across left s.end); height = s.height + 1; end = s.end }

abbrev pub no_inits : Span → FoundItems
no_inits end = record { items = []; height = 0; end = end }

abbrev pub with_init : FoundItems → FoundInit → FoundItems
with_init s i = record { items = s.items ++ i.init ∷ []; height = max s.height i.height; end = i.end }

abbrev pub closed_by : FoundItems → Span → FoundItems
closed_by s end = record { items = s.items; height = s.height; end = end }

-- Whether it creates an array, so that no index may follow.
abbrev pub makes_array : Form → Bool
makes_array Array = true
makes_array f = false
