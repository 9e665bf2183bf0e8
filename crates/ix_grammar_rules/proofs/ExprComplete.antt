-- What is in the grammar of expressions is read, where the height that is left suffices and what follows doesn't go on with it.
use Rattle.std.proofs.Common.{◌≡◌, ℕ, ℤ, zero, suc, ◌+◌, ◌-◌, ◌<◌, ◌≤◌, max, ◌==◌, Bool, true, false, inl, inr, List, [], ◌∷◌, ◌++◌, length, Option, Some, None, Ok, refl, sym, ap, subst, ◌∙◌, append_assoc, arith, length-append}
use Rattle.std.proofs.lemmas.Bool.{lt-ltb, le-leb, eq-eqb, eqb-true}
use Rattle.ix_text.specs.declared.span.Span.{Span}
use Rattle.ix_num.specs.declared.arith.Arith.{Arith}
use Rattle.ix_lexer.specs.declared.token.Token.{Token}
use Rattle.ix_lexer.specs.declared.fixed.TheConstants.{TRUE, FALSE, NULL, THIS, NEW, INT, BOOLEAN, AT, MINUS, DOT, COMMA, OPEN_PAREN, CLOSE_PAREN, OPEN_BRACKET, CLOSE_BRACKET, OPEN_BRACE, CLOSE_BRACE}
use Rattle.ix_tree.specs.declared.annot.Ident.{Ident}
use Rattle.ix_tree.specs.declared.expr.BinaryOp.{BinaryOp}
use Rattle.ix_tree.specs.declared.expr.UnaryOp.{UnaryOp}
use Rattle.ix_tree.specs.declared.expr.UnaryOp.TheVariants as op
use Rattle.ix_tree.specs.declared.expr.ExprKind.TheVariants as e
use Rattle.ix_lexer.proofs.Scans.{chosen}
use Rattle.ix_grammar_rules.specs.declared.aims.Aim.{Aim}
use Rattle.ix_grammar_rules.specs.declared.aims.Aim.TheVariants as aim
use Rattle.ix_grammar.specs.declared.found.Args.{Args}
use Rattle.ix_grammar.specs.declared.found.Found.{Found}
use Rattle.ix_grammar.specs.declared.found.FoundInit.{FoundInit}
use Rattle.ix_grammar.specs.declared.found.FoundItems.{FoundItems}
use Rattle.ix_grammar.specs.declared.found.Several.{Several}
use Rattle.ix_grammar.specs.declared.found.Form.{Form}
use Rattle.ix_grammar.specs.declared.found.Form.TheVariants as form
use Rattle.ix_grammar_rules.specs.Rule.{Rule, pure, take, bind, stop, loop, On, Done, look, run, Outcome, and_then}
use Rattle.ix_grammar.specs.Patterns.{sign, name_token, number_token, least_token, a_sign, a_least, row, binary_signs, unary_signs, step_signs, assign_signs, one_of, an_operator}
use Rattle.ix_grammar.specs.ExprNodes.{leaf, named, within, selected, element, called, called_on, created, created_type, new_array, new_items, unary, least_int, stepped_before, stepped_after, joined, assigned, no_exprs, with_expr, all_args, value_init, items_init, no_inits, with_init, closed_by, makes_array}
use Rattle.ix_grammar_rules.specs.ExprRules.{extra, Below, inner, inner_init, more_exprs, args, more_inits, items, name_or_call, enclosed, word, creation, object_or_array, noted_array, noted, array, array_rest, first_part, field_or_call, index, index_unless, further, primary_of, only_variable, variable_of, step_behind, value_of, prefixed, unary_of, operand, level_of, assignment, maybe_assigned, whole_of, init_of, below, expr, level, primary, variable, init}
use Rattle.ix_tree.specs.declared.annot.Annot.{Annot}
use Rattle.ix_tree.specs.declared.annot.BaseTree.{BaseTree}
use Rattle.ix_tree.specs.declared.annot.BaseTree.TheVariants.{Int, Boolean, Named}
use Rattle.ix_grammar.specs.declared.found.At.{At}
use Rattle.ix_grammar.specs.declared.found.Notes.{Notes}
use Rattle.ix_grammar.specs.Lists.{no_item, one_more}
use Rattle.ix_grammar.specs.AnnotGrammar.{IsAnnot, IsNotes, annot_height, no_notes, with_note}
use Rattle.ix_grammar_rules.specs.AnnotRules.{next_annot, annots_from}
use Rattle.ix_grammar.specs.TypeGrammar as types
use Rattle.ix_grammar.specs.TypeGrammar.{based, base_height, counted, IsBase, IsPairs}
use Rattle.ix_grammar_rules.specs.TypeRules.{next_pair, pairs}
use Rattle.ix_grammar_rules.proofs.ExprHeights.{extra_at_most}
use Rattle.ix_grammar_rules.proofs.ListsComplete.{some_reads}
use Rattle.ix_grammar_rules.proofs.AnnotComplete.{NoParen, annot_marked, tall_annot, annot_starts, annot_takes, annot_turn, notes_done}
use Rattle.ix_grammar_rules.proofs.TypeComplete.{pairs_read, pairs_done}
use Rattle.ix_grammar.specs.ExprGrammar as g
use Rattle.ix_grammar.specs.ExprGrammar.{IsMorePairs, Kind, Primary, Whole, Level, IsExpr, IsExprs, IsArgs, IsInit, IsInits, IsItems}
use Rattle.ix_grammar_rules.proofs.Runs.{loop_on, loop_done, b_cond}
use Rattle.ix_grammar_rules.proofs.SoundRules.{some_same}
use Rattle.ix_grammar_rules.proofs.CompleteRules.{other_reads, bind_reads, then_assoc}
use Rattle.ix_grammar_rules.proofs.Heights.{whole_below, level_below, variable_below, init_below, inner_below, inner_init_below}
use Rattle.ix_grammar_rules.proofs.Tables.{other_sign, other_table}
use Rattle.ix_grammar_rules.proofs.Follows.{Free, AfterPrimary, AfterUnary, AfterLevel, AfterWhole, tighter, after_close_paren, after_close_bracket, after_close_brace, after_comma, before_step, before_operator, before_assign, Starts, StartsPrimary, starts, starts_primary, tall, variable_tall, starts_exprs, init_starts, inits_start}

abbrev pub Complete : Kind → List Token → Found → Type 0
Complete Primary ts f = (a : Aim) (left : ℕ) (us : List Token) → f.height + extra a f.form ≤ left → Free OPEN_PAREN us → (makes_array f.form ≡ true → Free OPEN_BRACKET us) → run (primary a left) (ts ++ us) ≡ run (loop (further (below left) a left) f) us
Complete Whole ts f = (left : ℕ) (us : List Token) → f.height ≤ left → AfterWhole us → run (expr left) (ts ++ us) ≡ Ok (f, us)
Complete (Level zero) ts f = (left : ℕ) (us : List Token) → f.height ≤ left → AfterUnary us → run (level left 0) (ts ++ us) ≡ Ok (f, us)
Complete (Level (suc n)) ts f = (left : ℕ) (us : List Token) → f.height ≤ left → AfterLevel n us → run (level left (suc n)) (ts ++ us) ≡ run (loop (operand (below left) left n) f) us

-- ---- parts

abbrev pub CompleteExpr : List Token → Found → Type 0
CompleteExpr ts f = Complete Whole ts f

inner_reads : (ts : List Token) (f : Found) → CompleteExpr ts f → (left n : ℕ) (us : List Token) → n ≤ 1 → 0 < f.height → f.height + (n + 1) ≤ left → AfterWhole us → run (inner (below left) n) (ts ++ us) ≡ Ok (f, us)
inner_reads ts f c left n us one pos le a = rw (inner_below left (left - (n + 1)) n one (omega (arith, le))) (c (left - (n + 1)) us (omega (arith, le)) a)

pub lower_reads : (ts : List Token) (f : Found) → CompleteExpr ts f → (left : ℕ) (us : List Token) → f.height < left → AfterWhole us → run ((below left).lower.whole) (ts ++ us) ≡ Ok (f, us)
lower_reads ts f c left us le a = rw (whole_below left (left - 1) (omega (arith, le))) (c (left - 1) us (omega (arith, le)) a)

-- ---- lists of expressions

-- one rule behind two
pub bind_assoc : {A B C : Type 0} (p : Rule A) (q : A → Rule B) (k : B → Rule C) (ts us : List Token) (b : B) → run (bind p q) ts ≡ Ok (b, us) → run (bind p (λ a. bind (q a) k)) ts ≡ run (k b) us
unfolding run
bind_assoc p q k ts us b h = sym (then_assoc (run p ts) (λ a. run (q a)) (λ b. run (k b))) ∙ ap (λ o. and_then o (λ b. run (k b))) h

abbrev pub CompleteExprs : List Token → Several → Type 0
CompleteExprs ts s = (left : ℕ) (us : List Token) → s.height ≤ left → AfterWhole us
    → run (bind (expr left) (λ f. loop (more_exprs (expr left)) (with_expr no_exprs f))) (ts ++ us) ≡ run (loop (more_exprs (expr left)) s) us

more_body : (e : Rule Found) (s : Several) (f : Found) (c : Span) (ts us : List Token) → run e ts ≡ Ok (f, us) → run (more_exprs e s) (sign COMMA c ∷ ts) ≡ Ok (On (with_expr s f), us)
unfolding run more_exprs
more_body e s f c ts us h = rw h refl

last_body : (e : Rule Found) (s : Several) (us : List Token) → Free COMMA us → run (more_exprs e s) us ≡ Ok (Done s, us)
unfolding run more_exprs
last_body e s us h = rw h refl

-- ---- first parts

primary_from : (b : Below) (a : Aim) (left : ℕ) (f : Found) (ts us : List Token) → run (first_part b a left) ts ≡ Ok (f, us) → run (primary_of b a left) ts ≡ run (loop (further b a left) f) us
unfolding run primary_of
primary_from b a left f ts us h = rw h refl

number_reads : (b : Below) (a : Aim) (left : ℕ) (n : ℤ) (s : Span) (us : List Token) → extra a form.Value + 1 ≤ left → run (first_part b a left) (number_token n s ∷ us) ≡ Ok (leaf (e.Int n) s, us)
unfolding run first_part
number_reads b a left n s us le = rw (le-leb (extra a form.Value + 1) left le) refl

truth_reads : (b : Below) (a : Aim) (left : ℕ) (s : Span) (us : List Token) → extra a form.Value + 1 ≤ left → run (first_part b a left) (sign TRUE s ∷ us) ≡ Ok (leaf (e.Bool true) s, us)
unfolding run first_part word
truth_reads b a left s us le = rw (le-leb (extra a form.Value + 1) left le) refl

falsity_reads : (b : Below) (a : Aim) (left : ℕ) (s : Span) (us : List Token) → extra a form.Value + 1 ≤ left → run (first_part b a left) (sign FALSE s ∷ us) ≡ Ok (leaf (e.Bool false) s, us)
unfolding run first_part word
falsity_reads b a left s us le = rw (le-leb (extra a form.Value + 1) left le) refl

null_reads : (b : Below) (a : Aim) (left : ℕ) (s : Span) (us : List Token) → extra a form.Value + 1 ≤ left → run (first_part b a left) (sign NULL s ∷ us) ≡ Ok (leaf e.Null s, us)
unfolding run first_part word
null_reads b a left s us le = rw (le-leb (extra a form.Value + 1) left le) refl

this_reads : (b : Below) (a : Aim) (left : ℕ) (s : Span) (us : List Token) → extra a form.Value + 1 ≤ left → run (first_part b a left) (sign THIS s ∷ us) ≡ Ok (leaf e.This s, us)
unfolding run first_part word
this_reads b a left s us le = rw (le-leb (extra a form.Value + 1) left le) refl

name_reads : (b : Below) (a : Aim) (left : ℕ) (x : Ident) (us : List Token) → 2 ≤ left → Free OPEN_PAREN us → run (first_part b a left) (name_token x ∷ us) ≡ Ok (named x, us)
unfolding run first_part name_or_call
name_reads b a left x us le o = rw (le-leb 2 left le, o) refl

call_reads : (b : Below) (a : Aim) (left : ℕ) (x : Ident) (o : Span) (ts us : List Token) (r : Args) → 2 ≤ left → extra a form.Statement + 2 ≤ left → run (args (inner b (extra a form.Statement))) ts ≡ Ok (r, us)
    → run (first_part b a left) (name_token x ∷ sign OPEN_PAREN o ∷ ts) ≡ Ok (called x r, us)
unfolding run first_part name_or_call
call_reads b a left x o ts us r le two h = rw (le-leb 2 left le, le-leb (extra a form.Statement + 2) left two, h) refl

paren_reads : (b : Below) (a : Aim) (left : ℕ) (o c : Span) (ts us : List Token) (f : Found) → extra a form.Value + 2 ≤ left → run (inner b (extra a form.Value)) ts ≡ Ok (f, sign CLOSE_PAREN c ∷ us)
    → run (first_part b a left) (sign OPEN_PAREN o ∷ ts) ≡ Ok (within o c f, us)
unfolding run first_part enclosed
paren_reads b a left o c ts us f le h = rw (le-leb (extra a form.Value + 2) left le, h) refl

object_reads : (b : Below) (a : Aim) (left : ℕ) (s : Span) (x : Ident) (o : Span) (ts us : List Token) (r : Args) → extra a form.Statement + 2 ≤ left → run (args (inner b (extra a form.Statement))) ts ≡ Ok (r, us)
    → run (first_part b a left) (sign NEW s ∷ name_token x ∷ sign OPEN_PAREN o ∷ ts) ≡ Ok (created s x r, us)
unfolding run first_part creation object_or_array
object_reads b a left s x o ts us r le h = rw (le-leb (extra a form.Statement + 2) left le, h) refl

-- ---- what follows a primary

select_turn : (b : Below) (a : Aim) (left : ℕ) (f : Found) (dot : Span) (x : Ident) (us : List Token) → f.height < left → Free OPEN_PAREN us → run (further b a left f) (sign DOT dot ∷ name_token x ∷ us) ≡ Ok (On (selected f x), us)
unfolding run further field_or_call
select_turn b a left f dot x us lt o = rw (lt-ltb f.height left lt, o) refl

call_turn : (b : Below) (a : Aim) (left : ℕ) (f : Found) (dot : Span) (x : Ident) (o : Span) (ts us : List Token) (r : Args) → f.height < left → extra a form.Statement + (f.height + 1) ≤ left → run (args (inner b (extra a form.Statement))) ts ≡ Ok (r, us)
    → run (further b a left f) (sign DOT dot ∷ name_token x ∷ sign OPEN_PAREN o ∷ ts) ≡ Ok (On (called_on f x r), us)
unfolding run further field_or_call
call_turn b a left f dot x o ts us r lt le h = rw (lt-ltb f.height left lt, le-leb (extra a form.Statement + (f.height + 1)) left le, h) refl

index_turn : (b : Below) (a : Aim) (left : ℕ) (f h : Found) (o c : Span) (ts us : List Token) → makes_array f.form ≡ false → extra a form.Variable + (f.height + 1) ≤ left → run (inner b (extra a form.Variable)) ts ≡ Ok (h, sign CLOSE_BRACKET c ∷ us)
    → run (further b a left f) (sign OPEN_BRACKET o ∷ ts) ≡ Ok (On (element f h c), us)
unfolding run further index_unless index
index_turn b a left f h o c ts us n le r = rw (n, le-leb (extra a form.Variable + (f.height + 1)) left le, r) refl

unless_end : (c : Bool) (b : Below) (a : Aim) (left : ℕ) (f : Found) (us : List Token) → Free OPEN_BRACKET us → run (index_unless c b a left f) us ≡ Ok (Done f, us)
unfolding run index_unless index
unless_end true b a left f us o = refl
unless_end false b a left f us o = rw o refl

further_end : (b : Below) (a : Aim) (left : ℕ) (f : Found) (us : List Token) → Free DOT us → Free OPEN_BRACKET us → run (further b a left f) us ≡ Ok (Done f, us)
unfolding run further
further_end b a left f us d o = rw d (unless_end (makes_array f.form) b a left f us o)

pub chain_end : (b : Below) (a : Aim) (left : ℕ) (f : Found) (us : List Token) → Free DOT us → Free OPEN_BRACKET us → run (loop (further b a left) f) us ≡ Ok (f, us)
chain_end b a left f us d o = loop_done (further b a left) f f us us (further_end b a left f us d o)

-- ---- operators

step_behind_none : (left : ℕ) (f : Found) (k : Form) (us : List Token) → look (one_of step_signs) us ≡ None → run (step_behind left f k) us ≡ Ok (f, us)
unfolding run step_behind
step_behind_none left f form.Variable us h = rw h refl
step_behind_none left f form.Statement us h = refl
step_behind_none left f form.Array us h = refl
step_behind_none left f form.Value us h = refl

-- behind the tests for signs
unary_value : (b : Below) (left : ℕ) (ts us : List Token) (f h : Found) (vs : List Token) → StartsPrimary ts → run (primary_of b aim.Value left) ts ≡ Ok (f, us) → run (step_behind left f f.form) us ≡ Ok (h, vs) → run (unary_of b left) ts ≡ Ok (h, vs)
unfolding run unary_of prefixed value_of
unary_value b left ts us f h vs s r e = rw (s.minus, s.unary, s.step, r, e) refl

least_reads : (b : Below) (left : ℕ) (m l : Span) (us : List Token) → 1 ≤ left → run (unary_of b left) (sign MINUS m ∷ least_token l ∷ us) ≡ Ok (least_int m l, us)
unfolding run unary_of
least_reads b left m l us le = rw (le-leb 1 left le) refl

-- a minus before what is no literal 2147483648
minus_reads : (b : Below) (left : ℕ) (m : Span) (ts us : List Token) (f : Found) → 1 ≤ left → look a_least ts ≡ None → run (b.lower.level 0) ts ≡ Ok (f, us) → run (unary_of b left) (sign MINUS m ∷ ts) ≡ Ok (unary op.Minus m f, us)
unfolding run unary_of
minus_reads b left m ts us f le n h = rw (le-leb 1 left le, n, h) refl

signed_reads : (b : Below) (left : ℕ) (number : ℕ) (o : UnaryOp) (s : Span) (ts us : List Token) (f : Found) → 2 ≤ left → Free MINUS (sign number s ∷ ts) → row unary_signs number ≡ Some o → run (b.lower.level 0) ts ≡ Ok (f, us)
    → run (unary_of b left) (sign number s ∷ ts) ≡ Ok (unary o s f, us)
unfolding run unary_of
signed_reads b left number o s ts us f le m r h = rw (m, r, le-leb 2 left le, h) refl

step_reads : (b : Below) (left : ℕ) (number : ℕ) (up : Bool) (s : Span) (ts us : List Token) (f : Found) → 3 ≤ left → row step_signs number ≡ Some up → Free MINUS (sign number s ∷ ts) → look (one_of unary_signs) (sign number s ∷ ts) ≡ None → run b.lower.variable ts ≡ Ok (f, us)
    → run (unary_of b left) (sign number s ∷ ts) ≡ Ok (stepped_before up s f, us)
unfolding run unary_of prefixed
step_reads b left number up s ts us f le r m u h = rw (m, u, r, le-leb 3 left le, h) refl

variable_ends : (b : Below) (left : ℕ) (f : Found) (ts us : List Token) → f.form ≡ form.Variable → run (primary_of b aim.Variable left) ts ≡ Ok (f, us) → run (variable_of b left) ts ≡ Ok (f, us)
unfolding run variable_of only_variable
variable_ends b left f ts us e h = rw (h, e) refl

step_behind_reads : (left : ℕ) (f : Found) (number : ℕ) (up : Bool) (s : Span) (us : List Token) → f.height < left → f.form ≡ form.Variable → row step_signs number ≡ Some up → run (step_behind left f f.form) (sign number s ∷ us) ≡ Ok (stepped_after up f s, us)
unfolding run step_behind
step_behind_reads left f number up s us lt e r = rw (e, r, lt-ltb f.height left lt) refl

-- one level of operators
same_level : (n : ℕ) → (n == n) ≡ true
same_level n = eq-eqb n n refl

operand_turn : (b : Below) (left n number : ℕ) (o : BinaryOp) (s : Span) (f h : Found) (ts us : List Token) → f.height < left → row binary_signs number ≡ Some (n, o) → run (b.lower.level n) ts ≡ Ok (h, us) → run (operand b left n f) (sign number s ∷ ts) ≡ Ok (On (joined o f h), us)
unfolding run operand
operand_turn b left n number o s f h ts us lt r e = rw (r, same_level n, lt-ltb f.height left lt, e) refl

operand_end : (b : Below) (left n : ℕ) (f : Found) (us : List Token) → look (an_operator n) us ≡ None → run (operand b left n f) us ≡ Ok (Done f, us)
unfolding run operand
operand_end b left n f us h = rw h refl

level_next : (b : Below) (left n : ℕ) (f : Found) (ts us : List Token) → run (level_of b left n) ts ≡ Ok (f, us) → run (level_of b left (suc n)) ts ≡ run (loop (operand b left n) f) us
unfolding run level_of
level_next b left n f ts us h = rw h refl

whole_level : (ts : List Token) (f : Found) (n : ℕ) → Complete (Level n) ts f → (left : ℕ) (us : List Token) → f.height ≤ left → AfterLevel n us → run (level left n) (ts ++ us) ≡ Ok (f, us)
whole_level ts f zero c left us le a = c left us le a.unary
whole_level ts f (suc n) c left us le a = c left us le (tighter (suc n) n us (omega arith) a) ∙ loop_done (operand (below left) left n) f f us us (operand_end (below left) left n f us (a.operators n (omega arith)))

-- assignments
assign_none : (b : Below) (left : ℕ) (f : Found) (k : Form) (us : List Token) → look (one_of assign_signs) us ≡ None → run (maybe_assigned b left f k) us ≡ Ok (f, us)
unfolding run maybe_assigned assignment
assign_none b left f form.Variable us h = rw h refl
assign_none b left f form.Statement us h = refl
assign_none b left f form.Array us h = refl
assign_none b left f form.Value us h = refl

assign_reads : (b : Below) (left : ℕ) (f h : Found) (number : ℕ) (o : Option Arith) (s : Span) (ts us : List Token) → f.form ≡ form.Variable → f.height < left → row assign_signs number ≡ Some o → run b.lower.whole ts ≡ Ok (h, us)
    → run (maybe_assigned b left f f.form) (sign number s ∷ ts) ≡ Ok (assigned o f h, us)
unfolding run maybe_assigned assignment
assign_reads b left f h number o s ts us e lt r w = rw (e, r, lt-ltb f.height left lt, w) refl

whole_from : (b : Below) (left : ℕ) (f h : Found) (ts us vs : List Token) → run (level_of b left 10) ts ≡ Ok (f, us) → run (maybe_assigned b left f f.form) us ≡ Ok (h, vs) → run (whole_of b left) ts ≡ Ok (h, vs)
unfolding run whole_of
whole_from b left f h ts us vs r e = rw (r, e) refl

-- ---- lists of arguments and entries

abbrev pub CompleteArgs : List Token → Args → Type 0
CompleteArgs ts r = (left n : ℕ) (us : List Token) → n ≤ 1 → r.height + (n + 1) ≤ left
    → (open_at : Span) × (tail : List Token) × (ts ≡ sign OPEN_PAREN open_at ∷ tail) × (run (args (inner (below left) n)) (tail ++ us) ≡ Ok (r, us))

no_args_read : (e : Rule Found) (right : Span) (us : List Token) → run (args e) (sign CLOSE_PAREN right ∷ us) ≡ Ok (all_args no_exprs right, us)
unfolding run args
no_args_read e right us = refl

close_args : (s : Several) (right : Span) (us : List Token) → run (take (a_sign CLOSE_PAREN) true (λ c. pure (all_args s c)) stop) (sign CLOSE_PAREN right ∷ us) ≡ Ok (all_args s right, us)
unfolding run
close_args s right us = refl

args_read : (e : Rule Found) (s : Several) (right : Span) (ts us : List Token) → Free CLOSE_PAREN ts → run (bind e (λ f. loop (more_exprs e) (with_expr no_exprs f))) ts ≡ Ok (s, sign CLOSE_PAREN right ∷ us) → run (args e) ts ≡ Ok (all_args s right, us)
unfolding args
args_read e s right ts us o h = other_reads (a_sign CLOSE_PAREN) true _ _ ts o ∙ bind_assoc e (λ f. loop (more_exprs e) (with_expr no_exprs f)) _ ts (sign CLOSE_PAREN right ∷ us) s h ∙ close_args s right us

abbrev pub CompleteInit : List Token → FoundInit → Type 0
CompleteInit ts i = (left : ℕ) (us : List Token) → i.height ≤ left → AfterWhole us → run (init left) (ts ++ us) ≡ Ok (i, us)

abbrev pub CompleteInits : List Token → FoundItems → Type 0
CompleteInits ts s = (open_at : Span) (left : ℕ) (us : List Token) → s.height ≤ left → AfterWhole us
    → run (bind (init left) (λ i. loop (more_inits (init left)) (with_init (no_inits open_at) i))) (ts ++ us) ≡ run (loop (more_inits (init left)) s) us

abbrev pub CompleteItems : List Token → FoundItems → Type 0
CompleteItems ts s = (open_at : Span) (left : ℕ) (us : List Token) → s.height ≤ left → run (items (init left) open_at) (ts ++ us) ≡ Ok (s, us)

value_init_reads : (b : Below) (left : ℕ) (f : Found) (ts us : List Token) → Free OPEN_BRACE ts → run b.lower.whole ts ≡ Ok (f, us) → run (init_of b left) ts ≡ Ok (value_init f, us)
unfolding run init_of
value_init_reads b left f ts us o h = rw (o, h) refl

items_init_reads : (b : Below) (left : ℕ) (s : FoundItems) (o : Span) (ts us : List Token) → 1 ≤ left → run (items b.lower.init o) ts ≡ Ok (s, us) → run (init_of b left) (sign OPEN_BRACE o ∷ ts) ≡ Ok (items_init o s, us)
unfolding run init_of
items_init_reads b left s o ts us le h = rw (le-leb 1 left le, h) refl

init_body : (e : Rule FoundInit) (s : FoundItems) (i : FoundInit) (c : Span) (ts us : List Token) → Free CLOSE_BRACE ts → run e ts ≡ Ok (i, us) → run (more_inits e s) (sign COMMA c ∷ ts) ≡ Ok (On (with_init s i), us)
unfolding run more_inits
init_body e s i c ts us o h = rw (o, h) refl

close_body : (e : Rule FoundInit) (s : FoundItems) (right : Span) (us : List Token) → run (more_inits e s) (sign CLOSE_BRACE right ∷ us) ≡ Ok (Done (closed_by s right), us)
unfolding run more_inits
close_body e s right us = refl

comma_body : (e : Rule FoundInit) (s : FoundItems) (c right : Span) (us : List Token) → run (more_inits e s) (sign COMMA c ∷ sign CLOSE_BRACE right ∷ us) ≡ Ok (Done (closed_by s right), us)
unfolding run more_inits
comma_body e s c right us = refl

no_items_read : (e : Rule FoundInit) (o right : Span) (us : List Token) → run (items e o) (sign CLOSE_BRACE right ∷ us) ≡ Ok (no_inits right, us)
unfolding run items
no_items_read e o right us = refl

items_read : (e : Rule FoundInit) (o : Span) (ts us : List Token) (s : FoundItems) → Free CLOSE_BRACE ts → run (bind e (λ i. loop (more_inits e) (with_init (no_inits o) i))) ts ≡ Ok (s, us) → run (items e o) ts ≡ Ok (s, us)
unfolding items
items_read e o ts us s f h = other_reads (a_sign CLOSE_BRACE) true _ _ ts f ∙ h

-- ---- primaries as operands

primary_level : (ts : List Token) (f : Found) → ((us : List Token) → StartsPrimary (ts ++ us)) → Complete Primary ts f → Complete (Level 0) ts f
unfolding level_of
primary_level ts f s c = λ left us le a. let p = a.primary in
    unary_value (below left) left (ts ++ us) us f f us (s us) (c aim.Value left us (omega (arith, le)) p.paren (λ m. p.bracket) ∙ chain_end (below left) aim.Value left f us p.dot p.bracket) (step_behind_none left f f.form us a.step)

wider_level : (n : ℕ) (ts : List Token) (f : Found) → Complete (Level n) ts f → Complete (Level (suc n)) ts f
wider_level n ts f c = λ left us le a. level_next (below left) left n f (ts ++ us) us (whole_level ts f n c left us le a)

every_level : (n : ℕ) (ts : List Token) (f : Found) → Complete (Level 0) ts f → Complete (Level n) ts f
every_level zero ts f c = c
every_level (suc n) ts f c = wider_level n ts f (every_level n ts f c)

extra_variable : (f : Found) → f.form ≡ form.Variable → extra aim.Variable f.form ≡ 0
extra_variable f v = rw v refl

variable_reads : (ts : List Token) (f : Found) → f.form ≡ form.Variable → Complete Primary ts f → (left : ℕ) (us : List Token) → f.height ≤ left → AfterPrimary us → run (variable left) (ts ++ us) ≡ Ok (f, us)
variable_reads ts f v c left us le a =
    variable_ends (below left) left f (ts ++ us) us v (c aim.Variable left us (omega (arith, le, extra_variable f v)) a.paren (λ m. a.bracket) ∙ chain_end (below left) aim.Variable left f us a.dot a.bracket)

lower_level : (ts : List Token) (f : Found) (n : ℕ) → Complete (Level n) ts f → (left : ℕ) (us : List Token) → f.height < left → AfterLevel n us → run ((below left).lower.level n) (ts ++ us) ≡ Ok (f, us)
lower_level ts f n c left us lt a = rw (level_below left (left - 1) n (omega (arith, lt))) (whole_level ts f n c (left - 1) us (omega (arith, lt)) a)

lower_unary : (ts : List Token) (f : Found) → Complete (Level 0) ts f → (left : ℕ) (us : List Token) → f.height < left → AfterUnary us → run ((below left).lower.level 0) (ts ++ us) ≡ Ok (f, us)
lower_unary ts f c left us lt a = rw (level_below left (left - 1) 0 (omega (arith, lt))) (c (left - 1) us (omega (arith, lt)) a)

pub lower_variable : (ts : List Token) (f : Found) → f.form ≡ form.Variable → Complete Primary ts f → (left : ℕ) (us : List Token) → f.height < left → AfterPrimary us → run ((below left).lower.variable) (ts ++ us) ≡ Ok (f, us)
lower_variable ts f v c left us lt a = rw (variable_below left (left - 1) (omega (arith, lt))) (variable_reads ts f v c (left - 1) us (omega (arith, lt)) a)

signed_level : (number : ℕ) (o : UnaryOp) (s : Span) (ts : List Token) (f : Found) → row unary_signs number ≡ Some o → ((us : List Token) → Starts (ts ++ us)) → 0 < f.height → Complete (Level 0) ts f → Complete (Level 0) (sign number s ∷ ts) (unary o s f)
unfolding level_of
signed_level number o s ts f r st pos c = λ left us le a. elim (chosen (number == MINUS) true false (number == MINUS) (b_cond (number == MINUS))) [
  | inl w ↦ (let n : number ≡ MINUS = eqb-true number MINUS w.0 in let m : row unary_signs MINUS ≡ Some o = subst (λ x. row unary_signs x ≡ Some o) n r in let k : op.Minus ≡ o = some_same op.Minus o m in
      rw (n, sym k) (let l = st us in minus_reads (below left) left s (ts ++ us) us f (omega (arith, le)) l.least (lower_unary ts f c left us (omega (arith, le)) a)))
  | inr w ↦ signed_reads (below left) left number o s (ts ++ us) us f (omega (arith, le, pos)) (rw w.0 refl) r (lower_unary ts f c left us (omega (arith, le)) a)
]

-- ---- creations of arrays

pair_body : (found : At ℕ) (left right : Span) (us : List Token) → run (next_pair found) (sign OPEN_BRACKET left ∷ sign CLOSE_BRACKET right ∷ us) ≡ Ok (On (counted (found.value + 1) right), us)
unfolding next_pair run
pair_body found left right us = refl

pair_turn : (found : At ℕ) (left right : Span) (us : List Token) → run (loop next_pair found) (sign OPEN_BRACKET left ∷ sign CLOSE_BRACKET right ∷ us) ≡ run (loop next_pair (counted (found.value + 1) right)) us
pair_turn found left right us = loop_on next_pair found (counted (found.value + 1) right) (sign OPEN_BRACKET left ∷ sign CLOSE_BRACKET right ∷ us) us (pair_body found left right us) (omega arith)

more_pairs_read : (last : Span) (ts : List Token) (found : At ℕ) → IsMorePairs last ts found → (us : List Token) → run (loop next_pair (counted 1 last)) (ts ++ us) ≡ run (loop next_pair found) us
more_pairs_read last _ _ g.no_more us = refl
more_pairs_read last _ _ (g.one_more left right {tokens} {pairs = found} d) us =
    ap (run (loop next_pair (counted 1 last))) (append_assoc tokens (sign OPEN_BRACKET left ∷ sign CLOSE_BRACKET right ∷ []) us)
    ∙ more_pairs_read last tokens found d (sign OPEN_BRACKET left ∷ sign CLOSE_BRACKET right ∷ us) ∙ pair_turn found left right us

all_pairs : (last : Span) (ts : List Token) (found : At ℕ) → IsMorePairs last ts found → (us : List Token) → Free OPEN_BRACKET us → run (pairs 1 last) (ts ++ us) ≡ Ok (found, us)
unfolding pairs
all_pairs last ts found d us o = more_pairs_read last ts found d us ∙ pairs_done found us o

length_rest : (b : Below) (a : Aim) (start : Span) (base : At BaseTree) (notes : Notes) (h : Found) (right : Span) (ts us vs : List Token) (found : At ℕ) → Free CLOSE_BRACKET ts → run (inner b (extra a form.Array)) ts ≡ Ok (h, sign CLOSE_BRACKET right ∷ us) → run (pairs 1 right) us ≡ Ok (found, vs)
    → run (array_rest b a start base notes) ts ≡ Ok (new_array start (created_type base notes found) h found.span, vs)
unfolding run array_rest
length_rest b a start base notes h right ts us vs found o r p = rw (o, r, p) refl

-- what follows the first pair of brackets
entries_behind : Below → Aim → Span → At BaseTree → Notes → Outcome (At ℕ) → Outcome Found
entries_behind b a start base notes o = and_then o (λ found. run (take (a_sign OPEN_BRACE) true (λ open_at. bind (items (inner_init b (extra a form.Array)) open_at) (λ s. pure (new_items start (created_type base notes found) s))) stop))

pair_rest : (b : Below) (a : Aim) (start : Span) (base : At BaseTree) (notes : Notes) (right : Span) (us : List Token) → run (array_rest b a start base notes) (sign CLOSE_BRACKET right ∷ us) ≡ entries_behind b a start base notes (run (pairs 1 right) us)
unfolding run array_rest entries_behind
pair_rest b a start base notes right us = refl

entries_read : (b : Below) (a : Aim) (start : Span) (base : At BaseTree) (notes : Notes) (found : At ℕ) (s : FoundItems) (o : Span) (ts us : List Token) → run (items (inner_init b (extra a form.Array)) o) ts ≡ Ok (s, us)
    → entries_behind b a start base notes (Ok (found, sign OPEN_BRACE o ∷ ts)) ≡ Ok (new_items start (created_type base notes found) s, us)
unfolding run entries_behind
entries_read b a start base notes found s o ts us h = rw h refl

extra_less : (a : Aim) → extra a form.Statement ≤ extra a form.Array
extra_less aim.Value = omega arith
extra_less aim.Statement = omega arith
extra_less aim.Variable = omega arith

-- Behind `new`, annotations and a base, a bracket is followed by the rest of an array's creation.
abbrev Begun : Below → Aim → ℕ → Span → At BaseTree → Notes → List Token → Type 0
Begun b a left start base notes front = (o : Span) (us : List Token) → run (creation b a left start) (front ++ (sign OPEN_BRACKET o ∷ us)) ≡ run (array_rest b a start base notes) us

int_begun : (b : Below) (a : Aim) (left : ℕ) (start s : Span) → extra a form.Array + 2 ≤ left → Begun b a left start (based Int s) no_notes (sign INT s ∷ [])
unfolding run creation array
int_begun b a left start s le o us = rw (le-leb (extra a form.Array + 2) left le) refl

boolean_begun : (b : Below) (a : Aim) (left : ℕ) (start s : Span) → extra a form.Array + 2 ≤ left → Begun b a left start (based Boolean s) no_notes (sign BOOLEAN s ∷ [])
unfolding run creation array
boolean_begun b a left start s le o us = rw (le-leb (extra a form.Array + 2) left le) refl

name_begun : (b : Below) (a : Aim) (left : ℕ) (start : Span) (x : Ident) → extra a form.Array + 3 ≤ left → Begun b a left start (based (Named x) x.span) no_notes (name_token x ∷ [])
unfolding run creation object_or_array
name_begun b a left start x le o us = rw (le-leb (extra a form.Array + 3) left le) refl

noted_base : (b : Below) (a : Aim) (start : Span) (notes : Notes) (ts : List Token) (base : At BaseTree) → IsBase ts base → (o : Span) (us : List Token) → run (noted_array b a start notes) (ts ++ (sign OPEN_BRACKET o ∷ us)) ≡ run (array_rest b a start base notes) us
unfolding run noted_array array
noted_base b a start notes _ _ (types.int s) o us = refl
noted_base b a start notes _ _ (types.boolean s) o us = refl
noted_base b a start notes _ _ (types.named x) o us = refl

no_at : (ts : List Token) (base : At BaseTree) → IsBase ts base → (us : List Token) → Free AT (ts ++ us)
no_at _ _ (types.int s) us = refl
no_at _ _ (types.boolean s) us = refl
no_at _ _ (types.named x) us = refl

no_paren : (ts : List Token) (base : At BaseTree) → IsBase ts base → (us : List Token) → Free OPEN_PAREN (ts ++ us)
no_paren _ _ (types.int s) us = refl
no_paren _ _ (types.boolean s) us = refl
no_paren _ _ (types.named x) us = refl

noted_then : Below → Aim → Span → Outcome Notes → Outcome Found
noted_then b a start o = and_then o (λ notes. run (noted_array b a start notes))

module _ (b : Below) (a : Aim) (left : ℕ) (start : Span) where
  noted_begins : (ts : List Token) (n : Annot) → IsAnnot ts n → annot_height n ≤ left - (extra a form.Array + 2) → (us : List Token) → NoParen us
      → run (creation b a left start) (ts ++ us) ≡ noted_then b a start (run (loop (next_annot (left - (extra a form.Array + 2))) (with_note no_notes n)) us)
  unfolding run creation noted annots_from noted_then
  noted_begins ts n d le us c =
      let m = annot_marked (left - (extra a form.Array + 2)) ts n d le us c in
      rw (m.is, le-leb (extra a form.Array + 4) left (omega (arith, le, tall_annot n)), m.reads) refl

  noted_begun : (before tokens base_tokens : List Token) (notes : Notes) (n : Annot) (base : At BaseTree) → IsNotes before notes → IsAnnot tokens n → IsBase base_tokens base → max notes.height (annot_height n) ≤ left - (extra a form.Array + 2)
      → (o : Span) (us : List Token) → run (creation b a left start) ((before ++ tokens) ++ (base_tokens ++ (sign OPEN_BRACKET o ∷ us))) ≡ run (array_rest b a start base (with_note notes n)) us
  unfolding run annots_from noted_then
  noted_begun before tokens base_tokens notes n base d i p le o us =
      some_reads IsAnnot no_notes with_note (next_annot (left - (extra a form.Array + 2))) NoParen (λ n. annot_height n ≤ left - (extra a form.Array + 2)) (λ n. n.height ≤ left - (extra a form.Array + 2))
      (λ ts a i us. annot_starts OPEN_PAREN refl ts a i us) annot_takes (λ n a q. (omega (arith, q), omega (arith, q))) (annot_turn (left - (extra a form.Array + 2)))
      (run (creation b a left start)) (noted_then b a start) noted_begins before notes d tokens n i le (base_tokens ++ (sign OPEN_BRACKET o ∷ us)) (no_paren base_tokens base p (sign OPEN_BRACKET o ∷ us))
      ∙ ap (noted_then b a start) (notes_done (left - (extra a form.Array + 2)) (with_note notes n) (base_tokens ++ (sign OPEN_BRACKET o ∷ us)) (no_at base_tokens base p (sign OPEN_BRACKET o ∷ us)))
      ∙ noted_base b a start (with_note notes n) base_tokens base p o us

  base_begun : (ts : List Token) (base : At BaseTree) → IsBase ts base → extra a form.Array + (base_height base.value + 2) ≤ left → Begun b a left start base no_notes ts
  base_begun _ _ (types.int s) le = int_begun b a left start s (omega (arith, le))
  base_begun _ _ (types.boolean s) le = boolean_begun b a left start s (omega (arith, le))
  base_begun _ _ (types.named x) le = name_begun b a left start x (omega (arith, le))

  array_begun : (before base_tokens : List Token) (notes : Notes) (base : At BaseTree) → IsNotes before notes → IsBase base_tokens base → extra a form.Array + (max (base_height base.value) notes.height + 2) ≤ left → Begun b a left start base notes (before ++ base_tokens)
  array_begun _ base_tokens _ base no_item p le o us = base_begun base_tokens base p (omega (arith, le)) o us
  array_begun _ base_tokens _ base (one_more {before} {tokens} {items = notes} {item = n} d i) p le o us =
      ap (run (creation b a left start)) (append_assoc (before ++ tokens) base_tokens (sign OPEN_BRACKET o ∷ us)) ∙ noted_begun before tokens base_tokens notes n base d i p (omega (arith, le)) o us

new_reads : (b : Below) (a : Aim) (left : ℕ) (start : Span) (f : Found) (ts us : List Token) → extra a form.Statement + 2 ≤ left → run (creation b a left start) ts ≡ Ok (f, us) → run (first_part b a left) (sign NEW start ∷ ts) ≡ Ok (f, us)
unfolding run first_part
new_reads b a left start f ts us le h = rw (le-leb (extra a form.Statement + 2) left le, h) refl

-- ---- what is in the grammar is read

-- the primary f, and one more turn that makes h of it
grown : (a : Aim) (left : ℕ) (f h : Found) (ts later us : List Token) → Complete Primary ts f → f.height < left → Free OPEN_PAREN (later ++ us) → (makes_array f.form ≡ true → Free OPEN_BRACKET (later ++ us)) → 0 < length later → run (further (below left) a left f) (later ++ us) ≡ Ok (On h, us)
    → run (primary a left) ((ts ++ later) ++ us) ≡ run (loop (further (below left) a left) h) us
grown a left f h ts later us c lt o k pos t = rw append_assoc
    (c a left (later ++ us) (omega (arith, lt, extra_at_most a f.form)) o k ∙ loop_on (further (below left) a left) f h (later ++ us) us t (omega (arith, pos, length-append later us)))

called_at : (x : Ident) (a : Aim) (left : ℕ) (r : Args) (ts us : List Token) → CompleteArgs ts r → max 1 r.height + 1 + extra a form.Statement ≤ left → run (first_part (below left) a left) (name_token x ∷ (ts ++ us)) ≡ Ok (called x r, us)
called_at x a left r ts us c le =
    let d = c left (extra a form.Statement) us (extra_at_most a form.Statement) (omega (arith, le)) in
    subst (λ y. run (first_part (below left) a left) (name_token x ∷ (y ++ us)) ≡ Ok (called x r, us)) (sym d.2) (call_reads (below left) a left x d.0 (d.1 ++ us) us r (omega (arith, le)) (omega (arith, le)) d.3)

object_at : (start : Span) (x : Ident) (a : Aim) (left : ℕ) (r : Args) (ts us : List Token) → CompleteArgs ts r → max 1 r.height + 1 + extra a form.Statement ≤ left → run (first_part (below left) a left) (sign NEW start ∷ name_token x ∷ (ts ++ us)) ≡ Ok (created start x r, us)
object_at start x a left r ts us c le =
    let d = c left (extra a form.Statement) us (extra_at_most a form.Statement) (omega (arith, le)) in
    subst (λ y. run (first_part (below left) a left) (sign NEW start ∷ name_token x ∷ (y ++ us)) ≡ Ok (created start x r, us)) (sym d.2) (object_reads (below left) a left start x d.0 (d.1 ++ us) us r (omega (arith, le)) d.3)

called_turn : (dot : Span) (x : Ident) (a : Aim) (left : ℕ) (f : Found) (r : Args) (ts us : List Token) → CompleteArgs ts r → max f.height (max 1 r.height) + 1 + extra a form.Statement ≤ left
    → run (further (below left) a left f) (sign DOT dot ∷ name_token x ∷ (ts ++ us)) ≡ Ok (On (called_on f x r), us)
called_turn dot x a left f r ts us c le =
    let d = c left (extra a form.Statement) us (extra_at_most a form.Statement) (omega (arith, le)) in
    subst (λ y. run (further (below left) a left f) (sign DOT dot ∷ name_token x ∷ (y ++ us)) ≡ Ok (On (called_on f x r), us)) (sym d.2) (call_turn (below left) a left f dot x d.0 (d.1 ++ us) us r (omega (arith, le)) (omega (arith, le)) d.3)

element_turn : (o c : Span) (a : Aim) (left : ℕ) (f h : Found) (ts us : List Token) → CompleteExpr ts h → 0 < h.height → makes_array f.form ≡ false → max f.height h.height + 1 + extra a form.Variable ≤ left
    → run (further (below left) a left f) (sign OPEN_BRACKET o ∷ ((ts ++ sign CLOSE_BRACKET c ∷ []) ++ us)) ≡ Ok (On (element f h c), us)
element_turn o c a left f h ts us x pos n le = rw append_assoc
    (index_turn (below left) a left f h o c (ts ++ sign CLOSE_BRACKET c ∷ us) us n (omega (arith, le)) (inner_reads ts h x left (extra a form.Variable) (sign CLOSE_BRACKET c ∷ us) (extra_at_most a form.Variable) pos (omega (arith, le)) (after_close_bracket c us)))

paren_at : (o c : Span) (a : Aim) (left : ℕ) (f : Found) (ts us : List Token) → CompleteExpr ts f → 0 < f.height → f.height + 1 + extra a form.Value ≤ left → run (first_part (below left) a left) (sign OPEN_PAREN o ∷ ((ts ++ sign CLOSE_PAREN c ∷ []) ++ us)) ≡ Ok (within o c f, us)
paren_at o c a left f ts us x pos le = rw append_assoc
    (paren_reads (below left) a left o c (ts ++ sign CLOSE_PAREN c ∷ us) us f (omega (arith, le, pos)) (inner_reads ts f x left (extra a form.Value) (sign CLOSE_PAREN c ∷ us) (extra_at_most a form.Value) pos (omega (arith, le)) (after_close_paren c us)))

length_at : (start o c : Span) (a : Aim) (left : ℕ) (before base_tokens ts later us : List Token) (notes : Notes) (base : At BaseTree) (h : Found) (found : At ℕ) → IsNotes before notes → IsBase base_tokens base → CompleteExpr ts h → 0 < h.height
    → ((us : List Token) → Starts (ts ++ us)) → IsMorePairs c later found → max (1 + max (base_height base.value) notes.height) h.height + 1 + extra a form.Array ≤ left → Free OPEN_BRACKET us
    → run (first_part (below left) a left) (sign NEW start ∷ ((before ++ (base_tokens ++ sign OPEN_BRACKET o ∷ (ts ++ sign CLOSE_BRACKET c ∷ later))) ++ us)) ≡ Ok (new_array start (created_type base notes found) h found.span, us)
length_at start o c a left before base_tokens ts later us notes base h found n p x pos st q le free =
    let all = array_begun (below left) a left start before base_tokens notes base n p (omega (arith, le)) in
    let s = st (sign CLOSE_BRACKET c ∷ (later ++ us)) in
    let shape : (before ++ (base_tokens ++ sign OPEN_BRACKET o ∷ (ts ++ sign CLOSE_BRACKET c ∷ later))) ++ us ≡ (before ++ base_tokens) ++ (sign OPEN_BRACKET o ∷ (ts ++ (sign CLOSE_BRACKET c ∷ (later ++ us)))) =
    append_assoc before (base_tokens ++ sign OPEN_BRACKET o ∷ (ts ++ sign CLOSE_BRACKET c ∷ later)) us
    ∙ ap (λ y. before ++ y) (append_assoc base_tokens (sign OPEN_BRACKET o ∷ (ts ++ sign CLOSE_BRACKET c ∷ later)) us)
    ∙ ap (λ y. before ++ (base_tokens ++ (sign OPEN_BRACKET o ∷ y))) (append_assoc ts (sign CLOSE_BRACKET c ∷ later) us)
    ∙ sym (append_assoc before base_tokens (sign OPEN_BRACKET o ∷ (ts ++ (sign CLOSE_BRACKET c ∷ (later ++ us))))) in
    rw shape (new_reads (below left) a left start _ _ us (omega (arith, le, extra_less a)) (all o (ts ++ (sign CLOSE_BRACKET c ∷ (later ++ us)))
    ∙ length_rest (below left) a start base notes h c (ts ++ (sign CLOSE_BRACKET c ∷ (later ++ us))) (later ++ us) us found s.bracket
    (inner_reads ts h x left (extra a form.Array) (sign CLOSE_BRACKET c ∷ (later ++ us)) (extra_at_most a form.Array) pos (omega (arith, le)) (after_close_bracket c (later ++ us)))
    (all_pairs c later found q us free)))

items_at : (start o : Span) (a : Aim) (left : ℕ) (before base_tokens ts later us : List Token) (notes : Notes) (base : At BaseTree) (s : FoundItems) (found : At ℕ) → IsNotes before notes → IsBase base_tokens base → IsPairs ts found → CompleteItems later s
    → max (1 + max (base_height base.value) notes.height) s.height + 1 + extra a form.Array ≤ left
    → run (first_part (below left) a left) (sign NEW start ∷ ((before ++ (base_tokens ++ (ts ++ sign OPEN_BRACE o ∷ later))) ++ us)) ≡ Ok (new_items start (created_type base notes found) s, us)
items_at start o a left before base_tokens ts later us notes base s found n p q x le =
    let all = array_begun (below left) a left start before base_tokens notes base n p (omega (arith, le)) in
    let shape : (before ++ (base_tokens ++ (ts ++ sign OPEN_BRACE o ∷ later))) ++ us ≡ (before ++ base_tokens) ++ (ts ++ (sign OPEN_BRACE o ∷ (later ++ us))) =
    append_assoc before (base_tokens ++ (ts ++ sign OPEN_BRACE o ∷ later)) us
    ∙ ap (λ y. before ++ y) (append_assoc base_tokens (ts ++ sign OPEN_BRACE o ∷ later) us)
    ∙ ap (λ y. before ++ (base_tokens ++ y)) (append_assoc ts (sign OPEN_BRACE o ∷ later) us)
    ∙ sym (append_assoc before base_tokens (ts ++ (sign OPEN_BRACE o ∷ (later ++ us)))) in
    rw shape (new_reads (below left) a left start _ _ us (omega (arith, le, extra_less a))
    (pairs_read (λ w. run (creation (below left) a left start) ((before ++ base_tokens) ++ w)) (entries_behind (below left) a start base notes) (λ l r w. all l (sign CLOSE_BRACKET r ∷ w) ∙ pair_rest (below left) a start base notes r w) ts found q (sign OPEN_BRACE o ∷ (later ++ us))
    ∙ ap (entries_behind (below left) a start base notes) (pairs_done found (sign OPEN_BRACE o ∷ (later ++ us)) refl)
    ∙ entries_read (below left) a start base notes found s o (later ++ us) us
    (rw (inner_init_below left (left - (extra a form.Array + 1)) (extra a form.Array) (extra_at_most a form.Array) (omega (arith, le))) (x o (left - (extra a form.Array + 1)) us (omega (arith, le))))))

step_minus : (number : ℕ) (up : Bool) (s : Span) (us : List Token) → row step_signs number ≡ Some up → Free MINUS (sign number s ∷ us)
step_minus number up s us r = other_sign step_signs number MINUS up s us refl r

step_unary : (number : ℕ) (up : Bool) (s : Span) (us : List Token) → row step_signs number ≡ Some up → look (one_of unary_signs) (sign number s ∷ us) ≡ None
step_unary number up s us r = other_table step_signs unary_signs number up s us refl r

step_before_level : (number : ℕ) (up : Bool) (s : Span) (ts : List Token) (f : Found) → row step_signs number ≡ Some up → f.form ≡ form.Variable → 2 ≤ f.height → Complete Primary ts f → Complete (Level 0) (sign number s ∷ ts) (stepped_before up s f)
unfolding level_of
step_before_level number up s ts f r v two c = λ left us le a.
    step_reads (below left) left number up s (ts ++ us) us f (omega (arith, le, two)) r (step_minus number up s (ts ++ us) r) (step_unary number up s (ts ++ us) r) (lower_variable ts f v c left us (omega (arith, le)) a.primary)

step_after_level : (number : ℕ) (up : Bool) (s : Span) (ts : List Token) (f : Found) → row step_signs number ≡ Some up → f.form ≡ form.Variable → ((us : List Token) → StartsPrimary (ts ++ us)) → Complete Primary ts f → Complete (Level 0) (ts ++ sign number s ∷ []) (stepped_after up f s)
unfolding level_of
step_after_level number up s ts f r v st c = λ left us le a. let b = before_step number up s us r in rw append_assoc
    (unary_value (below left) left (ts ++ (sign number s ∷ us)) (sign number s ∷ us) f (stepped_after up f s) us (st (sign number s ∷ us))
    (c aim.Value left (sign number s ∷ us) (omega (arith, le)) b.paren (λ m. b.bracket) ∙ chain_end (below left) aim.Value left f (sign number s ∷ us) b.dot b.bracket)
    (step_behind_reads left f number up s us (omega (arith, le)) v r))

least_level : (m l : Span) → Complete (Level 0) (sign MINUS m ∷ least_token l ∷ []) (least_int m l)
unfolding level_of
least_level m l = λ left us le a. least_reads (below left) left m l us (omega (arith, le))

operators_level : (n number : ℕ) (o : BinaryOp) (s : Span) (ts us : List Token) (f h : Found) → row binary_signs number ≡ Some (n, o) → Complete (Level (suc n)) ts f → Complete (Level n) us h → Complete (Level (suc n)) (ts ++ sign number s ∷ us) (joined o f h)
operators_level n number o s ts us f h r c x = λ left vs le a. rw append_assoc
    (c left (sign number s ∷ (us ++ vs)) (omega (arith, le)) (before_operator number n o s (us ++ vs) r)
    ∙ loop_on (operand (below left) left n) f (joined o f h) (sign number s ∷ (us ++ vs)) vs
    (operand_turn (below left) left n number o s f h (us ++ vs) vs (omega (arith, le)) r (lower_level us h n x left vs (omega (arith, le)) a)) (omega (arith, length-append us vs)))

binary_whole : (ts : List Token) (f : Found) → Complete (Level 10) ts f → Complete Whole ts f
binary_whole ts f c = λ left us le a. whole_from (below left) left f f (ts ++ us) us us (whole_level ts f 10 c left us le a.level) (assign_none (below left) left f f.form us a.assign)

assign_whole : (number : ℕ) (o : Option Arith) (s : Span) (ts us : List Token) (f h : Found) → row assign_signs number ≡ Some o → f.form ≡ form.Variable → ((us : List Token) → StartsPrimary (ts ++ us)) → Complete Primary ts f → Complete Whole us h → Complete Whole (ts ++ sign number s ∷ us) (assigned o f h)
assign_whole number o s ts us f h r v st c x = λ left vs le a. rw append_assoc
    (whole_from (below left) left f (assigned o f h) (ts ++ (sign number s ∷ (us ++ vs))) (sign number s ∷ (us ++ vs)) vs
    (whole_level ts f 10 (every_level 10 ts f (primary_level ts f st c)) left (sign number s ∷ (us ++ vs)) (omega (arith, le)) (before_assign number o s (us ++ vs) r))
    (assign_reads (below left) left f h number o s (us ++ vs) vs v (omega (arith, le)) r (lower_reads us h x left vs (omega (arith, le)) a)))

from_first : (a : Aim) (left : ℕ) (f : Found) (ts us : List Token) → run (first_part (below left) a left) (ts ++ us) ≡ Ok (f, us) → run (primary a left) (ts ++ us) ≡ run (loop (further (below left) a left) f) us
from_first a left f ts us h = primary_from (below left) a left f (ts ++ us) us h

no_array : (f : Found) → makes_array f.form ≡ true → makes_array f.form ≡ false → ⊥
no_array f m n = cc

mutual
  pub complete : {kind : Kind} {ts : List Token} {f : Found} → IsExpr kind ts f → Complete kind ts f
  complete (g.number n s) = λ a left us le o k. from_first a left _ (number_token n s ∷ []) us (number_reads (below left) a left n s us (omega (arith, le)))
  complete (g.truth s) = λ a left us le o k. from_first a left _ (sign TRUE s ∷ []) us (truth_reads (below left) a left s us (omega (arith, le)))
  complete (g.falsity s) = λ a left us le o k. from_first a left _ (sign FALSE s ∷ []) us (falsity_reads (below left) a left s us (omega (arith, le)))
  complete (g.null s) = λ a left us le o k. from_first a left _ (sign NULL s ∷ []) us (null_reads (below left) a left s us (omega (arith, le)))
  complete (g.this s) = λ a left us le o k. from_first a left _ (sign THIS s ∷ []) us (this_reads (below left) a left s us (omega (arith, le)))
  complete (g.variable x) = λ a left us le o k. from_first a left _ (name_token x ∷ []) us (name_reads (below left) a left x us (omega (arith, le)) o)
  complete (g.call x {ts} {a = r} d) = λ a left us le o k. from_first a left _ (name_token x ∷ ts) us (called_at x a left r ts us (complete_args d) le)
  complete (g.paren l r {ts} {f} d) = λ a left us le o k. from_first a left _ (sign OPEN_PAREN l ∷ (ts ++ sign CLOSE_PAREN r ∷ [])) us (paren_at l r a left f ts us (complete d) (tall d) le)
  complete (g.new_object s x {ts} {a = r} d) = λ a left us le o k. from_first a left _ (sign NEW s ∷ name_token x ∷ ts) us (object_at s x a left r ts us (complete_args d) le)
  complete (g.array_of_length s l r {before} {base_tokens} {us = ts} {tokens = later} {notes} {base} {g = h} {brackets} n b d p) = λ a left us le o k.
      from_first a left _ (sign NEW s ∷ (before ++ (base_tokens ++ sign OPEN_BRACKET l ∷ (ts ++ sign CLOSE_BRACKET r ∷ later)))) us (length_at s l r a left before base_tokens ts later us notes base h brackets n b (complete d) (tall d) (starts d) p le (k refl))
  complete (g.array_of_items s o {before} {base_tokens} {tokens = ts} {us = later} {notes} {base} {brackets} {s = found} n b p d) = λ a left us le o' k.
      from_first a left _ (sign NEW s ∷ (before ++ (base_tokens ++ (ts ++ sign OPEN_BRACE o ∷ later)))) us (items_at s o a left before base_tokens ts later us notes base found brackets n b p (complete_items d) le)
  complete (g.select dot x {ts} {f} d) = λ a left us le o k. grown a left f (selected f x) ts (sign DOT dot ∷ name_token x ∷ []) us (complete d) (omega (arith, le)) refl (λ m. refl) (omega arith) (select_turn (below left) a left f dot x us (omega (arith, le)) o)
  complete (g.call_on dot x {ts} {us = later} {f} {a = r} d e) = λ a left us le o k. grown a left f (called_on f x r) ts (sign DOT dot ∷ name_token x ∷ later) us (complete d) (omega (arith, le)) refl (λ m. refl) (omega arith) (called_turn dot x a left f r later us (complete_args e) le)
  complete (g.index l r {ts} {us = later} {f} {g = h} d n x) = λ a left us le o k. grown a left f (element f h r) ts (sign OPEN_BRACKET l ∷ (later ++ sign CLOSE_BRACKET r ∷ [])) us (complete d) (omega (arith, le)) refl (λ m. absurd (no_array f m n)) (omega arith) (element_turn l r a left f h later us (complete x) (tall x) n le)
  complete (g.primary {ts} {f} d) = primary_level ts f (starts_primary d) (complete d)
  complete (g.least m l) = least_level m l
  complete (g.signed number o s {ts} {f} r d) = signed_level number o s ts f r (starts d) (tall d) (complete d)
  complete (g.step_before number up s {ts} {f} r d v) = step_before_level number up s ts f r v (variable_tall d v) (complete d)
  complete (g.step_after number up s {ts} {f} r d v) = step_after_level number up s ts f r v (starts_primary d) (complete d)
  complete (g.wider {level = n} {ts} {f} d) = wider_level n ts f (complete d)
  complete (g.operators n number o s {ts} {us} {f} {g = h} r d x) = operators_level n number o s ts us f h r (complete d) (complete x)
  complete (g.binary {ts} {f} d) = binary_whole ts f (complete d)
  complete (g.assign number o s {ts} {us} {f} {g = h} r d v x) = assign_whole number o s ts us f h r v (starts_primary d) (complete d) (complete x)

  pub complete_exprs : {ts : List Token} {s : Several} → IsExprs ts s → CompleteExprs ts s
  complete_exprs (g.one {ts} {f} d) = λ left us le a. bind_reads (expr left) (λ h. loop (more_exprs (expr left)) (with_expr no_exprs h)) (ts ++ us) us f (complete d left us (omega (arith, le)) a)
  complete_exprs (g.and c {ts} {us} {s} {f} d x) = λ left vs le a. rw append_assoc
      (complete_exprs d left (sign COMMA c ∷ (us ++ vs)) (omega (arith, le)) (after_comma c (us ++ vs))
      ∙ loop_on (more_exprs (expr left)) s (with_expr s f) (sign COMMA c ∷ (us ++ vs)) vs (more_body (expr left) s f c (us ++ vs) vs (complete x left vs (omega (arith, le)) a)) (omega (arith, length-append us vs)))

  pub complete_args : {ts : List Token} {r : Args} → IsArgs ts r → CompleteArgs ts r
  complete_args (g.no_args l r) = λ left n us one le. (l, sign CLOSE_PAREN r ∷ [], refl, no_args_read (inner (below left) n) r us)
  complete_args (g.some_args l r {ts} {s} d) = λ left n us one le. (
    l,
    ts ++ sign CLOSE_PAREN r ∷ [],
    refl,
    rw append_assoc (rw (inner_below left (left - (n + 1)) n one (omega (arith, le)))
        (let st = starts_exprs d (sign CLOSE_PAREN r ∷ us) in args_read (expr (left - (n + 1))) s r (ts ++ sign CLOSE_PAREN r ∷ us) us st.paren
        (complete_exprs d (left - (n + 1)) (sign CLOSE_PAREN r ∷ us) (omega (arith, le)) (after_close_paren r us)
        ∙ loop_done (more_exprs (expr (left - (n + 1)))) s s (sign CLOSE_PAREN r ∷ us) (sign CLOSE_PAREN r ∷ us) (last_body (expr (left - (n + 1))) s (sign CLOSE_PAREN r ∷ us) refl)))),
  )

  pub complete_init : {ts : List Token} {i : FoundInit} → IsInit ts i → CompleteInit ts i
  complete_init (g.value {ts} {f} d) = λ left us le a. let st = starts d us in value_init_reads (below left) left f (ts ++ us) us st.items (lower_reads ts f (complete d) left us (omega (arith, le)) a)
  complete_init (g.entries o {ts} {s} d) = λ left us le a. items_init_reads (below left) left s o (ts ++ us) us (omega (arith, le)) (rw (init_below left (left - 1) (omega (arith, le))) (complete_items d o (left - 1) us (omega (arith, le))))

  pub complete_inits : {ts : List Token} {s : FoundItems} → IsInits ts s → CompleteInits ts s
  complete_inits (g.first {ts} {i} d) = λ o left us le a. bind_reads (init left) (λ j. loop (more_inits (init left)) (with_init (no_inits o) j)) (ts ++ us) us i (complete_init d left us (omega (arith, le)) a)
  complete_inits (g.later c {ts} {us} {s} {i} d x) = λ o left vs le a. rw append_assoc
      (complete_inits d o left (sign COMMA c ∷ (us ++ vs)) (omega (arith, le)) (after_comma c (us ++ vs))
      ∙ loop_on (more_inits (init left)) s (with_init s i) (sign COMMA c ∷ (us ++ vs)) vs (init_body (init left) s i c (us ++ vs) vs (init_starts x vs) (complete_init x left vs (omega (arith, le)) a)) (omega (arith, length-append us vs)))

  pub complete_items : {ts : List Token} {s : FoundItems} → IsItems ts s → CompleteItems ts s
  complete_items (g.no_items r) = λ o left us le. no_items_read (init left) o r us
  complete_items (g.some_items r {ts} {s} d) = λ o left us le. rw append_assoc (items_read (init left) o (ts ++ sign CLOSE_BRACE r ∷ us) us (closed_by s r) (inits_start d (sign CLOSE_BRACE r ∷ us))
      (complete_inits d o left (sign CLOSE_BRACE r ∷ us) le (after_close_brace r us) ∙ loop_done (more_inits (init left)) s (closed_by s r) (sign CLOSE_BRACE r ∷ us) us (close_body (init left) s r us)))
  complete_items (g.with_comma c r {ts} {s} d) = λ o left us le. rw append_assoc (items_read (init left) o (ts ++ sign COMMA c ∷ sign CLOSE_BRACE r ∷ us) us (closed_by s r) (inits_start d (sign COMMA c ∷ sign CLOSE_BRACE r ∷ us))
      (complete_inits d o left (sign COMMA c ∷ sign CLOSE_BRACE r ∷ us) le (after_comma c (sign CLOSE_BRACE r ∷ us)) ∙ loop_done (more_inits (init left)) s (closed_by s r) (sign COMMA c ∷ sign CLOSE_BRACE r ∷ us) us (comma_body (init left) s c r us)))
