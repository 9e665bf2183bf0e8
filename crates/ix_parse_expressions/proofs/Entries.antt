-- The entries of an array as the code reads them, in one loop: behind the brace, and behind each comma, stands an entry or the closing brace.
use Rattle.std.proofs.Common.{◌≡◌, ◌<◌, ◌≤◌, true, List, [], ◌∷◌, length, length-append, Option, Some, None, Ok, Err, refl, sym, ap, ◌∙◌, arith}
use Rattle.ix_text.specs.declared.span.Span.{Span}
use Rattle.ix_lexer.specs.declared.fixed.TheConstants.{COMMA, CLOSE_BRACE}
use Rattle.ix_lexer.specs.declared.token.Token.{Token}
use Rattle.ix_grammar.specs.declared.found.FoundInit.{FoundInit}
use Rattle.ix_grammar.specs.declared.found.FoundItems.{FoundItems}
use Rattle.ix_grammar.specs.ExprNodes.{no_inits, with_init, closed_by}
use Rattle.ix_grammar.specs.Patterns.{a_sign}
use Rattle.ix_grammar_rules.specs.ExprRules.{items, more_inits}
use Rattle.ix_grammar_rules.specs.Rule.{Rule, Outcome, pure, take, bind, loop, look, rest, run}
use Rattle.ix_grammar_rules.proofs.Runs.{front, loop_on, loop_done, loop_stops}

-- behind the brace or a comma
abbrev pub inside : Rule FoundInit → FoundItems → Rule FoundItems
inside init s = take (a_sign CLOSE_BRACE) true (λ right. pure (closed_by s right)) (bind init (λ i. loop (more_inits init) (with_init s i)))

pub first_entry : (init : Rule FoundInit) (left : Span) (none : FoundItems) (tokens : List Token) → none ≡ no_inits left → run (items init left) tokens ≡ run (inside init none) tokens
unfolding run items
first_entry init left none tokens made = rw made refl

pub an_entry : (init : Rule FoundInit) (s more : FoundItems) (i : FoundInit) (tokens later : List Token) → None ≡ look (a_sign CLOSE_BRACE) tokens
    → run init tokens ≡ Ok (i, later) → more ≡ with_init s i → run (inside init s) tokens ≡ run (loop (more_inits init) more) later
unfolding run
an_entry init s more i tokens later none read made = rw (sym none, read, made) refl

one_less : (tokens : List Token) (comma : Span) → look (a_sign COMMA) tokens ≡ Some comma → length (rest tokens) < length tokens
one_less [] comma is = absurd (cc)
one_less (token ∷ tokens) comma is = omega arith

no_longer : (rule : Rule FoundInit) (tokens later : List Token) (i : FoundInit) → run rule tokens ≡ Ok (i, later) → length later ≤ length tokens
no_longer rule tokens later i read =
    let f = front rule tokens later i read in
    omega (arith, ap length f.1, length-append f.0 later)

entry_behind : (init : Rule FoundInit) (s : FoundItems) (tokens : List Token) (comma : Span) → look (a_sign COMMA) tokens ≡ Some comma → look (a_sign CLOSE_BRACE) (rest tokens) ≡ None
    → (o : Outcome FoundInit) → run init (rest tokens) ≡ o → run (loop (more_inits init) s) tokens ≡ run (inside init s) (rest tokens)
unfolding run more_inits
entry_behind init s tokens comma is none (Err w) read = loop_stops (more_inits init) s tokens w.1 w.0 (rw (is, none, read) refl) ∙ sym (rw (none, read) refl)
entry_behind init s tokens comma is none (Ok p) read =
    loop_on (more_inits init) s (with_init s p.0) tokens p.1 (rw (is, none, read) refl) (omega (arith, one_less tokens comma is, no_longer init (rest tokens) p.1 p.0 read)) ∙ sym (rw (none, read) refl)

brace_or_entry : (init : Rule FoundInit) (s : FoundItems) (tokens : List Token) (comma : Span) → look (a_sign COMMA) tokens ≡ Some comma
    → (o : Option Span) → look (a_sign CLOSE_BRACE) (rest tokens) ≡ o → run (loop (more_inits init) s) tokens ≡ run (inside init s) (rest tokens)
unfolding run more_inits
brace_or_entry init s tokens comma is (Some right) brace = loop_done (more_inits init) s (closed_by s right) tokens (rest (rest tokens)) (rw (is, brace) refl) ∙ sym (rw brace refl)
brace_or_entry init s tokens comma is None none = entry_behind init s tokens comma is none (run init (rest tokens)) refl

-- A comma goes on to the next entry or to the closing brace.
pub behind_comma : (init : Rule FoundInit) (s : FoundItems) (tokens later : List Token) (comma : Span) → Some comma ≡ look (a_sign COMMA) tokens → later ≡ rest tokens
    → run (loop (more_inits init) s) tokens ≡ run (inside init s) later
behind_comma init s tokens later comma is goes = brace_or_entry init s tokens comma (sym is) (look (a_sign CLOSE_BRACE) (rest tokens)) refl ∙ ap (run (inside init s)) (sym goes)
