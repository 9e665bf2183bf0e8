-- Annotations stand where their tokens are, with their names and arguments in them.
use Rattle.std.proofs.Common.{◌≤◌, ◌<◌, ℕ, List, [], ◌∷◌, map, refl, arith}
use Rattle.ix_text.specs.declared.span.Span.{Span}
use Rattle.ix_lexer.specs.declared.token.Token.{Token}
use Rattle.ix_lexer.specs.declared.fixed.TheConstants.{CLOSE_BRACE, CLOSE_PAREN}
use Rattle.ix_lexer.specs.Spans.{InOrder}
use Rattle.ix_tree.specs.declared.annot.Annot.{Annot}
use Rattle.ix_tree.specs.declared.annot.AnnotArg.{AnnotArg}
use Rattle.ix_tree.specs.declared.annot.AnnotValue.{AnnotValue}
use Rattle.ix_tree.specs.declared.annot.Ident.{Ident}
use Rattle.ix_tree.specs.Placed.{LaidOut, name_piece, arg_piece, annot_piece}
use Rattle.ix_tree.proofs.Layouts.{Lies, Laid, laid_more, laid_first, laid_one, laid_node, laid_name}
use Rattle.ix_grammar.specs.declared.found.At.{At}
use Rattle.ix_grammar.specs.declared.found.Notes.{Notes}
use Rattle.ix_grammar.specs.Nodes.{across}
use Rattle.ix_grammar.specs.Patterns.{sign}
use Rattle.ix_grammar.specs.Lists.{alone, joined}
use Rattle.ix_grammar.specs.AnnotGrammar as grammar
use Rattle.ix_grammar.specs.AnnotGrammar.{IsValue, IsNamed, IsAnnot, IsNotes, annot_to, plain_arg, no_notes, with_note}
use Rattle.ix_lexer.proofs.SplitInOrder.{order_both}
use Rattle.ix_grammar_rules.proofs.ListsLaid.{repeated_laid, separated_laid}

value_lies : (lo hi : ℕ) (ts : List Token) (v : At AnnotValue) → IsValue ts v → InOrder lo hi ts → Lies lo hi v.span
value_lies lo hi _ _ (grammar.number found) o = o
value_lies lo hi _ _ (grammar.minus_number minus found) (a, b, (c, d, e)) = (a, omega (arith, b, c, d), e)
value_lies lo hi _ _ (grammar.least minus span) (a, b, (c, d, e)) = (a, omega (arith, b, c, d), e)
value_lies lo hi _ _ (grammar.one_text found) o = o
value_lies lo hi _ _ (grammar.truth span) o = o
value_lies lo hi _ _ (grammar.falsity span) o = o
value_lies lo hi _ _ (grammar.no_texts left right) (a, b, (c, d, e)) = (a, omega (arith, b, c, d), e)
value_lies lo hi _ _ (grammar.texts left right {tokens} d) (a, b, o) =
    let (mid, k, l, p, q) = order_both left.to hi tokens (sign CLOSE_BRACE right ∷ []) o in (a, omega (arith, b, k, q.0, q.1), q.2)

plain_laid : (start lo hi : ℕ) (ts : List Token) (v : At AnnotValue) → IsValue ts v → InOrder lo hi ts → LaidOut start lo hi (arg_piece (plain_arg v))
plain_laid start lo hi ts v d o = let l = value_lies lo hi ts v d o in laid_node start lo hi v.span [] l (omega (arith, l.1))

named_laid : (start lo hi : ℕ) (ts : List Token) (x : AnnotArg) → IsNamed ts x → InOrder lo hi ts → LaidOut start lo hi (arg_piece x)
named_laid start lo hi _ _ (grammar.named name assign {tokens} {found} d) (a, b, (c, e, o)) =
    let l = value_lies assign.to hi tokens found d o in
    let span = across name.span found.span in
    laid_node start lo hi span (name_piece name ∷ []) (a, omega (arith, b, c, e, l.0, l.1), l.2)
    (laid_one span.from span.from span.to (name_piece name) (laid_name span.from span.from span.to name (omega arith, b, omega (arith, c, e, l.0, l.1))))

-- an annotation, whose name stands before its arguments
noted : (start lo hi next : ℕ) (at : Span) (name : Ident) (args : List AnnotArg) (last : Span) → lo ≤ at.from → at.from < at.to → at.to ≤ name.span.from → name.span.from < name.span.to → name.span.to ≤ next → last.to ≤ hi
    → Laid at.from next last.to (map arg_piece args) → next ≤ last.to → LaidOut start lo hi (annot_piece (annot_to at name args last))
noted start lo hi next at name args last a b c d e f args_laid g =
    laid_node start lo hi (across at last) (name_piece name ∷ map arg_piece args) (a, omega (arith, b, c, d, e, g), f)
    (laid_first at.from at.from name.span.to next last.to (name_piece name) (map arg_piece args) (laid_name at.from at.from name.span.to name (omega (arith, b, c), d, omega arith)) args_laid e)

pub annot_laid : (start lo hi : ℕ) (ts : List Token) (annot : Annot) → IsAnnot ts annot → InOrder lo hi ts → LaidOut start lo hi (annot_piece annot)
annot_laid start lo hi _ _ (grammar.bare at name) (a, b, (c, d, e)) = noted start lo hi name.span.to at name [] name.span a b c d (omega arith) e (omega arith) (omega arith)
annot_laid start lo hi _ _ (grammar.no_args at name left right) (a, b, (c, d, (e, f, (g, h, i)))) =
    noted start lo hi right.to at name [] right a b c d (omega (arith, e, f, g, h)) i (omega arith) (omega arith)
annot_laid start lo hi _ _ (grammar.plain at name left right {tokens} {found} d) (a, b, (c, e, (f, g, o))) =
    let (mid, k, l, p, q) = order_both left.to hi tokens (sign CLOSE_PAREN right ∷ []) o in
    noted start lo hi left.to at name (plain_arg found ∷ []) right a b c e (omega (arith, f, g)) q.2
    (laid_one at.from left.to right.to (arg_piece (plain_arg found)) (laid_more at.from left.to mid at.from left.to right.to (arg_piece (plain_arg found)) (omega arith) (omega arith) (omega (arith, q.0, q.1)) (plain_laid at.from left.to mid tokens found d p)))
    (omega (arith, k, q.0, q.1))
annot_laid start lo hi _ _ (grammar.with_names at name left right {tokens} {args} d) (a, b, (c, e, (f, g, o))) =
    let (mid, k, l, p, q) = order_both left.to hi tokens (sign CLOSE_PAREN right ∷ []) o in
    let inner = separated_laid IsNamed (λ x. x) arg_piece named_laid (λ xs. xs) joined (λ xs x. refl) alone (λ x. refl) at.from left.to mid tokens args d p in
    noted start lo hi left.to at name args right a b c e (omega (arith, f, g)) q.2 (laid_more at.from left.to mid at.from left.to right.to _ (omega arith) (omega arith) (omega (arith, q.0, q.1)) inner)
    (omega (arith, k, q.0, q.1))

pub notes_laid : (start lo hi : ℕ) (ts : List Token) (notes : Notes) → IsNotes ts notes → InOrder lo hi ts → Laid start lo hi (map annot_piece notes.annots)
notes_laid start lo hi ts notes d o = repeated_laid IsAnnot (λ x. x) annot_piece annot_laid (λ n. n.annots) with_note (λ n x. refl) no_notes refl start lo hi ts notes d o
