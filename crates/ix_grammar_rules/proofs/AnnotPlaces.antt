-- Where the parts of annotations stand.
use Rattle.std.proofs.Common.{◌≤◌, ◌<◌, ℕ, suc, List, [], ◌∷◌, ◌++◌, length, refl, arith, length-append}
use Rattle.ix_lexer.specs.declared.token.Token.{Token}
use Rattle.ix_lexer.specs.declared.fixed.TheConstants.{COMMA, CLOSE_BRACE, CLOSE_PAREN}
use Rattle.ix_lexer.specs.Spans.{InOrder}
use Rattle.ix_tree.specs.declared.annot.Annot.{Annot}
use Rattle.ix_tree.specs.declared.annot.AnnotArg.{AnnotArg}
use Rattle.ix_tree.specs.declared.annot.AnnotValue.{AnnotValue}
use Rattle.ix_tree.specs.Parts.{listed, each, value_parts, arg_parts, annot_parts, in_type}
use Rattle.ix_grammar.specs.declared.found.At.{At}
use Rattle.ix_grammar.specs.declared.found.Notes.{Notes}
use Rattle.ix_grammar.specs.Patterns.{sign}
use Rattle.ix_grammar.specs.Lists.{IsSeparated, first_item, next_item, alone, joined}
use Rattle.ix_grammar.specs.AnnotGrammar as grammar
use Rattle.ix_grammar.specs.AnnotGrammar.{IsText, IsValue, IsNamed, IsAnnot, IsNotes, annot_to, plain_arg, no_notes, with_note}
use Rattle.ix_lexer.proofs.SplitInOrder.{order_within, order_both}
use Rattle.ix_tree.proofs.PartPlaces.{stand_two, stand_alone, stand_no_entries, Stand, stand_more, stand_none, stand_entries, stand_in_type}
use Rattle.ix_grammar_rules.proofs.ListPlaces.{repeated_stand, separated_stand}
use Rattle.ix_tree.proofs.Layouts.{Lies}

-- There are at least as many tokens as strings.
text_tokens : (ts : List Token) (x : List ℕ) → IsText ts x → 1 ≤ length ts
text_tokens _ _ (grammar.text found) = omega arith

few_texts : (ts : List Token) (texts : List (List ℕ)) → IsSeparated IsText alone joined ts texts → length texts ≤ length ts
few_texts _ _ (first_item {tokens} {item} d) = text_tokens tokens item d
few_texts _ _ (next_item {before} {tokens} {items} {item} comma d i) =
    omega (arith, few_texts before items d, length-append before (sign COMMA comma ∷ tokens), length-append items (item ∷ []))

value_stands : (lo hi : ℕ) (ts : List Token) (v : At AnnotValue) → IsValue ts v → Stand lo hi (length ts) (value_parts v.value)
value_stands lo hi _ _ (grammar.number found) = stand_none lo hi 1
value_stands lo hi _ _ (grammar.minus_number minus found) = stand_none lo hi 2
value_stands lo hi _ _ (grammar.least minus span) = stand_none lo hi 2
value_stands lo hi _ _ (grammar.one_text found) = stand_entries lo hi 1 1 [] (omega arith) (stand_none lo hi 1)
value_stands lo hi _ _ (grammar.truth span) = stand_none lo hi 1
value_stands lo hi _ _ (grammar.falsity span) = stand_none lo hi 1
value_stands lo hi _ _ (grammar.no_texts left right) = stand_entries lo hi 2 0 [] (omega arith) (stand_none lo hi 2)
value_stands lo hi _ _ (grammar.texts left right {tokens} {found} d) =
    let n = suc (length (tokens ++ sign CLOSE_BRACE right ∷ [])) in
    stand_entries lo hi n (length found) [] (omega (arith, few_texts tokens found d, length-append tokens (sign CLOSE_BRACE right ∷ []))) (stand_none lo hi n)

value_tokens : (ts : List Token) (v : At AnnotValue) → IsValue ts v → 1 ≤ length ts
value_tokens _ _ (grammar.number found) = omega arith
value_tokens _ _ (grammar.minus_number minus found) = omega arith
value_tokens _ _ (grammar.least minus span) = omega arith
value_tokens _ _ (grammar.one_text found) = omega arith
value_tokens _ _ (grammar.truth span) = omega arith
value_tokens _ _ (grammar.falsity span) = omega arith
value_tokens _ _ (grammar.no_texts left right) = omega arith
value_tokens _ _ (grammar.texts left right d) = omega arith

named_stands : (lo hi : ℕ) (ts : List Token) (x : AnnotArg) → IsNamed ts x → InOrder lo hi ts → (1 ≤ length ts) × Stand lo hi (length ts) (arg_parts x)
named_stands lo hi _ _ (grammar.named name assign {tokens} {found} d) (a, b, (c, e, o)) =
    let end = order_within assign.to hi tokens o in (
      omega arith,
      stand_two lo name.span.to assign.to hi 0 (length tokens) (suc (suc (length tokens))) (in_type name ∷ []) (value_parts found.value)
          (stand_in_type lo name.span.to 0 name (a, b, omega arith)) (value_stands assign.to hi tokens found d)
          (omega (arith, a, b)) (omega (arith, c, e)) end (omega arith),
    )

-- an annotation, whose name stands before its arguments
named_before : (lo next hi n k : ℕ) (annot : Annot) → lo ≤ annot.name.span.from → annot.name.span.from < annot.name.span.to → annot.name.span.to ≤ next → next ≤ hi → n ≤ k
    → Stand next hi n (listed (each arg_parts annot.args)) → Stand lo hi k (annot_parts annot)
named_before lo next hi n k annot a b c d le s = stand_two lo annot.name.span.to next hi 0 n k (in_type annot.name ∷ []) (listed (each arg_parts annot.args))
    (stand_in_type lo annot.name.span.to 0 annot.name (a, b, omega arith)) s (omega (arith, a, b)) c d (omega (arith, le))

pub annot_stands : (lo hi : ℕ) (ts : List Token) (annot : Annot) → IsAnnot ts annot → InOrder lo hi ts → Lies lo hi annot.span × Stand lo hi (length ts) (annot_parts annot)
annot_stands lo hi _ _ (grammar.bare at name) (a, b, (c, d, e)) =
    ((a, omega (arith, b, c, d), e), named_before lo hi hi 0 2 (annot_to at name [] name.span) (omega (arith, a, b, c)) d e (omega arith) (omega arith) (stand_no_entries arg_parts hi hi 0))
annot_stands lo hi _ _ (grammar.no_args at name left right) (a, b, (c, d, (e, f, (g, h, i)))) =
    ((a, omega (arith, b, c, d, e, f, g, h), i), named_before lo hi hi 0 4 (annot_to at name [] right) (omega (arith, a, b, c)) d (omega (arith, e, f, g, h, i)) (omega arith) (omega arith) (stand_no_entries arg_parts hi hi 0))
annot_stands lo hi _ _ (grammar.plain at name left right {tokens} {found} d) (a, b, (c, e, (f, g, o))) =
    let (mid, k, l, p, q) = order_both left.to hi tokens (sign CLOSE_PAREN right ∷ []) o in
    let n = suc (suc (suc (length (tokens ++ sign CLOSE_PAREN right ∷ [])))) in (
      (a, omega (arith, b, c, e, f, g, k, q.0, q.1), q.2),
      named_before lo left.to hi (length tokens) n (annot_to at name (plain_arg found ∷ []) right) (omega (arith, a, b, c)) e (omega (arith, f, g)) (order_within left.to hi (tokens ++ sign CLOSE_PAREN right ∷ []) o) (omega (arith, length-append tokens (sign CLOSE_PAREN right ∷ [])))
          (stand_alone arg_parts left.to hi (length tokens) (plain_arg found) (value_stands left.to hi tokens found d) (value_tokens tokens found d)),
    )
annot_stands lo hi _ _ (grammar.with_names at name left right {tokens} {args} d) (a, b, (c, e, (f, g, o))) =
    let (mid, k, l, p, q) = order_both left.to hi tokens (sign CLOSE_PAREN right ∷ []) o in
    let n = suc (suc (suc (length (tokens ++ sign CLOSE_PAREN right ∷ [])))) in (
      (a, omega (arith, b, c, e, f, g, k, q.0, q.1), q.2),
      named_before lo left.to hi (length tokens) n (annot_to at name args right) (omega (arith, a, b, c)) e (omega (arith, f, g)) (order_within left.to hi (tokens ++ sign CLOSE_PAREN right ∷ []) o) (omega (arith, length-append tokens (sign CLOSE_PAREN right ∷ [])))
          (stand_more left.to mid (length tokens) left.to hi (length tokens) (listed (each arg_parts args)) (omega arith) l (omega arith)
          (separated_stand IsNamed arg_parts named_stands (λ xs. xs) joined (λ xs x. refl) alone (λ x. refl) left.to mid tokens args d p)),
    )

pub annot_tokens : (ts : List Token) (annot : Annot) → IsAnnot ts annot → 1 ≤ length ts
annot_tokens _ _ (grammar.bare at name) = omega arith
annot_tokens _ _ (grammar.no_args at name left right) = omega arith
annot_tokens _ _ (grammar.plain at name left right d) = omega arith
annot_tokens _ _ (grammar.with_names at name left right d) = omega arith

one_note : (lo hi : ℕ) (ts : List Token) (annot : Annot) → IsAnnot ts annot → InOrder lo hi ts → (1 ≤ length ts) × Stand lo hi (length ts) (annot_parts annot)
one_note lo hi ts annot d o = (annot_tokens ts annot d, (annot_stands lo hi ts annot d o).1)

pub notes_stand : (lo hi : ℕ) (ts : List Token) (notes : Notes) → IsNotes ts notes → InOrder lo hi ts → Stand lo hi (length ts) (listed (each annot_parts notes.annots))
notes_stand lo hi ts notes d o = repeated_stand IsAnnot annot_parts one_note (λ n. n.annots) with_note (λ n x. refl) no_notes refl lo hi ts notes d o
