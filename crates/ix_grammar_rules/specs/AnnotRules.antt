-- How annotations are read (JLS 9.7). The number is the height that is left for an annotation.
use Rattle.std.specs.Prelude.{ℕ, neg_ℤ, negsuc, nat_le, true, false, List, [], ◌∷◌}
use Rattle.ix_text.specs.declared.span.Span.{Span}
use Rattle.ix_lexer.specs.declared.fixed.TheConstants.{AT, ASSIGN, MINUS, TRUE, FALSE, OPEN_BRACE, CLOSE_BRACE, OPEN_PAREN, CLOSE_PAREN}
use Rattle.ix_tree.specs.declared.annot.Ident.{Ident}
use Rattle.ix_tree.specs.declared.annot.Annot.{Annot}
use Rattle.ix_tree.specs.declared.annot.AnnotArg.{AnnotArg}
use Rattle.ix_tree.specs.declared.annot.AnnotValue.{AnnotValue}
use Rattle.ix_tree.specs.declared.annot.AnnotValue.TheVariants.{Number, Truth, Texts}
use Rattle.ix_grammar.specs.Nodes.{across}
use Rattle.ix_grammar.specs.declared.found.At.{At}
use Rattle.ix_grammar.specs.declared.found.Notes.{Notes}
use Rattle.ix_grammar_rules.specs.Rule.{Rule, pure, take, bind, stop, loop, Turn, On, Done}
use Rattle.ix_grammar.specs.Patterns.{a_sign, a_name, a_number, a_least, a_text}
use Rattle.ix_grammar.specs.Lists.{alone, joined}
use Rattle.ix_grammar_rules.specs.ListRules.{more_of}
use Rattle.ix_grammar.specs.AnnotGrammar.{valued, plain_arg, named_arg, annot_to, no_notes, with_note}

-- String
unfoldable pub text : Rule (List ℕ)
text = take a_text true (λ found. pure found.value) stop

-- [String {"," String}] "}"
unfoldable pub braced : Span → Rule (At AnnotValue)
braced left =
    take (a_sign CLOSE_BRACE) true (λ right. pure (valued (Texts []) (across left right)))
    (take a_text true (λ first. bind (more_of text joined (alone first.value)) (λ texts.
    take (a_sign CLOSE_BRACE) true (λ right. pure (valued (Texts texts) (across left right))) stop)) stop)

-- behind a minus
unfoldable pub negative : Span → Rule (At AnnotValue)
negative minus =
    take a_number true (λ n. pure (valued (Number (neg_ℤ n.value)) (across minus n.span)))
    (take a_least true (λ least. pure (valued (Number (negsuc 2147483647)) (across minus least))) stop)

-- Value = ["-"] IntLit | "-" MinLit | String | "true" | "false" | "{" [String {"," String}] "}"
unfoldable pub annot_value : Rule (At AnnotValue)
annot_value =
    take (a_sign MINUS) true negative
    (take a_number true (λ n. pure (valued (Number n.value) n.span))
    (take a_text true (λ text. pure (valued (Texts (text.value ∷ [])) text.span))
    (take (a_sign TRUE) true (λ span. pure (valued (Truth true) span))
    (take (a_sign FALSE) true (λ span. pure (valued (Truth false) span))
    (take (a_sign OPEN_BRACE) true braced stop)))))

-- "=" Value, behind the name
unfoldable pub named_value : Ident → Rule AnnotArg
named_value name = take (a_sign ASSIGN) true (λ assign. bind annot_value (λ found. pure (named_arg name found))) stop

-- Pair = Ident "=" Value, where there is one before it
unfoldable pub named : Rule AnnotArg
named = take a_name true named_value stop

-- "=" Value {"," Pair} ")", behind the first name
unfoldable pub named_args : Span → Ident → Ident → Rule Annot
named_args at name first = bind (bind (named_value first) (λ arg. more_of named joined (alone arg))) (λ args.
    take (a_sign CLOSE_PAREN) true (λ right. pure (annot_to at name args right)) stop)

-- Value ")"
unfoldable pub plain_value : Span → Ident → Rule Annot
plain_value at name = bind annot_value (λ found. take (a_sign CLOSE_PAREN) true (λ right. pure (annot_to at name (plain_arg found ∷ []) right)) stop)

-- [Value | Pair {"," Pair}] ")", behind the opening parenthesis. A name of an argument has two nodes above it.
unfoldable pub annot_args : ℕ → Span → Ident → Rule Annot
annot_args left at name =
    take (a_sign CLOSE_PAREN) true (λ right. pure (annot_to at name [] right))
    (take a_name (nat_le 3 left) (named_args at name)
    (plain_value at name))

-- Ident ["(" [Value | Pair {"," Pair}] ")"], behind the @
unfoldable pub annot_behind : ℕ → Span → Rule Annot
annot_behind left at = take a_name true (λ name. take (a_sign OPEN_PAREN) true (λ opening. annot_args left at name) (pure (annot_to at name [] name.span))) stop

-- Annot = "@" Ident ["(" [Value | Pair {"," Pair}] ")"]. Its name must have room.
unfoldable pub annot : ℕ → Rule Annot
annot left = take (a_sign AT) (nat_le 2 left) (annot_behind left) stop

-- Annot, or the end
unfoldable pub next_annot : ℕ → Notes → Rule (Turn Notes Notes)
next_annot left notes = take (a_sign AT) (nat_le 2 left) (λ at. bind (annot_behind left at) (λ annot. pure (On (with_note notes annot)))) (pure (Done notes))

-- {Annot}, behind those that were read
unfoldable pub annots_from : ℕ → Notes → Rule Notes
annots_from left notes = loop (next_annot left) notes

-- {Annot}
unfoldable pub annots : ℕ → Rule Notes
annots left = annots_from left no_notes
