-- How repetitions are read, to the left: what was read so far, and one more.
use Rattle.std.specs.Prelude.{true}
use Rattle.ix_text.specs.declared.span.Span.{Span}
use Rattle.ix_lexer.specs.declared.fixed.TheConstants.{COMMA, CLOSE_BRACE}
use Rattle.ix_grammar.specs.declared.found.At.{At}
use Rattle.ix_grammar.specs.Patterns.{a_sign}
use Rattle.ix_grammar_rules.specs.Rule.{Rule, pure, take, bind, loop, Turn, On, Done}

-- "," Item, or the end
unfoldable pub next_of : {A S : Type 0} → Rule A → (S → A → S) → S → Rule (Turn S S)
next_of item add items = take (a_sign COMMA) true (λ comma. bind item (λ found. pure (On (add items found)))) (pure (Done items))

-- {"," Item}, behind the first one
unfoldable pub more_of : {A S : Type 0} → Rule A → (S → A → S) → S → Rule S
more_of item add items = loop (next_of item add) items

abbrev pub placed : {V : Type 0} → V → Span → At V
placed value span = record { value = value; span = span }

-- Item, or the closing brace behind the last one
unfoldable pub next_inside : {A S : Type 0} → Rule A → (S → A → S) → S → Rule (Turn S (At S))
next_inside item add items = take (a_sign CLOSE_BRACE) true (λ right. pure (Done (placed items right))) (bind item (λ found. pure (On (add items found))))

-- {Item} "}", with the place of the brace
unfoldable pub braces_of : {A S : Type 0} → Rule A → (S → A → S) → S → Rule (At S)
braces_of item add none = loop (next_inside item add) none
