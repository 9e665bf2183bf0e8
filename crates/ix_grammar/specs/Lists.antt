-- Repetitions of the grammar, to the left: what was read so far, and one more.
use Rattle.std.specs.Prelude.{List, [], ◌∷◌, ◌++◌}
use Rattle.ix_text.specs.declared.span.Span.{Span}
use Rattle.ix_lexer.specs.declared.token.Token.{Token}
use Rattle.ix_lexer.specs.declared.fixed.TheConstants.{COMMA}
use Rattle.ix_grammar.specs.Patterns.{sign}

-- Item {"," Item}, where `start` makes of an item what was read so far, and `add` adds one to it
pub data IsSeparated {A S : Type 0} (Item : List Token → A → Type 0) (start : A → S) (add : S → A → S) : List Token → S → Type 0 where
  first_item : {tokens : List Token} {item : A} → Item tokens item → IsSeparated Item start add tokens (start item)
  next_item : {before tokens : List Token} {items : S} {item : A} (comma : Span) → IsSeparated Item start add before items → Item tokens item
      → IsSeparated Item start add (before ++ sign COMMA comma ∷ tokens) (add items item)

-- {Item}
pub data IsRepeated {A S : Type 0} (Item : List Token → A → Type 0) (none : S) (add : S → A → S) : List Token → S → Type 0 where
  no_item : IsRepeated Item none add [] none
  one_more : {before tokens : List Token} {items : S} {item : A} → IsRepeated Item none add before items → Item tokens item
      → IsRepeated Item none add (before ++ tokens) (add items item)

-- a list with one entry, and with one more
abbrev pub alone : {A : Type 0} → A → List A
alone x = x ∷ []

abbrev pub joined : {A : Type 0} → List A → A → List A
joined xs x = xs ++ x ∷ []
