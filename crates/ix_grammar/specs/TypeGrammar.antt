-- Types (JLS 4.1 to 4.3, 10.1), as a relation between lists of tokens and what they are.
use Rattle.std.specs.Prelude.{ℕ, ◌+◌, max, List, [], ◌∷◌, ◌++◌}
use Rattle.ix_text.specs.declared.span.Span.{Span}
use Rattle.ix_lexer.specs.declared.token.Token.{Token}
use Rattle.ix_lexer.specs.declared.fixed.TheConstants.{INT, BOOLEAN, OPEN_BRACKET, CLOSE_BRACKET}
use Rattle.ix_tree.specs.declared.annot.Ident.{Ident}
use Rattle.ix_tree.specs.declared.annot.BaseTree.{BaseTree}
use Rattle.ix_tree.specs.declared.annot.BaseTree.TheVariants.{Int, Boolean, Named}
use Rattle.ix_grammar.specs.Nodes.{across}
use Rattle.ix_grammar.specs.declared.found.At.{At}
use Rattle.ix_grammar.specs.declared.found.FoundType.{FoundType}
use Rattle.ix_grammar.specs.declared.found.Notes.{Notes}
use Rattle.ix_grammar.specs.Patterns.{sign, name_token}
use Rattle.ix_grammar.specs.AnnotGrammar.{IsNotes}

-- ---- nodes and their heights

abbrev pub based : BaseTree → Span → At BaseTree
based base span = record { value = base; span = span }

abbrev pub base_height : BaseTree → ℕ
base_height Int = 0
base_height Boolean = 0
base_height (Named name) = 1

-- a number of pairs of brackets, with the place of the last bracket
abbrev pub counted : ℕ → Span → At ℕ
counted n span = record { value = n; span = span }

-- The span is that of the base's tokens as far as the last bracket.
abbrev pub array_of : At BaseTree → Notes → At ℕ → FoundType
array_of base notes brackets = record {
  ty = record { base = base.value; annots = notes.annots; depth = brackets.value; span = across base.span brackets.span };
  height = 1 + max (base_height base.value) notes.height;
}

abbrev pub plain_type : At BaseTree → FoundType
plain_type base = record {
  ty = record { base = base.value; annots = []; depth = 0; span = base.span };
  height = 1 + base_height base.value;
}

-- ---- the grammar

-- Base = "int" | "boolean" | Ident
pub data IsBase : List Token → At BaseTree → Type 0 where
  int : (span : Span) → IsBase (sign INT span ∷ []) (based Int span)
  boolean : (span : Span) → IsBase (sign BOOLEAN span ∷ []) (based Boolean span)
  named : (name : Ident) → IsBase (name_token name ∷ []) (based (Named name) name.span)

-- "[" "]" {"[" "]"}
pub data IsPairs : List Token → At ℕ → Type 0 where
  pair : (left right : Span) → IsPairs (sign OPEN_BRACKET left ∷ sign CLOSE_BRACKET right ∷ []) (counted 1 right)
  more_pairs : {tokens : List Token} {pairs : At ℕ} (left right : Span) → IsPairs tokens pairs
      → IsPairs (tokens ++ sign OPEN_BRACKET left ∷ sign CLOSE_BRACKET right ∷ []) (counted (pairs.value + 1) right)

-- Behind a base: nothing, or {Annot} "[" "]" {"[" "]"}
pub data IsTypeRest (base : At BaseTree) : List Token → FoundType → Type 0 where
  no_rest : IsTypeRest base [] (plain_type base)
  array : {before tokens : List Token} {notes : Notes} {pairs : At ℕ} → IsNotes before notes → IsPairs tokens pairs
      → IsTypeRest base (before ++ tokens) (array_of base notes pairs)

-- Type = Base | Base {Annot} "[" "]" {"[" "]"}
pub data IsType : List Token → FoundType → Type 0 where
  type : {before tokens : List Token} {base : At BaseTree} {ty : FoundType} → IsBase before base → IsTypeRest base tokens ty → IsType (before ++ tokens) ty
