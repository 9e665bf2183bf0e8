-- Annotations (JLS 9.7), as a relation between lists of tokens and what they are: one case per alternative, which splits the list.
use Rattle.std.specs.Prelude.{ℕ, ◌+◌, ℤ, neg_ℤ, negsuc, max, true, false, List, [], ◌∷◌, ◌++◌, Option, Some, None}
use Rattle.ix_text.specs.declared.span.Span.{Span}
use Rattle.ix_lexer.specs.declared.token.Token.{Token}
use Rattle.ix_lexer.specs.declared.fixed.TheConstants.{AT, ASSIGN, MINUS, TRUE, FALSE, OPEN_BRACE, CLOSE_BRACE, OPEN_PAREN, CLOSE_PAREN}
use Rattle.ix_tree.specs.declared.annot.Ident.{Ident}
use Rattle.ix_tree.specs.declared.annot.Annot.{Annot}
use Rattle.ix_tree.specs.declared.annot.AnnotArg.{AnnotArg}
use Rattle.ix_tree.specs.declared.annot.AnnotValue.{AnnotValue}
use Rattle.ix_tree.specs.declared.annot.AnnotValue.TheVariants.{Number, Truth, Texts}
use Rattle.ix_grammar.specs.Nodes.{across}
use Rattle.ix_grammar.specs.declared.found.At.{At}
use Rattle.ix_grammar.specs.declared.found.Notes.{Notes}
use Rattle.ix_grammar.specs.Patterns.{sign, name_token, number_token, least_token, string_token}
use Rattle.ix_grammar.specs.Lists.{IsSeparated, IsRepeated, alone, joined}

-- ---- nodes and their heights

abbrev pub valued : AnnotValue → Span → At AnnotValue
valued value span = record { value = value; span = span }

-- an argument without a name
abbrev pub plain_arg : At AnnotValue → AnnotArg
plain_arg found = record { name = None; value = found.value; span = found.span }

-- name = value
abbrev pub named_arg : Ident → At AnnotValue → AnnotArg
named_arg name found = record { name = Some name; value = found.value; span = across name.span found.span }

-- an annotation from its @ to its last token
abbrev pub annot_to : Span → Ident → List AnnotArg → Span → Annot
annot_to at name args last = record { name = name; args = args; span = across at last }

abbrev pub name_height : Option Ident → ℕ
name_height None = 0
name_height (Some name) = 1

abbrev pub arg_height : AnnotArg → ℕ
arg_height arg = 1 + name_height arg.name

abbrev pub args_height : List AnnotArg → ℕ
args_height [] = 0
args_height (arg ∷ args) = max (arg_height arg) (args_height args)

-- Its name has height 1.
abbrev pub annot_height : Annot → ℕ
annot_height annot = 1 + max 1 (args_height annot.args)

abbrev pub no_notes : Notes
no_notes = record { annots = []; height = 0 }

abbrev pub with_note : Notes → Annot → Notes
with_note notes annot = record { annots = notes.annots ++ annot ∷ []; height = max notes.height (annot_height annot) }

-- ---- the grammar

pub data IsText : List Token → List ℕ → Type 0 where
  text : (found : At (List ℕ)) → IsText (string_token found.value found.span ∷ []) found.value

-- Value = ["-"] IntLit | "-" MinLit | String | "true" | "false" | "{" [String {"," String}] "}"
pub data IsValue : List Token → At AnnotValue → Type 0 where
  number : (found : At ℤ) → IsValue (number_token found.value found.span ∷ []) (valued (Number found.value) found.span)
  minus_number : (minus : Span) (found : At ℤ)
      → IsValue (sign MINUS minus ∷ number_token found.value found.span ∷ []) (valued (Number (neg_ℤ found.value)) (across minus found.span))
  least : (minus span : Span) → IsValue (sign MINUS minus ∷ least_token span ∷ []) (valued (Number (negsuc 2147483647)) (across minus span))
  one_text : (found : At (List ℕ)) → IsValue (string_token found.value found.span ∷ []) (valued (Texts (found.value ∷ [])) found.span)
  truth : (span : Span) → IsValue (sign TRUE span ∷ []) (valued (Truth true) span)
  falsity : (span : Span) → IsValue (sign FALSE span ∷ []) (valued (Truth false) span)
  no_texts : (left right : Span) → IsValue (sign OPEN_BRACE left ∷ sign CLOSE_BRACE right ∷ []) (valued (Texts []) (across left right))
  texts : (left right : Span) {tokens : List Token} {found : List (List ℕ)} → IsSeparated IsText alone joined tokens found
      → IsValue (sign OPEN_BRACE left ∷ (tokens ++ sign CLOSE_BRACE right ∷ [])) (valued (Texts found) (across left right))

-- Pair = Ident "=" Value
pub data IsNamed : List Token → AnnotArg → Type 0 where
  named : (name : Ident) (assign : Span) {tokens : List Token} {found : At AnnotValue} → IsValue tokens found
      → IsNamed (name_token name ∷ sign ASSIGN assign ∷ tokens) (named_arg name found)

-- Annot = "@" Ident ["(" [Value | Pair {"," Pair}] ")"]
pub data IsAnnot : List Token → Annot → Type 0 where
  bare : (at : Span) (name : Ident) → IsAnnot (sign AT at ∷ name_token name ∷ []) (annot_to at name [] name.span)
  no_args : (at : Span) (name : Ident) (left right : Span)
      → IsAnnot (sign AT at ∷ name_token name ∷ sign OPEN_PAREN left ∷ sign CLOSE_PAREN right ∷ []) (annot_to at name [] right)
  plain : (at : Span) (name : Ident) (left right : Span) {tokens : List Token} {found : At AnnotValue} → IsValue tokens found
      → IsAnnot (sign AT at ∷ name_token name ∷ sign OPEN_PAREN left ∷ (tokens ++ sign CLOSE_PAREN right ∷ [])) (annot_to at name (plain_arg found ∷ []) right)
  with_names : (at : Span) (name : Ident) (left right : Span) {tokens : List Token} {args : List AnnotArg} → IsSeparated IsNamed alone joined tokens args
      → IsAnnot (sign AT at ∷ name_token name ∷ sign OPEN_PAREN left ∷ (tokens ++ sign CLOSE_PAREN right ∷ [])) (annot_to at name args right)

-- {Annot}
abbrev pub IsNotes : List Token → Notes → Type 0
IsNotes = IsRepeated IsAnnot no_notes with_note
