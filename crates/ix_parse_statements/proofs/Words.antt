-- Which identifier comes next: one of a certain text, or another.
use Rattle.std.proofs.Common.{◌≡◌, ◌≢◌, ℕ, Bool, true, false, cond, ◌&&◌, List, [], ◌∷◌, Option, Some, None, refl, ◌∙◌}
use Rattle.std.proofs.lemmas.Bool.{eq-eqb}
use Rattle.ix_text.specs.declared.span.Span.{Span}
use Rattle.ix_lexer.specs.declared.token.Token.{Token}
use Rattle.ix_lexer.specs.declared.token.TokenKind.{TokenKind}
use Rattle.ix_lexer.specs.declared.token.TokenKind.TheVariants as k
use Rattle.ix_tree.specs.declared.annot.Ident.{Ident}
use Rattle.ix_grammar.specs.Patterns.{a_name, name_of}
use Rattle.ix_grammar_rules.specs.Rule.{look}
use Rattle.ix_grammar.specs.StmtGrammar.{same_text}
use Rattle.ix_grammar_rules.specs.StmtRules.{a_word, word_of}
use Rattle.ix_grammar_rules.proofs.StmtSound.{same_is}

same_true : (xs : List ℕ) → same_text xs xs ≡ true
same_true [] = refl
same_true (x ∷ xs) = rw (eq-eqb x x refl, same_true xs) refl

both : (a b : Bool) → (a && b) ≡ true → (a ≡ true) × (b ≡ true)
both true true h = (refl, refl)
both true false h = absurd (cc)
both false b h = absurd (cc)

by_text : (b : Bool) (xs ys : List ℕ) → same_text xs ys ≡ b → xs ≢ ys → same_text xs ys ≡ false
by_text true xs ys h ne = absurd (ne (same_is xs ys h))
by_text false xs ys h ne = h

same_false : (xs ys : List ℕ) → xs ≢ ys → same_text xs ys ≡ false
same_false xs ys ne = by_text (same_text xs ys) xs ys refl ne

-- an identifier with that text
abbrev the_word : List ℕ → Option Ident → Option Ident
the_word text None = None
the_word text (Some name) = cond (same_text name.text text) (Some name) None

word_kind : (text : List ℕ) (kind : TokenKind) (span : Span) → word_of text kind span ≡ the_word text (name_of kind span)
word_kind text (k.Ident found) span = refl
word_kind text _ span = refl

word_look : (text : List ℕ) (tokens : List Token) → look (a_word text) tokens ≡ the_word text (look a_name tokens)
word_look text [] = refl
word_look text (token ∷ tokens) = word_kind text token.kind token.span

pub this_word : (text : List ℕ) (tokens : List Token) (name : Ident) → look a_name tokens ≡ Some name → name.text ≡ text → look (a_word text) tokens ≡ Some name
this_word text tokens name is same = word_look text tokens ∙ rw (is, same, same_true) refl

pub other_word : (text : List ℕ) (tokens : List Token) (name : Ident) → look a_name tokens ≡ Some name → name.text ≢ text → look (a_word text) tokens ≡ None
other_word text tokens name is another = word_look text tokens ∙ rw (is, same_false name.text text another) refl

pub no_word : (text : List ℕ) (tokens : List Token) → look a_name tokens ≡ None → look (a_word text) tokens ≡ None
no_word text tokens is = word_look text tokens ∙ rw is refl

pub ruleset words = (this_word, other_word, no_word)
