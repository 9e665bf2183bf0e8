-- The turns of repetitions, each from what its tokens are.
use Rattle.std.proofs.Common.{◌≡◌, ℕ, ◌≤◌, List, Some, None, Ok, refl, sym}
use Rattle.std.proofs.lemmas.Bool.{le-leb}
use Rattle.ix_text.specs.declared.span.Span.{Span}
use Rattle.ix_lexer.specs.declared.fixed.TheConstants.{COMMA, AT}
use Rattle.ix_lexer.specs.declared.token.Token.{Token}
use Rattle.ix_tree.specs.declared.annot.Annot.{Annot}
use Rattle.ix_grammar.specs.declared.declarations.FoundMods.{FoundMods}
use Rattle.ix_grammar.specs.declared.declarations.Word.{Word}
use Rattle.ix_grammar.specs.declared.found.At.{At}
use Rattle.ix_grammar.specs.declared.found.Notes.{Notes}
use Rattle.ix_grammar.specs.AnnotGrammar.{with_note}
use Rattle.ix_grammar.specs.DeclGrammar.{with_word, with_annot}
use Rattle.ix_grammar.specs.Patterns.{a_sign, one_of}
use Rattle.ix_grammar_rules.specs.AnnotRules.{annot_behind, next_annot}
use Rattle.ix_grammar_rules.specs.DeclRules.{next_mod}
use Rattle.ix_grammar_rules.specs.ListRules.{next_of}
use Rattle.ix_grammar_rules.specs.Rule.{Rule, On, look, rest, run}

-- behind a comma
pub one_more : {A S : Type 0} (item : Rule A) (add : S → A → S) (s more : S) (x : A) (comma : Span) (ts later us : List Token)
    → Some comma ≡ look (a_sign COMMA) ts → later ≡ rest ts → run item later ≡ Ok (x, us) → more ≡ add s x → run (next_of item add s) ts ≡ Ok (On more, us)
unfolding run next_of
one_more item add s more x comma ts later us is goes reads made = rw (sym is, sym goes, reads, made) refl

-- an annotation behind others
pub one_annot_more : (left : ℕ) (notes more : Notes) (annot : Annot) (at : Span) (ts later us : List Token)
    → Some at ≡ look (a_sign AT) ts → 2 ≤ left → later ≡ rest ts → run (annot_behind left at) later ≡ Ok (annot, us) → more ≡ with_note notes annot → run (next_annot left notes) ts ≡ Ok (On more, us)
unfolding run next_annot
one_annot_more left notes more annot at ts later us is fits goes reads made = rw (sym is, le-leb 2 left fits, sym goes, reads, made) refl

-- a word behind other modifiers
pub one_word_more : (words : List (ℕ × Word)) (left : ℕ) (found more : FoundMods) (word : At Word) (ts later : List Token)
    → Some word ≡ look (one_of words) ts → 1 ≤ left → later ≡ rest ts → more ≡ with_word found word.value word.span → run (next_mod words left found) ts ≡ Ok (On more, later)
unfolding run next_mod
one_word_more words left found more word ts later is fits goes made = rw (sym is, le-leb 1 left fits, sym goes, made) refl

-- an annotation behind other modifiers
pub one_noted_more : (words : List (ℕ × Word)) (left : ℕ) (found more : FoundMods) (annot : Annot) (at : Span) (ts later us : List Token)
    → None ≡ look (one_of words) ts → Some at ≡ look (a_sign AT) ts → 2 ≤ left → later ≡ rest ts → run (annot_behind left at) later ≡ Ok (annot, us) → more ≡ with_annot found annot
    → run (next_mod words left found) ts ≡ Ok (On more, us)
unfolding run next_mod
one_noted_more words left found more annot at ts later us none is fits goes reads made = rw (sym none, sym is, le-leb 2 left fits, sym goes, reads, made) refl
