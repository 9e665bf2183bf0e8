-- A turn that reads one more class, by the word that it begins with.
use Rattle.std.proofs.Common.{◌≡◌, ℕ, ◌≤◌, List, Some, None, Ok, refl, sym}
use Rattle.std.proofs.lemmas.Bool.{le-leb}
use Rattle.ix_text.specs.declared.span.Span.{Span}
use Rattle.ix_lexer.specs.declared.fixed.TheConstants.{PUBLIC, FINAL, CLASS}
use Rattle.ix_lexer.specs.declared.token.Token.{Token}
use Rattle.ix_grammar.specs.declared.classes.Classes.{Classes}
use Rattle.ix_grammar.specs.declared.classes.FoundClass.{FoundClass}
use Rattle.ix_grammar.specs.ClassGrammar.{with_class}
use Rattle.ix_grammar.specs.Patterns.{a_sign}
use Rattle.ix_grammar_rules.specs.ClassRules.{worded_class, class_behind, next_class}
use Rattle.ix_grammar_rules.specs.Rule.{On, look, rest, run}
use Rattle.ix_grammar_rules.specs.SourceRules.{parts}

module _ (left : ℕ) (found : Classes) (ts later : List Token) (span : Span) (class : FoundClass) (us : List Token) where
  pub at_public : Some span ≡ look (a_sign PUBLIC) ts → 2 ≤ left → later ≡ rest ts → run (worded_class parts left span) later ≡ Ok (class, us)
      → run (next_class parts left found) ts ≡ Ok (On (with_class found class), us)
  unfolding run next_class
  at_public is fits goes reads = rw (sym is, le-leb 2 left fits, sym goes, reads) refl

  pub at_final : None ≡ look (a_sign PUBLIC) ts → Some span ≡ look (a_sign FINAL) ts → 2 ≤ left → later ≡ rest ts → run (worded_class parts left span) later ≡ Ok (class, us)
      → run (next_class parts left found) ts ≡ Ok (On (with_class found class), us)
  unfolding run next_class
  at_final no_public is fits goes reads = rw (sym no_public, sym is, le-leb 2 left fits, sym goes, reads) refl

  pub at_class : None ≡ look (a_sign PUBLIC) ts → None ≡ look (a_sign FINAL) ts → Some span ≡ look (a_sign CLASS) ts → 2 ≤ left → later ≡ rest ts → run (class_behind parts left span) later ≡ Ok (class, us)
      → run (next_class parts left found) ts ≡ Ok (On (with_class found class), us)
  unfolding run next_class
  at_class no_public no_final is fits goes reads = rw (sym no_public, sym no_final, sym is, le-leb 2 left fits, sym goes, reads) refl
