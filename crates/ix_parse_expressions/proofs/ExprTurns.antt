-- The turns of the repetitions that read operands and what makes a longer primary, each from what its tokens are.
use Rattle.std.proofs.Common.{◌≡◌, ℕ, ◌<◌, true, false, List, Some, None, Ok, Err, refl, sym}
use Rattle.std.proofs.lemmas.Bool.{lt-ltb}
use Rattle.ix_text.specs.declared.span.Span.{Span}
use Rattle.ix_lexer.specs.declared.fixed.TheConstants.{DOT, OPEN_BRACKET, COMMA}
use Rattle.ix_lexer.specs.declared.token.Token.{Token}
use Rattle.ix_tree.specs.declared.expr.BinaryOp.{BinaryOp}
use Rattle.ix_grammar.specs.declared.found.At.{At}
use Rattle.ix_grammar.specs.declared.found.Found.{Found}
use Rattle.ix_grammar.specs.declared.found.Several.{Several}
use Rattle.ix_grammar.specs.ExprNodes.{makes_array, joined, with_expr}
use Rattle.ix_grammar.specs.Patterns.{a_sign, a_name, an_operator}
use Rattle.ix_grammar_rules.specs.declared.aims.Aim.{Aim}
use Rattle.ix_grammar_rules.specs.declared.stop.Stop.{Stop}
use Rattle.ix_grammar_rules.specs.ExprRules.{Below, further, index_unless, index, field_or_call, operand, more_exprs}
use Rattle.ix_grammar_rules.specs.Rule.{Rule, Outcome, Turn, On, Done, take, stop, look, rest, run}

-- ---- behind the first part of a primary

module _ (b : Below) (aim : Aim) (left : ℕ) (f : Found) (ts : List Token) where
  pub at_dot : (dot : Span) (later : List Token) (o : Outcome (Turn Found Found)) → Some dot ≡ look (a_sign DOT) ts → f.height < left → later ≡ rest ts
      → run (take a_name true (field_or_call b aim left f) stop) later ≡ o → run (further b aim left f) ts ≡ o
  unfolding run further
  at_dot dot later o is low goes reads = rw (sym is, lt-ltb f.height left low, sym goes) reads

  pub behind_array : None ≡ look (a_sign DOT) ts → makes_array f.form ≡ true → run (further b aim left f) ts ≡ Ok (Done f, ts)
  unfolding run further index_unless
  behind_array no_dot array = rw (sym no_dot, array) refl

  pub at_bracket : (o : Outcome (Turn Found Found)) → None ≡ look (a_sign DOT) ts → makes_array f.form ≡ false → run (index b aim left f) ts ≡ o → run (further b aim left f) ts ≡ o
  unfolding run further index_unless
  at_bracket o no_dot other reads = rw (sym no_dot, other) reads

  pub at_end : None ≡ look (a_sign DOT) ts → makes_array f.form ≡ false → None ≡ look (a_sign OPEN_BRACKET) ts → run (further b aim left f) ts ≡ Ok (Done f, ts)
  unfolding run further index_unless index
  at_end no_dot other no_bracket = rw (sym no_dot, other, sym no_bracket) refl

-- ---- operands

module _ (b : Below) (left level : ℕ) (f : Found) (ts : List Token) (op : At BinaryOp) (later : List Token) where
  pub an_operand : (g joint : Found) (us : List Token) → Some op ≡ look (an_operator level) ts → f.height < left → later ≡ rest ts → run (b.lower.level level) later ≡ Ok (g, us) → joint ≡ joined op.value f g
      → run (operand b left level f) ts ≡ Ok (On joint, us)
  unfolding run operand
  an_operand g joint us is low goes reads made = rw (sym is, lt-ltb f.height left low, sym goes, reads, made) refl

  pub no_operand : (e : Stop × List Token) → Some op ≡ look (an_operator level) ts → f.height < left → later ≡ rest ts → run (b.lower.level level) later ≡ Err e → run (operand b left level f) ts ≡ Err e
  unfolding run operand
  no_operand e is low goes reads = rw (sym is, lt-ltb f.height left low, sym goes, reads) refl

-- ---- an argument behind a comma

pub one_expr_more : (expr : Rule Found) (s more : Several) (f : Found) (comma : Span) (ts later us : List Token)
    → Some comma ≡ look (a_sign COMMA) ts → later ≡ rest ts → run expr later ≡ Ok (f, us) → more ≡ with_expr s f → run (more_exprs expr s) ts ≡ Ok (On more, us)
unfolding run more_exprs
one_expr_more expr s more f comma ts later us is goes reads made = rw (sym is, sym goes, reads, made) refl
