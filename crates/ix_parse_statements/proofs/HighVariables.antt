-- Nothing goes on with a variable that is too high for a statement.
use Rattle.std.proofs.Common.{◌≡◌, ℕ, ◌+◌, ◌-◌, ◌<◌, nat_le, nat_lt, false, List, Option, Some, None, Ok, Err, refl, ◌∙◌, arith}
use Rattle.std.proofs.lemmas.Bool.{le-ltb, lt-leb}
use Rattle.ix_text.specs.declared.span.Span.{Span}
use Rattle.ix_lexer.specs.declared.token.Token.{Token}
use Rattle.ix_lexer.specs.declared.fixed.TheConstants.{DOT, OPEN_BRACKET, OPEN_PAREN}
use Rattle.ix_tree.specs.declared.annot.Ident.{Ident}
use Rattle.ix_grammar_rules.specs.declared.stop.Stop.{Stop}
use Rattle.ix_grammar_rules.specs.declared.stop.Stop.TheVariants.{Syntax, TooDeep}
use Rattle.ix_grammar_rules.specs.declared.aims.Aim.TheVariants.{Statement}
use Rattle.ix_grammar.specs.declared.found.Found.{Found}
use Rattle.ix_grammar.specs.declared.found.Form.TheVariants as form
use Rattle.ix_grammar_rules.specs.declared.begun.Begun.TheVariants.{Run}
use Rattle.ix_grammar.specs.ExprNodes.{named, selected}
use Rattle.ix_grammar_rules.specs.ExprRules.{extra, below, name_or_call, field_or_call, index, index_unless, further, assignment, to_statement}
use Rattle.ix_grammar.specs.Patterns.{a_sign, one_of, assign_signs, step_signs}
use Rattle.ix_grammar_rules.specs.ReadingStatements.{too_deep_or, behind_high, behind_high_name}
use Rattle.ix_grammar_rules.specs.Rule.{Rule, pure, bind, loop, On, Done, Outcome, Parser, look, taken, run}
use Rattle.ix_grammar_rules.specs.StmtRules.{chain, go_on, field, run_named}
use Rattle.ix_grammar_rules.proofs.Runs.{loop_done, loop_stops}

bind_stops : {A B : Type 0} (p : Rule A) (q : A → Rule B) (ts us : List Token) (w : Stop) → run p ts ≡ Err (w, us) → run (bind p q) ts ≡ Err (w, us)
unfolding run
bind_stops p q ts us w h = rw h refl

bind_goes : {A B : Type 0} (p : Rule A) (q : A → Rule B) (ts us : List Token) (a : A) → run p ts ≡ Ok (a, us) → run (bind p q) ts ≡ run (q a) us
unfolding run
bind_goes p q ts us a h = rw h refl

-- a token that doesn't fit, or what follows where it isn't there
abbrev or_else : {A V : Type 0} → Option V → List Token → Outcome A → Outcome A
or_else (Some found) ts other = Err (TooDeep, ts)
or_else None ts other = other

no_room : {A V : Type 0} (p : V → Parser A) (q : Parser A) (o : Option V) (ts : List Token) → taken false p q o ts ≡ or_else o ts (q ts)
no_room p q (Some found) ts = refl
no_room p q None ts = refl

or_stop : {A V : Type 0} (o : Option V) (ts : List Token) (w : Stop) → or_else {A = A} o ts (Err (w, ts)) ≡ Err (too_deep_or o w, ts)
or_stop (Some found) ts w = refl
or_stop None ts w = refl

module _ (left : ℕ) (f : Found) (variable : f.form ≡ form.Variable) (high : left - 1 < f.height) (ts : List Token) where
  no_dot : nat_lt f.height (left - 1) ≡ false
  no_dot = le-ltb f.height (left - 1) (omega (arith, high))

  no_index : nat_le (extra Statement form.Variable + (f.height + 1)) (left - 1) ≡ false
  no_index = lt-leb (extra Statement form.Variable + (f.height + 1)) (left - 1) (omega (arith, high))

  turn_high : run (further (below (left - 1)) Statement (left - 1) f) ts ≡ or_else (look (a_sign DOT) ts) ts (or_else (look (a_sign OPEN_BRACKET) ts) ts (Ok (Done f, ts)))
  unfolding run further index_unless index
  turn_high = rw (variable, no_dot, no_index, no_room, no_room) refl

  to_statement_high : run (to_statement (below (left - 1)) (left - 1) f f.form) ts ≡ Err (too_deep_or (look (one_of assign_signs) ts) (too_deep_or (look (one_of step_signs) ts) Syntax), ts)
  unfolding run to_statement assignment
  to_statement_high = rw (variable, no_dot, no_room, no_room) (rw (or_stop, or_stop) refl)

  end_high : run (bind (to_statement (below (left - 1)) (left - 1) f f.form) (λ g. pure (Run g))) ts ≡ Err (too_deep_or (look (one_of assign_signs) ts) (too_deep_or (look (one_of step_signs) ts) Syntax), ts)
  end_high = bind_stops (to_statement (below (left - 1)) (left - 1) f f.form) (λ g. pure (Run g)) ts ts _ to_statement_high

  chain_by : (d b : Option Span) → look (a_sign DOT) ts ≡ d → look (a_sign OPEN_BRACKET) ts ≡ b → run (chain left f) ts ≡ Err (behind_high ts, ts)
  unfolding chain
  chain_by (Some s) b e g = rw e (bind_stops (loop (further (below (left - 1)) Statement (left - 1)) f) _ ts ts TooDeep (loop_stops (further (below (left - 1)) Statement (left - 1)) f ts ts TooDeep (turn_high ∙ rw e refl)))
  chain_by None (Some s) e g = rw (e, g) (bind_stops (loop (further (below (left - 1)) Statement (left - 1)) f) _ ts ts TooDeep (loop_stops (further (below (left - 1)) Statement (left - 1)) f ts ts TooDeep (turn_high ∙ rw (e, g) refl)))
  chain_by None None e g = rw (e, g) (bind_goes (loop (further (below (left - 1)) Statement (left - 1)) f) _ ts ts f (loop_done (further (below (left - 1)) Statement (left - 1)) f f ts ts (turn_high ∙ rw (e, g) refl)) ∙ end_high)

  chain_high : run (chain left f) ts ≡ Err (behind_high ts, ts)
  chain_high = chain_by (look (a_sign DOT) ts) (look (a_sign OPEN_BRACKET) ts) refl refl

module _ (left : ℕ) (x : Ident) (ts : List Token) where
  name_is : left - 1 < 2 → run (name_or_call (below (left - 1)) Statement (left - 1) x) ts ≡ or_else (look (a_sign OPEN_PAREN) ts) ts (Ok (named x, ts))
  unfolding run name_or_call
  name_is low = let no_call : nat_le (extra Statement form.Statement + 2) (left - 1) ≡ false = lt-leb (extra Statement form.Statement + 2) (left - 1) (omega (arith, low)) in rw (no_call, no_room) refl

  name_by : left - 1 < 2 → (o : Option Span) → look (a_sign OPEN_PAREN) ts ≡ o → run (run_named left x) ts ≡ Err (behind_high_name ts, ts)
  unfolding run_named
  name_by low (Some s) e = rw e (bind_stops _ (chain left) ts ts TooDeep (name_is low ∙ rw e refl))
  name_by low None e = rw e (bind_goes _ (chain left) ts ts (named x) (name_is low ∙ rw e refl) ∙ chain_high left (named x) refl (omega (arith, low)) ts)

  pub run_named_high : left - 1 < 2 → run (run_named left x) ts ≡ Err (behind_high_name ts, ts)
  run_named_high low = name_by low (look (a_sign OPEN_PAREN) ts) refl

  field_is : (f : Found) → left - 1 < f.height + 1 → run (field_or_call (below (left - 1)) Statement (left - 1) f x) ts ≡ or_else (look (a_sign OPEN_PAREN) ts) ts (Ok (On (selected f x), ts))
  unfolding run field_or_call
  field_is f low = let no_call : nat_le (extra Statement form.Statement + (f.height + 1)) (left - 1) ≡ false = lt-leb (extra Statement form.Statement + (f.height + 1)) (left - 1) (omega (arith, low)) in rw (no_call, no_room) refl

  chained : (f : Found) → left - 1 < f.height + 1 → run (go_on left (On (selected f x))) ts ≡ Err (behind_high ts, ts)
  unfolding go_on
  chained f low = chain_high left (selected f x) refl (omega (arith, low)) ts

  field_by : (f : Found) → left - 1 < f.height + 1 → (o : Option Span) → look (a_sign OPEN_PAREN) ts ≡ o → run (field left f x) ts ≡ Err (behind_high_name ts, ts)
  unfolding field
  field_by f low (Some s) e = rw e (bind_stops _ (go_on left) ts ts TooDeep (field_is f low ∙ rw e refl))
  field_by f low None e = rw e (bind_goes _ (go_on left) ts ts (On (selected f x)) (field_is f low ∙ rw e refl) ∙ chained f low)

  pub field_high : (f : Found) → left - 1 < f.height + 1 → run (field left f x) ts ≡ Err (behind_high_name ts, ts)
  field_high f low = field_by f low (look (a_sign OPEN_PAREN) ts) refl
