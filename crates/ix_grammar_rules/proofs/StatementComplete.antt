-- Expressions that may stand as statements are read as such.
use Rattle.std.proofs.Common.{◌≡◌, ℕ, ◌+◌, ◌<◌, ◌≤◌, Bool, true, List, ◌∷◌, ◌++◌, Option, Some, None, Ok, refl, ◌∙◌, append_assoc, arith}
use Rattle.std.proofs.lemmas.Bool.{lt-ltb, le-leb}
use Rattle.ix_text.specs.declared.span.Span.{Span}
use Rattle.ix_num.specs.declared.arith.Arith.{Arith}
use Rattle.ix_lexer.specs.declared.token.Token.{Token}
use Rattle.ix_grammar_rules.specs.declared.aims.Aim.TheVariants as aim
use Rattle.ix_grammar.specs.declared.found.Found.{Found}
use Rattle.ix_grammar.specs.declared.found.Form.TheVariants as form
use Rattle.ix_grammar_rules.specs.Rule.{look, run}
use Rattle.ix_grammar.specs.Patterns.{sign, row, step_signs, assign_signs, one_of}
use Rattle.ix_grammar.specs.ExprNodes.{stepped_before, stepped_after, assigned, makes_array}
use Rattle.ix_grammar_rules.specs.ExprRules.{extra, Below, primary_of, prefixed, assignment, to_statement, statement_of, below, statement_expr}
use Rattle.ix_grammar.specs.ExprGrammar as g
use Rattle.ix_grammar.specs.ExprGrammar.{Primary, Whole, Level, IsExpr}
use Rattle.ix_grammar_rules.proofs.Tables.{other_table}
use Rattle.ix_grammar_rules.proofs.Follows.{AfterPrimary, AfterWhole, before_step, before_assign, starts_primary, variable_tall}
use Rattle.ix_grammar_rules.proofs.ExprComplete.{Complete, complete, chain_end, lower_reads, lower_variable}

statement_primary : (b : Below) (left : ℕ) (f h : Found) (ts us vs : List Token) → look (one_of step_signs) ts ≡ None → run (primary_of b aim.Statement left) ts ≡ Ok (f, us) → run (to_statement b left f f.form) us ≡ Ok (h, vs) → run (statement_of b left) ts ≡ Ok (h, vs)
unfolding run statement_of prefixed
statement_primary b left f h ts us vs s r e = rw (s, r, e) refl

statement_step : (b : Below) (left : ℕ) (number : ℕ) (up : Bool) (s : Span) (ts us : List Token) (f : Found) → 3 ≤ left → row step_signs number ≡ Some up → run b.lower.variable ts ≡ Ok (f, us) → run (statement_of b left) (sign number s ∷ ts) ≡ Ok (stepped_before up s f, us)
unfolding run statement_of prefixed
statement_step b left number up s ts us f le r h = rw (r, le-leb 3 left le, h) refl

runs_alone : (b : Below) (left : ℕ) (f : Found) (us : List Token) → f.form ≡ form.Statement → run (to_statement b left f f.form) us ≡ Ok (f, us)
unfolding run to_statement
runs_alone b left f us e = rw e refl

runs_step : (b : Below) (left : ℕ) (f : Found) (number : ℕ) (up : Bool) (s : Span) (us : List Token) → f.form ≡ form.Variable → f.height < left → row step_signs number ≡ Some up → look (one_of assign_signs) (sign number s ∷ us) ≡ None → run (to_statement b left f f.form) (sign number s ∷ us) ≡ Ok (stepped_after up f s, us)
unfolding run to_statement assignment
runs_step b left f number up s us e lt r n = rw (e, n, r, lt-ltb f.height left lt) refl

runs_assign : (b : Below) (left : ℕ) (f h : Found) (number : ℕ) (o : Option Arith) (s : Span) (ts us : List Token) → f.form ≡ form.Variable → f.height < left → row assign_signs number ≡ Some o → run b.lower.whole ts ≡ Ok (h, us) → run (to_statement b left f f.form) (sign number s ∷ ts) ≡ Ok (assigned o f h, us)
unfolding run to_statement assignment
runs_assign b left f h number o s ts us e lt r w = rw (e, r, lt-ltb f.height left lt, w) refl

extra_runs : (f : Found) → f.form ≡ form.Statement → extra aim.Statement f.form ≡ 0
extra_runs f e = rw e refl

extra_named : (f : Found) → f.form ≡ form.Variable → extra aim.Statement f.form ≡ 1
extra_named f e = rw e refl

runs_array : (f : Found) → f.form ≡ form.Statement → makes_array f.form ≡ true → ⊥
runs_array f e m = cc

-- a primary, with what follows
from_primary : (ts : List Token) (f : Found) → IsExpr Primary ts f → (left : ℕ) (us : List Token) → f.height + extra aim.Statement f.form ≤ left → AfterPrimary us → run (primary_of (below left) aim.Statement left) (ts ++ us) ≡ Ok (f, us)
from_primary ts f d left us le a = let c : Complete Primary ts f = complete d in c aim.Statement left us le a.paren (λ m. a.bracket) ∙ chain_end (below left) aim.Statement left f us a.dot a.bracket

value_runs : form.Value ≡ form.Statement → ⊥
value_runs e = cc

level_statement : {n : ℕ} {ts : List Token} {f : Found} → IsExpr (Level n) ts f → f.form ≡ form.Statement → (left : ℕ) (us : List Token) → f.height ≤ left → AfterWhole us → run (statement_expr left) (ts ++ us) ≡ Ok (f, us)
level_statement (g.primary {ts} {f} d) e left us le a = let p = starts_primary d us in let u = a.level in let v = u.unary in
    statement_primary (below left) left f f (ts ++ us) us us p.step (from_primary ts f d left us (omega (arith, le, extra_runs f e)) v.primary) (runs_alone (below left) left f us e)
level_statement (g.wider d) e left us le a = level_statement d e left us le a
level_statement (g.least m l) e left us le a = absurd (value_runs e)
level_statement (g.signed n o s r d) e left us le a = absurd (value_runs e)
level_statement (g.operators n number o s r d x) e left us le a = absurd (value_runs e)
level_statement (g.step_before number up s {ts} {f} r d v) e left us le a = let u = a.level in let w = u.unary in
    statement_step (below left) left number up s (ts ++ us) us f (omega (arith, le, variable_tall d v)) r (lower_variable ts f v (complete d) left us (omega (arith, le)) w.primary)
level_statement (g.step_after number up s {ts} {f} r d v) e left us le a = let p = starts_primary d (sign number s ∷ us) in rw append_assoc
    (statement_primary (below left) left f (stepped_after up f s) (ts ++ (sign number s ∷ us)) (sign number s ∷ us) us p.step
    (from_primary ts f d left (sign number s ∷ us) (omega (arith, le, extra_named f v)) (before_step number up s us r))
    (runs_step (below left) left f number up s us v (omega (arith, le)) r (other_table step_signs assign_signs number up s us refl r)))

pub statement_reads : {ts : List Token} {f : Found} → IsExpr Whole ts f → f.form ≡ form.Statement → (left : ℕ) (us : List Token) → f.height ≤ left → AfterWhole us → run (statement_expr left) (ts ++ us) ≡ Ok (f, us)
statement_reads (g.binary d) e left us le a = level_statement d e left us le a
statement_reads (g.assign number o s {ts} {us = later} {f} {g = h} r d v x) e left us le a =
    let p = starts_primary d (sign number s ∷ (later ++ us)) in let b = before_assign number o s (later ++ us) r in let u = b.unary in rw append_assoc
    (statement_primary (below left) left f (assigned o f h) (ts ++ (sign number s ∷ (later ++ us))) (sign number s ∷ (later ++ us)) us p.step
    (from_primary ts f d left (sign number s ∷ (later ++ us)) (omega (arith, le, extra_named f v)) u.primary)
    (runs_assign (below left) left f h number o s (later ++ us) us v (omega (arith, le)) r (lower_reads later h (complete x) left us (omega (arith, le)) a)))
