-- What the rules of statements read of expressions where little height is left.
use Rattle.std.proofs.Common.{◌≡◌, ℕ, ◌+◌, ◌-◌, ◌<◌, ◌≤◌, nat_le, true, false, List, Result, Ok, Err, IfOk, refl, arith}
use Rattle.std.proofs.lemmas.Bool.{le-leb, lt-leb}
use Rattle.ix_lexer.specs.declared.token.Token.{Token}
use Rattle.ix_grammar_rules.specs.declared.stop.Stop.{Stop}
use Rattle.ix_grammar.specs.declared.found.Found.{Found}
use Rattle.ix_grammar_rules.specs.ExprRules.{below, inner, expr, statement_expr}
use Rattle.ix_grammar_rules.specs.Rule.{run}
use Rattle.ix_grammar_rules.specs.StmtRules.{guarded}
use Rattle.ix_grammar_rules.specs.Taking.{Follows}
use Rattle.ix_grammar_rules.proofs.ExprHeights.{expr_within, statement_expr_within}
use Rattle.ix_grammar_rules.proofs.Heights.{inner_below}

pub index_room : (left : ℕ) → 5 ≤ left → guarded (nat_le 5 left) (inner (below (left - 1)) 1) ≡ expr (left - 3)
unfolding guarded
index_room left five = let yes : nat_le 5 left ≡ true = le-leb 5 left five in rw yes (inner_below (left - 1) (left - 3) 1 (omega arith) (omega (arith, five)))

pub no_index_room : (left : ℕ) → left < 5 → guarded (nat_le 5 left) (inner (below (left - 1)) 1) ≡ expr 0
unfolding guarded
no_index_room left low = let no : nat_le 5 left ≡ false = lt-leb 5 left low in rw no refl

-- Where no height is left, no expression is read.
no_expr : (f : Found) (ts us : List Token) → run (expr 0) ts ≡ Ok (f, us) → ⊥
no_expr f ts us h = let w = let g = expr_within 0 in g.at ts us f h in omega (arith, w.0, w.1)

pub no_expr_room : (left : ℕ) (result : Result Found Stop) (ts us : List Token) → Follows (run (expr 0) ts) result us → IfOk result (λ f. 5 ≤ left)
no_expr_room left (Ok f) ts us h = absurd (no_expr f ts us h)
no_expr_room left (Err stopped) ts us h = tt

pub no_expr_fits : (left : ℕ) (result : Result Found Stop) (ts us : List Token) → Follows (run (expr 0) ts) result us → IfOk result (λ f. f.height + 3 ≤ left)
no_expr_fits left (Ok f) ts us h = absurd (no_expr f ts us h)
no_expr_fits left (Err stopped) ts us h = tt

-- An expression that is read below a height leaves room for one more.
pub statement_expr_below : (left : ℕ) (f : Found) (ts us : List Token) → run (statement_expr (left - 1)) ts ≡ Ok (f, us) → f.height + 1 ≤ left
statement_expr_below left f ts us h = let w = let g = statement_expr_within (left - 1) in g.at ts us f h in omega (arith, w.0, w.1)

pub ruleset index_parts = (index_room, no_index_room)
