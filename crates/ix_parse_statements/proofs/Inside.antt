-- A turn of a repetition in braces that the closing brace doesn't end.
use Rattle.std.proofs.Common.{◌≡◌, List, None, Ok, refl, sym}
use Rattle.ix_lexer.specs.declared.fixed.TheConstants.{CLOSE_BRACE}
use Rattle.ix_lexer.specs.declared.token.Token.{Token}
use Rattle.ix_grammar.specs.declared.found.At.{At}
use Rattle.ix_grammar.specs.Patterns.{a_sign}
use Rattle.ix_grammar_rules.specs.ListRules.{next_inside}
use Rattle.ix_grammar_rules.specs.Rule.{Rule, Outcome, Turn, On, pure, bind, look, run}

pub inside_turn : {A S : Type 0} (item : Rule A) (add : S → A → S) (s : S) (ts : List Token) (o : Outcome (Turn S (At S)))
    → None ≡ look (a_sign CLOSE_BRACE) ts → run (bind item (λ found. pure (On (add s found)))) ts ≡ o → run (next_inside item add s) ts ≡ o
unfolding run next_inside
inside_turn item add s ts o none reads = rw (sym none) reads

pub one_inside : {A S : Type 0} (item : Rule A) (add : S → A → S) (s more : S) (x : A) (ts us : List Token)
    → None ≡ look (a_sign CLOSE_BRACE) ts → run item ts ≡ Ok (x, us) → more ≡ add s x → run (next_inside item add s) ts ≡ Ok (On more, us)
unfolding run next_inside
one_inside item add s more x ts us none reads made = rw (sym none, reads, made) refl
