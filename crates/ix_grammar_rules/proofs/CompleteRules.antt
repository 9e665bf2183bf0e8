-- How the ways in which rules are put together read what is known to be read.
use Rattle.std.proofs.Common.{◌≡◌, Bool, true, List, ◌∷◌, Option, Some, None, Ok, Err, refl}
use Rattle.ix_lexer.specs.declared.token.Token.{Token}
use Rattle.ix_grammar_rules.specs.Rule.{Rule, take, bind, Outcome, Parser, and_then, look, run}

-- the next token is wanted
pub take_reads : {A V : Type 0} (want : Token → Option V) (fits : Bool) (p : V → Rule A) (q : Rule A) (t : Token) (ts : List Token) (v : V) → want t ≡ Some v → fits ≡ true → run (take want fits p q) (t ∷ ts) ≡ run (p v) ts
unfolding run
take_reads want fits p q t ts v w f = rw (w, f) refl

-- the next token is not wanted
pub other_reads : {A V : Type 0} (want : Token → Option V) (fits : Bool) (p : V → Rule A) (q : Rule A) (ts : List Token) → look want ts ≡ None → run (take want fits p q) ts ≡ run q ts
unfolding run
other_reads want fits p q ts w = rw w refl

pub bind_reads : {A B : Type 0} (p : Rule A) (f : A → Rule B) (ts us : List Token) (a : A) → run p ts ≡ Ok (a, us) → run (bind p f) ts ≡ run (f a) us
unfolding run
bind_reads p f ts us a h = rw h refl

-- three, one behind the other
pub then_assoc : {A B C : Type 0} (o : Outcome A) (p : A → Parser B) (q : B → Parser C) → and_then (and_then o p) q ≡ and_then o (λ a us. and_then (p a us) q)
then_assoc (Ok x) p q = refl
then_assoc (Err x) p q = refl
