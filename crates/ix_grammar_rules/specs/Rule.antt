-- The rules of a descent with one token in hand, as data: each is put together from five shapes. What they read is a function on lists.
use Rattle.std.specs.Prelude.{ℕ, zero, suc, nat_lt, Bool, if◌then◌else◌, List, [], ◌∷◌, length, Option, Some, None, Result, Ok, Err}
use Rattle.ix_lexer.specs.declared.token.Token.{Token}
use Rattle.ix_grammar_rules.specs.declared.stop.Stop.{Stop}
use Rattle.ix_grammar_rules.specs.declared.stop.Stop.TheVariants.{Syntax, TooDeep}

-- what a turn of a repetition gives: the state of the next turn, or what the repetition gives
pub data Turn (S B : Type 0) : Type 0 where
  On : S → Turn S B
  Done : B → Turn S B

pub data Rule : Type 0 → Type 1 where
  -- nothing is taken
  pure : {A : Type 0} → A → Rule A
  -- The next token is taken where it is wanted, if it fits: if the height that is left is not below the least one of what it begins.
  -- Where it isn't wanted, the other rule reads.
  take : {A V : Type 0} → (Token → Option V) → Bool → (V → Rule A) → Rule A → Rule A
  -- one rule, and behind it another
  bind : {A B : Type 0} → Rule A → (A → Rule B) → Rule B
  -- no token may come
  stop : {A : Type 0} → Rule A
  -- turns from a state
  loop : {S B : Type 0} → (S → Rule (Turn S B)) → S → Rule B

-- What a rule gives with the tokens behind it, or why it stopped at which tokens: the next one may not come, or what it begins is too high.
abbrev pub Outcome : Type 0 → Type 0
Outcome A = Result (A × List Token) (Stop × List Token)

abbrev pub Parser : Type 0 → Type 0
Parser A = List Token → Outcome A

abbrev pub and_then : {A B : Type 0} → Outcome A → (A → Parser B) → Outcome B
and_then (Ok p) f = f p.0 p.1
and_then (Err stopped) f = Err stopped

-- what is wanted, at the next token
abbrev pub look : {V : Type 0} → (Token → Option V) → List Token → Option V
look want [] = None
look want (token ∷ later) = want token

abbrev pub rest : List Token → List Token
rest [] = []
rest (token ∷ later) = later

abbrev pub taken : {A V : Type 0} → Bool → (V → Parser A) → Parser A → Option V → Parser A
taken fits here other (Some found) tokens = if fits then here found (rest tokens) else Err (TooDeep, tokens)
taken fits here other None tokens = other tokens

-- A turn that goes on takes a token.
abbrev pub turned : {S B : Type 0} → ℕ → (S → Parser B) → Turn S B → Parser B
turned before go (On state) tokens = if nat_lt (length tokens) before then go state tokens else Err (Syntax, tokens)
turned before go (Done node) tokens = Ok (node, tokens)

abbrev pub turns : {S B : Type 0} → (S → Parser (Turn S B)) → ℕ → S → Parser B
turns body zero state tokens = Err (Syntax, tokens)
turns body (suc n) state tokens = and_then (body state tokens) (turned (length tokens) (turns body n))

-- What a rule reads.
unfoldable pub run : {A : Type 0} → Rule A → Parser A
run (pure node) tokens = Ok (node, tokens)
run (take want fits here other) tokens = taken fits (λ found. run (here found)) (run other) (look want tokens) tokens
run (bind first second) tokens = and_then (run first tokens) (λ node. run (second node))
run stop tokens = Err (Syntax, tokens)
run (loop body state) tokens = turns (λ at. run (body at)) (suc (length tokens)) state tokens
