-- The rules for the parts of a node are those of a height that is lower, as the code computes it.
use Rattle.std.proofs.Common.{◌≡◌, ℕ, suc, ◌+◌, ◌-◌, ◌<◌, ◌≤◌, List, Result, Ok, Err, refl, arith}
use Rattle.std.specs.declared.alloc.Global.{Global}
use Rattle.std.specs.Borrow.{MutBor}
use Rattle.ix_lexer.specs.declared.token.Token.{Token}
use Rattle.ix_grammar_rules.specs.declared.stop.Stop.{Stop}
use Rattle.ix_grammar.specs.declared.found.Found.{Found}
use Rattle.ix_grammar_rules.specs.declared.aims.Part.{Part}
use Rattle.ix_grammar_rules.specs.Reading.{ReadsParts}
use Rattle.ix_grammar_rules.specs.Rule.{Rule, Outcome, Parser, bind, loop, and_then, run}
use Rattle.ix_grammar_rules.specs.ExprRules.{Below, level_of, operand, below, inner, inner_init, expr, level, variable, init}
use Rattle.ix_grammar_rules.proofs.Heights.{whole_below, level_below, variable_below, init_below, inner_below, inner_init_below}

pub lower_whole : (left : ℕ) → 0 < left → (below left).lower.whole ≡ expr (left - 1)
lower_whole left positive = whole_below left (left - 1) (omega (arith, positive))

pub lower_level : (left n : ℕ) → 0 < left → (below left).lower.level n ≡ level (left - 1) n
lower_level left n positive = level_below left (left - 1) n (omega (arith, positive))

pub lower_variable : (left : ℕ) → 0 < left → (below left).lower.variable ≡ variable (left - 1)
lower_variable left positive = variable_below left (left - 1) (omega (arith, positive))

pub lower_init : (left : ℕ) → 0 < left → (below left).lower.init ≡ init (left - 1)
lower_init left positive = init_below left (left - 1) (omega (arith, positive))

pub inner_is : (left extra : ℕ) → extra ≤ 1 → extra < left → inner (below left) extra ≡ expr (left - (extra + 1))
inner_is left extra once room = inner_below left (left - (extra + 1)) extra once (omega (arith, room))

pub inner_init_is : (left extra : ℕ) → extra ≤ 1 → extra < left → inner_init (below left) extra ≡ init (left - (extra + 1))
inner_init_is left extra once room = inner_init_below left (left - (extra + 1)) extra once (omega (arith, room))

pub ruleset lower_parts = (lower_whole, lower_level, lower_variable, lower_init)

pub ruleset inner_parts = (inner_is, inner_init_is)

-- What reads the parts of a node reads those of a lower one.
pub fewer_parts : (left lower : ℕ) {pre : Global → MutBor (List Token) → ℕ → Part → Type 0} {post : Global → MutBor (List Token) → ℕ → Part → Result Found Stop → MutBor (List Token) → Type 0}
    → ReadsParts left pre post → lower ≤ left → ReadsParts lower pre post
fewer_parts left lower p le = record {
  callable = λ alloc old height part h few. p.callable alloc old height part (omega (arith, h, le)) few;
  reads = p.reads;
  no_longer = p.no_longer;
  fits = p.fits;
}

then_again : {A B C : Type 0} (first : Outcome A) (f : A → Parser B) (g : B → Parser C) → and_then first (λ a ts. and_then (f a ts) g) ≡ and_then (and_then first f) g
then_again (Ok p) f g = refl
then_again (Err e) f g = refl

-- Of three rules it is of no account which two are put together first.
pub bind_twice : {A B C : Type 0} (first : Rule A) (second : A → Rule B) (third : B → Rule C) (tokens : List Token)
    → run (bind first (λ a. bind (second a) third)) tokens ≡ run (bind (bind first second) third) tokens
unfolding run
bind_twice first second third tokens = then_again (run first tokens) (λ a. run (second a)) (λ b. run (third b))

level_above : (b : Below) (left levels k : ℕ) → levels ≡ suc k → level_of b left levels ≡ bind (level_of b left k) (loop (operand b left k))
unfolding level_of
level_above b left levels k e = rw e refl

pub next_level : (b : Below) (left levels : ℕ) → 0 < levels → level_of b left levels ≡ bind (level_of b left (levels - 1)) (loop (operand b left (levels - 1)))
next_level b left levels positive = level_above b left levels (levels - 1) (omega (arith, positive))
