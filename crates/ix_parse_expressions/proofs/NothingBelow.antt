-- An expression for which no height is left isn't read, whatever its parts would be read with.
use Rattle.std.proofs.Common.{◌≡◌, ℕ, zero, suc, ◌-◌, ◌<◌, false, List, Option, Some, None, Err, Ok, refl, sym, ◌∙◌, arith}
use Rattle.ix_lexer.specs.declared.token.Token.{Token}
use Rattle.ix_grammar_rules.specs.declared.stop.Stop.{Stop}
use Rattle.ix_grammar_rules.specs.declared.stop.Stop.TheVariants.{Syntax, TooDeep}
use Rattle.ix_grammar_rules.specs.declared.aims.Aim.TheVariants as aim
use Rattle.ix_grammar.specs.declared.found.Found.{Found}
use Rattle.ix_grammar_rules.specs.Rule.{Rule, take, bind, stop, Outcome, Parser, and_then, look, taken, run}
use Rattle.ix_grammar_rules.specs.ExprRules.{Below, below, parts_of, first_part, word, primary_of, value_of, prefixed, unary_of, level_of, whole_of, expr}
use Rattle.ix_grammar_rules.proofs.Heights.{whole_below}
use Rattle.ix_grammar_rules.proofs.ExprHeights.{expr_within}

-- Two rules stop alike.
abbrev Alike : {A B : Type 0} → Outcome A → Outcome B → Type 0
Alike a b = (e : Stop × List Token) × (a ≡ Err e) × (b ≡ Err e)

taken_alike : {A V : Type 0} (here there : V → Parser A) (other another : Parser A) (found : Option V) (ts : List Token)
    → Alike (other ts) (another ts) → Alike (taken false here other found ts) (taken false there another found ts)
taken_alike here there other another (Some v) ts alike = ((TooDeep, ts), refl, refl)
taken_alike here there other another None ts alike = alike

take_alike : {A V : Type 0} (want : Token → Option V) (here there : V → Rule A) (other another : Rule A) (ts : List Token)
    → Alike (run other ts) (run another ts) → Alike (run (take want false here other) ts) (run (take want false there another) ts)
unfolding run
take_alike want here there other another ts alike = taken_alike (λ v. run (here v)) (λ v. run (there v)) (run other) (run another) (look want ts) ts alike

then_alike : {A B : Type 0} (a b : Outcome A) (f g : A → Parser B) → Alike a b → Alike (and_then a f) (and_then b g)
then_alike a b f g alike = (alike.0, rw alike.1 refl, rw alike.2 refl)

bind_alike : {A B : Type 0} (a b : Rule A) (f g : A → Rule B) (ts : List Token) → Alike (run a ts) (run b ts) → Alike (run (bind a f) ts) (run (bind b g) ts)
unfolding run
bind_alike a b f g ts alike = then_alike (run a ts) (run b ts) (λ x. run (f x)) (λ x. run (g x)) alike

stop_alike : {A : Type 0} (ts : List Token) → Alike (run (stop {A = A}) ts) (run (stop {A = A}) ts)
unfolding run
stop_alike ts = ((Syntax, ts), refl, refl)

module _ (b c : Below) (ts : List Token) where
  word_alike : Alike (run (word aim.Value 0 stop) ts) (run (word aim.Value 0 stop) ts)
  unfolding word
  word_alike = take_alike _ _ _ _ _ ts (take_alike _ _ _ _ _ ts (take_alike _ _ _ _ _ ts (take_alike _ _ _ _ _ ts (stop_alike ts))))

  first_alike : Alike (run (first_part b aim.Value 0) ts) (run (first_part c aim.Value 0) ts)
  unfolding first_part
  first_alike = take_alike _ _ _ _ _ ts (take_alike _ _ _ _ _ ts (take_alike _ _ _ _ _ ts (take_alike _ _ _ _ _ ts word_alike)))

  primary_alike : Alike (run (primary_of b aim.Value 0) ts) (run (primary_of c aim.Value 0) ts)
  unfolding primary_of
  primary_alike = bind_alike _ _ _ _ ts first_alike

  value_alike : Alike (run (value_of b 0) ts) (run (value_of c 0) ts)
  unfolding value_of
  value_alike = bind_alike _ _ _ _ ts primary_alike

  unary_alike : Alike (run (unary_of b 0) ts) (run (unary_of c 0) ts)
  unfolding unary_of prefixed
  unary_alike = take_alike _ _ _ _ _ ts (take_alike _ _ _ _ _ ts (take_alike _ _ _ _ _ ts value_alike))

  level_alike : (n : ℕ) → Alike (run (level_of b 0 n) ts) (run (level_of c 0 n) ts)
  unfolding level_of
  level_alike zero = unary_alike
  level_alike (suc n) = bind_alike _ _ _ _ ts (level_alike n)

  whole_alike : Alike (run (whole_of b 0) ts) (run (whole_of c 0) ts)
  unfolding whole_of
  whole_alike = bind_alike _ _ _ _ ts (level_alike 10)

  same_whole : run (whole_of b 0) ts ≡ run (whole_of c 0) ts
  same_whole = whole_alike.1 ∙ sym whole_alike.2

-- A value of an initialiser is read as an expression that is lower, or as one for which no height is left.
pub lower_value : (height : ℕ) (ts : List Token) → run (below height).lower.whole ts ≡ run (expr (height - 1)) ts
unfolding below parts_of
lower_value zero ts = same_whole _ _ ts
lower_value (suc n) ts = rw (whole_below (suc n) (suc n - 1) (omega arith)) refl

pub some_height : (height : ℕ) (ts us : List Token) (f : Found) → run (expr height) ts ≡ Ok (f, us) → 0 < f.height
some_height height ts us f is = let within = expr_within height in let it = within.at ts us f is in it.0

pub ruleset lower_values = (lower_value, some_height)
