-- What a rule reads that takes a token, by whether it is wanted and whether what it begins fits; and what is known of a function's answer that is a call's.
use Rattle.std.proofs.Common.{◌≡◌, ℕ, ◌≤◌, Bool, true, List, Option, Some, None, Result, Ok, Err, OnOk, refl, sym, arith}
use Rattle.ix_lexer.specs.declared.token.Token.{Token}
use Rattle.ix_grammar_rules.specs.declared.stop.Stop.{Stop}
use Rattle.ix_grammar_rules.specs.Rule.{Rule, take, look, rest, run}

module _ {A V : Type 0} (want : Token → Option V) (fits : Bool) (here : V → Rule A) (other : Rule A) (ts : List Token) where
  pub taken_here : (v : V) (later : List Token) → Some v ≡ look want ts → fits ≡ true → later ≡ rest ts → run (take want fits here other) ts ≡ run (here v) later
  unfolding run
  taken_here v later is fit goes = rw (sym is, fit, sym goes) refl

  pub not_taken : None ≡ look want ts → run (take want fits here other) ts ≡ run other ts
  unfolding run
  not_taken none = rw (sym none) refl

-- Where a call leaves no more tokens than there were before it, and there were no more than at first.
pub still_fewer : {A : Type 0} (r : Result A Stop) (new between old : ℕ) → OnOk r (new ≤ between) → between ≤ old → OnOk r (new ≤ old)
still_fewer (Ok x) new between old l m = omega (arith, l, m)
still_fewer (Err e) new between old l m = l
