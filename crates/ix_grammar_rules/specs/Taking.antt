-- What the code ensures that follows a rule.
use Rattle.std.specs.Prelude.{◌≡◌, ◌≢◌, List, Result, Ok, Err}
use Rattle.ix_lexer.specs.declared.token.Token.{Token}
use Rattle.ix_grammar_rules.specs.declared.stop.Stop.{Stop}
use Rattle.ix_grammar_rules.specs.declared.stop.Stop.TheVariants.{Memory}
use Rattle.ix_grammar_rules.specs.Rule.{Outcome}

-- The answer of a function that follows a rule: the rule's outcome, unless memory fails.
abbrev pub Follows : {A : Type 0} → Outcome A → Result A Stop → List Token → Type 0
Follows outcome (Ok node) new = outcome ≡ Ok (node, new)
Follows outcome (Err stopped) new = stopped ≢ Memory → outcome ≡ Err (stopped, new)
