-- What functions promise that read the parts of a node, and words that functions read with.
use Rattle.std.specs.Prelude.{◌≡◌, ◌≢◌, ◌<◌, ◌≤◌, ℕ, List, length, Result, Ok, Err, OnOk, IfOk}
use Rattle.std.specs.declared.alloc.Global.{Global}
use Rattle.std.specs.Borrow.{MutBor}
use Rattle.ix_lexer.specs.declared.token.Token.{Token}
use Rattle.ix_grammar.specs.declared.declarations.Word.{Word}
use Rattle.ix_grammar_rules.specs.declared.aims.Words.{Words}
use Rattle.ix_grammar_rules.specs.declared.aims.Words.TheVariants.{Member, Local}
use Rattle.ix_grammar_rules.specs.declared.stop.Stop.{Stop}
use Rattle.ix_grammar_rules.specs.declared.stop.Stop.TheVariants.{Memory}
use Rattle.ix_grammar.specs.declared.found.Found.{Found}
use Rattle.ix_grammar_rules.specs.declared.aims.Part.{Part}
use Rattle.ix_grammar_rules.specs.declared.aims.Part.TheVariants.{Whole, Level, Variable}
use Rattle.ix_grammar.specs.DeclGrammar.{member_words, local_words}
use Rattle.ix_grammar_rules.specs.ExprRules.{expr, level, variable}
use Rattle.ix_grammar_rules.specs.Rule.{Rule, Outcome, Turn, On, run}
use Rattle.ix_grammar_rules.specs.Taking.{Follows}

-- the words of a table
abbrev pub words_of : Words → List (ℕ × Word)
words_of Member = member_words
words_of Local = local_words

-- The answer of a function that follows a turn that goes on: its state, unless memory fails.
abbrev pub GoesOn : {S B : Type 0} → Outcome (Turn S B) → Result S Stop → List Token → Type 0
GoesOn outcome (Ok state) new = outcome ≡ Ok (On state, new)
GoesOn outcome (Err stopped) new = stopped ≢ Memory → outcome ≡ Err (stopped, new)

-- the rule of a part, of a height of at most so much
abbrev pub part_rule : ℕ → Part → Rule Found
part_rule left Whole = expr left
part_rule left (Level n) = level left n
part_rule left Variable = variable left

-- `pre` and `post` are those of a function value that reads each part of a height below `left`, of 200,000 tokens at most.
pub record ReadsParts (left : ℕ) (pre : Global → MutBor (List Token) → ℕ → Part → Type 0)
    (post : Global → MutBor (List Token) → ℕ → Part → Result Found Stop → MutBor (List Token) → Type 0) : Type 0 where
  pub callable : (alloc : Global) (old : MutBor (List Token)) (height : ℕ) (part : Part) → height < left → length old.now ≤ 200000 → pre alloc old height part
  pub reads : (alloc : Global) (old new : MutBor (List Token)) (height : ℕ) (part : Part) (result : Result Found Stop) → post alloc old height part result new
      → Follows (run (part_rule height part) old.now) result new.now
  pub no_longer : (alloc : Global) (old new : MutBor (List Token)) (height : ℕ) (part : Part) (result : Result Found Stop) → post alloc old height part result new
      → OnOk result (length new.now ≤ length old.now)
  pub fits : (alloc : Global) (old new : MutBor (List Token)) (height : ℕ) (part : Part) (result : Result Found Stop) → post alloc old height part result new
      → IfOk result (λ f. f.height ≤ height)
