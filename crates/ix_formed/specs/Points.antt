-- What is known of slots at a point of a body, and how items lead from one point to another.
use Rattle.std.specs.Prelude.{◌≡◌, ◌<◌, ℕ, Bool, true, List, Some, None}
use Rattle.ix_core.specs.declared.claim.Type_.{Type_}
use Rattle.ix_core.specs.declared.code.Cond.{Cond}
use Rattle.ix_core.specs.declared.code.Item.{Item}
use Rattle.ix_core.specs.declared.program.Method.{Method}
use Rattle.ix_core.specs.declared.program.Program.{Program}
use Rattle.ix_core.specs.Code.{Code, cond_code}
use Rattle.ix_core.specs.Formed.{code_ways, condition_ways}
use Rattle.ix_core.specs.Types.{Point}
use Rattle.ix_formed.specs.Additions.{code_before}

-- where a way leads there the slot has that type
abbrev pub Known : Point → ℕ → Type_ → Type 0
Known None slot ty = Unit {0}
Known (Some types) slot ty = types slot ≡ Some ty

-- of the slots below that number all types that were known still are
abbrev pub Keeps : ℕ → Point → Point → Type 0
Keeps count before after = (slot : ℕ) → slot < count → (ty : Type_) → Known before slot ty → Known after slot ty

module _ (p : Program) (method : Method) (locals : List Type_) where
  -- items that fit lead from one point to another, whatever is behind them
  abbrev pub Leads : List Item → Point → Point → Type 0
  Leads items before after = (in_loop : Bool) (rest : Code) → code_ways p method locals in_loop (code_before items rest) before ≡ code_ways p method locals in_loop rest after

  -- a condition that fits leads to one point where it is true and to one where it is false
  pub record Decides (asked : Cond) (before holds fails : Point) : Type 0 where
    pub fits : (condition_ways p method locals (cond_code asked) before).fits ≡ true
    pub true_at : (condition_ways p method locals (cond_code asked) before).holds ≡ holds
    pub false_at : (condition_ways p method locals (cond_code asked) before).fails ≡ fails
