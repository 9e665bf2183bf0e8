-- All errors of a method, and of a program: those that the rules derive at the least labels, and those of the text.
use Rattle.std.specs.Prelude.{◌⊎◌, ℕ, zero, suc, ◌+◌, ◌<◌, ◌^◌, length}
use Rattle.std.specs.Option.{ForSome}
use Rattle.ix_core.specs.declared.error.Error.{Error}
use Rattle.ix_core.specs.declared.fact.Profile.{Profile}
use Rattle.ix_core.specs.declared.program.Method.{Method}
use Rattle.ix_core.specs.declared.program.Program.{Program}
use Rattle.ix_core.specs.Code.{block_code}
use Rattle.ix_core.specs.Tables.{method_at, body_of}
use Rattle.ix_facts.specs.Stores.{Stored}
use Rattle.ix_flow.specs.Flow.{Point, IsDerived}
use Rattle.ix_graph.specs.Graph.{behind_code, method_parts}
use Rattle.ix_graph.specs.Heads.{AreInOrder}
use Rattle.ix_sign.specs.MethodRules.{method_rules}
use Rattle.ix_sign.specs.RuleErrors.{PointErrors, TextErrors}
use Rattle.ix_errors.specs.declared.ranked.Ranked.{Ranked}
use Rattle.ix_signatures.specs.Naming.{HaveSmallNames}
use Rattle.ix_soundness.specs.Sound.{HasNoErrors}

-- what a store gives at a point
abbrev pub Derives : Program → Method → ℕ → Point → Stored → Ranked → Type 0
Derives program method number point store found = PointErrors program method number point store found.error found.rank

-- An error of a method: no flow of its body avoids it, whatever facts are taken to be known at each place, or the text alone gives it. A weaker store has all
-- errors of a stronger one, so those that no flow avoids are those at the least labels (`derived_exactly` of ix_graph).
abbrev pub IsErrorOf : Program → Profile → ℕ → Error → ℕ → Type 0
IsErrorOf program profile number error rank =
    IsDerived (method_rules program (method_at program number) profile) (Derives program (method_at program number) number) (body_of (method_at program number)) (record { error = error; rank = rank })
    ⊎ TextErrors program (method_at program number) number error rank

-- What is asked of a program so that it can be judged: its numbers have 32 bits, loops are numbered in source order.
pub record IsReady (program : Program) : Type 0 where
  pub few : length program.methods < 2 ^ 32
  pub small : HaveSmallNames program
  pub upper : (number : ℕ) → number < length program.methods → ForSome (method_at program number).overrides (λ over. over < length program.methods)
  pub loops : (number : ℕ) → number < length program.methods → AreInOrder 0 (method_parts (block_code (method_at program number).body))

-- the errors of the first so many methods
pub record IsErrorBelow (program : Program) (profile : Profile) (count : ℕ) (error : Error) (rank : ℕ) : Type 0 where
  pub number : ℕ
  pub before : number < count
  pub of : IsErrorOf program profile number error rank

-- an error of one of the program's methods
abbrev pub IsError : Program → Profile → Error → ℕ → Type 0
IsError program profile = IsErrorBelow program profile (length program.methods)

-- the first so many methods have none
abbrev pub HaveNone : Program → Profile → ℕ → Type 0
HaveNone program profile count = (number : ℕ) → number < count → HasNoErrors program profile number

-- how many nodes the graphs of the first so many methods have
abbrev pub nodes_below : Program → ℕ → ℕ
nodes_below program zero = 0
nodes_below program (suc count) = nodes_below program count + behind_code (block_code (method_at program count).body) 2
