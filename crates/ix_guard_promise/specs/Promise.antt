-- What is promised of a guarded text: no error of bounds is derived at a guarded access, and a run of it prints what a run of the source prints, up to the throw of a
-- guard.
use Rattle.std.specs.Prelude.{◌≡◌, ◌≤◌, ℕ, List, length, Ok}
use Rattle.ix_core.specs.declared.error.Error.{Error}
use Rattle.ix_core.specs.declared.fact.Profile.{Profile}
use Rattle.ix_core.specs.declared.program.Program.{Program}
use Rattle.ix_core.specs.Safe.{Input}
use Rattle.ix_lexer.specs.declared.token.Token.{Token}
use Rattle.ix_lexer.specs.Tokens.{Tokens, most_tokens}
use Rattle.ix_tree.specs.declared.decl.Unit.{Unit as Source}
use Rattle.ix_grammar.specs.Refusals.{HasTree}
use Rattle.ix_meaning.specs.Resolved.{Accepts, names}
use Rattle.ix_plain.specs.Program.{program as program_of}
use Rattle.ix_formed.specs.Additions.{AllOf}
use Rattle.ix_source.specs.Source.{source}
use Rattle.ix_check.specs.MethodErrors.{IsError}
use Rattle.ix_guard_promise.specs.BoundErrors.{IsOfBounds}
use Rattle.ix_guard.specs.Accesses.{Access}
use Rattle.ix_guard.specs.GuardedAccesses.{guarded_accesses}
use Rattle.ix_guard.specs.Guards.{source_insertions}
use Rattle.ix_guard_text.specs.Inserted.{added}
use Rattle.ix_guard_text.specs.Moved.{Move, moved_span}
use Rattle.ix_guard_text.specs.Interleaved.{moving}
use Rattle.ix_guard_promise.specs.Follows.{FollowsRun}
use Rattle.ix_guard_text.specs.Guarding.{IsGuarded}

-- The bytes have this tree.
pub record IsTreeOf (bytes : List ℕ) (unit : Source) : Type 0 where
  pub tokens : List Token
  pub lexed : Tokens bytes tokens
  pub few : length tokens ≤ most_tokens
  pub parsed : HasTree tokens unit

-- The bytes are a source without errors on names, with that program.
pub record HaveProgram (bytes : List ℕ) (program : Program) : Type 0 where
  pub unit : Source
  pub tree_of : IsTreeOf bytes unit
  pub accepts : Accepts unit
  pub made : program_of (names unit) unit.classes ≡ Ok program

-- where what stands in a source stands in its guarded text
abbrev pub into_guarded : Source → List Error → Move
into_guarded unit errors = moving (added (source_insertions unit (names unit) errors))

-- At the place that the index of a guarded access of the source has in the guarded text, the rules derive neither access.low nor access.high in this program.
abbrev pub AvoidsAt : Profile → Source → List Error → Program → Access → Type 0
AvoidsAt profile unit errors program access =
    (error : Error) (rank : ℕ) → IsOfBounds error → error.span ≡ moved_span (into_guarded unit errors) access.index.span → IsError program profile error rank → ⊥

abbrev pub AvoidsBounds : Profile → Source → List Error → Program → Type 0
AvoidsBounds profile unit errors program = AllOf (AvoidsAt profile unit errors program) (guarded_accesses unit (names unit) errors)

-- Each run of the new source, of any method on any inputs, ends and prints as that of the old one does; or it is cut, or a guard ends it, and it printed what that prints first.
abbrev pub FollowsSource : Source → List Error → Source → Type 0
FollowsSource unit errors new = (method : ℕ) (inputs : List Input) (n : ℕ) → FollowsRun (into_guarded unit errors) (source new method inputs n) (source unit method inputs n)

-- So it is of the program and the tree of the guarded text of these bytes, whatever errors are guarded against.
pub record GuardsWell (profile : Profile) (bytes : List ℕ) : Type 0 where
  pub avoids : (errors : List Error) (text : List ℕ) (guarded : IsGuarded bytes errors text) (program : Program) → HaveProgram text program → AvoidsBounds profile guarded.named.tree.source errors program
  pub follows : (errors : List Error) (text : List ℕ) (guarded : IsGuarded bytes errors text) (new : Source) → IsTreeOf text new → FollowsSource guarded.named.tree.source errors new
