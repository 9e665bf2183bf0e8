-- In the plain program of a guarded text each access at a place moved is guarded, where names say at each place moved what the source's say.
use Rattle.std.proofs.Common.{◌≡◌, ◌<◌, ◌^◌, ℕ, ◌+◌, List, Ok, sym, subst}
use Rattle.ix_text.specs.declared.span.Span.{Span}
use Rattle.ix_core.specs.declared.error.Error.{Error}
use Rattle.ix_core.specs.declared.program.Program.{Program}
use Rattle.ix_core.specs.Tables.{method_at, body_of}
use Rattle.ix_tree.specs.declared.decl.Unit.{Unit as Source}
use Rattle.ix_meaning.specs.Resolved.{Names, names, Accepts}
use Rattle.ix_meaning.specs.Source.{members_in}
use Rattle.ix_plain.specs.Program.{program}
use Rattle.ix_formed.specs.Parsed.{IsParsed}
use Rattle.ix_source.specs.Running.{Ground}
use Rattle.ix_guard_promise.specs.Guards.{Guards}
use Rattle.ix_guard_text.specs.Moved.{Move, moved_span}
use Rattle.ix_guard_text.specs.GuardedPlaces.{PlacedSource}
use Rattle.ix_guard_text.specs.GuardedNames.{SaysMoved, IsMeant}
use Rattle.ix_guard_promise.specs.SourceGuards.{SourceGuards}
use Rattle.ix_guard_promise.proofs.LawsHold.{laws_hold}
use Rattle.ix_guard_promise.proofs.ProgramsGuarded.{guarded_bodies}

-- No two places are moved to one; the tree stands beside that of its source; and in the source each access at the place stands behind a test of its variables.
pub program_guards : (old new : Source) (errors : List Error) (move : Move) (place : Span) (p : Program) → IsParsed new → Accepts new → members_in new.classes + 1 < 2 ^ 32 → program (names new) new.classes ≡ Ok p
    → PlacedSource (record { names = names old; errors = errors }) move (IsMeant (names old) (names new) move) old new → SaysMoved (names old) (names new) move
    → ((span other : Span) → moved_span move span ≡ moved_span move other → span ≡ other) → SourceGuards (record { names = names old; errors = errors }) place old
    → (number : ℕ) → Guards (moved_span move place) (body_of (method_at p number))
program_guards old new errors move place p parsed accepts few made placed says apart guards number =
    guarded_bodies old new errors move place p parsed accepts few made placed guards
    (λ (g : Ground) same. laws_hold (record { names = names old; errors = errors }) move place g apart (subst (λ (n : Names). SaysMoved (names old) n move) (sym same) says)) number
