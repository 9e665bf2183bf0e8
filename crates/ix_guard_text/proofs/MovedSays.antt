-- The table of names of a source whose places are moved says at each place moved what the source's says at the place.
use Rattle.std.proofs.Common.{◌≡◌, List, map, ap, ◌∙◌}
use Rattle.ix_tree.specs.declared.decl.Unit.{Unit as Source}
use Rattle.ix_meaning.specs.declared.note.Note.{Note}
use Rattle.ix_meaning.specs.Resolved.{Accepts, names_in, names}
use Rattle.ix_meaning.specs.Source.{notes}
use Rattle.ix_guard_text.specs.Woven.{Added}
use Rattle.ix_guard_text.specs.Moved.{Move, moved_source, moved_span}
use Rattle.ix_guard_text.specs.GuardedNames.{SaysMoved}
use Rattle.ix_guard_text.specs.Interleaved.{moving}
use Rattle.ix_guard_text.specs.MovedNotes.{moved_note, IsInjective}
use Rattle.ix_guard_text.proofs.AcceptedMoved.{notes_moved, meaning_moved, type_moved, declared_moved}
use Rattle.ix_guard_text.proofs.MovingApart.{moving_is_injective}

-- by any notes that are those of the source, each at its place moved
pub says_with : (move : Move) → IsInjective move → (ns ms : List Note) → ms ≡ map (moved_note move) ns → SaysMoved (names_in ns) (names_in ms) move
says_with move apart ns ms e = record {
  meaning = λ p. ap (λ (list : List Note). (names_in list).meaning (moved_span move p)) e ∙ meaning_moved move apart p ns;
  type_of = λ p. ap (λ (list : List Note). (names_in list).type_of (moved_span move p)) e ∙ type_moved move apart p ns;
  declared = λ p. ap (λ (list : List Note). (names_in list).declared (moved_span move p)) e ∙ declared_moved move apart p ns;
}

pub moved_says : (move : Move) → IsInjective move → (unit : Source) → Accepts unit → SaysMoved (names unit) (names (moved_source move unit)) move
moved_says move apart unit accepts = says_with move apart (notes unit.classes) (notes (moved_source move unit).classes) (notes_moved move apart unit accepts)

-- where what is inserted in a text moves them
pub inserted_says : (added : List Added) (unit : Source) → Accepts unit → SaysMoved (names unit) (names (moved_source (moving added) unit)) (moving added)
inserted_says added = moved_says (moving added) (moving_is_injective added)
