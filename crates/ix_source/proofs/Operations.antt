-- Operations that take a new slot: lengths, new arrays, and whatever goes along with an action.
use Rattle.std.proofs.Common.{◌≡◌, ◌≤◌, ◌<◌, ℕ, ◌+◌, ℤ, pos, negsuc, Bool, true, false, List, [], ◌∷◌, ◌++◌, length, map, Ok, Err, refl, sym, ap, arith}
use Rattle.std.specs.Prelude.{slice_set, if◌then◌else◌, replicate, nat_lt}
use Rattle.std.proofs.lemmas.List.{append-nil}
use Rattle.ix_text.specs.declared.span.Span.{Span}
use Rattle.ix_core.specs.declared.claim.Type_.{Type_}
use Rattle.ix_core.specs.declared.op.OpKind.{OpKind}
use Rattle.ix_core.specs.declared.op.OpKind.TheVariants as op
use Rattle.ix_core.specs.Code.{Code}
use Rattle.ix_core.specs.Heap.{Held, Num, Boolean, Null, At, Heap, ArrayOf, value_at, array_at, cell_default}
use Rattle.ix_core.specs.Machine.{State, Effect, Done as Did, NullUsed, Negative, no_limits, int_at}
use Rattle.ix_core.specs.Machine as machine
use Rattle.ix_core.specs.Tasks.{Tasks, code_then}
use Rattle.ix_meaning.specs.declared.note.Which.TheVariants as which
use Rattle.ix_plain.specs.declared.made.Made.{Made}
use Rattle.ix_plain.specs.Parts.{Value, done, taking, most_slots}
use Rattle.ix_source.specs.Runs.{Now, Result, Gives, Stops, Cuts, Action, gives, with_heap}
use Rattle.ix_source.specs.Values.{length_of, array_of}
use Rattle.ix_source.specs.Values as source
use Rattle.ix_source.specs.Seen.{Frame, at, Decides}
use Rattle.ix_source.specs.Along.{Setting, IsSet, Agrees, Along}
use Rattle.ix_source.specs.Kept.{Makes, code_before, Fact, IsIn, Stays, Done}
use Rattle.ix_source.proofs.Going.{at_once}
use Rattle.ix_source.proofs.Made.{gave, stopped_at, before, taken, OpDoes}

quiet : (now : Now) → now.events ≡ now.events ++ []
quiet now = sym (append-nil now.events)

module _ (z : Setting) where
  -- what is known less of where it arrives
  pub along_as : {A : Type 0} (f : Frame) (start : State) (next : A → Tasks) (holds less : A → List Held → Type 0) (free : ℕ) (slots : List Held) (now : Now) → ((value : A) (slots : List Held) → holds value slots → less value slots)
      → (r : Result A) → Along z f start next holds free slots now r → Along z f start next less free slots now r
  along_as f start next holds less free slots now weaker (Gives value after) a = record { behind = a.behind; shows = a.shows; leads = a.leads; events = a.events; agrees = a.agrees; keeps = a.keeps; held = weaker value a.behind a.held }
  along_as f start next holds less free slots now weaker (Stops ending after) a = record { final = a.final; shows = a.shows; leads = a.leads; ended = a.ended; wrapped = a.wrapped; events = a.events }
  along_as f start next holds less free slots now weaker (Cuts after) a = record { state = a.state; shows = a.shows; leads = a.leads; far = a.far; ended = a.ended; wrapped = a.wrapped; events = a.events }

  pub done_as : {X A : Type 0} (known : Fact X) (made after : Made) (action : X → Action A) (holds less : Fact A) → ((value : A) (slots : List Held) → holds value slots → less value slots) → Stays z after.free less → Done z known made after action holds → Done z known made after action less
  done_as {X} {A} known made after action holds less weaker stays d = record {
    items = d.items;
    appended = d.appended;
    up = d.up;
    stays = stays;
    does = λ x f rest tasks slots now room agrees knows decides.
        along_as f (at f (code_then (code_before d.items rest) tasks) slots now.heap now.wrapped) (λ (value : A). code_then rest tasks) holds less made.free slots now weaker (action x now) (d.does x f rest tasks slots now room agrees knows decides);
  }

  -- what is in place already
  pub at_hand : {X A : Type 0} (known : Fact X) (made : Made) (value : X → A) (holds : Fact A) → Stays z made.free holds → ((x : X) (slots : List Held) → known x slots → holds (value x) slots) → Done z known made made (λ x. gives (value x)) holds
  at_hand {X} {A} known made value holds stays implied = record {
    items = [];
    appended = sym (append-nil made.items);
    up = omega arith;
    stays = stays;
    does = λ x f rest tasks slots now room agrees knows decides. at_once z f (λ (value : A). code_then rest tasks) holds made.free slots now (value x) agrees (implied x slots knows);
  }

  -- An item that takes the first free slot does what the action does; what is known of its slot stays.
  abbrev pub TakesDoes : {X : Type 0} → Fact X → ℕ → OpKind → Span → (X → Action Held) → Fact Held → Type 0
  TakesDoes {X} known free kind span action holds = (x : X) (f : Frame) (rest : Code) (tasks : Tasks) (slots : List Held) (now : Now) → free < length slots → Agrees z slots now.variables → known x slots
      → Decides z.tables (at f (before z kind span [] rest tasks) slots now.heap now.wrapped) → Along z f (at f (before z kind span [] rest tasks) slots now.heap now.wrapped) (λ value. code_then rest tasks) holds free slots now (action x now)

  taken_as : {X : Type 0} (known : Fact X) (made : Made) (kind : OpKind) (span : Span) (action : X → Action Held) (holds : ℕ → Fact Held) → Stays z (made.free + 1) (holds made.free) → TakesDoes known made.free kind span action (holds made.free)
      → (b : Bool) → Makes (λ (v : Value). Done z known made v.made action (holds v.slot)) (if b then Ok (record { made = record { items = made.items ++ done kind span [] ∷ []; free = made.free + 1 }; slot = made.free }) else Err which.Slots)
  taken_as known made kind span action holds stays does true = record {
    items = done kind span [] ∷ [];
    appended = refl;
    up = omega arith;
    stays = stays;
    does = λ x f rest tasks slots now room agrees knows decides. does x f rest tasks slots now (omega (arith, room)) agrees knows decides;
  }
  taken_as known made kind span action holds stays does false = tt

  -- `holds` says what is known of the slot that is taken
  pub takes : {X : Type 0} (known : Fact X) (made : Made) (kind : OpKind) (span : Span) (action : X → Action Held) (holds : ℕ → Fact Held) → Stays z (made.free + 1) (holds made.free) → TakesDoes known made.free kind span action (holds made.free)
      → Makes (λ (v : Value). Done z known made v.made action (holds v.slot)) (taking made (done kind span []))
  takes known made kind span action holds stays does = taken_as known made kind span action holds stays does (nat_lt made.free most_slots)

  module _ (set : IsSet z) where
    -- the same of an operation with parts, whose slot holds the value
    pub takes_parts : {X : Type 0} (known : Fact X) (made : Made) (kind : OpKind) (span : Span) (parts : List Span) (action : X → Action Held) → z.base ≤ made.free → OpDoes z known made.free kind span parts action
        → Makes (λ (v : Value). Done z known made v.made action (IsIn v.slot)) (taking made (done kind span parts))
    takes_parts known made kind span parts action le does = taken z set known made kind span parts action le does (nat_lt made.free most_slots)

    -- ---- the length of an array

    lengths : Span → ℕ → List Held → Heap → Held → Effect
    lengths span free slots heap held = machine.assign_length no_limits z.tables span.from slots heap free held

    pub length_given : (f : Frame) (free array : ℕ) (span : Span) (rest : Code) (tasks : Tasks) (slots : List Held) (now : Now) → z.base ≤ free → free < length slots → Agrees z slots now.variables → (held : Held) → value_at slots array ≡ held
        → Along z f (at f (before z (op.Length free array) span [] rest tasks) slots now.heap now.wrapped) (λ value. code_then rest tasks) (IsIn free) free slots now (length_of span.from held now)
    unfolding lengths
    length_given f free array span rest tasks slots now le room agrees (At number) is =
        gave z set f (op.Length free array) span [] rest tasks slots now now free (Num (pos (length (array_at now.heap number)))) le room agrees (ap (lengths span free slots now.heap) is) refl refl (quiet now)
    length_given f free array span rest tasks slots now le room agrees (Num n) is =
        gave z set f (op.Length free array) span [] rest tasks slots now now free (Num (pos 0)) le room agrees (ap (lengths span free slots now.heap) is) refl refl (quiet now)
    length_given f free array span rest tasks slots now le room agrees (Boolean answer) is =
        gave z set f (op.Length free array) span [] rest tasks slots now now free (Num (pos 0)) le room agrees (ap (lengths span free slots now.heap) is) refl refl (quiet now)
    length_given f free array span rest tasks slots now le room agrees Null is =
        stopped_at z f (op.Length free array) span [] rest tasks slots now now (NullUsed span.from) (λ value. code_then rest tasks) (IsIn free) free (ap (lengths span free slots now.heap) is) refl (quiet now)

    -- ---- new arrays

    pub array_given : (f : Frame) (free size : ℕ) (ty : Type_) (span : Span) (rest : Code) (tasks : Tasks) (slots : List Held) (now : Now) → z.base ≤ free → free < length slots → Agrees z slots now.variables → (n : ℤ) → int_at slots size ≡ n
        → Along z f (at f (before z (op.NewArray free ty size) span [] rest tasks) slots now.heap now.wrapped) (λ value. code_then rest tasks) (IsIn free) free slots now (array_of span.from ty n now)
    array_given f free size ty span rest tasks slots now le room agrees (pos count) is =
        gave z set f (op.NewArray free ty size) span [] rest tasks slots now (with_heap (now.heap ++ record { kind = ArrayOf ty; cells = replicate count (cell_default ty) } ∷ []) now) free (At (length now.heap)) le room agrees
        (ap (machine.new_array no_limits z.tables span.from slots now.heap free ty) is) refl refl (quiet now)
    array_given f free size ty span rest tasks slots now le room agrees (negsuc n) is =
        stopped_at z f (op.NewArray free ty size) span [] rest tasks slots now now (Negative (negsuc n) span.from) (λ value. code_then rest tasks) (IsIn free) free (ap (machine.new_array no_limits z.tables span.from slots now.heap free ty) is) refl (quiet now)

    -- an array of what these slots hold
    pub fill_given : (f : Frame) (free : ℕ) (ty : Type_) (entries : List ℕ) (span : Span) (parts : List Span) (rest : Code) (tasks : Tasks) (slots : List Held) (now : Now) → z.base ≤ free → free < length slots → Agrees z slots now.variables → (values : List Held) → map (value_at slots) entries ≡ values
        → Along z f (at f (before z (op.Fill free ty entries) span parts rest tasks) slots now.heap now.wrapped) (λ value. code_then rest tasks) (IsIn free) free slots now (source.made (record { kind = ArrayOf ty; cells = values }) now)
    fill_given f free ty entries span parts rest tasks slots now le room agrees values is =
        gave z set f (op.Fill free ty entries) span parts rest tasks slots now (with_heap (now.heap ++ record { kind = ArrayOf ty; cells = values } ∷ []) now) free (At (length now.heap)) le room agrees
        (ap (λ cells. Did (slice_set slots free (At (length now.heap))) (now.heap ++ record { kind = ArrayOf ty; cells = cells } ∷ [])) is) refl refl (quiet now)
