-- Accesses of cells and fields: the operation does what the source does at the same values.
use Rattle.std.proofs.Common.{◌≡◌, ◌≤◌, ◌<◌, ℕ, pos, Bool, true, false, List, [], ◌++◌, length, Option, Some, None, refl, sym, ap, ◌∙◌}
use Rattle.std.specs.Prelude.{slice_set, if◌then◌else◌, unsigned_abs}
use Rattle.std.proofs.lemmas.List.{append-nil}
use Rattle.ix_text.specs.declared.span.Span.{Span}
use Rattle.ix_core.specs.declared.claim.Type_.{Type_}
use Rattle.ix_core.specs.declared.op.OpKind.TheVariants as op
use Rattle.ix_core.specs.Code.{Code}
use Rattle.ix_core.specs.Heap.{Held, At, Heap, value_at, object_at, array_at, place_in, is_within, write_at}
use Rattle.ix_core.specs.Machine.{Effect, Done as Did, Stopped, Outside, NullUsed, no_limits, operate, int_at}
use Rattle.ix_core.specs.Machine as machine
use Rattle.ix_core.specs.Tasks.{Tasks, code_then}
use Rattle.ix_source.specs.Runs.{access, Now, Stops, sees}
use Rattle.ix_source.specs.Context.{Context}
use Rattle.ix_source.specs.Values.{load, store, get_field, put_field, cell_read, field_read, written, at_field}
use Rattle.ix_core.specs.Traces.{op_seen, access_on, accessed}
use Rattle.ix_source.specs.Seen.{Frame, at}
use Rattle.ix_source.specs.Along.{Setting, IsSet, Agrees, Along}
use Rattle.ix_source.specs.Kept.{IsIn, nothing_known}
use Rattle.ix_source.proofs.Going.{keeps_all}
use Rattle.ix_source.proofs.Made.{gave, stopped_at, did, before}

quiet : (now : Now) → now.events ≡ now.events ++ []
quiet now = sym (append-nil now.events)

module _ (z : Setting) (set : IsSet z) where
  -- ---- reading a cell

  load_within : (f : Frame) (free array index : ℕ) (ty : Type_) (span : Span) (rest : Code) (tasks : Tasks) (slots : List Held) (now : Now) (number : ℕ) → z.base ≤ free → free < length slots → Agrees z slots now.variables
      → value_at slots array ≡ At number → (b : Bool)
      → operate no_limits z.tables span.from slots now.heap (op.Load free array index ty)
      ≡ (if b then Did (slice_set slots free (value_at (array_at now.heap number) (unsigned_abs (int_at slots index)))) now.heap else Stopped (Outside (int_at slots index) (pos (length (array_at now.heap number))) span.from))
      → Along z f (at f (before z (op.Load free array index ty) span [] rest tasks) slots now.heap now.wrapped) (λ value. code_then rest tasks) (IsIn free) free slots now
      ((if b then cell_read number (unsigned_abs (int_at slots index)) else (λ later. Stops (Outside (int_at slots index) (pos (length (array_at now.heap number))) span.from) later)) (sees (access (int_at slots index) (length (array_at now.heap number)) span.from) now))
  load_within f free array index ty span rest tasks slots now number le room agrees is true e =
      gave z set f (op.Load free array index ty) span [] rest tasks slots now (sees (access (int_at slots index) (length (array_at now.heap number)) span.from) now) free (value_at (array_at now.heap number) (unsigned_abs (int_at slots index))) le room agrees e refl refl
      (ap (λ held. now.events ++ accessed (access_on held (int_at slots index) now.heap span.from)) (sym is))
  load_within f free array index ty span rest tasks slots now number le room agrees is false e =
      stopped_at z f (op.Load free array index ty) span [] rest tasks slots now (sees (access (int_at slots index) (length (array_at now.heap number)) span.from) now) (Outside (int_at slots index) (pos (length (array_at now.heap number))) span.from) (λ value. code_then rest tasks) (IsIn free) free e refl
      (ap (λ held. now.events ++ accessed (access_on held (int_at slots index) now.heap span.from)) (sym is))

  load_null : (f : Frame) (free array index : ℕ) (ty : Type_) (span : Span) (rest : Code) (tasks : Tasks) (slots : List Held) (now : Now) → operate no_limits z.tables span.from slots now.heap (op.Load free array index ty) ≡ Stopped (NullUsed span.from)
      → op_seen (op.Load free array index ty) slots now.heap span.from ≡ []
      → Along z f (at f (before z (op.Load free array index ty) span [] rest tasks) slots now.heap now.wrapped) (λ value. code_then rest tasks) (IsIn free) free slots now (Stops (NullUsed span.from) now)
  load_null f free array index ty span rest tasks slots now e none =
      stopped_at z f (op.Load free array index ty) span [] rest tasks slots now now (NullUsed span.from) (λ value. code_then rest tasks) (IsIn free) free e refl (quiet now ∙ ap (λ es. now.events ++ es) (sym none))

  -- what the operation does, by what the array's slot holds
  loads : Span → ℕ → ℕ → List Held → Heap → Held → Effect
  loads span free index slots heap held =
      machine.through no_limits z.tables span.from slots heap held (λ number. machine.at_index no_limits z.tables span.from slots heap (int_at slots index) (array_at heap number) (λ cell. machine.assign no_limits z.tables span.from slots heap free (value_at (array_at heap number) cell)))

  pub load_given : (f : Frame) (free array index : ℕ) (ty : Type_) (span : Span) (rest : Code) (tasks : Tasks) (slots : List Held) (now : Now) → z.base ≤ free → free < length slots → Agrees z slots now.variables → (held : Held) → value_at slots array ≡ held
      → Along z f (at f (before z (op.Load free array index ty) span [] rest tasks) slots now.heap now.wrapped) (λ value. code_then rest tasks) (IsIn free) free slots now (load span.from held (value_at slots index) now)
  unfolding loads
  load_given f free array index ty span rest tasks slots now le room agrees (At number) is =
      load_within f free array index ty span rest tasks slots now number le room agrees is (is_within (int_at slots index) (length (array_at now.heap number))) (ap (loads span free index slots now.heap) is)
  load_given f free array index ty span rest tasks slots now le room agrees held is =
      load_null f free array index ty span rest tasks slots now (ap (loads span free index slots now.heap) is) (ap (λ held. accessed (access_on held (int_at slots index) now.heap span.from)) is)

  -- ---- writing a cell

  store_within : (f : Frame) (free array index value : ℕ) (ty : Type_) (span : Span) (parts : List Span) (rest : Code) (tasks : Tasks) (slots : List Held) (now : Now) (number : ℕ) → Agrees z slots now.variables → value_at slots array ≡ At number → (b : Bool)
      → operate no_limits z.tables span.from slots now.heap (op.Store array index value ty)
      ≡ (if b then Did slots (write_at now.heap number (unsigned_abs (int_at slots index)) (value_at slots value)) else Stopped (Outside (int_at slots index) (pos (length (array_at now.heap number))) span.from))
      → Along z f (at f (before z (op.Store array index value ty) span parts rest tasks) slots now.heap now.wrapped) (λ done. code_then rest tasks) nothing_known free slots now
      ((if b then written (value_at slots value) number (unsigned_abs (int_at slots index)) else (λ later. Stops (Outside (int_at slots index) (pos (length (array_at now.heap number))) span.from) later)) (sees (access (int_at slots index) (length (array_at now.heap number)) span.from) now))
  store_within f free array index value ty span parts rest tasks slots now number agrees is true e = record {
    behind = slots;
    shows = op_seen (op.Store array index value ty) slots now.heap span.from;
    leads = did z f (op.Store array index value ty) span parts rest tasks slots slots now.heap (write_at now.heap number (unsigned_abs (int_at slots index)) (value_at slots value)) now.wrapped e;
    events = ap (λ held. now.events ++ accessed (access_on held (int_at slots index) now.heap span.from)) (sym is);
    agrees = agrees;
    keeps = keeps_all z free slots;
    held = tt;
  }
  store_within f free array index value ty span parts rest tasks slots now number agrees is false e =
      stopped_at z f (op.Store array index value ty) span parts rest tasks slots now (sees (access (int_at slots index) (length (array_at now.heap number)) span.from) now) (Outside (int_at slots index) (pos (length (array_at now.heap number))) span.from) (λ done. code_then rest tasks) nothing_known free e refl
      (ap (λ held. now.events ++ accessed (access_on held (int_at slots index) now.heap span.from)) (sym is))

  stores : Span → ℕ → ℕ → List Held → Heap → Held → Effect
  stores span index value slots heap held =
      machine.through no_limits z.tables span.from slots heap held (λ number. machine.at_index no_limits z.tables span.from slots heap (int_at slots index) (array_at heap number) (λ cell. Did slots (write_at heap number cell (value_at slots value))))

  pub store_given : (f : Frame) (free array index value : ℕ) (ty : Type_) (span : Span) (parts : List Span) (rest : Code) (tasks : Tasks) (slots : List Held) (now : Now) → Agrees z slots now.variables → (held : Held) → value_at slots array ≡ held
      → Along z f (at f (before z (op.Store array index value ty) span parts rest tasks) slots now.heap now.wrapped) (λ done. code_then rest tasks) nothing_known free slots now (store span.from held (value_at slots index) (value_at slots value) now)
  unfolding stores
  store_given f free array index value ty span parts rest tasks slots now agrees (At number) is =
      store_within f free array index value ty span parts rest tasks slots now number agrees is (is_within (int_at slots index) (length (array_at now.heap number))) (ap (stores span index value slots now.heap) is)
  store_given f free array index value ty span parts rest tasks slots now agrees held is =
      stopped_at z f (op.Store array index value ty) span parts rest tasks slots now now (NullUsed span.from) (λ done. code_then rest tasks) nothing_known free (ap (stores span index value slots now.heap) is) refl
      (quiet now ∙ ap (λ es. now.events ++ es) (sym (ap (λ held. accessed (access_on held (int_at slots index) now.heap span.from)) is)))

  -- ---- reading and writing a field

  gets : Span → ℕ → ℕ → List Held → Heap → Held → Effect
  gets span free field slots heap held =
      machine.through no_limits z.tables span.from slots heap held (λ number. machine.at_place no_limits z.tables span.from slots heap (place_in z.tables.place (object_at heap number).kind field) (λ cell. machine.assign no_limits z.tables span.from slots heap free (value_at (object_at heap number).cells cell)))

  -- a call of these members is one of the machine's tables
  abbrev pub SamePlaces : Context → Type 0
  SamePlaces context = context.members.place ≡ z.tables.place

  get_at : (context : Context) (f : Frame) (free object field : ℕ) (span : Span) (rest : Code) (tasks : Tasks) (slots : List Held) (now : Now) (number : ℕ) → z.base ≤ free → free < length slots → Agrees z slots now.variables → value_at slots object ≡ At number → (place : Option ℕ)
      → operate no_limits z.tables span.from slots now.heap (op.ReadField free object field) ≡ machine.at_place no_limits z.tables span.from slots now.heap place (λ cell. machine.assign no_limits z.tables span.from slots now.heap free (value_at (object_at now.heap number).cells cell))
      → Along z f (at f (before z (op.ReadField free object field) span [] rest tasks) slots now.heap now.wrapped) (λ value. code_then rest tasks) (IsIn free) free slots now (at_field span.from place (λ cell. field_read number cell) now)
  get_at context f free object field span rest tasks slots now number le room agrees is None e = stopped_at z f (op.ReadField free object field) span [] rest tasks slots now now (NullUsed span.from) (λ value. code_then rest tasks) (IsIn free) free e refl (quiet now)
  get_at context f free object field span rest tasks slots now number le room agrees is (Some cell) e = gave z set f (op.ReadField free object field) span [] rest tasks slots now now free (value_at (object_at now.heap number).cells cell) le room agrees e refl refl (quiet now)

  pub get_given : (context : Context) → SamePlaces context → (f : Frame) (free object field : ℕ) (span : Span) (rest : Code) (tasks : Tasks) (slots : List Held) (now : Now) → z.base ≤ free → free < length slots → Agrees z slots now.variables → (held : Held) → value_at slots object ≡ held
      → Along z f (at f (before z (op.ReadField free object field) span [] rest tasks) slots now.heap now.wrapped) (λ value. code_then rest tasks) (IsIn free) free slots now (get_field context span.from held field now)
  unfolding gets
  get_given context same f free object field span rest tasks slots now le room agrees (At number) is =
      get_at context f free object field span rest tasks slots now number le room agrees is (place_in context.members.place (object_at now.heap number).kind field)
      (ap (gets span free field slots now.heap) is ∙ ap (λ places. machine.at_place no_limits z.tables span.from slots now.heap (place_in places (object_at now.heap number).kind field) (λ cell. machine.assign no_limits z.tables span.from slots now.heap free (value_at (object_at now.heap number).cells cell))) (sym same))
  get_given context same f free object field span rest tasks slots now le room agrees held is =
      stopped_at z f (op.ReadField free object field) span [] rest tasks slots now now (NullUsed span.from) (λ value. code_then rest tasks) (IsIn free) free (ap (gets span free field slots now.heap) is) refl (quiet now)

  puts : Span → ℕ → ℕ → List Held → Heap → Held → Effect
  puts span field value slots heap held =
      machine.through no_limits z.tables span.from slots heap held (λ number. machine.at_place no_limits z.tables span.from slots heap (place_in z.tables.place (object_at heap number).kind field) (λ cell. Did slots (write_at heap number cell (value_at slots value))))

  put_at : (f : Frame) (free object field value : ℕ) (span : Span) (parts : List Span) (rest : Code) (tasks : Tasks) (slots : List Held) (now : Now) (number : ℕ) → Agrees z slots now.variables → (place : Option ℕ)
      → operate no_limits z.tables span.from slots now.heap (op.WriteField object field value) ≡ machine.at_place no_limits z.tables span.from slots now.heap place (λ cell. Did slots (write_at now.heap number cell (value_at slots value)))
      → Along z f (at f (before z (op.WriteField object field value) span parts rest tasks) slots now.heap now.wrapped) (λ done. code_then rest tasks) nothing_known free slots now (at_field span.from place (λ cell. written (value_at slots value) number cell) now)
  put_at f free object field value span parts rest tasks slots now number agrees None e = stopped_at z f (op.WriteField object field value) span parts rest tasks slots now now (NullUsed span.from) (λ done. code_then rest tasks) nothing_known free e refl (quiet now)
  put_at f free object field value span parts rest tasks slots now number agrees (Some cell) e = record {
    behind = slots;
    shows = [];
    leads = did z f (op.WriteField object field value) span parts rest tasks slots slots now.heap (write_at now.heap number cell (value_at slots value)) now.wrapped e;
    events = quiet now;
    agrees = agrees;
    keeps = keeps_all z free slots;
    held = tt;
  }

  pub put_given : (context : Context) → SamePlaces context → (f : Frame) (free object field value : ℕ) (span : Span) (parts : List Span) (rest : Code) (tasks : Tasks) (slots : List Held) (now : Now) → Agrees z slots now.variables → (held : Held) → value_at slots object ≡ held
      → Along z f (at f (before z (op.WriteField object field value) span parts rest tasks) slots now.heap now.wrapped) (λ done. code_then rest tasks) nothing_known free slots now (put_field context span.from held field (value_at slots value) now)
  unfolding puts
  put_given context same f free object field value span parts rest tasks slots now agrees (At number) is =
      put_at f free object field value span parts rest tasks slots now number agrees (place_in context.members.place (object_at now.heap number).kind field)
      (ap (puts span field value slots now.heap) is ∙ ap (λ places. machine.at_place no_limits z.tables span.from slots now.heap (place_in places (object_at now.heap number).kind field) (λ cell. Did slots (write_at now.heap number cell (value_at slots value)))) (sym same))
  put_given context same f free object field value span parts rest tasks slots now agrees held is =
      stopped_at z f (op.WriteField object field value) span parts rest tasks slots now now (NullUsed span.from) (λ done. code_then rest tasks) nothing_known free (ap (puts span field value slots now.heap) is) refl (quiet now)
