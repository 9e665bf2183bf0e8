-- What was made does what an action does: one behind the other, and a single operation.
use Rattle.std.proofs.Common.{◌≡◌, ◌≤◌, ◌<◌, ℕ, ◌+◌, ℤ, Bool, true, false, List, [], ◌∷◌, ◌++◌, length, Option, Some, None, Ok, Err, Result, refl, sym, ap, subst, ◌∙◌, arith, append_assoc}
use Rattle.std.specs.Prelude.{slice_set, if◌then◌else◌, nat_lt}
use Rattle.std.proofs.lemmas.List.{append-nil}
use Rattle.ix_text.specs.declared.span.Span.{Span}
use Rattle.ix_num.specs.Arithmetic.{wrap_of}
use Rattle.ix_core.specs.declared.code.Item.{Item}
use Rattle.ix_core.specs.declared.op.OpKind.{OpKind}
use Rattle.ix_core.specs.Code as code
use Rattle.ix_core.specs.Code.{Code, End, item_code, items_code, block_code}
use Rattle.ix_core.specs.Heap.{Held, Heap, Num}
use Rattle.ix_core.specs.Machine.{Ending, ZeroDivisor, Done as Did, Wrapped, Stopped, no_limits, moved, effect_then, operate, assign_result, is_int}
use Rattle.ix_core.specs.Tasks.{Tasks, Run, code_then}
use Rattle.ix_meaning.specs.declared.note.Which.TheVariants as which
use Rattle.ix_plain.specs.declared.made.Made.{Made}
use Rattle.ix_plain.specs.Parts.{Within, ◌>>=◌ as ◌then◌, Value, block, in_place, done, computed, most_slots}
use Rattle.ix_source.specs.Runs.{Now, Gives, Stops, Action, ◌>>=◌, wraps}
use Rattle.ix_source.specs.Values.{result_at}
use Rattle.ix_core.specs.Traces.{op_seen}
use Rattle.ix_source.specs.Seen.{Leads, Frame, at, Decides}
use Rattle.ix_source.specs.Along.{Setting, IsSet, Agrees, Keeps, Along}
use Rattle.ix_source.specs.Kept.{Makes, code_before, Fact, And, IsIn, nothing_known, Stays, Done}
use Rattle.ix_source.proofs.Paths.{one_step}
use Rattle.ix_source.proofs.Going.{along_then}
use Rattle.ix_source.proofs.Slots.{agrees_temporary, keeps_temporary}
use Rattle.ix_core.proofs.Heaps.{value_set}

pub code_append : (a b : List Item) (rest : Code) → code_before (a ++ b) rest ≡ code_before a (code_before b rest)
code_append [] b rest = refl
code_append (first ∷ a) b rest = ap (item_code first) (code_append a b rest)

pub makes_then : {A B E : Type 0} (P : A → Type 0) (Q : B → Type 0) (r : Result A E) (next : A → Result B E) → Makes P r → ((made : A) → P made → Makes Q (next made)) → Makes Q (r then next)
makes_then P Q (Ok made) next holds on = on made holds
makes_then P Q (Err limit) next holds on = tt

pub makes_more : {A E : Type 0} (P Q : A → Type 0) → ((made : A) → P made → Q made) → (r : Result A E) → Makes P r → Makes Q r
makes_more P Q more (Ok made) holds = more made holds
makes_more P Q more (Err limit) holds = tt

items_are : (items : List Item) → items_code items ≡ code_before items End
items_are [] = refl
items_are (first ∷ rest) = ap (item_code first) (items_are rest)

-- a block of its own does what its items do
pub block_is : (made after : Made) (items : List Item) → made.items ≡ [] → after.items ≡ made.items ++ items → block_code (block after) ≡ code_before items End
block_is made after items none e = ap items_code (e ∙ ap (λ before. before ++ items) none) ∙ items_are items

module _ (z : Setting) where
  pub fewer : (free more : ℕ) (a b : List Held) → free ≤ more → Keeps z more a b → Keeps z free a b
  fewer free more a b le k = record { size = k.size; same = λ slot low stays. k.same slot (omega (arith, low, le)) stays }

  pub stays_more : {X : Type 0} (free more : ℕ) (fact : Fact X) → free ≤ more → Stays z free fact → Stays z more fact
  stays_more free more fact le stays x slots behind k holds = stays x slots behind (fewer free more slots behind le k) holds

  pub both_stay : {X A : Type 0} (free : ℕ) (first : Fact X) (second : Fact A) → Stays z free first → Stays z free second → Stays z free (And first second)
  both_stay free first second a b (x, v) slots behind k (h, i) = (a x slots behind k h, b v slots behind k i)

  pub slot_stays : (slot free : ℕ) → slot < free → Rattle.ix_plain.specs.Scope.is_among slot z.scope.assigned ≡ false → Stays z free (IsIn slot)
  slot_stays slot free low apart value slots behind k is = k.same slot low apart ∙ is

  -- what needs to know nothing
  pub whatever : {X A : Type 0} (known : Fact X) (made after : Made) (action : Action A) (holds : Fact A) → Done z nothing_known made after (λ x. action) holds → Done z known made after (λ (x : X). action) holds
  whatever known made after action holds d = record {
    items = d.items;
    appended = d.appended;
    up = d.up;
    stays = d.stays;
    does = λ x f rest tasks slots now room agrees knows decides. d.does tt f rest tasks slots now room agrees tt decides;
  }

  -- one behind the other
  pub done_both : {X A B : Type 0} (known : Fact X) (made middle after : Made) (first : X → Action A) (second : X × A → Action B) (holds1 : Fact A) (holds2 : Fact B) → Stays z made.free known
      → Done z known made middle first holds1 → Done z (And known holds1) middle after second holds2 → Done z known made after (λ x. first x >>= (λ a. second (x, a))) holds2
  done_both {X} {A} {B} known made middle after first second holds1 holds2 stays d e = record {
    items = d.items ++ e.items;
    appended = e.appended ∙ ap (λ items. items ++ e.items) d.appended ∙ append_assoc made.items d.items e.items;
    up = let a = d.up in let b = e.up in omega (arith, a, b);
    stays = e.stays;
    does = λ x f rest tasks slots now room agrees knows decides.
        let first_decides : Decides z.tables (at f (code_then (code_before d.items (code_before e.items rest)) tasks) slots now.heap now.wrapped) =
        subst (λ code. Decides z.tables (at f (code_then code tasks) slots now.heap now.wrapped)) (code_append d.items e.items rest) decides in
        subst (λ code. Along z f (at f (code_then code tasks) slots now.heap now.wrapped) (λ (value : B). code_then rest tasks) holds2 made.free slots now ((first x >>= (λ a. second (x, a))) now)) (sym (code_append d.items e.items rest))
        (along_then z f (at f (code_then (code_before d.items (code_before e.items rest)) tasks) slots now.heap now.wrapped) (λ (value : A). code_then (code_before e.items rest) tasks) (λ (value : B). code_then rest tasks)
        holds1 holds2 made.free middle.free slots now d.up (first x now) (λ a. second (x, a)) first_decides
        (d.does x f (code_before e.items rest) tasks slots now (let b = e.up in omega (arith, b, room)) agrees knows first_decides)
        (λ value after_first behind keeps agrees_then held decides_then. e.does (x, value) f rest tasks behind after_first (let same = keeps.size in omega (arith, room, same)) agrees_then (stays x slots behind keeps knows, held) decides_then));
  }

  -- the same of what is made within limits
  pub then_done : {X A B T S : Type 0} (of : T → Made) (holds1 : T → Fact A) (to : S → Made) (holds2 : S → Fact B) (known : Fact X) (made : Made) (first : X → Action A) (second : X × A → Action B) → Stays z made.free known
      → (r : Within T) (next : T → Within S) → Makes (λ t. Done z known made (of t) first (holds1 t)) r
      → ((t : T) → made.free ≤ (of t).free → Stays z (of t).free (And known (holds1 t)) → Stays z (of t).free (holds1 t) → Makes (λ s. Done z (And known (holds1 t)) (of t) (to s) second (holds2 s)) (next t))
      → Makes (λ s. Done z known made (to s) (λ x. first x >>= (λ a. second (x, a))) (holds2 s)) (r then next)
  then_done of holds1 to holds2 known made first second stays r next d on =
      makes_then (λ t. Done z known made (of t) first (holds1 t)) (λ s. Done z known made (to s) (λ x. first x >>= (λ a. second (x, a))) (holds2 s)) r next d
      (λ t a. makes_more (λ s. Done z (And known (holds1 t)) (of t) (to s) second (holds2 s)) (λ s. Done z known made (to s) (λ x. first x >>= (λ a. second (x, a))) (holds2 s))
      (λ s b. done_both known made (of t) (to s) first second (holds1 t) (holds2 s) stays a b) (next t)
      (on t a.up (both_stay (of t).free known (holds1 t) (stays_more made.free (of t).free known a.up stays) a.stays) a.stays))

  -- ---- where a value is in place

  pub nothing_made : {X : Type 0} (known : Fact X) (made : Made) (action : X → Action Held) (slot : ℕ) → Stays z made.free (IsIn slot)
      → ((x : X) (f : Frame) (next : Tasks) (slots : List Held) (now : Now) → Agrees z slots now.variables → known x slots → Along z f (at f next slots now.heap now.wrapped) (λ value. next) (IsIn slot) made.free slots now (action x now))
      → Makes (λ v. Done z known made v.made action (IsIn v.slot)) (in_place made slot)
  nothing_made known made action slot stays does = record {
    items = [];
    appended = sym (append-nil made.items);
    up = omega arith;
    stays = stays;
    does = λ x f rest tasks slots now room agrees knows decides. does x f (code_then rest tasks) slots now agrees knows;
  }

  -- ---- one operation

  -- the operation of an item, in front of the rest of its block
  abbrev pub before : OpKind → Span → List Span → Code → Tasks → Tasks
  before kind span parts rest tasks = Run (code.Do (record { kind = kind; span = span; parts = parts }) rest) tasks

  pub did : (f : Frame) (kind : OpKind) (span : Span) (parts : List Span) (rest : Code) (tasks : Tasks) (slots behind : List Held) (heap later : Heap) (wrapped : Bool) → operate no_limits z.tables span.from slots heap kind ≡ Did behind later
      → Leads z.tables (at f (before kind span parts rest tasks) slots heap wrapped) (op_seen kind slots heap span.from) (at f (code_then rest tasks) behind later wrapped)
  did f kind span parts rest tasks slots behind heap later wrapped e =
      one_step z.tables (at f (before kind span parts rest tasks) slots heap wrapped) (at f (code_then rest tasks) behind later wrapped)
      (ap (λ effect. moved no_limits z.tables (effect_then effect span.from (code_then rest tasks)) (at f (before kind span parts rest tasks) slots heap wrapped)) e)

  pub did_wrap : (f : Frame) (kind : OpKind) (span : Span) (parts : List Span) (rest : Code) (tasks : Tasks) (slots behind : List Held) (heap later : Heap) (wrapped : Bool) → operate no_limits z.tables span.from slots heap kind ≡ Wrapped behind later
      → Leads z.tables (at f (before kind span parts rest tasks) slots heap wrapped) (op_seen kind slots heap span.from) (at f (code_then rest tasks) behind later true)
  did_wrap f kind span parts rest tasks slots behind heap later wrapped e =
      one_step z.tables (at f (before kind span parts rest tasks) slots heap wrapped) (at f (code_then rest tasks) behind later true)
      (ap (λ effect. moved no_limits z.tables (effect_then effect span.from (code_then rest tasks)) (at f (before kind span parts rest tasks) slots heap wrapped)) e)

  -- the operation stops the run, and so does the action
  pub stopped_at : {A : Type 0} (f : Frame) (kind : OpKind) (span : Span) (parts : List Span) (rest : Code) (tasks : Tasks) (slots : List Held) (now after : Now) (ending : Ending) (next : A → Tasks) (holds : Fact A) (free : ℕ)
      → operate no_limits z.tables span.from slots now.heap kind ≡ Stopped ending → after.wrapped ≡ now.wrapped → after.events ≡ now.events ++ op_seen kind slots now.heap span.from
      → Along z f (at f (before kind span parts rest tasks) slots now.heap now.wrapped) next holds free slots now (Stops ending after)
  stopped_at f kind span parts rest tasks slots now after ending next holds free e wrapped events =
      let from = at f (before kind span parts rest tasks) slots now.heap now.wrapped in
      record {
        final = record from { ended = Some ending };
        shows = op_seen kind slots now.heap span.from;
        leads = one_step z.tables from (record from { ended = Some ending }) (ap (λ effect. moved no_limits z.tables (effect_then effect span.from (code_then rest tasks)) from) e);
        ended = refl;
        wrapped = sym wrapped;
        events = events;
      }

  -- An operation that takes the first free slot does what the action does.
  abbrev pub OpDoes : {X : Type 0} → Fact X → ℕ → OpKind → Span → List Span → (X → Action Held) → Type 0
  OpDoes {X} known free kind span parts action = (x : X) (f : Frame) (rest : Code) (tasks : Tasks) (slots : List Held) (now : Now) → free < length slots → Agrees z slots now.variables → known x slots
      → Along z f (at f (before kind span parts rest tasks) slots now.heap now.wrapped) (λ value. code_then rest tasks) (IsIn free) free slots now (action x now)

  module _ (set : IsSet z) where
    pub taken : {X : Type 0} (known : Fact X) (made : Made) (kind : OpKind) (span : Span) (parts : List Span) (action : X → Action Held) → z.base ≤ made.free → OpDoes known made.free kind span parts action
        → (b : Bool) → Makes (λ (v : Value). Done z known made v.made action (IsIn v.slot)) (if b then Ok (record { made = record { items = made.items ++ done kind span parts ∷ []; free = made.free + 1 }; slot = made.free }) else Err which.Slots)
    taken known made kind span parts action le does true = record {
      items = done kind span parts ∷ [];
      appended = refl;
      up = omega arith;
      stays = slot_stays made.free (made.free + 1) (omega arith) (set.temporaries made.free le);
      does = λ x f rest tasks slots now room agrees knows decides. does x f rest tasks slots now (omega (arith, room)) agrees knows;
    }
    taken known made kind span parts action le does false = tt

    pub op_done : {X : Type 0} (known : Fact X) (made : Made) (kind : OpKind) (span : Span) (action : X → Action Held) → z.base ≤ made.free → OpDoes known made.free kind span [] action
        → Makes (λ v. Done z known made v.made action (IsIn v.slot)) (computed made kind span)
    op_done known made kind span action le does = taken known made kind span [] action le does (nat_lt made.free most_slots)

    -- the target gets a value
    pub gave : (f : Frame) (kind : OpKind) (span : Span) (parts : List Span) (rest : Code) (tasks : Tasks) (slots : List Held) (now after : Now) (free : ℕ) (value : Held) → z.base ≤ free → free < length slots → Agrees z slots now.variables
        → operate no_limits z.tables span.from slots now.heap kind ≡ Did (slice_set slots free value) after.heap → after.variables ≡ now.variables → after.wrapped ≡ now.wrapped → after.events ≡ now.events ++ op_seen kind slots now.heap span.from
        → Along z f (at f (before kind span parts rest tasks) slots now.heap now.wrapped) (λ value. code_then rest tasks) (IsIn free) free slots now (Gives value after)
    gave f kind span parts rest tasks slots now after free value le room agrees e variables wrapped events = record {
      behind = slice_set slots free value;
      shows = op_seen kind slots now.heap span.from;
      leads = subst (λ w. Leads z.tables (at f (before kind span parts rest tasks) slots now.heap now.wrapped) (op_seen kind slots now.heap span.from) (at f (code_then rest tasks) (slice_set slots free value) after.heap w)) (sym wrapped)
          (did f kind span parts rest tasks slots (slice_set slots free value) now.heap after.heap now.wrapped e);
      events = events;
      agrees = subst (Agrees z (slice_set slots free value)) (sym variables) (agrees_temporary z set slots now.variables free value le agrees);
      keeps = keeps_temporary z set slots free free value (omega arith);
      held = value_set slots free value room;
    }

    pub gave_wrapped : (f : Frame) (kind : OpKind) (span : Span) (parts : List Span) (rest : Code) (tasks : Tasks) (slots : List Held) (now : Now) (free : ℕ) (value : Held) → z.base ≤ free → free < length slots → Agrees z slots now.variables
        → operate no_limits z.tables span.from slots now.heap kind ≡ Wrapped (slice_set slots free value) now.heap → op_seen kind slots now.heap span.from ≡ []
        → Along z f (at f (before kind span parts rest tasks) slots now.heap now.wrapped) (λ value. code_then rest tasks) (IsIn free) free slots now (Gives value (wraps now))
    gave_wrapped f kind span parts rest tasks slots now free value le room agrees e quiet = record {
      behind = slice_set slots free value;
      shows = op_seen kind slots now.heap span.from;
      leads = did_wrap f kind span parts rest tasks slots (slice_set slots free value) now.heap now.heap now.wrapped e;
      events = sym (append-nil now.events) ∙ ap (λ es. now.events ++ es) (sym quiet);
      agrees = agrees_temporary z set slots now.variables free value le agrees;
      keeps = keeps_temporary z set slots free free value (omega arith);
      held = value_set slots free value room;
    }

    -- the low 32 bits of an exact result, or none
    int_given : (f : Frame) (kind : OpKind) (span : Span) (parts : List Span) (rest : Code) (tasks : Tasks) (slots : List Held) (now : Now) (free : ℕ) (exact : ℤ) → z.base ≤ free → free < length slots → Agrees z slots now.variables
        → op_seen kind slots now.heap span.from ≡ [] → (b : Bool) → operate no_limits z.tables span.from slots now.heap kind ≡ (if b then Did (slice_set slots free (Num exact)) now.heap else Wrapped (slice_set slots free (Num (wrap_of exact))) now.heap)
        → Along z f (at f (before kind span parts rest tasks) slots now.heap now.wrapped) (λ value. code_then rest tasks) (IsIn free) free slots now (if b then Gives (Num exact) now else Gives (Num (wrap_of exact)) (wraps now))
    int_given f kind span parts rest tasks slots now free exact le room agrees quiet true e =
        gave f kind span parts rest tasks slots now now free (Num exact) le room agrees e refl refl (sym (append-nil now.events) ∙ ap (λ es. now.events ++ es) (sym quiet))
    int_given f kind span parts rest tasks slots now free exact le room agrees quiet false e = gave_wrapped f kind span parts rest tasks slots now free (Num (wrap_of exact)) le room agrees e quiet

    pub result_given : (f : Frame) (kind : OpKind) (span : Span) (parts : List Span) (rest : Code) (tasks : Tasks) (slots : List Held) (now : Now) (free : ℕ) (exact : Option ℤ) → z.base ≤ free → free < length slots → Agrees z slots now.variables
        → op_seen kind slots now.heap span.from ≡ [] → operate no_limits z.tables span.from slots now.heap kind ≡ assign_result no_limits z.tables span.from slots now.heap free exact
        → Along z f (at f (before kind span parts rest tasks) slots now.heap now.wrapped) (λ value. code_then rest tasks) (IsIn free) free slots now (result_at span.from exact now)
    result_given f kind span parts rest tasks slots now free None le room agrees quiet e =
        stopped_at f kind span parts rest tasks slots now now (ZeroDivisor span.from) (λ value. code_then rest tasks) (IsIn free) free e refl (sym (append-nil now.events) ∙ ap (λ es. now.events ++ es) (sym quiet))
    result_given f kind span parts rest tasks slots now free (Some exact) le room agrees quiet e = int_given f kind span parts rest tasks slots now free exact le room agrees quiet (is_int exact) e
