-- A whole call: where an analysis keeps its laws, a call of a state that runs is a step of the rules when it has returned, however long the callee runs and
-- whatever it calls. No frame of the call writes what the call may not change.
use Rattle.std.specs.Prelude.{◌≡◌, ◌⊎◌, ℕ, zero, suc, ◌+◌, ◌<◌, ◌≤◌, ◌==◌, Bool, true, false, ◌||◌, if◌then◌else◌, List, [], ◌∷◌, ◌++◌, length, Option, Some, None, refl}
use Rattle.std.proofs.Common.{arith, sym, ap, ◌∙◌, subst, inl, ⊎_elim}
use Rattle.std.proofs.lemmas.Bool.{false≢true}
use Rattle.ix_core.specs.declared.fact.Profile.{Profile}
use Rattle.ix_core.specs.declared.fact.Profile.TheVariants.{Ideal, Int32}
use Rattle.ix_core.specs.declared.op.CallOp.{CallOp}
use Rattle.ix_core.specs.declared.program.Method.{Method}
use Rattle.ix_core.specs.Analysis.{Laws, Shows, Calls}
use Rattle.ix_core.specs.Heap.{Held, Num, Boolean, Null, At, Object, Heap, Kind, ObjectOf, ArrayOf, value_at, object_at, place_in, cell_of}
use Rattle.ix_core.specs.Machine.{CallKind, Static, Instance, New, Super, Limits, Ending, NullUsed, HeapFull, FrameFull, Frame, State, Waiting, Move, Go, Wrap, Tell, Enter, Leave, Stop, frame, call_heap, call_values, callee_of, found_at, found_for, receiver_slot, slots_with, target_of, set_target, result_of, resumed, entered, called, stopped, lacks_cells, is_past, moved, next_move, step, step_from, run}
use Rattle.ix_core.specs.Numbers.{HasInts, numbers_of}
use Rattle.ix_core.specs.Objects.{IsOn, AllOn, Later, IsSame, IsFree, IsOwn, IsInput, This, HasField, Wrote, StepKeeps}
use Rattle.ix_core.specs.Safe.{Counts}
use Rattle.ix_core.specs.Tables.{routine_of}
use Rattle.ix_core.specs.Tasks.{Tasks}
use Rattle.ix_core.specs.Waits.{Knowledge, FitsKind, Since, Stays, Reason, NoEffect, Final, Hidden, Constructs, Running, Good, Uncounted, Runs, Ends, is_super}
use Rattle.ix_core.specs.Waits as waits
use Rattle.ix_core.specs.World.{World, tables_in}
use Rattle.ix_core.proofs.Cases.{by_test, equal}
use Rattle.ix_core.proofs.Entered.{none_some, slots_are}
use Rattle.ix_core.proofs.Heaps.{grown_old, value_other}
use Rattle.ix_core.proofs.Kept.{all_on}
use Rattle.ix_core.proofs.LawsAreSafe.{good_next}
use Rattle.ix_core.proofs.Waiting.{later_refl, later_push, own_or_not, super_parts}
use Rattle.ix_facts.specs.FieldSteps.{IsCalled}
use Rattle.ix_facts.specs.Forget.{SameBut, of_this, of_call}
use Rattle.ix_core.proofs.Stack.{some_same}
use Rattle.ix_rules_hold.specs.CallEffects.{spared_in, HasReturned}
use Rattle.ix_rules_hold.proofs.CallStack.{step_is, caller_waits, has_entered, returns_to}
use Rattle.ix_rules_hold.proofs.ReturnedCalls.{since_entered, since_later, returned_call, returned_super}

-- ---- the heap as a call begins

call_later : (world : World) (kind : CallKind) (heap : Heap) → Later heap (call_heap (tables_in world) kind heap)
call_later world Static heap = later_refl heap
call_later world Instance heap = later_refl heap
call_later world (New class) heap = later_push heap (record { kind = ObjectOf class; cells = world.fresh_fields class })
call_later world Super heap = later_refl heap

call_same : (world : World) (kind : CallKind) (heap : Heap) (object field : ℕ) → object < length heap → IsSame world heap (call_heap (tables_in world) kind heap) object field
call_same world Static heap object field lt = refl
call_same world Instance heap object field lt = refl
call_same world (New class) heap object field lt =
    sym (ap (λ (th : Object). cell_of th.cells (place_in world.place th.kind field)) (grown_old heap (record { kind = ObjectOf class; cells = world.fresh_fields class }) object lt))
call_same world Super heap object field lt = refl

-- ---- what is no target stays

first_kept : (slots : List Held) (target : Option ℕ) (value : Option Held) → ((at : ℕ) → target ≡ Some at → (0 == at) ≡ false) → value_at slots 0 ≡ value_at (set_target target value slots) 0
first_kept slots None value other = refl
first_kept slots (Some at) None other = refl
first_kept slots (Some at) (Some x) other = sym (value_other slots at 0 x (other at refl))

-- `super` hands its object on
super_makes : (world : World) (kind : CallKind) (values slots : List Held) (began heap : Heap) → waits.Makes world kind values slots began heap → is_super kind ≡ true → value_at values 0 ≡ value_at slots 0
super_makes world Static values slots began heap makes is = absurd (false≢true is)
super_makes world Instance values slots began heap makes is = absurd (false≢true is)
super_makes world (New class) values slots began heap makes is = absurd (false≢true is)
super_makes world Super values slots began heap makes is = makes

counted_wraps : (profile : Profile) (state : State) → state.wrapped ≡ true → Counts profile state → profile ≡ Int32
counted_wraps Ideal state wrapped counts = absurd (false≢true (sym counts ∙ wrapped))
counted_wraps Int32 state wrapped counts = refl

-- The frame that the call entered: the last one, or the lowest of those that wait above the caller.
entered_frame : Frame → List Waiting → Frame
entered_frame now [] = now
entered_frame now (x ∷ above) = entered_frame x.frame above

same_method : (above : List Waiting) (now next : Frame) → now.method ≡ next.method → (entered_frame now above).method ≡ (entered_frame next above).method
unfolding entered_frame
same_method [] now next e = e
same_method (x ∷ above) now next e = refl

-- `IsKept` is what each state of the run keeps besides, from which the types of the frame that runs follow.
module _ (profile : Profile) (world : World) (Typed : ℕ → Tasks → List Held → Heap → Type 0) (know : Knowledge) (laws : Laws profile world Typed know) (limits : Limits)
    (IsKept : State → Type 0) (typed : (state : State) → IsKept state → Typed state.now.method state.now.tasks state.now.slots state.heap)
    (stays_kept : (state : State) → IsKept state → IsKept (step limits (tables_in world) state)) where
  -- a call of a kind that waits in `w`, above other frames, for the method `m`, since a heap
  module _ (w : Waiting) (bottom : List Waiting) (m : ℕ) (kind : CallKind) (began : Heap) (all : AllOn w.frame.slots began) where
    abbrev caller : Method
    caller = world.methods w.frame.method

    abbrev callee : Method
    callee = world.methods m

    -- a constructor that `super` doesn't call has an object that is new
    abbrev IsNew : List Held → Type 0
    IsNew slots = callee.constructor ≡ true → is_super kind ≡ false → value_at slots 0 ≡ At (length began)

    -- the state is within the call: above the caller are the frame that was entered and those that it called, and what the call may not change is as it was
    record Within (state : State) : Type 0 where
      above : List Waiting
      stack : state.below ≡ above ++ (w ∷ bottom)
      method : (entered_frame state.now above).method ≡ m
      new : IsNew (entered_frame state.now above).slots
      since : Since world caller callee kind w.frame.slots began state.heap

    same_new : (above : List Waiting) (now next : Frame) → (entered_frame now above).method ≡ m → (now.method ≡ m → callee.constructor ≡ true → value_at now.slots 0 ≡ value_at next.slots 0)
        → IsNew (entered_frame now above).slots → IsNew (entered_frame next above).slots
    unfolding entered_frame
    same_new [] now next is keep new = λ c s. sym (keep is c) ∙ new c s
    same_new (x ∷ above) now next is keep new = new

    -- ---- what a state that runs says of the frame that waits

    record Seen (below now : Frame) (over : ℕ → ℕ → Type 0) (building : ℕ → Type 0) (heap : Heap) : Type 1 where
      above : ℕ → ℕ → Type 0
      wait : waits.Suspended world know w below above building heap
      effect : (world.methods below.method).effect_free ≡ true → (world.methods now.method).effect_free ≡ true
      covers : (object class : ℕ) → over object class → above object class

    seen : (above : List Waiting) (now : Frame) (over : ℕ → ℕ → Type 0) (building : ℕ → Type 0) (heap : Heap) → waits.Waits world know (above ++ (w ∷ bottom)) now over building heap
        → Seen (entered_frame now above) now over building heap
    unfolding entered_frame
    seen [] now over building heap waiting = record { above = over; wait = waiting.0; effect = λ e. e; covers = λ object class is. is }
    seen (x ∷ above) now over building heap waiting =
        let rest = seen above x.frame (λ object class. over object class ⊎ Constructs world x.frame object class) building heap waiting.1 in
        record { above = rest.above; wait = rest.wait; effect = λ e. waiting.0.fits.effect (rest.effect e); covers = λ object class is. rest.covers object class (inl is) }

    -- ---- no frame of the call writes what stays

    module _ (state : State) (r : Running world know state) (within : Within state) where
      abbrev now : Method
      now = world.methods state.now.method

      abbrev first : Frame
      first = entered_frame state.now within.above

      there : Seen first state.now (Constructs world state.now) r.building state.heap
      there = seen within.above state.now (Constructs world state.now) r.building state.heap
          (subst (λ below. waits.Waits world know below state.now (Constructs world state.now) r.building state.heap) within.stack r.waits)

      is_callee : world.methods first.method ≡ callee
      is_callee = ap world.methods within.method

      not_both : is_super there.wait.kind ≡ true → is_super kind ≡ false → ⊥
      not_both is isnt =
          let wait = there.wait in
          let parts = super_parts world wait.kind caller (world.methods first.method) wait.call wait.fits.kinds is in
          let mine : value_at first.slots 0 ≡ value_at w.frame.slots 0
          = wait.inputs 0 (This (laws.tables.constructors first.method parts.1)) ∙ super_makes world wait.kind _ w.frame.slots wait.began state.heap wait.makes is in
          let made : value_at first.slots 0 ≡ At (length began) = within.new (subst (λ (x : Method). x.constructor ≡ true) is_callee parts.1) isnt in
          let lt : length began < length began = subst (IsOn began) (sym mine ∙ made) (all.held 0) in
          omega (arith, lt)

      abbrev IsWrote : ℕ → ℕ → Type 0
      IsWrote object field = Wrote world now state.now.slots object field

      high : (object field : ℕ) (wrote : IsWrote object field) → IsOwn now wrote.through → there.above object now.class
      high object field wrote own = there.covers object now.class (record { constructor = own.0; this = subst (λ q. value_at state.now.slots q ≡ At object) own.1 wrote.at; of = refl })

      not_building : (slot object : ℕ) → value_at w.frame.slots slot ≡ At object → (IsOwn caller slot → ⊥) → r.building object → ⊥
      not_building slot object at other is = (subst (IsFree r.building state.heap) at (there.wait.frame_keeps.free slot other)).1 is

      own_apart : (slot field object : ℕ) → value_at w.frame.slots slot ≡ At object → Stays world caller callee kind slot field → IsOwn caller slot → (wrote : IsWrote object field) → IsOwn now wrote.through → ⊥
      own_apart slot field object at stays mine wrote own =
          let c : Constructs world w.frame object caller.class = record { constructor = mine.0; this = subst (λ q. value_at w.frame.slots q ≡ At object) mine.1 at; of = refl } in
          by_test (is_super there.wait.kind)
          (λ s. by_test (is_super kind)
          (λ k. stays.not_super k mine (subst (λ (x : Method). HasField world (ObjectOf x.class) field) is_callee (there.wait.parents s object now.class caller.class field c (high object field wrote own) (wrote.may.own own))))
          (λ k. not_both s k))
          (λ s. there.wait.apart s object now.class caller.class c (high object field wrote own))

      no_write : (slot field object : ℕ) → value_at w.frame.slots slot ≡ At object → (stays : Stays world caller callee kind slot field) → Reason world caller callee slot field → (wrote : IsWrote object field) → ⊥
      no_write slot field object at stays (NoEffect q) wrote =
          let quiet : (world.methods first.method).effect_free ≡ true = subst (λ (x : Method). x.effect_free ≡ true) (sym is_callee) q in
          let own : IsOwn now wrote.through = wrote.may.quiet (there.effect quiet) in
          let lt : object < length there.wait.began = subst (IsOn there.wait.began) at (there.wait.all_on.held slot) in
          ⊎_elim
          (λ le. absurd (omega (arith, le, lt)))
          (λ s. ⊎_elim
          (λ mine. own_apart slot field object at stays mine wrote own)
          (λ other. not_building slot object at other (there.wait.frame_keeps.this (super_parts world there.wait.kind caller (world.methods first.method) there.wait.call there.wait.fits.kinds s.0).0 object s.1))
          (own_or_not caller slot))
          (there.wait.fresh quiet object now.class (high object field wrote own))
      no_write slot field object at stays (Final e) wrote =
          let own : IsOwn now wrote.through = wrote.may.final e in
          ⊎_elim
          (λ mine. own_apart slot field object at stays mine wrote own)
          (λ other. not_building slot object at other (r.frame_keeps.this own.0 object (subst (λ q. value_at state.now.slots q ≡ At object) own.1 wrote.at)))
          (own_or_not caller slot)
      no_write slot field object at stays (Hidden mine) wrote =
          ⊎_elim
          (λ own. own_apart slot field object at stays mine wrote own)
          (λ other. (subst (IsFree r.building state.heap) wrote.at (r.frame_keeps.free wrote.through other)).1 (there.wait.frame_keeps.this mine.0 object (subst (λ q. value_at w.frame.slots q ≡ At object) mine.1 at)))
          (own_or_not now wrote.through)

    -- ---- each step

    module _ (state : State) (r : Running world know state) (within : Within state) where
      goes : (tasks : Tasks) (slots : List Held) (heap : Heap) (wrapped : Bool) → StepKeeps world r.building (world.methods state.now.method) state.now.slots state.heap slots heap
          → Within (record state { now = frame state.now.method tasks slots; heap = heap; wrapped = wrapped })
      goes tasks slots heap wrapped kept = record {
        above = within.above;
        stack = within.stack;
        method = sym (same_method within.above state.now (frame state.now.method tasks slots) refl) ∙ within.method;
        new = same_new within.above state.now (frame state.now.method tasks slots) within.method
            (λ is c. kept.inputs 0 (This (laws.tables.constructors state.now.method (subst (λ k. (world.methods k).constructor ≡ true) (sym is) c)))) within.new;
        since = since_later world caller callee kind w.frame.slots began state.heap heap within.since kept.later
            (λ slot field object at stays. ⊎_elim (λ same. same) (λ wrote. absurd (no_write state r within slot field object at stays stays.reason wrote)) (kept.fields object field));
      }

      tells : (tasks : Tasks) → Within (record state { now = frame state.now.method tasks state.now.slots })
      tells tasks = record {
        above = within.above;
        stack = within.stack;
        method = sym (same_method within.above state.now (frame state.now.method tasks state.now.slots) refl) ∙ within.method;
        new = same_new within.above state.now (frame state.now.method tasks state.now.slots) within.method (λ is c. refl) within.new;
        since = within.since;
      }

      stops : (ending : Ending) → Within (stopped ending state)
      stops ending = record { above = within.above; stack = within.stack; method = within.method; new = within.new; since = within.since }

      calls : (other : CallKind) (call : CallOp) (tasks : Tasks) (method : ℕ) → Within (entered (tables_in world) other call method tasks state)
      unfolding entered_frame
      calls other call tasks method = record {
        above = record { frame = frame state.now.method tasks state.now.slots; target = target_of (tables_in world) other call } ∷ within.above;
        stack = ap (λ below. record { frame = frame state.now.method tasks state.now.slots; target = target_of (tables_in world) other call } ∷ below) within.stack;
        method = sym (same_method within.above state.now (frame state.now.method tasks state.now.slots) refl) ∙ within.method;
        new = same_new within.above state.now (frame state.now.method tasks state.now.slots) within.method (λ is c. refl) within.new;
        since = since_later world caller callee kind w.frame.slots began state.heap (call_heap (tables_in world) other state.heap) within.since (call_later world other state.heap)
            (λ slot field object at stays. call_same world other state.heap object field (within.since.later object (subst (IsOn began) at (all.held slot))).on);
      }

      within_if : (test : Bool) (ending : Ending) (other : State) → Within other → Within (if test then stopped ending state else other)
      within_if true ending other is = stops ending
      within_if false ending other is = is

      enters_within : (other : CallKind) (call : CallOp) (place : ℕ) (tasks : Tasks) (found : Option ℕ) → Within (called limits (tables_in world) other call place tasks state found)
      enters_within other call place tasks None = stops (NullUsed place)
      enters_within other call place tasks (Some method) =
          within_if (lacks_cells limits (tables_in world) other state.heap) (HeapFull place) _
          (within_if (is_past limits.frames (length state.below + 2)) (FrameFull place) (entered (tables_in world) other call method tasks state) (calls other call tasks method))

    leaves : (state : State) (r : Running world know state) (above : List Waiting) → state.below ≡ above ++ (w ∷ bottom) → (entered_frame state.now above).method ≡ m → IsNew (entered_frame state.now above).slots
        → Since world caller callee kind w.frame.slots began state.heap → (result : Option Held) → length bottom < length (resumed result state (above ++ (w ∷ bottom))).below
        → Within (resumed result state (above ++ (w ∷ bottom)))
    unfolding entered_frame
    leaves state r [] stack is new since result longer = absurd (omega (arith, longer))
    leaves state r (x ∷ above) stack is new since result longer =
        let wait = (subst (λ below. waits.Waits world know below state.now (Constructs world state.now) r.building state.heap) stack r.waits).0 in
        let next : Frame = frame x.frame.method x.frame.tasks (set_target x.target result x.frame.slots) in record {
          above = above;
          stack = refl;
          method = sym (same_method above x.frame next refl) ∙ is;
          new = same_new above x.frame next is
              (λ e c. first_kept x.frame.slots x.target result
              (λ at to. by_test (0 == at)
              (λ t. absurd (wait.fits.target at (sym wait.target ∙ to)
              (subst (IsInput (world.methods x.frame.method)) (equal 0 at t) (This (laws.tables.constructors x.frame.method (subst (λ k. (world.methods k).constructor ≡ true) (sym e) c))))))
              (λ t. t)))
              new;
          since = since;
        }

    moves : (state : State) (r : Running world know state) (within : Within state) (move : Move) → Shows profile world know r.building state.now.method state.now.slots state.heap move
        → Counts profile (moved limits (tables_in world) move state) → length bottom < length (moved limits (tables_in world) move state).below → Within (moved limits (tables_in world) move state)
    moves state r within (Go tasks slots heap) shown counts longer = goes state r within tasks slots heap state.wrapped shown.0
    moves state r within (Wrap tasks slots heap) shown counts longer =
        goes state r within tasks slots heap true (shown (counted_wraps profile (moved limits (tables_in world) (Wrap tasks slots heap) state) refl counts)).0
    moves state r within (Tell value tasks) shown counts longer = tells state r within tasks
    moves state r within (Enter other call place tasks) shown counts longer = enters_within state r within other call place tasks (callee_of (tables_in world) other call state.now.slots state.heap)
    moves state r within (Leave returned) shown counts longer =
        let result = result_of (routine_of (world.methods state.now.method)) state.now.slots returned in
        subst (λ below. length bottom < length (resumed result state below).below → Within (resumed result state below)) (sym within.stack)
        (leaves state r within.above within.stack within.method within.new within.since result) longer
    moves state r within (Stop ending) shown counts longer = stops state r within ending

    within_step : (state : State) → IsKept state → Good world know profile state → Counts profile state → Counts profile (step limits (tables_in world) state) → length bottom < length (step limits (tables_in world) state).below
        → Within state → Within (step limits (tables_in world) state)
    within_step state is_kept (Uncounted past) counted counts longer within = absurd (past counted)
    within_step state is_kept (Ends ending is fine) counted counts longer within = subst Within (sym (ap (λ e. step_from limits (tables_in world) e state) is)) within
    within_step state is_kept (Runs is r) counted counts longer within =
        subst (λ next. Counts profile next → length bottom < length next.below → Within next) (sym (step_is limits (tables_in world) state is (next_move limits (tables_in world) state) refl))
        (moves state r within (next_move limits (tables_in world) state)
        (laws.step limits r.building state.now.method state.now.tasks r.store state.now.slots state.heap (typed state is_kept) r.heap_keeps r.frame_keeps r.ints r.holds r.fine))
        counts longer

    runs_within : (n : ℕ) (state : State) → IsKept state → Good world know profile state → ((j : ℕ) → j ≤ n → Counts profile (run limits (tables_in world) j state))
        → ((j : ℕ) → j ≤ n → length bottom < length (run limits (tables_in world) j state).below) → Within state → Within (run limits (tables_in world) n state)
    runs_within zero state is_kept good counts longer within = within
    runs_within (suc n) state is_kept good counts longer within =
        runs_within n (step limits (tables_in world) state) (stays_kept state is_kept) (good_next profile world Typed know laws limits state (typed state is_kept) good)
        (λ j le. counts (suc j) (omega (arith, le))) (λ j le. longer (suc j) (omega (arith, le)))
        (within_step state is_kept good (counts 0 (omega (arith))) (counts 1 (omega (arith))) (longer 1 (omega (arith))) within)

  -- ---- the state that calls

  found_class : (named m : ℕ) (kind : Kind) → found_for (tables_in world) named kind ≡ Some m → (class : ℕ) × (world.found class named ≡ m)
  found_class named m (ObjectOf class) e = (class, some_same (world.found class named) m e)
  found_class named m (ArrayOf ty) e = none_some m e

  found_method : (named m : ℕ) (heap : Heap) (held : Held) → found_at (tables_in world) named heap held ≡ Some m → (class : ℕ) × (world.found class named ≡ m)
  found_method named m heap (Num n) e = none_some m e
  found_method named m heap (Boolean answer) e = none_some m e
  found_method named m heap Null e = none_some m e
  found_method named m heap (At k) e = found_class named m (object_at heap k).kind e

  is_made : (method : Method) (call : CallOp) (slots : List Held) (heap : Heap) (count m : ℕ) (kind : CallKind) → FitsKind world kind method (world.methods call.method) call
      → callee_of (tables_in world) kind call slots heap ≡ Some m → (world.methods m).constructor ≡ true → is_super kind ≡ false
      → value_at (slots_with count (call_values kind call (length heap) slots)) 0 ≡ At (length heap)
  is_made method call slots heap count m Static fits found c s =
      absurd (false≢true (sym (subst (λ k. (world.methods k).constructor ≡ false) (some_same call.method m found) fits) ∙ c))
  is_made method call slots heap count m Instance fits found c s =
      let at = found_method call.method m heap (value_at slots (receiver_slot call.receiver)) found in
      absurd (false≢true (sym (subst (λ k. (world.methods k).constructor ≡ false) at.1 ((laws.stands at.0 call.method).plain fits.0)) ∙ c))
  is_made method call slots heap count m (New class) fits found c s = slots_are count (call_values (New class) call (length heap) slots) 0
  is_made method call slots heap count m Super fits found c s = absurd (false≢true (sym s))

  -- a state that runs and calls
  module _ (state : State) (is_kept : IsKept state) (r : Running world know state) (running : state.ended ≡ None) (call : CallOp) (place : ℕ) (tasks : Tasks) (m : ℕ) (steps : ℕ)
      (counts : (count : ℕ) → count ≤ steps → Counts profile (run limits (tables_in world) count state)) (has : HasReturned limits (tables_in world) state steps) where
    abbrev calls_from : Method
    calls_from = world.methods state.now.method

    abbrev end : State
    end = run limits (tables_in world) steps state

    on : AllOn state.now.slots state.heap
    on = all_on world r.building calls_from state.now.slots state.heap r.heap_keeps r.frame_keeps

    module _ (kind : CallKind) (next : next_move limits (tables_in world) state ≡ Enter kind call place tasks) (found : callee_of (tables_in world) kind call state.now.slots state.heap ≡ Some m) where
      abbrev waiting : Waiting
      waiting = caller_waits limits (tables_in world) state running kind call place tasks m next found

      shown : Calls profile world know state.now.method kind call tasks state.now.slots state.heap
      shown = subst (Shows profile world know r.building state.now.method state.now.slots state.heap) next
          (laws.step limits r.building state.now.method state.now.tasks r.store state.now.slots state.heap (typed state is_kept) r.heap_keeps r.frame_keeps r.ints r.holds r.fine)

      begins_within : length state.below < length (step limits (tables_in world) state).below → Within waiting state.below m kind state.heap on (step limits (tables_in world) state)
      unfolding entered_frame
      begins_within deeper =
          subst (Within waiting state.below m kind state.heap on) (sym (has_entered limits (tables_in world) state running kind call place tasks m next found deeper)) (record {
            above = [];
            stack = refl;
            method = refl;
            new = λ c s. is_made calls_from call state.now.slots state.heap (world.methods m).slots m kind shown.fits.kinds found c s;
            since = since_entered world calls_from (world.methods m) kind state.now.slots state.heap on;
          })

      -- what the call may not change is as it was when it has returned
      pub since_call : Since world calls_from (world.methods m) kind state.now.slots state.heap end.heap
      since_call =
          let back = returns_to limits (tables_in world) state running kind call place tasks m next found steps has in
          let n = back.0 in
          let many : steps ≡ suc (suc n) = back.1 in
          let deeper : (count : ℕ) → count ≤ n → length state.below < length (run limits (tables_in world) count (step limits (tables_in world) state)).below
          = λ count le. has.deeper (suc count) (omega (arith)) (omega (arith, le, many)) in
          let within = runs_within waiting state.below m kind state.heap on n (step limits (tables_in world) state) (stays_kept state is_kept) (good_next profile world Typed know laws limits state (typed state is_kept) (Runs running r))
          (λ count le. counts (suc count) (omega (arith, le, many))) deeper (begins_within (deeper 0 (omega (arith)))) in
          subst (λ (s : State). Since world calls_from (world.methods m) kind state.now.slots state.heap s.heap) (sym back.3) within.since

    module _ (before : HasInts world.place state.now.slots state.heap) (behind : HasInts world.place end.now.slots end.heap) where
      pub whole_call : (kind : CallKind) → next_move limits (tables_in world) state ≡ Enter kind call place tasks → callee_of (tables_in world) kind call state.now.slots state.heap ≡ Some m → is_super kind ≡ false
          → IsCalled call.target world.is_final (spared_in calls_from (world.methods m)) (numbers_of world.place state.now.slots state.heap before) (numbers_of world.place end.now.slots end.heap behind)
      whole_call kind next found plain =
          returned_call limits world state running call place tasks m steps before behind on kind next found has plain (since_call kind next found)

      pub whole_super : next_move limits (tables_in world) state ≡ Enter Super call place tasks → callee_of (tables_in world) Super call state.now.slots state.heap ≡ Some m
          → SameBut (λ p. of_this p || of_call world.is_final (spared_in calls_from (world.methods m)) p) (numbers_of world.place state.now.slots state.heap before) (numbers_of world.place end.now.slots end.heap behind)
      whole_super next found =
          returned_super limits world state running call place tasks m steps before behind on next found has (since_call Super next found)
