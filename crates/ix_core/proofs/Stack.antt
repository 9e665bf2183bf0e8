-- All frames: a step from a state that runs gives a state that runs, or an outcome that isn't bad.
use Rattle.std.specs.Prelude.{◌≡◌, ◌⊎◌, ℕ, suc, ◌+◌, ◌<◌, ◌≤◌, ◌==◌, nat_lt, Bool, true, false, if◌then◌else◌, pos, List, [], ◌∷◌, ◌++◌, length, map, slice_get, slice_set, option_map, Option, None, Some, unwrap_or, refl}
use Rattle.std.proofs.Common.{arith, sym, ap, ◌∙◌, subst, inl, inr, ⊎_elim}
use Rattle.std.proofs.lemmas.Bool.{false≢true}
use Rattle.std.proofs.lemmas.Bool.Decides.{nat_tests}
use Rattle.std.proofs.lemmas.Int.{ints}
use Rattle.std.proofs.lemmas.List.{length-set, set_past, length-append}
use Rattle.ix_core.specs.declared.claim.Base.TheVariants as base
use Rattle.ix_core.specs.declared.claim.Claim.{Claim}
use Rattle.ix_core.specs.declared.claim.Claim.TheVariants.{Range, Low, Length, Same, Less, Upper, Search, Negative}
use Rattle.ix_core.specs.declared.claim.Name.{Name}
use Rattle.ix_core.specs.declared.claim.Post.{Post}
use Rattle.ix_core.specs.declared.claim.Name.TheVariants.{Param, Local, FieldNamed}
use Rattle.ix_core.specs.declared.claim.Off.TheVariants as off
use Rattle.ix_core.specs.declared.claim.Type_.{Type_}
use Rattle.ix_core.specs.declared.claim.Type_.TheVariants as type
use Rattle.ix_core.specs.declared.fact.Profile.{Profile}
use Rattle.ix_core.specs.declared.fact.Profile.TheVariants.{Ideal, Int32}
use Rattle.ix_core.specs.declared.op.Arg.{Arg}
use Rattle.ix_core.specs.declared.op.CallOp.{CallOp}
use Rattle.ix_core.specs.declared.program.Method.{Method}
use Rattle.ix_core.specs.Claims.{True, AreTrue, offset_of}
use Rattle.ix_core.specs.Heap.{Held, Reading, Num, Boolean, Null, At, Heap, Object, Kind, ObjectOf, ArrayOf, value_at, object_at, reading_of}
use Rattle.ix_core.specs.Machine.{CallKind, Static, Instance, New, Super, Frame, Waiting, State, Limits, is_past, frame, call_values, call_heap, slots_with, receiver_slot, found_at, found_for, callee_of, target_of, set_target, returned_or, result_of, result_shown, resumed, entered, stopped, called, lacks_cells, moved, next_move, step, step_from, Move, Go, Wrap, Tell, Enter, Leave, Stop, Ending, Ended, NullUsed, HeapFull, FrameFull}
use Rattle.ix_core.specs.Posts.{PostsHold}
use Rattle.ix_core.specs.Objects.{PostsName, Promised, IsOn, IsIntHeld, KeepsInts, Later, IsKept, IsSame, HasField, MeetsField, IsFree, HeapKeeps, FrameKeeps, IsOwn, IsInput, This, Named, Names, StepKeeps, claim_names, offset_names}
use Rattle.ix_core.specs.Safe.{Counts, IsBad}
use Rattle.ix_core.specs.Tasks.{Tasks, Empty, code_then}
use Rattle.ix_core.specs.Waits.{Knowledge, AreNotOwn, FitsKind, FitsCall, MeetParams, param_readings, reading_through, Reason, NoEffect, Final, Hidden, Constructs, Makes, is_super, AreFresh, Running, Uncounted, Runs, Ends}
use Rattle.ix_core.specs.Waits as waits
use Rattle.ix_core.specs.Analysis.{Stands, Laws, Shows, Calls, Leaves, Behind, Results, IsFreeIf, IsIntIf, FillsTarget}
use Rattle.ix_core.specs.Tables.{param_slot, param_slots, default_result, routine_of, body_of}
use Rattle.ix_core.specs.World.{World, tables_in}
use Rattle.ix_core.proofs.Heaps.{grown_new, value_other, value_set, set_keeps}
use Rattle.ix_core.proofs.Kept.{all_on}
use Rattle.ix_core.proofs.Waiting.{super_parts, free_grows, later_refl, later_push, without, free_without, as_it_is, Grows, waits_kept, waits_grow, waits_built, frame_grows, frame_without, suspended}
use Rattle.ix_core.proofs.Entered.{none_some, slots_are, slots_length, values_length, args_each, first_and, params_same, new_keeps, new_ints, new_fresh, new_same, new_old, with_new, grown, new_object}
use Rattle.ix_core.proofs.Cases.{by_test, equal, differ}

-- ---- claims, where the numbers that they name are the same

pub offset_named : (o : _) (f g : Name → Reading) → ((name : Name) (at : ℕ) → slice_get (offset_names o) at ≡ Some name → f name ≡ g name) → offset_of f o ≡ offset_of g o
offset_named off.Nothing f g same = refl
offset_named (off.Plus name) f g same = ap (λ (r : Reading). r.int) (same name 0 refl)
offset_named (off.Minus name) f g same = let e = ap (λ (r : Reading). r.int) (same name 0 refl) in omega (arith, ints)

pub claim_named : (claim : Claim) (v : Reading) (f g : Name → Reading) → ((name : Name) (at : ℕ) → slice_get (claim_names claim) at ≡ Some name → f name ≡ g name) → True claim v f → True claim v g
claim_named (Range low high) v f g same is = is
claim_named (Low low) v f g same is = is
claim_named (Length least) v f g same is = is
claim_named (Same other) v f g same is = is ∙ ap (λ (r : Reading). r.size) (same other 0 refl)
claim_named (Less name constant) v f g same is = let e = ap (λ (r : Reading). r.int) (same name 0 refl) in omega (arith, ints)
claim_named (Upper array o constant) v f g same is =
    let e = ap (λ (r : Reading). r.size) (same array 0 refl) in
    let d = offset_named o f g (λ name at x. same name (suc at) x) in
    omega (arith, ints)
claim_named (Search array) v f g same is = let e = ap (λ (r : Reading). r.size) (same array 0 refl) in (omega (arith, ints), omega (arith, ints))
claim_named (Negative array) v f g same is = let e = ap (λ (r : Reading). r.size) (same array 0 refl) in (omega (arith, ints), is.1)

-- posts are true where the names in them have the same readings
posts_renamed : (posts : List Post) (f g : Name → Reading) (value : Option Held) → ((name : Name) → PostsName posts name → f name ≡ g name) → PostsHold posts f value → PostsHold posts g value
posts_renamed [] f g value same is = tt
posts_renamed (post ∷ posts) f g value same is = (
  λ speaks. subst (λ r. True post.claim r g) (same post.on (0, 0, post, refl, refl)) (claim_named post.claim (f post.on) f g (λ name at e. same name (0, suc at, post, refl, e)) (is.0 speaks)),
  posts_renamed posts f g value (λ name n. same name (suc n.0, n.1, n.2, n.3, n.4)) is.1,
)

true_named : (claims : List Claim) (v : Reading) (f g : Name → Reading) → ((name : Name) → Names claims name → f name ≡ g name) → AreTrue claims v f → AreTrue claims v g
true_named [] v f g same is = tt
true_named (claim ∷ claims) v f g same is =
    (claim_named claim v f g (λ name at e. same name (0, at, claim, refl, e)) is.0, true_named claims v f g (λ name n. same name (suc n.0, n.1, n.2, n.3, n.4)) is.1)

-- ---- the slots of a frame that goes on

number_in : Held → ℕ
number_in (At k) = k
number_in (Num n) = 0
number_in (Boolean answer) = 0
number_in Null = 0

number_at : {k : ℕ} {m : ℕ} → At k ≡ At m → k ≡ m
unfolding number_in
number_at e = ap number_in e

zero_int : IsIntHeld (Num (pos 0))
zero_int = record { from = omega (arith, ints); to = omega (arith, ints) }

-- ---- what a frame ends with

default_int : (ty : Type_) (default : Held) → default_result ty ≡ Some default → IsIntHeld default
default_int type.Void default is = absurd cc
default_int (type.Plain base.Int) default is = let e : Num (pos 0) ≡ default = cc in subst IsIntHeld e zero_int
default_int (type.Plain base.Bool) default is = let e : Boolean false ≡ default = cc in subst IsIntHeld e tt
default_int (type.Plain (base.Class class)) default is = let e : Null ≡ default = cc in subst IsIntHeld e tt
default_int (type.Array of depth element) default is = let e : Null ≡ default = cc in subst IsIntHeld e tt

returned_int : (default : Held) (slots : List Held) (returned : Option ℕ) → IsIntHeld default → ((slot : ℕ) → IsIntHeld (value_at slots slot)) → IsIntHeld (returned_or default slots returned)
returned_int default slots None here each = here
returned_int default slots (Some slot) here each = each slot

given_int : (default : Option Held) (slots : List Held) (returned : Option ℕ) → ((value : Held) → default ≡ Some value → IsIntHeld value) → ((slot : ℕ) → IsIntHeld (value_at slots slot))
    → IsIntIf (option_map (λ value. returned_or value slots returned) default)
given_int None slots returned here each = tt
given_int (Some value) slots returned here each = returned_int value slots returned (here value refl) each

result_int : (method : Method) (slots : List Held) (heap : Heap) (returned : Option ℕ) → KeepsInts slots heap → IsIntIf (result_of (routine_of method) slots returned)
result_int method slots heap returned ints_ =
    by_test method.constructor
    (λ c. let e : result_of (routine_of method) slots returned ≡ Some (value_at slots 0) = rw c refl in subst IsIntIf (sym e) (ints_.held 0))
    (λ c.
    let e : result_of (routine_of method) slots returned ≡ option_map (λ value. returned_or value slots returned) (default_result method.result) = rw c refl in
    subst IsIntIf (sym e) (given_int (default_result method.result) slots returned (default_int method.result) ints_.held))

-- what a method ends with that is no constructor: a value where its result's type has a default
result_given : (named ends : Method) (target : ℕ) (slots : List Held) (returned : Option ℕ) → ends.constructor ≡ false → named.result ≡ ends.result
    → FillsTarget (result_of (routine_of ends) slots returned) (option_map (λ default. target) (default_result named.result))
result_given named ends target slots returned plain same =
    let e : result_of (routine_of ends) slots returned ≡ option_map (λ value. returned_or value slots returned) (default_result ends.result) = rw plain refl in
    subst (λ value. FillsTarget value (option_map (λ default. target) (default_result named.result))) (sym e)
    (subst (λ ty. FillsTarget (option_map (λ value. returned_or value slots returned) (default_result ends.result)) (option_map (λ default. target) (default_result ty))) (sym same) (both (default_result ends.result)))
  where
    both : (default : Option Held) → FillsTarget (option_map (λ value. returned_or value slots returned) default) (option_map (λ of. target) default)
    both None = tt
    both (Some value) = tt

pub free_set : (building : ℕ → Type 0) (method : Method) (slots : List Held) (heap : Heap) (target : Option ℕ) (value : Option Held) → ((at : ℕ) → target ≡ Some at → IsOwn method at → ⊥) → ((at : ℕ) → target ≡ Some at → IsFreeIf building heap value)
    → FrameKeeps building method slots heap → FrameKeeps building method (set_target target value slots) heap
free_set building method slots heap None value inner free frame = frame
free_set building method slots heap (Some t) None inner free frame = frame
free_set building method slots heap (Some t) (Some x) inner free frame = record {
  size = length-set slots t x ∙ frame.size;
  made = λ c. ((frame.made c).0, by_test (0 == t) (λ e. absurd (inner t refl (c, sym (equal 0 t e)))) (λ e. value_other slots t 0 x e ∙ (frame.made c).1));
  this = λ c object at.
      by_test (0 == t)
      (λ e. absurd (inner t refl (c, sym (equal 0 t e))))
      (λ e. frame.this c object (sym (value_other slots t 0 x e) ∙ at));
  free = λ slot other.
      by_test (slot == t)
      (λ e. by_test (nat_lt t (length slots))
      (λ l. let lt : t < length slots = grind (arith, nat_tests) in
      subst (IsFree building heap) (sym (ap (value_at (slice_set slots t x)) (equal slot t e) ∙ value_set slots t x lt)) (free t refl))
      (λ l. let le : length slots ≤ t = grind (arith, nat_tests) in
      subst (λ xs. IsFree building heap (value_at xs slot)) (sym (set_past slots t x le)) (frame.free slot other)))
      (λ e. subst (IsFree building heap) (sym (value_other slots t slot x e)) (frame.free slot other));
}

inputs_set : (slots : List Held) (target : Option ℕ) (value : Option Held) (slot : ℕ) → ((at : ℕ) → target ≡ Some at → (slot == at) ≡ false) → value_at slots slot ≡ value_at (set_target target value slots) slot
inputs_set slots None value slot other = refl
inputs_set slots (Some t) None slot other = refl
inputs_set slots (Some t) (Some x) slot other = sym (value_other slots t slot x (other t refl))

ints_set : (slots : List Held) (heap : Heap) (target : Option ℕ) (value : Option Held) → IsIntIf value → KeepsInts slots heap → KeepsInts (set_target target value slots) heap
ints_set slots heap None value int ints_ = ints_
ints_set slots heap (Some t) None int ints_ = ints_
ints_set slots heap (Some t) (Some x) int ints_ = record { held = set_keeps IsIntHeld slots t x int ints_.held; within = ints_.within; sizes = ints_.sizes }

true_not_false : true ≡ false → ⊥
true_not_false e = false≢true (sym e)

pub some_same : (a b : ℕ) → ◌≡◌ {A = Option ℕ} (Some a) (Some b) → a ≡ b
some_same a b e = ap (λ (o : Option ℕ). unwrap_or o 0) e

module _ (profile : Profile) (world : World) (Typed : ℕ → Tasks → List Held → Heap → Type 0) (know : Knowledge) (laws : Laws profile world Typed know) where
  abbrev Waits : List Waiting → Frame → (ℕ → ℕ → Type 0) → (ℕ → Type 0) → Heap → Type 0
  Waits below callee above building heap = waits.Waits world know below callee above building heap

  found_in : (named m : ℕ) (kind : Kind) → found_for (tables_in world) named kind ≡ Some m → (class : ℕ) × (world.found class named ≡ m)
  found_in named m (ObjectOf class) e = (class, some_same (world.found class named) m e)
  found_in named m (ArrayOf ty) e = none_some m e

  -- the method that runs is the object's class's
  found_is : (named m : ℕ) (heap : Heap) (held : Held) → found_at (tables_in world) named heap held ≡ Some m → (class : ℕ) × (world.found class named ≡ m)
  found_is named m heap (Num n) e = none_some m e
  found_is named m heap (Boolean answer) e = none_some m e
  found_is named m heap Null e = none_some m e
  found_is named m heap (At k) e = found_in named m (object_at heap k).kind e

  not_input_own : (m : ℕ) (at : ℕ) → (IsInput (world.methods m) at → ⊥) → IsOwn (world.methods m) at → ⊥
  not_input_own m at none own = none (subst (IsInput (world.methods m)) (sym own.1) (This (laws.tables.constructors m own.0)))

  -- the frame that was called goes on, with the same inputs
  with_callee : (building : ℕ → Type 0) (heap : Heap) (bound : (object : ℕ) → building object → object < length heap) (below : List Waiting) (callee : Frame) (tasks : Tasks) (slots : List Held) (above over : ℕ → ℕ → Type 0)
      → ((slot : ℕ) → IsInput (world.methods callee.method) slot → value_at callee.slots slot ≡ value_at slots slot)
      → ((object class : ℕ) → over object class → above object class)
      → Waits below callee above building heap → Waits below (frame callee.method tasks slots) over building heap
  with_callee building heap bound [] callee tasks slots above over same up all = tt
  with_callee building heap bound (w ∷ below) callee tasks slots above over same up all =
      let wait = suspended world know w callee above over building building heap heap all.0 bound all.0.frame_keeps (later_refl heap) (λ slot field object at stays. refl) (λ q s object field lt. refl)
      (λ object class is. inl (as_it_is world above object class (up object class is))) in (
        record {
          frame_keeps = wait.frame_keeps;
          kind = wait.kind;
          call = wait.call;
          target = wait.target;
          store = wait.store;
          began = wait.began;
          all_on = wait.all_on;
          ints = wait.ints;
          holds = wait.holds;
          since = wait.since;
          untouched = wait.untouched;
          quiet = wait.quiet;
          fits_named = wait.fits_named;
          fits = wait.fits;
          runs = wait.runs;
          met = wait.met;
          inputs = λ slot is. sym (same slot is) ∙ wait.inputs slot is;
          makes = wait.makes;
          apart = wait.apart;
          parents = wait.parents;
          fresh = wait.fresh;
          fine = wait.fine;
        },
        waits_grow world know building building (λ object class. above object class ⊎ Constructs world w.frame object class) (λ object class. over object class ⊎ Constructs world w.frame object class) heap heap
            (record {
              later = later_refl heap;
              same = λ object field lt. refl;
              bound = bound;
              still = λ object is. is;
              old = λ object is. inl is;
              up = λ object class is. inl (as_it_is world (λ o k. above o k ⊎ Constructs world w.frame o k) object class (⊎_elim (λ u. inl (up object class u)) (λ u. inr u) is));
            }) below w.frame all.1,
      )

  -- a frame with the same inputs constructs the same object
  same_object : (callee : Frame) (tasks : Tasks) (slots : List Held) → ((slot : ℕ) → IsInput (world.methods callee.method) slot → value_at callee.slots slot ≡ value_at slots slot)
      → (object class : ℕ) → Constructs world (frame callee.method tasks slots) object class → Constructs world callee object class
  same_object callee tasks slots same object class c = record {
    constructor = c.constructor;
    this = same 0 (This (laws.tables.constructors callee.method c.constructor)) ∙ c.this;
    of = c.of;
  }

  -- ---- a step of the last frame

  pub goes : (state : State) (r : Running world know state) (tasks : Tasks) (slots : List Held) (heap : Heap) (wrapped : Bool)
      → StepKeeps world r.building (world.methods state.now.method) state.now.slots state.heap slots heap → KeepsInts slots heap → Behind profile world know state.now.method tasks slots heap
      → Running world know (record state { now = frame state.now.method tasks slots; heap = heap; wrapped = wrapped })
  goes state r tasks slots heap wrapped kept int behind = record {
    building = r.building;
    heap_keeps = kept.heap_keeps;
    frame_keeps = kept.frame_keeps;
    ints = int;
    store = behind.store;
    holds = behind.holds;
    fine = behind.fine;
    waits = with_callee r.building heap kept.heap_keeps.bound state.below state.now tasks slots (Constructs world state.now) (Constructs world (frame state.now.method tasks slots)) kept.inputs
        (same_object state.now tasks slots kept.inputs)
        (waits_kept world know r.building state.now state.heap r.heap_keeps.bound r.frame_keeps slots heap kept state.below state.now (Constructs world state.now) (λ q. q) (λ object class is. is) r.waits);
  }

  -- ---- a call

  module _ (state : State) (r : Running world know state) (kind : CallKind) (call : CallOp) (tasks : Tasks) (good : Calls profile world know state.now.method kind call tasks state.now.slots state.heap) where
    abbrev caller : Method
    caller = world.methods state.now.method

    abbrev n : ℕ
    n = length state.heap

    abbrev values : List Held
    values = call_values kind call (length state.heap) state.now.slots

    abbrev after : Heap
    after = call_heap (tables_in world) kind state.heap

    -- what each kind of call shows of the method that runs
    pub record Enters (m : ℕ) : Type 1 where
      pub building : ℕ → Type 0
      pub heap_keeps : HeapKeeps world building after
      pub later : Later state.heap after
      pub same : (object field : ℕ) → object < length state.heap → IsSame world state.heap after object field
      pub still : (object : ℕ) → r.building object → building object
      pub old : (object : ℕ) → building object → r.building object ⊎ (length state.heap ≤ object)
      pub ints : KeepsInts state.now.slots after
      pub fits : FitsCall world caller (world.methods m) kind call
      pub demands : MeetParams world (world.methods call.method) values after → MeetParams world (world.methods m) values after
      pub free : (k : ℕ) → (IsOwn (world.methods m) k → ⊥) → IsFree building after (value_at values k)
      pub held : (k : ℕ) → IsIntHeld (value_at values k)
      pub makes : Makes world kind values state.now.slots state.heap after
      pub made : (world.methods m).constructor ≡ true → (object : ℕ) × (value_at values 0 ≡ At object)
      -- a constructor's object is new, or the caller's own
      pub this : (world.methods m).constructor ≡ true → (object : ℕ) → value_at values 0 ≡ At object → building object × AreFresh world after object (world.methods m).class
          × (((is_super kind ≡ false) × (length state.heap ≤ object)) ⊎ ((is_super kind ≡ true) × Constructs world state.now object caller.class × (world.parent caller.class ≡ Some (world.methods m).class)))

    inherited : (parent class : ℕ) → world.parent class ≡ Some parent → (field : ℕ) → HasField world (ObjectOf parent) field → HasField world (ObjectOf class) field
    inherited parent class is field has = (has.0, laws.tables.inherits class parent field has.0 is has.1)

    pub enter_with : (m : ℕ) → callee_of (tables_in world) kind call state.now.slots state.heap ≡ Some m → Enters m → Running world know (entered (tables_in world) kind call m tasks state)
    enter_with m runs e =
        let new = world.methods m in
        let slots : List Held = slots_with new.slots values in
        let are : (k : ℕ) → value_at slots k ≡ value_at values k = slots_are new.slots values in
        let callee : Frame = frame m (code_then (body_of new) Empty) slots in
        let count = values_length kind call (length state.heap) 0 state.now.slots [] ∙ e.fits.count in
        let this : (object class : ℕ) → Constructs world callee object class → e.building object × AreFresh world after object (world.methods m).class
        × (((is_super kind ≡ false) × (length state.heap ≤ object)) ⊎ ((is_super kind ≡ true) × Constructs world state.now object caller.class × (world.parent caller.class ≡ Some (world.methods m).class)))
        = λ object class c. e.this c.constructor object (sym (are 0) ∙ c.this) in
        let grows : Grows world know r.building e.building (Constructs world state.now) (λ object class. Constructs world callee object class ⊎ Constructs world state.now object class) state.heap after = record {
          later = e.later;
          same = e.same;
          bound = r.heap_keeps.bound;
          still = e.still;
          old = e.old;
          up = λ object class is. ⊎_elim
              (λ c. ⊎_elim (λ x. inr x.1)
              (λ x. inl (caller.class, x.1, λ field has. inherited (world.methods m).class caller.class x.2 field (subst (λ k. HasField world (ObjectOf k) field) (sym c.of) has)))
              (this object class c).2)
              (λ c. inl (as_it_is world (Constructs world state.now) object class c)) is;
        } in
        let frame_keeps : FrameKeeps e.building new slots after = record {
          size = slots_length new.slots values (let x = e.fits.room in omega (arith, count, x));
          made = λ c. ((e.made c).0, are 0 ∙ (e.made c).1);
          this = λ c object at. (e.this c object (sym (are 0) ∙ at)).0;
          free = λ slot other. subst (IsFree e.building after) (sym (are slot)) (e.free slot other);
        } in
        let new_ints_ : KeepsInts slots after = record { held = λ slot. subst IsIntHeld (sym (are slot)) (e.held slot); within = e.ints.within; sizes = e.ints.sizes } in record {
          building = e.building;
          heap_keeps = e.heap_keeps;
          frame_keeps = frame_keeps;
          ints = new_ints_;
          store = know.entry m;
          holds = laws.entry m slots after (params_same world new values slots after (λ k. sym (are k)) (e.demands good.met)) (all_on world e.building new slots after e.heap_keeps frame_keeps) new_ints_
              (λ c. ((e.made c).0, are 0 ∙ (e.made c).1, (e.this c (e.made c).0 (e.made c).1).1));
          fine = laws.body m;
          waits = (
            record {
              frame_keeps = frame_grows world know r.building e.building (Constructs world state.now) (λ object class. Constructs world callee object class ⊎ Constructs world state.now object class) state.heap after grows caller state.now.slots r.frame_keeps;
              kind = kind;
              call = call;
              target = refl;
              store = good.store;
              began = state.heap;
              all_on = all_on world r.building caller state.now.slots state.heap r.heap_keeps r.frame_keeps;
              ints = r.ints;
              holds = good.holds;
              since = record { later = e.later; same = λ slot field object at stays. e.same object field (subst (IsOn state.heap) at ((all_on world r.building caller state.now.slots state.heap r.heap_keeps r.frame_keeps).held slot)) };
              untouched = good.fresh;
              quiet = λ q s object field lt. e.same object field lt;
              fits_named = good.fits;
              fits = e.fits;
              runs = runs;
              met = good.met;
              inputs = λ slot is. are slot;
              makes = e.makes;
              apart = λ s object class mine c is. ⊎_elim
                  (λ x. let lt = r.heap_keeps.bound object (r.frame_keeps.this c.constructor object c.this) in let le = x.1 in absurd (omega (arith, le, lt)))
                  (λ x. false≢true (sym s ∙ x.0))
                  (this object class is).2;
              parents = λ s object class mine field c is has. subst (λ k. HasField world (ObjectOf k) field) (sym is.of) has;
              fresh = λ q object class is. ⊎_elim (λ x. inl x.1) (λ x. inr (x.0, x.1.this)) (this object class is).2;
              fine = good.fine;
            },
            with_callee e.building after e.heap_keeps.bound state.below state.now tasks state.now.slots (λ object class. Constructs world callee object class ⊎ Constructs world state.now object class)
                (λ object class. Constructs world callee object class ⊎ Constructs world (frame state.now.method tasks state.now.slots) object class) (λ slot is. refl)
                (λ object class is. ⊎_elim (λ c. inl c) (λ c. inr (same_object state.now tasks state.now.slots (λ slot i. refl) object class c)) is)
                (waits_grow world know r.building e.building (Constructs world state.now) (λ object class. Constructs world callee object class ⊎ Constructs world state.now object class) state.heap after grows state.below state.now r.waits),
          );
        }

  -- ---- what each kind of call shows

  args_int : (slots : List Held) (heap : Heap) (caller : Method) (args : List Arg) → AreNotOwn caller args → KeepsInts slots heap → (k : ℕ) → IsIntHeld (value_at (map (λ arg. value_at slots arg.slot) args) k)
  args_int slots heap caller args hidden int k = args_each caller IsIntHeld slots args hidden zero_int (λ slot other. int.held slot) k

  -- `new`: the object is under construction
  pub enters_new : (state : State) (r : Running world know state) (class : ℕ) (call : CallOp) (tasks : Tasks) (good : Calls profile world know state.now.method (New class) call tasks state.now.slots state.heap)
      → Enters state r (New class) call tasks good call.method
  enters_new state r class call tasks good =
      let heap = state.heap in
      let made = world.methods call.method in
      let bl : ℕ → Type 0 = with_new world laws.tables r.building heap class in
      let after : Heap = grown world laws.tables r.building heap class in
      let later : Later heap after = later_push heap (new_object world laws.tables r.building heap class) in
      let there : length heap < length after = let long = length-append heap (new_object world laws.tables r.building heap class ∷ []) in omega (arith, long) in record {
        building = bl;
        heap_keeps = new_keeps world laws.tables r.building heap class r.heap_keeps;
        later = later;
        same = new_same world laws.tables r.building heap class;
        still = λ object is. inl is;
        old = new_old world laws.tables r.building heap class;
        ints = new_ints world laws.tables r.building heap class state.now.slots r.ints;
        fits = good.fits;
        demands = λ met. met;
        free = first_and (λ k x. (IsOwn made k → ⊥) → IsFree bl after x) (At (length heap)) _ (λ other. absurd (other (good.fits.kinds.0, refl)))
            (λ k other. args_each (world.methods state.now.method) (IsFree bl after) state.now.slots call.args good.fits.hidden tt
            (λ slot apart. free_grows r.building bl heap after (value_at state.now.slots slot) later (new_old world laws.tables r.building heap class) (r.frame_keeps.free slot apart)) k);
        held = first_and (λ k x. IsIntHeld x) (At (length heap)) _ tt (λ k. args_int state.now.slots heap (world.methods state.now.method) call.args good.fits.hidden r.ints k);
        makes = (refl, later_refl after);
        made = λ c. (length state.heap, refl);
        this = λ c object at.
            let is : length heap ≡ object = number_at at in
            (inr (sym is), subst (λ k. AreFresh world after object k) (sym good.fits.kinds.1) (subst (λ o. AreFresh world after o class) is (new_fresh world laws.tables r.building heap class)), inl (refl, omega (arith, is)));
      }

  pub enters_static : (state : State) (r : Running world know state) (call : CallOp) (tasks : Tasks) (good : Calls profile world know state.now.method Static call tasks state.now.slots state.heap)
      → Enters state r Static call tasks good call.method
  enters_static state r call tasks good = record {
    building = r.building;
    heap_keeps = r.heap_keeps;
    later = later_refl state.heap;
    same = λ object field lt. refl;
    still = λ object is. is;
    old = λ object is. inl is;
    ints = r.ints;
    fits = good.fits;
    demands = λ met. met;
    free = λ k other. args_each (world.methods state.now.method) (IsFree r.building state.heap) state.now.slots call.args good.fits.hidden tt r.frame_keeps.free k;
    held = λ k. args_int state.now.slots state.heap (world.methods state.now.method) call.args good.fits.hidden r.ints k;
    makes = tt;
    made = λ c. absurd (false≢true (sym good.fits.kinds ∙ c));
    this = λ c object at. absurd (false≢true (sym good.fits.kinds ∙ c));
  }

  pub enters_instance : (state : State) (r : Running world know state) (call : CallOp) (tasks : Tasks) (good : Calls profile world know state.now.method Instance call tasks state.now.slots state.heap)
      → (m : ℕ) → Stands world (world.methods call.method) (world.methods m) → Enters state r Instance call tasks good m
  enters_instance state r call tasks good m stands =
      let named = world.methods call.method in
      let runs = world.methods m in
      let as_many : param_slots named ≡ param_slots runs = λ i. if stands.static i then stands.params i else stands.params i + 1 in
      let free_this : IsFree r.building state.heap (value_at state.now.slots (receiver_slot call.receiver))
      = subst (λ o. IsFree r.building state.heap (value_at state.now.slots (receiver_slot o))) (sym good.fits.kinds.2) (r.frame_keeps.free good.fits.kinds.1 good.fits.kinds.3) in record {
        building = r.building;
        heap_keeps = r.heap_keeps;
        later = later_refl state.heap;
        same = λ object field lt. refl;
        still = λ object is. is;
        old = λ object is. inl is;
        ints = r.ints;
        fits = record {
          kinds = (stands.plain good.fits.kinds.0, good.fits.kinds.1, good.fits.kinds.2, good.fits.kinds.3);
          hidden = good.fits.hidden;
          count = good.fits.count ∙ as_many;
          room = stands.slots;
          effect = λ q. stands.effect (good.fits.effect q);
          within = good.fits.within;
          target = good.fits.target;
        };
        demands = stands.demands (call_values Instance call (length state.heap) state.now.slots) state.heap;
        free = first_and (λ k x. (IsOwn runs k → ⊥) → IsFree r.building state.heap x) (value_at state.now.slots (receiver_slot call.receiver)) _ (λ other. free_this)
            (λ k other. args_each (world.methods state.now.method) (IsFree r.building state.heap) state.now.slots call.args good.fits.hidden tt r.frame_keeps.free k);
        held = first_and (λ k x. IsIntHeld x) (value_at state.now.slots (receiver_slot call.receiver)) _ (r.ints.held (receiver_slot call.receiver))
            (λ k. args_int state.now.slots state.heap (world.methods state.now.method) call.args good.fits.hidden r.ints k);
        makes = tt;
        made = λ c. absurd (false≢true (sym (stands.plain good.fits.kinds.0) ∙ c));
        this = λ c object at. absurd (false≢true (sym (stands.plain good.fits.kinds.0) ∙ c));
      }

  pub enters_super : (state : State) (r : Running world know state) (call : CallOp) (tasks : Tasks) (good : Calls profile world know state.now.method Super call tasks state.now.slots state.heap)
      → Enters state r Super call tasks good call.method
  enters_super state r call tasks good =
      let caller = world.methods state.now.method in
      let made = world.methods call.method in
      let fits = good.fits.kinds in
      let this_is : value_at state.now.slots (receiver_slot call.receiver) ≡ value_at state.now.slots 0 = ap (λ o. value_at state.now.slots (receiver_slot o)) fits.2 in record {
        building = r.building;
        heap_keeps = r.heap_keeps;
        later = later_refl state.heap;
        same = λ object field lt. refl;
        still = λ object is. is;
        old = λ object is. inl is;
        ints = r.ints;
        fits = good.fits;
        demands = λ met. met;
        free = first_and (λ k x. (IsOwn made k → ⊥) → IsFree r.building state.heap x) (value_at state.now.slots (receiver_slot call.receiver)) _ (λ other. absurd (other (fits.1, refl)))
            (λ k other. args_each caller (IsFree r.building state.heap) state.now.slots call.args good.fits.hidden tt r.frame_keeps.free k);
        held = first_and (λ k x. IsIntHeld x) (value_at state.now.slots (receiver_slot call.receiver)) _ (r.ints.held (receiver_slot call.receiver))
            (λ k. args_int state.now.slots state.heap caller call.args good.fits.hidden r.ints k);
        makes = this_is;
        made = λ c. ((r.frame_keeps.made fits.0).0, this_is ∙ (r.frame_keeps.made fits.0).1);
        this = λ c object at.
            let here : value_at state.now.slots 0 ≡ At object = sym this_is ∙ at in (
              r.frame_keeps.this fits.0 object here,
              (λ field has. good.fresh refl object here field (has.0, laws.tables.inherits caller.class made.class field has.0 fits.3 has.1)),
              inr (refl, record { constructor = fits.0; this = here; of = refl }, fits.3),
            );
      }

  -- ---- a return

  module _ (state : State) (w : Waiting) (below : List Waiting) (building : ℕ → Type 0) (keeps : HeapKeeps world building state.heap)
      (int : KeepsInts state.now.slots state.heap) (all : Waits (w ∷ below) state.now (Constructs world state.now) building state.heap) where
    abbrev waiter : Method
    waiter = world.methods w.frame.method

    abbrev ends : Method
    ends = world.methods state.now.method

    abbrev named : Method
    named = world.methods all.0.call.method

    abbrev given : List Held
    given = call_values all.0.kind all.0.call (length all.0.began) w.frame.slots

    abbrev Over : ℕ → ℕ → Type 0
    Over object class = Constructs world state.now object class ⊎ Constructs world w.frame object class

    weaker : (slot field : ℕ) → (named.effect_free ≡ true → ends.effect_free ≡ true) → Reason world waiter named slot field → Reason world waiter ends slot field
    weaker slot field effect (NoEffect q) = NoEffect (effect q)
    weaker slot field effect (Final e) = Final e
    weaker slot field effect (Hidden own) = Hidden own

    leave_with : (more : ℕ → Type 0) (value : Option Held) → HeapKeeps world more state.heap → FrameKeeps more waiter w.frame.slots state.heap
        → ((at : ℕ) → w.target ≡ Some at → IsFreeIf more state.heap value) → IsIntIf value → FillsTarget value (target_of (tables_in world) all.0.kind all.0.call)
        → Results world named given state.heap value
        → (named.effect_free ≡ true → ends.effect_free ≡ true) → (is_super all.0.kind ≡ true → named ≡ ends)
        → (is_super all.0.kind ≡ true → (object : ℕ) → value_at w.frame.slots 0 ≡ At object → (field : ℕ) → HasField world (ObjectOf named.class) field → MeetsField world state.heap object field)
        → Waits below w.frame Over more state.heap
        → Running world know (resumed value state (w ∷ below))
    leave_with more value heap_keeps frame_keeps free is_int is_given results effect same_class claims rest =
        let wait = all.0 in
        let no_in : (at : ℕ) → w.target ≡ Some at → IsInput waiter at → ⊥ = λ at e. wait.fits.target at (sym wait.target ∙ e) in
        let slots : List Held = set_target w.target value w.frame.slots in
        let same : (slot : ℕ) → IsInput waiter slot → value_at w.frame.slots slot ≡ value_at slots slot
        = λ slot is. inputs_set w.frame.slots w.target value slot (λ at e. by_test (slot == at) (λ t. absurd (no_in at e (subst (IsInput waiter) (equal slot at t) is))) (λ t. t)) in
        let ints_now : KeepsInts w.frame.slots state.heap = record { held = wait.ints.held; within = int.within; sizes = int.sizes } in record {
          building = more;
          heap_keeps = heap_keeps;
          frame_keeps = free_set more waiter w.frame.slots state.heap w.target value (λ at e. not_input_own w.frame.method at (no_in at e)) free frame_keeps;
          ints = ints_set w.frame.slots state.heap w.target value is_int ints_now;
          store = know.after_call waiter named wait.kind wait.call wait.store;
          holds = subst (λ t. know.Holds (know.after_call waiter named wait.kind wait.call wait.store) (set_target t value w.frame.slots) state.heap) (sym wait.target)
              (laws.after_call waiter named wait.kind wait.call wait.store w.frame.slots wait.began state.heap value wait.fits_named wait.frame_keeps.size wait.all_on wait.ints wait.holds
              (record {
                later = wait.since.later;
                same = λ slot field object at stays. wait.since.same slot field object at
                    (record {
                      not_super = λ s own has. stays.not_super s own (subst (λ (x : Method). HasField world (ObjectOf x.class) field) (sym (same_class s)) has);
                      reason = weaker slot field effect stays.reason;
                    });
              })
              ints_now is_int is_given results
              (λ s. let made = wait.frame_keeps.made (super_parts world wait.kind waiter ends wait.call wait.fits.kinds s).0 in (made.0, made.1, wait.untouched s made.0 made.1, claims s made.0 made.1)));
          fine = wait.fine;
          waits = with_callee more state.heap heap_keeps.bound below w.frame w.frame.tasks slots Over (Constructs world (frame w.frame.method w.frame.tasks slots)) same
              (λ object class is. inr (same_object w.frame w.frame.tasks slots same object class is)) rest;
        }

    not_super : (kind : CallKind) → all.0.kind ≡ kind → is_super kind ≡ false → {T : Type 0} → is_super all.0.kind ≡ true → T
    not_super kind e isnt is = absurd (false≢true (sym isnt ∙ (sym (ap is_super e) ∙ is)))

    -- a constructor ends: its object is built
    leave_new : (class : ℕ) (value : Option Held) → all.0.kind ≡ New class → (ends.constructor ≡ true) × (ends.class ≡ class) → named ≡ ends → value_at state.now.slots 0 ≡ At (length all.0.began)
        → Later (call_heap (tables_in world) (New class) all.0.began) state.heap → Leaves profile world know building ends state.now.slots state.heap value
        → Running world know (resumed (Some (value_at state.now.slots 0)) state (w ∷ below))
    leave_new class value e fits same this later leaving =
        let wait = all.0 in
        let heap = state.heap in
        let n : ℕ = length wait.began in
        let made : Object = record { kind = ObjectOf class; cells = world.fresh_fields class } in
        let long : length (wait.began ++ made ∷ []) ≡ length wait.began + 1 = length-append wait.began (made ∷ []) in
        let kept : IsKept (wait.began ++ made ∷ []) heap n = later n (omega (arith, long)) in
        let kind_is : (object_at heap n).kind ≡ ObjectOf class = sym kept.kind ∙ ap (λ (t : Object). t.kind) (grown_new wait.began made) in
        let mine : Constructs world state.now n ends.class = record { constructor = fits.0; this = this; of = refl } in
        let not_gone : (own : ℕ) → Constructs world w.frame n own → ⊥ = λ own c. wait.apart (ap is_super e) n ends.class own c mine in
        let heap_keeps : HeapKeeps world (without building n) heap = record {
          bound = λ object is. keeps.bound object is.0;
          free = λ number place. free_without building n heap (value_at (object_at heap number).cells place) (keeps.free number place);
          built = λ object other field has.
              by_test (object == n)
              (λ t.
              let is : object ≡ n = equal object n t in
              leaving.built fits.0 object field (this ∙ ap At (sym is))
              (subst (λ k. HasField world k field) (ap (λ o. (object_at heap o).kind) is ∙ (kind_is ∙ ap ObjectOf (sym fits.1))) has))
              (λ t. keeps.built object (λ b. other (b, differ object n t)) field has);
          elements = keeps.elements;
          room = keeps.room;
        } in
        leave_with (without building n) (Some (value_at state.now.slots 0)) heap_keeps
        (frame_without world know building n waiter w.frame.slots heap (λ c at. not_gone waiter.class (record { constructor = c; this = at; of = refl })) wait.frame_keeps)
        (λ at to. subst (IsFree (without building n) heap) (sym this) (kept.on, λ is. is.1 refl))
        (int.held 0) tt
        (subst (λ (x : Method). Results world x given heap (Some (value_at state.now.slots 0))) (sym same)
        (record {
          claims = subst (λ claims. AreTrue claims (reading_of heap (value_at state.now.slots 0)) (param_readings world ends given heap)) (sym (laws.tables.no_result state.now.method fits.0)) tt;
          posts = subst (λ posts. PostsHold posts (param_readings world ends given heap) (Some (value_at state.now.slots 0))) (sym (laws.tables.no_posts state.now.method fits.0)) tt;
        }))
        (λ q. subst (λ (x : Method). x.effect_free ≡ true) same q)
        (λ s. same)
        (λ s. not_super (New class) e refl s)
        (waits_built world know laws.tables building n ends.class heap keeps.bound below w.frame Over (inl mine) not_gone all.1)

    named_same : ((slot : ℕ) → IsInput ends slot → value_at state.now.slots slot ≡ value_at given slot) → (name : Name) → Names ends.result_claims name
        → param_readings world ends state.now.slots state.heap name ≡ param_readings world ends given state.heap name
    named_same same (Param number) is = ap (reading_of state.heap) (same (param_slot ends number) (Named number is))
    named_same same (Local number) is = absurd (laws.tables.no_locals state.now.method number is)
    named_same same (FieldNamed field) is = ap (λ held. reading_through world state.heap held field) (same 0 (This (laws.tables.named state.now.method field is)))

    posts_same : ((slot : ℕ) → IsInput ends slot → value_at state.now.slots slot ≡ value_at given slot) → (name : Name) → PostsName ends.posts name
        → param_readings world ends state.now.slots state.heap name ≡ param_readings world ends given state.heap name
    posts_same same (Param number) is = ap (reading_of state.heap) (same (param_slot ends number) (Promised number is))
    posts_same same (Local number) is = absurd (laws.tables.posts_no_locals state.now.method number is)
    posts_same same (FieldNamed field) is = ap (λ held. reading_through world state.heap held field) (same 0 (This (laws.tables.posts_named state.now.method field is)))

    -- what the result's claims name is as it was in the values that were given
    result_named : (value : Held) → ((slot : ℕ) → IsInput ends slot → value_at state.now.slots slot ≡ value_at given slot)
        → AreTrue ends.result_claims (reading_of state.heap value) (param_readings world ends state.now.slots state.heap) → AreTrue ends.result_claims (reading_of state.heap value) (param_readings world ends given state.heap)
    result_named value same is =
        true_named ends.result_claims (reading_of state.heap value) (param_readings world ends state.now.slots state.heap) (param_readings world ends given state.heap) (named_same same) is

    results_of : (value : Option Held) → Results world ends state.now.slots state.heap value
        → ((x : Held) → AreTrue ends.result_claims (reading_of state.heap x) (param_readings world ends given state.heap) → AreTrue named.result_claims (reading_of state.heap x) (param_readings world named given state.heap))
        → ((o : Option Held) → PostsHold ends.posts (param_readings world ends given state.heap) o → PostsHold named.posts (param_readings world named given state.heap) o)
        → Results world named given state.heap value
    results_of None is stands keeps_posts = record { claims = tt; posts = keeps_posts None (posts_renamed ends.posts _ _ None (posts_same all.0.inputs) is.posts) }
    results_of (Some x) is stands keeps_posts = record { claims = stands x (result_named x all.0.inputs is.claims); posts = keeps_posts (Some x) (posts_renamed ends.posts _ _ (Some x) (posts_same all.0.inputs) is.posts) }

    -- a method ends
    leave_plain : (kind : CallKind) (value : Option Held) → all.0.kind ≡ kind → is_super kind ≡ false → ends.constructor ≡ false → IsIntIf value → FillsTarget value (target_of (tables_in world) kind all.0.call)
        → ((x : Held) → AreTrue ends.result_claims (reading_of state.heap x) (param_readings world ends given state.heap) → AreTrue named.result_claims (reading_of state.heap x) (param_readings world named given state.heap))
        → ((o : Option Held) → PostsHold ends.posts (param_readings world ends given state.heap) o → PostsHold named.posts (param_readings world named given state.heap) o)
        → (named.effect_free ≡ true → ends.effect_free ≡ true)
        → Leaves profile world know building ends state.now.slots state.heap value
        → Running world know (resumed value state (w ∷ below))
    leave_plain kind value e isnt plain is_int is_given stands keeps_posts effect leaving =
        leave_with building value keeps all.0.frame_keeps (λ at to. leaving.free plain) is_int (subst (λ k. FillsTarget value (target_of (tables_in world) k all.0.call)) (sym e) is_given) (results_of value (leaving.results plain) stands keeps_posts)
        effect (λ s. not_super kind e isnt s) (λ s. not_super kind e isnt s)
        all.1

    -- a constructor that `super` called ends
    leave_super : (value : Option Held) → all.0.kind ≡ Super → FitsKind world Super waiter ends all.0.call → named ≡ ends → value_at state.now.slots 0 ≡ value_at w.frame.slots 0
        → Leaves profile world know building ends state.now.slots state.heap value
        → Running world know (resumed (Some (value_at state.now.slots 0)) state (w ∷ below))
    leave_super value e fits same this leaving =
        let wait = all.0 in
        let heap = state.heap in
        let none : w.target ≡ None = wait.target ∙ ap (λ k. target_of (tables_in world) k wait.call) e in
        leave_with building (Some (value_at state.now.slots 0)) keeps wait.frame_keeps
        (λ at to. none_some at (sym none ∙ to))
        (int.held 0) tt
        (subst (λ (x : Method). Results world x given heap (Some (value_at state.now.slots 0))) (sym same)
        (record {
          claims = subst (λ claims. AreTrue claims (reading_of heap (value_at state.now.slots 0)) (param_readings world ends given heap)) (sym (laws.tables.no_result state.now.method fits.1)) tt;
          posts = subst (λ posts. PostsHold posts (param_readings world ends given heap) (Some (value_at state.now.slots 0))) (sym (laws.tables.no_posts state.now.method fits.1)) tt;
        }))
        (λ q. subst (λ (x : Method). x.effect_free ≡ true) same q)
        (λ s. same)
        (λ s object at field has. leaving.built fits.1 object field (this ∙ at) (subst (λ (x : Method). HasField world (ObjectOf x.class) field) same has))
        all.1

    -- what the frame ends with
    abbrev result : Option ℕ → Option Held
    result returned = result_of (routine_of ends) state.now.slots returned

    result_this : (returned : Option ℕ) → ends.constructor ≡ true → result returned ≡ Some (value_at state.now.slots 0)
    result_this returned is = rw is refl

    is_int_result : (returned : Option ℕ) → IsIntIf (result returned)
    is_int_result returned = result_int ends state.now.slots state.heap returned int

    leave_by : (kind : CallKind) (returned : Option ℕ) → all.0.kind ≡ kind → FitsKind world kind waiter ends all.0.call → callee_of (tables_in world) kind all.0.call w.frame.slots all.0.began ≡ Some state.now.method
        → MeetParams world named (call_values kind all.0.call (length all.0.began) w.frame.slots) (call_heap (tables_in world) kind all.0.began)
        → ((slot : ℕ) → IsInput ends slot → value_at state.now.slots slot ≡ value_at (call_values kind all.0.call (length all.0.began) w.frame.slots) slot)
        → Makes world kind (call_values kind all.0.call (length all.0.began) w.frame.slots) w.frame.slots all.0.began state.heap
        → Leaves profile world know building ends state.now.slots state.heap (result returned)
        → Running world know (resumed (result returned) state (w ∷ below))
    leave_by Static returned e fits runs met inputs makes leaving =
        let same : named ≡ ends = ap world.methods (some_same all.0.call.method state.now.method runs) in
        (leave_plain Static (result returned) e refl fits (is_int_result returned) (result_given named ends all.0.call.target state.now.slots returned fits (ap (λ (m : Method). m.result) same)) (λ x is. subst (λ (m : Method). AreTrue m.result_claims (reading_of state.heap x) (param_readings world m given state.heap)) (sym same) is)
        (λ o is. subst (λ (m : Method). PostsHold m.posts (param_readings world m given state.heap) o) (sym same) is)
        (λ q. subst (λ (m : Method). m.effect_free ≡ true) same q) leaving)
    leave_by Instance returned e fits runs met inputs makes leaving =
        let wait = all.0 in
        let found = found_is wait.call.method state.now.method wait.began (value_at w.frame.slots (receiver_slot wait.call.receiver)) runs in
        let stands : Stands world named ends = subst (λ m. Stands world named (world.methods m)) found.1 (laws.stands found.0 wait.call.method) in
        let is_given : call_values Instance wait.call (length wait.began) w.frame.slots ≡ given = ap (λ k. call_values k wait.call (length wait.began) w.frame.slots) (sym e) in
        let on : (k : ℕ) → IsOn wait.began (value_at (call_values Instance wait.call (length wait.began) w.frame.slots) k)
        = first_and (λ k x. IsOn wait.began x) (value_at w.frame.slots (receiver_slot wait.call.receiver)) _ (wait.all_on.held (receiver_slot wait.call.receiver))
        (args_each waiter (IsOn wait.began) w.frame.slots wait.call.args wait.fits.hidden tt (λ slot other. wait.all_on.held slot)) in
        (leave_plain Instance (result returned) e refl fits.0 (is_int_result returned) (result_given named ends all.0.call.target state.now.slots returned fits.0 stands.result)
        (λ x is. subst (λ values. AreTrue named.result_claims (reading_of state.heap x) (param_readings world named values state.heap)) is_given
        (stands.promises (call_values Instance wait.call (length wait.began) w.frame.slots) wait.began state.heap x on wait.since.later
        (λ q object field lt. wait.quiet q (ap is_super e) object field lt) met
        (subst (λ values. AreTrue ends.result_claims (reading_of state.heap x) (param_readings world ends values state.heap)) (sym is_given) is)))
        (λ o is. stands.posts given state.heap o is)
        stands.effect leaving)
    leave_by (New class) returned e fits runs met inputs makes leaving =
        let same : named ≡ ends = ap world.methods (some_same all.0.call.method state.now.method runs) in
        subst (λ v. Running world know (resumed v state (w ∷ below))) (sym (result_this returned fits.0))
        (leave_new class (result returned) e fits same (inputs 0 (This (laws.tables.constructors state.now.method fits.0))) makes.1 leaving)
    leave_by Super returned e fits runs met inputs makes leaving =
        let same : named ≡ ends = ap world.methods (some_same all.0.call.method state.now.method runs) in
        subst (λ v. Running world know (resumed v state (w ∷ below))) (sym (result_this returned fits.1))
        (leave_super (result returned) e fits same (inputs 0 (This (laws.tables.constructors state.now.method fits.1)) ∙ makes) leaving)

    pub leaves : (returned : Option ℕ) → Leaves profile world know building ends state.now.slots state.heap (result returned) → Running world know (resumed (result returned) state (w ∷ below))
    leaves returned leaving = leave_by all.0.kind returned refl all.0.fits.kinds all.0.runs all.0.met all.0.inputs all.0.makes leaving

  -- ---- every move

  enters : (state : State) (r : Running world know state) (kind : CallKind) (call : CallOp) (tasks : Tasks) (good : Calls profile world know state.now.method kind call tasks state.now.slots state.heap)
      → (m : ℕ) → callee_of (tables_in world) kind call state.now.slots state.heap ≡ Some m → Enters state r kind call tasks good m
  enters state r Static call tasks good m e = subst (Enters state r Static call tasks good) (some_same call.method m e) (enters_static state r call tasks good)
  enters state r (New class) call tasks good m e = subst (Enters state r (New class) call tasks good) (some_same call.method m e) (enters_new state r class call tasks good)
  enters state r Super call tasks good m e = subst (Enters state r Super call tasks good) (some_same call.method m e) (enters_super state r call tasks good)
  enters state r Instance call tasks good m e =
      let found = found_is call.method m state.heap (value_at state.now.slots (receiver_slot call.receiver)) e in
      enters_instance state r call tasks good m (subst (λ k. Stands world (world.methods call.method) (world.methods k)) found.1 (laws.stands found.0 call.method))

  abbrev IsGood : State → Type 1
  IsGood state = waits.Good world know profile state

  module _ (limits : Limits) where
    good_if : (full : Bool) (ending : Ending) (state other : State) → (IsBad (Some ending) → ⊥) → IsGood other → IsGood (if full then stopped ending state else other)
    good_if true ending state other fine good = Ends ending refl fine
    good_if false ending state other fine good = good

    good_enter : (state : State) (r : Running world know state) → state.ended ≡ None → (kind : CallKind) (call : CallOp) (place : ℕ) (tasks : Tasks) (good : Calls profile world know state.now.method kind call tasks state.now.slots state.heap)
        → (found : Option ℕ) → callee_of (tables_in world) kind call state.now.slots state.heap ≡ found → IsGood (called limits (tables_in world) kind call place tasks state found)
    good_enter state r runs kind call place tasks good None e = Ends (NullUsed place) refl (λ bad. bad)
    good_enter state r runs kind call place tasks good (Some m) e =
        good_if (lacks_cells limits (tables_in world) kind state.heap) (HeapFull place) state _ (λ bad. bad)
        (good_if (is_past limits.frames (length state.below + 2)) (FrameFull place) state (entered (tables_in world) kind call m tasks state) (λ bad. bad)
        (Runs runs (enter_with state r kind call tasks good m e (enters state r kind call tasks good m e))))

    good_leave : (state : State) (r : Running world know state) → state.ended ≡ None → (returned : Option ℕ)
        → Leaves profile world know r.building (world.methods state.now.method) state.now.slots state.heap (result_of (routine_of (world.methods state.now.method)) state.now.slots returned)
        → (below : List Waiting) → Waits below state.now (Constructs world state.now) r.building state.heap
        → IsGood (resumed (result_of (routine_of (world.methods state.now.method)) state.now.slots returned) state below)
    good_leave state r runs returned leaving [] all = Ends (Ended (result_shown state.heap (result_of (routine_of (world.methods state.now.method)) state.now.slots returned))) refl (λ bad. bad)
    good_leave state r runs returned leaving (w ∷ below) all = Runs runs (leaves state w below r.building r.heap_keeps r.ints all returned leaving)

    -- a step that tells a value, which changes nothing else
    tells : (state : State) (r : Running world know state) (tasks : Tasks) (value : Held) → Behind profile world know state.now.method tasks state.now.slots state.heap
        → Running world know (record state { now = frame state.now.method tasks state.now.slots })
    tells state r tasks value behind = record {
      building = r.building;
      heap_keeps = r.heap_keeps;
      frame_keeps = r.frame_keeps;
      ints = r.ints;
      store = behind.store;
      holds = behind.holds;
      fine = behind.fine;
      waits = with_callee r.building state.heap r.heap_keeps.bound state.below state.now tasks state.now.slots (Constructs world state.now) (Constructs world (frame state.now.method tasks state.now.slots)) (λ slot is. refl)
          (same_object state.now tasks state.now.slots (λ slot is. refl)) r.waits;
    }

    -- a result that wrapped: in the profile `ideal` the state doesn't count
    good_wrap : (state : State) (r : Running world know state) → state.ended ≡ None → (tasks : Tasks) (slots : List Held) (heap : Heap) (which : Profile) → profile ≡ which
        → (profile ≡ Int32 → StepKeeps world r.building (world.methods state.now.method) state.now.slots state.heap slots heap × KeepsInts slots heap × Behind profile world know state.now.method tasks slots heap)
        → IsGood (record state { now = frame state.now.method tasks slots; heap = heap; wrapped = true })
    good_wrap state r runs tasks slots heap Ideal e shown = Uncounted (λ counts. true_not_false (subst (λ p. Counts p (record state { now = frame state.now.method tasks slots; heap = heap; wrapped = true })) e counts))
    good_wrap state r runs tasks slots heap Int32 e shown = let x = shown e in Runs runs (goes state r tasks slots heap true x.0 x.1 x.2)

    good_moved : (state : State) (r : Running world know state) → state.ended ≡ None → (move : Move) → Shows profile world know r.building state.now.method state.now.slots state.heap move → IsGood (moved limits (tables_in world) move state)
    good_moved state r runs (Go tasks slots heap) shown = Runs runs (goes state r tasks slots heap state.wrapped shown.0 shown.1 shown.2)
    good_moved state r runs (Wrap tasks slots heap) shown = good_wrap state r runs tasks slots heap profile refl shown
    good_moved state r runs (Tell value tasks) shown = Runs runs (tells state r tasks value shown)
    good_moved state r runs (Enter kind call place tasks) shown = good_enter state r runs kind call place tasks shown (callee_of (tables_in world) kind call state.now.slots state.heap) refl
    good_moved state r runs (Leave returned) shown = good_leave state r runs returned shown state.below r.waits
    good_moved state r runs (Stop ending) shown = Ends ending refl shown

    -- A step of a state that runs gives one that runs, or an outcome that isn't bad, or one that the profile doesn't count.
    pub step_good : (state : State) → Typed state.now.method state.now.tasks state.now.slots state.heap → Running world know state → state.ended ≡ None → IsGood (step limits (tables_in world) state)
    step_good state typed r runs =
        subst (λ e. IsGood (step_from limits (tables_in world) e state)) (sym runs)
        (good_moved state r runs (next_move limits (tables_in world) state)
        (laws.step limits r.building state.now.method state.now.tasks r.store state.now.slots state.heap typed r.heap_keeps r.frame_keeps r.ints r.holds r.fine))
