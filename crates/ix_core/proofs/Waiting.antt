-- What a step of the last frame, a call and a return leave to the frames that wait.
use Rattle.std.specs.Prelude.{◌≡◌, ◌⊎◌, ℕ, zero, suc, ◌<◌, ◌≤◌, ◌==◌, true, false, List, [], ◌∷◌, ◌++◌, length, Some, refl}
use Rattle.std.proofs.Common.{arith, sym, ap, ◌∙◌, subst, inl, inr, ⊎_elim}
use Rattle.std.proofs.lemmas.Bool.{false≢true}
use Rattle.std.proofs.lemmas.List.{length-append}
use Rattle.ix_core.specs.declared.program.Method.{Method}
use Rattle.ix_core.specs.Heap.{Held, Num, Boolean, Null, At, Heap, Object, ObjectOf, value_at}
use Rattle.ix_core.specs.Machine.{CallKind, Static, Instance, New, Super, Frame, Waiting, call_heap}
use Rattle.ix_core.specs.Objects.{IsOn}
use Rattle.ix_core.specs.Analysis.{IsWorld}
use Rattle.ix_core.specs.Objects.{This, Later, IsSame, HasField, IsFree, FrameKeeps, IsOwn, Wrote, StepKeeps}
use Rattle.ix_core.specs.Waits.{Knowledge, FitsKind, Stays, Reason, NoEffect, Final, Hidden, Constructs, Makes, is_super}
use Rattle.ix_core.specs.Waits as waits
use Rattle.ix_core.specs.World.{World, tables_in}
use Rattle.ix_core.proofs.Heaps.{grown_old}
use Rattle.ix_core.proofs.Cases.{by_test, equal, differ}

pub later_refl : (heap : Heap) → Later heap heap
later_refl heap = λ k lt. record { on = lt; kind = refl; size = refl }

pub later_trans : (a b c : Heap) → Later a b → Later b c → Later a c
later_trans a b c first second = λ k lt.
    let x = first k lt in
    let y = second k x.on in
    record { on = y.on; kind = x.kind ∙ y.kind; size = x.size ∙ y.size }

pub later_push : (heap : Heap) (object : Object) → Later heap (heap ++ object ∷ [])
later_push heap object = λ k lt.
    let long = length-append heap (object ∷ []) in
    let same = sym (grown_old heap object k lt) in
    record { on = omega (arith, lt, long); kind = ap (λ (t : Object). t.kind) same; size = ap (λ (t : Object). length t.cells) same }

le_of : (n m : ℕ) → ((k : ℕ) → k < n → k < m) → n ≤ m
le_of zero m each = omega (arith)
le_of (suc n) m each = let x = each n (omega (arith)) in omega (arith, x)

pub later_le : (a b : Heap) → Later a b → length a ≤ length b
later_le a b later = le_of (length a) (length b) (λ k lt. (later k lt).on)

pub on_later : (a b : Heap) (held : Held) → Later a b → IsOn a held → IsOn b held
on_later a b (Num n) later on = tt
on_later a b (Boolean answer) later on = tt
on_later a b Null later on = tt
on_later a b (At k) later on = (later k on).on

pub free_later : (building : ℕ → Type 0) (a b : Heap) (held : Held) → Later a b → IsFree building a held → IsFree building b held
free_later building a b (Num n) later free = tt
free_later building a b (Boolean answer) later free = tt
free_later building a b Null later free = tt
free_later building a b (At k) later free = ((later k free.0).on, free.1)

pub free_grows : (building more : ℕ → Type 0) (a b : Heap) (held : Held) → Later a b → ((k : ℕ) → more k → building k ⊎ (length a ≤ k)) → IsFree building a held → IsFree more b held
free_grows building more a b (Num n) later old free = tt
free_grows building more a b (Boolean answer) later old free = tt
free_grows building more a b Null later old free = tt
free_grows building more a b (At k) later old free = ((later k free.0).on, λ is. ⊎_elim free.1 (λ le. let lt = free.0 in absurd (omega (arith, le, lt))) (old k is))

-- an object that is built is no longer under construction
abbrev pub without : (ℕ → Type 0) → ℕ → ℕ → Type 0
without building gone object = building object × (object ≡ gone → ⊥)

pub free_without : (building : ℕ → Type 0) (gone : ℕ) (heap : Heap) (held : Held) → IsFree building heap held → IsFree (without building gone) heap held
free_without building gone heap (Num n) free = tt
free_without building gone heap (Boolean answer) free = tt
free_without building gone heap Null free = tt
free_without building gone heap (At k) free = (free.0, λ is. free.1 is.0)

pub own_or_not : (method : Method) (slot : ℕ) → IsOwn method slot ⊎ (IsOwn method slot → ⊥)
own_or_not method slot =
    by_test method.constructor
    (λ c. by_test (slot == 0) (λ e. inl (c, equal slot 0 e)) (λ e. inr (λ own. differ slot 0 e own.1)))
    (λ c. inr (λ own. false≢true (sym c ∙ own.0)))

pub super_parts : (world : World) (kind : CallKind) (caller callee : Method) (call : _) → FitsKind world kind caller callee call → is_super kind ≡ true → (caller.constructor ≡ true) × (callee.constructor ≡ true) × (world.parent caller.class ≡ Some callee.class)
super_parts world Static caller callee call fits is = absurd (false≢true is)
super_parts world Instance caller callee call fits is = absurd (false≢true is)
super_parts world (New class) caller callee call fits is = absurd (false≢true is)
super_parts world Super caller callee call fits is = (fits.0, fits.1, fits.3)

makes_later : (world : World) (kind : CallKind) (values slots : List Held) (began heap after : Heap) → Later heap after → Makes world kind values slots began heap → Makes world kind values slots began after
makes_later world Static values slots began heap after later makes = tt
makes_later world Instance values slots began heap after later makes = tt
makes_later world (New class) values slots began heap after later makes = (makes.0, later_trans (call_heap (tables_in world) (New class) began) heap after makes.1 later)
makes_later world Super values slots began heap after later makes = makes

super_makes : (world : World) (kind : CallKind) (values slots : List Held) (began heap : Heap) → Makes world kind values slots began heap → is_super kind ≡ true → value_at values 0 ≡ value_at slots 0
super_makes world Static values slots began heap makes is = absurd (false≢true is)
super_makes world Instance values slots began heap makes is = absurd (false≢true is)
super_makes world (New class) values slots began heap makes is = absurd (false≢true is)
super_makes world Super values slots began heap makes is = makes

-- some frame constructs the object, in a class that has all fields of this one
abbrev pub Covers : World → (ℕ → ℕ → Type 0) → ℕ → ℕ → Type 0
Covers world above object class = (of : ℕ) × above object of × ((field : ℕ) → HasField world (ObjectOf class) field → HasField world (ObjectOf of) field)

pub as_it_is : (world : World) (above : ℕ → ℕ → Type 0) (object class : ℕ) → above object class → Covers world above object class
as_it_is world above object class is = (class, is, λ field has. has)

module _ (world : World) (know : Knowledge) where
  abbrev Suspended : Waiting → Frame → (ℕ → ℕ → Type 0) → (ℕ → Type 0) → Heap → Type 0
  Suspended waiting callee above building heap = waits.Suspended world know waiting callee above building heap

  abbrev Waits : List Waiting → Frame → (ℕ → ℕ → Type 0) → (ℕ → Type 0) → Heap → Type 0
  Waits below callee above building heap = waits.Waits world know below callee above building heap

  -- a waiting frame on a later heap
  pub suspended : (w : Waiting) (callee : Frame) (above more : ℕ → ℕ → Type 0) (building after_building : ℕ → Type 0) (heap after : Heap) (wait : Suspended w callee above building heap)
      → ((object : ℕ) → building object → object < length heap)
      → FrameKeeps after_building (world.methods w.frame.method) w.frame.slots after → Later heap after
      → ((slot field object : ℕ) → value_at w.frame.slots slot ≡ At object → Stays world (world.methods w.frame.method) (world.methods callee.method) wait.kind slot field → IsSame world heap after object field)
      → ((world.methods callee.method).effect_free ≡ true → is_super wait.kind ≡ false → (object field : ℕ) → object < length wait.began → IsSame world heap after object field)
      → ((object class : ℕ) → more object class → Covers world above object class ⊎ (length heap ≤ object))
      → Suspended w callee more after_building after
  suspended w callee above more building after_building heap after wait bound frame later same quiet up =
      let mine : (object class : ℕ) → Constructs world w.frame object class → object < length heap = λ object class c. bound object (wait.frame_keeps.this c.constructor object c.this) in record {
        frame_keeps = frame;
        kind = wait.kind;
        call = wait.call;
        target = wait.target;
        store = wait.store;
        began = wait.began;
        all_on = wait.all_on;
        ints = wait.ints;
        holds = wait.holds;
        since = record {
          later = later_trans wait.began heap after wait.since.later later;
          same = λ slot field object at stays. wait.since.same slot field object at stays ∙ same slot field object at stays;
        };
        untouched = wait.untouched;
        quiet = λ q s object field lt. wait.quiet q s object field lt ∙ quiet q s object field lt;
        fits_named = wait.fits_named;
        fits = wait.fits;
        runs = wait.runs;
        met = wait.met;
        inputs = wait.inputs;
        makes = makes_later world wait.kind _ w.frame.slots wait.began heap after later wait.makes;
        apart = λ s object class own c is. ⊎_elim (λ old. wait.apart s object old.0 own c old.1) (λ le. let lt = mine object own c in absurd (omega (arith, le, lt))) (up object class is);
        parents = λ s object class own field c is. ⊎_elim (λ old. λ has. wait.parents s object old.0 own field c old.1 (old.2 field has)) (λ le. let lt = mine object own c in absurd (omega (arith, le, lt))) (up object class is);
        fresh = λ q object class is. ⊎_elim (λ old. wait.fresh q object old.0 old.1) (λ le. inl (let x = later_le wait.began heap wait.since.later in omega (arith, le, x))) (up object class is);
        fine = wait.fine;
      }

  -- ---- a step of the last frame

  module _ (building : ℕ → Type 0) (now : Frame) (heap : Heap) (bound : (object : ℕ) → building object → object < length heap) (keeps : FrameKeeps building (world.methods now.method) now.slots heap) where
    module _ (w : Waiting) (callee : Frame) (above : ℕ → ℕ → Type 0) (wait : Suspended w callee above building heap)
        (effect : (world.methods callee.method).effect_free ≡ true → (world.methods now.method).effect_free ≡ true)
        (over : (object class : ℕ) → Constructs world now object class → above object class) where
      abbrev IsWrote : ℕ → ℕ → Type 0
      IsWrote object field = Wrote world (world.methods now.method) now.slots object field

      high : (object field : ℕ) (wrote : IsWrote object field) → IsOwn (world.methods now.method) wrote.through → above object (world.methods now.method).class
      high object field wrote own = over object (world.methods now.method).class (record { constructor = own.0; this = subst (λ q. value_at now.slots q ≡ At object) own.1 wrote.at; of = refl })

      -- an object that is held by no `this` isn't under construction
      not_building : (slot object : ℕ) → value_at w.frame.slots slot ≡ At object → (IsOwn (world.methods w.frame.method) slot → ⊥) → building object → ⊥
      not_building slot object at other is = (subst (IsFree building heap) at (wait.frame_keeps.free slot other)).1 is

      own_apart : (slot field object : ℕ) → value_at w.frame.slots slot ≡ At object → Stays world (world.methods w.frame.method) (world.methods callee.method) wait.kind slot field
          → IsOwn (world.methods w.frame.method) slot → (wrote : IsWrote object field) → IsOwn (world.methods now.method) wrote.through → ⊥
      own_apart slot field object at stays mine wrote own =
          let class = (world.methods w.frame.method).class in
          let c : Constructs world w.frame object class = record { constructor = mine.0; this = subst (λ q. value_at w.frame.slots q ≡ At object) mine.1 at; of = refl } in
          by_test (is_super wait.kind)
          (λ s. stays.not_super s mine (wait.parents s object (world.methods now.method).class class field c (high object field wrote own) (wrote.may.own own)))
          (λ s. wait.apart s object (world.methods now.method).class class c (high object field wrote own))

      -- no frame above writes what stays
      no_write_by : (slot field object : ℕ) → value_at w.frame.slots slot ≡ At object → (stays : Stays world (world.methods w.frame.method) (world.methods callee.method) wait.kind slot field)
          → Reason world (world.methods w.frame.method) (world.methods callee.method) slot field → (wrote : IsWrote object field) → ⊥
      no_write_by slot field object at stays (NoEffect q) wrote =
          let own : IsOwn (world.methods now.method) wrote.through = wrote.may.quiet (effect q) in
          let lt : object < length wait.began = subst (IsOn wait.began) at (wait.all_on.held slot) in
          ⊎_elim
          (λ le. absurd (omega (arith, le, lt)))
          (λ s. ⊎_elim
          (λ mine. own_apart slot field object at stays mine wrote own)
          (λ other. not_building slot object at other (wait.frame_keeps.this (super_parts world wait.kind (world.methods w.frame.method) (world.methods callee.method) wait.call wait.fits.kinds s.0).0 object s.1))
          (own_or_not (world.methods w.frame.method) slot))
          (wait.fresh q object (world.methods now.method).class (high object field wrote own))
      no_write_by slot field object at stays (Final e) wrote =
          let own : IsOwn (world.methods now.method) wrote.through = wrote.may.final e in
          ⊎_elim
          (λ mine. own_apart slot field object at stays mine wrote own)
          (λ other. not_building slot object at other (keeps.this own.0 object (subst (λ q. value_at now.slots q ≡ At object) own.1 wrote.at)))
          (own_or_not (world.methods w.frame.method) slot)
      no_write_by slot field object at stays (Hidden mine) wrote =
          ⊎_elim
          (λ own. own_apart slot field object at stays mine wrote own)
          (λ other. (subst (IsFree building heap) wrote.at (keeps.free wrote.through other)).1 (wait.frame_keeps.this mine.0 object (subst (λ q. value_at w.frame.slots q ≡ At object) mine.1 at)))
          (own_or_not (world.methods now.method) wrote.through)

      no_quiet_write : (object field : ℕ) → (world.methods callee.method).effect_free ≡ true → is_super wait.kind ≡ false → object < length wait.began → IsWrote object field → ⊥
      no_quiet_write object field q s lt wrote =
          ⊎_elim (λ le. absurd (omega (arith, le, lt))) (λ x. false≢true (sym s ∙ x.0)) (wait.fresh q object (world.methods now.method).class (high object field wrote (wrote.may.quiet (effect q))))

    pub frame_later : (method : Method) (slots : List Held) (after : Heap) → Later heap after → FrameKeeps building method slots heap → FrameKeeps building method slots after
    frame_later method slots after later frame = record { size = frame.size; made = frame.made; this = frame.this; free = λ slot other. free_later building heap after (value_at slots slot) later (frame.free slot other) }

    pub waits_kept : (slots : List Held) (after : Heap) → StepKeeps world building (world.methods now.method) now.slots heap slots after → (below : List Waiting) (callee : Frame) (above : ℕ → ℕ → Type 0)
        → ((world.methods callee.method).effect_free ≡ true → (world.methods now.method).effect_free ≡ true) → ((object class : ℕ) → Constructs world now object class → above object class)
        → Waits below callee above building heap → Waits below callee above building after
    waits_kept slots after kept [] callee above effect over all = tt
    waits_kept slots after kept (w ∷ below) callee above effect over all = (
      suspended w callee above above building building heap after all.0 bound (frame_later (world.methods w.frame.method) w.frame.slots after kept.later all.0.frame_keeps) kept.later
          (λ slot field object at stays. ⊎_elim (λ e. e) (λ wrote. absurd (no_write_by w callee above all.0 effect over slot field object at stays stays.reason wrote)) (kept.fields object field))
          (λ q s object field lt. ⊎_elim (λ e. e) (λ wrote. absurd (no_quiet_write w callee above all.0 effect over object field q s lt wrote)) (kept.fields object field))
          (λ object class is. inl (as_it_is world above object class is)),
      waits_kept slots after kept below w.frame _ (λ e. effect (all.0.fits.effect e)) (λ object class is. inl (over object class is)) all.1,
    )

  -- ---- a call, and a return

  -- new objects under construction, and other frames above
  pub record Grows (building more : ℕ → Type 0) (above over : ℕ → ℕ → Type 0) (heap after : Heap) : Type 0 where
    pub later : Later heap after
    pub same : (object field : ℕ) → object < length heap → IsSame world heap after object field
    pub bound : (object : ℕ) → building object → object < length heap
    pub still : (object : ℕ) → building object → more object
    pub old : (object : ℕ) → more object → building object ⊎ (length heap ≤ object)
    pub up : (object class : ℕ) → over object class → Covers world above object class ⊎ (length heap ≤ object)

  pub frame_grows : (building more : ℕ → Type 0) (above over : ℕ → ℕ → Type 0) (heap after : Heap) → Grows building more above over heap after → (method : Method) (slots : List Held)
      → FrameKeeps building method slots heap → FrameKeeps more method slots after
  frame_grows building more above over heap after grows method slots frame = record {
    size = frame.size;
    made = frame.made;
    this = λ c object at. grows.still object (frame.this c object at);
    free = λ slot other. free_grows building more heap after (value_at slots slot) grows.later grows.old (frame.free slot other);
  }

  -- what a waiting frame's slot refers to is on the heap
  all_at : (w : Waiting) (callee : Frame) (above : ℕ → ℕ → Type 0) (building : ℕ → Type 0) (heap : Heap) (wait : Suspended w callee above building heap)
      → ((object : ℕ) → building object → object < length heap) → (slot object : ℕ) → value_at w.frame.slots slot ≡ At object → object < length heap
  all_at w callee above building heap wait bound slot object at =
      ⊎_elim (λ own. bound object (wait.frame_keeps.this own.0 object (subst (λ q. value_at w.frame.slots q ≡ At object) own.1 at))) (λ other. (subst (IsFree building heap) at (wait.frame_keeps.free slot other)).0)
      (own_or_not (world.methods w.frame.method) slot)

  pub waits_grow : (building more : ℕ → Type 0) (above over : ℕ → ℕ → Type 0) (heap after : Heap) → Grows building more above over heap after → (below : List Waiting) (callee : Frame)
      → Waits below callee above building heap → Waits below callee over more after
  waits_grow building more above over heap after grows [] callee all = tt
  waits_grow building more above over heap after grows (w ∷ below) callee all = (
    suspended w callee above over building more heap after all.0 grows.bound (frame_grows building more above over heap after grows (world.methods w.frame.method) w.frame.slots all.0.frame_keeps) grows.later
        (λ slot field object at stays. grows.same object field (all_at w callee above building heap all.0 grows.bound slot object at))
        (λ q s object field lt. grows.same object field (all.0.since.later object lt).on)
        grows.up,
    waits_grow building more (λ object class. above object class ⊎ Constructs world w.frame object class) (λ object class. over object class ⊎ Constructs world w.frame object class) heap after
        (record {
          later = grows.later;
          same = grows.same;
          bound = grows.bound;
          still = grows.still;
          old = grows.old;
          up = λ object class is. ⊎_elim (λ u. ⊎_elim (λ x. inl (x.0, inl x.1, x.2)) (λ x. inr x) (grows.up object class u)) (λ u. inl (as_it_is world (λ o k. above o k ⊎ Constructs world w.frame o k) object class (inr u))) is;
        }) below w.frame all.1,
  )

  -- the object of the callee's constructor is built
  pub frame_without : (building : ℕ → Type 0) (gone : ℕ) (method : Method) (slots : List Held) (heap : Heap) → (method.constructor ≡ true → value_at slots 0 ≡ At gone → ⊥)
      → FrameKeeps building method slots heap → FrameKeeps (without building gone) method slots heap
  frame_without building gone method slots heap not_gone frame = record {
    size = frame.size;
    made = frame.made;
    this = λ c object at. (frame.this c object at, λ e. not_gone c (at ∙ ap At e));
    free = λ slot other. free_without building gone heap (value_at slots slot) (frame.free slot other);
  }

  super_gone : IsWorld world → (w : Waiting) (callee : Frame) (above : ℕ → ℕ → Type 0) (building : ℕ → Type 0) (heap : Heap) (gone : ℕ) (wait : Suspended w callee above building heap)
      → is_super wait.kind ≡ true → (mine : ℕ) → Constructs world w.frame gone mine → Constructs world callee gone (world.methods callee.method).class
  super_gone tables w callee above building heap gone wait s mine c =
      let parts = super_parts world wait.kind (world.methods w.frame.method) (world.methods callee.method) wait.call wait.fits.kinds s in
      record {
        constructor = parts.1;
        this = wait.inputs 0 (This (tables.constructors callee.method parts.1)) ∙ (super_makes world wait.kind _ w.frame.slots wait.began heap wait.makes s ∙ c.this);
        of = refl;
      }

  -- of all frames that wait none constructs it, where the first waits for no `super`, and those above do
  pub waits_built : IsWorld world → (building : ℕ → Type 0) (gone class : ℕ) (heap : Heap) → ((object : ℕ) → building object → object < length heap) → (below : List Waiting) (callee : Frame) (above : ℕ → ℕ → Type 0)
      → above gone class → ((mine : ℕ) → Constructs world callee gone mine → ⊥)
      → Waits below callee above building heap → Waits below callee above (without building gone) heap
  waits_built tables building gone class heap bound [] callee above is other all = tt
  waits_built tables building gone class heap bound (w ∷ below) callee above is other all =
      let wait = all.0 in
      let caller = world.methods w.frame.method in
      let not_gone : (mine : ℕ) → Constructs world w.frame gone mine → ⊥
      = λ mine c. by_test (is_super wait.kind) (λ s. other (world.methods callee.method).class (super_gone tables w callee above building heap gone wait s mine c)) (λ s. wait.apart s gone class mine c is) in (
        suspended w callee above above building (without building gone) heap heap wait bound
            (frame_without building gone caller w.frame.slots heap (λ c at. not_gone caller.class (record { constructor = c; this = at; of = refl })) wait.frame_keeps)
            (later_refl heap) (λ slot field object at stays. refl) (λ q s object field lt. refl) (λ object k up. inl (as_it_is world above object k up)),
        waits_built tables building gone class heap bound below w.frame (λ object k. above object k ⊎ Constructs world w.frame object k) (inl is) not_gone all.1,
      )
