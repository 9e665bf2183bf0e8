-- Across a call, from the state that calls to the state in which it has returned, the numbers stay but for the call's target and the fields that it may write.
use Rattle.std.specs.Prelude.{◌≡◌, ℕ, suc, ◌==◌, Bool, true, false, not, ◌&&◌, ◌||◌, List, [], ◌∷◌, ◌++◌, Option, Some, None, option_map, unwrap_or, refl}
use Rattle.std.proofs.Common.{sym, ap, ◌∙◌, subst}
use Rattle.std.proofs.lemmas.Bool.{false≢true}
use Rattle.ix_core.specs.declared.fact.Path.{Path}
use Rattle.ix_core.specs.declared.fact.Path.TheVariants.{Slot, FieldOf}
use Rattle.ix_core.specs.declared.op.CallOp.{CallOp}
use Rattle.ix_core.specs.declared.program.Method.{Method}
use Rattle.ix_core.specs.Heap.{Held, Reading, At, Object, Heap, ObjectOf, Places, value_at, place_in, cell_of, int_of, size_of}
use Rattle.ix_core.specs.Machine.{CallKind, Static, Instance, New, Super, Limits, State, Enter, call_heap, callee_of, target_of, set_target, next_move, run}
use Rattle.ix_core.specs.Numbers.{HasInts, held_at, numbers_of}
use Rattle.ix_core.specs.Objects.{IsOn, AllOn, Later, IsSame}
use Rattle.ix_core.specs.Tables.{Tables}
use Rattle.ix_core.specs.Tasks.{Tasks}
use Rattle.ix_core.specs.Waits.{Since, Stays, is_super}
use Rattle.ix_core.specs.World.{World, tables_in}
use Rattle.ix_core.proofs.Heaps.{grown_old}
use Rattle.ix_core.proofs.Waiting.{later_refl, later_trans, later_push}
use Rattle.ix_facts.specs.Forget.{SameBut, of_slot, of_this, of_call}
use Rattle.ix_facts.specs.FieldSteps.{IsCalled}
use Rattle.ix_rules_hold.specs.MachineSteps.{own_slot}
use Rattle.ix_rules_hold.specs.CallEffects.{spared_in, HasReturned}
use Rattle.ix_rules_hold.proofs.CallStack.{returns_to}
use Rattle.ix_rules_hold.proofs.KeptNumbers.{outlives, call_before}
use Rattle.ix_rules_hold.proofs.MachineSteps.{kept_held}

-- ---- the call's target

no_target : {A : Type 0} (at : ℕ) → ◌≡◌ {A = Option ℕ} None (Some at) → A
no_target at e = absurd cc

mapped_is : (t at : ℕ) (default : Option Held) → option_map (λ (held : Held). t) default ≡ Some at → at ≡ t
mapped_is t at None e = no_target at e
mapped_is t at (Some held) e = ap (λ (o : Option ℕ). unwrap_or o 0) (sym e)

target_is_call : (tables : Tables) (kind : CallKind) (call : CallOp) (at : ℕ) → target_of tables kind call ≡ Some at → at ≡ call.target
target_is_call tables Static call at e = mapped_is call.target at (tables.routines call.method).default e
target_is_call tables Instance call at e = mapped_is call.target at (tables.routines call.method).default e
target_is_call tables (New class) call at e = ap (λ (o : Option ℕ). unwrap_or o 0) (sym e)
target_is_call tables Super call at e = no_target at e

returned_held : (place : Places) (slots : List Held) (heap : Heap) (t : ℕ) (target : Option ℕ) (value : Option Held) → ((at : ℕ) → target ≡ Some at → at ≡ t)
    → (p : Path) → of_slot t p ≡ false → held_at place (set_target target value slots) heap p ≡ held_at place slots heap p
returned_held place slots heap t None value is p e = refl
returned_held place slots heap t (Some at) None is p e = refl
returned_held place slots heap t (Some at) (Some x) is p e = kept_held place slots heap at x p (subst (λ s. of_slot s p ≡ false) (sym (is at refl)) e)

-- ---- what the call spares

pub or_parts : (a b : Bool) → (a || b) ≡ false → (a ≡ false) × (b ≡ false)
or_parts true b e = absurd (false≢true (sym e))
or_parts false b e = (refl, e)

bool_called : (is own quiet final : Bool) → is ≡ false → (not (quiet || own) && not final) ≡ false → (not (is && own) && (quiet || (final || own))) ≡ true
bool_called true own quiet final s e = absurd (false≢true (sym s))
bool_called false own true final s e = refl
bool_called false own false true s e = refl
bool_called false true false false s e = refl
bool_called false false false false s e = absurd (false≢true (sym e))

bool_super : (is zero_ made quiet final : Bool) → (zero_ || (not (quiet || (made && zero_)) && not final)) ≡ false → (not (is && (made && zero_)) && (quiet || (final || (made && zero_)))) ≡ true
bool_super is true made quiet final e = absurd (false≢true (sym e))
bool_super true false true true final e = refl
bool_super true false true false true e = refl
bool_super true false true false false e = absurd (false≢true (sym e))
bool_super true false false true final e = refl
bool_super true false false false true e = refl
bool_super true false false false false e = absurd (false≢true (sym e))
bool_super false false true true final e = refl
bool_super false false true false true e = refl
bool_super false false true false false e = absurd (false≢true (sym e))
bool_super false false false true final e = refl
bool_super false false false false true e = refl
bool_super false false false false false e = absurd (false≢true (sym e))

stays_in_call : (world : World) (caller callee : Method) (kind : CallKind) → is_super kind ≡ false → (p : Path) → of_call world.is_final (spared_in caller callee) p ≡ false → outlives world caller callee kind p ≡ true
stays_in_call world caller callee kind s (Slot slot) e = refl
stays_in_call world caller callee kind s (FieldOf slot field) e = bool_called (is_super kind) (own_slot caller slot) callee.effect_free (world.is_final field) s e

stays_in_super : (world : World) (caller callee : Method) (kind : CallKind) (p : Path) → (of_this p || of_call world.is_final (spared_in caller callee) p) ≡ false → outlives world caller callee kind p ≡ true
stays_in_super world caller callee kind (Slot slot) e = refl
stays_in_super world caller callee kind (FieldOf slot field) e = bool_super (is_super kind) (slot == 0) caller.constructor callee.effect_free (world.is_final field) e

-- ---- from the call to its return

module _ (world : World) (caller callee : Method) (kind : CallKind) (slots : List Held) (began heap : Heap) (before : HasInts world.place slots began) (all : AllOn slots began) (since : Since world caller callee kind slots began heap) where
  module _ (t : ℕ) (target : Option ℕ) (value : Option Held) (is : (at : ℕ) → target ≡ Some at → at ≡ t) (behind : HasInts world.place (set_target target value slots) heap) where
    path_kept : (p : Path) → of_slot t p ≡ false → outlives world caller callee kind p ≡ true
        → (int_of (held_at world.place (set_target target value slots) heap p) ≡ int_of (held_at world.place slots began p))
        × (size_of heap (held_at world.place (set_target target value slots) heap p) ≡ size_of began (held_at world.place slots began p))
    path_kept p other stays =
        let now = returned_held world.place slots heap t target value is p other in
        let same = call_before world caller callee kind slots began heap all since p stays in
        (ap int_of now ∙ ap (λ (r : Reading). r.int) (sym same), ap (size_of heap) now ∙ ap (λ (r : Reading). r.size) (sym same))

    pub called_by : is_super kind ≡ false → IsCalled t world.is_final (spared_in caller callee) (numbers_of world.place slots began before) (numbers_of world.place (set_target target value slots) heap behind)
    called_by s p e =
        let parts = or_parts (of_slot t p) (of_call world.is_final (spared_in caller callee) p) e in
        path_kept p parts.0 (stays_in_call world caller callee kind s p parts.1)

  pub called_step : (call : CallOp) (value : Option Held) (behind : HasInts world.place (set_target (target_of (tables_in world) kind call) value slots) heap) → is_super kind ≡ false
      → IsCalled call.target world.is_final (spared_in caller callee) (numbers_of world.place slots began before) (numbers_of world.place (set_target (target_of (tables_in world) kind call) value slots) heap behind)
  called_step call value behind s = called_by call.target (target_of (tables_in world) kind call) value (target_is_call (tables_in world) kind call) behind s

  -- a call of the parent's constructor gives no value
  pub super_step : (behind : HasInts world.place slots heap)
      → SameBut (λ p. of_this p || of_call world.is_final (spared_in caller callee) p) (numbers_of world.place slots began before) (numbers_of world.place slots heap behind)
  super_step behind p e =
      let same = call_before world caller callee kind slots began heap all since p (stays_in_super world caller callee kind p e) in
      (ap (λ (r : Reading). r.int) (sym same), ap (λ (r : Reading). r.size) (sym same))

-- ---- the heap while the call runs

grown_since : (world : World) (caller callee : Method) (kind : CallKind) (slots : List Held) (heap : Heap) (object : Object) → AllOn slots heap → Since world caller callee kind slots heap (heap ++ object ∷ [])
grown_since world caller callee kind slots heap object all = record {
  later = later_push heap object;
  same = λ slot field number at stays.
      sym (ap (λ (th : Object). cell_of th.cells (place_in world.place th.kind field)) (grown_old heap object number (subst (IsOn heap) at (all.held slot))));
}

since_now : (world : World) (caller callee : Method) (kind : CallKind) (slots : List Held) (heap : Heap) → Since world caller callee kind slots heap heap
since_now world caller callee kind slots heap = record { later = later_refl heap; same = λ slot field number at stays. refl }

pub since_entered : (world : World) (caller callee : Method) (kind : CallKind) (slots : List Held) (heap : Heap) → AllOn slots heap → Since world caller callee kind slots heap (call_heap (tables_in world) kind heap)
since_entered world caller callee Static slots heap all = since_now world caller callee Static slots heap
since_entered world caller callee Instance slots heap all = since_now world caller callee Instance slots heap
since_entered world caller callee (New class) slots heap all = grown_since world caller callee (New class) slots heap (record { kind = ObjectOf class; cells = world.fresh_fields class }) all
since_entered world caller callee Super slots heap all = since_now world caller callee Super slots heap

pub since_later : (world : World) (caller callee : Method) (kind : CallKind) (slots : List Held) (began heap after : Heap) → Since world caller callee kind slots began heap → Later heap after
    → ((slot field object : ℕ) → value_at slots slot ≡ At object → Stays world caller callee kind slot field → IsSame world heap after object field) → Since world caller callee kind slots began after
since_later world caller callee kind slots began heap after since later same = record {
  later = later_trans began heap after since.later later;
  same = λ slot field object at stays. since.same slot field object at stays ∙ same slot field object at stays;
}

-- ---- a run from the state that calls to the one in which it has returned

module _ (limits : Limits) (world : World) (state : State) (running : state.ended ≡ None) (call : CallOp) (place : ℕ) (tasks : Tasks) (m steps : ℕ)
    (before : HasInts world.place state.now.slots state.heap)
    (behind : HasInts world.place (run limits (tables_in world) steps state).now.slots (run limits (tables_in world) steps state).heap) (all : AllOn state.now.slots state.heap) where
  abbrev caller : Method
  caller = world.methods state.now.method

  abbrev last : State
  last = run limits (tables_in world) steps state

  pub returned_call : (kind : CallKind) → next_move limits (tables_in world) state ≡ Enter kind call place tasks → callee_of (tables_in world) kind call state.now.slots state.heap ≡ Some m
      → HasReturned limits (tables_in world) state steps → is_super kind ≡ false → Since world caller (world.methods m) kind state.now.slots state.heap last.heap
      → IsCalled call.target world.is_final (spared_in caller (world.methods m)) (numbers_of world.place state.now.slots state.heap before) (numbers_of world.place last.now.slots last.heap behind)
  returned_call kind next found has plain since =
      let back = returns_to limits (tables_in world) state running kind call place tasks m next found steps has in
      subst (λ (s : State). (now : HasInts world.place s.now.slots s.heap) → Since world caller (world.methods m) kind state.now.slots state.heap s.heap
      → IsCalled call.target world.is_final (spared_in caller (world.methods m)) (numbers_of world.place state.now.slots state.heap before) (numbers_of world.place s.now.slots s.heap now))
      (sym back.3)
      (λ now kept. called_step world caller (world.methods m) kind state.now.slots state.heap (run limits (tables_in world) (suc back.0) state).heap before all kept call back.2 now plain)
      behind since

  pub returned_super : next_move limits (tables_in world) state ≡ Enter Super call place tasks → callee_of (tables_in world) Super call state.now.slots state.heap ≡ Some m
      → HasReturned limits (tables_in world) state steps → Since world caller (world.methods m) Super state.now.slots state.heap last.heap
      → SameBut (λ p. of_this p || of_call world.is_final (spared_in caller (world.methods m)) p) (numbers_of world.place state.now.slots state.heap before) (numbers_of world.place last.now.slots last.heap behind)
  returned_super next found has since =
      let back = returns_to limits (tables_in world) state running Super call place tasks m next found steps has in
      subst (λ (s : State). (now : HasInts world.place s.now.slots s.heap) → Since world caller (world.methods m) Super state.now.slots state.heap s.heap
      → SameBut (λ p. of_this p || of_call world.is_final (spared_in caller (world.methods m)) p) (numbers_of world.place state.now.slots state.heap before) (numbers_of world.place s.now.slots s.heap now))
      (sym back.3)
      (λ now kept. super_step world caller (world.methods m) Super state.now.slots state.heap (run limits (tables_in world) (suc back.0) state).heap before all kept now)
      behind since
