-- Behind a call that is no call of the parent's constructor each store that its rule gives is met.
use Rattle.std.specs.Prelude.{◌≡◌, ◌⊎◌, ℕ, zero, suc, ◌<◌, ◌==◌, Bool, true, false, not, ◌&&◌, ◌||◌, if◌then◌else◌, pos, List, [], ◌∷◌, length, slice_get, option_map, Option, None, Some, unwrap_or, refl}
use Rattle.std.proofs.Common.{arith, sym, ap, ◌∙◌, subst, inl, inr, ⊎_elim}
use Rattle.std.proofs.lemmas.Bool.{false≢true}
use Rattle.std.proofs.lemmas.Int.{ints}
use Rattle.ix_core.specs.declared.claim.Name.{Name}
use Rattle.ix_core.specs.declared.claim.Name.TheVariants.{Param, Local, FieldNamed}
use Rattle.ix_core.specs.declared.claim.Type_.{Type_}
use Rattle.ix_core.specs.declared.claim.Type_.TheVariants as type
use Rattle.ix_core.specs.declared.fact.Path.{Path}
use Rattle.ix_core.specs.declared.fact.Path.TheVariants.{Slot, FieldOf}
use Rattle.ix_core.specs.declared.op.Arg.{Arg}
use Rattle.ix_core.specs.declared.op.CallOp.{CallOp}
use Rattle.ix_core.specs.declared.program.Method.{Method}
use Rattle.ix_core.specs.declared.program.Program.{Program}
use Rattle.ix_core.specs.Analysis.{IsIntIf, FillsTarget, ResultTrue, Results}
use Rattle.ix_core.specs.Claims.{AreTrue}
use Rattle.ix_core.specs.Formed.{is_formed, is_argument}
use Rattle.ix_core.specs.Heap.{Held, Num, Boolean, At, Heap, value_at, reading_of}
use Rattle.ix_core.specs.Machine.{CallKind, Static, Instance, New, Super, call_values, set_target, target_of, receiver_slot, call_heap}
use Rattle.ix_core.specs.Numbers.{Numbers, HasInts, numbers_of, field_of}
use Rattle.ix_core.specs.Objects.{IsOn, AllOn, IsIntHeld, KeepsInts}
use Rattle.ix_core.specs.Tables.{method_at, default_result}
use Rattle.ix_core.specs.Types.{is_void, is_empty}
use Rattle.ix_core.specs.Waits.{FitsCall, Since, NoEffect, Final, Hidden, is_super, param_readings, reading_through, MeetParams, Reason}
use Rattle.ix_core.specs.World.{World, tables_in}
use Rattle.ix_core.proofs.Cases.{by_test}
use Rattle.ix_core.proofs.Entered.{args_each, first_and}
use Rattle.ix_core.proofs.Heaps.{value_set, value_other}
use Rattle.ix_core.proofs.TypedCalls.{method_has}
use Rattle.ix_facts.specs.Facts.{AllHold}
use Rattle.ix_facts.specs.Forget.{SameBut, of_slot, of_call}
use Rattle.ix_facts.specs.Stores.{Stored, Meets}
use Rattle.ix_facts.proofs.FactLists.{all_hold_app}
use Rattle.ix_rules_hold.specs.CallEffects.{spared_in}
use Rattle.ix_rules_hold.specs.MachineSteps.{own_slot, reading_at}
use Rattle.ix_rules_hold.proofs.ReturnedCalls.{called_step}
use Rattle.ix_signatures.specs.Names.{call_path}
use Rattle.ix_signatures.specs.Signs.{CallGives, of_callee, received, claims_facts, posts_facts, answer_facts}
use Rattle.ix_signatures.proofs.SignTruth.{signs_hold}
use Rattle.ix_rules_hold.proofs.MachineTests.{through_is}
use Rattle.ix_soundness.specs.Direct.{direct}
use Rattle.ix_soundness.specs.Known.{KindFits, call_of}
use Rattle.ix_soundness.specs.Stands.{StandsFor}
use Rattle.ix_soundness.proofs.ArgumentsMet.{there_at, argument_value, arg_slot_is}
use Rattle.ix_soundness.proofs.ClaimTruths.{claims_hold}
use Rattle.ix_soundness.proofs.NamedClaims.{MayName, result_names, promised_names}
use Rattle.ix_soundness.proofs.Promises.{Agrees, posts_hold}
use Rattle.ix_soundness.proofs.OperationsMeet.{KeepsThis}
use Rattle.ix_soundness.proofs.Overriding.{received_holds}
use Rattle.ix_soundness.proofs.FormedCalls.{target_is}

-- an argument is in another slot than the result
pub argument_apart : (args : List Arg) (target k : ℕ) (arg : Arg) → is_argument args target ≡ false → slice_get args k ≡ Some arg → (arg.slot == target) ≡ false
argument_apart [] target k arg e is = absurd cc
argument_apart (first ∷ args) target zero arg e is = let same : first ≡ arg = ap (λ (o : Option Arg). unwrap_or o first) is in subst (λ (a : Arg). (a.slot == target) ≡ false) same (or_first (first.slot == target) (is_argument args target) e)
  where
    or_first : (a b : Bool) → (a || b) ≡ false → a ≡ false
    or_first true b e = absurd (false≢true (sym e))
    or_first false b e = refl
argument_apart (first ∷ args) target (suc k) arg e is = argument_apart args target k arg (or_later (first.slot == target) (is_argument args target) e) is
  where
    or_later : (a b : Bool) → (a || b) ≡ false → b ≡ false
    or_later true b e = absurd (false≢true (sym e))
    or_later false b e = e

set_other : (target : Option ℕ) (value : Option Held) (slots : List Held) (slot : ℕ) → ((at : ℕ) → target ≡ Some at → (slot == at) ≡ false) → value_at (set_target target value slots) slot ≡ value_at slots slot
set_other None value slots slot apart = refl
set_other (Some at) None slots slot apart = refl
set_other (Some at) (Some x) slots slot apart = value_other slots at slot x (apart at refl)

forgotten : (t quiet own final : Bool) → (t || (not quiet && (not own && not final))) ≡ false → (t || (not (quiet || own) && not final)) ≡ false
forgotten true quiet own final e = e
forgotten false true own final e = refl
forgotten false false own final e = e

forgotten_slot : (t quiet : Bool) → (t || (not quiet && false)) ≡ false → (t || false) ≡ false
forgotten_slot true quiet e = e
forgotten_slot false quiet e = refl

module _ (program : Program) (locals : List (List Type_)) (formed : is_formed program locals ≡ true) where
  abbrev world : World
  world = direct program

  -- a method without a result has no claims on one
  void_claims : (n : ℕ) → n < length program.methods → is_void (method_at program n).result ≡ true → (method_at program n).result_claims ≡ []
  void_claims n lt void = no_claims (method_at program n).result_claims (by_void (is_void (method_at program n).result) _ void (method_has program locals formed n lt).result)
    where
      no_claims : (claims : List _) → is_empty claims ≡ true → claims ≡ []
      no_claims [] e = refl
      no_claims (c ∷ claims) e = absurd (false≢true e)

      by_void : (t rest : Bool) → t ≡ true → (if t then is_empty (method_at program n).result_claims else rest) ≡ true → is_empty (method_at program n).result_claims ≡ true
      by_void true rest e fits = fits
      by_void false rest e fits = absurd (false≢true e)

  -- and neither has a constructor
  made_claims : (n : ℕ) → n < length program.methods → (method_at program n).constructor ≡ true → (method_at program n).result_claims ≡ []
  made_claims n lt made = void_claims n lt (by_made (method_at program n).constructor (method_at program n).is_static (is_void (method_at program n).result) (method_has program locals formed n lt).constructor made)
    where
      by_made : (constructor static void : Bool) → (not constructor || (not static && void)) ≡ true → constructor ≡ true → void ≡ true
      by_made true true void e c = absurd (false≢true e)
      by_made true false void e c = e
      by_made false static void e c = absurd (false≢true c)

  module _ (caller callee : Method) (kind : CallKind) (call : CallOp) (slots : List Held) (began heap : Heap) (value : Option Held) (plain : is_super kind ≡ false) (fits : FitsCall world caller callee kind call) (size : length slots ≡ caller.slots)
      (on : AllOn slots began) (kept : KeepsInts slots began) (since : Since world caller callee kind slots began heap) (kept_after : KeepsInts slots heap) (int : IsIntIf value) (given : FillsTarget value (target_of (tables_in world) kind call))
      (results : Results world callee (call_values kind call (length began) slots) heap value)
      (n : ℕ) (lt : n < length program.methods) (stands : StandsFor world (method_at program n) callee) (kinds : KindFits kind call (method_at program n)) (count : length call.args ≡ length (method_at program n).params)
      (apart : is_argument call.args call.target ≡ false) (receiver : (slot : ℕ) → kind ≡ Instance → call.receiver ≡ Some slot → (slot == call.target) ≡ false)
      (met : MeetParams world (method_at program n) (call_values kind call (length began) slots) (call_heap (tables_in world) kind began))
      (same_result : callee.result ≡ (method_at program call.method).result) (before : HasInts world.place slots began)
      (behind : HasInts world.place (set_target (target_of (tables_in world) kind call) value slots) heap) where
    abbrev named : Method
    named = method_at program n

    abbrev later : List Held
    later = set_target (target_of (tables_in world) kind call) value slots

    abbrev values : List Held
    values = call_values kind call (length began) slots

    abbrev v : Numbers
    v = numbers_of world.place slots began before

    abbrev w : Numbers
    w = numbers_of world.place later heap behind

    -- ---- what stayed

    since_named : Since world caller named kind slots began heap
    since_named = record {
      later = since.later;
      same = λ slot field object at stays. since.same slot field object at (record { not_super = λ s own has. false≢true (sym plain ∙ s); reason = weaker stays.reason });
    }
      where
        weaker : {slot field : ℕ} → Reason world caller named slot field → Reason world caller callee slot field
        weaker (NoEffect q) = NoEffect (stands.effect q)
        weaker (Final e) = Final e
        weaker (Hidden own) = Hidden own

    call_same : SameBut (of_callee program caller (call_of call n)) v w
    call_same p e = called_step world caller named kind slots began heap before on since_named call value behind plain p (still p e)
      where
        still : (p : Path) → of_callee program caller (call_of call n) p ≡ false → (of_slot call.target p || of_call world.is_final (spared_in caller named) p) ≡ false
        still (Slot s) e = forgotten_slot (s == call.target) named.effect_free e
        still (FieldOf s f) e = forgotten (s == call.target) named.effect_free (own_slot caller s) (world.is_final f) e

    -- ---- the result

    abbrev target : Option ℕ
    target = target_of (tables_in world) kind call

    slot_same : (slot : ℕ) → (slot == call.target) ≡ false → value_at later slot ≡ value_at slots slot
    slot_same slot apart = set_other target value slots slot (λ at e. subst (λ t. (slot == t) ≡ false) (sym (target_is (tables_in world) kind call at e)) apart)

    name_read : (name : Name) → MayName named name → param_readings world named values heap name ≡ reading_at w (call_path (call_of call n) name)
    name_read (Param j) may =
        let arg = there_at call.args j (omega (arith, may, count)) in
        ap (reading_of heap) (argument_value kind call named (length began) slots kinds j arg.0 arg.1 ∙ sym (slot_same arg.0.slot (argument_apart call.args call.target j arg.0 apart arg.1)))
        ∙ ap (λ m. reading_at w (Slot m)) (sym (arg_slot_is call j arg.0 arg.1))
    name_read (Local j) may = absurd may
    name_read (FieldNamed f) may = by_kind kind refl kinds
      where
        by_kind : (k : CallKind) → kind ≡ k → KindFits k call named → reading_through world heap (value_at (call_values kind call (length began) slots) 0) f ≡ reading_at w (FieldOf (unwrap_or call.receiver 0) f)
        by_kind Static e fits = absurd (false≢true (sym may.0 ∙ fits))
        by_kind (New class) e fits = absurd (false≢true (sym may.1 ∙ fits.1))
        by_kind Super e fits = absurd (false≢true (sym may.1 ∙ fits.1))
        by_kind Instance e fits =
            let first : value_at (call_values kind call (length began) slots) 0 ≡ value_at slots fits.2 = ap (λ k. value_at (call_values k call (length began) slots) 0) e ∙ ap (λ o. value_at slots (receiver_slot o)) fits.3 in
            through_is world heap (value_at (call_values kind call (length began) slots) 0) f
            ∙ ap (λ held. reading_of heap (field_of world.place heap f held)) (first ∙ (sym (slot_same fits.2 (receiver fits.2 e fits.3)) ∙ ap (λ o. value_at later (unwrap_or o 0)) (sym fits.3)))

    -- what is claimed of the result is true where the method that ran stands for the named one
    value_slot : (k object : ℕ) → (kind ≡ Static) ⊎ (kind ≡ Instance) → value_at values k ≡ At object → (slot : ℕ) × (value_at slots slot ≡ At object)
    value_slot k object which e = ⊎_elim
        (λ static. args_each caller (λ held. held ≡ At object → (slot : ℕ) × (value_at slots slot ≡ At object)) slots call.args fits.hidden (λ f. absurd cc) (λ slot other f. (slot, f)) k (ap (λ kd. value_at (call_values kd call (length began) slots) k) (sym static) ∙ e))
        (λ instance. first_and (λ j held. held ≡ At object → (slot : ℕ) × (value_at slots slot ≡ At object)) (value_at slots (receiver_slot call.receiver)) _ (λ f. (receiver_slot call.receiver, f))
        (args_each caller (λ held. held ≡ At object → (slot : ℕ) × (value_at slots slot ≡ At object)) slots call.args fits.hidden (λ f. absurd cc) (λ slot other f. (slot, f))) k (ap (λ kd. value_at (call_values kd call (length began) slots) k) (sym instance) ∙ e))
        which

    each_value : (P : Held → Type 0) → P (Num (pos 0)) → ((slot : ℕ) → P (value_at slots slot)) → (kind ≡ Static) ⊎ (kind ≡ Instance) → (k : ℕ) → P (value_at values k)
    each_value P none each which k = ⊎_elim
        (λ static. subst (λ kd. P (value_at (call_values kd call (length began) slots) k)) (sym static) (args_each caller P slots call.args fits.hidden none (λ slot other. each slot) k))
        (λ instance. subst (λ kd. P (value_at (call_values kd call (length began) slots) k)) (sym instance)
        (first_and (λ j held. P held) (value_at slots (receiver_slot call.receiver)) _ (each (receiver_slot call.receiver)) (args_each caller P slots call.args fits.hidden none (λ slot other. each slot)) k))
        which

    promised : (x : Held) → IsIntHeld x → (kind ≡ Static) ⊎ (kind ≡ Instance) → call_heap (tables_in world) kind began ≡ began → AreTrue callee.result_claims (reading_of heap x) (param_readings world callee values heap)
        → AreTrue named.result_claims (reading_of heap x) (param_readings world named values heap)
    promised x is_int which same_heap is =
        stands.promises values began heap x
        (record { held = each_value (IsOn began) tt on.held which; within = on.within })
        (record { held = each_value IsIntHeld zero_held kept.held which; within = kept.within; sizes = kept.sizes })
        (record { held = each_value IsIntHeld zero_held kept.held which; within = kept_after.within; sizes = kept_after.sizes })
        is_int since.later
        (λ k field object at why. let found = value_slot k object which at in
        since.same found.0 field object found.1 (record { not_super = λ s own has. false≢true (sym plain ∙ s); reason = ⊎_elim (λ q. NoEffect q) (λ f. Final f) why }))
        (subst (λ h. MeetParams world named values h) same_heap met) is
      where
        zero_held : IsIntHeld (Num (pos 0))
        zero_held = record { from = omega (arith, ints); to = omega (arith, ints) }

    -- ---- the facts of the result

    no_claims_hold : named.result_claims ≡ [] → AllHold (claims_facts (call_path (call_of call n)) (Slot call.target) named.result_claims) w
    no_claims_hold e = subst (λ claims. AllHold (claims_facts (call_path (call_of call n)) (Slot call.target) claims) w) (sym e) tt

    filled : (to : Option ℕ) (of : Option Held) → to ≡ Some call.target → FillsTarget of to → (x : Held) × (of ≡ Some x)
    filled to (Some x) e fills = (x, refl)
    filled None None e fills = absurd cc
    filled (Some t) None e fills = absurd fills

    value_set_at : (x : Held) → value ≡ Some x → target ≡ Some call.target → value_at later call.target ≡ x
    value_set_at x is to =
        ap (λ t. value_at (set_target t value slots) call.target) to ∙ (ap (λ o. value_at (set_target (Some call.target) o slots) call.target) is
        ∙ value_set slots call.target x (let h = fits.within call.target to in omega (arith, h, size)))

    value_holds : (kind ≡ Static) ⊎ (kind ≡ Instance) → call_heap (tables_in world) kind began ≡ began → target ≡ Some call.target → AllHold (claims_facts (call_path (call_of call n)) (Slot call.target) named.result_claims) w
    value_holds which same_heap to =
        let x = filled target value to given in
        claims_hold (call_path (call_of call n)) (Slot call.target) named.result_claims w (reading_of heap x.0) (param_readings world named values heap) (ap (reading_of heap) (sym (value_set_at x.0 x.1 to)))
        (λ name named_. name_read name (result_names program locals formed n lt name named_))
        (promised x.0 (subst IsIntIf x.1 int) which same_heap (subst (ResultTrue world callee values heap) x.1 results.claims))

    -- a result that there is has a target
    to_target : is_void named.result ≡ false → option_map (λ (d : Held). call.target) (default_result (method_at program call.method).result) ≡ Some call.target
    to_target some = by_type (method_at program call.method).result (subst (λ ty. is_void ty ≡ false) (stands.result ∙ same_result) some)
      where
        by_type : (ty : Type_) → is_void ty ≡ false → option_map (λ (d : Held). call.target) (default_result ty) ≡ Some call.target
        by_type type.Void e = absurd (false≢true (sym e))
        by_type (type.Plain of) e = refl
        by_type (type.Array of depth element) e = refl

    claims_of_result : AllHold (claims_facts (call_path (call_of call n)) (Slot call.target) named.result_claims) w
    claims_of_result = by_kind kind refl
      where
        by_kind : (k : CallKind) → kind ≡ k → AllHold (claims_facts (call_path (call_of call n)) (Slot call.target) named.result_claims) w
        by_kind Static e = by_test (is_void named.result)
            (λ t. no_claims_hold (void_claims n lt t))
            (λ t. value_holds (inl e) (ap (λ k. call_heap (tables_in world) k began) e) (ap (λ k. target_of (tables_in world) k call) e ∙ to_target t))
        by_kind Instance e = by_test (is_void named.result)
            (λ t. no_claims_hold (void_claims n lt t))
            (λ t. value_holds (inr e) (ap (λ k. call_heap (tables_in world) k began) e) (ap (λ k. target_of (tables_in world) k call) e ∙ to_target t))
        by_kind (New class) e = no_claims_hold (made_claims n lt (subst (λ k. KindFits k call named) e kinds).1)
        by_kind Super e = absurd (false≢true (sym plain ∙ ap is_super e))

    -- the posts of the named method, where they are asked for
    posts_of_call : (wanted : Option Bool) → Agrees wanted value → AllHold (posts_facts (call_path (call_of call n)) wanted named.posts) w
    posts_of_call wanted agrees =
        posts_hold (call_path (call_of call n)) wanted named.posts w (param_readings world named values heap) value agrees (λ name named_. name_read name (promised_names program locals formed n lt name named_))
        (stands.posts values heap value results.posts)

    -- what the answer of a method with a result tells
    pub call_tells : (kind ≡ Static) ⊎ (kind ≡ Instance) → is_void named.result ≡ false → (answer : Bool) → value_at later call.target ≡ Boolean answer → AllHold (answer_facts program (call_of call n) answer) w
    call_tells which some answer is =
        let to : target ≡ Some call.target = ⊎_elim (λ e. ap (λ k. target_of (tables_in world) k call) e ∙ to_target some) (λ e. ap (λ k. target_of (tables_in world) k call) e ∙ to_target some) which in
        let x = filled target value to given in
        posts_of_call (Some answer) (x.1 ∙ ap Some (sym (value_set_at x.0 x.1 to) ∙ is))

    pub call_meets : (s t : Stored) → CallGives program caller (call_of call n) s t → Meets s v → Meets t w
    call_meets s t gives meets =
        (signs_hold program caller).call (call_of call n) s t v w call_same
        (all_hold_app w (received named.result (Slot call.target)) _ (received_holds named.result (Slot call.target) w)
        (all_hold_app w (claims_facts (call_path (call_of call n)) (Slot call.target) named.result_claims) (posts_facts (call_path (call_of call n)) None named.posts) claims_of_result (posts_of_call None tt))) meets gives

    -- and the fields of a constructor's object are as they were
    pub call_keeps : caller.constructor ≡ true → (0 == call.target) ≡ false → KeepsThis v w
    call_keeps made other field = call_same (FieldOf 0 field) (by_quiet named.effect_free)
      where
        by_quiet : (quiet : Bool) → ((0 == call.target) || (not quiet && (not (own_slot caller 0) && not (world.is_final field)))) ≡ false
        by_quiet true = rw other refl
        by_quiet false = rw (other, made) refl
