-- A call of an instance method without errors may be taken for a call of the method that runs.
use Rattle.std.specs.Prelude.{◌≡◌, ◌⊎◌, ℕ, ◌+◌, ◌<◌, ◌≤◌, nat_lt, true, if◌then◌else◌, pos, List, length, option_map, refl}
use Rattle.std.proofs.Common.{arith, sym, ap, ◌∙◌, subst, ⊎_elim}
use Rattle.std.proofs.lemmas.Bool.Decides.{nat_tests}
use Rattle.std.proofs.lemmas.Int.{ints}
use Rattle.ix_core.specs.declared.claim.Type_.{Type_}
use Rattle.ix_core.specs.declared.fact.Profile.{Profile}
use Rattle.ix_core.specs.declared.op.CallOp.{CallOp}
use Rattle.ix_core.specs.declared.program.Method.{Method}
use Rattle.ix_core.specs.declared.program.Program.{Program}
use Rattle.ix_core.specs.Analysis.{Calls}
use Rattle.ix_core.specs.Formed.{is_formed}
use Rattle.ix_core.specs.Heap.{Held, Num, Heap, value_at}
use Rattle.ix_core.specs.Machine.{Instance, call_values, receiver_slot, target_of}
use Rattle.ix_core.specs.Objects.{IsIntHeld, HeapKeeps, FrameKeeps, KeepsInts}
use Rattle.ix_core.specs.Tables.{method_at, param_slots, default_result}
use Rattle.ix_core.specs.Tasks.{Tasks}
use Rattle.ix_core.specs.Waits.{Knowledge, FitsCall}
use Rattle.ix_core.specs.World.{World, tables_in}
use Rattle.ix_core.proofs.Entered.{args_each, first_and}
use Rattle.ix_core.proofs.LawsAreSafe.{types_in}
use Rattle.ix_core.proofs.TypedCalls.{method_has}
use Rattle.ix_facts.specs.Stores.{Stored}
use Rattle.ix_soundness.specs.Direct.{direct}
use Rattle.ix_soundness.specs.Known.{Known, Anything, Here, Behind, Overrides, BehindFine, call_of, knowledge}
use Rattle.ix_soundness.specs.Stands.{StandsFor}
use Rattle.ix_soundness.proofs.Dispatch.{IsFound}
use Rattle.ix_soundness.proofs.Overridden.{NoTexts, overrides_stands, overrides_overrides, found_overrides}

module _ (program : Program) (locals : List (List Type_)) (formed : is_formed program locals ≡ true) (profile : Profile) (texts : NoTexts program locals formed) (entries : (number : ℕ) → nat_lt number (length program.methods) ≡ true → Stored) where
  abbrev world : World
  world = direct program

  abbrev know : Knowledge
  know = knowledge program profile (types_in program locals formed) entries

  -- no less is known of a call of the overriding method
  taken : (number : ℕ) (tasks : Tasks) (caller : Method) (call : CallOp) (m : ℕ) → Overrides program m call.method → (known : Known)
      → BehindFine program profile (types_in program locals formed) number tasks caller (method_at program call.method) Instance call known
      → BehindFine program profile (types_in program locals formed) number tasks caller (method_at program m) Instance (call_of call m) known
  taken number tasks caller call m over Anything fine = absurd fine
  taken number tasks caller call m over (Behind other named kind_ call_ known) fine = absurd fine
  taken number tasks caller call m over (Here stage last s) fine = record {
    well = record {
      number = fine.well.number;
      there = fine.well.there;
      caller_is = fine.well.caller_is;
      callee_is = refl;
      named = fine.well.named;
      overrides = overrides_overrides program m call.method fine.well.named over fine.well.overrides;
      known = fine.well.known;
      kinds = fine.well.kinds;
      args = fine.well.args;
      makes = fine.well.makes;
      target = fine.well.target;
      apart = fine.well.apart;
      receiver = fine.well.receiver;
      met = fine.well.met;
    };
    after = fine.after;
    gives = fine.gives;
    types = fine.types;
    done = fine.done;
    is = fine.is;
    fine = fine.fine;
  }

  module _ (building : ℕ → Type 0) (number : ℕ) (slots : List Held) (heap : Heap) (call : CallOp) (tasks : Tasks) (m : ℕ) (kept : KeepsInts slots heap) (over : Overrides program m call.method) (there : (m ≡ call.method) ⊎ (m < length program.methods))
      (good : Calls profile world know number Instance call tasks slots heap) where
    stands : StandsFor world (method_at program call.method) (method_at program m)
    stands = overrides_stands program locals formed texts m call.method over

    as_many : param_slots (method_at program call.method) ≡ param_slots (method_at program m)
    as_many = λ i. if stands.static i then stands.params i else stands.params i + 1

    room : param_slots (method_at program m) ≤ (method_at program m).slots
    room = ⊎_elim
        (λ same. subst (λ n. param_slots (method_at program n) ≤ (method_at program n).slots) (sym same) good.fits.room)
        (λ lt. let h = (method_has program locals formed m lt).room in grind (arith, nat_tests))
        there

    same_target : target_of (tables_in world) Instance (call_of call m) ≡ target_of (tables_in world) Instance call
    same_target = ap (λ ty. option_map (λ (d : Held). call.target) (default_result ty)) (sym stands.result)

    fits : FitsCall world (method_at program number) (method_at program m) Instance (call_of call m)
    fits = record {
      kinds = (sym stands.constructor ∙ good.fits.kinds.0, good.fits.kinds.1, good.fits.kinds.2, good.fits.kinds.3);
      hidden = good.fits.hidden;
      count = good.fits.count ∙ as_many;
      room = room;
      effect = λ q. stands.effect (good.fits.effect q);
      within = λ at e. good.fits.within at (sym same_target ∙ e);
      target = λ at e. good.fits.target at (sym same_target ∙ e);
    }

    zero_int : IsIntHeld (Num (pos 0))
    zero_int = record { from = omega (arith, ints); to = omega (arith, ints) }

    values_int : KeepsInts (call_values Instance call (length heap) slots) heap
    values_int = record {
      held = first_and (λ k x. IsIntHeld x) (value_at slots (receiver_slot call.receiver)) _ (kept.held (receiver_slot call.receiver))
          (args_each (method_at program number) IsIntHeld slots call.args good.fits.hidden zero_int (λ slot other. kept.held slot));
      within = kept.within;
      sizes = kept.sizes;
    }

    pub dispatched : Calls profile world know number Instance (call_of call m) tasks slots heap × ((method_at program m).result ≡ (method_at program call.method).result)
    dispatched = (
      record {
        store = good.store;
        holds = good.holds;
        fits = fits;
        met = stands.demands (call_values Instance call (length heap) slots) heap values_int good.met;
        fresh = good.fresh;
        fine = λ within. taken number tasks (method_at program number) call m over good.store (good.fine within);
      },
      sym stands.result,
    )

  pub dispatches : (building : ℕ → Type 0) (number : ℕ) (slots : List Held) (heap : Heap) (call : CallOp) (tasks : Tasks) (m : ℕ) → HeapKeeps world building heap → FrameKeeps building (method_at program number) slots heap → KeepsInts slots heap
      → IsFound program slots heap call m → Calls profile world know number Instance call tasks slots heap
      → Calls profile world know number Instance (call_of call m) tasks slots heap × ((method_at program m).result ≡ (method_at program call.method).result)
  dispatches building number slots heap call tasks m keeps frame kept found good =
      let over = found_overrides program locals formed found.class call.method in
      dispatched building number slots heap call tasks m kept (subst (λ n. Overrides program n call.method) found.is over.0) (subst (λ n. (n ≡ call.method) ⊎ (n < length program.methods)) found.is over.1) good
