-- The analysis keeps all laws for the program, which so is safe.
use Rattle.std.specs.Prelude.{◌≡◌, ◌≤◌, ℕ, zero, suc, ◌==◌, true, false, if◌then◌else◌, List, [], ◌∷◌, flat_map, Some, None, unwrap_or, refl}
use Rattle.std.proofs.Common.{arith, sym, ap, ◌∙◌, subst}
use Rattle.ix_core.specs.declared.fact.Profile.{Profile}
use Rattle.ix_core.specs.Analysis.{IsWorld, Stands, Laws}
use Rattle.ix_core.specs.Heap.{Held, At, Heap, no_reading, value_at, reading_of}
use Rattle.ix_core.specs.Safe.{Safe}
use Rattle.ix_core.specs.TypedStates.{NowTyped}
use Rattle.ix_core.proofs.LawsAreSafe.{types_in}
use Rattle.ix_core.specs.Tables.{method_at, class_at, param_slots, way_up, ancestors, overridden, is_among, first_where, found_method}
use Rattle.ix_core.specs.Waits.{MeetParams, AreFresh}
use Rattle.ix_core.proofs.Cases.{by_test, equal}
use Rattle.ix_core.proofs.FormedWorld.{formed_world}
use Rattle.ix_core.proofs.RunsAreSafe.{formed_is_safe}
use Rattle.ix_core_example.specs.Facts.{AllTrue, AreLow, held_through}
use Rattle.ix_core_example.specs.Counter.{counter, counter_world, counter_fields, facts_at_entry, counter_facts}
use Rattle.ix_core_example.proofs.CallReturns.{behind_true}
use Rattle.ix_core_example.proofs.CounterFine.{bodies_fine}
use Rattle.ix_core_example.proofs.CounterFormed.{counter_formed}
use Rattle.ix_core_example.proofs.FrameMoves.{shown}
use Rattle.ix_core_example.proofs.TypedArrays.{stores_typed}

-- ---- dispatch: no method overrides another

no_overrides : (method : ℕ) → (method_at counter method).overrides ≡ None
no_overrides zero = refl
no_overrides (suc zero) = refl
no_overrides (suc (suc zero)) = refl
no_overrides (suc (suc (suc zero))) = refl
no_overrides (suc (suc (suc (suc zero)))) = refl
no_overrides (suc (suc (suc (suc (suc zero))))) = refl
no_overrides (suc (suc (suc (suc (suc (suc method)))))) = refl

itself : (method named : ℕ) → is_among (overridden counter method) named ≡ (if method == named then true else false)
itself method named = ap (λ over. if method == named then true else is_among (way_up (λ below. (method_at counter below).overrides) 31 over) named) (no_overrides method)

first_is : (methods : List ℕ) (named : ℕ) → unwrap_or (first_where (λ method. is_among (overridden counter method) named) methods) named ≡ named
first_is [] named = refl
first_is (method ∷ methods) named =
    ap (λ t. unwrap_or (if t then Some method else first_where (λ method. is_among (overridden counter method) named) methods) named) (itself method named)
    ∙ by_test (method == named)
    (λ t. rw t (equal method named t))
    (λ t. rw t (first_is methods named))

found_is : (class named : ℕ) → found_method counter class named ≡ named
found_is class named = first_is (flat_map (λ above. (class_at counter above).methods) (ancestors counter class)) named

room : (method : ℕ) → param_slots (method_at counter method) ≤ (method_at counter method).slots
room zero = omega (arith)
room (suc zero) = omega (arith)
room (suc (suc zero)) = omega (arith)
room (suc (suc (suc zero))) = omega (arith)
room (suc (suc (suc (suc zero)))) = omega (arith)
room (suc (suc (suc (suc (suc zero))))) = omega (arith)
room (suc (suc (suc (suc (suc (suc method)))))) = omega (arith)

stands : (class named : ℕ) → Stands counter_world (counter_world.methods named) (counter_world.methods (counter_world.found class named))
stands class named = subst (λ runs. Stands counter_world (counter_world.methods named) (counter_world.methods runs)) (sym (found_is class named)) (record {
  params = refl;
  static = refl;
  slots = room named;
  plain = λ e. e;
  result = refl;
  effect = λ e. e;
  demands = λ values heap met. met;
  promises = λ values began heap value on later quiet met is. is;
  posts = λ values heap value is. is;
})

-- ---- entries

fresh_field : (heap : Heap) (this : Held) (object class field place : ℕ) → this ≡ At object → counter_world.place class field ≡ Some place → AreFresh counter_world heap object class
    → reading_of heap (held_through counter_world heap this field) ≡ no_reading
fresh_field heap this object class field place at there fresh = subst (λ held. reading_of heap (held_through counter_world heap held field) ≡ no_reading) (sym at) (fresh field (place, there))

entries : (method : ℕ) (slots : List Held) (heap : Heap) → MeetParams counter_world (counter_world.methods method) slots heap
    → ((counter_world.methods method).constructor ≡ true → (object : ℕ) × (value_at slots 0 ≡ At object) × AreFresh counter_world heap object (counter_world.methods method).class)
    → AllTrue counter_world (facts_at_entry method) slots heap
entries zero slots heap met fresh = ((met 0 _ refl).0, tt)
entries (suc zero) slots heap met fresh = tt
entries (suc (suc zero)) slots heap met fresh = ((met 1 _ refl).0, tt)
entries (suc (suc (suc zero))) slots heap met fresh = (fresh_field heap (value_at slots 0) (fresh refl).0 0 0 0 (fresh refl).1 refl (fresh refl).2, tt)
entries (suc (suc (suc (suc zero)))) slots heap met fresh = tt
entries (suc (suc (suc (suc (suc zero))))) slots heap met fresh =
    (fresh_field heap (value_at slots 0) (fresh refl).0 2 0 0 (fresh refl).1 refl (fresh refl).2, (fresh_field heap (value_at slots 0) (fresh refl).0 2 1 1 (fresh refl).1 refl (fresh refl).2, tt))
entries (suc (suc (suc (suc (suc (suc method)))))) slots heap met fresh = tt

lows : (field : ℕ) → AreLow (counter_world.field_claims field)
lows zero = tt
lows (suc zero) = tt
lows (suc (suc field)) = tt

no_posts : (method : ℕ) → (method_at counter method).posts ≡ []
no_posts zero = refl
no_posts (suc zero) = refl
no_posts (suc (suc zero)) = refl
no_posts (suc (suc (suc zero))) = refl
no_posts (suc (suc (suc (suc zero)))) = refl
no_posts (suc (suc (suc (suc (suc zero))))) = refl
no_posts (suc (suc (suc (suc (suc (suc method)))))) = refl

-- ---- the laws

tables : IsWorld counter_world
tables = formed_world counter counter_formed.0 counter_formed.1

pub counter_keeps_laws : (profile : Profile) → Laws profile counter_world (NowTyped counter (types_in counter counter_formed.0 counter_formed.1)) counter_facts
counter_keeps_laws profile = record {
  tables = tables;
  stands = stands;
  body = bodies_fine;
  entry = λ method slots heap met on int fresh. entries method slots heap met fresh;
  step = λ limits building method tasks store slots heap typed keeps frame int holds fine.
      shown profile counter_world counter_fields facts_at_entry tables lows limits building method slots heap keeps frame int (no_posts method) tasks store fine holds
      (stores_typed counter counter_formed.0 counter_formed.1 method slots heap tasks typed);
  after_call = λ caller named kind call store slots began heap value fits size on int holds since now is given results built. behind_true counter_world caller named kind call slots began heap value on since counter_fields store fits size given results built holds;
}

pub counter_safe : (profile : Profile) → Safe counter profile
counter_safe profile = formed_is_safe counter counter_formed.0 counter_formed.1 profile counter_facts (counter_keeps_laws profile)
