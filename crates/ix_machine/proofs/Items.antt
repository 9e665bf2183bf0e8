-- What the machine's step is at a choice and at a loop, and the room that these need.
use Rattle.std.proofs.Common.{◌≡◌, ℕ, ◌+◌, ◌≤◌, Bool, true, false, List, if◌then◌else◌, refl, ap, sym, ◌∙◌, subst, arith}
use Rattle.std.specs.Borrow.{Bor}
use Rattle.ix_core.specs.declared.code.Block.{Block}
use Rattle.ix_core.specs.declared.code.Cond.{Cond}
use Rattle.ix_core.specs.declared.code.Item.{Item}
use Rattle.ix_core.specs.declared.code.Item.TheVariants as item
use Rattle.ix_core.specs.Code.{Code, Condition, If, Loop, item_code, items_code, cond_code, block_code}
use Rattle.ix_core.specs.Heap.{Held, Heap}
use Rattle.ix_core.specs.Machine.{Limits, Go, step_tasks}
use Rattle.ix_core.specs.Tables.{Tables}
use Rattle.ix_core.specs.Tasks.{Tasks, Empty, Ask, Head, Again, Out, code_then}
use Rattle.ix_core.proofs.Translated.{item_code-If, item_code-Loop}
use Rattle.ix_machine_state.specs.Places.{loop_tasks}
use Rattle.ix_machine_state.specs.declared.places.Place.TheVariants as place
use Rattle.ix_machine_state.specs.declared.room.Room.{Room}
use Rattle.ix_machine_state.specs.Room.{code_above, code_values}
use Rattle.ix_machine_state.specs.Fits.{IsFree, IsFreeFor}

pub free_for : {below : ℕ} {room : Room} {items : Bor (List Item)} {code : Code} → IsFree below room (place.Rest items) → items_code items.now ≡ code → IsFreeFor below room code
free_for {below} {room} {items} {code} free is = record {
  above = subst (λ (c : Code). below + 1 + code_above c ≤ room.places) is free.above;
  values = subst (λ (c : Code). code_values c ≤ room.values) is free.values;
}

-- the same room, as many places below
pub free_for_at : {below more : ℕ} {room new : Room} {code : Code} → IsFreeFor below room code → new ≡ room → more ≡ below → IsFreeFor more new code
free_for_at {below} {more} {room} {new} {code} free is count = record {
  above = omega (arith, free.above, count, ap (λ (r : Room). r.places) is);
  values = omega (arith, free.values, ap (λ (r : Room). r.values) is);
}

pub if_code : (items : Code) (statement : Item) (asked : Cond) (first second : Block) (rest : Code) → items ≡ item_code statement rest → statement ≡ item.If asked first second
    → items ≡ If (cond_code asked) (block_code first) (block_code second) rest
if_code items statement asked first second rest whole is = whole ∙ (ap (λ i. item_code i rest) is ∙ item_code-If asked first second rest)

pub loop_code : (items : Code) (statement : Item) (test_first : Bool) (asked : Cond) (body next : Block) (number scope : ℕ) (rest : Code) → items ≡ item_code statement rest → statement ≡ item.Loop test_first asked body next number scope
    → items ≡ Loop test_first (cond_code asked) (block_code body) (block_code next) number scope rest
loop_code items statement test_first asked body next number scope rest whole is = whole ∙ (ap (λ i. item_code i rest) is ∙ item_code-Loop test_first asked body next number scope rest)

pub loop_free : {below : ℕ} {room : Room} {test_first : Bool} {asked : Condition} {body next rest : Code} {number scope : ℕ} → IsFreeFor below room (Loop test_first asked body next number scope rest) → IsFreeFor below room (Loop test_first asked body next 0 0 rest)
loop_free free = record { above = free.above; values = free.values }

module _ (limits : Limits) (tables : Tables) (slots : List Held) (heap : Heap) where
  pub ran_if : (items : Code) (asked : Condition) (first second rest : Code) (tasks after : Tasks) → items ≡ If asked first second rest
      → after ≡ Ask asked (code_then first Empty) (code_then second Empty) (code_then rest tasks) → step_tasks limits tables slots heap (code_then items tasks) ≡ Go after slots heap
  ran_if items asked first second rest tasks after is done = ap (λ c. step_tasks limits tables slots heap (code_then c tasks)) is ∙ ap (λ t. Go t slots heap) (sym done)

  begun : (test_first : Bool) (asked : Condition) (body next : Code) (tasks : Tasks)
      → (if test_first then Go (Head asked body next (Out tasks)) slots heap else Go (code_then body (Again asked body next (Out tasks))) slots heap) ≡ Go (loop_tasks test_first asked body next tasks) slots heap
  begun true asked body next tasks = refl
  begun false asked body next tasks = refl

  pub ran_loop : (items : Code) (test_first : Bool) (asked : Condition) (body next : Code) (number scope : ℕ) (rest : Code) (tasks after : Tasks) → items ≡ Loop test_first asked body next number scope rest
      → after ≡ loop_tasks test_first asked body next (code_then rest tasks) → step_tasks limits tables slots heap (code_then items tasks) ≡ Go after slots heap
  ran_loop items test_first asked body next number scope rest tasks after is done =
      ap (λ c. step_tasks limits tables slots heap (code_then c tasks)) is ∙ (begun test_first asked body next (code_then rest tasks) ∙ ap (λ t. Go t slots heap) (sym done))
