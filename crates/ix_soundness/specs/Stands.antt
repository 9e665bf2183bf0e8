-- What a method that overrides a named one owes to the callers of that one, where values are ints and nothing refers to nowhere.
use Rattle.std.specs.Prelude.{◌≡◌, ◌⊎◌, ℕ, true, List, length, Option}
use Rattle.ix_core.specs.declared.program.Method.{Method}
use Rattle.ix_core.specs.Claims.{AreTrue}
use Rattle.ix_core.specs.Heap.{Held, At, Heap, value_at, reading_of}
use Rattle.ix_core.specs.Posts.{PostsHold}
use Rattle.ix_core.specs.Objects.{AllOn, KeepsInts, IsIntHeld, Later, IsSame}
use Rattle.ix_core.specs.Waits.{MeetParams, param_readings}
use Rattle.ix_core.specs.World.{World}

pub record StandsFor (world : World) (named runs : Method) : Type 0 where
  pub params : length named.params ≡ length runs.params
  pub static : named.is_static ≡ runs.is_static
  pub constructor : named.constructor ≡ runs.constructor
  pub result : named.result ≡ runs.result
  pub effect : named.effect_free ≡ true → runs.effect_free ≡ true
  pub demands : (values : List Held) (heap : Heap) → KeepsInts values heap → MeetParams world named values heap → MeetParams world runs values heap
  pub promises : (values : List Held) (began heap : Heap) (value : Held) → AllOn values began → KeepsInts values began → KeepsInts values heap → IsIntHeld value → Later began heap
      → ((slot field object : ℕ) → value_at values slot ≡ At object → (runs.effect_free ≡ true) ⊎ (world.is_final field ≡ true) → IsSame world began heap object field)
      → MeetParams world named values began
      → AreTrue runs.result_claims (reading_of heap value) (param_readings world runs values heap) → AreTrue named.result_claims (reading_of heap value) (param_readings world named values heap)
  pub posts : (values : List Held) (heap : Heap) (value : Option Held) → PostsHold runs.posts (param_readings world runs values heap) value → PostsHold named.posts (param_readings world named values heap) value
