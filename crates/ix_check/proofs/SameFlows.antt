-- A flow by rules that allow less is one by rules that allow more, where also less is asked of stores.
use Rattle.std.specs.Prelude.{Bool, Option, None, Some}
use Rattle.std.proofs.Common.{ℕ, true, false}
use Rattle.ix_core.specs.declared.op.Op.{Op}
use Rattle.ix_core.specs.Code.{Code, End, Do, If, Break, Continue, Return, Throw, Loop, Condition, Known, Compare, Truth, Both, Either, Opposite}
use Rattle.ix_core.specs.Posts.{last_done, written_answer}
use Rattle.ix_flow.specs.Flow.{Point, Doing, Returning, Ending, Rules, Flows, Asks, IsFlow}

module _ (R : Rules) (After : Op → R.Store → R.Store → Type 0) (Told : Bool → Option Op → ℕ → R.Store → R.Store → Type 0) (Rounded : ℕ → R.Store → R.Store → Type 0) where
  -- the rules with these in place of their own
  abbrev pub other_rules : Rules
  other_rules = record { Store = R.Store; Below = R.Below; nowhere = R.nowhere; Entry = R.Entry; After = After; Tested = R.Tested; Told = Told; Rounded = Rounded }

  module _ (after : (done : Op) (s t : R.Store) → R.After done s t → After done s t)
      (told : (answer : Bool) (last : Option Op) (slot : ℕ) (s t : R.Store) → R.Told answer last slot s t → Told answer last slot s t)
      (rounded : (scope : ℕ) (s t : R.Store) → R.Rounded scope s t → Rounded scope s t)
      (Fine Less : Point → R.Store → Type 0) (less : (point : Point) (s : R.Store) → Fine point s → Less point s) (labels : ℕ → R.Store) where
    mutual
      flows_with : (last : Option Op) (code : Code) (s e b k : R.Store) → Flows R Fine labels last code s e b k → Flows other_rules Less labels last code s e b k
      flows_with last End s e b k flow = flow
      flows_with last (Do done code) s e b k (fine, u, step, flow) = (less (Doing done) s fine, u, after done s u step, flows_with (Some done) code u e b k flow)
      flows_with last (If asked first second code) s e b k (h, f, j, asks, one, two, three) =
          (h, f, j, asks_with last asked s h f b k asks, flows_with None first h j b k one, flows_with None second f j b k two, flows_with None code j e b k three)
      flows_with last (Break code) s e b k (jump, flow) = (jump, flows_with None code R.nowhere e b k flow)
      flows_with last (Continue code) s e b k (jump, flow) = (jump, flows_with None code R.nowhere e b k flow)
      flows_with last (Return value span code) s e b k (fine, flow) = (less (Returning value (written_answer last value) span) s fine, flows_with None code R.nowhere e b k flow)
      flows_with last (Throw name span code) s e b k flow = flows_with None code R.nowhere e b k flow
      flows_with last (Loop true asked body next number scope code) s e b k (turn, again, back, out, (j, entry, way, mark), asks, one, two, three) = (
        turn,
        again,
        back,
        out,
        (j, entry, way, rounded scope j (labels number) mark),
        asks_with None asked (labels number) turn out out k asks,
        flows_with None body turn again out again one,
        flows_with None next again back out k two,
        flows_with None code out e b k three,
      )
      flows_with last (Loop false asked body next number scope code) s e b k (again, tested, back, out, (j, entry, way, mark), one, two, asks, three) = (
        again,
        tested,
        back,
        out,
        (j, entry, way, rounded scope j (labels number) mark),
        flows_with None body (labels number) again out again one,
        flows_with None next again tested out k two,
        asks_with None asked tested back out out k asks,
        flows_with None code out e b k three,
      )

      asks_with : (last : Option Op) (asked : Condition) (s h f b k : R.Store) → Asks R Fine labels last asked s h f b k → Asks other_rules Less labels last asked s h f b k
      asks_with last (Known true) s h f b k asks = asks
      asks_with last (Known false) s h f b k asks = asks
      asks_with last (Compare code test) s h f b k (u, flow, one, two) = (u, flows_with last code s u b k flow, one, two)
      asks_with last (Truth code slot) s h f b k (u, flow, one, two) =
          (u, flows_with last code s u b k flow, told true (last_done None code) slot u h one, told false (last_done None code) slot u f two)
      asks_with last (Both asked later) s h f b k (u, asks, rest) = (u, asks_with last asked s u f b k asks, asks_with None later u h f b k rest)
      asks_with last (Either asked later) s h f b k (u, asks, rest) = (u, asks_with last asked s h u b k asks, asks_with None later u h f b k rest)
      asks_with last (Opposite asked) s h f b k asks = asks_with last asked s f h b k asks

    pub is_flow_with : (body : Code) → IsFlow R Fine labels body → IsFlow other_rules Less labels body
    is_flow_with body (entry, end, begins, flow, fine) = (entry, end, begins, flows_with None body entry end end end flow, less Ending end fine)
