-- Labels with which a body flows fail at no loop; and where all are judged, the flow is one of the rules themselves.
use Rattle.std.proofs.Common.{ℕ, true, false, ◌≡◌, Option, None, Some}
use Rattle.ix_core.specs.declared.op.Op.{Op}
use Rattle.ix_core.specs.Code.{Code, End, Do, If, Break, Continue, Return, Throw, Loop, Condition, Known, Compare, Truth, Both, Either, Opposite}
use Rattle.ix_flow.specs.Flow.{Point, Rules, Flows, Asks, IsFlow, Anything}
use Rattle.ix_flow.specs.Given.{judging, numbered, Fails}

module _ (R : Rules) (Fine : Point → R.Store → Type 0) (labels : ℕ → R.Store) where
  module _ (Judged : ℕ → Type 0) where
    abbrev J : Rules
    J = judging R Judged

    mutual
      flows_judged : (last : Option Op) (code : Code) (i : ℕ) (s e b k : R.Store) → Flows R Fine labels last code s e b k → Flows J (Anything J) (numbered R labels) last code (s, i) (e, 0) (b, 0) (k, 0)
      flows_judged last End i s e b k flow = flow
      flows_judged last (Do done code) i s e b k (fine, u, after, flow) = (tt, (u, 0), after, flows_judged (Some done) code 0 u e b k flow)
      flows_judged last (If asked first second code) i s e b k (h, f, j, asks, one, two, three) =
          ((h, 0), (f, 0), (j, 0), asks_judged last asked i s h f b k asks, flows_judged None first 0 h j b k one, flows_judged None second 0 f j b k two, flows_judged None code 0 j e b k three)
      flows_judged last (Break code) i s e b k (jump, flow) = (jump, flows_judged None code 0 R.nowhere e b k flow)
      flows_judged last (Continue code) i s e b k (jump, flow) = (jump, flows_judged None code 0 R.nowhere e b k flow)
      flows_judged last (Return value span code) i s e b k (fine, flow) = (tt, flows_judged None code 0 R.nowhere e b k flow)
      flows_judged last (Throw name span code) i s e b k flow = flows_judged None code 0 R.nowhere e b k flow
      flows_judged last (Loop true asked body next number scope code) i s e b k (turn, again, back, out, (j, entry, way, mark), asks, one, two, three) = (
        (turn, 0),
        (again, 0),
        (back, 0),
        (out, 0),
        ((j, 0), entry, way, λ is. mark),
        asks_judged None asked number (labels number) turn out out k asks,
        flows_judged None body 0 turn again out again one,
        flows_judged None next 0 again back out k two,
        flows_judged None code 0 out e b k three,
      )
      flows_judged last (Loop false asked body next number scope code) i s e b k (again, tested, back, out, (j, entry, way, mark), one, two, asks, three) = (
        (again, 0),
        (tested, 0),
        (back, 0),
        (out, 0),
        ((j, 0), entry, way, λ is. mark),
        flows_judged None body number (labels number) again out again one,
        flows_judged None next 0 again tested out k two,
        asks_judged None asked 0 tested back out out k asks,
        flows_judged None code 0 out e b k three,
      )

      asks_judged : (last : Option Op) (asked : Condition) (i : ℕ) (s h f b k : R.Store) → Asks R Fine labels last asked s h f b k → Asks J (Anything J) (numbered R labels) last asked (s, i) (h, 0) (f, 0) (b, 0) (k, 0)
      asks_judged last (Known true) i s h f b k asks = asks
      asks_judged last (Known false) i s h f b k asks = asks
      asks_judged last (Compare code test) i s h f b k (u, flow, one, two) = ((u, 0), flows_judged last code i s u b k flow, one, two)
      asks_judged last (Truth code slot) i s h f b k (u, flow, one, two) = ((u, 0), flows_judged last code i s u b k flow, one, two)
      asks_judged last (Both asked later) i s h f b k (u, asks, rest) = ((u, 0), asks_judged last asked i s u f b k asks, asks_judged None later 0 u h f b k rest)
      asks_judged last (Either asked later) i s h f b k (u, asks, rest) = ((u, 0), asks_judged last asked i s h u b k asks, asks_judged None later 0 u h f b k rest)
      asks_judged last (Opposite asked) i s h f b k asks = asks_judged last asked i s f h b k asks

  pub flow_never_fails : (body : Code) (loop : ℕ) → IsFlow R Fine labels body → Fails R labels body loop → ⊥
  flow_never_fails body loop (entry, end, begins, flow, fine) fails = fails ((entry, 0), (end, 0), begins, flows_judged (λ number. number ≡ loop) None body 0 entry end end end flow, tt)

  abbrev All : Rules
  All = judging R (λ number. Unit {0})

  abbrev Kept : Point → R.Store × ℕ → Type 0
  Kept point s = Fine point s.0

  mutual
    flows_plain : (last : Option Op) (code : Code) (s e b k : R.Store × ℕ) → Flows All Kept (numbered R labels) last code s e b k → Flows R Fine labels last code s.0 e.0 b.0 k.0
    flows_plain last End s e b k flow = flow
    flows_plain last (Do done code) s e b k (fine, u, after, flow) = (fine, u.0, after, flows_plain (Some done) code u e b k flow)
    flows_plain last (If asked first second code) s e b k (h, f, j, asks, one, two, three) =
        (h.0, f.0, j.0, asks_plain last asked s h f b k asks, flows_plain None first h j b k one, flows_plain None second f j b k two, flows_plain None code j e b k three)
    flows_plain last (Break code) s e b k (jump, flow) = (jump, flows_plain None code (R.nowhere, 0) e b k flow)
    flows_plain last (Continue code) s e b k (jump, flow) = (jump, flows_plain None code (R.nowhere, 0) e b k flow)
    flows_plain last (Return value span code) s e b k (fine, flow) = (fine, flows_plain None code (R.nowhere, 0) e b k flow)
    flows_plain last (Throw name span code) s e b k flow = flows_plain None code (R.nowhere, 0) e b k flow
    flows_plain last (Loop true asked body next number scope code) s e b k (turn, again, back, out, (j, entry, way, mark), asks, one, two, three) = (
      turn.0,
      again.0,
      back.0,
      out.0,
      (j.0, entry, way, mark tt),
      asks_plain None asked (labels number, number) turn out out k asks,
      flows_plain None body turn again out again one,
      flows_plain None next again back out k two,
      flows_plain None code out e b k three,
    )
    flows_plain last (Loop false asked body next number scope code) s e b k (again, tested, back, out, (j, entry, way, mark), one, two, asks, three) = (
      again.0,
      tested.0,
      back.0,
      out.0,
      (j.0, entry, way, mark tt),
      flows_plain None body (labels number, number) again out again one,
      flows_plain None next again tested out k two,
      asks_plain None asked tested back out out k asks,
      flows_plain None code out e b k three,
    )

    asks_plain : (last : Option Op) (asked : Condition) (s h f b k : R.Store × ℕ) → Asks All Kept (numbered R labels) last asked s h f b k → Asks R Fine labels last asked s.0 h.0 f.0 b.0 k.0
    asks_plain last (Known true) s h f b k asks = asks
    asks_plain last (Known false) s h f b k asks = asks
    asks_plain last (Compare code test) s h f b k (u, flow, one, two) = (u.0, flows_plain last code s u b k flow, one, two)
    asks_plain last (Truth code slot) s h f b k (u, flow, one, two) = (u.0, flows_plain last code s u b k flow, one, two)
    asks_plain last (Both asked later) s h f b k (u, asks, rest) = (u.0, asks_plain last asked s u f b k asks, asks_plain None later u h f b k rest)
    asks_plain last (Either asked later) s h f b k (u, asks, rest) = (u.0, asks_plain last asked s h u b k asks, asks_plain None later u h f b k rest)
    asks_plain last (Opposite asked) s h f b k asks = asks_plain last asked s f h b k asks

  pub all_judged : (body : Code) → IsFlow All Kept (numbered R labels) body → IsFlow R Fine labels body
  all_judged body (entry, end, begins, flow, fine) = (entry.0, end.0, begins, flows_plain None body entry end end end flow, fine)
