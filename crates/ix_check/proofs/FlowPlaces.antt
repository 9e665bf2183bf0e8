-- What is asked of a store at each point of a body may be replaced by what follows of it there, by the places of the point.
use Rattle.std.proofs.Common.{ℕ, true, false, Option, None, Some}
use Rattle.ix_text.specs.declared.span.Span.{Span}
use Rattle.ix_core.specs.declared.op.Op.{Op}
use Rattle.ix_core.specs.Code.{Code, End, Do, If, Break, Continue, Return, Throw, Loop, Condition, Known, Compare, Truth, Both, Either, Opposite}
use Rattle.ix_core.specs.Posts.{written_answer}
use Rattle.ix_flow.specs.Flow.{Point, Doing, Returning, Ending, Rules, Flows, Asks, IsFlow}
use Rattle.ix_core.specs.CodePlaces.{OpPlaces, CodePlaces, AskedPlaces}

-- the places of a point
abbrev pub PointPlaces : (Span → Type 0) → Point → Type 0
PointPlaces P (Doing done) = OpPlaces P done
PointPlaces P (Returning value known span) = P span
PointPlaces P Ending = Unit {0}

module _ (P : Span → Type 0) (R : Rules) (Fine Other : Point → R.Store → Type 0) (more : (point : Point) (s : R.Store) → PointPlaces P point → Fine point s → Other point s) (labels : ℕ → R.Store) where
  mutual
    flows_more : (last : Option Op) (code : Code) (s e b k : R.Store) → CodePlaces P code → Flows R Fine labels last code s e b k → Flows R Other labels last code s e b k
    flows_more last End s e b k c below = below
    flows_more last (Do op code) s e b k c (fine, u, after, flow) = (more (Doing op) s c.0 fine, u, after, flows_more (Some op) code u e b k c.1 flow)
    flows_more last (If asked first second code) s e b k c (h, f, j, asks, one, two, three) =
        (h, f, j, asks_more last asked s h f b k c.0 asks, flows_more None first h j b k c.1 one, flows_more None second f j b k c.2 two, flows_more None code j e b k c.3 three)
    flows_more last (Break code) s e b k c (jump, flow) = (jump, flows_more None code R.nowhere e b k c flow)
    flows_more last (Continue code) s e b k c (jump, flow) = (jump, flows_more None code R.nowhere e b k c flow)
    flows_more last (Return value span code) s e b k c (fine, flow) = (more (Returning value (written_answer last value) span) s c.0 fine, flows_more None code R.nowhere e b k c.1 flow)
    flows_more last (Throw name span code) s e b k c flow = flows_more None code R.nowhere e b k c.1 flow
    flows_more last (Loop true asked body next number scope code) s e b k c (turn, again, back, out, head, asks, one, two, three) =
        (turn, again, back, out, head, asks_more None asked (labels number) turn out out k c.0 asks, flows_more None body turn again out again c.1 one, flows_more None next again back out k c.2 two, flows_more None code out e b k c.3 three)
    flows_more last (Loop false asked body next number scope code) s e b k c (again, tested, back, out, head, one, two, asks, three) =
        (again, tested, back, out, head, flows_more None body (labels number) again out again c.1 one, flows_more None next again tested out k c.2 two, asks_more None asked tested back out out k c.0 asks, flows_more None code out e b k c.3 three)

    asks_more : (last : Option Op) (asked : Condition) (s h f b k : R.Store) → AskedPlaces P asked → Asks R Fine labels last asked s h f b k → Asks R Other labels last asked s h f b k
    asks_more last (Known true) s h f b k c asks = asks
    asks_more last (Known false) s h f b k c asks = asks
    asks_more last (Compare code test) s h f b k c (u, flow, one, two) = (u, flows_more last code s u b k c.0 flow, one, two)
    asks_more last (Truth code slot) s h f b k c (u, flow, one, two) = (u, flows_more last code s u b k c flow, one, two)
    asks_more last (Both asked later) s h f b k c (u, asks, rest) = (u, asks_more last asked s u f b k c.0 asks, asks_more None later u h f b k c.1 rest)
    asks_more last (Either asked later) s h f b k c (u, asks, rest) = (u, asks_more last asked s h u b k c.0 asks, asks_more None later u h f b k c.1 rest)
    asks_more last (Opposite asked) s h f b k c asks = asks_more last asked s f h b k c asks

  pub is_flow_more : (body : Code) → CodePlaces P body → IsFlow R Fine labels body → IsFlow R Other labels body
  is_flow_more body c (entry, end, entered, flow, fine) = (entry, end, entered, flows_more None body entry end end end c flow, more Ending end tt fine)
