-- What flows from a store flows from a stronger one.
use Rattle.std.proofs.Common.{ℕ, true, false, Option}
use Rattle.ix_core.specs.declared.op.Op.{Op}
use Rattle.ix_core.specs.Code.{Code, End, Do, If, Break, Continue, Return, Throw, Loop, Condition, Known, Compare, Truth, Both, Either, Opposite}
use Rattle.ix_core.specs.Posts.{written_answer}
use Rattle.ix_flow.specs.Flow.{Point, Doing, Returning, Rules, RulesLaws, Flows, Asks}

module _ (R : Rules) (L : RulesLaws R) (Fine : Point → R.Store → Type 0) (finer : (point : Point) (s t : R.Store) → R.Below s t → Fine point t → Fine point s) (labels : ℕ → R.Store) where
  mutual
    pub flows_weaker : (last : Option Op) (code : Code) (s t e b k : R.Store) → R.Below s t → Flows R Fine labels last code t e b k → Flows R Fine labels last code s e b k
    flows_weaker last End s t e b k below flow = L.transitive s t e below flow
    flows_weaker last (Do op code) s t e b k below (fine, u, after, flow) = (finer (Doing op) s t below fine, u, L.after op s t u u below after (L.reflexive u), flow)
    flows_weaker last (If asked first second code) s t e b k below (h, f, j, asks, one, two, three) = (h, f, j, asks_weaker last asked s t h f b k below asks, one, two, three)
    flows_weaker last (Break code) s t e b k below (jump, flow) = (L.transitive s t b below jump, flow)
    flows_weaker last (Continue code) s t e b k below (jump, flow) = (L.transitive s t k below jump, flow)
    flows_weaker last (Return value span code) s t e b k below (fine, flow) = (finer (Returning value (written_answer last value) span) s t below fine, flow)
    flows_weaker last (Throw name span code) s t e b k below flow = flow
    flows_weaker last (Loop true asked body next number scope code) s t e b k below (turn, again, back, out, (j, entry, way, mark), asks, one, two, three) =
        (turn, again, back, out, (j, L.transitive s t j below entry, way, mark), asks, one, two, three)
    flows_weaker last (Loop false asked body next number scope code) s t e b k below (again, tested, back, out, (j, entry, way, mark), one, two, asks, three) =
        (again, tested, back, out, (j, L.transitive s t j below entry, way, mark), one, two, asks, three)

    pub asks_weaker : (last : Option Op) (asked : Condition) (s t h f b k : R.Store) → R.Below s t → Asks R Fine labels last asked t h f b k → Asks R Fine labels last asked s h f b k
    asks_weaker last (Known true) s t h f b k below asks = L.transitive s t h below asks
    asks_weaker last (Known false) s t h f b k below asks = L.transitive s t f below asks
    asks_weaker last (Compare code test) s t h f b k below (u, flow, one, two) = (u, flows_weaker last code s t u b k below flow, one, two)
    asks_weaker last (Truth code slot) s t h f b k below (u, flow, one, two) = (u, flows_weaker last code s t u b k below flow, one, two)
    asks_weaker last (Both asked later) s t h f b k below (u, asks, rest) = (u, asks_weaker last asked s t u f b k below asks, rest)
    asks_weaker last (Either asked later) s t h f b k below (u, asks, rest) = (u, asks_weaker last asked s t h u b k below asks, rest)
    asks_weaker last (Opposite asked) s t h f b k below asks = asks_weaker last asked s t f h b k below asks
