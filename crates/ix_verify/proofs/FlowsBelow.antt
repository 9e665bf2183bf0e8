-- A flow with some labels gives one with others: where those of all loops say no less, and those of the loops that are judged say the same.
use Rattle.std.proofs.Common.{ℕ, true, false, Option, None, Some}
use Rattle.ix_core.specs.declared.op.Op.{Op}
use Rattle.ix_core.specs.Code.{Code, End, Do, If, Break, Continue, Return, Throw, Loop, Condition, Known, Compare, Truth, Both, Either, Opposite}
use Rattle.ix_core.specs.Posts.{written_answer}
use Rattle.ix_flow.specs.Flow.{Point, Doing, Returning, Ending, Rules, RulesLaws, Flows, Asks, IsFlow}
use Rattle.ix_flow.specs.Given.{judging, numbered}
use Rattle.ix_verify.proofs.Loops.{EachLoop, EachLoopOf}

-- What these rules, with these labels and others, have to have: those of lawful rules have it, and so have those of lawful rules that judge some labels.
pub record Suits (R : Rules) (Judged : ℕ → Type 0) (labels others : ℕ → R.Store) : Type 0 where
  pub reflexive : (s : R.Store) → R.Below s s
  pub transitive : (s t u : R.Store) → R.Below s t → R.Below t u → R.Below s u
  pub after : (op : Op) (s t u : R.Store) → R.Below s t → R.After op t u → R.After op s u
  pub moved : (number scope : ℕ) (joined : R.Store) → Judged number → R.Below (labels number) (others number) → R.Rounded scope joined (labels number) → R.Rounded scope joined (others number)

pub lawful : (R : Rules) → RulesLaws R → (Judged : ℕ → Type 0) (labels others : ℕ → R.Store) → Suits R Judged labels others
lawful R L Judged labels others = record {
  reflexive = L.reflexive;
  transitive = L.transitive;
  after = λ op s t u below after. L.after op s t u u below after (L.reflexive u);
  moved = λ number scope joined judged below mark. L.rounded scope joined joined (labels number) (others number) (L.reflexive joined) mark below;
}

pub judging_suits : (R : Rules) → RulesLaws R → (Own Judged : ℕ → Type 0) (labels others : ℕ → R.Store) → Suits (judging R Own) Judged (numbered R labels) (numbered R others)
judging_suits R L Own Judged labels others = record {
  reflexive = λ s. L.reflexive s.0;
  transitive = λ s t u. L.transitive s.0 t.0 u.0;
  after = λ op s t u below after. L.after op s.0 t.0 u.0 u.0 below after (L.reflexive u.0);
  moved = λ number scope joined judged below mark own. L.rounded scope joined.0 joined.0 (labels number) (others number) (L.reflexive joined.0) (mark own) below;
}

-- of one loop: the other label says no less, and no more where it is judged
abbrev pub Matches : (R : Rules) (Judged : ℕ → Type 0) (labels others : ℕ → R.Store) → ℕ → Type 0
Matches R Judged labels others number = R.Below (others number) (labels number) × (Judged number → R.Below (labels number) (others number))

-- `Fine` is what is asked with the first labels, `Given` what is asked with the others.
module _ (R : Rules) (Fine : Point → R.Store → Type 0) (Judged : ℕ → Type 0) (Given : Point → R.Store × ℕ → Type 0)
    (finer : (point : Point) (s t : R.Store) (i : ℕ) → R.Below s t → Fine point t → Given point (s, i)) (labels others : ℕ → R.Store) (L : Suits R Judged labels others) where
  abbrev J : Rules
  J = judging R Judged

  abbrev Each : Code → Type 0
  Each = EachLoop (Matches R Judged labels others)

  abbrev EachOf : Condition → Type 0
  EachOf = EachLoopOf (Matches R Judged labels others)

  mutual
    flows_below : (last : Option Op) (code : Code) (i : ℕ) (s t e b k : R.Store) → Each code → R.Below s t → Flows R Fine labels last code t e b k → Flows J Given (numbered R others) last code (s, i) (e, 0) (b, 0) (k, 0)
    flows_below last End i s t e b k each below flow = L.transitive s t e below flow
    flows_below last (Do done code) i s t e b k each below (fine, u, after, flow) =
        (finer (Doing done) s t i below fine, (u, 0), L.after done s t u below after, flows_below (Some done) code 0 u u e b k each (L.reflexive u) flow)
    flows_below last (If asked first second code) i s t e b k each below (h, f, j, asks, one, two, three) = (
      (h, 0),
      (f, 0),
      (j, 0),
      asks_below last asked i s t h f b k each.0 below asks,
      flows_below None first 0 h h j b k each.1 (L.reflexive h) one,
      flows_below None second 0 f f j b k each.2 (L.reflexive f) two,
      flows_below None code 0 j j e b k each.3 (L.reflexive j) three,
    )
    flows_below last (Break code) i s t e b k each below (jump, flow) = (L.transitive s t b below jump, flows_below None code 0 R.nowhere R.nowhere e b k each (L.reflexive R.nowhere) flow)
    flows_below last (Continue code) i s t e b k each below (jump, flow) = (L.transitive s t k below jump, flows_below None code 0 R.nowhere R.nowhere e b k each (L.reflexive R.nowhere) flow)
    flows_below last (Return value span code) i s t e b k each below (fine, flow) =
        (finer (Returning value (written_answer last value) span) s t i below fine, flows_below None code 0 R.nowhere R.nowhere e b k each (L.reflexive R.nowhere) flow)
    flows_below last (Throw name span code) i s t e b k each below flow = flows_below None code 0 R.nowhere R.nowhere e b k each (L.reflexive R.nowhere) flow
    flows_below last (Loop true asked body next number scope code) i s t e b k each below (turn, again, back, out, (j, entry, way, mark), asks, one, two, three) = (
      (turn, 0),
      (again, 0),
      (back, 0),
      (out, 0),
      ((j, 0), L.transitive s t j below entry, way, λ judged. L.moved number scope j judged (each.0.1 judged) mark),
      asks_below None asked number (others number) (labels number) turn out out k each.1 each.0.0 asks,
      flows_below None body 0 turn turn again out again each.2 (L.reflexive turn) one,
      flows_below None next 0 again again back out k each.3 (L.reflexive again) two,
      flows_below None code 0 out out e b k each.4 (L.reflexive out) three,
    )
    flows_below last (Loop false asked body next number scope code) i s t e b k each below (again, tested, back, out, (j, entry, way, mark), one, two, asks, three) = (
      (again, 0),
      (tested, 0),
      (back, 0),
      (out, 0),
      ((j, 0), L.transitive s t j below entry, way, λ judged. L.moved number scope j judged (each.0.1 judged) mark),
      flows_below None body number (others number) (labels number) again out again each.2 each.0.0 one,
      flows_below None next 0 again again tested out k each.3 (L.reflexive again) two,
      asks_below None asked 0 tested tested back out out k each.1 (L.reflexive tested) asks,
      flows_below None code 0 out out e b k each.4 (L.reflexive out) three,
    )

    asks_below : (last : Option Op) (asked : Condition) (i : ℕ) (s t h f b k : R.Store) → EachOf asked → R.Below s t → Asks R Fine labels last asked t h f b k → Asks J Given (numbered R others) last asked (s, i) (h, 0) (f, 0) (b, 0) (k, 0)
    asks_below last (Known true) i s t h f b k each below asks = L.transitive s t h below asks
    asks_below last (Known false) i s t h f b k each below asks = L.transitive s t f below asks
    asks_below last (Compare code test) i s t h f b k each below (u, flow, one, two) = ((u, 0), flows_below last code i s t u b k each below flow, one, two)
    asks_below last (Truth code slot) i s t h f b k each below (u, flow, one, two) = ((u, 0), flows_below last code i s t u b k each below flow, one, two)
    asks_below last (Both asked later) i s t h f b k each below (u, asks, rest) = ((u, 0), asks_below last asked i s t u f b k each.0 below asks, asks_below None later 0 u u h f b k each.1 (L.reflexive u) rest)
    asks_below last (Either asked later) i s t h f b k each below (u, asks, rest) = ((u, 0), asks_below last asked i s t h u b k each.0 below asks, asks_below None later 0 u u h f b k each.1 (L.reflexive u) rest)
    asks_below last (Opposite asked) i s t h f b k each below asks = asks_below last asked i s t f h b k each below asks

  pub flow_below : (body : Code) → Each body → IsFlow R Fine labels body → IsFlow J Given (numbered R others) body
  flow_below body each (entry, end, begins, flow, fine) =
      ((entry, 0), (end, 0), begins, flows_below None body 0 entry entry end end end each (L.reflexive entry) flow, finer Ending end end 0 (L.reflexive end) fine)
