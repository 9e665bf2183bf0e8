-- A map that keeps the rules takes each flow to a flow; so the least labels are below what it gives of them.
use Rattle.std.specs.Prelude.{ℕ, ◌<◌, true, false, Option, None, Some}
use Rattle.std.proofs.Common.{subst}
use Rattle.ix_core.specs.declared.op.Op.{Op}
use Rattle.ix_core.specs.declared.op.Test.{Test}
use Rattle.ix_core.specs.Code.{Code, End, Do, If, Break, Continue, Return, Throw, Loop, Condition, Known, Compare, Truth, Both, Either, Opposite}
use Rattle.ix_core.specs.Posts.{last_done}
use Rattle.ix_flow.specs.Flow.{Rules, Flows, Asks, IsFlow, IsLeastFlow, Anything}
use Rattle.ix_certify.proofs.Fitting.{AllFit, AllAsked, LastFits, Maps}

module _ (Fits : Op → Type 0) (Asked : Test → Type 0) (R : Rules) (map : R.Store → R.Store) (maps : Maps Fits Asked R map) (labels : ℕ → R.Store) where
  abbrev mapped : ℕ → R.Store
  mapped number = map (labels number)

  -- what stands directly before the rest of a block
  last_fits : (last : Option Op) (code : Code) → LastFits Fits Asked last → AllFit Fits Asked code → LastFits Fits Asked (last_done last code)
  last_fits last End before fit = before
  last_fits last (Do op code) before fit = last_fits (Some op) code fit.0 fit.1
  last_fits last (If asked first second code) before fit = last_fits None code tt fit.3
  last_fits last (Break code) before fit = last_fits None code tt fit
  last_fits last (Continue code) before fit = last_fits None code tt fit
  last_fits last (Return value span code) before fit = last_fits None code tt fit
  last_fits last (Throw name span code) before fit = last_fits None code tt fit
  last_fits last (Loop test_first asked body next number scope code) before fit = last_fits None code tt fit.3

  from_nowhere : (code : Code) (e b k : R.Store) → Flows R (Anything R) mapped None code (map R.nowhere) e b k → Flows R (Anything R) mapped None code R.nowhere e b k
  from_nowhere code e b k flow = subst (λ s. Flows R (Anything R) mapped None code s e b k) maps.nowhere flow

  mutual
    flows_mapped : (last : Option Op) (code : Code) (s e b k : R.Store) → LastFits Fits Asked last → AllFit Fits Asked code → Flows R (Anything R) labels last code s e b k
        → Flows R (Anything R) mapped last code (map s) (map e) (map b) (map k)
    flows_mapped last End s e b k before fit flow = maps.below s e flow
    flows_mapped last (Do op code) s e b k before fit (fine, u, after, flow) = (tt, map u, maps.after op fit.0 s u after, flows_mapped (Some op) code u e b k fit.0 fit.1 flow)
    flows_mapped last (If asked first second code) s e b k before fit (h, f, j, asks, one, two, three) =
        (map h, map f, map j, asks_mapped last asked s h f b k before fit.0 asks, flows_mapped None first h j b k tt fit.1 one, flows_mapped None second f j b k tt fit.2 two, flows_mapped None code j e b k tt fit.3 three)
    flows_mapped last (Break code) s e b k before fit (jump, flow) = (maps.below s b jump, from_nowhere code (map e) (map b) (map k) (flows_mapped None code R.nowhere e b k tt fit flow))
    flows_mapped last (Continue code) s e b k before fit (jump, flow) = (maps.below s k jump, from_nowhere code (map e) (map b) (map k) (flows_mapped None code R.nowhere e b k tt fit flow))
    flows_mapped last (Return value span code) s e b k before fit (fine, flow) = (tt, from_nowhere code (map e) (map b) (map k) (flows_mapped None code R.nowhere e b k tt fit flow))
    flows_mapped last (Throw name span code) s e b k before fit flow = from_nowhere code (map e) (map b) (map k) (flows_mapped None code R.nowhere e b k tt fit flow)
    flows_mapped last (Loop true asked body next number scope code) s e b k before fit (turn, again, back, out, (j, entry, way, mark), asks, one, two, three) = (
      map turn,
      map again,
      map back,
      map out,
      (map j, maps.below s j entry, maps.below back j way, maps.rounded scope j (labels number) mark),
      asks_mapped None asked (labels number) turn out out k tt fit.0 asks,
      flows_mapped None body turn again out again tt fit.1 one,
      flows_mapped None next again back out k tt fit.2 two,
      flows_mapped None code out e b k tt fit.3 three,
    )
    flows_mapped last (Loop false asked body next number scope code) s e b k before fit (again, tested, back, out, (j, entry, way, mark), one, two, asks, three) = (
      map again,
      map tested,
      map back,
      map out,
      (map j, maps.below s j entry, maps.below back j way, maps.rounded scope j (labels number) mark),
      flows_mapped None body (labels number) again out again tt fit.1 one,
      flows_mapped None next again tested out k tt fit.2 two,
      asks_mapped None asked tested back out out k tt fit.0 asks,
      flows_mapped None code out e b k tt fit.3 three,
    )

    asks_mapped : (last : Option Op) (asked : Condition) (s h f b k : R.Store) → LastFits Fits Asked last → AllAsked Fits Asked asked → Asks R (Anything R) labels last asked s h f b k
        → Asks R (Anything R) mapped last asked (map s) (map h) (map f) (map b) (map k)
    asks_mapped last (Known true) s h f b k before fit asks = maps.below s h asks
    asks_mapped last (Known false) s h f b k before fit asks = maps.below s f asks
    asks_mapped last (Compare code test) s h f b k before fit (u, flow, one, two) =
        (map u, flows_mapped last code s u b k before fit.0 flow, maps.tested true test fit.1 u h one, maps.tested false test fit.1 u f two)
    asks_mapped last (Truth code slot) s h f b k before fit (u, flow, one, two) =
        (map u, flows_mapped last code s u b k before fit flow, maps.told true (last_done None code) slot (last_fits None code tt fit) u h one, maps.told false (last_done None code) slot (last_fits None code tt fit) u f two)
    asks_mapped last (Both asked later) s h f b k before fit (u, asks, rest) = (map u, asks_mapped last asked s u f b k before fit.0 asks, asks_mapped None later u h f b k tt fit.1 rest)
    asks_mapped last (Either asked later) s h f b k before fit (u, asks, rest) = (map u, asks_mapped last asked s h u b k before fit.0 asks, asks_mapped None later u h f b k tt fit.1 rest)
    asks_mapped last (Opposite asked) s h f b k before fit asks = asks_mapped last asked s f h b k before fit asks

  pub flow_mapped : (body : Code) → AllFit Fits Asked body → IsFlow R (Anything R) labels body → IsFlow R (Anything R) mapped body
  flow_mapped body fit (entry, end, begins, flow, fine) = (map entry, map end, maps.entry entry begins, flows_mapped None body entry end end end tt fit flow, tt)

  pub least_mapped : (body : Code) (loops : ℕ) → AllFit Fits Asked body → IsLeastFlow R body loops labels → (number : ℕ) → number < loops → R.Below (labels number) (map (labels number))
  least_mapped body loops fit (flow, least) number before = least mapped (flow_mapped body fit flow) number before
