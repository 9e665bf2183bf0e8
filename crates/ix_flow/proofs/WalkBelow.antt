-- A walk's stores are below those of every flow with the same labels: no loop that the flow has judged failed in it, and it found no error that the flow bars.
use Rattle.std.proofs.Common.{⊎_elim, ℕ, true, false, sym, subst, Option, None, Some, List, []}
use Rattle.ix_core.specs.declared.op.Op.{Op}
use Rattle.ix_core.specs.Code.{Code, End, Do, If, Break, Continue, Return, Throw, Loop, Condition, Known, Compare, Truth, Both, Either, Opposite}
use Rattle.ix_core.specs.Posts.{last_done, written_answer}
use Rattle.ix_flow.specs.Flow.{Point, Doing, Returning, Ending, Rules, RulesLaws, Flows, Asks, IsFlow}
use Rattle.ix_flow.specs.Given.{judging, numbered}
use Rattle.ix_flow.specs.Walk.{Notes, IsIn, Adds, Judges, Walks, Splits, WalksBody}

module _ (R : Rules) {E Errors : Type 0} (Lists : E → Errors → Type 0) (Judged : ℕ → Type 0) (Barred : E → Type 0) where
  -- no loop that is judged failed, and no error that is barred was found
  abbrev pub IsClear : List ℕ → Errors → Type 0
  IsClear failed errors = ((number : ℕ) → IsIn number failed → Judged number → ⊥) × ((error : E) → Lists error errors → Barred error → ⊥)

  abbrev pub IsUnder : Notes R.Store Errors → R.Store → R.Store → Type 0
  IsUnder n breaks continues = R.Below n.breaks breaks × R.Below n.continues continues × IsClear n.failed n.errors

module _ (R : Rules) (L : RulesLaws R) {E Errors : Type 0} (Derives : Point → R.Store → E → Type 0) (Lists : E → Errors → Type 0) (labels : ℕ → R.Store)
    (Judged : ℕ → Type 0) (Barred : E → Type 0) (Fine : Point → R.Store × ℕ → Type 0)
    (bars : (point : Point) (s : R.Store) (t : R.Store × ℕ) (error : E) → R.Below s t.0 → Fine point t → Derives point s error → Barred error → ⊥) where
  abbrev J : Rules
  J = judging R Judged

  abbrev Found : Type 0
  Found = Notes R.Store Errors

  abbrev Walked : Option Op → Code → R.Store → Found → R.Store → Found → Type 0
  Walked = Walks R Derives Lists labels

  abbrev Flowing : Option Op → Code → R.Store × ℕ → R.Store × ℕ → R.Store × ℕ → R.Store × ℕ → Type 0
  Flowing = Flows J Fine (numbered R labels)

  abbrev Under : Found → R.Store × ℕ → R.Store × ℕ → Type 0
  Under n breaks continues = IsUnder R Lists Judged Barred n breaks.0 continues.0

  added : (point : Point) (s : R.Store) (t : R.Store × ℕ) (old new : Errors) → R.Below s t.0 → Adds R Derives Lists labels point s old new → Fine point t
      → ((error : E) → Lists error old → Barred error → ⊥) → (error : E) → Lists error new → Barred error → ⊥
  added point s t old new below adds fine clear error has barred = ⊎_elim (λ before. clear error before barred) (λ here. bars point s t error below fine here barred) ((adds error).0 has)

  -- what the flow has above the head's store is above the walk's
  judged : (number scope : ℕ) (s back : R.Store) (t others joined : R.Store × ℕ) (old new : List ℕ) → R.Below s t.0 → R.Below back others.0 → Judges R Derives Lists labels number scope s back old new
      → R.Below t.0 joined.0 → R.Below others.0 joined.0 → (Judged number → R.Rounded scope joined.0 (labels number)) → ((loop : ℕ) → IsIn loop old → Judged loop → ⊥) → (loop : ℕ) → IsIn loop new → Judged loop → ⊥
  judged number scope s back t others joined old new below behind (least, joins, result) entry way mark clear loop has is_judged = ⊎_elim
      (λ kept. clear loop (subst (IsIn loop) kept.1 has) is_judged)
      (λ fails. ⊎_elim
      (λ before. clear loop before is_judged)
      (λ same. fails.0 (L.rounded scope least joined.0 (labels number) (labels number) (joins.1 joined.0 (L.transitive s t.0 joined.0 below entry, L.transitive back others.0 joined.0 behind way))
      (mark (subst Judged same is_judged)) (L.reflexive (labels number))))
      ((fails.1 loop).0 has))
      result

  mutual
    walks_below : (last : Option Op) (code : Code) (s : R.Store) (n : Found) (e : R.Store) (m : Found) (t end breaks continues : R.Store × ℕ) → R.Below s t.0 → Walked last code s n e m → Flowing last code t end breaks continues
        → Under n breaks continues → R.Below e end.0 × Under m breaks continues
    walks_below last End s n e m t end breaks continues below (same, notes) flow under =
        (subst (λ x. R.Below x end.0) (sym same) (L.transitive s t.0 end.0 below flow), subst (λ x. Under x breaks continues) (sym notes) under)
    walks_below last (Do op code) s n e m t end breaks continues below (errors, after, adds, least, rest) (fine, u, gives, flow) under =
        walks_below (Some op) code after (record n { errors = errors }) e m u end breaks continues (least.1 u.0 (L.after op s t.0 u.0 u.0 below gives (L.reflexive u.0))) rest flow
        (under.0, under.1, (under.2.0, added (Doing op) s t n.errors errors below adds fine under.2.1))
    walks_below last (If asked first second code) s n e m t end breaks continues below (holds, fails, n1, one, n2, two, n3, joined, splits, w1, w2, joins, rest) (h, f, j, asks, f1, f2, f3) under =
        let a = splits_below last asked s n holds fails n1 t h f breaks continues below splits asks under in
        let b = walks_below None first holds n1 one n2 h j breaks continues a.0 w1 f1 a.2 in
        let c = walks_below None second fails n2 two n3 f j breaks continues a.1 w2 f2 b.1 in
        walks_below None code joined n3 e m j end breaks continues (joins.1 j.0 (b.0, c.0)) rest f3 c.1
    walks_below last (Break code) s n e m t end breaks continues below (jumps, joins, rest) (jump, flow) under =
        walks_below None code R.nowhere (record n { breaks = jumps }) e m (R.nowhere, 0) end breaks continues (L.reflexive R.nowhere) rest flow
        (joins.1 breaks.0 (under.0, L.transitive s t.0 breaks.0 below jump), under.1, under.2)
    walks_below last (Continue code) s n e m t end breaks continues below (jumps, joins, rest) (jump, flow) under =
        walks_below None code R.nowhere (record n { continues = jumps }) e m (R.nowhere, 0) end breaks continues (L.reflexive R.nowhere) rest flow
        (under.0, joins.1 continues.0 (under.1, L.transitive s t.0 continues.0 below jump), under.2)
    walks_below last (Return value span code) s n e m t end breaks continues below (errors, adds, rest) (fine, flow) under =
        walks_below None code R.nowhere (record n { errors = errors }) e m (R.nowhere, 0) end breaks continues (L.reflexive R.nowhere) rest flow
        (under.0, under.1, (under.2.0, added (Returning value (written_answer last value) span) s t n.errors errors below adds fine under.2.1))
    walks_below last (Throw name span code) s n e m t end breaks continues below rest flow under =
        walks_below None code R.nowhere n e m (R.nowhere, 0) end breaks continues (L.reflexive R.nowhere) rest flow under
    walks_below last (Loop true asked body next number scope code) s n e m t end breaks continues below (turn, fails, n1, left, done, n2, again, back, n3, failed, splits, leaves, w1, comes, w2, judges, rest)
        (turn', again', back', out', (joined, entry, way, mark), asks, f1, f2, f3) under =
        let a = splits_below None asked (labels number) (record n { breaks = R.nowhere }) turn fails n1 (labels number, number) turn' out' out' continues (L.reflexive (labels number)) splits asks (L.nowhere_below out'.0, under.1, under.2) in
        let b = walks_below None body turn (record n1 { breaks = left; continues = R.nowhere }) done n2 turn' again' out' again' a.0 w1 f1 (leaves.1 out'.0 (a.2.0, a.1), L.nowhere_below again'.0, a.2.2) in
        let c = walks_below None next again (record n2 { continues = n1.continues }) back n3 again' back' out' continues (comes.1 again'.0 (b.1.1, b.0)) w2 f2 (b.1.0, a.2.1, b.1.2) in
        walks_below None code n3.breaks (record n3 { breaks = n.breaks; failed = failed }) e m out' end breaks continues c.1.0 rest f3
        (under.0, c.1.1, (judged number scope s back t back' joined n3.failed failed below c.0 judges entry way mark c.1.2.0, c.1.2.1))
    walks_below last (Loop false asked body next number scope code) s n e m t end breaks continues below (done, n1, again, tested, n2, back, fails, n3, left, failed, w1, comes, w2, splits, leaves, judges, rest)
        (again', tested', back', out', (joined, entry, way, mark), f1, f2, asks, f3) under =
        let a = walks_below None body (labels number) (record n { breaks = R.nowhere; continues = R.nowhere }) done n1 (labels number, number) again' out' again' (L.reflexive (labels number)) w1 f1 (L.nowhere_below out'.0, L.nowhere_below again'.0, under.2) in
        let b = walks_below None next again (record n1 { continues = n.continues }) tested n2 again' tested' out' continues (comes.1 again'.0 (a.1.1, a.0)) w2 f2 (a.1.0, under.1, a.1.2) in
        let c = splits_below None asked tested n2 back fails n3 tested' back' out' out' continues b.0 splits asks b.1 in
        walks_below None code left (record n3 { breaks = n.breaks; failed = failed }) e m out' end breaks continues (leaves.1 out'.0 (c.2.0, c.1)) rest f3
        (under.0, c.2.1, (judged number scope s back t back' joined n3.failed failed below c.0 judges entry way mark c.2.2.0, c.2.2.1))

    splits_below : (last : Option Op) (asked : Condition) (s : R.Store) (n : Found) (holds fails : R.Store) (m : Found) (t h f breaks continues : R.Store × ℕ) → R.Below s t.0 → Splits R Derives Lists labels last asked s n holds fails m
        → Asks J Fine (numbered R labels) last asked t h f breaks continues → Under n breaks continues → R.Below holds h.0 × R.Below fails f.0 × Under m breaks continues
    splits_below last (Known true) s n holds fails m t h f breaks continues below (same, none, notes) flow under =
        (subst (λ x. R.Below x h.0) (sym same) (L.transitive s t.0 h.0 below flow), subst (λ x. R.Below x f.0) (sym none) (L.nowhere_below f.0), subst (λ x. Under x breaks continues) (sym notes) under)
    splits_below last (Known false) s n holds fails m t h f breaks continues below (none, same, notes) flow under =
        (subst (λ x. R.Below x h.0) (sym none) (L.nowhere_below h.0), subst (λ x. R.Below x f.0) (sym same) (L.transitive s t.0 f.0 below flow), subst (λ x. Under x breaks continues) (sym notes) under)
    splits_below last (Compare code test) s n holds fails m t h f breaks continues below (after, walks, told, other) (u, flow, so, fail) under =
        let a = walks_below last code s n after m t u breaks continues below walks flow under in
        (told.1 h.0 (L.tested true test after u.0 h.0 h.0 a.0 so (L.reflexive h.0)), other.1 f.0 (L.tested false test after u.0 f.0 f.0 a.0 fail (L.reflexive f.0)), a.1)
    splits_below last (Truth code slot) s n holds fails m t h f breaks continues below (after, walks, told, other) (u, flow, so, fail) under =
        let a = walks_below last code s n after m t u breaks continues below walks flow under in
        (told.1 h.0 (L.told true (last_done None code) slot after u.0 h.0 h.0 a.0 so (L.reflexive h.0)), other.1 f.0 (L.told false (last_done None code) slot after u.0 f.0 f.0 a.0 fail (L.reflexive f.0)), a.1)
    splits_below last (Both first second) s n holds fails m t h f breaks continues below (between, one, n1, two, s1, s2, joins) (u, asks, rest) under =
        let a = splits_below last first s n between one n1 t u f breaks continues below s1 asks under in
        let b = splits_below None second between n1 holds two m u h f breaks continues a.0 s2 rest a.2 in
        (b.0, joins.1 f.0 (a.1, b.1), b.2)
    splits_below last (Either first second) s n holds fails m t h f breaks continues below (one, between, n1, two, s1, s2, joins) (u, asks, rest) under =
        let a = splits_below last first s n one between n1 t h u breaks continues below s1 asks under in
        let b = splits_below None second between n1 two fails m u h f breaks continues a.1 s2 rest a.2 in
        (joins.1 h.0 (a.0, b.0), b.1, b.2)
    splits_below last (Opposite asked) s n holds fails m t h f breaks continues below splits flow under =
        let a = splits_below last asked s n fails holds m t f h breaks continues below splits flow under in
        (a.1, a.0, a.2)

  -- A body that flows has nothing found against it.
  pub flow_clear : (none : Errors) (body : Code) (failed : List ℕ) (errors : Errors) → WalksBody R Derives Lists labels none body failed errors → IsFlow J Fine (numbered R labels) body → IsClear R Lists Judged Barred failed errors
  flow_clear none body failed errors w (entry, end, enters, flow, fine) =
      let a = walks_below None body w.entry (record { breaks = R.nowhere; continues = R.nowhere; failed = []; errors = none }) w.behind w.found entry end end end (w.begins.1 entry.0 enters) w.walks flow
      (L.nowhere_below end.0, L.nowhere_below end.0, (λ number has. absurd has, λ error has. absurd (w.nothing error has))) in (
        λ number has. a.1.2.0 number (subst (IsIn number) w.is has),
        added Ending w.end end w.found.errors errors (w.ends.1 end.0 (a.0, a.1.0, a.1.1)) w.last fine a.1.2.1,
      )
