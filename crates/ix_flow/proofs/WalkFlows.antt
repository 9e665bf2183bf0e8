-- A walk gives a flow with its labels, in which the loops that didn't fail are judged and the errors that it didn't find are barred.
use Rattle.std.proofs.Common.{inl, inr, ℕ, true, false, refl, sym, subst, Option, None, Some, List, []}
use Rattle.ix_core.specs.declared.op.Op.{Op}
use Rattle.ix_core.specs.Code.{Code, End, Do, If, Break, Continue, Return, Throw, Loop, Condition, Known, Compare, Truth, Both, Either, Opposite}
use Rattle.ix_core.specs.Posts.{last_done, written_answer}
use Rattle.ix_flow.specs.Flow.{Point, Doing, Returning, Ending, Rules, RulesLaws, Flows, Asks, IsFlow}
use Rattle.ix_flow.specs.Given.{judging, numbered}
use Rattle.ix_flow.specs.Walk.{Notes, IsIn, Adds, Judges, Walks, Splits, WalksBody}
use Rattle.ix_flow.proofs.WalkBelow.{IsClear, IsUnder}

module _ (R : Rules) (L : RulesLaws R) {E Errors : Type 0} (Derives : Point → R.Store → E → Type 0) (Lists : E → Errors → Type 0) (labels : ℕ → R.Store)
    (Judged : ℕ → Type 0) (Barred : E → Type 0) (Fine : Point → R.Store × ℕ → Type 0)
    (avoids : (point : Point) (s : R.Store) (i : ℕ) → ((error : E) → Derives point s error → Barred error → ⊥) → Fine point (s, i)) where
  abbrev J : Rules
  J = judging R Judged

  abbrev Found : Type 0
  Found = Notes R.Store Errors

  abbrev Walked : Option Op → Code → R.Store → Found → R.Store → Found → Type 0
  Walked = Walks R Derives Lists labels

  abbrev Flowing : Option Op → Code → R.Store × ℕ → R.Store × ℕ → R.Store × ℕ → R.Store × ℕ → Type 0
  Flowing = Flows J Fine (numbered R labels)

  abbrev Under : Found → R.Store × ℕ → R.Store × ℕ → Type 0
  Under n breaks continues = IsUnder R Lists Judged Barred n breaks.0 continues.0

  fine : (point : Point) (s : R.Store) (i : ℕ) (old new : Errors) → Adds R Derives Lists labels point s old new → ((error : E) → Lists error new → Barred error → ⊥) → Fine point (s, i)
  fine point s i old new adds clear = avoids point s i (λ error here. clear error ((adds error).1 (inr here)))

  before : (point : Point) (s : R.Store) (old new : Errors) → Adds R Derives Lists labels point s old new → ((error : E) → Lists error new → Barred error → ⊥) → (error : E) → Lists error old → Barred error → ⊥
  before point s old new adds clear error has = clear error ((adds error).1 (inl has))

  -- of a loop that is judged and didn't fail
  passed : (number scope : ℕ) (entry back : R.Store) (old new : List ℕ) → (judges : Judges R Derives Lists labels number scope entry back old new) → ((loop : ℕ) → IsIn loop new → Judged loop → ⊥)
      → (Judged number → R.Rounded scope judges.0 (labels number)) × ((loop : ℕ) → IsIn loop old → Judged loop → ⊥)
  passed number scope entry back old new (joined, joins, inl (kept, same)) clear = (λ is. kept, λ loop has. clear loop (subst (IsIn loop) (sym same) has))
  passed number scope entry back old new (joined, joins, inr (fails, more)) clear = (λ is. absurd (clear number ((more number).1 (inr refl)) is), λ loop has. clear loop ((more loop).1 (inl has)))

  mutual
    walks_flow : (last : Option Op) (code : Code) (s : R.Store) (n : Found) (e : R.Store) (m : Found) (i : ℕ) (end breaks continues : R.Store × ℕ) → Walked last code s n e m → R.Below e end.0 → Under m breaks continues
        → Flowing last code (s, i) end breaks continues × Under n breaks continues
    walks_flow last End s n e m i end breaks continues (same, notes) below under =
        (subst (λ x. R.Below x end.0) same below, subst (λ x. Under x breaks continues) notes under)
    walks_flow last (Do op code) s n e m i end breaks continues (errors, after, adds, least, rest) below under =
        let r = walks_flow (Some op) code after (record n { errors = errors }) e m 0 end breaks continues rest below under in (
          (fine (Doing op) s i n.errors errors adds r.1.2.1, (after, 0), least.0, r.0),
          (r.1.0, r.1.1, (r.1.2.0, before (Doing op) s n.errors errors adds r.1.2.1)),
        )
    walks_flow last (If asked first second code) s n e m i end breaks continues (holds, fails, n1, one, n2, two, n3, joined, splits, w1, w2, joins, rest) below under =
        let r = walks_flow None code joined n3 e m 0 end breaks continues rest below under in
        let c = walks_flow None second fails n2 two n3 0 (joined, 0) breaks continues w2 joins.0.1 r.1 in
        let b = walks_flow None first holds n1 one n2 0 (joined, 0) breaks continues w1 joins.0.0 c.1 in
        let a = splits_flow last asked s n holds fails n1 i (holds, 0) (fails, 0) breaks continues splits (L.reflexive holds) (L.reflexive fails) b.1 in
        (((holds, 0), (fails, 0), (joined, 0), a.0, b.0, c.0, r.0), a.1)
    walks_flow last (Break code) s n e m i end breaks continues (jumps, joins, rest) below under =
        let r = walks_flow None code R.nowhere (record n { breaks = jumps }) e m 0 end breaks continues rest below under in
        ((L.transitive s jumps breaks.0 joins.0.1 r.1.0, r.0), (L.transitive n.breaks jumps breaks.0 joins.0.0 r.1.0, r.1.1, r.1.2))
    walks_flow last (Continue code) s n e m i end breaks continues (jumps, joins, rest) below under =
        let r = walks_flow None code R.nowhere (record n { continues = jumps }) e m 0 end breaks continues rest below under in
        ((L.transitive s jumps continues.0 joins.0.1 r.1.1, r.0), (r.1.0, L.transitive n.continues jumps continues.0 joins.0.0 r.1.1, r.1.2))
    walks_flow last (Return value span code) s n e m i end breaks continues (errors, adds, rest) below under =
        let r = walks_flow None code R.nowhere (record n { errors = errors }) e m 0 end breaks continues rest below under in
        let point = Returning value (written_answer last value) span in
        ((fine point s i n.errors errors adds r.1.2.1, r.0), (r.1.0, r.1.1, (r.1.2.0, before point s n.errors errors adds r.1.2.1)))
    walks_flow last (Throw name span code) s n e m i end breaks continues rest below under =
        walks_flow None code R.nowhere n e m 0 end breaks continues rest below under
    walks_flow last (Loop true asked body next number scope code) s n e m i end breaks continues (turn, fails, n1, left, done, n2, again, back, n3, failed, splits, leaves, w1, comes, w2, judges, rest) below under =
        let out = n3.breaks in
        let r = walks_flow None code out (record n3 { breaks = n.breaks; failed = failed }) e m 0 end breaks continues rest below under in
        let p = passed number scope s back n3.failed failed judges r.1.2.0 in
        let c = walks_flow None next again (record n2 { continues = n1.continues }) back n3 0 (back, 0) (out, 0) continues w2 (L.reflexive back) (L.reflexive out, r.1.1, (p.1, r.1.2.1)) in
        let b = walks_flow None body turn (record n1 { breaks = left; continues = R.nowhere }) done n2 0 (again, 0) (out, 0) (again, 0) w1 comes.0.1 (c.1.0, comes.0.0, c.1.2) in
        let a = splits_flow None asked (labels number) (record n { breaks = R.nowhere }) turn fails n1 number (turn, 0) (out, 0) (out, 0) continues splits (L.reflexive turn) (L.transitive fails left out leaves.0.1 b.1.0)
        (L.transitive n1.breaks left out leaves.0.0 b.1.0, c.1.1, b.1.2) in
        (((turn, 0), (again, 0), (back, 0), (out, 0), ((judges.0, 0), judges.1.0.0, judges.1.0.1, p.0), a.0, b.0, c.0, r.0), (r.1.0, a.1.1, a.1.2))
    walks_flow last (Loop false asked body next number scope code) s n e m i end breaks continues (done, n1, again, tested, n2, back, fails, n3, left, failed, w1, comes, w2, splits, leaves, judges, rest) below under =
        let r = walks_flow None code left (record n3 { breaks = n.breaks; failed = failed }) e m 0 end breaks continues rest below under in
        let p = passed number scope s back n3.failed failed judges r.1.2.0 in
        let c = splits_flow None asked tested n2 back fails n3 0 (back, 0) (left, 0) (left, 0) continues splits (L.reflexive back) leaves.0.1 (leaves.0.0, r.1.1, (p.1, r.1.2.1)) in
        let b = walks_flow None next again (record n1 { continues = n.continues }) tested n2 0 (tested, 0) (left, 0) continues w2 (L.reflexive tested) c.1 in
        let a = walks_flow None body (labels number) (record n { breaks = R.nowhere; continues = R.nowhere }) done n1 number (again, 0) (left, 0) (again, 0) w1 comes.0.1 (b.1.0, comes.0.0, b.1.2) in
        (((again, 0), (tested, 0), (back, 0), (left, 0), ((judges.0, 0), judges.1.0.0, judges.1.0.1, p.0), a.0, b.0, c.0, r.0), (r.1.0, b.1.1, a.1.2))

    splits_flow : (last : Option Op) (asked : Condition) (s : R.Store) (n : Found) (holds fails : R.Store) (m : Found) (i : ℕ) (h f breaks continues : R.Store × ℕ) → Splits R Derives Lists labels last asked s n holds fails m
        → R.Below holds h.0 → R.Below fails f.0 → Under m breaks continues → Asks J Fine (numbered R labels) last asked (s, i) h f breaks continues × Under n breaks continues
    splits_flow last (Known true) s n holds fails m i h f breaks continues (same, none, notes) so fail under =
        (subst (λ x. R.Below x h.0) same so, subst (λ x. Under x breaks continues) notes under)
    splits_flow last (Known false) s n holds fails m i h f breaks continues (none, same, notes) so fail under =
        (subst (λ x. R.Below x f.0) same fail, subst (λ x. Under x breaks continues) notes under)
    splits_flow last (Compare code test) s n holds fails m i h f breaks continues (after, walks, told, other) so fail under =
        let a = walks_flow last code s n after m i (after, 0) breaks continues walks (L.reflexive after) under in
        (((after, 0), a.0, L.tested true test after after holds h.0 (L.reflexive after) told.0 so, L.tested false test after after fails f.0 (L.reflexive after) other.0 fail), a.1)
    splits_flow last (Truth code slot) s n holds fails m i h f breaks continues (after, walks, told, other) so fail under =
        let a = walks_flow last code s n after m i (after, 0) breaks continues walks (L.reflexive after) under in
        (((after, 0), a.0, L.told true (last_done None code) slot after after holds h.0 (L.reflexive after) told.0 so, L.told false (last_done None code) slot after after fails f.0 (L.reflexive after) other.0 fail), a.1)
    splits_flow last (Both first second) s n holds fails m i h f breaks continues (between, one, n1, two, s1, s2, joins) so fail under =
        let b = splits_flow None second between n1 holds two m 0 h f breaks continues s2 so (L.transitive two fails f.0 joins.0.1 fail) under in
        let a = splits_flow last first s n between one n1 i (between, 0) f breaks continues s1 (L.reflexive between) (L.transitive one fails f.0 joins.0.0 fail) b.1 in
        (((between, 0), a.0, b.0), a.1)
    splits_flow last (Either first second) s n holds fails m i h f breaks continues (one, between, n1, two, s1, s2, joins) so fail under =
        let b = splits_flow None second between n1 two fails m 0 h f breaks continues s2 (L.transitive two holds h.0 joins.0.1 so) fail under in
        let a = splits_flow last first s n one between n1 i h (between, 0) breaks continues s1 (L.transitive one holds h.0 joins.0.0 so) (L.reflexive between) b.1 in
        (((between, 0), a.0, b.0), a.1)
    splits_flow last (Opposite asked) s n holds fails m i h f breaks continues splits so fail under =
        splits_flow last asked s n fails holds m i f h breaks continues splits fail so under

  pub clear_flow : (none : Errors) (body : Code) (failed : List ℕ) (errors : Errors) → WalksBody R Derives Lists labels none body failed errors → IsClear R Lists Judged Barred failed errors → IsFlow J Fine (numbered R labels) body
  clear_flow none body failed errors w clear =
      let r = walks_flow None body w.entry (record { breaks = R.nowhere; continues = R.nowhere; failed = []; errors = none }) w.behind w.found 0 (w.end, 0) (w.end, 0) (w.end, 0) w.walks w.ends.0.0
      (w.ends.0.1, w.ends.0.2, (λ loop has. clear.0 loop (subst (IsIn loop) (sym w.is) has), before Ending w.end w.found.errors errors w.last clear.1)) in
      ((w.entry, 0), (w.end, 0), w.begins.0, r.0, fine Ending w.end 0 w.found.errors errors w.last clear.1)
