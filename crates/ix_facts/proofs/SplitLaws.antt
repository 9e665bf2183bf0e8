-- What tests and conditions leave: sound of outcomes, closed, and monotone.
use Rattle.std.specs.Prelude.{List}
use Rattle.ix_core.specs.declared.fact.Fact.{Fact}
use Rattle.ix_core.specs.declared.fact.PathClaim.{PathClaim}
use Rattle.ix_core.specs.declared.fact.Path.{Path}
use Rattle.ix_core.specs.declared.fact.Profile.{Profile}
use Rattle.ix_core.specs.declared.op.OpKind.{OpKind}
use Rattle.ix_core.specs.Code.{Code, Condition}
use Rattle.ix_core.specs.Numbers.{Numbers}
use Rattle.ix_facts.specs.Facts.{AllHold, in_orders}
use Rattle.ix_facts.specs.Closure.{kept}
use Rattle.ix_facts.specs.After.{Step, TargetApart}
use Rattle.ix_facts.specs.AfterTest.{Outcome, IsSo, AllSo, outcome_facts}
use Rattle.ix_facts.specs.Stores.{Stored, Unreachable, Reached, Meets, IsBelow, IsClosedStore, IsAfter, IsProved, operated, with_outcome, AreTold, none, next, Splits, yes, no, compared, truth, and, or, opposite}
use Rattle.ix_facts.proofs.AfterLaws.{after_hold}
use Rattle.ix_facts.proofs.BoundsHold.{in_orders_hold}
use Rattle.ix_facts.proofs.ClosureLaws.{kept_hold}
use Rattle.ix_facts.proofs.FactLists.{all_hold_app}
use Rattle.ix_facts.proofs.SaidRules.{with_outcome_mono, proves_says}
use Rattle.ix_facts.proofs.StoreLaws.{given_closed, given_mono, given_meets, joined_closed, joined_mono}
use Rattle.ix_facts.proofs.TestLaws.{outcome_holds}

pub after_meets : (profile : Profile) (kind : OpKind) (v w : Numbers) → TargetApart kind → Step profile kind v w → (s t : Stored) → IsAfter profile kind s t → Meets s v → Meets t w
after_meets profile kind v w apart step s t g m = given_meets (operated profile kind) v w (λ facts h. after_hold profile kind facts v w apart step h) s t g m

pub proved_mono : (claim : PathClaim) (p : Path) (s t : Stored) → IsBelow s t → IsProved claim p t → IsProved claim p s
proved_mono claim p Unreachable t a b = tt
proved_mono claim p (Reached x) Unreachable a b = absurd a
proved_mono claim p (Reached x) (Reached y) a b = proves_says x y claim p a b

pub outcome_added : (outcome : Outcome) (v : Numbers) → IsSo outcome v → (facts : List Fact) → AllHold facts v → AllHold (with_outcome outcome facts) v
outcome_added outcome v so facts h =
    all_hold_app v facts (kept (outcome_facts (in_orders facts) outcome)) h
    (kept_hold v (outcome_facts (in_orders facts) outcome) (outcome_holds v (in_orders facts) (in_orders_hold v facts h) outcome so))

pub told_meets : (outcomes : List Outcome) (s t : Stored) (v : Numbers) → AreTold outcomes s t → AllSo outcomes v → Meets s v → Meets t v
told_meets _ s _ v (none _) so m = m
told_meets _ s t v (next outcome outcomes _ between _ first rest) so m =
    told_meets outcomes between t v rest so.1 (given_meets (with_outcome outcome) v v (outcome_added outcome v so.0) s between first m)

pub told_mono : (outcomes : List Outcome) (s t u w : Stored) → IsBelow s t → AreTold outcomes s u → AreTold outcomes t w → IsBelow u w
told_mono _ s t _ _ a (none _) (none _) = a
told_mono _ s t u w a (next outcome outcomes _ left _ first rest) (next _ _ _ right _ other others) =
    told_mono outcomes left right u w (given_mono (with_outcome outcome) (with_outcome_mono outcome) s t left right a first other) rest others

told_closed : (outcomes : List Outcome) (s t : Stored) → AreTold outcomes s t → IsClosedStore s → IsClosedStore t
told_closed _ s _ (none _) c = c
told_closed _ s t (next outcome outcomes _ between _ first rest) c = told_closed outcomes between t rest (given_closed (with_outcome outcome) s between first)

module _ (Runs : Code → Stored → Stored → Type 0) (kept_closed : (code : Code) (s t : Stored) → Runs code s t → IsClosedStore s → IsClosedStore t) where
  pub split_closed : (asked : Condition) (s holds fails : Stored) → Splits Runs asked s holds fails → IsClosedStore s → IsClosedStore holds × IsClosedStore fails
  split_closed _ s _ _ (yes _) c = (c, tt)
  split_closed _ s _ _ (no _) c = (tt, c)
  split_closed _ s h f (compared block test _ between _ _ run first second) c =
      let m = kept_closed block s between run c in
      (told_closed _ between h first m, told_closed _ between f second m)
  split_closed _ s _ _ (truth block slot _ between run) c = let m = kept_closed block s between run c in (m, m)
  split_closed _ s h j (and first second _ between _ fails later _ x y join) c =
      let a = split_closed first s between fails x c in
      let b = split_closed second between h later y a.0 in
      (b.0, joined_closed fails later j join a.1 b.1)
  split_closed _ s j f (or first second _ between holds _ later _ x y join) c =
      let a = split_closed first s holds between x c in
      let b = split_closed second between later f y a.1 in
      (joined_closed holds later j join a.0 b.0, b.1)
  split_closed _ s h f (opposite asked _ _ _ x) c = let a = split_closed asked s f h x c in (a.1, a.0)

  module _ (runs_mono : (code : Code) (s t u w : Stored) → IsBelow s t → Runs code s u → Runs code t w → IsBelow u w) where
    pub split_mono : (asked : Condition) (s t a b c d : Stored) → IsClosedStore t → IsBelow s t → Splits Runs asked s a b → Splits Runs asked t c d → IsBelow a c × IsBelow b d
    split_mono _ s t _ _ _ _ k u (yes _) (yes _) = (u, tt)
    split_mono _ s t _ _ _ _ k u (no _) (no _) = (tt, u)
    split_mono _ s t a b c d k u (compared block test _ m _ _ run first second) (compared _ _ _ n _ _ ran third fourth) =
        let x = runs_mono block s t m n u run ran in
        (told_mono _ m n a c x first third, told_mono _ m n b d x second fourth)
    split_mono _ s t _ _ _ _ k u (truth block slot _ m run) (truth _ _ _ n ran) = let x = runs_mono block s t m n u run ran in (x, x)
    split_mono _ s t a b c d k u (and first second _ m _ fails later _ x y join) (and _ _ _ n _ failed last _ z w joined) =
        let closed = split_closed first t n failed z k in
        let one = split_mono first s t m fails n failed k u x z in
        let two = split_mono second m n a later c last closed.0 one.0 y w in
        let closing = split_closed second n c last w closed.0 in
        (two.0, joined_mono fails later b failed last d join joined closed.1 closing.1 one.1 two.1)
    split_mono _ s t a b c d k u (or first second _ m holds _ later _ x y join) (or _ _ _ n held _ last _ z w joined) =
        let closed = split_closed first t held n z k in
        let one = split_mono first s t holds m held n k u x z in
        let two = split_mono second m n later b last d closed.1 one.1 y w in
        let closing = split_closed second n last d w closed.1 in
        (joined_mono holds later a held last c join joined closed.0 closing.0 one.0 two.0, two.1)
    split_mono _ s t a b c d k u (opposite asked _ _ _ x) (opposite _ _ _ _ y) = let z = split_mono asked s t b a d c k u x y in (z.1, z.0)
