-- The arrays that are listed are those of which the facts say that they have a length, each of which has its own.
use Rattle.std.specs.Prelude.{◌⊎◌, List, [], ◌∷◌, ◌++◌, refl}
use Rattle.std.proofs.Common.{inl, inr, sym, subst, ⊎_elim}
use Rattle.ix_core.specs.declared.fact.Path.{Path}
use Rattle.ix_core.specs.declared.fact.Fact.{Fact}
use Rattle.ix_core.specs.declared.fact.Fact.TheVariants.{Rng, LenRng, Low, Same, IsLen, Less, Sum, Search, Neg, Upper}
use Rattle.ix_facts.specs.Facts.{IsIn}
use Rattle.ix_facts.specs.Closure.{Follows}
use Rattle.ix_facts.specs.Closure as closure
use Rattle.ix_facts.specs.Named.{IsAmongPaths}
use Rattle.ix_fact_paths.specs.ByPath.{put_all}
use Rattle.ix_fact_paths.specs.PutLaws.{put_once}
use Rattle.ix_fact_table.specs.Saturated.{AreListed}
use Rattle.ix_fact_table.specs.Listed.{listed_by, all_listed}

left : (p : Path) (a b : List Path) → IsAmongPaths p a → IsAmongPaths p (a ++ b)
left p [] b i = absurd i
left p (q ∷ a) b i = ⊎_elim (λ e. inl e) (λ j. inr (left p a b j)) i

right : (p : Path) (a b : List Path) → IsAmongPaths p b → IsAmongPaths p (a ++ b)
right p [] b i = i
right p (q ∷ a) b i = inr (right p a b i)

either : (p : Path) (a b : List Path) → IsAmongPaths p (a ++ b) → IsAmongPaths p a ⊎ IsAmongPaths p b
either p [] b i = inr i
either p (q ∷ a) b i = ⊎_elim (λ e. inl (inl e)) (λ j. ⊎_elim (λ x. inl (inr x)) (λ y. inr y) (either p a b j)) i

from_fact : (f : Fact) (facts : List Fact) (a : Path) → IsIn f facts → IsAmongPaths a (listed_by f) → IsAmongPaths a (all_listed facts)
from_fact f [] a i j = absurd i
from_fact f (g ∷ facts) a i j =
    ⊎_elim (λ e. left a (listed_by g) (all_listed facts) (subst (λ x. IsAmongPaths a (listed_by x)) e j)) (λ k. right a (listed_by g) (all_listed facts) (from_fact f facts a k j)) i

to_fact : (facts : List Fact) (a : Path) → IsAmongPaths a (all_listed facts) → (f : Fact) × IsIn f facts × IsAmongPaths a (listed_by f)
to_fact [] a i = absurd i
to_fact (g ∷ facts) a i = ⊎_elim (λ j. (g, inl refl, j)) (λ j. let x = to_fact facts a j in (x.0, inr x.1, x.2)) (either a (listed_by g) (all_listed facts) i)

-- an array of which a fact says this has its own length
own_length : (facts : List Fact) (f : Fact) (a : Path) → IsIn f facts → IsAmongPaths a (listed_by f) → Follows facts (Same a a)
own_length facts (Same b c) a i j =
    let r : Follows facts (Same b c) = closure.given (Same b c) i in
    ⊎_elim
    (λ e. subst (λ x. Follows facts (Same x x)) (sym e) (closure.joined b c b r (closure.turned b c r)))
    (λ k. ⊎_elim (λ e. subst (λ x. Follows facts (Same x x)) (sym e) (closure.joined c b c (closure.turned b c r) r)) (λ n. absurd n) k)
    j
own_length facts (IsLen p b) a i j =
    ⊎_elim (λ e. subst (λ x. Follows facts (Same x x)) (sym e) (closure.both_len p b b (closure.given (IsLen p b) i) (closure.given (IsLen p b) i))) (λ n. absurd n) j
own_length facts (Rng p l h) a i j = absurd j
own_length facts (LenRng p l h) a i j = absurd j
own_length facts (Low p c) a i j = absurd j
own_length facts (Less p q c) a i j = absurd j
own_length facts (Sum t y z) a i j = absurd j
own_length facts (Search p b) a i j = absurd j
own_length facts (Neg p b) a i j = absurd j
own_length facts (Upper p b o c) a i j = absurd j

pub are_listed : (facts : List Fact) → AreListed facts (put_all [] (all_listed facts))
are_listed facts =
    let once = put_once (all_listed facts) in
    record {
      left = λ a b i. once.every a (from_fact (Same a b) facts a i (inl refl));
      right = λ a b i. once.every b (from_fact (Same a b) facts b i (inr (inl refl)));
      length = λ p a i. once.every a (from_fact (IsLen p a) facts a i (inl refl));
      only = λ a i. let x = to_fact facts a (once.only a i) in own_length facts x.0 a x.1 x.2;
    }
