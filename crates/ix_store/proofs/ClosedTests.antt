-- The test whether facts say a fact is right: so facts that are closed by the test are closed.
use Rattle.std.specs.Prelude.{◌≡◌, ◌⊎◌, Bool, true, false, ◌||◌, ◌&&◌, List, [], ◌∷◌, refl}
use Rattle.std.proofs.Common.{inl, inr, subst, ⊎_elim}
use Rattle.std.proofs.lemmas.Bool.{false≢true}
use Rattle.ix_core.specs.declared.fact.Fact.{Fact}
use Rattle.ix_facts.specs.Facts.{IsIn, Covers, is_default, in_orders}
use Rattle.ix_facts.specs.Closure.{Said, Closed}
use Rattle.ix_facts.proofs.SaidLaws.{default_is, is_a_default}
use Rattle.ix_fact_table.specs.FactOrder.{at_key, key_equal}
use Rattle.ix_fact_table.specs.MeetLaws.{covers_key, strong_covers, covers_strong}
use Rattle.ix_store.specs.ClosedFacts.{covers, some_covers, is_said, AreClosed}

both_true : (a b : Bool) → (a && b) ≡ true → (a ≡ true) × (b ≡ true)
both_true true b t = (refl, t)
both_true false b t = absurd (false≢true t)

either_true : (a b : Bool) → (a || b) ≡ true → (a ≡ true) ⊎ (b ≡ true)
either_true true b t = inl refl
either_true false b t = inr t

true_left : (a b : Bool) → a ≡ true → (a || b) ≡ true
true_left a b t = rw t refl

true_right : (a b : Bool) → b ≡ true → (a || b) ≡ true
true_right true b t = refl
true_right false b t = t

covers_true : (g f : Fact) → Covers g f → covers g f ≡ true
covers_true g f c = let same = key_equal g f (covers_key g f c) in rw same (covers_strong g f c)

true_covers : (g f : Fact) → covers g f ≡ true → Covers g f
true_covers g f t = let x = both_true _ _ t in strong_covers g f (at_key g f x.0) x.1

some_true : (facts : List Fact) (g f : Fact) → IsIn g facts → Covers g f → some_covers facts f ≡ true
some_true [] g f i c = absurd i
some_true (h ∷ facts) g f i c =
    ⊎_elim
    (λ e. true_left (covers h f) (some_covers facts f) (covers_true h f (subst (λ x. Covers x f) e c)))
    (λ j. true_right (covers h f) (some_covers facts f) (some_true facts g f j c))
    i

true_some : (facts : List Fact) (f : Fact) → some_covers facts f ≡ true → (g : Fact) × IsIn g facts × Covers g f
true_some [] f t = absurd (false≢true t)
true_some (h ∷ facts) f t =
    ⊎_elim
    (λ u. (h, inl refl, true_covers h f u))
    (λ u. let x = true_some facts f u in (x.0, inr x.1, x.2))
    (either_true (covers h f) (some_covers facts f) t)

said_true : (facts : List Fact) (f : Fact) → Said facts f → is_said facts f ≡ true
said_true facts f said =
    ⊎_elim
    (λ d. true_left (is_default f) (some_covers (in_orders facts) f) (default_is f d))
    (λ x. true_right (is_default f) (some_covers (in_orders facts) f) (some_true (in_orders facts) x.0 f x.1 x.2))
    said

true_said : (facts : List Fact) (f : Fact) → is_said facts f ≡ true → Said facts f
true_said facts f t =
    ⊎_elim (λ u. inl (is_a_default f u)) (λ u. inr (true_some (in_orders facts) f u)) (either_true (is_default f) (some_covers (in_orders facts) f) t)

pub closed_by_test : (facts : List Fact) → Closed facts → AreClosed facts
closed_by_test facts closed f follows = said_true facts f (closed f follows)

pub closed_of_test : (facts : List Fact) → AreClosed facts → Closed facts
closed_of_test facts closed f follows = true_said facts f (closed f follows)
