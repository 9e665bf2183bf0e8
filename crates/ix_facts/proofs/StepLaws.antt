-- Steps between stores that are said as "above what a rule gives": sound, and their least store is the one that the rule gives.
use Rattle.std.specs.Prelude.{List, [], ◌∷◌}
use Rattle.std.proofs.Common.{inl, inr, sym, subst, ⊎_elim}
use Rattle.ix_core.specs.declared.fact.Fact.{Fact}
use Rattle.ix_core.specs.Numbers.{Numbers}
use Rattle.ix_facts.specs.Facts.{AllHold}
use Rattle.ix_facts.specs.Closure.{Contradicts, SaysAll}
use Rattle.ix_facts.specs.AfterTest.{Outcome, AllSo}
use Rattle.ix_facts.specs.Stores.{Stored, Unreachable, Reached, Meets, IsBelow, IsAbove, IsGiven, Gives, Then, IsStep, IsMonotone, with_outcome, AreTold, none, next, OutcomesGive}
use Rattle.ix_facts.proofs.ClosureLaws.{follows_hold, hold_apart}
use Rattle.ix_facts.proofs.FactLists.{all_hold_each}
use Rattle.ix_facts.proofs.SaidLaws.{said_itself}
use Rattle.ix_facts.proofs.SaidRules.{with_outcome_mono}
use Rattle.ix_facts.proofs.SplitLaws.{outcome_added}
use Rattle.ix_facts.proofs.StoreLaws.{below_itself, below_below, below_meets, follows_says, contradicts_more, store_above, store_least}

contradicted_above : (facts : List Fact) (t : Stored) → Contradicts facts → IsAbove facts t
contradicted_above facts Unreachable c = c
contradicted_above facts (Reached others) c = inl c

above_step : (strong weak : List Fact) (t u : Stored) → SaysAll strong weak → IsAbove weak t → IsBelow t u → IsAbove strong u
above_step strong weak Unreachable u s a b = contradicted_above strong u (contradicts_more strong weak (follows_says strong weak s) a)
above_step strong weak (Reached x) Unreachable s a b = absurd b
above_step strong weak (Reached x) (Reached y) s a b =
    ⊎_elim (λ c. inl (contradicts_more strong weak (follows_says strong weak s) c)) (λ k. inr (λ f said. follows_says strong weak s f (k f (b f said)))) a

pub gives_step : (rule : List Fact → List Fact) → IsMonotone rule → IsStep (Gives rule)
gives_step rule mono Unreachable t u w a g b = tt
gives_step rule mono (Reached x) Unreachable u w a g b = absurd a
gives_step rule mono (Reached x) (Reached y) u w a g b =
    ⊎_elim (λ c. contradicted_above (rule x) w c) (λ s. above_step (rule x) (rule y) u w s g b) (mono x y a)

pub then_step : (First Second : Stored → Stored → Type 0) → IsStep First → IsStep Second → IsStep (Then First Second)
then_step First Second one two s t u w a g b = (g.0, one s t g.0 g.0 a g.1 (below_itself g.0), two g.0 g.0 u w (below_itself g.0) g.2 b)

above_meets : (facts : List Fact) (t : Stored) (v : Numbers) → IsAbove facts t → AllHold facts v → Meets t v
above_meets facts Unreachable v a h = absurd (hold_apart facts v h a)
above_meets facts (Reached x) v a h =
    ⊎_elim (λ c. absurd (hold_apart facts v h c)) (λ k. all_hold_each v x (λ f i. follows_hold facts v h f (k f (said_itself x f i)))) a

pub gives_meets : (rule : List Fact → List Fact) (v w : Numbers) → ((facts : List Fact) → AllHold facts v → AllHold (rule facts) w) → (s t : Stored) → Gives rule s t → Meets s v → Meets t w
gives_meets rule v w sound Unreachable t g m = absurd m
gives_meets rule v w sound (Reached facts) t g m = above_meets (rule facts) t w g (sound facts m)

pub given_gives : (rule : List Fact → List Fact) (s t : Stored) → IsGiven rule s t → Gives rule s t
given_gives rule Unreachable t g = tt
given_gives rule (Reached facts) t g = store_above (rule facts) t g

pub given_least : (rule : List Fact → List Fact) (s t u : Stored) → IsGiven rule s t → Gives rule s u → IsBelow t u
given_least rule Unreachable t u g a = subst (λ x. IsBelow x u) (sym g) tt
given_least rule (Reached facts) t u g a = store_least (rule facts) t u g a

-- ---- outcomes, one after the other

pub outcomes_step : (outcomes : List Outcome) → IsStep (OutcomesGive outcomes)
outcomes_step [] = λ s t u w a g b. below_below s u w (below_below s t u a g) b
outcomes_step (outcome ∷ outcomes) =
    then_step (Gives (with_outcome outcome)) (OutcomesGive outcomes) (gives_step (with_outcome outcome) (with_outcome_mono outcome)) (outcomes_step outcomes)

pub outcomes_meet : (outcomes : List Outcome) (s t : Stored) (v : Numbers) → OutcomesGive outcomes s t → AllSo outcomes v → Meets s v → Meets t v
outcomes_meet [] s t v g so m = below_meets s t v g m
outcomes_meet (outcome ∷ outcomes) s t v g so m =
    outcomes_meet outcomes g.0 t v g.2 so.1 (gives_meets (with_outcome outcome) v v (outcome_added outcome v so.0) s g.0 g.1 m)

pub told_give : (outcomes : List Outcome) (s t : Stored) → AreTold outcomes s t → OutcomesGive outcomes s t
told_give _ s _ (none _) = below_itself s
told_give _ s t (next outcome outcomes _ between _ first rest) = (between, given_gives (with_outcome outcome) s between first, told_give outcomes between t rest)

pub told_least : (outcomes : List Outcome) (s t u : Stored) → AreTold outcomes s t → OutcomesGive outcomes s u → IsBelow t u
told_least _ s _ u (none _) g = g
told_least _ s t u (next outcome outcomes _ between _ first rest) g =
    told_least outcomes between t u rest
    (outcomes_step outcomes between g.0 u u (given_least (with_outcome outcome) s between g.0 first g.1) g.2 (below_itself u))
