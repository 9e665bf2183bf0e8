-- One way of the machine behind another.
use Rattle.std.proofs.Common.{◌≡◌, ◌≤◌, ℕ, zero, suc, ◌+◌, List, [], ◌++◌, refl, sym, ap, subst, ◌∙◌, arith, append_assoc}
use Rattle.std.proofs.lemmas.List.{append-nil}
use Rattle.ix_core.specs.Machine.{State, no_limits, step, run}
use Rattle.ix_core.specs.Tables.{Tables}
use Rattle.ix_core.specs.Traces.{Observation, step_seen}
use Rattle.ix_source.specs.Seen.{seen, Leads, DecidesTask, Decides}

abbrev pub more : ℕ → ℕ → ℕ
more zero m = m
more (suc n) m = suc (more n m)

pub more_is : (n m : ℕ) → more n m ≡ n + m
more_is zero m = omega arith
more_is (suc n) m = let e = more_is n m in omega (arith, e)

pub run_more : (tables : Tables) (n m : ℕ) (s : State) → run no_limits tables (more n m) s ≡ run no_limits tables m (run no_limits tables n s)
run_more tables zero m s = refl
run_more tables (suc n) m s = run_more tables n m (step no_limits tables s)

pub seen_more : (tables : Tables) (n m : ℕ) (s : State) → seen tables (more n m) s ≡ seen tables n s ++ seen tables m (run no_limits tables n s)
seen_more tables zero m s = refl
seen_more tables (suc n) m s =
    let on = step no_limits tables s in
    ap (λ es. step_seen s ++ es) (seen_more tables n m on) ∙ sym (append_assoc (step_seen s) (seen tables n on) (seen tables m (run no_limits tables n on)))

abbrev pub here : (tables : Tables) (s : State) → Leads tables s [] s
here tables s = record { steps = 0; there = refl; shown = refl }

-- a step, and on from where it leads
pub step_then : (tables : Tables) (s to : State) (shows : List Observation) → Leads tables (step no_limits tables s) shows to → Leads tables s (step_seen s ++ shows) to
step_then tables s to shows l = record { steps = suc l.steps; there = l.there; shown = ap (λ es. step_seen s ++ es) l.shown }

abbrev pub one_step : (tables : Tables) (s to : State) → step no_limits tables s ≡ to → Leads tables s (step_seen s) to
one_step tables s to e = record { steps = 1; there = e; shown = append-nil (step_seen s) }

pub both : (tables : Tables) (a b c : State) (first second : List Observation) → Leads tables a first b → Leads tables b second c → Leads tables a (first ++ second) c
both tables a b c first second x y = record {
  steps = more x.steps y.steps;
  there = run_more tables x.steps y.steps a ∙ ap (run no_limits tables y.steps) x.there ∙ y.there;
  shown = seen_more tables x.steps y.steps a ∙ ap (λ s. seen tables x.steps a ++ seen tables y.steps s) x.there
      ∙ ap (λ es. es ++ seen tables y.steps b) x.shown ∙ ap (λ es. first ++ es) y.shown;
}

pub both_longer : (tables : Tables) (a b c : State) (first second : List Observation) (x : Leads tables a first b) (y : Leads tables b second c) → y.steps ≤ (both tables a b c first second x y).steps
unfolding both
both_longer tables a b c first second x y = let e = more_is x.steps y.steps in omega (arith, e)

pub both_adds : (tables : Tables) (a b c : State) (first second : List Observation) (x : Leads tables a first b) (y : Leads tables b second c) → (both tables a b c first second x y).steps ≡ x.steps + y.steps
unfolding both
both_adds tables a b c first second x y = more_is x.steps y.steps

-- What decides by booleans from a state on does so from each that it leads to.
pub decides_from : (tables : Tables) (from to : State) (shows : List Observation) → Leads tables from shows to → Decides tables from → Decides tables to
decides_from tables from to shows l decides steps =
    subst (λ (s : State). DecidesTask s.now.tasks s.now.slots) (run_more tables l.steps steps from ∙ ap (run no_limits tables steps) l.there) (decides (more l.steps steps))
