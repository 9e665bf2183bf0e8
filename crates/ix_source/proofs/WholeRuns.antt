-- Whole runs: the machine's steps are determined, and a state that has ended stays.
use Rattle.std.proofs.Common.{◌≡◌, ◌≤◌, ◌⊎◌, inl, inr, ℕ, zero, suc, List, [], ◌++◌, Option, Some, None, refl, sym, ap, ◌∙◌, arith}
use Rattle.std.proofs.lemmas.List.{append-nil}
use Rattle.ix_core.specs.Machine.{Ending, State, no_limits, step, step_from, run}
use Rattle.ix_core.specs.Tables.{Tables}
use Rattle.ix_core.specs.Traces.{Observation, seen_from}
use Rattle.ix_source.specs.Source.{Shown}
use Rattle.ix_source.specs.Seen.{seen}
use Rattle.ix_source.specs.Whole.{Same, BeginsWith, Keeps, Meets}
use Rattle.ix_source.proofs.Paths.{more, run_more, seen_more}

some_none : {G : Type 0} (e : Ending) → Some e ≡ None → G
some_none e is = absurd (cc is)

some_same : (a b : Ending) → Some a ≡ Some b → a ≡ b
some_same a b e = cc e

module _ (tables : Tables) where
  ended_steps : (s : State) (e : Ending) → s.ended ≡ Some e → step no_limits tables s ≡ s
  ended_steps s e is = ap (λ ended. step_from no_limits tables ended s) is

  pub ended_stays : (k : ℕ) (s : State) (e : Ending) → s.ended ≡ Some e → run no_limits tables k s ≡ s
  ended_stays zero s e is = refl
  ended_stays (suc k) s e is = ap (run no_limits tables k) (ended_steps s e is) ∙ ended_stays k s e is

  pub ended_shows : (k : ℕ) (s : State) (e : Ending) → s.ended ≡ Some e → seen tables k s ≡ []
  ended_shows zero s e is = refl
  ended_shows (suc k) s e is = ap (λ ended. seen_from ended s ++ seen tables k (step no_limits tables s)) is ∙ ap (seen tables k) (ended_steps s e is) ∙ ended_shows k s e is

  less : ℕ → ℕ → ℕ
  less a zero = a
  less zero (suc b) = zero
  less (suc a) (suc b) = less a b

  rest_of : (a b : ℕ) → a ≤ b → (k : ℕ) × (b ≡ more a k)
  rest_of zero b le = (b, refl)
  rest_of (suc a) zero le = absurd (omega (arith, le))
  rest_of (suc a) (suc b) le = let (k, e) = rest_of a b (omega (arith, le)) in (k, ap suc e)

  -- later steps from a state that ended change nothing
  same_end : (start : State) (a b : ℕ) (e : Ending) → a ≤ b → (run no_limits tables a start).ended ≡ Some e → (run no_limits tables b start ≡ run no_limits tables a start) × (seen tables b start ≡ seen tables a start)
  same_end start a b e le is =
      let (k, b_is) = rest_of a b le in
      let there = run no_limits tables a start in (
        ap (λ n. run no_limits tables n start) b_is ∙ run_more tables a k start ∙ ended_stays k there e is,
        ap (λ n. seen tables n start) b_is ∙ seen_more tables a k start ∙ ap (λ es. seen tables a start ++ es) (ended_shows k there e is) ∙ append-nil (seen tables a start),
      )

  begins_later : (start : State) (a b : ℕ) → a ≤ b → (rest : List Observation) × (seen tables b start ≡ seen tables a start ++ rest)
  begins_later start a b le = let (k, b_is) = rest_of a b le in (seen tables k (run no_limits tables a start), ap (λ n. seen tables n start) b_is ∙ seen_more tables a k start)

  either_way : (a b : ℕ) → (a ≤ b) ⊎ (b ≤ a)
  either_way a b = grind arith

  module _ (start : State) (source : ℕ → Shown) (meets : (n : ℕ) → Meets tables start source n (source n).ending) where
    from_source : (n : ℕ) (ending : Ending) → (source n).ending ≡ Some ending → (steps : ℕ) × Same tables start source steps n ending
    from_source n ending is = let m = meets n in (m.steps, record { ended = m.ended ∙ is; source_ended = is; wrapped = m.wrapped; shown = m.shown })

    -- the source ended too, since it would else have made more steps
    machine_at : (steps : ℕ) (ending : Ending) → (run no_limits tables steps start).ended ≡ Some ending → (found : Option Ending) → found ≡ (source (suc steps)).ending → Same tables start source steps (suc steps) ending
    machine_at steps ending is None none =
        let m = meets (suc steps) in
        let far : suc steps ≤ m.steps = m.far (sym none) in
        let there = same_end start steps m.steps ending (omega (arith, far)) is in
        some_none ending (sym is ∙ ap (λ (s : State). s.ended) (sym there.0) ∙ m.ended ∙ sym none)
    machine_at steps ending is (Some found) some =
        let m = meets (suc steps) in
        let m_ended : (run no_limits tables m.steps start).ended ≡ Some found = m.ended ∙ sym some in
        go m m_ended (either_way steps m.steps)
      where
        go : (m : Meets tables start source (suc steps) (source (suc steps)).ending) → (run no_limits tables m.steps start).ended ≡ Some found → (steps ≤ m.steps) ⊎ (m.steps ≤ steps) → Same tables start source steps (suc steps) ending
        go m m_ended (inl le) =
            let there = same_end start steps m.steps ending le is in
            record { ended = is; source_ended = sym some ∙ (sym m_ended ∙ ap (λ (s : State). s.ended) there.0 ∙ is); wrapped = ap (λ (s : State). s.wrapped) (sym there.0) ∙ m.wrapped; shown = sym there.1 ∙ m.shown }
        go m m_ended (inr le) =
            let there = same_end start m.steps steps found le m_ended in
            record { ended = is; source_ended = sym some ∙ (sym m_ended ∙ ap (λ (s : State). s.ended) (sym there.0) ∙ is); wrapped = ap (λ (s : State). s.wrapped) there.0 ∙ m.wrapped; shown = there.1 ∙ m.shown }

    shown_at : (steps : ℕ) (found : Option Ending) → found ≡ (source (suc steps)).ending → BeginsWith (source (suc steps)).events (seen tables steps start)
    shown_at steps None none =
        let m = meets (suc steps) in
        let far : suc steps ≤ m.steps = m.far (sym none) in
        let (rest, is) = begins_later start steps m.steps (omega (arith, far)) in
        record { rest = rest; is = sym m.shown ∙ is }
    shown_at steps (Some found) some = let m = meets (suc steps) in go m (m.ended ∙ sym some) (either_way steps m.steps)
      where
        go : (m : Meets tables start source (suc steps) (source (suc steps)).ending) → (run no_limits tables m.steps start).ended ≡ Some found → (steps ≤ m.steps) ⊎ (m.steps ≤ steps) → BeginsWith (source (suc steps)).events (seen tables steps start)
        go m m_ended (inl le) = let (rest, is) = begins_later start steps m.steps le in record { rest = rest; is = sym m.shown ∙ is }
        go m m_ended (inr le) = let there = same_end start m.steps steps found le m_ended in record { rest = []; is = sym m.shown ∙ sym there.1 ∙ sym (append-nil (seen tables steps start)) }

    -- What lowering keeps follows from the simulation.
    pub keeps : Keeps tables start source
    keeps = record {
      of_source = from_source;
      of_machine = λ steps ending is. (suc steps, machine_at steps ending is (source (suc steps)).ending refl);
      shown_first = λ steps. (suc steps, shown_at steps (source (suc steps)).ending refl);
      source_first = λ n. let m = meets n in (m.steps, record { rest = []; is = m.shown ∙ sym (append-nil (source n).events) });
    }
