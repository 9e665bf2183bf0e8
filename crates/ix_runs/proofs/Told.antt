-- What steps print, where the last of them tells it.
use Rattle.std.proofs.Common.{◌≡◌, ℕ, ◌-◌, ◌≤◌, List, [], ◌∷◌, ◌++◌, append-nil, refl, ap, sym, ◌∙◌, subst, arith}
use Rattle.ix_core.specs.Heap.{Held}
use Rattle.ix_core.specs.Machine.{Limits, State, run, printed}
use Rattle.ix_core.specs.Tables.{Tables}
use Rattle.ix_outside.specs.Outside.{Took, TookPrefix}
use Rattle.ix_runs.specs.Texts.{value_line, value_lines, printed_lines}
use Rattle.ix_runs.proofs.Parts.{prefix_of_more}
use Rattle.ix_runs.proofs.Steps.{line_alone, printed_next}

module _ (limits : Limits) (tables : Tables) (made : ℕ) (state : State) where
  pub tells_nothing : [] ≡ printed limits tables made state → (before : List ℕ) → Took (printed_lines limits tables made state) before before
  tells_nothing is before = sym (ap (λ values. before ++ value_lines values) (sym is) ∙ append-nil before)

  pub tells_value : (value : Held) → value ∷ [] ≡ printed limits tables made state → printed_lines limits tables made state ≡ value_line value
  tells_value value is = ap value_lines (sym is) ∙ line_alone value

  pub taken_value : (value : Held) (before after : List ℕ) → value ∷ [] ≡ printed limits tables made state → Took (value_line value) before after → Took (printed_lines limits tables made state) before after
  taken_value value before after is took = subst (λ (t : List ℕ). Took t before after) (sym (tells_value value is)) took

  lines_of : (most : ℕ) → made ≤ most → printed_lines limits tables most state ≡ printed_lines limits tables made state ++ printed_lines limits tables (most - made) (run limits tables made state)
  lines_of most within = printed_next limits tables most made (most - made) state (run limits tables made state) (omega (arith, within)) refl

  -- no more than what more steps print
  pub taken_prefix : (most : ℕ) (text before after : List ℕ) → made ≤ most → printed_lines limits tables made state ≡ text → TookPrefix text before after → TookPrefix (printed_lines limits tables most state) before after
  taken_prefix most text before after within is took =
      subst (λ (t : List ℕ). TookPrefix t before after) (sym (lines_of most within))
      (prefix_of_more (printed_lines limits tables made state) (printed_lines limits tables (most - made) (run limits tables made state)) before after
      (subst (λ (t : List ℕ). TookPrefix t before after) (sym is) took))
