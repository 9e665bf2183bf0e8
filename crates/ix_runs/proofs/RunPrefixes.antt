-- A prefix of what a run writes.
use Rattle.std.proofs.Common.{◌≡◌, ℕ, Bool, List, ap, subst, ◌∙◌}
use Rattle.ix_core.specs.declared.program.Program.{Program}
use Rattle.ix_core.specs.Machine.{Limits, State, run}
use Rattle.ix_core.specs.Tables.{tables_of}
use Rattle.ix_outside.specs.Outside.{Took, TookPrefix}
use Rattle.ix_report.specs.Outcomes.{last_line}
use Rattle.ix_runs.specs.Texts.{lines_of, run_text}
use Rattle.ix_runs.proofs.Parts.{prefix_of_more, prefix_behind}

-- no more than the lines before the last
pub lines_prefix : (traced : Bool) (program ran : Program) (text : List ℕ) (limits : Limits) (steps : ℕ) (state : State) (before after : List ℕ) → ran ≡ program
    → TookPrefix (lines_of traced text limits (tables_of ran) steps state) before after → TookPrefix (run_text traced program text limits steps state) before after
lines_prefix traced program ran text limits steps state before after is took =
    let last : State = run limits (tables_of program) steps state in
    prefix_of_more (lines_of traced text limits (tables_of program) steps state) (last_line program text steps last.ended last.wrapped) before after
    (subst (λ (p : Program). TookPrefix (lines_of traced text limits (tables_of p) steps state) before after) is took)

-- the lines before the last, and a prefix of that
pub last_prefix : (traced : Bool) (program ran : Program) (text : List ℕ) (limits : Limits) (steps : ℕ) (state last : State) (line before middle after : List ℕ) → ran ≡ program
    → Took (lines_of traced text limits (tables_of ran) steps state) before middle → last ≡ run limits (tables_of ran) steps state → line ≡ last_line program text steps last.ended last.wrapped
    → TookPrefix line middle after → TookPrefix (run_text traced program text limits steps state) before after
last_prefix traced program ran text limits steps state last line before middle after is printed ends line_is part =
    let same : last ≡ run limits (tables_of program) steps state = ends ∙ ap (λ (p : Program). run limits (tables_of p) steps state) is in
    let final : State = run limits (tables_of program) steps state in
    prefix_behind (lines_of traced text limits (tables_of program) steps state) (last_line program text steps final.ended final.wrapped) before middle after
    (subst (λ (p : Program). Took (lines_of traced text limits (tables_of p) steps state) before middle) is printed)
    (subst (λ (s : State). TookPrefix (last_line program text steps s.ended s.wrapped) middle after) same (subst (λ (l : List ℕ). TookPrefix l middle after) line_is part))
