-- The plain form of every statement keeps its meaning: the induction over all forms.
use Rattle.std.proofs.Common.{◌≡◌, ◌≤◌, ℕ, true, List, [], ◌∷◌, length, map, Some, None, refl, sym, ap, subst, ◌∙◌}
use Rattle.ix_text.specs.declared.span.Span.{Span}
use Rattle.ix_tree.specs.declared.stmt.Stmt.{Stmt, Stmt-F, ind-Stmt, map-Stmt, roll-Stmt, fold-roll-Stmt}
use Rattle.ix_tree.specs.declared.stmt.StmtKind.{StmtKind, StmtKind-F, map-StmtKind, roll-StmtKind, fold-StmtKind, fold-roll-StmtKind}
use Rattle.ix_plain.specs.declared.body.Body.{Body}
use Rattle.ix_plain.specs.Statements as plain
use Rattle.ix_plain.specs.Statements.{Run, Running, statement}
use Rattle.ix_source.specs.Context.{Members, Calls}
use Rattle.ix_source.specs.Statements as source
use Rattle.ix_source.specs.Statements.{Execution, execution}
use Rattle.ix_source.specs.Kept.{Makes}
use Rattle.ix_source.specs.Running.{Ground, Runs}
use Rattle.ix_source.specs.SoundStatements as sound
use Rattle.ix_source.specs.SoundStatements.{StatementSoundness, statement_soundness, running_of, each_sound}
use Rattle.ix_source.specs.Grounds.{Rooted, IsGround, within}
use Rattle.ix_source.proofs.Statements.{runs_nothing}
use Rattle.ix_source.proofs.Simple.{break_runs, continue_runs, throw_runs}
use Rattle.ix_source.proofs.StatementForms.{StatementKept, AllKept, each_kept, block_kept, ran_kept, printed_kept, returned_kept}
use Rattle.ix_source.proofs.Declarations.{declarations_kept}
use Rattle.ix_source.proofs.Choices.{if_kept, if_only_kept, while_kept, do_kept, for_kept}

-- ---- the test of a statement knows its plain form

abbrev kind_run : StmtKind → Span → Run
kind_run = fold-StmtKind (Span → Run) Running plain.kind_step plain.stmt_step

abbrev kind_soundness : StmtKind → Span → StatementSoundness
kind_soundness = fold-StmtKind (Span → StatementSoundness) StatementSoundness sound.kind_step sound.stmt_step

abbrev KindSame : StmtKind → Type 0
KindSame k = (span : Span) → (kind_soundness k span).running ≡ record { span = span; run = kind_run k span }

abbrev StmtSame : Stmt → Type 0
StmtSame s = (statement_soundness s).running ≡ statement s

module _ {K S : Type 0} (kind : K → StmtKind) (stmt : S → Stmt) (same : (s : S) → StmtSame (stmt s)) where
  all_same : (ss : List S) → map running_of (map statement_soundness (map stmt ss)) ≡ map statement (map stmt ss)
  all_same [] = refl
  all_same (s ∷ ss) = ap (λ r. r ∷ map running_of (map statement_soundness (map stmt ss))) (same s) ∙ ap (λ rs. statement (stmt s) ∷ rs) (all_same ss)

  run_same : (y : StmtKind-F K S) (span : Span)
      → plain.kind_step (map-StmtKind (Span → StatementSoundness) StatementSoundness (Span → Run) Running (λ part span. (part span).running.run) running_of (map-StmtKind StmtKind Stmt (Span → StatementSoundness) StatementSoundness kind_soundness statement_soundness (map-StmtKind K S StmtKind Stmt kind stmt y))) span
      ≡ plain.kind_step (map-StmtKind StmtKind Stmt (Span → Run) Running kind_run statement (map-StmtKind K S StmtKind Stmt kind stmt y)) span
  run_same (StmtKind-F.Block ss) span = ap (λ rs. plain.kind_step (StmtKind-F.Block rs) span) (all_same ss)
  run_same StmtKind-F.Empty span = refl
  run_same (StmtKind-F.Local decls) span = refl
  run_same (StmtKind-F.If condition first None) span = ap (λ r. plain.kind_step (StmtKind-F.If condition r None) span) (same first)
  run_same (StmtKind-F.If condition first (Some second)) span =
      ap (λ r. plain.kind_step (StmtKind-F.If condition r (Some (statement_soundness (stmt second)).running)) span) (same first) ∙ ap (λ r. plain.kind_step (StmtKind-F.If condition (statement (stmt first)) (Some r)) span) (same second)
  run_same (StmtKind-F.While condition turn) span = ap (λ r. plain.kind_step (StmtKind-F.While condition r) span) (same turn)
  run_same (StmtKind-F.Do turn condition) span = ap (λ r. plain.kind_step (StmtKind-F.Do r condition) span) (same turn)
  run_same (StmtKind-F.For first condition update turn) span =
      ap (λ rs. plain.kind_step (StmtKind-F.For rs condition update (statement_soundness (stmt turn)).running) span) (all_same first) ∙ ap (λ r. plain.kind_step (StmtKind-F.For (map statement (map stmt first)) condition update r) span) (same turn)
  run_same StmtKind-F.Break span = refl
  run_same StmtKind-F.Continue span = refl
  run_same (StmtKind-F.Return value) span = refl
  run_same (StmtKind-F.Throw name) span = refl
  run_same (StmtKind-F.Print value) span = refl
  run_same (StmtKind-F.Run expr) span = refl

  kind_same : (y : StmtKind-F K S) → KindSame (roll-StmtKind (map-StmtKind K S StmtKind Stmt kind stmt y))
  kind_same y span =
      let layer = map-StmtKind K S StmtKind Stmt kind stmt y in
      let a = fold-roll-StmtKind (Span → Run) Running plain.kind_step plain.stmt_step layer in
      let b = fold-roll-StmtKind (Span → StatementSoundness) StatementSoundness sound.kind_step sound.stmt_step layer in
      ap (λ (q : Span → StatementSoundness). (q span).running) b ∙ ap (λ run. record { span = span; run = run }) (run_same y span) ∙ ap (λ (r : Span → Run). record { span = span; run = r span }) (sym a)

  stmt_same : ((k : K) → KindSame (kind k)) → (y : Stmt-F K S) → StmtSame (roll-Stmt (map-Stmt K S StmtKind Stmt kind stmt y))
  stmt_same kinds y =
      let layer = map-Stmt K S StmtKind Stmt kind stmt y in
      let a = fold-roll-Stmt (Span → Run) Running plain.kind_step plain.stmt_step layer in
      let b = fold-roll-Stmt (Span → StatementSoundness) StatementSoundness sound.kind_step sound.stmt_step layer in
      ap running_of b ∙ kinds y.kind y.span ∙ sym a

pub running_is : (s : Stmt) → StmtSame s
running_is = ind-Stmt KindSame StmtSame
    (λ x y e. subst (λ layer. KindSame (roll-StmtKind layer)) e (kind_same (λ k. k.0) (λ s. s.0) (λ s. s.1) y))
    (λ x y e. subst (λ layer. StmtSame (roll-Stmt layer)) e (stmt_same (λ k. k.0) (λ s. s.0) (λ s. s.1) (λ k. k.1) y))

-- ---- the induction

module _ (g : Ground) (members : Members) (calls : Calls) (turns : ℕ) (ground : IsGround g members calls turns) where
  abbrev Kept : Execution → StatementSoundness → Type 0
  Kept e q = StatementKept g members calls turns ground e q

  abbrev kind_execution : StmtKind → Span → Execution
  kind_execution = fold-StmtKind (Span → Execution) Execution source.kind_step source.stmt_step

  abbrev KindKept : StmtKind → Type 0
  KindKept k = (span : Span) → Kept (kind_execution k span) (kind_soundness k span)

  abbrev StmtKept : Stmt → Type 0
  StmtKept s = Kept (execution s) (statement_soundness s)

  module _ {K S : Type 0} (kind : K → StmtKind) (stmt : S → Stmt) (kept : (s : S) → StmtKept (stmt s)) where
    all_kept : (ss : List S) → AllKept g members calls turns ground (map execution (map stmt ss)) (map statement_soundness (map stmt ss))
    all_kept [] = tt
    all_kept (s ∷ ss) = (kept s, all_kept ss)

    kind_layer : (y : StmtKind-F K S) (span : Span) → Kept (source.kind_step (map-StmtKind StmtKind Stmt (Span → Execution) Execution kind_execution execution (map-StmtKind K S StmtKind Stmt kind stmt y)) span)
        (sound.kind_step (map-StmtKind StmtKind Stmt (Span → StatementSoundness) StatementSoundness kind_soundness statement_soundness (map-StmtKind K S StmtKind Stmt kind stmt y)) span)
    kind_layer (StmtKind-F.Block ss) span end body low rooted is = block_kept g members calls turns ground (map execution (map stmt ss)) (map statement_soundness (map stmt ss)) (all_kept ss) span.to body low rooted is
    kind_layer StmtKind-F.Empty span end body low rooted is = runs_nothing g body low
    kind_layer (StmtKind-F.Local decls) span end body low rooted is = declarations_kept g members calls turns ground decls end body low rooted is
    kind_layer (StmtKind-F.If condition first None) span end body low rooted is =
        if_only_kept g members calls turns ground condition (statement_soundness (stmt first)) (statement_soundness (stmt first)) (execution (stmt first)) (execution (stmt first)) (kept first) (kept first) body low rooted is
    kind_layer (StmtKind-F.If condition first (Some second)) span end body low rooted is =
        if_kept g members calls turns ground condition (statement_soundness (stmt first)) (statement_soundness (stmt second)) (execution (stmt first)) (execution (stmt second)) (kept first) (kept second) body low rooted is
    kind_layer (StmtKind-F.While condition turn) span end body low rooted is = while_kept g members calls turns ground condition (statement_soundness (stmt turn)) (execution (stmt turn)) (kept turn) body low rooted is
    kind_layer (StmtKind-F.Do turn condition) span end body low rooted is = do_kept g members calls turns ground condition (statement_soundness (stmt turn)) (execution (stmt turn)) (kept turn) body low rooted is
    kind_layer (StmtKind-F.For first condition update turn) span end body low rooted is =
        for_kept g members calls turns ground (map execution (map stmt first)) (map statement_soundness (map stmt first)) (all_kept first) condition update (statement_soundness (stmt turn)) (execution (stmt turn)) (kept turn) span.to body low rooted is
    kind_layer StmtKind-F.Break span end body low rooted is = break_runs g body low
    kind_layer StmtKind-F.Continue span end body low rooted is = continue_runs g body low
    kind_layer (StmtKind-F.Return value) span end body low rooted is = returned_kept g members calls turns ground value span body low rooted is
    kind_layer (StmtKind-F.Throw name) span end body low rooted is = throw_runs g body name.text span low
    kind_layer (StmtKind-F.Print value) span end body low rooted is = printed_kept g members calls turns ground value body low rooted is
    kind_layer (StmtKind-F.Run expr) span end body low rooted is = ran_kept g members calls turns ground expr body low rooted is

    kind_rolled : (y : StmtKind-F K S) → KindKept (roll-StmtKind (map-StmtKind K S StmtKind Stmt kind stmt y))
    kind_rolled y span =
        let layer = map-StmtKind K S StmtKind Stmt kind stmt y in
        let a = fold-roll-StmtKind (Span → Execution) Execution source.kind_step source.stmt_step layer in
        let b = fold-roll-StmtKind (Span → StatementSoundness) StatementSoundness sound.kind_step sound.stmt_step layer in
        subst (λ (e : Span → Execution). Kept (e span) (kind_soundness (roll-StmtKind layer) span)) (sym a)
        (subst (λ (q : Span → StatementSoundness). Kept (source.kind_step (map-StmtKind StmtKind Stmt (Span → Execution) Execution kind_execution execution layer) span) (q span)) (sym b) (kind_layer y span))

    stmt_rolled : ((k : K) → KindKept (kind k)) → (y : Stmt-F K S) → StmtKept (roll-Stmt (map-Stmt K S StmtKind Stmt kind stmt y))
    stmt_rolled kinds y =
        let layer = map-Stmt K S StmtKind Stmt kind stmt y in
        let a = fold-roll-Stmt (Span → Execution) Execution source.kind_step source.stmt_step layer in
        let b = fold-roll-Stmt (Span → StatementSoundness) StatementSoundness sound.kind_step sound.stmt_step layer in
        subst (λ (e : Execution). Kept e (statement_soundness (roll-Stmt layer))) (sym a)
        (subst (λ (q : StatementSoundness). Kept (source.stmt_step (map-Stmt StmtKind Stmt (Span → Execution) Execution kind_execution execution layer)) q) (sym b) (kinds y.kind y.span))

  -- Every statement is kept where it is sound.
  pub statement_kept : (s : Stmt) → StmtKept s
  statement_kept = ind-Stmt KindKept StmtKept
      (λ x y e. subst (λ layer. KindKept (roll-StmtKind layer)) e (kind_rolled (λ k. k.0) (λ s. s.0) (λ s. s.1) y))
      (λ x y e. subst (λ layer. StmtKept (roll-Stmt layer)) e (stmt_rolled (λ k. k.0) (λ s. s.0) (λ s. s.1) (λ k. k.1) y))

  all_statements : (ss : List Stmt) → AllKept g members calls turns ground (map execution ss) (map statement_soundness ss)
  all_statements [] = tt
  all_statements (s ∷ ss) = (statement_kept s, all_statements ss)

  all_running : (ss : List Stmt) → map running_of (map statement_soundness ss) ≡ map statement ss
  all_running [] = refl
  all_running (s ∷ ss) = ap (λ r. r ∷ map running_of (map statement_soundness ss)) (running_is s) ∙ ap (λ rs. statement s ∷ rs) (all_running ss)

  -- So are the statements of a body.
  pub statements_kept : (ss : List Stmt) (end : ℕ) (body : Body) → body.made.free ≤ body.most → Rooted g body → each_sound (map statement_soundness ss) g end body ≡ true
      → Makes (λ after. Runs g body after (source.all_declare (map execution ss)) (source.each (map execution ss) (within g members calls turns) (length body.locals))) (plain.each (map statement ss) g.site end body)
  statements_kept ss end body low rooted is =
      subst (λ rs. Makes (λ after. Runs g body after (source.all_declare (map execution ss)) (source.each (map execution ss) (within g members calls turns) (length body.locals))) (plain.each rs g.site end body)) (all_running ss)
      (each_kept g members calls turns ground (map execution ss) (map statement_soundness ss) (all_statements ss) end body low rooted is)
