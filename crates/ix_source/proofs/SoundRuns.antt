-- What a statement becomes is what its soundness says that it becomes.
use Rattle.std.proofs.Common.{◌≡◌, List, [], ◌∷◌, map, Some, None, refl, sym, ap, subst, ◌∙◌}
use Rattle.ix_text.specs.declared.span.Span.{Span}
use Rattle.ix_tree.specs.declared.stmt.Stmt.{Stmt, Stmt-F, ind-Stmt, map-Stmt, roll-Stmt, fold-roll-Stmt}
use Rattle.ix_tree.specs.declared.stmt.StmtKind.{StmtKind, StmtKind-F, map-StmtKind, roll-StmtKind, fold-StmtKind, fold-roll-StmtKind}
use Rattle.ix_plain.specs.Statements as statements
use Rattle.ix_plain.specs.Statements.{Run, Running, statement}
use Rattle.ix_source.specs.SoundStatements as sound
use Rattle.ix_source.specs.SoundStatements.{StatementSoundness, statement_soundness, running_of}

abbrev pub kind_run : StmtKind → Span → Run
kind_run = fold-StmtKind (Span → Run) Running statements.kind_step statements.stmt_step

abbrev pub kind_soundness : StmtKind → Span → StatementSoundness
kind_soundness = fold-StmtKind (Span → StatementSoundness) StatementSoundness sound.kind_step sound.stmt_step

abbrev StmtIs : Stmt → Type 0
StmtIs x = (statement_soundness x).running ≡ statement x

abbrev KindIs : StmtKind → Type 0
KindIs k = (span : Span) → (kind_soundness k span).running ≡ record { span = span; run = kind_run k span }

module _ {K S : Type 0} (kind : K → StmtKind) (stmt : S → Stmt) (stmt_is : (x : S) → StmtIs (stmt x)) where
  lists : (xs : List S) → map running_of (map statement_soundness (map stmt xs)) ≡ map statement (map stmt xs)
  lists [] = refl
  lists (x ∷ xs) = ap (λ r. r ∷ map running_of (map statement_soundness (map stmt xs))) (stmt_is x) ∙ ap (λ rs. statement (stmt x) ∷ rs) (lists xs)

  abbrev Layer : StmtKind-F K S → Type 0
  Layer y = let layer = map-StmtKind K S StmtKind Stmt kind stmt y in (span : Span)
      → sound.kind_run (map-StmtKind StmtKind Stmt (Span → StatementSoundness) StatementSoundness kind_soundness statement_soundness layer) span
      ≡ statements.kind_step (map-StmtKind StmtKind Stmt (Span → Run) Running kind_run statement layer) span

  layer_is : (y : StmtKind-F K S) → Layer y
  layer_is (StmtKind-F.Block xs) span = ap (λ rs. statements.kind_step (StmtKind-F.Block rs) span) (lists xs)
  layer_is StmtKind-F.Empty span = refl
  layer_is (StmtKind-F.Local ds) span = refl
  layer_is (StmtKind-F.If c first None) span = ap (λ r. statements.kind_step (StmtKind-F.If c r None) span) (stmt_is first)
  layer_is (StmtKind-F.If c first (Some second)) span =
      ap (λ r. statements.kind_step (StmtKind-F.If c r (Some (running_of (statement_soundness (stmt second))))) span) (stmt_is first)
      ∙ ap (λ r. statements.kind_step (StmtKind-F.If c (statement (stmt first)) (Some r)) span) (stmt_is second)
  layer_is (StmtKind-F.While c turn) span = ap (λ r. statements.kind_step (StmtKind-F.While c r) span) (stmt_is turn)
  layer_is (StmtKind-F.Do turn c) span = ap (λ r. statements.kind_step (StmtKind-F.Do r c) span) (stmt_is turn)
  layer_is (StmtKind-F.For first c update turn) span =
      ap (λ rs. statements.kind_step (StmtKind-F.For rs c update (running_of (statement_soundness (stmt turn)))) span) (lists first)
      ∙ ap (λ r. statements.kind_step (StmtKind-F.For (map statement (map stmt first)) c update r) span) (stmt_is turn)
  layer_is StmtKind-F.Break span = refl
  layer_is StmtKind-F.Continue span = refl
  layer_is (StmtKind-F.Return value) span = refl
  layer_is (StmtKind-F.Throw ident) span = refl
  layer_is (StmtKind-F.Print e) span = refl
  layer_is (StmtKind-F.Run e) span = refl

  kind_rolled : (y : StmtKind-F K S) → KindIs (roll-StmtKind (map-StmtKind K S StmtKind Stmt kind stmt y))
  kind_rolled y span =
      let layer = map-StmtKind K S StmtKind Stmt kind stmt y in
      let a = fold-roll-StmtKind (Span → StatementSoundness) StatementSoundness sound.kind_step sound.stmt_step layer in
      let b = fold-roll-StmtKind (Span → Run) Running statements.kind_step statements.stmt_step layer in
      ap (λ (f : Span → StatementSoundness). (f span).running) a ∙ ap (with_span span) (layer_is y span ∙ ap (λ (f : Span → Run). f span) (sym b))
    where
      with_span : Span → Run → Running
      with_span span run = record { span = span; run = run }

  stmt_rolled : ((k : K) → KindIs (kind k)) → (y : Stmt-F K S) → StmtIs (roll-Stmt (map-Stmt K S StmtKind Stmt kind stmt y))
  stmt_rolled kind_is y =
      let layer = map-Stmt K S StmtKind Stmt kind stmt y in
      let a = fold-roll-Stmt (Span → StatementSoundness) StatementSoundness sound.kind_step sound.stmt_step layer in
      let b = fold-roll-Stmt (Span → Run) Running statements.kind_step statements.stmt_step layer in
      ap running_of a ∙ kind_is y.kind y.span ∙ sym b

pub running_is : (x : Stmt) → StmtIs x
running_is = ind-Stmt KindIs StmtIs
    (λ x y e. subst (λ layer. KindIs (roll-StmtKind layer)) e (kind_rolled (λ k. k.0) (λ s. s.0) (λ s. s.1) y))
    (λ x y e. subst (λ layer. StmtIs (roll-Stmt layer)) e (stmt_rolled (λ k. k.0) (λ s. s.0) (λ s. s.1) (λ k. k.1) y))

pub runs_are : (xs : List Stmt) → map running_of (map statement_soundness xs) ≡ map statement xs
runs_are [] = refl
runs_are (x ∷ xs) = ap (λ r. r ∷ map running_of (map statement_soundness xs)) (running_is x) ∙ ap (λ rs. statement x ∷ rs) (runs_are xs)
