-- Each form of a statement by the folds over it: whether it is sound, and what it becomes; whether it is read so; its outline.
use Rattle.std.proofs.Common.{◌≡◌, List, map, Option, Some, None, ap, ◌∙◌}
use Rattle.ix_text.specs.declared.span.Span.{Span}
use Rattle.ix_tree.specs.declared.annot.Ident.{Ident}
use Rattle.ix_tree.specs.declared.decl.LocalDecl.{LocalDecl}
use Rattle.ix_tree.specs.declared.expr.Expr.{Expr}
use Rattle.ix_tree.specs.declared.stmt.Stmt.{Stmt, Stmt-F}
use Rattle.ix_tree.specs.declared.stmt.StmtKind.{StmtKind, StmtKind-F}
use Rattle.ix_tree.specs.declared.stmt.StmtKind.TheVariants as s
use Rattle.ix_tree.proofs.FoldsOfForms as fold
use Rattle.ix_formed.specs.Readable as readable
use Rattle.ix_formed.specs.Readable.{Statement, stmt_shape}
use Rattle.ix_source.specs.SoundStatements as sound
use Rattle.ix_source.specs.SoundStatements.{StatementSoundness, statement_soundness}
use Rattle.ix_guard.specs.Tests.{Site}
use Rattle.ix_guard.specs.Trees.{statement}
use Rattle.ix_guard_promise.specs.Outlines as outlines
use Rattle.ix_guard_promise.specs.Outlines.{Outline, outline}

-- ---- whether it is sound, and what it becomes

sound_as : (kind : StmtKind) (layer : StmtKind-F (Span → StatementSoundness) StatementSoundness) → fold.of_stmt_kind sound.kind_step sound.stmt_step kind ≡ sound.kind_step layer → (span : Span)
    → statement_soundness (statement kind span) ≡ sound.kind_step layer span
sound_as kind layer same span = fold.stmt_is sound.kind_step sound.stmt_step kind span ∙ ap (λ (k : Span → StatementSoundness). k span) same

pub block_sound : (body : List Stmt) (span : Span) → statement_soundness (statement (s.Block body) span) ≡ sound.kind_step (StmtKind-F.Block (map statement_soundness body)) span
block_sound body span = sound_as (s.Block body) (StmtKind-F.Block (map statement_soundness body)) (fold.block_kind sound.kind_step sound.stmt_step body) span

pub empty_sound : (span : Span) → statement_soundness (statement (s.Empty) span) ≡ sound.kind_step (StmtKind-F.Empty) span
empty_sound span = sound_as (s.Empty) (StmtKind-F.Empty) (fold.empty_kind sound.kind_step sound.stmt_step) span

pub local_sound : (decls : List LocalDecl) (span : Span) → statement_soundness (statement (s.Local decls) span) ≡ sound.kind_step (StmtKind-F.Local decls) span
local_sound decls span = sound_as (s.Local decls) (StmtKind-F.Local decls) (fold.local_kind sound.kind_step sound.stmt_step decls) span

pub if_sound : (condition : Expr) (first : Stmt) (span : Span) → statement_soundness (statement (s.If condition first None) span) ≡ sound.kind_step (StmtKind-F.If condition (statement_soundness first) None) span
if_sound condition first span = sound_as (s.If condition first None) (StmtKind-F.If condition (statement_soundness first) None) (fold.if_kind sound.kind_step sound.stmt_step condition first) span

pub if_else_sound : (condition : Expr) (first second : Stmt) (span : Span) → statement_soundness (statement (s.If condition first (Some second)) span) ≡ sound.kind_step (StmtKind-F.If condition (statement_soundness first) (Some (statement_soundness second))) span
if_else_sound condition first second span = sound_as (s.If condition first (Some second)) (StmtKind-F.If condition (statement_soundness first) (Some (statement_soundness second))) (fold.if_else_kind sound.kind_step sound.stmt_step condition first second) span

pub while_sound : (condition : Expr) (turn : Stmt) (span : Span) → statement_soundness (statement (s.While condition turn) span) ≡ sound.kind_step (StmtKind-F.While condition (statement_soundness turn)) span
while_sound condition turn span = sound_as (s.While condition turn) (StmtKind-F.While condition (statement_soundness turn)) (fold.while_kind sound.kind_step sound.stmt_step condition turn) span

pub do_sound : (turn : Stmt) (condition : Expr) (span : Span) → statement_soundness (statement (s.Do turn condition) span) ≡ sound.kind_step (StmtKind-F.Do (statement_soundness turn) condition) span
do_sound turn condition span = sound_as (s.Do turn condition) (StmtKind-F.Do (statement_soundness turn) condition) (fold.do_kind sound.kind_step sound.stmt_step turn condition) span

pub for_sound : (first : List Stmt) (condition : Option Expr) (update : List Expr) (turn : Stmt) (span : Span) → statement_soundness (statement (s.For first condition update turn) span) ≡ sound.kind_step (StmtKind-F.For (map statement_soundness first) condition update (statement_soundness turn)) span
for_sound first condition update turn span = sound_as (s.For first condition update turn) (StmtKind-F.For (map statement_soundness first) condition update (statement_soundness turn)) (fold.for_kind sound.kind_step sound.stmt_step first condition update turn) span

pub break_sound : (span : Span) → statement_soundness (statement (s.Break) span) ≡ sound.kind_step (StmtKind-F.Break) span
break_sound span = sound_as (s.Break) (StmtKind-F.Break) (fold.break_kind sound.kind_step sound.stmt_step) span

pub continue_sound : (span : Span) → statement_soundness (statement (s.Continue) span) ≡ sound.kind_step (StmtKind-F.Continue) span
continue_sound span = sound_as (s.Continue) (StmtKind-F.Continue) (fold.continue_kind sound.kind_step sound.stmt_step) span

pub return_sound : (value : Option Expr) (span : Span) → statement_soundness (statement (s.Return value) span) ≡ sound.kind_step (StmtKind-F.Return value) span
return_sound value span = sound_as (s.Return value) (StmtKind-F.Return value) (fold.return_kind sound.kind_step sound.stmt_step value) span

pub throw_sound : (name : Ident) (span : Span) → statement_soundness (statement (s.Throw name) span) ≡ sound.kind_step (StmtKind-F.Throw name) span
throw_sound name span = sound_as (s.Throw name) (StmtKind-F.Throw name) (fold.throw_kind sound.kind_step sound.stmt_step name) span

pub print_sound : (value : Expr) (span : Span) → statement_soundness (statement (s.Print value) span) ≡ sound.kind_step (StmtKind-F.Print value) span
print_sound value span = sound_as (s.Print value) (StmtKind-F.Print value) (fold.print_kind sound.kind_step sound.stmt_step value) span

pub run_sound : (expr : Expr) (span : Span) → statement_soundness (statement (s.Run expr) span) ≡ sound.kind_step (StmtKind-F.Run expr) span
run_sound expr span = sound_as (s.Run expr) (StmtKind-F.Run expr) (fold.run_kind sound.kind_step sound.stmt_step expr) span

-- ---- whether it is read so

abbrev kind_of : Stmt-F Statement Statement → Statement
kind_of stmt = stmt.kind

shape_as : (kind : StmtKind) (layer : StmtKind-F Statement Statement) → fold.of_stmt_kind readable.stmt_kind_step kind_of kind ≡ readable.stmt_kind_step layer → (span : Span)
    → stmt_shape (statement kind span) ≡ readable.stmt_kind_step layer
shape_as kind layer same span = fold.stmt_is readable.stmt_kind_step kind_of kind span ∙ same

pub block_shape : (body : List Stmt) (span : Span) → stmt_shape (statement (s.Block body) span) ≡ readable.stmt_kind_step (StmtKind-F.Block (map stmt_shape body))
block_shape body span = shape_as (s.Block body) (StmtKind-F.Block (map stmt_shape body)) (fold.block_kind readable.stmt_kind_step kind_of body) span

pub empty_shape : (span : Span) → stmt_shape (statement (s.Empty) span) ≡ readable.stmt_kind_step (StmtKind-F.Empty)
empty_shape span = shape_as (s.Empty) (StmtKind-F.Empty) (fold.empty_kind readable.stmt_kind_step kind_of) span

pub local_shape : (decls : List LocalDecl) (span : Span) → stmt_shape (statement (s.Local decls) span) ≡ readable.stmt_kind_step (StmtKind-F.Local decls)
local_shape decls span = shape_as (s.Local decls) (StmtKind-F.Local decls) (fold.local_kind readable.stmt_kind_step kind_of decls) span

pub if_shape : (condition : Expr) (first : Stmt) (span : Span) → stmt_shape (statement (s.If condition first None) span) ≡ readable.stmt_kind_step (StmtKind-F.If condition (stmt_shape first) None)
if_shape condition first span = shape_as (s.If condition first None) (StmtKind-F.If condition (stmt_shape first) None) (fold.if_kind readable.stmt_kind_step kind_of condition first) span

pub if_else_shape : (condition : Expr) (first second : Stmt) (span : Span) → stmt_shape (statement (s.If condition first (Some second)) span) ≡ readable.stmt_kind_step (StmtKind-F.If condition (stmt_shape first) (Some (stmt_shape second)))
if_else_shape condition first second span = shape_as (s.If condition first (Some second)) (StmtKind-F.If condition (stmt_shape first) (Some (stmt_shape second))) (fold.if_else_kind readable.stmt_kind_step kind_of condition first second) span

pub while_shape : (condition : Expr) (turn : Stmt) (span : Span) → stmt_shape (statement (s.While condition turn) span) ≡ readable.stmt_kind_step (StmtKind-F.While condition (stmt_shape turn))
while_shape condition turn span = shape_as (s.While condition turn) (StmtKind-F.While condition (stmt_shape turn)) (fold.while_kind readable.stmt_kind_step kind_of condition turn) span

pub do_shape : (turn : Stmt) (condition : Expr) (span : Span) → stmt_shape (statement (s.Do turn condition) span) ≡ readable.stmt_kind_step (StmtKind-F.Do (stmt_shape turn) condition)
do_shape turn condition span = shape_as (s.Do turn condition) (StmtKind-F.Do (stmt_shape turn) condition) (fold.do_kind readable.stmt_kind_step kind_of turn condition) span

pub for_shape : (first : List Stmt) (condition : Option Expr) (update : List Expr) (turn : Stmt) (span : Span) → stmt_shape (statement (s.For first condition update turn) span) ≡ readable.stmt_kind_step (StmtKind-F.For (map stmt_shape first) condition update (stmt_shape turn))
for_shape first condition update turn span = shape_as (s.For first condition update turn) (StmtKind-F.For (map stmt_shape first) condition update (stmt_shape turn)) (fold.for_kind readable.stmt_kind_step kind_of first condition update turn) span

pub break_shape : (span : Span) → stmt_shape (statement (s.Break) span) ≡ readable.stmt_kind_step (StmtKind-F.Break)
break_shape span = shape_as (s.Break) (StmtKind-F.Break) (fold.break_kind readable.stmt_kind_step kind_of) span

pub continue_shape : (span : Span) → stmt_shape (statement (s.Continue) span) ≡ readable.stmt_kind_step (StmtKind-F.Continue)
continue_shape span = shape_as (s.Continue) (StmtKind-F.Continue) (fold.continue_kind readable.stmt_kind_step kind_of) span

pub return_shape : (value : Option Expr) (span : Span) → stmt_shape (statement (s.Return value) span) ≡ readable.stmt_kind_step (StmtKind-F.Return value)
return_shape value span = shape_as (s.Return value) (StmtKind-F.Return value) (fold.return_kind readable.stmt_kind_step kind_of value) span

pub throw_shape : (name : Ident) (span : Span) → stmt_shape (statement (s.Throw name) span) ≡ readable.stmt_kind_step (StmtKind-F.Throw name)
throw_shape name span = shape_as (s.Throw name) (StmtKind-F.Throw name) (fold.throw_kind readable.stmt_kind_step kind_of name) span

pub print_shape : (value : Expr) (span : Span) → stmt_shape (statement (s.Print value) span) ≡ readable.stmt_kind_step (StmtKind-F.Print value)
print_shape value span = shape_as (s.Print value) (StmtKind-F.Print value) (fold.print_kind readable.stmt_kind_step kind_of value) span

pub run_shape : (expr : Expr) (span : Span) → stmt_shape (statement (s.Run expr) span) ≡ readable.stmt_kind_step (StmtKind-F.Run expr)
run_shape expr span = shape_as (s.Run expr) (StmtKind-F.Run expr) (fold.run_kind readable.stmt_kind_step kind_of expr) span

-- ---- its outline

module _ (site : Site) where
  outline_as : (kind : StmtKind) (layer : StmtKind-F Outline Outline) → fold.of_stmt_kind (outlines.kind_step site) outlines.stmt_step kind ≡ outlines.kind_step site layer → (span : Span)
      → outline site (statement kind span) ≡ outlines.kind_step site layer
  outline_as kind layer same span = fold.stmt_is (outlines.kind_step site) outlines.stmt_step kind span ∙ same

  pub block_outline : (body : List Stmt) (span : Span) → outline site (statement (s.Block body) span) ≡ outlines.kind_step site (StmtKind-F.Block (map (outline site) body))
  block_outline body span = outline_as (s.Block body) (StmtKind-F.Block (map (outline site) body)) (fold.block_kind (outlines.kind_step site) outlines.stmt_step body) span

  pub empty_outline : (span : Span) → outline site (statement (s.Empty) span) ≡ outlines.kind_step site (StmtKind-F.Empty)
  empty_outline span = outline_as (s.Empty) (StmtKind-F.Empty) (fold.empty_kind (outlines.kind_step site) outlines.stmt_step) span

  pub local_outline : (decls : List LocalDecl) (span : Span) → outline site (statement (s.Local decls) span) ≡ outlines.kind_step site (StmtKind-F.Local decls)
  local_outline decls span = outline_as (s.Local decls) (StmtKind-F.Local decls) (fold.local_kind (outlines.kind_step site) outlines.stmt_step decls) span

  pub if_outline : (condition : Expr) (first : Stmt) (span : Span) → outline site (statement (s.If condition first None) span) ≡ outlines.kind_step site (StmtKind-F.If condition (outline site first) None)
  if_outline condition first span = outline_as (s.If condition first None) (StmtKind-F.If condition (outline site first) None) (fold.if_kind (outlines.kind_step site) outlines.stmt_step condition first) span

  pub if_else_outline : (condition : Expr) (first second : Stmt) (span : Span) → outline site (statement (s.If condition first (Some second)) span) ≡ outlines.kind_step site (StmtKind-F.If condition (outline site first) (Some (outline site second)))
  if_else_outline condition first second span = outline_as (s.If condition first (Some second)) (StmtKind-F.If condition (outline site first) (Some (outline site second))) (fold.if_else_kind (outlines.kind_step site) outlines.stmt_step condition first second) span

  pub while_outline : (condition : Expr) (turn : Stmt) (span : Span) → outline site (statement (s.While condition turn) span) ≡ outlines.kind_step site (StmtKind-F.While condition (outline site turn))
  while_outline condition turn span = outline_as (s.While condition turn) (StmtKind-F.While condition (outline site turn)) (fold.while_kind (outlines.kind_step site) outlines.stmt_step condition turn) span

  pub do_outline : (turn : Stmt) (condition : Expr) (span : Span) → outline site (statement (s.Do turn condition) span) ≡ outlines.kind_step site (StmtKind-F.Do (outline site turn) condition)
  do_outline turn condition span = outline_as (s.Do turn condition) (StmtKind-F.Do (outline site turn) condition) (fold.do_kind (outlines.kind_step site) outlines.stmt_step turn condition) span

  pub for_outline : (first : List Stmt) (condition : Option Expr) (update : List Expr) (turn : Stmt) (span : Span) → outline site (statement (s.For first condition update turn) span) ≡ outlines.kind_step site (StmtKind-F.For (map (outline site) first) condition update (outline site turn))
  for_outline first condition update turn span = outline_as (s.For first condition update turn) (StmtKind-F.For (map (outline site) first) condition update (outline site turn)) (fold.for_kind (outlines.kind_step site) outlines.stmt_step first condition update turn) span

  pub break_outline : (span : Span) → outline site (statement (s.Break) span) ≡ outlines.kind_step site (StmtKind-F.Break)
  break_outline span = outline_as (s.Break) (StmtKind-F.Break) (fold.break_kind (outlines.kind_step site) outlines.stmt_step) span

  pub continue_outline : (span : Span) → outline site (statement (s.Continue) span) ≡ outlines.kind_step site (StmtKind-F.Continue)
  continue_outline span = outline_as (s.Continue) (StmtKind-F.Continue) (fold.continue_kind (outlines.kind_step site) outlines.stmt_step) span

  pub return_outline : (value : Option Expr) (span : Span) → outline site (statement (s.Return value) span) ≡ outlines.kind_step site (StmtKind-F.Return value)
  return_outline value span = outline_as (s.Return value) (StmtKind-F.Return value) (fold.return_kind (outlines.kind_step site) outlines.stmt_step value) span

  pub throw_outline : (name : Ident) (span : Span) → outline site (statement (s.Throw name) span) ≡ outlines.kind_step site (StmtKind-F.Throw name)
  throw_outline name span = outline_as (s.Throw name) (StmtKind-F.Throw name) (fold.throw_kind (outlines.kind_step site) outlines.stmt_step name) span

  pub print_outline : (value : Expr) (span : Span) → outline site (statement (s.Print value) span) ≡ outlines.kind_step site (StmtKind-F.Print value)
  print_outline value span = outline_as (s.Print value) (StmtKind-F.Print value) (fold.print_kind (outlines.kind_step site) outlines.stmt_step value) span

  pub run_outline : (expr : Expr) (span : Span) → outline site (statement (s.Run expr) span) ≡ outlines.kind_step site (StmtKind-F.Run expr)
  run_outline expr span = outline_as (s.Run expr) (StmtKind-F.Run expr) (fold.run_kind (outlines.kind_step site) outlines.stmt_step expr) span
