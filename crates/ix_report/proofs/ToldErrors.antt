-- What is told of errors starts where they do.
use Rattle.std.proofs.Common.{ℕ, ◌≤◌, Bool, true, false, if◌then◌else◌, List, [], ◌∷◌, ◌++◌}
use Rattle.std.specs.List.{All, list_any}
use Rattle.std.proofs.lemmas.List.Elements.{All-head, All-tail, All-push, All-nil}
use Rattle.ix_core.specs.declared.error.Error.{Error}
use Rattle.ix_core.specs.declared.program.Program.{Program}
use Rattle.ix_meaning.specs.declared.note.NameError.{NameError}
use Rattle.ix_report.specs.Names as names
use Rattle.ix_report.specs.Once.{told_behind}
use Rattle.ix_report.specs.Reports as reports
use Rattle.ix_report.specs.Texts as texts

module _ {A : Type 0} (have_one_line : A → A → Bool) (Q : A → Type 0) where
  with_one : (test : Bool) (before : List A) (error : A) → All Q before → Q error → All Q (if test then before else before ++ error ∷ [])
  with_one true before error kept one = kept
  with_one false before error kept one = All-push Q before error kept one

  told_behind_all : (before errors : List A) → All Q before → All Q errors → All Q (told_behind have_one_line before errors)
  told_behind_all before [] kept all = kept
  told_behind_all before (error ∷ errors) kept all =
      told_behind_all (if list_any (have_one_line error) before then before else before ++ error ∷ []) errors
      (with_one (list_any (have_one_line error) before) before error kept (All-head Q error errors all)) (All-tail Q error errors all)

  told_all : (errors : List A) → All Q errors → All Q (told_behind have_one_line [] errors)
  told_all errors all = told_behind_all [] errors (All-nil Q) all

pub told_start : (program : Program) (end : ℕ) (errors : List Error) → texts.StartWithin end errors → texts.StartWithin end (reports.told program errors)
told_start program end errors start = told_all (reports.have_one_line program) (λ (error : Error). error.span.from ≤ end) errors start

pub told_names_start : (end : ℕ) (errors : List NameError) → names.StartWithin end errors → names.StartWithin end (names.told errors)
told_names_start end errors start = told_all names.have_one_line (λ (error : NameError). error.span.from ≤ end) errors start
