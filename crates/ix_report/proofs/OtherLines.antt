-- Errors that start at different places have different lines.
use Rattle.std.proofs.Common.{◌≡◌, ℕ, false, ◌&&◌, ◌==◌, ap, arith}
use Rattle.std.specs.Str.{bytes_eq}
use Rattle.std.proofs.lemmas.Bool.Decides.{nat_tests}
use Rattle.ix_core.specs.declared.error.Error.{Error}
use Rattle.ix_core.specs.declared.program.Program.{Program}
use Rattle.ix_meaning.specs.declared.note.NameError.{NameError}
use Rattle.ix_report.specs.Names as names
use Rattle.ix_report.specs.Reports as reports

apart : (from at : ℕ) → (from ≡ at → ⊥) → (from == at) ≡ false
apart from at differ = grind (arith, nat_tests, differ)

pub lines_apart : (program : Program) (one other : Error) → (one.span.from ≡ other.span.from → ⊥) → reports.have_one_line program one other ≡ false
lines_apart program one other differ =
    ap (λ b. b && (one.rule == other.rule && bytes_eq (reports.detail_text program one.detail) (reports.detail_text program other.detail))) (apart one.span.from other.span.from differ)

pub name_lines_apart : (one other : NameError) → (one.span.from ≡ other.span.from → ⊥) → names.have_one_line one other ≡ false
name_lines_apart one other differ = ap (λ b. b && bytes_eq (names.key one.rule) (names.key other.rule)) (apart one.span.from other.span.from differ)
