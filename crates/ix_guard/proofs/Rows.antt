-- Rows: what the definitions answer on small texts.
use Rattle.std.proofs.Common.{◌≡◌, ℕ, ◌+◌, refl, List, [], ◌∷◌, ◌++◌, Some, None, codes}
use Rattle.std.specs.Prelude.{◌==◌, ◌||◌, if◌then◌else◌}
use Rattle.ix_text.specs.declared.span.Span.{Span}
use Rattle.ix_tree.specs.declared.stmt.StmtKind.{StmtKind-F}
use Rattle.ix_core.specs.declared.error.Detail.TheVariants.{Plain}
use Rattle.ix_core.specs.declared.error.Error.{Error}
use Rattle.ix_meaning.specs.declared.note.Meaning.TheVariants.{Local, Param}
use Rattle.ix_tree.specs.declared.expr.BinaryOp.TheVariants.{AndAlso, OrElse}
use Rattle.ix_guard.specs.Accesses.{Access, Parts, operands}
use Rattle.ix_guard.specs.GuardedAccesses.{guarded_of, kind_step}
use Rattle.ix_guard.specs.Tests.{Site, test_of}
use Rattle.ix_guard.specs.Guards.{around, with_texts}

row_test : test_of (codes "a") (codes "i") ≡ codes "if (a == null || i < 0 || i >= a.length) throw new IndexOutOfBoundsException(\"guard\"); "
row_test = refl

-- `x();` at 5, with a test
row_around : with_texts 0 (codes "y(); x();z();") (around (record { from = 5; to = 9 }) (codes "if (b) throw new B(); ")) ≡ codes "y(); { if (b) throw new B(); x(); }z();"
row_around = refl

row_no_tests : with_texts 0 (codes "x();") (around (record { from = 0; to = 4 }) []) ≡ codes "x();"
row_no_tests = refl

-- the right operand of `&&` and `||` may assign, and its accesses aren't always made
row_and : (left right : Parts) → operands AndAlso left right ≡ record { accesses = left.accesses; assigned = left.assigned ++ right.assigned }
row_and left right = refl

row_or : (left right : Parts) → operands OrElse left right ≡ record { accesses = left.accesses; assigned = left.assigned ++ right.assigned }
row_or left right = refl

-- ---- which accesses are guarded: `a[i]` at 0 and again at 5, where `a` is a parameter and `i` a local, with an error at both indices

abbrev letter : ℕ → Span
letter from = record { from = from; to = from + 1 }

abbrev access : ℕ → Access
access from = record { array = record { text = codes "a"; span = letter from }; index = record { text = codes "i"; span = letter (from + 2) } }

abbrev only : List Access → Parts
only accesses = record { accesses = accesses; assigned = [] }

abbrev error : ℕ → Error
error from = record { rule = 1; span = letter from; detail = Plain }

-- The names at 0 and 5 are `a`, and all others `i`.
abbrev site : Site
site = record {
  names = record { meaning = λ span. if span.from == 0 || span.from == 5 then Some (Param 0) else Some (Local 0); type_of = λ span. None; declared = λ span. None };
  errors = error 2 ∷ error 7 ∷ [];
}

-- Two accesses on one pair of variables are both guarded, though one test is made.
row_two : guarded_of site [] (only (access 0 ∷ access 5 ∷ [])) ≡ access 0 ∷ access 5 ∷ []
row_two = refl

-- One in the right operand of `&&` isn't guarded.
row_right_operand : guarded_of site [] (operands AndAlso (only (access 0 ∷ [])) (only (access 5 ∷ []))) ≡ access 0 ∷ []
row_right_operand = refl

-- One whose index the statement assigns isn't guarded.
row_assigned : guarded_of site [] (record { accesses = access 0 ∷ []; assigned = letter 9 ∷ [] }) ≡ []
row_assigned = refl

-- One that is proved isn't guarded: here there is no error at its index.
row_proved : guarded_of (record site { errors = error 7 ∷ [] }) [] (only (access 0 ∷ access 5 ∷ [])) ≡ access 5 ∷ []
row_proved = refl

-- In the head of a `for` none is guarded; those of its body are.
row_head : kind_step site (StmtKind-F.For ((access 0 ∷ []) ∷ []) None [] (access 5 ∷ [])) ≡ access 5 ∷ []
row_head = refl
