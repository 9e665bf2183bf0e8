-- The tree of a guard's test, with a place for each of its parts.
use Rattle.std.specs.Prelude.{◌≡◌, ℕ, List, [], ◌∷◌, None, codes, pos}
use Rattle.ix_num.specs.declared.rel.Rel.TheVariants.{Eq, Lt, Ge}
use Rattle.ix_text.specs.declared.span.Span.{Span}
use Rattle.ix_tree.specs.declared.annot.Ident.{Ident}
use Rattle.ix_tree.specs.declared.expr.BinaryOp.TheVariants.{Compare}
use Rattle.ix_tree.specs.declared.expr.Expr.{Expr}
use Rattle.ix_tree.specs.declared.expr.ExprKind.TheVariants as e
use Rattle.ix_tree.specs.declared.stmt.Stmt.{Stmt}
use Rattle.ix_tree.specs.declared.stmt.StmtKind.TheVariants as s
use Rattle.ix_formed.specs.Additions.{AllOf}
use Rattle.ix_guard.specs.Accesses.{Access}
use Rattle.ix_guard.specs.Trees.{expression, statement, named, either}
use Rattle.ix_guard_text.specs.Moved.{Move}

-- ---- `if (array == null || index < 0 || index >= array.length) throw new Thrown(..);`

-- Its names, each occurrence with its own place, and the places of all else in it.
pub record Parts : Type 0 where
  pub null_array : Ident
  pub negative_index : Ident
  pub high_index : Ident
  pub length_array : Ident
  pub length : Ident
  pub thrown : Ident
  pub null : Span
  pub zero : Span
  pub selection : Span
  pub is_null : Span
  pub is_negative : Span
  pub is_too_high : Span
  pub first_two : Span
  pub condition : Span
  pub throw : Span
  pub whole : Span

abbrev pub null_test : Parts → Expr
null_test parts = expression (e.Binary (Compare Eq) (named parts.null_array) (expression e.Null parts.null)) parts.is_null

abbrev pub negative_test : Parts → Expr
negative_test parts = expression (e.Binary (Compare Lt) (named parts.negative_index) (expression (e.Int (pos 0)) parts.zero)) parts.is_negative

abbrev pub high_test : Parts → Expr
high_test parts = expression (e.Binary (Compare Ge) (named parts.high_index) (expression (e.Select (named parts.length_array) parts.length) parts.selection)) parts.is_too_high

-- `array == null || index < 0 || index >= array.length`
abbrev pub condition_of : Parts → Expr
condition_of parts = either parts.condition (either parts.first_two (null_test parts) (negative_test parts)) (high_test parts)

abbrev pub throw_of : Parts → Stmt
throw_of parts = statement (s.Throw parts.thrown) parts.throw

abbrev pub guard_of : Parts → Stmt
guard_of parts = statement (s.If (condition_of parts) (throw_of parts) None) parts.whole

-- ---- which access it tests, and where it stands

-- Its names are those of the access.
pub record HasNames (access : Access) (parts : Parts) : Type 0 where
  pub null_array : parts.null_array.text ≡ access.array.text
  pub negative_index : parts.negative_index.text ≡ access.index.text
  pub high_index : parts.high_index.text ≡ access.index.text
  pub length_array : parts.length_array.text ≡ access.array.text
  pub length : parts.length.text ≡ codes "length"
  pub thrown : parts.thrown.text ≡ codes "IndexOutOfBoundsException"

-- where its parts begin
abbrev pub begins : Parts → List ℕ
begins parts = parts.null_array.span.from ∷ parts.negative_index.span.from ∷ parts.high_index.span.from ∷ parts.length_array.span.from ∷ parts.length.span.from ∷ parts.thrown.span.from
    ∷ parts.null.from ∷ parts.zero.from ∷ parts.selection.from ∷ parts.is_null.from ∷ parts.is_negative.from ∷ parts.is_too_high.from ∷ parts.first_two.from ∷ parts.condition.from
    ∷ parts.throw.from ∷ parts.whole.from ∷ []

-- Nothing of the source begins at that place of the new text.
abbrev pub IsNew : Move → ℕ → Type 0
IsNew move place = (old : ℕ) → move.from old ≡ place → ⊥

-- The test of an access, of which each part is new.
pub record IsWritten (move : Move) (access : Access) (parts : Parts) : Type 0 where
  pub names : HasNames access parts
  pub new : AllOf (IsNew move) (begins parts)
