-- A guard's test, run where its names mean variables, throws or changes nothing.
use Rattle.std.proofs.Common.{◌≡◌, ◌⊎◌, inl, inr, ℕ, ◌+◌, Bool, true, false, Option, Some, None, pos, refl, sym, ap, ◌∙◌}
use Rattle.std.proofs.lemmas.Bool.{false≢true}
use Rattle.ix_text.specs.declared.span.Span.{Span}
use Rattle.ix_num.specs.declared.rel.Rel.{Rel}
use Rattle.ix_num.specs.declared.rel.Rel.TheVariants.{Eq, Lt, Ge}
use Rattle.ix_core.specs.declared.claim.Type_.{Type_}
use Rattle.ix_core.specs.declared.claim.Type_.TheVariants as type
use Rattle.ix_core.specs.Heap.{Held, Num, Boolean, Null, At, size_of}
use Rattle.ix_core.specs.Machine.{Ending, Thrown, test_of}
use Rattle.ix_core.specs.Types.{is_array_type}
use Rattle.ix_tree.specs.declared.annot.Ident.{Ident}
use Rattle.ix_tree.specs.declared.expr.Expr.{Expr}
use Rattle.ix_tree.specs.declared.expr.BinaryOp.TheVariants.{Compare, OrElse}
use Rattle.ix_tree.specs.declared.expr.ExprKind.TheVariants as e
use Rattle.ix_tree.specs.declared.stmt.StmtKind.TheVariants as s
use Rattle.ix_meaning.specs.declared.note.Meaning.{Meaning}
use Rattle.ix_meaning.specs.declared.note.Meaning.TheVariants as meaning
use Rattle.ix_meaning.specs.Resolved.{Names}
use Rattle.ix_source.specs.Runs.{Now, Result, Gives, Stops, Action, ◌>>=◌, go_on, gives, stops, held_by}
use Rattle.ix_source.specs.Context.{Context, type_at, or_void}
use Rattle.ix_source.specs.Values.{Evaluation, evaluation, named, name, selected, selection, constant, compared, asks, either, if_not, length_of}
use Rattle.ix_source.specs.Statements.{Completion, Normal, Execution, execution, chosen}
use Rattle.ix_source.proofs.Equations as equations
use Rattle.ix_guard.specs.Accesses.{Access}
use Rattle.ix_guard.specs.Tests.{is_variable}
use Rattle.ix_guard.specs.Trees as tree
use Rattle.ix_guard.specs.Trees.{expression}
use Rattle.ix_guard_text.specs.Moved.{Move}
use Rattle.ix_guard_text.specs.TestParts.{Parts, null_test, negative_test, high_test, condition_of, throw_of, guard_of}
use Rattle.ix_guard_text.specs.GuardedNames.{IsMeant}
use Rattle.ix_guard_promise.specs.Follows.{IsOfGuard}

-- How a test ends: it changes nothing, or its throw stops the run.
pub data Tests (move : Move) (now : Now) : Result Completion → Type 0 where
  passes : Tests move now (Gives Normal now)
  throws : (ending : Ending) → IsOfGuard move ending → Tests move now (Stops ending now)

-- The action only reads, and gives something.
abbrev Reads : {A : Type 0} → Action A → Now → Type 0
Reads {A} action now = (value : A) × (action now ≡ Gives value now)

-- ---- what its parts mean

name_is : (ident : Ident) → evaluation (tree.named ident) ≡ name ident ident.span
name_is ident = equations.expr_is (e.Name ident) ident.span ∙ ap (λ (x : Evaluation). record x { span = ident.span }) (equations.name_kind ident ident.span)

null_is : (span : Span) → evaluation (expression e.Null span) ≡ constant Null span
null_is span = equations.expr_is e.Null span ∙ ap (λ (x : Evaluation). record x { span = span }) (equations.null_kind span)

zero_is : (span : Span) → evaluation (expression (e.Int (pos 0)) span) ≡ constant (Num (pos 0)) span
zero_is span = equations.expr_is (e.Int (pos 0)) span ∙ ap (λ (x : Evaluation). record x { span = span }) (equations.int_kind (pos 0) span)

selection_is : (object : Expr) (ident : Ident) (span : Span) → evaluation (expression (e.Select object ident) span) ≡ selection (evaluation object) ident span
selection_is object ident span = equations.expr_is (e.Select object ident) span ∙ ap (λ (x : Evaluation). record x { span = span }) (equations.select_kind object ident span)

comparison_is : (rel : Rel) (left right : Expr) (span : Span) → evaluation (expression (e.Binary (Compare rel) left right) span) ≡ asks (compared rel (evaluation left) (evaluation right)) span
comparison_is rel left right span = equations.expr_is (e.Binary (Compare rel) left right) span ∙ ap (λ (x : Evaluation). record x { span = span }) (equations.binary_kind (Compare rel) left right span)

either_is : (left right : Expr) (span : Span) → evaluation (tree.either span left right) ≡ asks (either (evaluation left) (evaluation right)) span
either_is left right span = equations.expr_is (e.Binary OrElse left right) span ∙ ap (λ (x : Evaluation). record x { span = span }) (equations.binary_kind OrElse left right span)

-- ---- what they give

name_gives : (context : Context) (span : Span) (m : Option Meaning) (now : Now) → is_variable m ≡ true → named context span m now ≡ Gives (held_by now.variables m) now
name_gives context span (Some (meaning.Local number)) now is = refl
name_gives context span (Some (meaning.Param number)) now is = refl
name_gives context span None now is = refl
name_gives context span (Some _) now is = absurd (false≢true is)

compared_gives : (rel : Rel) (left right : Evaluation) (context : Context) (now : Now) (x y : Held) → left.value context now ≡ Gives x now → right.value context now ≡ Gives y now
    → compared rel left right context now ≡ Gives (test_of (type_at context left.span) rel x y) now
compared_gives rel left right context now x y one two = rw (one, two) refl

-- the second is asked only where the first says no
either_gives : (left right : Evaluation) (context : Context) (now : Now) (answer : Bool) → left.holds context now ≡ Gives answer now → (answer ≡ false → Reads (right.holds context) now)
    → Reads (either left right context) now
either_gives left right context now true one two = (true, rw one refl)
either_gives left right context now false one two = let (answer, e) = two refl in (answer, rw (one, e) refl)

length_gives : (place : ℕ) (held : Held) (now : Now) → (held ≡ Null → ⊥) → length_of place held now ≡ Gives (Num (size_of now.heap held)) now
length_gives place (Num n) now some = refl
length_gives place (Boolean b) now some = refl
length_gives place (At number) now some = refl
length_gives place Null now some = absurd (some refl)

variable_gives : (context : Context) (ident : Ident) (m : Option Meaning) (now : Now) → context.names.meaning ident.span ≡ m → is_variable m ≡ true
    → (name ident ident.span).value context now ≡ Gives (held_by now.variables m) now
variable_gives context ident m now same is = ap (λ (k : Option Meaning). named context ident.span k now) same ∙ name_gives context ident.span m now is

null_is_null : (ty : Type_) → is_array_type ty ≡ true → test_of ty Eq Null Null ≡ true
null_is_null (type.Array of depth element) is = refl
null_is_null (type.Plain of) is = absurd (false≢true is)
null_is_null type.Void is = absurd (false≢true is)

is_it_null : (held : Held) → (held ≡ Null) ⊎ (held ≡ Null → ⊥)
is_it_null Null = inl refl
is_it_null (Num n) = inr (λ e. cc)
is_it_null (Boolean b) = inr (λ e. cc)
is_it_null (At number) = inr (λ e. cc)

-- ---- the statement

throw_is : (parts : Parts) → execution (throw_of parts) ≡ record { declares = 0; run = λ context number. stops (Thrown parts.thrown.text parts.throw.from) }
throw_is parts = equations.stmt_is (s.Throw parts.thrown) parts.throw ∙ equations.throw_kind parts.thrown parts.throw

guard_is : (parts : Parts) → execution (guard_of parts) ≡ record {
  declares = (execution (throw_of parts)).declares + 0;
  run = λ context number. (evaluation (condition_of parts)).holds context >>= (λ answer. chosen answer ((execution (throw_of parts)).run context number) (gives Normal));
}
guard_is parts = equations.stmt_is (s.If (condition_of parts) (throw_of parts) None) parts.whole ∙ equations.if_kind (condition_of parts) (throw_of parts) parts.whole

pub test_declares : (parts : Parts) → (execution (guard_of parts)).declares ≡ 0
test_declares parts = ap (λ (x : Execution). x.declares) (guard_is parts) ∙ ap (λ (x : Execution). x.declares + 0) (throw_is parts)

module _ (move : Move) (context : Context) (names : Names) (access : Access) (parts : Parts) (meant : IsMeant names context.names move access parts)
    (on_array : is_variable (names.meaning access.array.span) ≡ true) (on_index : is_variable (names.meaning access.index.span) ≡ true) (now : Now) where
  abbrev array : Held
  array = held_by now.variables (names.meaning access.array.span)

  abbrev index : Held
  index = held_by now.variables (names.meaning access.index.span)

  null_gives : compared Eq (name parts.null_array parts.null_array.span) (constant Null parts.null) context now ≡ Gives (test_of (type_at context parts.null_array.span) Eq array Null) now
  null_gives = compared_gives Eq (name parts.null_array parts.null_array.span) (constant Null parts.null) context now array Null
      (variable_gives context parts.null_array (names.meaning access.array.span) now meant.null_array on_array) refl

  negative_gives : Reads (compared Lt (name parts.negative_index parts.negative_index.span) (constant (Num (pos 0)) parts.zero) context) now
  negative_gives = (
    test_of (type_at context parts.negative_index.span) Lt index (Num (pos 0)),
    compared_gives Lt (name parts.negative_index parts.negative_index.span) (constant (Num (pos 0)) parts.zero) context now index (Num (pos 0))
        (variable_gives context parts.negative_index (names.meaning access.index.span) now meant.negative_index on_index) refl,
  )

  length_read : (array ≡ Null → ⊥) → (selection (name parts.length_array parts.length_array.span) parts.length parts.selection).value context now ≡ Gives (Num (size_of now.heap array)) now
  length_read some =
      ap (λ (m : Option Meaning). selected (name parts.length_array parts.length_array.span) parts.selection context m now) meant.length
      ∙ ap (go_on (length_of parts.selection.from)) (variable_gives context parts.length_array (names.meaning access.array.span) now meant.length_array on_array)
      ∙ length_gives parts.selection.from array now some

  high_gives : (array ≡ Null → ⊥) → Reads (compared Ge (name parts.high_index parts.high_index.span) (selection (name parts.length_array parts.length_array.span) parts.length parts.selection) context) now
  high_gives some = (
    test_of (type_at context parts.high_index.span) Ge index (Num (size_of now.heap array)),
    compared_gives Ge (name parts.high_index parts.high_index.span) (selection (name parts.length_array parts.length_array.span) parts.length parts.selection) context now index (Num (size_of now.heap array))
        (variable_gives context parts.high_index (names.meaning access.index.span) now meant.high_index on_index) (length_read some),
  )

  -- ---- the whole condition

  null_means : (evaluation (null_test parts)).holds context now ≡ Gives (test_of (type_at context parts.null_array.span) Eq array Null) now
  null_means = rw (comparison_is Eq (tree.named parts.null_array) (expression e.Null parts.null) parts.is_null, name_is parts.null_array, null_is parts.null) null_gives

  negative_means : Reads ((evaluation (negative_test parts)).holds context) now
  negative_means = rw (comparison_is Lt (tree.named parts.negative_index) (expression (e.Int (pos 0)) parts.zero) parts.is_negative, name_is parts.negative_index, zero_is parts.zero) negative_gives

  high_means : (array ≡ Null → ⊥) → Reads ((evaluation (high_test parts)).holds context) now
  high_means some =
      rw (
        comparison_is Ge (tree.named parts.high_index) (expression (e.Select (tree.named parts.length_array) parts.length) parts.selection) parts.is_too_high,
        name_is parts.high_index,
        selection_is (tree.named parts.length_array) parts.length parts.selection,
        name_is parts.length_array,
      ) (high_gives some)

  first_two : Reads ((evaluation (tree.either parts.first_two (null_test parts) (negative_test parts))).holds context) now
  first_two = rw (either_is (null_test parts) (negative_test parts) parts.first_two)
      (either_gives (evaluation (null_test parts)) (evaluation (negative_test parts)) context now _ null_means (λ no. negative_means))

  null_holds : array ≡ Null → test_of (type_at context parts.null_array.span) Eq array Null ≡ true
  null_holds none = ap (λ (t : Option Type_). test_of (or_void t) Eq array Null) meant.array_type ∙ ap (λ h. test_of meant.ty Eq h Null) none ∙ null_is_null meant.ty meant.is_array

  first_of_null : array ≡ Null → (evaluation (tree.either parts.first_two (null_test parts) (negative_test parts))).holds context now ≡ Gives true now
  first_of_null none =
      ap (λ (x : Evaluation). x.holds context now) (either_is (null_test parts) (negative_test parts) parts.first_two)
      ∙ ap (go_on (λ answer. if_not answer ((evaluation (negative_test parts)).holds context))) (null_means ∙ ap (λ b. Gives b now) (null_holds none))

  condition_reads : Reads ((evaluation (condition_of parts)).holds context) now
  condition_reads = rw (either_is (tree.either parts.first_two (null_test parts) (negative_test parts)) (high_test parts) parts.condition) (by (is_it_null array))
    where
      by : (array ≡ Null) ⊎ (array ≡ Null → ⊥) → Reads (either (evaluation (tree.either parts.first_two (null_test parts) (negative_test parts))) (evaluation (high_test parts)) context) now
      by (inl none) = either_gives (evaluation (tree.either parts.first_two (null_test parts) (negative_test parts))) (evaluation (high_test parts)) context now true (first_of_null none)
          (λ no. absurd (false≢true (sym no)))
      by (inr some) = either_gives (evaluation (tree.either parts.first_two (null_test parts) (negative_test parts))) (evaluation (high_test parts)) context now first_two.0 first_two.1 (λ no. high_means some)

  is_of_guard : IsOfGuard move (Thrown parts.thrown.text parts.throw.from)
  is_of_guard = (meant.written.names.thrown, meant.written.new.1.1.1.1.1.1.1.1.1.1.1.1.1.1.0)

  -- Whichever way the test goes.
  pub test_stops : (number : ℕ) → Tests move now ((execution (guard_of parts)).run context number now)
  test_stops number = rw (guard_is parts, throw_is parts, condition_reads.1) (by condition_reads.0)
    where
      by : (answer : Bool) → Tests move now (chosen answer (stops (Thrown parts.thrown.text parts.throw.from)) (gives Normal) now)
      by true = throws (Thrown parts.thrown.text parts.throw.from) is_of_guard
      by false = passes
