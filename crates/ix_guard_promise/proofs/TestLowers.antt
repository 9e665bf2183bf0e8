-- The condition of a guard's test becomes a guard's test of its slots.
use Rattle.std.proofs.Common.{◌≡◌, ℕ, ◌+◌, ◌<◌, false, [], pos, refl, sym, ap, subst, ◌∙◌, arith}
use Rattle.std.specs.Prelude.{◌==◌}
use Rattle.std.proofs.lemmas.Bool.Decides.{nat_tests}
use Rattle.ix_text.specs.declared.span.Span.{Span}
use Rattle.ix_num.specs.declared.rel.Rel.TheVariants.{Eq, Lt, Ge}
use Rattle.ix_core.specs.declared.code.Cond.{Cond}
use Rattle.ix_core.specs.declared.code.Cond.TheVariants as cond
use Rattle.ix_core.specs.declared.op.Literal.TheVariants as literal
use Rattle.ix_core.specs.declared.op.OpKind.TheVariants as op
use Rattle.ix_core.specs.Code.{Condition, Either, cond_code}
use Rattle.ix_core.specs.Types.{int_type}
use Rattle.ix_core.proofs.Translated.{cond_code-Either}
use Rattle.ix_tree.specs.declared.expr.ExprKind.TheVariants as e
use Rattle.ix_guard.specs.Accesses.{Access}
use Rattle.ix_guard.specs.Trees.{expression, named, either, is_outside}
use Rattle.ix_formed.specs.Additions.{Makes}
use Rattle.ix_formed.proofs.PlainItems.{makes_then}
use Rattle.ix_plain.specs.Scope.{Scope, type_at}
use Rattle.ix_plain.specs.Parts.{Asked, empty}
use Rattle.ix_plain.specs.Values as values
use Rattle.ix_plain.specs.Values.{Lowering, lowering}
use Rattle.ix_guard_text.specs.TestParts.{Parts, null_test, negative_test, high_test, condition_of}
use Rattle.ix_guard_promise.specs.TestTrees.{Means, parts_at}
use Rattle.ix_guard_promise.specs.TestForms.{Asks}
use Rattle.ix_guard_promise.proofs.PartsLower.{comparison_lowers, either_lowers, name_span, name_value, null_value, zero_value, length_value}
use Rattle.ix_guard_promise.proofs.Comparisons.{Comparison, comparison}

module _ (scope : Scope) (array index : ℕ) (parts : Parts) (nothing : scope.assigned ≡ []) (means : Means scope array index parts) where
  pub null_compared : (free : ℕ)
      → Makes (Comparison Eq array free (type_at scope parts.null_array.span) (op.Const free (literal.NullOf (type_at scope parts.null)))) ((lowering (null_test parts)).condition scope free)
  null_compared free =
      subst (λ (l : Lowering). Makes (Comparison Eq array free (type_at scope parts.null_array.span) (op.Const free (literal.NullOf (type_at scope parts.null)))) (l.condition scope free))
      (sym (comparison_lowers Eq (named parts.null_array) (expression e.Null parts.null) parts.is_null))
      (comparison scope Eq (lowering (named parts.null_array)) (lowering (expression e.Null parts.null)) free array (type_at scope parts.null_array.span) (op.Const free (literal.NullOf (type_at scope parts.null))) parts.null
      (name_value scope array parts.null_array (empty free) nothing means.null_array)
      (ap (type_at scope) (name_span parts.null_array))
      (null_value scope parts.null (empty free)))

  pub negative_compared : (free : ℕ) → Makes (Comparison Lt index free int_type (op.Const free (literal.Int (pos 0)))) ((lowering (negative_test parts)).condition scope free)
  negative_compared free =
      subst (λ (l : Lowering). Makes (Comparison Lt index free int_type (op.Const free (literal.Int (pos 0)))) (l.condition scope free))
      (sym (comparison_lowers Lt (named parts.negative_index) (expression (e.Int (pos 0)) parts.zero) parts.is_negative))
      (comparison scope Lt (lowering (named parts.negative_index)) (lowering (expression (e.Int (pos 0)) parts.zero)) free index int_type (op.Const free (literal.Int (pos 0))) parts.zero
      (name_value scope index parts.negative_index (empty free) nothing means.negative_index)
      (ap (type_at scope) (name_span parts.negative_index) ∙ means.negative_type)
      (zero_value scope parts.zero (empty free)))

  pub high_compared : (free : ℕ) → Makes (Comparison Ge index free int_type (op.Length free array)) ((lowering (high_test parts)).condition scope free)
  high_compared free =
      subst (λ (l : Lowering). Makes (Comparison Ge index free int_type (op.Length free array)) (l.condition scope free))
      (sym (comparison_lowers Ge (named parts.high_index) (expression (e.Select (named parts.length_array) parts.length) parts.selection) parts.is_too_high))
      (comparison scope Ge (lowering (named parts.high_index)) (lowering (expression (e.Select (named parts.length_array) parts.length) parts.selection)) free index int_type (op.Length free array) parts.selection
      (name_value scope index parts.high_index (empty free) nothing means.high_index)
      (ap (type_at scope) (name_span parts.high_index) ∙ means.high_type)
      (length_value scope array parts.length_array parts.length parts.selection (empty free) nothing means.length_array means.length))

  -- ---- the three, one behind the other

  -- the first two
  pub record FirstTwo (free : ℕ) (asked : Asked) : Type 0 where
    pub null_asked : Asked
    pub negative_asked : Asked
    pub form : asked.cond ≡ cond.Either null_asked.cond negative_asked.cond
    pub null_compares : Comparison Eq array free (type_at scope parts.null_array.span) (op.Const free (literal.NullOf (type_at scope parts.null))) null_asked
    pub negative_compares : Comparison Lt index (free + 1) int_type (op.Const (free + 1) (literal.Int (pos 0))) negative_asked
    pub behind : asked.free ≡ free + 2

  pub first_two : (free : ℕ) → Makes (FirstTwo free) (values.either (lowering (null_test parts)) (lowering (negative_test parts)) scope free)
  first_two free =
      makes_then (Comparison Eq array free (type_at scope parts.null_array.span) (op.Const free (literal.NullOf (type_at scope parts.null)))) (FirstTwo free) ((lowering (null_test parts)).condition scope free) _ (null_compared free)
      (λ one a. makes_then (Comparison Lt index (free + 1) int_type (op.Const (free + 1) (literal.Int (pos 0)))) (FirstTwo free) ((lowering (negative_test parts)).condition scope one.free) _
      (subst (λ n. Makes (Comparison Lt index (free + 1) int_type (op.Const (free + 1) (literal.Int (pos 0)))) ((lowering (negative_test parts)).condition scope n)) (sym a.behind) (negative_compared (free + 1)))
      (λ two b. record { null_asked = one; negative_asked = two; form = refl; null_compares = a; negative_compares = b; behind = (let e = b.behind in omega (arith, e)) }))

  index_apart : (free : ℕ) → index < free → (index == free + 2) ≡ false
  index_apart free below = grind (arith, nat_tests)

  whole_form : (left one two three : Cond) (c d f : Condition) → left ≡ cond.Either one two → cond_code one ≡ c → cond_code two ≡ d → cond_code three ≡ f
      → cond_code (cond.Either left three) ≡ Either (Either c d) f
  whole_form left one two three c d f is x y z = ap (λ l. cond_code (cond.Either l three)) is ∙ cond_code-Either (cond.Either one two) three
      ∙ ap (λ l. Either l (cond_code three)) (cond_code-Either one two)
      ∙ ap (λ a. Either (Either a (cond_code two)) (cond_code three)) x ∙ ap (λ a. Either (Either c a) (cond_code three)) y ∙ ap (Either (Either c d)) z

  three : (free : ℕ) (first last : Asked) → index < free → FirstTwo free first → Comparison Ge index (free + 2) int_type (op.Length (free + 2) array) last
      → Asks array index free (record { cond = cond.Either first.cond last.cond; free = last.free })
  three free first last below two high = record {
    tests = record {
      null_op = two.null_compares.op;
      zero_op = two.negative_compares.op;
      length_op = high.op;
      is_null = two.null_compares.test;
      is_negative = two.negative_compares.test;
      is_too_high = high.test;
      form = whole_form first.cond two.null_asked.cond two.negative_asked.cond last.cond _ _ _ two.form two.null_compares.form two.negative_compares.form high.form;
      is_test = record {
        null_slot = free;
        zero_slot = free + 1;
        length_slot = free + 2;
        ty = type_at scope parts.null_array.span;
        null_type = type_at scope parts.null;
        makes_null = two.null_compares.makes;
        makes_zero = two.negative_compares.makes;
        makes_length = high.makes;
        asks_null = two.null_compares.asks;
        asks_negative = two.negative_compares.asks;
        asks_too_high = high.asks;
        apart = index_apart free below;
      };
      takes_null = refl;
      takes_zero = refl;
      takes_length = refl;
    };
    behind = (let e = high.behind in omega (arith, e));
  }

  pub test_lowers : (free : ℕ) → index < free → Makes (Asks array index free) ((lowering (condition_of parts)).condition scope free)
  test_lowers free below =
      subst (λ (l : Lowering). Makes (Asks array index free) (l.condition scope free)) (sym (either_lowers (either parts.first_two (null_test parts) (negative_test parts)) (high_test parts) parts.condition))
      (makes_then (FirstTwo free) (Asks array index free) ((lowering (either parts.first_two (null_test parts) (negative_test parts))).condition scope free) _
      (subst (λ (l : Lowering). Makes (FirstTwo free) (l.condition scope free)) (sym (either_lowers (null_test parts) (negative_test parts) parts.first_two)) (first_two free))
      (λ first a. makes_then (Comparison Ge index (free + 2) int_type (op.Length (free + 2) array)) (Asks array index free) ((lowering (high_test parts)).condition scope first.free) _
      (subst (λ n. Makes (Comparison Ge index (free + 2) int_type (op.Length (free + 2) array)) ((lowering (high_test parts)).condition scope n)) (sym a.behind) (high_compared (free + 2)))
      (λ last b. three free first last below a b)))

-- as it stands in a guarded tree
pub outside_lowers : (scope : Scope) (array index : ℕ) (span : Span) (access : Access) → scope.assigned ≡ [] → Means scope array index (parts_at span access)
    → (free : ℕ) → index < free → Makes (Asks array index free) ((lowering (is_outside span access)).condition scope free)
outside_lowers scope array index span access nothing means free below = test_lowers scope array index (parts_at span access) nothing means free below
