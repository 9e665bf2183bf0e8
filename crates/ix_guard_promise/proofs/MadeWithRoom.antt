-- With room for three slots more a guard's test is made.
use Rattle.std.proofs.Common.{◌≡◌, ◌≤◌, ℕ, ◌+◌, ◌<◌, true, [], pos, None, Ok, Err, Result, refl, sym, subst, arith}
use Rattle.std.specs.Prelude.{nat_lt}
use Rattle.std.proofs.lemmas.Bool.Decides.{nat_tests}
use Rattle.ix_num.specs.declared.rel.Rel.TheVariants.{Eq, Lt, Ge}
use Rattle.ix_core.specs.declared.op.Literal.TheVariants as literal
use Rattle.ix_core.specs.declared.op.OpKind.TheVariants as op
use Rattle.ix_core.specs.Types.{int_type}
use Rattle.ix_tree.specs.declared.expr.ExprKind.TheVariants as e
use Rattle.ix_guard.specs.Trees.{expression, named, either}
use Rattle.ix_formed.specs.Additions.{Makes}
use Rattle.ix_plain.specs.declared.body.Body.{Body}
use Rattle.ix_plain.specs.Scope.{Site, Scope, type_at}
use Rattle.ix_plain.specs.Parts.{Asked, ◌>>=◌ as ◌then◌, empty, most_slots}
use Rattle.ix_plain.specs.Assigned.{assigns}
use Rattle.ix_plain.specs.Values as values
use Rattle.ix_plain.specs.Values.{Lowering, lowering}
use Rattle.ix_plain.specs.Statements as statements
use Rattle.ix_plain.specs.Statements.{Running, scope_of, scope_for, tested, chosen}
use Rattle.ix_guard_text.specs.TestParts.{Parts, null_test, negative_test, high_test, condition_of, guard_of}
use Rattle.ix_guard_promise.specs.TestTrees.{Means}
use Rattle.ix_guard_promise.specs.TestForms.{IsMade}
use Rattle.ix_guard_promise.proofs.PartsLower.{comparison_lowers, either_lowers, name_value, null_value, zero_value, length_value}
use Rattle.ix_guard_promise.proofs.Comparisons.{Comparison, comparison_made}
use Rattle.ix_guard_promise.proofs.TestLowers.{FirstTwo, null_compared, negative_compared, first_two}
use Rattle.ix_guard_promise.proofs.GuardLowers.{IsAsked, scope_is, asked_is, throw_lowers, choice_lowers}

made_then : {A B E : Type 0} (P : A → Type 0) (r : Result A E) (next : A → Result B E) → Makes P r → IsMade r → ((made : A) → P made → IsMade (next made)) → IsMade (r then next)
made_then P (Ok made) next holds is on = on made holds
made_then P (Err limit) next holds is on = absurd is

anything : {A E : Type 0} (r : Result A E) → Makes (λ made. Unit {0}) r
anything (Ok made) = tt
anything (Err limit) = tt

module _ (scope : Scope) (array index : ℕ) (parts : Parts) (nothing : scope.assigned ≡ []) (means : Means scope array index parts) where
  null_made : (free : ℕ) → nat_lt free most_slots ≡ true → IsMade ((lowering (null_test parts)).condition scope free)
  null_made free room = subst (λ (l : Lowering). IsMade (l.condition scope free)) (sym (comparison_lowers Eq (named parts.null_array) (expression e.Null parts.null) parts.is_null))
      (comparison_made scope Eq (lowering (named parts.null_array)) (lowering (expression e.Null parts.null)) free array (op.Const free (literal.NullOf (type_at scope parts.null))) parts.null
      (name_value scope array parts.null_array (empty free) nothing means.null_array) (null_value scope parts.null (empty free)) room)

  negative_made : (free : ℕ) → nat_lt free most_slots ≡ true → IsMade ((lowering (negative_test parts)).condition scope free)
  negative_made free room =
      subst (λ (l : Lowering). IsMade (l.condition scope free)) (sym (comparison_lowers Lt (named parts.negative_index) (expression (e.Int (pos 0)) parts.zero) parts.is_negative))
      (comparison_made scope Lt (lowering (named parts.negative_index)) (lowering (expression (e.Int (pos 0)) parts.zero)) free index (op.Const free (literal.Int (pos 0))) parts.zero
      (name_value scope index parts.negative_index (empty free) nothing means.negative_index) (zero_value scope parts.zero (empty free)) room)

  high_made : (free : ℕ) → nat_lt free most_slots ≡ true → IsMade ((lowering (high_test parts)).condition scope free)
  high_made free room =
      subst (λ (l : Lowering). IsMade (l.condition scope free))
      (sym (comparison_lowers Ge (named parts.high_index) (expression (e.Select (named parts.length_array) parts.length) parts.selection) parts.is_too_high))
      (comparison_made scope Ge (lowering (named parts.high_index)) (lowering (expression (e.Select (named parts.length_array) parts.length) parts.selection)) free index (op.Length free array) parts.selection
      (name_value scope index parts.high_index (empty free) nothing means.high_index)
      (length_value scope array parts.length_array parts.length parts.selection (empty free) nothing means.length_array means.length) room)

  room_at : (free more : ℕ) → free + 3 ≤ most_slots → more < 3 → nat_lt (free + more) most_slots ≡ true
  room_at free more room few = grind (arith, nat_tests)

  first_two_made : (free : ℕ) → free + 3 ≤ most_slots → IsMade (values.either (lowering (null_test parts)) (lowering (negative_test parts)) scope free)
  first_two_made free room =
      made_then (Comparison Eq array free (type_at scope parts.null_array.span) (op.Const free (literal.NullOf (type_at scope parts.null)))) ((lowering (null_test parts)).condition scope free) _
      (null_compared scope array index parts nothing means free) (null_made free (subst (λ n. nat_lt n most_slots ≡ true) (omega arith) (room_at free 0 room (omega arith))))
      (λ one a. made_then (Comparison Lt index (free + 1) int_type (op.Const (free + 1) (literal.Int (pos 0)))) ((lowering (negative_test parts)).condition scope one.free) _
      (subst (λ n. Makes (Comparison Lt index (free + 1) int_type (op.Const (free + 1) (literal.Int (pos 0)))) ((lowering (negative_test parts)).condition scope n)) (sym a.behind)
      (negative_compared scope array index parts nothing means (free + 1)))
      (subst (λ n. IsMade ((lowering (negative_test parts)).condition scope n)) (sym a.behind) (negative_made (free + 1) (room_at free 1 room (omega arith))))
      (λ two b. tt))

  pub test_made : (free : ℕ) → free + 3 ≤ most_slots → IsMade ((lowering (condition_of parts)).condition scope free)
  test_made free room =
      subst (λ (l : Lowering). IsMade (l.condition scope free)) (sym (either_lowers (either parts.first_two (null_test parts) (negative_test parts)) (high_test parts) parts.condition))
      (made_then (FirstTwo scope array index parts nothing means free) ((lowering (either parts.first_two (null_test parts) (negative_test parts))).condition scope free) _
      (subst (λ (l : Lowering). Makes (FirstTwo scope array index parts nothing means free) (l.condition scope free)) (sym (either_lowers (null_test parts) (negative_test parts) parts.first_two))
      (first_two scope array index parts nothing means free))
      (subst (λ (l : Lowering). IsMade (l.condition scope free)) (sym (either_lowers (null_test parts) (negative_test parts) parts.first_two)) (first_two_made free room))
      (λ first a. made_then (λ (last : Asked). Unit {0}) ((lowering (high_test parts)).condition scope first.free) _ (anything ((lowering (high_test parts)).condition scope first.free))
      (subst (λ n. IsMade ((lowering (high_test parts)).condition scope n)) (sym a.behind) (high_made (free + 2) (room_at free 2 room (omega arith))))
      (λ last b. tt)))

-- and so is the statement
pub guard_made : (site : Site) (body : Body) (array index : ℕ) (parts : Parts) → Means (scope_of site body []) array index parts → index < body.made.free → body.made.free + 3 ≤ most_slots
    → (end : ℕ) → IsMade ((statements.statement (guard_of parts)).run site end body)
guard_made site body array index parts means below room end =
    subst (λ (running : Running). IsMade (running.run site end body)) (sym (choice_lowers parts))
    (subst (λ (first : Running). IsMade (chosen (condition_of parts) first None site body)) (sym (throw_lowers parts))
    (made_then (IsAsked site body array index parts means below) (tested site (condition_of parts) body) _ (asked_is site body array index parts means below) asked_made (λ asked is. tt)))
  where
    asked_made : IsMade (tested site (condition_of parts) body)
    asked_made = made_then (λ (asked : Asked). Unit {0}) ((lowering (condition_of parts)).condition (scope_for site body (assigns (condition_of parts)).inside) body.made.free) _
        (anything ((lowering (condition_of parts)).condition (scope_for site body (assigns (condition_of parts)).inside) body.made.free))
        (subst (λ (scope : Scope). IsMade ((lowering (condition_of parts)).condition scope body.made.free)) (sym (scope_is site body array index parts means below))
        (test_made (scope_of site body []) array index parts refl means body.made.free room))
        (λ asked b. tt)
