-- The variables of a test that is sound are in scope, in slots below the first free one.
use Rattle.std.proofs.Common.{◌≡◌, ◌<◌, ℕ, Bool, true, false, List, [], Option, Some, None, refl, sym, ap, ◌∙◌, arith, pos}
use Rattle.std.specs.Prelude.{if◌then◌else◌, nat_lt, not}
use Rattle.std.proofs.lemmas.Bool.{false≢true, and_parts}
use Rattle.std.proofs.lemmas.Bool.Decides.{nat_tests}
use Rattle.ix_text.specs.declared.span.Span.{Span}
use Rattle.ix_num.specs.declared.rel.Rel.TheVariants.{Eq, Lt}
use Rattle.ix_core.specs.declared.program.Local.{Local}
use Rattle.ix_core.specs.Types.{is_void}
use Rattle.ix_core.proofs.Cases.{equal}
use Rattle.ix_tree.specs.declared.annot.Ident.{Ident}
use Rattle.ix_tree.specs.declared.expr.BinaryOp.{BinaryOp}
use Rattle.ix_tree.specs.declared.expr.BinaryOp.TheVariants as binary
use Rattle.ix_tree.specs.declared.expr.Expr.{Expr}
use Rattle.ix_tree.specs.declared.expr.ExprKind.TheVariants as e
use Rattle.ix_tree.proofs.FoldsOfForms as fold
use Rattle.ix_meaning.specs.declared.note.Meaning.{Meaning}
use Rattle.ix_meaning.specs.declared.note.Meaning.TheVariants as meaning
use Rattle.ix_plain.specs.Scope.{slot_of, meaning_at, type_at}
use Rattle.ix_source.specs.Along.{Setting}
use Rattle.ix_source.specs.Running.{Ground, owner, in_scope}
use Rattle.ix_source.specs.Sound as sound
use Rattle.ix_source.specs.Sound.{Soundness, soundness, used, both_used}
use Rattle.ix_guard.specs.Tests.{is_variable}
use Rattle.ix_guard.specs.Trees.{expression, named, either}
use Rattle.ix_guard_text.specs.TestParts.{Parts, null_test, negative_test, high_test, condition_of}
use Rattle.ix_guard_promise.specs.Laws.{setting, IsInSlot}

-- ---- a variable that is sound where it is named

module _ (g : Ground) (locals : List (Local × Span)) (free : ℕ) where
  has_owner : (slot : ℕ) (m : Meaning) → in_scope g.site locals free slot ≡ Some m → slot < free
  has_owner slot m = by_less (nat_lt slot free) refl
    where
      by_less : (b : Bool) → nat_lt slot free ≡ b → (if b then owner g.site locals slot else None) ≡ Some m → slot < free
      by_less true less is = grind (arith, nat_tests)
      by_less false less is = absurd (false≢true (ap is_some is))
        where
          is_some : Option Meaning → Bool
          is_some None = false
          is_some (Some m) = true

  same_is : (m : Meaning) (o : Option Meaning) → sound.is_same m o ≡ true → o ≡ Some m
  same_is (meaning.Local n) (Some (meaning.Local k)) e = ap (λ n. Some (meaning.Local n)) (equal k n e)
  same_is (meaning.Param n) (Some (meaning.Param k)) e = ap (λ n. Some (meaning.Param n)) (equal k n e)
  same_is (meaning.Local n) _ e = absurd (false≢true e)
  same_is (meaning.Param n) _ e = absurd (false≢true e)
  same_is _ _ e = absurd (false≢true e)

  own_in_slot : (assigned : List ℕ) (m : Meaning) → sound.is_own (setting g locals free assigned) m ≡ true → slot_of (record { site = g.site; locals = locals; assigned = assigned }) (Some m) < free
  own_in_slot assigned m own =
      let slot = slot_of (record { site = g.site; locals = locals; assigned = assigned }) (Some m) in
      has_owner slot m (same_is m (in_scope g.site locals free slot) own)

  -- whatever the full expression assigns
  pub named_in_slot : (assigned : List ℕ) (variable : Option Meaning) → is_variable variable ≡ true → sound.named (setting g locals free assigned) variable ≡ true
      → IsInSlot g locals free variable (slot_of (record { site = g.site; locals = locals; assigned = [] }) variable)
  named_in_slot assigned (Some (meaning.Local n)) is own = record { in_slot = refl; below = own_in_slot assigned (meaning.Local n) own; sound = λ others. own }
  named_in_slot assigned (Some (meaning.Param n)) is own = record { in_slot = refl; below = own_in_slot assigned (meaning.Param n) own; sound = λ others. own }
  named_in_slot assigned (Some (meaning.FieldNamed n)) is own = absurd (false≢true is)
  named_in_slot assigned (Some (meaning.Constant n)) is own = absurd (false≢true is)
  named_in_slot assigned (Some (meaning.ClassNamed n)) is own = absurd (false≢true is)
  named_in_slot assigned (Some (meaning.MethodNamed n)) is own = absurd (false≢true is)
  named_in_slot assigned (Some meaning.LengthOf) is own = absurd (false≢true is)
  named_in_slot assigned None is own = absurd (false≢true is)

-- ---- the names of a test

abbrev value : Expr → Setting → Bool
value expr z = (soundness expr).value z

name_value : (name : Ident) (z : Setting) → value (named name) z ≡ sound.named z (meaning_at z.scope name.span)
name_value name z =
    ap (λ (s : Soundness). s.value z) (fold.expr_is sound.kind_step sound.init_step sound.expr_step (e.Name name) name.span
    ∙ ap (λ (kind : Span → Soundness). sound.expr_step (record { kind = kind; span = name.span })) (fold.name_kind sound.kind_step sound.init_step sound.expr_step name))

binary_value : (operator : BinaryOp) (left right : Expr) (span : Span) (z : Setting) → value (expression (e.Binary operator left right) span) z ≡ both_used (soundness left) (soundness right) z
binary_value operator left right span z =
    ap (λ (s : Soundness). s.value z) (fold.expr_is sound.kind_step sound.init_step sound.expr_step (e.Binary operator left right) span
    ∙ ap (λ (kind : Span → Soundness). sound.expr_step (record { kind = kind; span = span })) (fold.binary_kind sound.kind_step sound.init_step sound.expr_step operator left right))

used_value : (expr : Expr) (z : Setting) → used (soundness expr) z ≡ true → value expr z ≡ true
used_value expr z is = (and_parts (value expr z) (not (is_void (type_at z.scope (soundness expr).span))) is).0

left_value : (operator : BinaryOp) (left right : Expr) (span : Span) (z : Setting) → value (expression (e.Binary operator left right) span) z ≡ true → value left z ≡ true
left_value operator left right span z is =
    used_value left z (and_parts (used (soundness left) z) (used (soundness right) z) (sym (binary_value operator left right span z) ∙ is)).0

right_value : (operator : BinaryOp) (left right : Expr) (span : Span) (z : Setting) → value (expression (e.Binary operator left right) span) z ≡ true → value right z ≡ true
right_value operator left right span z is =
    used_value right z (and_parts (used (soundness left) z) (used (soundness right) z) (sym (binary_value operator left right span z) ∙ is)).1

module _ (parts : Parts) (z : Setting) (is : used (soundness (condition_of parts)) z ≡ true) where
  first_two : value (either parts.first_two (null_test parts) (negative_test parts)) z ≡ true
  first_two = left_value binary.OrElse (either parts.first_two (null_test parts) (negative_test parts)) (high_test parts) parts.condition z (used_value (condition_of parts) z is)

  pub array_sound : sound.named z (meaning_at z.scope parts.null_array.span) ≡ true
  array_sound =
      sym (name_value parts.null_array z)
      ∙ left_value (binary.Compare Eq) (named parts.null_array) (expression e.Null parts.null) parts.is_null z (left_value binary.OrElse (null_test parts) (negative_test parts) parts.first_two z first_two)

  pub index_sound : sound.named z (meaning_at z.scope parts.negative_index.span) ≡ true
  index_sound =
      sym (name_value parts.negative_index z)
      ∙ left_value (binary.Compare Lt) (named parts.negative_index) (expression (e.Int (pos 0)) parts.zero) parts.is_negative z (right_value binary.OrElse (null_test parts) (negative_test parts) parts.first_two z first_two)
