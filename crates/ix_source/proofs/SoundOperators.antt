-- Operators and assignments without errors on names are sound: their operands are used.
use Rattle.std.proofs.Common.{◌≡◌, Bool, true, false, [], ◌++◌, Option, Some, None, refl, ap, subst}
use Rattle.std.specs.Prelude.{if◌then◌else◌, ◌&&◌, ◌||◌}
use Rattle.std.proofs.lemmas.Bool.{and_parts}
use Rattle.ix_text.specs.declared.span.Span.{Span}
use Rattle.ix_num.specs.declared.arith.Arith.{Arith}
use Rattle.ix_core.specs.declared.claim.Type_.{Type_}
use Rattle.ix_core.specs.Types.{int_type, bool_type, is_type}
use Rattle.ix_tree.specs.declared.expr.BinaryOp.{BinaryOp}
use Rattle.ix_tree.specs.declared.expr.BinaryOp.TheVariants as binary
use Rattle.ix_tree.specs.declared.expr.ExprKind.{ExprKind-F}
use Rattle.ix_tree.specs.declared.expr.UnaryOp.{UnaryOp}
use Rattle.ix_tree.specs.declared.expr.UnaryOp.TheVariants as operator
use Rattle.ix_meaning.specs.declared.note.Rule.TheVariants as rule
use Rattle.ix_meaning.specs.Rules as rules
use Rattle.ix_meaning.specs.Types as types
use Rattle.ix_meaning.specs.Types.{judged, of, need_like}
use Rattle.ix_meaning.specs.Values as reading
use Rattle.ix_meaning.specs.Values.{Reading, valued, check, null_at}
use Rattle.ix_plain.specs.Values.{Lowering}
use Rattle.ix_formed.specs.Typed as typed
use Rattle.ix_formed.specs.Typed.{Told, IsResult, Fits, FitsTarget}
use Rattle.ix_formed.proofs.NumberLists.{both_true}
use Rattle.ix_formed.proofs.SameTypes.{reference_real, primitive_real, primitive_same}
use Rattle.ix_formed.proofs.TypedChecks.{parted, kept, noted, reading_at}
use Rattle.ix_source.specs.Along.{Setting}
use Rattle.ix_source.specs.Sound as sound
use Rattle.ix_source.specs.Sound.{Soundness, used}
use Rattle.ix_source.specs.WellNamed.{View, viewed, IsSound, IsSoundTarget}
use Rattle.ix_source.proofs.SoundParts.{used_is, check_used, computed_sound}

module _ (y : typed.Setting) (set : typed.IsSet y) (v : View) where
  abbrev z : Setting
  z = viewed y v

  -- ---- operators

  pub unary_sound : (o : UnaryOp) (l : Lowering) (r : Reading) (s : Soundness) (span : Span) → Fits y l r → IsSound y v s r → IsSound y v (sound.computes (used s) span) (reading_at y set (valued (λ s p. reading.unary o r s)) span)
  unary_sound operator.Not l r s span f k = computed_sound y set v span (valued (λ s p. reading.unary operator.Not r s)) (sound.computes (used s) span) refl (λ at. refl) refl refl (λ said table. check_used y set v l r s f k bool_type refl said)
  unary_sound operator.Plus l r s span f k = computed_sound y set v span (valued (λ s p. reading.unary operator.Plus r s)) (sound.computes (used s) span) refl (λ at. refl) refl refl (λ said table. check_used y set v l r s f k int_type refl said)
  unary_sound operator.Minus l r s span f k = computed_sound y set v span (valued (λ s p. reading.unary operator.Minus r s)) (sound.computes (used s) span) refl (λ at. refl) refl refl (λ said table. check_used y set v l r s f k int_type refl said)
  unary_sound operator.Flip l r s span f k = computed_sound y set v span (valued (λ s p. reading.unary operator.Flip r s)) (sound.computes (used s) span) refl (λ at. refl) refl refl (λ said table. check_used y set v l r s f k int_type refl said)

  module _ (l m : Lowering) (a b : Reading) (s t : Soundness) (f : Fits y l a) (g : Fits y m b) (h : IsSound y v s a) (k : IsSound y v t b) where
    abbrev Both : Type 0
    Both = sound.both_used s t z ≡ true

    both_needed : (need : Type_) → is_type y.program need ≡ true → Told y ((check a y.names (of need)).notes ++ (check b y.names (of need)).notes) → Both
    both_needed need real said =
        let q = parted y (check a y.names (of need)).notes (check b y.names (of need)).notes said in
        both_true (used s z) (used t z) (check_used y set v l a s f h need real q.0) (check_used y set v m b t g k need real q.1)

    -- a `null` beside a reference
    null_used : (c : Reading) (n : Soundness) → n.span ≡ c.span → n.value z ≡ true → (ty : Type_) → IsResult y.program ty → Told y (null_at (of ty) c.span).notes → used n z ≡ true × (is_type y.program ty ≡ true)
    null_used c n same is ty result said =
        let q = parted y (rules.null_mismatch (of ty) c.span) (types.type_note (reading.null_type (of ty)) c.span) said in
        let reference = kept y (types.is_reference ty) rule.TypeMismatch c.span q.0 in
        let real = reference_real y.program ty result reference in
        let table = noted y (reading.null_type (of ty)) ty c.span (ap (λ b. if b then Some ty else None) reference) q.1 in
        (used_is y set v n c.span same is ty table real.0, real.0)

    or_case : {G : Type 0} (one other : Bool) → (one || other) ≡ true → (one ≡ true → G) → (other ≡ true → G) → G
    or_case true other e first second = first refl
    or_case false other e first second = second e

    both_values : (span : Span) → Told y (a.judge y.names).notes → Told y (b.judge y.names).notes → Told y (rules.cannot_compare y.names.world (a.judge y.names).ty (b.judge y.names).ty span) → Both
    both_values span one other said =
        let x = f.value one in
        let w = g.value other in
        let first = subst (λ o. Told y (rules.cannot_compare y.names.world o (b.judge y.names).ty span)) x.typed said in
        let second = subst (λ o. Told y (rules.cannot_compare y.names.world (Some x.ty) o span)) w.typed first in
        let can = kept y (types.can_compare y.names.world.supers x.ty w.ty) rule.TypeMismatch span second in
        let all : is_type y.program x.ty ≡ true → is_type y.program w.ty ≡ true → Both = λ real_x real_w.
        both_true (used s z) (used t z) (used_is y set v s a.span h.span (h.value one) x.ty x.table real_x) (used_is y set v t b.span k.span (k.value other) w.ty w.table real_w) in
        or_case (types.is_primitive x.ty && types.same_type x.ty w.ty) ((types.is_reference x.ty && types.is_reference w.ty) && (types.fits y.names.world.supers x.ty w.ty || types.fits y.names.world.supers w.ty x.ty)) can
        (λ e.
        let q = and_parts (types.is_primitive x.ty) (types.same_type x.ty w.ty) e in
        let real = primitive_real y.program x.ty x.of_type q.0 in
        all real (subst (λ t. is_type y.program t ≡ true) (primitive_same x.ty w.ty q.0 q.1) real))
        (λ e.
        let q = and_parts (types.is_reference x.ty && types.is_reference w.ty) _ e in
        let r = and_parts (types.is_reference x.ty) (types.is_reference w.ty) q.0 in
        all (reference_real y.program x.ty x.of_type r.0).0 (reference_real y.program w.ty w.of_type r.1).0)

    equal_used : (span : Span) → Told y (reading.equality a b y.names span).notes → Both
    equal_used span said = by_null a.is_null b.is_null refl refl said
      where
        by_null : (one other : Bool) → a.is_null ≡ one → b.is_null ≡ other
            → Told y ((if one then judged None [] else a.judge y.names).notes ++ ((if other then judged None [] else b.judge y.names).notes
            ++ (if one then (if other then types.wrong rule.TypeMismatch a.span ++ types.wrong rule.TypeMismatch b.span else (null_at (need_like (if other then judged None [] else b.judge y.names).ty) a.span).notes)
            else (if other then (null_at (need_like (if one then judged None [] else a.judge y.names).ty) b.span).notes
            else rules.cannot_compare y.names.world (if one then judged None [] else a.judge y.names).ty (if other then judged None [] else b.judge y.names).ty span))))
            → Both
        by_null true true e i said = absurd said.0
        by_null true false e i said =
            let q = parted y (b.judge y.names).notes _ said in
            let w = g.value q.0 in
            let n = null_used a s h.span (h.null e) w.ty w.of_type (subst (λ o. Told y (null_at (need_like o) a.span).notes) w.typed q.1) in
            both_true (used s z) (used t z) n.0 (used_is y set v t b.span k.span (k.value q.0) w.ty w.table n.1)
        by_null false true e i said =
            let q = parted y (a.judge y.names).notes _ said in
            let x = f.value q.0 in
            let n = null_used b t k.span (k.null i) x.ty x.of_type (subst (λ o. Told y (null_at (need_like o) b.span).notes) x.typed q.1) in
            both_true (used s z) (used t z) (used_is y set v s a.span h.span (h.value q.0) x.ty x.table n.1) n.0
        by_null false false e i said =
            let q = parted y (a.judge y.names).notes _ said in
            let w = parted y (b.judge y.names).notes _ q.1 in
            both_values span q.0 w.0 w.1

    binary_used : (o : BinaryOp) (span : Span) → Told y (reading.binary o a b y.names span).notes → Both
    binary_used (binary.Num arith_op) span said = both_needed int_type refl said
    binary_used (binary.Compare rel) span said = by_rule (reading.is_equality rel) said
      where
        by_rule : (e : Bool) → Told y (if e then reading.equality a b y.names span else reading.both a b y.names (of int_type) types.boolean).notes → Both
        by_rule true said = equal_used span said
        by_rule false said = both_needed int_type refl said
    binary_used binary.AndAlso span said = both_needed bool_type refl said
    binary_used binary.OrElse span said = both_needed bool_type refl said

    pub binary_sound : (o : BinaryOp) (span : Span) → IsSound y v (sound.computes (sound.both_used s t) span) (reading_at y set (valued (λ s p. reading.binary o a b s p)) span)
    binary_sound o span = computed_sound y set v span (valued (λ s p. reading.binary o a b s p)) (sound.computes (sound.both_used s t) span) refl (λ at. refl) refl refl (λ said table. binary_used o span said)

  -- ---- assignments

  module _ (l m : Lowering) (a b : Reading) (s t : Soundness) (aims : FitsTarget y l a) (g : Fits y m b) (target : IsSoundTarget y v s a) (k : IsSound y v t b) where
    abbrev Assigned : Span → Soundness
    Assigned = sound.computes (λ at. s.target at && used t at)

    assignment_used : Told y (reading.assignment a b y.names).notes → (s.target z && used t z) ≡ true
    assignment_used said =
        let q = parted y (a.assigned y.names).notes (check b y.names (need_like (a.assigned y.names).ty)).notes said in
        let x = aims q.0 in
        both_true (s.target z) (used t z) (target q.0) (check_used y set v m b t g k x.ty x.real (subst (λ o. Told y (check b y.names (need_like o)).notes) x.typed q.1))

    compound_used : Told y (reading.computed a b y.names).notes → (s.target z && used t z) ≡ true
    compound_used said =
        let q = parted y (reading.counted_target a y.names).notes (check b y.names (of int_type)).notes said in
        let w = parted y (a.assigned y.names).notes (rules.type_mismatch y.names.world (of int_type) (a.assigned y.names).ty a.span) q.0 in
        both_true (s.target z) (used t z) (target w.0) (check_used y set v m b t g k int_type refl q.1)

    pub assign_sound : (o : Option Arith) (span : Span) → IsSound y v (Assigned span) (reading_at y set (reading.kind_step (ExprKind-F.Assign o a b)) span)
    assign_sound None span = computed_sound y set v span (reading.kind_step (ExprKind-F.Assign None a b)) (Assigned span) refl (λ at. refl) refl refl (λ said table. assignment_used said)
    assign_sound (Some arith_op) span = computed_sound y set v span (reading.kind_step (ExprKind-F.Assign (Some arith_op) a b)) (Assigned span) refl (λ at. refl) refl refl (λ said table. compound_used said)

  pub step_sound : (up after : Bool) (a : Reading) (s : Soundness) (span : Span) → IsSoundTarget y v s a → IsSound y v (sound.computes s.target span) (reading_at y set (reading.kind_step (ExprKind-F.Step up after a)) span)
  step_sound up after a s span target = computed_sound y set v span (reading.kind_step (ExprKind-F.Step up after a)) (sound.computes s.target span) refl (λ at. refl) refl refl
      (λ said table. target (parted y (a.assigned y.names).notes (rules.type_mismatch y.names.world (of int_type) (a.assigned y.names).ty a.span) said).0)
