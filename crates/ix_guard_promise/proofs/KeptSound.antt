-- What a sound expression assigns are fields and variables in scope: so none of them has the slot of another variable in scope.
use Rattle.std.proofs.Common.{◌≡◌, ℕ, Bool, true, false, List, [], ◌∷◌, ◌++◌, map, Option, Some, None, sym, ap, subst, ◌∙◌, arith}
use Rattle.std.specs.Prelude.{not, ◌==◌}
use Rattle.std.proofs.lemmas.Bool.{false≢true, and_parts}
use Rattle.std.proofs.lemmas.Bool.Decides.{nat_tests}
use Rattle.ix_text.specs.declared.span.Span.{Span}
use Rattle.ix_core.specs.Types.{is_void}
use Rattle.ix_core.proofs.Cases.{by_test, equal}
use Rattle.ix_tree.specs.declared.expr.Expr.{Expr, Expr-F, ind-Expr, map-Expr, roll-Expr, fold-roll-Expr}
use Rattle.ix_tree.specs.declared.expr.ExprKind.{ExprKind, ExprKind-F, map-ExprKind, roll-ExprKind, fold-ExprKind, fold-roll-ExprKind}
use Rattle.ix_tree.specs.declared.expr.Init.{Init, Init-F, ind-Init, map-Init, roll-Init, fold-roll-Init}
use Rattle.ix_meaning.specs.declared.note.Meaning.{Meaning}
use Rattle.ix_meaning.specs.declared.note.Meaning.TheVariants as meaning
use Rattle.ix_plain.specs.Scope.{slot_of, meaning_at, type_at, head_at}
use Rattle.ix_formed.specs.Additions.{AllOf}
use Rattle.ix_formed.proofs.NumberLists.{all_so, all_joined}
use Rattle.ix_source.specs.Along.{Setting}
use Rattle.ix_source.specs.Sound as sound
use Rattle.ix_source.specs.Sound.{Soundness, soundness, init_soundness, used, all_used}
use Rattle.ix_guard.specs.Accesses as accesses
use Rattle.ix_guard.specs.Accesses.{Parts, Reading, reading, parts_of, init_parts, place_of, all, each, nothing}
use Rattle.ix_guard.specs.Tests.{same_variable, is_variable}
use Rattle.ix_guard_promise.specs.Targets.{OwnsSlot, OwnsAmong}

module _ (z : Setting) where
  -- what the name at that place means may be assigned
  abbrev pub IsTarget : Span → Type 0
  IsTarget span = sound.named_target z (meaning_at z.scope span) ≡ true

  abbrev pub Targets : List Span → Type 0
  Targets spans = AllOf IsTarget spans

  both_targets : (f g : Parts) → Targets f.assigned → Targets g.assigned → Targets (f.assigned ++ g.assigned)
  both_targets f g a b = all_joined IsTarget f.assigned g.assigned a b

  used_value : (s : Soundness) → used s z ≡ true → s.value z ≡ true
  used_value s e = (and_parts (s.value z) (not (is_void (type_at z.scope s.span))) e).0

  -- ---- what is so of an expression

  pub record AssignsTargets (s : Soundness) (r : Reading) : Type 0 where
    pub value : s.value z ≡ true → Targets r.parts.assigned
    pub unused : s.unused z ≡ true → Targets r.parts.assigned
    pub target : s.target z ≡ true → Targets (place_of r.name) × Targets r.parts.assigned

  abbrev InitTargets : (Setting → Bool) → Parts → Type 0
  InitTargets s p = s z ≡ true → Targets p.assigned

  -- an expression that can't be assigned
  computed_targets : (value : Setting → Bool) (span : Span) (parts : Parts) → (value z ≡ true → Targets parts.assigned) → AssignsTargets (sound.computes value span) (accesses.unnamed parts)
  computed_targets value span parts are = record { value = are; unused = are; target = λ e. absurd (false≢true e) }

  abbrev kind_sound : ExprKind → Span → Soundness
  kind_sound = fold-ExprKind (Span → Soundness) (Setting → Bool) Soundness sound.kind_step sound.init_step sound.expr_step

  abbrev kind_reading : ExprKind → Reading
  kind_reading = fold-ExprKind Reading Parts Reading accesses.kind_step accesses.init_step accesses.expr_step

  abbrev KindIs : ExprKind → Type 0
  KindIs k = (span : Span) → AssignsTargets (kind_sound k span) (kind_reading k)

  abbrev InitIs : Init → Type 0
  InitIs i = InitTargets (init_soundness i) (init_parts i)

  abbrev ExprIs : Expr → Type 0
  ExprIs e = AssignsTargets (soundness e) (reading e)

  module _ {K I E : Type 0} (kind : K → ExprKind) (init : I → Init) (expr : E → Expr) (init_is : (i : I) → InitIs (init i)) (expr_is : (e : E) → ExprIs (expr e)) where
    abbrev s_of : E → Soundness
    s_of e = soundness (expr e)

    abbrev as_of : E → Parts
    as_of e = parts_of (expr e)

    used_owned : (e : E) → used (s_of e) z ≡ true → Targets (as_of e).assigned
    used_owned e is = (expr_is e).value (used_value (s_of e) is)

    abbrev parts_in : List E → Parts
    parts_in es = all (each (map reading (map expr es)))

    args_owned : (es : List E) → all_used (map soundness (map expr es)) z ≡ true → Targets (parts_in es).assigned
    args_owned [] is = tt
    args_owned (e ∷ es) is =
        let q = and_parts (used (s_of e) z) (all_used (map soundness (map expr es)) z) is in
        both_targets (as_of e) (parts_in es) (used_owned e q.0) (args_owned es q.1)

    items_owned : (is : List I) → sound.all_sound (map init_soundness (map init is)) z ≡ true → Targets (all (map init_parts (map init is))).assigned
    items_owned [] e = tt
    items_owned (i ∷ is) e =
        let q = and_parts (init_soundness (init i) z) (sound.all_sound (map init_soundness (map init is)) z) e in
        both_targets (init_parts (init i)) (all (map init_parts (map init is))) (init_is i q.0) (items_owned is q.1)

    pair_owned : (a b : E) → sound.both_used (s_of a) (s_of b) z ≡ true → Targets ((as_of a).assigned ++ (as_of b).assigned)
    pair_owned a b is =
        let q = and_parts (used (s_of a) z) (used (s_of b) z) is in
        both_targets (as_of a) (as_of b) (used_owned a q.0) (used_owned b q.1)

    received_owned : (object : E) (static : Bool) → sound.received (Some (s_of object)) static z ≡ true → Targets (as_of object).assigned
    received_owned object true is = (expr_is object).unused is
    received_owned object false is = used_owned object is

    selected_owned : (object : E) (o : Option Meaning) → sound.selected (s_of object) z o ≡ true → Targets (as_of object).assigned
    selected_owned object (Some (meaning.Constant n)) is = (expr_is object).unused is
    selected_owned object (Some (meaning.FieldNamed n)) is = used_owned object is
    selected_owned object (Some meaning.LengthOf) is = used_owned object is
    selected_owned object (Some (meaning.Local n)) is = absurd (false≢true is)
    selected_owned object (Some (meaning.Param n)) is = absurd (false≢true is)
    selected_owned object (Some (meaning.ClassNamed n)) is = absurd (false≢true is)
    selected_owned object (Some (meaning.MethodNamed n)) is = absurd (false≢true is)
    selected_owned object None is = absurd (false≢true is)

    selected_target : (object : E) (o : Option Meaning) → sound.selected_target (s_of object) z o ≡ true → Targets (as_of object).assigned
    selected_target object (Some (meaning.FieldNamed n)) is = used_owned object is
    selected_target object (Some (meaning.Constant n)) is = absurd (false≢true is)
    selected_target object (Some meaning.LengthOf) is = absurd (false≢true is)
    selected_target object (Some (meaning.Local n)) is = absurd (false≢true is)
    selected_target object (Some (meaning.Param n)) is = absurd (false≢true is)
    selected_target object (Some (meaning.ClassNamed n)) is = absurd (false≢true is)
    selected_target object (Some (meaning.MethodNamed n)) is = absurd (false≢true is)
    selected_target object None is = absurd (false≢true is)

    called_owned : (s : Option Soundness) (r : Parts) → ((static : Bool) → sound.received s static z ≡ true → Targets r.assigned) → (args : List E) (span : Span) (o : Option Meaning)
        → sound.called s (map soundness (map expr args)) span z o ≡ true → Targets (r.assigned ++ (parts_in args).assigned)
    called_owned s r owns args span (Some (meaning.MethodNamed n)) is =
        let q = and_parts (sound.is_method z.tables z.scope.site n) _ is in
        let w = and_parts (sound.has_result z n span) _ q.1 in
        let x = and_parts (sound.received s (head_at z.scope.site n).is_static z) (all_used (map soundness (map expr args)) z) w.1 in
        both_targets r (parts_in args) (owns (head_at z.scope.site n).is_static x.0) (args_owned args x.1)
    called_owned s a owns args span (Some (meaning.FieldNamed n)) is = absurd (false≢true is)
    called_owned s a owns args span (Some (meaning.Constant n)) is = absurd (false≢true is)
    called_owned s a owns args span (Some meaning.LengthOf) is = absurd (false≢true is)
    called_owned s a owns args span (Some (meaning.Local n)) is = absurd (false≢true is)
    called_owned s a owns args span (Some (meaning.Param n)) is = absurd (false≢true is)
    called_owned s a owns args span (Some (meaning.ClassNamed n)) is = absurd (false≢true is)
    called_owned s a owns args span None is = absurd (false≢true is)

    created_owned : (args : List E) (o : Option Meaning) → sound.created (map soundness (map expr args)) z o ≡ true → Targets (parts_in args).assigned
    created_owned args (Some (meaning.ClassNamed n)) is = args_owned args (and_parts _ _ is).1
    created_owned args (Some (meaning.FieldNamed n)) is = absurd (false≢true is)
    created_owned args (Some (meaning.Constant n)) is = absurd (false≢true is)
    created_owned args (Some meaning.LengthOf) is = absurd (false≢true is)
    created_owned args (Some (meaning.Local n)) is = absurd (false≢true is)
    created_owned args (Some (meaning.Param n)) is = absurd (false≢true is)
    created_owned args (Some (meaning.MethodNamed n)) is = absurd (false≢true is)
    created_owned args None is = absurd (false≢true is)

    kind_layer : (x : ExprKind-F K I E) → let layer = map-ExprKind K I E ExprKind Init Expr kind init expr x in (span : Span)
        → AssignsTargets (sound.kind_step (map-ExprKind ExprKind Init Expr (Span → Soundness) (Setting → Bool) Soundness kind_sound init_soundness soundness layer) span)
        (accesses.kind_step (map-ExprKind ExprKind Init Expr Reading Parts Reading kind_reading init_parts reading layer))
    kind_layer (ExprKind-F.Int n) span = computed_targets (λ z. true) span nothing (λ is. tt)
    kind_layer (ExprKind-F.Bool answer) span = computed_targets (λ z. true) span nothing (λ is. tt)
    kind_layer ExprKind-F.Null span = computed_targets (λ z. true) span nothing (λ is. tt)
    kind_layer ExprKind-F.This span = computed_targets (λ z. z.has_this) span nothing (λ is. tt)
    kind_layer (ExprKind-F.Name ident) span = record { value = λ is. tt; unused = λ is. tt; target = λ is. ((is, tt), tt) }
    kind_layer (ExprKind-F.Select object ident) span = record {
      value = selected_owned object (meaning_at z.scope ident.span);
      unused = selected_owned object (meaning_at z.scope ident.span);
      target = λ is. (tt, selected_target object (meaning_at z.scope ident.span) is);
    }
    kind_layer (ExprKind-F.Index array index) span = record { value = pair_owned array index; unused = pair_owned array index; target = λ is. (tt, pair_owned array index is) }
    kind_layer (ExprKind-F.Call None ident args) span =
        computed_targets (λ z. sound.called None (map soundness (map expr args)) span z (meaning_at z.scope ident.span)) span (parts_in args)
        (called_owned None nothing (λ static is. tt) args span (meaning_at z.scope ident.span))
    kind_layer (ExprKind-F.Call (Some object) ident args) span =
        computed_targets (λ z. sound.called (Some (s_of object)) (map soundness (map expr args)) span z (meaning_at z.scope ident.span)) span (accesses.both (as_of object) (parts_in args))
        (called_owned (Some (s_of object)) (as_of object) (received_owned object) args span (meaning_at z.scope ident.span))
    kind_layer (ExprKind-F.New ident args) span = computed_targets _ span _ (created_owned args (meaning_at z.scope ident.span))
    kind_layer (ExprKind-F.NewArray ty size) span = computed_targets _ span _ (used_owned size)
    kind_layer (ExprKind-F.NewItems ty items) span = computed_targets _ span _ (items_owned items)
    kind_layer (ExprKind-F.Unary operator operand) span = computed_targets _ span _ (used_owned operand)
    kind_layer (ExprKind-F.Binary operator left right) span = computed_targets _ span _ (pair_owned left right)
    kind_layer (ExprKind-F.Assign operator target value) span = computed_targets _ span _
        (λ is.
        let q = and_parts ((s_of target).target z) (used (s_of value) z) is in
        let t = (expr_is target).target q.0 in
        all_joined IsTarget (place_of (reading (expr target)).name ++ (as_of target).assigned) (as_of value).assigned
        (all_joined IsTarget (place_of (reading (expr target)).name) (as_of target).assigned t.0 t.1) (used_owned value q.1))
    kind_layer (ExprKind-F.Step up after target) span = computed_targets _ span _
        (λ is. let t = (expr_is target).target is in all_joined IsTarget (place_of (reading (expr target)).name) (as_of target).assigned t.0 t.1)

    kind_rolled : (x : ExprKind-F K I E) → KindIs (roll-ExprKind (map-ExprKind K I E ExprKind Init Expr kind init expr x))
    kind_rolled x span =
        let layer = map-ExprKind K I E ExprKind Init Expr kind init expr x in
        let l = fold-roll-ExprKind (Span → Soundness) (Setting → Bool) Soundness sound.kind_step sound.init_step sound.expr_step layer in
        let c = fold-roll-ExprKind Reading Parts Reading accesses.kind_step accesses.init_step accesses.expr_step layer in
        subst (λ (s : Span → Soundness). AssignsTargets (s span) (kind_reading (roll-ExprKind layer))) (sym l)
        (subst (λ (a : Reading). AssignsTargets (sound.kind_step (map-ExprKind ExprKind Init Expr (Span → Soundness) (Setting → Bool) Soundness kind_sound init_soundness soundness layer) span) a) (sym c) (kind_layer x span))

    init_layer : (x : Init-F K I E) → let layer = map-Init K I E ExprKind Init Expr kind init expr x in
        InitTargets (sound.init_step (map-Init ExprKind Init Expr (Span → Soundness) (Setting → Bool) Soundness kind_sound init_soundness soundness layer)) (accesses.init_step (map-Init ExprKind Init Expr Reading Parts Reading kind_reading init_parts reading layer))
    init_layer (Init-F.Value e) is = used_owned e is
    init_layer (Init-F.Items items span) is = items_owned items is

    init_rolled : (x : Init-F K I E) → InitIs (roll-Init (map-Init K I E ExprKind Init Expr kind init expr x))
    init_rolled x =
        let layer = map-Init K I E ExprKind Init Expr kind init expr x in
        let l = fold-roll-Init (Span → Soundness) (Setting → Bool) Soundness sound.kind_step sound.init_step sound.expr_step layer in
        let c = fold-roll-Init Reading Parts Reading accesses.kind_step accesses.init_step accesses.expr_step layer in
        subst (λ (s : Setting → Bool). InitTargets s (init_parts (roll-Init layer))) (sym l)
        (subst (λ (a : Parts). InitTargets (sound.init_step (map-Init ExprKind Init Expr (Span → Soundness) (Setting → Bool) Soundness kind_sound init_soundness soundness layer)) a) (sym c) (init_layer x))

    expr_rolled : ((k : K) → KindIs (kind k)) → (x : Expr-F K I E) → ExprIs (roll-Expr (map-Expr K I E ExprKind Init Expr kind init expr x))
    expr_rolled kind_is x =
        let layer = map-Expr K I E ExprKind Init Expr kind init expr x in
        let l = fold-roll-Expr (Span → Soundness) (Setting → Bool) Soundness sound.kind_step sound.init_step sound.expr_step layer in
        let c = fold-roll-Expr Reading Parts Reading accesses.kind_step accesses.init_step accesses.expr_step layer in
        let k = kind_is x.kind x.span in
        subst (λ (s : Soundness). AssignsTargets s (reading (roll-Expr layer))) (sym l)
        (subst (λ (a : Reading). AssignsTargets (record (kind_sound (kind x.kind) x.span) { span = x.span }) a) (sym c) (record { value = k.value; unused = k.unused; target = k.target }))

  expression_targets : (e : Expr) → ExprIs e
  expression_targets = ind-Expr KindIs InitIs ExprIs
      (λ x y e. subst (λ layer. KindIs (roll-ExprKind layer)) e (kind_rolled (λ k. k.0) (λ i. i.0) (λ x. x.0) (λ i. i.1) (λ x. x.1) y))
      (λ x y e. subst (λ layer. InitIs (roll-Init layer)) e (init_rolled (λ k. k.0) (λ i. i.0) (λ x. x.0) (λ i. i.1) (λ x. x.1) y))
      (λ x y e. subst (λ layer. ExprIs (roll-Expr layer)) e (expr_rolled (λ k. k.0) (λ i. i.0) (λ x. x.0) (λ i. i.1) (λ x. x.1) (λ k. k.1) y))

  initialiser_targets : (i : Init) → InitIs i
  initialiser_targets = ind-Init KindIs InitIs ExprIs
      (λ x y e. subst (λ layer. KindIs (roll-ExprKind layer)) e (kind_rolled (λ k. k.0) (λ i. i.0) (λ x. x.0) (λ i. i.1) (λ x. x.1) y))
      (λ x y e. subst (λ layer. InitIs (roll-Init layer)) e (init_rolled (λ k. k.0) (λ i. i.0) (λ x. x.0) (λ i. i.1) (λ x. x.1) y))
      (λ x y e. subst (λ layer. ExprIs (roll-Expr layer)) e (expr_rolled (λ k. k.0) (λ i. i.0) (λ x. x.0) (λ i. i.1) (λ x. x.1) (λ k. k.1) y))

  -- ---- a variable in scope, whose slot holds no other

  abbrev pub IsOwner : Option Meaning → Type 0
  IsOwner m = z.owner (slot_of z.scope m) ≡ m

  same_is : (m : Meaning) (o : Option Meaning) → sound.is_same m o ≡ true → o ≡ Some m
  same_is (meaning.Local n) (Some (meaning.Local k)) e = ap (λ n. Some (meaning.Local n)) (equal k n e)
  same_is (meaning.Param n) (Some (meaning.Param k)) e = ap (λ n. Some (meaning.Param n)) (equal k n e)
  same_is (meaning.Local n) _ e = absurd (false≢true e)
  same_is (meaning.Param n) _ e = absurd (false≢true e)
  same_is _ _ e = absurd (false≢true e)

  owner_is : (m : Meaning) → sound.is_own z m ≡ true → IsOwner (Some m)
  owner_is m own = same_is m (z.owner (slot_of z.scope (Some m))) own

  apart_by : (v m : Option Meaning) → IsOwner v → IsOwner m → same_variable m m ≡ true → same_variable v m ≡ false → (slot_of z.scope v == slot_of z.scope m) ≡ false
  apart_by v m one two self differs = by_test (slot_of z.scope v == slot_of z.scope m)
      (λ t. let e : v ≡ m = sym one ∙ ap z.owner (equal (slot_of z.scope v) (slot_of z.scope m) t) ∙ two in absurd (false≢true (sym differs ∙ ap (λ x. same_variable x m) e ∙ self)))
      (λ f. f)

  self_same : (n : ℕ) → (n == n) ≡ true
  self_same n = grind (arith, nat_tests)

  target_owns : (v m : Option Meaning) → IsOwner v → sound.named_target z m ≡ true → OwnsSlot z.scope v m
  target_owns v (Some (meaning.FieldNamed field)) own is = tt
  target_owns v (Some (meaning.Local n)) own is = apart_by v (Some (meaning.Local n)) own (owner_is (meaning.Local n) (and_parts (sound.is_own z (meaning.Local n)) _ is).0) (self_same n)
  target_owns v (Some (meaning.Param n)) own is = apart_by v (Some (meaning.Param n)) own (owner_is (meaning.Param n) (and_parts (sound.is_own z (meaning.Param n)) _ is).0) (self_same n)
  target_owns v (Some (meaning.Constant n)) own is = absurd (false≢true is)
  target_owns v (Some (meaning.ClassNamed n)) own is = absurd (false≢true is)
  target_owns v (Some (meaning.MethodNamed n)) own is = absurd (false≢true is)
  target_owns v (Some meaning.LengthOf) own is = absurd (false≢true is)
  target_owns v None own is = absurd (false≢true is)

  -- a variable that is sound where it is named
  pub named_owner : (m : Option Meaning) → is_variable m ≡ true → sound.named z m ≡ true → IsOwner m
  named_owner (Some (meaning.Local n)) variable own = owner_is (meaning.Local n) own
  named_owner (Some (meaning.Param n)) variable own = owner_is (meaning.Param n) own
  named_owner (Some (meaning.FieldNamed n)) variable own = absurd (false≢true variable)
  named_owner (Some (meaning.Constant n)) variable own = absurd (false≢true variable)
  named_owner (Some (meaning.ClassNamed n)) variable own = absurd (false≢true variable)
  named_owner (Some (meaning.MethodNamed n)) variable own = absurd (false≢true variable)
  named_owner (Some meaning.LengthOf) variable own = absurd (false≢true variable)
  named_owner None variable own = absurd (false≢true variable)

  all_own : (v : Option Meaning) (spans : List Span) → IsOwner v → Targets spans → OwnsAmong z.scope v spans
  all_own v spans own are = all_so IsTarget (λ span. OwnsSlot z.scope v (meaning_at z.scope span)) (λ span is. target_owns v (meaning_at z.scope span) own is) spans are

  -- What a sound expression assigns has other slots than a variable in scope that it doesn't assign,
  pub sound_owns : (e : Expr) (v : Option Meaning) → (soundness e).value z ≡ true → IsOwner v → OwnsAmong z.scope v (parts_of e).assigned
  sound_owns e v is own = all_own v (parts_of e).assigned own ((expression_targets e).value is)

  -- and so what a sound initialiser does.
  pub init_sound_owns : (i : Init) (v : Option Meaning) → init_soundness i z ≡ true → IsOwner v → OwnsAmong z.scope v (init_parts i).assigned
  init_sound_owns i v is own = all_own v (init_parts i).assigned own (initialiser_targets i is)
