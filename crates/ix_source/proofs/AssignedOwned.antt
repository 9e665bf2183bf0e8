-- What a sound expression assigns are variables in scope: so the setting in which it stands has what the simulation asks of it.
use Rattle.std.proofs.Common.{◌≡◌, ◌≤◌, ◌<◌, ℕ, Bool, true, false, List, [], ◌∷◌, ◌++◌, map, Option, Some, None, refl, sym, ap, subst, ◌∙◌, arith}
use Rattle.std.specs.Prelude.{if◌then◌else◌, not, nat_lt, ◌==◌}
use Rattle.std.proofs.lemmas.Bool.{false≢true, and_parts}
use Rattle.std.proofs.lemmas.Bool.Decides.{nat_tests}
use Rattle.ix_text.specs.declared.span.Span.{Span}
use Rattle.ix_core.specs.Types.{is_void}
use Rattle.ix_core.proofs.Cases.{by_test, equal}
use Rattle.ix_tree.specs.declared.expr.Expr.{Expr, Expr-F, ind-Expr, map-Expr, roll-Expr, fold-roll-Expr}
use Rattle.ix_tree.specs.declared.expr.ExprKind.{ExprKind, ExprKind-F, map-ExprKind, roll-ExprKind, fold-ExprKind, fold-roll-ExprKind}
use Rattle.ix_tree.specs.declared.expr.Init.{Init, Init-F, ind-Init, map-Init, roll-Init, fold-roll-Init}
use Rattle.ix_meaning.specs.declared.note.Meaning.{Meaning}
use Rattle.ix_meaning.specs.declared.note.Meaning.TheVariants as meaning
use Rattle.ix_plain.specs.declared.body.Body.{Body}
use Rattle.ix_plain.specs.Assigned as assigned
use Rattle.ix_plain.specs.Assigned.{Adding, Assigns, all, each, maybe, with_slot, assigns, init_assigns, all_assign, both, none}
use Rattle.ix_plain.specs.Scope.{slot_of, meaning_at, type_at, is_among, head_at}
use Rattle.ix_plain.specs.Statements.{scope_of, assigned_by}
use Rattle.ix_formed.proofs.AssignedVariables.{Appends, assigns_append, init_assigns_append, none_appends, both_append}
use Rattle.ix_source.specs.Along.{Setting}
use Rattle.ix_source.specs.Running.{Ground, owner, in_scope, standing}
use Rattle.ix_source.specs.SoundStatements.{AddsOwn, AssignsOwn}
use Rattle.ix_source.specs.Sound as sound
use Rattle.ix_source.specs.Sound.{Soundness, soundness, init_soundness, used, all_used}

among_either : {G : Type 0} (slot : ℕ) (xs ys : List ℕ) → is_among slot (xs ++ ys) ≡ true → (is_among slot xs ≡ true → G) → (is_among slot ys ≡ true → G) → G
among_either slot [] ys e one other = other e
among_either slot (x ∷ xs) ys e one other = by_first (x == slot) e one (λ rest is. among_either slot xs ys rest is other)
  where
    by_first : {G : Type 0} (b : Bool) → (if b then true else is_among slot (xs ++ ys)) ≡ true → ((if b then true else is_among slot xs) ≡ true → G) → (is_among slot (xs ++ ys) ≡ true → (is_among slot xs ≡ true → G) → G) → G
    by_first true e one rest = one refl
    by_first false e one rest = rest e one

module _ (z : Setting) where
  -- a variable in scope has the slot
  abbrev pub IsOwned : ℕ → Type 0
  IsOwned slot = (m : Meaning) × (z.owner slot ≡ Some m)

  -- what is added are slots of variables in scope
  abbrev pub Owns : Adding → Type 0
  Owns adding = (slot : ℕ) → is_among slot (adding z.scope []) ≡ true → IsOwned slot

  none_owned : Owns none
  none_owned slot e = absurd (false≢true e)

  both_owned : (f g : Adding) → Appends g → Owns f → Owns g → Owns (both f g)
  both_owned f g appends a b slot e =
      let split : both f g z.scope [] ≡ f z.scope [] ++ g z.scope [] = appends z.scope.site z.scope.locals z.scope.assigned z.scope.assigned (f z.scope []) in
      among_either slot (f z.scope []) (g z.scope []) (ap (is_among slot) (sym split) ∙ e) (a slot) (b slot)

  used_value : (s : Soundness) → used s z ≡ true → s.value z ≡ true
  used_value s e = (and_parts (s.value z) (not (is_void (type_at z.scope s.span))) e).0

  -- ---- a name that is assigned

  same_is : (m : Meaning) (o : Option Meaning) → sound.is_same m o ≡ true → o ≡ Some m
  same_is (meaning.Local n) (Some (meaning.Local k)) e = ap (λ n. Some (meaning.Local n)) (equal k n e)
  same_is (meaning.Param n) (Some (meaning.Param k)) e = ap (λ n. Some (meaning.Param n)) (equal k n e)
  same_is (meaning.Local n) _ e = absurd (false≢true e)
  same_is (meaning.Param n) _ e = absurd (false≢true e)
  same_is _ _ e = absurd (false≢true e)

  one_slot : (own slot : ℕ) → (if own == slot then true else false) ≡ true → own ≡ slot
  one_slot own slot e = by_test (own == slot) (λ t. equal own slot t) (λ f. absurd (false≢true (sym (ap (λ b. if b then true else false) f) ∙ e)))

  variable_owned : (m : Meaning) (slot : ℕ) → sound.is_assigned z m ≡ true → (if slot_of z.scope (Some m) == slot then true else false) ≡ true → IsOwned slot
  variable_owned m slot is e =
      let own = (and_parts (sound.is_own z m) _ is).0 in
      (m, ap z.owner (sym (one_slot (slot_of z.scope (Some m)) slot e)) ∙ same_is m (z.owner (slot_of z.scope (Some m))) own)

  target_owned : (o : Option Meaning) → sound.named_target z o ≡ true → (slot : ℕ) → is_among slot (with_slot z.scope o []) ≡ true → IsOwned slot
  target_owned (Some (meaning.Local n)) is slot e = variable_owned (meaning.Local n) slot is e
  target_owned (Some (meaning.Param n)) is slot e = variable_owned (meaning.Param n) slot is e
  target_owned (Some (meaning.FieldNamed n)) is slot e = absurd (false≢true e)
  target_owned (Some (meaning.Constant n)) is slot e = absurd (false≢true is)
  target_owned (Some (meaning.ClassNamed n)) is slot e = absurd (false≢true is)
  target_owned (Some (meaning.MethodNamed n)) is slot e = absurd (false≢true is)
  target_owned (Some meaning.LengthOf) is slot e = absurd (false≢true is)
  target_owned None is slot e = absurd (false≢true is)

  -- ---- what is so of an expression

  pub record AssignsOwned (s : Soundness) (a : Assigns) : Type 0 where
    pub value : s.value z ≡ true → Owns a.inside
    pub unused : s.unused z ≡ true → Owns a.inside
    pub target : s.target z ≡ true → Owns a.own × Owns a.inside

  abbrev InitOwned : (Setting → Bool) → Adding → Type 0
  InitOwned s a = s z ≡ true → Owns a

  -- an expression that can't be assigned
  computed_owned : (value : Setting → Bool) (span : Span) (adding : Adding) → (value z ≡ true → Owns adding) → AssignsOwned (sound.computes value span) (assigned.through adding)
  computed_owned value span adding owns = record { value = owns; unused = owns; target = λ e. absurd (false≢true e) }

  abbrev kind_sound : ExprKind → Span → Soundness
  kind_sound = fold-ExprKind (Span → Soundness) (Setting → Bool) Soundness sound.kind_step sound.init_step sound.expr_step

  abbrev kind_assigns : ExprKind → Assigns
  kind_assigns = fold-ExprKind Assigns Adding Assigns assigned.kind_step assigned.init_step assigned.expr_step

  abbrev KindIs : ExprKind → Type 0
  KindIs k = (span : Span) → AssignsOwned (kind_sound k span) (kind_assigns k)

  abbrev InitIs : Init → Type 0
  InitIs i = InitOwned (init_soundness i) (init_assigns i)

  abbrev ExprIs : Expr → Type 0
  ExprIs e = AssignsOwned (soundness e) (assigns e)

  module _ {K I E : Type 0} (kind : K → ExprKind) (init : I → Init) (expr : E → Expr) (init_is : (i : I) → InitIs (init i)) (expr_is : (e : E) → ExprIs (expr e)) where
    abbrev s_of : E → Soundness
    s_of e = soundness (expr e)

    abbrev as_of : E → Assigns
    as_of e = assigns (expr e)

    used_owned : (e : E) → used (s_of e) z ≡ true → Owns (as_of e).inside
    used_owned e is = (expr_is e).value (used_value (s_of e) is)

    args_append : (es : List E) → Appends (all (each (map assigns (map expr es))))
    args_append [] = none_appends
    args_append (e ∷ es) = both_append (as_of e).inside (all (each (map assigns (map expr es)))) (assigns_append (expr e)).1 (args_append es)

    args_owned : (es : List E) → all_used (map soundness (map expr es)) z ≡ true → Owns (all (each (map assigns (map expr es))))
    args_owned [] is = none_owned
    args_owned (e ∷ es) is =
        let q = and_parts (used (s_of e) z) (all_used (map soundness (map expr es)) z) is in
        both_owned (as_of e).inside (all (each (map assigns (map expr es)))) (args_append es) (used_owned e q.0) (args_owned es q.1)

    items_append : (is : List I) → Appends (all (map init_assigns (map init is)))
    items_append [] = none_appends
    items_append (i ∷ is) = both_append (init_assigns (init i)) (all (map init_assigns (map init is))) (init_assigns_append (init i)) (items_append is)

    items_owned : (is : List I) → sound.all_sound (map init_soundness (map init is)) z ≡ true → Owns (all (map init_assigns (map init is)))
    items_owned [] e = none_owned
    items_owned (i ∷ is) e =
        let q = and_parts (init_soundness (init i) z) (sound.all_sound (map init_soundness (map init is)) z) e in
        both_owned (init_assigns (init i)) (all (map init_assigns (map init is))) (items_append is) (init_is i q.0) (items_owned is q.1)

    pair_owned : (a b : E) → sound.both_used (s_of a) (s_of b) z ≡ true → Owns (both (as_of a).inside (as_of b).inside)
    pair_owned a b is =
        let q = and_parts (used (s_of a) z) (used (s_of b) z) is in
        both_owned (as_of a).inside (as_of b).inside (assigns_append (expr b)).1 (used_owned a q.0) (used_owned b q.1)

    received_owned : (object : E) (static : Bool) → sound.received (Some (s_of object)) static z ≡ true → Owns (as_of object).inside
    received_owned object true is = (expr_is object).unused is
    received_owned object false is = used_owned object is

    selected_owned : (object : E) (o : Option Meaning) → sound.selected (s_of object) z o ≡ true → Owns (as_of object).inside
    selected_owned object (Some (meaning.Constant n)) is = (expr_is object).unused is
    selected_owned object (Some (meaning.FieldNamed n)) is = used_owned object is
    selected_owned object (Some meaning.LengthOf) is = used_owned object is
    selected_owned object (Some (meaning.Local n)) is = absurd (false≢true is)
    selected_owned object (Some (meaning.Param n)) is = absurd (false≢true is)
    selected_owned object (Some (meaning.ClassNamed n)) is = absurd (false≢true is)
    selected_owned object (Some (meaning.MethodNamed n)) is = absurd (false≢true is)
    selected_owned object None is = absurd (false≢true is)

    selected_target : (object : E) (o : Option Meaning) → sound.selected_target (s_of object) z o ≡ true → Owns (as_of object).inside
    selected_target object (Some (meaning.FieldNamed n)) is = used_owned object is
    selected_target object (Some (meaning.Constant n)) is = absurd (false≢true is)
    selected_target object (Some meaning.LengthOf) is = absurd (false≢true is)
    selected_target object (Some (meaning.Local n)) is = absurd (false≢true is)
    selected_target object (Some (meaning.Param n)) is = absurd (false≢true is)
    selected_target object (Some (meaning.ClassNamed n)) is = absurd (false≢true is)
    selected_target object (Some (meaning.MethodNamed n)) is = absurd (false≢true is)
    selected_target object None is = absurd (false≢true is)

    called_owned : (s : Option Soundness) (a : Option Assigns) → ((static : Bool) → sound.received s static z ≡ true → Owns (maybe a)) → (args : List E) (span : Span) (o : Option Meaning) → sound.called s (map soundness (map expr args)) span z o ≡ true
        → Owns (both (maybe a) (all (each (map assigns (map expr args)))))
    called_owned s a owns args span (Some (meaning.MethodNamed n)) is =
        let q = and_parts (sound.is_method z.tables z.scope.site n) _ is in
        let w = and_parts (sound.has_result z n span) _ q.1 in
        let x = and_parts (sound.received s (head_at z.scope.site n).is_static z) (all_used (map soundness (map expr args)) z) w.1 in
        both_owned (maybe a) (all (each (map assigns (map expr args)))) (args_append args) (owns (head_at z.scope.site n).is_static x.0) (args_owned args x.1)
    called_owned s a owns args span (Some (meaning.FieldNamed n)) is = absurd (false≢true is)
    called_owned s a owns args span (Some (meaning.Constant n)) is = absurd (false≢true is)
    called_owned s a owns args span (Some meaning.LengthOf) is = absurd (false≢true is)
    called_owned s a owns args span (Some (meaning.Local n)) is = absurd (false≢true is)
    called_owned s a owns args span (Some (meaning.Param n)) is = absurd (false≢true is)
    called_owned s a owns args span (Some (meaning.ClassNamed n)) is = absurd (false≢true is)
    called_owned s a owns args span None is = absurd (false≢true is)

    created_owned : (args : List E) (o : Option Meaning) → sound.created (map soundness (map expr args)) z o ≡ true → Owns (all (each (map assigns (map expr args))))
    created_owned args (Some (meaning.ClassNamed n)) is = args_owned args (and_parts _ _ is).1
    created_owned args (Some (meaning.FieldNamed n)) is = absurd (false≢true is)
    created_owned args (Some (meaning.Constant n)) is = absurd (false≢true is)
    created_owned args (Some meaning.LengthOf) is = absurd (false≢true is)
    created_owned args (Some (meaning.Local n)) is = absurd (false≢true is)
    created_owned args (Some (meaning.Param n)) is = absurd (false≢true is)
    created_owned args (Some (meaning.MethodNamed n)) is = absurd (false≢true is)
    created_owned args None is = absurd (false≢true is)

    kind_layer : (x : ExprKind-F K I E) → let layer = map-ExprKind K I E ExprKind Init Expr kind init expr x in (span : Span)
        → AssignsOwned (sound.kind_step (map-ExprKind ExprKind Init Expr (Span → Soundness) (Setting → Bool) Soundness kind_sound init_soundness soundness layer) span)
        (assigned.kind_step (map-ExprKind ExprKind Init Expr Assigns Adding Assigns kind_assigns init_assigns assigns layer))
    kind_layer (ExprKind-F.Int n) span = computed_owned (λ z. true) span none (λ is. none_owned)
    kind_layer (ExprKind-F.Bool answer) span = computed_owned (λ z. true) span none (λ is. none_owned)
    kind_layer ExprKind-F.Null span = computed_owned (λ z. true) span none (λ is. none_owned)
    kind_layer ExprKind-F.This span = computed_owned (λ z. z.has_this) span none (λ is. none_owned)
    kind_layer (ExprKind-F.Name ident) span = record { value = λ is. none_owned; unused = λ is. none_owned; target = λ is. (target_owned (meaning_at z.scope ident.span) is, none_owned) }
    kind_layer (ExprKind-F.Select object ident) span = record {
      value = selected_owned object (meaning_at z.scope ident.span);
      unused = selected_owned object (meaning_at z.scope ident.span);
      target = λ is. (none_owned, selected_target object (meaning_at z.scope ident.span) is);
    }
    kind_layer (ExprKind-F.Index array index) span = record { value = pair_owned array index; unused = pair_owned array index; target = λ is. (none_owned, pair_owned array index is) }
    kind_layer (ExprKind-F.Call None ident args) span =
        computed_owned (λ z. sound.called None (map soundness (map expr args)) span z (meaning_at z.scope ident.span)) span (both none (all (each (map assigns (map expr args)))))
        (called_owned None None (λ static is. none_owned) args span (meaning_at z.scope ident.span))
    kind_layer (ExprKind-F.Call (Some object) ident args) span =
        computed_owned (λ z. sound.called (Some (s_of object)) (map soundness (map expr args)) span z (meaning_at z.scope ident.span)) span (both (as_of object).inside (all (each (map assigns (map expr args)))))
        (called_owned (Some (s_of object)) (Some (as_of object)) (received_owned object) args span (meaning_at z.scope ident.span))
    kind_layer (ExprKind-F.New ident args) span = computed_owned _ span _ (created_owned args (meaning_at z.scope ident.span))
    kind_layer (ExprKind-F.NewArray ty size) span = computed_owned _ span _ (used_owned size)
    kind_layer (ExprKind-F.NewItems ty items) span = computed_owned _ span _ (items_owned items)
    kind_layer (ExprKind-F.Unary operator operand) span = computed_owned _ span _ (used_owned operand)
    kind_layer (ExprKind-F.Binary operator left right) span = computed_owned _ span _ (pair_owned left right)
    kind_layer (ExprKind-F.Assign operator target value) span = computed_owned _ span _
        (λ is.
        let q = and_parts ((s_of target).target z) (used (s_of value) z) is in
        let t = (expr_is target).target q.0 in
        both_owned (as_of target).own (both (as_of target).inside (as_of value).inside) (both_append (as_of target).inside (as_of value).inside (assigns_append (expr target)).1 (assigns_append (expr value)).1) t.0
        (both_owned (as_of target).inside (as_of value).inside (assigns_append (expr value)).1 t.1 (used_owned value q.1)))
    kind_layer (ExprKind-F.Step up after target) span = computed_owned _ span _
        (λ is. let t = (expr_is target).target is in both_owned (as_of target).own (as_of target).inside (assigns_append (expr target)).1 t.0 t.1)

    kind_rolled : (x : ExprKind-F K I E) → KindIs (roll-ExprKind (map-ExprKind K I E ExprKind Init Expr kind init expr x))
    kind_rolled x span =
        let layer = map-ExprKind K I E ExprKind Init Expr kind init expr x in
        let l = fold-roll-ExprKind (Span → Soundness) (Setting → Bool) Soundness sound.kind_step sound.init_step sound.expr_step layer in
        let c = fold-roll-ExprKind Assigns Adding Assigns assigned.kind_step assigned.init_step assigned.expr_step layer in
        subst (λ (s : Span → Soundness). AssignsOwned (s span) (kind_assigns (roll-ExprKind layer))) (sym l)
        (subst (λ (a : Assigns). AssignsOwned (sound.kind_step (map-ExprKind ExprKind Init Expr (Span → Soundness) (Setting → Bool) Soundness kind_sound init_soundness soundness layer) span) a) (sym c) (kind_layer x span))

    init_layer : (x : Init-F K I E) → let layer = map-Init K I E ExprKind Init Expr kind init expr x in
        InitOwned (sound.init_step (map-Init ExprKind Init Expr (Span → Soundness) (Setting → Bool) Soundness kind_sound init_soundness soundness layer)) (assigned.init_step (map-Init ExprKind Init Expr Assigns Adding Assigns kind_assigns init_assigns assigns layer))
    init_layer (Init-F.Value e) is = used_owned e is
    init_layer (Init-F.Items items span) is = items_owned items is

    init_rolled : (x : Init-F K I E) → InitIs (roll-Init (map-Init K I E ExprKind Init Expr kind init expr x))
    init_rolled x =
        let layer = map-Init K I E ExprKind Init Expr kind init expr x in
        let l = fold-roll-Init (Span → Soundness) (Setting → Bool) Soundness sound.kind_step sound.init_step sound.expr_step layer in
        let c = fold-roll-Init Assigns Adding Assigns assigned.kind_step assigned.init_step assigned.expr_step layer in
        subst (λ (s : Setting → Bool). InitOwned s (init_assigns (roll-Init layer))) (sym l)
        (subst (λ (a : Adding). InitOwned (sound.init_step (map-Init ExprKind Init Expr (Span → Soundness) (Setting → Bool) Soundness kind_sound init_soundness soundness layer)) a) (sym c) (init_layer x))

    expr_rolled : ((k : K) → KindIs (kind k)) → (x : Expr-F K I E) → ExprIs (roll-Expr (map-Expr K I E ExprKind Init Expr kind init expr x))
    expr_rolled kind_is x =
        let layer = map-Expr K I E ExprKind Init Expr kind init expr x in
        let l = fold-roll-Expr (Span → Soundness) (Setting → Bool) Soundness sound.kind_step sound.init_step sound.expr_step layer in
        let c = fold-roll-Expr Assigns Adding Assigns assigned.kind_step assigned.init_step assigned.expr_step layer in
        let k = kind_is x.kind x.span in
        subst (λ (s : Soundness). AssignsOwned s (assigns (roll-Expr layer))) (sym l)
        (subst (λ (a : Assigns). AssignsOwned (record (kind_sound (kind x.kind) x.span) { span = x.span }) a) (sym c) (record { value = k.value; unused = k.unused; target = k.target }))

  -- What a sound expression assigns are variables in scope,
  pub assigns_owned : (e : Expr) → ExprIs e
  assigns_owned = ind-Expr KindIs InitIs ExprIs
      (λ x y e. subst (λ layer. KindIs (roll-ExprKind layer)) e (kind_rolled (λ k. k.0) (λ i. i.0) (λ x. x.0) (λ i. i.1) (λ x. x.1) y))
      (λ x y e. subst (λ layer. InitIs (roll-Init layer)) e (init_rolled (λ k. k.0) (λ i. i.0) (λ x. x.0) (λ i. i.1) (λ x. x.1) y))
      (λ x y e. subst (λ layer. ExprIs (roll-Expr layer)) e (expr_rolled (λ k. k.0) (λ i. i.0) (λ x. x.0) (λ i. i.1) (λ x. x.1) (λ k. k.1) y))

  -- what a sound initialiser does,
  pub init_assigns_owned : (i : Init) → InitIs i
  init_assigns_owned = ind-Init KindIs InitIs ExprIs
      (λ x y e. subst (λ layer. KindIs (roll-ExprKind layer)) e (kind_rolled (λ k. k.0) (λ i. i.0) (λ x. x.0) (λ i. i.1) (λ x. x.1) y))
      (λ x y e. subst (λ layer. InitIs (roll-Init layer)) e (init_rolled (λ k. k.0) (λ i. i.0) (λ x. x.0) (λ i. i.1) (λ x. x.1) y))
      (λ x y e. subst (λ layer. ExprIs (roll-Expr layer)) e (expr_rolled (λ k. k.0) (λ i. i.0) (λ x. x.0) (λ i. i.1) (λ x. x.1) (λ k. k.1) y))

  all_append : (es : List Expr) → Appends (all_assign es)
  all_append [] = none_appends
  all_append (e ∷ es) = both_append (assigns e).inside (all_assign es) (assigns_append e).1 (all_append es)

  -- and what sound arguments do.
  pub all_assign_owned : (es : List Expr) → all_used (map soundness es) z ≡ true → Owns (all_assign es)
  all_assign_owned [] is = none_owned
  all_assign_owned (e ∷ es) is =
      let q = and_parts (used (soundness e) z) (all_used (map soundness es) z) is in
      both_owned (assigns e).inside (all_assign es) (all_append es) ((assigns_owned e).value (used_value (soundness e) q.0)) (all_assign_owned es q.1)

-- ---- where a full expression stands in a body

module _ (g : Ground) (body : Body) where
  -- What is asked of the variables that a full expression assigns: they are in scope, and none of them is `this`.
  pub record AreAssigned (slots : List ℕ) : Type 0 where
    pub low : (slot : ℕ) → body.made.free ≤ slot → is_among slot slots ≡ false
    pub this : owner g.site body.locals 0 ≡ None → is_among 0 slots ≡ false

  scope_low : (slot : ℕ) (m : Meaning) → in_scope g.site body.locals body.made.free slot ≡ Some m → (slot < body.made.free) × (owner g.site body.locals slot ≡ Some m)
  scope_low slot m e = go (nat_lt slot body.made.free) refl e
    where
      none_some : {G : Type 0} (m : Meaning) → ◌≡◌ {A = Option Meaning} None (Some m) → G
      none_some m e = absurd (cc e)

      go : (b : Bool) → nat_lt slot body.made.free ≡ b → (if b then owner g.site body.locals slot else None) ≡ Some m → (slot < body.made.free) × (owner g.site body.locals slot ≡ Some m)
      go true is e = (grind (arith, nat_tests), e)
      go false is e = none_some m e

  owned_assigned : (adding : Adding) → Appends adding → Owns (standing g body (assigned_by g.site body adding)) adding → AreAssigned (assigned_by g.site body adding)
  owned_assigned adding appends owns = record {
    low = λ slot le. by_test (is_among slot slots) (λ t. let o = owns slot (ap (is_among slot) same ∙ t) in let lt = (scope_low slot o.0 o.1).0 in absurd (omega (arith, le, lt))) (λ f. f);
    this = λ nobody. by_test (is_among 0 slots) (λ t. let o = owns 0 (ap (is_among 0) same ∙ t) in none_some o.0 (sym nobody ∙ (scope_low 0 o.0 o.1).1)) (λ f. f);
  }
    where
      slots : List ℕ
      slots = assigned_by g.site body adding

      same : adding (scope_of g.site body slots) [] ≡ slots
      same = appends g.site body.locals slots [] []

      none_some : {G : Type 0} (m : Meaning) → ◌≡◌ {A = Option Meaning} None (Some m) → G
      none_some m e = absurd (cc e)

  -- so it is of a sound expression,
  pub sound_assigned : (e : Expr) → (soundness e).value (standing g body (assigned_by g.site body (assigns e).inside)) ≡ true → AreAssigned (assigned_by g.site body (assigns e).inside)
  sound_assigned e is = owned_assigned (assigns e).inside (assigns_append e).1 ((assigns_owned (standing g body (assigned_by g.site body (assigns e).inside)) e).value is)

  -- of a sound initialiser,
  pub init_assigned : (i : Init) → init_soundness i (standing g body (assigned_by g.site body (init_assigns i))) ≡ true → AreAssigned (assigned_by g.site body (init_assigns i))
  init_assigned i is = owned_assigned (init_assigns i) (init_assigns_append i) (init_assigns_owned (standing g body (assigned_by g.site body (init_assigns i))) i is)

  -- and of sound arguments.
  pub arguments_assigned : (es : List Expr) → all_used (map soundness es) (standing g body (assigned_by g.site body (all_assign es))) ≡ true → AreAssigned (assigned_by g.site body (all_assign es))
  arguments_assigned es is = owned_assigned (all_assign es) (all_append (standing g body (assigned_by g.site body (all_assign es))) es) (all_assign_owned (standing g body (assigned_by g.site body (all_assign es))) es is)

-- ---- in every setting

pub assigns_own : AssignsOwn
assigns_own = record {
  expression = λ z e is. from_none z (assigns e).inside (assigns_append e).1 ((assigns_owned z e).value is);
  initialiser = λ z i is. from_none z (init_assigns i) (init_assigns_append i) (init_assigns_owned z i is);
  arguments = λ z es is. from_none z (all_assign es) (all_append z es) (all_assign_owned z es is);
}
  where
    -- what is added doesn't depend on what is known to be assigned
    from_none : (z : Setting) (adding : Adding) → Appends adding → Owns z adding → AddsOwn z adding
    from_none z adding appends owns slot among = owns slot (ap (is_among slot) (appends z.scope.site z.scope.locals z.scope.assigned [] []) ∙ among)
