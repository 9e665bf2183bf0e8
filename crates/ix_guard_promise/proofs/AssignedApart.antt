-- No variable in a slot is among those that an expression assigns, where no name that it assigns means a variable in that slot.
use Rattle.std.proofs.Common.{◌≡◌, ℕ, Bool, true, false, List, [], ◌∷◌, ◌++◌, map, Option, Some, None, refl, sym, ap, subst, arith}
use Rattle.std.specs.Prelude.{◌==◌, if◌then◌else◌}
use Rattle.std.proofs.lemmas.Bool.Decides.{nat_tests}
use Rattle.ix_text.specs.declared.span.Span.{Span}
use Rattle.ix_tree.specs.declared.expr.Expr.{Expr, Expr-F, ind-Expr, map-Expr, roll-Expr, fold-roll-Expr}
use Rattle.ix_tree.specs.declared.expr.ExprKind.{ExprKind, ExprKind-F, map-ExprKind, roll-ExprKind, fold-ExprKind, fold-roll-ExprKind}
use Rattle.ix_tree.specs.declared.expr.Init.{Init, Init-F, ind-Init, map-Init, roll-Init, fold-roll-Init}
use Rattle.ix_meaning.specs.declared.note.Meaning.{Meaning}
use Rattle.ix_meaning.specs.declared.note.Meaning.TheVariants as meaning
use Rattle.ix_plain.specs.declared.made.Spot.{Spot}
use Rattle.ix_plain.specs.declared.made.Spot.TheVariants as spot
use Rattle.ix_plain.specs.Scope.{Scope, slot_of, meaning_at, is_among}
use Rattle.ix_plain.specs.Values.{named_spot}
use Rattle.ix_plain.specs.Assigned as assigned
use Rattle.ix_plain.specs.Assigned.{Adding, Assigns, with_slot, assigns, init_assigns}
use Rattle.ix_formed.specs.Additions.{AllOf}
use Rattle.ix_formed.proofs.NumberLists.{all_split, all_so}
use Rattle.ix_guard.specs.Accesses as accesses
use Rattle.ix_guard.specs.Accesses.{Parts, Reading, reading, parts_of, init_parts, place_of}
use Rattle.ix_guard_promise.specs.Targets.{IsApart, AssignsApart}
use Rattle.ix_guard_promise.proofs.KeptFits.{Unassigned}

-- the spot is no variable in that slot
abbrev IsNot : ℕ → Spot → Type 0
IsNot slot (spot.Variable at) = (slot == at) ≡ false
IsNot slot (spot.FieldOf object field) = Unit {0}
IsNot slot (spot.Cell of at ty span) = Unit {0}

not_last : (slot at : ℕ) (known : List ℕ) → (slot == at) ≡ false → is_among slot known ≡ false → is_among slot (known ++ at ∷ []) ≡ false
not_last slot at [] differs free =
    let e : (at == slot) ≡ false = grind (arith, nat_tests) in ap (λ b. if b then true else false) e
not_last slot at (first ∷ known) differs free = here (first == slot) free (not_last slot at known differs)
  where
    here : (b : Bool) → (if b then true else is_among slot known) ≡ false → (is_among slot known ≡ false → is_among slot (known ++ at ∷ []) ≡ false)
        → (if b then true else is_among slot (known ++ at ∷ [])) ≡ false
    here true e rest = e
    here false e rest = rest e

module _ (slot : ℕ) (scope : Scope) where
  -- what is added isn't that slot
  abbrev Misses : Adding → Type 0
  Misses adding = (known : List ℕ) → is_among slot known ≡ false → is_among slot (adding scope known) ≡ false

  abbrev Other : List Span → Type 0
  Other spans = AllOf (λ span. IsNot slot (named_spot scope (meaning_at scope span))) spans

  both_miss : (f g : Adding) → Misses f → Misses g → Misses (assigned.both f g)
  both_miss f g a b known free = b (f scope known) (a known free)

  slot_misses : (m : Option Meaning) → IsNot slot (named_spot scope m) → (known : List ℕ) → is_among slot known ≡ false → is_among slot (with_slot scope m known) ≡ false
  slot_misses (Some (meaning.Local n)) other known free = not_last slot (slot_of scope (Some (meaning.Local n))) known other free
  slot_misses (Some (meaning.Param n)) other known free = not_last slot (slot_of scope (Some (meaning.Param n))) known other free
  slot_misses (Some (meaning.FieldNamed n)) other known free = free
  slot_misses (Some (meaning.Constant n)) other known free = free
  slot_misses (Some (meaning.ClassNamed n)) other known free = free
  slot_misses (Some (meaning.MethodNamed n)) other known free = free
  slot_misses (Some meaning.LengthOf) other known free = free
  slot_misses None other known free = free

  record Missing (r : Reading) (a : Assigns) : Type 0 where
    own : Other (place_of r.name) → Misses a.own
    inside : Other r.parts.assigned → Misses a.inside

  abbrev InitMissing : Parts → Adding → Type 0
  InitMissing p a = Other p.assigned → Misses a

  moved : {r q : Reading} {a b : Assigns} → r ≡ q → a ≡ b → Missing q b → Missing r a
  moved {r} {q} {a} {b} one two holds = subst (λ x. Missing x a) (sym one) (subst (λ x. Missing q x) (sym two) holds)

  moved_init : {r q : Parts} {a b : Adding} → r ≡ q → a ≡ b → InitMissing q b → InitMissing r a
  moved_init {r} {q} {a} {b} one two holds = subst (λ x. InitMissing x a) (sym one) (subst (λ (x : Adding). InitMissing q x) (sym two) holds)

  abbrev kind_reading : ExprKind → Reading
  kind_reading = fold-ExprKind Reading Parts Reading accesses.kind_step accesses.init_step accesses.expr_step

  abbrev kind_assigns : ExprKind → Assigns
  kind_assigns = fold-ExprKind Assigns Adding Assigns assigned.kind_step assigned.init_step assigned.expr_step

  abbrev KindIs : ExprKind → Type 0
  KindIs k = Missing (kind_reading k) (kind_assigns k)

  abbrev InitIs : Init → Type 0
  InitIs i = InitMissing (init_parts i) (init_assigns i)

  abbrev ExprIs : Expr → Type 0
  ExprIs e = Missing (reading e) (assigns e)

  split : (first second : List Span) → Other (first ++ second) → Other first × Other second
  split first second other = all_split (λ span. IsNot slot (named_spot scope (meaning_at scope span))) first second other

  -- a form that is no name
  inside_only : (parts : Parts) (adding : Adding) → (Other parts.assigned → Misses adding) → Missing (accesses.unnamed parts) (assigned.through adding)
  inside_only parts adding misses = record { own = λ other known free. free; inside = misses }

  module _ {K I E : Type 0} (kind : K → ExprKind) (init : I → Init) (expr : E → Expr) (init_is : (i : I) → InitIs (init i)) (expr_is : (e : E) → ExprIs (expr e)) where
    pair_miss : (a b : E) → Other ((parts_of (expr a)).assigned ++ (parts_of (expr b)).assigned) → Misses (assigned.both (assigns (expr a)).inside (assigns (expr b)).inside)
    pair_miss a b other =
        let o = split (parts_of (expr a)).assigned (parts_of (expr b)).assigned other in
        both_miss (assigns (expr a)).inside (assigns (expr b)).inside ((expr_is a).inside o.0) ((expr_is b).inside o.1)

    args_miss : (es : List E) → Other (accesses.all (accesses.each (map reading (map expr es)))).assigned → Misses (assigned.all (assigned.each (map assigns (map expr es))))
    args_miss [] other = λ known free. free
    args_miss (e ∷ es) other =
        let o = split (parts_of (expr e)).assigned (accesses.all (accesses.each (map reading (map expr es)))).assigned other in
        both_miss (assigns (expr e)).inside (assigned.all (assigned.each (map assigns (map expr es)))) ((expr_is e).inside o.0) (args_miss es o.1)

    items_miss : (is : List I) → Other (accesses.all (map init_parts (map init is))).assigned → Misses (assigned.all (map init_assigns (map init is)))
    items_miss [] other = λ known free. free
    items_miss (i ∷ is) other =
        let o = split (init_parts (init i)).assigned (accesses.all (map init_parts (map init is))).assigned other in
        both_miss (init_assigns (init i)) (assigned.all (map init_assigns (map init is))) (init_is i o.0) (items_miss is o.1)

    kind_layer : (y : ExprKind-F K I E) → Missing
        (accesses.kind_step (map-ExprKind ExprKind Init Expr Reading Parts Reading kind_reading init_parts reading (map-ExprKind K I E ExprKind Init Expr kind init expr y)))
        (assigned.kind_step (map-ExprKind ExprKind Init Expr Assigns Adding Assigns kind_assigns init_assigns assigns (map-ExprKind K I E ExprKind Init Expr kind init expr y)))
    kind_layer (ExprKind-F.Int n) = inside_only accesses.nothing assigned.none (λ other known free. free)
    kind_layer (ExprKind-F.Bool answer) = inside_only accesses.nothing assigned.none (λ other known free. free)
    kind_layer ExprKind-F.Null = inside_only accesses.nothing assigned.none (λ other known free. free)
    kind_layer ExprKind-F.This = inside_only accesses.nothing assigned.none (λ other known free. free)
    kind_layer (ExprKind-F.Name ident) = record { own = λ other. slot_misses (meaning_at scope ident.span) other.0; inside = λ other known free. free }
    kind_layer (ExprKind-F.Select object ident) = inside_only (parts_of (expr object)) (assigns (expr object)).inside (expr_is object).inside
    kind_layer (ExprKind-F.Index of at) = record { own = λ other known free. free; inside = pair_miss of at }
    kind_layer (ExprKind-F.Call None ident args) = record {
      own = λ other known free. free;
      inside = λ other. both_miss assigned.none (assigned.all (assigned.each (map assigns (map expr args)))) (λ known free. free) (args_miss args other);
    }
    kind_layer (ExprKind-F.Call (Some object) ident args) = record {
      own = λ other known free. free;
      inside = λ other.
          let o = split (parts_of (expr object)).assigned (accesses.all (accesses.each (map reading (map expr args)))).assigned other in
          both_miss (assigns (expr object)).inside (assigned.all (assigned.each (map assigns (map expr args)))) ((expr_is object).inside o.0) (args_miss args o.1);
    }
    kind_layer (ExprKind-F.New ident args) = record { own = λ other known free. free; inside = args_miss args }
    kind_layer (ExprKind-F.NewArray ty size) = inside_only (parts_of (expr size)) (assigns (expr size)).inside (expr_is size).inside
    kind_layer (ExprKind-F.NewItems ty items) = record { own = λ other known free. free; inside = items_miss items }
    kind_layer (ExprKind-F.Unary operator operand) = inside_only (parts_of (expr operand)) (assigns (expr operand)).inside (expr_is operand).inside
    kind_layer (ExprKind-F.Binary operator left right) = record { own = λ other known free. free; inside = pair_miss left right }
    kind_layer (ExprKind-F.Assign operator target value) = record {
      own = λ other known free. free;
      inside = λ other.
          let o = split (place_of (reading (expr target)).name ++ (parts_of (expr target)).assigned) (parts_of (expr value)).assigned other in
          let p = split (place_of (reading (expr target)).name) (parts_of (expr target)).assigned o.0 in
          both_miss (assigns (expr target)).own (assigned.both (assigns (expr target)).inside (assigns (expr value)).inside) ((expr_is target).own p.0)
          (both_miss (assigns (expr target)).inside (assigns (expr value)).inside ((expr_is target).inside p.1) ((expr_is value).inside o.1));
    }
    kind_layer (ExprKind-F.Step up after target) = record {
      own = λ other known free. free;
      inside = λ other.
          let p = split (place_of (reading (expr target)).name) (parts_of (expr target)).assigned other in
          both_miss (assigns (expr target)).own (assigns (expr target)).inside ((expr_is target).own p.0) ((expr_is target).inside p.1);
    }

    kind_rolled : (y : ExprKind-F K I E) → KindIs (roll-ExprKind (map-ExprKind K I E ExprKind Init Expr kind init expr y))
    kind_rolled y =
        let b = fold-roll-ExprKind Reading Parts Reading accesses.kind_step accesses.init_step accesses.expr_step (map-ExprKind K I E ExprKind Init Expr kind init expr y) in
        let c = fold-roll-ExprKind Assigns Adding Assigns assigned.kind_step assigned.init_step assigned.expr_step (map-ExprKind K I E ExprKind Init Expr kind init expr y) in
        moved b c (kind_layer y)

    init_layer : (y : Init-F K I E) → InitMissing
        (accesses.init_step (map-Init ExprKind Init Expr Reading Parts Reading kind_reading init_parts reading (map-Init K I E ExprKind Init Expr kind init expr y)))
        (assigned.init_step (map-Init ExprKind Init Expr Assigns Adding Assigns kind_assigns init_assigns assigns (map-Init K I E ExprKind Init Expr kind init expr y)))
    init_layer (Init-F.Value e) other = (expr_is e).inside other
    init_layer (Init-F.Items items span) other = items_miss items other

    init_rolled : (y : Init-F K I E) → InitIs (roll-Init (map-Init K I E ExprKind Init Expr kind init expr y))
    init_rolled y =
        let b = fold-roll-Init Reading Parts Reading accesses.kind_step accesses.init_step accesses.expr_step (map-Init K I E ExprKind Init Expr kind init expr y) in
        let c = fold-roll-Init Assigns Adding Assigns assigned.kind_step assigned.init_step assigned.expr_step (map-Init K I E ExprKind Init Expr kind init expr y) in
        moved_init b c (init_layer y)

    expr_rolled : ((k : K) → KindIs (kind k)) → (y : Expr-F K I E) → ExprIs (roll-Expr (map-Expr K I E ExprKind Init Expr kind init expr y))
    expr_rolled kind_is y =
        let b = fold-roll-Expr Reading Parts Reading accesses.kind_step accesses.init_step accesses.expr_step (map-Expr K I E ExprKind Init Expr kind init expr y) in
        let c = fold-roll-Expr Assigns Adding Assigns assigned.kind_step assigned.init_step assigned.expr_step (map-Expr K I E ExprKind Init Expr kind init expr y) in
        moved b c (kind_is y.kind)

  expression_misses : (e : Expr) → ExprIs e
  expression_misses = ind-Expr KindIs InitIs ExprIs
      (λ x y e. subst (λ layer. KindIs (roll-ExprKind layer)) e (kind_rolled (λ k. k.0) (λ i. i.0) (λ x. x.0) (λ i. i.1) (λ x. x.1) y))
      (λ x y e. subst (λ layer. InitIs (roll-Init layer)) e (init_rolled (λ k. k.0) (λ i. i.0) (λ x. x.0) (λ i. i.1) (λ x. x.1) y))
      (λ x y e. subst (λ layer. ExprIs (roll-Expr layer)) e (expr_rolled (λ k. k.0) (λ i. i.0) (λ x. x.0) (λ i. i.1) (λ x. x.1) (λ k. k.1) y))

  initialiser_misses : (i : Init) → InitIs i
  initialiser_misses = ind-Init KindIs InitIs ExprIs
      (λ x y e. subst (λ layer. KindIs (roll-ExprKind layer)) e (kind_rolled (λ k. k.0) (λ i. i.0) (λ x. x.0) (λ i. i.1) (λ x. x.1) y))
      (λ x y e. subst (λ layer. InitIs (roll-Init layer)) e (init_rolled (λ k. k.0) (λ i. i.0) (λ x. x.0) (λ i. i.1) (λ x. x.1) y))
      (λ x y e. subst (λ layer. ExprIs (roll-Expr layer)) e (expr_rolled (λ k. k.0) (λ i. i.0) (λ x. x.0) (λ i. i.1) (λ x. x.1) (λ k. k.1) y))

module _ (array index : ℕ) (scope : Scope) where
  first_other : (at : Spot) → IsApart array index at → IsNot array at
  first_other (spot.Variable slot) apart = apart.0
  first_other (spot.FieldOf object field) apart = tt
  first_other (spot.Cell of at ty span) apart = tt

  second_other : (at : Spot) → IsApart array index at → IsNot index at
  second_other (spot.Variable slot) apart = apart.1
  second_other (spot.FieldOf object field) apart = tt
  second_other (spot.Cell of at ty span) apart = tt

  firsts : (spans : List Span) → AssignsApart array index scope spans → AllOf (λ span. IsNot array (named_spot scope (meaning_at scope span))) spans
  firsts spans apart = all_so (λ span. IsApart array index (named_spot scope (meaning_at scope span))) (λ span. IsNot array (named_spot scope (meaning_at scope span)))
      (λ span a. first_other (named_spot scope (meaning_at scope span)) a) spans apart

  seconds : (spans : List Span) → AssignsApart array index scope spans → AllOf (λ span. IsNot index (named_spot scope (meaning_at scope span))) spans
  seconds spans apart = all_so (λ span. IsApart array index (named_spot scope (meaning_at scope span))) (λ span. IsNot index (named_spot scope (meaning_at scope span)))
      (λ span a. second_other (named_spot scope (meaning_at scope span)) a) spans apart

  -- An expression that assigns no variable in the two slots.
  pub unassigned : (e : Expr) → AssignsApart array index scope (parts_of e).assigned → Unassigned array index ((assigns e).inside scope [])
  unassigned e apart = record {
    array_free = (expression_misses array scope e).inside (firsts (parts_of e).assigned apart) [] refl;
    index_free = (expression_misses index scope e).inside (seconds (parts_of e).assigned apart) [] refl;
  }

  -- so an initialiser
  pub init_unassigned : (i : Init) → AssignsApart array index scope (init_parts i).assigned → Unassigned array index (init_assigns i scope [])
  init_unassigned i apart = record {
    array_free = initialiser_misses array scope i (firsts (init_parts i).assigned apart) [] refl;
    index_free = initialiser_misses index scope i (seconds (init_parts i).assigned apart) [] refl;
  }
