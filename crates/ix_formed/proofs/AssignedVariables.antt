-- The variables that an expression assigns are put behind those that are known.
use Rattle.std.proofs.Common.{◌≡◌, ℕ, Bool, true, false, List, [], ◌∷◌, ◌++◌, map, Option, Some, None, refl, sym, ap, subst, ◌∙◌, append_assoc}
use Rattle.std.specs.Prelude.{if◌then◌else◌, ◌==◌}
use Rattle.std.proofs.lemmas.Bool.{false≢true}
use Rattle.std.proofs.lemmas.List.{append-nil}
use Rattle.ix_text.specs.declared.span.Span.{Span}
use Rattle.ix_core.specs.declared.program.Local.{Local}
use Rattle.ix_tree.specs.declared.expr.Expr.{Expr, Expr-F, ind-Expr, map-Expr, roll-Expr, fold-roll-Expr}
use Rattle.ix_tree.specs.declared.expr.ExprKind.{ExprKind, ExprKind-F, map-ExprKind, roll-ExprKind, fold-ExprKind, fold-roll-ExprKind}
use Rattle.ix_tree.specs.declared.expr.Init.{Init, Init-F, ind-Init, map-Init, roll-Init, fold-roll-Init}
use Rattle.ix_meaning.specs.declared.note.Meaning.{Meaning}
use Rattle.ix_meaning.specs.declared.note.Meaning.TheVariants as meaning
use Rattle.ix_plain.specs.Scope.{Site, Scope, meaning_at, is_among}
use Rattle.ix_plain.specs.Assigned as assigned
use Rattle.ix_plain.specs.Assigned.{Adding, Assigns, none, both, all, each, with_slot, through, assigns, init_assigns}

-- ---- slots in a list

pub among_left : (slot : ℕ) (xs ys : List ℕ) → is_among slot xs ≡ true → is_among slot (xs ++ ys) ≡ true
among_left slot [] ys e = absurd (false≢true e)
among_left slot (x ∷ xs) ys e = here (x == slot) (among_left slot xs ys) e
  where
    here : (b : Bool) → (is_among slot xs ≡ true → is_among slot (xs ++ ys) ≡ true) → (if b then true else is_among slot xs) ≡ true → (if b then true else is_among slot (xs ++ ys)) ≡ true
    here true rest e = refl
    here false rest e = rest e

pub among_right : (slot : ℕ) (xs ys : List ℕ) → is_among slot ys ≡ true → is_among slot (xs ++ ys) ≡ true
among_right slot [] ys e = e
among_right slot (x ∷ xs) ys e = here (x == slot) (among_right slot xs ys e)
  where
    here : (b : Bool) → is_among slot (xs ++ ys) ≡ true → (if b then true else is_among slot (xs ++ ys)) ≡ true
    here true rest = refl
    here false rest = rest

-- ---- what is added

abbrev at : Site → List (Local × Span) → List ℕ → Scope
at site locals assigned = record { site = site; locals = locals; assigned = assigned }

-- it comes behind what is known, and doesn't depend on what is assigned
abbrev pub Appends : Adding → Type 0
Appends adding = (site : Site) (locals : List (Local × Span)) (one other known : List ℕ) → adding (at site locals one) known ≡ known ++ adding (at site locals other) []

pub none_appends : Appends none
none_appends site locals one other known = sym (append-nil known)

pub both_append : (f g : Adding) → Appends f → Appends g → Appends (both f g)
both_append f g a b site locals one other known =
    b site locals one other (f (at site locals one) known)
    ∙ ap (λ l. l ++ g (at site locals other) []) (a site locals one other known)
    ∙ append_assoc known (f (at site locals other) []) (g (at site locals other) [])
    ∙ ap (λ l. known ++ l) (sym (b site locals other other (f (at site locals other) [])))

slot_appends : (span : Span) → Appends (λ scope known. with_slot scope (meaning_at scope span) known)
slot_appends span site locals one other known = by_meaning (meaning_at (at site locals one) span)
  where
    by_meaning : (m : Option Meaning) → with_slot (at site locals one) m known ≡ known ++ with_slot (at site locals other) m []
    by_meaning (Some (meaning.Local k)) = refl
    by_meaning (Some (meaning.Param k)) = refl
    by_meaning (Some (meaning.FieldNamed k)) = sym (append-nil known)
    by_meaning (Some (meaning.Constant n)) = sym (append-nil known)
    by_meaning (Some (meaning.ClassNamed k)) = sym (append-nil known)
    by_meaning (Some (meaning.MethodNamed k)) = sym (append-nil known)
    by_meaning (Some meaning.LengthOf) = sym (append-nil known)
    by_meaning None = sym (append-nil known)

-- both of an expression
abbrev AllAppend : Assigns → Type 0
AllAppend a = Appends a.own × Appends a.inside

through_appends : (f : Adding) → Appends f → AllAppend (through f)
through_appends f a = (none_appends, a)

abbrev kind_assigns : ExprKind → Assigns
kind_assigns = fold-ExprKind Assigns Adding Assigns assigned.kind_step assigned.init_step assigned.expr_step

abbrev KindIs : ExprKind → Type 0
KindIs k = AllAppend (kind_assigns k)

abbrev InitIs : Init → Type 0
InitIs i = Appends (init_assigns i)

abbrev ExprIs : Expr → Type 0
ExprIs e = AllAppend (assigns e)

module _ {K I E : Type 0} (kind : K → ExprKind) (init : I → Init) (expr : E → Expr) (init_is : (i : I) → InitIs (init i)) (expr_is : (e : E) → ExprIs (expr e)) where
  args_append : (es : List E) → Appends (all (each (map assigns (map expr es))))
  args_append [] = none_appends
  args_append (e ∷ es) = both_append (assigns (expr e)).inside (all (each (map assigns (map expr es)))) (expr_is e).1 (args_append es)

  items_append : (is : List I) → Appends (all (map init_assigns (map init is)))
  items_append [] = none_appends
  items_append (i ∷ is) = both_append (init_assigns (init i)) (all (map init_assigns (map init is))) (init_is i) (items_append is)

  kind_layer : (y : ExprKind-F K I E)
      → AllAppend (assigned.kind_step (map-ExprKind ExprKind Init Expr Assigns Adding Assigns kind_assigns init_assigns assigns (map-ExprKind K I E ExprKind Init Expr kind init expr y)))
  kind_layer (ExprKind-F.Int n) = through_appends none none_appends
  kind_layer (ExprKind-F.Bool answer) = through_appends none none_appends
  kind_layer ExprKind-F.Null = through_appends none none_appends
  kind_layer ExprKind-F.This = through_appends none none_appends
  kind_layer (ExprKind-F.Name ident) = (slot_appends ident.span, none_appends)
  kind_layer (ExprKind-F.Select object ident) = through_appends (assigns (expr object)).inside (expr_is object).1
  kind_layer (ExprKind-F.Index array index) = through_appends (both (assigns (expr array)).inside (assigns (expr index)).inside) (both_append (assigns (expr array)).inside (assigns (expr index)).inside (expr_is array).1 (expr_is index).1)
  kind_layer (ExprKind-F.Call None ident args) = through_appends (both none (all (each (map assigns (map expr args))))) (both_append none (all (each (map assigns (map expr args)))) none_appends (args_append args))
  kind_layer (ExprKind-F.Call (Some object) ident args) =
      through_appends (both (assigns (expr object)).inside (all (each (map assigns (map expr args))))) (both_append (assigns (expr object)).inside (all (each (map assigns (map expr args)))) (expr_is object).1 (args_append args))
  kind_layer (ExprKind-F.New ident args) = through_appends (all (each (map assigns (map expr args)))) (args_append args)
  kind_layer (ExprKind-F.NewArray ty size) = through_appends (assigns (expr size)).inside (expr_is size).1
  kind_layer (ExprKind-F.NewItems ty items) = through_appends (all (map init_assigns (map init items))) (items_append items)
  kind_layer (ExprKind-F.Unary operator operand) = through_appends (assigns (expr operand)).inside (expr_is operand).1
  kind_layer (ExprKind-F.Binary operator left right) = through_appends (both (assigns (expr left)).inside (assigns (expr right)).inside) (both_append (assigns (expr left)).inside (assigns (expr right)).inside (expr_is left).1 (expr_is right).1)
  kind_layer (ExprKind-F.Assign operator target value) =
      let t = assigns (expr target) in let v = assigns (expr value) in
      through_appends (both t.own (both t.inside v.inside)) (both_append t.own (both t.inside v.inside) (expr_is target).0 (both_append t.inside v.inside (expr_is target).1 (expr_is value).1))
  kind_layer (ExprKind-F.Step up after target) = let t = assigns (expr target) in through_appends (both t.own t.inside) (both_append t.own t.inside (expr_is target).0 (expr_is target).1)

  kind_rolled : (y : ExprKind-F K I E) → KindIs (roll-ExprKind (map-ExprKind K I E ExprKind Init Expr kind init expr y))
  kind_rolled y = subst AllAppend (sym (fold-roll-ExprKind Assigns Adding Assigns assigned.kind_step assigned.init_step assigned.expr_step (map-ExprKind K I E ExprKind Init Expr kind init expr y))) (kind_layer y)

  init_layer : (y : Init-F K I E) → Appends (assigned.init_step (map-Init ExprKind Init Expr Assigns Adding Assigns kind_assigns init_assigns assigns (map-Init K I E ExprKind Init Expr kind init expr y)))
  init_layer (Init-F.Value e) = (expr_is e).1
  init_layer (Init-F.Items items span) = items_append items

  init_rolled : (y : Init-F K I E) → InitIs (roll-Init (map-Init K I E ExprKind Init Expr kind init expr y))
  init_rolled y = subst Appends (sym (fold-roll-Init Assigns Adding Assigns assigned.kind_step assigned.init_step assigned.expr_step (map-Init K I E ExprKind Init Expr kind init expr y))) (init_layer y)

  expr_rolled : ((k : K) → KindIs (kind k)) → (y : Expr-F K I E) → ExprIs (roll-Expr (map-Expr K I E ExprKind Init Expr kind init expr y))
  expr_rolled kind_is y = subst AllAppend (sym (fold-roll-Expr Assigns Adding Assigns assigned.kind_step assigned.init_step assigned.expr_step (map-Expr K I E ExprKind Init Expr kind init expr y))) (kind_is y.kind)

pub assigns_append : (e : Expr) → Appends (assigns e).own × Appends (assigns e).inside
assigns_append = ind-Expr KindIs InitIs ExprIs
    (λ x y e. subst (λ layer. KindIs (roll-ExprKind layer)) e (kind_rolled (λ k. k.0) (λ i. i.0) (λ x. x.0) (λ i. i.1) (λ x. x.1) y))
    (λ x y e. subst (λ layer. InitIs (roll-Init layer)) e (init_rolled (λ k. k.0) (λ i. i.0) (λ x. x.0) (λ i. i.1) (λ x. x.1) y))
    (λ x y e. subst (λ layer. ExprIs (roll-Expr layer)) e (expr_rolled (λ k. k.0) (λ i. i.0) (λ x. x.0) (λ i. i.1) (λ x. x.1) (λ k. k.1) y))

pub init_assigns_append : (i : Init) → Appends (init_assigns i)
init_assigns_append = ind-Init KindIs InitIs ExprIs
    (λ x y e. subst (λ layer. KindIs (roll-ExprKind layer)) e (kind_rolled (λ k. k.0) (λ i. i.0) (λ x. x.0) (λ i. i.1) (λ x. x.1) y))
    (λ x y e. subst (λ layer. InitIs (roll-Init layer)) e (init_rolled (λ k. k.0) (λ i. i.0) (λ x. x.0) (λ i. i.1) (λ x. x.1) y))
    (λ x y e. subst (λ layer. ExprIs (roll-Expr layer)) e (expr_rolled (λ k. k.0) (λ i. i.0) (λ x. x.0) (λ i. i.1) (λ x. x.1) (λ k. k.1) y))
