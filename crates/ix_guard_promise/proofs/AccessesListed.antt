-- The accesses on names that the guard looks at are among all accesses of an expression, where names that are indices stand at their places.
use Rattle.std.proofs.Common.{◌≡◌, Bool, true, false, List, [], ◌∷◌, ◌++◌, map, Option, Some, None, refl, sym, ap, subst, inl, inr}
use Rattle.std.specs.Prelude.{if◌then◌else◌}
use Rattle.ix_text.specs.declared.span.Span.{Span}
use Rattle.ix_tree.specs.declared.annot.Ident.{Ident}
use Rattle.ix_tree.specs.declared.decl.LocalDecl.{LocalDecl}
use Rattle.ix_tree.specs.declared.expr.Expr.{Expr, Expr-F, ind-Expr, map-Expr, roll-Expr, fold-roll-Expr}
use Rattle.ix_tree.specs.declared.expr.ExprKind.{ExprKind, ExprKind-F, map-ExprKind, roll-ExprKind, fold-ExprKind, fold-roll-ExprKind}
use Rattle.ix_tree.specs.declared.expr.Init.{Init, Init-F, ind-Init, map-Init, roll-Init, fold-roll-Init}
use Rattle.ix_formed.specs.Additions.{AllOf}
use Rattle.ix_formed.proofs.NumberLists.{all_so, all_split, all_joined}
use Rattle.ix_guard.specs.Accesses as guard
use Rattle.ix_guard.specs.Accesses.{Access, Parts, parts_of, init_parts, decl_parts, all_decl_parts, is_always, own_access, or_inside}
use Rattle.ix_guard_promise.specs.AllAccesses as every
use Rattle.ix_guard_promise.specs.AllAccesses.{AnyAccess, Form, Reading, all, inside, reading, all_accesses, init_accesses, each_of, decl_accesses}
use Rattle.ix_guard_promise.specs.SourceGuards.{IsAmong}
use Rattle.ix_guard_promise.specs.SourceAccesses.{any_of}
use Rattle.ix_guard_promise.specs.StandingIndices.{NamedAt, IndexStands, IndicesStand}
use Rattle.ix_guard_promise.proofs.OneAccess.{among_left, among_right}

-- Each of these accesses on names is one of those accesses.
abbrev pub Listed : List Access → List AnyAccess → Type 0
Listed found accesses = AllOf (λ access. IsAmong (any_of access) accesses) found

listed_left : (xs : List Access) (ys zs : List AnyAccess) → Listed xs ys → Listed xs (ys ++ zs)
listed_left xs ys zs all = all_so _ _ (λ access m. among_left (any_of access) ys zs m) xs all

listed_right : (xs : List Access) (ys zs : List AnyAccess) → Listed xs zs → Listed xs (ys ++ zs)
listed_right xs ys zs all = all_so _ _ (λ access m. among_right (any_of access) ys zs m) xs all

listed_both : (xs us : List Access) (ys zs : List AnyAccess) → Listed xs ys → Listed us zs → Listed (xs ++ us) (ys ++ zs)
listed_both xs us ys zs a b = all_joined _ xs us (listed_left xs ys zs a) (listed_right us ys zs b)

listed_further : (xs : List Access) (y : AnyAccess) (ys : List AnyAccess) → Listed xs ys → Listed xs (y ∷ ys)
listed_further xs y ys all = all_so _ _ (λ access m. inr m) xs all

-- The guard finds in an expression what is in it.
record Finds (found : guard.Reading) (form : Form) : Type 0 where
  name : found.name ≡ form.name
  listed : IndicesStand form.accesses → Listed found.parts.accesses form.accesses

abbrev InitFinds : Parts → List AnyAccess → Type 0
InitFinds found accesses = IndicesStand accesses → Listed found.accesses accesses

own_listed : (array index : Option Ident) (span : Span) (xs : List Access) (ys : List AnyAccess) → NamedAt index span → Listed xs ys
    → Listed (or_inside (own_access array index) xs) (record { array = array; index = index; place = span } ∷ ys)
own_listed (Some array) (Some index) span xs ys at all =
    (inl (ap (λ place. let access : AnyAccess = record { array = Some array; index = Some index; place = place } in access) at), tt)
own_listed (Some array) None span xs ys at all = listed_further xs _ ys all
own_listed None (Some index) span xs ys at all = listed_further xs _ ys all
own_listed None None span xs ys at all = listed_further xs _ ys all

abbrev kind_reading : ExprKind → guard.Reading
kind_reading = fold-ExprKind guard.Reading Parts guard.Reading guard.kind_step guard.init_step guard.expr_step

abbrev kind_form : ExprKind → Form
kind_form = fold-ExprKind Form (List AnyAccess) Reading every.kind_step every.init_step every.expr_step

abbrev KindIs : ExprKind → Type 0
KindIs k = Finds (kind_reading k) (kind_form k)

abbrev InitIs : Init → Type 0
InitIs i = IndicesStand (init_accesses i) → Listed (init_parts i).accesses (init_accesses i)

abbrev ExprIs : Expr → Type 0
ExprIs e = Finds (guard.reading e) (reading e).form

module _ {K I E : Type 0} (kind : K → ExprKind) (init : I → Init) (expr : E → Expr) (init_is : (i : I) → InitIs (init i)) (expr_is : (e : E) → ExprIs (expr e)) where
  own : (e : E) → IndicesStand (all_accesses (expr e)) → Listed (parts_of (expr e)).accesses (all_accesses (expr e))
  own e = (expr_is e).listed

  args_listed : (es : List E) → IndicesStand (all (map inside (map reading (map expr es)))) → Listed (guard.all (guard.each (map guard.reading (map expr es)))).accesses (all (map inside (map reading (map expr es))))
  args_listed [] stand = tt
  args_listed (e ∷ es) stand =
      let later = all (map inside (map reading (map expr es))) in
      let s = all_split IndexStands (all_accesses (expr e)) later stand in
      listed_both (parts_of (expr e)).accesses (guard.all (guard.each (map guard.reading (map expr es)))).accesses (all_accesses (expr e)) later (own e s.0) (args_listed es s.1)

  items_listed : (is : List I) → IndicesStand (all (map init_accesses (map init is))) → Listed (guard.all (map init_parts (map init is))).accesses (all (map init_accesses (map init is)))
  items_listed [] stand = tt
  items_listed (i ∷ is) stand =
      let later = all (map init_accesses (map init is)) in
      let s = all_split IndexStands (init_accesses (init i)) later stand in
      listed_both (init_parts (init i)).accesses (guard.all (map init_parts (map init is))).accesses (init_accesses (init i)) later (init_is i s.0) (items_listed is s.1)

  two_listed : (x y : E) → IndicesStand (all_accesses (expr x) ++ all_accesses (expr y)) → Listed ((parts_of (expr x)).accesses ++ (parts_of (expr y)).accesses) (all_accesses (expr x) ++ all_accesses (expr y))
  two_listed x y stand =
      let s = all_split IndexStands (all_accesses (expr x)) (all_accesses (expr y)) stand in
      listed_both (parts_of (expr x)).accesses (parts_of (expr y)).accesses (all_accesses (expr x)) (all_accesses (expr y)) (own x s.0) (own y s.1)

  kind_layer : (y : ExprKind-F K I E)
      → Finds (guard.kind_step (map-ExprKind ExprKind Init Expr guard.Reading Parts guard.Reading kind_reading init_parts guard.reading (map-ExprKind K I E ExprKind Init Expr kind init expr y)))
      (every.kind_step (map-ExprKind ExprKind Init Expr Form (List AnyAccess) Reading kind_form init_accesses reading (map-ExprKind K I E ExprKind Init Expr kind init expr y)))
  kind_layer (ExprKind-F.Int n) = record { name = refl; listed = λ stand. tt }
  kind_layer (ExprKind-F.Bool answer) = record { name = refl; listed = λ stand. tt }
  kind_layer ExprKind-F.Null = record { name = refl; listed = λ stand. tt }
  kind_layer ExprKind-F.This = record { name = refl; listed = λ stand. tt }
  kind_layer (ExprKind-F.Name name) = record { name = refl; listed = λ stand. tt }
  kind_layer (ExprKind-F.Select object name) = record { name = refl; listed = own object }
  kind_layer (ExprKind-F.Index array index) = record {
    name = refl;
    listed = λ stand.
        let inner = (parts_of (expr array)).accesses ++ (parts_of (expr index)).accesses in
        let others = all_accesses (expr array) ++ all_accesses (expr index) in
        let access = every.accessing (reading (expr array)) (reading (expr index)) in
        subst (λ array_name. Listed (or_inside (own_access array_name (guard.reading (expr index)).name) inner) (access ∷ others)) (sym (expr_is array).name)
        (subst (λ index_name. Listed (or_inside (own_access (reading (expr array)).form.name index_name) inner) (access ∷ others)) (sym (expr_is index).name)
        (own_listed (reading (expr array)).form.name (reading (expr index)).form.name (reading (expr index)).span inner others stand.0 (two_listed array index stand.1)));
  }
  kind_layer (ExprKind-F.Call None name args) = record { name = refl; listed = args_listed args }
  kind_layer (ExprKind-F.Call (Some object) name args) = record {
    name = refl;
    listed = λ stand.
        let later = all (map inside (map reading (map expr args))) in
        let s = all_split IndexStands (all_accesses (expr object)) later stand in
        listed_both (parts_of (expr object)).accesses (guard.all (guard.each (map guard.reading (map expr args)))).accesses (all_accesses (expr object)) later (own object s.0) (args_listed args s.1);
  }
  kind_layer (ExprKind-F.New name args) = record { name = refl; listed = args_listed args }
  kind_layer (ExprKind-F.NewArray ty size) = record { name = refl; listed = own size }
  kind_layer (ExprKind-F.NewItems ty items) = record { name = refl; listed = items_listed items }
  kind_layer (ExprKind-F.Unary op operand) = record { name = refl; listed = own operand }
  kind_layer (ExprKind-F.Binary op left right) = record { name = refl; listed = λ stand. always_or_not (is_always op) stand }
    where
      always_or_not : (b : Bool) → IndicesStand (all_accesses (expr left) ++ all_accesses (expr right))
          → Listed (if b then (parts_of (expr left)).accesses ++ (parts_of (expr right)).accesses else (parts_of (expr left)).accesses) (all_accesses (expr left) ++ all_accesses (expr right))
      always_or_not true stand = two_listed left right stand
      always_or_not false stand =
          listed_left (parts_of (expr left)).accesses (all_accesses (expr left)) (all_accesses (expr right)) (own left (all_split IndexStands (all_accesses (expr left)) (all_accesses (expr right)) stand).0)
  kind_layer (ExprKind-F.Assign op target value) = record { name = refl; listed = two_listed target value }
  kind_layer (ExprKind-F.Step up after target) = record { name = refl; listed = own target }

  kind_rolled : (y : ExprKind-F K I E) → KindIs (roll-ExprKind (map-ExprKind K I E ExprKind Init Expr kind init expr y))
  kind_rolled y =
      let layer = map-ExprKind K I E ExprKind Init Expr kind init expr y in
      let a = fold-roll-ExprKind guard.Reading Parts guard.Reading guard.kind_step guard.init_step guard.expr_step layer in
      let b = fold-roll-ExprKind Form (List AnyAccess) Reading every.kind_step every.init_step every.expr_step layer in
      subst (λ (f : Form). Finds (kind_reading (roll-ExprKind layer)) f) (sym b)
      (subst (λ (r : guard.Reading). Finds r (every.kind_step (map-ExprKind ExprKind Init Expr Form (List AnyAccess) Reading kind_form init_accesses reading layer))) (sym a) (kind_layer y))

  init_layer : (y : Init-F K I E)
      → InitFinds (guard.init_step (map-Init ExprKind Init Expr guard.Reading Parts guard.Reading kind_reading init_parts guard.reading (map-Init K I E ExprKind Init Expr kind init expr y)))
      (every.init_step (map-Init ExprKind Init Expr Form (List AnyAccess) Reading kind_form init_accesses reading (map-Init K I E ExprKind Init Expr kind init expr y)))
  init_layer (Init-F.Value e) = own e
  init_layer (Init-F.Items items span) = items_listed items

  init_rolled : (y : Init-F K I E) → InitIs (roll-Init (map-Init K I E ExprKind Init Expr kind init expr y))
  init_rolled y =
      let layer = map-Init K I E ExprKind Init Expr kind init expr y in
      let a = fold-roll-Init guard.Reading Parts guard.Reading guard.kind_step guard.init_step guard.expr_step layer in
      let b = fold-roll-Init Form (List AnyAccess) Reading every.kind_step every.init_step every.expr_step layer in
      subst (λ (xs : List AnyAccess). InitFinds (init_parts (roll-Init layer)) xs) (sym b)
      (subst (λ (ps : Parts). InitFinds ps (every.init_step (map-Init ExprKind Init Expr Form (List AnyAccess) Reading kind_form init_accesses reading layer))) (sym a) (init_layer y))

  expr_rolled : ((k : K) → KindIs (kind k)) → (y : Expr-F K I E) → ExprIs (roll-Expr (map-Expr K I E ExprKind Init Expr kind init expr y))
  expr_rolled kind_is y =
      let layer = map-Expr K I E ExprKind Init Expr kind init expr y in
      let a = fold-roll-Expr guard.Reading Parts guard.Reading guard.kind_step guard.init_step guard.expr_step layer in
      let b = fold-roll-Expr Form (List AnyAccess) Reading every.kind_step every.init_step every.expr_step layer in
      subst (λ (r : Reading). Finds (guard.reading (roll-Expr layer)) r.form) (sym b) (subst (λ (r : guard.Reading). Finds r (kind_form (kind y.kind))) (sym a) (kind_is y.kind))

expression_finds : (e : Expr) → ExprIs e
expression_finds = ind-Expr KindIs InitIs ExprIs
    (λ x y e. subst (λ layer. KindIs (roll-ExprKind layer)) e (kind_rolled (λ k. k.0) (λ i. i.0) (λ x. x.0) (λ i. i.1) (λ x. x.1) y))
    (λ x y e. subst (λ layer. InitIs (roll-Init layer)) e (init_rolled (λ k. k.0) (λ i. i.0) (λ x. x.0) (λ i. i.1) (λ x. x.1) y))
    (λ x y e. subst (λ layer. ExprIs (roll-Expr layer)) e (expr_rolled (λ k. k.0) (λ i. i.0) (λ x. x.0) (λ i. i.1) (λ x. x.1) (λ k. k.1) y))

initialiser_finds : (i : Init) → InitIs i
initialiser_finds = ind-Init KindIs InitIs ExprIs
    (λ x y e. subst (λ layer. KindIs (roll-ExprKind layer)) e (kind_rolled (λ k. k.0) (λ i. i.0) (λ x. x.0) (λ i. i.1) (λ x. x.1) y))
    (λ x y e. subst (λ layer. InitIs (roll-Init layer)) e (init_rolled (λ k. k.0) (λ i. i.0) (λ x. x.0) (λ i. i.1) (λ x. x.1) y))
    (λ x y e. subst (λ layer. ExprIs (roll-Expr layer)) e (expr_rolled (λ k. k.0) (λ i. i.0) (λ x. x.0) (λ i. i.1) (λ x. x.1) (λ k. k.1) y))

pub expression_listed : (e : Expr) → IndicesStand (all_accesses e) → Listed (parts_of e).accesses (all_accesses e)
expression_listed e = (expression_finds e).listed

maybe_listed : (i : Option Init) → IndicesStand (every.maybe init_accesses i) → Listed (guard.maybe i).accesses (every.maybe init_accesses i)
maybe_listed None stand = tt
maybe_listed (Some i) stand = initialiser_finds i stand

pub decls_listed : (ds : List LocalDecl) → IndicesStand (each_of decl_accesses ds) → Listed (all_decl_parts ds).accesses (each_of decl_accesses ds)
decls_listed [] stand = tt
decls_listed (d ∷ ds) stand =
    let s = all_split IndexStands (decl_accesses d) (each_of decl_accesses ds) stand in
    listed_both (decl_parts d).accesses (all_decl_parts ds).accesses (decl_accesses d) (each_of decl_accesses ds) (maybe_listed d.init s.0) (decls_listed ds s.1)
