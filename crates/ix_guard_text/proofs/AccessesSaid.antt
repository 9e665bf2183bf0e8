-- What is so of all notes of an expression, and of no error, is so of those of the names of its accesses, each of which is one of an array at an int.
use Rattle.std.proofs.Common.{◌≡◌, ℕ, Bool, true, false, List, [], ◌∷◌, ◌++◌, map, length, drop, Option, Some, None, refl, sym, ap, subst}
use Rattle.std.specs.Prelude.{if◌then◌else◌, not, is_some}
use Rattle.std.proofs.lemmas.Bool.{false≢true}
use Rattle.ix_text.specs.declared.span.Span.{Span}
use Rattle.ix_core.specs.declared.claim.Base.TheVariants as base
use Rattle.ix_core.specs.declared.claim.Type_.{Type_}
use Rattle.ix_core.specs.declared.claim.Type_.TheVariants as type
use Rattle.ix_tree.specs.declared.annot.Ident.{Ident}
use Rattle.ix_tree.specs.declared.expr.BinaryOp.{BinaryOp}
use Rattle.ix_tree.specs.declared.expr.BinaryOp.TheVariants as binary
use Rattle.ix_tree.specs.declared.expr.UnaryOp.{UnaryOp}
use Rattle.ix_tree.specs.declared.expr.UnaryOp.TheVariants as operator
use Rattle.ix_tree.specs.declared.expr.Expr.{Expr, Expr-F, ind-Expr, map-Expr, roll-Expr, fold-roll-Expr}
use Rattle.ix_tree.specs.declared.expr.ExprKind.{ExprKind, ExprKind-F, map-ExprKind, roll-ExprKind, fold-ExprKind, fold-roll-ExprKind}
use Rattle.ix_tree.specs.declared.expr.Init.{Init, Init-F, ind-Init, map-Init, roll-Init, fold-roll-Init}
use Rattle.ix_meaning.specs.declared.note.Note.{Note}
use Rattle.ix_meaning.specs.declared.note.NameError.{NameError}
use Rattle.ix_meaning.specs.declared.note.Note.TheVariants.{Use, Wrong}
use Rattle.ix_meaning.specs.declared.note.Meaning.TheVariants.{MethodNamed}
use Rattle.ix_meaning.specs.declared.note.Rule.{Rule}
use Rattle.ix_meaning.specs.declared.note.Rule.TheVariants as rule
use Rattle.ix_meaning.specs.Members.{World, Callee, method_named, constructor_params}
use Rattle.ix_meaning.specs.Rules as rules
use Rattle.ix_meaning.specs.Scope.{Scope}
use Rattle.ix_meaning.specs.Types.{int, boolean, Need, of, need_like, element, element_in, Judged, judged, type_note, typed, wrong, wrong_if}
use Rattle.ix_meaning.specs.Values as values
use Rattle.ix_meaning.specs.Values.{Reading, KindReading, Filling, Object, no_object, of_class, value, reading, kind_reading, filling, check, null_at, fitted, valued_and_assigned, arguments, fillings}
use Rattle.ix_formed.specs.Additions.{AllOf}
use Rattle.ix_formed.proofs.EachMember.{said_parts}
use Rattle.ix_guard.specs.Accesses as accesses
use Rattle.ix_guard.specs.Accesses.{Access, Parts, both, all, each, parts_of, init_parts}

module _ (So : Note → Type 0) (no_error : (error : NameError) → So (Wrong error) → ⊥) where
  abbrev pub Said : List Note → Type 0
  Said notes = AllOf So notes

  -- what isn't broken at one place isn't at another
  pub moved : (broken : Bool) (r : Rule) (p q : Span) → Said (wrong_if broken r p) → Said (wrong_if broken r q)
  moved true r p q c = absurd (no_error _ c.0)
  moved false r p q c = tt

  no_array_moved : (ty : Option Type_) (p q : Span) → Said (values.no_array ty p) → Said (values.no_array ty q)
  no_array_moved None p q c = tt
  no_array_moved (Some ty) p q c = moved (not (is_some (element ty))) rule.TypeMismatch p q c

  pub mismatch_moved : (w : World) (need : Need) (ty : Option Type_) (p q : Span) → Said (rules.type_mismatch w need ty p) → Said (rules.type_mismatch w need ty q)
  mismatch_moved w need None p q c = tt
  mismatch_moved w need (Some ty) p q c = moved (not (rules.has_fitting_type w need ty)) rule.TypeMismatch p q c

  -- In that scope the names of an access are those of an array and an int; what has no type is both.
  pub record Fits (s : Scope) (access : Access) : Type 0 where
    pub array : Said (values.variable s false access.array).notes
    pub is_array : Said (values.no_array (values.variable s false access.array).ty access.array.span)
    pub index : Said (values.variable s false access.index).notes
    pub is_int : Said (rules.type_mismatch s.world (of int) (values.variable s false access.index).ty access.index.span)

  abbrev pub AllFit : Scope → List Access → Type 0
  AllFit s list = AllOf (Fits s) list

  fit_both : (s : Scope) (xs ys : List Access) → AllFit s xs → AllFit s ys → AllFit s (xs ++ ys)
  fit_both s [] ys a b = b
  fit_both s (x ∷ xs) ys a b = (a.0, fit_both s xs ys a.1 b)

  -- ---- what expressions say where they have no errors

  -- an expression that is a name is read as the variable of that name
  abbrev NamesKind : Option Ident → KindReading → Type 0
  NamesKind None k = Unit {0}
  NamesKind (Some name) k = (k.is_null ≡ false) × ((s : Scope) (p : Span) → k.judge s p ≡ values.variable s false name)

  abbrev NamesIt : Option Ident → Reading → Type 0
  NamesIt None r = Unit {0}
  NamesIt (Some name) r = (r.is_null ≡ false) × ((s : Scope) → r.judge s ≡ typed r.span (values.variable s false name))

  pub record Finds (r : Reading) (g : accesses.Reading) : Type 0 where
    pub named : NamesIt g.name r
    pub null : r.is_null ≡ true → g.parts.accesses ≡ []
    pub judge : (s : Scope) → Said (r.judge s).notes → AllFit s g.parts.accesses
    pub assigned : (s : Scope) → Said (r.assigned s).notes → AllFit s g.parts.accesses
    pub receiver : (s : Scope) → Said (r.receiver s).notes → AllFit s g.parts.accesses

  record KindFinds (k : KindReading) (g : accesses.Reading) : Type 0 where
    pub named : NamesKind g.name k
    pub null : k.is_null ≡ true → g.parts.accesses ≡ []
    pub judge : (s : Scope) (p : Span) → Said (k.judge s p).notes → AllFit s g.parts.accesses
    pub assigned : (s : Scope) (p : Span) → Said (k.assigned s p).notes → AllFit s g.parts.accesses
    pub receiver : (s : Scope) (p : Span) → Said (k.receiver s p).notes → AllFit s g.parts.accesses

  abbrev pub FillFinds : Filling → Parts → Type 0
  FillFinds f g = (s : Scope) (ty : Option Type_) → Said (f s ty) → AllFit s g.accesses

  abbrev AllFind : List Reading → List accesses.Reading → Type 0
  AllFind [] [] = Unit {0}
  AllFind (r ∷ rs) (g ∷ gs) = Finds r g × AllFind rs gs
  AllFind _ _ = ⊥

  abbrev AllFillFind : List Filling → List Parts → Type 0
  AllFillFind [] [] = Unit {0}
  AllFillFind (f ∷ fs) (g ∷ gs) = FillFinds f g × AllFillFind fs gs
  AllFillFind _ _ = ⊥

  -- ---- at a place that needs something

  null_finds : (r : Reading) (g : accesses.Reading) → Finds r g → (s : Scope) → r.is_null ≡ true → AllFit s g.parts.accesses
  null_finds r g f s e = subst (AllFit s) (sym (f.null e)) tt

  pub check_finds : (r : Reading) (g : accesses.Reading) → Finds r g → (s : Scope) (need : Need) → Said (check r s need).notes → AllFit s g.parts.accesses
  check_finds r g f s need = null_or_not r.is_null refl
    where
      null_or_not : (b : Bool) → r.is_null ≡ b → Said (if b then null_at need r.span else fitted s.world need r.span (r.judge s)).notes → AllFit s g.parts.accesses
      null_or_not true e c = null_finds r g f s e
      null_or_not false e c = f.judge s (said_parts So (r.judge s).notes (rules.type_mismatch s.world need (r.judge s).ty r.span) c).0

  arguments_find : (s : Scope) (rs : List Reading) (gs : List accesses.Reading) → AllFind rs gs → (types : List (Option Type_)) → Said (arguments s rs types) → AllFit s (all (each gs)).accesses
  arguments_find s [] [] f types c = tt
  arguments_find s [] (g ∷ gs) f types c = absurd f
  arguments_find s (r ∷ rs) [] f types c = absurd f
  arguments_find s (r ∷ rs) (g ∷ gs) f types c =
      let parts = said_parts So (check r s (values.first_need types)).notes (arguments s rs (drop 1 types)) c in
      fit_both s g.parts.accesses (all (each gs)).accesses (check_finds r g f.0 s (values.first_need types) parts.0) (arguments_find s rs gs f.1 (drop 1 types) parts.1)

  given_find : (s : Scope) (rs : List Reading) (gs : List accesses.Reading) → AllFind rs gs → (params : List (Option Type_)) (p : Span) → Said (values.given_to s rs params p) → AllFit s (all (each gs)).accesses
  given_find s rs gs f params p c = arguments_find s rs gs f params (said_parts So (rules.wrong_arguments (length rs) (length params) p) (arguments s rs params) c).1

  fillings_find : (s : Scope) (fs : List Filling) (gs : List Parts) → AllFillFind fs gs → (ty : Option Type_) → Said (fillings fs s ty) → AllFit s (all gs).accesses
  fillings_find s [] [] h ty c = tt
  fillings_find s [] (g ∷ gs) h ty c = absurd h
  fillings_find s (f ∷ fs) [] h ty c = absurd h
  fillings_find s (f ∷ fs) (g ∷ gs) h ty c =
      let parts = said_parts So (f s ty) (fillings fs s ty) c in
      fit_both s g.accesses (all gs).accesses (h.0 s ty parts.0) (fillings_find s fs gs h.1 ty parts.1)

  -- ---- values

  valued_finds : (judge assigned : Scope → Span → Judged) (g : Parts) → ((s : Scope) (p : Span) → Said (judge s p).notes → AllFit s g.accesses)
      → ((s : Scope) (p : Span) → Said (assigned s p).notes → AllFit s g.accesses) → KindFinds (valued_and_assigned judge assigned) (accesses.unnamed g)
  valued_finds judge assigned g a b = record {
    named = tt;
    null = λ e. absurd (false≢true e);
    judge = a;
    assigned = b;
    receiver = λ s p c. a s p (said_parts So (judge s p).notes (values.object_notes (judge s p).ty p) c).0;
  }

  -- without parts there is no access
  nothing_found : (k : KindReading) (name : Option Ident) → NamesKind name k → KindFinds k (record { name = name; parts = accesses.nothing })
  nothing_found k name n = record { named = n; null = λ e. refl; judge = λ s p c. tt; assigned = λ s p c. tt; receiver = λ s p c. tt }

  -- ---- accesses

  array_clean : (a : Reading) (s : Scope) → Said (values.array_part a s).notes → Said (a.judge s).notes × Said (values.no_array (a.judge s).ty a.span)
  array_clean a s = null_or_not a.is_null
    where
      null_or_not : (b : Bool) → Said (if b then judged None (wrong rule.TypeMismatch a.span) else judged (element_in (a.judge s).ty) ((a.judge s).notes ++ values.no_array (a.judge s).ty a.span)).notes
          → Said (a.judge s).notes × Said (values.no_array (a.judge s).ty a.span)
      null_or_not true c = absurd (no_error _ c.0)
      null_or_not false c = said_parts So (a.judge s).notes (values.no_array (a.judge s).ty a.span) c

  value_clean : (r : Reading) (s : Scope) (need : Need) → r.is_null ≡ false → Said (check r s need).notes → Said (r.judge s).notes × Said (rules.type_mismatch s.world need (r.judge s).ty r.span)
  value_clean r s need = null_or_not r.is_null
    where
      null_or_not : (b : Bool) → b ≡ false → Said (if b then null_at need r.span else fitted s.world need r.span (r.judge s)).notes → Said (r.judge s).notes × Said (rules.type_mismatch s.world need (r.judge s).ty r.span)
      null_or_not true e c = absurd (false≢true (sym e))
      null_or_not false e c = said_parts So (r.judge s).notes (rules.type_mismatch s.world need (r.judge s).ty r.span) c

  named_clean : (s : Scope) (r : Reading) (name : Ident) → r.judge s ≡ typed r.span (values.variable s false name) → Said (r.judge s).notes → Said (values.variable s false name).notes
  named_clean s r name e c =
      let v = values.variable s false name in (said_parts So v.notes (type_note v.ty r.span) (subst (λ (j : Judged). Said j.notes) e c)).0

  access_finds : (a i : Reading) (g h : accesses.Reading) → Finds a g → Finds i h → (s : Scope) → Said (values.access a i s).notes → AllFit s (accesses.accessing g h).accesses
  access_finds a i g h x y s c = by g.name h.name x.named y.named
    where
      parts : Said (values.array_part a s).notes × Said (check i s (of int)).notes
      parts = said_parts So (values.array_part a s).notes (check i s (of int)).notes c

      inside : AllFit s (g.parts.accesses ++ h.parts.accesses)
      inside = fit_both s g.parts.accesses h.parts.accesses (x.judge s (array_clean a s parts.0).0) (check_finds i h y s (of int) parts.1)

      by : (m n : Option Ident) → NamesIt m a → NamesIt n i → AllFit s (accesses.or_inside (accesses.own_access m n) (g.parts.accesses ++ h.parts.accesses))
      by None n p q = inside
      by (Some name) None p q = inside
      by (Some name) (Some other) p q =
          let first = array_clean a s parts.0 in
          let second = value_clean i s (of int) q.0 parts.1 in (
            record {
              array = named_clean s a name (p.1 s) first.0;
              is_array = no_array_moved (values.variable s false name).ty a.span name.span (subst (λ (j : Judged). Said (values.no_array j.ty a.span)) (p.1 s) first.1);
              index = named_clean s i other (q.1 s) second.0;
              is_int = mismatch_moved s.world (of int) (values.variable s false other).ty i.span other.span (subst (λ (j : Judged). Said (rules.type_mismatch s.world (of int) j.ty i.span)) (q.1 s) second.1);
            },
            tt,
          )

  -- ---- calls and creations

  module _ (s : Scope) (name : Ident) (rs : List Reading) (gs : List accesses.Reading) (f : AllFind rs gs) where
    abbrev Found : Judged → Type 0
    Found j = Said j.notes → AllFit s (all (each gs)).accesses

    bare_call_finds : (m : Option Callee) → Found (values.bare_call s name rs m)
    bare_call_finds None c = absurd (no_error _ c.0)
    bare_call_finds (Some m) c =
        given_find s rs gs f m.signature.params name.span (said_parts So (rules.not_static s m.signature.is_static name.span) (Use name.span (MethodNamed m.number) ∷ values.given_to s rs m.signature.params name.span) c).1.1

    instance_call_finds : (m : Option Callee) → Found (values.instance_call s name rs m)
    instance_call_finds None c = absurd (no_error _ c.0)
    instance_call_finds (Some m) c = given_find s rs gs f m.signature.params name.span c.1

    class_call_finds : (m : Option Callee) → Found (values.class_call s name rs m)
    class_call_finds None c = absurd (no_error _ c.0)
    class_call_finds (Some m) c =
        given_find s rs gs f m.signature.params name.span (said_parts So (rules.not_static_in_class m.signature.is_static name.span) (Use name.span (MethodNamed m.number) ∷ values.given_to s rs m.signature.params name.span) c).1.1

    call_on_finds : (o : Object) → Found (values.call_on s name rs o)
    call_on_finds no_object c = arguments_find s rs gs f [] c
    call_on_finds (of_class k) c = class_call_finds (method_named s.world k name.text) c
    call_on_finds (value (type.Plain (base.Class k))) c = instance_call_finds (method_named s.world k name.text) c
    call_on_finds (value (type.Plain base.Int)) c = absurd (no_error _ c.0)
    call_on_finds (value (type.Plain base.Bool)) c = absurd (no_error _ c.0)
    call_on_finds (value type.Void) c = absurd (no_error _ c.0)
    call_on_finds (value (type.Array element depth claims)) c = absurd (no_error _ c.0)

    creation_finds : (k : Option ℕ) → Found (values.creation s name rs k)
    creation_finds None c = absurd (no_error _ c.0)
    creation_finds (Some k) c = given_find s rs gs f (constructor_params s.world k) name.span c.1

  -- ---- operators

  two_find : (a b : Reading) (g h : accesses.Reading) → Finds a g → Finds b h → (s : Scope) (need : Need) (ty : Type_) → Said (values.both a b s need ty).notes → AllFit s g.parts.accesses × AllFit s h.parts.accesses
  two_find a b g h x y s need ty c =
      let parts = said_parts So (check a s need).notes (check b s need).notes c in (check_finds a g x s need parts.0, check_finds b h y s need parts.1)

  operand_finds : (r : Reading) (g : accesses.Reading) → Finds r g → (s : Scope) → Said (values.operand r s).notes → AllFit s g.parts.accesses
  operand_finds r g f s = null_or_not r.is_null refl
    where
      null_or_not : (b : Bool) → r.is_null ≡ b → Said (if b then judged None [] else r.judge s).notes → AllFit s g.parts.accesses
      null_or_not true e c = null_finds r g f s e
      null_or_not false e c = f.judge s c

  equality_finds : (a b : Reading) (g h : accesses.Reading) → Finds a g → Finds b h → (s : Scope) (p : Span) → Said (values.equality a b s p).notes → AllFit s g.parts.accesses × AllFit s h.parts.accesses
  equality_finds a b g h x y s p c =
      let compared = values.compared s.world a b (values.operand a s).ty (values.operand b s).ty p in
      let first = said_parts So (values.operand a s).notes ((values.operand b s).notes ++ compared) c in
      let second = said_parts So (values.operand b s).notes compared first.1 in
      (operand_finds a g x s first.0, operand_finds b h y s second.0)

  binary_finds : (op : BinaryOp) (a b : Reading) (g h : accesses.Reading) → Finds a g → Finds b h → (s : Scope) (p : Span) → Said (values.binary op a b s p).notes → AllFit s (accesses.operands op g.parts h.parts).accesses
  binary_finds (binary.Num op) a b g h x y s p c = let r = two_find a b g h x y s (of int) int c in fit_both s g.parts.accesses h.parts.accesses r.0 r.1
  binary_finds (binary.Compare r) a b g h x y s p c = let t = equal_or_not (values.is_equality r) c in fit_both s g.parts.accesses h.parts.accesses t.0 t.1
    where
      equal_or_not : (e : Bool) → Said (if e then values.equality a b s p else values.both a b s (of int) boolean).notes → AllFit s g.parts.accesses × AllFit s h.parts.accesses
      equal_or_not true d = equality_finds a b g h x y s p d
      equal_or_not false d = two_find a b g h x y s (of int) boolean d
  binary_finds binary.AndAlso a b g h x y s p c = (two_find a b g h x y s (of boolean) boolean c).0
  binary_finds binary.OrElse a b g h x y s p c = (two_find a b g h x y s (of boolean) boolean c).0

  unary_finds : (op : UnaryOp) (a : Reading) (g : accesses.Reading) → Finds a g → (s : Scope) → Said (values.unary op a s).notes → AllFit s g.parts.accesses
  unary_finds operator.Not a g x s c = check_finds a g x s (of boolean) c
  unary_finds other a g x s c = check_finds a g x s (of int) c

  -- ---- assignments

  assignment_finds : (a b : Reading) (g h : accesses.Reading) → Finds a g → Finds b h → (s : Scope) → Said (values.assignment a b s).notes → AllFit s (g.parts.accesses ++ h.parts.accesses)
  assignment_finds a b g h x y s c =
      let need = need_like (a.assigned s).ty in
      let parts = said_parts So (a.assigned s).notes (check b s need).notes c in
      fit_both s g.parts.accesses h.parts.accesses (x.assigned s parts.0) (check_finds b h y s need parts.1)

  counted_finds : (a : Reading) (g : accesses.Reading) → Finds a g → (s : Scope) → Said (values.counted_target a s).notes → AllFit s g.parts.accesses
  counted_finds a g x s c = x.assigned s (said_parts So (a.assigned s).notes (rules.type_mismatch s.world (of int) (a.assigned s).ty a.span) c).0

  computed_finds : (a b : Reading) (g h : accesses.Reading) → Finds a g → Finds b h → (s : Scope) → Said (values.computed a b s).notes → AllFit s (g.parts.accesses ++ h.parts.accesses)
  computed_finds a b g h x y s c =
      let parts = said_parts So (values.counted_target a s).notes (check b s (of int)).notes c in
      fit_both s g.parts.accesses h.parts.accesses (counted_finds a g x s parts.0) (check_finds b h y s (of int) parts.1)

  -- ---- all forms

  abbrev kind_accesses : ExprKind → accesses.Reading
  kind_accesses = fold-ExprKind accesses.Reading Parts accesses.Reading accesses.kind_step accesses.init_step accesses.expr_step

  abbrev KindIs : ExprKind → Type 0
  KindIs k = KindFinds (kind_reading k) (kind_accesses k)

  abbrev InitIs : Init → Type 0
  InitIs i = FillFinds (filling i) (init_parts i)

  abbrev ExprIs : Expr → Type 0
  ExprIs e = Finds (reading e) (accesses.reading e)

  module _ {K I E : Type 0} (kind : K → ExprKind) (init : I → Init) (expr : E → Expr) (init_is : (i : I) → InitIs (init i)) (expr_is : (e : E) → ExprIs (expr e)) where
    abbrev read : E → Reading
    read e = reading (expr e)

    abbrev found : E → accesses.Reading
    found e = accesses.reading (expr e)

    all_find : (es : List E) → AllFind (map reading (map expr es)) (map accesses.reading (map expr es))
    all_find [] = tt
    all_find (e ∷ es) = (expr_is e, all_find es)

    all_fill : (is : List I) → AllFillFind (map filling (map init is)) (map init_parts (map init is))
    all_fill [] = tt
    all_fill (i ∷ is) = (init_is i, all_fill is)

    kind_layer : (y : ExprKind-F K I E)
        → KindFinds (values.kind_step (map-ExprKind ExprKind Init Expr KindReading Filling Reading kind_reading filling reading (map-ExprKind K I E ExprKind Init Expr kind init expr y)))
        (accesses.kind_step (map-ExprKind ExprKind Init Expr accesses.Reading Parts accesses.Reading kind_accesses init_parts accesses.reading (map-ExprKind K I E ExprKind Init Expr kind init expr y)))
    kind_layer (ExprKind-F.Int n) = nothing_found _ None tt
    kind_layer (ExprKind-F.Bool b) = nothing_found _ None tt
    kind_layer ExprKind-F.Null = nothing_found _ None tt
    kind_layer ExprKind-F.This = nothing_found _ None tt
    kind_layer (ExprKind-F.Name name) = nothing_found _ (Some name) (refl, λ s p. refl)
    kind_layer (ExprKind-F.Select object name) =
        let selects = λ (assigned : Bool) (s : Scope) (c : Said (values.selection (read object) name assigned s).notes).
        (expr_is object).receiver s (said_parts So ((read object).receiver s).notes (values.selected s assigned (read object).is_this name ((read object).receiver s).object).notes c).0 in
        valued_finds _ _ (found object).parts (λ s p c. selects false s c) (λ s p c. selects true s c)
    kind_layer (ExprKind-F.Index array index) =
        let finds = access_finds (read array) (read index) (found array) (found index) (expr_is array) (expr_is index) in
        valued_finds _ _ (accesses.accessing (found array) (found index)) (λ s p c. finds s c) (λ s p c. finds s c)
    kind_layer (ExprKind-F.Call None name args) =
        let rs = map reading (map expr args) in
        let gs = map accesses.reading (map expr args) in
        let finds = λ (s : Scope) (c : Said (values.bare_call s name rs (method_named s.world s.class name.text)).notes). bare_call_finds s name rs gs (all_find args) (method_named s.world s.class name.text) c in
        valued_finds _ _ (all (each gs)) (λ s p c. finds s c) (λ s p c. finds s c)
    kind_layer (ExprKind-F.Call (Some object) name args) =
        let rs = map reading (map expr args) in
        let gs = map accesses.reading (map expr args) in
        let r = read object in
        let finds = λ (s : Scope) (c : Said (values.behind (r.receiver s).notes (values.call_on s name rs (r.receiver s).object)).notes).
        let parts = said_parts So (r.receiver s).notes (values.call_on s name rs (r.receiver s).object).notes c in
        fit_both s (found object).parts.accesses (all (each gs)).accesses ((expr_is object).receiver s parts.0) (call_on_finds s name rs gs (all_find args) (r.receiver s).object parts.1) in
        valued_finds _ _ (both (found object).parts (all (each gs))) (λ s p c. finds s c) (λ s p c. finds s c)
    kind_layer (ExprKind-F.New name args) =
        let rs = map reading (map expr args) in
        let gs = map accesses.reading (map expr args) in
        let finds = λ (s : Scope) (c : Said (values.creation s name rs (s.world.class name.text)).notes). creation_finds s name rs gs (all_find args) (s.world.class name.text) c in
        valued_finds _ _ (all (each gs)) (λ s p c. finds s c) (λ s p c. finds s c)
    kind_layer (ExprKind-F.NewArray ty size) =
        let finds = λ (s : Scope) (c : Said (values.sized (read size) s (values.created s ty)).notes).
        check_finds (read size) (found size) (expr_is size) s (of int) (said_parts So (values.created s ty).notes (check (read size) s (of int)).notes c).1 in
        valued_finds _ _ (found size).parts (λ s p c. finds s c) (λ s p c. finds s c)
    kind_layer (ExprKind-F.NewItems ty items) =
        let fs = map filling (map init items) in
        let gs = map init_parts (map init items) in
        let finds = λ (s : Scope) (c : Said (values.filled fs s (values.created s ty)).notes).
        let elements = element_in (values.created s ty).ty in
        fillings_find s fs gs (all_fill items) elements (said_parts So (values.created s ty).notes (fillings fs s elements) c).1 in
        valued_finds _ _ (all gs) (λ s p c. finds s c) (λ s p c. finds s c)
    kind_layer (ExprKind-F.Unary op operand) =
        let finds = unary_finds op (read operand) (found operand) (expr_is operand) in valued_finds _ _ (found operand).parts (λ s p c. finds s c) (λ s p c. finds s c)
    kind_layer (ExprKind-F.Binary op left right) =
        let finds = binary_finds op (read left) (read right) (found left) (found right) (expr_is left) (expr_is right) in
        valued_finds _ _ (accesses.operands op (found left).parts (found right).parts) (λ s p c. finds s p c) (λ s p c. finds s p c)
    kind_layer (ExprKind-F.Assign None target source) =
        let finds = assignment_finds (read target) (read source) (found target) (found source) (expr_is target) (expr_is source) in
        valued_finds _ _ (both (accesses.as_target (found target)) (found source).parts) (λ s p c. finds s c) (λ s p c. finds s c)
    kind_layer (ExprKind-F.Assign (Some op) target source) =
        let finds = computed_finds (read target) (read source) (found target) (found source) (expr_is target) (expr_is source) in
        valued_finds _ _ (both (accesses.as_target (found target)) (found source).parts) (λ s p c. finds s c) (λ s p c. finds s c)
    kind_layer (ExprKind-F.Step up after target) =
        let finds = counted_finds (read target) (found target) (expr_is target) in valued_finds _ _ (accesses.as_target (found target)) (λ s p c. finds s c) (λ s p c. finds s c)

    kind_rolled : (y : ExprKind-F K I E) → KindIs (roll-ExprKind (map-ExprKind K I E ExprKind Init Expr kind init expr y))
    kind_rolled y =
        let layer = map-ExprKind K I E ExprKind Init Expr kind init expr y in
        let a = fold-roll-ExprKind KindReading Filling Reading values.kind_step values.init_step values.expr_step layer in
        let b = fold-roll-ExprKind accesses.Reading Parts accesses.Reading accesses.kind_step accesses.init_step accesses.expr_step layer in
        subst (λ (g : accesses.Reading). KindFinds (kind_reading (roll-ExprKind layer)) g) (sym b)
        (subst (λ (k : KindReading). KindFinds k (accesses.kind_step (map-ExprKind ExprKind Init Expr accesses.Reading Parts accesses.Reading kind_accesses init_parts accesses.reading layer))) (sym a) (kind_layer y))

    init_layer : (y : Init-F K I E) → FillFinds (values.init_step (map-Init ExprKind Init Expr KindReading Filling Reading kind_reading filling reading (map-Init K I E ExprKind Init Expr kind init expr y)))
        (accesses.init_step (map-Init ExprKind Init Expr accesses.Reading Parts accesses.Reading kind_accesses init_parts accesses.reading (map-Init K I E ExprKind Init Expr kind init expr y)))
    init_layer (Init-F.Value e) s ty c = check_finds (read e) (found e) (expr_is e) s (need_like ty) c
    init_layer (Init-F.Items items span) s ty c =
        let fs = map filling (map init items) in
        fillings_find s fs (map init_parts (map init items)) (all_fill items) (element_in ty) (said_parts So (rules.list_mismatch (need_like ty) span) (fillings fs s (element_in ty)) c).1

    init_rolled : (y : Init-F K I E) → InitIs (roll-Init (map-Init K I E ExprKind Init Expr kind init expr y))
    init_rolled y =
        let layer = map-Init K I E ExprKind Init Expr kind init expr y in
        let a = fold-roll-Init KindReading Filling Reading values.kind_step values.init_step values.expr_step layer in
        let b = fold-roll-Init accesses.Reading Parts accesses.Reading accesses.kind_step accesses.init_step accesses.expr_step layer in
        subst (λ (g : Parts). FillFinds (filling (roll-Init layer)) g) (sym b)
        (subst (λ (f : Filling). FillFinds f (accesses.init_step (map-Init ExprKind Init Expr accesses.Reading Parts accesses.Reading kind_accesses init_parts accesses.reading layer))) (sym a) (init_layer y))

    named_layer : (name : Option Ident) (k : KindReading) (p : Span) → NamesKind name k → NamesIt name (values.expr_step (record { kind = k; span = p }))
    named_layer None k p h = tt
    named_layer (Some name) k p h = (h.0, λ s. ap (typed p) (h.1 s p))

    expr_layer : (k : KindReading) (g : accesses.Reading) (p : Span) → KindFinds k g → Finds (values.expr_step (record { kind = k; span = p })) g
    expr_layer k g p f = record {
      named = named_layer g.name k p f.named;
      null = f.null;
      judge = λ s c. f.judge s p (said_parts So (k.judge s p).notes (type_note (k.judge s p).ty p) c).0;
      assigned = λ s c. f.assigned s p (said_parts So (k.assigned s p).notes (type_note (k.assigned s p).ty p) c).0;
      receiver = λ s c. f.receiver s p c;
    }

    expr_rolled : ((k : K) → KindIs (kind k)) → (y : Expr-F K I E) → ExprIs (roll-Expr (map-Expr K I E ExprKind Init Expr kind init expr y))
    expr_rolled kind_is y =
        let layer = map-Expr K I E ExprKind Init Expr kind init expr y in
        let a = fold-roll-Expr KindReading Filling Reading values.kind_step values.init_step values.expr_step layer in
        let b = fold-roll-Expr accesses.Reading Parts accesses.Reading accesses.kind_step accesses.init_step accesses.expr_step layer in
        subst (λ (g : accesses.Reading). Finds (reading (roll-Expr layer)) g) (sym b)
        (subst (λ (r : Reading). Finds r (kind_accesses (kind y.kind))) (sym a) (expr_layer (kind_reading (kind y.kind)) (kind_accesses (kind y.kind)) y.span (kind_is y.kind)))

  pub expression_finds : (e : Expr) → Finds (reading e) (accesses.reading e)
  expression_finds = ind-Expr KindIs InitIs ExprIs
      (λ x y e. subst (λ layer. KindIs (roll-ExprKind layer)) e (kind_rolled (λ k. k.0) (λ i. i.0) (λ x. x.0) (λ i. i.1) (λ x. x.1) y))
      (λ x y e. subst (λ layer. InitIs (roll-Init layer)) e (init_rolled (λ k. k.0) (λ i. i.0) (λ x. x.0) (λ i. i.1) (λ x. x.1) y))
      (λ x y e. subst (λ layer. ExprIs (roll-Expr layer)) e (expr_rolled (λ k. k.0) (λ i. i.0) (λ x. x.0) (λ i. i.1) (λ x. x.1) (λ k. k.1) y))

  pub initialiser_finds : (i : Init) → FillFinds (filling i) (init_parts i)
  initialiser_finds = ind-Init KindIs InitIs ExprIs
      (λ x y e. subst (λ layer. KindIs (roll-ExprKind layer)) e (kind_rolled (λ k. k.0) (λ i. i.0) (λ x. x.0) (λ i. i.1) (λ x. x.1) y))
      (λ x y e. subst (λ layer. InitIs (roll-Init layer)) e (init_rolled (λ k. k.0) (λ i. i.0) (λ x. x.0) (λ i. i.1) (λ x. x.1) y))
      (λ x y e. subst (λ layer. ExprIs (roll-Expr layer)) e (expr_rolled (λ k. k.0) (λ i. i.0) (λ x. x.0) (λ i. i.1) (λ x. x.1) (λ k. k.1) y))

  -- what a place in a statement needs
  pub needed_fit : (e : Expr) (need : Need) (s : Scope) → Said (check (reading e) s need).notes → AllFit s (parts_of e).accesses
  needed_fit e need s c = check_finds (reading e) (accesses.reading e) (expression_finds e) s need c
