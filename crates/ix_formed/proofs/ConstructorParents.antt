-- A constructor of a class with a parent begins with the call of the parent's constructor.
use Rattle.std.proofs.Common.{◌≡◌, ◌≤◌, ℕ, max, true, List, [], ◌∷◌, ◌++◌, map, Some, Result, Ok, Err, refl, sym, ap, subst, ◌∙◌, arith}
use Rattle.std.proofs.lemmas.Bool.{and_parts}
use Rattle.ix_text.specs.declared.span.Span.{Span}
use Rattle.ix_core.specs.declared.claim.Type_.{Type_}
use Rattle.ix_core.specs.declared.op.OpKind.TheVariants as op
use Rattle.ix_core.specs.declared.program.Local.{Local}
use Rattle.ix_core.specs.Tables.{class_at}
use Rattle.ix_core.specs.Types.{Point, class_type, is_class}
use Rattle.ix_tree.specs.declared.expr.Expr.{Expr}
use Rattle.ix_tree.specs.Parts.{Part, expr_parts, together}
use Rattle.ix_meaning.specs.Members.{constructor_params}
use Rattle.ix_meaning.specs.Scope.{Known as Variable, Scope as Names}
use Rattle.ix_meaning.specs.Source.{Place}
use Rattle.ix_meaning.specs.Values as reading
use Rattle.ix_plain.specs.declared.body.Body.{Body}
use Rattle.ix_plain.specs.Assigned.{assigns, all_assign}
use Rattle.ix_plain.specs.Parts.{◌>>=◌}
use Rattle.ix_plain.specs.Program.{parent_call}
use Rattle.ix_plain.specs.Scope.{slot_of, is_among, constructor_at}
use Rattle.ix_plain.specs.Statements.{behind, assigned_by, scope_for}
use Rattle.ix_plain.specs.Values as values
use Rattle.ix_plain.specs.Values.{lowering}
use Rattle.ix_formed.specs.Additions.{Makes, AllOf}
use Rattle.ix_formed.specs.Points.{Known}
use Rattle.ix_formed.specs.Readable.{shape, all_fine}
use Rattle.ix_formed.specs.Typed.{Setting, IsSet, IsHere}
use Rattle.ix_formed.specs.TypedStatements.{Ground, IsGround, Says, IsKnown, Within, IsDeclared, Scoped, Stands, Begins, scope_in}
use Rattle.ix_formed.specs.Written.{is_written_expr, all_true}
use Rattle.ix_formed.proofs.AssignedVariables.{Appends, none_appends, both_append, assigns_append}
use Rattle.ix_formed.proofs.ConstructorBodies.{Started}
use Rattle.ix_formed.proofs.ConstructorCalls.{SuperGives, super_gives}
use Rattle.ix_formed.proofs.ConstructorFields.{Declared}
use Rattle.ix_formed.proofs.LayoutSpans.{PartIs}
use Rattle.ix_formed.proofs.NumberLists.{all_so, all_split}
use Rattle.ix_formed.proofs.PlainItems.{makes_then}
use Rattle.ix_formed.proofs.TypedCalls.{AllFits}
use Rattle.ix_formed.proofs.TypedExpressions.{Covers, covers_both, expression_fits}
use Rattle.ix_formed.proofs.TypedSettings.{setting, setting_is, stands_is, here_is, Apart}

then_again : {A B C E : Type 0} (P : B → Type 0) (Q : C → Type 0) (r : Result A E) (f : A → Result B E) (h : B → Result C E) → Makes P (r >>= f) → ((x : B) → P x → Makes Q (h x)) → Makes Q (r >>= (λ x. f x >>= h))
then_again P Q (Ok x) f h made more = makes_then P Q (f x) h made more
then_again P Q (Err e) f h made more = tt

args_append : (es : List Expr) → Appends (all_assign es)
args_append [] = none_appends
args_append (e ∷ es) = both_append (assigns e).inside (all_assign es) (assigns_append e).1 (args_append es)

module _ (z : Setting) (set : IsSet z) where
  all_here : (ps qs : List Part) → AllOf (IsHere z) (ps ++ qs) → AllOf (IsHere z) ps × AllOf (IsHere z) qs
  all_here ps qs here = all_split (IsHere z) ps qs here

  -- the arguments of a call
  arguments_fit : (es : List Expr) → AllOf (IsHere z) (together (map expr_parts es)) → all_true (map is_written_expr es) ≡ true → all_fine (map shape es) ≡ true → Covers z set (all_assign es) → AllFits z set (map lowering es) (map reading.reading es)
  arguments_fit [] here wr fine covers = tt
  arguments_fit (e ∷ es) here wr fine covers =
      let h = all_here (expr_parts e) (together (map expr_parts es)) here in
      let w = and_parts (is_written_expr e) (all_true (map is_written_expr es)) wr in
      let n = and_parts (shape e).fine (all_fine (map shape es)) fine in
      let c = covers_both z set (assigns e).inside (all_assign es) (args_append es) covers in
      ((expression_fits z set e h.0 w.0 n.0 c.0).0, arguments_fit es h.1 w.1 n.1 c.1)

module _ (g : Ground) (ground : IsGround g) (l : Place) (world : l.world ≡ g.world) (class : l.class ≡ g.class) (constructor : g.method.constructor ≡ true) (first last : ℕ) where
  none_apart : (vs : List Variable) (locals : List (Local × Span)) → AllOf (λ (v : Variable). Apart g ground [] (slot_of (scope_in g locals) (Some v.meaning))) vs
  none_apart [] locals = tt
  none_apart (v ∷ vs) locals = (refl, none_apart vs locals)

  -- no local is declared before those places end
  begins_of : (body : Body) (hi : ℕ) → body.locals ≡ [] → hi ≤ first → Declared g ground l world class constructor first last → Begins g body.locals [] hi
  begins_of body hi no_locals le declared = record {
    later = g.method.locals;
    later_types = g.locals;
    locals = ap (λ (ls : List (Local × Span)). ls ++ g.method.locals) (sym no_locals);
    types = refl;
    behind = all_so (IsDeclared first last) (λ (local : Local × Span). hi ≤ local.1.from) (λ local d. (let a = d.0 in omega (arith, a, le))) g.method.locals declared;
  }

  pub parent_called : (s : Names) (above : ℕ) (args : List Expr) (lo hi : ℕ) (at span : Span) (body : Body) (point : Point) → Scoped g s body.locals [] body.made.free lo hi → Stands g s body.locals point → body.locals ≡ [] → hi ≤ first
      → is_class g.program above ≡ true → (class_at g.program g.method.class).parent ≡ Some above → AllOf (PartIs (Within lo hi)) (together (map expr_parts args)) → AllOf (IsKnown g) (together (map expr_parts args))
      → all_true (map is_written_expr args) ≡ true → all_fine (map shape args) ≡ true → Says g (reading.given_to s (map reading.reading args) (constructor_params s.world above) at) → ((ty : Type_) → Known point 0 ty → ⊥)
      → Makes (Started g ground l world class constructor first last body point) (parent_call g.site above args span body)
  parent_called s above args lo hi at span body point scoped stands no_locals le there parent spans known wr fine said unknown =
      let slots = assigned_by g.site body (all_assign args) in
      let z = setting g ground s body.locals [] body.made.free slots [] lo hi hi in
      let set = setting_is g ground s body.locals [] body.made.free slots [] lo hi hi scoped (omega arith) tt (none_apart s.names body.locals) in
      let ready = stands_is g ground s body.locals [] body.made.free slots [] lo hi hi scoped (omega arith) tt (none_apart s.names body.locals) point stands in
      let here = here_is g ground s body.locals [] body.made.free slots [] lo hi hi scoped (omega arith) tt (none_apart s.names body.locals) (together (map expr_parts args)) spans known in
      let covers : Covers z set (all_assign args) = (λ slot among. ap (is_among slot) (sym (args_append args g.site body.locals slots [] [])) ∙ among) in
      let fits = arguments_fit z set args here wr fine covers in
      let given = super_gives z set (map lowering args) (map reading.reading args) fits above there (set.members.constructors above there) constructor parent at span said body.made point (omega arith, ready) unknown in
      then_again (SuperGives z set body.made point) (Started g ground l world class constructor first last body point) (values.arguments_from [] (map lowering args) (scope_for g.site body (all_assign args)) body.made)
      (values.calling op.SuperCall (constructor_at g.site above) (Some 0) above span) (λ called. Ok (behind body called.made.items called.made.free)) given
      (λ v x. record {
        begun = record {
          items = x.items;
          appended = x.appended;
          free = refl;
          locals = refl;
          most = omega arith;
          behind = x.behind;
          leads = λ declared few. x.leads (begins_of body hi no_locals le declared) (most_right body.most v.made.free g.method.slots few);
          keeps = x.keeps;
        };
        this = subst (λ c. Known x.behind 0 (class_type c)) ground.method_class x.this;
      })
    where
      most_right : (a b most : ℕ) → max a b ≤ most → b ≤ most
      most_right a b most le = omega (arith, le)
