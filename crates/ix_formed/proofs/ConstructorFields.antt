-- The initialisers of fields, with which a constructor begins: each stands outside the constructor, so that none of its locals is in scope there.
use Rattle.std.proofs.Common.{◌≡◌, ◌≤◌, ◌<◌, ℕ, max, Bool, true, false, List, [], ◌∷◌, ◌++◌, length, Option, Some, None, Ok, Err, refl, sym, ap, subst, ◌∙◌, arith, append_assoc, ◌⊎◌, ⊎_elim}
use Rattle.std.specs.Prelude.{if◌then◌else◌, ◌&&◌, ◌||◌, not, nat_lt, ◌==◌}
use Rattle.std.proofs.lemmas.Bool.{false≢true}
use Rattle.std.proofs.lemmas.Bool.Decides.{nat_tests}
use Rattle.std.proofs.lemmas.List.{append-nil}
use Rattle.ix_text.specs.declared.span.Span.{Span}
use Rattle.ix_core.specs.declared.claim.Type_.{Type_}
use Rattle.ix_core.specs.declared.code.Item.{Item}
use Rattle.ix_core.specs.declared.code.Item.TheVariants as item
use Rattle.ix_core.specs.declared.op.Op.{Op}
use Rattle.ix_core.specs.declared.op.OpKind.TheVariants as op
use Rattle.ix_core.specs.declared.program.Local.{Local}
use Rattle.ix_core.specs.Formed.{first_type, param_type_from, local_type_from, at_most, is_there, field_fits, may_be_written, reads, op_fits}
use Rattle.ix_core.specs.Tables.{field_at, param_slot, param_slots}
use Rattle.ix_core.specs.Types.{Point, class_type, is_type, is_class}
use Rattle.ix_tree.specs.declared.decl.LocalDecl.{LocalDecl}
use Rattle.ix_tree.specs.declared.decl.Member.{Member}
use Rattle.ix_tree.specs.declared.decl.Member.TheVariants as member
use Rattle.ix_tree.specs.declared.expr.Init.{Init}
use Rattle.ix_tree.specs.Parts.{Part, expression, statement, declaration, in_type, elsewhere, entries, init_parts}
use Rattle.ix_meaning.specs.Scope.{Scope as Names}
use Rattle.ix_meaning.specs.Source as source
use Rattle.ix_meaning.specs.Source.{Place}
use Rattle.ix_meaning.specs.Values as reading
use Rattle.ix_plain.specs.declared.body.Body.{Body}
use Rattle.ix_plain.specs.Assigned.{init_assigns}
use Rattle.ix_plain.specs.Members.{next_field}
use Rattle.ix_plain.specs.Parts.{◌>>=◌, Value}
use Rattle.ix_plain.specs.Program.{field_initialised, member_initialised, fields_initialised}
use Rattle.ix_plain.specs.Scope.{declared_type, is_among}
use Rattle.ix_plain.specs.Statements.{behind_value, init_evaluated, assigned_by}
use Rattle.ix_plain.specs.Values.{filling}
use Rattle.ix_formed.specs.Additions.{Makes, AllOf}
use Rattle.ix_formed.specs.Points.{Known, Keeps, Leads}
use Rattle.ix_formed.specs.Readable.{is_readable_init}
use Rattle.ix_formed.specs.Typed as typed
use Rattle.ix_formed.specs.Typed.{HasMembers, Setting, IsSet, IsHere, Gives, Holds, Fills}
use Rattle.ix_formed.specs.TypedStatements.{Ground, IsGround, Says, IsKnown, Within, IsDeclared, Outside}
use Rattle.ix_formed.specs.Written.{is_written_init}
use Rattle.ix_formed.proofs.AssignedVariables.{init_assigns_append}
use Rattle.ix_formed.proofs.LayoutSpans.{PartIs}
use Rattle.ix_formed.proofs.NumberLists.{both_true, all_so}
use Rattle.ix_formed.proofs.PlainItems.{makes_then, makes_more}
use Rattle.ix_formed.proofs.ProgramsHaveShape.{less_is}
use Rattle.ix_formed.proofs.ScopedLocals.{outside_none}
use Rattle.ix_formed.proofs.TypedExpressions.{Covers, initialiser_fits}
use Rattle.ix_formed.proofs.TypedPoints.{keeps_none, keeps_both, leads_both, op_leads}
use Rattle.ix_formed.proofs.TypedSettings.{kept, kept_range}
use Rattle.ix_formed.proofs.TypedSteps.{reads_held, holds_up, holds_known}

module _ (g : Ground) (ground : IsGround g) (l : Place) (world : l.world ≡ g.world) (class : l.class ≡ g.class) (constructor : g.method.constructor ≡ true) (first last : ℕ) where
  -- the locals of the constructor are declared in it
  abbrev pub Declared : Type 0
  Declared = AllOf (IsDeclared first last) g.method.locals

  -- those places are none of the constructor's
  abbrev pub IsApart : ℕ → ℕ → Type 0
  IsApart lo hi = (hi ≤ first) ⊎ (last ≤ lo)

  abbrev scope : Names
  scope = source.member_scope l true

  -- a field's initialiser, with the field's number
  pub record IsInitialiser (k : ℕ) (d : LocalDecl) (i : Init) : Type 0 where
    pub lo : ℕ
    pub hi : ℕ
    pub apart : IsApart lo hi
    pub spans : AllOf (PartIs (Within lo hi)) (init_parts i)
    pub known : AllOf (IsKnown g) (init_parts i)
    pub written : is_written_init i ≡ true
    pub readable : is_readable_init i ≡ true
    pub there : k < length g.program.fields
    pub own : (field_at g.program k).class ≡ g.class
    pub ty : (field_at g.program k).ty ≡ declared_type (g.site.names.declared d.name.span)
    pub real : is_type g.program (field_at g.program k).ty ≡ true
    pub said : Says g (reading.filling i (source.member_scope l true) (Some (field_at g.program k).ty))

  -- Items were made with which a constructor begins.
  pub record Begun (body : Body) (point : Point) (after : Body) : Type 0 where
    pub items : List Item
    pub appended : after.made.items ≡ body.made.items ++ items
    pub free : after.made.free ≡ body.made.free
    pub locals : after.locals ≡ body.locals
    pub most : body.most ≤ after.most
    pub behind : Point
    pub leads : Declared → after.most ≤ g.method.slots → Leads g.program g.method g.locals items point behind
    pub keeps : Keeps body.made.free point behind

  abbrev pub begun_none : (body : Body) (point : Point) → Begun body point body
  begun_none body point = record { items = []; appended = sym (append-nil body.made.items); free = refl; locals = refl; most = omega arith; behind = point; leads = λ now le in_loop rest. refl; keeps = keeps_none body.made.free point }

  abbrev pub begun_both : (body : Body) (point : Point) (middle after : Body) (a : Begun body point middle) → Begun middle a.behind after → Begun body point after
  begun_both body point middle after a b = record {
    items = a.items ++ b.items;
    appended = b.appended ∙ ap (λ (x : List Item). x ++ b.items) a.appended ∙ append_assoc body.made.items a.items b.items;
    free = b.free ∙ a.free;
    locals = b.locals ∙ a.locals;
    most = let x = a.most in let y = b.most in omega (arith, x, y);
    behind = b.behind;
    leads = λ now le. leads_both g.program g.method g.locals a.items b.items point a.behind b.behind (a.leads now (let y = b.most in omega (arith, y, le))) (b.leads now le);
    keeps = keeps_both body.made.free middle.made.free point a.behind b.behind (let e = a.free in omega (arith, e)) a.keeps b.keeps;
  }

  -- no local is in scope outside the constructor
  outside : (lo hi : ℕ) → IsApart lo hi → (local : Local × Span) → IsDeclared first last local → Outside lo hi local
  outside lo hi apart local declared span within =
      ⊎_elim
      (λ before. ap (λ b. b && nat_lt span.from local.1.to) (later local.1.from span.from (let a = declared.0 in let b = within.1 in omega (arith, a, b, before))))
      (λ behind. right_false (at_most local.1.from span.from) (nat_lt span.from local.1.to) (earlier span.from local.1.to (let a = declared.1 in let b = within.0 in omega (arith, a, b, behind))))
      apart
    where
      later : (n m : ℕ) → m < n → at_most n m ≡ false
      later n m lt = grind (arith, nat_tests)

      earlier : (n m : ℕ) → m ≤ n → nat_lt n m ≡ false
      earlier n m le = grind (arith, nat_tests)

      right_false : (a b : Bool) → b ≡ false → (a && b) ≡ false
      right_false true b e = e
      right_false false b e = refl

  module _ (body : Body) (point : Point) (k : ℕ) (d : LocalDecl) (i : Init) (is : IsInitialiser k d i) (slots : param_slots g.method ≤ body.made.free) (unused : (slot : ℕ) → body.made.free ≤ slot → param_type_from (param_slot g.method 0) g.method.param_types slot ≡ None)
      (low : param_slot g.method 0 ≤ body.made.free) (this : Known point 0 (class_type g.class)) where
    abbrev assigned : List ℕ
    assigned = assigned_by g.site body (init_assigns i)

    abbrev z : Setting
    z = record {
      program = g.program;
      method = g.method;
      locals = g.locals;
      fixed = Declared;
      names = source.member_scope l true;
      scope = record { site = g.site; locals = body.locals; assigned = assigned_by g.site body (init_assigns i) };
      base = body.made.free;
      avoided = kept (param_slot g.method 0) body.made.free (assigned_by g.site body (init_assigns i));
      here = Within is.lo is.hi;
      parts = g.parts;
    }

    set : IsSet z
    set = record {
      members = subst (HasMembers g.program g.site) (sym world) ground.members;
      class = ground.class ∙ sym class;
      class_there = ap (is_class g.program) class ∙ ground.class_there;
      method_class = ground.method_class ∙ sym class;
      in_constructor = λ e. absurd (false≢true e);
      static = λ e. (let a = ground.with_this constructor in omega (arith, a, low));
      object = λ e. ground.with_this constructor;
      with_this = ground.with_this;
      params = slots;
      variables = tt;
      avoided = kept_range (param_slot g.method 0) body.made.free (assigned_by g.site body (init_assigns i));
      temporaries = λ now slot le span here.
          ap (λ (o : Option Type_). first_type o (local_type_from g.method.locals g.locals slot span)) (unused slot le)
          ∙ outside_none is.lo is.hi g.method.locals g.locals (all_so (IsDeclared first last) (Outside is.lo is.hi) (outside is.lo is.hi is.apart) g.method.locals now) slot span here;
    }

    stands : typed.Stands z point
    stands = record { variables = tt; this = λ e. subst (λ c. Known point 0 (class_type c)) (sym class) this }

    here_is : (ps : List Part) → AllOf (PartIs (Within is.lo is.hi)) ps → AllOf (IsKnown g) ps → AllOf (IsHere z) ps
    here_is [] here known = tt
    here_is (expression span ∷ ps) here known = (here.0, here_is ps here.1 known.1)
    here_is (statement span ∷ ps) here known = (tt, here_is ps here.1 known.1)
    here_is (declaration ∷ ps) here known = (tt, here_is ps here.1 known.1)
    here_is (in_type ident ∷ ps) here known = (tt, here_is ps here.1 known.1)
    here_is (elsewhere ident ∷ ps) here known = (known.0, here_is ps here.1 known.1)
    here_is (entries n ∷ ps) here known = (known.0, here_is ps here.1 known.1)

    covers : Covers z set (init_assigns i)
    covers slot among = ap (is_among slot) (sym (init_assigns_append i g.site body.locals assigned [] [])) ∙ among

    field_type : Type_
    field_type = (field_at g.program k).ty

    fills : Fills z (field_at g.program k).ty (filling i)
    fills = initialiser_fits z set i (here_is (init_parts i) is.spans is.known) is.written is.readable covers (field_at g.program k).ty is.real is.said

    -- the field is written
    written_field : (v : Value) → Gives g.program g.method g.locals Declared z.avoided body.made point fills.given v → Begun body point (Rattle.ix_plain.specs.Statements.with_last (Rattle.ix_plain.specs.Statements.behind body v.made.items v.made.free)
        (Rattle.ix_plain.specs.Parts.done (op.WriteField 0 k v.slot) (filling i).span (d.name.span ∷ (filling i).span ∷ [])))
    written_field v x =
        let o : Op = record { kind = op.WriteField 0 k v.slot; span = (filling i).span; parts = d.name.span ∷ (filling i).span ∷ [] } in
        let one = ground.with_this constructor in
        let low_slot = x.low in
        let up = x.steps.up in
        let real_this : is_type g.program (class_type g.class) ≡ true = ground.class_there in
        let object : Holds g.program x.behind 0 (class_type (field_at g.program k).class) =
        subst (λ c. Holds g.program x.behind 0 (class_type c)) (sym is.own) (holds_known z set x.behind 0 (class_type g.class) real_this (x.steps.keeps 0 (omega (arith, one, low)) (class_type g.class) this)) in
        let value = holds_up z set x.behind v.slot fills.given (field_at g.program k).ty (x.holds fills.real) fills.fits in
        let own : ((field_at g.program k).class == g.method.class) ≡ true = ap (λ n. n == g.method.class) (is.own ∙ sym ground.method_class) ∙ Rattle.ix_formed.proofs.NumberLists.is_itself g.method.class in
        let may : may_be_written g.program g.method 0 k ≡ true = or_right (not (field_at g.program k).is_final) _ (both_true g.method.constructor _ constructor own) in
        let fits : v.made.free ≤ g.method.slots → op_fits g.program g.method g.locals x.behind o o.kind ≡ true = (λ le.
        both_true (field_fits g.program g.method x.behind 0 k) _
        (both_true (is_there g.program.fields k) _ (less_is k (length g.program.fields) is.there)
        (reads_held g.program g.method g.locals Declared x.behind 0 v.made.free (class_type (field_at g.program k).class) (omega (arith, one, low, up)) le object))
        (both_true (reads g.program g.method x.behind v.slot (field_at g.program k).ty) _ (reads_held g.program g.method g.locals Declared x.behind v.slot v.made.free (field_at g.program k).ty low_slot le value)
        (both_true (may_be_written g.program g.method 0 k) true may refl))) in
        record {
          items = x.steps.items ++ item.Do o ∷ [];
          appended = ap (λ (xs : List Item). xs ++ item.Do o ∷ []) x.steps.appended ∙ append_assoc body.made.items x.steps.items (item.Do o ∷ []);
          free = refl;
          locals = refl;
          most = omega arith;
          behind = x.behind;
          leads = λ now le.
              let few = most_right body.most v.made.free g.method.slots le in
              leads_both g.program g.method g.locals x.steps.items (item.Do o ∷ []) point x.behind x.behind (x.steps.leads now few) (op_leads g.program g.method g.locals o x.behind (fits few));
          keeps = x.steps.keeps;
        }
      where
        most_right : (a b most : ℕ) → max a b ≤ most → b ≤ most
        most_right a b most le = omega (arith, le)

        or_right : (a b : Bool) → b ≡ true → (a || b) ≡ true
        or_right true b e = refl
        or_right false b e = e

    pub one_initialised : Makes (Begun body point) (field_initialised g.site k d (Some i) body)
    one_initialised =
        subst (λ t. Makes (Begun body point) (init_evaluated g.site i t body >>= (λ value. Ok (Rattle.ix_plain.specs.Statements.with_last value.body (Rattle.ix_plain.specs.Parts.done (op.WriteField 0 k value.slot) (filling i).span (d.name.span ∷ (filling i).span ∷ []))))))
        is.ty (evaluated_then ((filling i).value z.scope (field_at g.program k).ty body.made) (fills.yields body.made point (omega arith, stands)))
      where
        evaluated_then : (r : Rattle.ix_plain.specs.Parts.Within Value) → Makes (Gives g.program g.method g.locals Declared z.avoided body.made point fills.given) r
            → Makes (Begun body point) ((r >>= behind_value body) >>= (λ value. Ok (Rattle.ix_plain.specs.Statements.with_last value.body (Rattle.ix_plain.specs.Parts.done (op.WriteField 0 k value.slot) (filling i).span (d.name.span ∷ (filling i).span ∷ [])))))
        evaluated_then (Ok v) gives = written_field v gives
        evaluated_then (Err limit) gives = tt

  -- ---- all members

  -- each instance field with an initialiser, where the first field has that number
  abbrev pub AreInitialised : ℕ → List Member → Type 0
  AreInitialised k [] = Unit {0}
  AreInitialised k (member.Field d ∷ ms) = (d.mods.is_static ≡ false → (i : Init) → d.init ≡ Some i → IsInitialiser k d i) × AreInitialised (next_field k d) ms
  AreInitialised k (member.Method m ∷ ms) = AreInitialised k ms

  pub all_initialised : (k : ℕ) (ms : List Member) → AreInitialised k ms → (body : Body) (point : Point) → param_slots g.method ≤ body.made.free
      → ((slot : ℕ) → body.made.free ≤ slot → param_type_from (param_slot g.method 0) g.method.param_types slot ≡ None) → param_slot g.method 0 ≤ body.made.free → Known point 0 (class_type g.class)
      → Makes (Begun body point) (fields_initialised g.site k ms body)
  all_initialised k [] are body point slots unused low this = begun_none body point
  all_initialised k (member.Method m ∷ ms) are body point slots unused low this = all_initialised k ms are body point slots unused low this
  all_initialised k (member.Field d ∷ ms) are body point slots unused low this =
      makes_then (Begun body point) (Begun body point) (member_initialised g.site k d body) (fields_initialised g.site (next_field k d) ms) (static_or_not d.mods.is_static refl)
      (λ middle a.
      let one = ground.with_this constructor in
      makes_more (Begun middle a.behind) (Begun body point) (λ after b. begun_both body point middle after a b) (fields_initialised g.site (next_field k d) ms middle)
      (all_initialised (next_field k d) ms are.1 middle a.behind (let e = a.free in omega (arith, e, slots)) (λ slot le. unused slot (let e = a.free in omega (arith, e, le))) (let e = a.free in omega (arith, e, low))
      (a.keeps 0 (omega (arith, one, low)) (class_type g.class) this)))
    where
      init_or_not : d.mods.is_static ≡ false → (o : Option Init) → d.init ≡ o → Makes (Begun body point) (field_initialised g.site k d o body)
      init_or_not free None e = begun_none body point
      init_or_not free (Some i) e = one_initialised body point k d i (are.0 free i e) slots unused low this

      static_or_not : (b : Bool) → d.mods.is_static ≡ b → Makes (Begun body point) (if b then Ok body else field_initialised g.site k d d.init body)
      static_or_not true e = begun_none body point
      static_or_not false e = init_or_not e d.init refl
