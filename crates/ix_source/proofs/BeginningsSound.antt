-- What a constructor begins with is sound where it has no errors on names: the arguments for the parent's constructor, and the initialisers of fields.
use Rattle.std.proofs.Common.{◌≡◌, ◌≤◌, ℕ, Bool, true, false, List, [], ◌∷◌, map, Option, Some, None, Ok, refl, sym, ap, subst, ◌∙◌, arith, ⊎_elim}
use Rattle.std.specs.Prelude.{if◌then◌else◌}
use Rattle.std.proofs.lemmas.Bool.{false≢true, and_parts}
use Rattle.ix_text.specs.declared.span.Span.{Span}
use Rattle.ix_core.specs.declared.claim.Type_.{Type_}
use Rattle.ix_core.specs.declared.program.Local.{Local}
use Rattle.ix_core.specs.Formed.{first_type, param_type_from, local_type_from}
use Rattle.ix_core.specs.Tables.{param_slot, param_slots}
use Rattle.ix_core.specs.Types.{is_class}
use Rattle.ix_tree.specs.declared.decl.LocalDecl.{LocalDecl}
use Rattle.ix_tree.specs.declared.decl.Member.{Member}
use Rattle.ix_tree.specs.declared.decl.Member.TheVariants as member
use Rattle.ix_tree.specs.declared.expr.Expr.{Expr}
use Rattle.ix_tree.specs.declared.expr.Init.{Init}
use Rattle.ix_tree.specs.Parts.{Part, expression, statement, declaration, in_type, elsewhere, entries, expr_parts, init_parts, together}
use Rattle.ix_meaning.specs.Members.{constructor_params}
use Rattle.ix_meaning.specs.Scope.{Known as Variable, Scope as Names}
use Rattle.ix_meaning.specs.Source as source
use Rattle.ix_meaning.specs.Source.{Place}
use Rattle.ix_meaning.specs.Values as reading
use Rattle.ix_plain.specs.declared.body.Body.{Body}
use Rattle.ix_plain.specs.Assigned.{assigns, init_assigns, all_assign}
use Rattle.ix_plain.specs.Members.{next_field}
use Rattle.ix_plain.specs.Program.{Home, super_call, field_initialised, member_initialised, constructor_start, fields_initialised}
use Rattle.ix_plain.specs.Scope.{Site, constructor_at, is_among, slot_of}
use Rattle.ix_plain.specs.Statements as statements
use Rattle.ix_plain.specs.Statements.{assigned_by, behind_value, scope_for, init_evaluated}
use Rattle.ix_plain.specs.Values as values
use Rattle.ix_plain.specs.Values.{lowering, filling}
use Rattle.ix_formed.specs.Additions.{Makes, AllOf}
use Rattle.ix_formed.specs.Readable.{shape, all_fine}
use Rattle.ix_formed.specs.Typed as typed
use Rattle.ix_formed.specs.Typed.{HasMembers, IsHere}
use Rattle.ix_formed.specs.TypedStatements as grounds
use Rattle.ix_formed.specs.TypedStatements.{Ground, IsGround, Says, IsKnown, IsDeclared, Outside, Scoped, scope_in}
use Rattle.ix_formed.specs.Written.{is_written_expr, all_true}
use Rattle.ix_formed.proofs.AssignedVariables.{Appends, assigns_append, init_assigns_append, none_appends, both_append}
use Rattle.ix_formed.proofs.ConstructorFields.{Declared, IsApart, IsInitialiser, AreInitialised}
use Rattle.ix_formed.proofs.LayoutSpans.{PartIs}
use Rattle.ix_formed.proofs.NumberLists.{both_true, all_so}
use Rattle.ix_formed.proofs.PlainItems.{makes_more, makes_then}
use Rattle.ix_formed.proofs.ScopedLocals.{outside_none, later_outside, ended_outside}
use Rattle.ix_formed.proofs.TypedExpressions.{all_parted, Covers, covers_both, expression_fits}
use Rattle.ix_formed.proofs.TypedSettings.{Apart, setting, setting_is, here_is, kept, kept_range}
use Rattle.ix_source.specs.Running as running
use Rattle.ix_source.specs.Running.{in_scope}
use Rattle.ix_source.specs.SoundBodies.{super_sound, field_sound, fields_sound, start_sound}
use Rattle.ix_source.specs.Sound.{soundness}
use Rattle.ix_source.specs.WellNamed.{HasNumbers, View, IsSeen}
use Rattle.ix_source.specs.SoundStatements.{init_at, init_if}
use Rattle.ix_source.proofs.DeclarationsSound.{makes_any}
use Rattle.ix_source.proofs.ExpressionsSound.{expression_sound, initialiser_sound}
use Rattle.ix_source.proofs.SoundEvaluations.{Sight, seen_ground}
use Rattle.ix_source.proofs.SoundLists.{made_so}
use Rattle.ix_source.proofs.SoundParts.{AllAre, given_used}
use Rattle.ix_source.proofs.VariablesOwn.{OwnedIn, owned_there}

-- ---- what lowering leaves as it was

abbrev pub SameFree : Body → Body → Type 0
SameFree body made = (made.locals ≡ body.locals) × (made.made.free ≡ body.made.free)

same_both : (one two three : Body) → SameFree one two → SameFree two three → SameFree one three
same_both one two three a b = (b.0 ∙ a.0, b.1 ∙ a.1)

super_same : (site : Site) (o : Option ℕ) (args : List Expr) (span : Span) (body : Body) → Makes (SameFree body) (super_call site o args span body)
super_same site None args span body = (refl, refl)
super_same site (Some parent) args span body =
    makes_then (λ given. Unit {0}) (SameFree body) (values.arguments_from [] (map lowering args) (scope_for site body (all_assign args)) body.made) _ (makes_any _)
    (λ given u. makes_then (λ called. Unit {0}) (SameFree body) (values.calling Rattle.ix_core.specs.declared.op.OpKind.TheVariants.SuperCall (constructor_at site parent) (Some 0) parent span given) _ (makes_any _) (λ called u. (refl, refl)))

field_same : (site : Site) (field : ℕ) (decl : LocalDecl) (o : Option Init) (body : Body) → Makes (SameFree body) (field_initialised site field decl o body)
field_same site field decl None body = (refl, refl)
field_same site field decl (Some i) body =
    makes_then (λ (value : statements.Evaluated). SameFree body value.body) (SameFree body) (init_evaluated site i (Rattle.ix_plain.specs.Scope.declared_type (site.names.declared decl.name.span)) body) _
    (makes_then (λ value. Unit {0}) (λ (value : statements.Evaluated). SameFree body value.body) ((filling i).value (scope_for site body (init_assigns i)) (Rattle.ix_plain.specs.Scope.declared_type (site.names.declared decl.name.span)) body.made) (behind_value body)
    (makes_any _) (λ value u. (refl, refl)))
    (λ value same. same)

member_same : (site : Site) (field : ℕ) (decl : LocalDecl) (body : Body) → Makes (SameFree body) (member_initialised site field decl body)
member_same site field decl body = by_static decl.mods.is_static
  where
    by_static : (b : Bool) → Makes (SameFree body) (if b then Ok body else field_initialised site field decl decl.init body)
    by_static true = (refl, refl)
    by_static false = field_same site field decl decl.init body

fields_same : (site : Site) (field : ℕ) (ms : List Member) (body : Body) → Makes (SameFree body) (fields_initialised site field ms body)
fields_same site field [] body = (refl, refl)
fields_same site field (member.Method d ∷ ms) body = fields_same site field ms body
fields_same site field (member.Field d ∷ ms) body =
    makes_then (SameFree body) (SameFree body) (member_initialised site field d body) (fields_initialised site (next_field field d) ms) (member_same site field d body)
    (λ middle a. makes_more (SameFree middle) (SameFree body) (λ made b. same_both body middle made a b) (fields_initialised site (next_field field d) ms middle) (fields_same site (next_field field d) ms middle))

pub start_same : (site : Site) (home : Home) (args : List Expr) (span : Span) (body : Body) → Makes (SameFree body) (constructor_start site home args span body)
start_same site home args span body =
    makes_then (SameFree body) (SameFree body) (super_call site home.parent args span body) (fields_initialised site home.field home.members) (super_same site home.parent args span body)
    (λ middle a. makes_more (SameFree middle) (SameFree body) (λ made b. same_both body middle made a b) (fields_initialised site home.field home.members middle) (fields_same site home.field home.members middle))

module _ (g : Ground) (ground : IsGround g) (v : Sight g) where
  abbrev k : running.Ground
  k = seen_ground g ground v

  -- ---- the arguments for the parent's constructor

  none_apart : (vs : List Variable) (locals : List (Local × Span)) → AllOf (λ (x : Variable). Apart g ground [] (slot_of (scope_in g locals) (Some x.meaning))) vs
  none_apart [] locals = tt
  none_apart (x ∷ vs) locals = (refl, none_apart vs locals)

  args_append : (es : List Expr) → Appends (all_assign es)
  args_append [] = none_appends
  args_append (e ∷ es) = both_append (assigns e).inside (all_assign es) (assigns_append e).1 (args_append es)

  args_are : (y : typed.Setting) (set : typed.IsSet y) (w : View) → IsSeen y w → (es : List Expr) → AllOf (IsHere y) (together (map expr_parts es)) → all_true (map is_written_expr es) ≡ true → all_fine (map shape es) ≡ true → Covers y set (all_assign es)
      → AllAre y set w (map lowering es) (map reading.reading es) (map soundness es)
  args_are y set w n [] here wr fine covers = tt
  args_are y set w n (e ∷ es) here wr fine covers =
      let h = all_parted (IsHere y) (expr_parts e) (together (map expr_parts es)) here in
      let x = and_parts (is_written_expr e) (all_true (map is_written_expr es)) wr in
      let f = and_parts (shape e).fine (all_fine (map shape es)) fine in
      let c = covers_both y set (assigns e).inside (all_assign es) (args_append es) covers in
      (((expression_fits y set e h.0 x.0 f.0 c.0).0, (expression_sound y set w n e h.0 x.0 f.0 c.0).0), args_are y set w n es h.1 x.1 f.1 c.1)

  pub super_given : (s : Names) (above : ℕ) (args : List Expr) (lo hi : ℕ) (span : Span) (body : Body) (types : List Type_) → Scoped g s body.locals types body.made.free lo hi → OwnedIn g s.names body.locals → (s.has_object ≡ true → v.has_this ≡ true) → is_class g.program above ≡ true
      → AllOf (PartIs (grounds.Within lo hi)) (together (map expr_parts args)) → AllOf (IsKnown g) (together (map expr_parts args)) → all_true (map is_written_expr args) ≡ true → all_fine (map shape args) ≡ true
      → Says g (reading.given_to s (map reading.reading args) (constructor_params s.world above) span) → super_sound (Some above) args k body ≡ true
  super_given s above args lo hi span body types scoped owned object there spans known wr fine said =
      let slots = assigned_by g.site body (all_assign args) in
      let y = setting g ground s body.locals types body.made.free slots [] lo hi hi in
      let set = setting_is g ground s body.locals types body.made.free slots [] lo hi hi scoped (omega arith) tt (none_apart s.names body.locals) in
      let view : View = record { tables = v.tables; owner = in_scope g.site body.locals body.made.free; has_this = v.has_this; this = v.this; depth = v.depth } in
      let seen : IsSeen y view = record { owned = owned_there g s.names body.locals types body.made.free lo hi scoped.variables owned; object = object; numbers = subst (λ w. HasNumbers w g.site) (sym scoped.world) v.numbers; results = v.results } in
      let here = here_is g ground s body.locals types body.made.free slots [] lo hi hi scoped (omega arith) tt (none_apart s.names body.locals) (together (map expr_parts args)) spans known in
      let covers : Covers y set (all_assign args) = (λ slot among. ap (is_among slot) (sym (args_append args g.site body.locals slots [] [])) ∙ among) in
      given_used y set view (map lowering args) (map reading.reading args) (map soundness args) (args_are y set view seen args here wr fine covers) (constructor_at g.site above) (constructor_params s.world above) (set.members.constructors above there).takes span said

  -- ---- the initialisers of fields

  module _ (l : Place) (world : l.world ≡ g.world) (class : l.class ≡ g.class) (constructor : g.method.constructor ≡ true) (has : v.has_this ≡ true) (first last : ℕ) where
    -- the parameters are in slots below the first that is free
    pub record HasRoom (body : Body) : Type 0 where
      pub slots : param_slots g.method ≤ body.made.free
      pub unused : (slot : ℕ) → body.made.free ≤ slot → param_type_from (param_slot g.method 0) g.method.param_types slot ≡ None
      pub low : param_slot g.method 0 ≤ body.made.free

    room_same : (body made : Body) → SameFree body made → HasRoom body → HasRoom made
    room_same body made same room = let e = same.1 in record {
      slots = let a = room.slots in omega (arith, a, e);
      unused = λ slot le. room.unused slot (omega (arith, le, e));
      low = let a = room.low in omega (arith, a, e);
    }

    outside : (lo hi : ℕ) → IsApart g ground l world class constructor first last lo hi → (local : Local × Span) → IsDeclared first last local → Outside lo hi local
    outside lo hi apart local declared = ⊎_elim (λ before. later_outside lo hi local (let a = declared.0 in omega (arith, a, before))) (λ behind. ended_outside lo hi local (let a = declared.1 in omega (arith, a, behind))) apart

    module _ (body : Body) (number : ℕ) (d : LocalDecl) (i : Init) (is : IsInitialiser g ground l world class constructor first last number d i) (room : HasRoom body) where
      abbrev assigned : List ℕ
      assigned = assigned_by g.site body (init_assigns i)

      abbrev y : typed.Setting
      y = record {
        program = g.program;
        method = g.method;
        locals = g.locals;
        fixed = Declared g ground l world class constructor first last;
        names = source.member_scope l true;
        scope = record { site = g.site; locals = body.locals; assigned = assigned_by g.site body (init_assigns i) };
        base = body.made.free;
        avoided = kept (param_slot g.method 0) body.made.free (assigned_by g.site body (init_assigns i));
        here = grounds.Within is.lo is.hi;
        parts = g.parts;
      }

      set : typed.IsSet y
      set = record {
        members = subst (HasMembers g.program g.site) (sym world) ground.members;
        class = ground.class ∙ sym class;
        class_there = ap (is_class g.program) class ∙ ground.class_there;
        method_class = ground.method_class ∙ sym class;
        in_constructor = λ e. absurd (false≢true e);
        static = λ e. (let a = ground.with_this constructor in let b = room.low in omega (arith, a, b));
        object = λ e. ground.with_this constructor;
        with_this = ground.with_this;
        params = room.slots;
        variables = tt;
        avoided = kept_range (param_slot g.method 0) body.made.free (assigned_by g.site body (init_assigns i));
        temporaries = λ now slot le span here.
            ap (λ (o : Option Type_). first_type o (local_type_from g.method.locals g.locals slot span)) (room.unused slot le)
            ∙ outside_none is.lo is.hi g.method.locals g.locals (all_so (IsDeclared first last) (Outside is.lo is.hi) (outside is.lo is.hi is.apart) g.method.locals now) slot span here;
      }

      abbrev view : View
      view = record { tables = v.tables; owner = in_scope g.site body.locals body.made.free; has_this = v.has_this; this = v.this; depth = v.depth }

      seen : IsSeen y view
      seen = record { owned = tt; object = λ e. has; numbers = subst (λ w. HasNumbers w g.site) (sym world) v.numbers; results = v.results }

      parts_here : (ps : List Part) → AllOf (PartIs (grounds.Within is.lo is.hi)) ps → AllOf (IsKnown g) ps → AllOf (IsHere y) ps
      parts_here [] here known = tt
      parts_here (expression span ∷ ps) here known = (here.0, parts_here ps here.1 known.1)
      parts_here (statement span ∷ ps) here known = (tt, parts_here ps here.1 known.1)
      parts_here (declaration ∷ ps) here known = (tt, parts_here ps here.1 known.1)
      parts_here (in_type ident ∷ ps) here known = (tt, parts_here ps here.1 known.1)
      parts_here (elsewhere ident ∷ ps) here known = (known.0, parts_here ps here.1 known.1)
      parts_here (entries n ∷ ps) here known = (known.0, parts_here ps here.1 known.1)

      covers : Covers y set (init_assigns i)
      covers slot among = ap (is_among slot) (sym (init_assigns_append i g.site body.locals assigned [] [])) ∙ among

      field_init_sound : init_at i k body ≡ true
      field_init_sound =
          initialiser_sound y set view seen i (parts_here (init_parts i) is.spans is.known) is.written is.readable covers (Rattle.ix_core.specs.Tables.field_at g.program number).ty is.real is.said

    pub fields_are_sound : (number : ℕ) (ms : List Member) → AreInitialised g ground l world class constructor first last number ms → (body : Body) → HasRoom body → fields_sound number ms k body ≡ true
    fields_are_sound number [] are body room = refl
    fields_are_sound number (member.Method d ∷ ms) are body room = fields_are_sound number ms are body room
    fields_are_sound number (member.Field d ∷ ms) are body room =
        both_true (field_sound d k body) _ (by_static d.mods.is_static refl)
        (made_so (member_initialised g.site number d body) (fields_sound (next_field number d) ms k)
        (makes_more (SameFree body) (λ (made : Body). fields_sound (next_field number d) ms k made ≡ true) (λ made same. fields_are_sound (next_field number d) ms are.1 made (room_same body made same room)) (member_initialised g.site number d body) (member_same g.site number d body)))
      where
        by_init : d.mods.is_static ≡ false → (o : Option Init) → d.init ≡ o → init_if o k body ≡ true
        by_init static None e = refl
        by_init static (Some i) e = field_init_sound body number d i (are.0 static i e) room

        by_static : (b : Bool) → d.mods.is_static ≡ b → (if b then true else init_if d.init k body) ≡ true
        by_static true e = refl
        by_static false e = by_init e d.init refl

    pub start_is_sound : (home : Home) (args : List Expr) (span : Span) (body : Body) → AreInitialised g ground l world class constructor first last home.field home.members → HasRoom body → super_sound home.parent args k body ≡ true → start_sound home args span k body ≡ true
    start_is_sound home args span body are room given =
        both_true (super_sound home.parent args k body) _ given
        (made_so (super_call g.site home.parent args span body) (fields_sound home.field home.members k)
        (makes_more (SameFree body) (λ (made : Body). fields_sound home.field home.members k made ≡ true) (λ made same. fields_are_sound home.field home.members are made (room_same body made same room)) (super_call g.site home.parent args span body) (super_same g.site home.parent args span body)))
