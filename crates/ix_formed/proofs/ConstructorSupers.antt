-- What a written constructor begins with fits, where the initialisers of its class's fields do.
use Rattle.std.proofs.Common.{◌≡◌, ◌≤◌, ℕ, Bool, true, false, List, [], ◌∷◌, length, map, Option, Some, None, Ok, refl, sym, ap, subst, ◌∙◌, arith}
use Rattle.std.specs.Prelude.{if◌then◌else◌, ◌&&◌, ◌||◌, not, ◌==◌}
use Rattle.std.proofs.lemmas.Bool.{false≢true, and_parts}
use Rattle.std.proofs.lemmas.List.{append-nil}
use Rattle.ix_text.specs.declared.span.Span.{Span}
use Rattle.ix_core.specs.declared.claim.Type_.{Type_}
use Rattle.ix_core.specs.declared.program.Local.{Local}
use Rattle.ix_core.specs.declared.program.Method.{Method}
use Rattle.ix_core.specs.declared.program.Program.{Program}
use Rattle.ix_core.specs.Formed.{first_type, entry_type, this_type, has_parent, is_target}
use Rattle.ix_core.specs.Tables.{class_at, param_slot}
use Rattle.ix_core.specs.Types.{Point, class_type, is_class}
use Rattle.ix_tree.specs.declared.decl.MethodDecl.{MethodDecl}
use Rattle.ix_tree.specs.declared.decl.Unit.{Unit as Source}
use Rattle.ix_tree.specs.declared.expr.Expr.{Expr}
use Rattle.ix_tree.specs.Parts as parts
use Rattle.ix_tree.specs.Parts.{Part, expression, statement, declaration, in_type, elsewhere, entries, expr_parts, args_parts, together, unit_parts}
use Rattle.ix_tree.specs.Placed.{LaidOut, row, expr_piece, parent_pieces}
use Rattle.ix_meaning.specs.Members.{World, world, constructor_params}
use Rattle.ix_meaning.specs.Resolved.{names}
use Rattle.ix_meaning.specs.Scope.{Scope as Names}
use Rattle.ix_meaning.specs.Source as source
use Rattle.ix_meaning.specs.Source.{Place}
use Rattle.ix_meaning.specs.Values as reading
use Rattle.ix_plain.specs.Program.{start, tables, args_or_none, super_call}
use Rattle.ix_formed.specs.Additions.{Makes, AllOf}
use Rattle.ix_formed.specs.Readable.{shape, is_readable_expr, is_readable_stmt, all_fine}
use Rattle.ix_formed.specs.TypedStatements.{Ground, IsGround, Says, IsKnown, Within, Scoped, Stands}
use Rattle.ix_formed.specs.Written.{is_written_expr, is_written_type, is_written_decl, is_written_stmt, has_no_result, all_true, each_true, maybe_true}
use Rattle.ix_formed.proofs.AcceptedMethods.{class_is}
use Rattle.ix_formed.proofs.ConstructorBodies.{Starts, constructor_starts, constructor_inside}
use Rattle.ix_formed.proofs.ConstructorFields.{AreInitialised, begun_none}
use Rattle.ix_formed.proofs.ConstructorParents.{parent_called}
use Rattle.ix_formed.proofs.FieldsFit.{IsAccepted, same_parents, parents_there, parent_count}
use Rattle.ix_formed.proofs.FormedPrograms.{FitsInside}
use Rattle.ix_formed.proofs.HeadsAre.{IsWritten}
use Rattle.ix_formed.proofs.LayoutSpans.{PartIs, laid_up, laid_parts, expr_spans}
use Rattle.ix_formed.proofs.MethodEntries.{entry_scoped, entry_variables, entry_stands, param_before, types_past}
use Rattle.ix_formed.proofs.NumberLists.{all_so, all_joined}
use Rattle.ix_formed.proofs.PlainMethods.{own_types, g, free, s, grounded, known_is}
use Rattle.ix_formed.proofs.ClassFields.{IsMember}
use Rattle.ix_formed.proofs.SourceMethods.{IsAmong, each_is_map}

-- ---- arguments

wider : (lo mid hi : ℕ) → mid ≤ hi → (part : Part) → PartIs (Within lo mid) part → PartIs (Within lo hi) part
wider lo mid hi le (expression span) here = (here.0, (let a = here.1 in omega (arith, a, le)))
wider lo mid hi le (statement span) here = tt
wider lo mid hi le declaration here = tt
wider lo mid hi le (in_type name) here = tt
wider lo mid hi le (elsewhere name) here = tt
wider lo mid hi le (entries n) here = tt

args_spans : (es : List Expr) (start lo hi : ℕ) → start ≤ lo → LaidOut start lo hi (row (map expr_piece es)) → AllOf (PartIs (Within start hi)) (together (map expr_parts es))
args_spans [] start lo hi le laid = tt
args_spans (e ∷ es) start lo hi le laid =
    let r = laid_parts start lo hi (expr_piece e) (row (map expr_piece es)) laid in
    let up = laid_up start lo r.0 (expr_piece e) r.1 in
    let last = laid_up start r.0 hi (row (map expr_piece es)) r.2 in
    all_joined (PartIs (Within start hi)) (expr_parts e) (together (map expr_parts es))
    (all_so (PartIs (Within start r.0)) (PartIs (Within start hi)) (wider start r.0 hi last) (expr_parts e) (expr_spans e start lo r.0 le r.1))
    (args_spans es start r.0 hi (omega (arith, le, up)) r.2)

each_written : (es : List Expr) → each_true is_written_expr es ≡ true → all_true (map is_written_expr es) ≡ true
each_written [] e = refl
each_written (x ∷ es) e = let q = and_parts (is_written_expr x) (each_true is_written_expr es) e in ap (λ b. b && all_true (map is_written_expr es)) q.0 ∙ each_written es q.1

each_readable : (es : List Expr) → each_true is_readable_expr es ≡ true → all_fine (map shape es) ≡ true
each_readable [] e = refl
each_readable (x ∷ es) e = let q = and_parts (is_readable_expr x) (each_true is_readable_expr es) e in ap (λ b. b && all_fine (map shape es)) q.0 ∙ each_readable es q.1

args_written : (d : MethodDecl) → Rattle.ix_formed.specs.Written.is_written_method d ≡ true → maybe_true (each_true is_written_expr) d.parent_args ≡ true
args_written d e =
    let a = (and_parts (not d.constructor || has_no_result d.result) _ e).1 in
    let b = (and_parts (maybe_true is_written_type d.result) _ a).1 in
    let c = (and_parts (each_true is_written_decl d.params) _ b).1 in (and_parts (maybe_true (each_true is_written_expr) d.parent_args) (each_true is_written_stmt d.body) c).0

module _ (unit : Source) (p : Program) (is : IsAccepted unit p) (method : Method) (w : IsWritten unit p is (IsMember unit p) (tables (names unit) unit.classes) method) (constructor : method.constructor ≡ true) where
  abbrev d : MethodDecl
  d = w.decl

  abbrev l : Place
  l = w.place

  abbrev own : Ground
  own = g unit p is method w

  abbrev ground : IsGround (g unit p is method w)
  ground = grounded unit p is method w

  abbrev none : ℕ
  none = free unit p is method w

  abbrev entry : Point
  entry = Some (entry_type p method)

  -- the arguments are judged where there is no `this` yet
  abbrev outside : Names
  outside = source.outside_object (s unit p is method w)

  -- What the arguments of the parent's constructor are.
  pub record AreArguments (args : List Expr) : Type 0 where
    pub spans : AllOf (PartIs (Within d.span.from w.fine.sound.from)) (together (map expr_parts args))
    pub known : AllOf (IsKnown own) (together (map expr_parts args))
    pub written : all_true (map is_written_expr args) ≡ true
    pub readable : all_fine (map shape args) ≡ true
    pub said : (above : ℕ) → l.world.parent l.class ≡ Some above → Says own (reading.given_to outside (map reading.reading args) (constructor_params l.world above) d.name.span)

  arguments_are : (o : Option (List Expr)) → d.parent_args ≡ o → AreArguments (args_or_none o)
  arguments_are None e = record {
    spans = tt;
    known = tt;
    written = refl;
    readable = refl;
    said = λ above f.
        let told = subst (λ b. Says own (if b then source.super_given l (s unit p is method w) d.parent_args d.name.span else [])) (sym w.head.constructor ∙ constructor) w.head.says.supers in
        let none_given = subst (λ o. Says own (source.super_given l (s unit p is method w) o d.name.span)) e told in
        let parent_given = subst (λ o. Says own (source.implicit_super_of l.world o d.name.span)) f none_given in
        subst (Says own) (sym (append-nil (Rattle.ix_meaning.specs.Rules.wrong_arguments 0 (length (constructor_params l.world above)) d.name.span))) parent_given;
  }
  arguments_are (Some args) e = record {
    spans = args_spans args d.span.from w.fine.sound.args_from w.fine.sound.from w.fine.sound.within (subst (λ o. LaidOut d.span.from w.fine.sound.args_from w.fine.sound.from (row (parent_pieces o))) e w.fine.sound.args_laid);
    known = subst (λ (x : List (List Part)). AllOf (IsKnown own) (together x)) (each_is_map expr_parts args)
        (all_so (IsAmong (unit_parts unit)) (IsKnown own) (known_is own) (args_parts args) (subst (λ o. AllOf (IsAmong (unit_parts unit)) (parts.maybe args_parts o)) e w.fine.sound.args_among)).1;
    written = each_written args (subst (λ o. maybe_true (each_true is_written_expr) o ≡ true) e (args_written d w.head.written));
    readable = each_readable args (subst (λ o. maybe_true (each_true is_readable_expr) o ≡ true) e (and_parts (maybe_true (each_true is_readable_expr) d.parent_args) (each_true is_readable_stmt d.body) w.fine.sound.readable).0);
    said = λ above f.
        let told = subst (λ b. Says own (if b then source.super_given l (s unit p is method w) d.parent_args d.name.span else [])) (sym w.head.constructor ∙ constructor) w.head.says.supers in
        let given = subst (λ o. Says own (source.super_given l (s unit p is method w) o d.name.span)) e told in
        subst (λ o. Says own (source.super_args l outside args o d.name.span)) f given;
  }

  same_parent : (class_at p method.class).parent ≡ w.at.parent
  same_parent =
      ap (λ c. (class_at p c).parent) (w.head.class ∙ sym w.class) ∙ same_parents unit p is w.at.class ∙ sym w.parent

  scoped : (lo hi : ℕ) → Scoped own outside [] [] none lo hi
  scoped lo hi =
      let e = entry_scoped unit p is l d method w.head w.at w.same w.fine.sound.few (own_types unit p is method w) lo hi in
      record {
        world = e.world;
        class = e.class;
        in_constructor = e.in_constructor;
        object = λ f. absurd (false≢true f);
        fields = e.fields;
        result = e.result;
        params = e.params;
        first = e.first;
        typed = e.typed;
        variables = e.variables;
        unused = e.unused;
      }

  super_called : (o : Option ℕ) → w.at.parent ≡ o → Makes (Starts unit p is method w constructor) (super_call own.site o (args_or_none d.parent_args) d.name.span (start none))
  super_called None e =
      let no_call : (method.constructor && has_parent p method) ≡ false =
      ap (λ b. b && has_parent p method) constructor ∙ ap Rattle.ix_core.specs.Formed.is_some_of (same_parent ∙ e) in
      let stands = entry_stands unit p is l d method w.head w.at w.same w.fine.sound.few (own_types unit p is method w) w.fine.sound.from d.span.to no_call in
      record {
        begun = begun_none own ground l w.head.world refl constructor w.fine.sound.from d.span.to (start none) entry;
        this = stands.this (ap (λ b. not (d.mods.is_static && not b)) (sym w.head.constructor ∙ constructor) ∙ no_static d.mods.is_static);
      }
    where
      no_static : (b : Bool) → not (b && not true) ≡ true
      no_static true = refl
      no_static false = refl
  super_called (Some above) e =
      let a = arguments_are d.parent_args refl in
      let up : l.world.parent l.class ≡ Some above = ap (λ (x : World). x.parent l.class) w.head.world ∙ ap (λ c. (world unit.classes).parent c) (sym w.class) ∙ sym w.parent ∙ e in
      let there : is_class p above ≡ true =
      class_is unit p is above (let lt = parents_there unit p is w.at.class above (sym w.parent ∙ e) in let c = parent_count unit p is in omega (arith, lt, c)) in
      let stands : Stands own outside [] entry =
      record { variables = entry_variables unit p is l d method w.head w.at w.same w.fine.sound.few (own_types unit p is method w) w.fine.sound.from d.span.to; this = λ f. absurd (false≢true f) } in
      parent_called own ground l w.head.world refl constructor w.fine.sound.from d.span.to outside above (args_or_none d.parent_args) d.span.from w.fine.sound.from d.name.span d.name.span (start none) entry
      (scoped d.span.from w.fine.sound.from) stands refl (omega arith) there (same_parent ∙ e) a.spans a.known a.written a.readable (a.said above up) unknown
    where
      no_type : (ty : Type_) → ◌≡◌ {A = Option Type_} None (Some ty) → ⊥
      no_type ty e = cc

      never : (b : Bool) → ◌≡◌ {A = Option Type_} (if not b && false then Some (class_type method.class) else None) None
      never true = refl
      never false = refl

      unknown : (ty : Type_) → entry_type p method 0 ≡ Some ty → ⊥
      unknown ty f =
          let one = ground.with_this constructor in
          no_type ty
          (sym (ap (λ (o : Option Type_). first_type o (this_type p method 0)) (param_before (param_slot method 0) method.param_types 0 (omega (arith, one)))
          ∙ ap (λ b. if not method.is_static && ((0 == 0) && not (b && has_parent p method)) then Some (class_type method.class) else None) constructor
          ∙ ap (λ (o : Option ℕ). if not method.is_static && ((0 == 0) && not (true && Rattle.ix_core.specs.Formed.is_some_of o)) then Some (class_type method.class) else None) (same_parent ∙ e)
          ∙ never method.is_static) ∙ f)

  -- A written constructor fits inside, where the initialisers of its class's fields are as they have to be.
  pub written_constructor_inside : AreInitialised own ground l w.head.world refl constructor w.fine.sound.from d.span.to w.at.field w.at.members → AllOf (λ (local : Local × Span). is_target p method local.0.slot ≡ true) method.locals → FitsInside p method
  written_constructor_inside fields targets =
      let e = entry_scoped unit p is l d method w.head w.at w.same w.fine.sound.few (own_types unit p is method w) w.fine.sound.from d.span.to in
      let started = constructor_starts own ground l w.head.world refl constructor w.fine.sound.from d.span.to w.at (args_or_none d.parent_args) d.name.span (start none) entry fields e.params
      (types_past unit p is l d method w.head w.at w.same w.fine.sound.few (own_types unit p is method w)) e.first (super_called w.at.parent refl) in
      constructor_inside unit p is method w constructor
      (subst (λ b. Makes (Starts unit p is method w constructor) (if b then Rattle.ix_plain.specs.Program.constructor_start own.site w.at (args_or_none d.parent_args) d.name.span (start none) else Ok (start none))) (sym (sym w.head.constructor ∙ constructor)) started) targets
