-- The methods, constructors and fields of a guarded source beside those of the source.
use Rattle.std.proofs.Common.{◌≡◌, ℕ, zero, suc, ◌+◌, Bool, true, false, List, [], ◌∷◌, ◌++◌, map, Option, Some, None, option_map, refl, sym, ap, ap₂, subst, ◌∙◌}
use Rattle.std.specs.Prelude.{◌&&◌, not, if◌then◌else◌, slice_get, flat_map, reverse}
use Rattle.std.proofs.Math.Path.{fun_ext}
use Rattle.ix_text.specs.declared.span.Span.{Span}
use Rattle.ix_core.specs.Heap.{Held, default_of}
use Rattle.ix_core.specs.Tables.{place_among}
use Rattle.ix_tree.specs.declared.annot.Ident.{Ident}
use Rattle.ix_tree.specs.declared.annot.Mods.{Mods}
use Rattle.ix_tree.specs.declared.decl.ClassDecl.{ClassDecl}
use Rattle.ix_tree.specs.declared.decl.LocalDecl.{LocalDecl}
use Rattle.ix_tree.specs.declared.decl.Member.{Member}
use Rattle.ix_tree.specs.declared.decl.MethodDecl.{MethodDecl}
use Rattle.ix_tree.specs.declared.expr.Expr.{Expr}
use Rattle.ix_tree.specs.declared.expr.Init.{Init}
use Rattle.ix_meaning.specs.Members.{next_field, next_fields}
use Rattle.ix_meaning.specs.Resolved.{Names}
use Rattle.ix_source.specs.Context.{Context, Members, type_declared}
use Rattle.ix_source.specs.Values.{evaluation, initial, arguments_from}
use Rattle.ix_source.specs.Bodies.{Written, Field, Class, Whole, or_none, name_of, written, written_in, written_from, with_field, fields_in, constructor_in, classes_from, own_fields, all_fields, fresh_field, static_of, found, members}
use Rattle.ix_guard_text.specs.Bare.{bare_maybe as maybe}
use Rattle.ix_guard.specs.Tests.{Site}
use Rattle.ix_guard_text.specs.Moved.{Move, moved_span, moved_expr, moved_init, moved_decl}
use Rattle.ix_guard_text.specs.GuardedNames.{SaysMoved, IsMeant}
use Rattle.ix_guard_text.specs.GuardedPlaces as placed
use Rattle.ix_guard_text.specs.GuardedPlaces.{Each, InList, PlacedMethod, PlacedMember, PlacedClass}
use Rattle.ix_guard_promise.specs.Behind.{Shows, Follows, ContextFollows}
use Rattle.ix_guard_promise.proofs.Following.{first_itself, shows_then, equal_then, equal_gives}
use Rattle.ix_guard_promise.proofs.ExpressionsFollow.{expression_keeps}
use Rattle.ix_guard_promise.proofs.StatementForms.{AllKeep}
use Rattle.ix_guard_promise.proofs.StatementsFollow.{list_follows}
use Rattle.ix_guard_promise.proofs.WorldsBeside.{SameMethods, found_same}

-- ---- lists of which each entry stands beside that of its number

-- neither, or both
abbrev pub Beside : {A B : Type 0} → (A → B → Type 0) → Option A → Option B → Type 0
Beside Is None None = Unit {0}
Beside Is (Some x) (Some y) = Is x y
Beside Is _ _ = ⊥

module _ {A B : Type 0} (Is : A → B → Type 0) where
  pub entry_beside : (xs : List A) (ys : List B) → Each Is xs ys → (k : ℕ) → Beside Is (slice_get xs k) (slice_get ys k)
  entry_beside _ _ placed.none k = tt
  entry_beside _ _ (placed.one_more is rest) zero = is
  entry_beside _ _ (placed.one_more {x} {y} {xs} {ys} is rest) (suc k) = entry_beside xs ys rest k

  each_joined : (xs xs' : List A) (ys ys' : List B) → Each Is xs ys → Each Is xs' ys' → Each Is (xs ++ xs') (ys ++ ys')
  each_joined _ xs' _ ys' placed.none more = more
  each_joined _ xs' _ ys' (placed.one_more {x} {y} {xs} {ys} is rest) more = placed.one_more is (each_joined xs xs' ys ys' rest more)

  each_flat : (f : ℕ → List A) (g : ℕ → List B) (ns : List ℕ) → ((n : ℕ) → Each Is (f n) (g n)) → Each Is (flat_map f ns) (flat_map g ns)
  each_flat f g [] all = placed.none
  each_flat f g (n ∷ ns) all = each_joined (f n) (flat_map f ns) (g n) (flat_map g ns) (all n) (each_flat f g ns all)

  each_same : {C : Type 0} (of : A → C) (other : B → C) → ((x : A) (y : B) → Is x y → other y ≡ of x) → (xs : List A) (ys : List B) → Each Is xs ys → map other ys ≡ map of xs
  each_same of other same _ _ placed.none = refl
  each_same {C} of other same _ _ (placed.one_more {x} {y} {xs} {ys} is rest) = ap₂ (λ (c : C) (cs : List C). c ∷ cs) (same x y is) (each_same of other same xs ys rest)

-- ---- arguments

module _ (move : Move) (new old : Context) (follows : ContextFollows move new old) where
  arguments_show : (exprs : List Expr) (before : List Held) → Shows (arguments_from before (map evaluation exprs) old)
  arguments_show [] before = first_itself
  arguments_show (expr ∷ exprs) before =
      shows_then ((evaluation expr).value old) (λ value. arguments_from (before ++ value ∷ []) (map evaluation exprs) old) (expression_keeps move new old follows expr).value.shows
      (λ value. arguments_show exprs (before ++ value ∷ []))

  arguments_follow : (exprs : List Expr) (before : List Held) → Follows move (arguments_from before (map evaluation (map (moved_expr move) exprs)) new) (arguments_from before (map evaluation exprs) old)
  arguments_follow [] before = equal_gives move before before refl
  arguments_follow (expr ∷ exprs) before =
      equal_then move ((evaluation (moved_expr move expr)).value new) ((evaluation expr).value old)
      (λ value. arguments_from (before ++ value ∷ []) (map evaluation (map (moved_expr move) exprs)) new) (λ value. arguments_from (before ++ value ∷ []) (map evaluation exprs) old)
      (expression_keeps move new old follows expr).value.follows
      (λ value. arguments_follow exprs (before ++ value ∷ [])) (λ value. arguments_show exprs (before ++ value ∷ []))

-- ---- methods, constructors and fields

module _ (move : Move) (others : Names) where
  -- In contexts where the names of the new source are these.
  pub record WrittenFollows (kept made : Written) : Type 0 where
    pub name : made.name ≡ moved_span move kept.name
    pub is_static : made.is_static ≡ kept.is_static
    pub params : made.params ≡ map (moved_span move) kept.params
    pub args : (new old : Context) → ContextFollows move new old → Follows move (arguments_from [] made.parent_args new) (arguments_from [] kept.parent_args old)
    pub args_show : (new old : Context) → ContextFollows move new old → Shows (arguments_from [] kept.parent_args old)
    pub body : (new old : Context) (follows : ContextFollows move new old) → new.names ≡ others → AllKeep move new old made.body kept.body

  pub record FieldFollows (kept made : Field) : Type 0 where
    pub number : made.number ≡ kept.number
    pub name : made.name ≡ moved_span move kept.name
    pub source : Option Init
    pub old_init : kept.init ≡ option_map initial source
    pub new_init : made.init ≡ option_map initial (maybe (moved_init move) source)

  pub record ClassFollows (kept made : Class) : Type 0 where
    pub fields : Each FieldFollows kept.fields made.fields
    pub constructor : Beside WrittenFollows kept.constructor made.constructor

-- ---- what is placed so follows

module _ (move : Move) (others : Names) (site : Site) where
  abbrev WrittenSo : Written → Written → Type 0
  WrittenSo = WrittenFollows move others

  abbrev FieldSo : Field → Field → Type 0
  FieldSo = FieldFollows move others

  abbrev ClassSo : Class → Class → Type 0
  ClassSo = ClassFollows move others

  abbrev Method : MethodDecl → MethodDecl → Type 0
  Method = PlacedMethod site move (IsMeant site.names others move)

  abbrev AMember : Member → Member → Type 0
  AMember = PlacedMember site move (IsMeant site.names others move)

  abbrev AClass : ClassDecl → ClassDecl → Type 0
  AClass = PlacedClass site move (IsMeant site.names others move)

  names_moved : (params : List LocalDecl) → map name_of (map (moved_decl move) params) ≡ map (moved_span move) (map name_of params)
  names_moved [] = refl
  names_moved (param ∷ params) = ap (λ (spans : List Span). moved_span move param.name.span ∷ spans) (names_moved params)

  args_moved : (args : Option (List Expr)) → or_none (maybe (map (moved_expr move)) args) ≡ map (moved_expr move) (or_none args)
  args_moved None = refl
  args_moved (Some args) = refl

  written_follows : (class : ℕ) (old new : MethodDecl) → Method old new → WrittenSo (written class old) (written class new)
  written_follows class old new is =
      let args : or_none new.parent_args ≡ map (moved_expr move) (or_none old.parent_args) = ap or_none is.parent_args ∙ args_moved old.parent_args in
      record {
        name = ap (λ (name : Ident). name.span) is.name;
        is_static = ap (λ (mods : Mods). mods.is_static && not new.constructor) is.mods ∙ ap (λ b. old.mods.is_static && not b) is.constructor;
        params = ap (map name_of) is.params ∙ names_moved old.params;
        args = λ n o follows. subst (λ exprs. Follows move (arguments_from [] (map evaluation exprs) n) (arguments_from [] (map evaluation (or_none old.parent_args)) o)) (sym args)
            (arguments_follow move n o follows (or_none old.parent_args) []);
        args_show = λ n o follows. arguments_show move n o follows (or_none old.parent_args) [];
        body = λ n o follows same. list_follows site move n o follows old.body new.body (subst (λ names. InList site move (IsMeant site.names names move) old.body new.body) (sym same) is.body);
      }

  written_in_follow : (class : ℕ) (ms ns : List Member) → Each AMember ms ns → Each WrittenSo (written_in class ms) (written_in class ns)
  written_in_follow class _ _ placed.none = placed.none
  written_in_follow class _ _ (placed.one_more {x} {y} {xs} {ys} is rest) = first x y is (written_in_follow class xs ys rest)
    where
      first : (x y : Member) → AMember x y → Each WrittenSo (written_in class xs) (written_in class ys) → Each WrittenSo (written_in class (x ∷ xs)) (written_in class (y ∷ ys))
      first _ _ (placed.field decl) more = more
      first _ _ (placed.method {old} {new} is) more = placed.one_more (written_follows class old new is) more

  pub written_from_follow : (class : ℕ) (cs ds : List ClassDecl) → Each AClass cs ds → Each WrittenSo (written_from class cs) (written_from class ds)
  written_from_follow class _ _ placed.none = placed.none
  written_from_follow class _ _ (placed.one_more {x} {y} {xs} {ys} is rest) =
      each_joined WrittenSo (written_in class x.members) (written_from (class + 1) xs) (written_in class y.members) (written_from (class + 1) ys) (written_in_follow class x.members y.members is.members)
      (written_from_follow (class + 1) xs ys rest)

  field_follows : (number : ℕ) (decl : LocalDecl) (rest more : List Field) → Each FieldSo rest more → Each FieldSo (with_field number decl rest) (with_field number (moved_decl move decl) more)
  field_follows number decl rest more all = by decl.mods.is_static
    where
      by : (b : Bool) → Each FieldSo (if b then rest else record { number = number; name = decl.name.span; init = option_map initial decl.init } ∷ rest)
          (if b then more else record { number = number; name = moved_span move decl.name.span; init = option_map initial (maybe (moved_init move) decl.init) } ∷ more)
      by true = all
      by false = placed.one_more (record { number = refl; name = refl; source = decl.init; old_init = refl; new_init = refl }) all

  fields_follow : (number : ℕ) (ms ns : List Member) → Each AMember ms ns → Each FieldSo (fields_in number ms) (fields_in number ns)
  fields_follow number _ _ placed.none = placed.none
  fields_follow number _ _ (placed.one_more {x} {y} {xs} {ys} is rest) = first x y is (λ next. fields_follow next xs ys rest)
    where
      first : (x y : Member) → AMember x y → ((next : ℕ) → Each FieldSo (fields_in next xs) (fields_in next ys)) → Each FieldSo (fields_in number (x ∷ xs)) (fields_in number (y ∷ ys))
      first _ _ (placed.field decl) more = field_follows number decl (fields_in (next_field number decl) xs) (fields_in (next_field number decl) ys) (more (next_field number decl))
      first _ _ (placed.method is) more = more number

  constructors_follow : (class : ℕ) (ms ns : List Member) → Each AMember ms ns → Beside WrittenSo (constructor_in class ms) (constructor_in class ns)
  constructors_follow class _ _ placed.none = tt
  constructors_follow class _ _ (placed.one_more {x} {y} {xs} {ys} is rest) = first x y is (constructors_follow class xs ys rest)
    where
      by : (old new : MethodDecl) → WrittenSo (written class old) (written class new) → Beside WrittenSo (constructor_in class xs) (constructor_in class ys)
          → (b : Bool) → Beside WrittenSo (if b then Some (written class old) else constructor_in class xs) (if b then Some (written class new) else constructor_in class ys)
      by old new is more true = is
      by old new is more false = more

      first : (x y : Member) → AMember x y → Beside WrittenSo (constructor_in class xs) (constructor_in class ys) → Beside WrittenSo (constructor_in class (x ∷ xs)) (constructor_in class (y ∷ ys))
      first _ _ (placed.field decl) more = more
      first _ _ (placed.method {old} {new} is) more =
          subst (λ b. Beside WrittenSo (if old.constructor then Some (written class old) else constructor_in class xs) (if b then Some (written class new) else constructor_in class ys)) (sym is.constructor)
          (by old new (written_follows class old new is) more old.constructor)

  next_same : (next : ℕ) (ms ns : List Member) → Each AMember ms ns → next_fields next ns ≡ next_fields next ms
  next_same next _ _ placed.none = refl
  next_same next _ _ (placed.one_more {x} {y} {xs} {ys} is rest) = first x y is (λ next. next_same next xs ys rest)
    where
      first : (x y : Member) → AMember x y → ((next : ℕ) → next_fields next ys ≡ next_fields next xs) → next_fields next (y ∷ ys) ≡ next_fields next (x ∷ xs)
      first _ _ (placed.field decl) more = more (next_field next decl)
      first _ _ (placed.method is) more = more next

  pub classes_follow : (class field : ℕ) (cs ds : List ClassDecl) → Each AClass cs ds → Each ClassSo (classes_from class field cs) (classes_from class field ds)
  classes_follow class field _ _ placed.none = placed.none
  classes_follow class field _ _ (placed.one_more {x} {y} {xs} {ys} is rest) =
      placed.one_more (record { fields = fields_follow field x.members y.members is.members; constructor = constructors_follow class x.members y.members is.members })
      (subst (λ next. Each ClassSo (classes_from (class + 1) (next_fields field x.members) xs) (classes_from (class + 1) next ys)) (sym (next_same field x.members y.members is.members))
      (classes_follow (class + 1) (next_fields field x.members) xs ys rest))

-- ---- whole sources

module _ (move : Move) (others : Names) where
  pub record WholeFollows (new old : Whole) : Type 0 where
    pub names : SaysMoved old.names new.names move
    pub these : new.names ≡ others
    pub same : SameMethods new old
    pub parent : (class : ℕ) → new.world.parent class ≡ old.world.parent class
    pub methods : Each (WrittenFollows move others) old.methods new.methods
    pub classes : Each (ClassFollows move others) old.classes new.classes

  module _ (new old : Whole) (follows : WholeFollows new old) where
    own_fields_follow : (kept made : Option Class) → Beside (ClassFollows move others) kept made → Each (FieldFollows move others) (own_fields kept) (own_fields made)
    own_fields_follow None None is = placed.none
    own_fields_follow (Some kept) (Some made) is = is.fields
    own_fields_follow None (Some made) is = absurd is
    own_fields_follow (Some kept) None is = absurd is

    pub all_fields_follow : (class : ℕ) → Each (FieldFollows move others) (all_fields old class) (all_fields new class)
    all_fields_follow class =
        subst (λ above. Each (FieldFollows move others) (all_fields old class) (flat_map (λ above. own_fields (slice_get new.classes above)) (reverse (class ∷ above)))) (sym (follows.same.supers class))
        (each_flat (FieldFollows move others) (λ above. own_fields (slice_get old.classes above)) (λ above. own_fields (slice_get new.classes above)) (reverse (class ∷ old.world.supers class))
        (λ above. own_fields_follow (slice_get old.classes above) (slice_get new.classes above) (entry_beside (ClassFollows move others) old.classes new.classes follows.classes above)))

    place_same : (class field : ℕ) → (members new).place class field ≡ (members old).place class field
    place_same class field =
        ap (λ numbers. place_among numbers field)
        (each_same (FieldFollows move others) (λ (own : Field). own.number) (λ (own : Field). own.number) (λ kept made is. is.number) (all_fields old class) (all_fields new class) (all_fields_follow class))

    fresh_same : (class : ℕ) → (members new).fresh class ≡ (members old).fresh class
    fresh_same class =
        each_same (FieldFollows move others) (fresh_field old.names) (fresh_field new.names)
        (λ kept made is. ap (λ span. default_of (type_declared (new.names.declared span))) is.name ∙ ap (λ declared. default_of (type_declared declared)) (follows.names.declared kept.name))
        (all_fields old class) (all_fields new class) (all_fields_follow class)

    statics_same : (kept made : Option Written) → Beside (WrittenFollows move others) kept made → static_of made ≡ static_of kept
    statics_same None None is = refl
    statics_same (Some kept) (Some made) is = is.is_static
    statics_same None (Some made) is = absurd is
    statics_same (Some kept) None is = absurd is

    static_same : (number : ℕ) → (members new).is_static number ≡ (members old).is_static number
    static_same number = statics_same (slice_get old.methods number) (slice_get new.methods number) (entry_beside (WrittenFollows move others) old.methods new.methods follows.methods number)

    abbrev with : (ℕ → Bool) → (ℕ → ℕ → ℕ) → (ℕ → ℕ → Option ℕ) → (ℕ → List Held) → Members
    with is_static found place fresh = record { is_static = is_static; found = found; place = place; fresh = fresh }

    -- Of each number of a class, a method and a field both say the same.
    pub members_same : members new ≡ members old
    members_same =
        ap₂ (λ (is_static : ℕ → Bool) (found : ℕ → ℕ → ℕ). with is_static found (members new).place (members new).fresh) (fun_ext static_same)
        (fun_ext (λ class. fun_ext (λ named. found_same new old follows.same class named)))
        ∙ ap₂ (λ (place : ℕ → ℕ → Option ℕ) (fresh : ℕ → List Held). with (members old).is_static (members old).found place fresh) (fun_ext (λ class. fun_ext (λ field. place_same class field))) (fun_ext fresh_same)
