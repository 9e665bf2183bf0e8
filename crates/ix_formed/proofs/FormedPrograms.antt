-- The program of an accepted source is formed, where the bodies and the locals of its constructors fit.
use Rattle.std.proofs.Common.{◌≡◌, ◌≤◌, ℕ, zero, suc, Bool, true, false, List, [], ◌∷◌, None, length, refl, sym, ap, subst, ◌∙◌, arith}
use Rattle.std.specs.Prelude.{if◌then◌else◌, ◌&&◌, ◌||◌, not, nat_lt, count_by, slice_get, unwrap_or}
use Rattle.std.proofs.lemmas.Bool.{false≢true, and_parts}
use Rattle.ix_text.specs.declared.span.Span.{Span}
use Rattle.ix_core.specs.declared.claim.Type_.{Type_}
use Rattle.ix_core.specs.declared.program.Local.{Local}
use Rattle.ix_core.specs.declared.program.Method.{Method}
use Rattle.ix_core.specs.declared.program.Program.{Program}
use Rattle.ix_core.specs.Formed.{at_most, classes_fit, fields_fit, params_fit, locals_fit, body_fits, result_fits, constructor_fits, overrides_fit, super_calls_fit, method_fits, posts_fit, methods_fit, Formed, same_numbers, loop_numbers, numbers_from, code_size}
use Rattle.ix_core.specs.Posts.{some_conditional, writes_answers}
use Rattle.ix_core.specs.Tables.{param_slots, body_of, no_method}
use Rattle.ix_core.specs.Types.{is_class}
use Rattle.ix_core.proofs.Cases.{by_test}
use Rattle.ix_tree.specs.declared.decl.ClassDecl.{ClassDecl}
use Rattle.ix_tree.specs.declared.decl.MethodDecl.{MethodDecl}
use Rattle.ix_tree.specs.declared.decl.Unit.{Unit as Source}
use Rattle.ix_tree.specs.Placed.{Placed}
use Rattle.ix_meaning.specs.Members.{world}
use Rattle.ix_meaning.specs.Resolved.{names}
use Rattle.ix_meaning.specs.Source.{Place, has_constructor}
use Rattle.ix_plain.specs.declared.numbers.Next.{Next}
use Rattle.ix_plain.specs.Members.{next_behind, is_static, first_numbers}
use Rattle.ix_plain.specs.Program.{Tables, Home, home, tables, first_param, overrides}
use Rattle.ix_formed.specs.Additions.{AllOf}
use Rattle.ix_formed.specs.OwnSlots.{HaveOwnSlots, AllOwnSlots}
use Rattle.ix_formed.specs.Readable.{is_readable}
use Rattle.ix_formed.specs.Shape.{AreInSlots, IsDefault, IsOneDefault, IfElse, AreDefaults, MethodHasShape, params_of}
use Rattle.ix_formed.specs.Written.{is_written_type, is_written_decl, has_no_result, each_true, maybe_true}
use Rattle.ix_formed.proofs.ClassesFit.{matched, matched_with, methods_have, classes_do_fit}
use Rattle.ix_formed.proofs.FieldsFit.{IsAccepted, fields_do_fit, shape}
use Rattle.ix_formed.proofs.HeadsAre.{IsWritten, head_matches}
use Rattle.ix_formed.proofs.HeadsFit.{all_params_say, params_do_fit, result_does_fit, constructor_does_fit}
use Rattle.ix_formed.proofs.NumberLists.{both_true, all_joined, all_split}
use Rattle.ix_formed.proofs.Overrides.{overrides_do_fit}
use Rattle.ix_formed.proofs.PlainMethods.{own_types, plain_body_fits, plain_answers, plain_locals_fit, plain_locals_own}
use Rattle.ix_formed.proofs.PostsFit.{constructor_none, posts_do_fit, default_posts_fit}
use Rattle.ix_formed.proofs.ProgramsHaveShape.{params_behind}
use Rattle.ix_formed.proofs.SizesFit.{IsSmallBody, sizes_do_fit}
use Rattle.ix_formed.proofs.ClassFields.{IsMember, members_are}

pub few_first : (b : Bool) → ◌≤◌ (if b then 0 else 1) 1
few_first true = omega arith
few_first false = omega arith

module _ (p : Program) where
  -- the locals and the body of a method fit, where the locals have some types; and each local has a slot of its own
  abbrev pub FitsInside : Method → Type 0
  FitsInside method = (types : List Type_) × (locals_fit p method types 0 method.locals types ≡ true) × (body_fits p method types ≡ true) × HaveOwnSlots method.locals

  abbrev Fits : Method → Type 0
  Fits method = (types : List Type_) × (method_fits p method types ≡ true)

  -- what is asked of a method's head
  pub record HasGoodHead (method : Method) : Type 0 where
    pub params : params_fit p method 0 method.params method.param_types ≡ true
    pub result : result_fits p method ≡ true
    pub constructor : constructor_fits p method ≡ true
    pub overrides : overrides_fit p method method.overrides ≡ true

  method_does_fit : (method : Method) → HasGoodHead method → MethodHasShape p method → IsSmallBody method → FitsInside method → Fits method
  method_does_fit method head has small inside = (
    inside.0,
    both_true (is_class p method.class) _ has.class
        (both_true (params_fit p method 0 method.params method.param_types) _ head.params
        (both_true (at_most (param_slots method) method.slots) _ has.first
        (both_true (at_most method.slots 512) _ has.slots
        (both_true (locals_fit p method inside.0 0 method.locals inside.0) _ inside.1
        (both_true (result_fits p method) _ head.result
        (both_true (constructor_fits p method) _ head.constructor
        (both_true (overrides_fit p method method.overrides) _ head.overrides
        (both_true (same_numbers (loop_numbers (body_of method)) (numbers_from 0 (length (loop_numbers (body_of method))))) _ has.loops
        (both_true (at_most (length (loop_numbers (body_of method))) 128) _ has.few_loops
        (both_true (nat_lt (code_size (body_of method)) 268435456) _ small
        (both_true (super_calls_fit p method) (body_fits p method inside.0) has.supers inside.2))))))))))),
  )

  abbrev types_of_all : (methods : List Method) → AllOf Fits methods → List (List Type_)
  types_of_all [] all = []
  types_of_all (method ∷ methods) all = all.0.0 ∷ types_of_all methods all.1

  -- what a method promises fits
  abbrev PostsFit : Method → Type 0
  PostsFit method = posts_fit p method ≡ true

  methods_do_fit : (methods : List Method) (all : AllOf Fits methods) → AllOf PostsFit methods → methods_fit p methods (types_of_all methods all) ≡ true
  methods_do_fit [] all posts = refl
  methods_do_fit (method ∷ methods) all posts =
      both_true (method_fits p method all.0.0) (posts_fit p method && methods_fit p methods (types_of_all methods all.1)) all.0.1
      (both_true (posts_fit p method) (methods_fit p methods (types_of_all methods all.1)) posts.0 (methods_do_fit methods all.1 posts.1))

  all_fit : (methods : List Method) → AllOf HasGoodHead methods → AllOf (MethodHasShape p) methods → AllOf IsSmallBody methods → AllOf FitsInside methods → AllOf Fits methods
  all_fit [] heads shapes small inside = tt
  all_fit (method ∷ methods) heads shapes small inside = (method_does_fit method heads.0 shapes.0 small.0 inside.0, all_fit methods heads.1 shapes.1 small.1 inside.1)

module _ (unit : Source) (p : Program) (is : IsAccepted unit p) where
  abbrev t : Tables
  t = tables (names unit) unit.classes

  -- ---- heads

  written_head_fits : (Q : Place → Home → MethodDecl → Type 0) (method : Method) (w : IsWritten unit p is Q t method) → length w.decl.params ≤ 32 → MethodHasShape p method → HasGoodHead p method
  written_head_fits Q method w few has =
      let d = w.decl in
      let l = w.place in
      let head = w.head in
      let slot = first_param (is_static d) in
      let params : method.params ≡ params_of (names unit) slot d.params =
      ap (λ (m : Method). m.params) w.same.same ∙ params_behind (names unit) [] slot d.params (let f = few_first (is_static d) in omega (arith, f, few)) in
      let wr = (and_parts (maybe_true is_written_type d.result) _ (and_parts (not d.constructor || has_no_result d.result) _ head.written).1).1 in
      record {
        params = ap (λ (ls : List Local). params_fit p method 0 ls method.param_types) params ∙ ap (λ (ts : List Type_). params_fit p method 0 (params_of (names unit) slot d.params) ts) head.types
            ∙ params_do_fit unit p is l d method head 0 d.params slot (all_params_say unit p is l d method head) (and_parts (each_true is_written_decl d.params) _ wr).0 (subst (AreInSlots method 0) params has.params);
        result = result_does_fit unit p is l d method head;
        constructor = constructor_does_fit unit p is l d method head;
        overrides = overrides_do_fit unit p is (matched unit p is).0 l d method head (head_matches unit p is l d method head) (ap (λ (m : Method). m.overrides) w.same.same ∙ ap (λ c. overrides (world unit.classes) c d) w.class);
      }

  default_head_fits : (at : Home) (span : Span) (method : Method) → IsDefault t at span method → HasGoodHead p method
  default_head_fits at span method default = record {
    params = ap (λ (ls : List Local). params_fit p method 0 ls method.param_types) (ap (λ (m : Method). m.params) default.same) ∙ ap (λ (ts : List Type_). params_fit p method 0 [] ts) (ap (λ (m : Method). m.param_types) default.same);
    result = ap (result_fits p) default.same;
    constructor = ap (constructor_fits p) default.same;
    overrides = ap (overrides_fit p method) (ap (λ (m : Method). m.overrides) default.same);
  }

  default_heads_fit : (next : Next) (ks : List ClassDecl) (methods : List Method) → AreDefaults t next ks methods → AllOf (HasGoodHead p) methods
  default_heads_fit next [] methods are = subst (AllOf (HasGoodHead p)) (sym are) tt
  default_heads_fit next (k ∷ ks) methods are = one_or_none (has_constructor k.members) are (λ others rest. default_heads_fit (next_behind next k) ks others rest)
    where
      one_or_none : (b : Bool) → IfElse b (AreDefaults t (next_behind next k) ks methods) (IsOneDefault (AreDefaults t (next_behind next k) ks) t (home t next k) k.name.span methods)
          → ((others : List Method) → AreDefaults t (next_behind next k) ks others → AllOf (HasGoodHead p) others) → AllOf (HasGoodHead p) methods
      one_or_none true are rest = rest methods are
      one_or_none false are rest = subst (AllOf (HasGoodHead p)) (sym are.2) (default_head_fits (home t next k) k.name.span are.0 are.3, rest are.1 are.4)

  -- default constructors are constructors
  defaults_construct : (next : Next) (ks : List ClassDecl) (methods : List Method) → AreDefaults t next ks methods → AllOf (λ (m : Method). m.constructor ≡ true) methods
  defaults_construct next [] methods are = subst (AllOf (λ (m : Method). m.constructor ≡ true)) (sym are) tt
  defaults_construct next (k ∷ ks) methods are = one_or_none (has_constructor k.members) are (λ others rest. defaults_construct (next_behind next k) ks others rest)
    where
      one_or_none : (b : Bool) → IfElse b (AreDefaults t (next_behind next k) ks methods) (IsOneDefault (AreDefaults t (next_behind next k) ks) t (home t next k) k.name.span methods)
          → ((others : List Method) → AreDefaults t (next_behind next k) ks others → AllOf (λ (m : Method). m.constructor ≡ true) others) → AllOf (λ (m : Method). m.constructor ≡ true) methods
      one_or_none true are rest = rest methods are
      one_or_none false are rest = subst (AllOf (λ (m : Method). m.constructor ≡ true)) (sym are.2) (ap (λ (m : Method). m.constructor) are.3.same, rest are.1 are.4)

  -- ---- bodies and locals

  -- where it is a constructor
  abbrev pub WhereConstructor : Method → Type 0
  WhereConstructor method = method.constructor ≡ true → FitsInside p method

  inside_written : (method : Method) → IsWritten unit p is (IsMember unit p) t method → MethodHasShape p method → WhereConstructor method → FitsInside p method
  inside_written method w has constructor =
      by_test w.decl.constructor (λ c. constructor (w.head.constructor ∙ c))
      (λ plain. (own_types unit p is method w, plain_locals_fit unit p is method w plain has.locals, plain_body_fits unit p is method w plain, plain_locals_own unit p is method w plain))

  written_heads_fit : (methods : List Method) → AllOf (IsWritten unit p is (IsMember unit p) t) methods → AllOf (MethodHasShape p) methods → AllOf (HasGoodHead p) methods
  written_heads_fit [] ws has = tt
  written_heads_fit (method ∷ methods) ws has = (written_head_fits (IsMember unit p) method ws.0 ws.0.fine.sound.few has.0, written_heads_fit methods ws.1 has.1)

  -- ---- posts

  written_posts_fit : (method : Method) → IsWritten unit p is (IsMember unit p) t method → PostsFit p method
  written_posts_fit method w = posts_do_fit unit p is (IsMember unit p) method w (by_constructor w.decl.constructor refl)
    where
      by_constructor : (b : Bool) → w.decl.constructor ≡ b → some_conditional method.posts ≡ true → writes_answers None (body_of method) ≡ true
      by_constructor true c e = absurd (false≢true (sym (ap some_conditional (constructor_none unit p is (IsMember unit p) method w (w.head.constructor ∙ c))) ∙ e))
      by_constructor false plain e = plain_answers unit p is method w plain e

  all_posts_written : (methods : List Method) → AllOf (IsWritten unit p is (IsMember unit p) t) methods → AllOf (PostsFit p) methods
  all_posts_written [] ws = tt
  all_posts_written (method ∷ methods) ws = (written_posts_fit method ws.0, all_posts_written methods ws.1)

  all_posts_default : (next : Next) (ks : List ClassDecl) (methods : List Method) → AreDefaults t next ks methods → AllOf (PostsFit p) methods
  all_posts_default next [] methods are = subst (AllOf (PostsFit p)) (sym are) tt
  all_posts_default next (k ∷ ks) methods are = one_or_none (has_constructor k.members) are (λ others rest. all_posts_default (next_behind next k) ks others rest)
    where
      one_or_none : (b : Bool) → IfElse b (AreDefaults t (next_behind next k) ks methods) (IsOneDefault (AreDefaults t (next_behind next k) ks) t (home t next k) k.name.span methods)
          → ((others : List Method) → AreDefaults t (next_behind next k) ks others → AllOf (PostsFit p) others) → AllOf (PostsFit p) methods
      one_or_none true are rest = rest methods are
      one_or_none false are rest = subst (AllOf (PostsFit p)) (sym are.2) (default_posts_fit unit p is (home t next k) k.name.span are.0 are.3, rest are.1 are.4)

  all_inside_written : (methods : List Method) → AllOf (IsWritten unit p is (IsMember unit p) t) methods → AllOf (MethodHasShape p) methods → AllOf WhereConstructor methods → AllOf (FitsInside p) methods
  all_inside_written [] ws has constructors = tt
  all_inside_written (method ∷ methods) ws has constructors = (inside_written method ws.0 has.0 constructors.0, all_inside_written methods ws.1 has.1 constructors.1)

  all_inside_default : (methods : List Method) → AllOf (λ (m : Method). m.constructor ≡ true) methods → AllOf WhereConstructor methods → AllOf (FitsInside p) methods
  all_inside_default [] are constructors = tt
  all_inside_default (method ∷ methods) are constructors = (constructors.0 are.0, all_inside_default methods are.1 constructors.1)

  -- all methods fit inside, where constructors do
  all_inside : (end : ℕ) → Placed end unit → is_readable unit.classes ≡ true → AllOf WhereConstructor p.methods → AllOf (FitsInside p) p.methods
  all_inside end placed readable constructors =
      let have = methods_have unit p is in
      let c = all_split WhereConstructor have.written have.default (subst (AllOf WhereConstructor) have.same constructors) in
      let s = all_split (MethodHasShape p) have.written have.default (subst (AllOf (MethodHasShape p)) have.same (shape unit p is).each) in
      let ws = (matched_with unit p is (IsMember unit p) (members_are unit p is end placed readable)).1 in
      subst (AllOf (FitsInside p)) (sym have.same)
      (all_joined (FitsInside p) have.written have.default (all_inside_written have.written ws s.0 c.0)
      (all_inside_default have.default (defaults_construct (first_numbers unit.classes) unit.classes have.default have.are_default) c.1))

  own_slots_in : (methods : List Method) → AllOf (FitsInside p) methods → (number : ℕ) → HaveOwnSlots (unwrap_or (slice_get methods number) no_method).locals
  own_slots_in [] all number = λ k local is. absurd cc
  own_slots_in (method ∷ methods) all zero = all.0.3
  own_slots_in (method ∷ methods) all (suc number) = own_slots_in methods all.1 number

  -- Its locals have slots of their own.
  pub own_slots_of : (end : ℕ) → Placed end unit → is_readable unit.classes ≡ true → AllOf WhereConstructor p.methods → AllOwnSlots p
  own_slots_of end placed readable constructors = own_slots_in p.methods (all_inside end placed readable constructors)

  -- The program is formed, where its constructors fit inside.
  pub formed_of : (end : ℕ) → Placed end unit → is_readable unit.classes ≡ true → AllOf WhereConstructor p.methods → Formed p
  formed_of end placed readable constructors =
      let have = methods_have unit p is in
      let each = shape unit p is in
      let s = all_split (MethodHasShape p) have.written have.default (subst (AllOf (MethodHasShape p)) have.same each.each) in
      let ws = (matched_with unit p is (IsMember unit p) (members_are unit p is end placed readable)).1 in
      let heads = subst (AllOf (HasGoodHead p)) (sym have.same)
      (all_joined (HasGoodHead p) have.written have.default (written_heads_fit have.written ws s.0) (default_heads_fit (first_numbers unit.classes) unit.classes have.default have.are_default)) in
      let inside = all_inside end placed readable constructors in
      let small = sizes_do_fit unit is.can t (first_numbers unit.classes) p.methods have in
      let all = all_fit p p.methods heads each.each small inside in
      let posts = subst (AllOf (PostsFit p)) (sym have.same) (all_joined (PostsFit p) have.written have.default (all_posts_written have.written ws) (all_posts_default (first_numbers unit.classes) unit.classes have.default have.are_default)) in (
        types_of_all p p.methods all,
        both_true (classes_fit p 0 p.classes) _ (classes_do_fit unit p is)
            (both_true (fields_fit p 0 p.fields) _ (fields_do_fit unit p is)
            (both_true (at_most (count_by (λ (method : Method). method.written) p.methods) 4096) (methods_fit p p.methods (types_of_all p p.methods all)) each.written (methods_do_fit p p.methods all posts))),
      )
