-- The posts of each method fit: its own, and behind them those of the method that it overrides.
use Rattle.std.proofs.Common.{◌≡◌, ◌≤◌, ◌<◌, ℕ, zero, suc, ◌+◌, Bool, true, false, List, [], ◌∷◌, ◌++◌, length, Option, Some, None, refl, sym, ap, subst, ◌∙◌, arith}
use Rattle.std.specs.Prelude.{if◌then◌else◌, ◌==◌, ◌||◌, ◌&&◌, not, bytes_eq, slice_get, unwrap_or}
use Rattle.std.specs.List.{list_all}
use Rattle.std.proofs.lemmas.Bool.{false≢true, and_parts}
use Rattle.std.proofs.lemmas.List.{reverse-reverse}
use Rattle.std.specs.Prelude.{reverse, flat_map}
use Rattle.ix_text.specs.declared.span.Span.{Span}
use Rattle.ix_core.specs.declared.claim.Base.TheVariants as base
use Rattle.ix_core.specs.declared.claim.Claim.{Claim}
use Rattle.ix_core.specs.declared.claim.Claim.TheVariants as claim
use Rattle.ix_core.specs.declared.claim.Name.{Name}
use Rattle.ix_core.specs.declared.claim.Name.TheVariants as name
use Rattle.ix_core.specs.declared.claim.Off.{Off}
use Rattle.ix_core.specs.declared.claim.Off.TheVariants as off
use Rattle.ix_core.specs.declared.claim.Post.{Post}
use Rattle.ix_core.specs.declared.claim.Type_.{Type_}
use Rattle.ix_core.specs.declared.claim.Type_.TheVariants as type
use Rattle.ix_core.specs.declared.program.Method.{Method}
use Rattle.ix_core.specs.declared.program.Program.{Program}
use Rattle.ix_core.specs.Formed as formed
use Rattle.ix_core.specs.Formed.{post_fits, posts_fit, named_type, has_no_posts, are_same_posts, ends_with, overrides_fit, is_there, is_proper_ancestor, same_types, is_int_of, is_array_of, offset_fits, claim_fits}
use Rattle.ix_core.specs.Posts.{is_conditional, some_conditional, same_post, same_when, same_answer, writes_answers}
use Rattle.ix_core.specs.SameClaims.{same_name, same_claim}
use Rattle.ix_core.specs.Tables.{method_at, no_method, class_at, field_at, all_fields, ancestors, is_among, body_of, most_on_way}
use Rattle.ix_core.specs.Types.{bool_type, int_type, same_type, is_below}
use Rattle.ix_core.proofs.Ancestors.{flat_among}
use Rattle.ix_core.proofs.Cases.{by_test, equal}
use Rattle.ix_core.proofs.TypedFields.{among_reverse}
use Rattle.ix_tree.specs.declared.annot.Annot.{Annot}
use Rattle.ix_tree.specs.declared.decl.MethodDecl.{MethodDecl}
use Rattle.ix_tree.specs.declared.decl.Unit.{Unit as Source}
use Rattle.ix_tree.specs.Parts.{unit_parts}
use Rattle.ix_annot.specs.declared.scope.Target.{Target}
use Rattle.ix_annot.specs.declared.scope.Target.TheVariants as on
use Rattle.ix_annot.specs.Named.{Names}
use Rattle.ix_annot.specs.Expansion.{expanded, is_field}
use Rattle.ix_meaning.specs.declared.members.Signature.{Signature}
use Rattle.ix_meaning.specs.Annotated.{given, aimed, posts_from, distinct_posts, of_method}
use Rattle.ix_meaning.specs.Classes as classes
use Rattle.ix_meaning.specs.Classes.{parents, parent, onward, supers}
use Rattle.ix_meaning.specs.Inheritance.{if_instance}
use Rattle.ix_meaning.specs.Members as members
use Rattle.ix_meaning.specs.Members.{Callee, world, signature, is_method_named, nearest, or_nearest}
use Rattle.ix_meaning.specs.Resolved.{names}
use Rattle.ix_meaning.specs.Scope.{Scope, annot_names}
use Rattle.ix_meaning.specs.Source as source
use Rattle.ix_meaning.specs.Source.{Place}
use Rattle.ix_meaning.specs.Types.{is_boolean}
use Rattle.ix_plain.specs.Scope.{declared_type, declared_posts}
use Rattle.ix_plain.specs.Members.{first_numbers}
use Rattle.ix_plain.specs.Program as program
use Rattle.ix_plain.specs.Program.{Tables, Home, tables, overrides, number_of, posts_of, posts_in}
use Rattle.ix_formed.specs.Additions.{AllOf}
use Rattle.ix_formed.specs.Shape.{IsDefault}
use Rattle.ix_formed.proofs.ClaimsFit.{Whenever, Knows, PostSaid, expanded_said, expanded_constructor, all_true, distinct_posts_so}
use Rattle.ix_formed.proofs.ClassesFit.{HasFewParams, total, matched, methods_have, callable_few, signatures_few}
use Rattle.ix_formed.proofs.DeclaredMethods.{ResultSays}
use Rattle.ix_formed.proofs.DeclaredTypes.{knows_aimed}
use Rattle.ix_formed.proofs.FieldsFit.{IsAccepted, few_above, no_cycle, parents_there, parent_count, same_parents}
use Rattle.ix_formed.proofs.HeadsFit.{head_knows, result_said}
use Rattle.ix_formed.proofs.HeadsAre.{IsWritten, head_matches}
use Rattle.ix_formed.proofs.NumberLists.{all_so, all_joined, both_true, is_itself}
use Rattle.ix_formed.proofs.OneOfEachName.{same_text}
use Rattle.ix_formed.proofs.Overrides.{IsCallee, IsInstance, callees, overrides_do_fit}
use Rattle.ix_formed.proofs.ProgramsHaveShape.{written_length}
use Rattle.ix_formed.proofs.SameTypes.{same_is, name_itself, claim_itself}
use Rattle.ix_formed.proofs.Superclasses.{is_above_again}
use Rattle.ix_formed.proofs.WaysUp.{up, up_short, supers_are, way_ends}

-- ---- the posts of several annotations

given_said : (names : Names) (types : Name → Option Type_) (knows : Knows names types) (own : is_field names.own ≡ false) (annots : List Annot) → AllOf (PostSaid names types knows own) (given names annots).posts
given_said names types knows own [] = tt
given_said names types knows own (annot ∷ annots) =
    all_joined (PostSaid names types knows own) (posts_from (expanded annot names)) (given names annots).posts (expanded_said names types knows own annot) (given_said names types knows own annots)

given_constructor : (names : Names) (annots : List Annot) → names.target ≡ on.Constructor → (given names annots).posts ≡ []
given_constructor names [] e = refl
given_constructor names (annot ∷ annots) e = ap (λ l. l ++ (given names annots).posts) (expanded_constructor names annot e) ∙ given_constructor names annots e

-- ---- a list that ends with another

answer_itself : (a : Bool) → same_answer a a ≡ true
answer_itself true = refl
answer_itself false = refl

when_itself : (w : Option Bool) → same_when w w ≡ true
when_itself None = refl
when_itself (Some a) = answer_itself a

post_itself : (post : Post) → same_post post post ≡ true
post_itself post = both_true (same_when post.when post.when) (same_name post.on post.on && same_claim post.claim post.claim) (when_itself post.when) (both_true (same_name post.on post.on) (same_claim post.claim post.claim) (name_itself post.on) (claim_itself post.claim))

posts_itself : (posts : List Post) → are_same_posts posts posts ≡ true
posts_itself [] = refl
posts_itself (post ∷ posts) = both_true (same_post post post) (are_same_posts posts posts) (post_itself post) (posts_itself posts)

or_second : (a b : Bool) → b ≡ true → (a || b) ≡ true
or_second true b e = refl
or_second false b e = e

ends_itself : (posts : List Post) → ends_with posts posts ≡ true
ends_itself [] = refl
ends_itself (post ∷ posts) = ap (λ b. b || ends_with posts (post ∷ posts)) (posts_itself (post ∷ posts))

ends_behind : (own posts : List Post) → ends_with (own ++ posts) posts ≡ true
ends_behind [] posts = ends_itself posts
ends_behind (post ∷ own) posts = or_second (are_same_posts (post ∷ (own ++ posts)) posts) (ends_with (own ++ posts) posts) (ends_behind own posts)

-- ---- lists

at_front : {A : Type 0} (P : A → Type 0) (d : A) (xs ys : List A) → AllOf P xs → (k : ℕ) → k < length xs → P (unwrap_or (slice_get (xs ++ ys) k) d)
at_front P d [] ys all k lt = absurd (omega (arith, lt))
at_front P d (x ∷ xs) ys all zero lt = all.0
at_front P d (x ∷ xs) ys all (suc k) lt = at_front P d xs ys all.1 k (omega (arith, lt))

append_parts : (xs ys : List ℕ) (n : ℕ) (C : Type 0) → is_among (xs ++ ys) n ≡ true → (is_among xs n ≡ true → C) → (is_among ys n ≡ true → C) → C
append_parts [] ys n C e first second = second e
append_parts (x ∷ xs) ys n C e first second =
    by_test (x == n) (λ t. first (ap (λ b. if b then true else is_among xs n) t))
    (λ f. append_parts xs ys n C (sym (ap (λ b. if b then true else is_among (xs ++ ys) n) f) ∙ e) (λ there. first (ap (λ b. if b then true else is_among xs n) f ∙ there)) second)

-- a member of joined lists is a member of one of them
flat_from : (of : ℕ → List ℕ) (numbers : List ℕ) (n : ℕ) → is_among (flat_map of numbers) n ≡ true → (at : ℕ) × (is_among numbers at ≡ true) × (is_among (of at) n ≡ true)
flat_from of [] n e = absurd (false≢true e)
flat_from of (first ∷ numbers) n e =
    append_parts (of first) (flat_map of numbers) n ((at : ℕ) × (is_among (first ∷ numbers) at ≡ true) × (is_among (of at) n ≡ true)) e
    (λ here. (first, ap (λ b. if b then true else is_among numbers first) (is_itself first), here))
    (λ rest. let found = flat_from of numbers n rest in (found.0, later (first == found.0) (is_among numbers found.0) found.1, found.2))
  where
    later : (a b : Bool) → b ≡ true → (if a then true else b) ≡ true
    later true b e = refl
    later false b e = e

-- with turns enough a way up is the whole way
up_same : (ps turns more : List (Option ℕ)) (class : ℕ) → length (up ps turns class) < length turns → length turns ≤ length more → up ps turns class ≡ up ps more class
up_same ps [] more class lt le = absurd (omega (arith, lt))
up_same ps (turn ∷ turns) [] class lt le = absurd (omega (arith, le))
up_same ps (turn ∷ turns) (other ∷ more) class lt le = onward_same (parent ps class) lt (λ above lt. up_same ps turns more above lt (omega (arith, le)))
  where
    onward_same : (o : Option ℕ) → length (onward (up ps turns) o) < length (turn ∷ turns) → ((above : ℕ) → length (up ps turns above) < length turns → up ps turns above ≡ up ps more above)
        → onward (up ps turns) o ≡ onward (up ps more) o
    onward_same None lt rest = refl
    onward_same (Some above) lt rest = ap (λ l. above ∷ l) (rest above (omega (arith, lt)))

not_true : (b : Bool) → not b ≡ true → b ≡ false
not_true true e = absurd (false≢true e)
not_true false e = refl

plain_static : (a b : Bool) → (a && not b) ≡ false → b ≡ false → a ≡ false
plain_static true true e c = absurd (false≢true (sym c))
plain_static true false e c = absurd (false≢true (sym e))
plain_static false b e c = refl

-- a boolean type
boolean_is : (o : Option Type_) (t : Type_) → o ≡ Some t → is_boolean o ≡ true → t ≡ bool_type
boolean_is o t e b = by_type t (sym (ap is_boolean e) ∙ b)
  where
    by_type : (t : Type_) → is_boolean (Some t) ≡ true → t ≡ bool_type
    by_type (type.Plain base.Bool) b = refl
    by_type (type.Plain base.Int) b = absurd (false≢true b)
    by_type (type.Plain (base.Class c)) b = absurd (false≢true b)
    by_type (type.Array of depth claims) b = absurd (false≢true b)
    by_type type.Void b = absurd (false≢true b)

-- ---- posts of an overridden method

-- what names an int or an array there does so here
record Renamed (there here : Name → Option Type_) : Type 0 where
  ints : (n : Name) → is_int_of (there n) ≡ true → is_int_of (here n) ≡ true
  arrays : (n : Name) → is_array_of (there n) ≡ true → is_array_of (here n) ≡ true

offset_renamed : (there here : Name → Option Type_) → Renamed there here → (o : Off) → offset_fits there o ≡ true → offset_fits here o ≡ true
offset_renamed there here r off.Nothing e = e
offset_renamed there here r (off.Plus n) e = r.ints n e
offset_renamed there here r (off.Minus n) e = r.ints n e

claim_renamed : (there here : Name → Option Type_) → Renamed there here → (c : Claim) → claim_fits int_type there c ≡ true → claim_fits int_type here c ≡ true
claim_renamed there here r (claim.Range low high) e = e
claim_renamed there here r (claim.Low low) e = e
claim_renamed there here r (claim.Length n) e = e
claim_renamed there here r (claim.Same other) e = absurd (false≢true e)
claim_renamed there here r (claim.Less n c) e = r.ints n e
claim_renamed there here r (claim.Upper a o c) e =
    let parts = and_parts (is_array_of (there a)) (offset_fits there o) e in both_true (is_array_of (here a)) (offset_fits here o) (r.arrays a parts.0) (offset_renamed there here r o parts.1)
claim_renamed there here r (claim.Search a) e = r.arrays a e
claim_renamed there here r (claim.Negative a) e = r.arrays a e

module _ (unit : Source) (p : Program) (is : IsAccepted unit p) where
  abbrev t : Tables
  t = tables (names unit) unit.classes

  abbrev ps : List (Option ℕ)
  ps = parents unit.classes

  abbrev own_method : List ℕ → ℕ → Option Callee
  own_method text class = if_instance ((world unit.classes).method class text)

  -- a post of a method fits it, and one of one answer is of a method with a boolean result
  pub record PostGood (method : Method) (post : Post) : Type 0 where
    pub fits : post_fits p method post ≡ true
    pub answers : is_conditional post ≡ true → method.result ≡ bool_type

  abbrev pub Good : Method → Type 0
  Good method = AllOf (PostGood method) method.posts

  abbrev upper : Option ℕ → List Post
  upper None = []
  upper (Some over) = (method_at p over).posts

  -- ---- those of an overridden method

  same_lists : (ts us : List Type_) → same_types ts us ≡ true → ts ≡ us
  same_lists [] [] e = refl
  same_lists [] (u ∷ us) e = absurd (false≢true e)
  same_lists (x ∷ ts) [] e = absurd (false≢true e)
  same_lists (x ∷ ts) (u ∷ us) e =
      let parts = and_parts (same_type x u) (same_types ts us) e in
      ap (λ (v : Type_). v ∷ ts) (same_is x u parts.0) ∙ ap (λ (vs : List Type_). u ∷ vs) (same_lists ts us parts.1)

  ends : (class : ℕ) → class < length ps → formed.ends_within p most_on_way (Some class) ≡ true
  ends class lt = way_ends ps (no_cycle unit p is) (parents_there unit p is) p (same_parents unit p is) most_on_way class lt (few_above unit p is class lt)

  fields_up : (class other field : ℕ) → class < length ps → is_below p class other ≡ true → is_among (all_fields p other) field ≡ true → is_among (all_fields p class) field ≡ true
  fields_up class other field lt under e =
      let of = λ (above : ℕ). (class_at p above).fields in
      let found = flat_from of (reverse (ancestors p other)) field e in
      let there : is_below p other found.0 ≡ true = subst (λ (l : List ℕ). is_among l found.0 ≡ true) (reverse-reverse (ancestors p other)) (among_reverse (reverse (ancestors p other)) found.0 found.1) in
      let here = is_above_again p ps (same_parents unit p is) (no_cycle unit p is) (parents_there unit p is) (few_above unit p is) ends class other found.0 lt under there in
      flat_among of (reverse (ancestors p class)) found.0 field (among_reverse (ancestors p class) found.0 here) found.2

  -- what is asked of a method and the one that it overrides
  record Over (method above : Method) : Type 0 where
    static : not method.is_static ≡ true
    constructor : not method.constructor ≡ true
    above_static : not above.is_static ≡ true
    above_constructor : not above.constructor ≡ true
    under : is_below p method.class above.class ≡ true
    types : same_types method.param_types above.param_types ≡ true
    result : same_type method.result above.result ≡ true

  over_is : (method : Method) (over : ℕ) → overrides_fit p method (Some over) ≡ true → Over method (method_at p over)
  over_is method over fits =
      let above = method_at p over in
      let one = and_parts (is_there p.methods over) _ fits in
      let two = and_parts (not method.is_static) _ one.1 in
      let three = and_parts (not method.constructor) _ two.1 in
      let four = and_parts (not above.is_static) _ three.1 in
      let five = and_parts (not above.constructor) _ four.1 in
      let six = and_parts (is_proper_ancestor p method above.class) _ five.1 in
      let seven = and_parts (same_types method.param_types above.param_types) (same_type method.result above.result) six.1 in
      let way = and_parts (not (above.class == method.class)) (is_below p method.class above.class) six.0 in
      record { static = two.0; constructor = three.0; above_static = four.0; above_constructor = five.0; under = way.1; types = seven.0; result = seven.1 }

  module _ (method above : Method) (there : method.class < length ps) (o : Over method above) where
    field_renamed : (P : Option Type_ → Bool) → P None ≡ false → (k : ℕ) → P (named_type p above (name.FieldNamed k)) ≡ true → P (named_type p method (name.FieldNamed k)) ≡ true
    field_renamed P none k e = by_test (is_among (all_fields p above.class) k)
        (λ among.
        let up = fields_up method.class above.class k there o.under among in
        let here : (formed.has_this p method && is_among (all_fields p method.class) k) ≡ true = both_true (formed.has_this p method) _ (both_true (not method.is_static) (not method.constructor) o.static o.constructor) up in
        let where_it_was : (formed.has_this p above && is_among (all_fields p above.class) k) ≡ true = both_true (formed.has_this p above) _ (both_true (not above.is_static) (not above.constructor) o.above_static o.above_constructor) among in
        ap (λ b. P (if b then Some (field_at p k).ty else None)) here ∙ sym (ap (λ b. P (if b then Some (field_at p k).ty else None)) where_it_was) ∙ e)
        (λ f.
        let no : (formed.has_this p above && is_among (all_fields p above.class) k) ≡ false = ap (λ b. formed.has_this p above && b) f ∙ and_false (formed.has_this p above) in
        absurd (false≢true (sym none ∙ sym (ap (λ b. P (if b then Some (field_at p k).ty else None)) no) ∙ e)))
      where
        and_false : (a : Bool) → (a && false) ≡ false
        and_false true = refl
        and_false false = refl

    name_renamed : (P : Option Type_ → Bool) → P None ≡ false → (n : Name) → P (named_type p above n) ≡ true → P (named_type p method n) ≡ true
    name_renamed P none (name.Param k) e = ap (λ (ts : List Type_). P (slice_get ts k)) (same_lists method.param_types above.param_types o.types) ∙ e
    name_renamed P none (name.Local k) e = absurd (false≢true (sym none ∙ e))
    name_renamed P none (name.FieldNamed k) e = field_renamed P none k e

    renamed : Renamed (named_type p above) (named_type p method)
    renamed = record { ints = name_renamed is_int_of refl; arrays = name_renamed is_array_of refl }

    post_renamed : (post : Post) → PostGood above post → PostGood method post
    post_renamed post good =
        let parts = and_parts (is_int_of (named_type p above post.on)) (claim_fits int_type (named_type p above) post.claim) good.fits in
        record {
          fits = both_true (is_int_of (named_type p method post.on)) (claim_fits int_type (named_type p method) post.claim) (renamed.ints post.on parts.0) (claim_renamed (named_type p above) (named_type p method) renamed post.claim parts.1);
          answers = λ e. same_is method.result above.result o.result ∙ good.answers e;
        }

  -- What the instance methods of that name in these classes promise is what the nearest promises, and that is good.
  record Above (text : List ℕ) (cs : List ℕ) : Type 0 where
    same : posts_in t text cs ≡ upper (number_of (nearest (own_method text) cs))
    good : Whenever (λ (c : Callee). Good (method_at p c.number)) (nearest (own_method text) cs)

  -- ---- a method's own

  module _ (Q : Place → Home → MethodDecl → Type 0) (method : Method) (w : IsWritten unit p is Q t method) where
    abbrev d : MethodDecl
    d = w.decl

    abbrev l : Place
    l = w.place

    abbrev m : Signature
    m = signature w.place.world.class w.place.class w.decl

    abbrev s : Scope
    s = source.head_scope l m d

    abbrev own_posts : List Post
    own_posts = declared_posts ((names unit).declared w.decl.name.span)

    abbrev marks : List Annot
    marks = if m.constructor then d.mods.annots else of_method d.mods.annots

    said : ResultSays (names unit) (unit_parts unit) l m d
    said = result_said unit p is l d method w.head

    own_is : own_posts ≡ distinct_posts (source.method_given l s m d.mods.annots).posts
    own_is = ap declared_posts said.table

    boolean : source.method_target m ≡ on.BooleanMethod → method.result ≡ bool_type
    boolean e = by_target m.constructor (is_boolean m.result) refl e
      where
        by_target : (b c : Bool) → is_boolean m.result ≡ c → ◌≡◌ {A = Target} (if b then on.Constructor else if c then on.BooleanMethod else on.Method) on.BooleanMethod → method.result ≡ bool_type
        by_target true c e f = absurd cc
        by_target false true e f = w.head.result ∙ ap declared_type said.table ∙ boolean_is m.result said.ty said.typed e
        by_target false false e f = absurd cc

    own_good : AllOf (PostGood method) own_posts
    own_good =
        let aim = aimed (annot_names s None None) (source.method_target m) in
        let knows : Knows aim (named_type p method) = knows_aimed (annot_names s None None) (source.method_target m) (named_type p method) (head_knows unit p is l d method w.head None) in
        subst (AllOf (PostGood method)) (sym own_is)
        (distinct_posts_so (PostGood method) (given aim marks).posts
        (all_so (PostSaid aim (named_type p method) knows refl) (PostGood method) (λ post x. record { fits = x.fits; answers = λ e. boolean (x.answers e) }) (given aim marks).posts (given_said aim (named_type p method) knows refl marks)))

    own_none : d.constructor ≡ true → own_posts ≡ []
    own_none c =
        let aim = aimed (annot_names s None None) (source.method_target m) in
        own_is ∙ ap distinct_posts (given_constructor aim marks (ap (λ b. if b then on.Constructor else if is_boolean m.result then on.BooleanMethod else on.Method) c))

    pub posts_are : method.posts ≡ own_posts ++ program.upper_posts t w.at.class w.decl
    posts_are = ap (λ (x : Method). x.posts) w.same.same

    pub constructor_none : method.constructor ≡ true → method.posts ≡ []
    constructor_none e =
        let c = sym w.head.constructor ∙ e in
        posts_are ∙ ap (λ (l : List Post). l ++ program.upper_posts t w.at.class w.decl) (own_none c)
        ∙ ap (λ b. if b || d.mods.is_static then [] else posts_in t d.name.text ((world unit.classes).supers w.at.class)) c

    -- ---- and those above

    pub class_there : w.at.class < length ps
    class_there = let lt = w.head.there in let c = parent_count unit p is in subst (λ n. n < length ps) (sym w.class) (omega (arith, lt, c))

    overrides_are : overrides_fit p method method.overrides ≡ true
    overrides_are = overrides_do_fit unit p is (matched unit p is).0 l d method w.head (head_matches unit p is l d method w.head) (ap (λ (x : Method). x.overrides) w.same.same ∙ ap (λ c. overrides (world unit.classes) c d) w.class)

    pub record Whole : Type 0 where
      pub good : Good method
      pub same : method.posts ≡ own_posts ++ upper method.overrides

    above_good : (o : Option ℕ) → method.overrides ≡ o → ((over : ℕ) → o ≡ Some over → Good (method_at p over)) → AllOf (PostGood method) (upper o)
    above_good None e good = tt
    above_good (Some over) e good =
        let lt : method.class < length ps = (let a = class_there in let c = w.head.class ∙ sym w.class in omega (arith, a, c)) in
        all_so (PostGood (method_at p over)) (PostGood method) (post_renamed method (method_at p over) lt (over_is method over (sym (ap (overrides_fit p method) e) ∙ overrides_are))) (method_at p over).posts (good over refl)

    whole_of : (o : Option ℕ) → method.overrides ≡ o → program.upper_posts t w.at.class w.decl ≡ upper o → ((over : ℕ) → o ≡ Some over → Good (method_at p over)) → Whole
    whole_of o e same good =
        let all : method.posts ≡ own_posts ++ upper o = posts_are ∙ ap (λ (l : List Post). own_posts ++ l) same in
        record {
          good = subst (AllOf (PostGood method)) (sym all) (all_joined (PostGood method) own_posts (upper o) own_good (above_good o e good));
          same = all ∙ ap (λ (o : Option ℕ). own_posts ++ upper o) (sym e);
        }

    overrides_is : method.overrides ≡ overrides (world unit.classes) w.at.class d
    overrides_is = ap (λ (x : Method). x.overrides) w.same.same

    -- a static method and a constructor override none
    alone : (d.constructor || d.mods.is_static) ≡ true → Whole
    alone e =
        let n = signature (world unit.classes).class w.at.class d in
        let none : method.overrides ≡ None = overrides_is ∙ ap number_of (ap (λ b. if b then None else nearest (own_method d.name.text) ((world unit.classes).supers w.at.class)) (either d.constructor d.mods.is_static e)) in
        whole_of None none (ap (λ b. if b then [] else posts_in t d.name.text ((world unit.classes).supers w.at.class)) e) (λ over bad. let no : ◌≡◌ {A = Option ℕ} None (Some over) = bad in absurd cc)
      where
        either : (a b : Bool) → (a || b) ≡ true → (a || (b && not a)) ≡ true
        either true b e = refl
        either false true e = refl
        either false false e = e

    overridden_is : d.constructor ≡ false → d.mods.is_static ≡ false → (cs : List ℕ) → (world unit.classes).supers w.at.class ≡ cs → (text : List ℕ) → d.name.text ≡ text → method.overrides ≡ number_of (nearest (own_method text) cs)
    overridden_is c static cs up text named =
        overrides_is ∙ ap number_of (ap (λ b. if b || (d.mods.is_static && not b) then None else nearest (own_method d.name.text) ((world unit.classes).supers w.at.class)) c
        ∙ ap (λ b. if b && true then None else nearest (own_method d.name.text) ((world unit.classes).supers w.at.class)) static
        ∙ ap (λ l. nearest (own_method d.name.text) l) up ∙ ap (λ n. nearest (own_method n) cs) named)

    instance : d.constructor ≡ false → d.mods.is_static ≡ false → (cs : List ℕ) → (world unit.classes).supers w.at.class ≡ cs → (text : List ℕ) → d.name.text ≡ text → Above text cs → Whole
    instance c static cs up text named above =
        let over = overridden_is c static cs up text named in
        let posts : program.upper_posts t w.at.class w.decl ≡ upper (number_of (nearest (own_method text) cs)) =
        ap (λ b. if b || d.mods.is_static then [] else posts_in t d.name.text ((world unit.classes).supers w.at.class)) c
        ∙ ap (λ b. if b then [] else posts_in t d.name.text ((world unit.classes).supers w.at.class)) static
        ∙ ap (posts_in t d.name.text) up ∙ ap (λ n. posts_in t n cs) named ∙ above.same in
        whole_of (number_of (nearest (own_method text) cs)) over posts (good_over (nearest (own_method text) cs) above.good)
      where
        good_over : (o : Option Callee) → Whenever (λ (c : Callee). Good (method_at p c.number)) o → (over : ℕ) → number_of o ≡ Some over → Good (method_at p over)
        good_over None good over e = absurd cc
        good_over (Some callee) good over e = let same : callee.number ≡ over = cc in subst (λ n. Good (method_at p n)) same good

  -- ---- a method that is written

  abbrev W : Method → Type 0
  W method = IsWritten unit p is (HasFewParams unit p is) t method

  written_at : (k : ℕ) → k < total unit p is → W (method_at p k)
  written_at k lt =
      let have = methods_have unit p is in
      let count = written_length t (first_numbers unit.classes) unit.classes have.written have.are_written in
      subst (λ (ms : List Method). W (unwrap_or (slice_get ms k) no_method)) (sym have.same)
      (at_front W no_method have.written have.default (matched unit p is).1 k (omega (arith, lt, count)))

  -- an instance method that a name means in a class
  record Called (text : List ℕ) (a : ℕ) (callee : Callee) : Type 0 where
    instance : IsInstance unit p is (matched unit p is).0 text a callee
    few : callee.number < total unit p is

  called_is : (text : List ℕ) (a : ℕ) → Whenever (Called text a) (own_method text a)
  called_is text a = only ((world unit.classes).method a text) (callees unit p is (is_method_named a text) 0 (members.methods unit.classes) (matched unit p is).0) (callable_few unit p is (is_method_named a text) 0 (members.methods unit.classes))
    where
      static_or_not : (c : Callee) → IsCallee unit p is (is_method_named a text) c → c.number < total unit p is → (b : Bool) → c.signature.is_static ≡ b → Whenever (Called text a) (if b then None else Some c)
      static_or_not c found few true e = tt
      static_or_not c found few false e = record { instance = (found, e); few = few }

      only : (o : Option Callee) → Whenever (IsCallee unit p is (is_method_named a text)) o → Whenever (λ (c : Callee). c.number < 0 + length (members.methods unit.classes)) o → Whenever (Called text a) (if_instance o)
      only None found few = tt
      only (Some c) found few = let count = signatures_few unit p is (classes.class_named unit.classes) 0 unit.classes in static_or_not c found (omega (arith, few, count)) c.signature.is_static refl

  -- the method that was found, in the class where it was
  found_whole : (text : List ℕ) (turns : List (Option ℕ)) (a : ℕ) → a < length ps → length (up ps turns a) < length turns → length turns ≤ length ps → (callee : Callee) → Called text a callee → Above text (up ps turns a)
      → (posts_of t.names (Some callee) ++ posts_in t text (up ps turns a) ≡ (method_at p callee.number).posts) × Good (method_at p callee.number)
  found_whole text turns a there ended le callee called above =
      let method = method_at p callee.number in
      let w = written_at callee.number called.few in
      let d = w.decl in
      let matches = called.instance.0.matches in
      let so = and_parts (callee.signature.class == a) (not callee.signature.constructor && bytes_eq callee.signature.name text) called.instance.0.so_it_is in
      let more = and_parts (not callee.signature.constructor) (bytes_eq callee.signature.name text) so.1 in
      let plain : d.constructor ≡ false = sym w.head.constructor ∙ matches.constructor ∙ not_true callee.signature.constructor more.0 in
      let static : d.mods.is_static ≡ false = plain_static d.mods.is_static d.constructor (sym w.head.static ∙ matches.static ∙ called.instance.1) plain in
      let at : w.at.class ≡ a = w.class ∙ sym w.head.class ∙ matches.class ∙ equal callee.signature.class a so.0 in
      let named : d.name.text ≡ text = sym w.head.name ∙ matches.name ∙ same_text callee.signature.name text more.1 in
      let placed : d.name.span ≡ callee.signature.span = sym w.head.span ∙ matches.span in
      let ways : supers ps w.at.class ≡ up ps turns a = ap (supers ps) at ∙ supers_are ps (no_cycle unit p is) (parents_there unit p is) a there ∙ sym (up_same ps turns ps a ended le) in
      let whole = instance (HasFewParams unit p is) method w plain static (up ps turns a) ways text named above in
      let over : upper method.overrides ≡ posts_in t text (up ps turns a) =
      ap upper (overridden_is (HasFewParams unit p is) method w plain static (up ps turns a) ways text named) ∙ sym above.same in (
        ap (λ span. declared_posts (t.names.declared span) ++ posts_in t text (up ps turns a)) (sym placed) ∙ ap (λ (l : List Post). declared_posts (t.names.declared d.name.span) ++ l) (sym over) ∙ sym whole.same,
        whole.good,
      )

  above_is : (text : List ℕ) (turns : List (Option ℕ)) (class : ℕ) → length (up ps turns class) < length turns → length turns ≤ length ps → Above text (up ps turns class)
  above_is text [] class ended le = absurd (omega (arith, ended))
  above_is text (turn ∷ turns) class ended le = onward_is (parent ps class) refl ended (λ a ended. above_is text turns a ended (omega (arith, le)))
    where
      onward_is : (o : Option ℕ) → parent ps class ≡ o → length (onward (up ps turns) o) < length (turn ∷ turns) → ((a : ℕ) → length (up ps turns a) < length turns → Above text (up ps turns a)) → Above text (onward (up ps turns) o)
      onward_is None e ended rest = record { same = refl; good = tt }
      onward_is (Some a) e ended rest =
          let lt : length (up ps turns a) < length turns = omega (arith, ended) in
          here_or_above (own_method text a) refl (called_is text a) lt (rest a lt)
        where
          here_or_above : (o : Option Callee) → own_method text a ≡ o → Whenever (Called text a) o → length (up ps turns a) < length turns → Above text (up ps turns a) → Above text (a ∷ up ps turns a)
          here_or_above None none called lt above = record {
            same = ap (λ (o : Option Callee). posts_of t.names o ++ posts_in t text (up ps turns a)) none ∙ above.same ∙ ap (λ (o : Option Callee). upper (number_of (or_nearest o (nearest (own_method text) (up ps turns a))))) (sym none);
            good = subst (λ (o : Option Callee). Whenever (λ (c : Callee). Good (method_at p c.number)) (or_nearest o (nearest (own_method text) (up ps turns a)))) (sym none) above.good;
          }
          here_or_above (Some callee) found called lt above =
              let whole = found_whole text turns a (parents_there unit p is class a e) lt (omega (arith, le)) callee called above in
              record {
                same = ap (λ (o : Option Callee). posts_of t.names o ++ posts_in t text (up ps turns a)) found ∙ whole.0 ∙ ap (λ (o : Option Callee). upper (number_of (or_nearest o (nearest (own_method text) (up ps turns a))))) (sym found);
                good = subst (λ (o : Option Callee). Whenever (λ (c : Callee). Good (method_at p c.number)) (or_nearest o (nearest (own_method text) (up ps turns a)))) (sym found) whole.1;
              }

  -- ---- all of a written method

  module _ (Q : Place → Home → MethodDecl → Type 0) (method : Method) (w : IsWritten unit p is Q t method) where
    pub whole : Whole Q method w
    whole = alone_or_not w.decl.constructor w.decl.mods.is_static refl refl
      where
        alone_or_not : (b c : Bool) → w.decl.constructor ≡ b → w.decl.mods.is_static ≡ c → Whole Q method w
        alone_or_not true c e f = alone Q method w (ap (λ b. b || w.decl.mods.is_static) e)
        alone_or_not false true e f = alone Q method w (ap (λ b. b || w.decl.mods.is_static) e ∙ f)
        alone_or_not false false e f =
            let lt = class_there Q method w in
            instance Q method w e f (up ps ps w.at.class) (supers_are ps (no_cycle unit p is) (parents_there unit p is) w.at.class lt) w.decl.name.text refl
            (above_is w.decl.name.text ps w.at.class (up_short ps (no_cycle unit p is) (parents_there unit p is) w.at.class lt) (omega arith))

    -- a method that promises something of one answer has a boolean result
    pub result_answers : some_conditional method.posts ≡ true → method.result ≡ bool_type
    result_answers e = some_is method.posts whole.good e
      where
        this_or_later : (b : Bool) (post : Post) (posts : List Post) → PostGood method post → is_conditional post ≡ b → (some_conditional posts ≡ true → method.result ≡ bool_type) → (if b then true else some_conditional posts) ≡ true → method.result ≡ bool_type
        this_or_later true post posts good c later e = good.answers c
        this_or_later false post posts good c later e = later e

        some_is : (posts : List Post) → AllOf (PostGood method) posts → some_conditional posts ≡ true → method.result ≡ bool_type
        some_is [] all e = absurd (false≢true e)
        some_is (post ∷ posts) all e = this_or_later (is_conditional post) post posts all.0 refl (some_is posts all.1) e

    -- Its posts fit, where its answers are written out.
    pub posts_do_fit : (some_conditional method.posts ≡ true → writes_answers None (body_of method) ≡ true) → posts_fit p method ≡ true
    posts_do_fit writes =
        both_true (not method.constructor || has_no_posts method.posts) _ (by_constructor method.constructor refl)
        (both_true (list_all (post_fits p method) method.posts) _ (all_true (post_fits p method) method.posts (all_so (PostGood method) (λ post. post_fits p method post ≡ true) (λ post good. good.fits) method.posts whole.good))
        (both_true (ends_with method.posts (formed.upper_posts p method method.overrides)) (not (some_conditional method.posts) || writes_answers None (body_of method)) ends_well
        (by_answers (some_conditional method.posts) refl)))
      where
        by_constructor : (b : Bool) → method.constructor ≡ b → (not b || has_no_posts method.posts) ≡ true
        by_constructor true e = ap has_no_posts (constructor_none Q method w e)
        by_constructor false e = refl

        upper_same : (o : Option ℕ) → formed.upper_posts p method o ≡ upper o
        upper_same None = refl
        upper_same (Some over) = refl

        ends_well : ends_with method.posts (formed.upper_posts p method method.overrides) ≡ true
        ends_well =
            ap (ends_with method.posts) (upper_same method.overrides) ∙ ap (λ (l : List Post). ends_with l (upper method.overrides)) whole.same
            ∙ ends_behind (declared_posts ((names unit).declared w.decl.name.span)) (upper method.overrides)

        by_answers : (b : Bool) → some_conditional method.posts ≡ b → (not b || writes_answers None (body_of method)) ≡ true
        by_answers true e = writes e
        by_answers false e = refl

  -- a default constructor promises nothing
  pub default_posts_fit : (at : Home) (span : Span) (method : Method) → IsDefault t at span method → posts_fit p method ≡ true
  default_posts_fit at span method default = ap (posts_fit p) default.same
