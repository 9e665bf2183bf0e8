-- The members of a class, with the annotations of the declarations that they are further fields of, in sources that are the same up to places.
use Rattle.std.proofs.Common.{◌≡◌, Bool, true, false, List, [], ◌∷◌, map, Option, Some, None, refl, sym, ap, ap₂, ◌∙◌}
use Rattle.std.specs.Prelude.{if◌then◌else◌}
use Rattle.ix_tree.specs.declared.decl.LocalDecl.{LocalDecl}
use Rattle.ix_tree.specs.declared.decl.Member.{Member}
use Rattle.ix_tree.specs.declared.decl.Member.TheVariants as member
use Rattle.ix_meaning.specs.Declarators.{counting, counting_behind, with_annots, further, is_further, field_in, first_of, member_in, first_behind, members_behind, members}
use Rattle.ix_guard_text.specs.Bare.{bare_maybe, bare_decl, bare_member}
use Rattle.ix_guard_text.proofs.DeclaratorsMove.{further_moved}
use Rattle.ix_guard_text.specs.Alike.{is_joined, joined_behind}
use Rattle.ix_guard_text.specs.Gathered.{gathered}

abbrev field_at : Bool → Option LocalDecl → LocalDecl → LocalDecl
field_at b None d = d
field_at true (Some first) d = further first d
field_at false (Some first) d = d

abbrev member_at : Bool → Option LocalDecl → Member → Member
member_at b first (member.Field d) = member.Field (field_at b first d)
member_at b first (member.Method m) = member.Method m

abbrev first_field_at : Bool → Option LocalDecl → LocalDecl → LocalDecl
first_field_at b None d = d
first_field_at true (Some first) d = first
first_field_at false (Some first) d = d

abbrev first_at : Bool → Option LocalDecl → Member → Option LocalDecl
first_at b first (member.Field d) = Some (first_field_at b first d)
first_at b first (member.Method m) = None

field_is : (first : Option LocalDecl) (d : LocalDecl) → bare_decl (field_in first d) ≡ field_at (is_further first d) (bare_maybe bare_decl first) (bare_decl d)
field_is None d = refl
field_is (Some first) d = by (is_further (Some first) d)
  where
    by : (b : Bool) → bare_decl (with_annots (if b then counting first.mods.annots else d.mods.annots) (if b then counting_behind first d else d.ty.annots) d) ≡ field_at b (Some (bare_decl first)) (bare_decl d)
    by true = sym (further_moved gathered first d)
    by false = refl

first_is : (first : Option LocalDecl) (d : LocalDecl) → bare_decl (first_of first d) ≡ first_field_at (is_further first d) (bare_maybe bare_decl first) (bare_decl d)
first_is None d = refl
first_is (Some first) d = by (is_further (Some first) d)
  where
    by : (b : Bool) → bare_decl (if b then first else d) ≡ first_field_at b (Some (bare_decl first)) (bare_decl d)
    by true = refl
    by false = refl

member_is : (first : Option LocalDecl) (m : Member) → bare_member (member_in first m) ≡ member_at (is_joined first m) (bare_maybe bare_decl first) (bare_member m)
member_is first (member.Field d) = ap (λ (x : LocalDecl). member.Field x) (field_is first d)
member_is first (member.Method m) = refl

behind_is : (first : Option LocalDecl) (m : Member) → bare_maybe bare_decl (first_behind first m) ≡ first_at (is_joined first m) (bare_maybe bare_decl first) (bare_member m)
behind_is first (member.Field d) = ap (λ (x : LocalDecl). Some x) (first_is first d)
behind_is first (member.Method m) = refl

abbrev SameFirst : Option LocalDecl → Option LocalDecl → Type 0
SameFirst first other = bare_maybe bare_decl first ≡ bare_maybe bare_decl other

member_again : (first other : Option LocalDecl) → SameFirst first other → (m n : Member) → bare_member m ≡ bare_member n → is_joined first m ≡ is_joined other n
    → bare_member (member_in first m) ≡ bare_member (member_in other n)
member_again first other e m n same j =
    member_is first m
    ∙ ap (λ b. member_at b (bare_maybe bare_decl first) (bare_member m)) j
    ∙ ap₂ (λ (f : Option LocalDecl) (x : Member). member_at (is_joined other n) f x) e same
    ∙ sym (member_is other n)

behind_again : (first other : Option LocalDecl) → SameFirst first other → (m n : Member) → bare_member m ≡ bare_member n → is_joined first m ≡ is_joined other n
    → SameFirst (first_behind first m) (first_behind other n)
behind_again first other e m n same j =
    behind_is first m
    ∙ ap (λ b. first_at b (bare_maybe bare_decl first) (bare_member m)) j
    ∙ ap₂ (λ (f : Option LocalDecl) (x : Member). first_at (is_joined other n) f x) e same
    ∙ sym (behind_is other n)

all_again : (first other : Option LocalDecl) → SameFirst first other → (ms ns : List Member) → map bare_member ms ≡ map bare_member ns → joined_behind first ms ≡ joined_behind other ns
    → map bare_member (members_behind first ms) ≡ map bare_member (members_behind other ns)
all_again first other e [] [] same j = refl
all_again first other e [] (n ∷ ns) same j = cc
all_again first other e (m ∷ ms) [] same j = cc
all_again first other e (m ∷ ms) (n ∷ ns) same j =
    let here : bare_member m ≡ bare_member n = cc in
    let later : map bare_member ms ≡ map bare_member ns = cc in
    let here_joined : is_joined first m ≡ is_joined other n = cc in
    let later_joined : joined_behind (first_behind first m) ms ≡ joined_behind (first_behind other n) ns = cc in
    ap₂ (λ (x : Member) (xs : List Member). x ∷ xs) (member_again first other e m n here here_joined)
    (all_again (first_behind first m) (first_behind other n) (behind_again first other e m n here here_joined) ms ns later later_joined)

pub members_again : (ms ns : List Member) → map bare_member ms ≡ map bare_member ns → joined_behind None ms ≡ joined_behind None ns → map bare_member (members ms) ≡ map bare_member (members ns)
members_again = all_again None None refl
