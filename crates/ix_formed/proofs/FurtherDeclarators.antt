-- A further declarator says of itself what the first does: but for annotations it is the same declarator.
use Rattle.std.proofs.Common.{◌≡◌, ℕ, Bool, true, false, ◌||◌, List, [], ◌∷◌, ◌++◌, Option, Some, None, refl, ap}
use Rattle.std.specs.Prelude.{nat_lt, if◌then◌else◌}
use Rattle.std.proofs.lemmas.Bool.{and_parts}
use Rattle.ix_tree.specs.declared.annot.Annot.{Annot}
use Rattle.ix_tree.specs.declared.decl.LocalDecl.{LocalDecl}
use Rattle.ix_tree.specs.declared.decl.Member.{Member}
use Rattle.ix_tree.specs.declared.decl.Member.TheVariants as member
use Rattle.ix_meaning.specs.Declarators.{with_annots, counting, counting_behind, further, is_further, annots_before, annots_behind, field_in, first_of, members_behind}
use Rattle.ix_meaning.specs.Resolved.{Names}
use Rattle.ix_formed.specs.Shape.{own_field, fields_of_class}
use Rattle.ix_formed.specs.Written.{is_empty, is_written_type, is_written_init, is_written_decl, is_written_member, each_true, maybe_true}
use Rattle.ix_formed.proofs.NumberLists.{both_true}

-- ---- the form of the type

right_true : (a : Bool) → (a || true) ≡ true
right_true true = refl
right_true false = refl

array_or_not : (b : Bool) (annots : List Annot) → (is_empty (if b then annots else []) || b) ≡ true
array_or_not true annots = right_true (is_empty annots)
array_or_not false annots = refl

pub further_written : (first d : LocalDecl) → is_written_type (further first d).ty ≡ true
further_written first d = array_or_not (nat_lt 0 d.ty.depth) (counting first.ty.annots)

pub written_in : (first : Option LocalDecl) (d : LocalDecl) → is_written_type d.ty ≡ true → is_written_type (field_in first d).ty ≡ true
written_in None d w = w
written_in (Some first) d w = further_or_not (is_further (Some first) d)
  where
    further_or_not : (b : Bool) → (is_empty (if b then counting_behind first d else d.ty.annots) || nat_lt 0 d.ty.depth) ≡ true
    further_or_not true = array_or_not (nat_lt 0 d.ty.depth) (counting first.ty.annots)
    further_or_not false = w

pub written_with : (before behind : List Annot) (d : LocalDecl) → (is_written_type d.ty ≡ true → is_written_type (with_annots before behind d).ty ≡ true) → is_written_decl d ≡ true
    → is_written_decl (with_annots before behind d) ≡ true
written_with before behind d keeps w =
    let parts = and_parts (is_written_type d.ty) (maybe_true is_written_init d.init) w in
    both_true (is_written_type (with_annots before behind d).ty) (maybe_true is_written_init d.init) (keeps parts.0) parts.1

-- ---- the members of a class

pub written_members : (first : Option LocalDecl) (ms : List Member) → each_true is_written_member ms ≡ true → each_true is_written_member (members_behind first ms) ≡ true
written_members first [] w = refl
written_members first (member.Field d ∷ ms) w =
    let parts = and_parts (is_written_decl d) (each_true is_written_member ms) w in
    both_true (is_written_decl (field_in first d)) (each_true is_written_member (members_behind (Some (first_of first d)) ms))
    (written_with (annots_before first d) (annots_behind first d) d (written_in first d) parts.0) (written_members (Some (first_of first d)) ms parts.1)
written_members first (member.Method m ∷ ms) w =
    let parts = and_parts (is_written_member (member.Method m)) (each_true is_written_member ms) w in
    both_true (is_written_member (member.Method m)) (each_true is_written_member (members_behind None ms)) parts.0 (written_members None ms parts.1)

pub fields_same : (names : Names) (c : ℕ) (first : Option LocalDecl) (ms : List Member) → fields_of_class names c (members_behind first ms) ≡ fields_of_class names c ms
fields_same names c first [] = refl
fields_same names c first (member.Field d ∷ ms) = ap (λ l. own_field names c d ++ l) (fields_same names c (Some (first_of first d)) ms)
fields_same names c first (member.Method m ∷ ms) = fields_same names c None ms
