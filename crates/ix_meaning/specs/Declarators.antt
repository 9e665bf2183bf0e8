-- The declarators of one declaration (JLS 8.3, 14.4): its annotations stand for all of them.
use Rattle.std.specs.Prelude.{nat_lt, Bool, false, if◌then◌else◌, Option, Some, None, List, [], ◌∷◌, map, filter}
use Rattle.ix_tree.specs.declared.annot.Annot.{Annot}
use Rattle.ix_tree.specs.declared.decl.LocalDecl.{LocalDecl}
use Rattle.ix_tree.specs.declared.decl.Member.{Member}
use Rattle.ix_tree.specs.declared.decl.Member.TheVariants as member
use Rattle.ix_annot.specs.Table.{counted}
use Rattle.ix_meaning.specs.Listed.{same_span}

-- An annotation that counts no claim claims nothing, whatever it stands on, and what is wrong with it depends on no name.
abbrev pub counting : List Annot → List Annot
counting annots = filter (λ annot. nat_lt 0 (counted annot)) annots

abbrev pub with_annots : List Annot → List Annot → LocalDecl → LocalDecl
with_annots before behind d = record d { mods = record d.mods { annots = before }; ty = record d.ty { annots = behind } }

-- behind the base they stand on the array
abbrev pub counting_behind : LocalDecl → LocalDecl → List Annot
counting_behind first d = if nat_lt 0 d.ty.depth then counting first.ty.annots else []

-- A further declarator has the annotations of the first, but for those that count no claim: what is wrong with them is said of the first.
abbrev pub further : LocalDecl → LocalDecl → LocalDecl
further first d = with_annots (counting first.mods.annots) (counting_behind first d) d

-- the declarators of a declaration of locals
abbrev pub declarators : List LocalDecl → List LocalDecl
declarators [] = []
declarators (d ∷ ds) = d ∷ map (further d) ds

-- ---- fields: a declaration gives one for each declarator, and these have one type, at one place

-- whether a field is a further one of the declaration that began with this one
abbrev pub is_further : Option LocalDecl → LocalDecl → Bool
is_further None d = false
is_further (Some first) d = same_span first.ty.span d.ty.span

abbrev pub annots_before : Option LocalDecl → LocalDecl → List Annot
annots_before None d = d.mods.annots
annots_before (Some first) d = if is_further (Some first) d then counting first.mods.annots else d.mods.annots

abbrev pub annots_behind : Option LocalDecl → LocalDecl → List Annot
annots_behind None d = d.ty.annots
annots_behind (Some first) d = if is_further (Some first) d then counting_behind first d else d.ty.annots

abbrev pub field_in : Option LocalDecl → LocalDecl → LocalDecl
field_in first d = with_annots (annots_before first d) (annots_behind first d) d

-- the field that began the declaration of this one
abbrev pub first_of : Option LocalDecl → LocalDecl → LocalDecl
first_of None d = d
first_of (Some first) d = if is_further (Some first) d then first else d

-- a member behind a field whose declaration began with this one, or behind none
abbrev pub member_in : Option LocalDecl → Member → Member
member_in first (member.Field d) = member.Field (field_in first d)
member_in first (member.Method m) = member.Method m

abbrev pub first_behind : Option LocalDecl → Member → Option LocalDecl
first_behind first (member.Field d) = Some (first_of first d)
first_behind first (member.Method m) = None

abbrev pub members_behind : Option LocalDecl → List Member → List Member
members_behind first [] = []
members_behind first (m ∷ ms) = member_in first m ∷ members_behind (first_behind first m) ms

-- the members of a class
abbrev pub members : List Member → List Member
members ms = members_behind None ms
