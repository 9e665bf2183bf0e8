-- Sources in which fields whose types stand at one place are those of one declaration: they have the same modifiers and the same type.
use Rattle.std.specs.Prelude.{◌≡◌, true, List, [], ◌∷◌, Option, Some, None}
use Rattle.ix_tree.specs.declared.decl.ClassDecl.{ClassDecl}
use Rattle.ix_tree.specs.declared.decl.LocalDecl.{LocalDecl}
use Rattle.ix_tree.specs.declared.decl.Member.{Member}
use Rattle.ix_tree.specs.declared.decl.Member.TheVariants as member
use Rattle.ix_tree.specs.declared.decl.Unit.{Unit as Source}
use Rattle.ix_meaning.specs.Declarators.{is_further, first_of}
use Rattle.ix_formed.specs.Additions.{AllOf}
use Rattle.ix_formed.specs.Written.{is_written_type}

-- A field behind one that began a declaration has what this has, if its type stands at the same place.
abbrev pub SharesWith : Option LocalDecl → LocalDecl → Type 0
SharesWith None d = Unit {0}
SharesWith (Some first) d = is_further (Some first) d ≡ true → (first.mods ≡ d.mods) × (first.ty ≡ d.ty)

-- members behind a field that began a declaration, or behind none
abbrev pub AllShare : Option LocalDecl → List Member → Type 0
AllShare first [] = Unit {0}
AllShare first (member.Field d ∷ ms) = SharesWith first d × (is_written_type d.ty ≡ true) × AllShare (Some (first_of first d)) ms
AllShare first (member.Method m ∷ ms) = AllShare None ms

abbrev pub ClassShares : ClassDecl → Type 0
ClassShares class = AllShare None class.members

abbrev pub IsJoint : Source → Type 0
IsJoint unit = AllOf ClassShares unit.classes
