-- The first declarator of a declaration, with what the others have of its annotations.
use Rattle.std.specs.Prelude.{◌≡◌, Option, Some, None, map}
use Rattle.ix_tree.specs.declared.decl.LocalDecl.{LocalDecl}
use Rattle.ix_meaning.specs.Declarators.{counting, with_annots}
use Rattle.ix_class_members.specs.declared.declarators.Annotations.{Annotations}
use Rattle.ix_class_members.specs.declared.declarators.Begun.{Begun}

pub record Begins (b : Begun) : Type 0 where
  pub before : map (λ annot. annot.now) b.before ≡ counting b.first.now.mods.annots
  pub behind : map (λ annot. annot.now) b.behind ≡ counting b.first.now.ty.annots

abbrev pub AllBegin : Option Begun → Type 0
AllBegin None = Unit {0}
AllBegin (Some b) = Begins b

abbrev pub first_shown : Begun → LocalDecl
first_shown b = b.first.now

-- the declarator with these annotations
abbrev pub annotated : Annotations → LocalDecl → LocalDecl
annotated own d = with_annots (map (λ annot. annot.now) own.before) (map (λ annot. annot.now) own.behind) d
