-- The members of a class, with the annotations of the declarations that they are further fields of, at their places moved: a further field is one still.
use Rattle.std.proofs.Common.{◌≡◌, Bool, true, false, List, [], ◌∷◌, map, Option, Some, None, refl, ap, ap₂, ◌∙◌}
use Rattle.std.specs.Prelude.{if◌then◌else◌}
use Rattle.ix_tree.specs.declared.decl.LocalDecl.{LocalDecl}
use Rattle.ix_tree.specs.declared.decl.Member.{Member}
use Rattle.ix_tree.specs.declared.decl.Member.TheVariants as member
use Rattle.ix_meaning.specs.Declarators.{counting, counting_behind, with_annots, is_further, field_in, first_of, member_in, first_behind, members_behind, members}
use Rattle.ix_guard_text.specs.Bare.{bare_maybe as maybe}
use Rattle.ix_guard_text.specs.Moved.{Move, moved_annot, moved_decl, moved_member}
use Rattle.ix_guard_text.specs.MovedNotes.{IsInjective}
use Rattle.ix_guard_text.proofs.SpansMove.{same_span_moved}
use Rattle.ix_guard_text.proofs.DeclaratorsMove.{further_moved}

module _ (move : Move) (apart : IsInjective move) where
  field_in_moved : (first : Option LocalDecl) (d : LocalDecl) → field_in (maybe (moved_decl move) first) (moved_decl move d) ≡ moved_decl move (field_in first d)
  field_in_moved None d = refl
  field_in_moved (Some first) d = ap at (same_span_moved move apart first.ty.span d.ty.span) ∙ by (is_further (Some first) d)
    where
      at : Bool → LocalDecl
      at b = with_annots (if b then counting (map (moved_annot move) first.mods.annots) else map (moved_annot move) d.mods.annots)
          (if b then counting_behind (moved_decl move first) (moved_decl move d) else map (moved_annot move) d.ty.annots) (moved_decl move d)

      by : (b : Bool) → at b ≡ moved_decl move (with_annots (if b then counting first.mods.annots else d.mods.annots) (if b then counting_behind first d else d.ty.annots) d)
      by true = further_moved move first d
      by false = refl

  first_of_moved : (first : Option LocalDecl) (d : LocalDecl) → first_of (maybe (moved_decl move) first) (moved_decl move d) ≡ moved_decl move (first_of first d)
  first_of_moved None d = refl
  first_of_moved (Some first) d = ap (λ b. if b then moved_decl move first else moved_decl move d) (same_span_moved move apart first.ty.span d.ty.span) ∙ by (is_further (Some first) d)
    where
      by : (b : Bool) → (if b then moved_decl move first else moved_decl move d) ≡ moved_decl move (if b then first else d)
      by true = refl
      by false = refl

  member_in_moved : (first : Option LocalDecl) (m : Member) → member_in (maybe (moved_decl move) first) (moved_member move m) ≡ moved_member move (member_in first m)
  member_in_moved first (member.Field d) = ap (λ (x : LocalDecl). member.Field x) (field_in_moved first d)
  member_in_moved first (member.Method m) = refl

  first_behind_moved : (first : Option LocalDecl) (m : Member) → first_behind (maybe (moved_decl move) first) (moved_member move m) ≡ maybe (moved_decl move) (first_behind first m)
  first_behind_moved first (member.Field d) = ap (λ (x : LocalDecl). Some x) (first_of_moved first d)
  first_behind_moved first (member.Method m) = refl

  members_behind_moved : (first : Option LocalDecl) (ms : List Member) → members_behind (maybe (moved_decl move) first) (map (moved_member move) ms) ≡ map (moved_member move) (members_behind first ms)
  members_behind_moved first [] = refl
  members_behind_moved first (m ∷ ms) =
      ap₂ (λ (x : Member) (xs : List Member). x ∷ xs) (member_in_moved first m)
      (ap (λ (f : Option LocalDecl). members_behind f (map (moved_member move) ms)) (first_behind_moved first m) ∙ members_behind_moved (first_behind first m) ms)

  pub members_moved : (ms : List Member) → members (map (moved_member move) ms) ≡ map (moved_member move) (members ms)
  members_moved = members_behind_moved None
