-- The declarators of a declaration at its place moved are those of the declaration, at their places moved.
use Rattle.std.proofs.Common.{◌≡◌, Bool, true, false, List, [], ◌∷◌, map, refl, ap, ap₂}
use Rattle.std.specs.Prelude.{if◌then◌else◌, nat_lt}
use Rattle.ix_tree.specs.declared.annot.Annot.{Annot}
use Rattle.ix_tree.specs.declared.decl.LocalDecl.{LocalDecl}
use Rattle.ix_meaning.specs.Declarators.{counting, counting_behind, with_annots, further, declarators}
use Rattle.ix_guard_text.specs.Moved.{Move, moved_annot, moved_decl}
use Rattle.ix_guard_text.proofs.AnnotsMove.{counting_moved}

module _ (move : Move) where
  pub behind_moved : (first d : LocalDecl) → counting_behind (moved_decl move first) (moved_decl move d) ≡ map (moved_annot move) (counting_behind first d)
  behind_moved first d = by (nat_lt 0 d.ty.depth)
    where
      by : (b : Bool) → (if b then counting (map (moved_annot move) first.ty.annots) else []) ≡ map (moved_annot move) (if b then counting first.ty.annots else [])
      by true = counting_moved move first.ty.annots
      by false = refl

  pub further_moved : (first d : LocalDecl) → further (moved_decl move first) (moved_decl move d) ≡ moved_decl move (further first d)
  further_moved first d = ap₂ (λ (before : List Annot) (behind : List Annot). with_annots before behind (moved_decl move d)) (counting_moved move first.mods.annots) (behind_moved first d)

  furthers_moved : (first : LocalDecl) (ds : List LocalDecl) → map (further (moved_decl move first)) (map (moved_decl move) ds) ≡ map (moved_decl move) (map (further first) ds)
  furthers_moved first [] = refl
  furthers_moved first (d ∷ ds) = ap₂ (λ (x : LocalDecl) (xs : List LocalDecl). x ∷ xs) (further_moved first d) (furthers_moved first ds)

  pub declarators_moved : (ds : List LocalDecl) → declarators (map (moved_decl move) ds) ≡ map (moved_decl move) (declarators ds)
  declarators_moved [] = refl
  declarators_moved (d ∷ ds) = ap (λ (xs : List LocalDecl). moved_decl move d ∷ xs) (furthers_moved d ds)
