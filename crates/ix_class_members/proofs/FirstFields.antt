-- The field that begins the declaration of another, by whether that is a further one.
use Rattle.std.proofs.Common.{◌≡◌, true, false, if◌then◌else◌, Option, Some, None, refl, ap, sym}
use Rattle.ix_tree.specs.declared.decl.LocalDecl.{LocalDecl}
use Rattle.ix_meaning.specs.Declarators.{is_further, first_of}

pub further_first : (first : Option LocalDecl) (d : LocalDecl) → is_further first d ≡ true → first ≡ Some (first_of first d)
further_first None d h = cc
further_first (Some first) d h = ap (λ b. Some (if b then first else d)) (sym h)

pub other_first : (first : Option LocalDecl) (d : LocalDecl) → is_further first d ≡ false → first_of first d ≡ d
other_first None d h = refl
other_first (Some first) d h = ap (λ b. if b then first else d) h
