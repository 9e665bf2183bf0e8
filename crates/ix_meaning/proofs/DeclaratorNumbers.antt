-- A declaration of locals declares as many as it has declarators.
use Rattle.std.proofs.Common.{◌≡◌, ◌+◌, List, [], ◌∷◌, map, refl, ap}
use Rattle.ix_tree.specs.declared.decl.LocalDecl.{LocalDecl}
use Rattle.ix_meaning.specs.Bodies.{all_declared}
use Rattle.ix_meaning.specs.Declarators.{further, declarators}

all_number : (f : LocalDecl → LocalDecl) (ds : List LocalDecl) → (all_declared (map f ds)).declares ≡ (all_declared ds).declares
all_number f [] = refl
all_number f (d ∷ ds) = ap (λ n. 1 + n) (all_number f ds)

pub declarators_number : (ds : List LocalDecl) → (all_declared (declarators ds)).declares ≡ (all_declared ds).declares
declarators_number [] = refl
declarators_number (d ∷ ds) = ap (λ n. 1 + n) (all_number (further d) ds)
