-- Classes of arrays that have the same length, each by one of its arrays.
use Rattle.std.specs.Prelude.{◌≡◌, ◌⊎◌, cond, List, [], ◌∷◌}
use Rattle.ix_core.specs.declared.fact.Path.{Path}
use Rattle.ix_core.specs.declared.fact.Fact.{Fact}
use Rattle.ix_core.specs.declared.fact.Fact.TheVariants.{Same, IsLen}
use Rattle.ix_facts.specs.Bounds.{is_path}
use Rattle.ix_facts.specs.Facts.{IsIn}
use Rattle.ix_facts.specs.Closure.{Follows}

-- arrays, each with the array that stands for its class
abbrev pub Roots : Type 0
Roots = List (Path × Path)

-- the array that stands for the class: the array itself where it is not listed
abbrev pub root_of : Roots → Path → Path
root_of [] a = a
root_of (entry ∷ roots) a = cond (is_path entry.0 a) entry.1 (root_of roots a)

-- one array in another's place
abbrev pub replaced : Path → Path → Path → Path
replaced old new a = cond (is_path old a) new a

abbrev pub relabelled : Path → Path → Roots → Roots
relabelled old new [] = (old, new) ∷ []
relabelled old new (entry ∷ roots) = (entry.0, replaced old new entry.1) ∷ relabelled old new roots

-- what stands for a class stands for itself
abbrev pub AreRoots : Roots → Type 0
AreRoots roots = (a : Path) → root_of roots (root_of roots a) ≡ root_of roots a

-- what had one root has one root still
abbrev pub Coarser : Roots → Roots → Type 0
Coarser old new = (a b : Path) → root_of old a ≡ root_of old b → root_of new a ≡ root_of new b

-- the array, or one of which it follows that it has the same length
abbrev pub Alike : List Fact → Path → Path → Type 0
Alike facts a b = (a ≡ b) ⊎ Follows facts (Same a b)

-- each array is alike to what stands for it
abbrev pub AreSound : List Fact → Roots → Type 0
AreSound facts roots = (a : Path) → Alike facts (root_of roots a) a

-- the classes of these facts
pub record AreClasses (facts : List Fact) (roots : Roots) : Type 0 where
  pub roots_are : AreRoots roots
  pub sound : AreSound facts roots
  pub same : (a b : Path) → IsIn (Same a b) facts → root_of roots a ≡ root_of roots b
  pub lengths : (p a b : Path) → IsIn (IsLen p a) facts → IsIn (IsLen p b) facts → root_of roots a ≡ root_of roots b
