-- A test of every operator and every class, by one computation.
use Rattle.std.proofs.Common.{◌≡◌, ◌&&◌, Bool, true}
use Rattle.std.proofs.lemmas.Bool.{and_parts}
use Rattle.ix_tables.specs.declared.low.Low.{Low}
use Rattle.ix_tables.specs.declared.low.Low.TheVariants.{Unknown, MinusOne, Zero, One}

abbrev pub every_class : (Low → Bool) → Bool
every_class p = p Unknown && (p MinusOne && (p Zero && p One))

pub each_class : (p : Low → Bool) → every_class p ≡ true → (x : Low) → p x ≡ true
each_class p all Unknown = (and_parts (p Unknown) _ all).0
each_class p all MinusOne = (and_parts (p MinusOne) _ (and_parts (p Unknown) _ all).1).0
each_class p all Zero = (and_parts (p Zero) (p One) (and_parts (p MinusOne) _ (and_parts (p Unknown) _ all).1).1).0
each_class p all One = (and_parts (p Zero) (p One) (and_parts (p MinusOne) _ (and_parts (p Unknown) _ all).1).1).1

-- of all pairs of classes
abbrev pub every_pair : (Low → Low → Bool) → Bool
every_pair p = every_class (λ x. every_class (λ y. p x y))

pub each_pair : (p : Low → Low → Bool) → every_pair p ≡ true → (x y : Low) → p x y ≡ true
each_pair p all x y = each_class (λ y'. p x y') (each_class (λ x'. every_class (λ y'. p x' y')) all x) y
