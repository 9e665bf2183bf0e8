-- The order of the classes is that of their places.
use Rattle.std.proofs.Common.{◌↔◌, false, refl, pos, negsuc, arith}
use Rattle.std.specs.Prelude.{IsTrue}
use lib.Dec.{leb}
use Rattle.std.proofs.lemmas.Int.{ints}
use Rattle.std.proofs.lemmas.Bool.{both_ways}
use Rattle.ix_tables.specs.declared.low.Low.{Low}
use Rattle.ix_tables.specs.declared.low.Low.TheVariants.{Unknown, MinusOne, Zero, One}
use Rattle.ix_tables.specs.LowClasses.{LowBelow}
use Rattle.ix_tables.specs.Rows.{class_place}

pub below_by_place : (x y : Low) → IsTrue (leb (class_place y) (class_place x)) ↔ LowBelow x y
below_by_place Unknown Unknown = (λ h n p. tt, λ below. refl)
below_by_place Unknown MinusOne = (λ h. absurd (both_ways false refl h), λ below. absurd (omega (arith, ints, below (negsuc 1) tt)))
below_by_place Unknown Zero = (λ h. absurd (both_ways false refl h), λ below. absurd (omega (arith, ints, below (negsuc 1) tt)))
below_by_place Unknown One = (λ h. absurd (both_ways false refl h), λ below. absurd (omega (arith, ints, below (negsuc 1) tt)))
below_by_place MinusOne Unknown = (λ h n p. tt, λ below. refl)
below_by_place MinusOne MinusOne = (λ h n p. p, λ below. refl)
below_by_place MinusOne Zero = (λ h. absurd (both_ways false refl h), λ below. absurd (omega (arith, ints, below (negsuc 0) (record { le = tt }))))
below_by_place MinusOne One = (λ h. absurd (both_ways false refl h), λ below. absurd (omega (arith, ints, below (negsuc 0) (record { le = tt }))))
below_by_place Zero Unknown = (λ h n p. tt, λ below. refl)
below_by_place Zero MinusOne = (λ h n p. omega (arith, ints), λ below. refl)
below_by_place Zero Zero = (λ h n p. p, λ below. refl)
below_by_place Zero One = (λ h. absurd (both_ways false refl h), λ below. absurd (omega (arith, ints, below (pos 0) (record { le = tt }))))
below_by_place One Unknown = (λ h n p. tt, λ below. refl)
below_by_place One MinusOne = (λ h n p. omega (arith, ints), λ below. refl)
below_by_place One Zero = (λ h n p. omega (arith, ints), λ below. refl)
below_by_place One One = (λ h n p. p, λ below. refl)
