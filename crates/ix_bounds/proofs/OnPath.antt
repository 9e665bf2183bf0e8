-- Each bound by the facts on a path is the bound by all facts.
use Rattle.std.specs.Prelude.{◌≡◌, pos, List}
use Rattle.std.specs.Int.{int_min, int_max}
use Rattle.std.proofs.Common.{ap}
use Rattle.ix_num.specs.Ints.{least_int, greatest_int}
use Rattle.ix_core.specs.declared.fact.Path.{Path}
use Rattle.ix_core.specs.declared.fact.PathOff.{PathOff}
use Rattle.ix_core.specs.declared.fact.Fact.{Fact}
use Rattle.ix_facts.specs.Bounds
use Rattle.ix_facts.specs.Bounds.{at_least, at_most, greatest, least, length_low_by, length_high_by, range_low_by, range_high_by}
use Rattle.ix_facts.specs.OnPaths.{HasNamed, best_on}
use Rattle.ix_bounds.proofs.Looks.{looks_length_low, looks_length_high, looks_range_low, looks_range_high, looks_limit, looks_stored_upper, looks_upper}

module _ (part all : List Fact) where
  pub length_low_is : (a : Path) → HasNamed a part all → Bounds.length_low part a ≡ Bounds.length_low all a
  length_low_is a n = ap (at_least (pos 0)) (best_on int_max a (length_low_by a) part all (looks_length_low a) n)

  pub length_high_is : (a : Path) → HasNamed a part all → Bounds.length_high part a ≡ Bounds.length_high all a
  length_high_is a n = ap (at_most greatest_int) (best_on int_min a (length_high_by a) part all (looks_length_high a) n)

  pub range_low_is : (p : Path) → HasNamed p part all → Bounds.range_low part p ≡ Bounds.range_low all p
  range_low_is p n = ap (at_least least_int) (best_on int_max p (range_low_by p) part all (looks_range_low p) n)

  pub range_high_is : (p : Path) → HasNamed p part all → Bounds.range_high part p ≡ Bounds.range_high all p
  range_high_is p n = ap (at_most greatest_int) (best_on int_min p (range_high_by p) part all (looks_range_high p) n)

  pub limit_is : (p : Path) → HasNamed p part all → at_most (Bounds.range_high all p) (least (Bounds.limit_by all p) part) ≡ Bounds.upper_limit all p
  limit_is p n = ap (at_most (Bounds.range_high all p)) (best_on int_min p (Bounds.limit_by all p) part all (looks_limit all p) n)

  pub stored_upper_is : (p a : Path) (o : PathOff) → HasNamed p part all → greatest (Bounds.stored_upper_by all p a o) part ≡ Bounds.stored_upper all p a o
  stored_upper_is p a o n = best_on int_max p (Bounds.stored_upper_by all p a o) part all (looks_stored_upper all p a o) n

  pub upper_is : (p a : Path) (o : PathOff) → HasNamed p part all → greatest (Bounds.upper_by all p a o) part ≡ greatest (Bounds.upper_by all p a o) all
  upper_is p a o n = best_on int_max p (Bounds.upper_by all p a o) part all (looks_upper all p a o) n
