-- What two facts at one key say together, and what both say.
use Rattle.std.specs.Int.{int_min, int_max}
use Rattle.ix_core.specs.declared.fact.Fact.{Fact}
use Rattle.ix_core.specs.declared.fact.Fact.TheVariants.{Rng, LenRng, Low, Less, Upper}

-- The two facts as one: the common part of ranges, and of other numbers the stronger. Facts without a number are the same at one key.
abbrev pub met : Fact → Fact → Fact
met (Rng p l h) (Rng q m k) = Rng p (int_max l m) (int_min h k)
met (LenRng a l h) (LenRng b m k) = LenRng a (int_max l m) (int_min h k)
met (Low p c) (Low q d) = Low p (int_max c d)
met (Less p q c) (Less r s d) = Less p q (int_min c d)
met (Upper p a o c) (Upper q b x d) = Upper p a o (int_max c d)
met f _ = f

-- The strongest fact that both say: the range around both, and of other numbers the weaker.
abbrev pub common : Fact → Fact → Fact
common (Rng p l h) (Rng q m k) = Rng p (int_min l m) (int_max h k)
common (LenRng a l h) (LenRng b m k) = LenRng a (int_min l m) (int_max h k)
common (Low p c) (Low q d) = Low p (int_min c d)
common (Less p q c) (Less r s d) = Less p q (int_max c d)
common (Upper p a o c) (Upper q b x d) = Upper p a o (int_min c d)
common f _ = f
