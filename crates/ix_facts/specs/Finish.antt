-- What the new facts of an operation give together with the stored ones. No rule reads what another gives. The rules are this project's own.
use Rattle.std.specs.Prelude.{ℤ, pos, negsuc, ◌+ℤ◌, ◌-ℤ◌, int_le, List, [], ◌∷◌, ◌++◌}
use Rattle.ix_core.specs.declared.fact.Path.{Path}
use Rattle.ix_core.specs.declared.fact.PathOff.TheVariants.{Nothing, Minus}
use Rattle.ix_core.specs.declared.fact.Fact.{Fact}
use Rattle.ix_core.specs.declared.fact.Fact.TheVariants.{IsLen, Less, Upper}
use Rattle.ix_facts.specs.Bounds
use Rattle.ix_facts.specs.Bounds.{is_path}
use Rattle.ix_facts.specs.Exact.{if_so, each, each_path, named_ints, named_arrays}

-- Along differences: `t < q + c` and stored `q < r + d` give `t < r + c + d - 1`.
abbrev pub step_above : Path → Path → ℤ → Fact → List Fact
step_above t q c (Less x r d) = if_so (is_path x q) (Less t r (c +ℤ d -ℤ pos 1) ∷ [])
step_above t q c _ = []

abbrev pub step_below : Path → Path → ℤ → Fact → List Fact
step_below t q c (Less r x d) = if_so (is_path x q) (Less r t (c +ℤ d -ℤ pos 1) ∷ [])
step_below t q c _ = []

-- Along bounds: `t < q + c` makes a stored bound of q one of t; `q < t + c` makes a stored bound at the offset -q one at the offset -t.
abbrev pub bound_above : Path → Path → ℤ → Fact → List Fact
bound_above t q c (Upper x a o d) = if_so (is_path x q) (Upper t a o (d -ℤ c +ℤ pos 1) ∷ [])
bound_above t q c (IsLen x a) = if_so (is_path x q) (Upper t a Nothing (pos 0 -ℤ c) ∷ [])
bound_above t q c _ = []

abbrev pub bound_below : Path → Path → ℤ → Fact → List Fact
bound_below t q c (Upper r a (Minus x) d) = if_so (is_path x q) (Upper r a (Minus t) (d -ℤ c +ℤ pos 1) ∷ [])
bound_below t q c _ = []

module _ (facts new : List Fact) (t : Path) where
  abbrev pub along_by : Fact → List Fact
  along_by (Less p q c) =
      if_so (is_path p t) (each (step_above t q c) facts ++ each (bound_above t q c) facts)
      ++ if_so (is_path q t) (each (step_below t p c) facts ++ each (bound_below t p c) facts)
  along_by _ = []

  -- By ranges: t and each named int, where t is at most the other or the other at most t.
  abbrev pub beside_int : Path → List Fact
  beside_int r =
      if_so (int_le (Bounds.range_high new t -ℤ Bounds.lower_bound facts r +ℤ pos 1) (pos 1)) (Less t r (Bounds.range_high new t -ℤ Bounds.lower_bound facts r +ℤ pos 1) ∷ [])
      ++ if_so (int_le (Bounds.upper_limit facts r -ℤ Bounds.range_low new t +ℤ pos 1) (pos 1)) (Less r t (Bounds.upper_limit facts r -ℤ Bounds.range_low new t +ℤ pos 1) ∷ [])

  -- and each named array, where t is at most its length.
  abbrev pub beside_array : Path → List Fact
  beside_array a =
      if_so (int_le (negsuc 0) (Bounds.length_low facts a -ℤ pos 1 -ℤ Bounds.range_high new t)) (Upper t a Nothing (Bounds.length_low facts a -ℤ pos 1 -ℤ Bounds.range_high new t) ∷ [])

  -- The rest of the facts on an int.
  abbrev pub finish_int : List Fact
  finish_int = each along_by new ++ (each_path beside_int (named_ints facts) ++ each_path beside_array (named_arrays facts))

  -- An array t and each named int that is at most its length.
  abbrev pub beside_length : Path → List Fact
  beside_length r =
      if_so (int_le (negsuc 0) (Bounds.length_low new t -ℤ pos 1 -ℤ Bounds.upper_limit facts r)) (Upper r t Nothing (Bounds.length_low new t -ℤ pos 1 -ℤ Bounds.upper_limit facts r) ∷ [])

  -- The rest of the facts on an array.
  abbrev pub finish_array : List Fact
  finish_array = each_path beside_length (named_ints facts)
