-- The ints of Java: the whole numbers from -2147483648 to 2147483647 (JLS 4.2.1).
use Rattle.std.specs.Prelude.{ℤ, pos, negsuc, ◌≤ℤ◌}

abbrev pub least_int : ℤ
least_int = negsuc 2147483647

abbrev pub greatest_int : ℤ
greatest_int = pos 2147483647

-- the number is an int
pub record IsInt (n : ℤ) : Type 0 where
  pub from : least_int ≤ℤ n
  pub to : n ≤ℤ greatest_int
