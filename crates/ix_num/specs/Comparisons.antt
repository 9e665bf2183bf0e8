-- The comparisons of two ints.
use Rattle.std.specs.Prelude.{◌≡◌, ◌≢◌, ℤ, ◌≤ℤ◌, ◌<ℤ◌}
use Rattle.ix_num.specs.declared.rel.Rel.{Rel}
use Rattle.ix_num.specs.declared.rel.Rel.TheVariants.{Lt, Le, Gt, Ge, Eq, Ne}

-- x and y stand in the relation: JLS 15.20.1 (`< <= > >=`), 15.21.1 (`== !=`)
abbrev pub Compares : Rel → ℤ → ℤ → Type 0
Compares Lt x y = x <ℤ y
Compares Le x y = x ≤ℤ y
Compares Gt x y = y <ℤ x
Compares Ge x y = y ≤ℤ x
Compares Eq x y = x ≡ y
Compares Ne x y = x ≢ y
