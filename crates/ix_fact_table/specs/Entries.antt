-- The form in which a table keeps a fact: in its first order, within what is said of every path, and not said of every path.
use Rattle.std.specs.Prelude.{Bool, true, cond, not, ◌&&◌, ℤ, pos, negsuc, int_le, Option, Some, None}
use Rattle.std.specs.Ordering.{is_gt}
use Rattle.std.specs.Int.{int_min, int_max}
use Rattle.ix_num.specs.Ints.{least_int, greatest_int, IsInt}
use Rattle.ix_core.specs.declared.fact.PathOff.TheVariants.{Plus}
use Rattle.ix_core.specs.declared.fact.Fact.{Fact}
use Rattle.ix_core.specs.declared.fact.Fact.TheVariants.{Rng, LenRng, Low, Same, Less, Sum, Upper}
use Rattle.ix_facts.specs.PathOrder.{path_cmp}
use Rattle.ix_facts.specs.Facts.{is_default}

-- Of the orders of a fact the one in which its paths are in order.
abbrev pub in_first_order : Fact → Fact
in_first_order (Same a b) = cond (is_gt (path_cmp a b)) (Same b a) (Same a b)
in_first_order (Sum t y z) = cond (is_gt (path_cmp y z)) (Sum t z y) (Sum t y z)
in_first_order (Upper p a (Plus q) c) = cond (is_gt (path_cmp p q)) (Upper q a (Plus p) c) (Upper p a (Plus q) c)
in_first_order f = f

-- A range met with the one that is said of every path.
abbrev pub within : Fact → Fact
within (Rng p l h) = Rng p (int_max l least_int) (int_min h greatest_int)
within (LenRng a l h) = LenRng a (int_max l (pos 0)) (int_min h greatest_int)
within f = f

-- the fact as a table keeps it
abbrev pub entry_of : Fact → Fact
entry_of f = within (in_first_order f)

abbrev pub is_first : Fact → Bool
is_first (Same a b) = not (is_gt (path_cmp a b))
is_first (Sum t y z) = not (is_gt (path_cmp y z))
is_first (Upper p a (Plus q) c) = not (is_gt (path_cmp p q))
is_first f = true

-- the ends of a range lie in what is said of every path, what an int is at least is -1, 0 or 1, and other numbers are ints
abbrev pub has_ends : Fact → Bool
has_ends (Rng p l h) = int_le least_int l && int_le h greatest_int
has_ends (LenRng a l h) = int_le (pos 0) l && int_le h greatest_int
has_ends (Low p c) = int_le (negsuc 0) c && int_le c (pos 1)
has_ends (Less p q c) = int_le least_int c && int_le c greatest_int
has_ends (Upper p a o c) = int_le least_int c && int_le c greatest_int
has_ends f = true

abbrev pub is_entry : Fact → Bool
is_entry f = is_first f && (has_ends f && not (is_default f))

-- The number of a difference or a bound is an int, as the type of facts has it.
abbrev pub HasInt : Fact → Type 0
HasInt (Less p q c) = IsInt c
HasInt (Upper p a o c) = IsInt c
HasInt f = Unit {0}

-- the constant of a difference
abbrev pub less_constant : Fact → Option ℤ
less_constant (Less p q c) = Some c
less_constant _ = None
