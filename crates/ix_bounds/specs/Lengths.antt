-- Which lengths ints are, and what that says of a difference.
use Rattle.std.specs.Prelude.{◌≡◌, Bool, true, false, ℤ, pos, ◌-ℤ◌, List, [], ◌∷◌, filter, Option, None, refl}
use Rattle.std.specs.Option.{option_map}
use Rattle.std.proofs.Common.{ap}
use Rattle.ix_core.specs.declared.fact.Path.{Path}
use Rattle.ix_core.specs.declared.fact.PathOff.TheVariants.{Nothing}
use Rattle.ix_core.specs.declared.fact.Fact.{Fact}
use Rattle.ix_core.specs.declared.fact.Fact.TheVariants.{Rng, LenRng, Low, Same, IsLen, Less, Sum, Search, Neg, Upper}
use Rattle.ix_facts.specs.Bounds.{is_path, when, stored_upper}
use Rattle.ix_bounds.specs.Ends.{ends_in}
use Rattle.ix_bounds.specs.Links.{links_in}

-- The fact says that an int is the length of an array.
abbrev pub is_len : Fact → Bool
is_len (IsLen p a) = true
is_len _ = false

abbrev pub lengths_in : List Fact → List Fact
lengths_in facts = filter is_len facts

-- The part of a stored difference (`stored_less_by`) that comes of lengths: what is below a length is below the int that is this length.
abbrev pub length_less_by : List Fact → Path → Path → Fact → Option ℤ
length_less_by facts p q (IsLen r a) = when (is_path r q) (option_map (λ c. pos 0 -ℤ c) (stored_upper facts p a Nothing))
length_less_by facts p q _ = None

-- ---- lengths are among the ends, and among differences and lengths

pub lengths_of_ends : (facts : List Fact) → lengths_in (ends_in facts) ≡ lengths_in facts
lengths_of_ends [] = refl
lengths_of_ends (Rng p l h ∷ facts) = lengths_of_ends facts
lengths_of_ends (LenRng a l h ∷ facts) = lengths_of_ends facts
lengths_of_ends (Low p c ∷ facts) = lengths_of_ends facts
lengths_of_ends (Same a b ∷ facts) = lengths_of_ends facts
lengths_of_ends (IsLen p a ∷ facts) = ap (λ l. IsLen p a ∷ l) (lengths_of_ends facts)
lengths_of_ends (Less p q c ∷ facts) = lengths_of_ends facts
lengths_of_ends (Sum t y z ∷ facts) = lengths_of_ends facts
lengths_of_ends (Search p a ∷ facts) = lengths_of_ends facts
lengths_of_ends (Neg p a ∷ facts) = lengths_of_ends facts
lengths_of_ends (Upper p a o c ∷ facts) = lengths_of_ends facts

pub lengths_of_links : (facts : List Fact) → lengths_in (links_in facts) ≡ lengths_in facts
lengths_of_links [] = refl
lengths_of_links (Rng p l h ∷ facts) = lengths_of_links facts
lengths_of_links (LenRng a l h ∷ facts) = lengths_of_links facts
lengths_of_links (Low p c ∷ facts) = lengths_of_links facts
lengths_of_links (Same a b ∷ facts) = lengths_of_links facts
lengths_of_links (IsLen p a ∷ facts) = ap (λ l. IsLen p a ∷ l) (lengths_of_links facts)
lengths_of_links (Less p q c ∷ facts) = lengths_of_links facts
lengths_of_links (Sum t y z ∷ facts) = lengths_of_links facts
lengths_of_links (Search p a ∷ facts) = lengths_of_links facts
lengths_of_links (Neg p a ∷ facts) = lengths_of_links facts
lengths_of_links (Upper p a o c ∷ facts) = lengths_of_links facts
