-- Facts by the paths that they name: each at each of its paths, once.
use Rattle.std.specs.Prelude.{◌≡◌, ℕ, Bool, cond, ◌||◌, ◌&&◌, ◌+◌, ◌*◌, nat_eq, nat_lt, List, [], ◌∷◌, ◌++◌, get_or, filter}
use Rattle.std.specs.List.Sorted.{IsSortedByKey}
use Rattle.std.specs.BTreeSet.{insert_key}
use Rattle.ix_core.specs.declared.fact.Path.{Path}
use Rattle.ix_core.specs.declared.fact.Path.TheVariants.{Slot, FieldOf}
use Rattle.ix_core.specs.declared.fact.PathOff.{PathOff}
use Rattle.ix_core.specs.declared.fact.PathOff.TheVariants.{Nothing, Plus, Minus}
use Rattle.ix_core.specs.declared.fact.Fact.{Fact}
use Rattle.ix_core.specs.declared.fact.Fact.TheVariants.{Rng, LenRng, Low, Same, IsLen, Less, Sum, Search, Neg, Upper}
use Rattle.ix_facts.specs.Bounds.{is_path}
use Rattle.ix_facts.specs.Forget.{names}
use Rattle.ix_facts.specs.PathOrder.{path_cmp}

-- paths, each with a fact that names it
abbrev pub Entries : Type 0
Entries = List (Path × Fact)

abbrev pub at_two : Path → Path → Fact → Entries
at_two p q fact = (p, fact) ∷ cond (is_path q p) [] ((q, fact) ∷ [])

abbrev pub at_three : Path → Path → Path → Fact → Entries
at_three p q r fact = at_two p q fact ++ cond (is_path r p || is_path r q) [] ((r, fact) ∷ [])

abbrev pub at_bound : Path → Path → PathOff → Fact → Entries
at_bound p a Nothing fact = at_two p a fact
at_bound p a (Plus q) fact = at_three p a q fact
at_bound p a (Minus q) fact = at_three p a q fact

abbrev pub at_paths : Fact → Entries
at_paths (Rng p l h) = (p, Rng p l h) ∷ []
at_paths (LenRng a l h) = (a, LenRng a l h) ∷ []
at_paths (Low p c) = (p, Low p c) ∷ []
at_paths (Same a b) = at_two a b (Same a b)
at_paths (IsLen p a) = at_two p a (IsLen p a)
at_paths (Less p q c) = at_two p q (Less p q c)
at_paths (Sum t y z) = at_three t y z (Sum t y z)
at_paths (Search p a) = at_two p a (Search p a)
at_paths (Neg p a) = at_two p a (Neg p a)
at_paths (Upper p a o c) = at_bound p a o (Upper p a o c)

abbrev pub entries_of : List Fact → Entries
entries_of [] = []
entries_of (fact ∷ facts) = at_paths fact ++ entries_of facts

abbrev pub paths_in : Entries → List Path
paths_in [] = []
paths_in (entry ∷ entries) = entry.0 ∷ paths_in entries

abbrev pub facts_in : Entries → List Fact
facts_in [] = []
facts_in (entry ∷ entries) = entry.1 ∷ facts_in entries

-- the entries at a path
abbrev pub at_path : Path → Path × Fact → Bool
at_path p entry = is_path p entry.0

abbrev pub about : Path → Entries → Entries
about p entries = filter (at_path p) entries

-- the facts that name the path
abbrev pub on_it : Path → List Fact → List Fact
on_it p facts = filter (names (is_path p)) facts

-- the paths are in order; one may stand there several times
abbrev pub IsSorted : List Path → Type 0
IsSorted = IsSortedByKey (λ p. p) path_cmp

-- of facts that stand beside their paths, those beside this one
abbrev pub beside : Path → List Path → List Fact → List Fact
beside p [] facts = []
beside p (q ∷ paths) [] = []
beside p (q ∷ paths) (fact ∷ facts) = cond (is_path p q) (fact ∷ beside p paths facts) (beside p paths facts)

-- A slot among the first 1,024, or a field among the first 1,024 of the object in slot 0: its facts stand in a list of their own.
abbrev pub is_near : Path → Bool
is_near (Slot s) = nat_lt s 1024
is_near (FieldOf s f) = nat_eq s 0 && nat_lt f 1024

-- the place of that list: slots and fields are in turns
abbrev pub near_place : Path → ℕ
near_place (Slot s) = 2 * s
near_place (FieldOf s f) = 2 * f + 1

-- Of each near path, by its place, the facts put there, and the entries of all other paths.
abbrev pub Places : Type 0
Places = List (List Fact) × Entries

abbrev pub facts_at : Places → Path → List Fact
facts_at places p = cond (is_near p) (get_or places.0 (near_place p) []) (facts_in (about p places.1))

-- The second places have the entries behind what stands at the first.
abbrev pub Adds : Places → Places → Entries → Type 0
Adds old new entries = (x : Path) → facts_at new x ≡ facts_at old x ++ facts_in (about x entries)

-- The same, where the other paths are in order, and as many facts stand beside them.
abbrev pub Index : Type 0
Index = List (List Fact) × (List Path × List Fact)

abbrev pub on_index : Index → Path → List Fact
on_index index p = cond (is_near p) (get_or index.0 (near_place p) []) (beside p index.1.0 index.1.1)

-- paths put into a set in order, one after another
abbrev pub put_all : List Path → List Path → List Path
put_all paths [] = paths
put_all paths (p ∷ more) = put_all (insert_key path_cmp paths p) more
