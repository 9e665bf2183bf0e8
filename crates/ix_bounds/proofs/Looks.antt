-- Which path each bound looks at: a fact that does not name it gives no number, and is no answer to a question.
use Rattle.std.specs.Prelude.{◌≡◌, Bool, true, false, ◌||◌, ◌&&◌, List, [], ◌∷◌, filter, refl}
use Rattle.std.proofs.Common.{ap, sym, ◌∙◌}
use Rattle.ix_core.specs.declared.fact.Path.{Path}
use Rattle.ix_core.specs.declared.fact.PathOff.{PathOff}
use Rattle.ix_core.specs.declared.fact.PathOff.TheVariants.{Nothing, Plus, Minus}
use Rattle.ix_core.specs.declared.fact.Fact.{Fact}
use Rattle.ix_core.specs.declared.fact.Fact.TheVariants.{Rng, LenRng, Low, Same, IsLen, Less, Sum, Search, Neg, Upper}
use Rattle.ix_facts.specs.Bounds
use Rattle.ix_facts.specs.Bounds.{is_path, is_offset, says_same, stored_same, length_low_by, length_high_by, range_low_by, range_high_by, fact_less_by}
use Rattle.ix_facts.specs.Assume.{has, is_length, is_search, is_negative}
use Rattle.ix_facts.specs.Forget.{names}
use Rattle.ix_facts.specs.OnPaths.{LooksOnly, HasNamed}
use Rattle.ix_core.proofs.Cases.{by_test}
use Rattle.ix_bounds.specs.Lengths.{length_less_by}
use Rattle.ix_facts.proofs.Tests.{off, not_first, not_second, no_number}

both_first : (x y : Bool) → x ≡ false → (x && y) ≡ false
both_first x y n = ap (λ b. b && y) n

both_second : (x y : Bool) → y ≡ false → (x && y) ≡ false
both_second true y n = n
both_second false y n = refl

-- A fact that does not name the path is no answer to the question.
abbrev pub AsksOnly : Path → (Fact → Bool) → Type 0
AsksOnly p asks = (fact : Fact) → names (is_path p) fact ≡ false → asks fact ≡ false

pub looks_length_low : (a : Path) → LooksOnly a (length_low_by a)
looks_length_low a (LenRng b l h) n = no_number (is_path b a) _ (off a b n)
looks_length_low a (Rng p1 l1 h1) n = refl
looks_length_low a (Low p1 c1) n = refl
looks_length_low a (Same a1 b1) n = refl
looks_length_low a (IsLen p1 a1) n = refl
looks_length_low a (Less p1 q1 c1) n = refl
looks_length_low a (Sum t1 y1 z1) n = refl
looks_length_low a (Search p1 a1) n = refl
looks_length_low a (Neg p1 a1) n = refl
looks_length_low a (Upper p1 a1 o1 c1) n = refl

pub looks_length_high : (a : Path) → LooksOnly a (length_high_by a)
looks_length_high a (LenRng b l h) n = no_number (is_path b a) _ (off a b n)
looks_length_high a (Rng p1 l1 h1) n = refl
looks_length_high a (Low p1 c1) n = refl
looks_length_high a (Same a1 b1) n = refl
looks_length_high a (IsLen p1 a1) n = refl
looks_length_high a (Less p1 q1 c1) n = refl
looks_length_high a (Sum t1 y1 z1) n = refl
looks_length_high a (Search p1 a1) n = refl
looks_length_high a (Neg p1 a1) n = refl
looks_length_high a (Upper p1 a1 o1 c1) n = refl

pub looks_range_low : (p : Path) → LooksOnly p (range_low_by p)
looks_range_low p (Rng q l h) n = no_number (is_path q p) _ (off p q n)
looks_range_low p (Low q c) n = no_number (is_path q p) _ (off p q n)
looks_range_low p (LenRng a1 l1 h1) n = refl
looks_range_low p (Same a1 b1) n = refl
looks_range_low p (IsLen p1 a1) n = refl
looks_range_low p (Less p1 q1 c1) n = refl
looks_range_low p (Sum t1 y1 z1) n = refl
looks_range_low p (Search p1 a1) n = refl
looks_range_low p (Neg p1 a1) n = refl
looks_range_low p (Upper p1 a1 o1 c1) n = refl

pub looks_range_high : (p : Path) → LooksOnly p (range_high_by p)
looks_range_high p (Rng q l h) n = no_number (is_path q p) _ (off p q n)
looks_range_high p (LenRng a1 l1 h1) n = refl
looks_range_high p (Low p1 c1) n = refl
looks_range_high p (Same a1 b1) n = refl
looks_range_high p (IsLen p1 a1) n = refl
looks_range_high p (Less p1 q1 c1) n = refl
looks_range_high p (Sum t1 y1 z1) n = refl
looks_range_high p (Search p1 a1) n = refl
looks_range_high p (Neg p1 a1) n = refl
looks_range_high p (Upper p1 a1 o1 c1) n = refl

pub looks_fact_less : (p q : Path) → LooksOnly p (fact_less_by p q)
looks_fact_less p q (Less r s c) n = no_number (is_path r p && is_path s q) _ (both_first (is_path r p) (is_path s q) (off p r (not_first (is_path p r) _ n)))
looks_fact_less p q (Rng p1 l1 h1) n = refl
looks_fact_less p q (LenRng a1 l1 h1) n = refl
looks_fact_less p q (Low p1 c1) n = refl
looks_fact_less p q (Same a1 b1) n = refl
looks_fact_less p q (IsLen p1 a1) n = refl
looks_fact_less p q (Sum t1 y1 z1) n = refl
looks_fact_less p q (Search p1 a1) n = refl
looks_fact_less p q (Neg p1 a1) n = refl
looks_fact_less p q (Upper p1 a1 o1 c1) n = refl

module _ (facts : List Fact) where
  pub looks_lower : (p : Path) → LooksOnly p (Bounds.lower_by facts p)
  looks_lower p (Less q r c) n = no_number (is_path r p) _ (off p r (not_second (is_path p q) _ n))
  looks_lower p (IsLen r a) n = no_number (is_path r p) _ (off p r (not_first (is_path p r) _ n))
  looks_lower p (Rng p1 l1 h1) n = refl
  looks_lower p (LenRng a1 l1 h1) n = refl
  looks_lower p (Low p1 c1) n = refl
  looks_lower p (Same a1 b1) n = refl
  looks_lower p (Sum t1 y1 z1) n = refl
  looks_lower p (Search p1 a1) n = refl
  looks_lower p (Neg p1 a1) n = refl
  looks_lower p (Upper p1 a1 o1 c1) n = refl

  pub looks_limit : (p : Path) → LooksOnly p (Bounds.limit_by facts p)
  looks_limit p (Less r q c) n = no_number (is_path r p) _ (off p r (not_first (is_path p r) _ n))
  looks_limit p (Upper r a Nothing c) n = no_number (is_path r p) _ (off p r (not_first (is_path p r) _ n))
  looks_limit p (Upper r a (Plus o) c) n = refl
  looks_limit p (Upper r a (Minus o) c) n = refl
  looks_limit p (IsLen r a) n = no_number (is_path r p) _ (off p r (not_first (is_path p r) _ n))
  looks_limit p (Rng p1 l1 h1) n = refl
  looks_limit p (LenRng a1 l1 h1) n = refl
  looks_limit p (Low p1 c1) n = refl
  looks_limit p (Same a1 b1) n = refl
  looks_limit p (Sum t1 y1 z1) n = refl
  looks_limit p (Search p1 a1) n = refl
  looks_limit p (Neg p1 a1) n = refl

  pub looks_length_less : (p q : Path) → LooksOnly q (length_less_by facts p q)
  looks_length_less p q (IsLen r a) n = no_number (is_path r q) _ (off q r (not_first (is_path q r) _ n))
  looks_length_less p q (Rng p1 l1 h1) n = refl
  looks_length_less p q (LenRng a1 l1 h1) n = refl
  looks_length_less p q (Low p1 c1) n = refl
  looks_length_less p q (Same a1 b1) n = refl
  looks_length_less p q (Less p1 q1 c1) n = refl
  looks_length_less p q (Sum t1 y1 z1) n = refl
  looks_length_less p q (Search p1 a1) n = refl
  looks_length_less p q (Neg p1 a1) n = refl
  looks_length_less p q (Upper p1 a1 o1 c1) n = refl

  pub looks_stored_upper : (p a : Path) (o : PathOff) → LooksOnly p (Bounds.stored_upper_by facts p a o)
  looks_stored_upper p a Nothing (Upper r b x c) n = no_number (is_path r p && (Bounds.are_same facts b a && is_offset x Nothing)) _ (both_first (is_path r p) _ (off p r (not_first (is_path p r) _ n)))
  looks_stored_upper p a Nothing (IsLen r b) n = no_number (is_path r p && is_path b a) _ (both_first (is_path r p) _ (off p r (not_first (is_path p r) _ n)))
  looks_stored_upper p a Nothing (Rng p1 l1 h1) n = refl
  looks_stored_upper p a Nothing (LenRng a1 l1 h1) n = refl
  looks_stored_upper p a Nothing (Low p1 c1) n = refl
  looks_stored_upper p a Nothing (Same a1 b1) n = refl
  looks_stored_upper p a Nothing (Less p1 q1 c1) n = refl
  looks_stored_upper p a Nothing (Sum t1 y1 z1) n = refl
  looks_stored_upper p a Nothing (Search p1 a1) n = refl
  looks_stored_upper p a Nothing (Neg p1 a1) n = refl
  looks_stored_upper p a (Plus y) (Upper r b x c) n = no_number (is_path r p && (Bounds.are_same facts b a && is_offset x (Plus y))) _ (both_first (is_path r p) _ (off p r (not_first (is_path p r) _ n)))
  looks_stored_upper p a (Plus y) (Rng p1 l1 h1) n = refl
  looks_stored_upper p a (Plus y) (LenRng a1 l1 h1) n = refl
  looks_stored_upper p a (Plus y) (Low p1 c1) n = refl
  looks_stored_upper p a (Plus y) (Same a1 b1) n = refl
  looks_stored_upper p a (Plus y) (IsLen p1 a1) n = refl
  looks_stored_upper p a (Plus y) (Less p1 q1 c1) n = refl
  looks_stored_upper p a (Plus y) (Sum t1 y1 z1) n = refl
  looks_stored_upper p a (Plus y) (Search p1 a1) n = refl
  looks_stored_upper p a (Plus y) (Neg p1 a1) n = refl
  looks_stored_upper p a (Minus y) (Upper r b x c) n = no_number (is_path r p && (Bounds.are_same facts b a && is_offset x (Minus y))) _ (both_first (is_path r p) _ (off p r (not_first (is_path p r) _ n)))
  looks_stored_upper p a (Minus y) (Rng p1 l1 h1) n = refl
  looks_stored_upper p a (Minus y) (LenRng a1 l1 h1) n = refl
  looks_stored_upper p a (Minus y) (Low p1 c1) n = refl
  looks_stored_upper p a (Minus y) (Same a1 b1) n = refl
  looks_stored_upper p a (Minus y) (IsLen p1 a1) n = refl
  looks_stored_upper p a (Minus y) (Less p1 q1 c1) n = refl
  looks_stored_upper p a (Minus y) (Sum t1 y1 z1) n = refl
  looks_stored_upper p a (Minus y) (Search p1 a1) n = refl
  looks_stored_upper p a (Minus y) (Neg p1 a1) n = refl

  pub looks_upper : (p a : Path) (o : PathOff) → LooksOnly p (Bounds.upper_by facts p a o)
  looks_upper p a Nothing (Upper r b (Plus q) c) n = no_number (is_path r p && Bounds.are_same facts b a) _ (both_first (is_path r p) _ (off p r (not_first (is_path p r) _ n)))
  looks_upper p a Nothing (Upper r b (Minus q) c) n = no_number (is_path r p && Bounds.are_same facts b a) _ (both_first (is_path r p) _ (off p r (not_first (is_path p r) _ n)))
  looks_upper p a Nothing (Upper r b Nothing c) n = refl
  looks_upper p a Nothing (Sum t1 y1 z1) n = refl
  looks_upper p a Nothing (Rng p1 l1 h1) n = refl
  looks_upper p a Nothing (LenRng a1 l1 h1) n = refl
  looks_upper p a Nothing (Low p1 c1) n = refl
  looks_upper p a Nothing (Same a1 b1) n = refl
  looks_upper p a Nothing (IsLen p1 a1) n = refl
  looks_upper p a Nothing (Less p1 q1 c1) n = refl
  looks_upper p a Nothing (Search p1 a1) n = refl
  looks_upper p a Nothing (Neg p1 a1) n = refl
  looks_upper p a (Plus y) (Upper r b Nothing c) n = refl
  looks_upper p a (Plus y) (Upper r b (Plus q) c) n = refl
  looks_upper p a (Plus y) (Upper r b (Minus q) c) n = refl
  looks_upper p a (Plus y) (Sum t u z) n = no_number (is_path u p && is_path z y) _ (both_first (is_path u p) _ (off p u (not_first (is_path p u) _ (not_second (is_path p t) _ n))))
  looks_upper p a (Plus y) (Rng p1 l1 h1) n = refl
  looks_upper p a (Plus y) (LenRng a1 l1 h1) n = refl
  looks_upper p a (Plus y) (Low p1 c1) n = refl
  looks_upper p a (Plus y) (Same a1 b1) n = refl
  looks_upper p a (Plus y) (IsLen p1 a1) n = refl
  looks_upper p a (Plus y) (Less p1 q1 c1) n = refl
  looks_upper p a (Plus y) (Search p1 a1) n = refl
  looks_upper p a (Plus y) (Neg p1 a1) n = refl
  looks_upper p a (Minus y) (Upper r b Nothing c) n = refl
  looks_upper p a (Minus y) (Upper r b (Plus q) c) n = refl
  looks_upper p a (Minus y) (Upper r b (Minus q) c) n = refl
  looks_upper p a (Minus y) (Sum t u z) n = no_number (is_path t p && is_path z y) _ (both_first (is_path t p) _ (off p t (not_first (is_path p t) _ n)))
  looks_upper p a (Minus y) (Rng p1 l1 h1) n = refl
  looks_upper p a (Minus y) (LenRng a1 l1 h1) n = refl
  looks_upper p a (Minus y) (Low p1 c1) n = refl
  looks_upper p a (Minus y) (Same a1 b1) n = refl
  looks_upper p a (Minus y) (IsLen p1 a1) n = refl
  looks_upper p a (Minus y) (Less p1 q1 c1) n = refl
  looks_upper p a (Minus y) (Search p1 a1) n = refl
  looks_upper p a (Minus y) (Neg p1 a1) n = refl

pub asks_same : (a b : Path) → AsksOnly a (says_same a b)
asks_same a b (Same c d) n = both_first (is_path c a) _ (off a c (not_first (is_path a c) _ n))
asks_same a b (Rng p1 l1 h1) n = refl
asks_same a b (LenRng a1 l1 h1) n = refl
asks_same a b (Low p1 c1) n = refl
asks_same a b (IsLen p1 a1) n = refl
asks_same a b (Less p1 q1 c1) n = refl
asks_same a b (Sum t1 y1 z1) n = refl
asks_same a b (Search p1 a1) n = refl
asks_same a b (Neg p1 a1) n = refl
asks_same a b (Upper p1 a1 o1 c1) n = refl

pub asks_length : (p a : Path) → AsksOnly p (is_length p a)
asks_length p a (IsLen q b) n = both_first (is_path q p) _ (off p q (not_first (is_path p q) _ n))
asks_length p a (Rng p1 l1 h1) n = refl
asks_length p a (LenRng a1 l1 h1) n = refl
asks_length p a (Low p1 c1) n = refl
asks_length p a (Same a1 b1) n = refl
asks_length p a (Less p1 q1 c1) n = refl
asks_length p a (Sum t1 y1 z1) n = refl
asks_length p a (Search p1 a1) n = refl
asks_length p a (Neg p1 a1) n = refl
asks_length p a (Upper p1 a1 o1 c1) n = refl

pub asks_search : (p a : Path) → AsksOnly p (is_search p a)
asks_search p a (Search q b) n = both_first (is_path q p) _ (off p q (not_first (is_path p q) _ n))
asks_search p a (Rng p1 l1 h1) n = refl
asks_search p a (LenRng a1 l1 h1) n = refl
asks_search p a (Low p1 c1) n = refl
asks_search p a (Same a1 b1) n = refl
asks_search p a (IsLen p1 a1) n = refl
asks_search p a (Less p1 q1 c1) n = refl
asks_search p a (Sum t1 y1 z1) n = refl
asks_search p a (Neg p1 a1) n = refl
asks_search p a (Upper p1 a1 o1 c1) n = refl

pub asks_negative : (p a : Path) → AsksOnly p (is_negative p a)
asks_negative p a (Neg q b) n = both_first (is_path q p) _ (off p q (not_first (is_path p q) _ n))
asks_negative p a (Rng p1 l1 h1) n = refl
asks_negative p a (LenRng a1 l1 h1) n = refl
asks_negative p a (Low p1 c1) n = refl
asks_negative p a (Same a1 b1) n = refl
asks_negative p a (IsLen p1 a1) n = refl
asks_negative p a (Less p1 q1 c1) n = refl
asks_negative p a (Sum t1 y1 z1) n = refl
asks_negative p a (Search p1 a1) n = refl
asks_negative p a (Upper p1 a1 o1 c1) n = refl

-- ---- questions to the facts on a path

has_filtered : (p : Path) (asks : Fact → Bool) → AsksOnly p asks → (facts : List Fact) → has asks facts ≡ has asks (filter (names (is_path p)) facts)
has_filtered p asks h [] = refl
has_filtered p asks h (fact ∷ facts) =
    by_test (names (is_path p) fact)
    (λ t. rw t (ap (λ b. asks fact || b) (has_filtered p asks h facts)))
    (λ t. rw t (ap (λ b. b || has asks facts) (h fact t) ∙ has_filtered p asks h facts))

pub has_on : (p : Path) (asks : Fact → Bool) (part all : List Fact) → AsksOnly p asks → HasNamed p part all → has asks part ≡ has asks all
has_on p asks part all h n = has_filtered p asks h part ∙ (ap (has asks) n ∙ sym (has_filtered p asks h all))

same_filtered : (a b : Path) (facts : List Fact) → stored_same facts a b ≡ stored_same (filter (names (is_path a)) facts) a b
same_filtered a b [] = refl
same_filtered a b (fact ∷ facts) =
    by_test (names (is_path a) fact)
    (λ t. rw t (ap (λ c. says_same a b fact || c) (same_filtered a b facts)))
    (λ t. rw t (ap (λ c. c || stored_same facts a b) (asks_same a b fact t) ∙ same_filtered a b facts))

pub same_on_path : (a b : Path) (part all : List Fact) → HasNamed a part all → stored_same part a b ≡ stored_same all a b
same_on_path a b part all n = same_filtered a b part ∙ (ap (λ l. stored_same l a b) n ∙ sym (same_filtered a b all))
