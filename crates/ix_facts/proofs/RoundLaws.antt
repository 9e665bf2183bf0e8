-- Rounded facts are weaker than the facts, and of stronger facts stronger.
use Rattle.std.specs.Prelude.{ℕ, ℤ, ◌≤ℤ◌, int_le, List, [], ◌∷◌, Option, Some, None}
use Rattle.std.specs.Int.{int_min, int_max}
use Rattle.std.proofs.Common.{arith}
use Rattle.std.proofs.lemmas.Int.{ints}
use Rattle.ix_core.specs.declared.fact.Fact.{Fact}
use Rattle.ix_core.specs.declared.fact.Fact.TheVariants.{Rng, LenRng, Low, Same, IsLen, Less, Sum, Search, Neg, Upper}
use Rattle.ix_facts.specs.Facts.{Covers, Stronger, rng, len_rng, low, same, is_len, less, sum, search, neg, upper}
use Rattle.ix_facts.specs.Bounds.{when}
use Rattle.ix_facts.specs.Exact.{each, if_some}
use Rattle.ix_facts.specs.Forget.{without}
use Rattle.ix_facts.specs.Round.{mark_below, mark_above, if_both, rounded_fact, is_beyond, rounded}
use Rattle.ix_facts.proofs.Gives.{Gives, max_chooses, min_chooses, gives_when, gives_best}
use Rattle.ix_facts.proofs.FactLists.{stronger_one, stronger_none, stronger_itself, stronger_stronger, stronger_app}
use Rattle.ix_facts.proofs.Frame.{in_without, without_stronger}
use Rattle.ix_facts.proofs.RuleForms.{stronger_some, stronger_each}
use Rattle.ix_facts.proofs.RulesMonotone.{still_at_most, still_at_least}
use Rattle.ix_facts.proofs.Tests.{at_most_true}
use Rattle.ix_facts.proofs.Worse.{Up, Down, up_laws, down_laws, Worse, worse_when, worse_best}

below_gives : (marks : List ℤ) (n : ℤ) → Gives (mark_below marks n) (λ m. m ≤ℤ n)
below_gives [] n = tt
below_gives (mark ∷ marks) n = gives_best (λ m. m ≤ℤ n) int_max max_chooses (when (int_le mark n) (Some mark)) (mark_below marks n) (gives_when (λ m. m ≤ℤ n) (Some mark) (int_le mark n) (λ t. at_most_true mark n t)) (below_gives marks n)

above_gives : (marks : List ℤ) (n : ℤ) → Gives (mark_above marks n) (λ m. n ≤ℤ m)
above_gives [] n = tt
above_gives (mark ∷ marks) n = gives_best (λ m. n ≤ℤ m) int_min min_chooses (when (int_le n mark) (Some mark)) (mark_above marks n) (gives_when (λ m. n ≤ℤ m) (Some mark) (int_le n mark) (λ t. at_most_true n mark t)) (above_gives marks n)

pub below_mono : (marks : List ℤ) (m n : ℤ) → m ≤ℤ n → Worse Up (mark_below marks m) (mark_below marks n)
below_mono [] m n h = tt
below_mono (mark ∷ marks) m n h =
    worse_best Up int_max up_laws (when (int_le mark m) (Some mark)) (mark_below marks m) (when (int_le mark n) (Some mark)) (mark_below marks n)
    (worse_when Up (Some mark) (Some mark) (int_le mark m) (int_le mark n) (still_at_least m n mark h) (λ t. omega (arith, ints))) (below_mono marks m n h)

pub above_mono : (marks : List ℤ) (m n : ℤ) → m ≤ℤ n → Worse Down (mark_above marks n) (mark_above marks m)
above_mono [] m n h = tt
above_mono (mark ∷ marks) m n h =
    worse_best Down int_min down_laws (when (int_le n mark) (Some mark)) (mark_above marks n) (when (int_le m mark) (Some mark)) (mark_above marks m)
    (worse_when Down (Some mark) (Some mark) (int_le n mark) (int_le m mark) (still_at_most n m mark h) (λ t. omega (arith, ints))) (above_mono marks m n h)

-- ---- rounded facts are weaker

both_weaker : (make : ℤ → ℤ → Fact) (l h : ℤ) (a b : Option ℤ) → ((m k : ℤ) → m ≤ℤ l → h ≤ℤ k → Covers (make l h) (make m k)) → Gives a (λ m. m ≤ℤ l) → Gives b (λ k. h ≤ℤ k) → Stronger (make l h ∷ []) (if_both make a b)
both_weaker make l h None b k x y = stronger_none (make l h ∷ [])
both_weaker make l h (Some m) None k x y = stronger_none (make l h ∷ [])
both_weaker make l h (Some m) (Some n) k x y = stronger_one (make l h) (make m n) (k m n x y)

some_weaker : (P : ℤ → Type 0) (make : ℤ → Fact) (c : ℤ) (a : Option ℤ) → ((d : ℤ) → P d → Covers (make c) (make d)) → Gives a P → Stronger (make c ∷ []) (if_some make a)
some_weaker P make c None k x = stronger_none (make c ∷ [])
some_weaker P make c (Some d) k x = stronger_one (make c) (make d) (k d x)

pub fact_weaker : (marks : List ℤ) (f : Fact) → Stronger (f ∷ []) (rounded_fact marks f)
fact_weaker marks (Rng p l h) = both_weaker (Rng p) l h (mark_below marks l) (mark_above marks h) (λ m k x y. rng p l h m k x y) (below_gives marks l) (above_gives marks h)
fact_weaker marks (LenRng p l h) = both_weaker (LenRng p) l h (mark_below marks l) (mark_above marks h) (λ m k x y. len_rng p l h m k x y) (below_gives marks l) (above_gives marks h)
fact_weaker marks (Less p q c) = some_weaker (λ d. c ≤ℤ d) (Less p q) c (mark_above marks c) (λ d x. less p q c d x) (above_gives marks c)
fact_weaker marks (Upper p a o c) = some_weaker (λ d. d ≤ℤ c) (Upper p a o) c (mark_below marks c) (λ d x. upper p a o c d x) (below_gives marks c)
fact_weaker marks (Low p c) = stronger_itself (Low p c ∷ [])
fact_weaker marks (Same a b) = stronger_itself (Same a b ∷ [])
fact_weaker marks (IsLen p a) = stronger_itself (IsLen p a ∷ [])
fact_weaker marks (Sum t y z) = stronger_itself (Sum t y z ∷ [])
fact_weaker marks (Search p a) = stronger_itself (Search p a ∷ [])
fact_weaker marks (Neg p a) = stronger_itself (Neg p a ∷ [])

pub each_weaker : (marks : List ℤ) (facts : List Fact) → Stronger facts (each (rounded_fact marks) facts)
each_weaker marks [] = stronger_none []
each_weaker marks (f ∷ facts) = stronger_app (f ∷ []) facts (rounded_fact marks f) (each (rounded_fact marks) facts) (fact_weaker marks f) (each_weaker marks facts)

pub rounded_weaker : (marks : List ℤ) (scope : ℕ) (facts : List Fact) → Stronger facts (rounded marks scope facts)
rounded_weaker marks scope facts =
    let fewer : Stronger facts (without (is_beyond scope) facts) = record { met = λ f i. (f, (in_without (is_beyond scope) f facts i).0, Rattle.ix_facts.proofs.FactLists.covers_itself f) } in
    stronger_stronger facts (without (is_beyond scope) facts) (rounded marks scope facts) fewer (each_weaker marks (without (is_beyond scope) facts))

-- ---- monotone

both_mono : (make : ℤ → ℤ → Fact) (a b c d : Option ℤ) → ((l h m k : ℤ) → m ≤ℤ l → h ≤ℤ k → Covers (make l h) (make m k)) → Worse Up a c → Worse Down b d → Stronger (if_both make c d) (if_both make a b)
both_mono make None b c d k x y = stronger_none (if_both make c d)
both_mono make (Some m) None c d k x y = stronger_none (if_both make c d)
both_mono make (Some m) (Some n) None d k x y = absurd x
both_mono make (Some m) (Some n) (Some l) None k x y = absurd y
both_mono make (Some m) (Some n) (Some l) (Some h) k x y = stronger_one (make l h) (make m n) (k l h m n x y)

pub fact_mono : (marks : List ℤ) (g f : Fact) → Covers g f → Stronger (rounded_fact marks g) (rounded_fact marks f)
fact_mono marks _ _ (rng p l h m k x y) = both_mono (Rng p) (mark_below marks m) (mark_above marks k) (mark_below marks l) (mark_above marks h) (λ a b c d u w. rng p a b c d u w) (below_mono marks m l x) (above_mono marks h k y)
fact_mono marks _ _ (len_rng p l h m k x y) = both_mono (LenRng p) (mark_below marks m) (mark_above marks k) (mark_below marks l) (mark_above marks h) (λ a b c d u w. len_rng p a b c d u w) (below_mono marks m l x) (above_mono marks h k y)
fact_mono marks _ _ (less p q c d x) = stronger_some Down (Less p q) (mark_above marks d) (mark_above marks c) (λ i j h. less p q j i h) (above_mono marks c d x)
fact_mono marks _ _ (upper p a o c d x) = stronger_some Up (Upper p a o) (mark_below marks d) (mark_below marks c) (λ i j h. upper p a o j i h) (below_mono marks d c x)
fact_mono marks _ _ (low p c d x) = stronger_one _ _ (low p c d x)
fact_mono marks _ _ (same a b) = stronger_itself (Same a b ∷ [])
fact_mono marks _ _ (is_len p a) = stronger_itself (IsLen p a ∷ [])
fact_mono marks _ _ (sum t y z) = stronger_itself (Sum t y z ∷ [])
fact_mono marks _ _ (search p a) = stronger_itself (Search p a ∷ [])
fact_mono marks _ _ (neg p a) = stronger_itself (Neg p a ∷ [])

pub each_mono : (marks : List ℤ) (strong weak : List Fact) → Stronger strong weak → Stronger (each (rounded_fact marks) strong) (each (rounded_fact marks) weak)
each_mono marks strong weak s = stronger_each (rounded_fact marks) (rounded_fact marks) (fact_mono marks) strong weak s

pub rounded_mono : (marks : List ℤ) (scope : ℕ) (strong weak : List Fact) → Stronger strong weak → Stronger (rounded marks scope strong) (rounded marks scope weak)
rounded_mono marks scope strong weak s = each_mono marks (without (is_beyond scope) strong) (without (is_beyond scope) weak) (without_stronger (is_beyond scope) strong weak s)
