-- What a claim adds holds where it is true; a claim that facts prove is true where they hold, and stronger facts prove it too.
use Rattle.std.specs.Prelude.{◌≡◌, Bool, true, not, ◌&&◌, ◌||◌, ℤ, pos, negsuc, ◌-ℤ◌, ◌≤ℤ◌, int_le, List, [], ◌∷◌, Option, Some, None, refl}
use Rattle.std.proofs.Common.{arith, sym, ap, ◌∙◌, inl, inr, ⊎_elim}
use Rattle.std.proofs.lemmas.Bool.{and_parts, and_from, false≢true}
use Rattle.std.proofs.lemmas.Int.{ints}
use Rattle.ix_core.specs.declared.fact.Path.{Path}
use Rattle.ix_core.specs.declared.fact.PathOff.{PathOff}
use Rattle.ix_core.specs.declared.fact.PathOff.TheVariants.{Nothing}
use Rattle.ix_core.specs.declared.fact.PathClaim.{PathClaim}
use Rattle.ix_core.specs.declared.fact.PathClaim.TheVariants as claim
use Rattle.ix_core.specs.declared.fact.Fact.{Fact}
use Rattle.ix_core.specs.declared.fact.Fact.TheVariants.{Low, Less, Search, Neg, Upper}
use Rattle.ix_core.specs.Numbers.{Numbers}
use Rattle.ix_core.proofs.Cases.{by_test}
use Rattle.ix_facts.specs.Facts.{Holds, AllHold, IsIn, Covers, Stronger, rng, len_rng, low, same, is_len, less, sum, search, neg, upper}
use Rattle.ix_facts.specs.Bounds
use Rattle.ix_facts.specs.Bounds.{is_path}
use Rattle.ix_facts.specs.AfterOperation.{reaches}
use Rattle.ix_facts.specs.Assume.{ClaimHolds, claim_facts, is_search, is_negative, has, from_minus_length, proves}
use Rattle.ix_facts.proofs.BoundsHold.{int_same, size_same, UpperIs, stored_same_holds, lower_holds, limit_holds, length_low_holds, upper_holds, less_holds}
use Rattle.ix_facts.proofs.BoundsMonotone.{stored_same_mono, lower_mono, limit_mono, length_low_mono, upper_mono, less_mono}
use Rattle.ix_facts.proofs.Gives.{Gives}
use Rattle.ix_facts.proofs.RuleForms.{if_so_holds}
use Rattle.ix_facts.proofs.RulesMonotone.{still_at_most, still_at_least}
use Rattle.ix_facts.proofs.Tests.{or_else, or_first, or_second, at_most_true}
use Rattle.ix_facts.proofs.Worse.{Up, Worse}

pub claim_facts_hold : (v : Numbers) (c : PathClaim) (p : Path) → ClaimHolds c p v → AllHold (claim_facts c p) v
claim_facts_hold v (claim.Range from to) p h = (h, tt)
claim_facts_hold v (claim.Low from) p h = let u = v.int_to p in ((h, u), if_so_holds v (int_le (negsuc 0) from && int_le from (pos 1)) (Low p from ∷ []) (λ x. (h, tt)))
claim_facts_hold v (claim.Length least) p h = let u = v.size_to p in ((h, u), tt)
claim_facts_hold v (claim.Same other) p h = (h, tt)
claim_facts_hold v (claim.Less q c) p h = if_so_holds v (not (is_path p q)) (Less p q c ∷ []) (λ x. (h, tt))
claim_facts_hold v (claim.Upper a o c) p h = (h, tt)
claim_facts_hold v (claim.Search a) p h = (h, (omega (arith, ints, h.1), tt))
claim_facts_hold v (claim.Negative a) p h = let l = v.int_from p in (h, ((l, h.1), tt))

module _ (v : Numbers) (facts : List Fact) (h : AllHold facts v) where
  reached : (p a : Path) (o : PathOff) (n : ℤ) (c : Option ℤ) → Gives c (UpperIs v p a o) → reaches facts c n ≡ true → Holds (Upper p a o n) v
  reached p a o n None g t = absurd (false≢true t)
  reached p a o n (Some c) g t = let k = at_most_true n c t in omega (arith, ints)

  search_here : (p a : Path) (f : Fact) → Holds f v → is_search p a f ≡ true → Holds (Search p a) v
  search_here p a (Search q b) g t = let both = and_parts (is_path q p) (is_path b a) t in let e = int_same v q p both.0 in let k = size_same v b a both.1 in (omega (arith, ints), omega (arith, ints))
  search_here p a _ g t = absurd (false≢true t)

  negative_here : (p a : Path) (f : Fact) → Holds f v → is_negative p a f ≡ true → Holds (Neg p a) v
  negative_here p a (Neg q b) g t = let both = and_parts (is_path q p) (is_path b a) t in let e = int_same v q p both.0 in let k = size_same v b a both.1 in (omega (arith, ints), omega (arith, ints))
  negative_here p a _ g t = absurd (false≢true t)

  has_holds : (test : Fact → Bool) (T : Type 0) → ((f : Fact) → Holds f v → test f ≡ true → T) → (known : List Fact) → AllHold known v → has test known ≡ true → T
  has_holds test T one [] k t = absurd (false≢true t)
  has_holds test T one (f ∷ known) k t = by_test (test f) (λ x. one f k.0 x) (λ x. has_holds test T one known k.1 (or_else (test f) (has test known) t x))

  from_low : (p a : Path) → from_minus_length facts p a ≡ true → (negsuc 0 -ℤ v.size a) ≤ℤ v.int p
  from_low p a t =
      let k = at_most_true (negsuc 0 -ℤ Bounds.length_low facts a) (Bounds.lower_bound facts p) t in
      let l = length_low_holds v facts h a in
      let m = lower_holds v facts h p in
      omega (arith, ints)

  -- a claim that facts prove is true where they hold
  pub proved_holds : (c : PathClaim) (p : Path) → proves facts c p ≡ true → ClaimHolds c p v
  proved_holds (claim.Range from to) p t =
      let both = and_parts (int_le from (Bounds.lower_bound facts p)) (int_le (Bounds.upper_limit facts p) to) t in
      let a = at_most_true from (Bounds.lower_bound facts p) both.0 in
      let b = at_most_true (Bounds.upper_limit facts p) to both.1 in
      let l = lower_holds v facts h p in
      let k = limit_holds v facts h p in
      (omega (arith, ints), omega (arith, ints))
  proved_holds (claim.Low from) p t = let a = at_most_true from (Bounds.lower_bound facts p) t in let l = lower_holds v facts h p in omega (arith, ints)
  proved_holds (claim.Length least) p t = let a = at_most_true least (Bounds.length_low facts p) t in let l = length_low_holds v facts h p in omega (arith, ints)
  proved_holds (claim.Same other) p t = stored_same_holds v facts h p other t
  proved_holds (claim.Less q c) p t = let a = at_most_true (Bounds.less_bound facts p q) c t in let l = less_holds v facts h p q in omega (arith, ints)
  proved_holds (claim.Upper a o c) p t = reached p a o c (Bounds.upper_bound facts p a o) (upper_holds v facts h p a o) t
  proved_holds (claim.Search a) p t =
      by_test (has (is_search p a) facts)
      (λ x. has_holds (is_search p a) (Holds (Search p a) v) (search_here p a) facts h x)
      (λ x.
      let y = or_else (has (is_search p a) facts) (reaches facts (Bounds.upper_bound facts p a Nothing) (pos 0) && from_minus_length facts p a) t x in
      let both = and_parts (reaches facts (Bounds.upper_bound facts p a Nothing) (pos 0)) (from_minus_length facts p a) y in
      let u = reached p a Nothing (pos 0) (Bounds.upper_bound facts p a Nothing) (upper_holds v facts h p a Nothing) both.0 in
      (from_low p a both.1, omega (arith, ints)))
  proved_holds (claim.Negative a) p t =
      by_test (has (is_negative p a) facts)
      (λ x. has_holds (is_negative p a) (Holds (Neg p a) v) (negative_here p a) facts h x)
      (λ x.
      let y = or_else (has (is_negative p a) facts) (int_le (Bounds.upper_limit facts p) (negsuc 0) && (has (is_search p a) facts || from_minus_length facts p a)) t x in
      let both = and_parts (int_le (Bounds.upper_limit facts p) (negsuc 0)) (has (is_search p a) facts || from_minus_length facts p a) y in
      let k = at_most_true (Bounds.upper_limit facts p) (negsuc 0) both.0 in
      let l = limit_holds v facts h p in
      let low = by_test (has (is_search p a) facts) (λ z. (has_holds (is_search p a) (Holds (Search p a) v) (search_here p a) facts h z).0) (λ z. from_low p a (or_else (has (is_search p a) facts) (from_minus_length facts p a) both.1 z)) in
      (low, omega (arith, ints)))

-- ---- stronger facts prove no fewer claims

has_in : (test : Fact → Bool) (f : Fact) (facts : List Fact) → IsIn f facts → test f ≡ true → has test facts ≡ true
has_in test f [] i t = absurd i
has_in test f (g ∷ facts) i t =
    ⊎_elim (λ e. or_first (test g) (has test facts) (ap test (sym e) ∙ t)) (λ j. or_second (test g) (has test facts) (has_in test f facts j t)) i

search_covers : (p a : Path) (g f : Fact) → Covers g f → is_search p a f ≡ true → is_search p a g ≡ true
search_covers p a _ _ (search q b) t = t
search_covers p a _ _ (rng _ _ _ _ _ _ _) t = absurd (false≢true t)
search_covers p a _ _ (len_rng _ _ _ _ _ _ _) t = absurd (false≢true t)
search_covers p a _ _ (low _ _ _ _) t = absurd (false≢true t)
search_covers p a _ _ (same _ _) t = absurd (false≢true t)
search_covers p a _ _ (is_len _ _) t = absurd (false≢true t)
search_covers p a _ _ (less _ _ _ _ _) t = absurd (false≢true t)
search_covers p a _ _ (sum _ _ _) t = absurd (false≢true t)
search_covers p a _ _ (neg _ _) t = absurd (false≢true t)
search_covers p a _ _ (upper _ _ _ _ _ _) t = absurd (false≢true t)

negative_covers : (p a : Path) (g f : Fact) → Covers g f → is_negative p a f ≡ true → is_negative p a g ≡ true
negative_covers p a _ _ (neg q b) t = t
negative_covers p a _ _ (rng _ _ _ _ _ _ _) t = absurd (false≢true t)
negative_covers p a _ _ (len_rng _ _ _ _ _ _ _) t = absurd (false≢true t)
negative_covers p a _ _ (low _ _ _ _) t = absurd (false≢true t)
negative_covers p a _ _ (same _ _) t = absurd (false≢true t)
negative_covers p a _ _ (is_len _ _) t = absurd (false≢true t)
negative_covers p a _ _ (less _ _ _ _ _) t = absurd (false≢true t)
negative_covers p a _ _ (sum _ _ _) t = absurd (false≢true t)
negative_covers p a _ _ (search _ _) t = absurd (false≢true t)
negative_covers p a _ _ (upper _ _ _ _ _ _) t = absurd (false≢true t)

has_mono : (test : Fact → Bool) → ((g f : Fact) → Covers g f → test f ≡ true → test g ≡ true) → (strong weak : List Fact) → Stronger strong weak → has test weak ≡ true → has test strong ≡ true
has_mono test one strong [] s t = absurd (false≢true t)
has_mono test one strong (f ∷ weak) s t =
    by_test (test f)
    (λ x. let here = s.met f (inl refl) in has_in test here.0 strong here.1 (one here.0 f here.2 x))
    (λ x. has_mono test one strong weak (record { met = λ z i. s.met z (inr i) }) (or_else (test f) (has test weak) t x))

either_mono : (a b c d : Bool) → (a ≡ true → c ≡ true) → (b ≡ true → d ≡ true) → (a || b) ≡ true → (c || d) ≡ true
either_mono a b c d p q t = by_test a (λ x. or_first c d (p x)) (λ x. or_second c d (q (or_else a b t x)))

both_mono : (a b c d : Bool) → (a ≡ true → c ≡ true) → (b ≡ true → d ≡ true) → (a && b) ≡ true → (c && d) ≡ true
both_mono a b c d p q t = let both = and_parts a b t in and_from c d (p both.0) (q both.1)

module _ (strong weak : List Fact) (s : Stronger strong weak) where
  reach_mono : (a b : Option ℤ) (n : ℤ) → Worse Up a b → reaches weak a n ≡ true → reaches strong b n ≡ true
  reach_mono None b n w t = absurd (false≢true t)
  reach_mono (Some x) None n w t = absurd w
  reach_mono (Some x) (Some y) n w t = still_at_least x y n w t

  bound_mono : (p a : Path) (o : PathOff) (n : ℤ) → reaches weak (Bounds.upper_bound weak p a o) n ≡ true → reaches strong (Bounds.upper_bound strong p a o) n ≡ true
  bound_mono p a o n = reach_mono (Bounds.upper_bound weak p a o) (Bounds.upper_bound strong p a o) n (upper_mono strong weak s p a o)

  low_mono : (p a : Path) → from_minus_length weak p a ≡ true → from_minus_length strong p a ≡ true
  low_mono p a t =
      let k = at_most_true (negsuc 0 -ℤ Bounds.length_low weak a) (Bounds.lower_bound weak p) t in
      let l = length_low_mono strong weak s a in
      let m = lower_mono strong weak s p in
      Rattle.ix_facts.proofs.Tests.at_most_is (negsuc 0 -ℤ Bounds.length_low strong a) (Bounds.lower_bound strong p) (omega (arith, ints))

  searched : (p a : Path) → has (is_search p a) weak ≡ true → has (is_search p a) strong ≡ true
  searched p a = has_mono (is_search p a) (search_covers p a) strong weak s

  pub proves_mono : (c : PathClaim) (p : Path) → proves weak c p ≡ true → proves strong c p ≡ true
  proves_mono (claim.Range from to) p =
      both_mono (int_le from (Bounds.lower_bound weak p)) (int_le (Bounds.upper_limit weak p) to) (int_le from (Bounds.lower_bound strong p)) (int_le (Bounds.upper_limit strong p) to)
      (still_at_least (Bounds.lower_bound weak p) (Bounds.lower_bound strong p) from (lower_mono strong weak s p)) (still_at_most (Bounds.upper_limit weak p) (Bounds.upper_limit strong p) to (limit_mono strong weak s p))
  proves_mono (claim.Low from) p = still_at_least (Bounds.lower_bound weak p) (Bounds.lower_bound strong p) from (lower_mono strong weak s p)
  proves_mono (claim.Length least) p = still_at_least (Bounds.length_low weak p) (Bounds.length_low strong p) least (length_low_mono strong weak s p)
  proves_mono (claim.Same other) p = stored_same_mono strong weak s p other
  proves_mono (claim.Less q c) p = still_at_most (Bounds.less_bound weak p q) (Bounds.less_bound strong p q) c (less_mono strong weak s p q)
  proves_mono (claim.Upper a o c) p = bound_mono p a o c
  proves_mono (claim.Search a) p =
      either_mono (has (is_search p a) weak) (reaches weak (Bounds.upper_bound weak p a Nothing) (pos 0) && from_minus_length weak p a) (has (is_search p a) strong) (reaches strong (Bounds.upper_bound strong p a Nothing) (pos 0) && from_minus_length strong p a)
      (searched p a) (both_mono (reaches weak (Bounds.upper_bound weak p a Nothing) (pos 0)) (from_minus_length weak p a) (reaches strong (Bounds.upper_bound strong p a Nothing) (pos 0)) (from_minus_length strong p a) (bound_mono p a Nothing (pos 0)) (low_mono p a))
  proves_mono (claim.Negative a) p =
      either_mono (has (is_negative p a) weak) (int_le (Bounds.upper_limit weak p) (negsuc 0) && (has (is_search p a) weak || from_minus_length weak p a)) (has (is_negative p a) strong) (int_le (Bounds.upper_limit strong p) (negsuc 0) && (has (is_search p a) strong || from_minus_length strong p a))
      (has_mono (is_negative p a) (negative_covers p a) strong weak s)
      (both_mono (int_le (Bounds.upper_limit weak p) (negsuc 0)) (has (is_search p a) weak || from_minus_length weak p a) (int_le (Bounds.upper_limit strong p) (negsuc 0)) (has (is_search p a) strong || from_minus_length strong p a)
      (still_at_most (Bounds.upper_limit weak p) (Bounds.upper_limit strong p) (negsuc 0) (limit_mono strong weak s p))
      (either_mono (has (is_search p a) weak) (from_minus_length weak p a) (has (is_search p a) strong) (from_minus_length strong p a) (searched p a) (low_mono p a)))
