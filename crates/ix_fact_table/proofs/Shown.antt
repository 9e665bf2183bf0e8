-- What the list that closing makes of facts shows of each fact that follows from them.
use Rattle.std.specs.Prelude.{◌≡◌, ◌⊎◌, ℤ, pos, negsuc, ◌≤ℤ◌, int_le, List, refl}
use Rattle.std.specs.Int.{int_min}
use Rattle.std.proofs.Common.{arith, inl, inr, ap, sym, ◌∙◌, subst, ⊎_elim}
use Rattle.std.proofs.lemmas.Int.{ints, clamps}
use Rattle.ix_core.specs.declared.fact.Path.{Path}
use Rattle.ix_core.specs.declared.fact.PathOff.TheVariants.{Plus}
use Rattle.ix_core.specs.declared.fact.Fact.{Fact}
use Rattle.ix_core.specs.declared.fact.Fact.TheVariants.{Rng, LenRng, Low, Same, IsLen, Less, Sum, Search, Neg, Upper}
use Rattle.ix_facts.specs.declared.kind.Kind.TheVariants as kind
use Rattle.ix_facts.specs.Bounds.{range_high}
use Rattle.ix_facts.specs.Facts.{IsIn, Covers, rng, len_rng, low, same, is_len, less, sum, search, neg, upper}
use Rattle.ix_facts.specs.Closure.{Follows}
use Rattle.ix_facts.specs.Closure as closure
use Rattle.ix_facts.specs.Exact.{each}
use Rattle.ix_facts.specs.Kinds.{of_kind}
use Rattle.ix_facts.specs.Named.{IsAmongPaths}
use Rattle.ix_facts.specs.Systems.{Merges, IsTable}
use Rattle.ix_facts.specs.Systems as merges
use Rattle.ix_facts.proofs.FactLists.{in_left, in_right}
use Rattle.ix_facts.proofs.SaidLaws.{in_each}
use Rattle.ix_fact_table.proofs.OneKind.{from_kind}
use Rattle.ix_fact_table.specs.Classes.{Roots, root_of, AreClasses}
use Rattle.ix_fact_table.specs.Saturated.{AreListed, of_class, pairs, along, search_of, negative_of, class_of, alike, searched, saturated}
use Rattle.ix_fact_table.proofs.Members.{in_class, in_kind, in_path, so_in, merges_more}
use Rattle.ix_fact_table.proofs.RangesMet.{IsBelowZero, range_stored, low_stored}

module _ (facts : List Fact) (roots : Roots) (listed : List Path) (ranges : List Fact) (classes : AreClasses facts roots) (lists : AreListed facts listed) (table : IsTable (of_kind kind.Range facts) ranges) where
  -- b is a, or a listed array of its class
  abbrev IsNear : Path → Path → Type 0
  IsNear a b = (a ≡ b) ⊎ ((root_of roots a ≡ root_of roots b) × IsAmongPaths b listed)

  abbrev more : List Fact
  more = saturated facts roots listed ranges

  -- of one of these facts on an array that is near
  abbrev IsNearLength : Path → Path → Type 0
  IsNearLength p a = (b : Path) × IsIn (IsLen p b) facts × IsNear b a

  abbrev IsNearNegative : Path → Path → Type 0
  IsNearNegative p a = (b : Path) × IsIn (Neg p b) facts × IsNear b a

  abbrev IsNearSearch : Path → Path → Type 0
  IsNearSearch p a = ((b : Path) × IsIn (Search p b) facts × IsNear b a) ⊎ IsNearNegative p a

  abbrev Shown : Fact → Type 0
  Shown (Rng p l h) = Merges (of_kind kind.Range facts) (Rng p l h)
  Shown (LenRng a l h) = (b : Path) → IsNear a b → Merges more (LenRng b l h)
  Shown (Low p c) = Merges more (Low p c)
  Shown (Same a b) = (root_of roots a ≡ root_of roots b) × IsAmongPaths a listed × IsAmongPaths b listed
  Shown (IsLen p a) = IsNearLength p a
  Shown (Less p q c) = Merges more (Less p q c)
  Shown (Sum t y z) = Merges more (Sum t y z)
  Shown (Search p a) = IsNearSearch p a
  Shown (Neg p a) = IsNearNegative p a ⊎ (IsNearSearch p a × IsBelowZero facts p)
  Shown (Upper p a o c) = Merges more (Upper p a o c)

  -- ---- members of the list

  in_facts : (f : Fact) → IsIn f facts → IsIn f more
  in_facts f i = in_left f (searched facts roots listed) _ (in_left f (alike facts roots listed) _ (in_left f facts _ i))

  in_pairs : (f : Fact) → IsIn f (pairs roots listed) → IsIn f more
  in_pairs f i = in_left f (searched facts roots listed) _ (in_left f (alike facts roots listed) _ (in_right f facts _ (in_left f (pairs roots listed) _ i)))

  in_alike : (f g : Fact) → IsIn g facts → IsIn f (along roots listed g) → IsIn f (alike facts roots listed)
  in_alike f g i j = in_right f facts _ (in_right f (pairs roots listed) _ (in_each (along roots listed) f g facts i j))

  alike_more : (f : Fact) → IsIn f (alike facts roots listed) → IsIn f more
  alike_more f i = in_left f (searched facts roots listed) _ (in_left f (alike facts roots listed) _ i)

  in_searches : (f g : Fact) → IsIn g (alike facts roots listed) → IsIn f (search_of g) → IsIn f (searched facts roots listed)
  in_searches f g i j = in_right f (alike facts roots listed) _ (in_each search_of f g (alike facts roots listed) i j)

  in_negatives : (f g : Fact) → IsIn g (searched facts roots listed) → IsIn f (negative_of ranges g) → IsIn f more
  in_negatives f g i j = in_right f (searched facts roots listed) _ (in_left f (each (negative_of ranges) (searched facts roots listed)) _ (in_each (negative_of ranges) f g (searched facts roots listed) i j))

  in_classes : (f g : Fact) → IsIn g ranges → IsIn f (class_of g) → IsIn f more
  in_classes f g i j = in_right f (searched facts roots listed) _ (in_right f (each (negative_of ranges) (searched facts roots listed)) _ (in_each class_of f g ranges i j))

  -- a fact of an array that is near one of which it is known
  near_alike : (make : Path → Fact) (a b : Path) → along roots listed (make a) ≡ of_class roots listed make a → IsIn (make a) facts → IsNear a b → IsIn (make b) (alike facts roots listed)
  near_alike make a b e i near =
      ⊎_elim
      (λ s. in_left (make b) facts _ (subst (λ x. IsIn (make x) facts) s i))
      (λ n. in_alike (make b) (make a) i (subst (λ l. IsIn (make b) l) (sym e) (in_class roots listed make a b n.0 n.1)))
      near

  -- ---- searches

  search_told : (p a : Path) → IsNearSearch p a → IsIn (Search p a) (searched facts roots listed)
  search_told p a near =
      ⊎_elim
      (λ x. in_left (Search p a) (alike facts roots listed) _ (near_alike (Search p) x.0 a refl x.1 x.2))
      (λ x. in_searches (Search p a) (Neg p a) (near_alike (Neg p) x.0 a refl x.1 x.2) (inl refl))
      near

  neg_more : (p a : Path) → IsNearNegative p a ⊎ (IsNearSearch p a × IsBelowZero facts p) → IsIn (Neg p a) more
  neg_more p a s =
      ⊎_elim
      (λ x. alike_more (Neg p a) (near_alike (Neg p) x.0 a refl x.1 x.2))
      (λ x. in_negatives (Neg p a) (Search p a) (search_told p a x.0) (so_in (int_le (range_high ranges p) (negsuc 0)) (Neg p a) (low_stored facts ranges table p x.1)))
      s

  searched_more : (f : Fact) → IsIn f (searched facts roots listed) → IsIn f more
  searched_more f i = in_left f (searched facts roots listed) _ i

  ranges_more : (f : Fact) → IsIn f (of_kind kind.Range facts) → IsIn f more
  ranges_more f i = in_facts f (from_kind kind.Range f facts i)

  -- what is merged of the ranges is merged of all
  range_more : (p : Path) (l h : ℤ) → Merges (of_kind kind.Range facts) (Rng p l h) → Merges more (Rng p l h)
  range_more p l h m = merges_more (of_kind kind.Range facts) more ranges_more (Rng p l h) m

  -- ---- what is shown is merged

  pub merged : (f : Fact) → Shown f → Merges more f
  merged (Rng p l h) s = range_more p l h s
  merged (LenRng a l h) s = s a (inl refl)
  merged (Low p c) s = s
  merged (Same a b) s = merges.given (Same a b) (in_pairs (Same a b) (in_path (λ x. of_class roots listed (Same x) x) (Same a b) listed a s.1 (in_class roots listed (Same a) a b s.0 s.2)))
  merged (IsLen p a) s = merges.given (IsLen p a) (alike_more (IsLen p a) (near_alike (IsLen p) s.0 a refl s.1 s.2))
  merged (Less p q c) s = s
  merged (Sum t y z) s = s
  merged (Search p a) s = merges.given (Search p a) (searched_more (Search p a) (search_told p a s))
  merged (Neg p a) s = merges.given (Neg p a) (neg_more p a s)
  merged (Upper p a o c) s = s

  -- ---- near, and nearer

  near_same : (a b c : Path) → (root_of roots a ≡ root_of roots b) × IsAmongPaths a listed × IsAmongPaths b listed → IsNear b c → IsNear a c
  near_same a b c s near = ⊎_elim (λ e. inr (s.0 ∙ ap (root_of roots) e, subst (λ x. IsAmongPaths x listed) e s.2)) (λ n. inr (s.0 ∙ n.0, n.1)) near

  near_on : (x a b : Path) → IsNear x a → (root_of roots a ≡ root_of roots b) × IsAmongPaths a listed × IsAmongPaths b listed → IsNear x b
  near_on x a b near s = ⊎_elim (λ e. inr (ap (root_of roots) e ∙ s.0, s.2)) (λ n. inr (n.0 ∙ s.0, s.2)) near

  -- two arrays that are near arrays of which one int is the length
  both_near : (p a b : Path) → IsNearLength p a → IsNearLength p b → (root_of roots a ≡ root_of roots b) × IsAmongPaths a listed × IsAmongPaths b listed
  both_near p a b x y = (sym (root_near x.0 a x.2) ∙ (classes.lengths p x.0 y.0 x.1 y.1 ∙ root_near y.0 b y.2), among_near x.0 a x.2 (lists.length p x.0 x.1), among_near y.0 b y.2 (lists.length p y.0 y.1))
    where
      root_near : (c d : Path) → IsNear c d → root_of roots c ≡ root_of roots d
      root_near c d near = ⊎_elim (λ e. ap (root_of roots) e) (λ n. n.0) near

      among_near : (c d : Path) → IsNear c d → IsAmongPaths c listed → IsAmongPaths d listed
      among_near c d near i = ⊎_elim (λ e. subst (λ x. IsAmongPaths x listed) e i) (λ n. n.1) near

  -- ---- what follows is shown

  class_shown : (p : Path) (l h c : ℤ) → Merges (of_kind kind.Range facts) (Rng p l h) → negsuc 0 ≤ℤ l → c ≤ℤ l → c ≤ℤ pos 1 → Merges more (Low p c)
  class_shown p l h c m from at one =
      ⊎_elim
      (λ d. absurd (omega (arith, ints, d.0, from)))
      (λ y.
      let above : negsuc 0 ≤ℤ y.0 = omega (arith, ints, y.3, from) in
      merges.weaker (Low p (int_min y.0 (pos 1))) (Low p c) (low p (int_min y.0 (pos 1)) c (omega (arith, ints, clamps, y.3, at, one)))
      (merges.given (Low p (int_min y.0 (pos 1))) (in_classes (Low p (int_min y.0 (pos 1))) (Rng p y.0 y.1) y.2 (so_in (int_le (negsuc 0) y.0) (Low p (int_min y.0 (pos 1))) (grind (arith, ints, above))))))
      (range_stored facts ranges table p l h m)

  weaker_shown : (g f : Fact) → Covers g f → Shown g → Shown f
  weaker_shown _ _ (rng p l h m k x y) s = merges.weaker (Rng p l h) (Rng p m k) (rng p l h m k x y) s
  weaker_shown _ _ (len_rng a l h m k x y) s = λ b near. merges.weaker (LenRng b l h) (LenRng b m k) (len_rng b l h m k x y) (s b near)
  weaker_shown _ _ (low p c d x) s = merges.weaker (Low p c) (Low p d) (low p c d x) s
  weaker_shown _ _ (same a b) s = s
  weaker_shown _ _ (is_len p a) s = s
  weaker_shown _ _ (less p q c d x) s = merges.weaker (Less p q c) (Less p q d) (less p q c d x) s
  weaker_shown _ _ (sum t y z) s = s
  weaker_shown _ _ (search p a) s = s
  weaker_shown _ _ (neg p a) s = s
  weaker_shown _ _ (upper p a o c d x) s = merges.weaker (Upper p a o c) (Upper p a o d) (upper p a o c d x) s

  given_shown : (f : Fact) → IsIn f facts → Shown f
  given_shown (Rng p l h) i = merges.given (Rng p l h) (in_kind kind.Range (Rng p l h) facts i refl)
  given_shown (LenRng a l h) i = λ b near. merges.given (LenRng b l h) (alike_more (LenRng b l h) (near_alike (λ x. LenRng x l h) a b refl i near))
  given_shown (Low p c) i = merges.given (Low p c) (in_facts (Low p c) i)
  given_shown (Same a b) i = (classes.same a b i, lists.left a b i, lists.right a b i)
  given_shown (IsLen p a) i = (a, i, inl refl)
  given_shown (Less p q c) i = merges.given (Less p q c) (in_facts (Less p q c) i)
  given_shown (Sum t y z) i = merges.given (Sum t y z) (in_facts (Sum t y z) i)
  given_shown (Search p a) i = inl (a, i, inl refl)
  given_shown (Neg p a) i = inl (a, i, inl refl)
  given_shown (Upper p a o c) i = merges.given (Upper p a o c) (in_facts (Upper p a o c) i)

  neg_shown : (p a b : Path) → (root_of roots a ≡ root_of roots b) × IsAmongPaths a listed × IsAmongPaths b listed → IsNearNegative p a → IsNearNegative p b
  neg_shown p a b s x = (x.0, x.1, near_on x.0 a b x.2 s)

  search_shown : (p a b : Path) → (root_of roots a ≡ root_of roots b) × IsAmongPaths a listed × IsAmongPaths b listed → IsNearSearch p a → IsNearSearch p b
  search_shown p a b s x = ⊎_elim (λ y. inl (y.0, y.1, near_on y.0 a b y.2 s)) (λ y. inr (neg_shown p a b s y)) x

  pub shows : (f : Fact) → Follows facts f → Shown f
  shows f (closure.given _ i) = given_shown f i
  shows f (closure.weaker g _ c r) = weaker_shown g f c (shows g r)
  shows _ (closure.any_int p) = merges.any_int p
  shows _ (closure.any_size a) = λ b near. merges.any_size b
  shows _ (closure.met p l h m k r s) = merges.met p l h m k (shows (Rng p l h) r) (shows (Rng p m k) s)
  shows _ (closure.len_met a l h m k r s) = λ b near. merges.len_met b l h m k (shows (LenRng a l h) r b near) (shows (LenRng a m k) s b near)
  shows _ (closure.class p l h r from one) = class_shown p l h l (shows (Rng p l h) r) from (omega (arith, ints)) one
  shows _ (closure.class_one p l h r from) = class_shown p l h (pos 1) (shows (Rng p l h) r) (omega (arith, ints, from)) from (omega (arith, ints))
  shows _ (closure.turned a b r) = let s = shows (Same a b) r in (sym s.0, s.2, s.1)
  shows _ (closure.joined a b c r s) = let x = shows (Same a b) r in let y = shows (Same b c) s in (x.0 ∙ y.0, x.1, y.2)
  shows _ (closure.both_len p a b r s) = both_near p a b (shows (IsLen p a) r) (shows (IsLen p b) s)
  shows _ (closure.len_along a b l h r s) = λ c near. shows (LenRng a l h) s c (near_same a b c (shows (Same a b) r) near)
  shows _ (closure.is_len_along p a b r s) = let x = shows (IsLen p a) s in (x.0, x.1, near_on x.0 a b x.2 (shows (Same a b) r))
  shows _ (closure.search_along p a b r s) = search_shown p a b (shows (Same a b) r) (shows (Search p a) s)
  shows _ (closure.neg_along p a b r s) =
      let same = shows (Same a b) r in
      ⊎_elim (λ x. inl (neg_shown p a b same x)) (λ x. inr (search_shown p a b same x.0, x.1)) (shows (Neg p a) s)
  shows _ (closure.neg_search p a r) = ⊎_elim (λ x. inr x) (λ x. x.0) (shows (Neg p a) r)
  shows _ (closure.search_neg p a l h r s below) = inr (shows (Search p a) r, (l, h, shows (Rng p l h) s, below))
  shows _ (closure.sum_turned t y z r) = merges.sum_turned t y z (shows (Sum t y z) r)
  shows _ (closure.upper_turned p a q c r) = merges.upper_turned p a q c (shows (Upper p a (Plus q) c) r)
