-- Stronger facts give no weaker bound.
use Rattle.std.specs.Prelude.{◌≡◌, Bool, true, ◌&&◌, ℤ, pos, negsuc, ◌+ℤ◌, ◌-ℤ◌, ◌≤ℤ◌, List, [], ◌∷◌, Some, refl}
use Rattle.std.specs.Option.{option_map}
use Rattle.std.specs.Int.{int_min, int_max}
use Rattle.std.proofs.Common.{arith, inl, inr, sym, ap, ◌∙◌, ⊎_elim}
use Rattle.std.proofs.lemmas.Bool.{and_parts, and_from, false≢true}
use Rattle.std.proofs.lemmas.Int.{ints}
use Rattle.ix_core.specs.declared.fact.Path.{Path}
use Rattle.ix_core.specs.declared.fact.PathOff.{PathOff}
use Rattle.ix_core.specs.declared.fact.PathOff.TheVariants.{Nothing, Plus, Minus}
use Rattle.ix_core.specs.declared.fact.Fact.{Fact}
use Rattle.ix_core.proofs.Cases.{by_test}
use Rattle.ix_facts.specs.Bounds
use Rattle.ix_facts.specs.Bounds.{is_path, is_offset, says_same, when, best, greatest, least}
use Rattle.ix_facts.specs.Facts.{IsIn, Covers, Stronger, rng, len_rng, low, same, is_len, less, sum, upper}
use Rattle.ix_facts.proofs.Tests.{or_else, or_first, or_second}
use Rattle.ix_facts.proofs.Worse.{Up, Down, up_laws, down_laws, Worse, worse_when, worse_map, worse_best, worse_best_of, at_least_up, at_most_down}

pub length_low_one : (a : Path) (g f : Fact) → Covers g f → Worse Up (Bounds.length_low_by a f) (Bounds.length_low_by a g)
length_low_one a _ _ (len_rng b l h m k x y) = worse_when Up (Some m) (Some l) (is_path b a) (is_path b a) (λ t. t) (λ t. x)
length_low_one a _ _ _ = tt

pub length_high_one : (a : Path) (g f : Fact) → Covers g f → Worse Down (Bounds.length_high_by a f) (Bounds.length_high_by a g)
length_high_one a _ _ (len_rng b l h m k x y) = worse_when Down (Some k) (Some h) (is_path b a) (is_path b a) (λ t. t) (λ t. y)
length_high_one a _ _ _ = tt

pub own_low_one : (p : Path) (g f : Fact) → Covers g f → Worse Up (Bounds.own_low_by p f) (Bounds.own_low_by p g)
own_low_one p _ _ (rng q l h m k x y) = worse_when Up (Some m) (Some l) (is_path q p) (is_path q p) (λ t. t) (λ t. x)
own_low_one p _ _ _ = tt

pub range_low_one : (p : Path) (g f : Fact) → Covers g f → Worse Up (Bounds.range_low_by p f) (Bounds.range_low_by p g)
range_low_one p _ _ (rng q l h m k x y) = worse_when Up (Some m) (Some l) (is_path q p) (is_path q p) (λ t. t) (λ t. x)
range_low_one p _ _ (low q k m x) = worse_when Up (Some m) (Some k) (is_path q p) (is_path q p) (λ t. t) (λ t. x)
range_low_one p _ _ _ = tt

pub range_high_one : (p : Path) (g f : Fact) → Covers g f → Worse Down (Bounds.range_high_by p f) (Bounds.range_high_by p g)
range_high_one p _ _ (rng q l h m k x y) = worse_when Down (Some k) (Some h) (is_path q p) (is_path q p) (λ t. t) (λ t. y)
range_high_one p _ _ _ = tt

same_one : (a b : Path) (g f : Fact) → Covers g f → says_same a b f ≡ true → says_same a b g ≡ true
same_one a b _ _ (same c d) h = h
same_one a b _ _ (rng _ _ _ _ _ _ _) h = absurd (false≢true h)
same_one a b _ _ (len_rng _ _ _ _ _ _ _) h = absurd (false≢true h)
same_one a b _ _ (low _ _ _ _) h = absurd (false≢true h)
same_one a b _ _ (less _ _ _ _ _) h = absurd (false≢true h)
same_one a b _ _ (upper _ _ _ _ _ _) h = absurd (false≢true h)
same_one a b _ _ _ h = h

same_in : (gs : List Fact) (a b : Path) (g : Fact) → IsIn g gs → says_same a b g ≡ true → Bounds.stored_same gs a b ≡ true
same_in [] a b g i h = absurd i
same_in (k ∷ gs) a b g i h =
    ⊎_elim
    (λ e. or_first (says_same a b k) (Bounds.stored_same gs a b) (ap (says_same a b) (sym e) ∙ h))
    (λ j. or_second (says_same a b k) (Bounds.stored_same gs a b) (same_in gs a b g j h))
    i

pub stored_same_mono : (strong weak : List Fact) → Stronger strong weak → (a b : Path) → Bounds.stored_same weak a b ≡ true → Bounds.stored_same strong a b ≡ true
stored_same_mono strong [] s a b h = absurd (false≢true h)
stored_same_mono strong (f ∷ weak) s a b h =
    by_test (says_same a b f)
    (λ t. let here = s.met f (inl refl) in same_in strong a b here.0 here.1 (same_one a b here.0 f here.2 t))
    (λ t. stored_same_mono strong weak (record { met = λ x i. s.met x (inr i) }) a b (or_else (says_same a b f) (Bounds.stored_same weak a b) h t))

module _ (strong weak : List Fact) (s : Stronger strong weak) where
  pub are_same_mono : (a b : Path) → Bounds.are_same weak a b ≡ true → Bounds.are_same strong a b ≡ true
  are_same_mono a b h =
      by_test (is_path a b)
      (λ t. or_first (is_path a b) (Bounds.stored_same strong a b) t)
      (λ t. or_second (is_path a b) (Bounds.stored_same strong a b) (stored_same_mono strong weak s a b (or_else (is_path a b) (Bounds.stored_same weak a b) h t)))

  pub length_low_mono : (a : Path) → Bounds.length_low weak a ≤ℤ Bounds.length_low strong a
  length_low_mono a = at_least_up _ _ _ _ (omega (arith, ints)) (worse_best_of Up int_max up_laws _ _ (length_low_one a) strong weak s)

  pub length_high_mono : (a : Path) → Bounds.length_high strong a ≤ℤ Bounds.length_high weak a
  length_high_mono a = at_most_down _ _ _ _ (omega (arith, ints)) (worse_best_of Down int_min down_laws _ _ (length_high_one a) strong weak s)

  pub own_low_mono : (p : Path) → Bounds.own_low weak p ≤ℤ Bounds.own_low strong p
  own_low_mono p = at_least_up _ _ _ _ (omega (arith, ints)) (worse_best_of Up int_max up_laws _ _ (own_low_one p) strong weak s)

  pub range_low_mono : (p : Path) → Bounds.range_low weak p ≤ℤ Bounds.range_low strong p
  range_low_mono p = at_least_up _ _ _ _ (omega (arith, ints)) (worse_best_of Up int_max up_laws _ _ (range_low_one p) strong weak s)

  pub range_high_mono : (p : Path) → Bounds.range_high strong p ≤ℤ Bounds.range_high weak p
  range_high_mono p = at_most_down _ _ _ _ (omega (arith, ints)) (worse_best_of Down int_min down_laws _ _ (range_high_one p) strong weak s)

  lower_one : (p : Path) (g f : Fact) → Covers g f → Worse Up (Bounds.lower_by weak p f) (Bounds.lower_by strong p g)
  lower_one p _ _ (less q r c d x) = worse_when Up (Some (Bounds.range_low weak q -ℤ d +ℤ pos 1)) (Some (Bounds.range_low strong q -ℤ c +ℤ pos 1)) (is_path r p) (is_path r p) (λ t. t) (λ t. let b = range_low_mono q in omega (arith, ints))
  lower_one p _ _ (is_len r a) = worse_when Up (Some (Bounds.length_low weak a)) (Some (Bounds.length_low strong a)) (is_path r p) (is_path r p) (λ t. t) (λ t. length_low_mono a)
  lower_one p _ _ _ = tt

  pub lower_mono : (p : Path) → Bounds.lower_bound weak p ≤ℤ Bounds.lower_bound strong p
  lower_mono p = at_least_up _ _ _ _ (range_low_mono p) (worse_best_of Up int_max up_laws _ _ (lower_one p) strong weak s)

  limit_one : (p : Path) (g f : Fact) → Covers g f → Worse Down (Bounds.limit_by weak p f) (Bounds.limit_by strong p g)
  limit_one p _ _ (less r q c d x) = worse_when Down (Some (Bounds.range_high weak q +ℤ d -ℤ pos 1)) (Some (Bounds.range_high strong q +ℤ c -ℤ pos 1)) (is_path r p) (is_path r p) (λ t. t) (λ t. let b = range_high_mono q in omega (arith, ints))
  limit_one p _ _ (upper r a Nothing c d x) = worse_when Down (Some (Bounds.length_high weak a -ℤ pos 1 -ℤ d)) (Some (Bounds.length_high strong a -ℤ pos 1 -ℤ c)) (is_path r p) (is_path r p) (λ t. t) (λ t. let b = length_high_mono a in omega (arith, ints))
  limit_one p _ _ (is_len r a) = worse_when Down (Some (Bounds.length_high weak a)) (Some (Bounds.length_high strong a)) (is_path r p) (is_path r p) (λ t. t) (λ t. length_high_mono a)
  limit_one p _ _ _ = tt

  pub limit_mono : (p : Path) → Bounds.upper_limit strong p ≤ℤ Bounds.upper_limit weak p
  limit_mono p = at_most_down _ _ _ _ (range_high_mono p) (worse_best_of Down int_min down_laws _ _ (limit_one p) strong weak s)

  -- a test with `are_same` in it
  with_same : (t u : Bool) (b a : Path) → (t && (Bounds.are_same weak b a && u)) ≡ true → (t && (Bounds.are_same strong b a && u)) ≡ true
  with_same t u b a h =
      let x = and_parts t (Bounds.are_same weak b a && u) h in
      let y = and_parts (Bounds.are_same weak b a) u x.1 in
      and_from t (Bounds.are_same strong b a && u) x.0 (and_from (Bounds.are_same strong b a) u (are_same_mono b a y.0) y.1)

  with_path : (t : Bool) (b a : Path) → (t && Bounds.are_same weak b a) ≡ true → (t && Bounds.are_same strong b a) ≡ true
  with_path t b a h = let x = and_parts t (Bounds.are_same weak b a) h in and_from t (Bounds.are_same strong b a) x.0 (are_same_mono b a x.1)

  stored_upper_one : (p a : Path) (o : PathOff) (g f : Fact) → Covers g f → Worse Up (Bounds.stored_upper_by weak p a o f) (Bounds.stored_upper_by strong p a o g)
  stored_upper_one p a o _ _ (upper r b x c d h) = worse_when Up (Some d) (Some c) (is_path r p && (Bounds.are_same weak b a && is_offset x o)) (is_path r p && (Bounds.are_same strong b a && is_offset x o)) (with_same (is_path r p) (is_offset x o) b a) (λ t. h)
  stored_upper_one p a Nothing _ _ (is_len r b) = worse_when Up (Some (negsuc 0)) (Some (negsuc 0)) (is_path r p && is_path b a) (is_path r p && is_path b a) (λ t. t) (λ t. omega (arith, ints))
  stored_upper_one p a o _ _ _ = tt

  pub stored_upper_mono : (p a : Path) (o : PathOff) → Worse Up (Bounds.stored_upper weak p a o) (Bounds.stored_upper strong p a o)
  stored_upper_mono p a o = worse_best_of Up int_max up_laws _ _ (stored_upper_one p a o) strong weak s

  fact_less_one : (p q : Path) (g f : Fact) → Covers g f → Worse Down (Bounds.fact_less_by p q f) (Bounds.fact_less_by p q g)
  fact_less_one p q _ _ (less r t c d x) = worse_when Down (Some d) (Some c) (is_path r p && is_path t q) (is_path r p && is_path t q) (λ u. u) (λ u. x)
  fact_less_one p q _ _ _ = tt

  pub fact_less_mono : (p q : Path) → Worse Down (Bounds.fact_less weak p q) (Bounds.fact_less strong p q)
  fact_less_mono p q = worse_best_of Down int_min down_laws _ _ (fact_less_one p q) strong weak s

  stored_less_one : (p q : Path) (g f : Fact) → Covers g f → Worse Down (Bounds.stored_less_by weak p q f) (Bounds.stored_less_by strong p q g)
  stored_less_one p q _ _ (less r t c d x) = worse_when Down (Some d) (Some c) (is_path r p && is_path t q) (is_path r p && is_path t q) (λ u. u) (λ u. x)
  stored_less_one p q _ _ (is_len r a) =
      worse_when Down (option_map (λ c. pos 0 -ℤ c) (Bounds.stored_upper weak p a Nothing)) (option_map (λ c. pos 0 -ℤ c) (Bounds.stored_upper strong p a Nothing)) (is_path r q) (is_path r q) (λ u. u)
      (λ u. worse_map Up Down _ _ _ _ (λ x y h. omega (arith, ints)) (stored_upper_mono p a Nothing))
  stored_less_one p q _ _ _ = tt

  pub stored_less_mono : (p q : Path) → Worse Down (Bounds.stored_less weak p q) (Bounds.stored_less strong p q)
  stored_less_mono p q = worse_best_of Down int_min down_laws _ _ (stored_less_one p q) strong weak s

  through_mono : (c d : ℤ) (p q : Path) → d ≤ℤ c → Worse Up (Bounds.through weak d (Bounds.stored_less weak p q)) (Bounds.through strong c (Bounds.stored_less strong p q))
  through_mono c d p q h = worse_map Down Up _ _ _ _ (λ x y k. omega (arith, ints)) (stored_less_mono p q)

  moved_mono : (x o : PathOff) (c d : ℤ) → d ≤ℤ c → Worse Up (Bounds.offset_moved weak d x o) (Bounds.offset_moved strong c x o)
  moved_mono (Plus q) (Plus r) c d h = through_mono c d r q h
  moved_mono (Minus q) (Minus r) c d h = through_mono c d q r h
  moved_mono _ _ c d h = tt

  shifted_one : (p a : Path) (o : PathOff) (g f : Fact) → Covers g f → Worse Up (Bounds.shifted_by weak p a o f) (Bounds.shifted_by strong p a o g)
  shifted_one p a o _ _ (upper r b x c d h) =
      worse_when Up
      (best int_max (when (is_offset x o) (Bounds.through weak d (Bounds.stored_less weak p r))) (when (is_path r p) (Bounds.offset_moved weak d x o)))
      (best int_max (when (is_offset x o) (Bounds.through strong c (Bounds.stored_less strong p r))) (when (is_path r p) (Bounds.offset_moved strong c x o)))
      (Bounds.are_same weak b a) (Bounds.are_same strong b a) (are_same_mono b a)
      (λ t. worse_best Up int_max up_laws
      (when (is_offset x o) (Bounds.through weak d (Bounds.stored_less weak p r))) (when (is_path r p) (Bounds.offset_moved weak d x o))
      (when (is_offset x o) (Bounds.through strong c (Bounds.stored_less strong p r))) (when (is_path r p) (Bounds.offset_moved strong c x o))
      (worse_when Up (Bounds.through weak d (Bounds.stored_less weak p r)) (Bounds.through strong c (Bounds.stored_less strong p r)) (is_offset x o) (is_offset x o) (λ u. u) (λ u. through_mono c d p r h))
      (worse_when Up (Bounds.offset_moved weak d x o) (Bounds.offset_moved strong c x o) (is_path r p) (is_path r p) (λ u. u) (λ u. moved_mono x o c d h)))
  shifted_one p a Nothing _ _ (is_len r b) =
      worse_when Up (Bounds.through weak (negsuc 0) (Bounds.stored_less weak p r)) (Bounds.through strong (negsuc 0) (Bounds.stored_less strong p r)) (is_path b a) (is_path b a) (λ u. u)
      (λ u. through_mono (negsuc 0) (negsuc 0) p r (omega (arith, ints)))
  shifted_one p a o _ _ _ = tt

  pub shifted_mono : (p a : Path) (o : PathOff) → Worse Up (Bounds.shifted_upper weak p a o) (Bounds.shifted_upper strong p a o)
  shifted_mono p a o =
      worse_best Up int_max up_laws (Bounds.stored_upper weak p a o) (greatest (Bounds.shifted_by weak p a o) weak) (Bounds.stored_upper strong p a o) (greatest (Bounds.shifted_by strong p a o) strong)
      (stored_upper_mono p a o) (worse_best_of Up int_max up_laws _ _ (shifted_one p a o) strong weak s)

  upper_one : (p a : Path) (o : PathOff) (g f : Fact) → Covers g f → Worse Up (Bounds.upper_by weak p a o f) (Bounds.upper_by strong p a o g)
  upper_one p a Nothing _ _ (upper r b (Plus q) c d h) = worse_when Up (Some (d +ℤ Bounds.lower_bound weak q)) (Some (c +ℤ Bounds.lower_bound strong q)) (is_path r p && Bounds.are_same weak b a) (is_path r p && Bounds.are_same strong b a) (with_path (is_path r p) b a) (λ t. let l = lower_mono q in omega (arith, ints))
  upper_one p a Nothing _ _ (upper r b (Minus q) c d h) = worse_when Up (Some (d -ℤ Bounds.upper_limit weak q)) (Some (c -ℤ Bounds.upper_limit strong q)) (is_path r p && Bounds.are_same weak b a) (is_path r p && Bounds.are_same strong b a) (with_path (is_path r p) b a) (λ t. let l = limit_mono q in omega (arith, ints))
  upper_one p a (Plus q) _ _ (sum t y z) = worse_when Up (Bounds.stored_upper weak t a Nothing) (Bounds.stored_upper strong t a Nothing) (is_path y p && is_path z q) (is_path y p && is_path z q) (λ u. u) (λ u. stored_upper_mono t a Nothing)
  upper_one p a (Minus q) _ _ (sum t y z) = worse_when Up (Bounds.stored_upper weak y a Nothing) (Bounds.stored_upper strong y a Nothing) (is_path t p && is_path z q) (is_path t p && is_path z q) (λ u. u) (λ u. stored_upper_mono y a Nothing)
  upper_one p a _ _ _ _ = tt

  from_ends_mono : (p a : Path) (o : PathOff) → Worse Up (Bounds.upper_from_ends weak p a o) (Bounds.upper_from_ends strong p a o)
  from_ends_mono p a Nothing = let l = length_low_mono a in let k = limit_mono p in omega (arith, ints)
  from_ends_mono p a (Plus q) =
      worse_best Up int_max up_laws
      (option_map (λ c. c -ℤ Bounds.upper_limit weak q) (Bounds.shifted_upper weak p a Nothing)) (option_map (λ c. c -ℤ Bounds.upper_limit weak p) (Bounds.shifted_upper weak q a Nothing))
      (option_map (λ c. c -ℤ Bounds.upper_limit strong q) (Bounds.shifted_upper strong p a Nothing)) (option_map (λ c. c -ℤ Bounds.upper_limit strong p) (Bounds.shifted_upper strong q a Nothing))
      (worse_map Up Up _ _ _ _ (λ x y h. let k = limit_mono q in omega (arith, ints)) (shifted_mono p a Nothing))
      (worse_map Up Up _ _ _ _ (λ x y h. let k = limit_mono p in omega (arith, ints)) (shifted_mono q a Nothing))
  from_ends_mono p a (Minus q) = worse_map Up Up _ _ _ _ (λ x y h. let k = lower_mono q in omega (arith, ints)) (shifted_mono p a Nothing)

  pub upper_mono : (p a : Path) (o : PathOff) → Worse Up (Bounds.upper_bound weak p a o) (Bounds.upper_bound strong p a o)
  upper_mono p a o =
      worse_best Up int_max up_laws
      (Bounds.shifted_upper weak p a o) (best int_max (Bounds.upper_from_ends weak p a o) (greatest (Bounds.upper_by weak p a o) weak))
      (Bounds.shifted_upper strong p a o) (best int_max (Bounds.upper_from_ends strong p a o) (greatest (Bounds.upper_by strong p a o) strong))
      (shifted_mono p a o)
      (worse_best Up int_max up_laws
      (Bounds.upper_from_ends weak p a o) (greatest (Bounds.upper_by weak p a o) weak)
      (Bounds.upper_from_ends strong p a o) (greatest (Bounds.upper_by strong p a o) strong)
      (from_ends_mono p a o) (worse_best_of Up int_max up_laws _ _ (upper_one p a o) strong weak s))

  pub less_mono : (p q : Path) → Bounds.less_bound strong p q ≤ℤ Bounds.less_bound weak p q
  less_mono p q = let l = lower_mono q in let k = limit_mono p in at_most_down _ _ _ _ (omega (arith, ints)) (stored_less_mono p q)
