-- Where the facts hold, so does each bound that they give.
use Rattle.std.specs.Prelude.{◌≡◌, true, ◌&&◌, ℤ, pos, negsuc, ◌+ℤ◌, ◌-ℤ◌, ◌≤ℤ◌, List, [], ◌∷◌, ◌++◌, Some}
use Rattle.std.specs.Option.{option_map}
use Rattle.std.specs.Int.{int_max}
use Rattle.std.proofs.Common.{arith, sym, ap, ◌∙◌}
use Rattle.std.proofs.lemmas.Bool.{and_parts, false≢true}
use Rattle.std.proofs.lemmas.Int.{ints}
use Rattle.ix_core.specs.declared.fact.Path.{Path}
use Rattle.ix_core.specs.declared.fact.PathOff.{PathOff}
use Rattle.ix_core.specs.declared.fact.PathOff.TheVariants.{Nothing, Plus, Minus}
use Rattle.ix_core.specs.declared.fact.Fact.{Fact}
use Rattle.ix_core.specs.declared.fact.Fact.TheVariants.{Rng, LenRng, Low, Same, IsLen, Less, Sum, Search, Neg, Upper}
use Rattle.ix_core.specs.Numbers.{Numbers}
use Rattle.ix_core.proofs.Cases.{by_test}
use Rattle.ix_facts.specs.Facts.{Holds, AllHold, offset_number, orders, is_default, in_orders}
use Rattle.ix_facts.specs.Bounds
use Rattle.ix_facts.specs.Bounds.{is_path, is_offset, says_same, when, best, greatest, least}
use Rattle.ix_facts.proofs.Gives.{Gives, max_chooses, min_chooses, gives_when, gives_map, gives_also, gives_best, gives_best_of, at_least_holds, at_most_holds}
use Rattle.ix_facts.proofs.Tests.{path_true, offset_true, or_else}

module _ (v : Numbers) where
  pub int_same : (p q : Path) → is_path p q ≡ true → v.int p ≡ v.int q
  int_same p q h = ap v.int (path_true p q h)

  pub size_same : (p q : Path) → is_path p q ≡ true → v.size p ≡ v.size q
  size_same p q h = ap v.size (path_true p q h)

  abbrev pub IntFrom : Path → ℤ → Type 0
  IntFrom p c = c ≤ℤ v.int p

  abbrev pub IntTo : Path → ℤ → Type 0
  IntTo p c = v.int p ≤ℤ c

  abbrev pub SizeFrom : Path → ℤ → Type 0
  SizeFrom a c = c ≤ℤ v.size a

  abbrev pub SizeTo : Path → ℤ → Type 0
  SizeTo a c = v.size a ≤ℤ c

  abbrev pub LessIs : Path → Path → ℤ → Type 0
  LessIs p q c = Holds (Less p q c) v

  abbrev pub UpperIs : Path → Path → PathOff → ℤ → Type 0
  UpperIs p a o c = Holds (Upper p a o c) v

  length_low_one : (a : Path) (f : Fact) → Holds f v → Gives (Bounds.length_low_by a f) (SizeFrom a)
  length_low_one a (LenRng b l u) h = gives_when (SizeFrom a) _ (is_path b a) (λ t. let e = size_same b a t in omega (arith, ints))
  length_low_one a _ h = tt

  length_high_one : (a : Path) (f : Fact) → Holds f v → Gives (Bounds.length_high_by a f) (SizeTo a)
  length_high_one a (LenRng b l u) h = gives_when (SizeTo a) _ (is_path b a) (λ t. let e = size_same b a t in omega (arith, ints))
  length_high_one a _ h = tt

  own_low_one : (p : Path) (f : Fact) → Holds f v → Gives (Bounds.own_low_by p f) (IntFrom p)
  own_low_one p (Rng q l u) h = gives_when (IntFrom p) _ (is_path q p) (λ t. let e = int_same q p t in omega (arith, ints))
  own_low_one p _ h = tt

  range_low_one : (p : Path) (f : Fact) → Holds f v → Gives (Bounds.range_low_by p f) (IntFrom p)
  range_low_one p (Rng q l u) h = gives_when (IntFrom p) _ (is_path q p) (λ t. let e = int_same q p t in omega (arith, ints))
  range_low_one p (Low q k) h = gives_when (IntFrom p) _ (is_path q p) (λ t. let e = int_same q p t in omega (arith, ints))
  range_low_one p _ h = tt

  range_high_one : (p : Path) (f : Fact) → Holds f v → Gives (Bounds.range_high_by p f) (IntTo p)
  range_high_one p (Rng q l u) h = gives_when (IntTo p) _ (is_path q p) (λ t. let e = int_same q p t in omega (arith, ints))
  range_high_one p _ h = tt

  same_one : (a b : Path) (f : Fact) → Holds f v → says_same a b f ≡ true → v.size a ≡ v.size b
  same_one a b (Same c d) h t = let both = and_parts (is_path c a) (is_path d b) t in sym (size_same c a both.0) ∙ h ∙ size_same d b both.1
  same_one a b _ h t = absurd (false≢true t)

  pub stored_same_holds : (facts : List Fact) → AllHold facts v → (a b : Path) → Bounds.stored_same facts a b ≡ true → v.size a ≡ v.size b
  stored_same_holds [] h a b t = absurd (false≢true t)
  stored_same_holds (f ∷ facts) h a b t = by_test (says_same a b f) (λ x. same_one a b f h.0 x) (λ x. stored_same_holds facts h.1 a b (or_else (says_same a b f) (Bounds.stored_same facts a b) t x))

  module _ (facts : List Fact) (h : AllHold facts v) where
    pub are_same_holds : (a b : Path) → Bounds.are_same facts a b ≡ true → v.size a ≡ v.size b
    are_same_holds a b t = by_test (is_path a b) (λ x. size_same a b x) (λ x. stored_same_holds facts h a b (or_else (is_path a b) (Bounds.stored_same facts a b) t x))

    pub length_low_holds : (a : Path) → SizeFrom a (Bounds.length_low facts a)
    length_low_holds a = at_least_holds (SizeFrom a) _ _ (v.size_from a) (gives_best_of (SizeFrom a) _ _ v max_chooses (length_low_one a) facts h)

    pub length_high_holds : (a : Path) → SizeTo a (Bounds.length_high facts a)
    length_high_holds a = at_most_holds (SizeTo a) _ _ (v.size_to a) (gives_best_of (SizeTo a) _ _ v min_chooses (length_high_one a) facts h)

    pub own_low_holds : (p : Path) → IntFrom p (Bounds.own_low facts p)
    own_low_holds p = at_least_holds (IntFrom p) _ _ (v.int_from p) (gives_best_of (IntFrom p) _ _ v max_chooses (own_low_one p) facts h)

    pub range_low_holds : (p : Path) → IntFrom p (Bounds.range_low facts p)
    range_low_holds p = at_least_holds (IntFrom p) _ _ (v.int_from p) (gives_best_of (IntFrom p) _ _ v max_chooses (range_low_one p) facts h)

    pub range_high_holds : (p : Path) → IntTo p (Bounds.range_high facts p)
    range_high_holds p = at_most_holds (IntTo p) _ _ (v.int_to p) (gives_best_of (IntTo p) _ _ v min_chooses (range_high_one p) facts h)

    lower_one : (p : Path) (f : Fact) → Holds f v → Gives (Bounds.lower_by facts p f) (IntFrom p)
    lower_one p (Less q r c) g = gives_when (IntFrom p) _ (is_path r p) (λ t. let e = int_same r p t in let b = range_low_holds q in omega (arith, ints))
    lower_one p (IsLen r a) g = gives_when (IntFrom p) _ (is_path r p) (λ t. let e = int_same r p t in let b = length_low_holds a in omega (arith, ints))
    lower_one p _ g = tt

    pub lower_holds : (p : Path) → IntFrom p (Bounds.lower_bound facts p)
    lower_holds p = at_least_holds (IntFrom p) _ _ (range_low_holds p) (gives_best_of (IntFrom p) _ _ v max_chooses (lower_one p) facts h)

    limit_one : (p : Path) (f : Fact) → Holds f v → Gives (Bounds.limit_by facts p f) (IntTo p)
    limit_one p (Less r q c) g = gives_when (IntTo p) _ (is_path r p) (λ t. let e = int_same r p t in let b = range_high_holds q in omega (arith, ints))
    limit_one p (Upper r a Nothing c) g = gives_when (IntTo p) _ (is_path r p) (λ t. let e = int_same r p t in let b = length_high_holds a in omega (arith, ints))
    limit_one p (IsLen r a) g = gives_when (IntTo p) _ (is_path r p) (λ t. let e = int_same r p t in let b = length_high_holds a in omega (arith, ints))
    limit_one p _ g = tt

    pub limit_holds : (p : Path) → IntTo p (Bounds.upper_limit facts p)
    limit_holds p = at_most_holds (IntTo p) _ _ (range_high_holds p) (gives_best_of (IntTo p) _ _ v min_chooses (limit_one p) facts h)

    stored_upper_one : (p a : Path) (o : PathOff) (f : Fact) → Holds f v → Gives (Bounds.stored_upper_by facts p a o f) (UpperIs p a o)
    stored_upper_one p a o (Upper r b x c) g =
        gives_when (UpperIs p a o) (Some c) (is_path r p && (Bounds.are_same facts b a && is_offset x o))
        (λ t.
        let both = and_parts (is_path r p) (Bounds.are_same facts b a && is_offset x o) t in
        let more = and_parts (Bounds.are_same facts b a) (is_offset x o) both.1 in
        let e = int_same r p both.0 in
        let k = are_same_holds b a more.0 in
        let m = ap (offset_number v) (offset_true x o more.1) in
        omega (arith, ints))
    stored_upper_one p a Nothing (IsLen r b) g =
        gives_when (UpperIs p a Nothing) (Some (negsuc 0)) (is_path r p && is_path b a)
        (λ t. let both = and_parts (is_path r p) (is_path b a) t in let e = int_same r p both.0 in let k = size_same b a both.1 in omega (arith, ints))
    stored_upper_one p a o _ g = tt

    pub stored_upper_holds : (p a : Path) (o : PathOff) → Gives (Bounds.stored_upper facts p a o) (UpperIs p a o)
    stored_upper_holds p a o = gives_best_of (UpperIs p a o) _ _ v max_chooses (stored_upper_one p a o) facts h

    fact_less_one : (p q : Path) (f : Fact) → Holds f v → Gives (Bounds.fact_less_by p q f) (LessIs p q)
    fact_less_one p q (Less r s c) g =
        gives_when (LessIs p q) (Some c) (is_path r p && is_path s q)
        (λ t. let both = and_parts (is_path r p) (is_path s q) t in let e = int_same r p both.0 in let k = int_same s q both.1 in omega (arith, ints))
    fact_less_one p q _ g = tt

    pub fact_less_holds : (p q : Path) → Gives (Bounds.fact_less facts p q) (LessIs p q)
    fact_less_holds p q = gives_best_of (LessIs p q) _ _ v min_chooses (fact_less_one p q) facts h

    stored_less_one : (p q : Path) (f : Fact) → Holds f v → Gives (Bounds.stored_less_by facts p q f) (LessIs p q)
    stored_less_one p q (Less r s c) g =
        gives_when (LessIs p q) (Some c) (is_path r p && is_path s q)
        (λ t. let both = and_parts (is_path r p) (is_path s q) t in let e = int_same r p both.0 in let k = int_same s q both.1 in omega (arith, ints))
    stored_less_one p q (IsLen r a) g =
        gives_when (LessIs p q) (option_map (λ c. pos 0 -ℤ c) (Bounds.stored_upper facts p a Nothing)) (is_path r q)
        (λ t. let e = int_same r q t in gives_map (UpperIs p a Nothing) (LessIs p q) _ _ (λ c k. omega (arith, ints)) (stored_upper_holds p a Nothing))
    stored_less_one p q _ g = tt

    pub stored_less_holds : (p q : Path) → Gives (Bounds.stored_less facts p q) (LessIs p q)
    stored_less_holds p q = gives_best_of (LessIs p q) _ _ v min_chooses (stored_less_one p q) facts h

    offset_moved_holds : (p a r b : Path) (x o : PathOff) (c : ℤ) → UpperIs r b x c → v.int r ≡ v.int p → v.size b ≡ v.size a → Gives (Bounds.offset_moved facts c x o) (UpperIs p a o)
    offset_moved_holds p a r b (Plus q) (Plus s) c g e k = gives_map (LessIs s q) (UpperIs p a (Plus s)) _ _ (λ d m. omega (arith, ints)) (stored_less_holds s q)
    offset_moved_holds p a r b (Minus q) (Minus s) c g e k = gives_map (LessIs q s) (UpperIs p a (Minus s)) _ _ (λ d m. omega (arith, ints)) (stored_less_holds q s)
    offset_moved_holds p a r b _ _ c g e k = tt

    shifted_one : (p a : Path) (o : PathOff) (f : Fact) → Holds f v → Gives (Bounds.shifted_by facts p a o f) (UpperIs p a o)
    shifted_one p a o (Upper r b x c) g =
        gives_when (UpperIs p a o) (best int_max (when (is_offset x o) (Bounds.through facts c (Bounds.stored_less facts p r))) (when (is_path r p) (Bounds.offset_moved facts c x o))) (Bounds.are_same facts b a)
        (λ t.
        let k = are_same_holds b a t in
        gives_best (UpperIs p a o) int_max max_chooses (when (is_offset x o) (Bounds.through facts c (Bounds.stored_less facts p r))) (when (is_path r p) (Bounds.offset_moved facts c x o))
        (gives_when (UpperIs p a o) _ (is_offset x o)
        (λ u. let m = ap (offset_number v) (offset_true x o u) in gives_map (LessIs p r) (UpperIs p a o) _ _ (λ d n. omega (arith, ints)) (stored_less_holds p r)))
        (gives_when (UpperIs p a o) _ (is_path r p) (λ u. offset_moved_holds p a r b x o c g (int_same r p u) k)))
    shifted_one p a Nothing (IsLen r b) g =
        gives_when (UpperIs p a Nothing) (Bounds.through facts (negsuc 0) (Bounds.stored_less facts p r)) (is_path b a)
        (λ t. let k = size_same b a t in gives_map (LessIs p r) (UpperIs p a Nothing) _ _ (λ d n. omega (arith, ints)) (stored_less_holds p r))
    shifted_one p a o _ g = tt

    pub shifted_holds : (p a : Path) (o : PathOff) → Gives (Bounds.shifted_upper facts p a o) (UpperIs p a o)
    shifted_holds p a o = gives_best (UpperIs p a o) _ max_chooses _ _ (stored_upper_holds p a o) (gives_best_of (UpperIs p a o) _ _ v max_chooses (shifted_one p a o) facts h)

    upper_one : (p a : Path) (o : PathOff) (f : Fact) → Holds f v → Gives (Bounds.upper_by facts p a o f) (UpperIs p a o)
    upper_one p a Nothing (Upper r b (Plus q) c) g =
        gives_when (UpperIs p a Nothing) (Some (c +ℤ Bounds.lower_bound facts q)) (is_path r p && Bounds.are_same facts b a)
        (λ t. let both = and_parts (is_path r p) (Bounds.are_same facts b a) t in let e = int_same r p both.0 in let k = are_same_holds b a both.1 in let l = lower_holds q in omega (arith, ints))
    upper_one p a Nothing (Upper r b (Minus q) c) g =
        gives_when (UpperIs p a Nothing) (Some (c -ℤ Bounds.upper_limit facts q)) (is_path r p && Bounds.are_same facts b a)
        (λ t. let both = and_parts (is_path r p) (Bounds.are_same facts b a) t in let e = int_same r p both.0 in let k = are_same_holds b a both.1 in let l = limit_holds q in omega (arith, ints))
    upper_one p a (Plus q) (Sum t y z) g =
        gives_when (UpperIs p a (Plus q)) (Bounds.stored_upper facts t a Nothing) (is_path y p && is_path z q)
        (λ u. let both = and_parts (is_path y p) (is_path z q) u in let e = int_same y p both.0 in let k = int_same z q both.1 in gives_also (UpperIs t a Nothing) (UpperIs p a (Plus q)) _ (λ c m. omega (arith, ints)) (stored_upper_holds t a Nothing))
    upper_one p a (Minus q) (Sum t y z) g =
        gives_when (UpperIs p a (Minus q)) (Bounds.stored_upper facts y a Nothing) (is_path t p && is_path z q)
        (λ u. let both = and_parts (is_path t p) (is_path z q) u in let e = int_same t p both.0 in let k = int_same z q both.1 in gives_also (UpperIs y a Nothing) (UpperIs p a (Minus q)) _ (λ c m. omega (arith, ints)) (stored_upper_holds y a Nothing))
    upper_one p a _ _ g = tt

    from_ends_holds : (p a : Path) (o : PathOff) → Gives (Bounds.upper_from_ends facts p a o) (UpperIs p a o)
    from_ends_holds p a Nothing = let l = length_low_holds a in let k = limit_holds p in omega (arith, ints)
    from_ends_holds p a (Plus q) =
        gives_best (UpperIs p a (Plus q)) int_max max_chooses (option_map (λ c. c -ℤ Bounds.upper_limit facts q) (Bounds.shifted_upper facts p a Nothing)) (option_map (λ c. c -ℤ Bounds.upper_limit facts p) (Bounds.shifted_upper facts q a Nothing))
        (gives_map (UpperIs p a Nothing) (UpperIs p a (Plus q)) _ _ (λ c m. let l = limit_holds q in omega (arith, ints)) (shifted_holds p a Nothing))
        (gives_map (UpperIs q a Nothing) (UpperIs p a (Plus q)) _ _ (λ c m. let l = limit_holds p in omega (arith, ints)) (shifted_holds q a Nothing))
    from_ends_holds p a (Minus q) =
        gives_map (UpperIs p a Nothing) (UpperIs p a (Minus q)) (λ c. c +ℤ Bounds.lower_bound facts q) (Bounds.shifted_upper facts p a Nothing) (λ c m. let l = lower_holds q in omega (arith, ints)) (shifted_holds p a Nothing)

    pub upper_holds : (p a : Path) (o : PathOff) → Gives (Bounds.upper_bound facts p a o) (UpperIs p a o)
    upper_holds p a o =
        gives_best (UpperIs p a o) int_max max_chooses (Bounds.shifted_upper facts p a o) (best int_max (Bounds.upper_from_ends facts p a o) (greatest (Bounds.upper_by facts p a o) facts)) (shifted_holds p a o)
        (gives_best (UpperIs p a o) _ max_chooses _ _ (from_ends_holds p a o) (gives_best_of (UpperIs p a o) _ _ v max_chooses (upper_one p a o) facts h))

    pub less_holds : (p q : Path) → LessIs p q (Bounds.less_bound facts p q)
    less_holds p q = at_most_holds (LessIs p q) _ _ (let l = limit_holds p in let k = lower_holds q in omega (arith, ints)) (stored_less_holds p q)

-- ---- a fact holds in all its orders

orders_hold : (v : Numbers) (f : Fact) (rest : List Fact) → Holds f v → AllHold rest v → AllHold (orders f ++ rest) v
orders_hold v (Same a b) rest h k = (h, (sym h, k))
orders_hold v (Sum t y z) rest h k = (h, (omega (arith, ints), k))
orders_hold v (Upper p a (Plus q) c) rest h k = (h, (omega (arith, ints), k))
orders_hold v (Upper p a Nothing c) rest h k = (h, k)
orders_hold v (Upper p a (Minus q) c) rest h k = (h, k)
orders_hold v (IsLen p a) rest h k = (h, k)
orders_hold v (Rng p l u) rest h k = (h, k)
orders_hold v (LenRng p l u) rest h k = (h, k)
orders_hold v (Low p c) rest h k = (h, k)
orders_hold v (Less p q c) rest h k = (h, k)
orders_hold v (Search p a) rest h k = (h, k)
orders_hold v (Neg p a) rest h k = (h, k)

pub in_orders_hold : (v : Numbers) (facts : List Fact) → AllHold facts v → AllHold (in_orders facts) v
in_orders_hold v [] h = tt
in_orders_hold v (f ∷ facts) h = by_test (is_default f) (λ t. rw t (in_orders_hold v facts h.1)) (λ t. rw t (orders_hold v f (in_orders facts) h.0 (in_orders_hold v facts h.1)))
