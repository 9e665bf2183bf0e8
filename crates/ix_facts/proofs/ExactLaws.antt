-- The exact interval includes the exact result, is smaller of stronger facts, and where the operation fits the result is the exact one.
use Rattle.std.specs.Prelude.{◌≡◌, true, ◌&&◌, ℤ, pos, neg_ℤ, ◌+ℤ◌, ◌-ℤ◌, ◌≤ℤ◌, int_le, List, Option, Some, None, IfSome, refl}
use Rattle.std.specs.Option.{option_map}
use Rattle.std.specs.Int.{int_min}
use Rattle.std.proofs.Common.{arith, ap, ◌∙◌}
use Rattle.std.proofs.lemmas.Bool.{and_parts, and_from}
use Rattle.std.proofs.lemmas.Int.{ints, clamps}
use Rattle.ix_num.specs.declared.arith.Arith.{Arith}
use Rattle.ix_num.specs.declared.arith.Arith.TheVariants.{Add, Sub, Mul, Div, Rem, And, Or, Xor, Shl, Shr, Ushr}
use Rattle.ix_num.specs.declared.interval.Interval.{Interval}
use Rattle.ix_num.specs.Ints.{least_int, greatest_int}
use Rattle.ix_num.specs.Arithmetic.{exact_of, flip_of}
use Rattle.ix_num.specs.Intervals.{Includes, IsWithin, interval, normal, all_ints}
use Rattle.ix_num.specs.OpRanges.{op_range}
use Rattle.ix_num.proofs.Members.{within_by_ends, normal_in, normal_out, low_end, high_end}
use Rattle.ix_num.proofs.OpRangeLaws.{op_range_includes, op_range_monotone, wrap_of_int}
use Rattle.ix_core.specs.declared.fact.Path.{Path}
use Rattle.ix_core.specs.declared.fact.PathOff.TheVariants.{Plus, Minus}
use Rattle.ix_core.specs.declared.fact.Fact.{Fact}
use Rattle.ix_core.specs.declared.fact.Fact.TheVariants.{Upper}
use Rattle.ix_core.specs.declared.fact.Profile.{Profile}
use Rattle.ix_core.specs.declared.fact.Profile.TheVariants.{Ideal, Int32}
use Rattle.ix_core.specs.declared.op.UnaryNum.{UnaryNum}
use Rattle.ix_core.specs.declared.op.UnaryNum.TheVariants.{Neg as Negated, Flip}
use Rattle.ix_core.specs.Machine.{unary_of}
use Rattle.ix_core.specs.Numbers.{Numbers}
use Rattle.ix_facts.specs.Facts.{Holds, AllHold, Covers, Stronger, upper}
use Rattle.ix_facts.specs.Bounds
use Rattle.ix_facts.specs.Bounds.{is_path, when, best, best_of, least, at_least, at_most}
use Rattle.ix_facts.specs.Exact
use Rattle.ix_facts.specs.Exact.{met_with, lies_in_int, fits, named_arrays}
use Rattle.ix_facts.specs.AfterOperation.{Computed}
use Rattle.ix_facts.proofs.Gives.{Gives, min_chooses, gives_when, gives_map, gives_best, gives_best_of, at_least_holds, at_most_holds}
use Rattle.ix_facts.proofs.Tests.{at_most_true, at_most_is}
use Rattle.ix_facts.proofs.BoundsHold.{int_same, LessIs, UpperIs, lower_holds, limit_holds, length_high_holds, fact_less_holds, upper_holds}
use Rattle.ix_facts.proofs.BoundsMonotone.{lower_mono, limit_mono, length_high_mono, fact_less_mono, upper_mono}
use Rattle.ix_facts.proofs.Worse.{Up, Down, down_laws, Worse, worse_when, worse_map, worse_best, worse_best_of}
use Rattle.ix_facts.proofs.RuleForms.{least_at_gives, least_at_mono, named_arrays_mono}

-- ---- members of a met interval

pub met_includes : (i : Interval) (low high : Option ℤ) (n : ℤ) → Includes i n → Gives low (λ c. c ≤ℤ n) → Gives high (λ c. n ≤ℤ c) → Includes (met_with i low high) n
met_includes i low high n p l h = record { from = at_least_holds (λ c. c ≤ℤ n) i.lo low p.from l; to = at_most_holds (λ c. n ≤ℤ c) i.hi high p.to h }

met_from : (i : Interval) (low high : Option ℤ) (n : ℤ) → at_least i.lo low ≤ℤ n → i.lo ≤ℤ n
met_from i None high n h = h
met_from i (Some c) high n h = omega (arith, ints, clamps)

met_to : (i : Interval) (high : Option ℤ) (n : ℤ) → n ≤ℤ at_most i.hi high → n ≤ℤ i.hi
met_to i None n h = h
met_to i (Some c) n h = omega (arith, ints, clamps)

low_kept : (d e : ℤ) (a b : Option ℤ) (n : ℤ) → Worse Up a b → at_least d b ≤ℤ n → e ≤ℤ n → at_least e a ≤ℤ n
low_kept d e None b n w h k = k
low_kept d e (Some x) None n w h k = absurd w
low_kept d e (Some x) (Some y) n w h k = omega (arith, ints, clamps)

high_kept : (d e : ℤ) (a b : Option ℤ) (n : ℤ) → Worse Down a b → n ≤ℤ at_most d b → n ≤ℤ e → n ≤ℤ at_most e a
high_kept d e None b n w h k = k
high_kept d e (Some x) None n w h k = absurd w
high_kept d e (Some x) (Some y) n w h k = omega (arith, ints, clamps)

pub met_within : (i j : Interval) (low high other_low other_high : Option ℤ) → IsWithin i j → Worse Up other_low low → Worse Down other_high high → IsWithin (met_with i low high) (met_with j other_low other_high)
met_within i j low high other_low other_high within l h = record {
  each = λ n p.
      let inside : Includes i n = record { from = met_from i low high n p.from; to = met_to i high n p.to } in
      let q = within.each n inside in
      record { from = low_kept i.lo j.lo other_low low n l p.from q.from; to = high_kept i.hi j.hi other_high high n h p.to q.to };
}

pub normal_within : (i j : Interval) → IsWithin i j → IsWithin (normal i) (normal j)
normal_within i j within = record { each = λ n p. normal_in j n (within.each n (normal_out i n p)) }

default_low : (d : ℤ) (o : Option ℤ) → d ≤ℤ at_least d o
default_low d None = omega (arith, ints)
default_low d (Some c) = omega (arith, ints, clamps)

default_high : (d : ℤ) (o : Option ℤ) → at_most d o ≤ℤ d
default_high d None = omega (arith, ints)
default_high d (Some c) = omega (arith, ints, clamps)

-- operands are intervals of ints
pub operand_ints : (facts : List Fact) (p : Path) → IsWithin (Exact.operand facts p) all_ints
operand_ints facts p =
    let a = default_low least_int (Bounds.greatest (Bounds.range_low_by p) facts) in
    let b = default_low (Bounds.range_low facts p) (Bounds.greatest (Bounds.lower_by facts p) facts) in
    let c = default_high greatest_int (Bounds.least (Bounds.range_high_by p) facts) in
    let d = default_high (Bounds.range_high facts p) (Bounds.least (Bounds.limit_by facts p) facts) in
    within_by_ends (Exact.operand facts p) all_ints (omega (arith, ints)) (omega (arith, ints))

-- ---- the exact result is included

module _ (v : Numbers) (facts : List Fact) (h : AllHold facts v) where
  pub operand_includes : (p : Path) → Includes (Exact.operand facts p) (v.int p)
  operand_includes p = record { from = lower_holds v facts h p; to = limit_holds v facts h p }

  sum_limit_gives : (y z : Path) → Gives (Exact.sum_limit facts y z) (λ c. (v.int y +ℤ v.int z) ≤ℤ c)
  sum_limit_gives y z =
      least_at_gives (λ c. (v.int y +ℤ v.int z) ≤ℤ c) (Exact.sum_limit_at facts y z)
      (λ a. gives_map (UpperIs v y a (Plus z)) (λ c. (v.int y +ℤ v.int z) ≤ℤ c) (λ c. Bounds.length_high facts a -ℤ pos 1 -ℤ c) (Bounds.upper_bound facts y a (Plus z)) (λ c k. let l = length_high_holds v facts h a in omega (arith, ints)) (upper_holds v facts h y a (Plus z)))
      (named_arrays facts)

  difference_low_gives : (y z : Path) → Gives (Exact.difference_low facts y z) (λ c. c ≤ℤ (v.int y -ℤ v.int z))
  difference_low_gives y z = gives_map (LessIs v z y) (λ c. c ≤ℤ (v.int y -ℤ v.int z)) (λ c. pos 1 -ℤ c) (Bounds.fact_less facts z y) (λ c k. omega (arith, ints)) (fact_less_holds v facts h z y)

  difference_one : (y z : Path) (f : Fact) → Holds f v → Gives (Exact.difference_limit_by facts y z f) (λ c. (v.int y -ℤ v.int z) ≤ℤ c)
  difference_one y z (Upper p a (Minus q) c) g =
      gives_when (λ c. (v.int y -ℤ v.int z) ≤ℤ c) (Some (Bounds.length_high facts a -ℤ pos 1 -ℤ c)) (is_path p y && is_path q z)
      (λ t. let both = and_parts (is_path p y) (is_path q z) t in let e = int_same v p y both.0 in let k = int_same v q z both.1 in let l = length_high_holds v facts h a in omega (arith, ints))
  difference_one y z _ g = tt

  difference_limit_gives : (y z : Path) → Gives (Exact.difference_limit facts y z) (λ c. (v.int y -ℤ v.int z) ≤ℤ c)
  difference_limit_gives y z =
      gives_best (λ c. (v.int y -ℤ v.int z) ≤ℤ c) int_min min_chooses (option_map (λ c. c -ℤ pos 1) (Bounds.fact_less facts y z)) (least (Exact.difference_limit_by facts y z) facts)
      (gives_map (LessIs v y z) (λ c. (v.int y -ℤ v.int z) ≤ℤ c) (λ c. c -ℤ pos 1) (Bounds.fact_less facts y z) (λ c k. omega (arith, ints)) (fact_less_holds v facts h y z))
      (gives_best_of (λ c. (v.int y -ℤ v.int z) ≤ℤ c) int_min (Exact.difference_limit_by facts y z) v min_chooses (difference_one y z) facts h)

  range_includes : (arith_op : Arith) (y z : Path) → IfSome (exact_of arith_op (v.int y) (v.int z)) (Includes (op_range arith_op (Exact.operand facts y) (Exact.operand facts z)))
  range_includes arith_op y z = op_range_includes arith_op (Exact.operand facts y) (Exact.operand facts z) (operand_ints facts y) (operand_ints facts z) (v.int y) (v.int z) (operand_includes y) (operand_includes z)

  ends_include : (arith_op : Arith) (y z : Path) → IfSome (exact_of arith_op (v.int y) (v.int z)) (Includes (Exact.exact_ends facts arith_op y z))
  ends_include Add y z = met_includes (op_range Add (Exact.operand facts y) (Exact.operand facts z)) None (Exact.sum_limit facts y z) (v.int y +ℤ v.int z) (range_includes Add y z) tt (sum_limit_gives y z)
  ends_include Sub y z = met_includes (op_range Sub (Exact.operand facts y) (Exact.operand facts z)) (Exact.difference_low facts y z) (Exact.difference_limit facts y z) (v.int y -ℤ v.int z) (range_includes Sub y z) (difference_low_gives y z) (difference_limit_gives y z)
  ends_include Mul y z = range_includes Mul y z
  ends_include Div y z = range_includes Div y z
  ends_include Rem y z = range_includes Rem y z
  ends_include And y z = range_includes And y z
  ends_include Or y z = range_includes Or y z
  ends_include Xor y z = range_includes Xor y z
  ends_include Shl y z = range_includes Shl y z
  ends_include Shr y z = range_includes Shr y z
  ends_include Ushr y z = range_includes Ushr y z

  of_some : (o : Option ℤ) (n : ℤ) (P : ℤ → Type 0) → o ≡ Some n → IfSome o P → P n
  of_some None n P e k = absurd cc
  of_some (Some m) n P e k = let i : m ≡ n = cc in Rattle.std.proofs.Common.subst P i k

  pub exact_includes : (arith_op : Arith) (y z : Path) (n : ℤ) → exact_of arith_op (v.int y) (v.int z) ≡ Some n → Includes (Exact.exact_range facts arith_op y z) n
  exact_includes arith_op y z n e = normal_in (Exact.exact_ends facts arith_op y z) n (of_some (exact_of arith_op (v.int y) (v.int z)) n (Includes (Exact.exact_ends facts arith_op y z)) e (ends_include arith_op y z))

  pub unary_includes : (unary : UnaryNum) (y : Path) → Includes (Exact.exact_unary facts unary y) (unary_of unary (v.int y))
  unary_includes Negated y = let p = operand_includes y in normal_in (interval (neg_ℤ (Bounds.upper_limit facts y)) (neg_ℤ (Bounds.lower_bound facts y))) (neg_ℤ (v.int y)) (record { from = omega (arith, ints, p.from, p.to); to = omega (arith, ints, p.from, p.to) })
  unary_includes Flip y = let p = operand_includes y in normal_in (interval (flip_of (Bounds.upper_limit facts y)) (flip_of (Bounds.lower_bound facts y))) (flip_of (v.int y)) (record { from = omega (arith, ints, p.from, p.to); to = omega (arith, ints, p.from, p.to) })

-- ---- the exact result is the result

pub in_int_from : (i : Interval) → lies_in_int i ≡ true → (least_int ≤ℤ i.lo) × (i.hi ≤ℤ greatest_int)
in_int_from i h =
    let both = and_parts (int_le least_int i.lo) (int_le i.hi greatest_int) h in
    (at_most_true least_int i.lo both.0, at_most_true i.hi greatest_int both.1)

pub in_int_is : (i : Interval) → least_int ≤ℤ i.lo → i.hi ≤ℤ greatest_int → lies_in_int i ≡ true
in_int_is i from to = and_from (int_le least_int i.lo) (int_le i.hi greatest_int) (at_most_is least_int i.lo from) (at_most_is i.hi greatest_int to)

-- Where the exact interval fits, the result is the exact one: in `int32` since it is an int, in `ideal` since only such steps count.
pub value_is_exact : (profile : Profile) (i : Interval) (exact : Option ℤ) (value : ℤ) (c : Computed profile exact value) → Includes i c.result → fits profile i ≡ true → value ≡ c.result
value_is_exact Ideal i exact value c p f = c.kept ∙ wrap_of_int c.result (c.unwrapped refl)
value_is_exact Int32 i exact value c p f = let b = in_int_from i f in c.kept ∙ wrap_of_int c.result (record { from = omega (arith, ints, p.from); to = omega (arith, ints, p.to) })

-- ---- stronger facts have a smaller interval

module _ (strong weak : List Fact) (s : Stronger strong weak) where
  operand_mono : (p : Path) → IsWithin (Exact.operand strong p) (Exact.operand weak p)
  operand_mono p = within_by_ends (Exact.operand strong p) (Exact.operand weak p) (lower_mono strong weak s p) (limit_mono strong weak s p)

  op_range_mono : (arith_op : Arith) (y z : Path) → IsWithin (op_range arith_op (Exact.operand strong y) (Exact.operand strong z)) (op_range arith_op (Exact.operand weak y) (Exact.operand weak z))
  op_range_mono arith_op y z = op_range_monotone arith_op (Exact.operand strong y) (Exact.operand strong z) (Exact.operand weak y) (Exact.operand weak z) (operand_ints weak y) (operand_ints weak z) (operand_mono y) (operand_mono z)

  sum_limit_mono : (y z : Path) → Worse Down (Exact.sum_limit weak y z) (Exact.sum_limit strong y z)
  sum_limit_mono y z =
      least_at_mono (Exact.sum_limit_at strong y z) (Exact.sum_limit_at weak y z)
      (λ a. let l = length_high_mono strong weak s a in worse_map Up Down (λ c. Bounds.length_high weak a -ℤ pos 1 -ℤ c) (λ c. Bounds.length_high strong a -ℤ pos 1 -ℤ c) (Bounds.upper_bound weak y a (Plus z)) (Bounds.upper_bound strong y a (Plus z)) (λ c d k. omega (arith, ints)) (upper_mono strong weak s y a (Plus z)))
      (named_arrays strong) (named_arrays weak) (named_arrays_mono strong weak s)

  difference_one_mono : (y z : Path) (g f : Fact) → Covers g f → Worse Down (Exact.difference_limit_by weak y z f) (Exact.difference_limit_by strong y z g)
  difference_one_mono y z _ _ (upper p a (Minus q) c d x) =
      worse_when Down (Some (Bounds.length_high weak a -ℤ pos 1 -ℤ d)) (Some (Bounds.length_high strong a -ℤ pos 1 -ℤ c)) (is_path p y && is_path q z) (is_path p y && is_path q z) (λ t. t) (λ t. let l = length_high_mono strong weak s a in omega (arith, ints))
  difference_one_mono y z _ _ _ = tt

  difference_limit_mono : (y z : Path) → Worse Down (Exact.difference_limit weak y z) (Exact.difference_limit strong y z)
  difference_limit_mono y z =
      worse_best Down int_min down_laws (option_map (λ c. c -ℤ pos 1) (Bounds.fact_less weak y z)) (least (Exact.difference_limit_by weak y z) weak) (option_map (λ c. c -ℤ pos 1) (Bounds.fact_less strong y z)) (least (Exact.difference_limit_by strong y z) strong)
      (worse_map Down Down _ _ _ _ (λ c d k. omega (arith, ints)) (fact_less_mono strong weak s y z))
      (worse_best_of Down int_min down_laws (Exact.difference_limit_by strong y z) (Exact.difference_limit_by weak y z) (difference_one_mono y z) strong weak s)

  ends_mono : (arith_op : Arith) (y z : Path) → IsWithin (Exact.exact_ends strong arith_op y z) (Exact.exact_ends weak arith_op y z)
  ends_mono Add y z = met_within (op_range Add (Exact.operand strong y) (Exact.operand strong z)) (op_range Add (Exact.operand weak y) (Exact.operand weak z)) None (Exact.sum_limit strong y z) None (Exact.sum_limit weak y z) (op_range_mono Add y z) tt (sum_limit_mono y z)
  ends_mono Sub y z = met_within (op_range Sub (Exact.operand strong y) (Exact.operand strong z)) (op_range Sub (Exact.operand weak y) (Exact.operand weak z)) (Exact.difference_low strong y z) (Exact.difference_limit strong y z) (Exact.difference_low weak y z) (Exact.difference_limit weak y z) (op_range_mono Sub y z) (worse_map Down Up _ _ _ _ (λ c d k. omega (arith, ints)) (fact_less_mono strong weak s z y)) (difference_limit_mono y z)
  ends_mono Mul y z = op_range_mono Mul y z
  ends_mono Div y z = op_range_mono Div y z
  ends_mono Rem y z = op_range_mono Rem y z
  ends_mono And y z = op_range_mono And y z
  ends_mono Or y z = op_range_mono Or y z
  ends_mono Xor y z = op_range_mono Xor y z
  ends_mono Shl y z = op_range_mono Shl y z
  ends_mono Shr y z = op_range_mono Shr y z
  ends_mono Ushr y z = op_range_mono Ushr y z

  pub exact_mono : (arith_op : Arith) (y z : Path) → IsWithin (Exact.exact_range strong arith_op y z) (Exact.exact_range weak arith_op y z)
  exact_mono arith_op y z = normal_within (Exact.exact_ends strong arith_op y z) (Exact.exact_ends weak arith_op y z) (ends_mono arith_op y z)

  pub unary_mono : (unary : UnaryNum) (y : Path) → IsWithin (Exact.exact_unary strong unary y) (Exact.exact_unary weak unary y)
  unary_mono Negated y =
      let l = lower_mono strong weak s y in
      let k = limit_mono strong weak s y in
      normal_within (interval (neg_ℤ (Bounds.upper_limit strong y)) (neg_ℤ (Bounds.lower_bound strong y))) (interval (neg_ℤ (Bounds.upper_limit weak y)) (neg_ℤ (Bounds.lower_bound weak y))) (within_by_ends _ _ (omega (arith, ints)) (omega (arith, ints)))
  unary_mono Flip y =
      let l = lower_mono strong weak s y in
      let k = limit_mono strong weak s y in
      normal_within (interval (flip_of (Bounds.upper_limit strong y)) (flip_of (Bounds.lower_bound strong y))) (interval (flip_of (Bounds.upper_limit weak y)) (flip_of (Bounds.lower_bound weak y))) (within_by_ends _ _ (omega (arith, ints)) (omega (arith, ints)))

-- an interval with a member has both ends within each interval that it lies within
pub ends_within : (i j : Interval) → i.lo ≤ℤ i.hi → IsWithin i j → (j.lo ≤ℤ i.lo) × (i.hi ≤ℤ j.hi)
ends_within i j some within = ((within.each i.lo (low_end i some)).from, (within.each i.hi (high_end i some)).to)

pub in_int_mono : (i j : Interval) → i.lo ≤ℤ i.hi → IsWithin i j → lies_in_int j ≡ true → lies_in_int i ≡ true
in_int_mono i j some within h = let e = ends_within i j some within in let b = in_int_from j h in in_int_is i (omega (arith, ints)) (omega (arith, ints))

pub fits_mono : (profile : Profile) (i j : Interval) → i.lo ≤ℤ i.hi → IsWithin i j → fits profile j ≡ true → fits profile i ≡ true
fits_mono Ideal i j some within h = h
fits_mono Int32 i j some within h = in_int_mono i j some within h
