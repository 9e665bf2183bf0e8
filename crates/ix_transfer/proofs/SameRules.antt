-- Over the facts on each operand and each array once, the rules of operations give the same facts as over all facts and all named arrays.
use Rattle.std.specs.Prelude.{◌≡◌, ℤ, pos, ◌-ℤ◌, ◌&&◌, int_le, None, List, [], ◌∷◌, ◌++◌, refl}
use Rattle.std.specs.Int.{int_min, int_max}
use Rattle.std.specs.Option.{option_map}
use Rattle.std.proofs.Common.{ap, ◌∙◌}
use Rattle.ix_num.specs.declared.arith.Arith.{Arith}
use Rattle.ix_num.specs.declared.arith.Arith.TheVariants.{Add, Sub, Mul, Div, Rem, And, Or, Xor, Shl, Shr, Ushr}
use Rattle.ix_num.specs.declared.interval.Interval.{Interval}
use Rattle.ix_num.specs.Intervals.{normal}
use Rattle.ix_num.specs.OpRanges.{op_range}
use Rattle.ix_facts.specs.Low.TheVariants as class
use Rattle.ix_core.specs.declared.claim.Type_.{Type_}
use Rattle.ix_core.specs.declared.fact.Path.{Path}
use Rattle.ix_core.specs.declared.fact.Path.TheVariants.{Slot}
use Rattle.ix_core.specs.declared.fact.Fact.{Fact}
use Rattle.ix_core.specs.declared.fact.Fact.TheVariants.{Rng, LenRng, Same, IsLen, Less}
use Rattle.ix_num.specs.Ints.{greatest_int}
use Rattle.ix_core.specs.declared.fact.Profile.{Profile}
use Rattle.ix_core.specs.declared.op.Literal.TheVariants as literal
use Rattle.ix_core.specs.declared.op.OpKind.{OpKind}
use Rattle.ix_core.specs.declared.op.OpKind.TheVariants as op
use Rattle.ix_core.specs.declared.op.UnaryNum.{UnaryNum}
use Rattle.ix_core.specs.declared.op.UnaryNum.TheVariants.{Neg as Negated, Flip}
use Rattle.ix_facts.specs.Bounds
use Rattle.ix_facts.specs.Bounds.{best, least}
use Rattle.ix_facts.specs.Exact as exact
use Rattle.ix_facts.specs.Exact.{if_so, each, met_with, named_arrays, exact_unary, fits, range_facts, low_facts, table_class}
use Rattle.ix_facts.specs.AfterOperation as after
use Rattle.ix_facts.specs.AfterOperation.{is_int, is_array, is_from}
use Rattle.ix_facts.specs.Named.{IsEachOnce}
use Rattle.ix_facts.specs.OnPaths.{HasNamed, each_on, best_on}
use Rattle.ix_intervals.specs.OverPaths.{exact_range}
use Rattle.ix_transfer_rules.specs.OverParts as over
use Rattle.ix_facts.specs.SameFacts.{AreSame}
use Rattle.ix_facts.proofs.Members.{same_itself, same_equal, same_trans, same_app, same_cons, same_if, same_once}
use Rattle.ix_transfer.proofs.BestMembers.{least_once}
use Rattle.ix_transfer.proofs.Silent.{reads_sum, reads_half, reads_length, reads_new_array, reads_flip, reads_copied, reads_array_copied, looks_limit}

module _ (facts on_left on_right : List Fact) (arrays : List Path) (once : IsEachOnce (named_arrays facts) arrays) where
  -- ---- the exact interval

  limit_same : (y z : Path) → HasNamed y on_left facts → least (exact.difference_limit_by facts y z) on_left ≡ least (exact.difference_limit_by facts y z) facts
  limit_same y z n = best_on int_min y (exact.difference_limit_by facts y z) on_left facts (looks_limit facts y z) n

  exact_same : (arith : Arith) (y z : Path) → HasNamed y on_left facts → exact_range facts on_left arrays arith y z ≡ exact.exact_range facts arith y z
  exact_same Add y z n =
      ap (λ l. normal (met_with (op_range Add (exact.operand facts y) (exact.operand facts z)) None l)) (least_once (exact.sum_limit_at facts y z) (named_arrays facts) arrays once)
  exact_same Sub y z n =
      ap (λ l. normal (met_with (op_range Sub (exact.operand facts y) (exact.operand facts z)) (exact.difference_low facts y z) (best int_min (option_map (λ c. c -ℤ pos 1) (Bounds.fact_less facts y z)) l))) (limit_same y z n)
  exact_same Mul y z n = refl
  exact_same Div y z n = refl
  exact_same Rem y z n = refl
  exact_same And y z n = refl
  exact_same Or y z n = refl
  exact_same Xor y z n = refl
  exact_same Shl y z n = refl
  exact_same Shr y z n = refl
  exact_same Ushr y z n = refl

  -- ---- each rule

  sum_same : (t y z : Path) → HasNamed y on_left facts → HasNamed z on_right facts → AreSame (over.sum_facts facts on_left on_right arrays t y z) (after.sum_facts facts t y z)
  sum_same t y z n m =
      same_cons _ _ _ (same_cons _ _ _ (same_cons _ _ _ (same_cons _ _ _ (same_cons _ _ _ (same_app _ _ _ _
      (same_once (after.sum_array facts t y z) (named_arrays facts) arrays once)
      (same_app _ _ _ _
      (same_equal _ _ (each_on y (after.sum_beside facts t y z) on_left facts (reads_sum facts t y z) n))
      (same_equal _ _ (each_on z (after.sum_beside facts t z y) on_right facts (reads_sum facts t z y) m))))))))

  difference_same : (t y z : Path) → AreSame (over.difference_facts facts on_left on_right arrays t y z) (after.difference_facts facts t y z)
  difference_same t y z = same_cons _ _ _ (same_cons _ _ _ (same_cons _ _ _ (same_once (after.difference_array facts t y z) (named_arrays facts) arrays once)))

  half_same : (n : ℤ) (t s z : Path) → HasNamed s on_left facts → over.half_facts facts on_left on_right arrays n t s z ≡ after.half_facts facts n t s z
  half_same n t s z h =
      ap (λ l. if_so (is_from facts z n && (int_le (Bounds.upper_limit facts z) n && is_from facts s (pos 0))) l) (each_on s (after.half_by facts t s) on_left facts (reads_half facts t s) h)

  flip_same : (t y : Path) → HasNamed y on_left facts → AreSame (over.flip_facts facts on_left on_right arrays t y) (after.flip_facts facts t y)
  flip_same t y n =
      same_app _ _ _ _
      (same_once (after.flip_array facts t y) (named_arrays facts) arrays once)
      (same_equal _ _ (each_on y (after.flip_by facts t y) on_left facts (reads_flip facts t y) n))

  where_fits : (profile : Profile) (i j : Interval) (a b : List Fact) → i ≡ j → AreSame a b → AreSame (if_so (fits profile i) a) (if_so (fits profile j) b)
  where_fits profile i j a b e h = same_trans _ _ _ (same_equal _ _ (ap (λ k. if_so (fits profile k) a) e)) (same_if (fits profile j) a b h)

  arith_same : (profile : Profile) (arith : Arith) (t y z : Path) → HasNamed y on_left facts → HasNamed z on_right facts → AreSame (over.arith_facts facts on_left on_right arrays profile arith t y z) (after.arith_facts facts profile arith t y z)
  arith_same profile Add t y z n m = where_fits profile _ _ _ _ (exact_same Add y z n) (sum_same t y z n m)
  arith_same profile Sub t y z n m = where_fits profile _ _ _ _ (exact_same Sub y z n) (difference_same t y z)
  arith_same profile Mul t y z n m = where_fits profile _ _ _ _ (exact_same Mul y z n) (same_itself (after.product_facts facts t y z))
  arith_same profile Div t y z n m = same_equal _ _ (ap (λ l. after.quotient_facts facts t y z ++ l) (half_same (pos 2) t y z n))
  arith_same profile Rem t y z n m = same_itself _
  arith_same profile And t y z n m = same_itself _
  arith_same profile Or t y z n m = same_itself _
  arith_same profile Xor t y z n m = same_itself _
  arith_same profile Shl t y z n m = same_itself _
  arith_same profile Shr t y z n m = same_equal _ _ (ap (λ l. after.shift_facts facts t y ++ l) (half_same (pos 1) t y z n))
  arith_same profile Ushr t y z n m = same_equal _ _ (ap (λ l. after.shift_facts facts t y ++ l) (half_same (pos 1) t y z n))

  pub num_same : (profile : Profile) (arith : Arith) (t y z : Path) → HasNamed y on_left facts → HasNamed z on_right facts → AreSame (over.num_facts facts on_left on_right arrays profile arith t y z) (after.num_facts facts profile arith t y z)
  num_same profile arith t y z n m =
      same_app _ _ _ _
      (same_equal _ _ (ap (λ i. range_facts t i) (exact_same arith y z n)))
      (same_app _ _ _ _
      (same_equal _ _ (ap (λ i. low_facts profile t i (table_class facts arith y z)) (exact_same arith y z n)))
      (arith_same profile arith t y z n m))

  unary_rule_same : (unary : UnaryNum) (t y : Path) → HasNamed y on_left facts → AreSame (over.unary_rule facts on_left on_right arrays unary t y) (after.unary_rule facts unary t y)
  unary_rule_same Negated t y n = same_itself _
  unary_rule_same Flip t y n = flip_same t y n

  pub unary_same : (profile : Profile) (unary : UnaryNum) (t y : Path) → HasNamed y on_left facts → AreSame (over.unary_facts facts on_left on_right arrays profile unary t y) (after.unary_facts facts profile unary t y)
  unary_same profile unary t y n =
      same_app _ _ _ _ (same_itself (range_facts t (exact_unary facts unary y)))
      (same_app _ _ _ _ (same_itself (low_facts profile t (exact_unary facts unary y) class.Unknown)) (unary_rule_same unary t y n))

  pub length_same : (t a : Path) → HasNamed a on_left facts → over.length_facts facts on_left on_right arrays t a ≡ after.length_facts facts t a
  length_same t a n = ap (λ l. IsLen t a ∷ Rng t (Bounds.length_low facts a) (Bounds.length_high facts a) ∷ l) (each_on a (after.length_by facts t a) on_left facts (reads_length facts t a) n)

  pub new_array_same : (t m : Path) → HasNamed m on_left facts → over.new_array_facts facts on_left on_right arrays t m ≡ after.new_array_facts facts t m
  new_array_same t m n = ap (λ l. IsLen m t ∷ Same t t ∷ LenRng t (int_max (Bounds.lower_bound facts m) (pos 0)) (int_min (Bounds.upper_limit facts m) greatest_int) ∷ l) (each_on m (after.new_array_by facts t m) on_left facts (reads_new_array facts t m) n)

-- ---- copies

copied_int_same : (facts on : List Fact) (t s : Path) → HasNamed s on facts → after.copied_int on t s ≡ after.copied_int facts t s
copied_int_same facts on t s n = ap (λ l. Less t s (pos 1) ∷ Less s t (pos 1) ∷ l) (each_on s (after.copied_by t s) on facts (reads_copied t s) n)

copied_array_same : (facts on : List Fact) (t s : Path) → HasNamed s on facts → after.copied_array on t s ≡ after.copied_array facts t s
copied_array_same facts on t s n = ap (λ l. Same t s ∷ l) (each_on s (after.array_copied_by t s) on facts (reads_array_copied t s) n)

pub copied_same : (facts on : List Fact) (ty : Type_) (t s : Path) → HasNamed s on facts → after.copied on ty t s ≡ after.copied facts ty t s
copied_same facts on ty t s n =
    ap (λ l. if_so (is_int ty) l ++ if_so (is_array ty) (after.copied_array on t s)) (copied_int_same facts on t s n)
    ∙ ap (λ l. if_so (is_int ty) (after.copied_int facts t s) ++ if_so (is_array ty) l) (copied_array_same facts on t s n)

-- ---- all operations

module _ (facts : List Fact) (on : Path → List Fact) (arrays : List Path) (named : (p : Path) → HasNamed p (on p) facts) (once : IsEachOnce (named_arrays facts) arrays) where
  pub new_same : (profile : Profile) (kind : OpKind) → AreSame (over.new_facts facts on arrays profile kind) (after.new_facts facts profile kind)
  new_same profile (op.Const t (literal.Int n)) = same_itself _
  new_same profile (op.Const t (literal.Bool b)) = same_itself _
  new_same profile (op.Const t (literal.NullOf ty)) = same_itself _
  new_same profile (op.Copy t s ty) = same_equal _ _ (copied_same facts (on (Slot s)) ty (Slot t) (Slot s) (named (Slot s)))
  new_same profile (op.Num t arith y z) = num_same facts (on (Slot y)) (on (Slot z)) arrays once profile arith (Slot t) (Slot y) (Slot z) (named (Slot y)) (named (Slot z))
  new_same profile (op.Unary t unary y) = unary_same facts (on (Slot y)) [] arrays once profile unary (Slot t) (Slot y) (named (Slot y))
  new_same profile (op.Length t a) = same_equal _ _ (length_same facts (on (Slot a)) [] arrays once (Slot t) (Slot a) (named (Slot a)))
  new_same profile (op.NewArray t ty n) = same_equal _ _ (new_array_same facts (on (Slot n)) [] arrays once (Slot t) (Slot n) (named (Slot n)))
  new_same profile (op.Fill t ty entries) = same_itself _
  new_same profile (op.Load t a i ty) = same_itself _
  new_same profile (op.Store a i v ty) = same_itself _
  new_same profile (op.ReadField t o f) = same_itself _
  new_same profile (op.WriteField o f v) = same_itself _
  new_same profile (op.NewObject call) = same_itself _
  new_same profile (op.StaticCall call) = same_itself _
  new_same profile (op.InstanceCall call) = same_itself _
  new_same profile (op.SuperCall call) = same_itself _
  new_same profile (op.Print value) = same_itself _
