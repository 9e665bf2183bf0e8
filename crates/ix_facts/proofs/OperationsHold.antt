-- After a step of an operation that goes on, its new facts hold: in `int32` after every such step, in `ideal` where the exact result is an int.
use Rattle.std.specs.Prelude.{◌≡◌, true, ◌&&◌, ℤ, pos, negsuc, ◌+ℤ◌, ◌*ℤ◌, ◌-ℤ◌, ◌≤ℤ◌, int_le, List, [], ◌∷◌, ◌++◌, Option, Some, None, IfSome, refl}
use Rattle.std.specs.Int.{int_shr}
use Rattle.std.proofs.Common.{arith, sym, ◌∙◌, subst}
use Rattle.std.proofs.lemmas.Bool.{and_parts}
use Rattle.std.proofs.lemmas.Int.{ints}
use Rattle.ix_num.specs.declared.arith.Arith.{Arith}
use Rattle.ix_num.specs.declared.arith.Arith.TheVariants.{Add, Sub, Mul, Div, Rem, And, Or, Xor, Shl, Shr, Ushr}
use Rattle.ix_num.specs.Ints.{IsInt}
use Rattle.ix_num.specs.Arithmetic.{exact_of, shift_distance, flip_of}
use Rattle.ix_num.proofs.OpRangeLaws.{wrap_of_int}
use Rattle.ix_tables.specs.declared.low.Low.TheVariants as class
use Rattle.ix_tables.specs.LowClasses.{AtLeast, class_of}
use Rattle.ix_tables.proofs.AnswersHold.{low_of_sound}
use Rattle.ix_core.specs.declared.claim.Claim.{Claim}
use Rattle.ix_core.specs.declared.claim.Claim.TheVariants as claim
use Rattle.ix_core.specs.declared.fact.Path.{Path}
use Rattle.ix_core.specs.declared.fact.Path.TheVariants.{Slot}
use Rattle.ix_core.specs.declared.fact.Fact.{Fact}
use Rattle.ix_core.specs.declared.fact.Fact.TheVariants.{LenRng, Low, Same, Less}
use Rattle.ix_core.specs.declared.fact.Profile.{Profile}
use Rattle.ix_core.specs.declared.op.Literal.TheVariants as literal
use Rattle.ix_core.specs.declared.op.OpKind.{OpKind}
use Rattle.ix_core.specs.declared.op.OpKind.TheVariants as op
use Rattle.ix_core.specs.declared.op.UnaryNum.{UnaryNum}
use Rattle.ix_core.specs.declared.op.UnaryNum.TheVariants.{Neg as Negated, Flip}
use Rattle.ix_core.specs.Claims.{True, AreTrue}
use Rattle.ix_core.specs.Heap.{Reading, int_reading, no_reading}
use Rattle.ix_core.specs.Machine.{unary_of}
use Rattle.ix_core.specs.Numbers.{Numbers}
use Rattle.ix_facts.specs.Facts.{AllHold}
use Rattle.ix_facts.specs.Bounds
use Rattle.ix_facts.specs.Exact
use Rattle.ix_facts.specs.Exact.{if_so, fits, range_facts, low_facts, table_class}
use Rattle.ix_facts.specs.AfterOperation as after
use Rattle.ix_facts.specs.AfterOperation.{Computed, Results, loaded_claims}
use Rattle.ix_facts.proofs.BoundsHold.{lower_holds}
use Rattle.ix_facts.proofs.FactLists.{all_hold_app}
use Rattle.ix_facts.proofs.RuleForms.{if_so_holds}
use Rattle.ix_facts.proofs.ExactLaws.{exact_includes, unary_includes, value_is_exact}
use Rattle.ix_facts.proofs.ClassLaws.{class_holds, is_operand}
use Rattle.ix_facts.proofs.OperatorBounds.{IsHalf, quotient_natural, remainder_is_int, and_result_is_int, shr_is_int, ushr_result_is_int, quotient_at_most, quotient_below, half_by_quotient, shr_at_most, ushr_at_most, ushr_is_shr, half_by_shift, remainder_below, remainder_at_most, and_at_most_left, and_at_most_right}
use Rattle.ix_facts.proofs.RulesHold.{range_facts_hold, low_facts_hold, copied_hold, from_holds, sum_facts_hold, difference_facts_hold, product_facts_hold, half_facts_hold, flip_facts_hold, length_facts_hold, new_array_facts_hold}

-- ---- claims on an int that was loaded

claimed_holds : (w : Numbers) (t : Path) (c : Claim) (names : Rattle.ix_core.specs.declared.claim.Name.Name → Reading) → True c (int_reading (w.int t)) names → AllHold (after.claimed_by t c) w
claimed_holds w t (claim.Range low high) names h = (h, tt)
claimed_holds w t (claim.Low low) names h =
    let u = w.int_to t in
    ((h, u), if_so_holds w (int_le (negsuc 0) low && int_le low (pos 1)) (Low t low ∷ []) (λ x. (h, tt)))
claimed_holds w t _ names h = tt

pub loaded_hold : (w : Numbers) (t : Path) (claims : List Claim) (names : Rattle.ix_core.specs.declared.claim.Name.Name → Reading) → AreTrue claims (int_reading (w.int t)) names → AllHold (after.loaded_facts t claims) w
loaded_hold w t [] names h = tt
loaded_hold w t (c ∷ claims) names h = all_hold_app w (after.claimed_by t c) (after.loaded_facts t claims) (claimed_holds w t c names h.0) (loaded_hold w t claims names h.1)

module _ (w : Numbers) (facts : List Fact) (h : AllHold facts w) where
  int_is : (p : Path) → IsInt (w.int p)
  int_is p = record { from = w.int_from p; to = w.int_to p }

  of_some : (o : Option ℤ) (n : ℤ) (P : ℤ → Type 0) → o ≡ Some n → IfSome o P → P n
  of_some None n P e k = absurd cc
  of_some (Some m) n P e k = let i : m ≡ n = cc in subst P i k

  table_holds : (arith_op : Arith) (y z : Path) (n : ℤ) → exact_of arith_op (w.int y) (w.int z) ≡ Some n → AtLeast (table_class facts arith_op y z) n
  table_holds arith_op y z n e =
      of_some (exact_of arith_op (w.int y) (w.int z)) n (AtLeast (table_class facts arith_op y z)) e
      ((low_of_sound arith_op (class_of (Bounds.lower_bound facts y)) (class_of (Bounds.lower_bound facts z))).each (w.int y) (w.int z)
      (is_operand arith_op (w.int y) (int_is y)) (is_operand arith_op (w.int z) (int_is z))
      (class_holds (Bounds.lower_bound facts y) (w.int y) (lower_holds w facts h y)) (class_holds (Bounds.lower_bound facts z) (w.int z) (lower_holds w facts h z)))

  -- a result that is at most an int operand is kept as it is, if it is an int; `/ % & >> >>>` of ints are, but for one quotient
  module _ (profile : Profile) (t y z : Path) where
    fitting : (arith_op : Arith) (c : Computed profile (exact_of arith_op (w.int y) (w.int z)) (w.int t)) → fits profile (Exact.exact_range facts arith_op y z) ≡ true → w.int t ≡ c.result
    fitting arith_op c f = value_is_exact profile (Exact.exact_range facts arith_op y z) (exact_of arith_op (w.int y) (w.int z)) (w.int t) c (exact_includes w facts h arith_op y z c.result c.is) f

    -- an int result is the result
    whole : (exact : Option ℤ) (c : Computed profile exact (w.int t)) → IsInt c.result → w.int t ≡ c.result
    whole exact c int = c.kept ∙ wrap_of_int c.result int

    quotient_holds : (c : Computed profile (exact_of Div (w.int y) (w.int z)) (w.int t)) → AllHold (after.quotient_facts facts t y z) w
    quotient_holds c =
        let top = w.int_to y in
        all_hold_app w (if_so (after.is_from facts y (pos 0) && after.is_from facts z (pos 0)) (Less t y (pos 1) ∷ [])) (if_so (after.is_from facts y (pos 1) && after.is_from facts z (pos 2)) (Less t y (pos 0) ∷ []))
        (if_so_holds w (after.is_from facts y (pos 0) && after.is_from facts z (pos 0)) (Less t y (pos 1) ∷ [])
        (λ x.
        let both = and_parts (after.is_from facts y (pos 0)) (after.is_from facts z (pos 0)) x in
        let a = from_holds w facts h y (pos 0) both.0 in
        let b = from_holds w facts h z (pos 0) both.1 in
        let most = quotient_at_most (w.int y) (w.int z) c.result a b c.is in
        let least = quotient_natural (w.int y) (w.int z) c.result a b c.is in
        let e = whole (exact_of Div (w.int y) (w.int z)) c (record { from = omega (arith, ints); to = omega (arith, ints) }) in
        (omega (arith, ints), tt)))
        (if_so_holds w (after.is_from facts y (pos 1) && after.is_from facts z (pos 2)) (Less t y (pos 0) ∷ [])
        (λ x.
        let both = and_parts (after.is_from facts y (pos 1)) (after.is_from facts z (pos 2)) x in
        let a = from_holds w facts h y (pos 1) both.0 in
        let b = from_holds w facts h z (pos 2) both.1 in
        let most = quotient_below (w.int y) (w.int z) c.result a b c.is in
        let least = quotient_natural (w.int y) (w.int z) c.result (omega (arith, ints)) (omega (arith, ints)) c.is in
        let e = whole (exact_of Div (w.int y) (w.int z)) c (record { from = omega (arith, ints); to = omega (arith, ints) }) in
        (omega (arith, ints), tt)))

    remainder_holds : (c : Computed profile (exact_of Rem (w.int y) (w.int z)) (w.int t)) → AllHold (after.remainder_facts facts t y z) w
    remainder_holds c =
        let e = whole (exact_of Rem (w.int y) (w.int z)) c (remainder_is_int (w.int y) (w.int z) c.result (int_is y) c.is) in
        all_hold_app w (if_so (after.is_from facts z (pos 0)) (Less t z (pos 0) ∷ [])) (if_so (after.is_from facts y (pos 0)) (Less t y (pos 1) ∷ []))
        (if_so_holds w (after.is_from facts z (pos 0)) (Less t z (pos 0) ∷ []) (λ x. let most = remainder_below (w.int y) (w.int z) c.result (from_holds w facts h z (pos 0) x) c.is in (omega (arith, ints), tt)))
        (if_so_holds w (after.is_from facts y (pos 0)) (Less t y (pos 1) ∷ []) (λ x. let most = remainder_at_most (w.int y) (w.int z) c.result (from_holds w facts h y (pos 0) x) c.is in (omega (arith, ints), tt)))

    and_holds : (c : Computed profile (exact_of And (w.int y) (w.int z)) (w.int t)) → AllHold (after.and_facts facts t y z) w
    and_holds c =
        let e = whole (exact_of And (w.int y) (w.int z)) c (and_result_is_int (w.int y) (w.int z) c.result (int_is y) (int_is z) c.is) in
        all_hold_app w (if_so (after.is_from facts z (pos 0)) (Less t z (pos 1) ∷ [])) (if_so (after.is_from facts y (pos 0)) (Less t y (pos 1) ∷ []))
        (if_so_holds w (after.is_from facts z (pos 0)) (Less t z (pos 1) ∷ []) (λ x. let most = and_at_most_right (w.int y) (w.int z) c.result (from_holds w facts h z (pos 0) x) (w.int_to z) c.is in (omega (arith, ints), tt)))
        (if_so_holds w (after.is_from facts y (pos 0)) (Less t y (pos 1) ∷ []) (λ x. let most = and_at_most_left (w.int y) (w.int z) c.result (from_holds w facts h y (pos 0) x) (w.int_to y) c.is in (omega (arith, ints), tt)))

    -- a shift, with what is known of its result
    shift_holds : (arith_op : Arith) (c : Computed profile (exact_of arith_op (w.int y) (w.int z)) (w.int t)) → IsInt c.result → (pos 0 ≤ℤ w.int y → int_shr (w.int y) (shift_distance (w.int z)) ≡ c.result)
        → (pos 0 ≤ℤ w.int y → c.result ≤ℤ w.int y) → AllHold (after.shift_facts facts t y ++ after.half_facts facts (pos 1) t y z) w
    shift_holds arith_op c int shifted most =
        let e = whole (exact_of arith_op (w.int y) (w.int z)) c int in
        all_hold_app w (after.shift_facts facts t y) (after.half_facts facts (pos 1) t y z)
        (if_so_holds w (after.is_from facts y (pos 0)) (Less t y (pos 1) ∷ []) (λ x. let m = most (from_holds w facts h y (pos 0) x) in (omega (arith, ints), tt)))
        (half_facts_hold w facts h (pos 1) t y z (λ a b. subst (IsHalf (w.int y)) (sym e) (half_by_shift (w.int y) (w.int z) c.result a b (shifted a))))

    arith_holds : (arith_op : Arith) → Computed profile (exact_of arith_op (w.int y) (w.int z)) (w.int t) → AllHold (after.arith_facts facts profile arith_op t y z) w
    arith_holds Add c = if_so_holds w (fits profile (Exact.exact_range facts Add y z)) (after.sum_facts facts t y z) (λ f. let e = fitting Add c f in let i : w.int y +ℤ w.int z ≡ c.result = cc (c.is) in sum_facts_hold w facts h t y z (omega (arith, ints)))
    arith_holds Sub c = if_so_holds w (fits profile (Exact.exact_range facts Sub y z)) (after.difference_facts facts t y z) (λ f. let e = fitting Sub c f in let i : w.int y -ℤ w.int z ≡ c.result = cc (c.is) in difference_facts_hold w facts h t y z (omega (arith, ints)))
    arith_holds Mul c = if_so_holds w (fits profile (Exact.exact_range facts Mul y z)) (after.product_facts facts t y z) (λ f. let e = fitting Mul c f in let i : w.int y *ℤ w.int z ≡ c.result = cc (c.is) in product_facts_hold w facts h t y z (e ∙ sym i))
    arith_holds Div c =
        all_hold_app w (after.quotient_facts facts t y z) (after.half_facts facts (pos 2) t y z) (quotient_holds c)
        (half_facts_hold w facts h (pos 2) t y z
        (λ a b.
        let half = half_by_quotient (w.int y) (w.int z) c.result a b c.is in
        let top = w.int_to y in
        let e = whole (exact_of Div (w.int y) (w.int z)) c (record { from = omega (arith, ints, half.0, half.1); to = omega (arith, ints, half.0, half.1) }) in
        subst (IsHalf (w.int y)) (sym e) half))
    arith_holds Rem c = remainder_holds c
    arith_holds And c = and_holds c
    arith_holds Or c = tt
    arith_holds Xor c = tt
    arith_holds Shl c = tt
    arith_holds Shr c = shift_holds Shr c (shr_is_int (w.int y) (w.int z) c.result (int_is y) c.is) (λ a. cc (c.is)) (λ a. shr_at_most (w.int y) (w.int z) c.result a c.is)
    arith_holds Ushr c = shift_holds Ushr c (ushr_result_is_int (w.int y) (w.int z) c.result (int_is y) c.is) (λ a. ushr_is_shr (w.int y) (w.int z) c.result a (w.int_to y) c.is) (λ a. ushr_at_most (w.int y) (w.int z) c.result a (w.int_to y) c.is)

    pub num_holds : (arith_op : Arith) → Computed profile (exact_of arith_op (w.int y) (w.int z)) (w.int t) → AllHold (after.num_facts facts profile arith_op t y z) w
    num_holds arith_op c =
        let exact = Exact.exact_range facts arith_op y z in
        let p = exact_includes w facts h arith_op y z c.result c.is in
        all_hold_app w (range_facts t exact) (low_facts profile t exact (table_class facts arith_op y z) ++ after.arith_facts facts profile arith_op t y z)
        (range_facts_hold w profile t exact (exact_of arith_op (w.int y) (w.int z)) c p)
        (all_hold_app w (low_facts profile t exact (table_class facts arith_op y z)) (after.arith_facts facts profile arith_op t y z)
        (low_facts_hold w profile t exact (exact_of arith_op (w.int y) (w.int z)) c p (table_class facts arith_op y z) (table_holds arith_op y z c.result c.is))
        (arith_holds arith_op c))

  module _ (profile : Profile) (t y : Path) where
    unary_rule_holds : (unary : UnaryNum) → Computed profile (Some (unary_of unary (w.int y))) (w.int t) → AllHold (after.unary_rule facts unary t y) w
    unary_rule_holds Negated c = tt
    unary_rule_holds Flip c =
        let i : flip_of (w.int y) ≡ c.result = cc (c.is) in
        let low = w.int_from y in
        let high = w.int_to y in
        let int : IsInt c.result = record { from = omega (arith, ints); to = omega (arith, ints) } in
        let e = c.kept ∙ wrap_of_int c.result int in
        flip_facts_hold w facts h t y (omega (arith, ints))

    pub unary_holds : (unary : UnaryNum) → Computed profile (Some (unary_of unary (w.int y))) (w.int t) → AllHold (after.unary_facts facts profile unary t y) w
    unary_holds unary c =
        let exact = Exact.exact_unary facts unary y in
        let i : unary_of unary (w.int y) ≡ c.result = cc (c.is) in
        let p = subst (Rattle.ix_num.specs.Intervals.Includes exact) i (unary_includes w facts h unary y) in
        all_hold_app w (range_facts t exact) (low_facts profile t exact class.Unknown ++ after.unary_rule facts unary t y)
        (range_facts_hold w profile t exact (Some (unary_of unary (w.int y))) c p)
        (all_hold_app w (low_facts profile t exact class.Unknown) (after.unary_rule facts unary t y)
        (low_facts_hold w profile t exact (Some (unary_of unary (w.int y))) c p class.Unknown tt)
        (unary_rule_holds unary c))

  -- the new facts of an operation hold where the facts do and the target has what the operation gives
  pub new_facts_hold : (profile : Profile) (kind : OpKind) → Results profile kind w w → AllHold (after.new_facts facts profile kind) w
  new_facts_hold profile (op.Const t (literal.Int n)) r = ((omega (arith, ints), omega (arith, ints)), tt)
  new_facts_hold profile (op.Const t (literal.Bool answer)) r = tt
  new_facts_hold profile (op.Const t (literal.NullOf ty)) r = if_so_holds w (after.is_array ty) (LenRng (Slot t) (pos 0) (pos 0) ∷ Same (Slot t) (Slot t) ∷ []) (λ x. ((omega (arith, ints), omega (arith, ints)), (refl, tt)))
  new_facts_hold profile (op.Copy t s ty) r = copied_hold w (Slot t) (Slot s) (record { int = r.0; size = r.1 }) facts h ty
  new_facts_hold profile (op.Num t arith_op y z) r = num_holds profile (Slot t) (Slot y) (Slot z) arith_op r
  new_facts_hold profile (op.Unary t unary y) r = unary_holds profile (Slot t) (Slot y) unary r
  new_facts_hold profile (op.Length t a) r = length_facts_hold w facts h (Slot t) (Slot a) r
  new_facts_hold profile (op.NewArray t ty n) r = new_array_facts_hold w facts h (Slot t) (Slot n) r
  new_facts_hold profile (op.Fill t ty entries) r = ((omega (arith, ints), omega (arith, ints)), (refl, tt))
  new_facts_hold profile (op.Load t a i ty) r =
      all_hold_app w (if_so (after.holds_arrays ty) (Same (Slot t) (Slot t) ∷ [])) (after.loaded_facts (Slot t) (loaded_claims ty))
      (if_so_holds w (after.holds_arrays ty) (Same (Slot t) (Slot t) ∷ []) (λ x. (refl, tt)))
      (loaded_hold w (Slot t) (loaded_claims ty) (λ name. no_reading) r)
  new_facts_hold profile (op.Store a i v ty) r = tt
  new_facts_hold profile (op.ReadField t o f) r = tt
  new_facts_hold profile (op.WriteField o f v) r = tt
  new_facts_hold profile (op.NewObject call) r = tt
  new_facts_hold profile (op.StaticCall call) r = tt
  new_facts_hold profile (op.InstanceCall call) r = tt
  new_facts_hold profile (op.SuperCall call) r = tt
  new_facts_hold profile (op.Print value) r = tt
