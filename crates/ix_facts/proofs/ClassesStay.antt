-- What an int is at least is -1, 0 or 1 in all that the rules of operations give, where it is so in what is known.
use Rattle.std.specs.Prelude.{◌≡◌, Bool, true, false, ◌&&◌, ℤ, pos, negsuc, ◌+ℤ◌, ◌-ℤ◌, int_le, int_lt, List, [], ◌∷◌, ◌++◌, Option, Some, None, refl}
use Rattle.std.proofs.Common.{arith, inl, inr, sym, subst, ⊎_elim}
use Rattle.std.proofs.lemmas.Bool.{and_parts}
use Rattle.std.proofs.lemmas.Int.{ints}
use Rattle.ix_num.specs.Ints.{least_int, greatest_int}
use Rattle.ix_num.specs.declared.arith.Arith.{Arith}
use Rattle.ix_num.specs.declared.arith.Arith.TheVariants.{Add, Sub, Mul, Div, Rem, And, Or, Xor, Shl, Shr, Ushr}
use Rattle.ix_num.specs.declared.interval.Interval.{Interval}
use Rattle.ix_tables.specs.declared.low.Low.{Low as Class}
use Rattle.ix_tables.specs.declared.low.Low.TheVariants as class
use Rattle.ix_tables.specs.LowClasses.{class_of}
use Rattle.ix_core.specs.declared.claim.Claim.{Claim}
use Rattle.ix_core.specs.declared.claim.Claim.TheVariants as claim
use Rattle.ix_core.specs.declared.claim.Type_.{Type_}
use Rattle.ix_core.specs.declared.fact.Path.{Path}
use Rattle.ix_core.specs.declared.fact.Path.TheVariants.{Slot}
use Rattle.ix_core.specs.declared.fact.PathOff.TheVariants.{Nothing, Plus, Minus}
use Rattle.ix_core.specs.declared.fact.PathClaim.{PathClaim}
use Rattle.ix_core.specs.declared.fact.PathClaim.TheVariants as path_claim
use Rattle.ix_core.specs.declared.fact.Fact.{Fact}
use Rattle.ix_core.specs.declared.fact.Fact.TheVariants.{Rng, LenRng, Low, Same, IsLen, Less, Sum, Search, Neg, Upper}
use Rattle.ix_core.specs.declared.fact.Profile.{Profile}
use Rattle.ix_core.specs.declared.op.Literal.TheVariants as literal
use Rattle.ix_core.specs.declared.op.OpKind.{OpKind}
use Rattle.ix_core.specs.declared.op.OpKind.TheVariants as op
use Rattle.ix_core.specs.declared.op.UnaryNum.{UnaryNum}
use Rattle.ix_core.specs.declared.op.UnaryNum.TheVariants.{Neg as Negated, Flip}
use Rattle.ix_core.proofs.Cases.{by_test}
use Rattle.ix_facts.specs.Bounds
use Rattle.ix_facts.specs.Bounds.{is_path}
use Rattle.ix_facts.specs.Facts.{IsIn, orders, in_orders}
use Rattle.ix_facts.specs.Forget.{without}
use Rattle.ix_facts.specs.Closure.{kept_fact, kept}
use Rattle.ix_facts.specs.Exact.{if_so, each, each_path, if_some, named_ints, named_arrays, range_facts, class_facts, low_facts, exact_range, exact_unary, table_class}
use Rattle.ix_facts.specs.AfterOperation as after
use Rattle.ix_facts.specs.AfterOperation.{is_int, is_array, copied_by, loaded_facts}
use Rattle.ix_facts.specs.Finish as finish
use Rattle.ix_facts.specs.After.{of_target, finished_by, finished, beside_target, kept_new, after_facts, copy_facts}
use Rattle.ix_facts.specs.Assume.{claim_facts}
use Rattle.ix_facts.specs.Systems.{HasClass, HaveClasses}
use Rattle.ix_facts.proofs.FactLists.{in_either, from_in_orders}
use Rattle.ix_facts.proofs.Frame.{in_without}
use Rattle.ix_facts.proofs.Tests.{at_most_true}

data Classed : List Fact → Type 0 where
  classed_none : Classed []
  classed_cons : (f : Fact) (facts : List Fact) → HasClass f → Classed facts → Classed (f ∷ facts)

one_classed : (f : Fact) → HasClass f → Classed (f ∷ [])
one_classed f x = classed_cons f [] x classed_none

two_classed : (f g : Fact) → HasClass f → HasClass g → Classed (f ∷ g ∷ [])
two_classed f g x y = classed_cons f (g ∷ []) x (one_classed g y)

classed_app : (a b : List Fact) → Classed a → Classed b → Classed (a ++ b)
classed_app _ b classed_none y = y
classed_app _ b (classed_cons f a e x) y = classed_cons f (a ++ b) e (classed_app a b x y)

classed_if : (t : Bool) (facts : List Fact) → Classed facts → Classed (if_so t facts)
classed_if true facts x = x
classed_if false facts x = classed_none

classed_each : (rule : Fact → List Fact) → ((f : Fact) → Classed (rule f)) → (facts : List Fact) → Classed (each rule facts)
classed_each rule one [] = classed_none
classed_each rule one (f ∷ facts) = classed_app (rule f) (each rule facts) (one f) (classed_each rule one facts)

classed_path : (rule : Path → List Fact) → ((p : Path) → Classed (rule p)) → (paths : List Path) → Classed (each_path rule paths)
classed_path rule one [] = classed_none
classed_path rule one (p ∷ paths) = classed_app (rule p) (each_path rule paths) (one p) (classed_path rule one paths)

classed_some : (make : ℤ → Fact) → ((c : ℤ) → HasClass (make c)) → (o : Option ℤ) → Classed (if_some make o)
classed_some make one None = classed_none
classed_some make one (Some c) = one_classed (make c) (one c)

classed_kept_fact : (f : Fact) → HasClass f → Classed (kept_fact f)
classed_kept_fact (Less p q c) x = by_test (int_lt greatest_int c) (λ t. rw t classed_none) (λ t. rw t (one_classed _ tt))
classed_kept_fact (Upper p a o c) x = by_test (int_lt c least_int) (λ t. rw t classed_none) (λ t. rw t (one_classed _ tt))
classed_kept_fact (Search p a) x = one_classed _ tt
classed_kept_fact (Rng p l h) x = one_classed _ tt
classed_kept_fact (LenRng p l h) x = one_classed _ tt
classed_kept_fact (Low p c) x = one_classed _ x
classed_kept_fact (Same a b) x = one_classed _ tt
classed_kept_fact (IsLen p a) x = one_classed _ tt
classed_kept_fact (Sum t y z) x = one_classed _ tt
classed_kept_fact (Neg p a) x = one_classed _ tt

classed_kept : (facts : List Fact) → Classed facts → Classed (kept facts)
classed_kept _ classed_none = classed_none
classed_kept _ (classed_cons f facts e x) = classed_app (kept_fact f) (kept facts) (classed_kept_fact f e) (classed_kept facts x)

classed_so : (t : Bool) (facts : List Fact) → (t ≡ true → Classed facts) → Classed (if_so t facts)
classed_so true facts x = x refl
classed_so false facts x = classed_none

class_classed : (t : Path) (known : Class) → Classed (class_facts t known)
class_classed t class.Unknown = classed_none
class_classed t class.MinusOne = one_classed _ (record { above = omega (arith, ints); below = omega (arith, ints) })
class_classed t class.Zero = one_classed _ (record { above = omega (arith, ints); below = omega (arith, ints) })
class_classed t class.One = one_classed _ (record { above = omega (arith, ints); below = omega (arith, ints) })

low_claim_classed : (t : Path) (from : ℤ) → Classed (if_so (int_le (negsuc 0) from && int_le from (pos 1)) (Low t from ∷ []))
low_claim_classed t from =
    classed_so (int_le (negsuc 0) from && int_le from (pos 1)) (Low t from ∷ [])
    (λ x. let both = and_parts (int_le (negsuc 0) from) (int_le from (pos 1)) x in one_classed _ (record { above = at_most_true (negsuc 0) from both.0; below = at_most_true from (pos 1) both.1 }))

-- what a copy gives
two_copied_classed : (make : Path → Path → Fact) (t s p q : Path) → ((x y : Path) → HasClass (make x y)) → Classed (after.two_copied make t s p q)
two_copied_classed make t s p q one =
    classed_app _ _ (classed_if _ (make p t ∷ []) (one_classed _ (one p t)))
    (classed_app _ _ (classed_if _ (make t q ∷ []) (one_classed _ (one t q))) (classed_if _ (make t t ∷ []) (one_classed _ (one t t))))

copied_classed : (t s : Path) (f : Fact) → HasClass f → Classed (copied_by t s f)
copied_classed t s (Rng p l h) x = classed_if _ (Rng t l h ∷ []) (one_classed _ tt)
copied_classed t s (LenRng p l h) x = classed_if _ (LenRng t l h ∷ []) (one_classed _ tt)
copied_classed t s (Low p c) x = classed_if _ (Low t c ∷ []) (one_classed _ x)
copied_classed t s (Same a b) x = two_copied_classed Same t s a b (λ y z. tt)
copied_classed t s (IsLen p a) x = two_copied_classed IsLen t s p a (λ y z. tt)
copied_classed t s (Search p a) x = two_copied_classed Search t s p a (λ y z. tt)
copied_classed t s (Neg p a) x = two_copied_classed Neg t s p a (λ y z. tt)
copied_classed t s (Sum u y z) x = classed_app _ _ (two_copied_classed (Sum u) t s y z (λ i j. tt)) (classed_if _ (Sum t y z ∷ after.two_copied (Sum t) t s y z) (classed_cons _ _ tt (two_copied_classed (Sum t) t s y z (λ i j. tt))))
copied_classed t s (Less p q c) x = classed_none
copied_classed t s (Upper p a o c) x = classed_none

array_copied_classed : (t s : Path) (f : Fact) → Classed (after.array_copied_by t s f)
array_copied_classed t s (Upper p a o c) = classed_if _ (Upper p t o c ∷ []) (one_classed _ tt)
array_copied_classed t s _ = classed_none

copies_classed : (t s : Path) (facts : List Fact) → HaveClasses facts → Classed (each (copied_by t s) facts)
copies_classed t s [] have = classed_none
copies_classed t s (f ∷ facts) have = classed_app _ _ (copied_classed t s f (have f (inl refl))) (copies_classed t s facts (λ g i. have g (inr i)))

copied_list_classed : (t s : Path) (facts : List Fact) → HaveClasses facts → (ty : Type_) → Classed (after.copied facts ty t s)
copied_list_classed t s facts have ty =
    classed_app _ _ (classed_if (is_int ty) (after.copied_int facts t s) (classed_cons _ _ tt (classed_cons _ _ tt (copies_classed t s facts have))))
    (classed_if (is_array ty) (after.copied_array facts t s) (classed_cons _ _ tt (classed_each (after.array_copied_by t s) (array_copied_classed t s) facts)))

-- the finish
module _ (facts new : List Fact) (t : Path) where
  above_classed : (q : Path) (c : ℤ) (f : Fact) → Classed (finish.step_above t q c f)
  above_classed q c (Less x r d) = classed_if (is_path x q) (Less t r (c +ℤ d -ℤ pos 1) ∷ []) (one_classed _ tt)
  above_classed q c _ = classed_none

  below_classed : (q : Path) (c : ℤ) (f : Fact) → Classed (finish.step_below t q c f)
  below_classed q c (Less r x d) = classed_if (is_path x q) (Less r t (c +ℤ d -ℤ pos 1) ∷ []) (one_classed _ tt)
  below_classed q c _ = classed_none

  bound_above_classed : (q : Path) (c : ℤ) (f : Fact) → Classed (finish.bound_above t q c f)
  bound_above_classed q c (Upper x a o d) = classed_if (is_path x q) (Upper t a o (d -ℤ c +ℤ pos 1) ∷ []) (one_classed _ tt)
  bound_above_classed q c (IsLen x a) = classed_if (is_path x q) (Upper t a Nothing (pos 0 -ℤ c) ∷ []) (one_classed _ tt)
  bound_above_classed q c _ = classed_none

  bound_below_classed : (q : Path) (c : ℤ) (f : Fact) → Classed (finish.bound_below t q c f)
  bound_below_classed q c (Upper r a (Minus x) d) = classed_if (is_path x q) (Upper r a (Minus t) (d -ℤ c +ℤ pos 1) ∷ []) (one_classed _ tt)
  bound_below_classed q c (Upper r a (Plus x) d) = classed_none
  bound_below_classed q c (Upper r a Nothing d) = classed_none
  bound_below_classed q c _ = classed_none

  along_classed : (f : Fact) → Classed (finish.along_by facts new t f)
  along_classed (Less p q c) =
      classed_app (if_so (is_path p t) (each (finish.step_above t q c) facts ++ each (finish.bound_above t q c) facts)) (if_so (is_path q t) (each (finish.step_below t p c) facts ++ each (finish.bound_below t p c) facts))
      (classed_if (is_path p t) _ (classed_app (each (finish.step_above t q c) facts) (each (finish.bound_above t q c) facts) (classed_each (finish.step_above t q c) (above_classed q c) facts) (classed_each (finish.bound_above t q c) (bound_above_classed q c) facts)))
      (classed_if (is_path q t) _ (classed_app (each (finish.step_below t p c) facts) (each (finish.bound_below t p c) facts) (classed_each (finish.step_below t p c) (below_classed p c) facts) (classed_each (finish.bound_below t p c) (bound_below_classed p c) facts)))
  along_classed _ = classed_none

  int_classed : Classed (finish.finish_int facts new t)
  int_classed =
      classed_app (each (finish.along_by facts new t) new) (each_path (finish.beside_int facts new t) (named_ints facts) ++ each_path (finish.beside_array facts new t) (named_arrays facts))
      (classed_each (finish.along_by facts new t) along_classed new)
      (classed_app (each_path (finish.beside_int facts new t) (named_ints facts)) (each_path (finish.beside_array facts new t) (named_arrays facts))
      (classed_path (finish.beside_int facts new t) (λ r. classed_app _ _ (classed_if _ (Less t r _ ∷ []) (one_classed _ tt)) (classed_if _ (Less r t _ ∷ []) (one_classed _ tt))) (named_ints facts))
      (classed_path (finish.beside_array facts new t) (λ a. classed_if _ (Upper t a Nothing _ ∷ []) (one_classed _ tt)) (named_arrays facts)))

  array_classed : Classed (finish.finish_array facts new t)
  array_classed = classed_path (finish.beside_length facts new t) (λ r. classed_if _ (Upper r t Nothing _ ∷ []) (one_classed _ tt)) (named_ints facts)

  by_classed : (ty : Type_) → Classed (finished_by ty facts new t)
  by_classed ty = classed_app _ _ (classed_if (is_int ty) (finish.finish_int facts new t) int_classed) (classed_if (is_array ty) (finish.finish_array facts new t) array_classed)

finished_classed : (facts new : List Fact) (kind : OpKind) → Classed (finished facts new kind)
finished_classed facts new (op.Const t (literal.Int n)) = int_classed facts new (Slot t)
finished_classed facts new (op.Const t (literal.Bool answer)) = classed_none
finished_classed facts new (op.Const t (literal.NullOf ty)) = classed_if (is_array ty) (finish.finish_array facts new (Slot t)) (array_classed facts new (Slot t))
finished_classed facts new (op.Copy t s ty) = by_classed facts new (Slot t) ty
finished_classed facts new (op.Num t arith_op y z) = int_classed facts new (Slot t)
finished_classed facts new (op.Unary t unary y) = int_classed facts new (Slot t)
finished_classed facts new (op.Length t a) = int_classed facts new (Slot t)
finished_classed facts new (op.NewArray t ty n) = array_classed facts new (Slot t)
finished_classed facts new (op.Fill t ty entries) = array_classed facts new (Slot t)
finished_classed facts new (op.Load t a i ty) =
    classed_app _ _ (classed_if (Rattle.ix_facts.specs.After.holds_ints ty) (finish.finish_int facts new (Slot t)) (int_classed facts new (Slot t)))
    (classed_if (Rattle.ix_facts.specs.AfterOperation.holds_arrays ty) (finish.finish_array facts new (Slot t)) (array_classed facts new (Slot t)))
finished_classed facts new (op.Store a i v ty) = classed_none
finished_classed facts new (op.ReadField t o f) = classed_none
finished_classed facts new (op.WriteField o f v) = classed_none
finished_classed facts new (op.NewObject call) = classed_none
finished_classed facts new (op.StaticCall call) = classed_none
finished_classed facts new (op.InstanceCall call) = classed_none
finished_classed facts new (op.SuperCall call) = classed_none
finished_classed facts new (op.Print value) = classed_none

-- the rules of operations
module _ (facts : List Fact) (profile : Profile) (t y z : Path) where
  sum_array_classed : (a : Path) → Classed (after.sum_array facts t y z a)
  sum_array_classed a =
      classed_app _ _ (classed_some (Upper t a Nothing) (λ c. tt) (Bounds.upper_bound facts y a (Plus z)))
      (classed_app _ _ (classed_some (Upper t a (Minus z)) (λ c. tt) (Bounds.upper_bound facts y a Nothing)) (classed_some (Upper t a (Minus y)) (λ c. tt) (Bounds.upper_bound facts z a Nothing)))

  sum_beside_classed : (x w : Path) (f : Fact) → Classed (after.sum_beside facts t x w f)
  sum_beside_classed x w (Sum r v q) =
      classed_if (is_path v x) _ (classed_app _ _ (classed_some (Less t r) (λ c. tt) (Bounds.fact_less facts w q)) (classed_some (Less r t) (λ c. tt) (Bounds.fact_less facts q w)))
  sum_beside_classed x w _ = classed_none

  sum_classed : Classed (after.sum_facts facts t y z)
  sum_classed =
      classed_cons _ _ tt (classed_cons _ _ tt (classed_cons _ _ tt (classed_cons _ _ tt (classed_cons _ _ tt (classed_app _ _ (classed_path (after.sum_array facts t y z) sum_array_classed (named_arrays facts))
      (classed_app _ _ (classed_each (after.sum_beside facts t y z) (sum_beside_classed y z) facts) (classed_each (after.sum_beside facts t z y) (sum_beside_classed z y) facts)))))))

  difference_array_classed : (a : Path) → Classed (after.difference_array facts t y z a)
  difference_array_classed a = classed_app _ _ (classed_some (Upper t a (Plus z)) (λ c. tt) (Bounds.upper_bound facts y a Nothing)) (classed_some (Upper t a Nothing) (λ c. tt) (Bounds.upper_bound facts y a (Minus z)))

  difference_classed : Classed (after.difference_facts facts t y z)
  difference_classed = classed_cons _ _ tt (classed_cons _ _ tt (classed_cons _ _ tt (classed_path (after.difference_array facts t y z) difference_array_classed (named_arrays facts))))

  between_classed : (p q : Path) → Classed (after.half_between facts t p q)
  between_classed p q = classed_app _ _ (classed_if _ (Less p t (pos 1) ∷ Less t q (pos 1) ∷ []) (two_classed _ _ tt tt)) (classed_if _ (Less t q (pos 0) ∷ []) (one_classed _ tt))

  half_by_classed : (f : Fact) → Classed (after.half_by facts t y f)
  half_by_classed (Sum x p q) = classed_if (is_path x y) (after.half_between facts t p q) (between_classed p q)
  half_by_classed _ = classed_none

  half_classed : (n : ℤ) → Classed (after.half_facts facts n t y z)
  half_classed n = classed_if _ (each (after.half_by facts t y) facts) (classed_each (after.half_by facts t y) half_by_classed facts)

  shift_classed : Classed (after.shift_facts facts t y)
  shift_classed = classed_if _ (Less t y (pos 1) ∷ []) (one_classed _ tt)

  arith_classed : (arith_op : Arith) → Classed (after.arith_facts facts profile arith_op t y z)
  arith_classed Add = classed_if _ (after.sum_facts facts t y z) sum_classed
  arith_classed Sub = classed_if _ (after.difference_facts facts t y z) difference_classed
  arith_classed Mul = classed_if _ (after.product_facts facts t y z) (classed_app _ _ (classed_if _ (Less y t (pos 1) ∷ []) (one_classed _ tt)) (classed_if _ (Less z t (pos 1) ∷ []) (one_classed _ tt)))
  arith_classed Div = classed_app _ _ (classed_app _ _ (classed_if _ (Less t y (pos 1) ∷ []) (one_classed _ tt)) (classed_if _ (Less t y (pos 0) ∷ []) (one_classed _ tt))) (half_classed (pos 2))
  arith_classed Rem = classed_app _ _ (classed_if _ (Less t z (pos 0) ∷ []) (one_classed _ tt)) (classed_if _ (Less t y (pos 1) ∷ []) (one_classed _ tt))
  arith_classed And = classed_app _ _ (classed_if _ (Less t z (pos 1) ∷ []) (one_classed _ tt)) (classed_if _ (Less t y (pos 1) ∷ []) (one_classed _ tt))
  arith_classed Or = classed_none
  arith_classed Xor = classed_none
  arith_classed Shl = classed_none
  arith_classed Shr = classed_app _ _ shift_classed (half_classed (pos 1))
  arith_classed Ushr = classed_app _ _ shift_classed (half_classed (pos 1))

  range_classed : (i : Interval) → Classed (range_facts t i)
  range_classed i = classed_if _ (Rng t i.lo i.hi ∷ []) (one_classed _ tt)

  low_classed : (i : Interval) (known : Class) → Classed (low_facts profile t i known)
  low_classed i known = classed_if _ _ (classed_app _ _ (class_classed t (class_of i.lo)) (class_classed t known))

  num_classed : (arith_op : Arith) → Classed (after.num_facts facts profile arith_op t y z)
  num_classed arith_op = classed_app _ _ (range_classed (exact_range facts arith_op y z)) (classed_app _ _ (low_classed (exact_range facts arith_op y z) (table_class facts arith_op y z)) (arith_classed arith_op))

  flip_array_classed : (a : Path) → Classed (after.flip_array facts t y a)
  flip_array_classed a = classed_if _ (Neg t a ∷ []) (one_classed _ tt)

  flip_by_classed : (f : Fact) → Classed (after.flip_by facts t y f)
  flip_by_classed (Search p a) = classed_if _ (Upper t a Nothing (negsuc 0) ∷ []) (one_classed _ tt)
  flip_by_classed _ = classed_none

  unary_classed : (unary : UnaryNum) → Classed (after.unary_rule facts unary t y)
  unary_classed Negated = classed_none
  unary_classed Flip = classed_app _ _ (classed_path (after.flip_array facts t y) flip_array_classed (named_arrays facts)) (classed_each (after.flip_by facts t y) flip_by_classed facts)

  length_by_classed : (f : Fact) → Classed (after.length_by facts t y f)
  length_by_classed (Upper p b Nothing c) = classed_if _ (Less p t (pos 0 -ℤ c) ∷ []) (one_classed _ tt)
  length_by_classed (Upper p b (Plus q) c) = classed_none
  length_by_classed (Upper p b (Minus q) c) = classed_none
  length_by_classed (IsLen q b) = classed_if _ (Less q t (pos 1) ∷ Less t q (pos 1) ∷ []) (two_classed _ _ tt tt)
  length_by_classed _ = classed_none

  new_by_classed : (f : Fact) → Classed (after.new_array_by facts t y f)
  new_by_classed (Less p q c) = classed_if _ (Upper p t Nothing (pos 0 -ℤ c) ∷ []) (one_classed _ tt)
  new_by_classed (Sum x p q) = classed_if _ (Upper p t (Plus q) (negsuc 0) ∷ []) (one_classed _ tt)
  new_by_classed _ = classed_none

loaded_classed : (t : Path) (claims : List Claim) → Classed (loaded_facts t claims)
loaded_classed t [] = classed_none
loaded_classed t (claim.Range from to ∷ claims) = classed_cons _ _ tt (loaded_classed t claims)
loaded_classed t (claim.Low from ∷ claims) = classed_cons _ _ tt (classed_app _ _ (low_claim_classed t from) (loaded_classed t claims))
loaded_classed t (claim.Length least ∷ claims) = loaded_classed t claims
loaded_classed t (claim.Same other ∷ claims) = loaded_classed t claims
loaded_classed t (claim.Less name constant ∷ claims) = loaded_classed t claims
loaded_classed t (claim.Upper array offset constant ∷ claims) = loaded_classed t claims
loaded_classed t (claim.Search array ∷ claims) = loaded_classed t claims
loaded_classed t (claim.Negative array ∷ claims) = loaded_classed t claims

new_classed : (facts : List Fact) (profile : Profile) (kind : OpKind) → HaveClasses facts → Classed (after.new_facts facts profile kind)
new_classed facts profile (op.Const t (literal.Int n)) is = (one_classed _ tt)
new_classed facts profile (op.Const t (literal.Bool answer)) is = classed_none
new_classed facts profile (op.Const t (literal.NullOf ty)) is = classed_if (is_array ty) _ (two_classed _ _ tt tt)
new_classed facts profile (op.Copy t s ty) is = copied_list_classed (Slot t) (Slot s) facts is ty
new_classed facts profile (op.Num t arith_op y z) is = num_classed facts profile (Slot t) (Slot y) (Slot z) arith_op
new_classed facts profile (op.Unary t unary y) is =
    classed_app _ _ (range_classed facts profile (Slot t) (Slot y) (Slot y) (exact_unary facts unary (Slot y)))
    (classed_app _ _ (low_classed facts profile (Slot t) (Slot y) (Slot y) (exact_unary facts unary (Slot y)) Rattle.ix_tables.specs.declared.low.Low.TheVariants.Unknown) (unary_classed facts profile (Slot t) (Slot y) (Slot y) unary))
new_classed facts profile (op.Length t a) is = classed_cons _ _ tt (classed_cons _ _ tt (classed_each (after.length_by facts (Slot t) (Slot a)) (length_by_classed facts profile (Slot t) (Slot a) (Slot a)) facts))
new_classed facts profile (op.NewArray t ty n) is = classed_cons _ _ tt (classed_cons _ _ tt (classed_cons _ _ tt (classed_each (after.new_array_by facts (Slot t) (Slot n)) (new_by_classed facts profile (Slot t) (Slot n) (Slot n)) facts)))
new_classed facts profile (op.Fill t ty entries) is = (two_classed _ _ tt tt)
new_classed facts profile (op.Load t a i ty) is = classed_app _ _ (classed_if _ (Same (Slot t) (Slot t) ∷ []) (one_classed _ tt)) (loaded_classed (Slot t) (after.loaded_claims ty))
new_classed facts profile (op.Store a i v ty) is = classed_none
new_classed facts profile (op.ReadField t o f) is = classed_none
new_classed facts profile (op.WriteField o f v) is = classed_none
new_classed facts profile (op.NewObject call) is = classed_none
new_classed facts profile (op.StaticCall call) is = classed_none
new_classed facts profile (op.InstanceCall call) is = classed_none
new_classed facts profile (op.SuperCall call) is = classed_none
new_classed facts profile (op.Print value) is = classed_none

-- ---- from and to each fact

each_classed : (facts : List Fact) → HaveClasses facts → Classed facts
each_classed [] have = classed_none
each_classed (f ∷ facts) have = classed_cons f facts (have f (inl refl)) (each_classed facts (λ g i. have g (inr i)))

classed_each_one : (facts : List Fact) → Classed facts → HaveClasses facts
classed_each_one _ classed_none = λ f i. absurd i
classed_each_one _ (classed_cons f facts e x) = λ g i. ⊎_elim (λ d. subst HasClass (sym d) e) (λ j. classed_each_one facts x g j) i

order_class : (f x : Fact) → IsIn x (orders f) → HasClass f → HasClass x
order_class (Same a b) x i h = ⊎_elim (λ e. subst HasClass (sym e) tt) (λ j. ⊎_elim (λ e. subst HasClass (sym e) tt) (λ z. absurd z) j) i
order_class (Sum t y z) x i h = ⊎_elim (λ e. subst HasClass (sym e) tt) (λ j. ⊎_elim (λ e. subst HasClass (sym e) tt) (λ z. absurd z) j) i
order_class (Upper p a (Plus q) c) x i h = ⊎_elim (λ e. subst HasClass (sym e) tt) (λ j. ⊎_elim (λ e. subst HasClass (sym e) tt) (λ z. absurd z) j) i
order_class (Upper p a Nothing c) x i h = ⊎_elim (λ e. subst HasClass (sym e) tt) (λ z. absurd z) i
order_class (Upper p a (Minus q) c) x i h = ⊎_elim (λ e. subst HasClass (sym e) tt) (λ z. absurd z) i
order_class (Rng p l k) x i h = ⊎_elim (λ e. subst HasClass (sym e) tt) (λ z. absurd z) i
order_class (LenRng p l k) x i h = ⊎_elim (λ e. subst HasClass (sym e) tt) (λ z. absurd z) i
order_class (Low p c) x i h = ⊎_elim (λ e. subst HasClass (sym e) h) (λ z. absurd z) i
order_class (IsLen p a) x i h = ⊎_elim (λ e. subst HasClass (sym e) tt) (λ z. absurd z) i
order_class (Less p q c) x i h = ⊎_elim (λ e. subst HasClass (sym e) tt) (λ z. absurd z) i
order_class (Search p a) x i h = ⊎_elim (λ e. subst HasClass (sym e) tt) (λ z. absurd z) i
order_class (Neg p a) x i h = ⊎_elim (λ e. subst HasClass (sym e) tt) (λ z. absurd z) i

in_orders_have : (facts : List Fact) → HaveClasses facts → HaveClasses (in_orders facts)
in_orders_have facts have x i = let f = from_in_orders x facts i in order_class f.0 x f.2 (have f.0 f.1)

without_have : (is : Path → Bool) (facts : List Fact) → HaveClasses facts → HaveClasses (without is facts)
without_have is facts have f i = have f (in_without is f facts i).0

pub app_have : (a b : List Fact) → HaveClasses a → HaveClasses b → HaveClasses (a ++ b)
app_have a b x y f i = ⊎_elim (λ j. x f j) (λ j. y f j) (in_either f a b i)

-- after an operation, and after a copy
pub after_classes : (facts : List Fact) (profile : Profile) (kind : OpKind) → HaveClasses facts → HaveClasses (after_facts facts profile kind)
after_classes facts profile kind have =
    let beside = beside_target kind facts in
    let known = in_orders_have (without (of_target kind) facts) (without_have (of_target kind) facts have) in
    let new = classed_kept (after.new_facts beside profile kind) (new_classed beside profile kind known) in
    let more = classed_kept (finished beside (kept_new beside profile kind) kind) (finished_classed beside (kept_new beside profile kind) kind) in
    app_have (without (of_target kind) facts) _ (without_have (of_target kind) facts have)
    (classed_each_one (kept_new beside profile kind ++ kept (finished beside (kept_new beside profile kind) kind)) (classed_app (kept_new beside profile kind) (kept (finished beside (kept_new beside profile kind) kind)) new more))

pub copy_classes : (facts : List Fact) (ty : Type_) (t s : Path) → HaveClasses facts → HaveClasses (copy_facts facts ty t s)
copy_classes facts ty t s have =
    let beside = in_orders facts in
    let new = classed_kept (after.copied beside ty t s) (copied_list_classed t s beside (in_orders_have facts have) ty) in
    let more = classed_kept (finished_by ty beside (kept (after.copied beside ty t s)) t) (by_classed beside (kept (after.copied beside ty t s)) t ty) in
    app_have facts (kept (after.copied beside ty t s) ++ kept (finished_by ty beside (kept (after.copied beside ty t s)) t)) have
    (classed_each_one (kept (after.copied beside ty t s) ++ kept (finished_by ty beside (kept (after.copied beside ty t s)) t)) (classed_app (kept (after.copied beside ty t s)) (kept (finished_by ty beside (kept (after.copied beside ty t s)) t)) new more))

claim_classed : (c : PathClaim) (p : Path) → Classed (claim_facts c p)
claim_classed (path_claim.Range low high) p = one_classed _ tt
claim_classed (path_claim.Low from) p = classed_cons _ _ tt (low_claim_classed p from)
claim_classed (path_claim.Length least) p = one_classed _ tt
claim_classed (path_claim.Same other) p = one_classed _ tt
claim_classed (path_claim.Less q c) p = classed_if _ (Less p q c ∷ []) (one_classed _ tt)
claim_classed (path_claim.Upper a o c) p = one_classed _ tt
claim_classed (path_claim.Search a) p = two_classed _ _ tt tt
claim_classed (path_claim.Negative a) p = two_classed _ _ tt tt

pub claim_classes : (c : PathClaim) (p : Path) → HaveClasses (claim_facts c p)
claim_classes c p = classed_each_one (claim_facts c p) (claim_classed c p)
