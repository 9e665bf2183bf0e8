-- Over the facts on each path and each named path once, and over new facts that are the same, what follows of them is the same.
use Rattle.std.specs.Prelude.{◌≡◌, ℤ, pos, negsuc, ◌+ℤ◌, ◌-ℤ◌, int_le, List, [], ◌∷◌, ◌++◌, refl}
use Rattle.std.specs.Int.{int_min, int_max}
use Rattle.std.proofs.Common.{ap, ◌∙◌}
use Rattle.ix_num.specs.Ints.{least_int, greatest_int}
use Rattle.ix_core.specs.declared.claim.Type_.{Type_}
use Rattle.ix_core.specs.declared.fact.Path.{Path}
use Rattle.ix_core.specs.declared.fact.Path.TheVariants.{Slot}
use Rattle.ix_core.specs.declared.fact.PathOff.TheVariants.{Nothing}
use Rattle.ix_core.specs.declared.fact.Fact.{Fact}
use Rattle.ix_core.specs.declared.fact.Fact.TheVariants.{Rng, LenRng, Low, Same, IsLen, Less, Sum, Search, Neg, Upper}
use Rattle.ix_core.specs.declared.op.Literal.TheVariants as literal
use Rattle.ix_core.specs.declared.op.OpKind.{OpKind}
use Rattle.ix_core.specs.declared.op.OpKind.TheVariants as op
use Rattle.ix_facts.specs.Bounds
use Rattle.ix_facts.specs.Bounds.{is_path, at_least, at_most, range_low_by, range_high_by, length_low_by}
use Rattle.ix_facts.specs.Exact.{if_so, each, each_path, named_ints, named_arrays}
use Rattle.ix_facts.specs.AfterOperation.{is_int, is_array, holds_arrays}
use Rattle.ix_facts.specs.After.{holds_ints, finished_by, finished}
use Rattle.ix_facts.specs.Finish as rule
use Rattle.ix_facts.specs.Named.{IsEachOnce}
use Rattle.ix_facts.specs.OnPaths.{HasNamed, each_on}
use Rattle.ix_transfer.specs.OverNamed as over
use Rattle.ix_facts.specs.SameFacts.{AreSame}
use Rattle.ix_facts.proofs.Members.{same_itself, same_equal, same_trans, same_app, same_if, same_each, same_once, each_equal}
use Rattle.ix_transfer.proofs.BestMembers.{lesser, greater, same_best}
use Rattle.ix_transfer.proofs.Silent.{reads_step_above, reads_step_below, reads_bound_above, reads_bound_below}

module _ (facts : List Fact) (on : Path → List Fact) (named : (p : Path) → HasNamed p (on p) facts) where
  above_same : (t q : Path) (c : ℤ) → (each (rule.step_above t q c) (on q) ++ each (rule.bound_above t q c) (on q)) ≡ (each (rule.step_above t q c) facts ++ each (rule.bound_above t q c) facts)
  above_same t q c =
      ap (λ l. l ++ each (rule.bound_above t q c) (on q)) (each_on q (rule.step_above t q c) (on q) facts (reads_step_above t q c) (named q))
      ∙ ap (λ l. each (rule.step_above t q c) facts ++ l) (each_on q (rule.bound_above t q c) (on q) facts (reads_bound_above t q c) (named q))

  below_same : (t p : Path) (c : ℤ) → (each (rule.step_below t p c) (on p) ++ each (rule.bound_below t p c) (on p)) ≡ (each (rule.step_below t p c) facts ++ each (rule.bound_below t p c) facts)
  below_same t p c =
      ap (λ l. l ++ each (rule.bound_below t p c) (on p)) (each_on p (rule.step_below t p c) (on p) facts (reads_step_below t p c) (named p))
      ∙ ap (λ l. each (rule.step_below t p c) facts ++ l) (each_on p (rule.bound_below t p c) (on p) facts (reads_bound_below t p c) (named p))

  along_same : (new : List Fact) (t : Path) (f : Fact) → over.along_by on t f ≡ rule.along_by facts new t f
  along_same new t (Less p q c) =
      ap (λ l. if_so (is_path p t) l ++ if_so (is_path q t) (each (rule.step_below t p c) (on p) ++ each (rule.bound_below t p c) (on p))) (above_same t q c)
      ∙ ap (λ l. if_so (is_path p t) (each (rule.step_above t q c) facts ++ each (rule.bound_above t q c) facts) ++ if_so (is_path q t) l) (below_same t p c)
  along_same new t (Rng p l h) = refl
  along_same new t (LenRng b l h) = refl
  along_same new t (Low p e) = refl
  along_same new t (Same b e) = refl
  along_same new t (IsLen p b) = refl
  along_same new t (Sum x p r) = refl
  along_same new t (Search p b) = refl
  along_same new t (Neg p b) = refl
  along_same new t (Upper p a o e) = refl

  module _ (ints arrays : List Path) (ints_once : IsEachOnce (named_ints facts) ints) (arrays_once : IsEachOnce (named_arrays facts) arrays) (new other : List Fact) (same : AreSame new other) where
    low_same : (t : Path) → Bounds.range_low new t ≡ Bounds.range_low other t
    low_same t = ap (at_least least_int) (same_best int_max greater (range_low_by t) new other same)

    high_same : (t : Path) → Bounds.range_high new t ≡ Bounds.range_high other t
    high_same t = ap (at_most greatest_int) (same_best int_min lesser (range_high_by t) new other same)

    length_same : (t : Path) → Bounds.length_low new t ≡ Bounds.length_low other t
    length_same t = ap (at_least (pos 0)) (same_best int_max greater (length_low_by t) new other same)

    int_same : (t r : Path) → rule.beside_int facts new t r ≡ rule.beside_int facts other t r
    int_same t r =
        ap (λ h. if_so (int_le (h -ℤ Bounds.lower_bound facts r +ℤ pos 1) (pos 1)) (Less t r (h -ℤ Bounds.lower_bound facts r +ℤ pos 1) ∷ [])
        ++ if_so (int_le (Bounds.upper_limit facts r -ℤ Bounds.range_low new t +ℤ pos 1) (pos 1)) (Less r t (Bounds.upper_limit facts r -ℤ Bounds.range_low new t +ℤ pos 1) ∷ [])) (high_same t)
        ∙ ap (λ l. if_so (int_le (Bounds.range_high other t -ℤ Bounds.lower_bound facts r +ℤ pos 1) (pos 1)) (Less t r (Bounds.range_high other t -ℤ Bounds.lower_bound facts r +ℤ pos 1) ∷ [])
        ++ if_so (int_le (Bounds.upper_limit facts r -ℤ l +ℤ pos 1) (pos 1)) (Less r t (Bounds.upper_limit facts r -ℤ l +ℤ pos 1) ∷ [])) (low_same t)

    array_same : (t a : Path) → rule.beside_array facts new t a ≡ rule.beside_array facts other t a
    array_same t a = ap (λ h. if_so (int_le (negsuc 0) (Bounds.length_low facts a -ℤ pos 1 -ℤ h)) (Upper t a Nothing (Bounds.length_low facts a -ℤ pos 1 -ℤ h) ∷ [])) (high_same t)

    beside_length_same : (t r : Path) → rule.beside_length facts new t r ≡ rule.beside_length facts other t r
    beside_length_same t r = ap (λ l. if_so (int_le (negsuc 0) (l -ℤ pos 1 -ℤ Bounds.upper_limit facts r)) (Upper r t Nothing (l -ℤ pos 1 -ℤ Bounds.upper_limit facts r) ∷ [])) (length_same t)

    paths_equal : (one two : Path → List Fact) → ((p : Path) → one p ≡ two p) → (paths : List Path) → each_path one paths ≡ each_path two paths
    paths_equal one two h [] = refl
    paths_equal one two h (p ∷ paths) = ap (λ l. l ++ each_path one paths) (h p) ∙ ap (λ l. two p ++ l) (paths_equal one two h paths)

    finish_int_same : (t : Path) → AreSame (over.finish_int facts on ints arrays new t) (rule.finish_int facts other t)
    finish_int_same t =
        same_app _ _ _ _
        (same_trans _ _ _ (same_equal _ _ (each_equal (over.along_by on t) (rule.along_by facts other t) (along_same other t) new)) (same_each (rule.along_by facts other t) new other same))
        (same_app _ _ _ _
        (same_trans _ _ _ (same_equal _ _ (paths_equal (rule.beside_int facts new t) (rule.beside_int facts other t) (int_same t) ints)) (same_once (rule.beside_int facts other t) (named_ints facts) ints ints_once))
        (same_trans _ _ _ (same_equal _ _ (paths_equal (rule.beside_array facts new t) (rule.beside_array facts other t) (array_same t) arrays)) (same_once (rule.beside_array facts other t) (named_arrays facts) arrays arrays_once)))

    finish_array_same : (t : Path) → AreSame (over.finish_array facts on ints arrays new t) (rule.finish_array facts other t)
    finish_array_same t =
        same_trans _ _ _ (same_equal _ _ (paths_equal (rule.beside_length facts new t) (rule.beside_length facts other t) (beside_length_same t) ints)) (same_once (rule.beside_length facts other t) (named_ints facts) ints ints_once)

    pub finished_by_same : (ty : Type_) (t : Path) → AreSame (over.finished_by facts on ints arrays new ty t) (finished_by ty facts other t)
    finished_by_same ty t = same_app _ _ _ _ (same_if (is_int ty) _ _ (finish_int_same t)) (same_if (is_array ty) _ _ (finish_array_same t))

    pub finished_same : (kind : OpKind) → AreSame (over.finished facts on ints arrays new kind) (finished facts other kind)
    finished_same (op.Const t (literal.Int n)) = finish_int_same (Slot t)
    finished_same (op.Const t (literal.Bool b)) = same_itself _
    finished_same (op.Const t (literal.NullOf ty)) = same_if (is_array ty) _ _ (finish_array_same (Slot t))
    finished_same (op.Copy t s ty) = finished_by_same ty (Slot t)
    finished_same (op.Num t arith y z) = finish_int_same (Slot t)
    finished_same (op.Unary t unary y) = finish_int_same (Slot t)
    finished_same (op.Length t a) = finish_int_same (Slot t)
    finished_same (op.NewArray t ty n) = finish_array_same (Slot t)
    finished_same (op.Fill t ty entries) = finish_array_same (Slot t)
    finished_same (op.Load t a i ty) = same_app _ _ _ _ (same_if (holds_ints ty) _ _ (finish_int_same (Slot t))) (same_if (holds_arrays ty) _ _ (finish_array_same (Slot t)))
    finished_same (op.Store a i v ty) = same_itself _
    finished_same (op.ReadField t o f) = same_itself _
    finished_same (op.WriteField o f v) = same_itself _
    finished_same (op.NewObject call) = same_itself _
    finished_same (op.StaticCall call) = same_itself _
    finished_same (op.InstanceCall call) = same_itself _
    finished_same (op.SuperCall call) = same_itself _
    finished_same (op.Print value) = same_itself _
