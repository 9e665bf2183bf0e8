-- Every rule in the order of what facts say: each is monotone in it, and so rules can follow each other.
use Rattle.std.specs.Prelude.{◌≡◌, ◌⊎◌, ℕ, Bool, true, false, ℤ, pos, ◌≤ℤ◌, neg_ℤ, List, [], ◌∷◌, ◌++◌, Option, Some, None, refl}
use Rattle.std.proofs.Common.{arith, inl, inr, ap, sym, ◌∙◌, subst, ⊎_elim}
use Rattle.std.proofs.lemmas.Int.{ints}
use Rattle.ix_num.specs.Arithmetic.{flip_of}
use Rattle.ix_num.specs.declared.interval.Interval.{Interval}
use Rattle.ix_num.specs.Intervals.{interval, normal, no_numbers, is_empty}
use Rattle.ix_core.specs.declared.claim.Type_.{Type_}
use Rattle.ix_core.specs.declared.fact.Path.{Path}
use Rattle.ix_core.specs.declared.fact.Path.TheVariants.{Slot}
use Rattle.ix_core.specs.declared.fact.PathClaim.{PathClaim}
use Rattle.ix_core.specs.declared.fact.PathOff.TheVariants.{Nothing, Plus, Minus}
use Rattle.ix_core.specs.declared.fact.Fact.{Fact}
use Rattle.ix_core.specs.declared.fact.Fact.TheVariants.{Rng, LenRng, Low, Same, IsLen, Less, Sum, Search, Neg, Upper}
use Rattle.ix_core.specs.declared.fact.Profile.{Profile}
use Rattle.ix_core.specs.declared.op.OpKind.{OpKind}
use Rattle.ix_core.specs.declared.op.OpKind.TheVariants as op
use Rattle.ix_core.specs.declared.op.UnaryNum.{UnaryNum}
use Rattle.ix_core.specs.declared.op.UnaryNum.TheVariants.{Neg as Negated, Flip}
use Rattle.ix_core.proofs.Cases.{by_test}
use Rattle.ix_facts.specs.Facts.{IsIn, orders, is_default, in_orders}
use Rattle.ix_facts.specs.Closure.{given, SaysAll, Contradicts, kept}
use Rattle.ix_facts.specs.Exact
use Rattle.ix_facts.specs.Exact.{each, if_some, range_facts}
use Rattle.ix_facts.specs.Forget.{of_path, without}
use Rattle.ix_facts.specs.AfterOperation.{HasExact, new_facts}
use Rattle.ix_facts.specs.AfterOperation as after
use Rattle.ix_facts.specs.After.{of_target, beside_target, kept_new, after_facts, copy_facts, finished, finished_by}
use Rattle.ix_facts.specs.AfterTest.{Outcome, outcome_facts}
use Rattle.ix_facts.specs.Assume.{proves}
use Rattle.ix_facts.specs.Round.{rounded_fact, rounded, mark_below, mark_above, if_both, is_beyond}
use Rattle.ix_facts.specs.Laws.{BoundsNoWeaker}
use Rattle.ix_facts.specs.Stores.{IsMonotone, operated, with_copy, with_outcome}
use Rattle.ix_facts.proofs.AfterLaws.{finished_mono, finished_by_mono}
use Rattle.ix_facts.proofs.BoundLaws.{bounds_no_weaker}
use Rattle.ix_facts.proofs.ClaimLaws.{proves_mono}
use Rattle.ix_facts.proofs.ClosureLaws.{kept_stronger, in_kept}
use Rattle.ix_facts.proofs.FactLists.{in_left, in_right, covers_told, stronger_app}
use Rattle.ix_facts.proofs.FormLaws.{first_order}
use Rattle.ix_facts.proofs.OperationsMonotone.{new_facts_mono}
use Rattle.ix_facts.proofs.RoundLaws.{fact_weaker, fact_mono, rounded_weaker}
use Rattle.ix_facts.proofs.RulesMonotone.{copied_mono}
use Rattle.ix_facts.proofs.SaidLaws.{says_stronger, listed_says, says_app, without_says, ByFact, each_says}
use Rattle.ix_facts.proofs.TestLaws.{outcome_mono}

-- ---- bounds and claims

pub bounds_say : (strong weak : List Fact) → SaysAll strong weak → BoundsNoWeaker (in_orders strong) (in_orders weak)
bounds_say strong weak s = bounds_no_weaker (in_orders strong) (in_orders weak) (says_stronger strong weak s)

pub proves_says : (strong weak : List Fact) (claim : PathClaim) (p : Path) → SaysAll strong weak → proves (in_orders weak) claim p ≡ true → proves (in_orders strong) claim p ≡ true
proves_says strong weak claim p s t = proves_mono (in_orders strong) (in_orders weak) (says_stronger strong weak s) claim p t

-- ---- operations

pub after_says : (profile : Profile) (kind : OpKind) (strong weak : List Fact) → SaysAll strong weak → HasExact (beside_target kind strong) kind → SaysAll (after_facts strong profile kind) (after_facts weak profile kind)
after_says profile kind strong weak s some =
    let old = without_says (of_target kind) strong weak s in
    let beside = says_stronger (without (of_target kind) strong) (without (of_target kind) weak) old in
    let new = kept_stronger _ _ (new_facts_mono (beside_target kind strong) (beside_target kind weak) beside profile kind some) in
    let rest = kept_stronger _ _ (finished_mono (beside_target kind strong) (beside_target kind weak) (kept_new (beside_target kind strong) profile kind) (kept_new (beside_target kind weak) profile kind) beside new kind) in
    let more = kept_new (beside_target kind strong) profile kind ++ kept (finished (beside_target kind strong) (kept_new (beside_target kind strong) profile kind) kind) in
    let fewer = kept_new (beside_target kind weak) profile kind ++ kept (finished (beside_target kind weak) (kept_new (beside_target kind weak) profile kind) kind) in
    says_app (without (of_target kind) strong) more (without (of_target kind) weak) fewer old (listed_says more fewer (stronger_app _ _ _ _ new rest))

-- an interval that is written is not empty, or the one empty interval
exact_or : (i : Interval) → ((normal i).lo ≤ℤ (normal i).hi) ⊎ (normal i ≡ no_numbers)
exact_or i = by_test (is_empty i) (λ t. inr (rw t refl)) (λ t. inl (rw t (omega (arith, ints, t))))

empty_range : (t : Path) (i : Interval) (rest : List Fact) → i ≡ no_numbers → IsIn (Rng t (pos 1) (pos 0)) (range_facts t i ++ rest)
empty_range t i rest e = subst (λ j. IsIn (Rng t (pos 1) (pos 0)) (range_facts t j ++ rest)) (sym e) (inl refl)

-- a new empty range is one that follows after the operation
after_empty : (profile : Profile) (kind : OpKind) (facts : List Fact) (t : Path) → IsIn (Rng t (pos 1) (pos 0)) (new_facts (beside_target kind facts) profile kind) → Contradicts (after_facts facts profile kind)
after_empty profile kind facts t i =
    let beside = beside_target kind facts in
    let here = in_kept (Rng t (pos 1) (pos 0)) (Rng t (pos 1) (pos 0)) (new_facts beside profile kind) i (inl refl) in
    let there = in_right _ (without (of_target kind) facts) _ (in_left _ (kept_new beside profile kind) (kept (finished beside (kept_new beside profile kind) kind)) here) in
    (t, pos 1, pos 0, inl (given (Rng t (pos 1) (pos 0)) there), omega (arith, ints))

unary_or : (facts : List Fact) (unary : UnaryNum) (y : Path) → ((Exact.exact_unary facts unary y).lo ≤ℤ (Exact.exact_unary facts unary y).hi) ⊎ (Exact.exact_unary facts unary y ≡ no_numbers)
unary_or facts Negated y = exact_or (interval (neg_ℤ (Exact.operand facts y).hi) (neg_ℤ (Exact.operand facts y).lo))
unary_or facts Flip y = exact_or (interval (flip_of (Exact.operand facts y).hi) (flip_of (Exact.operand facts y).lo))

-- Where the exact interval of an operation is empty, no state meets the facts after it.
pub after_exact : (profile : Profile) (kind : OpKind) (facts : List Fact) → HasExact (beside_target kind facts) kind ⊎ Contradicts (after_facts facts profile kind)
after_exact profile (op.Num t arith_op y z) facts =
    let kind = op.Num t arith_op y z in
    ⊎_elim (λ h. inl h) (λ e. inr (after_empty profile kind facts (Slot t) (empty_range (Slot t) _ _ e))) (exact_or (Exact.exact_ends (beside_target kind facts) arith_op (Slot y) (Slot z)))
after_exact profile (op.Unary t unary y) facts =
    let kind = op.Unary t unary y in
    ⊎_elim (λ h. inl h) (λ e. inr (after_empty profile kind facts (Slot t) (empty_range (Slot t) _ _ e))) (unary_or (beside_target kind facts) unary (Slot y))
after_exact profile (op.Const t value) facts = inl tt
after_exact profile (op.Copy t p ty) facts = inl tt
after_exact profile (op.Length t a) facts = inl tt
after_exact profile (op.NewArray t ty n) facts = inl tt
after_exact profile (op.Fill t ty entries) facts = inl tt
after_exact profile (op.Load t a i ty) facts = inl tt
after_exact profile (op.Store a i v ty) facts = inl tt
after_exact profile (op.ReadField t o f) facts = inl tt
after_exact profile (op.WriteField o f v) facts = inl tt
after_exact profile (op.NewObject call) facts = inl tt
after_exact profile (op.StaticCall call) facts = inl tt
after_exact profile (op.InstanceCall call) facts = inl tt
after_exact profile (op.SuperCall call) facts = inl tt
after_exact profile (op.Print value) facts = inl tt

pub operated_mono : (profile : Profile) (kind : OpKind) → IsMonotone (operated profile kind)
operated_mono profile kind strong weak s = ⊎_elim (λ h. inr (after_says profile kind strong weak s h)) (λ c. inl c) (after_exact profile kind strong)

pub copy_says : (strong weak : List Fact) (ty : Type_) (t p : Path) → SaysAll strong weak → SaysAll (copy_facts strong ty t p) (copy_facts weak ty t p)
copy_says strong weak ty t p s =
    let beside = says_stronger strong weak s in
    let new = kept_stronger _ _ (copied_mono (in_orders strong) (in_orders weak) beside ty t p) in
    let rest = kept_stronger _ _ (finished_by_mono (in_orders strong) (in_orders weak) (kept (after.copied (in_orders strong) ty t p)) (kept (after.copied (in_orders weak) ty t p)) beside new ty t) in
    let more = kept (after.copied (in_orders strong) ty t p) ++ kept (finished_by ty (in_orders strong) (kept (after.copied (in_orders strong) ty t p)) t) in
    let fewer = kept (after.copied (in_orders weak) ty t p) ++ kept (finished_by ty (in_orders weak) (kept (after.copied (in_orders weak) ty t p)) t) in
    says_app strong more weak fewer s (listed_says more fewer (stronger_app _ _ _ _ new rest))

pub with_copy_mono : (ty : Type_) (t p : Path) → IsMonotone (with_copy ty t p)
with_copy_mono ty t p strong weak s = inr (copy_says (without (of_path t) strong) (without (of_path t) weak) ty t p (without_says (of_path t) strong weak s))

pub without_mono : (is : Path → Bool) → IsMonotone (without is)
without_mono is strong weak s = inr (without_says is strong weak s)

-- ---- tests

pub outcome_says : (strong weak : List Fact) (outcome : Outcome) → SaysAll strong weak → SaysAll (outcome_facts (in_orders strong) outcome) (outcome_facts (in_orders weak) outcome)
outcome_says strong weak outcome s = listed_says (outcome_facts (in_orders strong) outcome) (outcome_facts (in_orders weak) outcome) (outcome_mono (in_orders strong) (in_orders weak) (says_stronger strong weak s) outcome)

pub with_outcome_mono : (outcome : Outcome) → IsMonotone (with_outcome outcome)
with_outcome_mono outcome strong weak s =
    let more = kept (outcome_facts (in_orders strong) outcome) in
    let fewer = kept (outcome_facts (in_orders weak) outcome) in
    inr (says_app strong more weak fewer s (listed_says more fewer (kept_stronger _ _ (outcome_mono (in_orders strong) (in_orders weak) (says_stronger strong weak s) outcome))))

-- ---- what is kept, and rounding: a fact is moved in each of its orders alike

-- a list that has at most one fact, which has one order
both_alone : (make : ℤ → ℤ → Fact) (a b : Option ℤ) (g x : Fact) → ((l h : ℤ) → orders (make l h) ≡ make l h ∷ []) → IsIn g (if_both make a b) → IsIn x (orders g) → x ≡ g
both_alone make None b g x one i j = absurd i
both_alone make (Some l) None g x one i j = absurd i
both_alone make (Some l) (Some h) g x one i j =
    ⊎_elim
    (λ e.
    let k : IsIn x (make l h ∷ []) = subst (IsIn x) (one l h) (subst (λ y. IsIn x (orders y)) e j) in
    ⊎_elim (λ d. d ∙ sym e) (λ y. absurd y) k)
    (λ y. absurd y)
    i

some_alone : (make : ℤ → Fact) (a : Option ℤ) (g x : Fact) → ((c : ℤ) → orders (make c) ≡ make c ∷ []) → IsIn g (if_some make a) → IsIn x (orders g) → x ≡ g
some_alone make None g x one i j = absurd i
some_alone make (Some c) g x one i j =
    ⊎_elim
    (λ e.
    let k : IsIn x (make c ∷ []) = subst (IsIn x) (one c) (subst (λ y. IsIn x (orders y)) e j) in
    ⊎_elim (λ d. d ∙ sym e) (λ y. absurd y) k)
    (λ y. absurd y)
    i

-- a fact with one order, whose rule gives facts with one order
From : (Fact → List Fact) → Fact → Fact → Type 0
From rule f x = (y : Fact) × IsIn y (orders f) × IsIn x (rule y)

Back : (Fact → List Fact) → Fact → Fact → Type 0
Back rule f x = (g : Fact) × IsIn g (rule f) × IsIn x (orders g)

from_alone : (rule : Fact → List Fact) (f g x : Fact) → IsIn g (rule f) → x ≡ g → From rule f x
unfolding From
from_alone rule f g x i e = (f, first_order f, subst (λ y. IsIn y (rule f)) (sym e) i)

back_alone : (rule : Fact → List Fact) (f y x : Fact) → y ≡ f → IsIn x (rule y) → Back rule f x
unfolding Back
back_alone rule f y x e i = (x, subst (λ z. IsIn x (rule z)) e i, first_order x)

-- a fact that a rule leaves as it is
from_same : (rule : Fact → List Fact) (f g x : Fact) → ((y : Fact) → IsIn y (orders f) → rule y ≡ y ∷ []) → IsIn g (rule f) → IsIn x (orders g) → From rule f x
unfolding From
from_same rule f g x is i j =
    let k : IsIn g (f ∷ []) = subst (IsIn g) (is f (first_order f)) i in
    ⊎_elim (λ e. let m = subst (λ y. IsIn x (orders y)) e j in (x, m, subst (IsIn x) (sym (is x m)) (inl refl))) (λ y. absurd y) k

back_same : (rule : Fact → List Fact) (f y x : Fact) → ((y : Fact) → IsIn y (orders f) → rule y ≡ y ∷ []) → IsIn y (orders f) → IsIn x (rule y) → Back rule f x
unfolding Back
back_same rule f y x is i j =
    let k : IsIn x (y ∷ []) = subst (IsIn x) (is y i) j in
    (f, subst (IsIn f) (sym (is f (first_order f))) (inl refl), ⊎_elim (λ e. subst (λ z. IsIn z (orders f)) (sym e) i) (λ z. absurd z) k)

pub only : (f y : Fact) → IsIn y (f ∷ []) → y ≡ f
only f y i = ⊎_elim (λ e. e) (λ z. absurd z) i

-- ---- rounding

two_same : (marks : List ℤ) (f g y : Fact) → rounded_fact marks f ≡ f ∷ [] → rounded_fact marks g ≡ g ∷ [] → IsIn y (f ∷ g ∷ []) → rounded_fact marks y ≡ y ∷ []
two_same marks f g y a b i =
    ⊎_elim
    (λ e. subst (λ z. rounded_fact marks z ≡ z ∷ []) (sym e) a)
    (λ k. subst (λ z. rounded_fact marks z ≡ z ∷ []) (sym (only g y k)) b)
    i

-- a bound at `p + q` and at `q + p`
plus_orders : (p a q : Path) (g x : Fact) (m : Option ℤ) → IsIn g (if_some (Upper p a (Plus q)) m) → IsIn x (orders g) → IsIn x (if_some (Upper p a (Plus q)) m) ⊎ IsIn x (if_some (Upper q a (Plus p)) m)
plus_orders p a q g x None i j = absurd i
plus_orders p a q g x (Some c) i j =
    let k : IsIn x (orders (Upper p a (Plus q) c)) = subst (λ y. IsIn x (orders y)) (only _ g i) j in
    ⊎_elim (λ e. inl (inl e)) (λ l. inr l) k

plus_back : (p a q : Path) (x : Fact) (m : Option ℤ) → IsIn x (if_some (Upper q a (Plus p)) m) → (g : Fact) × IsIn g (if_some (Upper p a (Plus q)) m) × IsIn x (orders g)
plus_back p a q x None i = absurd i
plus_back p a q x (Some c) i = (Upper p a (Plus q) c, inl refl, inr i)

round_from : (marks : List ℤ) (f g x : Fact) → IsIn g (rounded_fact marks f) → IsIn x (orders g) → From (rounded_fact marks) f x
unfolding From
round_from marks (Rng p l h) g x i j = from_alone (rounded_fact marks) (Rng p l h) g x i (both_alone (Rng p) (mark_below marks l) (mark_above marks h) g x (λ a b. refl) i j)
round_from marks (LenRng p l h) g x i j = from_alone (rounded_fact marks) (LenRng p l h) g x i (both_alone (LenRng p) (mark_below marks l) (mark_above marks h) g x (λ a b. refl) i j)
round_from marks (Less p q c) g x i j = from_alone (rounded_fact marks) (Less p q c) g x i (some_alone (Less p q) (mark_above marks c) g x (λ a. refl) i j)
round_from marks (Upper p a Nothing c) g x i j = from_alone (rounded_fact marks) (Upper p a Nothing c) g x i (some_alone (Upper p a Nothing) (mark_below marks c) g x (λ a. refl) i j)
round_from marks (Upper p a (Minus q) c) g x i j = from_alone (rounded_fact marks) (Upper p a (Minus q) c) g x i (some_alone (Upper p a (Minus q)) (mark_below marks c) g x (λ a. refl) i j)
round_from marks (Upper p a (Plus q) c) g x i j =
    ⊎_elim
    (λ k. (Upper p a (Plus q) c, inl refl, k))
    (λ k. (Upper q a (Plus p) c, inr (inl refl), k))
    (plus_orders p a q g x (mark_below marks c) i j)
round_from marks (Low p c) g x i j = from_same (rounded_fact marks) (Low p c) g x (λ y k. ap (rounded_fact marks) (only _ y k) ∙ ap (λ z. z ∷ []) (sym (only _ y k))) i j
round_from marks (IsLen p a) g x i j = from_same (rounded_fact marks) (IsLen p a) g x (λ y k. ap (rounded_fact marks) (only _ y k) ∙ ap (λ z. z ∷ []) (sym (only _ y k))) i j
round_from marks (Search p a) g x i j = from_same (rounded_fact marks) (Search p a) g x (λ y k. ap (rounded_fact marks) (only _ y k) ∙ ap (λ z. z ∷ []) (sym (only _ y k))) i j
round_from marks (Neg p a) g x i j = from_same (rounded_fact marks) (Neg p a) g x (λ y k. ap (rounded_fact marks) (only _ y k) ∙ ap (λ z. z ∷ []) (sym (only _ y k))) i j
round_from marks (Same a b) g x i j = from_same (rounded_fact marks) (Same a b) g x (λ y k. two_same marks (Same a b) (Same b a) y refl refl k) i j
round_from marks (Sum t u z) g x i j = from_same (rounded_fact marks) (Sum t u z) g x (λ y k. two_same marks (Sum t u z) (Sum t z u) y refl refl k) i j

round_back : (marks : List ℤ) (f y x : Fact) → IsIn y (orders f) → IsIn x (rounded_fact marks y) → Back (rounded_fact marks) f x
unfolding Back
round_back marks (Rng p l h) y x i j = back_alone (rounded_fact marks) (Rng p l h) y x (only _ y i) j
round_back marks (LenRng p l h) y x i j = back_alone (rounded_fact marks) (LenRng p l h) y x (only _ y i) j
round_back marks (Less p q c) y x i j = back_alone (rounded_fact marks) (Less p q c) y x (only _ y i) j
round_back marks (Low p c) y x i j = back_alone (rounded_fact marks) (Low p c) y x (only _ y i) j
round_back marks (IsLen p a) y x i j = back_alone (rounded_fact marks) (IsLen p a) y x (only _ y i) j
round_back marks (Search p a) y x i j = back_alone (rounded_fact marks) (Search p a) y x (only _ y i) j
round_back marks (Neg p a) y x i j = back_alone (rounded_fact marks) (Neg p a) y x (only _ y i) j
round_back marks (Upper p a Nothing c) y x i j = back_alone (rounded_fact marks) (Upper p a Nothing c) y x (only _ y i) j
round_back marks (Upper p a (Minus q) c) y x i j = back_alone (rounded_fact marks) (Upper p a (Minus q) c) y x (only _ y i) j
round_back marks (Upper p a (Plus q) c) y x i j =
    ⊎_elim
    (λ e. back_alone (rounded_fact marks) (Upper p a (Plus q) c) y x e j)
    (λ k. let e = only (Upper q a (Plus p) c) y k in plus_back p a q x (mark_below marks c) (subst (λ z. IsIn x (rounded_fact marks z)) e j))
    i
round_back marks (Same a b) y x i j = back_same (rounded_fact marks) (Same a b) y x (λ z k. two_same marks (Same a b) (Same b a) z refl refl k) i j
round_back marks (Sum t u z) y x i j = back_same (rounded_fact marks) (Sum t u z) y x (λ w k. two_same marks (Sum t u z) (Sum t z u) w refl refl k) i j

round_told : (marks : List ℤ) (f x : Fact) → IsIn x (rounded_fact marks f) → is_default x ≡ false → is_default f ≡ false
round_told marks f x i n = let y = (fact_weaker marks f).met x i in let e = only f y.0 y.1 in subst (λ z. is_default z ≡ false) e (covers_told y.0 x y.2 n)

pub round_by_fact : (marks : List ℤ) → ByFact (rounded_fact marks)
unfolding From Back
round_by_fact marks = record { from = round_from marks; back = round_back marks; default = round_told marks; mono = fact_mono marks }

pub rounded_says : (marks : List ℤ) (scope : ℕ) (strong weak : List Fact) → SaysAll strong weak → SaysAll (rounded marks scope strong) (rounded marks scope weak)
rounded_says marks scope strong weak s =
    each_says (rounded_fact marks) (round_by_fact marks) (without (is_beyond scope) strong) (without (is_beyond scope) weak) (without_says (is_beyond scope) strong weak s)

pub rounded_mono : (marks : List ℤ) (scope : ℕ) → IsMonotone (rounded marks scope)
rounded_mono marks scope strong weak s = inr (rounded_says marks scope strong weak s)

pub rounded_above : (marks : List ℤ) (scope : ℕ) (facts : List Fact) → SaysAll facts (rounded marks scope facts)
rounded_above marks scope facts = listed_says facts (rounded marks scope facts) (rounded_weaker marks scope facts)
