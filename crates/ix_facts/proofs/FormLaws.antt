-- Of facts that are closed as they stand, to read each in all its orders gives nothing more.
use Rattle.std.specs.Prelude.{◌≡◌, Bool, true, false, List, refl}
use Rattle.std.proofs.Common.{arith, inl, sym, subst, ⊎_elim}
use Rattle.std.proofs.lemmas.Int.{ints}
use Rattle.ix_core.specs.declared.fact.Path.{Path}
use Rattle.ix_core.specs.declared.fact.Path.TheVariants.{Slot}
use Rattle.ix_core.specs.declared.fact.PathClaim.{PathClaim}
use Rattle.ix_core.specs.declared.fact.PathOff.TheVariants.{Nothing, Plus, Minus}
use Rattle.ix_core.specs.declared.fact.Fact.{Fact}
use Rattle.ix_core.specs.declared.fact.Fact.TheVariants.{Rng, LenRng, Low, Same, IsLen, Less, Sum, Search, Neg, Upper}
use Rattle.ix_core.specs.declared.fact.Profile.{Profile}
use Rattle.ix_core.specs.declared.op.OpKind.{OpKind}
use Rattle.ix_core.specs.declared.op.OpKind.TheVariants as op
use Rattle.ix_facts.specs.Facts.{IsIn, Covers, Stronger, orders, in_orders}
use Rattle.ix_facts.specs.Closure.{Default, Follows, given, turned, sum_turned, upper_turned}
use Rattle.ix_facts.specs.Exact
use Rattle.ix_facts.specs.AfterOperation.{HasExact, new_facts}
use Rattle.ix_facts.specs.AfterTest.{Outcome, outcome_facts}
use Rattle.ix_facts.specs.Assume.{proves}
use Rattle.ix_facts.specs.Laws.{SameBounds, AsStrong, ClosedAsItStands}
use Rattle.ix_facts.proofs.BoundLaws.{bounds_no_weaker}
use Rattle.ix_facts.proofs.ClaimLaws.{proves_mono}
use Rattle.ix_facts.proofs.ExactLaws.{exact_mono, unary_mono, ends_within}
use Rattle.ix_facts.proofs.FactLists.{covers_itself, in_in_orders, from_in_orders}
use Rattle.ix_facts.proofs.OperationsMonotone.{new_facts_mono}
use Rattle.ix_facts.proofs.TestLaws.{outcome_mono}

-- a fact of the list is at the key and at least as strong
IsMet : List Fact → Fact → Type 0
IsMet facts f = (g : Fact) × IsIn g facts × Covers g f

met_here : (facts : List Fact) (f x : Fact) → IsIn f facts → x ≡ f → IsMet facts x
unfolding IsMet
met_here facts f x i e = (f, i, subst (Covers f) (sym e) (covers_itself f))

-- a turned fact has no default
met_turned : (facts : List Fact) (f x : Fact) → (Default f → ⊥) → ClosedAsItStands facts → Follows facts f → x ≡ f → IsMet facts x
unfolding IsMet
met_turned facts f x none closed r e = ⊎_elim (λ d. absurd (none d)) (λ y. (y.0, y.1, subst (Covers y.0) (sym e) y.2)) (closed.says f r)

order_met : (facts : List Fact) → ClosedAsItStands facts → (f x : Fact) → IsIn f facts → IsIn x (orders f) → IsMet facts x
order_met facts closed (Same a b) x i j =
    ⊎_elim (met_here facts (Same a b) x i) (λ k. ⊎_elim (met_turned facts (Same b a) x (λ d. d) closed (turned a b (given (Same a b) i))) (λ y. absurd y) k) j
order_met facts closed (Sum t y z) x i j =
    ⊎_elim (met_here facts (Sum t y z) x i) (λ k. ⊎_elim (met_turned facts (Sum t z y) x (λ d. d) closed (sum_turned t y z (given (Sum t y z) i))) (λ y. absurd y) k) j
order_met facts closed (Upper p a (Plus q) c) x i j =
    ⊎_elim (met_here facts (Upper p a (Plus q) c) x i) (λ k. ⊎_elim (met_turned facts (Upper q a (Plus p) c) x (λ d. d) closed (upper_turned p a q c (given (Upper p a (Plus q) c) i))) (λ y. absurd y) k) j
order_met facts closed (Upper p a Nothing c) x i j = ⊎_elim (met_here facts (Upper p a Nothing c) x i) (λ y. absurd y) j
order_met facts closed (Upper p a (Minus q) c) x i j = ⊎_elim (met_here facts (Upper p a (Minus q) c) x i) (λ y. absurd y) j
order_met facts closed (Rng p l h) x i j = ⊎_elim (met_here facts (Rng p l h) x i) (λ y. absurd y) j
order_met facts closed (LenRng p l h) x i j = ⊎_elim (met_here facts (LenRng p l h) x i) (λ y. absurd y) j
order_met facts closed (Low p c) x i j = ⊎_elim (met_here facts (Low p c) x i) (λ y. absurd y) j
order_met facts closed (IsLen p a) x i j = ⊎_elim (met_here facts (IsLen p a) x i) (λ y. absurd y) j
order_met facts closed (Less p q c) x i j = ⊎_elim (met_here facts (Less p q c) x i) (λ y. absurd y) j
order_met facts closed (Search p a) x i j = ⊎_elim (met_here facts (Search p a) x i) (λ y. absurd y) j
order_met facts closed (Neg p a) x i j = ⊎_elim (met_here facts (Neg p a) x i) (λ y. absurd y) j

as_it_stands : (facts : List Fact) → ClosedAsItStands facts → Stronger facts (in_orders facts)
unfolding IsMet
as_it_stands facts closed = record { met = λ x i. let f = from_in_orders x facts i in order_met facts closed f.0 x f.1 f.2 }

pub first_order : (f : Fact) → IsIn f (orders f)
first_order (Same a b) = inl refl
first_order (Sum t y z) = inl refl
first_order (Upper p a (Plus q) c) = inl refl
first_order (Upper p a Nothing c) = inl refl
first_order (Upper p a (Minus q) c) = inl refl
first_order (Rng p l h) = inl refl
first_order (LenRng p l h) = inl refl
first_order (Low p c) = inl refl
first_order (IsLen p a) = inl refl
first_order (Less p q c) = inl refl
first_order (Search p a) = inl refl
first_order (Neg p a) = inl refl

pub orders_stronger_than : (facts : List Fact) → ClosedAsItStands facts → Stronger (in_orders facts) facts
orders_stronger_than facts closed = record { met = λ f i. (f, in_in_orders f f facts i (first_order f) (closed.tells f i), covers_itself f) }

-- ---- bounds and rules

pub same_bounds : (facts : List Fact) → ClosedAsItStands facts → SameBounds (in_orders facts) facts
same_bounds facts closed = (bounds_no_weaker (in_orders facts) facts (orders_stronger_than facts closed), bounds_no_weaker facts (in_orders facts) (as_it_stands facts closed))

exact_stays : (strong weak : List Fact) → Stronger strong weak → (kind : OpKind) → HasExact strong kind → HasExact weak kind
exact_stays strong weak s (op.Num t arith_op y z) some =
    let e = ends_within (Exact.exact_range strong arith_op (Slot y) (Slot z)) (Exact.exact_range weak arith_op (Slot y) (Slot z)) some (exact_mono strong weak s arith_op (Slot y) (Slot z)) in
    omega (arith, ints, e.0, e.1)
exact_stays strong weak s (op.Unary t unary y) some =
    let e = ends_within (Exact.exact_unary strong unary (Slot y)) (Exact.exact_unary weak unary (Slot y)) some (unary_mono strong weak s unary (Slot y)) in
    omega (arith, ints, e.0, e.1)
exact_stays strong weak s (op.Const t value) some = tt
exact_stays strong weak s (op.Copy t p ty) some = tt
exact_stays strong weak s (op.Length t a) some = tt
exact_stays strong weak s (op.NewArray t ty n) some = tt
exact_stays strong weak s (op.Fill t ty entries) some = tt
exact_stays strong weak s (op.Load t a i ty) some = tt
exact_stays strong weak s (op.Store a i v ty) some = tt
exact_stays strong weak s (op.ReadField t o f) some = tt
exact_stays strong weak s (op.WriteField o f v) some = tt
exact_stays strong weak s (op.NewObject call) some = tt
exact_stays strong weak s (op.StaticCall call) some = tt
exact_stays strong weak s (op.InstanceCall call) some = tt
exact_stays strong weak s (op.SuperCall call) some = tt
exact_stays strong weak s (op.Print value) some = tt

pub same_rules : (facts : List Fact) (profile : Profile) (kind : OpKind) → ClosedAsItStands facts → HasExact (in_orders facts) kind → AsStrong (new_facts (in_orders facts) profile kind) (new_facts facts profile kind)
same_rules facts profile kind closed some =
    let s = orders_stronger_than facts closed in
    (new_facts_mono (in_orders facts) facts s profile kind some, new_facts_mono facts (in_orders facts) (as_it_stands facts closed) profile kind (exact_stays (in_orders facts) facts s kind some))

pub same_outcomes : (facts : List Fact) (outcome : Outcome) → ClosedAsItStands facts → AsStrong (outcome_facts (in_orders facts) outcome) (outcome_facts facts outcome)
same_outcomes facts outcome closed = (outcome_mono (in_orders facts) facts (orders_stronger_than facts closed) outcome, outcome_mono facts (in_orders facts) (as_it_stands facts closed) outcome)

one_test : (s t : Bool) → (s ≡ true → t ≡ true) → (t ≡ true → s ≡ true) → s ≡ t
one_test true t k l = sym (k refl)
one_test false true k l = l refl
one_test false false k l = refl

pub same_proved : (facts : List Fact) (claim : PathClaim) (p : Path) → ClosedAsItStands facts → proves (in_orders facts) claim p ≡ proves facts claim p
same_proved facts claim p closed =
    one_test (proves (in_orders facts) claim p) (proves facts claim p)
    (proves_mono facts (in_orders facts) (as_it_stands facts closed) claim p)
    (proves_mono (in_orders facts) facts (orders_stronger_than facts closed) claim p)
