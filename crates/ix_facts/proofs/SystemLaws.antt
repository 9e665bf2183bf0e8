-- The laws of a system of facts: what its tables say holds where the facts do, and is stronger where they are.
use Rattle.std.specs.Prelude.{◌≡◌, true, refl, pos, List, [], ◌∷◌, ◌++◌}
use Rattle.std.proofs.Common.{arith, inl, inr, ap, sym, ◌∙◌, subst, ⊎_elim}
use Rattle.std.proofs.lemmas.Bool.{false≢true}
use Rattle.std.proofs.lemmas.Int.{ints, clamps}
use Rattle.ix_num.specs.Ints.{least_int, greatest_int}
use Rattle.ix_core.specs.declared.fact.PathOff.TheVariants.{Nothing, Plus, Minus}
use Rattle.ix_core.specs.declared.claim.Type_.{Type_}
use Rattle.ix_core.specs.declared.fact.Path.{Path}
use Rattle.ix_core.specs.declared.fact.Fact.{Fact}
use Rattle.ix_core.specs.declared.fact.Fact.TheVariants.{Rng, LenRng, Low, Same, IsLen, Less, Sum, Search, Neg, Upper}
use Rattle.ix_core.specs.declared.fact.Profile.{Profile}
use Rattle.ix_core.specs.declared.op.OpKind.{OpKind}
use Rattle.ix_core.specs.Numbers.{Numbers}
use Rattle.ix_core.proofs.Cases.{by_test}
use Rattle.ix_facts.specs.Facts.{Holds, AllHold, IsIn, Covers, Stronger, orders, in_orders, rng, len_rng, low, same, is_len, less, sum, search, neg, upper}
use Rattle.ix_facts.specs.Closure.{Default, SaysAll, kept}
use Rattle.ix_facts.specs.Forget.{of_path, without, SameBut}
use Rattle.ix_facts.specs.AfterOperation.{copied, new_facts}
use Rattle.ix_facts.specs.After.{of_target, Step, TargetApart, finished_by, finished, beside_target, kept_new}
use Rattle.ix_facts.specs.declared.kind.Kind.{Kind}
use Rattle.ix_facts.specs.declared.kind.Kind.TheVariants as kind
use Rattle.ix_facts.specs.Kinds.{kind_of, is_kind, is_of, of_kind}
use Rattle.ix_facts.specs.Systems.{Merges, given, weaker, any_int, any_size, met, len_met, turned, sum_turned, upper_turned, IsTable, system_after, system_copy, system_added}
use Rattle.ix_facts.proofs.AfterLaws.{results_now, finished_by_holds, finished_holds}
use Rattle.ix_facts.proofs.BoundsHold.{in_orders_hold}
use Rattle.ix_facts.proofs.ClosureLaws.{kept_hold}
use Rattle.ix_facts.proofs.FactLists.{covers_holds, in_holds, told_either, all_hold_app, all_hold_each}
use Rattle.ix_facts.proofs.Frame.{without_stays}
use Rattle.ix_facts.proofs.OperationsHold.{new_facts_hold}
use Rattle.ix_facts.proofs.StoreLaws.{says_hold}
use Rattle.ix_facts.specs.Laws.{Alike}
use Rattle.ix_facts.proofs.RulesHold.{copied_hold}

-- ---- tables

merges_hold : (facts : List Fact) (v : Numbers) → AllHold facts v → (f : Fact) → Merges facts f → Holds f v
merges_hold facts v k _ (given f i) = in_holds v f facts k i
merges_hold facts v k _ (weaker g f c r) = covers_holds v g f c (merges_hold facts v k g r)
merges_hold facts v k _ (any_int p) = (v.int_from p, v.int_to p)
merges_hold facts v k _ (any_size a) = (v.size_from a, v.size_to a)
merges_hold facts v k _ (met p l h m n r s) = let x = merges_hold facts v k (Rng p l h) r in let y = merges_hold facts v k (Rng p m n) s in (omega (arith, ints, clamps), omega (arith, ints, clamps))
merges_hold facts v k _ (len_met a l h m n r s) = let x = merges_hold facts v k (LenRng a l h) r in let y = merges_hold facts v k (LenRng a m n) s in (omega (arith, ints, clamps), omega (arith, ints, clamps))
merges_hold facts v k _ (turned a b r) = sym (merges_hold facts v k (Same a b) r)
merges_hold facts v k _ (sum_turned t y z r) = let e = merges_hold facts v k (Sum t y z) r in omega (arith, ints)
merges_hold facts v k _ (upper_turned p a q c r) = let e = merges_hold facts v k (Upper p a (Plus q) c) r in omega (arith, ints)

pub table_holds : (facts table : List Fact) (v : Numbers) → IsTable facts table → AllHold facts v → AllHold table v
table_holds facts table v is h = all_hold_each v table (λ f i. merges_hold facts v h f (is.only f i))

pub default_merges : (facts : List Fact) (f : Fact) → Default f → Merges facts f
default_merges facts (Rng p l h) d = weaker (Rng p least_int greatest_int) (Rng p l h) (rng p least_int greatest_int l h d.0 d.1) (any_int p)
default_merges facts (LenRng a l h) d = weaker (LenRng a (pos 0) greatest_int) (LenRng a l h) (len_rng a (pos 0) greatest_int l h d.0 d.1) (any_size a)
default_merges facts (Low _ _) d = absurd d
default_merges facts (Same _ _) d = absurd d
default_merges facts (IsLen _ _) d = absurd d
default_merges facts (Less _ _ _) d = absurd d
default_merges facts (Sum _ _ _) d = absurd d
default_merges facts (Search _ _) d = absurd d
default_merges facts (Neg _ _) d = absurd d
default_merges facts (Upper _ _ _ _) d = absurd d

order_merges : (facts : List Fact) (f g : Fact) → Merges facts f → IsIn g (orders f) → Merges facts g
order_merges facts (Same a b) g r i = ⊎_elim (λ e. subst (Merges facts) (sym e) r) (λ j. ⊎_elim (λ e. subst (Merges facts) (sym e) (turned a b r)) (λ x. absurd x) j) i
order_merges facts (Sum t y z) g r i = ⊎_elim (λ e. subst (Merges facts) (sym e) r) (λ j. ⊎_elim (λ e. subst (Merges facts) (sym e) (sum_turned t y z r)) (λ x. absurd x) j) i
order_merges facts (Upper p a (Plus q) c) g r i = ⊎_elim (λ e. subst (Merges facts) (sym e) r) (λ j. ⊎_elim (λ e. subst (Merges facts) (sym e) (upper_turned p a q c r)) (λ x. absurd x) j) i
order_merges facts (Upper p a Nothing c) g r i = ⊎_elim (λ e. subst (Merges facts) (sym e) r) (λ x. absurd x) i
order_merges facts (Upper p a (Minus q) c) g r i = ⊎_elim (λ e. subst (Merges facts) (sym e) r) (λ x. absurd x) i
order_merges facts (Rng p l h) g r i = ⊎_elim (λ e. subst (Merges facts) (sym e) r) (λ x. absurd x) i
order_merges facts (LenRng p l h) g r i = ⊎_elim (λ e. subst (Merges facts) (sym e) r) (λ x. absurd x) i
order_merges facts (Low p c) g r i = ⊎_elim (λ e. subst (Merges facts) (sym e) r) (λ x. absurd x) i
order_merges facts (IsLen p a) g r i = ⊎_elim (λ e. subst (Merges facts) (sym e) r) (λ x. absurd x) i
order_merges facts (Less p q c) g r i = ⊎_elim (λ e. subst (Merges facts) (sym e) r) (λ x. absurd x) i
order_merges facts (Search p a) g r i = ⊎_elim (λ e. subst (Merges facts) (sym e) r) (λ x. absurd x) i
order_merges facts (Neg p a) g r i = ⊎_elim (λ e. subst (Merges facts) (sym e) r) (λ x. absurd x) i

pub in_orders_merges : (facts rest : List Fact) → ((f : Fact) → IsIn f rest → Merges facts f) → (g : Fact) → IsIn g (in_orders rest) → Merges facts g
in_orders_merges facts [] k g i = absurd i
in_orders_merges facts (f ∷ rest) k g i =
    ⊎_elim (λ j. order_merges facts f g (k f (inl Rattle.std.proofs.Common.refl)) j) (λ j. in_orders_merges facts rest (λ h m. k h (inr m)) g j) (told_either f rest g i)

-- ---- kinds

pub covers_kind : (g f : Fact) → Covers g f → kind_of g ≡ kind_of f
covers_kind _ _ (rng p l h m k x y) = refl
covers_kind _ _ (len_rng p l h m k x y) = refl
covers_kind _ _ (low p c d x) = refl
covers_kind _ _ (same a b) = refl
covers_kind _ _ (is_len p a) = refl
covers_kind _ _ (less p q c d x) = refl
covers_kind _ _ (sum t y z) = refl
covers_kind _ _ (search p a) = refl
covers_kind _ _ (neg p a) = refl
covers_kind _ _ (upper p a o c d x) = refl

one_kind : (f x : Fact) → IsIn x (f ∷ []) → kind_of x ≡ kind_of f
one_kind f x i = ⊎_elim (λ e. ap kind_of e) (λ y. absurd y) i

two_kinds : (f g x : Fact) → kind_of g ≡ kind_of f → IsIn x (f ∷ g ∷ []) → kind_of x ≡ kind_of f
two_kinds f g x e i = ⊎_elim (λ d. ap kind_of d) (λ j. one_kind g x j ∙ e) i

pub order_kind : (f x : Fact) → IsIn x (orders f) → kind_of x ≡ kind_of f
order_kind (Same a b) x i = two_kinds (Same a b) (Same b a) x refl i
order_kind (Sum t y z) x i = two_kinds (Sum t y z) (Sum t z y) x refl i
order_kind (Upper p a (Plus q) c) x i = two_kinds (Upper p a (Plus q) c) (Upper q a (Plus p) c) x refl i
order_kind (Upper p a Nothing c) x i = one_kind (Upper p a Nothing c) x i
order_kind (Upper p a (Minus q) c) x i = one_kind (Upper p a (Minus q) c) x i
order_kind (Rng p l h) x i = one_kind (Rng p l h) x i
order_kind (LenRng p l h) x i = one_kind (LenRng p l h) x i
order_kind (Low p c) x i = one_kind (Low p c) x i
order_kind (IsLen p a) x i = one_kind (IsLen p a) x i
order_kind (Less p q c) x i = one_kind (Less p q c) x i
order_kind (Search p a) x i = one_kind (Search p a) x i
order_kind (Neg p a) x i = one_kind (Neg p a) x i

of_kind_holds : (own : Kind) (v : Numbers) (facts : List Fact) → AllHold facts v → AllHold (of_kind own facts) v
of_kind_holds own v [] h = tt
of_kind_holds own v (f ∷ facts) h = by_test (is_of own f) (λ t. rw t (h.0, of_kind_holds own v facts h.1)) (λ t. rw t (of_kind_holds own v facts h.1))

pub in_kind : (own : Kind) (f : Fact) (facts : List Fact) → IsIn f (of_kind own facts) → IsIn f facts × (is_of own f ≡ true)
in_kind own f [] i = absurd i
in_kind own f (g ∷ facts) i =
    by_test (is_of own g)
    (λ t. ⊎_elim (λ e. (inl e, ap (is_of own) e ∙ t)) (λ j. let x = in_kind own f facts j in (inr x.0, x.1)) (rw t at i))
    (λ t. let x = in_kind own f facts (rw t at i) in (inr x.0, x.1))

pub kind_in : (own : Kind) (f : Fact) (facts : List Fact) → IsIn f facts → is_of own f ≡ true → IsIn f (of_kind own facts)
kind_in own f [] i t = absurd i
kind_in own f (g ∷ facts) i t =
    by_test (is_of own g)
    (λ x. rw x (⊎_elim (λ e. inl e) (λ j. inr (kind_in own f facts j t)) i))
    (λ x. ⊎_elim (λ e. absurd (false≢true (sym x ∙ (sym (ap (is_of own) e) ∙ t)))) (λ j. rw x (kind_in own f facts j t)) i)

-- every fact is of any kind
pub of_any : (facts : List Fact) → of_kind kind.Any facts ≡ facts
of_any [] = refl
of_any (f ∷ facts) = ap (λ l. f ∷ l) (of_any facts)

pub kind_stronger : (own : Kind) (strong weak : List Fact) → Stronger strong weak → Stronger (of_kind own strong) (of_kind own weak)
kind_stronger own strong weak s = record {
  met = λ f i.
      let x = in_kind own f weak i in
      let y = s.met f x.0 in
      (y.0, kind_in own y.0 strong y.1 (ap (is_kind own) (covers_kind y.0 f y.2) ∙ x.1), y.2);
}

-- ---- after an operation

pub system_sound : (own : Kind) (known table : List Fact) (profile : Profile) (kind : OpKind) (v w : Numbers) → TargetApart kind → Step profile kind v w
    → SaysAll (without (of_target kind) known) (without (of_target kind) table) → AllHold (without (of_target kind) known) v → AllHold (system_after own known table profile kind) w
system_sound own known table profile kind v w apart step met_by h =
    let old = without_stays (of_target kind) v w step.others known h in
    let beside = beside_target kind known in
    let k = in_orders_hold w (without (of_target kind) known) old in
    let new = kept_hold w (new_facts beside profile kind) (new_facts_hold w beside k profile kind (results_now profile kind v w apart step.others step.results)) in
    let rest = kept_hold w (finished beside (kept_new beside profile kind) kind) (finished_holds w beside (kept_new beside profile kind) k new kind) in
    all_hold_app w (without (of_target kind) table) (of_kind own (kept_new beside profile kind ++ kept (finished beside (kept_new beside profile kind) kind)))
    (says_hold (without (of_target kind) known) (without (of_target kind) table) w met_by old)
    (of_kind_holds own w (kept_new beside profile kind ++ kept (finished beside (kept_new beside profile kind) kind)) (all_hold_app w (kept_new beside profile kind) (kept (finished beside (kept_new beside profile kind) kind)) new rest))

-- ---- after a copy, rounded, forgotten and added

pub system_copy_sound : (own : Kind) (known table : List Fact) (ty : Type_) (t s : Path) (v w : Numbers) → Alike w t s → SameBut (of_path t) v w
    → SaysAll (without (of_path t) known) (without (of_path t) table) → AllHold (without (of_path t) known) v → AllHold (system_copy own known table ty t s) w
system_copy_sound own known table ty t s v w alike others met_by h =
    let old = without_stays (of_path t) v w others known h in
    let beside = in_orders (without (of_path t) known) in
    let k = in_orders_hold w (without (of_path t) known) old in
    let new = kept_hold w (copied beside ty t s) (copied_hold w t s alike beside k ty) in
    let rest = kept_hold w (finished_by ty beside (kept (copied beside ty t s)) t) (finished_by_holds w beside (kept (copied beside ty t s)) k new ty t) in
    all_hold_app w (without (of_path t) table) (of_kind own (kept (copied beside ty t s) ++ kept (finished_by ty beside (kept (copied beside ty t s)) t)))
    (says_hold (without (of_path t) known) (without (of_path t) table) w met_by old)
    (of_kind_holds own w (kept (copied beside ty t s) ++ kept (finished_by ty beside (kept (copied beside ty t s)) t)) (all_hold_app w (kept (copied beside ty t s)) (kept (finished_by ty beside (kept (copied beside ty t s)) t)) new rest))

pub system_add_sound : (own : Kind) (table : List Fact) (fact : Fact) (v : Numbers) → AllHold table v → Holds fact v → AllHold (system_added own table fact) v
system_add_sound own table fact v h k = all_hold_app v table (of_kind own (kept (fact ∷ []))) h (of_kind_holds own v (kept (fact ∷ [])) (kept_hold v (fact ∷ []) (k, tt)))
