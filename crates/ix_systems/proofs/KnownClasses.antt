-- What an int is at least in new facts is -1, 0 or 1, where it is in what is known.
use Rattle.std.specs.Prelude.{◌≡◌, ℕ, zero, suc, ◌+◌, List, [], ◌∷◌, ◌++◌, All, Some, slice_get, take}
use Rattle.std.proofs.Common.{arith, add-one, ap, sym, ◌∙◌, subst, ⊎_elim}
use Rattle.ix_core.specs.declared.claim.Type_.{Type_}
use Rattle.ix_core.specs.declared.fact.Path.{Path}
use Rattle.ix_core.specs.declared.fact.Profile.{Profile}
use Rattle.ix_core.specs.declared.op.OpKind.{OpKind}
use Rattle.ix_core.specs.declared.fact.Fact.{Fact}
use Rattle.ix_core.specs.declared.fact.Fact.TheVariants.{Rng, LenRng, Low, Same, IsLen, Less, Sum, Search, Neg, Upper}
use Rattle.ix_facts.specs.Facts.{in_orders}
use Rattle.ix_facts.specs.Closure.{kept}
use Rattle.ix_facts.specs.Forget.{of_path, without}
use Rattle.ix_facts.specs.AfterOperation.{copied}
use Rattle.ix_facts.specs.After.{of_target, beside_target, kept_new, finished, finished_by}
use Rattle.ix_facts.specs.Small.{HasSmallNumbers}
use Rattle.ix_facts.specs.Systems.{HasClass, HaveClasses}
use Rattle.ix_facts.proofs.FactLists.{in_right}
use Rattle.ix_facts.proofs.ClassesStay.{after_classes, copy_classes}
use Rattle.ix_facts.specs.SameFacts.{AreSame}

small_class : (f : Fact) → HasSmallNumbers f → HasClass f
small_class (Low p c) h = h
small_class (Rng p l k) h = tt
small_class (LenRng p l k) h = tt
small_class (Same a b) h = tt
small_class (IsLen p a) h = tt
small_class (Less p q c) h = tt
small_class (Sum t y z) h = tt
small_class (Search p a) h = tt
small_class (Neg p a) h = tt
small_class (Upper p a o c) h = tt

pub small_classes : (facts : List Fact) → All HasSmallNumbers facts → HaveClasses facts
small_classes [] all f i = absurd i
small_classes (g ∷ facts) all f i =
    ⊎_elim
    (λ e. subst HasClass (sym e) (small_class g (all 0 g (omega arith))))
    (λ j. small_classes facts (λ k d lt. all (suc k) d (omega arith)) f j)
    i

same_classes : (new facts : List Fact) → AreSame new facts → HaveClasses facts → HaveClasses new
same_classes new facts same all f i = all f (same.there f i)

abbrev pub after_new : List Fact → Profile → OpKind → List Fact
after_new beside profile kind = kept_new beside profile kind ++ kept (finished beside (kept_new beside profile kind) kind)

pub new_is : (known : List Fact) (kind : OpKind) (profile : Profile) (new : List Fact) → without (of_target kind) known ≡ known → All HasSmallNumbers known → AreSame new (after_new (in_orders known) profile kind)
    → AreSame new (after_new (beside_target kind known) profile kind) × HaveClasses new
new_is known kind profile new beside small same =
    let whole : AreSame new (after_new (beside_target kind known) profile kind) = subst (λ l. AreSame new (after_new (in_orders l) profile kind)) (sym beside) same in
    (whole, same_classes new (after_new (beside_target kind known) profile kind) whole (λ f i. after_classes known profile kind (small_classes known small) f (in_right f (without (of_target kind) known) (after_new (beside_target kind known) profile kind) i)))

abbrev pub copy_new : List Fact → Type_ → Path → Path → List Fact
copy_new beside ty t s = kept (copied beside ty t s) ++ kept (finished_by ty beside (kept (copied beside ty t s)) t)

pub copy_is : (known : List Fact) (ty : Type_) (t s : Path) (new : List Fact) → without (of_path t) known ≡ known → All HasSmallNumbers known → AreSame new (copy_new (in_orders known) ty t s)
    → AreSame new (copy_new (in_orders (without (of_path t) known)) ty t s) × HaveClasses new
copy_is known ty t s new beside small same = (
  subst (λ l. AreSame new (copy_new (in_orders l) ty t s)) (sym beside) same,
  same_classes new (copy_new (in_orders known) ty t s) same (λ f i. copy_classes known ty t s (small_classes known small) f (in_right f known (copy_new (in_orders known) ty t s) i)),
)

-- ---- one more fact that is known

take_next : (known : List Fact) (k : ℕ) (f : Fact) → slice_get known k ≡ Some f → take (suc k) known ≡ take k known ++ f ∷ []
take_next [] k f e = absurd cc
take_next (g ∷ known) zero f e = let i : g ≡ f = cc in ap (λ x. x ∷ []) i
take_next (g ∷ known) (suc k) f e = ap (λ l. g ∷ l) (take_next known k f e)

pub next_known : (facts next known : List Fact) (k : ℕ) (f : Fact) → slice_get known k ≡ Some f → next ≡ facts ++ f ∷ [] → facts ≡ take k known → next ≡ take (k + 1) known
next_known facts next known k f at made so_far = rw (add-one, made) (ap (λ l. l ++ f ∷ []) so_far ∙ sym (take_next known k f at))

all_app : (facts : List Fact) (f : Fact) → All HasSmallNumbers facts → HasSmallNumbers f → All HasSmallNumbers (facts ++ f ∷ [])
all_app [] f all h zero d lt = h
all_app [] f all h (suc k) d lt = absurd (omega arith)
all_app (g ∷ facts) f all h zero d lt = all 0 d (omega arith)
all_app (g ∷ facts) f all h (suc k) d lt = all_app facts f (λ j e less. all (suc j) e (omega arith)) h k d (omega arith)

pub next_small : (facts next : List Fact) (f : Fact) → HasSmallNumbers f → next ≡ facts ++ f ∷ [] → All HasSmallNumbers facts → All HasSmallNumbers next
next_small facts next f h made all = rw made (all_app facts f all h)
