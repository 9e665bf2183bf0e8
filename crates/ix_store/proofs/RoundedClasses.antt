-- What an int is at least stays -1, 0 or 1 where facts are dropped, rounded or added.
use Rattle.std.specs.Prelude.{ℕ, Bool, ℤ, List, [], ◌∷◌, Option, Some, None, refl}
use Rattle.std.proofs.Common.{inl, inr, sym, subst, ⊎_elim}
use Rattle.ix_core.specs.declared.fact.Path.{Path}
use Rattle.ix_core.specs.declared.fact.Fact.{Fact}
use Rattle.ix_core.specs.declared.fact.Fact.TheVariants.{Rng, LenRng, Low, Same, IsLen, Less, Sum, Search, Neg, Upper}
use Rattle.ix_facts.specs.Exact.{if_some}
use Rattle.ix_facts.specs.Forget.{without}
use Rattle.ix_facts.specs.Round.{mark_below, mark_above, if_both, rounded_fact, rounded, is_beyond}
use Rattle.ix_facts.specs.Systems.{HasClass, HaveClasses, system_rounded}
use Rattle.ix_facts.proofs.FactLists.{in_either}
use Rattle.ix_facts.proofs.Frame.{in_without}

pub without_classes : (is : Path → Bool) (known : List Fact) → HaveClasses known → HaveClasses (without is known)
without_classes is known have f i = have f (in_without is f known i).0

if_some_classes : (make : ℤ → Fact) → ((n : ℤ) → HasClass (make n)) → (o : Option ℤ) → HaveClasses (if_some make o)
if_some_classes make all None f i = absurd i
if_some_classes make all (Some n) f i = ⊎_elim (λ e. subst HasClass (sym e) (all n)) (λ x. absurd x) i

if_both_classes : (make : ℤ → ℤ → Fact) → ((m n : ℤ) → HasClass (make m n)) → (l h : Option ℤ) → HaveClasses (if_both make l h)
if_both_classes make all (Some l) (Some h) f i = ⊎_elim (λ e. subst HasClass (sym e) (all l h)) (λ x. absurd x) i
if_both_classes make all None (Some h) f i = absurd i
if_both_classes make all (Some l) None f i = absurd i
if_both_classes make all None None f i = absurd i

itself_classes : (g : Fact) → HasClass g → HaveClasses (g ∷ [])
itself_classes g has f i = ⊎_elim (λ e. subst HasClass (sym e) has) (λ x. absurd x) i

one_rounded : (marks : List ℤ) (g : Fact) → HasClass g → HaveClasses (rounded_fact marks g)
one_rounded marks (Rng p l h) c = if_both_classes (Rng p) (λ m n. tt) (mark_below marks l) (mark_above marks h)
one_rounded marks (LenRng p l h) c = if_both_classes (LenRng p) (λ m n. tt) (mark_below marks l) (mark_above marks h)
one_rounded marks (Less p q n) c = if_some_classes (Less p q) (λ m. tt) (mark_above marks n)
one_rounded marks (Upper p a o n) c = if_some_classes (Upper p a o) (λ m. tt) (mark_below marks n)
one_rounded marks (Low p n) c = itself_classes (Low p n) c
one_rounded marks (Same a b) c = itself_classes (Same a b) c
one_rounded marks (IsLen p a) c = itself_classes (IsLen p a) c
one_rounded marks (Sum t y z) c = itself_classes (Sum t y z) c
one_rounded marks (Search p a) c = itself_classes (Search p a) c
one_rounded marks (Neg p a) c = itself_classes (Neg p a) c

all_rounded : (marks : List ℤ) (facts : List Fact) → HaveClasses facts → HaveClasses (system_rounded marks facts)
all_rounded marks [] have f i = absurd i
all_rounded marks (g ∷ facts) have f i =
    ⊎_elim
    (λ j. one_rounded marks g (have g (inl refl)) f j)
    (λ j. all_rounded marks facts (λ h k. have h (inr k)) f j)
    (in_either f (rounded_fact marks g) (system_rounded marks facts) i)

pub rounded_classes : (marks : List ℤ) (scope : ℕ) (known : List Fact) → HaveClasses known → HaveClasses (rounded marks scope known)
rounded_classes marks scope known have = all_rounded marks (without (is_beyond scope) known) (without_classes (is_beyond scope) known have)
