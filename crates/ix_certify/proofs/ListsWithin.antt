-- Lists of facts and of paths, each within.
use Rattle.std.specs.Prelude.{◌≡◌, Bool, true, false, ℤ, int_lt, List, [], ◌∷◌, ◌++◌, Option, Some, None, refl}
use Rattle.std.proofs.Common.{inl, inr, sym, subst, ⊎_elim}
use Rattle.ix_num.specs.Ints.{least_int, greatest_int}
use Rattle.ix_core.specs.declared.fact.Path.{Path}
use Rattle.ix_core.specs.declared.fact.PathOff.{PathOff}
use Rattle.ix_core.specs.declared.fact.PathOff.TheVariants.{Nothing, Plus, Minus}
use Rattle.ix_core.specs.declared.fact.Fact.{Fact}
use Rattle.ix_core.specs.declared.fact.Fact.TheVariants.{Rng, LenRng, Low, Same, IsLen, Less, Sum, Search, Neg, Upper}
use Rattle.ix_core.proofs.Cases.{by_test}
use Rattle.ix_facts.specs.Facts.{IsIn}
use Rattle.ix_facts.specs.Closure.{kept_fact, kept}
use Rattle.ix_facts.specs.Exact.{if_so, each, each_path, if_some, offset_paths, ints_of, arrays_of, paths_of, named_ints, named_arrays}
use Rattle.ix_certify.proofs.Paths.{OffsetWithin, Within}

pub data Each (In : Path → Type 0) : List Fact → Type 0 where
  none : Each In []
  next : (f : Fact) (facts : List Fact) → Within In f → Each In facts → Each In (f ∷ facts)

pub data EachPath (In : Path → Type 0) : List Path → Type 0 where
  no_path : EachPath In []
  path : (p : Path) (paths : List Path) → In p → EachPath In paths → EachPath In (p ∷ paths)

module _ (In : Path → Type 0) where
  pub one : (f : Fact) → Within In f → Each In (f ∷ [])
  one f x = next f [] x none

  pub two : (f g : Fact) → Within In f → Within In g → Each In (f ∷ g ∷ [])
  two f g x y = next f (g ∷ []) x (one g y)

  pub both : (a b : List Fact) → Each In a → Each In b → Each In (a ++ b)
  both _ b none y = y
  both _ b (next f a e x) y = next f (a ++ b) e (both a b x y)

  pub if_within : (t : Bool) (facts : List Fact) → Each In facts → Each In (if_so t facts)
  if_within true facts x = x
  if_within false facts x = none

  pub so_within : (t : Bool) (facts : List Fact) → (t ≡ true → Each In facts) → Each In (if_so t facts)
  so_within true facts x = x refl
  so_within false facts x = none

  pub some_within : (make : ℤ → Fact) → ((c : ℤ) → Within In (make c)) → (o : Option ℤ) → Each In (if_some make o)
  some_within make all None = none
  some_within make all (Some c) = one (make c) (all c)

  pub path_within : (rule : Path → List Fact) (Of : Path → Type 0) → ((p : Path) → Of p → Each In (rule p)) → (paths : List Path) → EachPath Of paths → Each In (each_path rule paths)
  path_within rule Of all _ no_path = none
  path_within rule Of all _ (path p paths i x) = both (rule p) (each_path rule paths) (all p i) (path_within rule Of all paths x)

  pub fact_within : (rule : Fact → List Fact) (Of : Path → Type 0) → ((f : Fact) → Within Of f → Each In (rule f)) → (facts : List Fact) → Each Of facts → Each In (each rule facts)
  fact_within rule Of all _ none = none
  fact_within rule Of all _ (next f facts i x) = both (rule f) (each rule facts) (all f i) (fact_within rule Of all facts x)

  kept_one : (f : Fact) → Within In f → Each In (kept_fact f)
  kept_one (Less p q c) x = by_test (int_lt greatest_int c) (λ t. rw t none) (λ t. rw t (one _ x))
  kept_one (Upper p a o c) x = by_test (int_lt c least_int) (λ t. rw t none) (λ t. rw t (one _ x))
  kept_one (Search p a) x = one _ x
  kept_one (Rng p l h) x = one _ x
  kept_one (LenRng p l h) x = one _ x
  kept_one (Low p c) x = one _ x
  kept_one (Same a b) x = one _ x
  kept_one (IsLen p a) x = one _ x
  kept_one (Sum t y z) x = one _ x
  kept_one (Neg p a) x = one _ x

  pub kept_within : (facts : List Fact) → Each In facts → Each In (kept facts)
  kept_within _ none = none
  kept_within _ (next f facts e x) = both (kept_fact f) (kept facts) (kept_one f e) (kept_within facts x)

  pub each_in : (facts : List Fact) → Each In facts → (f : Fact) → IsIn f facts → Within In f
  each_in _ none f i = absurd i
  each_in _ (next g facts e x) f i = ⊎_elim (λ d. subst (Within In) (sym d) e) (λ j. each_in facts x f j) i

  pub in_each : (facts : List Fact) → ((f : Fact) → IsIn f facts → Within In f) → Each In facts
  in_each [] all = none
  in_each (f ∷ facts) all = next f facts (all f (inl refl)) (in_each facts (λ g i. all g (inr i)))

  -- ---- the paths that such facts name

  both_paths : (a b : List Path) → EachPath In a → EachPath In b → EachPath In (a ++ b)
  both_paths _ b no_path y = y
  both_paths _ b (path p a i x) y = path p (a ++ b) i (both_paths a b x y)

  one_path : (p : Path) → In p → EachPath In (p ∷ [])
  one_path p i = path p [] i no_path

  offset_within : (o : PathOff) → OffsetWithin In o → EachPath In (offset_paths o)
  offset_within Nothing x = no_path
  offset_within (Plus q) x = one_path q x
  offset_within (Minus q) x = one_path q x

  ints_within : (f : Fact) → Within In f → EachPath In (ints_of f)
  ints_within (Rng p l h) x = one_path p x
  ints_within (LenRng a l h) x = no_path
  ints_within (Low p c) x = one_path p x
  ints_within (Same a b) x = no_path
  ints_within (IsLen p a) x = one_path p x.0
  ints_within (Less p q c) x = path p (q ∷ []) x.0 (one_path q x.1)
  ints_within (Sum t y z) x = path t (y ∷ z ∷ []) x.0 (path y (z ∷ []) x.1 (one_path z x.2))
  ints_within (Search p a) x = one_path p x.0
  ints_within (Neg p a) x = one_path p x.0
  ints_within (Upper p a o c) x = path p (offset_paths o) x.0 (offset_within o x.2)

  arrays_within : (f : Fact) → Within In f → EachPath In (arrays_of f)
  arrays_within (Rng p l h) x = no_path
  arrays_within (LenRng a l h) x = one_path a x
  arrays_within (Low p c) x = no_path
  arrays_within (Same a b) x = path a (b ∷ []) x.0 (one_path b x.1)
  arrays_within (IsLen p a) x = one_path a x.1
  arrays_within (Less p q c) x = no_path
  arrays_within (Sum t y z) x = no_path
  arrays_within (Search p a) x = one_path a x.1
  arrays_within (Neg p a) x = one_path a x.1
  arrays_within (Upper p a o c) x = one_path a x.1

  paths_within : (of : Fact → List Path) → ((f : Fact) → Within In f → EachPath In (of f)) → (facts : List Fact) → Each In facts → EachPath In (paths_of of facts)
  paths_within of all _ none = no_path
  paths_within of all _ (next f facts i x) = both_paths (of f) (paths_of of facts) (all f i) (paths_within of all facts x)

  pub named_ints_within : (facts : List Fact) → Each In facts → EachPath In (named_ints facts)
  named_ints_within = paths_within ints_of ints_within

  pub named_arrays_within : (facts : List Fact) → Each In facts → EachPath In (named_arrays facts)
  named_arrays_within = paths_within arrays_of arrays_within
