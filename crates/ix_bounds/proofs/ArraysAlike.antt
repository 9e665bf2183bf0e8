-- A bound through a difference is one of the array or of one of its length: so the facts on these arrays give what all facts give.
use Rattle.std.specs.Prelude.{◌≡◌, Bool, true, ◌||◌, ℤ, negsuc, Option, List, [], ◌∷◌, ◌++◌, filter, refl}
use Rattle.std.specs.Int.{int_max}
use Rattle.std.proofs.Common.{inl, inr, ap, sym, ◌∙◌, subst, ⊎_elim}
use Rattle.std.proofs.lemmas.Bool.{false≢true, and_parts}
use Rattle.ix_core.specs.declared.fact.Path.{Path}
use Rattle.ix_core.specs.declared.fact.PathOff.{PathOff}
use Rattle.ix_core.specs.declared.fact.PathOff.TheVariants.{Nothing, Plus, Minus}
use Rattle.ix_core.specs.declared.fact.Fact.{Fact}
use Rattle.ix_core.specs.declared.fact.Fact.TheVariants.{Rng, LenRng, Low, Same, IsLen, Less, Sum, Search, Neg, Upper}
use Rattle.ix_facts.specs.Bounds
use Rattle.ix_facts.specs.Bounds.{is_path, when, says_same, stored_same, best, greatest}
use Rattle.ix_facts.specs.Exact.{if_so, each}
use Rattle.ix_facts.specs.Facts.{IsIn}
use Rattle.ix_facts.specs.Forget.{names}
use Rattle.ix_facts.specs.PathOrder.{path_itself, path_same}
use Rattle.ix_facts.proofs.FactLists.{in_left, in_right, in_either}
use Rattle.ix_facts.specs.OnPaths.{HasNamed}
use Rattle.ix_core.proofs.Cases.{by_test}
use Rattle.ix_facts.proofs.Tests.{or_first, or_second}
use Rattle.ix_bounds.specs.OnArrays.{alike_on}
use Rattle.ix_bounds.proofs.BestOfParts.{joined, Counts, same_greatest, greatest_of_both}

-- ---- facts that name a path are on it

in_filter : (is : Fact → Bool) (f : Fact) (facts : List Fact) → IsIn f facts → is f ≡ true → IsIn f (filter is facts)
in_filter is f [] i t = absurd i
in_filter is f (g ∷ facts) i t =
    by_test (is g)
    (λ u. rw u (⊎_elim (λ e. inl e) (λ j. inr (in_filter is f facts j t)) i))
    (λ u. rw u (⊎_elim (λ e. absurd (false≢true (sym u ∙ subst (λ h. is h ≡ true) e t))) (λ j. in_filter is f facts j t) i))

from_filter : (is : Fact → Bool) (f : Fact) (facts : List Fact) → IsIn f (filter is facts) → IsIn f facts
from_filter is f [] i = i
from_filter is f (g ∷ facts) i =
    by_test (is g) (λ u. ⊎_elim (λ e. inl e) (λ j. inr (from_filter is f facts j)) (rw u at i)) (λ u. inr (from_filter is f facts (rw u at i)))

named_in : (p : Path) (part all : List Fact) → HasNamed p part all → (f : Fact) → IsIn f all → names (is_path p) f ≡ true → IsIn f part
named_in p part all named f i t = from_filter (names (is_path p)) f part (subst (λ l. IsIn f l) (sym named) (in_filter (names (is_path p)) f all i t))

-- ---- a stored fact says that two arrays have the same length

said_same : (a b : Path) (f : Fact) → says_same a b f ≡ true → f ≡ Same a b
said_same a b (Same c d) t = let both = and_parts (is_path c a) (is_path d b) t in let x = path_same c a both.0 in let y = path_same d b both.1 in cc
said_same a b (Rng p l h) t = absurd (false≢true t)
said_same a b (LenRng p l h) t = absurd (false≢true t)
said_same a b (Low p c) t = absurd (false≢true t)
said_same a b (IsLen p c) t = absurd (false≢true t)
said_same a b (Less p q c) t = absurd (false≢true t)
said_same a b (Sum u y z) t = absurd (false≢true t)
said_same a b (Search p c) t = absurd (false≢true t)
said_same a b (Neg p c) t = absurd (false≢true t)
said_same a b (Upper p c o n) t = absurd (false≢true t)

stored_in : (a b : Path) (facts : List Fact) → stored_same facts a b ≡ true → IsIn (Same a b) facts
stored_in a b [] t = absurd (false≢true t)
stored_in a b (f ∷ facts) t = by_test (says_same a b f) (λ u. inl (sym (said_same a b f u))) (λ u. inr (stored_in a b facts (subst (λ c. (c || stored_same facts a b) ≡ true) u t)))

to_each : (rule : Fact → List Fact) (facts : List Fact) (g f : Fact) → IsIn g facts → IsIn f (rule g) → IsIn f (each rule facts)
to_each rule [] g f i j = absurd i
to_each rule (h ∷ facts) g f i j =
    ⊎_elim (λ e. in_left f (rule h) (each rule facts) (subst (λ x. IsIn f (rule x)) e j)) (λ k. in_right f (rule h) (each rule facts) (to_each rule facts g f k j)) i

from_each : (rule : Fact → List Fact) (all : List Fact) → ((g f : Fact) → IsIn f (rule g) → IsIn f all) → (facts : List Fact) (f : Fact) → IsIn f (each rule facts) → IsIn f all
from_each rule all h [] f i = absurd i
from_each rule all h (g ∷ facts) f i = ⊎_elim (λ j. h g f j) (λ j. from_each rule all h facts f j) (in_either f (rule g) (each rule facts) i)

module _ (all : List Fact) (group : Path → List Fact) (named : (p : Path) → HasNamed p (group p) all) (only : (p : Path) (f : Fact) → IsIn f (group p) → IsIn f all) (a : Path) where
  abbrev pub on_arrays : List Fact
  on_arrays = group a ++ each (alike_on group a) (group a)

  alike_all : (g f : Fact) → IsIn f (alike_on group a g) → IsIn f all
  alike_all (Same b c) f i = by_test (is_path c a) (λ t. only b f (subst (λ x. IsIn f (if_so x (group b))) t i)) (λ t. absurd (subst (λ x. IsIn f (if_so x (group b))) t i))
  alike_all (Rng p l h) f i = absurd i
  alike_all (LenRng p l h) f i = absurd i
  alike_all (Low p c) f i = absurd i
  alike_all (IsLen p c) f i = absurd i
  alike_all (Less p q c) f i = absurd i
  alike_all (Sum u y z) f i = absurd i
  alike_all (Search p c) f i = absurd i
  alike_all (Neg p c) f i = absurd i
  alike_all (Upper p c o n) f i = absurd i

  arrays_only : (f : Fact) → IsIn f on_arrays → IsIn f all
  arrays_only f i = ⊎_elim (λ j. only a f j) (λ j. from_each (alike_on group a) all alike_all (group a) f j) (in_either f (group a) (each (alike_on group a) (group a)) i)

  -- the fact names b, which has the length of a
  on_alike : (b : Path) (f : Fact) → Bounds.are_same all b a ≡ true → IsIn f all → names (is_path b) f ≡ true → IsIn f on_arrays
  on_alike b f same i n =
      by_test (is_path b a)
      (λ t. in_left f (group a) (each (alike_on group a) (group a)) (named_in a (group a) all (named a) f i (subst (λ x. names (is_path x) f ≡ true) (path_same b a t) n)))
      (λ t.
      let stored : stored_same all b a ≡ true = subst (λ x. (x || stored_same all b a) ≡ true) t same in
      let says : IsIn (Same b a) (group a) = named_in a (group a) all (named a) (Same b a) (stored_in b a all stored) (or_second (is_path a b) (is_path a a) (path_itself a)) in
      let there : IsIn f (alike_on group a (Same b a)) = subst (λ x. IsIn f (if_so x (group b))) (sym (path_itself a)) (named_in b (group b) all (named b) f i n) in
      in_right f (group a) (each (alike_on group a) (group a)) (to_each (alike_on group a) (group a) (Same b a) f says there))

  names_array : (r b : Path) (x : PathOff) (c : ℤ) → names (is_path b) (Upper r b x c) ≡ true
  names_array r b x c = or_second (is_path b r) _ (or_first (is_path b b) _ (path_itself b))

  pub counts : (p : Path) (o : PathOff) → Counts (Bounds.shifted_by all p a o) all on_arrays
  counts p Nothing (Upper r b x c) i =
      by_test (Bounds.are_same all b a) (λ t. inr (on_alike b (Upper r b x c) t i (names_array r b x c))) (λ t. inl (ap (λ y. when y (best int_max (when (Bounds.is_offset x Nothing) (Bounds.through all c (Bounds.stored_less all p r))) (when (is_path r p) (Bounds.offset_moved all c x Nothing)))) t))
  counts p (Plus q) (Upper r b x c) i =
      by_test (Bounds.are_same all b a) (λ t. inr (on_alike b (Upper r b x c) t i (names_array r b x c))) (λ t. inl (ap (λ y. when y (best int_max (when (Bounds.is_offset x (Plus q)) (Bounds.through all c (Bounds.stored_less all p r))) (when (is_path r p) (Bounds.offset_moved all c x (Plus q))))) t))
  counts p (Minus q) (Upper r b x c) i =
      by_test (Bounds.are_same all b a) (λ t. inr (on_alike b (Upper r b x c) t i (names_array r b x c))) (λ t. inl (ap (λ y. when y (best int_max (when (Bounds.is_offset x (Minus q)) (Bounds.through all c (Bounds.stored_less all p r))) (when (is_path r p) (Bounds.offset_moved all c x (Minus q))))) t))
  counts p Nothing (IsLen r b) i =
      by_test (is_path b a)
      (λ t. inr (on_alike b (IsLen r b) (or_first (is_path b a) (stored_same all b a) t) i (or_second (is_path b r) (is_path b b) (path_itself b))))
      (λ t. inl (ap (λ y. when y (Bounds.through all (negsuc 0) (Bounds.stored_less all p r))) t))
  counts p (Plus q) (IsLen r b) i = inl refl
  counts p (Minus q) (IsLen r b) i = inl refl
  counts p Nothing (Rng q l h) i = inl refl
  counts p (Plus x) (Rng q l h) i = inl refl
  counts p (Minus x) (Rng q l h) i = inl refl
  counts p Nothing (LenRng b l h) i = inl refl
  counts p (Plus x) (LenRng b l h) i = inl refl
  counts p (Minus x) (LenRng b l h) i = inl refl
  counts p Nothing (Low q c) i = inl refl
  counts p (Plus x) (Low q c) i = inl refl
  counts p (Minus x) (Low q c) i = inl refl
  counts p Nothing (Same b c) i = inl refl
  counts p (Plus x) (Same b c) i = inl refl
  counts p (Minus x) (Same b c) i = inl refl
  counts p Nothing (Less q r c) i = inl refl
  counts p (Plus x) (Less q r c) i = inl refl
  counts p (Minus x) (Less q r c) i = inl refl
  counts p Nothing (Sum t y z) i = inl refl
  counts p (Plus x) (Sum t y z) i = inl refl
  counts p (Minus x) (Sum t y z) i = inl refl
  counts p Nothing (Search q b) i = inl refl
  counts p (Plus x) (Search q b) i = inl refl
  counts p (Minus x) (Search q b) i = inl refl
  counts p Nothing (Neg q b) i = inl refl
  counts p (Plus x) (Neg q b) i = inl refl
  counts p (Minus x) (Neg q b) i = inl refl

  pub arrays_are : (p : Path) (o : PathOff) (first : Option ℤ) → best int_max (best int_max first (greatest (Bounds.shifted_by all p a o) (group a))) (greatest (Bounds.shifted_by all p a o) (each (alike_on group a) (group a))) ≡ best int_max first (greatest (Bounds.shifted_by all p a o) all)
  arrays_are p o first =
      joined first (greatest (Bounds.shifted_by all p a o) (group a)) (greatest (Bounds.shifted_by all p a o) (each (alike_on group a) (group a)))
      ∙ ap (best int_max first) (sym (greatest_of_both (Bounds.shifted_by all p a o) (group a) (each (alike_on group a) (group a))) ∙ same_greatest (Bounds.shifted_by all p a o) on_arrays all arrays_only (counts p o))
