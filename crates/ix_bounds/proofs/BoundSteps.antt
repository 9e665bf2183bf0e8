-- What one fact gives, where the fact is known.
use Rattle.std.specs.Prelude.{◌≡◌, true, ℤ, pos, ◌+ℤ◌, ◌-ℤ◌, All, List, [], ◌∷◌, Option, Some}
use Rattle.std.specs.Option.{option_map}
use Rattle.std.proofs.Common.{sym, ap, subst, ◌∙◌}
use Rattle.std.proofs.lemmas.List.Elements.{All-nil, All-cons, All-head, All-tail, All-append}
use Rattle.ix_core.specs.declared.fact.Path.{Path}
use Rattle.ix_core.specs.declared.fact.PathOff.{PathOff}
use Rattle.ix_core.specs.declared.fact.PathOff.TheVariants.{Nothing, Plus, Minus}
use Rattle.ix_core.specs.declared.fact.Fact.{Fact}
use Rattle.ix_core.specs.declared.fact.Fact.TheVariants.{Rng, LenRng, Low, Same, IsLen, Less, Sum, Search, Neg, Upper}
use Rattle.ix_core.proofs.Cases.{by_test}
use Rattle.ix_facts.specs.Facts.{orders, is_default, in_orders}
use Rattle.ix_facts.specs.Small.{HasSmallNumbers}
use Rattle.ix_facts.specs.Bounds
use Rattle.ix_facts.specs.Bounds.{is_path, when}
use Rattle.ix_bounds.specs.Lengths.{length_less_by}

module _ (facts : List Fact) (p : Path) (fact : Fact) where
  pub lower_of_less : (q r : Path) (c n : ℤ) → fact ≡ Less q r c → is_path r p ≡ true → n ≡ Bounds.range_low facts q -ℤ c +ℤ pos 1 → Some n ≡ Bounds.lower_by facts p fact
  lower_of_less q r c n e t i = subst (λ f. Some n ≡ Bounds.lower_by facts p f) (sym e) (ap Some i ∙ ap (λ x. when x (Some (Bounds.range_low facts q -ℤ c +ℤ pos 1))) (sym t))

  pub limit_of_less : (r q : Path) (c n : ℤ) → fact ≡ Less r q c → is_path r p ≡ true → n ≡ Bounds.range_high facts q +ℤ c -ℤ pos 1 → Some n ≡ Bounds.limit_by facts p fact
  limit_of_less r q c n e t i = subst (λ f. Some n ≡ Bounds.limit_by facts p f) (sym e) (ap Some i ∙ ap (λ x. when x (Some (Bounds.range_high facts q +ℤ c -ℤ pos 1))) (sym t))

  pub limit_of_upper : (r a : Path) (c n : ℤ) → fact ≡ Upper r a Nothing c → is_path r p ≡ true → n ≡ Bounds.length_high facts a -ℤ pos 1 -ℤ c → Some n ≡ Bounds.limit_by facts p fact
  limit_of_upper r a c n e t i = subst (λ f. Some n ≡ Bounds.limit_by facts p f) (sym e) (ap Some i ∙ ap (λ x. when x (Some (Bounds.length_high facts a -ℤ pos 1 -ℤ c))) (sym t))

  pub less_of_length : (q r a : Path) (n : Option ℤ) → fact ≡ IsLen r a → is_path r q ≡ true → n ≡ option_map (λ c. pos 0 -ℤ c) (Bounds.stored_upper facts p a Nothing) → n ≡ length_less_by facts p q fact
  less_of_length q r a n e t i = subst (λ f. n ≡ length_less_by facts p q f) (sym e) (i ∙ ap (λ x. when x (option_map (λ c. pos 0 -ℤ c) (Bounds.stored_upper facts p a Nothing))) (sym t))

module _ (facts : List Fact) (p a : Path) (offset : PathOff) (r b q : Path) (c n : ℤ) where
  pub upper_of_plus : offset ≡ Plus q → is_path r p ≡ true → Bounds.are_same facts b a ≡ true → n ≡ c +ℤ Bounds.lower_bound facts q → Some n ≡ Bounds.upper_by facts p a Nothing (Upper r b offset c)
  upper_of_plus e here same i = rw (e, here, same) (ap Some i)

  pub upper_of_minus : offset ≡ Minus q → is_path r p ≡ true → Bounds.are_same facts b a ≡ true → n ≡ c -ℤ Bounds.upper_limit facts q → Some n ≡ Bounds.upper_by facts p a Nothing (Upper r b offset c)
  upper_of_minus e here same i = rw (e, here, same) (ap Some i)

pub less_of_fact : (p q : Path) (fact : Fact) (r s : Path) (c n : ℤ) → fact ≡ Less r s c → is_path r p ≡ true → is_path s q ≡ true → n ≡ c → Some n ≡ Bounds.fact_less_by p q fact
less_of_fact p q fact r s c n e here there i = rw (e, here, there) (ap Some i)

pub stored_of_upper : (facts : List Fact) (p a : Path) (offset : PathOff) (fact : Fact) (r b : Path) (x : PathOff) (c n : ℤ) → fact ≡ Upper r b x c → is_path r p ≡ true → Bounds.is_offset x offset ≡ true → Bounds.are_same facts b a ≡ true → n ≡ c → Some n ≡ Bounds.stored_upper_by facts p a offset fact
stored_of_upper facts p a offset fact r b x c n e here at same i = rw (e, here, at, same) (ap Some i)

pub low_of_class : (p : Path) (fact : Fact) (q : Path) (c n : ℤ) → fact ≡ Low q c → is_path q p ≡ true → n ≡ c → Some n ≡ Bounds.range_low_by p fact
low_of_class p fact q c n e here i = rw (e, here) (ap Some i)

-- the ends of ranges are small in each order of a fact
pub one_small : (f : Fact) → HasSmallNumbers f → All HasSmallNumbers (f ∷ [])
one_small f s = All-cons HasSmallNumbers f [] s (All-nil HasSmallNumbers)

pub two_small : (f g : Fact) → HasSmallNumbers f → HasSmallNumbers g → All HasSmallNumbers (f ∷ g ∷ [])
two_small f g s t = All-cons HasSmallNumbers f (g ∷ []) s (one_small g t)

pub orders_small : (f : Fact) → HasSmallNumbers f → All HasSmallNumbers (orders f)
orders_small (Same a b) s = two_small (Same a b) (Same b a) tt tt
orders_small (Sum t y z) s = two_small (Sum t y z) (Sum t z y) tt tt
orders_small (Upper p a (Plus q) c) s = two_small (Upper p a (Plus q) c) (Upper q a (Plus p) c) tt tt
orders_small (Upper p a Nothing c) s = one_small (Upper p a Nothing c) tt
orders_small (Upper p a (Minus q) c) s = one_small (Upper p a (Minus q) c) tt
orders_small (Rng p l h) s = one_small (Rng p l h) s
orders_small (LenRng p l h) s = one_small (LenRng p l h) s
orders_small (Low p c) s = one_small (Low p c) s
orders_small (IsLen p a) s = one_small (IsLen p a) tt
orders_small (Less p q c) s = one_small (Less p q c) tt
orders_small (Search p a) s = one_small (Search p a) tt
orders_small (Neg p a) s = one_small (Neg p a) tt

pub in_orders_small : (facts : List Fact) → All HasSmallNumbers facts → All HasSmallNumbers (in_orders facts)
in_orders_small [] s = All-nil HasSmallNumbers
in_orders_small (f ∷ facts) s =
    let rest = in_orders_small facts (All-tail HasSmallNumbers f facts s) in
    by_test (is_default f) (λ t. rw t rest) (λ t. rw t (All-append HasSmallNumbers (orders f) (in_orders facts) (orders_small f (All-head HasSmallNumbers f facts s)) rest))
