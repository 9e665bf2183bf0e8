-- Stored facts that are within, in all their orders; and of these the facts that name no path of some.
use Rattle.std.specs.Prelude.{◌≡◌, Bool, false, ◌||◌, List, ◌++◌}
use Rattle.std.proofs.Common.{inr, sym, subst, ◌∙◌, ⊎_elim}
use Rattle.std.proofs.lemmas.Bool.{false≢true}
use Rattle.ix_core.specs.declared.fact.Path.{Path}
use Rattle.ix_core.specs.declared.fact.PathOff.{PathOff}
use Rattle.ix_core.specs.declared.fact.PathOff.TheVariants.{Nothing, Plus, Minus}
use Rattle.ix_core.specs.declared.fact.Fact.{Fact}
use Rattle.ix_core.specs.declared.fact.Fact.TheVariants.{Rng, LenRng, Low, Same, IsLen, Less, Sum, Search, Neg, Upper}
use Rattle.ix_facts.specs.Facts.{IsIn, orders, in_orders, is_default}
use Rattle.ix_facts.specs.Forget.{names, offset_names, without}
use Rattle.ix_facts.proofs.FactLists.{in_either, from_in_orders}
use Rattle.ix_facts.proofs.Frame.{in_without}
use Rattle.ix_facts.proofs.SaidLaws.{default_is}
use Rattle.ix_facts.proofs.Tests.{neither}
use Rattle.ix_certify.proofs.Paths.{OffsetWithin, Within, AreWithin}
use Rattle.ix_certify.proofs.ListsWithin.{Each, each_in, in_each}

-- one of these paths, and none of those
abbrev pub Beside : (Path → Type 0) → (Path → Bool) → Path → Type 0
Beside In is p = In p × (is p ≡ false)

module _ (In : Path → Type 0) where
  pub order_within : (f x : Fact) → IsIn x (orders f) → Within In f → Within In x
  order_within (Same a b) x i h = ⊎_elim (λ e. subst (Within In) (sym e) h) (λ j. ⊎_elim (λ e. subst (Within In) (sym e) (h.1, h.0)) (λ z. absurd z) j) i
  order_within (Sum t y z) x i h = ⊎_elim (λ e. subst (Within In) (sym e) h) (λ j. ⊎_elim (λ e. subst (Within In) (sym e) (h.0, h.2, h.1)) (λ z. absurd z) j) i
  order_within (Upper p a (Plus q) c) x i h = ⊎_elim (λ e. subst (Within In) (sym e) h) (λ j. ⊎_elim (λ e. subst (Within In) (sym e) (h.2, h.1, h.0)) (λ z. absurd z) j) i
  order_within (Upper p a Nothing c) x i h = ⊎_elim (λ e. subst (Within In) (sym e) h) (λ z. absurd z) i
  order_within (Upper p a (Minus q) c) x i h = ⊎_elim (λ e. subst (Within In) (sym e) h) (λ z. absurd z) i
  order_within (Rng p l k) x i h = ⊎_elim (λ e. subst (Within In) (sym e) h) (λ z. absurd z) i
  order_within (LenRng p l k) x i h = ⊎_elim (λ e. subst (Within In) (sym e) h) (λ z. absurd z) i
  order_within (Low p c) x i h = ⊎_elim (λ e. subst (Within In) (sym e) h) (λ z. absurd z) i
  order_within (IsLen p a) x i h = ⊎_elim (λ e. subst (Within In) (sym e) h) (λ z. absurd z) i
  order_within (Less p q c) x i h = ⊎_elim (λ e. subst (Within In) (sym e) h) (λ z. absurd z) i
  order_within (Search p a) x i h = ⊎_elim (λ e. subst (Within In) (sym e) h) (λ z. absurd z) i
  order_within (Neg p a) x i h = ⊎_elim (λ e. subst (Within In) (sym e) h) (λ z. absurd z) i

  -- a fact that tells something is within
  pub telling : (facts : List Fact) → AreWithin In facts → (f : Fact) → IsIn f facts → is_default f ≡ false → Within In f
  telling facts within f i n = ⊎_elim (λ d. absurd (false≢true (sym n ∙ default_is f d))) (λ w. w) (within f i)

  pub in_orders_within : (facts : List Fact) → AreWithin In facts → Each In (in_orders facts)
  in_orders_within facts within =
      in_each In (in_orders facts) (λ x i. let f = from_in_orders x facts i in order_within f.0 x f.2 (telling facts within f.0 f.1 f.3))

  module _ (is : Path → Bool) where
    offset_beside : (o : PathOff) → OffsetWithin In o → offset_names is o ≡ false → OffsetWithin (Beside In is) o
    offset_beside Nothing x n = x
    offset_beside (Plus q) x n = (x, n)
    offset_beside (Minus q) x n = (x, n)

    fact_beside : (f : Fact) → Within In f → names is f ≡ false → Within (Beside In is) f
    fact_beside (Rng p l h) x n = (x, n)
    fact_beside (LenRng a l h) x n = (x, n)
    fact_beside (Low p c) x n = (x, n)
    fact_beside (Same a b) x n = let u = neither (is a) (is b) n in ((x.0, u.0), (x.1, u.1))
    fact_beside (IsLen p a) x n = let u = neither (is p) (is a) n in ((x.0, u.0), (x.1, u.1))
    fact_beside (Less p q c) x n = let u = neither (is p) (is q) n in ((x.0, u.0), (x.1, u.1), x.2)
    fact_beside (Sum t y z) x n = let u = neither (is t) (is y || is z) n in let w = neither (is y) (is z) u.1 in ((x.0, u.0), (x.1, w.0), (x.2, w.1))
    fact_beside (Search p a) x n = let u = neither (is p) (is a) n in ((x.0, u.0), (x.1, u.1))
    fact_beside (Neg p a) x n = let u = neither (is p) (is a) n in ((x.0, u.0), (x.1, u.1))
    fact_beside (Upper p a o c) x n =
        let u = neither (is p) (is a || offset_names is o) n in let w = neither (is a) (offset_names is o) u.1 in ((x.0, u.0), (x.1, w.0), offset_beside o x.2 w.1)

    pub without_within : (facts : List Fact) → AreWithin In facts → AreWithin In (without is facts)
    without_within facts within f i = within f (in_without is f facts i).0

    -- the stored facts that name none of these, in all their orders
    pub beside_within : (facts : List Fact) → AreWithin In facts → Each (Beside In is) (in_orders (without is facts))
    beside_within facts within =
        in_each (Beside In is) (in_orders (without is facts))
        (λ x i.
        let f = from_in_orders x (without is facts) i in
        let j = in_without is f.0 facts f.1 in
        Rattle.ix_certify.proofs.Stored.order_within (Beside In is) f.0 x f.2 (fact_beside f.0 (telling facts within f.0 j.0 f.3) j.1))

  pub app_within : (a b : List Fact) → AreWithin In a → AreWithin In b → AreWithin In (a ++ b)
  app_within a b x y f i = ⊎_elim (λ j. x f j) (λ j. y f j) (in_either f a b i)

  pub each_are : (facts : List Fact) → Each In facts → AreWithin In facts
  each_are facts all f i = inr (each_in In facts all f i)
