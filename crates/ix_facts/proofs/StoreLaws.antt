-- The laws of stores: rules that are sound and monotone of facts are so of stores, without exception.
use Rattle.std.specs.Prelude.{List}
use Rattle.std.proofs.Common.{inl, inr, sym, subst, ⊎_elim}
use Rattle.ix_core.specs.declared.fact.Fact.{Fact}
use Rattle.ix_core.specs.declared.fact.Fact.TheVariants.{Rng, LenRng}
use Rattle.ix_core.specs.Numbers.{Numbers}
use Rattle.ix_facts.specs.Facts.{AllHold}
use Rattle.ix_facts.specs.Closure.{Follows, Said, SaysAll, Closed, Contradicts, IsClosedOf, IsCommon}
use Rattle.ix_facts.specs.Stores.{Stored, Unreachable, Reached, Meets, IsBelow, IsClosedStore, IsStoreOf, unreachable, reached, IsAbove, IsJoined, left, right, both, IsGiven, IsMonotone}
use Rattle.ix_facts.proofs.ClosureLaws.{follows_hold, follows_from, said_follows, is_closed, closed_holds, common_closed, hold_apart}
use Rattle.ix_facts.proofs.FactLists.{all_hold_each}
use Rattle.ix_facts.proofs.SaidLaws.{said_itself}

pub follows_says : (strong weak : List Fact) → SaysAll strong weak → (f : Fact) → Follows weak f → Follows strong f
follows_says strong weak s = follows_from strong weak (λ f i. said_follows strong f (s f (said_itself weak f i)))

pub contradicts_more : (strong weak : List Fact) → ((f : Fact) → Follows weak f → Follows strong f) → Contradicts weak → Contradicts strong
contradicts_more strong weak more c = (c.0, c.1, c.2, ⊎_elim (λ r. inl (more (Rng c.0 c.1 c.2) r)) (λ r. inr (more (LenRng c.0 c.1 c.2) r)) c.3, c.4)

-- closing keeps the order
pub closed_says : (strong weak closed other : List Fact) → SaysAll strong weak → IsClosedOf strong closed → IsClosedOf weak other → SaysAll closed other
closed_says strong weak closed other s c d f k = c.says f (follows_says strong weak s f (follows_from weak other d.only f (said_follows other f k)))

-- ---- the order

pub below_itself : (s : Stored) → IsBelow s s
below_itself Unreachable = tt
below_itself (Reached facts) = λ f k. k

pub below_below : (s t u : Stored) → IsBelow s t → IsBelow t u → IsBelow s u
below_below Unreachable t u a b = tt
below_below (Reached x) Unreachable u a b = absurd a
below_below (Reached x) (Reached y) Unreachable a b = absurd b
below_below (Reached x) (Reached y) (Reached z) a b = λ f k. a f (b f k)

-- what a stronger store's state meets
pub said_holds : (facts : List Fact) (v : Numbers) → AllHold facts v → (f : Fact) → Said facts f → Rattle.ix_facts.specs.Facts.Holds f v
said_holds facts v h f k = follows_hold facts v h f (said_follows facts f k)

pub says_hold : (strong weak : List Fact) (v : Numbers) → SaysAll strong weak → AllHold strong v → AllHold weak v
says_hold strong weak v a m = all_hold_each v weak (λ f i. said_holds strong v m f (a f (said_itself weak f i)))

pub below_meets : (s t : Stored) (v : Numbers) → IsBelow s t → Meets s v → Meets t v
below_meets Unreachable t v a m = absurd m
below_meets (Reached x) Unreachable v a m = absurd a
below_meets (Reached x) (Reached y) v a m = says_hold x y v a m

-- ---- the closed store of facts

pub store_closed : (facts : List Fact) (s : Stored) → IsStoreOf facts s → IsClosedStore s
store_closed facts _ (unreachable c) = tt
store_closed facts _ (reached closed n c) = (is_closed facts closed c, λ d. n (contradicts_more facts closed (follows_from facts closed c.only) d))

pub store_meets : (facts : List Fact) (s : Stored) (v : Numbers) → IsStoreOf facts s → AllHold facts v → Meets s v
store_meets facts _ v (unreachable c) h = absurd (hold_apart facts v h c)
store_meets facts _ v (reached closed n c) h = all_hold_each v closed (closed_holds facts closed v c h)

pub store_mono : (strong weak : List Fact) (s t : Stored) → SaysAll strong weak → IsStoreOf strong s → IsStoreOf weak t → IsBelow s t
store_mono strong weak _ t k (unreachable c) b = tt
store_mono strong weak _ _ k (reached closed n c) (unreachable d) = absurd (n (contradicts_more strong weak (follows_says strong weak k) d))
store_mono strong weak _ _ k (reached closed n c) (reached other m d) = closed_says strong weak closed other k c d

-- it is above, and below all that are above
pub store_above : (facts : List Fact) (s : Stored) → IsStoreOf facts s → IsAbove facts s
store_above facts _ (unreachable c) = c
store_above facts _ (reached closed n c) = inr (λ f k. follows_from facts closed c.only f (said_follows closed f k))

pub store_least : (facts : List Fact) (s t : Stored) → IsStoreOf facts s → IsAbove facts t → IsBelow s t
store_least facts _ t (unreachable c) a = tt
store_least facts _ Unreachable (reached closed n c) a = n a
store_least facts _ (Reached others) (reached closed n c) a = ⊎_elim (λ d. absurd (n d)) (λ k f x. c.says f (k f x)) a

-- ---- the join

-- a list that says what a closed list says is closed
same_closed : (x y : List Fact) → SaysAll x y → SaysAll y x → Closed y × ¬ Contradicts y → Closed x × ¬ Contradicts x
same_closed x y s t a = (λ f k. s f (a.0 f (follows_says y x t f k)), λ d. a.1 (contradicts_more y x (follows_says y x t) d))

common_first : (x y c : List Fact) → IsCommon x y c → Closed x → SaysAll x c
common_first x y c is closed f k = closed f (follows_from x c (λ g i. said_follows x g (is.left g i)) f (said_follows c f k))

common_second : (x y c : List Fact) → IsCommon x y c → Closed y → SaysAll y c
common_second x y c is closed f k = closed f (follows_from y c (λ g i. said_follows y g (is.right g i)) f (said_follows c f k))

pub joined_closed : (s t j : Stored) → IsJoined s t j → IsClosedStore s → IsClosedStore t → IsClosedStore j
joined_closed _ _ Unreachable (left s j same) a b = tt
joined_closed _ _ (Reached x) (left Unreachable j same) a b = absurd same.0
joined_closed _ _ (Reached x) (left (Reached y) j same) a b = same_closed x y same.0 same.1 a
joined_closed _ _ Unreachable (right s j same) a b = tt
joined_closed _ _ (Reached x) (right Unreachable j same) a b = absurd same.0
joined_closed _ _ (Reached x) (right (Reached y) j same) a b = same_closed x y same.0 same.1 b
joined_closed _ _ _ (both x y c is) a b =
    (common_closed x y c a.0 b.0 is, λ d. a.1 (contradicts_more x c (follows_says x c (common_first x y c is a.0)) d))

pub joined_above : (s t j : Stored) → IsJoined s t j → IsClosedStore s → IsClosedStore t → IsBelow s j × IsBelow t j
joined_above _ _ j (left s _ same) a b = (same.1, tt)
joined_above _ _ j (right s _ same) a b = (tt, same.1)
joined_above _ _ _ (both x y c is) a b = (common_first x y c is a.0, common_second x y c is b.0)

pub joined_least : (s t j u : Stored) → IsJoined s t j → IsBelow s u → IsBelow t u → IsBelow j u
joined_least _ _ j u (left s _ same) a b = below_below j s u same.0 a
joined_least _ _ j u (right s _ same) a b = below_below j s u same.0 b
joined_least _ _ _ Unreachable (both x y c is) a b = absurd a
joined_least _ _ _ (Reached z) (both x y c is) a b = λ f k. is.both f (a f k) (b f k)

pub joined_mono : (s t j u w k : Stored) → IsJoined s t j → IsJoined u w k → IsClosedStore u → IsClosedStore w → IsBelow s u → IsBelow t w → IsBelow j k
joined_mono s t j u w k x y a b c d =
    let above = joined_above u w k y a b in
    joined_least s t j k x (below_below s u k c above.0) (below_below t w k d above.1)

-- where an empty range follows the store is below each
contradicted : (facts : List Fact) (s t : Stored) → IsStoreOf facts s → Contradicts facts → IsBelow s t
contradicted facts _ t (unreachable c) d = tt
contradicted facts _ t (reached closed n c) d = absurd (n d)

store_least_of : (rule : List Fact → List Fact) (facts : List Fact) (t : Stored) → Closed facts × ¬ Contradicts facts → SaysAll facts (rule facts) → IsStoreOf (rule facts) t → IsBelow (Reached facts) t
store_least_of rule facts _ closed k (unreachable c) = absurd (closed.1 (contradicts_more facts (rule facts) (follows_says facts (rule facts) k) c))
store_least_of rule facts _ closed k (reached others n c) = λ f x. closed.0 f (follows_says facts (rule facts) k f (follows_from (rule facts) others c.only f (said_follows others f x)))

store_below_of : (rule : List Fact → List Fact) (facts : List Fact) (t : Stored) → SaysAll (rule facts) facts → IsStoreOf (rule facts) t → IsBelow t (Reached facts)
store_below_of rule facts _ k (unreachable c) = tt
store_below_of rule facts _ k (reached others n c) = λ f x. c.says f (said_follows (rule facts) f (k f x))

-- ---- rules

pub given_closed : (rule : List Fact → List Fact) (s t : Stored) → IsGiven rule s t → IsClosedStore t
given_closed rule Unreachable t g = subst IsClosedStore (sym g) tt
given_closed rule (Reached facts) t g = store_closed (rule facts) t g

pub given_mono : (rule : List Fact → List Fact) → IsMonotone rule → (s t u w : Stored) → IsBelow s t → IsGiven rule s u → IsGiven rule t w → IsBelow u w
given_mono rule mono Unreachable t u w a g h = subst (λ x. IsBelow x w) (sym g) tt
given_mono rule mono (Reached x) Unreachable u w a g h = absurd a
given_mono rule mono (Reached x) (Reached y) u w a g h = ⊎_elim (λ c. contradicted (rule x) u w g c) (λ k. store_mono (rule x) (rule y) u w k g h) (mono x y a)

pub given_meets : (rule : List Fact → List Fact) (v w : Numbers) → ((facts : List Fact) → AllHold facts v → AllHold (rule facts) w) → (s t : Stored) → IsGiven rule s t → Meets s v → Meets t w
given_meets rule v w sound Unreachable t g m = absurd m
given_meets rule v w sound (Reached facts) t g m = store_meets (rule facts) t w g (sound facts m)

-- a rule that only weakens gives stores above
pub given_above : (rule : List Fact → List Fact) → ((facts : List Fact) → SaysAll facts (rule facts)) → (s t : Stored) → IsClosedStore s → IsGiven rule s t → IsBelow s t
given_above rule weaker Unreachable t closed g = tt
given_above rule weaker (Reached facts) t closed g = store_least_of rule facts t closed (weaker facts) g

-- a rule that only adds gives stores below
pub given_below : (rule : List Fact → List Fact) → ((facts : List Fact) → SaysAll (rule facts) facts) → (s t : Stored) → IsGiven rule s t → IsBelow t s
given_below rule stronger Unreachable t g = subst (λ x. IsBelow x Unreachable) (sym g) tt
given_below rule stronger (Reached facts) t g = store_below_of rule facts t (stronger facts) g
