-- Lists of labels, compared label by label.
use Rattle.std.proofs.Common.{◌≡◌, ℕ, zero, suc, List, [], ◌∷◌, ◌++◌, length, map, set, slice_get, Some, arith, refl, ap, subst}
use Rattle.std.specs.List.{AllZip}
use Rattle.ix_lattice.specs.Lattice.{IsJoin}
use Rattle.ix_solve.specs.Solutions.{IsBottom, AreBottom, IsLeast, IsLeastOf, IsMonotone, OrdersBy}

module _ {V : Type 0} (Below : V → V → Type 0) where
  -- a label is changed to one that is still below the other's
  pub zip_set : (a b : List V) (i : ℕ) (y m : V) → AllZip Below a b → slice_get b i ≡ Some m → Below y m → AllZip Below (set a i y) b
  zip_set [] [] i y m zip at below = zip
  zip_set [] (q ∷ b) i y m zip at below = absurd zip
  zip_set (x ∷ a) [] i y m zip at below = absurd zip
  zip_set (x ∷ a) (q ∷ b) zero y m zip at below = let is : m ≡ q = cc in (subst (Below y) is below, zip.1)
  zip_set (x ∷ a) (q ∷ b) (suc i) y m zip at below = (zip.0, zip_set a b i y m zip.1 at below)

  pub zip_same : ((v : V) → Below v v) → (a : List V) → AllZip Below a a
  zip_same reflexive [] = tt
  zip_same reflexive (x ∷ a) = (reflexive x, zip_same reflexive a)

  -- at each place the other has a label that is above
  pub zip_at : (a b : List V) (i : ℕ) (x : V) → AllZip Below a b → slice_get a i ≡ Some x → (m : V) × (slice_get b i ≡ Some m) × Below x m
  zip_at [] b i x zip at = cc
  zip_at (w ∷ a) [] i x zip at = absurd zip
  zip_at (w ∷ a) (q ∷ b) zero x zip at = let is : w ≡ x = cc in (q, refl, subst (λ t. Below t q) is zip.0)
  zip_at (w ∷ a) (q ∷ b) (suc i) x zip at = zip_at a b i x zip.1 at

  -- a label rises, and the others stay
  pub zip_raised : ((v : V) → Below v v) → (a : List V) (i : ℕ) (x y : V) → slice_get a i ≡ Some x → Below x y → AllZip Below a (set a i y)
  zip_raised reflexive [] i x y at below = cc
  zip_raised reflexive (w ∷ a) zero x y at below = let is : x ≡ w = cc in (subst (λ t. Below t y) is below, zip_same reflexive a)
  zip_raised reflexive (w ∷ a) (suc i) x y at below = (reflexive w, zip_raised reflexive a i x y at below)

  pub bottom_at : (labels : List V) (i : ℕ) (x : V) → AreBottom Below labels → slice_get labels i ≡ Some x → IsBottom Below x
  bottom_at [] i x all at = cc
  bottom_at (w ∷ labels) zero x all at = let is : w ≡ x = cc in subst (IsBottom Below) is all.0
  bottom_at (w ∷ labels) (suc i) x all at = bottom_at labels i x all.1 at

  pub AreBottom-push : (labels : List V) (label : V) → AreBottom Below labels → IsBottom Below label → AreBottom Below (labels ++ label ∷ [])
  AreBottom-push [] label all bottom = (bottom, tt)
  AreBottom-push (x ∷ labels) label all bottom = (all.0, AreBottom-push labels label all.1 bottom)

  -- labels below every value are below all other labels
  pub zip_bottom : (a b : List V) → AreBottom Below a → length a ≡ length b → AllZip Below a b
  zip_bottom [] [] all same = tt
  zip_bottom [] (q ∷ b) all same = absurd (omega arith)
  zip_bottom (x ∷ a) [] all same = absurd (omega arith)
  zip_bottom (x ∷ a) (q ∷ b) all same = (all.0 q, zip_bottom a b all.1 (omega arith))

module _ {V : Type 0} {Below : V → V → Type 0} (reflexive : (v : V) → Below v v) {size : ℕ} {Asks : ℕ → List V → V → Type 0}
    (monotone : IsMonotone Below Asks) where
  -- least labels stay so where one is joined with what its equation says
  pub least_set : (a : List V) (at : ℕ) (label value join : V) → IsLeast Below size Asks a → slice_get a at ≡ Some label → IsLeastOf Below (Asks at a) value → IsJoin Below label value join → IsLeast Below size Asks (set a at join)
  least_set a at label value join least found says is other solution =
      let zip = least other solution in
      let theirs = zip_at Below a other at label zip found in
      let above = solution.above at theirs.0 theirs.1 in
      zip_set Below a other at join theirs.0 zip theirs.1 (is.least theirs.0 theirs.2 (says.1 theirs.0 (monotone at a other theirs.0 theirs.0 zip above (reflexive theirs.0))))

module _ {V : Type 0} {Below : V → V → Type 0} (reflexive : (v : V) → Below v v) {Asks : ℕ → List V → V → Type 0}
    (monotone : IsMonotone Below Asks) where
  -- what is high enough stays so where it rises
  pub enough_above : (a : List V) (at : ℕ) (v w : V) → Asks at a v → Below v w → Asks at a w
  enough_above a at v w says below = monotone at a a v w (zip_same Below reflexive a) says below

-- ---- what labels say

module _ {V M : Type 0} (meaning : V → M) where
  pub meaning_set : (a : List V) (i : ℕ) (y : V) → map meaning (set a i y) ≡ set (map meaning a) i (meaning y)
  meaning_set [] i y = refl
  meaning_set (x ∷ a) zero y = refl
  meaning_set (x ∷ a) (suc i) y = ap (λ said. meaning x ∷ said) (meaning_set a i y)

  pub meaning_at : (a : List V) (i : ℕ) (x : V) → slice_get a i ≡ Some x → slice_get (map meaning a) i ≡ Some (meaning x)
  meaning_at [] i x found = cc
  meaning_at (w ∷ a) zero x found = let is : w ≡ x = cc in ap (λ v. Some (meaning v)) is
  meaning_at (w ∷ a) (suc i) x found = meaning_at a i x found

  pub bottom_push : (SaysAll : M → M → Type 0) (labels : List V) (label : V) → AreBottom SaysAll (map meaning labels) → IsBottom SaysAll (meaning label) → AreBottom SaysAll (map meaning (labels ++ label ∷ []))
  bottom_push SaysAll [] label all bottom = (bottom, tt)
  bottom_push SaysAll (x ∷ labels) label all bottom = (all.0, bottom_push SaysAll labels label all.1 bottom)

  -- labels that say everything are below every value
  pub bottom_values : {Below : V → V → Type 0} {SaysAll : M → M → Type 0} → OrdersBy Below SaysAll meaning → (labels : List V) → AreBottom SaysAll (map meaning labels) → AreBottom Below labels
  bottom_values order [] all = tt
  bottom_values order (x ∷ labels) all = (λ value. (order.same x value).1 (all.0 (meaning value)), bottom_values order labels all.1)
