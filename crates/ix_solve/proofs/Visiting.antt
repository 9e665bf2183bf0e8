-- What the visits of waiting nodes keep.
use Rattle.std.proofs.Common.{◌≡◌, ℕ, ◌+◌, ◌<◌, ◌≤◌, List, Bool, false, length, map, set, slice_get, Some, arith, length-set, sym, ◌∙◌, subst, ⊎_elim, ◌⊎◌, inl, inr, Contains}
use Rattle.std.proofs.lemmas.Bool.{cases_eq}
use Rattle.std.proofs.lemmas.Option.{slice_get_within}
use Rattle.ix_lattice.specs.Lattice.{LatticeLaws, falls_strictly}
use Rattle.ix_solve.specs.Solutions.{IsLeast, IsLeastOf, IsMonotone, OrdersBy}
use Rattle.ix_solve.specs.Readers.{AgreeWhereRead, DependsOnRead}
use Rattle.ix_solve.specs.Waiting.{Waits, how_many, with_all}
use Rattle.ix_solve.proofs.LabelLists.{least_set, enough_above, zip_raised, meaning_set, meaning_at}
use Rattle.ix_solve.proofs.NodeLists.{contains_or_not, slice_get-set_same, slice_get-set_other}
use Rattle.ix_solve.proofs.WaitingNodes.{one_less, more_at_most, more_at_least, all_still_wait, added_wait}
use Rattle.ix_solve.proofs.Weights.{weight, weight_falls}

-- Each label is below all that is high enough for its node.
abbrev pub AreBelowEnough : {M : Type 0} → (M → M → Type 0) → (ℕ → List M → M → Type 0) → List M → Type 0
AreBelowEnough {M} Below Asks labels = (node : ℕ) (label enough : M) → slice_get labels node ≡ Some label → Asks node labels enough → Below label enough

-- What labels say: each node waits, or what its label says is high enough.
pub record Standing {M : Type 0} (Below : M → M → Type 0) (size : ℕ) (Asks : ℕ → List M → M → Type 0) (now : List M) (waiting : List Bool) : Type 0 where
  pub len : length now ≡ size
  pub least : IsLeast Below size Asks now
  pub rising : AreBelowEnough Below Asks now
  pub settled : (node : ℕ) (label : M) → slice_get now node ≡ Some label → Asks node now label ⊎ Waits waiting node

-- The labels stand so. What was spent, what waits and what they weigh is at most what it was at the start.
pub record Working {V M : Type 0} (SaysAll : M → M → Type 0) (means : V → M) (rank : V → ℕ) (readers : List (List ℕ)) (Asks : ℕ → List M → M → Type 0) (before steps : ℕ) (first now : List V) (waiting : List Bool) : Type 0 where
  pub len : length now ≡ length readers
  pub standing : Standing SaysAll (length readers) Asks (map means now) waiting
  pub cost : steps + how_many waiting + weight rank readers now ≤ before + length readers + weight rank readers first
  pub floor : before + length readers ≤ steps + how_many waiting

module _ {M : Type 0} where
  -- labels that differ at one node agree for a node that doesn't read it
  agree_for_others : (readers : List (List ℕ)) (labels : List M) (at node : ℕ) (join : M) (by : List ℕ) → slice_get readers at ≡ Some by → (Contains by node → ⊥) → AgreeWhereRead readers node labels (set labels at join)
  agree_for_others readers labels at node join by read lacks other theirs theirs_read reads =
      ⊎_elim
      (λ same.
      let both : Some by ≡ Some theirs = sym read ∙ subst (λ k. slice_get readers k ≡ Some theirs) same theirs_read in
      let is : theirs ≡ by = cc in
      absurd (lacks (subst (λ xs. Contains xs node) is reads)))
      (λ differs. sym (slice_get-set_other labels at other join differs))
      (cases_eq other at)

module _ {M : Type 0} {Below : M → M → Type 0} (reflexive : (m : M) → Below m m) {Asks : ℕ → List M → M → Type 0}
    (monotone : IsMonotone Below Asks) where
  -- where a label rises to the least that is high enough for its node, less is high enough than before
  rising_on : (a : List M) (at : ℕ) (label value : M) → slice_get a at ≡ Some label → IsLeastOf Below (Asks at a) value → Below label value → AreBelowEnough Below Asks a → AreBelowEnough Below Asks (set a at value)
  rising_on a at label value found says up rising node other enough g asks =
      let before : Asks node a enough = monotone node a (set a at value) enough enough (zip_raised Below reflexive a at label value found up) asks (reflexive enough) in
      ⊎_elim
      (λ e.
      let both : Some value ≡ Some other = sym (slice_get-set_same a at value label found) ∙ subst (λ t. slice_get (set a at value) t ≡ Some other) e g in
      let same : value ≡ other = cc in
      subst (λ t. Below t enough) same (says.1 enough (subst (λ t. Asks t a enough) e before)))
      (λ differs. rising node other enough (sym (slice_get-set_other a at node value differs) ∙ g) before)
      (cases_eq node at)

module _ {M : Type 0} {Below : M → M → Type 0} (reflexive : (m : M) → Below m m) (readers : List (List ℕ)) {Asks : ℕ → List M → M → Type 0}
    (monotone : IsMonotone Below Asks)
    (depends : DependsOnRead readers Asks) where
  -- the label is above what the visit answered
  standing_kept : (at : ℕ) (a : List M) (old : List Bool) (label value : M) → slice_get a at ≡ Some label → IsLeastOf Below (Asks at a) value → Below value label
      → Standing Below (length readers) Asks a old → Standing Below (length readers) Asks a (set old at false)
  standing_kept at a old label value found says below now = record {
    len = now.len;
    least = now.least;
    rising = now.rising;
    settled = λ node other g. ⊎_elim inl
        (λ waits. ⊎_elim
        (λ e.
        let both : Some label ≡ Some other = sym found ∙ subst (λ t. slice_get a t ≡ Some other) e g in
        let same : label ≡ other = cc in
        inl (subst (Asks node a) same (subst (λ t. Asks t a label) (sym e) (enough_above reflexive monotone a at value label says.0 below))))
        (λ differs. inr (slice_get-set_other old at node false differs ∙ waits))
        (cases_eq node at))
        (now.settled node other g);
  }

  -- the label rises, and its readers wait
  standing_raised : (at : ℕ) (a : List M) (old : List Bool) (by : List ℕ) (label value : M) → length old ≡ length readers → slice_get readers at ≡ Some by → slice_get a at ≡ Some label → IsLeastOf Below (Asks at a) value
      → Standing Below (length readers) Asks a old → Standing Below (length readers) Asks (set a at value) (with_all (set old at false) by)
  standing_raised at a old by label value size read found says now =
      let up = now.rising at label value found says.0 in
      let left = set old at false in
      record {
        len = length-set a at value ∙ now.len;
        least = least_set reflexive monotone a at label value value now.least found says (record { left = up; right = reflexive value; least = λ other _ over. over });
        rising = rising_on reflexive monotone a at label value found says up now.rising;
        settled = λ node other g.
            let within : node < length readers = omega (arith, slice_get_within (set a at value) node other g, length-set a at value, now.len) in
            ⊎_elim
            (λ reads. inr (added_wait left by node (omega (arith, within, size, length-set old at false)) reads))
            (λ lacks.
            let agree = agree_for_others readers a at node value by read lacks in
            ⊎_elim
            (λ e.
            let both : Some value ≡ Some other = sym (slice_get-set_same a at value label found) ∙ subst (λ t. slice_get (set a at value) t ≡ Some other) e g in
            let same : value ≡ other = cc in
            inl (subst (Asks node (set a at value)) same (depends node a (set a at value) value within agree (subst (λ t. Asks t a value) (sym e) says.0))))
            (λ differs.
            let was : slice_get a node ≡ Some other = sym (slice_get-set_other a at node value differs) ∙ g in
            ⊎_elim
            (λ met. inl (depends node a (set a at value) other within agree met))
            (λ waits. inr (all_still_wait left by node (slice_get-set_other old at node false differs ∙ waits)))
            (now.settled node other was))
            (cases_eq node at))
            (contains_or_not node by);
      }

module _ {V M : Type 0} {Below : V → V → Type 0} {SaysAll : M → M → Type 0} {means : V → M} {rank : V → ℕ} (laws : LatticeLaws Below rank) (order : OrdersBy Below SaysAll means)
    (readers : List (List ℕ)) {Asks : ℕ → List M → M → Type 0}
    (monotone : IsMonotone SaysAll Asks)
    (depends : DependsOnRead readers Asks) where
  -- what a visit answers is above the label
  pub visit_up : (a : List V) (at : ℕ) (label value : V) (waiting : List Bool) → slice_get a at ≡ Some label → IsLeastOf SaysAll (Asks at (map means a)) (means value)
      → Standing SaysAll (length readers) Asks (map means a) waiting → Below label value
  visit_up a at label value waiting found says now = (order.same label value).1 (now.rising at (means label) (means value) (meaning_at means a at label found) says.0)

  pub visited_kept : (before steps at : ℕ) (first a : List V) (old : List Bool) (label value : V) → Waits old at → slice_get a at ≡ Some label → IsLeastOf SaysAll (Asks at (map means a)) (means value) → Below value label
      → Working SaysAll means rank readers Asks before steps first a old → Working SaysAll means rank readers Asks before (steps + 1) first a (set old at false)
  visited_kept before steps at first a old label value waited found says below now = record {
    len = now.len;
    standing = standing_kept order.reflexive readers monotone depends at (map means a) old (means label) (means value) (meaning_at means a at label found) says ((order.same value label).0 below) now.standing;
    cost = omega (arith, one_less old at waited, now.cost);
    floor = omega (arith, one_less old at waited, now.floor);
  }

  pub visited_raised : (before steps at : ℕ) (first a : List V) (old : List Bool) (by : List ℕ) (label value : V) → length old ≡ length readers → Waits old at → slice_get readers at ≡ Some by → slice_get a at ≡ Some label
      → IsLeastOf SaysAll (Asks at (map means a)) (means value) → ¬ Below value label
      → Working SaysAll means rank readers Asks before steps first a old → Working SaysAll means rank readers Asks before (steps + 1) first (set a at value) (with_all (set old at false) by)
  visited_raised before steps at first a old by label value size waited read found says apart now =
      let up = visit_up a at label value old found says now.standing in
      let left = set old at false in
      let less = one_less old at waited in
      let paid = weight_falls rank readers a at by label value read found (falls_strictly laws label value up apart) in
      record {
        len = length-set a at value ∙ now.len;
        standing = subst (λ said. Standing SaysAll (length readers) Asks said (with_all left by)) (sym (meaning_set means a at value))
            (standing_raised order.reflexive readers monotone depends at (map means a) old by (means label) (means value) size read (meaning_at means a at label found) says now.standing);
        cost = omega (arith, less, more_at_most left by, paid, now.cost);
        floor = omega (arith, less, more_at_least left by, now.floor);
      }
