-- What a round over the equations keeps.
use Rattle.std.proofs.Common.{◌≡◌, ℕ, ◌+◌, ◌<◌, ◌≤◌, Bool, true, false, cond, List, length, get_or, set, slice_get, Some, arith, length-set, sym, ap, ◌∙◌, subst, ⊎_elim, sum_by, refl}
use Rattle.std.proofs.lemmas.List.Sums.{sum_by-set}
use Rattle.std.proofs.lemmas.Option.{slice_get_read}
use Rattle.std.proofs.lemmas.Bool.{cases_lt, false≢true}
use Rattle.ix_lattice.specs.Lattice.{LatticeLaws, IsJoin, falls_strictly}
use Rattle.ix_solve.specs.Solutions.{IsLeast, IsLeastOf, IsMonotone}
use Rattle.ix_solve.proofs.LabelLists.{least_set, enough_above}

-- the equations before `at` have been applied, to labels that were `first` when the round began
pub record SoFar {V : Type 0} (Below : V → V → Type 0) (rank : V → ℕ) (size : ℕ) (Asks : ℕ → List V → V → Type 0) (at : ℕ) (rose : Bool) (first now : List V) : Type 0 where
  pub len : length now ≡ size
  pub least : IsLeast Below size Asks now
  pub falls : sum_by rank now + cond rose 1 0 ≤ sum_by rank first
  pub quiet : rose ≡ false → (k : ℕ) (label : V) → k < at → slice_get now k ≡ Some label → Asks k now label

module _ {V : Type 0} {Below : V → V → Type 0} {rank : V → ℕ} (laws : LatticeLaws Below rank) {size : ℕ} {Asks : ℕ → List V → V → Type 0}
    (monotone : IsMonotone Below Asks) where
  -- the label rises to the join
  pub raised : (at : ℕ) (rose : Bool) (first a : List V) (label value join : V) → at < length a → label ≡ get_or a at label → IsLeastOf Below (Asks at a) value → IsJoin Below label value join → ¬ Below value label
      → SoFar Below rank size Asks at rose first a → SoFar Below rank size Asks (at + 1) true first (set a at join)
  raised at rose first a label value join within read says is apart so_far =
      let found : slice_get a at ≡ Some label = slice_get_read a (length a) at label refl within read in
      let strict = falls_strictly laws label join is.left (λ back. apart (laws.transitive _ _ _ is.right back)) in
      let sum = sum_by-set rank a at join label within in
      let same : rank (get_or a at label) ≡ rank label = ap rank (sym read) in
      record {
        len = simp length-set so_far.len;
        least = least_set laws.reflexive monotone a at label value join so_far.least found says is;
        falls = grind (arith, sum, same, strict, so_far.falls);
        quiet = λ e. absurd (false≢true (sym e));
      }

  -- the label is above already
  pub kept : (at : ℕ) (rose : Bool) (first a : List V) (label value : V) → at < length a → label ≡ get_or a at label → IsLeastOf Below (Asks at a) value → Below value label
      → SoFar Below rank size Asks at rose first a → SoFar Below rank size Asks (at + 1) rose first a
  kept at rose first a label value within read says below so_far =
      let found : slice_get a at ≡ Some label = slice_get_read a (length a) at label refl within read in
      record {
        len = so_far.len;
        least = so_far.least;
        falls = so_far.falls;
        quiet = λ e k other h g. ⊎_elim (λ before. so_far.quiet e k other before g)
            (λ up.
            let is : k ≡ at = omega arith in
            let both : Some label ≡ Some other = sym found ∙ subst (λ t. slice_get a t ≡ Some other) is g in
            let same : label ≡ other = cc in
            subst (Asks k a) same (subst (λ t. Asks t a label) (sym is) (enough_above laws.reflexive monotone a at value label says.0 below)))
            (cases_lt k at);
      }
