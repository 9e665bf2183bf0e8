-- The laws of bounds in one piece.
use Rattle.std.specs.Prelude.{◌≡◌, ℤ, ◌≤ℤ◌, List, Option, Some, None, refl}
use Rattle.ix_core.specs.declared.fact.Fact.{Fact}
use Rattle.ix_core.specs.Numbers.{Numbers}
use Rattle.ix_facts.specs.Facts.{AllHold, Stronger, in_orders}
use Rattle.ix_facts.specs.Bounds.{upper_bound}
use Rattle.ix_facts.specs.Laws.{BoundsHold, BoundsNoWeaker}
use Rattle.ix_facts.proofs.Gives.{Gives}
use Rattle.ix_facts.proofs.Worse.{Up, Worse}
use Rattle.ix_facts.proofs.BoundsHold.{UpperIs, in_orders_hold, lower_holds, limit_holds, length_low_holds, length_high_holds, upper_holds, less_holds, are_same_holds}
use Rattle.ix_facts.proofs.BoundsMonotone.{lower_mono, limit_mono, length_low_mono, length_high_mono, upper_mono, less_mono, are_same_mono}

given_some : (P : ℤ → Type 0) (o : Option ℤ) (c : ℤ) → Gives o P → o ≡ Some c → P c
given_some P None c g e = absurd cc
given_some P (Some d) c g e = let i : d ≡ c = cc in Rattle.std.proofs.Common.subst P i g

pub better_some : (a b : Option ℤ) (c : ℤ) → Worse Up a b → a ≡ Some c → (d : ℤ) × (b ≡ Some d) × (c ≤ℤ d)
better_some None b c w e = absurd cc
better_some (Some x) None c w e = absurd w
better_some (Some x) (Some y) c w e = let i : x ≡ c = cc in (y, refl, Rattle.std.proofs.Common.subst (λ z. z ≤ℤ y) i w)

pub bounds_hold : (facts : List Fact) (v : Numbers) → AllHold facts v → BoundsHold (in_orders facts) v
bounds_hold facts v h =
    let k = in_orders_hold v facts h in
    record {
      lower = lower_holds v (in_orders facts) k;
      limit = limit_holds v (in_orders facts) k;
      length_from = length_low_holds v (in_orders facts) k;
      length_to = length_high_holds v (in_orders facts) k;
      upper = λ p a o c e. given_some (UpperIs v p a o) (upper_bound (in_orders facts) p a o) c (upper_holds v (in_orders facts) k p a o) e;
      less = less_holds v (in_orders facts) k;
      same = are_same_holds v (in_orders facts) k;
    }

pub bounds_no_weaker : (strong weak : List Fact) → Stronger strong weak → BoundsNoWeaker strong weak
bounds_no_weaker strong weak k = record {
  lower = lower_mono strong weak k;
  limit = limit_mono strong weak k;
  length_from = length_low_mono strong weak k;
  length_to = length_high_mono strong weak k;
  upper = λ p a o c e. better_some (upper_bound weak p a o) (upper_bound strong p a o) c (upper_mono strong weak k p a o) e;
  less = less_mono strong weak k;
  same = are_same_mono strong weak k;
}
