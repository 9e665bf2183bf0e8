-- Two intervals with the same ends are one.
use Rattle.std.proofs.Common.{◌≡◌, ℤ}
use Rattle.ix_num.specs.declared.interval.Interval.{Interval}

pub same_ends : {a b c d : ℤ} → a ≡ c → b ≡ d → ◌≡◌ {A = Interval} (record { lo = a; hi = b }) (record { lo = c; hi = d })
same_ends p q = λ i. record { lo = p i; hi = q i }
