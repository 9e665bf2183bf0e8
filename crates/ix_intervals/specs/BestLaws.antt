-- The best of several numbers, one after another.
use Rattle.std.specs.Prelude.{◌≡◌, ℕ, ◌<◌, ◌+◌, ℤ, Option, Some, None, List, length, drop, slice_index_or, refl}
use Rattle.std.specs.Int.{int_min, int_max}
use Rattle.std.proofs.Common.{ap, sym, ◌∙◌, arith}
use Rattle.std.proofs.lemmas.Int.{ints, clamps}
use Rattle.ix_facts.specs.Path.{Path}
use Rattle.ix_facts.specs.Fact.{Fact}
use Rattle.ix_facts.specs.Bounds.{best, least, greatest, at_least, at_most}
use Rattle.ix_facts.specs.Exact.{least_at}
use Rattle.ix_intervals.specs.KeptLaws.{at_drop}

pub min_joined : (x y z : ℤ) → int_min (int_min x y) z ≡ int_min x (int_min y z)
min_joined x y z = omega (arith, ints, clamps)

pub max_joined : (x y z : ℤ) → int_max (int_max x y) z ≡ int_max x (int_max y z)
max_joined x y z = omega (arith, ints, clamps)

pub least_joined : (x y z : Option ℤ) → best int_min (best int_min x y) z ≡ best int_min x (best int_min y z)
least_joined None y z = refl
least_joined (Some x) None z = refl
least_joined (Some x) (Some y) None = refl
least_joined (Some x) (Some y) (Some z) = ap Some (min_joined x y z)

pub low_joined : (x : ℤ) (y z : Option ℤ) → at_least (at_least x y) z ≡ at_least x (best int_max y z)
low_joined x None z = refl
low_joined x (Some y) None = refl
low_joined x (Some y) (Some z) = max_joined x y z

pub high_joined : (x : ℤ) (y z : Option ℤ) → at_most (at_most x y) z ≡ at_most x (best int_min y z)
high_joined x None z = refl
high_joined x (Some y) None = refl
high_joined x (Some y) (Some z) = min_joined x y z

-- ---- one step of a loop

pub next_least : (by : Path → Option ℤ) (paths : List Path) (k : ℕ) (d : Path) → k < length paths → (old new whole : Option ℤ) → new ≡ best int_min old (by (slice_index_or paths k d)) → best int_min old (least_at by (drop k paths)) ≡ whole → best int_min new (least_at by (drop (k + 1) paths)) ≡ whole
next_least by paths k d h old new whole n w =
    ap (λ x. best int_min x (least_at by (drop (k + 1) paths))) n
    ∙ (least_joined old (by (slice_index_or paths k d)) (least_at by (drop (k + 1) paths)) ∙ (ap (λ l. best int_min old (least_at by l)) (sym (at_drop paths k d h)) ∙ w))

pub next_low : (by : Fact → Option ℤ) (facts : List Fact) (k : ℕ) (d : Fact) → k < length facts → (old new whole : ℤ) → new ≡ at_least old (by (slice_index_or facts k d)) → at_least old (greatest by (drop k facts)) ≡ whole → at_least new (greatest by (drop (k + 1) facts)) ≡ whole
next_low by facts k d h old new whole n w =
    ap (λ x. at_least x (greatest by (drop (k + 1) facts))) n
    ∙ (low_joined old (by (slice_index_or facts k d)) (greatest by (drop (k + 1) facts)) ∙ (ap (λ l. at_least old (greatest by l)) (sym (at_drop facts k d h)) ∙ w))

pub next_high : (by : Fact → Option ℤ) (facts : List Fact) (k : ℕ) (d : Fact) → k < length facts → (old new whole : ℤ) → new ≡ at_most old (by (slice_index_or facts k d)) → at_most old (least by (drop k facts)) ≡ whole → at_most new (least by (drop (k + 1) facts)) ≡ whole
next_high by facts k d h old new whole n w =
    ap (λ x. at_most x (least by (drop (k + 1) facts))) n
    ∙ (high_joined old (by (slice_index_or facts k d)) (least by (drop (k + 1) facts)) ∙ (ap (λ l. at_most old (least by l)) (sym (at_drop facts k d h)) ∙ w))
