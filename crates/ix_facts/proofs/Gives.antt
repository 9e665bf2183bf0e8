-- What holds of each number that an optional bound gives.
use Rattle.std.specs.Prelude.{◌≡◌, Bool, true, false, cond, ℤ, List, [], ◌∷◌, Option, Some, None, refl, int_lt}
use Rattle.std.specs.Option.{option_map}
use Rattle.std.specs.Int.{int_min, int_max}
use Rattle.ix_core.specs.declared.fact.Fact.{Fact}
use Rattle.ix_core.specs.Numbers.{Numbers}
use Rattle.ix_facts.specs.Facts.{Holds, AllHold}
use Rattle.ix_facts.specs.Bounds.{when, best, best_of, at_least, at_most}

abbrev pub Gives : Option ℤ → (ℤ → Type 0) → Type 0
Gives None P = Unit {0}
Gives (Some c) P = P c

-- of two numbers it is one
abbrev pub Chooses : (ℤ → ℤ → ℤ) → Type 1
Chooses better = (P : ℤ → Type 0) (x y : ℤ) → P x → P y → P (better x y)

chosen : (P : ℤ → Type 0) (x y : ℤ) (t : Bool) → P x → P y → P (cond t x y)
chosen P x y true p q = p
chosen P x y false p q = q

pub max_chooses : Chooses int_max
max_chooses P x y p q = chosen P x y (int_lt y x) p q

pub min_chooses : Chooses int_min
min_chooses P x y p q = chosen P y x (int_lt y x) q p

pub gives_when : (P : ℤ → Type 0) (o : Option ℤ) (t : Bool) → (t ≡ true → Gives o P) → Gives (when t o) P
gives_when P o true g = g refl
gives_when P o false g = tt

pub gives_map : (P Q : ℤ → Type 0) (f : ℤ → ℤ) (o : Option ℤ) → ((c : ℤ) → P c → Q (f c)) → Gives o P → Gives (option_map f o) Q
gives_map P Q f None h g = tt
gives_map P Q f (Some c) h g = h c g

pub gives_also : (P Q : ℤ → Type 0) (o : Option ℤ) → ((c : ℤ) → P c → Q c) → Gives o P → Gives o Q
gives_also P Q None h g = tt
gives_also P Q (Some c) h g = h c g

pub gives_best : (P : ℤ → Type 0) (better : ℤ → ℤ → ℤ) → Chooses better → (a b : Option ℤ) → Gives a P → Gives b P → Gives (best better a b) P
gives_best P better ch None b p q = q
gives_best P better ch (Some x) None p q = p
gives_best P better ch (Some x) (Some y) p q = ch P x y p q

-- what each fact that holds gives, the best of them gives
pub gives_best_of : (P : ℤ → Type 0) (better : ℤ → ℤ → ℤ) (by : Fact → Option ℤ) (v : Numbers) → Chooses better → ((fact : Fact) → Holds fact v → Gives (by fact) P) → (facts : List Fact) → AllHold facts v → Gives (best_of better by facts) P
gives_best_of P better by v ch each [] h = tt
gives_best_of P better by v ch each (fact ∷ facts) h = gives_best P better ch (by fact) (best_of better by facts) (each fact h.0) (gives_best_of P better by v ch each facts h.1)

pub at_least_holds : (P : ℤ → Type 0) (d : ℤ) (o : Option ℤ) → P d → Gives o P → P (at_least d o)
at_least_holds P d None p g = p
at_least_holds P d (Some c) p g = max_chooses P d c p g

pub at_most_holds : (P : ℤ → Type 0) (d : ℤ) (o : Option ℤ) → P d → Gives o P → P (at_most d o)
at_most_holds P d None p g = p
at_most_holds P d (Some c) p g = min_chooses P d c p g
