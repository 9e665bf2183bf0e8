-- The tests of accesses, of which the first is tested.
use Rattle.std.proofs.Common.{◌≡◌, ℕ, Bool, true, if◌then◌else◌, List, [], ◌∷◌, ◌++◌, sym, ap, ◌∙◌, append_assoc}
use Rattle.ix_guard.specs.Accesses.{Access}
use Rattle.ix_guard.specs.Tests.{Site, Changes, Pair, pair_of, is_tested, test, tests_behind}

pub tested_one : (site : Site) (changes : Changes) (pairs more : List Pair) (pair : Pair) (access : Access) (rest : List Access) (answer : Bool) (old new : List ℕ)
    → answer ≡ is_tested site changes pairs access → answer ≡ true → new ≡ old ++ test access → more ≡ pairs ++ pair ∷ [] → pair ≡ pair_of site access
    → new ++ tests_behind site changes more rest ≡ old ++ tests_behind site changes pairs (access ∷ rest)
tested_one site changes pairs more pair access rest answer old new asked tested written added is =
    let behind : List ℕ = tests_behind site changes (pairs ++ pair_of site access ∷ []) rest in
    ap (λ t. t ++ tests_behind site changes more rest) written ∙ ap (λ p. (old ++ test access) ++ tests_behind site changes p rest) (added ∙ ap (λ (p : Pair). pairs ++ p ∷ []) is)
    ∙ append_assoc old (test access) behind
    ∙ ap (λ (b : Bool). old ++ (if b then test access ++ behind else tests_behind site changes pairs rest)) (sym tested ∙ asked)
