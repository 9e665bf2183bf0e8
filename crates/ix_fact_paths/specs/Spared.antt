-- Whether facts name one of some paths; where none does, nothing is dropped with them.
use Rattle.std.specs.Prelude.{◌≡◌, Bool, false, ◌||◌, List, [], ◌∷◌, refl}
use Rattle.std.proofs.Common.{ap, sym, ◌∙◌}
use Rattle.std.proofs.lemmas.Bool.{false≢true}
use Rattle.ix_core.specs.declared.fact.Path.{Path}
use Rattle.ix_core.specs.declared.fact.Fact.{Fact}
use Rattle.ix_facts.specs.Forget.{names, without}
use Rattle.ix_core.proofs.Cases.{by_test}

abbrev pub some_named : (Path → Bool) → List Fact → Bool
some_named is [] = false
some_named is (fact ∷ facts) = names is fact || some_named is facts

pub spared : (is : Path → Bool) (facts : List Fact) → some_named is facts ≡ false → without is facts ≡ facts
spared is [] n = refl
spared is (fact ∷ facts) n =
    by_test (names is fact) (λ t. absurd (false≢true (sym (ap (λ b. b || some_named is facts) (sym t) ∙ n)))) (λ t. rw t (ap (λ l. fact ∷ l) (spared is facts (rw t at n))))
