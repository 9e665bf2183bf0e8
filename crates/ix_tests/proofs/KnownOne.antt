-- A list of one fact whose numbers are small has classes.
use Rattle.std.specs.Prelude.{◌≡◌, [], ◌∷◌, ◌++◌, All}
use Rattle.std.proofs.Common.{arith}
use Rattle.ix_core.specs.declared.fact.Fact.{Fact}
use Rattle.ix_facts.specs.Small.{HasSmallNumbers}
use Rattle.ix_facts.specs.Systems.{HaveClasses}
use Rattle.ix_systems.proofs.KnownClasses.{small_classes, next_small}

no_facts : All HasSmallNumbers []
no_facts k f lt = absurd (omega arith)

pub one_class : (fact : Fact) → HasSmallNumbers fact → HaveClasses (fact ∷ [])
one_class fact small =
    let made : fact ∷ [] ≡ [] ++ fact ∷ [] = cc in
    small_classes (fact ∷ []) (next_small [] (fact ∷ []) fact small made no_facts)
