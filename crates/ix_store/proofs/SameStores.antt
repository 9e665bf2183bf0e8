-- Lists with the same facts have the same closed store.
use Rattle.std.specs.Prelude.{List}
use Rattle.ix_core.specs.declared.fact.Fact.{Fact}
use Rattle.ix_facts.specs.Closure.{Follows, SaysAll}
use Rattle.ix_facts.specs.Stores.{Stored, IsStoreOf, unreachable, reached}
use Rattle.ix_facts.specs.Systems.{HaveClasses}
use Rattle.ix_facts.proofs.FactLists.{covers_itself}
use Rattle.ix_facts.proofs.SaidLaws.{listed_says}
use Rattle.ix_facts.proofs.StoreLaws.{follows_says, contradicts_more}
use Rattle.ix_facts.specs.SameFacts.{HasAll, AreSame}

all_said : (some more : List Fact) → HasAll some more → SaysAll more some
all_said some more h = listed_says more some (record { met = λ f i. (f, h f i, covers_itself f) })

follows_more : (some more : List Fact) → HasAll some more → (f : Fact) → Follows some f → Follows more f
follows_more some more h f r = follows_says more some (all_said some more h) f r

pub same_store : (facts others : List Fact) (s : Stored) → AreSame facts others → IsStoreOf facts s → IsStoreOf others s
same_store facts others _ same (unreachable c) = unreachable (contradicts_more others facts (follows_more facts others same.there) c)
same_store facts others _ same (reached closed n is) =
    reached closed (λ c. n (contradicts_more facts others (follows_more others facts same.back) c))
    (record {
      says = λ f r. is.says f (follows_more others facts same.back f r);
      only = λ f i. follows_more facts others same.there f (is.only f i);
      tells = is.tells;
    })

pub same_classes : (facts others : List Fact) → AreSame facts others → HaveClasses others → HaveClasses facts
same_classes facts others same have f i = have f (same.there f i)
