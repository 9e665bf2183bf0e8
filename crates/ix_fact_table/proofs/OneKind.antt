-- The facts of one kind among facts.
use Rattle.std.specs.Prelude.{◌≡◌, List, [], ◌∷◌, refl}
use Rattle.std.proofs.Common.{inl, inr, ap, ⊎_elim}
use Rattle.ix_core.specs.declared.fact.Fact.{Fact}
use Rattle.ix_facts.specs.declared.kind.Kind.{Kind}
use Rattle.ix_facts.specs.Facts.{IsIn}
use Rattle.ix_facts.specs.Kinds.{is_of, of_kind}
use Rattle.ix_facts.specs.Systems.{HaveClasses}
use Rattle.ix_core.proofs.Cases.{by_test}

pub from_kind : (own : Kind) (f : Fact) (facts : List Fact) → IsIn f (of_kind own facts) → IsIn f facts
from_kind own f [] i = absurd i
from_kind own f (g ∷ facts) i =
    by_test (is_of own g) (λ t. ⊎_elim (λ e. inl e) (λ j. inr (from_kind own f facts j)) (rw t at i)) (λ t. inr (from_kind own f facts (rw t at i)))

pub kind_twice : (own : Kind) (facts : List Fact) → of_kind own (of_kind own facts) ≡ of_kind own facts
kind_twice own [] = refl
kind_twice own (f ∷ facts) = by_test (is_of own f) (λ t. rw t (rw t (ap (λ l. f ∷ l) (kind_twice own facts)))) (λ t. rw t (kind_twice own facts))

pub kind_have : (own : Kind) (facts : List Fact) → HaveClasses facts → HaveClasses (of_kind own facts)
kind_have own facts have f i = have f (from_kind own f facts i)
