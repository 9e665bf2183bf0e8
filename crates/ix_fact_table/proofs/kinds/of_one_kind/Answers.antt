use Rattle.std.specs.Prelude.{pos}
use Rattle.std.proofs.Common.{◌≡◌, Bool, List, [], ◌∷◌, ◌++◌, cond, get_or, refl, ap, sym, ◌∙◌}
use Rattle.std.proofs.lemmas.List.{append-nil}
use Rattle.ix_core.specs.declared.fact.Path.TheVariants.{Slot}
use Rattle.ix_core.specs.declared.fact.Fact.{Fact}
use Rattle.ix_core.specs.declared.fact.Fact.TheVariants.{Rng}
use Rattle.ix_core.proofs.Cases.{by_test}
use Rattle.ix_text.proofs.Walked.{next_or, none_left}
use Rattle.ix_facts.specs.declared.kind.Kind.{Kind}
use Rattle.ix_facts.specs.Kinds.{is_of, of_kind}
use Rattle.ix_fact_table.proofs.kinds.of_one_kind.Goals as goal
use Rattle.ix_fact_table.proofs.kinds.of_one_kind.Goals.{then-is_of_kind+in_ok-push, else-is_of_kind}

kind_first : (own : Kind) (f : Fact) (rest : List Fact) → of_kind own (f ∷ rest) ≡ cond (is_of own f) (f ∷ []) [] ++ of_kind own rest
kind_first own f rest = by_test (is_of own f) (λ t. rw t refl) (λ t. rw t refl)

pub loop-fact-preserved : goal.loop-fact-preserved
loop-fact-preserved c =
    let own = c.args.kind in
    let old = c.loop-fact.own.items in
    let none = Rng (Slot 0) (pos 0) (pos 0) in
    let fact = get_or c.args.facts.now c.loop-fact.fact-index none in
    let told = λ (b : Bool). old ++ cond b (fact ∷ []) [] in
    let added : c.if-is_of_kind.own.items ≡ told (is_of own fact) =
    elim c.if-is_of_kind.branch [
      | then-is_of_kind+in_ok-push w ↦ ap (λ v. v.items) w.own-is ∙ (w.in_ok-push.ensures.items ∙ ap told (sym w.if-is_of_kind.true ∙ c.is_of_kind.ensures))
      | else-is_of_kind w ↦ ap (λ v. v.items) w.own-is ∙ (sym (append-nil old) ∙ ap told (sym w.if-is_of_kind.false ∙ c.is_of_kind.ensures))
    ] in
    next_or (λ _. of_kind own) c.args.facts.now c.loop-fact.fact-index none _ _ _ _ c.loop-fact-test.true (kind_first own fact) added c.loop-fact.invariant

pub returns : goal.returns
returns c = none_left (λ _. of_kind c.args.kind) c.args.facts.now c.loop-fact.fact-index _ _ c.loop-fact-test.false refl c.loop-fact.invariant
