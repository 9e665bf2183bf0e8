use Rattle.std.specs.Prelude.{pos}
use Rattle.std.proofs.Common.{◌≡◌, Bool, List, [], ◌∷◌, ◌++◌, cond, get_or, refl, ap, sym, ◌∙◌}
use Rattle.std.proofs.lemmas.List.{append-nil}
use Rattle.ix_core.specs.declared.fact.Path.TheVariants.{Slot}
use Rattle.ix_core.specs.declared.fact.Fact.{Fact}
use Rattle.ix_core.specs.declared.fact.Fact.TheVariants.{Rng}
use Rattle.ix_core.proofs.Cases.{by_test}
use Rattle.ix_text.proofs.Walked.{next_or, none_left}
use Rattle.ix_bounds.specs.Ends.{is_end, ends_in}
use Rattle.ix_fact_list.proofs.ends.ends_of.Goals as goal
use Rattle.ix_fact_list.proofs.ends.ends_of.Goals.{then-is_end+in_ok-push, else-is_end}

end_first : (f : Fact) (rest : List Fact) → ends_in (f ∷ rest) ≡ cond (is_end f) (f ∷ []) [] ++ ends_in rest
end_first f rest = by_test (is_end f) (λ t. rw t refl) (λ t. rw t refl)

pub loop-fact-preserved : goal.loop-fact-preserved
loop-fact-preserved c =
    let old = c.loop-fact.ends.items in
    let none = Rng (Slot 0) (pos 0) (pos 0) in
    let fact = get_or c.args.facts.now c.loop-fact.fact-index none in
    let told = λ (b : Bool). old ++ cond b (fact ∷ []) [] in
    let added : c.if-is_end.ends.items ≡ told (is_end fact) =
    elim c.if-is_end.branch [
      | then-is_end+in_ok-push w ↦ ap (λ v. v.items) w.ends-is ∙ (w.in_ok-push.ensures.items ∙ ap told (sym w.if-is_end.true ∙ c.is_end.ensures))
      | else-is_end w ↦ ap (λ v. v.items) w.ends-is ∙ (sym (append-nil old) ∙ ap told (sym w.if-is_end.false ∙ c.is_end.ensures))
    ] in
    next_or (λ _. ends_in) c.args.facts.now c.loop-fact.fact-index none _ _ _ _ c.loop-fact-test.true (end_first fact) added c.loop-fact.invariant

pub returns : goal.returns
returns c = record { ends = none_left (λ _. ends_in) c.args.facts.now c.loop-fact.fact-index _ _ c.loop-fact-test.false refl c.loop-fact.invariant }
