use Rattle.std.specs.Prelude.{pos}
use Rattle.std.specs.Vec.{vec_len, vec_capacity}
use Rattle.std.proofs.Common.{◌≡◌, ◌≤◌, ◌+◌, Bool, [], ◌∷◌, ◌++◌, cond, get_or, length, refl, arith, ap, sym, ◌∙◌}
use Rattle.std.proofs.lemmas.List.{append-nil}
use Rattle.ix_text.proofs.Walked.{next_or, none_left}
use Rattle.ix_core.specs.declared.fact.Path.TheVariants.{Slot}
use Rattle.ix_core.specs.declared.fact.Fact.TheVariants.{Rng}
use Rattle.ix_facts.specs.Forget.{names, without}
use Rattle.ix_fact_paths.specs.ChangedPaths.{is_changed}
use Rattle.ix_fact_paths.proofs.KeptFirst.{kept_first}
use Rattle.ix_fact_paths.proofs.changed.beside_many.Goals as goal
use Rattle.ix_fact_paths.proofs.changed.beside_many.Goals.{then-not-names_changed, else-not-names_changed}

pub loop-fact-preserved : goal.loop-fact-preserved
loop-fact-preserved c =
    let is = is_changed c.args.changed.now in
    let old = c.loop-fact.kept.items in
    let k = c.loop-fact.fact-index in
    let all = c.loop-fact.invariant in
    let fact = get_or c.args.facts.now k (Rng (Slot 0) (pos 0) (pos 0)) in
    let told = λ (gone : Bool). old ++ cond gone [] (fact ∷ []) in
    let added : c.if-not-names_changed.kept.items ≡ told (names is fact) =
    elim c.if-not-names_changed.branch [
      | then-not-names_changed w ↦ ap (λ v. v.items) w.kept-is ∙ (w.push_reserved.ensures.items ∙ ap told (sym w.if-not-names_changed.true ∙ c.names_changed.ensures))
      | else-not-names_changed w ↦ ap (λ v. v.items) w.kept-is ∙ (sym (append-nil old) ∙ ap told (sym w.if-not-names_changed.false ∙ c.names_changed.ensures))
    ] in
    let short : vec_len c.if-not-names_changed.kept ≤ k + 1 =
    elim c.if-not-names_changed.branch [
      | then-not-names_changed w ↦ omega (arith, ap (λ v. vec_len v) w.kept-is, w.push_reserved.ensures.len, all.short)
      | else-not-names_changed w ↦ omega (arith, ap (λ v. vec_len v) w.kept-is, all.short)
    ] in
    let room : length c.args.facts.now ≤ vec_capacity c.if-not-names_changed.kept =
    elim c.if-not-names_changed.branch [
      | then-not-names_changed w ↦ omega (arith, ap (λ v. vec_capacity v) w.kept-is, w.push_reserved.ensures.capacity, all.room)
      | else-not-names_changed w ↦ omega (arith, ap (λ v. vec_capacity v) w.kept-is, all.room)
    ] in
    record {
      facts = next_or (λ _. without is) c.args.facts.now k (Rng (Slot 0) (pos 0) (pos 0)) _ _ _ _ c.loop-fact-test.true (λ rest. kept_first (names is fact) fact (without is rest)) added all.facts;
      short = short;
      room = room;
    }

pub returns : goal.returns
returns c =
    let is = is_changed c.args.changed.now in
    none_left (λ _. without is) c.args.facts.now c.loop-fact.fact-index _ _ c.loop-fact-test.false refl c.loop-fact.invariant.facts
