use Rattle.std.specs.Vec.{vec_len, vec_capacity}
use Rattle.std.proofs.Common.{◌≡◌, ◌≤◌, ◌+◌, Bool, [], ◌∷◌, ◌++◌, cond, get_or, length, refl, arith, ap, sym, ◌∙◌}
use Rattle.std.proofs.lemmas.List.{append-nil}
use Rattle.ix_text.proofs.Walked.{next_or, none_left}
use Rattle.ix_core.specs.declared.fact.Path.TheVariants.{Slot}
use Rattle.ix_fact_paths.specs.ChangedPaths.{is_changed, paths_beside}
use Rattle.ix_fact_paths.proofs.KeptFirst.{kept_first}
use Rattle.ix_fact_paths.proofs.changed.unchanged_paths.Goals as goal
use Rattle.ix_fact_paths.proofs.changed.unchanged_paths.Goals.{then-not-changes, else-not-changes}

pub loop-p-preserved : goal.loop-p-preserved
loop-p-preserved c =
    let is = is_changed c.args.changed.now in
    let old = c.loop-p.kept.items in
    let k = c.loop-p.p-index in
    let all = c.loop-p.invariant in
    let p = get_or c.args.paths.now k (Slot 0) in
    let told = λ (gone : Bool). old ++ cond gone [] (p ∷ []) in
    let added : c.if-not-changes.kept.items ≡ told (is p) =
    elim c.if-not-changes.branch [
      | then-not-changes w ↦ ap (λ v. v.items) w.kept-is ∙ (w.push_reserved.ensures.items ∙ ap told (sym w.if-not-changes.true ∙ c.changes.ensures))
      | else-not-changes w ↦ ap (λ v. v.items) w.kept-is ∙ (sym (append-nil old) ∙ ap told (sym w.if-not-changes.false ∙ c.changes.ensures))
    ] in
    let short : vec_len c.if-not-changes.kept ≤ k + 1 =
    elim c.if-not-changes.branch [
      | then-not-changes w ↦ omega (arith, ap (λ v. vec_len v) w.kept-is, w.push_reserved.ensures.len, all.short)
      | else-not-changes w ↦ omega (arith, ap (λ v. vec_len v) w.kept-is, all.short)
    ] in
    let room : length c.args.paths.now ≤ vec_capacity c.if-not-changes.kept =
    elim c.if-not-changes.branch [
      | then-not-changes w ↦ omega (arith, ap (λ v. vec_capacity v) w.kept-is, w.push_reserved.ensures.capacity, all.room)
      | else-not-changes w ↦ omega (arith, ap (λ v. vec_capacity v) w.kept-is, all.room)
    ] in
    record {
      paths = next_or (λ _. paths_beside is) c.args.paths.now k (Slot 0) _ _ _ _ c.loop-p-test.true (λ rest. kept_first (is p) p (paths_beside is rest)) added all.paths;
      short = short;
      room = room;
    }

pub returns : goal.returns
returns c =
    let is = is_changed c.args.changed.now in
    none_left (λ _. paths_beside is) c.args.paths.now c.loop-p.p-index _ _ c.loop-p-test.false refl c.loop-p.invariant.paths
