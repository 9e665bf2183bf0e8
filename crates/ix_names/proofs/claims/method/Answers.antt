use Rattle.std.proofs.Common.{rules, ◌≡◌, ◌++◌, ◌∷◌, [], option_map, ◌∙◌}
use Rattle.ix_meaning.specs.Limits as spec
use Rattle.ix_names.specs.Counted as counts
use Rattle.ix_names.specs.Shown.{shown}
use Rattle.ix_names.proofs.FirstPassed.{past_single}
use Rattle.ix_names.proofs.claims.method.Goals as goal

pub returns : goal.returns
returns c =
    let m = c.args.method.now in
    let head : option_map shown c.declaration-head.result ≡ spec.past_claims_in 0 (m.mods.annots ++ spec.result_annots m.result) = search rules in
    c.first-2.ensures ((m.mods.annots ++ spec.result_annots m.result) ∷ []) (spec.each_annots m.params ++ counts.all_statements m.body)
    (head ∙ past_single _) (search rules)
