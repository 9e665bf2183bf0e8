use Rattle.std.proofs.Common.{rules, ◌≡◌, None, Some, option_map, slice_get, sym, ap, ◌∙◌}
use Rattle.ix_meaning.specs.declared.note.Which.TheVariants as which
use Rattle.ix_meaning.specs.Limits as spec
use Rattle.ix_names.proofs.PlacesPassed.{past_param_at}
use Rattle.ix_names.proofs.counts.params_passed.Goals as goal

pub returns-in-None : goal.returns-in-None
returns-in-None c =
    let none : slice_get c.args.method.now.params spec.most_params ≡ None = search rules in
    sym (past_param_at which.Parameters spec.most_params c.args.method.now.params ∙ ap (option_map (λ param. spec.passed which.Parameters param.name)) none)

pub returns-in-Some : goal.returns-in-Some
returns-in-Some c =
    let some : slice_get c.args.method.now.params spec.most_params ≡ Some c.in-Some.param.now = search rules in
    ap Some c.passed_at.ensures ∙ sym (past_param_at which.Parameters spec.most_params c.args.method.now.params ∙ ap (option_map (λ param. spec.passed which.Parameters param.name)) some)
