use Rattle.std.proofs.Common.{rules, ◌≡◌, ◌∙◌, ap, sym, Some, None, option_map}
use Rattle.indexmap.specs.IndexMap.{get_by_text}
use Rattle.ix_expression_types.specs.Here as spec
use Rattle.ix_expression_types.proofs.MeantNames.{meant_local}
use Rattle.ix_expression_types.proofs.scope.local_named.Goals as goal

pub returns-in-None : goal.returns-in-None
returns-in-None c =
    let none : get_by_text c.args.locals.now c.args.name.now ≡ None = search rules in
    ap (option_map (spec.local_known_as c.args.name.now)) (sym none) ∙ meant_local c.args.name.now c.args.locals.now.entries

pub returns-in-Some : goal.returns-in-Some
returns-in-Some c =
    let some : get_by_text c.args.locals.now c.args.name.now ≡ Some c.in-Some.local.now = search rules in
    ap (option_map (spec.local_known_as c.args.name.now)) (sym some) ∙ meant_local c.args.name.now c.args.locals.now.entries
