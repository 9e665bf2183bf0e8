use Rattle.std.proofs.Common.{rules, ◌≡◌, ◌∙◌, ap, sym, Some, List, ℕ, map}
use Rattle.ix_meaning.specs.Scope as scope
use Rattle.ix_meaning.specs.declared.note.Meaning.TheVariants as meaning
use Rattle.ix_expression_types.specs.Here as spec
use Rattle.ix_expression_types.proofs.MeantNames.{meant_name}
use Rattle.ix_expression_types.proofs.scope.param_named.Goals as goal

pub returns-in-Some : goal.returns-in-Some
returns-in-Some c =
    let param = c.in-Some.param.now in
    let is : scope.meant c.args.name.now (map spec.param_known c.args.params.now) ≡ Some (spec.param_known param) = search rules in
    let name : param.name.now ≡ c.args.name.now = meant_name c.args.name.now (map spec.param_known c.args.params.now) (spec.param_known param) is in
    ap (λ (n : List ℕ). Some (record { name = n; meaning = meaning.Param param.number; ty = param.ty; is_fixed = param.is_final })) (sym name) ∙ sym is
