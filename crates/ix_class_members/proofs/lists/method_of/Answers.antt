use Rattle.std.proofs.Common.{rules, ◌≡◌, ◌∙◌, ◌&&◌, not, ap, map}
use Rattle.std.specs.HashMap.{get_by_text}
use Rattle.ix_meaning.specs.Members as spec
use Rattle.ix_class_members.proofs.lists.method_of.Goals as goal

pub returns : goal.returns
returns c =
    let decl = c.args.decl.now in
    let made = spec.signature (get_by_text c.args.classes.now) c.args.class decl in
    let name : c.in_ok-name.name ≡ decl.name.text = search rules in
    let params : c.in_ok-params.params ≡ map (spec.param_type (get_by_text c.args.classes.now)) decl.params = search rules in
    let result : c.in_ok-result.result ≡ spec.result_type (get_by_text c.args.classes.now) decl.mods.annots decl.result = search rules in
    let static : c.is_static.result ≡ (decl.mods.is_static && not decl.constructor) = search rules in
    ap (λ n. record made { name = n; is_static = c.is_static.result; params = c.in_ok-params.params; result = c.in_ok-result.result }) name
    ∙ ap (λ b. record made { is_static = b; params = c.in_ok-params.params; result = c.in_ok-result.result }) static
    ∙ ap (λ ps. record made { params = ps; result = c.in_ok-result.result }) params
    ∙ ap (λ r. record made { result = r }) result
