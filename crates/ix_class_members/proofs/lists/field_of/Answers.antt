use Rattle.std.proofs.Common.{rules, ◌≡◌, ◌∙◌, ap}
use Rattle.std.specs.HashMap.{get_by_text}
use Rattle.ix_tree.specs.declared.annot.Mods.{Mods}
use Rattle.ix_meaning.specs.Members as spec
use Rattle.ix_class_members.specs.Begun.{annotated}
use Rattle.ix_class_members.proofs.lists.field_of.Goals as goal

pub returns : goal.returns
returns c =
    let own = annotated c.args.own.now c.args.decl.now in
    let made = spec.field_of (get_by_text c.args.classes.now) c.args.class c.args.next own in
    let ty : c.in_ok-ty.ty ≡ spec.field_type (get_by_text c.args.classes.now) own = search rules in
    let name : c.in_ok-name.name ≡ c.args.decl.now.name.text = search rules in
    let meaning : c.field_meaning.result ≡ spec.field_meaning c.args.next c.args.decl.now = search rules in
    let mods : c.get-mods.result.now ≡ c.args.decl.now.mods = search rules in
    ap (λ (m : Mods). record made { name = c.in_ok-name.name; ty = c.in_ok-ty.ty; is_static = m.is_static; is_final = m.is_final; meaning = c.field_meaning.result }) mods
    ∙ ap (λ n. record made { name = n; ty = c.in_ok-ty.ty; meaning = c.field_meaning.result }) name
    ∙ ap (λ t. record made { ty = t; meaning = c.field_meaning.result }) ty
    ∙ ap (λ m. record made { meaning = m }) meaning
