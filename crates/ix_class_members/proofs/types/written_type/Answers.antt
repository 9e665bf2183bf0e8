use Rattle.std.proofs.Common.{rules, ◌≡◌, ◌∙◌, sym, ap}
use Rattle.std.specs.HashMap.{get_by_text}
use Rattle.ix_tree.specs.declared.annot.BaseTree.TheVariants.{Named}
use Rattle.ix_meaning.specs.Annotated as spec
use Rattle.ix_class_members.specs.ClassTypes.{class_type}
use Rattle.ix_class_members.proofs.ClassUses.{class_use_type}
use Rattle.ix_class_members.proofs.types.written_type.Goals as goal

pub returns-in-Named : goal.returns-in-Named
returns-in-Named c =
    let name = c.in-Named.name in
    let is : c.args.ty.now.base ≡ Named name = search rules in
    let found : c.copied-class.result ≡ get_by_text c.args.classes.now name.text = search rules in
    let made : c.class_type.result ≡ class_type c.copied-class.result c.args.ty.now.depth c.args.element = search rules in
    made
    ∙ ap (λ class. class_type class c.args.ty.now.depth c.args.element) found
    ∙ sym (class_use_type (get_by_text c.args.classes.now name.text) c.args.ty.now.depth c.args.element name.span)
    ∙ sym (ap (λ base. (spec.based (get_by_text c.args.classes.now) base c.args.ty.now.depth c.args.element).ty) is)
