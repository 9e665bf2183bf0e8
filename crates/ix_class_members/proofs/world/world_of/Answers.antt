use Rattle.std.proofs.Common.{rules, ◌≡◌, ◌∙◌, ap, length}
use Rattle.std.specs.HashMap.{get_by_text}
use Rattle.ix_meaning.specs.Classes.{class_named, parents_by}
use Rattle.ix_meaning.specs.Members.{fields_from, methods_from}
use Rattle.ix_class_members.specs.World as spec
use Rattle.ix_class_members.proofs.Worlds.{is_world}
use Rattle.ix_class_members.proofs.world.world_of.Goals as goal

pub returns : goal.returns
returns c =
    let decls = c.args.decls.now in
    let table = c.in_ok-table.table in
    let named : get_by_text table ≡ class_named decls = search rules in
    let ps : c.in_ok-parents.parents ≡ parents_by (get_by_text table) decls = search rules in
    let fs : c.in_ok-fields.fields ≡ fields_from (get_by_text table) 0 0 decls = search rules in
    let ms : c.in_ok-methods.methods ≡ methods_from (get_by_text table) 0 decls = search rules in
    let are : spec.AreClasses c.in_ok-parents.parents c.in_ok-fields.fields c.in_ok-methods.methods decls 0 c.in_ok-classes.classes = search rules in
    let count : length c.in_ok-classes.classes ≡ length decls = search rules in
    is_world decls (record { table = table; classes = c.in_ok-classes.classes; fields = c.in_ok-fields.fields; methods = c.in_ok-methods.methods }) c.in_ok-parents.parents
    (ps ∙ ap (λ class. parents_by class decls) named)
    (fs ∙ ap (λ class. fields_from class 0 0 decls) named)
    (ms ∙ ap (λ class. methods_from class 0 decls) named)
    are count named
