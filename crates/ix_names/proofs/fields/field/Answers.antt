use Rattle.std.proofs.Common.{rules, ◌≡◌, ◌++◌, OnOk, subst}
use Rattle.ix_meaning.specs.declared.members.Field.{Field}
use Rattle.ix_meaning.specs.Members as members
use Rattle.ix_meaning.specs.Source as spec
use Rattle.ix_class_members.specs.World.{shown}
use Rattle.ix_class_members.specs.Begun.{annotated}
use Rattle.ix_names.specs.Places.{at}
use Rattle.ix_names.proofs.fields.field.Goals as goal

pub returns : goal.returns
returns c =
    let same : c.in_ok-field.field ≡ members.field_of (shown c.args.world.now).class c.args.number c.args.next (annotated c.args.own.now c.args.decl.now) = search rules in
    subst (λ (f : Field). OnOk c.declared.result (c.declared.new.notes ≡ c.args.notes.now ++ spec.field_notes (at c.args.world.now c.args.number c.args.class.now) f (annotated c.args.own.now c.args.decl.now)))
    same c.declared.ensures
