use Rattle.std.proofs.Common.{rules, ◌≡◌, ◌++◌, OnOk, subst}
use Rattle.ix_meaning.specs.declared.members.Signature.{Signature}
use Rattle.ix_meaning.specs.Members as members
use Rattle.ix_meaning.specs.Source as spec
use Rattle.ix_class_members.specs.World.{shown}
use Rattle.ix_names.specs.Places.{at}
use Rattle.ix_names.proofs.methods.method.Goals as goal

pub returns : goal.returns
returns c =
    let same : c.in_ok-m.m ≡ members.signature (shown c.args.world.now).class c.args.number c.args.decl.now = search rules in
    subst (λ (m : Signature). OnOk c.with_signature.result (c.with_signature.new.notes ≡ c.args.notes.now ++ spec.method_notes (at c.args.world.now c.args.number c.args.class.now) m c.args.decl.now))
    same c.with_signature.ensures
