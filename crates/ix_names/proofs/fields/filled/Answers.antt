use Rattle.std.proofs.Common.{◌≡◌, ◌++◌, OnOk, subst}
use Rattle.ix_meaning.specs.Bodies.{init_notes}
use Rattle.ix_meaning.specs.Scope.{Scope}
use Rattle.ix_names.proofs.fields.filled.Goals as goal

pub returns : goal.returns
returns c =
    subst (λ (s : Scope). OnOk c.initialiser.result (c.initialiser.new.notes ≡ c.args.notes.now ++ init_notes c.args.init.now s c.args.ty.now))
    (c.member_scopes-scopes.ensures c.args.world.now) c.initialiser.ensures
