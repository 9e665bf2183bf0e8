use Rattle.std.proofs.Common.{◌≡◌, ◌++◌, IfOk, OnOk, subst}
use Rattle.ix_meaning.specs.Scope.{Scope}
use Rattle.ix_class_members.specs.Begun.{annotated}
use Rattle.ix_names.specs.Declarations as parts
use Rattle.ix_names.proofs.fields.declared_at.Goals as goal

pub returns-clause-claims : goal.returns-clause-claims
returns-clause-claims c =
    subst (λ (s : Scope). IfOk c.instance_declaration.result (λ d. d.claims ≡ (parts.instance_declaration s c.args.number (annotated c.args.own.now c.args.decl.now)).claims))
    (c.member_scopes-scopes.ensures c.args.world.now) c.instance_declaration.ensures.claims

pub returns-clause-notes : goal.returns-clause-notes
returns-clause-notes c =
    subst (λ (s : Scope). OnOk c.instance_declaration.result (c.instance_declaration.new.notes ≡ c.args.notes.now ++ (parts.instance_declaration s c.args.number (annotated c.args.own.now c.args.decl.now)).notes))
    (c.member_scopes-scopes.ensures c.args.world.now) c.instance_declaration.ensures.notes
