use Rattle.std.proofs.Common.{rules, ◌≡◌, ◌++◌, OnOk, is_some, Bool, List, subst, sym, ◌∙◌, ap, append_assoc}
use Rattle.ix_meaning.specs.declared.note.Note.{Note}
use Rattle.ix_meaning.specs.Scope.{Scope}
use Rattle.ix_meaning.specs.Source as spec
use Rattle.ix_expression_types.specs.Here.{here}
use Rattle.ix_class_members.specs.World.{shown}
use Rattle.ix_names.specs.Heads as parts
use Rattle.ix_names.specs.Places.{at}
use Rattle.ix_names.proofs.MethodNotes.{method_is}
use Rattle.ix_names.proofs.methods.with_signature.Goals as goal

pub returns : goal.returns
returns c =
    let w = c.args.world.now in
    let m = c.args.m.now in
    let d = c.args.decl.now in
    let extends = is_some c.args.class.now.parent in
    let begin = spec.constructor_notes (at w c.args.number c.args.class.now) d in
    let inherited = spec.inherited_notes (at w c.args.number c.args.class.now) m in
    let scope : here w c.in_ok-scopes.scopes ≡ parts.head_scope (shown w) c.args.number m d = search rules in
    let headed : c.head.new.notes ≡ ((c.args.notes.now ++ begin) ++ inherited) ++ parts.head_notes (here w c.in_ok-scopes.scopes) m d = search rules in
    let all : (s : Scope) → List Note = λ s. parts.head_notes s m d ++ parts.body_notes (parts.in_body s m d) extends d in
    let e : c.head.new.notes ++ parts.body_notes (parts.in_body (here w c.in_ok-scopes.scopes) m d) extends d ≡ c.args.notes.now ++ spec.method_notes (at w c.args.number c.args.class.now) m d =
    ap (λ ns. ns ++ parts.body_notes (parts.in_body (here w c.in_ok-scopes.scopes) m d) extends d) headed
    ∙ append_assoc ((c.args.notes.now ++ begin) ++ inherited) _ _
    ∙ append_assoc (c.args.notes.now ++ begin) inherited _
    ∙ append_assoc c.args.notes.now begin _
    ∙ ap (λ (s : Scope). c.args.notes.now ++ (begin ++ (inherited ++ all s))) scope
    ∙ ap (λ ns. c.args.notes.now ++ ns) (sym (method_is w c.args.number c.args.class.now m d)) in
    let told : c.is_some.result ≡ extends = search rules in
    subst (λ (ns : List Note). OnOk c.body.result (c.body.new.notes ≡ ns)) e
    (subst (λ (b : Bool). OnOk c.body.result (c.body.new.notes ≡ c.head.new.notes ++ parts.body_notes (parts.in_body (here w c.in_ok-scopes.scopes) m d) b d)) told c.body.ensures)
