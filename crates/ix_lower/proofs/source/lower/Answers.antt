use Rattle.std.proofs.Common.{sym, ap, refl, ◌≡◌, ◌∙◌, ℕ, List, Result, Ok, Err, IfOk}
use Rattle.ix_core.specs.declared.program.Program.{Program}
use Rattle.ix_symbols.specs.Numbered.{shown}
use Rattle.ix_tree.specs.declared.decl.ClassDecl.{ClassDecl}
use Rattle.ix_meaning.specs.Resolved.{Names}
use Rattle.ix_meaning.specs.Members.{World, world}
use Rattle.ix_class_members.specs.World.{shown as shown_world}
use Rattle.ix_plain.specs.declared.body.Head.{Head}
use Rattle.ix_plain.specs.Members.{heads as heads_of, constructors as constructors_of}
use Rattle.ix_plain.specs.Program as spec
use Rattle.ix_formed.proofs.FormedSources.{formed_source}
use Rattle.ix_lower.specs.Homes.{program_in}
use Rattle.ix_lower.proofs.source.lower.Goals as goal

each : {E : Type 0} {P Q : Program → Type 0} (r : Result Program E) → IfOk r P → ((program : Program) → P program → Q program) → IfOk r Q
each (Ok program) is to = to program is
each (Err error) is to = tt

-- The tables are those of the source.
tables_are : (names : Names) (heads : List Head) (constructors : List ℕ) (found : World) (decls : List ClassDecl) → heads ≡ heads_of decls → constructors ≡ constructors_of decls → found ≡ world decls
    → record { names = names; heads = heads; constructors = constructors; world = found } ≡ spec.tables names decls
tables_are names heads constructors found decls h k w = rw (h, k, w) refl

pub returns-clause-formed : goal.returns-clause-formed
returns-clause-formed c = λ parsed accepts table.
    let classes = c.args.unit.now.classes in
    let decls : c.as_slice-decls.result.now ≡ classes = c.as_slice-decls.ensures in
    let heads : c.as_slice.result.now ≡ heads_of classes = c.as_slice.ensures ∙ (c.in_ok-heads.ensures ∙ ap heads_of decls) in
    let constructors : c.as_slice-2.result.now ≡ constructors_of classes = c.as_slice-2.ensures ∙ (c.in_ok-constructors.ensures ∙ ap constructors_of decls) in
    let found : shown_world c.in_ok-world.world ≡ world classes = c.in_ok-world.ensures.world ∙ ap world decls in
    let tables = tables_are (shown c.args.table.now) c.as_slice.result.now c.as_slice-2.result.now (shown_world c.in_ok-world.world) classes heads constructors found in
    let handed : spec.Tables = record { names = shown c.args.table.now; heads = c.as_slice.result.now; constructors = c.as_slice-2.result.now; world = shown_world c.in_ok-world.world } in
    let is : IfOk c.program_in.result (λ program. spec.program (shown c.args.table.now) classes ≡ Ok program) =
    each c.program_in.result c.program_in.ensures.program
    (λ program made. ap (λ t. program_in t classes) (sym tables) ∙ (ap (program_in handed) (sym decls) ∙ made)) in
    each c.program_in.result is (λ program made. formed_source c.args.unit.now program parsed accepts c.requires.few_members (ap (λ n. spec.program n classes) (sym table) ∙ made))
