use Rattle.std.proofs.Common.{rules, ◌≡◌, ◌++◌, ◌∙◌, [], List, ap, append_assoc}
use Rattle.std.proofs.lemmas.Result.{on_ok_weaker}
use Rattle.ix_annot.specs.declared.scope.Claims.{Claims}
use Rattle.ix_tree.specs.declared.annot.Annot.{Annot}
use Rattle.ix_tree.specs.declared.decl.LocalDecl.{LocalDecl}
use Rattle.ix_meaning.specs.declared.note.Note.{Note}
use Rattle.ix_meaning.specs.Annotated.{marked}
use Rattle.ix_meaning.specs.Bodies.{declares_note}
use Rattle.ix_expression_types.specs.Here.{here}
use Rattle.ix_names.specs.Declarations.{params_notes}
use Rattle.ix_names.specs.Heads as parts
use Rattle.ix_names.proofs.heads.head.Goals as goal

joined : {m o : List Note} (n xs ys : List Note) → m ≡ n ++ xs → o ≡ m ++ ys → o ≡ n ++ (xs ++ ys)
joined n xs ys first second = second ∙ ap (λ l. l ++ ys) first ∙ append_assoc n xs ys

pub returns : goal.returns
returns c =
    let s = here c.args.world.now c.args.scopes.now in
    let m = c.args.m.now in
    let d = c.args.decl.now in
    let result = parts.result_given s m d in
    let given = parts.method_given s m d.mods.annots in
    let first : c.result_given.new.notes ≡ c.args.notes.now ++ result.notes = c.in_ok-claims.ensures.notes in
    let second : c.method_given.new.notes ≡ c.result_given.new.notes ++ given.notes =
    c.in_ok-marks.ensures.notes ∙ ap (λ (annots : List Annot). c.result_given.new.notes ++ (parts.method_given s m annots).notes) c.as_slice-annots.ensures in
    let says : c.in_ok-claims-2.claims ≡ marked result.claims given = search rules in
    let says_all = declares_note d.name.span m.result (marked result.claims given) in
    let third : c.note_declared.new.notes ≡ c.method_given.new.notes ++ says_all =
    c.in_ok-note_declared.ensures ∙ ap (λ (cs : Claims). c.method_given.new.notes ++ declares_note d.name.span m.result cs) says in
    let params = params_notes s [] 0 d.params in
    on_ok_weaker c.note_params.result
    (λ noted.
    let fourth : c.note_params.new.notes ≡ c.note_declared.new.notes ++ params = noted ∙ ap (λ (ds : List LocalDecl). c.note_declared.new.notes ++ params_notes s [] 0 ds) c.as_slice.ensures in
    joined c.args.notes.now result.notes (given.notes ++ (says_all ++ params)) first
    (joined c.result_given.new.notes given.notes (says_all ++ params) second (joined c.method_given.new.notes says_all params third fourth)))
    c.note_params.ensures
