use Rattle.std.proofs.Common.{◌≡◌, sym, ap, refl, ◌∙◌, arith}
use Rattle.std.specs.Prelude.{slice_get, unwrap_or}
use Rattle.std.proofs.lemmas.Option.{slice_get_read, slice_get_past}
use Rattle.ix_core.specs.declared.claim.Type_.TheVariants.{Void}
use Rattle.ix_core.specs.Tables.{field_at, no_field}
use Rattle.ix_sign.proofs.fields.copied.Goals as goal

pub returns-in-Some : goal.returns-in-Some
returns-in-Some c =
    let read = slice_get_read c.as_slice.result.now _ c.args.field c.in-Some.found.now refl (omega (arith, c.in-Some.ensures.lookup)) c.in-Some.ensures.lookup.1 in
    let is : c.in-Some.found.now.ty ≡ (field_at c.args.program.now c.args.field).ty =
    ap (λ found. (unwrap_or found no_field).ty) (sym read) ∙ ap (λ fields. (unwrap_or (slice_get fields c.args.field) no_field).ty) c.as_slice.ensures in
    rw is at c.copy.ensures.after

pub returns-in-None : goal.returns-in-None
returns-in-None c =
    let none = slice_get_past c.as_slice.result.now c.args.field (omega (arith, c.in-None.ensures.lookup)) in
    let is : Void ≡ (field_at c.args.program.now c.args.field).ty =
    ap (λ found. (unwrap_or found no_field).ty) (sym none) ∙ ap (λ fields. (unwrap_or (slice_get fields c.args.field) no_field).ty) c.as_slice.ensures in
    rw is at c.copy-in-None.ensures.after
