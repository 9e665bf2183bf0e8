use Rattle.std.proofs.Common.{refl, sym, ap, ◌∙◌, arith}
use Rattle.std.specs.Prelude.{slice_get, unwrap_or}
use Rattle.std.proofs.lemmas.Option.{slice_get_read, slice_get_past}
use Rattle.ix_core.specs.Tables.{no_method}
use Rattle.ix_errors.proofs.call_errors.params_of.Goals as goal

pub returns-in-Some : goal.returns-in-Some
returns-in-Some c =
    let read = slice_get_read c.as_slice.result.now _ c.args.method c.in-Some.found.now refl (omega (arith, c.in-Some.ensures.lookup)) c.in-Some.ensures.lookup.1 in
    c.as_slice-in-Some.ensures ∙ (ap (λ found. (unwrap_or found no_method).params) (sym read) ∙ ap (λ methods. (unwrap_or (slice_get methods c.args.method) no_method).params) c.as_slice.ensures)

pub returns-in-None : goal.returns-in-None
returns-in-None c =
    let none = slice_get_past c.as_slice.result.now c.args.method (omega (arith, c.in-None.ensures.lookup)) in
    ap (λ found. (unwrap_or found no_method).params) (sym none) ∙ ap (λ methods. (unwrap_or (slice_get methods c.args.method) no_method).params) c.as_slice.ensures
