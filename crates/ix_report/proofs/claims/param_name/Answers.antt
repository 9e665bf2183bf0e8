use Rattle.std.proofs.Common.{refl, arith, ap, sym, ◌∙◌, slice_get}
use Rattle.std.proofs.lemmas.Option.{slice_get_read, slice_get_past}
use Rattle.ix_report.proofs.Named.{param_none, param_named, param_missing}
use Rattle.ix_report.proofs.claims.param_name.Goals as goal

pub returns : goal.returns
returns c =
    c.as_str.ensures ∙ sym (param_named c.args.program.now c.args.method c.args.number c.in-Some.found.now c.in-Some-get.param.now
    (ap (λ xs. slice_get xs c.args.method) (sym c.as_slice.ensures) ∙ slice_get_read c.as_slice.result.now _ c.args.method c.in-Some.found.now refl (omega (arith, c.in-Some.ensures.lookup)) c.in-Some.ensures.lookup.1)
    (ap (λ xs. slice_get xs c.args.number) (sym c.as_slice-2.ensures) ∙ slice_get_read c.as_slice-2.result.now _ c.args.number c.in-Some-get.param.now refl (omega (arith, c.in-Some-get.ensures.lookup)) c.in-Some-get.ensures.lookup.1))

pub returns-in_default-get : goal.returns-in_default-get
returns-in_default-get c =
    sym (param_missing c.args.program.now c.args.method c.args.number c.in-Some.found.now
    (ap (λ xs. slice_get xs c.args.method) (sym c.as_slice.ensures) ∙ slice_get_read c.as_slice.result.now _ c.args.method c.in-Some.found.now refl (omega (arith, c.in-Some.ensures.lookup)) c.in-Some.ensures.lookup.1)
    (ap (λ xs. slice_get xs c.args.number) (sym c.as_slice-2.ensures) ∙ slice_get_past c.as_slice-2.result.now c.args.number (omega (arith, c.in_default-get.ensures.lookup))))

pub returns-in_default : goal.returns-in_default
returns-in_default c =
    sym (param_none c.args.program.now c.args.method c.args.number
    (ap (λ xs. slice_get xs c.args.method) (sym c.as_slice.ensures) ∙ slice_get_past c.as_slice.result.now c.args.method (omega (arith, c.in_default.ensures.lookup))))
