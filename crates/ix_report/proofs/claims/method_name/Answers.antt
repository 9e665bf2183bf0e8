use Rattle.std.proofs.Common.{refl, arith, ap, sym, ◌∙◌, slice_get}
use Rattle.std.proofs.lemmas.Option.{slice_get_read, slice_get_past}
use Rattle.ix_report.proofs.Named.{method_none, method_named}
use Rattle.ix_report.proofs.claims.method_name.Goals as goal

pub returns : goal.returns
returns c =
    c.as_str.ensures ∙ sym (method_named c.args.program.now c.args.number c.in-Some.found.now
    (ap (λ xs. slice_get xs c.args.number) (sym c.as_slice.ensures) ∙ slice_get_read c.as_slice.result.now _ c.args.number c.in-Some.found.now refl (omega (arith, c.in-Some.ensures.lookup)) c.in-Some.ensures.lookup.1))

pub returns-in_default : goal.returns-in_default
returns-in_default c =
    sym (method_none c.args.program.now c.args.number
    (ap (λ xs. slice_get xs c.args.number) (sym c.as_slice.ensures) ∙ slice_get_past c.as_slice.result.now c.args.number (omega (arith, c.in_default.ensures.lookup))))
