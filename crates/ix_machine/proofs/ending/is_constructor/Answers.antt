use Rattle.std.proofs.Common.{refl, arith, ap, sym, ◌∙◌, slice_get, Option, unwrap_or}
use Rattle.std.proofs.lemmas.Option.{slice_get_read, slice_get_past}
use Rattle.ix_core.specs.declared.program.Method.{Method}
use Rattle.ix_core.specs.Tables.{no_method}
use Rattle.ix_machine.proofs.ending.is_constructor.Goals as goal

pub returns-in-Some : goal.returns-in-Some
returns-in-Some c =
    sym (ap (λ (found : Option Method). (unwrap_or found no_method).constructor)
    (ap (λ xs. slice_get xs c.args.method) (sym c.as_slice.ensures) ∙ slice_get_read c.as_slice.result.now _ c.args.method c.in-Some.found.now refl (omega (arith, c.in-Some.ensures.lookup)) c.in-Some.ensures.lookup.1))

pub returns-in-None : goal.returns-in-None
returns-in-None c =
    sym (ap (λ (found : Option Method). (unwrap_or found no_method).constructor)
    (ap (λ xs. slice_get xs c.args.method) (sym c.as_slice.ensures) ∙ slice_get_past c.as_slice.result.now c.args.method (omega (arith, c.in-None.ensures.lookup))))
