use Rattle.std.proofs.Common.{sym, ◌∙◌}
use Rattle.ix_cert.specs.declared.stop.Stop.TheVariants.{Form, Memory}
use Rattle.std.proofs.Common.{◌≡◌}
use Rattle.ix_cert.proofs.reading.read.Goals as goal

pub returns-in-Err-Form-clause-none : goal.returns-in-Err-Form-clause-none
returns-in-Err-Form-clause-none c = λ profile labels t.
    let memory = c.in-Err-Form.ensures.each profile labels t in
    let both : Form ≡ Memory = sym c.in-Err-Form.field-0-is ∙ memory in
    cc
