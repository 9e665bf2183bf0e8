use Rattle.std.proofs.Common.{ap}
use Rattle.ix_core.specs.declared.claim.Type_.{Type_}
use Rattle.ix_core.specs.declared.code.Cond.TheVariants as cond
use Rattle.ix_plain.specs.Parts.{block}
use Rattle.ix_lower_expressions.proofs.expression.compared.Goals as goal

-- By one equation in place of a search, which would take the test apart field by field.
pub returns : goal.returns
returns c =
    ap (λ (ty : Type_). cond.Compare (block c.args.block) (record { rel = c.args.rel; left = c.args.slots.0; right = c.args.slots.1; ty = ty; left_span = c.args.spans.0; right_span = c.args.spans.1 })) c.in_ok-ty.ensures
