use Rattle.std.specs.Prelude.{string_bytes}
use Rattle.std.proofs.Common.{map, sym, subst}
use Rattle.std.proofs.lemmas.Result.{on_ok_weaker}
use Rattle.ix_cert.specs.Lines.{AreLinesOf}
use Rattle.ix_cert.proofs.lines.add_lines.Goals as goal

pub returns : goal.returns
returns c =
    on_ok_weaker c.add_each.result
    (λ added. record {
      lines = map string_bytes c.as_slice.result.now;
      own = subst (λ xs. AreLinesOf c.args.facts.now (map string_bytes xs)) (sym c.as_slice.ensures.value) c.in_ok-lines.ensures;
      added = added;
    })
    c.add_each.ensures
