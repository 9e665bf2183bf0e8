use Rattle.std.proofs.Common.{◌<◌, length, get_or, take, sym, subst}
use Rattle.std.proofs.lemmas.List.{take_more}
use Rattle.ix_cert.specs.Reading.{Lacks}
use Rattle.ix_cert.proofs.Bytes.{lacks_push}
use Rattle.ix_cert.proofs.cut.cut.Goals as goal

pub loop-at-preserved : goal.loop-at-preserved
loop-at-preserved c =
    let text = c.args.text.now in
    let at = c.loop-at.at in
    let below : at < length text = c.loop-at-test.true in
    subst (Lacks c.args.byte) (sym (take_more text at 0 below)) (lacks_push c.args.byte (get_or text at 0) (take at text) c.loop-at.invariant c.if-one-byte.false)
