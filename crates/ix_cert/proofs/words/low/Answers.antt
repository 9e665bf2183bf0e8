use Rattle.std.specs.Fmt.{signed_decimal}
use Rattle.ix_cert.proofs.Bytes.{some_same}
use Rattle.ix_cert.proofs.FirstWords.{some_Low}
use Rattle.ix_cert.proofs.Numbers.{read_w32}
use Rattle.ix_cert.proofs.words.low.Goals as goal

pub returns : goal.returns
returns c = λ p k small e.
    let one = c.in_ok-p.ensures p (signed_decimal k) small.0 e in
    let same = some_same c.in_ok-constant.field-0 k (c.in_ok-constant.ensures k small.1 one.1) in
    some_Low p _ k _ one.0 (read_w32 _ k small.1 same)
