use Rattle.std.specs.Prelude.{◌∷◌, ◌++◌}
use Rattle.std.specs.Fmt.{signed_decimal}
use Rattle.ix_cert.specs.Lines.{path_text}
use Rattle.ix_cert.proofs.Bytes.{some_same}
use Rattle.ix_cert.proofs.FirstWords.{some_Less}
use Rattle.ix_cert.proofs.Numbers.{read_w32}
use Rattle.ix_cert.proofs.words.less.Goals as goal

pub returns : goal.returns
returns c = λ p q k small e.
    let one = c.in_ok-p.ensures p (path_text q ++ 32 ∷ signed_decimal k) small.0 e in
    let two = c.in_ok-q.ensures q (signed_decimal k) small.1 one.1 in
    let same = some_same c.in_ok-constant.field-0 k (c.in_ok-constant.ensures k small.2 two.1) in
    some_Less p _ q _ k _ one.0 two.0 (read_w32 _ k small.2 same)
