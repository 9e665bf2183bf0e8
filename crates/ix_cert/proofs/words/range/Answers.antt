use Rattle.std.specs.Prelude.{◌∷◌, ◌++◌}
use Rattle.std.specs.Fmt.{signed_decimal}
use Rattle.ix_cert.proofs.FirstWords.{some_Rng}
use Rattle.ix_cert.proofs.Numbers.{read_w64}
use Rattle.ix_cert.proofs.words.range.Goals as goal

pub returns : goal.returns
returns c = λ p l h small e.
    let one = c.in_ok-p.ensures p (signed_decimal l ++ 32 ∷ signed_decimal h) small.0 e in
    let ends = c.in_ok-low.ensures l h small.1 small.2 one.1 in
    some_Rng p _ l _ h _ one.0 (read_w64 _ l small.1 ends.0) (read_w64 _ h small.2 ends.1)
