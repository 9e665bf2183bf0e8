use Rattle.std.specs.Prelude.{◌∷◌, ◌++◌}
use Rattle.ix_cert.specs.Lines.{path_text}
use Rattle.ix_cert.proofs.FirstWords.{some_Sum}
use Rattle.ix_cert.proofs.words.sum.Goals as goal

pub returns : goal.returns
returns c = λ t y z small e.
    let one = c.in_ok-t.ensures t (path_text y ++ 32 ∷ path_text z) small.0 e in
    let two = c.in_ok-y.ensures y z small.1 small.2 one.1 in
    some_Sum t _ y _ z _ one.0 two.0 two.1
