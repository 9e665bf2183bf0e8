use Rattle.std.specs.Prelude.{◌∷◌, ◌++◌}
use Rattle.std.specs.Fmt.{signed_decimal}
use Rattle.ix_cert.specs.Lines.{path_text}
use Rattle.ix_cert.specs.Reading.{offset_text}
use Rattle.ix_cert.proofs.FirstWords.{some_Upper}
use Rattle.ix_cert.proofs.Numbers.{read_w32}
use Rattle.ix_cert.proofs.words.upper.Goals as goal

pub returns : goal.returns
returns c = λ p a o k small e.
    let one = c.in_ok-p.ensures p (path_text a ++ 32 ∷ (offset_text o ++ 32 ∷ signed_decimal k)) small.0 e in
    let two = c.in_ok-a.ensures a (offset_text o ++ 32 ∷ signed_decimal k) small.1 one.1 in
    let rest = c.in_ok-offset.ensures o k small.2 small.3 two.1 in
    some_Upper p _ a _ o _ k _ one.0 two.0 rest.0 (read_w32 _ k small.3 rest.1)
