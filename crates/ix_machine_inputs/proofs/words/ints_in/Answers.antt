use Rattle.std.proofs.Common.{◌∙◌, ap, map, ℕ, List, Bor}
use Rattle.ix_machine_inputs.proofs.Pieces.{all_written, has_some}
use Rattle.ix_machine_inputs.proofs.words.ints_in.Goals as goal

pub returns : goal.returns
returns c = all_written c.args.word.now c.in-Some.inner.now (map (λ (piece : Bor (List ℕ)). piece.now) c.as_slice.result.now) c.ints_of.result c.in-Some.ensures (has_some c.in-Some.inner.now c.if-is_empty.ensures)
    (ap (map (λ (piece : Bor (List ℕ)). piece.now)) c.as_slice.ensures.value ∙ c.in_ok-pieces.ensures) c.ints_of.ensures
