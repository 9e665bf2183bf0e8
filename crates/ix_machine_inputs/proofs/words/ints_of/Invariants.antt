use Rattle.std.proofs.Common.{◌≡◌, map, take}
use Rattle.std.specs.Fmt.{signed_decimal}
use Rattle.ix_core.specs.Safe.{AreInts}
use Rattle.ix_machine_inputs.proofs.words.ints_of.Given as goal

abbrev pub invariant-loop-piece : goal.invariant-loop-piece
invariant-loop-piece l = record {
  written : map (λ piece. piece.now) (take l.piece-index l.pieces) ≡ map signed_decimal l.ints;
  ints : AreInts l.ints;
}
