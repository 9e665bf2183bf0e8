use Rattle.std.proofs.Common.{to_z-of_z}
use Rattle.std.proofs.lemmas.Option.{slice_get-get_or}
use Rattle.ix_machine_inputs.proofs.Written.{none_written, more_written, ints_end, fits}
use Rattle.ix_machine_inputs.proofs.words.ints_of.Goals as goal

pub returns-in_default : goal.returns-in_default
returns-in_default c = let told = c.in_ok-n.ensures in let none = rw c.in_default.is at told in
    none_written c.args.pieces.now c.loop-piece.piece-index _ (slice_get-get_or c.args.pieces.now c.loop-piece.piece-index _ c.loop-piece-test.true) none

pub loop-piece-preserved : goal.loop-piece-preserved
loop-piece-preserved c = let told = c.in_ok-n.ensures in let some = rw c.in-Some.is at told in let fit = fits c.in-Some.n some.1 in let added = c.in_ok-push.ensures.added in let shown = simp to_z-of_z at added in
    record {
      written = rw shown (more_written c.args.pieces.now c.loop-piece.piece-index _ c.loop-piece.ints c.in-Some.n (slice_get-get_or c.args.pieces.now c.loop-piece.piece-index _ c.loop-piece-test.true) c.loop-piece.invariant.written some.0);
      ints = rw shown (ints_end c.loop-piece.ints c.in-Some.n c.loop-piece.invariant.ints some.1);
    }
