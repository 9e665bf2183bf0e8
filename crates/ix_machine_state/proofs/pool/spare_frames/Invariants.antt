use Rattle.std.proofs.Common.{◌≡◌, ◌≤◌, ◌+◌, vec_len, vec_capacity}
use Rattle.ix_machine_state.specs.Waiting.{AllHaveRoom}
use Rattle.ix_machine_state.proofs.pool.spare_frames.Given as goal

abbrev pub invariant-loop-made : goal.invariant-loop-made
invariant-loop-made l = record {
  fit : AllHaveRoom l.room l.frames.items;
  len : vec_len l.frames ≡ l.made;
  memory : l.count + 1 ≤ vec_capacity l.frames;
}
