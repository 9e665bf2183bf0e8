-- Where a call stops the run for want of room.
use Rattle.std.proofs.Common.{◌≡◌, ◌<◌, ◌+◌, ℕ, Bool, true, false, if◌then◌else◌, Option, Some, length, ap, sym, ◌∙◌}
use borrow.Author.Tests.{lt-ltb}
use Rattle.ix_core.specs.declared.op.CallOp.{CallOp}
use Rattle.ix_core.specs.Machine.{CallKind, State, HeapFull, FrameFull, with_limits, called, entered, is_past, lacks_cells, stopped}
use Rattle.ix_core.specs.Tables.{Tables}
use Rattle.ix_core.specs.Tasks.{Tasks}

module _ (cells frames : ℕ) (tables : Tables) (kind : CallKind) (call : CallOp) (place : ℕ) (left : Tasks) (state : State) (found : Option ℕ) (method : ℕ) (is : Some method ≡ found) where
  abbrev where_frames : Bool → State
  where_frames past = if past then stopped (FrameFull place) state else entered tables kind call method left state

  abbrev where_cells : Bool → State
  where_cells lacks = if lacks then stopped (HeapFull place) state else where_frames (is_past (Some frames) (length state.below + 2))

  pub heap_full : lacks_cells (with_limits cells frames) tables kind state.heap ≡ true → called (with_limits cells frames) tables kind call place left state found ≡ stopped (HeapFull place) state
  heap_full lacks = ap (called (with_limits cells frames) tables kind call place left state) (sym is) ∙ ap where_cells lacks

  pub frame_full : lacks_cells (with_limits cells frames) tables kind state.heap ≡ false → frames < length state.below + 2 → called (with_limits cells frames) tables kind call place left state found ≡ stopped (FrameFull place) state
  frame_full has past = ap (called (with_limits cells frames) tables kind call place left state) (sym is) ∙ (ap where_cells has ∙ ap where_frames (lt-ltb _ _ past))
