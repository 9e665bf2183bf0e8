use Rattle.std.proofs.Common.{arith, ap, subst, sym, ◌∙◌, ◌∷◌}
use Rattle.ix_machine_state.specs.declared.frames.Frame.{Frame}
use Rattle.ix_machine_state.specs.Frames.{frame_of}
use Rattle.ix_machine_state.specs.Waiting.{HasRoom, waits_of}
use Rattle.ix_machine_state.proofs.Rooms.{last_waiting, more_frames, waits-snoc}
use Rattle.ix_machine_state.proofs.pool.Pool.leave.Goals as goal

pub invariant_of-self-2 : goal.invariant_of-self-2
invariant_of-self-2 c =
    let fit = last_waiting c.args.self.now.room c.args.self.now.below.items c.take_last.new.values.items c.in-Some.waiting c.in-Some.ensures.items c.args.self.now.below_fit in
    record {
      spare_fit = more_frames c.args.self.now.room c.push_reserved.new.self.items c.args.self.now.spare.items _ c.push_reserved.ensures.items c.args.self.now.spare_fit (subst (λ frame. HasRoom c.args.self.now.room frame) (sym c.replace-ended.ensures.value) c.requires);
      below_fit = fit.0;
      count = omega (arith, c.args.self.now.count, c.push_reserved.ensures.len, c.in-Some.ensures.len);
      below_room = omega (arith, c.args.self.now.below_room, c.take_last.ensures.room);
      spare_room = omega (arith, c.args.self.now.spare_room, c.push_reserved.ensures.capacity);
    }

pub returns-clause-fits : goal.returns-clause-fits
returns-clause-fits c =
    let fit = last_waiting c.args.self.now.room c.args.self.now.below.items c.take_last.new.values.items c.in-Some.waiting c.in-Some.ensures.items c.args.self.now.below_fit in
    subst (λ frame. HasRoom c.args.self.now.room frame) (sym c.replace-ended.ensures.after) fit.1

pub returns-clause-below : goal.returns-clause-below
returns-clause-below c =
    waits-snoc _ _ c.in-Some.waiting c.in-Some.ensures.items
    ∙ ap (λ (frame : Frame). record { frame = frame_of frame; target = c.in-Some.waiting.target } ∷ waits_of c.take_last.new.values.items) (sym c.replace-ended.ensures.after)
