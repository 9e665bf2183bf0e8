use Rattle.std.proofs.Common.{arith, ap, subst, sym, ◌∙◌, ◌∷◌}
use Rattle.ix_machine_state.specs.declared.room.Room.{Room}
use Rattle.ix_machine_state.specs.declared.frames.Frame.{Frame}
use Rattle.ix_machine_state.specs.Frames.{frame_of}
use Rattle.ix_machine_state.specs.Waiting.{HasRoom, waits_of}
use Rattle.ix_machine_state.proofs.Rooms.{last_frame, more_waiting, waits-snoc}
use Rattle.ix_machine_state.proofs.pool.Pool.enter.Goals as goal

pub begin-requires-clause-fits : goal.begin-requires-clause-fits
begin-requires-clause-fits c =
    let fit = last_frame c.args.self.now.room c.args.self.now.spare.items c.take_last.new.values.items c.in-Some.callee c.in-Some.ensures.items c.args.self.now.spare_fit in
    record {
      above = omega (arith, fit.1.0, c.requires.fits.above);
      values = omega (arith, fit.1.1, c.requires.fits.values);
    }

pub begin-requires-clause-count : goal.begin-requires-clause-count
begin-requires-clause-count c =
    let fit = last_frame c.args.self.now.room c.args.self.now.spare.items c.take_last.new.values.items c.in-Some.callee c.in-Some.ensures.items c.args.self.now.spare_fit in
    omega (arith, fit.1.1)

pub begin-requires-clause-values : goal.begin-requires-clause-values
begin-requires-clause-values c =
    let fit = last_frame c.args.self.now.room c.args.self.now.spare.items c.take_last.new.values.items c.in-Some.callee c.in-Some.ensures.items c.args.self.now.spare_fit in
    omega (arith, fit.1.1)

pub invariant_of-self : goal.invariant_of-self
invariant_of-self c =
    let fit = last_frame c.args.self.now.room c.args.self.now.spare.items c.take_last.new.values.items c.in-Some.callee c.in-Some.ensures.items c.args.self.now.spare_fit in
    record {
      spare_fit = fit.0;
      below_fit = more_waiting c.args.self.now.room c.push_reserved.new.self.items c.args.self.now.below.items _ c.push_reserved.ensures.items c.args.self.now.below_fit (subst (λ frame. HasRoom c.args.self.now.room frame) (sym c.replace-frame.ensures.value) c.requires.room);
      count = omega (arith, c.args.self.now.count, c.push_reserved.ensures.len, c.in-Some.ensures.len);
      below_room = omega (arith, c.args.self.now.below_room, c.push_reserved.ensures.capacity);
      spare_room = omega (arith, c.args.self.now.spare_room, c.take_last.ensures.room);
    }

pub returns-clause-fits : goal.returns-clause-fits
returns-clause-fits c =
    let fit = last_frame c.args.self.now.room c.args.self.now.spare.items c.take_last.new.values.items c.in-Some.callee c.in-Some.ensures.items c.args.self.now.spare_fit in
    subst (λ frame. HasRoom c.args.self.now.room frame) (sym c.replace-frame.ensures.after)
    (ap (λ (r : Room). r.places) c.begin.ensures.room ∙ fit.1.0, ap (λ (r : Room). r.values) c.begin.ensures.room ∙ fit.1.1)

pub returns-clause-below : goal.returns-clause-below
returns-clause-below c =
    waits-snoc _ _ _ c.push_reserved.ensures.items
    ∙ ap (λ (frame : Frame). record { frame = frame_of frame; target = c.args.target } ∷ waits_of c.args.self.now.below.items) c.replace-frame.ensures.value
