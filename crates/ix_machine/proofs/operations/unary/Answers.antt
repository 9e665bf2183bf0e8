use Rattle.std.proofs.Common.{rules, ap, sym, ◌∙◌}
use mir.Val.{SFits}
use mir.Syntax.{w128}
use Rattle.std.proofs.lemmas.Int.{to_z-of_z}
use Rattle.ix_core.specs.Machine.{assign_int}
use Rattle.ix_machine_state.specs.Frames.{slots_of}
use Rattle.ix_machine.proofs.operations.unary.Goals as goal

pub returns : goal.returns
returns c = record {
  done = λ limits tables place heap.
      let f : SFits w128 c.exact_unary-exact.result = search rules in
      ap (assign_int limits tables place (slots_of c.args.frame.now) heap c.args.target) (sym c.exact_unary-exact.ensures) ∙ (simp to_z-of_z at c.keep.ensures.done limits tables place heap);
  printed = c.keep.ensures.printed;
  stopped = c.keep.ensures.stopped;
  method = c.keep.ensures.method;
  stack = c.keep.ensures.stack;
}
