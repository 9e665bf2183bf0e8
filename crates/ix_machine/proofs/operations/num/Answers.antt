use mir.Val.{SFits}
use mir.Syntax.{w32, w128}
use Rattle.std.proofs.lemmas.Int.{to_z-of_z}
use Rattle.std.proofs.Common.{rules, ap, sym, ◌∙◌, ◌≡◌, Some}
use Rattle.ix_num.specs.Arithmetic.{exact_of}
use Rattle.ix_core.specs.Machine.{assign_result, int_at}
use Rattle.ix_machine_state.specs.Frames.{slots_of}
use Rattle.ix_machine.proofs.operations.num.Goals as goal

pub returns-in-Some-exact : goal.returns-in-Some-exact
returns-in-Some-exact c = record {
  done = λ limits tables heap.
      let one : SFits w32 c.int_in-x.result = search rules in
      let two : SFits w32 c.int_in-y.result = search rules in
      let both : SFits w128 c.in-Some-exact.exact = search rules in
      let found : exact_of c.args.arith c.int_in-x.result c.int_in-y.result ≡ Some c.in-Some-exact.exact = sym (simp to_z-of_z at c.in-Some-exact.ensures.value) in
      let is : exact_of c.args.arith (int_at (slots_of c.args.frame.now) c.args.left) (int_at (slots_of c.args.frame.now) c.args.right) ≡ Some c.in-Some-exact.exact =
      sym (ap (λ x. exact_of c.args.arith x (int_at (slots_of c.args.frame.now) c.args.right)) c.int_in-x.ensures)
      ∙ (sym (ap (exact_of c.args.arith c.int_in-x.result) c.int_in-y.ensures) ∙ found) in
      ap (assign_result limits tables c.args.place (slots_of c.args.frame.now) heap c.args.target) is ∙ (simp to_z-of_z at c.keep.ensures.done limits tables c.args.place heap);
  printed = c.keep.ensures.printed;
  stopped = c.keep.ensures.stopped;
  method = c.keep.ensures.method;
  stack = c.keep.ensures.stack;
}
