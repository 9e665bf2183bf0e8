use Rattle.std.proofs.Common.{◌++◌, drop, arith}
use Rattle.ix_store.specs.StoredFacts.{stored}
use Rattle.ix_errors.specs.Refusals.{argument_refusals}
use Rattle.ix_errors.proofs.Refused.{arguments_past, ended}
use Rattle.ix_errors.proofs.call_errors.push_arguments.Goals as goal

pub returns : goal.returns
returns c =
    let store = stored c.args.store.now in
    let call = c.args.call.now in
    let k = c.loop-number.number in
    let params = c.args.params.now in
    let args = c.as_slice-args.result.now in
    ended c.loop-number.out.items (argument_refusals store call k (drop k params) (drop k args)) (c.args.out.now.items ++ argument_refusals store call 0 params call.args)
    (arguments_past store call k k params args (omega (arith, c.min-number-end.ensures, c.loop-number-test.false))) c.loop-number.invariant
