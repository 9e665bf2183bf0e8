use Rattle.std.proofs.Common.{arith}
use Rattle.ix_check.proofs.Methods.{no_methods, next_method, next_none, next_visits, no_most, next_most}
use Rattle.ix_check.proofs.program.program_errors.Goals as goal

pub loop-number-init : goal.loop-number-init
loop-number-init g c = (no_methods c.args.program.now c.args.profile _ c.new-out.ensures.items, λ _ number within. absurd (omega (arith, within)), omega arith, no_most c.args.program.now c.args.profile _)

pub loop-number-preserved : goal.loop-number-preserved
loop-number-preserved g c =
    let program = c.args.program.now in
    let profile = c.args.profile in
    let added = c.in_ok-push_method_errors.ensures.errors in (
      next_method program profile c.loop-number.number c.loop-number.out.items c.push_method_errors.new.out.items c.loop-number.invariant.0 added,
      next_none program profile c.loop-number.number c.loop-number.out.items c.push_method_errors.new.out.items c.loop-number.invariant.1 added c.in_ok-push_method_errors.ensures.none,
      next_visits program profile c.loop-number.number _ _ _ c.loop-number.invariant.2 c.in_ok-push_method_errors.ensures.at_least,
      next_most program profile c.loop-number.number _ _ _ c.loop-number.invariant.3 c.in_ok-push_method_errors.ensures.at_most,
    )
