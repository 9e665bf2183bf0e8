use Rattle.std.proofs.Common.{◌≡◌, ◌++◌, sym, subst}
use Rattle.std.specs.Prelude.{OnOk, ◌+◌, ◌<◌, ◌^◌, length}
use Rattle.ix_store.specs.StoredFacts.{stored}
use Rattle.ix_core.specs.Tables.{method_at}
use Rattle.ix_signatures.specs.Naming.{AreSmallParams}
use Rattle.ix_errors.specs.Refusals.{argument_refusals}
use Rattle.ix_signatures.specs.SignErrors.{ArgumentClaim}
use Rattle.ix_errors.proofs.Refused.{ok_adds, arguments_are}
use Rattle.ix_errors.proofs.call_errors.push_argument_errors.Goals as goal

pub push_arguments-requires : goal.push_arguments-requires
push_arguments-requires c =
    let small = c.requires.small.methods c.args.call.now.method in
    record { few = subst (λ l. length l + 1 < 2 ^ 32) (sym c.params_of.ensures) small.few; small = subst AreSmallParams (sym c.params_of.ensures) small.params }

pub returns : goal.returns
returns c =
    let program = c.args.program.now in
    let call = c.args.call.now in
    let store = stored c.args.store.now in
    record {
      errors = ok_adds (ArgumentClaim program call store) c.args.out.now.items c.push_arguments.new.out.items (argument_refusals store call 0 (method_at program call.method).params call.args) c.push_arguments.result
          (subst (λ l. OnOk c.push_arguments.result (c.push_arguments.new.out.items ≡ c.args.out.now.items ++ argument_refusals store call 0 l call.args)) c.params_of.ensures c.push_arguments.ensures) (arguments_are program call store);
    }
