use Rattle.std.specs.Prelude.{◌≡◌, ◌++◌, OnOk}
use Rattle.std.proofs.Common.{subst}
use Rattle.ix_core.specs.declared.error.Subject.TheVariants.{Element}
use Rattle.ix_store.specs.StoredFacts.{stored}
use Rattle.ix_errors.specs.Refusals.{refusals}
use Rattle.ix_errors.proofs.Refused.{ok_adds}
use Rattle.ix_errors.specs.Lists.{fresh_refusals, zero_fails}
use Rattle.ix_sign.specs.RuleErrors.{FreshElement}
use Rattle.ix_errors.proofs.Listed.{zeros_are}
use Rattle.ix_errors.proofs.accesses.push_fresh_errors.Goals as goal

pub returns : goal.returns
returns c =
    let store = stored c.args.store.now in
    let ty = c.args.ty.now in
    let old = c.args.out.now.items in
    let new = c.push_refused_zeros.new.out.items in
    let added : OnOk c.push_refused_zeros.result (new ≡ old ++ fresh_refusals store ty c.args.size c.args.place) =
    subst (λ l. OnOk c.push_refused_zeros.result (new ≡ old ++ refusals (zero_fails store c.args.size) 16 c.args.place Element 0 l)) c.loaded_claims.ensures c.push_refused_zeros.ensures in
    ok_adds (FreshElement ty c.args.size c.args.place store) old new (fresh_refusals store ty c.args.size c.args.place) c.push_refused_zeros.result added (zeros_are store ty c.args.size c.args.place)
