use Rattle.std.specs.Prelude.{◌⊎◌, OnOk}
use Rattle.std.proofs.Common.{subst}
use Rattle.ix_store.specs.StoredFacts.{stored}
use Rattle.ix_errors.specs.Exactly.{AddsExactly}
use Rattle.ix_signatures.specs.SignErrors.{part}
use Rattle.ix_errors.proofs.Refused.{adds_both}
use Rattle.ix_text.proofs.Chained.{both_ok}
use Rattle.ix_sign.specs.RuleErrors.{AccessLow, AccessHigh, ElementClaim}
use Rattle.ix_errors.proofs.op_errors.push_store_errors.Goals as goal

pub returns : goal.returns
returns c =
    let store = stored c.args.store.now in
    let done = c.args.done.now in
    let low = AccessLow c.args.index done.span store in
    let high = AccessHigh c.args.array c.args.index done.span store in
    let element = ElementClaim c.args.ty.now c.args.value (part done 0) store in
    let first = c.push_low_error.new.out.items in
    let second = c.push_high_error.new.out.items in
    let last = c.push_element_errors.new.out.items in
    let r = c.push_element_errors.result in
    let stored_by : OnOk r (AddsExactly element second last) =
    subst (λ place. OnOk r (AddsExactly (ElementClaim c.args.ty.now c.args.value place store) second last)) c.part.ensures c.push_element_errors.ensures.errors in
    both_ok c.and.result r c.and-2.result _ _ _ c.and-2.ensures
    (both_ok c.push_low_error.result c.push_high_error.result c.and.result _ _ (AddsExactly low c.args.out.now.items first × AddsExactly high first second) c.and.ensures c.push_low_error.ensures c.push_high_error.ensures (λ one two. (one, two)))
    stored_by (λ both three. adds_both low (λ error rank. high error rank ⊎ element error rank) c.args.out.now.items first last both.0 (adds_both high element first second last both.1 three))
