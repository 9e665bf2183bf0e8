use Rattle.std.proofs.Common.{◌≡◌, ◌<◌, suc, ◌+◌, map, length, arith, subst}
use Rattle.std.specs.Prelude.{string_bytes}
use Rattle.ix_store.specs.StoredFacts.{stored}
use Rattle.ix_cert.specs.Adding.{Adds, IsMethodText}
use Rattle.ix_cert.proofs.Parts.{MethodsSoFar, one_method, at_map, at_drop}
use Rattle.ix_cert.proofs.printing.add_methods.Goals as goal

pub loop-number-preserved : goal.loop-number-preserved
loop-number-preserved c =
    let methods = c.args.methods.now in
    let labels = c.args.labels.now in
    let number = c.loop-number.number in
    let method = c.index-methods-number.result in
    let stores = c.index-labels-number.result in
    let old = string_bytes c.args.text.now in
    let between = string_bytes c.loop-number.text in
    let new = string_bytes c.add_method.new.text in
    let below : number < length labels = omega arith in
    let at = at_drop methods number method c.loop-number-test.true c.index-methods-number.is in
    let beside = at_map (map stored) labels number stores below c.index-labels-number.is in
    let adds = subst (λ ss. Adds (IsMethodText number method (map stored ss)) between new) c.as_slice.ensures c.in_ok-add_method.ensures in
    let next : suc number ≡ number + 1 = omega arith in
    subst (λ n. MethodsSoFar methods (map (map stored) labels) n old new) next
    (one_method methods (map (map stored) labels) number method (map stored stores) old between new c.loop-number.invariant at beside adds)
