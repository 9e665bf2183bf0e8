use Rattle.std.proofs.Common.{◌≡◌, suc, ◌+◌, map, arith, subst}
use Rattle.std.specs.Prelude.{string_bytes}
use Rattle.ix_store.specs.StoredFacts.{stored}
use Rattle.ix_cert.proofs.Parts.{LabelsSoFar, one_label, at_map}
use Rattle.ix_cert.proofs.printing.add_labels.Goals as goal

pub loop-number-preserved : goal.loop-number-preserved
loop-number-preserved c =
    let stores = c.args.stores.now in
    let number = c.loop-number.number in
    let store = c.index-stores-number.result in
    let at = at_map stored stores number store c.loop-number-test.true c.index-stores-number.is in
    let next : suc number ≡ number + 1 = omega arith in
    subst (λ n. LabelsSoFar (map stored stores) n (string_bytes c.args.text.now) (string_bytes c.add_label.new.text)) next
    (one_label (map stored stores) number (stored store) (string_bytes c.args.text.now) (string_bytes c.loop-number.text) (string_bytes c.add_label.new.text) c.loop-number.invariant at c.in_ok-add_label.ensures)
