use Rattle.std.proofs.Common.{◌≡◌, suc, ◌+◌, [], ◌∷◌, ◌++◌, codes, decimal, map, length, length-append, arith, rules, ap, sym, ◌∙◌, subst}
use Rattle.ix_store.specs.StoredFacts.{stored}
use Rattle.ix_cert.specs.Lines.{ended}
use Rattle.ix_cert.specs.Reading.{LabelText}
use Rattle.ix_cert.proofs.Bytes.{cancel}
use Rattle.ix_cert.proofs.Parts.{LabelsRead, next_label, label_more, labels_read, map_push}
use Rattle.ix_cert.proofs.reading.read_labels.Goals as goal

pub returns-in_err-label-clause-each : goal.returns-in_err-label-clause-each
returns-in_err-label-clause-each c = λ stores rest counted text ends.
    let next = next_label c.args.slots c.args.fields c.args.count c.args.text.now c.loop-number.number (map stored c.loop-number.stores) c.loop-number.rest.now c.loop-number.invariant.labels c.loop-number-test.true stores rest counted text ends in
    let memory = c.in_err-label.ensures.each next.label next.line in
    search rules

pub returns-in_err-store-clause-each : goal.returns-in_err-store-clause-each
returns-in_err-store-clause-each c = λ stores rest counted text ends.
    let next = next_label c.args.slots c.args.fields c.args.count c.args.text.now c.loop-number.number (map stored c.loop-number.stores) c.loop-number.rest.now c.loop-number.invariant.labels c.loop-number-test.true stores rest counted text ends in
    let same = cancel (ended (codes "label " ++ decimal c.loop-number.number)) c.in_ok-label.label.now next.label (sym c.in_ok-label.ensures.line ∙ next.line) in
    let label = subst (λ xs. LabelText c.args.slots c.args.fields next.store xs next.behind) (sym same) next.is in
    let memory = c.in_err-store.ensures.each next.store next.behind label next.ends in
    search rules

pub loop-number-preserved : goal.loop-number-preserved
loop-number-preserved c =
    let number = c.loop-number.number in
    let more = label_more c.args.slots c.args.fields c.args.count c.args.text.now number (map stored c.loop-number.stores) c.loop-number.rest.now c.in_ok-label.label.now (stored c.in_ok-store.store) c.in_ok-store.later.now c.loop-number.invariant.labels c.loop-number-test.true c.in_ok-label.ensures.line c.in_ok-store.ensures.label (λ other rest label ends. c.in_ok-store.ensures.each other rest label ends) in
    let next : suc number ≡ number + 1 = omega arith in
    let all = sym (map_push stored c.loop-number.stores c.in_ok-store.store) ∙ ap (map stored) (sym c.in_ok-push.ensures.added) in
    record {
      counted = ap length c.in_ok-push.ensures.added ∙ (length-append c.loop-number.stores (c.in_ok-store.store ∷ []) ∙ ap (λ n. n + 1) c.loop-number.invariant.counted);
      labels = subst (λ n. LabelsRead c.args.slots c.args.fields c.args.count c.args.text.now n (map stored c.push.new.self) c.in_ok-store.later.now) next (subst (λ ss. LabelsRead c.args.slots c.args.fields c.args.count c.args.text.now (suc number) ss c.in_ok-store.later.now) all more);
    }

pub returns-clause-labels : goal.returns-clause-labels
returns-clause-labels c =
    let all : c.loop-number.number ≡ c.args.count = omega arith in
    labels_read c.args.slots c.args.fields c.args.count c.args.text.now (map stored c.loop-number.stores) c.loop-number.rest.now
    (subst (λ n. LabelsRead c.args.slots c.args.fields c.args.count c.args.text.now n (map stored c.loop-number.stores) c.loop-number.rest.now) all c.loop-number.invariant.labels)
