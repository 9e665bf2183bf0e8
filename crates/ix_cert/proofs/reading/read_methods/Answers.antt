use Rattle.std.proofs.Common.{◌≡◌, suc, ◌+◌, map, arith, ap, sym, ◌∙◌, subst}
use Rattle.ix_store.specs.StoredFacts.{stored}
use Rattle.ix_cert.proofs.Found.{err_memory}
use Rattle.ix_cert.proofs.Parts.{MethodsRead, at_drop, drop_whole, map_push, method_more, methods_read, next_method}
use Rattle.ix_cert.proofs.reading.read_methods.Goals as goal

pub returns-in_err-stores-clause-each : goal.returns-in_err-stores-clause-each
returns-in_err-stores-clause-each c = λ labels rest text ends.
    let methods = c.args.methods.now in
    let number = c.loop-number.number in
    let method = c.index-methods-number.result in
    let at = at_drop methods number method c.loop-number-test.true c.index-methods-number.is in
    let next = next_method c.args.fields methods c.args.text.now number (map (map stored) c.loop-number.labels) c.loop-number.rest.now method c.loop-number.invariant at labels rest text ends in
    let memory = c.in_err-stores.ensures.each next.stores next.behind next.is next.ends in
    err_memory c.from_residual.result c.in_err-stores.field-0.0 (λ parts. parts.1.now ≡ rest) c.from_residual.ensures.1 memory

pub loop-number-preserved : goal.loop-number-preserved
loop-number-preserved c =
    let methods = c.args.methods.now in
    let number = c.loop-number.number in
    let method = c.index-methods-number.result in
    let at = at_drop methods number method c.loop-number-test.true c.index-methods-number.is in
    let more = method_more c.args.fields methods c.args.text.now number (map (map stored) c.loop-number.labels) c.loop-number.rest.now method (map stored c.in_ok-stores.stores) c.in_ok-stores.later.now c.loop-number.invariant at c.in_ok-stores.ensures.method (λ other rest is ends. c.in_ok-stores.ensures.each other rest is ends) in
    let next : suc number ≡ number + 1 = omega arith in
    let all = sym (map_push (map stored) c.loop-number.labels c.in_ok-stores.stores) ∙ ap (map (map stored)) (sym c.in_ok-push.ensures.added) in
    subst (λ n. MethodsRead c.args.fields methods c.args.text.now n (map (map stored) c.push.new.self) c.in_ok-stores.later.now) next
    (subst (λ ls. MethodsRead c.args.fields methods c.args.text.now (suc number) ls c.in_ok-stores.later.now) all more)

pub returns-clause-methods : goal.returns-clause-methods
returns-clause-methods c =
    methods_read c.args.fields c.args.methods.now c.args.text.now c.loop-number.number (map (map stored) c.loop-number.labels) c.loop-number.rest.now c.loop-number.invariant
    (drop_whole c.args.methods.now c.loop-number.number c.loop-number-test.false)
