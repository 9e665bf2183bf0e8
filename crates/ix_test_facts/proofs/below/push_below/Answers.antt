use Rattle.std.specs.Prelude.{filter}
use Rattle.std.proofs.Common.{◌++◌, ap, ◌∙◌}
use Rattle.std.proofs.lemmas.Result.{on_ok_weaker}
use Rattle.ix_facts.specs.Facts.{in_orders}
use Rattle.ix_test_facts.specs.OverGroups as over
use Rattle.ix_test_facts.proofs.OwnAmong.{ordered_read}
use Rattle.ix_test_facts.proofs.below.push_below.Goals as goal

pub returns : goal.returns
returns g c =
    let facts = in_orders (g.K.Know.known c.args.know.now) in
    let on = g.K.Indexed.on_path c.args.know.now in
    let p = c.args.p.now in
    let q = c.args.q.now in
    let k = c.args.k.now in
    let read_p = c.deref.ensures.value ∙ c.in_ok-on_p.ensures ∙ ap (filter (over.is_read_below p)) c.on.ensures.facts in
    let read_q = c.deref-2.ensures.value ∙ c.in_ok-on_q.ensures ∙ ap (filter (over.is_read_above q)) c.on-2.ensures.facts in
    let read = ap (λ l. c.args.out.now.items ++ l) (ordered_read facts _ _ (filter (over.is_read_below p) (on p)) (filter (over.is_read_above q) (on q)) p q k read_p read_q) in
    on_ok_weaker c.push_read.result (λ e. e ∙ read) c.push_read.ensures
