use Rattle.std.proofs.Common.{◌≡◌, ◌++◌, ap, sym, ◌∙◌, subst}
use Rattle.ix_facts.specs.Closure.{kept}
use Rattle.ix_facts.specs.Facts.{in_orders}
use Rattle.ix_facts.specs.After.{kept_new, finished}
use Rattle.ix_transfer_rules.specs.OverParts as parts
use Rattle.ix_transfer.specs.OverNamed as over
use Rattle.ix_facts.specs.SameFacts.{AreSame}
use Rattle.ix_transfer.proofs.AfterIs.{after_is}
use Rattle.ix_transfer.proofs.new_facts.facts_after.Goals as goal

pub returns : goal.returns
returns g c =
    let know = c.args.know.now in
    let facts = in_orders (g.K.Know.known know) in
    let on = g.K.Indexed.on_path know in
    let ints = g.K.Know.int_paths know in
    let arrays = g.K.Know.array_paths know in
    let new = c.push_new_facts.new.out.items in
    let more = c.push_finished.new.out.items in
    let e : new ≡ kept (parts.new_facts facts on arrays c.args.profile c.args.kind.now) =
    c.in_ok-push_new_facts.ensures.facts ∙ ap (λ l. l ++ kept (parts.new_facts facts on arrays c.args.profile c.args.kind.now)) c.in_ok-new.ensures.items in
    let d : more ≡ kept (over.finished facts on ints arrays new c.args.kind.now) =
    c.in_ok-push_finished.ensures
    ∙ (ap (λ l. l ++ kept (over.finished facts on ints arrays c.deref.result.now c.args.kind.now)) c.in_ok-more.ensures.items
    ∙ ap (λ l. kept (over.finished facts on ints arrays l c.args.kind.now)) c.deref.ensures.value) in
    let both : c.extend_from_slice.new.self.items ≡ new ++ more = c.in_ok-extend_from_slice.ensures.items ∙ ap (λ l. new ++ l) c.deref-2.ensures.value in
    record {
      facts = subst (λ l. AreSame l (kept_new facts c.args.profile c.args.kind.now ++ kept (finished facts (kept_new facts c.args.profile c.args.kind.now) c.args.kind.now))) (sym both)
          (after_is facts on ints arrays (g.met.K.Indexed.each_named know) (g.K.Know.each_int know) (g.K.Know.each_array know) c.args.profile c.args.kind.now new more e d);
    }
