use Rattle.std.proofs.Common.{◌≡◌, ◌++◌, ap, sym, ◌∙◌, subst}
use Rattle.ix_facts.specs.Closure.{kept}
use Rattle.ix_facts.specs.Facts.{in_orders}
use Rattle.ix_facts.specs.AfterOperation.{copied}
use Rattle.ix_facts.specs.After.{finished_by}
use Rattle.ix_transfer.specs.OverNamed as over
use Rattle.ix_facts.specs.SameFacts.{AreSame}
use Rattle.ix_transfer.proofs.AfterIs.{copy_is}
use Rattle.ix_transfer.proofs.new_facts.facts_of_copy.Goals as goal

pub returns : goal.returns
returns g c =
    let know = c.args.know.now in
    let ty = c.args.ty.now in
    let t = c.args.target.now in
    let s = c.args.source.now in
    let facts = in_orders (g.K.Know.known know) in
    let on = g.K.Indexed.on_path know in
    let ints = g.K.Know.int_paths know in
    let arrays = g.K.Know.array_paths know in
    let new = c.push_copied.new.out.items in
    let more = c.push_finished_by.new.out.items in
    let e : new ≡ kept (copied (on s) ty t s) =
    c.in_ok-push_copied.ensures ∙ (ap (λ l. l ++ kept (copied c.on.result.now ty t s)) c.in_ok-new.ensures.items ∙ ap (λ l. kept (copied l ty t s)) c.on.ensures.facts) in
    let d : more ≡ kept (over.finished_by facts on ints arrays new ty t) =
    c.in_ok-push_finished_by.ensures
    ∙ (ap (λ l. l ++ kept (over.finished_by facts on ints arrays c.deref.result.now ty t)) c.in_ok-more.ensures.items
    ∙ ap (λ l. kept (over.finished_by facts on ints arrays l ty t)) c.deref.ensures.value) in
    let both : c.extend_from_slice.new.self.items ≡ new ++ more = c.in_ok-extend_from_slice.ensures.items ∙ ap (λ l. new ++ l) c.deref-2.ensures.value in
    record {
      facts = subst (λ l. AreSame l (kept (copied facts ty t s) ++ kept (finished_by ty facts (kept (copied facts ty t s)) t))) (sym both)
          (copy_is facts on ints arrays (g.met.K.Indexed.each_named know) (g.K.Know.each_int know) (g.K.Know.each_array know) ty t s new more e d);
    }
