use Rattle.std.proofs.Common.{[], ◌∷◌, sym, ◌∙◌}
use Rattle.std.proofs.lemmas.Result.{on_ok_weaker}
use Rattle.ix_fact_paths.specs.ByPath.{at_two}
use Rattle.ix_fact_paths.proofs.Added.{adds_both}
use Rattle.ix_fact_paths.proofs.by_slot.Places.put_three.Goals as goal

pub returns : goal.returns
returns c =
    let p = c.args.p.now in
    let q = c.args.q.now in
    let r = c.args.r.now in
    let fact = c.args.fact.now in
    let no_p = sym c.is_same_path.ensures ∙ c.if-is_same_path.false in
    let no_q = sym c.is_same_path-else-is_same_path.ensures ∙ c.if-is_same_path-2.false in
    on_ok_weaker c.put.result
    (λ put. rw (no_p, no_q) (adds_both c.args.self.now c.put_two.new.self c.put.new.self (at_two p q fact) ((r, fact) ∷ []) c.in_ok-put_two.ensures put)) c.put.ensures
