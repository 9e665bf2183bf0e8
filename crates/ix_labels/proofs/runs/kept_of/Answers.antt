use Rattle.std.proofs.Common.{◌≡◌, ◌∷◌, [], ◌++◌, length, arith, sym, ap, subst, ◌∙◌}
use Rattle.std.proofs.lemmas.List.{length_push}
use Rattle.ix_labels.specs.Runs.{PassesAt, ArePassed, AreKept}
use Rattle.ix_labels.proofs.KeptNodes.{passed_next, kept_next}
use Rattle.ix_labels.proofs.runs.kept_of.Goals as goal

pub is_kept-here-requires : goal.is_kept-here-requires
is_kept-here-requires c = record { node = c.loop-at-test.true; kept = ap length c.as_slice.ensures.value ∙ c.loop-at.invariant.0 }

pub loop-at-preserved : goal.loop-at-preserved
loop-at-preserved c =
    let nodes = c.args.nodes.now in
    let kept = c.loop-at.kept.items in
    let here = c.is_kept-here.result in
    let many = c.loop-at.invariant.0 in
    let items : c.push.new.self.items ≡ kept ++ here ∷ [] = c.in_ok-push.ensures.items in
    let count = length_push kept here in
    let longer = ap length items in (
      omega (arith, many, longer, count),
      subst (ArePassed nodes) (sym items)
          (passed_next nodes kept here c.loop-at.invariant.1 (λ fails. subst (PassesAt nodes) (sym many) (c.is_kept-here.ensures.passed fails))),
      λ all. subst AreKept (sym items) (kept_next kept here (c.loop-at.invariant.2 all) (c.is_kept-here.ensures.all all)),
    )
