use Rattle.std.proofs.Common.{get_or, slice_get, ◌≡◌, ◌+◌, ◌<◌, [], All, length, arith, refl, sym, ap, subst, ◌∙◌}
use Rattle.std.proofs.lemmas.List.{length_push}
use Rattle.std.proofs.lemmas.List.Elements.{All-push}
use Rattle.std.proofs.lemmas.Option.{slice_get-get_or, slice_get_within}
use Rattle.ix_labels.specs.Runs.{ReadsThrough, readers_through}
use Rattle.ix_labels.proofs.KeptNodes.{ThroughTo, through_next, through_pushed}
use Rattle.ix_labels.proofs.runs.runs_in.Goals as goal

pub loop-at-init : goal.loop-at-init
loop-at-init c =
    let kept = c.in_ok-kept.kept.items in
    subst (λ rows. (length (readers_through rows) ≡ 0) × All (All (λ reader. reader < length c.args.nodes.now)) (readers_through rows) × ThroughTo c.args.nodes.now kept (readers_through rows)) (sym c.new-readers.ensures.items)
    (refl, (λ k d within. absurd (omega (arith, within))), (λ at node by found at_by. absurd (let within = slice_get_within [] at by at_by in omega (arith, within))))

pub readers_of-requires : goal.readers_of-requires
readers_of-requires c =
    let nodes = c.args.nodes.now in
    let all = c.in_ok-kept.ensures.many in
    let there = slice_get-get_or nodes c.loop-at.at c.index-nodes-at.result c.loop-at-test.true in
    let node = get_or nodes c.loop-at.at c.index-nodes-at.result in
    let kept_is = c.as_slice.ensures.value in
    let readers_are = c.as_slice-in-loop-at.ensures.value in
    record {
      all = ap length kept_is ∙ all;
      linked = c.requires;
      node = let n = ap length kept_is in omega (arith, c.loop-at-test.true, all, n);
      readers = subst (λ ks. All (λ reader. reader < length ks) c.as_slice-in-loop-at.result.now) (sym kept_is)
          (subst (λ rs. All (λ reader. reader < length c.in_ok-kept.kept.items) rs) (sym readers_are) (subst (λ n. All (λ reader. reader < n) node.readers.items) (sym all) (c.requires c.loop-at.at node there)));
    }

pub loop-at-preserved : goal.loop-at-preserved
loop-at-preserved c =
    let nodes = c.args.nodes.now in
    let kept = c.in_ok-kept.kept.items in
    let at = c.loop-at.at in
    let rows = c.loop-at.readers.items in
    let row = c.in_ok-readers_of.field-0 in
    let all = c.in_ok-kept.ensures.many in
    let more = through_pushed rows c.push.new.self.items row c.in_ok-push.ensures.items in
    let many = c.loop-at.invariant.0 in
    let count = length_push (readers_through rows) row.items in
    let there = slice_get-get_or nodes at c.index-nodes-at.result c.loop-at-test.true in
    let node = get_or nodes at c.index-nodes-at.result in
    let within = subst (λ n. All (λ reader. reader < n) row.items) (ap length c.as_slice.ensures.value ∙ all) c.in_ok-readers_of.ensures.within in
    let through = subst (λ ks. ReadsThrough nodes ks at node.readers.items row.items) c.as_slice.ensures.value (subst (λ rs. ReadsThrough nodes c.as_slice.result.now at rs row.items) c.as_slice-in-loop-at.ensures.value c.in_ok-readers_of.ensures.through) in
    subst (λ rs. (length rs ≡ at + 1) × All (All (λ reader. reader < length nodes)) rs × ThroughTo nodes kept rs) (sym more) (
      omega (arith, many, count),
      All-push (All (λ reader. reader < length nodes)) (readers_through rows) row.items c.loop-at.invariant.1 within,
      through_next nodes kept (readers_through rows) node row.items c.loop-at.invariant.2 (ap (slice_get nodes) many ∙ there)
          (subst (λ k. ReadsThrough nodes kept k node.readers.items row.items) (sym many) through),
    )
