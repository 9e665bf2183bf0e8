use Rattle.std.proofs.Common.{◌≡◌, ◌<◌, ◌+◌, ◌++◌, ◌∷◌, [], length, get_or, take, false, true, arith, refl, ap, ◌∙◌}
use Rattle.std.proofs.lemmas.List.{take_more}
use Rattle.std.proofs.lemmas.Option.{slice_get_read, get_or_from_slice_get}
use Rattle.ix_solve.specs.Waiting.{how_many}
use Rattle.ix_solve.proofs.WaitingNodes.{how_many-push}
use Rattle.ix_solve.proofs.worklist.Worklist.any.Goals as goal

pub loop-node-preserved : goal.loop-node-preserved
loop-node-preserved c =
    let marks = c.self.inside.is_waiting.items in
    let node = c.loop-node.node in
    let within : node < length marks = omega (arith, c.loop-node-test.true, c.len-node-end.ensures) in
    let read = slice_get_read marks (length marks) node c.index.result.now refl within c.index.ensures in
    let off : get_or marks node true ≡ false = get_or_from_slice_get marks node c.index.result.now true read ∙ c.if-index.false in
    let more : how_many (take (node + 1) marks) ≡ 0 =
    ap how_many (take_more marks node true within) ∙ ap (λ waits. how_many (take node marks ++ waits ∷ [])) off ∙ how_many-push (take node marks) ∙ c.loop-node.invariant in
    more
