use Rattle.std.proofs.Common.{drop}
use Rattle.ix_core.specs.Code.{items_code}
use Rattle.ix_graph.specs.Built.{made_of, source_of}
use Rattle.ix_graph.proofs.Makes.{MakesSome}
use Rattle.ix_graph.proofs.builder.Builder.+build.Given as goal

abbrev pub invariant-block-loop-item : goal.invariant-block-loop-item
invariant-block-loop-item l =
    MakesSome (items_code l.block.items) (items_code (drop l.item-index l.block.items)) (source_of l.fn.source) (source_of l.last) l.jumps.leave l.jumps.again (made_of l.fn.self) (made_of l.self)
