use Rattle.std.specs.Prelude.{string_bytes}
use Rattle.std.proofs.lemmas.List.Filters.{dedup_is}
use Rattle.ix_cert.proofs.Sorted.{sorted_lines}
use Rattle.ix_cert.proofs.lines.fact_lines.Goals as goal

pub returns : goal.returns
returns c = sorted_lines string_bytes c.args.facts.now _ _ _ c.in_ok-lines.ensures c.sort_unstable.ensures.permutation c.sort_unstable.ensures.sorted (dedup_is _ _ _ c.dedup.ensures.filtered)
