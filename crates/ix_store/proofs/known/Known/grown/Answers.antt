use Rattle.std.proofs.Common.{ap, sym, ◌∙◌}
use Rattle.ix_fact_table.specs.Beside.{are_plain}
use Rattle.ix_store.proofs.known.Known.grown.Goals as goal

pub with_plain-requires : goal.with_plain-requires
with_plain-requires c = record {
  classes = c.requires.classes;
  plain = ap are_plain (sym c.deref.ensures.value) ∙ (sym c.are_plain.ensures.plain ∙ c.if-are_plain.true);
}
