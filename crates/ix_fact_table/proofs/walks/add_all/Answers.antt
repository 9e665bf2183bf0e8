use Rattle.std.proofs.Common.{sym}
use Rattle.std.proofs.lemmas.List.{append-nil}
use Rattle.ix_fact_table.proofs.walks.add_all.Goals as goal

pub returns-then-is_none : goal.returns-then-is_none
returns-then-is_none c = record { items = rw (c.is_none.ensures.0 c.if-is_none.true) (sym (append-nil c.args.all.now.items)) }
