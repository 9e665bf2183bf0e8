use Rattle.std.proofs.Common.{sym}
use Rattle.ix_transfer_rules.proofs.plain.push_half_by.Goals as goal

pub returns-in-Sum : goal.returns-in-Sum
returns-in-Sum g c = rw (c.in-Sum.is, sym c.if-is_same_path.ensures) (c.push_half_between.ensures)
