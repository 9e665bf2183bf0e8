use Rattle.ix_fact_table.proofs.LengthLinks.{one_linked}
use Rattle.ix_fact_table.proofs.links.push_link.Goals as goal

pub returns-in-IsLen : goal.returns-in-IsLen
returns-in-IsLen c = one_linked c.push_length.result c.args.firsts.now.items c.push_length.new.firsts.items c.args.found.now.items c.push_length.new.found.items c.args.fact.now c.in-IsLen.p c.in-IsLen.a c.in-IsLen.is c.push_length.ensures.found c.push_length.ensures.firsts
