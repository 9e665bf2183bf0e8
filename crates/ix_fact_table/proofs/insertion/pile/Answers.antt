use Rattle.std.proofs.Common.{refl, inl, inr}
use Rattle.ix_fact_table.proofs.WentWell.{both_well}
use Rattle.ix_fact_table.proofs.insertion.pile.Goals as goal

pub returns-then-is_behind : goal.returns-then-is_behind
returns-then-is_behind c = record { piled = both_well c.add_behind.result (λ ok both rise. inl (record { both = both; rise = rise }, refl)) c.add_behind.ensures.both c.add_behind.ensures.rises }

pub returns-then-is_short : goal.returns-then-is_short
returns-then-is_short c = record { piled = both_well c.put.result (λ ok both rise. inl (record { both = both; rise = rise }, refl)) c.put.ensures.both c.put.ensures.rises }

pub returns-then-is_behind-2 : goal.returns-then-is_behind-2
returns-then-is_behind-2 c = record { piled = both_well c.add_second.result (λ ok both rise. inr (record { both = both; rise = rise }, refl)) c.add_second.ensures.both c.add_second.ensures.rises }
