use Rattle.std.proofs.Common.{refl, inl, inr}
use Rattle.ix_fact_table.proofs.WentWell.{both_well}
use Rattle.ix_fact_table.proofs.insertion.put_shorter.Goals as goal

pub returns-then-len : goal.returns-then-len
returns-then-len c = record { piled = both_well c.put.result (λ ok both rise. inl (record { both = both; rise = rise }, refl)) c.put.ensures.both c.put.ensures.rises }

pub returns : goal.returns
returns c = record { piled = both_well c.put-2.result (λ ok both rise. inr (record { both = both; rise = rise }, refl)) c.put-2.ensures.both c.put-2.ensures.rises }
