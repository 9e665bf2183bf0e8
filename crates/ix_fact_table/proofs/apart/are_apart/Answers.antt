use Rattle.std.proofs.Common.{sym, subst, ◌∙◌, ap}
use Rattle.std.specs.List.{IsDistinct}
use Rattle.std.specs.Ordering.{eq_by_cmp}
use Rattle.std.proofs.lemmas.List.Sorted.{IsPermutation-sym}
use Rattle.std.proofs.lemmas.Map.Keys.{IsDistinct-from_sorted, IsDistinct-IsPermutation}
use Rattle.ix_fact_table.specs.Apart.{all_rise}
use Rattle.ix_fact_table.specs.FactOrder.{fact_cmp}
use Rattle.ix_fact_table.proofs.KeysApart.{rising_strict, apart_rise, key_flips}
use Rattle.ix_fact_table.proofs.apart.are_apart.Goals as goal

-- src/apart.rt
pub returns : goal.returns
returns c =
    let keys = c.in_ok-keys.keys.items in
    let sorted = c.sort_by_key.new.keys.items in
    let same = c.all_rise.ensures ∙ ap all_rise c.deref.ensures.value in
    let made = c.in_ok-keys.ensures in
    record {
      apart = (
        λ rises. subst (IsDistinct (eq_by_cmp fact_cmp)) made (IsDistinct-IsPermutation (eq_by_cmp fact_cmp) key_flips sorted keys (IsPermutation-sym keys sorted c.in_ok-sort_by_key.ensures.permutation) (IsDistinct-from_sorted fact_cmp sorted (rising_strict sorted (sym same ∙ rises)))),
        λ apart. same ∙ apart_rise sorted c.in_ok-sort_by_key.ensures.sorted (IsDistinct-IsPermutation (eq_by_cmp fact_cmp) key_flips keys sorted c.in_ok-sort_by_key.ensures.permutation (subst (IsDistinct (eq_by_cmp fact_cmp)) (sym made) apart)),
      );
    }
