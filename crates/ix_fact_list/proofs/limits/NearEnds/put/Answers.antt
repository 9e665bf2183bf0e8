use Rattle.std.proofs.Common.{rules, ◌≡◌, pos, None, sym, subst, refl, w32, w64, to_z, of_z}
use Rattle.std.proofs.lemmas.Int.{to_z-of_z}
use Rattle.std.proofs.lemmas.Result.{on_ok_weaker}
use Rattle.ix_num.specs.Ints.{least_int, greatest_int}
use Rattle.ix_facts.specs.Bounds.{range_low_by, range_high_by, length_low_by, length_high_by}
use Rattle.ix_fact_list.proofs.NearRaised.{raised_as, lowered_as, not_raised, not_lowered, range_low_told, range_high_told, class_told, length_low_told, length_high_told}
use Rattle.ix_fact_list.proofs.limits.NearEnds.put.Goals as goal

pub returns-in-Rng : goal.returns-in-Rng
returns-in-Rng c =
    let fact = c.args.fact.now in
    let old = c.args.self.now in
    let is = c.in-Rng.is in
    let p = c.in-Rng.p in
    let l = c.in-Rng.low in
    let h = c.in-Rng.high in
    record {
      lows = on_ok_weaker c.put_range.result
          (raised_as old.lows.items c.put_range.new.lows.items least_int _ (λ q. range_low_by q fact)
          (range_low_told fact p l h (to_z w64 (of_z w64 l)) is (to_z-of_z w64 l (search rules)))) c.put_range.ensures.raised;
      highs = on_ok_weaker c.put_range.result
          (lowered_as old.highs.items c.put_range.new.highs.items greatest_int _ (λ q. range_high_by q fact)
          (range_high_told fact p l h (to_z w64 (of_z w64 h)) is (to_z-of_z w64 h (search rules)))) c.put_range.ensures.lowered;
      length_lows = on_ok_weaker c.put_range.result (λ _. not_raised old.length_lows.items (pos 0) (λ q. length_low_by q fact) (λ q. subst (λ f. None ≡ length_low_by q f) (sym is) refl)) c.put_range.ensures.raised;
      length_highs = on_ok_weaker c.put_range.result (λ _. not_lowered old.length_highs.items greatest_int (λ q. length_high_by q fact) (λ q. subst (λ f. None ≡ length_high_by q f) (sym is) refl)) c.put_range.ensures.raised;
    }

pub returns-in-LenRng : goal.returns-in-LenRng
returns-in-LenRng c =
    let fact = c.args.fact.now in
    let old = c.args.self.now in
    let is = c.in-LenRng.is in
    let p = c.in-LenRng.a in
    let l = c.in-LenRng.low in
    let h = c.in-LenRng.high in
    record {
      lows = on_ok_weaker c.put_range-in-LenRng.result (λ _. not_raised old.lows.items least_int (λ q. range_low_by q fact) (λ q. subst (λ f. None ≡ range_low_by q f) (sym is) refl)) c.put_range-in-LenRng.ensures.raised;
      highs = on_ok_weaker c.put_range-in-LenRng.result (λ _. not_lowered old.highs.items greatest_int (λ q. range_high_by q fact) (λ q. subst (λ f. None ≡ range_high_by q f) (sym is) refl)) c.put_range-in-LenRng.ensures.raised;
      length_lows = on_ok_weaker c.put_range-in-LenRng.result
          (raised_as old.length_lows.items c.put_range-in-LenRng.new.lows.items (pos 0) _ (λ q. length_low_by q fact)
          (length_low_told fact p l h (to_z w64 (of_z w64 l)) is (to_z-of_z w64 l (search rules)))) c.put_range-in-LenRng.ensures.raised;
      length_highs = on_ok_weaker c.put_range-in-LenRng.result
          (lowered_as old.length_highs.items c.put_range-in-LenRng.new.highs.items greatest_int _ (λ q. length_high_by q fact)
          (length_high_told fact p l h (to_z w64 (of_z w64 h)) is (to_z-of_z w64 h (search rules)))) c.put_range-in-LenRng.ensures.lowered;
    }

pub returns-in-Low : goal.returns-in-Low
returns-in-Low c =
    let fact = c.args.fact.now in
    let old = c.args.self.now in
    let is = c.in-Low.is in
    let e : to_z w64 (of_z w64 (to_z w32 (of_z w32 c.in-Low.low))) ≡ c.in-Low.low = search rules in
    record {
      lows = on_ok_weaker c.raise.result
          (raised_as old.lows.items c.raise.new.numbers.items least_int _ (λ q. range_low_by q fact)
          (class_told fact c.in-Low.p c.in-Low.low _ is e)) c.raise.ensures.raised;
      highs = on_ok_weaker c.raise.result (λ _. not_lowered old.highs.items greatest_int (λ q. range_high_by q fact) (λ q. subst (λ f. None ≡ range_high_by q f) (sym is) refl)) c.raise.ensures.raised;
      length_lows = on_ok_weaker c.raise.result (λ _. not_raised old.length_lows.items (pos 0) (λ q. length_low_by q fact) (λ q. subst (λ f. None ≡ length_low_by q f) (sym is) refl)) c.raise.ensures.raised;
      length_highs = on_ok_weaker c.raise.result (λ _. not_lowered old.length_highs.items greatest_int (λ q. length_high_by q fact) (λ q. subst (λ f. None ≡ length_high_by q f) (sym is) refl)) c.raise.ensures.raised;
    }
