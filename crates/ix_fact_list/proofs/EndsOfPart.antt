-- The ends of ranges by a part of facts that has all their ranges and classes are those by all.
use Rattle.std.specs.Prelude.{◌≡◌, List, filter}
use Rattle.std.proofs.Common.{ap, ◌∙◌}
use Rattle.ix_core.specs.declared.fact.Path.{Path}
use Rattle.ix_core.specs.declared.fact.Fact.{Fact}
use Rattle.ix_facts.specs.Bounds.{is_path}
use Rattle.ix_facts.specs.Forget.{names}
use Rattle.ix_bounds.specs.Ends.{ends_in}
use Rattle.ix_bounds.proofs.PartsAlone.{length_low_of, length_high_of, range_low_of, range_high_of}
use Rattle.ix_fact_list.specs.declared.limits.NearEnds.{NearEnds}
use Rattle.ix_fact_list.specs.NearNumbers.{HasEnds}

pub ends_of_part : (part facts : List Fact) (ends : NearEnds) → ends_in part ≡ ends_in facts → HasEnds part ends → HasEnds facts ends
ends_of_part part facts ends same has =
    let named : (p : Path) → filter (names (is_path p)) (ends_in part) ≡ filter (names (is_path p)) (ends_in facts) = λ p. ap (filter (names (is_path p))) same in
    record {
      lows = λ p near. has.lows p near ∙ range_low_of part facts p (named p);
      highs = λ p near. has.highs p near ∙ range_high_of part facts p (named p);
      length_lows = λ p near. has.length_lows p near ∙ length_low_of part facts p (named p);
      length_highs = λ p near. has.length_highs p near ∙ length_high_of part facts p (named p);
    }
