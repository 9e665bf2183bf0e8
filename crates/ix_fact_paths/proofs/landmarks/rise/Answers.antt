use Rattle.std.specs.Prelude.{int_lt}
use Rattle.std.proofs.Common.{rules}
use Rattle.std.proofs.lemmas.Bool.{MatchBool-at_true, MatchBool-at_false}
use Rattle.std.proofs.lemmas.Fn.{always_returns_same}
use Rattle.ix_fact_paths.proofs.RisingMarks.{rises_from, falls_from}
use Rattle.ix_fact_paths.proofs.landmarks.rise.Goals as goal

pub returns : goal.returns
returns c =
    let compared = c.is_sorted_by.ensures.cases int_lt (always_returns_same _ _ _ (λ a r next called. search rules)) in
    record {
      rises = λ t. rises_from c.args.marks.now (MatchBool-at_true _ _ t compared);
      falls = λ t. falls_from c.args.marks.now (MatchBool-at_false _ _ t compared);
    }
