use Rattle.std.proofs.Common.{sym}
use Rattle.ix_core.specs.Tables.{method_at}
use Rattle.ix_check.proofs.JudgedAlone.{from_signatures, to_signatures, same_errors}
use Rattle.ix_check.proofs.laws.judged_alone.Goals as goal

-- src/laws.rt
pub returns : goal.returns
returns c = record {
  alone = λ program formed profile number error rank. (to_signatures program formed (method_at program number) profile number error rank, from_signatures program formed (method_at program number) profile number error rank);
  same = λ program other formed others same number is profile error rank.
      (same_errors program other formed others same number is profile error rank, same_errors other program others formed (sym same) number (sym is) profile error rank);
}
