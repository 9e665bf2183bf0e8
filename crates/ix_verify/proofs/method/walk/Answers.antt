use Rattle.std.proofs.Common.{ap}
use Rattle.ix_store.specs.StoredFacts.{stored}
use Rattle.ix_verify.proofs.method.walk.Goals as goal

pub body-requires : goal.body-requires
body-requires c = record {
  walk = record {
    program = c.requires.program;
    method = c.requires.method;
    marks = c.in_ok-marks.ensures.landmarks;
    nowhere = ap stored c.unreachable-nowhere.ensures.store;
  };
}
