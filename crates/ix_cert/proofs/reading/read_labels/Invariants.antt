use Rattle.std.proofs.Common.{◌≡◌, length, map}
use Rattle.ix_store.specs.StoredFacts.{stored}
use Rattle.ix_cert.proofs.Parts.{LabelsRead}
use Rattle.ix_cert.proofs.reading.read_labels.Given as goal

abbrev pub invariant-loop-number : goal.invariant-loop-number
invariant-loop-number l = record {
  counted : length l.stores ≡ l.number;
  labels : LabelsRead l.slots l.fields l.count l.text l.number (map stored l.stores) l.rest;
}
