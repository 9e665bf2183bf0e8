use Rattle.std.proofs.Common.{◌≡◌, ◌≤◌, ◌+◌, ◌-◌, ℕ, List, take, drop, length, option_map, Some}
use Rattle.ix_outside.specs.Reading.{most_turns}
use Rattle.ix_outside.specs.Outside.{add_last}
use Rattle.ix_outside.proofs.reading.read_rest.Given as goal

abbrev pub invariant-reading : goal.invariant-reading
invariant-reading g l = record {
  files : g.S.Source.files l.files ≡ g.S.Source.files l.initial.files;
  opened : g.S.Source.IsOpened l.files;
  keeps_sure : (other : List ℕ) → g.S.Source.IsSure l.initial.files other → g.S.Source.IsSure l.files other;
  opened_sure : g.S.Source.IsOpenedSure l.initial.files → g.S.Source.IsOpenedSure l.files;
  names : g.S.Source.names l.files ≡ g.S.Source.names l.initial.files;
  given : g.S.Source.given l.files ≡ add_last l.bytes.items (g.S.Source.given l.initial.files);
  read : (all : List ℕ) → g.S.Source.left l.initial.files ≡ Some all → take (length l.bytes.items) all ≡ l.bytes.items;
  left : g.S.Source.left l.files ≡ option_map (drop (length l.bytes.items)) (g.S.Source.left l.initial.files);
  faults : g.S.Source.faults l.files ≡ g.S.Source.faults l.initial.files;
  before : g.S.Source.reads_before l.files ≡ g.S.Source.reads_before l.initial.files;
  counted : g.S.Source.reads l.initial.files ≤ g.S.Source.reads l.files;
  turns : g.S.Source.reads l.files ≤ g.S.Source.reads l.initial.files + most_turns l.most;
  each_takes : g.S.Source.reads l.files ≤ g.S.Source.reads l.initial.files + length l.bytes.items;
}

abbrev pub decreases-reading : goal.decreases-reading
decreases-reading g l = l.most + 1 - length l.bytes.items
