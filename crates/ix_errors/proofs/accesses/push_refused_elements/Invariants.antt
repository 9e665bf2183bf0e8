use Rattle.std.proofs.Common.{◌≡◌, ◌++◌, drop}
use Rattle.ix_core.specs.declared.error.Subject.TheVariants.{Element}
use Rattle.ix_core.specs.declared.fact.Path.TheVariants.{Slot}
use Rattle.ix_store.specs.StoredFacts.{stored}
use Rattle.ix_errors.specs.Refusals.{refusals, not_proved}
use Rattle.ix_sign.specs.RuleErrors.{no_path}
use Rattle.ix_errors.proofs.accesses.push_refused_elements.Given as goal

abbrev pub invariant-loop-rank : goal.invariant-loop-rank
invariant-loop-rank l =
    l.out.items ++ refusals (not_proved (stored l.store) no_path (Slot l.value)) 16 l.place Element l.rank (drop l.rank l.claims)
    ≡ l.fn.out.items ++ refusals (not_proved (stored l.store) no_path (Slot l.value)) 16 l.place Element 0 l.claims
