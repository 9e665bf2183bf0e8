use Rattle.ix_store.specs.StoredFacts.{stored}
use Rattle.ix_errors.proofs.Refused.{ok_adds}
use Rattle.ix_errors.specs.Lists.{entry_refusals}
use Rattle.ix_sign.specs.RuleErrors.{EntryClaim}
use Rattle.ix_errors.proofs.Listed.{entries_are}
use Rattle.ix_errors.proofs.accesses.push_entry_errors.Goals as goal

pub returns : goal.returns
returns c =
    let store = stored c.args.store.now in
    let ty = c.args.ty.now in
    let done = c.args.done.now in
    let entries = c.args.entries.now in
    record {
      errors = ok_adds (EntryClaim ty entries done store) c.args.out.now.items c.push_of_entries.new.out.items (entry_refusals store ty done 0 entries)
          c.push_of_entries.result c.push_of_entries.ensures (entries_are store ty done entries);
    }
