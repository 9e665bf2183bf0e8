use Rattle.std.proofs.Common.{sym, ◌∙◌}
use Rattle.ix_store.specs.StoredFacts.{stored}
use Rattle.ix_store.proofs.WholeStores.{proper_classes, whole_same}
use Rattle.ix_store.proofs.store.Store.from_facts.Goals as goal

-- src/given.rt
pub of_facts-requires : goal.of_facts-requires
of_facts-requires c = record { classes = proper_classes c.args.facts.now (sym c.are_proper.ensures.proper ∙ c.if-not-are_proper.false) }

pub returns-then-branch-clause-same : goal.returns-then-branch-clause-same
returns-then-branch-clause-same c = whole_same c.args.facts.now (stored c.in_ok-store.store) c.in_ok-store.ensures.store (c.in_ok-is_all.ensures.whole.0 c.if-branch.true)

pub returns-then-branch-clause-whole : goal.returns-then-branch-clause-whole
returns-then-branch-clause-whole c = c.in_ok-is_all.ensures.whole.0 c.if-branch.true

pub is_all-requires : goal.is_all-requires
is_all-requires c = record {
  proper = sym c.are_proper.ensures.proper ∙ c.if-not-are_proper.false;
  apart = c.in_ok-are_apart.ensures.apart.0 c.if-not-branch.false;
  closed = c.in_ok-store.ensures.store;
}
