use Rattle.std.proofs.Common.{sym, subst}
use Rattle.std.specs.Prelude.{◌≡◌, IfOk}
use Rattle.ix_tree.specs.declared.decl.Unit.{Unit as Source}
use Rattle.ix_meaning.specs.Resolved.{Accepts}
use Rattle.ix_guard_text.specs.Guarding.{guarded_by}
use Rattle.ix_guard_text.proofs.guarding.of_tokens.Goals as goal

pub of_unit-requires-clause-accepts : goal.of_unit-requires-clause-accepts
of_unit-requires-clause-accepts c = let tree = c.requires.tree in subst Accepts (sym (c.in-Ok.ensures.only tree.source tree.parsed)) tree.accepts

pub unparsed-requires : goal.unparsed-requires
unparsed-requires c = let tree = c.requires.tree in c.in-Err.ensures.only tree.source tree.parsed

pub returns-in-Ok : goal.returns-in-Ok
returns-in-Ok c tree =
    subst (λ (source : Source). IfOk c.of_unit.result (λ text. text.items ≡ guarded_by c.args.bytes.now source c.args.errors.now)) (c.in-Ok.ensures.only tree.source tree.parsed) c.of_unit.ensures
