use Rattle.std.proofs.Common.{[]}
use Rattle.ix_plain.specs.Members.{params_from}
use Rattle.ix_symbols.specs.Numbered.{shown}
use Rattle.ix_lower.proofs.OneByOne.{param_added}
use Rattle.ix_lower.proofs.member.params.Goals as goal

pub loop-decl-preserved : goal.loop-decl-preserved
loop-decl-preserved c =
    param_added (shown c.args.table.now) c.args.decls.now c.loop-decl.decl-index c.decl-item.result c.loop-decl-test.true c.decl-item.is c.loop-decl.params c.push.new.self c.loop-decl.slot c.one_more-slot.result
    c.in_ok-name.name c.in_ok-claims.claims (params_from (shown c.args.table.now) [] c.args.first c.args.decls.now) c.in_ok-name.ensures c.in_ok-claims.ensures c.in_ok-push.ensures.added
    c.one_more-slot.ensures c.loop-decl.invariant
