use Rattle.std.proofs.Common.{[]}
use Rattle.ix_plain.specs.Members.{param_types_from}
use Rattle.ix_symbols.specs.Numbered.{shown}
use Rattle.ix_lower.proofs.OneByOne.{type_added}
use Rattle.ix_lower.proofs.member.param_types.Goals as goal

pub loop-decl-preserved : goal.loop-decl-preserved
loop-decl-preserved c =
    type_added (shown c.args.table.now) c.args.decls.now c.loop-decl.decl-index c.decl-item.result c.loop-decl-test.true c.decl-item.is c.loop-decl.types c.push.new.self c.in_ok-type_declared.field-0
    (param_types_from (shown c.args.table.now) [] c.args.decls.now) c.in_ok-type_declared.ensures c.in_ok-push.ensures.added c.loop-decl.invariant
