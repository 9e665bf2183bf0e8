use Rattle.ix_parse_statements.proofs.LowExpressions.{no_expr_room, no_expr_fits}
use Rattle.ix_parse_statements.proofs.beginnings.index.Goals as goal

pub returns-then-left-lt5-clause-room : goal.returns-then-left-lt5-clause-room
returns-then-left-lt5-clause-room c = no_expr_room c.args.left c.expr.result c.args.cursor.now c.expr.new.cursor c.expr.ensures.reads

pub returns-then-left-lt5-clause-fits : goal.returns-then-left-lt5-clause-fits
returns-then-left-lt5-clause-fits c = no_expr_fits c.args.left c.expr.result c.args.cursor.now c.expr.new.cursor c.expr.ensures.reads
