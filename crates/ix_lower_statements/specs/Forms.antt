-- By which function of the code a form of statement is made.
use Rattle.ix_tree.specs.declared.stmt.StmtKind.{StmtKind, StmtKind-F, fold-StmtKind}
use Rattle.ix_lower_statements.specs.declared.statement.Form.{Form}
use Rattle.ix_lower_statements.specs.declared.statement.Form.TheVariants as form

abbrev pub form_step : StmtKind-F Form Form → Form
form_step (StmtKind-F.While condition turn) = form.While
form_step (StmtKind-F.Do turn condition) = form.Do
form_step (StmtKind-F.For first condition update turn) = form.For
form_step _ = form.Plain

abbrev pub form_of : StmtKind → Form
form_of = fold-StmtKind Form Form form_step (λ stmt. stmt.kind)
