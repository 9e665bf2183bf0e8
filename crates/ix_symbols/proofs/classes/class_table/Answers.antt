use Rattle.std.proofs.lemmas.Result.{IfOk-weaker}
use mathlib.Core.Path.{fun_ext}
use Rattle.ix_symbols.proofs.classes.class_table.Goals as goal

pub returns : goal.returns
returns c = IfOk-weaker c.noted_classes.result _ _ (λ m h. fun_ext h) c.noted_classes.ensures
