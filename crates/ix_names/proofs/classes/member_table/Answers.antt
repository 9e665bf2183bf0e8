use Rattle.std.proofs.lemmas.Result.{IfOk-weaker}
use mathlib.Core.Path.{fun_ext}
use Rattle.ix_names.proofs.classes.member_table.Goals as goal

pub returns : goal.returns
returns c = IfOk-weaker c.noted_members.result _ _ (λ m h. fun_ext h) c.noted_members.ensures
