-- What new facts give together with the stored ones, with what the rules go over as lists of their own: the facts on each path, and the named ints
-- and arrays. The facts that name a path give what all facts give, and each path once gives what all named paths give.
use Rattle.std.specs.Prelude.{List, [], ◌++◌}
use Rattle.ix_core.specs.declared.claim.Type_.{Type_}
use Rattle.ix_core.specs.declared.fact.Path.{Path}
use Rattle.ix_core.specs.declared.fact.Path.TheVariants.{Slot}
use Rattle.ix_core.specs.declared.fact.Fact.{Fact}
use Rattle.ix_core.specs.declared.fact.Fact.TheVariants.{Less}
use Rattle.ix_core.specs.declared.op.Literal.{Literal}
use Rattle.ix_core.specs.declared.op.Literal.TheVariants as literal
use Rattle.ix_core.specs.declared.op.OpKind.{OpKind}
use Rattle.ix_core.specs.declared.op.OpKind.TheVariants as op
use Rattle.ix_facts.specs.Bounds.{is_path}
use Rattle.ix_facts.specs.Exact.{if_so, each, each_path}
use Rattle.ix_facts.specs.AfterOperation.{is_int, is_array, holds_arrays}
use Rattle.ix_facts.specs.After.{holds_ints}
use Rattle.ix_facts.specs.Finish as rule

-- What a new difference of t gives along the facts on its other int.
abbrev pub along_by : (Path → List Fact) → Path → Fact → List Fact
along_by on t (Less p q c) =
    if_so (is_path p t) (each (rule.step_above t q c) (on q) ++ each (rule.bound_above t q c) (on q))
    ++ if_so (is_path q t) (each (rule.step_below t p c) (on p) ++ each (rule.bound_below t p c) (on p))
along_by on t _ = []

module _ (facts : List Fact) (on : Path → List Fact) (ints arrays : List Path) (new : List Fact) where
  abbrev pub finish_int : Path → List Fact
  finish_int t = each (along_by on t) new ++ (each_path (rule.beside_int facts new t) ints ++ each_path (rule.beside_array facts new t) arrays)

  abbrev pub finish_array : Path → List Fact
  finish_array t = each_path (rule.beside_length facts new t) ints

  -- By the type of the target: an int, an array or neither.
  abbrev pub finished_by : Type_ → Path → List Fact
  finished_by ty t = if_so (is_int ty) (finish_int t) ++ if_so (is_array ty) (finish_array t)

  abbrev pub finished_const : Path → Literal → List Fact
  finished_const t (literal.Int n) = finish_int t
  finished_const t (literal.NullOf ty) = if_so (is_array ty) (finish_array t)
  finished_const t _ = []

  abbrev pub finished_load : Path → Type_ → List Fact
  finished_load t ty = if_so (holds_ints ty) (finish_int t) ++ if_so (holds_arrays ty) (finish_array t)

  abbrev pub finished : OpKind → List Fact
  finished (op.Const t value) = finished_const (Slot t) value
  finished (op.Copy t s ty) = finished_by ty (Slot t)
  finished (op.Num t arith y z) = finish_int (Slot t)
  finished (op.Unary t unary y) = finish_int (Slot t)
  finished (op.Length t a) = finish_int (Slot t)
  finished (op.NewArray t ty n) = finish_array (Slot t)
  finished (op.Fill t ty entries) = finish_array (Slot t)
  finished (op.Load t a i ty) = finished_load (Slot t) ty
  finished _ = []
