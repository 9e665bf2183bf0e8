-- What an expression or an initialiser means only adds to what was printed, where its calls do.
use Rattle.std.proofs.Common.{ℕ, zero, suc, List, refl, arith}
use Rattle.std.specs.Prelude.{codes}
use Rattle.ix_text.specs.declared.span.Span.{Span}
use Rattle.ix_core.specs.declared.claim.Type_.{Type_}
use Rattle.ix_core.specs.Heap.{Held}
use Rattle.ix_core.specs.Machine.{Ending, Thrown}
use Rattle.ix_tree.specs.declared.expr.Expr.{Expr}
use Rattle.ix_tree.specs.declared.expr.Init.{Init}
use Rattle.ix_source.specs.Runs.{Action, stops}
use Rattle.ix_source.specs.Context.{Calls, Context}
use Rattle.ix_source.specs.Values.{evaluation, initial}
use Rattle.ix_guard_text.specs.Moved.{Move}
use Rattle.ix_guard_promise.specs.Behind.{now_of, Shows, Follows, thrown, ContextFollows}
use Rattle.ix_guard_promise.proofs.Following.{first_beside}
use Rattle.ix_guard_promise.proofs.ExpressionsFollow.{expression_keeps, initialiser_keeps}

-- Calls only add to what was printed.
pub record CallsShow (calls : Calls) : Type 0 where
  pub method : (number : ℕ) (this : Held) (given : List Held) → Shows (calls.method number this given)
  pub construct : (class : ℕ) (this : Held) (given : List Held) → Shows (calls.construct class this given)

-- So do the older ones of two contexts, of which one follows.
pub calls_show : {move : Move} {new old : Context} → ContextFollows move new old → CallsShow old.calls
calls_show follows = record { method = follows.calls.method_shows; construct = follows.calls.construct_shows }

-- ---- a context beside any: all begins one place later, and each call throws as a guard does, at the place 0

abbrev later : Move
later = record { from = suc; to = λ place. place }

abbrev before : ℕ → ℕ
before zero = zero
before (suc place) = place

abbrev span_before : Span → Span
span_before span = record { from = before span.from; to = span.to }

abbrev throwing : Ending
throwing = Thrown (codes "IndexOutOfBoundsException") 0

throw_follows : {A : Type 0} (old : Action A) → Shows old → Follows later (stops throwing) old
throw_follows old shows n o like = thrown throwing n (old o) (refl, λ place e. omega (arith, e)) (first_beside n o (now_of (old o)) like (shows o))

abbrev beside : Context → Context
beside context = record {
  names = record {
    meaning = λ span. context.names.meaning (span_before span);
    type_of = λ span. context.names.type_of (span_before span);
    declared = λ span. context.names.declared (span_before span);
  };
  members = context.members;
  calls = record { method = λ number this given. stops throwing; construct = λ class this given. stops throwing };
  turns = context.turns;
}

beside_follows : (context : Context) → CallsShow context.calls → ContextFollows later (beside context) context
beside_follows context shows = record {
  names = record { meaning = λ span. refl; type_of = λ span. refl; declared = λ span. refl };
  members = refl;
  calls = record {
    method = λ number this given. throw_follows (context.calls.method number this given) (shows.method number this given);
    method_shows = shows.method;
    construct = λ class this given. throw_follows (context.calls.construct class this given) (shows.construct class this given);
    construct_shows = shows.construct;
  };
  turns = refl;
}

-- ---- what expressions print: each keeps to itself in that context, and what is kept to only adds to what was printed

module _ (context : Context) (shows : CallsShow context.calls) where
  pub evaluation_shows : (e : Expr) → Shows ((evaluation e).value context)
  evaluation_shows e = (expression_keeps later (beside context) context (beside_follows context shows) e).value.shows

  pub condition_shows : (e : Expr) → Shows ((evaluation e).holds context)
  condition_shows e = (expression_keeps later (beside context) context (beside_follows context shows) e).holds.shows

  pub target_shows : (e : Expr) → Shows ((evaluation e).target context)
  target_shows e = (expression_keeps later (beside context) context (beside_follows context shows) e).target.shows

  pub unused_shows : (e : Expr) → Shows ((evaluation e).unused context)
  unused_shows e = (expression_keeps later (beside context) context (beside_follows context shows) e).unused.shows

  pub initial_shows : (i : Init) (ty : Type_) → Shows ((initial i).value context ty)
  initial_shows i ty = ((initialiser_keeps later (beside context) context (beside_follows context shows) i).value ty).shows
