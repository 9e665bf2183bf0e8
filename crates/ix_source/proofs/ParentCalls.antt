-- The call of the parent's constructor keeps its meaning (JLS 8.8.7.1): it runs on the same object, and what it gives back isn't used.
use Rattle.std.proofs.Common.{◌≡◌, ◌≤◌, ℕ, ◌+◌, true, false, List, [], ◌∷◌, map, Option, Some, None, Ok, Err, Result, refl, sym, ap, subst, ◌∙◌, arith}
use Rattle.ix_text.specs.declared.span.Span.{Span}
use Rattle.ix_core.specs.declared.op.Arg.{Arg}
use Rattle.ix_core.specs.declared.op.CallOp.{CallOp}
use Rattle.ix_core.specs.declared.op.OpKind.TheVariants as op
use Rattle.ix_core.specs.Code as code
use Rattle.ix_core.specs.Code.{Code}
use Rattle.ix_core.specs.Heap.{Held, Null, value_at}
use Rattle.ix_core.specs.Machine.{receiver_slot}
use Rattle.ix_core.specs.Tasks.{Tasks, Run, code_then}
use Rattle.ix_core.proofs.Cases.{by_test}
use Rattle.ix_tree.specs.declared.expr.Expr.{Expr}
use Rattle.ix_meaning.specs.declared.note.Meaning.{Meaning}
use Rattle.ix_meaning.specs.declared.note.Which.{Which}
use Rattle.ix_plain.specs.declared.body.Body.{Body}
use Rattle.ix_plain.specs.Assigned.{all_assign}
use Rattle.ix_plain.specs.Scope.{constructor_at, is_among}
use Rattle.ix_plain.specs.Parts.{Value, ◌>>=◌ as ◌then◌}
use Rattle.ix_plain.specs.Program.{parent_call}
use Rattle.ix_plain.specs.Statements.{assigned_by, behind}
use Rattle.ix_plain.specs.Values as values
use Rattle.ix_plain.specs.Values.{Arguments, lowering}
use Rattle.ix_source.specs.Runs.{Now, Result as Ended, Gives, Stops, Cuts, Action, ◌>>=◌, go_on, gives}
use Rattle.ix_source.specs.Context.{Context, Members, Calls}
use Rattle.ix_source.specs.Values as source
use Rattle.ix_source.specs.Values.{Evaluation, evaluation, of_this, without_value}
use Rattle.ix_source.specs.Statements.{normally}
use Rattle.ix_source.specs.Bodies.{parent_constructed}
use Rattle.ix_source.specs.Seen.{Frame, Decides}
use Rattle.ix_source.specs.Along.{Setting, IsSet, Agrees, Along}
use Rattle.ix_source.specs.Kept.{Makes, And, nothing_known, anything, Done}
use Rattle.ix_source.specs.Called.{RunsMethod, entered}
use Rattle.ix_source.specs.Calling.{AreIn, CallsKept, at_call}
use Rattle.ix_source.specs.Running.{Ground, in_scope, standing, Runs}
use Rattle.ix_source.specs.Sound.{soundness, all_used, used, is_class}
use Rattle.ix_source.proofs.Made.{then_done, makes_then}
use Rattle.ix_source.proofs.Operations.{takes}
use Rattle.ix_source.proofs.Expressions.{and_first, and_second, used_expression}
use Rattle.ix_source.proofs.Lists.{AllKept, arguments_done, no_args_stay}
use Rattle.ix_source.specs.Grounds.{Rooted, IsGround, within}
use Rattle.ix_source.proofs.Scopes.{scope_low, standing_set}
use Rattle.ix_source.proofs.Simple.{runs_as, ran_runs}
use Rattle.ix_source.specs.Callees.{CalleesRun, with_object}
use Rattle.ix_source.proofs.Calls.{came_back, lands_nowhere}

none_given : (o : Held) (r : Ended (Unit {0})) → go_on (λ (result : Option Held). gives Null) (go_on (with_object o) r) ≡ go_on (λ done. gives Null) r
none_given o (Gives done now) = refl
none_given o (Stops ending now) = refl
none_given o (Cuts now) = refl

-- ---- the call

-- The constructor runs on `this`.
abbrev pub on_this : (Held → List Held → Action (Unit {0})) → List Held → Action Held
on_this construct given = of_this >>= (λ this. construct this given >>= (λ done. gives Null))

module _ (z : Setting) (depth : ℕ) (deep : z.depth ≤ depth + 1) where
  pub super_called : (f : Frame) (call : CallOp) (span : Span) (rest : Code) (tasks : Tasks) (slots : List Held) (now : Now) (given : List Held) (construct : Held → List Held → Action (Unit {0})) → z.has_this ≡ true → call.receiver ≡ Some 0
      → RunsMethod z.tables depth call.method false (λ o given. construct o given >>= with_object o) z.this → AreIn call.args given slots → Agrees z slots now.variables → Decides z.tables (at_call z f (op.SuperCall call) span rest tasks slots now)
      → Along z f (at_call z f (op.SuperCall call) span rest tasks slots now) (λ value. code_then rest tasks) anything call.target slots now (on_this construct given now)
  super_called f call span rest tasks slots now given construct has receiver runs args agrees decides =
      let this = agrees.this has in
      let r = construct z.this given now in
      subst (λ o. Along z f (at_call z f (op.SuperCall call) span rest tasks slots now) (λ value. code_then rest tasks) anything call.target slots now ((construct o given >>= (λ done. gives Null)) now)) (sym this.1)
      (subst (λ result. Along z f (at_call z f (op.SuperCall call) span rest tasks slots now) (λ value. code_then rest tasks) anything call.target slots now result) (none_given z.this r)
      (came_back z depth deep (λ (result : Option Held). Null) anything f (Run (code.Do (record { kind = op.SuperCall call; span = span; parts = [] }) rest) tasks) rest tasks call.target slots now (entered z.tables depth call.method f (code_then rest tasks) slots None (z.this ∷ given) now) None
      (ap (λ (o : Option ℕ). entered z.tables depth call.method f (code_then rest tasks) slots None (value_at slots (receiver_slot o) ∷ map (λ (arg : Arg). value_at slots arg.slot) call.args) now) receiver
      ∙ ap (λ held. entered z.tables depth call.method f (code_then rest tasks) slots None (held ∷ map (λ (arg : Arg). value_at slots arg.slot) call.args) now) this.0 ∙ ap (λ values. entered z.tables depth call.method f (code_then rest tasks) slots None (z.this ∷ values) now) args)
      refl decides (go_on (with_object z.this) r) (λ later result e. lands_nowhere z depth deep anything call.target slots now Null result agrees tt)
      (λ decides_then. runs f (code_then rest tasks) slots None given now decides_then)))

-- ---- where it stands in a body

module _ (g : Ground) (members : Members) (calls : Calls) (turns depth : ℕ) (deep : g.depth ≤ depth + 1) (run : CalleesRun g.tables g.site members depth calls) (ground : IsGround g members calls turns) where
  abbrev here : Context
  here = within g members calls turns

  abbrev OwnSlots : Body → List ℕ → Type 0
  OwnSlots body assigned = (slot : ℕ) → is_among slot assigned ≡ true → (m : Meaning) × (in_scope g.site body.locals body.made.free slot ≡ Some m)

  none_some : (m : Meaning) → None ≡ Some m → ⊥
  none_some m e = cc e

  -- a full expression of the body stands in a setting
  pub set_of : (body : Body) (assigned : List ℕ) → Rooted g body → OwnSlots body assigned → IsSet (standing g body assigned)
  set_of body assigned rooted own = standing_set g body assigned
      (λ slot above. by_test (is_among slot assigned) (λ t. absurd (let (m, owns) = own slot t in let (below, is) = scope_low g body [] slot m owns in let none : ⊥ = omega (arith, above, below) in none)) (λ t. t))
      (λ has. (rooted has).0) (λ has. (rooted has).1)
      (λ has. by_test (is_among 0 assigned) (λ t. absurd (let (m, owns) = own 0 t in let (below, is) = scope_low g body [] 0 m owns in none_some m (sym (rooted has).0 ∙ is))) (λ t. t))

  all_kept : (z : Setting) (set : IsSet z) (same : members.place ≡ z.tables.place) (kept : CallsKept z members calls turns) (args : List Expr) → all_used (map soundness args) z ≡ true
      → AllKept z set members calls turns (map lowering args) (map evaluation args)
  all_kept z set same kept [] is = tt
  all_kept z set same kept (arg ∷ args) is =
      (used_expression z set members calls turns same kept arg (and_first (used (soundness arg) z) (all_used (map soundness args) z) is), all_kept z set same kept args (and_second (used (soundness arg) z) (all_used (map soundness args) z) is))

  same_parent : (parent : ℕ) (es : List Evaluation) (now : Now) → ((source.arguments_from [] es here >>= on_this (λ o given. calls.construct parent o given)) >>= without_value >>= normally) now ≡ (parent_constructed here (Some parent) es >>= normally) now
  same_parent parent es now = at_arguments (source.arguments_from [] es here now)
    where
      at_end : (r : Ended (Unit {0})) → go_on normally (go_on without_value (go_on (λ done. gives Null) r)) ≡ go_on normally r
      at_end (Gives done now) = refl
      at_end (Stops ending now) = refl
      at_end (Cuts now) = refl

      at_arguments : (r : Ended (List Held)) → go_on normally (go_on without_value (go_on (on_this (λ o given. calls.construct parent o given)) r)) ≡ go_on normally (go_on (λ given. of_this >>= (λ this. calls.construct parent this given)) r)
      at_arguments (Gives given now) = at_end (calls.construct parent now.variables.this given now)
      at_arguments (Stops ending now) = refl
      at_arguments (Cuts now) = refl

  -- The arguments, and the parent's constructor on `this`.
  pub parent_runs : (parent : ℕ) (args : List Expr) (span : Span) (body : Body) → body.made.free ≤ body.most → Rooted g body → g.has_this ≡ true → is_class g.site parent ≡ true → all_used (map soundness args) (standing g body (assigned_by g.site body (all_assign args))) ≡ true
      → Makes (λ after. Runs g body after 0 (parent_constructed here (Some parent) (map evaluation args) >>= normally)) (parent_call g.site parent args span body)
  parent_runs parent args span body low rooted has is sound =
      let assigned = assigned_by g.site body (all_assign args) in
      let z = standing g body assigned in
      let set = set_of body assigned rooted (ground.assigns.arguments z args sound) in
      let kept = all_kept z set ground.places (ground.calls_kept body assigned z.owner set) args sound in
      let es = map evaluation args in
      let construct : Held → List Held → Action (Unit {0}) = λ o given. calls.construct parent o given in
      let d : Makes (λ v. Done z nothing_known body.made v.made (λ x. source.arguments_from [] es here >>= on_this construct) anything)
      (values.arguments_from [] (map lowering args) z.scope body.made then values.calling op.SuperCall (constructor_at g.site parent) (Some 0) parent span) =
      then_done z (λ (a : Arguments). a.made) (λ a. AreIn a.args) (λ (v : Value). v.made) (λ v. anything) nothing_known body.made (λ p. source.arguments_from [] es here) (λ q. on_this construct q.1) (λ x slots behind keeps known. tt)
      (values.arguments_from [] (map lowering args) z.scope body.made) _
      (arguments_done z set members calls turns nothing_known (λ p. []) [] (map lowering args) es body.made (omega arith) kept (λ x slots behind keeps known. tt) (no_args_stay z set members calls turns body.made.free) (λ p slots knows. refl))
      (λ a up both own.
      let call : CallOp = record { target = a.made.free; method = constructor_at g.site parent; receiver = Some 0; args = a.args; class = parent; span = span } in
      takes z (And nothing_known (AreIn a.args)) a.made (op.SuperCall call) span (λ q. on_this construct q.1) (λ slot. anything) (λ value slots behind keeps known. tt)
      (λ q f rest tasks slots now room agrees knows decides. super_called z depth deep f call span rest tasks slots now q.1 construct has refl (run.construct parent is z.this) knows.1 agrees decides)) in
      parent_then (values.arguments_from [] (map lowering args) z.scope body.made) d
    where
      parent_then : (r : Result Arguments Which) → Makes (λ v. Done (standing g body (assigned_by g.site body (all_assign args))) nothing_known body.made v.made (λ x. source.arguments_from [] (map evaluation args) here >>= on_this (λ o given. calls.construct parent o given)) anything)
          (r then values.calling op.SuperCall (constructor_at g.site parent) (Some 0) parent span)
          → Makes (λ after. Runs g body after 0 (parent_constructed here (Some parent) (map evaluation args) >>= normally))
          (r then (λ given. values.calling op.SuperCall (constructor_at g.site parent) (Some 0) parent span given then (λ called. Ok (behind body called.made.items called.made.free))))
      parent_then (Err limit) d = tt
      parent_then (Ok given) d = makes_then _ _ (values.calling op.SuperCall (constructor_at g.site parent) (Some 0) parent span given) (λ called. Ok (behind body called.made.items called.made.free)) d
          (λ v a. runs_as g body (behind body v.made.items v.made.free) 0 _ (parent_constructed here (Some parent) (map evaluation args) >>= normally) (same_parent parent (map evaluation args))
          (ran_runs g body (assigned_by g.site body (all_assign args)) low v (source.arguments_from [] (map evaluation args) here >>= on_this (λ o given. calls.construct parent o given)) a))
