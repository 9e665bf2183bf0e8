-- Full expressions keep their meaning where they stand in a body.
use Rattle.std.proofs.Common.{◌≡◌, ◌≤◌, ℕ, ◌+◌, Bool, true, false, List, [], Some, None, Ok, Err, Result, sym, ◌∙◌, arith}
use Rattle.std.specs.Prelude.{not}
use Rattle.ix_text.specs.declared.span.Span.{Span}
use Rattle.ix_core.specs.declared.program.Local.{Local}
use Rattle.ix_core.specs.Types.{is_void}
use Rattle.ix_core.proofs.Cases.{by_test}
use Rattle.ix_tree.specs.declared.expr.Expr.{Expr}
use Rattle.ix_tree.specs.declared.expr.Init.{Init}
use Rattle.ix_meaning.specs.declared.note.Meaning.{Meaning}
use Rattle.ix_plain.specs.declared.body.Body.{Body}
use Rattle.ix_plain.specs.Scope.{is_among, type_at}
use Rattle.ix_plain.specs.Parts.{Within, ◌>>=◌ as ◌then◌}
use Rattle.ix_plain.specs.Assigned.{assigns, init_assigns}
use Rattle.ix_plain.specs.Values.{lowering, filling}
use Rattle.ix_plain.specs.Statements.{assigned_by}
use Rattle.ix_source.specs.Context.{Members, Calls}
use Rattle.ix_source.specs.Values.{evaluation, initial}
use Rattle.ix_source.specs.Along.{IsSet}
use Rattle.ix_source.specs.Kept.{Makes, Kept, KeptRun, KeptInit}
use Rattle.ix_source.specs.Running.{Ground, owner, in_scope, standing, Runs}
use Rattle.ix_source.specs.Sound.{soundness, init_soundness}
use Rattle.ix_source.specs.SoundStatements.{where_made, used_at, ran_at, declaring}
use Rattle.ix_source.proofs.Expressions.{and_first, expression_kept, initialiser_kept, used_expression}
use Rattle.ix_source.specs.Grounds.{Rooted, IsGround}
use Rattle.ix_source.proofs.Scopes.{scope_low, standing_set}
use Rattle.ix_source.proofs.Locals.{begun, declaring_set}

-- ---- what was made, where it is sound too

pub makes_map : {A B C E : Type 0} (P : A → Type 0) (Q : C → Type 0) (r : Result A E) (f : A → B) (next : B → Result C E) → Makes P r → ((a : A) → P a → Makes Q (next (f a))) → Makes Q ((r then (λ a. Ok (f a))) then next)
makes_map P Q (Ok a) f next p on = on a p
makes_map P Q (Err limit) f next p on = tt

pub makes_sound : {A B C : Type 0} (P : A → Type 0) (Q : C → Type 0) (r : Within A) (f : A → B) (so : B → Bool) (next : B → Within C) → Makes P r → where_made (r then (λ a. Ok (f a))) so ≡ true → ((a : A) → P a → so (f a) ≡ true → Makes Q (next (f a)))
    → Makes Q ((r then (λ a. Ok (f a))) then next)
makes_sound P Q (Ok a) f so next p sound on = on a p sound
makes_sound P Q (Err limit) f so next p sound on = tt

pub then_sound : {A C : Type 0} (P : A → Type 0) (Q : C → Type 0) (r : Within A) (so : A → Bool) (next : A → Within C) → Makes P r → where_made r so ≡ true → ((a : A) → P a → so a ≡ true → Makes Q (next a)) → Makes Q (r then next)
then_sound P Q (Ok a) so next p sound on = on a p sound
then_sound P Q (Err limit) so next p sound on = tt

module _ (g : Ground) (members : Members) (calls : Calls) (turns : ℕ) (ground : IsGround g members calls turns) where
  -- ---- the setting of a full expression

  abbrev OwnSlots : Body → List ℕ → Type 0
  OwnSlots body assigned = (slot : ℕ) → is_among slot assigned ≡ true → (m : Meaning) × (in_scope g.site body.locals body.made.free slot ≡ Some m)

  low_slots : (body : Body) (assigned : List ℕ) (free : ℕ) → body.made.free ≤ free → OwnSlots body assigned → (slot : ℕ) → free ≤ slot → is_among slot assigned ≡ false
  low_slots body assigned free le own slot above = by_test (is_among slot assigned)
      (λ t. absurd (let (m, owns) = own slot t in let (below, is) = scope_low g body [] slot m owns in let none : ⊥ = omega (arith, le, above, below) in none)) (λ t. t)

  none_some : (m : Meaning) → None ≡ Some m → ⊥
  none_some m e = cc e

  no_zero : (body : Body) (assigned : List ℕ) → owner g.site body.locals 0 ≡ None → OwnSlots body assigned → is_among 0 assigned ≡ false
  no_zero body assigned none own = by_test (is_among 0 assigned)
      (λ t. absurd (let (m, owns) = own 0 t in let (below, is) = scope_low g body [] 0 m owns in none_some m (sym none ∙ is))) (λ t. t)

  set_of : (body : Body) (assigned : List ℕ) → Rooted g body → OwnSlots body assigned → IsSet (standing g body assigned)
  set_of body assigned rooted own = standing_set g body assigned (low_slots body assigned body.made.free (omega arith) own) (λ has. (rooted has).0) (λ has. (rooted has).1) (λ has. no_zero body assigned (rooted has).0 own)

  pub full_set : (e : Expr) (body : Body) → Rooted g body → ran_at e g body ≡ true → IsSet (standing g body (assigned_by g.site body (assigns e).inside))
  full_set e body rooted sound = set_of body (assigned_by g.site body (assigns e).inside) rooted (ground.assigns.expression (standing g body (assigned_by g.site body (assigns e).inside)) e sound)

  -- ---- an expression whose value is used, and one that is run

  pub kept_used : (e : Expr) (body : Body) → Rooted g body → used_at e g body ≡ true → Kept (standing g body (assigned_by g.site body (assigns e).inside)) members calls turns (lowering e) (evaluation e)
  kept_used e body rooted sound =
      let z = standing g body (assigned_by g.site body (assigns e).inside) in
      let set = full_set e body rooted (and_first ((soundness e).value z) (not (is_void (type_at z.scope (soundness e).span))) sound) in
      used_expression z set members calls turns ground.places (ground.calls_kept body (assigned_by g.site body (assigns e).inside) z.owner set) e sound

  pub kept_ran : (e : Expr) (body : Body) → Rooted g body → ran_at e g body ≡ true → KeptRun (standing g body (assigned_by g.site body (assigns e).inside)) members calls turns (lowering e) (evaluation e)
  kept_ran e body rooted sound =
      let z = standing g body (assigned_by g.site body (assigns e).inside) in
      let set = full_set e body rooted sound in
      (expression_kept z set members calls turns ground.places (ground.calls_kept body (assigned_by g.site body (assigns e).inside) z.owner set) e).ran sound

  -- ---- the initialiser of a new local

  pub local_set : (body : Body) (local : Local) (span : Span) (at_free : local.slot ≡ body.made.free) (assigned : List ℕ) → Rooted g body → OwnSlots body assigned → IsSet (declaring g body (begun g body local span at_free) assigned)
  local_set body local span at_free assigned rooted own = declaring_set g body local span at_free assigned (low_slots body assigned (body.made.free + 1) (omega arith) own) (λ has. (rooted has).0) (λ has. (rooted has).1) (λ has. no_zero body assigned (rooted has).0 own)

  pub kept_init : (i : Init) (body : Body) (local : Local) (span : Span) (at_free : local.slot ≡ body.made.free) → Rooted g body
      → init_soundness i (declaring g body (begun g body local span at_free) (assigned_by g.site (begun g body local span at_free) (init_assigns i))) ≡ true
      → KeptInit (declaring g body (begun g body local span at_free) (assigned_by g.site (begun g body local span at_free) (init_assigns i))) members calls turns (filling i) (initial i)
  kept_init i body local span at_free rooted sound =
      let b = begun g body local span at_free in
      let a = assigned_by g.site b (init_assigns i) in
      let z = declaring g body b a in
      let set = local_set body local span at_free a rooted (ground.assigns.initialiser z i sound) in
      (initialiser_kept z set members calls turns ground.places (ground.calls_kept b a z.owner set) i).value sound

  -- ---- behind a statement slot 0 is no variable's either

  pub rooted_behind : (before after : Body) (n : ℕ) (action : _) → Rooted g before → Runs g before after n action → Rooted g after
  rooted_behind before after n action rooted x has = (x.owners 0 (rooted has).1 ∙ (rooted has).0, let low = (rooted has).1 in let up = x.up in omega (arith, low, up))
