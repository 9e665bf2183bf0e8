-- The statement of a guard's test becomes a choice of the test that throws where it holds and does nothing where it fails.
use Rattle.std.proofs.Common.{◌≡◌, ℕ, ◌+◌, ◌<◌, [], ◌∷◌, ◌++◌, None, Ok, refl, sym, ap, subst, ◌∙◌}
use Rattle.ix_text.specs.declared.span.Span.{Span}
use Rattle.ix_core.specs.declared.code.Block.{Block}
use Rattle.ix_core.specs.declared.code.Item.{Item}
use Rattle.ix_core.specs.declared.code.Item.TheVariants as item
use Rattle.ix_core.specs.Code.{cond_code}
use Rattle.ix_core.proofs.Translated.{item_code-If}
use Rattle.ix_tree.specs.declared.stmt.StmtKind.TheVariants as s
use Rattle.ix_tree.proofs.FoldsOfForms as fold
use Rattle.ix_guard.specs.Accesses.{Access}
use Rattle.ix_guard.specs.Trees.{test_tree}
use Rattle.ix_formed.specs.Additions.{Makes}
use Rattle.ix_formed.proofs.PlainItems.{makes_then}
use Rattle.ix_plain.specs.declared.body.Body.{Body}
use Rattle.ix_plain.specs.Scope.{Site, Scope}
use Rattle.ix_plain.specs.Assigned.{assigns}
use Rattle.ix_plain.specs.Values.{lowering}
use Rattle.ix_plain.specs.Statements as statements
use Rattle.ix_plain.specs.Statements.{Running, Tested, scope_of, scope_for, behind, with_last, tested, chosen}
use Rattle.ix_guard_text.specs.TestParts.{Parts, condition_of, throw_of, guard_of}
use Rattle.ix_guard_promise.specs.TestTrees.{Means, parts_at}
use Rattle.ix_guard_promise.specs.TestForms.{Tests, Asks, Guards}
use Rattle.ix_guard_promise.proofs.NothingAssigned.{condition_assigns}
use Rattle.ix_guard_promise.proofs.TestLowers.{test_lowers}

-- ---- the two statements

abbrev pub thrown : Parts → Item
thrown parts = item.Throw parts.thrown.text parts.throw

abbrev pub throwing : Parts → Running
throwing parts = record { span = parts.throw; run = λ site end body. Ok (with_last body (thrown parts)) }

pub throw_lowers : (parts : Parts) → statements.statement (throw_of parts) ≡ throwing parts
throw_lowers parts = fold.stmt_is statements.kind_step statements.stmt_step (s.Throw parts.thrown) parts.throw
    ∙ ap (λ kind. statements.stmt_step (record { kind = kind; span = parts.throw })) (fold.throw_kind statements.kind_step statements.stmt_step parts.thrown)

abbrev pub choosing : Parts → Running
choosing parts = record { span = parts.whole; run = λ site end body. chosen (condition_of parts) (statements.statement (throw_of parts)) None site body }

pub choice_lowers : (parts : Parts) → statements.statement (guard_of parts) ≡ choosing parts
choice_lowers parts = fold.stmt_is statements.kind_step statements.stmt_step (s.If (condition_of parts) (throw_of parts) None) parts.whole
    ∙ ap (λ kind. statements.stmt_step (record { kind = kind; span = parts.whole })) (fold.if_kind statements.kind_step statements.stmt_step (condition_of parts) (throw_of parts))

module _ (site : Site) (body : Body) (array index : ℕ) (parts : Parts) (means : Means (scope_of site body []) array index parts) (below : index < body.made.free) where
  -- ---- the condition

  pub record IsAsked (asked : Tested) : Type 0 where
    pub tests : Tests array index body.made.free (cond_code asked.cond)
    pub behind_it : asked.body ≡ behind body body.made.items (body.made.free + 3)

  pub scope_is : scope_for site body (assigns (condition_of parts)).inside ≡ scope_of site body []
  scope_is = ap (scope_of site body) (condition_assigns parts (scope_of site body []) [])

  pub asked_is : Makes IsAsked (tested site (condition_of parts) body)
  asked_is = makes_then (Asks array index body.made.free) IsAsked ((lowering (condition_of parts)).condition (scope_for site body (assigns (condition_of parts)).inside) body.made.free) _
      (subst (λ (scope : Scope). Makes (Asks array index body.made.free) ((lowering (condition_of parts)).condition scope body.made.free)) (sym scope_is)
      (test_lowers (scope_of site body []) array index parts refl means body.made.free below))
      (λ asked a. record { tests = a.tests; behind_it = ap (behind body body.made.items) a.behind })

  -- ---- the choice

  abbrev throws : Block
  throws = record { items = thrown parts ∷ [] }

  abbrev goes_on : Block
  goes_on = record { items = [] }

  guard_is : (asked : Tested) → IsAsked asked → Guards array index parts.thrown.text parts.throw body (with_last asked.body (item.If asked.cond throws goes_on))
  guard_is asked is = record {
    asked = cond_code asked.cond;
    tests = is.tests;
    item = item.If asked.cond throws goes_on;
    form = λ rest. item_code-If asked.cond throws goes_on rest;
    appended = ap (λ (after : Body). after.made.items ++ item.If asked.cond throws goes_on ∷ []) is.behind_it;
    free = ap (λ (after : Body). after.made.free) is.behind_it;
    locals = ap (λ (after : Body). after.locals) is.behind_it;
    loops = ap (λ (after : Body). after.loops) is.behind_it;
    most = ap (λ (after : Body). after.most) is.behind_it;
  }

  choice_is : Makes (Guards array index parts.thrown.text parts.throw body) (chosen (condition_of parts) (statements.statement (throw_of parts)) None site body)
  choice_is = subst (λ (first : Running). Makes (Guards array index parts.thrown.text parts.throw body) (chosen (condition_of parts) first None site body)) (sym (throw_lowers parts))
      (makes_then IsAsked (Guards array index parts.thrown.text parts.throw body) (tested site (condition_of parts) body) _ asked_is (λ asked is. guard_is asked is))

  -- The statement becomes a guard, where lowering stays within its limits.
  pub guard_lowers : (end : ℕ) → Makes (Guards array index parts.thrown.text parts.throw body) ((statements.statement (guard_of parts)).run site end body)
  guard_lowers end = subst (λ (running : Running). Makes (Guards array index parts.thrown.text parts.throw body) (running.run site end body)) (sym (choice_lowers parts)) choice_is

-- as it stands in a guarded tree
pub tree_lowers : (site : Site) (body : Body) (array index : ℕ) (span : Span) (access : Access) → Means (scope_of site body []) array index (parts_at span access) → index < body.made.free
    → (end : ℕ) → Makes (Guards array index (parts_at span access).thrown.text span body) ((statements.statement (test_tree span access)).run site end body)
tree_lowers site body array index span access means below end = guard_lowers site body array index (parts_at span access) means below end
