-- What the tests before a statement become: behind the test of an access its index is inside its array, and the tests behind it keep that.
use Rattle.std.proofs.Common.{◌≡◌, ⊎_elim, ◌<◌, ℕ, Bool, true, List, [], ◌∷◌, ◌++◌, map, Option, None, refl, sym, ap, subst, ◌∙◌}
use Rattle.std.specs.Prelude.{◌&&◌}
use Rattle.std.proofs.lemmas.Bool.{and_parts}
use Rattle.ix_text.specs.declared.span.Span.{Span}
use Rattle.ix_core.specs.declared.program.Local.{Local}
use Rattle.ix_core.specs.Code.{End, item_code}
use Rattle.ix_tree.specs.declared.stmt.Stmt.{Stmt}
use Rattle.ix_tree.specs.declared.stmt.StmtKind.{StmtKind-F}
use Rattle.ix_tree.specs.declared.stmt.StmtKind.TheVariants as s
use Rattle.ix_tree.proofs.FoldsOfForms as fold
use Rattle.ix_meaning.specs.declared.note.Meaning.{Meaning}
use Rattle.ix_plain.specs.declared.body.Body.{Body}
use Rattle.ix_plain.specs.Assigned.{assigns}
use Rattle.ix_plain.specs.Parts.{Within}
use Rattle.ix_plain.specs.Scope.{slot_of, or_void}
use Rattle.ix_plain.specs.Statements as plain
use Rattle.ix_plain.specs.Statements.{Running, scope_of, assigned_by, tested, branch}
use Rattle.ix_formed.specs.Additions.{Makes, AllOf}
use Rattle.ix_formed.proofs.PlainItems.{makes_more, makes_then}
use Rattle.ix_source.specs.Running.{Ground, standing}
use Rattle.ix_source.specs.Sound.{named}
use Rattle.ix_source.specs.SoundStatements as sound
use Rattle.ix_source.specs.SoundStatements.{StatementSoundness, statement_soundness, running_of, where_made, used_at, part_sound, part_if, each_sound}
use Rattle.ix_source.proofs.SoundRuns.{running_is}
use Rattle.ix_guard.specs.Accesses.{Access}
use Rattle.ix_guard.specs.Tests.{Site, is_variable}
use Rattle.ix_guard_promise.specs.Known.{Known, Nowhere, Unknown, Inside}
use Rattle.ix_guard_promise.specs.Guards.{ends}
use Rattle.ix_guard_promise.proofs.GuardedPieces.{elsewhere, keeps}
use Rattle.ix_guard_promise.specs.TestTrees.{Means}
use Rattle.ix_guard_promise.specs.TestForms.{Guards}
use Rattle.ix_guard_promise.proofs.GuardLowers.{guard_lowers}
use Rattle.ix_guard_promise.proofs.TestKeeps.{behind_guard, guard_elsewhere, guard_keeps, guard_no_loop}
use Rattle.ix_guard_text.specs.Moved.{Move}
use Rattle.ix_guard_text.specs.TestParts.{Parts, condition_of, throw_of, guard_of}
use Rattle.ix_guard_text.specs.GuardedPlaces as placed
use Rattle.ix_guard_text.specs.GuardedPlaces.{AreTests}
use Rattle.ix_guard_text.specs.GuardedNames.{IsMeant}
use Rattle.ix_guard_promise.specs.SourceGuards.{IsAmong}
use Rattle.ix_guard_promise.specs.Laws.{IsInSlot, AreInSlots}
use Rattle.ix_guard_promise.proofs.Growing.{with_sound, Grows, grows_both}
use Rattle.ix_guard_promise.proofs.TestSlots.{named_in_slot, array_sound, index_sound}

-- Nothing is declared, and no slot is taken.
pub record IsQuiet (body after : Body) : Type 0 where
  pub locals : after.locals ≡ body.locals
  pub free : after.made.free ≡ body.made.free

-- What is known is of slots below that one.
abbrev pub IsBelow : Known → ℕ → Type 0
IsBelow Nowhere free = ⊥
IsBelow Unknown free = Unit {0}
IsBelow (Inside array index) free = (array < free) × (index < free)

module _ (site : Site) (move : Move) (place : Span) (g : Ground) where
  abbrev pub IsTest : Access → Parts → Type 0
  IsTest = IsMeant site.names g.site.names move

  -- Both names of the access mean variables.
  pub record HasVariables (access : Access) : Type 0 where
    pub array : is_variable (site.names.meaning access.array.span) ≡ true
    pub index : is_variable (site.names.meaning access.index.span) ≡ true

  -- ---- one test

  -- It became a guard of the slots of its variables.
  pub record IsStep (access : Access) (parts : Parts) (body after : Body) : Type 0 where
    pub array : ℕ
    pub index : ℕ
    pub in_slots : AreInSlots site g body.locals body.made.free access array index
    pub guard : Guards array index parts.thrown.text parts.throw body after

  guard_sound : (parts : Parts) (end : ℕ) (body : Body) → (statement_soundness (guard_of parts)).sound g end body ≡ true → used_at (condition_of parts) g body ≡ true
  guard_sound parts end body is =
      let first = statement_soundness (throw_of parts) in
      let e : statement_soundness (guard_of parts) ≡ sound.kind_step (StmtKind-F.If (condition_of parts) first None) parts.whole =
      fold.stmt_is sound.kind_step sound.stmt_step (s.If (condition_of parts) (throw_of parts) None) parts.whole
      ∙ ap (λ (kind : Span → StatementSoundness). kind parts.whole) (fold.if_kind sound.kind_step sound.stmt_step (condition_of parts) (throw_of parts)) in
      (and_parts (used_at (condition_of parts) g body)
      (where_made (tested g.site (condition_of parts) body) (λ asked. part_sound first g asked.body
      && where_made (branch first.running g.site asked.body) (λ holds. part_if None g holds.body)))
      (ap (λ (x : StatementSoundness). x.sound g end body) (sym e) ∙ is)).0

  module _ (access : Access) (parts : Parts) (test : IsTest access parts) (have : HasVariables access) (body : Body) (used : used_at (condition_of parts) g body ≡ true) where
    abbrev assigned : List ℕ
    assigned = assigned_by g.site body (assigns (condition_of parts)).inside

    abbrev variable : Option Meaning → ℕ
    variable m = slot_of (scope_of g.site body []) m

    abbrev array : ℕ
    array = variable (site.names.meaning access.array.span)

    abbrev index : ℕ
    index = variable (site.names.meaning access.index.span)

    in_slot : (one other : Option Meaning) → one ≡ other → is_variable other ≡ true → named (standing g body assigned) one ≡ true → IsInSlot g body.locals body.made.free other (variable other)
    in_slot one other e is own = named_in_slot g body.locals body.made.free assigned other is (ap (named (standing g body assigned)) (sym e) ∙ own)

    in_slots : AreInSlots site g body.locals body.made.free access array index
    in_slots = record {
      array_is = in_slot (g.site.names.meaning parts.null_array.span) (site.names.meaning access.array.span) test.null_array have.array (array_sound parts (standing g body assigned) used);
      index_is = in_slot (g.site.names.meaning parts.negative_index.span) (site.names.meaning access.index.span) test.negative_index have.index (index_sound parts (standing g body assigned) used);
    }

    means : Means (scope_of g.site body []) array index parts
    means = record {
      null_array = record { variable = ap is_variable test.null_array ∙ have.array; in_slot = ap variable test.null_array };
      negative_index = record { variable = ap is_variable test.negative_index ∙ have.index; in_slot = ap variable test.negative_index };
      high_index = record { variable = ap is_variable test.high_index ∙ have.index; in_slot = ap variable test.high_index };
      length_array = record { variable = ap is_variable test.length_array ∙ have.array; in_slot = ap variable test.length_array };
      negative_type = ap or_void test.negative_type;
      high_type = ap or_void test.high_type;
      length = test.length;
    }

    pub is_step : (end : ℕ) → Makes (IsStep access parts body) ((statement_soundness (guard_of parts)).running.run g.site end body)
    is_step end =
        subst (λ (x : Running). Makes (IsStep access parts body) (x.run g.site end body)) (sym (running_is (guard_of parts)))
        (makes_more (Guards array index parts.thrown.text parts.throw body) (IsStep access parts body)
        (λ after guard. record { array = array; index = index; in_slots = in_slots; guard = guard })
        ((plain.statement (guard_of parts)).run g.site end body) (guard_lowers g.site body array index parts means in_slots.index_is.below end))

  module _ (access : Access) (parts : Parts) (body after : Body) (step : IsStep access parts body after) where
    pub step_quiet : IsQuiet body after
    step_quiet = record { locals = step.guard.locals; free = step.guard.free }

    -- It keeps what is known before it,
    pub step_keeps : (known : Known) → IsBelow known body.made.free → Grows place known known body.made after.made
    step_keeps Nowhere below = absurd below
    step_keeps Unknown below = record {
      items = step.guard.item ∷ [];
      appended = step.guard.appended;
      guarded = elsewhere place (item_code step.guard.item End) (guard_elsewhere place step.array step.index parts.thrown.text parts.throw body after step.guard End tt);
    }
    step_keeps (Inside array index) below = record {
      items = step.guard.item ∷ [];
      appended = step.guard.appended;
      guarded = keeps place array index (item_code step.guard.item End)
          (guard_keeps place step.array step.index parts.thrown.text parts.throw body after step.guard array index below.0 below.1 End tt)
          (guard_no_loop place step.array step.index parts.thrown.text parts.throw body after step.guard End tt);
    }

    -- and tells that its index is inside its array.
    pub step_tells : Grows place Unknown (Inside step.array step.index) body.made after.made
    step_tells = record {
      items = step.guard.item ∷ [];
      appended = step.guard.appended;
      guarded = behind_guard place step.array step.index parts.thrown.text parts.throw body after step.guard End Unknown (Inside step.array step.index)
          (ends (Inside step.array step.index) (Inside step.array step.index) (refl, refl));
    }

  -- ---- all tests before a statement

  abbrev pub are_sound : List Stmt → ℕ → Body → Bool
  are_sound stmts end body = each_sound (map statement_soundness stmts) g end body

  abbrev pub run : List Stmt → ℕ → Body → Within Body
  run stmts end body = plain.each (map running_of (map statement_soundness stmts)) g.site end body

  -- how statements behind tests go on, where this is known before them
  abbrev pub Rest : Known → Known → Body → Within Body → Type 0
  Rest known last body made = Makes (λ (z : Body). Grows place known last body.made z.made) made

  -- one test, and what is behind it
  test_then : (start last : Known) (access : Access) (parts : Parts) (stmts : List Stmt) (end : ℕ) (body : Body) → IsTest access parts → HasVariables access → are_sound (guard_of parts ∷ stmts) end body ≡ true
      → ((after : Body) → IsStep access parts body after → are_sound stmts end after ≡ true → (between : Known) × (Grows place start between body.made after.made × Rest between last after (run stmts end after)))
      → Rest start last body (run (guard_of parts ∷ stmts) end body)
  test_then start last access parts stmts end body test have is next =
      let x = statement_soundness (guard_of parts) in
      let q = and_parts (x.sound g end body) (where_made (x.running.run g.site end body) (are_sound stmts end)) is in
      makes_then (λ after. IsStep access parts body after × (are_sound stmts end after ≡ true)) (λ (z : Body). Grows place start last body.made z.made) (x.running.run g.site end body) _
      (with_sound (IsStep access parts body) (x.running.run g.site end body) (are_sound stmts end) (is_step access parts test have body (guard_sound parts end body q.0) end) q.1)
      (λ after step.
      let n = next after step.0 step.1 in
      makes_more (λ (z : Body). Grows place n.0 last after.made z.made) (λ (z : Body). Grows place start last body.made z.made)
      (λ z b. grows_both place start n.0 last body.made after.made z.made n.1.0 b) (run stmts end after) n.1.1)

  quiet_then : (first second third : Body) → IsQuiet first second → IsQuiet second third → IsQuiet first third
  quiet_then first second third a b = record { locals = b.locals ∙ a.locals; free = b.free ∙ a.free }

  below_on : (known : Known) (body after : Body) → IsQuiet body after → IsBelow known body.made.free → IsBelow known after.made.free
  below_on known body after quiet below = subst (IsBelow known) (sym quiet.free) below

  -- They keep what is known before them.
  pub tests_keep : (accesses : List Access) (tests : List Stmt) → AreTests IsTest accesses tests → AllOf HasVariables accesses → (known last : Known) (rest : List Stmt) (end : ℕ) (body : Body) → IsBelow known body.made.free
      → are_sound (tests ++ rest) end body ≡ true → ((after : Body) → IsQuiet body after → are_sound rest end after ≡ true → Rest known last after (run rest end after))
      → Rest known last body (run (tests ++ rest) end body)
  tests_keep _ _ placed.none have known last rest end body below is next = next body (record { locals = refl; free = refl }) is
  tests_keep _ _ (placed.one_more {accesses} {tests} access parts test more) have known last rest end body below is next =
      test_then known last access parts (tests ++ rest) end body test have.0 is
      (λ after step sound.
      let quiet = step_quiet access parts body after step in (
        known,
        (
          step_keeps access parts body after step known below,
          tests_keep accesses tests more have.1 known last rest end after (below_on known body after quiet below) sound (λ later q is. next later (quiet_then body after later quiet q) is),
        ),
      ))

  slots_on : (access : Access) (array index : ℕ) (body after : Body) → IsQuiet body after → AreInSlots site g body.locals body.made.free access array index → AreInSlots site g after.locals after.made.free access array index
  slots_on access array index body after quiet slots =
      subst (λ (locals : List (Local × Span)). AreInSlots site g locals after.made.free access array index) (sym quiet.locals)
      (subst (λ free. AreInSlots site g body.locals free access array index) (sym quiet.free) slots)

  -- Behind the test of one of these accesses, and those behind it, its index is inside its array.
  pub tests_tell : (tested : Access) (accesses : List Access) (tests : List Stmt) → AreTests IsTest accesses tests → IsAmong tested accesses → AllOf HasVariables accesses → (last : Known) (rest : List Stmt) (end : ℕ) (body : Body)
      → are_sound (tests ++ rest) end body ≡ true
      → ((array index : ℕ) (after : Body) → AreInSlots site g after.locals after.made.free tested array index → are_sound rest end after ≡ true → Rest (Inside array index) last after (run rest end after))
      → Rest Unknown last body (run (tests ++ rest) end body)
  tests_tell tested _ _ placed.none among have last rest end body is next = absurd among
  tests_tell tested _ _ (placed.one_more {accesses} {tests} access parts test more) among have last rest end body is next = ⊎_elim
      (λ same.
      test_then Unknown last access parts (tests ++ rest) end body test have.0 is
      (λ after step sound.
      let slots = slots_on access step.array step.index body after (step_quiet access parts body after step) step.in_slots in (
        Inside step.array step.index,
        (
          step_tells access parts body after step,
          tests_keep accesses tests more have.1 (Inside step.array step.index) last rest end after (slots.array_is.below, slots.index_is.below) sound
              (λ later quiet is.
              next step.array step.index later
              (subst (λ (a : Access). AreInSlots site g later.locals later.made.free a step.array step.index) (sym same) (slots_on access step.array step.index after later quiet slots)) is),
        ),
      )))
      (λ among.
      test_then Unknown last access parts (tests ++ rest) end body test have.0 is
      (λ after step sound. (Unknown, (step_keeps access parts body after step Unknown tt, tests_tell tested accesses tests more among have.1 last rest end after sound next))))
      among
