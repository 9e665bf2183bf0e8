-- Each step of a frame that is no operation leaves tasks that fit.
use Rattle.std.specs.Prelude.{◌≡◌, ℕ, zero, suc, ◌<◌, nat_lt, ◌==◌, Bool, true, false, ◌&&◌, if◌then◌else◌, List, Option, None, Some, unwrap_or, refl}
use Rattle.std.proofs.lemmas.Bool.Decides.{nat_tests}
use Rattle.std.proofs.Common.{arith, sym, ap, subst, ◌∙◌}
use Rattle.std.proofs.lemmas.Bool.{and_parts, false≢true}
use Rattle.ix_core.specs.declared.claim.Type_.{Type_}
use Rattle.ix_core.specs.declared.op.Test.{Test}
use Rattle.ix_core.specs.declared.program.Method.{Method}
use Rattle.ix_core.specs.declared.program.Program.{Program}
use Rattle.ix_core.specs.Code.{Code, Condition, End, Do, If, Break, Continue, Return, Throw, Loop, Known, Compare, Truth, Both, Either, Opposite}
use Rattle.ix_core.specs.Formed.{Ways, Answers, code_ways, condition_ways, operand_fits, reads, is_straight, is_straight_condition, return_fits, body_start}
use Rattle.ix_core.specs.Machine.{step_condition}
use Rattle.ix_core.specs.Tasks.{Tasks, Empty, Run, Ask, Decide, DecideTruth, Head, Again, Out, code_then, followed_by, behind_loop, next_turn}
use Rattle.ix_core.specs.Typed.{SlotsTyped}
use Rattle.ix_core.specs.TypedStates.{Gives, TurnFits, Fit, Running, Asking, Comparing, Reading, Turning, Returning, Leaving, Lead, Giving, Leads}
use Rattle.ix_core.specs.Types.{Types, Point, if_same, meeting, same_type, bool_type, types_below, says, says_below, keeps_types}
use Rattle.ix_core.proofs.Cases.{by_test, equal, differ}
use Rattle.ix_core.proofs.TypeLaws.{type_is}

-- ---- tasks behind a block

pub behind_code : (code : Code) (tasks : Tasks) → behind_loop (code_then code tasks) ≡ behind_loop tasks
behind_code End tasks = refl
behind_code (Do done rest) tasks = refl
behind_code (If asked first second rest) tasks = refl
behind_code (Break rest) tasks = refl
behind_code (Continue rest) tasks = refl
behind_code (Return value span rest) tasks = refl
behind_code (Throw name span rest) tasks = refl
behind_code (Loop test_first asked body next number scope rest) tasks = refl

pub turn_code : (code : Code) (tasks : Tasks) → next_turn (code_then code tasks) ≡ next_turn tasks
turn_code End tasks = refl
turn_code (Do done rest) tasks = refl
turn_code (If asked first second rest) tasks = refl
turn_code (Break rest) tasks = refl
turn_code (Continue rest) tasks = refl
turn_code (Return value span rest) tasks = refl
turn_code (Throw name span rest) tasks = refl
turn_code (Loop test_first asked body next number scope rest) tasks = refl

pub followed_code : (code : Code) (first tasks : Tasks) → followed_by (code_then code first) tasks ≡ code_then code (followed_by first tasks)
followed_code End first tasks = refl
followed_code (Do done rest) first tasks = refl
followed_code (If asked one other rest) first tasks = refl
followed_code (Break rest) first tasks = refl
followed_code (Continue rest) first tasks = refl
followed_code (Return value span rest) first tasks = refl
followed_code (Throw name span rest) first tasks = refl
followed_code (Loop test_first asked body next number scope rest) first tasks = refl

-- ---- points

some_types : {a b : Types} → ◌≡◌ {A = Point} (Some a) (Some b) → a ≡ b
some_types {a} {b} e = ap (λ (o : Point). unwrap_or o a) e

no_point : {t : Types} {A : Type 0} → ◌≡◌ {A = Point} None (Some t) → A
no_point e = absurd cc

module _ (program : Program) where
  pub gives_itself : (types : Types) → Gives program types types
  gives_itself types slots heap typed = typed

  same_slot : (ty other : Option Type_) (found : Type_) → if_same ty other ≡ Some found → (ty ≡ Some found) × (other ≡ Some found)
  same_slot None other found e = absurd cc
  same_slot (Some ty) None found e = absurd cc
  same_slot (Some ty) (Some other) found e = tested (same_type ty other) refl e
    where
      tested : (t : Bool) → same_type ty other ≡ t → (if t then Some ty else None) ≡ Some found → (Some ty ≡ Some found) × (Some other ≡ Some found)
      tested true is e = (e, subst (λ o. Some o ≡ Some found) (type_is ty other is) e)
      tested false is e = absurd cc

  -- each of two ways gives what is known where they meet
  pub meeting_first : (first second : Point) (types at : Types) → first ≡ Some types → meeting first second ≡ Some at → Gives program types at
  meeting_first None second types at is met slots heap typed slot ty e = no_point is
  meeting_first (Some known) None types at is met slots heap typed slot ty e = (subst (λ t. SlotsTyped program t slots heap) (some_types met) (subst (λ t. SlotsTyped program t slots heap) (sym (some_types is)) typed)) slot ty e
  meeting_first (Some known) (Some other) types at is met slots heap typed slot ty e =
      let here : if_same (known slot) (other slot) ≡ Some ty = subst (λ (t : Types). t slot ≡ Some ty) (sym (some_types met)) e in
      typed slot ty (subst (λ (t : Types). t slot ≡ Some ty) (some_types is) (same_slot (known slot) (other slot) ty here).0)

  pub meeting_second : (first second : Point) (types at : Types) → second ≡ Some types → meeting first second ≡ Some at → Gives program types at
  meeting_second None second types at is met slots heap typed slot ty e = (subst (λ t. SlotsTyped program t slots heap) (some_types (sym is ∙ met)) typed) slot ty e
  meeting_second (Some known) None types at is met slots heap typed slot ty e = no_point is
  meeting_second (Some known) (Some other) types at is met slots heap typed slot ty e =
      let here : if_same (known slot) (other slot) ≡ Some ty = subst (λ (t : Types). t slot ≡ Some ty) (sym (some_types met)) e in
      typed slot ty (subst (λ (t : Types). t slot ≡ Some ty) (some_types is) (same_slot (known slot) (other slot) ty here).1)

  met_first : (first second : Point) (types : Types) → first ≡ Some types → (at : Types) × (meeting first second ≡ Some at)
  met_first None second types is = no_point is
  met_first (Some known) None types is = (known, refl)
  met_first (Some known) (Some other) types is = ((λ slot. if_same (known slot) (other slot)), refl)

  met_second : (first second : Point) (types : Types) → second ≡ Some types → (at : Types) × (meeting first second ≡ Some at)
  met_second None second types is = (types, is)
  met_second (Some known) None types is = no_point is
  met_second (Some known) (Some other) types is = ((λ slot. if_same (known slot) (other slot)), refl)

  module _ (method : Method) (local_types : List Type_) where
    pub lead_from : (tasks : Tasks) (types given : Types) → Gives program types given → Lead program method local_types tasks given → Lead program method local_types tasks types
    lead_from tasks types given gives (Giving _ _ needed more fit) = Giving tasks types needed (λ slots heap typed. more slots heap (gives slots heap typed)) fit

    pub itself : (tasks : Tasks) (types : Types) → Fit program method local_types tasks types → Lead program method local_types tasks types
    itself tasks types fit = Giving tasks types types (gives_itself types) fit

    pub leads_first : (first second : Point) (tasks : Tasks) → Leads program method local_types (meeting first second) tasks → Leads program method local_types first tasks
    leads_first first second tasks leads types is =
        let met = met_first first second types is in
        lead_from tasks types met.0 (meeting_first first second types met.0 is met.1) (leads met.0 met.1)

    pub leads_second : (first second : Point) (tasks : Tasks) → Leads program method local_types (meeting first second) tasks → Leads program method local_types second tasks
    leads_second first second tasks leads types is =
        let met = met_second first second types is in
        lead_from tasks types met.0 (meeting_second first second types met.0 is met.1) (leads met.0 met.1)

    -- ---- blocks

    abbrev Ways_ : Bool → Code → Point → Ways
    Ways_ in_loop code point = code_ways program method local_types in_loop code point

    begun : (in_loop : Bool) (code : Code) (tasks : Tasks) (point : Point) → (Ways_ in_loop code point).fits ≡ true → Leads program method local_types (Ways_ in_loop code point).ends tasks
        → Leads program method local_types (Ways_ in_loop code point).breaks (behind_loop tasks) → Leads program method local_types (Ways_ in_loop code point).turns (next_turn tasks)
        → Leads program method local_types point (Run code tasks)
    begun in_loop code tasks None fits ends breaks turns types is = no_point is
    begun in_loop code tasks (Some known) fits ends breaks turns types is =
        subst (λ t. Lead program method local_types (Run code tasks) t) (some_types is) (itself (Run code tasks) known (Running in_loop code tasks known fits ends breaks turns))

    -- a block that fits, and then tasks that fit
    pub code_leads : (in_loop : Bool) (code : Code) (tasks : Tasks) (point : Point) → (Ways_ in_loop code point).fits ≡ true → Leads program method local_types (Ways_ in_loop code point).ends tasks
        → Leads program method local_types (Ways_ in_loop code point).breaks (behind_loop tasks) → Leads program method local_types (Ways_ in_loop code point).turns (next_turn tasks)
        → Leads program method local_types point (code_then code tasks)
    code_leads in_loop End tasks point fits ends breaks turns = ends
    code_leads in_loop (Do done rest) tasks point fits ends breaks turns = begun in_loop (Do done rest) tasks point fits ends breaks turns
    code_leads in_loop (If asked first second rest) tasks point fits ends breaks turns = begun in_loop (If asked first second rest) tasks point fits ends breaks turns
    code_leads in_loop (Break rest) tasks point fits ends breaks turns = begun in_loop (Break rest) tasks point fits ends breaks turns
    code_leads in_loop (Continue rest) tasks point fits ends breaks turns = begun in_loop (Continue rest) tasks point fits ends breaks turns
    code_leads in_loop (Return value span rest) tasks point fits ends breaks turns = begun in_loop (Return value span rest) tasks point fits ends breaks turns
    code_leads in_loop (Throw name span rest) tasks point fits ends breaks turns = begun in_loop (Throw name span rest) tasks point fits ends breaks turns
    code_leads in_loop (Loop test_first asked body next number scope rest) tasks point fits ends breaks turns = begun in_loop (Loop test_first asked body next number scope rest) tasks point fits ends breaks turns

    -- ---- blocks that lie in no loop have no way to one

    abbrev IsStraight : Ways → Type 0
    IsStraight ways = (ways.breaks ≡ None) × (ways.turns ≡ None)

    meeting_none : (first second third : Point) → first ≡ None → second ≡ None → third ≡ None → meeting first (meeting second third) ≡ None
    meeting_none first second third a b c = rw (a, b, c) refl

    pub stays_straight : (code : Code) (point : Point) → (Ways_ false code point).fits ≡ true → IsStraight (Ways_ false code point)
    stays_straight End point fits = (refl, refl)
    stays_straight (Do done rest) point fits = stays_straight rest _ (and_parts _ _ fits).1
    stays_straight (If asked first second rest) point fits =
        let answers = condition_ways program method local_types asked point in
        let one = and_parts answers.fits ((Ways_ false first answers.holds).fits && ((Ways_ false second answers.fails).fits && (Ways_ false rest (meeting (Ways_ false first answers.holds).ends (Ways_ false second answers.fails).ends)).fits)) fits in
        let two = and_parts (Ways_ false first answers.holds).fits ((Ways_ false second answers.fails).fits && (Ways_ false rest (meeting (Ways_ false first answers.holds).ends (Ways_ false second answers.fails).ends)).fits) one.1 in
        let three = and_parts (Ways_ false second answers.fails).fits (Ways_ false rest (meeting (Ways_ false first answers.holds).ends (Ways_ false second answers.fails).ends)).fits two.1 in
        let a = stays_straight first answers.holds two.0 in
        let b = stays_straight second answers.fails three.0 in
        let c = stays_straight rest (meeting (Ways_ false first answers.holds).ends (Ways_ false second answers.fails).ends) three.1 in
        (meeting_none _ _ _ a.0 b.0 c.0, meeting_none _ _ _ a.1 b.1 c.1)
    stays_straight (Break rest) point fits = absurd (false≢true fits)
    stays_straight (Continue rest) point fits = absurd (false≢true fits)
    stays_straight (Return value span rest) point fits = stays_straight rest None (and_parts (return_fits program method point value) (Ways_ false rest None).fits fits).1
    stays_straight (Throw name span rest) point fits = stays_straight rest None fits
    stays_straight (Loop test_first asked body next number scope rest) point fits = stays_straight rest _ (and_parts _ _ fits).1

    none_leads : (point : Point) (tasks : Tasks) → point ≡ None → Leads program method local_types point tasks
    none_leads point tasks is types e = no_point (sym is ∙ e)

    -- a block that lies in no loop, and then tasks that fit
    pub straight_leads : (code : Code) (tasks : Tasks) (point : Point) → (Ways_ false code point).fits ≡ true → Leads program method local_types (Ways_ false code point).ends tasks → Leads program method local_types point (code_then code tasks)
    straight_leads code tasks point fits ends =
        let none = stays_straight code point fits in
        code_leads false code tasks point fits ends (none_leads _ (behind_loop tasks) none.0) (none_leads _ (next_turn tasks) none.1)

    -- ---- conditions

    abbrev Answers_ : Condition → Point → Answers
    Answers_ asked point = condition_ways program method local_types asked point

    asks : (asked : Condition) (first second tasks : Tasks) (point : Point) → (Answers_ asked point).fits ≡ true → Leads program method local_types (Answers_ asked point).holds (followed_by first tasks)
        → Leads program method local_types (Answers_ asked point).fails (followed_by second tasks) → Leads program method local_types point (Ask asked first second tasks)
    asks asked first second tasks None fits holds fails types is = no_point is
    asks asked first second tasks (Some known) fits holds fails types is =
        subst (λ t. Lead program method local_types (Ask asked first second tasks) t) (some_types is) (itself (Ask asked first second tasks) known (Asking asked first second tasks known fits holds fails))

    compares : (test : Test) (first second tasks : Tasks) (point : Point) → operand_fits program method point test.left test.ty ≡ true → operand_fits program method point test.right test.ty ≡ true
        → Leads program method local_types point (followed_by first tasks) → Leads program method local_types point (followed_by second tasks) → Leads program method local_types point (Decide test first second tasks)
    compares test first second tasks None left right holds fails types is = no_point is
    compares test first second tasks (Some known) left right holds fails types is =
        subst (λ t. Lead program method local_types (Decide test first second tasks) t) (some_types is)
        (itself (Decide test first second tasks) known (Comparing test first second tasks known left right (holds known refl) (fails known refl)))

    reads_truth : (slot : ℕ) (first second tasks : Tasks) (point : Point) → reads program method point slot bool_type ≡ true
        → Leads program method local_types point (followed_by first tasks) → Leads program method local_types point (followed_by second tasks) → Leads program method local_types point (DecideTruth slot first second tasks)
    reads_truth slot first second tasks None fits holds fails types is = no_point is
    reads_truth slot first second tasks (Some known) fits holds fails types is =
        subst (λ t. Lead program method local_types (DecideTruth slot first second tasks) t) (some_types is)
        (itself (DecideTruth slot first second tasks) known (Reading slot first second tasks known fits (holds known refl) (fails known refl)))

    -- what a condition that is asked becomes
    pub condition_step : (asked : Condition) (first second tasks : Tasks) (point : Point) → (Answers_ asked point).fits ≡ true → Leads program method local_types (Answers_ asked point).holds (followed_by first tasks)
        → Leads program method local_types (Answers_ asked point).fails (followed_by second tasks) → Leads program method local_types point (step_condition asked first second tasks)
    condition_step (Known true) first second tasks point fits holds fails = holds
    condition_step (Known false) first second tasks point fits holds fails = fails
    condition_step (Compare code test) first second tasks point fits holds fails =
        let before = Ways_ false code point in
        let one = and_parts (is_straight code) (before.fits && (operand_fits program method before.ends test.left test.ty && operand_fits program method before.ends test.right test.ty)) fits in
        let two = and_parts before.fits (operand_fits program method before.ends test.left test.ty && operand_fits program method before.ends test.right test.ty) one.1 in
        let three = and_parts (operand_fits program method before.ends test.left test.ty) (operand_fits program method before.ends test.right test.ty) two.1 in
        straight_leads code (Decide test first second tasks) point two.0 (compares test first second tasks before.ends three.0 three.1 holds fails)
    condition_step (Truth code slot) first second tasks point fits holds fails =
        let before = Ways_ false code point in
        let one = and_parts (is_straight code) (before.fits && reads program method before.ends slot bool_type) fits in
        let two = and_parts before.fits (reads program method before.ends slot bool_type) one.1 in
        straight_leads code (DecideTruth slot first second tasks) point two.0 (reads_truth slot first second tasks before.ends two.1 holds fails)
    condition_step (Both asked later) first second tasks point fits holds fails =
        let one = Answers_ asked point in
        let parts = and_parts one.fits (Answers_ later one.holds).fits fits in
        asks asked (Ask later first second Empty) second tasks point parts.0
        (asks later first second tasks one.holds parts.1 holds (leads_second one.fails (Answers_ later one.holds).fails (followed_by second tasks) fails))
        (leads_first one.fails (Answers_ later one.holds).fails (followed_by second tasks) fails)
    condition_step (Either asked later) first second tasks point fits holds fails =
        let one = Answers_ asked point in
        let parts = and_parts one.fits (Answers_ later one.fails).fits fits in
        asks asked first (Ask later first second Empty) tasks point parts.0
        (leads_first one.holds (Answers_ later one.fails).holds (followed_by first tasks) holds)
        (asks later first second tasks one.fails parts.1 (leads_second one.holds (Answers_ later one.fails).holds (followed_by first tasks) holds) fails)
    condition_step (Opposite asked) first second tasks point fits holds fails = asks asked second first tasks point fits fails holds

    -- ---- loops

    says_at : (count : ℕ) (types kept : Types) (slot : ℕ) → slot < count → says_below count types kept ≡ true → says (types slot) (kept slot) ≡ true
    says_at zero types kept slot lt e = absurd (omega (arith, lt))
    says_at (suc count) types kept slot lt e =
        let parts = and_parts (says (types count) (kept count)) (says_below count types kept) e in
        by_test (slot == count)
        (λ t. subst (λ n. says (types n) (kept n) ≡ true) (sym (equal slot count t)) parts.0)
        (λ t. let apart = differ slot count t in says_at count types kept slot (omega (arith, lt, apart)) parts.1)

    said : (known wanted : Option Type_) (ty : Type_) → says known wanted ≡ true → wanted ≡ Some ty → known ≡ Some ty
    said known None ty e is = absurd cc
    said None (Some wanted) ty e is = absurd (false≢true e)
    said (Some known) (Some wanted) ty e is = subst (λ t. Some t ≡ Some ty) (sym (type_is known wanted e)) is

    below_scope : (scope : ℕ) (types : Types) (slot : ℕ) (ty : Type_) → types_below scope types slot ≡ Some ty → (slot < scope) × (types slot ≡ Some ty)
    below_scope scope types slot ty e =
        by_test (nat_lt slot scope)
        (λ t. (grind (arith, nat_tests), (let f : types_below scope types slot ≡ types slot = rw t refl in sym f ∙ e)))
        (λ t. let f : types_below scope types slot ≡ None = rw t refl in absurd (none_type (sym f ∙ e)))
      where
        none_type : ◌≡◌ {A = Option Type_} None (Some ty) → ⊥
        none_type e = absurd cc

    -- what is kept at a turn is given by what the turn leaves
    keeps_given : (scope : ℕ) (types : Types) (point : Point) → keeps_types scope point (Some (types_below scope types)) ≡ true → (at : Types) → point ≡ Some at → Gives program at (types_below scope types)
    keeps_given scope types None e at is slots heap typed slot ty h = no_point is
    keeps_given scope types (Some known) e at is slots heap typed slot ty h =
        let below = below_scope scope types slot ty h in
        let told : known slot ≡ Some ty = said (known slot) (types_below scope types slot) ty (says_at scope known (types_below scope types) slot below.0 e) h in
        typed slot ty (subst (λ (t : Types). t slot ≡ Some ty) (some_types is) told)

    gives_below : (scope : ℕ) (types : Types) → Gives program types (types_below scope types)
    gives_below scope types slots heap typed slot ty h = typed slot ty (below_scope scope types slot ty h).1

    -- a loop's head asks its condition
    pub head_step : (asked : Condition) (body next : Code) (tasks : Tasks) (kept : Types) (turn : TurnFits program method local_types kept asked body next)
        → Leads program method local_types (Answers_ asked (Some kept)).fails tasks → Leads program method local_types (Ways_ true body turn.start).breaks (behind_loop tasks)
        → Lead program method local_types (Ask asked (code_then body (Again asked body next Empty)) Empty tasks) kept
    head_step asked body next tasks kept turn fails breaks =
        let again : Lead program method local_types (Again asked body next tasks) kept = itself (Again asked body next tasks) kept (Returning asked body next tasks kept turn fails breaks) in
        let back : Leads program method local_types (meeting (Ways_ true body turn.start).ends (Ways_ true body turn.start).turns) (Again asked body next tasks)
        = λ at is. lead_from (Again asked body next tasks) at kept (turn.body_keeps at is) again in
        let turns : Leads program method local_types turn.start (code_then body (Again asked body next tasks))
        = code_leads true body (Again asked body next tasks) turn.start turn.body_fits (leads_first _ _ (Again asked body next tasks) back) breaks (leads_second _ _ (Again asked body next tasks) back) in
        asks asked (code_then body (Again asked body next Empty)) Empty tasks (Some kept) turn.asked_fits
        (λ at is.
        let first = turn.begins at is in
        lead_from (followed_by (code_then body (Again asked body next Empty)) tasks) at first.0 first.2
        (subst (λ t. Lead program method local_types t first.0) (sym (followed_code body (Again asked body next Empty) tasks)) (turns first.0 first.1)))
        fails kept refl

    -- the way back runs the part before the next turn
    pub again_step : (asked : Condition) (body next : Code) (tasks : Tasks) (kept : Types) (turn : TurnFits program method local_types kept asked body next)
        → Leads program method local_types (Answers_ asked (Some kept)).fails tasks → Leads program method local_types (Ways_ true body turn.start).breaks (behind_loop tasks)
        → Lead program method local_types (code_then next (Head asked body next tasks)) kept
    again_step asked body next tasks kept turn fails breaks =
        straight_leads next (Head asked body next tasks) (Some kept) turn.next_fits
        (λ at is. lead_from (Head asked body next tasks) at kept (turn.next_keeps at is) (itself (Head asked body next tasks) kept (Turning asked body next tasks kept turn fails breaks)))
        kept refl

    -- ---- statements

    pub if_step : (in_loop : Bool) (asked : Condition) (first second rest : Code) (tasks : Tasks) (types : Types) → (Ways_ in_loop (If asked first second rest) (Some types)).fits ≡ true
        → Leads program method local_types (Ways_ in_loop (If asked first second rest) (Some types)).ends tasks → Leads program method local_types (Ways_ in_loop (If asked first second rest) (Some types)).breaks (behind_loop tasks)
        → Leads program method local_types (Ways_ in_loop (If asked first second rest) (Some types)).turns (next_turn tasks)
        → Lead program method local_types (Ask asked (code_then first Empty) (code_then second Empty) (code_then rest tasks)) types
    if_step in_loop asked first second rest tasks types fits ends breaks turns =
        let answers = Answers_ asked (Some types) in
        let one = Ways_ in_loop first answers.holds in
        let two = Ways_ in_loop second answers.fails in
        let three = Ways_ in_loop rest (meeting one.ends two.ends) in
        let a = and_parts answers.fits (one.fits && (two.fits && three.fits)) fits in
        let b = and_parts one.fits (two.fits && three.fits) a.1 in
        let c = and_parts two.fits three.fits b.1 in
        let behind = leads_second one.breaks (meeting two.breaks three.breaks) (behind_loop tasks) breaks in
        let turning = leads_second one.turns (meeting two.turns three.turns) (next_turn tasks) turns in
        let later : Leads program method local_types (meeting one.ends two.ends) (code_then rest tasks)
        = code_leads in_loop rest tasks (meeting one.ends two.ends) c.1 ends (leads_second two.breaks three.breaks (behind_loop tasks) behind) (leads_second two.turns three.turns (next_turn tasks) turning) in
        asks asked (code_then first Empty) (code_then second Empty) (code_then rest tasks) (Some types) a.0
        (subst (λ t. Leads program method local_types answers.holds t) (sym (followed_code first Empty (code_then rest tasks)))
        (code_leads in_loop first (code_then rest tasks) answers.holds b.0 (leads_first one.ends two.ends (code_then rest tasks) later)
        (subst (λ t. Leads program method local_types one.breaks t) (sym (behind_code rest tasks)) (leads_first one.breaks (meeting two.breaks three.breaks) (behind_loop tasks) breaks))
        (subst (λ t. Leads program method local_types one.turns t) (sym (turn_code rest tasks)) (leads_first one.turns (meeting two.turns three.turns) (next_turn tasks) turns))))
        (subst (λ t. Leads program method local_types answers.fails t) (sym (followed_code second Empty (code_then rest tasks)))
        (code_leads in_loop second (code_then rest tasks) answers.fails c.0 (leads_second one.ends two.ends (code_then rest tasks) later)
        (subst (λ t. Leads program method local_types two.breaks t) (sym (behind_code rest tasks)) (leads_first two.breaks three.breaks (behind_loop tasks) behind))
        (subst (λ t. Leads program method local_types two.turns t) (sym (turn_code rest tasks)) (leads_first two.turns three.turns (next_turn tasks) turning))))
        types refl

    pub loop_step : (in_loop test_first : Bool) (asked : Condition) (body next : Code) (number scope : ℕ) (rest : Code) (tasks : Tasks) (types : Types) → (Ways_ in_loop (Loop test_first asked body next number scope rest) (Some types)).fits ≡ true
        → Leads program method local_types (Ways_ in_loop (Loop test_first asked body next number scope rest) (Some types)).ends tasks
        → Leads program method local_types (Ways_ in_loop (Loop test_first asked body next number scope rest) (Some types)).breaks (behind_loop tasks)
        → Leads program method local_types (Ways_ in_loop (Loop test_first asked body next number scope rest) (Some types)).turns (next_turn tasks)
        → Lead program method local_types (if test_first then Head asked body next (Out (code_then rest tasks)) else code_then body (Again asked body next (Out (code_then rest tasks)))) types
    loop_step in_loop test_first asked body next number scope rest tasks types fits ends breaks turns =
        let kept : Types = types_below scope types in
        let answers = Answers_ asked (Some kept) in
        let start : Point = body_start test_first answers (Some kept) in
        let one = Ways_ true body start in
        let two = Ways_ false next (Some kept) in
        let straight : Bool = is_straight_condition asked && is_straight next in
        let three = Ways_ in_loop rest (meeting answers.fails one.breaks) in
        let last : Bool = keeps_types scope (meeting one.ends one.turns) (Some kept) && keeps_types scope two.ends (Some kept) in
        let a = and_parts (answers.fits && (one.fits && (two.fits && (straight && (keeps_types scope answers.holds (Some kept) && last))))) three.fits fits in
        let b = and_parts answers.fits (one.fits && (two.fits && (straight && (keeps_types scope answers.holds (Some kept) && last)))) a.0 in
        let c = and_parts one.fits (two.fits && (straight && (keeps_types scope answers.holds (Some kept) && last))) b.1 in
        let d = and_parts two.fits (straight && (keeps_types scope answers.holds (Some kept) && last)) c.1 in
        let e = and_parts straight (keeps_types scope answers.holds (Some kept) && last) d.1 in
        let f = and_parts (keeps_types scope answers.holds (Some kept)) last e.1 in
        let g = and_parts (keeps_types scope (meeting one.ends one.turns) (Some kept)) (keeps_types scope two.ends (Some kept)) f.1 in
        let behind : Tasks = code_then rest tasks in
        let later : Leads program method local_types (meeting answers.fails one.breaks) behind = code_leads in_loop rest tasks (meeting answers.fails one.breaks) a.1 ends breaks turns in
        let outs : Leads program method local_types answers.fails (Out behind) = λ at is. out_lead at (leads_first answers.fails one.breaks behind later at is) in
        let leave : Leads program method local_types one.breaks behind = leads_second answers.fails one.breaks behind later in
        let turn : TurnFits program method local_types kept asked body next = record {
          start = start;
          asked_fits = b.0;
          begins = begins test_first answers kept (keeps_given scope types answers.holds f.0);
          body_fits = c.0;
          body_keeps = keeps_given scope types (meeting one.ends one.turns) g.0;
          next_fits = d.0;
          next_keeps = keeps_given scope types two.ends g.1;
        } in
        let head : Lead program method local_types (Head asked body next (Out behind)) kept = itself (Head asked body next (Out behind)) kept (Turning asked body next (Out behind) kept turn outs leave) in
        let again : Lead program method local_types (Again asked body next (Out behind)) kept = itself (Again asked body next (Out behind)) kept (Returning asked body next (Out behind) kept turn outs leave) in
        by_test test_first
        (λ t. subst (λ x. Lead program method local_types (if x then Head asked body next (Out behind) else code_then body (Again asked body next (Out behind))) types) (sym t) (lead_from _ types kept (gives_below scope types) head))
        (λ t.
        let from_kept : start ≡ Some kept = rw t refl in
        let back : Leads program method local_types (meeting one.ends one.turns) (Again asked body next (Out behind)) = λ at is. lead_from _ at kept (turn.body_keeps at is) again in
        subst (λ x. Lead program method local_types (if x then Head asked body next (Out behind) else code_then body (Again asked body next (Out behind))) types) (sym t)
        (lead_from _ types kept (gives_below scope types)
        (code_leads true body (Again asked body next (Out behind)) start c.0 (leads_first one.ends one.turns (Again asked body next (Out behind)) back) leave (leads_second one.ends one.turns (Again asked body next (Out behind)) back) kept from_kept)))
      where
        out_lead : {behind : Tasks} (at : Types) → Lead program method local_types behind at → Lead program method local_types (Out behind) at
        out_lead {behind} at (Giving _ _ needed gives fit) = Giving (Out behind) at needed gives (Leaving behind needed fit)

        begins : (first : Bool) (answers : Answers) (kept : Types) → ((at : Types) → answers.holds ≡ Some at → Gives program at kept) → (at : Types) → answers.holds ≡ Some at → (begun : Types) × (body_start first answers (Some kept) ≡ Some begun) × Gives program at begun
        begins true answers kept given at is = (at, is, gives_itself at)
        begins false answers kept given at is = (kept, refl, given at is)
