-- A frame's moves leave at most one call of the parent's constructor, and none behind it.
use Rattle.std.specs.Prelude.{◌≡◌, ℕ, ◌+◌, ◌≤◌, Bool, true, false, if◌then◌else◌, refl}
use Rattle.std.proofs.Common.{arith, ap}
use Rattle.ix_core.specs.declared.op.Op.{Op}
use Rattle.ix_core.specs.Code.{Code, End, Do, If, Break, Continue, Return, Throw, Loop, Condition, Known, Compare, Truth, Both, Either, Opposite}
use Rattle.ix_core.specs.Formed.{super_calls, super_calls_in, own_super_calls, is_super_call, one_if}
use Rattle.ix_core.specs.Machine.{step_condition}
use Rattle.ix_core.specs.Tasks.{Tasks, Empty, Run, Ask, Decide, DecideTruth, Head, Again, Out, code_then, followed_by, behind_loop, next_turn}
use Rattle.ix_soundness.specs.Supers.{SuperEnds, Supers}

own_fewer : (code : Code) → own_super_calls code ≤ super_calls code
own_fewer End = omega (arith)
own_fewer (Do done rest) = let h = own_fewer rest in omega (arith, h)
own_fewer (If asked first second rest) = let h = own_fewer rest in omega (arith, h)
own_fewer (Break rest) = own_fewer rest
own_fewer (Continue rest) = own_fewer rest
own_fewer (Return value span rest) = own_fewer rest
own_fewer (Throw name span rest) = own_fewer rest
own_fewer (Loop test_first asked body next number scope rest) = let h = own_fewer rest in omega (arith, h)

-- code without any
pub none_ends : (new : Bool) (code : Code) (tasks : Tasks) → super_calls code ≡ 0 → SuperEnds new code tasks
none_ends false code tasks none = none
none_ends true code Empty none = let h = own_fewer code in (omega (arith, h, none), omega (arith, h, none))
none_ends true code (Run other tasks) none = none
none_ends true code (Ask asked first second tasks) none = none
none_ends true code (Decide test first second tasks) none = none
none_ends true code (DecideTruth slot first second tasks) none = none
none_ends true code (Head asked body next tasks) none = none
none_ends true code (Again asked body next tasks) none = none
none_ends true code (Out tasks) none = none

-- an item's parts have none, and the rest of the block has what there was
pub rest_ends : (new : Bool) (code rest : Code) (tasks : Tasks) (parts : ℕ) → super_calls code ≡ parts + super_calls rest → own_super_calls code ≡ own_super_calls rest → SuperEnds new code tasks → (parts ≡ 0) × SuperEnds new rest tasks
rest_ends false code rest tasks parts all own ends = (omega (arith, all, ends), omega (arith, all, ends))
rest_ends true code rest Empty parts all own ends =
    let h = own_fewer rest in let a = ends.0 in let b = ends.1 in
    (omega (arith, h, a, all, own), (omega (arith, h, a, all, own), omega (arith, b, own)))
rest_ends true code rest (Run other tasks) parts all own ends = (omega (arith, all, ends), omega (arith, all, ends))
rest_ends true code rest (Ask asked first second tasks) parts all own ends = (omega (arith, all, ends), omega (arith, all, ends))
rest_ends true code rest (Decide test first second tasks) parts all own ends = (omega (arith, all, ends), omega (arith, all, ends))
rest_ends true code rest (DecideTruth slot first second tasks) parts all own ends = (omega (arith, all, ends), omega (arith, all, ends))
rest_ends true code rest (Head asked body next tasks) parts all own ends = (omega (arith, all, ends), omega (arith, all, ends))
rest_ends true code rest (Again asked body next tasks) parts all own ends = (omega (arith, all, ends), omega (arith, all, ends))
rest_ends true code rest (Out tasks) parts all own ends = (omega (arith, all, ends), omega (arith, all, ends))

pub do_ends : (new : Bool) (done : Op) (rest : Code) (tasks : Tasks) → is_super_call done.kind ≡ false → SuperEnds new (Do done rest) tasks → SuperEnds new rest tasks
do_ends new done rest tasks plain ends =
    let all = ap (λ b. one_if b + super_calls rest) plain in
    let own = ap (λ b. one_if b + own_super_calls rest) plain in
    (rest_ends new (Do done rest) rest tasks 0 all (omega (arith, own)) ends).1

-- the call itself is still to come, and there is none behind it
pub super_ends : (new : Bool) (done : Op) (rest : Code) (tasks : Tasks) → is_super_call done.kind ≡ true → SuperEnds new (Do done rest) tasks → (new ≡ true) × (super_calls rest ≡ 0)
super_ends false done rest tasks is ends = absurd (one (ap (λ b. one_if b + super_calls rest) is) ends)
  where
    one : one_if (is_super_call done.kind) + super_calls rest ≡ 1 + super_calls rest → one_if (is_super_call done.kind) + super_calls rest ≡ 0 → ⊥
    one e f = omega (arith, e, f)
super_ends true done rest tasks is ends = (refl, by_tasks tasks ends)
  where
    all : one_if (is_super_call done.kind) + super_calls rest ≡ 1 + super_calls rest
    all = ap (λ b. one_if b + super_calls rest) is

    own : one_if (is_super_call done.kind) + own_super_calls rest ≡ 1 + own_super_calls rest
    own = ap (λ b. one_if b + own_super_calls rest) is

    none : one_if (is_super_call done.kind) + super_calls rest ≡ 0 → super_calls rest ≡ 0
    none e = let a = all in omega (arith, e, a)

    by_tasks : (tasks : Tasks) → SuperEnds true (Do done rest) tasks → super_calls rest ≡ 0
    by_tasks Empty ends = let a = all in let b = own in let c = ends.0 in let d = ends.1 in omega (arith, a, b, c, d)
    by_tasks (Run other more) ends = none ends
    by_tasks (Ask asked first second more) ends = none ends
    by_tasks (Decide test first second more) ends = none ends
    by_tasks (DecideTruth slot first second more) ends = none ends
    by_tasks (Head asked body next more) ends = none ends
    by_tasks (Again asked body next more) ends = none ends
    by_tasks (Out more) ends = none ends

-- the call is an item of the body itself, behind which there are no tasks
pub super_last : (new : Bool) (done : Op) (rest : Code) (tasks : Tasks) → is_super_call done.kind ≡ true → SuperEnds new (Do done rest) tasks → Supers false tasks
super_last new done rest tasks is ends = by_tasks new tasks ends
  where
    some : {A : Type 0} → one_if (is_super_call done.kind) + super_calls rest ≡ 0 → A
    some e = let a = ap (λ b. one_if b + super_calls rest) is in absurd (omega (arith, e, a))

    by_tasks : (new : Bool) (tasks : Tasks) → SuperEnds new (Do done rest) tasks → Supers false tasks
    by_tasks new Empty ends = tt
    by_tasks false (Run other more) ends = some ends
    by_tasks false (Ask asked first second more) ends = some ends
    by_tasks false (Decide test first second more) ends = some ends
    by_tasks false (DecideTruth slot first second more) ends = some ends
    by_tasks false (Head asked body next more) ends = some ends
    by_tasks false (Again asked body next more) ends = some ends
    by_tasks false (Out more) ends = some ends
    by_tasks true (Run other more) ends = some ends
    by_tasks true (Ask asked first second more) ends = some ends
    by_tasks true (Decide test first second more) ends = some ends
    by_tasks true (DecideTruth slot first second more) ends = some ends
    by_tasks true (Head asked body next more) ends = some ends
    by_tasks true (Again asked body next more) ends = some ends
    by_tasks true (Out more) ends = some ends

-- ---- tasks

pub code_supers : (new : Bool) (code : Code) (tasks : Tasks) → SuperEnds new code tasks → Supers new tasks → Supers new (code_then code tasks)
code_supers new End tasks ends all = all
code_supers new (Do done rest) tasks ends all = (ends, all)
code_supers new (If asked first second rest) tasks ends all = (ends, all)
code_supers new (Break rest) tasks ends all = (ends, all)
code_supers new (Continue rest) tasks ends all = (ends, all)
code_supers new (Return value span rest) tasks ends all = (ends, all)
code_supers new (Throw name span rest) tasks ends all = (ends, all)
code_supers new (Loop test_first asked body next number scope rest) tasks ends all = (ends, all)

none_supers : (new : Bool) (tasks : Tasks) → Supers false tasks → Supers new tasks
none_supers new Empty all = tt
none_supers new (Run code tasks) all = (none_ends new code tasks all.0, none_supers new tasks all.1)
none_supers new (Ask asked first second tasks) all = (all.0, all.1, all.2, none_supers new tasks all.3)
none_supers new (Decide test first second tasks) all = (all.0, all.1, none_supers new tasks all.2)
none_supers new (DecideTruth slot first second tasks) all = (all.0, all.1, none_supers new tasks all.2)
none_supers new (Head asked body next tasks) all = (all.0, all.1, all.2, none_supers new tasks all.3)
none_supers new (Again asked body next tasks) all = (all.0, all.1, all.2, none_supers new tasks all.3)
none_supers new (Out tasks) all = none_supers new tasks all

pub followed_supers : (new : Bool) (first tasks : Tasks) → Supers false first → Supers new tasks → Supers new (followed_by first tasks)
followed_supers new Empty tasks front all = all
followed_supers new (Run code rest) tasks front all = (none_ends new code (followed_by rest tasks) front.0, followed_supers new rest tasks front.1 all)
followed_supers new (Ask asked first second rest) tasks front all = (front.0, front.1, front.2, followed_supers new rest tasks front.3 all)
followed_supers new (Decide test first second rest) tasks front all = (front.0, front.1, followed_supers new rest tasks front.2 all)
followed_supers new (DecideTruth slot first second rest) tasks front all = (front.0, front.1, followed_supers new rest tasks front.2 all)
followed_supers new (Head asked body next rest) tasks front all = (front.0, front.1, front.2, followed_supers new rest tasks front.3 all)
followed_supers new (Again asked body next rest) tasks front all = (front.0, front.1, front.2, followed_supers new rest tasks front.3 all)
followed_supers new (Out rest) tasks front all = followed_supers new rest tasks front all

pub behind_supers : (new : Bool) (tasks : Tasks) → Supers new tasks → Supers new (behind_loop tasks)
behind_supers new Empty all = tt
behind_supers new (Run code tasks) all = behind_supers new tasks all.1
behind_supers new (Ask asked first second tasks) all = behind_supers new tasks all.3
behind_supers new (Decide test first second tasks) all = behind_supers new tasks all.2
behind_supers new (DecideTruth slot first second tasks) all = behind_supers new tasks all.2
behind_supers new (Head asked body next tasks) all = behind_supers new tasks all.3
behind_supers new (Again asked body next tasks) all = behind_supers new tasks all.3
behind_supers new (Out tasks) all = all

pub turn_supers : (new : Bool) (tasks : Tasks) → Supers new tasks → Supers new (next_turn tasks)
turn_supers new Empty all = tt
turn_supers new (Run code tasks) all = turn_supers new tasks all.1
turn_supers new (Ask asked first second tasks) all = turn_supers new tasks all.3
turn_supers new (Decide test first second tasks) all = turn_supers new tasks all.2
turn_supers new (DecideTruth slot first second tasks) all = turn_supers new tasks all.2
turn_supers new (Head asked body next tasks) all = turn_supers new tasks all.3
turn_supers new (Again asked body next tasks) all = all
turn_supers new (Out tasks) all = turn_supers new tasks all

-- ---- moves that do no operation

pub if_supers : (new : Bool) (asked : Condition) (first second rest : Code) (tasks : Tasks) → Supers new (Run (If asked first second rest) tasks) → Supers new (Ask asked (code_then first Empty) (code_then second Empty) (code_then rest tasks))
if_supers new asked first second rest tasks all =
    let parts = rest_ends new (If asked first second rest) rest tasks (super_calls_in asked + super_calls first + super_calls second) refl refl all.0 in
    let none = parts.0 in
    (omega (arith, none), code_supers false first Empty (omega (arith, none)) tt, code_supers false second Empty (omega (arith, none)) tt, code_supers new rest tasks parts.1 all.1)

pub loop_supers : (new test_first : Bool) (asked : Condition) (body next : Code) (number scope : ℕ) (rest : Code) (tasks : Tasks) → Supers new (Run (Loop test_first asked body next number scope rest) tasks)
    → Supers new (if test_first then Head asked body next (Out (code_then rest tasks)) else code_then body (Again asked body next (Out (code_then rest tasks))))
loop_supers new true asked body next number scope rest tasks all =
    let parts = rest_ends new (Loop true asked body next number scope rest) rest tasks (super_calls_in asked + super_calls body + super_calls next) refl refl all.0 in
    let none = parts.0 in (omega (arith, none), omega (arith, none), omega (arith, none), code_supers new rest tasks parts.1 all.1)
loop_supers new false asked body next number scope rest tasks all =
    let parts = rest_ends new (Loop false asked body next number scope rest) rest tasks (super_calls_in asked + super_calls body + super_calls next) refl refl all.0 in
    let none = parts.0 in
    code_supers new body (Again asked body next (Out (code_then rest tasks))) (none_ends new body (Again asked body next (Out (code_then rest tasks))) (omega (arith, none)))
    (omega (arith, none), omega (arith, none), omega (arith, none), code_supers new rest tasks parts.1 all.1)

pub condition_supers : (new : Bool) (asked : Condition) (first second tasks : Tasks) → Supers new (Ask asked first second tasks) → Supers new (step_condition asked first second tasks)
condition_supers new (Known true) first second tasks all = followed_supers new first tasks all.1 all.3
condition_supers new (Known false) first second tasks all = followed_supers new second tasks all.2 all.3
condition_supers new (Compare code test) first second tasks all = code_supers new code (Decide test first second tasks) (none_ends new code (Decide test first second tasks) all.0) (all.1, all.2, all.3)
condition_supers new (Truth code slot) first second tasks all = code_supers new code (DecideTruth slot first second tasks) (none_ends new code (DecideTruth slot first second tasks) all.0) (all.1, all.2, all.3)
condition_supers new (Both asked later) first second tasks all = let none = all.0 in (omega (arith, none), (omega (arith, none), all.1, all.2, tt), all.2, all.3)
condition_supers new (Either asked later) first second tasks all = let none = all.0 in (omega (arith, none), all.1, (omega (arith, none), all.1, all.2, tt), all.3)
condition_supers new (Opposite asked) first second tasks all = (all.0, all.2, all.1, all.3)

pub head_supers : (new : Bool) (asked : Condition) (body next : Code) (tasks : Tasks) → Supers new (Head asked body next tasks) → Supers new (Ask asked (code_then body (Again asked body next Empty)) Empty tasks)
head_supers new asked body next tasks all = (all.0, code_supers false body (Again asked body next Empty) all.1 (all.0, all.1, all.2, tt), tt, all.3)

pub again_supers : (new : Bool) (asked : Condition) (body next : Code) (tasks : Tasks) → Supers new (Again asked body next tasks) → Supers new (code_then next (Head asked body next tasks))
again_supers new asked body next tasks all = code_supers new next (Head asked body next tasks) (none_ends new next (Head asked body next tasks) all.2) all
