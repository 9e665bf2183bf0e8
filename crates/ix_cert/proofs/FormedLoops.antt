-- The loops of a formed body: all stand in blocks, and their numbers are below how many there are.
use Rattle.std.specs.Prelude.{◌≡◌, ℕ, zero, suc, ◌+◌, ◌<◌, ◌==◌, nat_lt, Bool, true, false, ◌&&◌, List, [], ◌∷◌, length, refl}
use Rattle.std.specs.List.{AllByRecursion}
use Rattle.std.specs.Cmp.Derive.{both_true}
use Rattle.std.proofs.Common.{arith}
use Rattle.std.proofs.lemmas.Bool.{and_parts, false≢true}
use Rattle.ix_core.specs.declared.claim.Type_.{Type_}
use Rattle.ix_core.specs.declared.program.Method.{Method}
use Rattle.ix_core.specs.declared.program.Program.{Program}
use Rattle.ix_core.specs.Code.{Code, End, Do, If, Break, Continue, Return, Throw, Loop, Condition, Known, Compare, Truth, Both, Either, Opposite}
use Rattle.ix_core.specs.Formed.{Formed, at_most, params_fit, locals_fit, result_fits, constructor_fits, overrides_fit, same_numbers, loop_numbers, numbers_from, code_size, super_calls_fit, body_fits, is_straight, is_straight_condition, code_ways, condition_ways, body_start}
use Rattle.ix_core.specs.Tables.{method_at, body_of, param_slots}
use Rattle.ix_core.specs.Types.{Point, meeting, point_below, is_class}
use Rattle.ix_core.proofs.Cases.{equal}
use Rattle.ix_core.proofs.FormedParts.{locals_of, method_is}

-- No loop stands in a condition, or in a part before the next turn.
abbrev pub LoopsInBlocks : Code → Type 0
LoopsInBlocks End = Unit {0}
LoopsInBlocks (Do done rest) = LoopsInBlocks rest
LoopsInBlocks (If asked first second rest) = (is_straight_condition asked ≡ true) × LoopsInBlocks first × LoopsInBlocks second × LoopsInBlocks rest
LoopsInBlocks (Break rest) = LoopsInBlocks rest
LoopsInBlocks (Continue rest) = LoopsInBlocks rest
LoopsInBlocks (Return value span rest) = LoopsInBlocks rest
LoopsInBlocks (Throw name span rest) = LoopsInBlocks rest
LoopsInBlocks (Loop test_first asked body next number scope rest) = (is_straight_condition asked ≡ true) × (is_straight next ≡ true) × LoopsInBlocks body × LoopsInBlocks rest

pub record HasFormedLoops (code : Code) : Type 0 where
  pub blocks : LoopsInBlocks code
  pub below : AllByRecursion (λ number. number < length (loop_numbers code)) (loop_numbers code)

-- ---- numbers in order

same_below : (first count most : ℕ) (numbers : List ℕ) → first + count ≡ most → same_numbers numbers (numbers_from first count) ≡ true → AllByRecursion (λ number. number < most) numbers
same_below first count most [] sum same = tt
same_below first zero most (number ∷ numbers) sum same = absurd (false≢true same)
same_below first (suc count) most (number ∷ numbers) sum same =
    let parts = and_parts (number == first) (same_numbers numbers (numbers_from (first + 1) count)) same in
    let is = equal number first parts.0 in
    (omega (arith, is, sum), same_below (first + 1) count most numbers (omega (arith, sum)) parts.1)

-- ---- bodies that fit

module _ (program : Program) (method : Method) (locals : List Type_) where
  asked_straight : (asked : Condition) (types : Point) → (condition_ways program method locals asked types).fits ≡ true → is_straight_condition asked ≡ true
  asked_straight (Known answer) types fits = refl
  asked_straight (Compare code test) types fits = (and_parts (is_straight code) _ fits).0
  asked_straight (Truth code slot) types fits = (and_parts (is_straight code) _ fits).0
  asked_straight (Both asked later) types fits =
      let first = condition_ways program method locals asked types in
      let a = and_parts first.fits (condition_ways program method locals later first.holds).fits fits in
      both_true (asked_straight asked types a.0) (asked_straight later first.holds a.1)
  asked_straight (Either asked later) types fits =
      let first = condition_ways program method locals asked types in
      let a = and_parts first.fits (condition_ways program method locals later first.fails).fits fits in
      both_true (asked_straight asked types a.0) (asked_straight later first.fails a.1)
  asked_straight (Opposite asked) types fits = asked_straight asked types fits

  code_blocks : (code : Code) (in_loop : Bool) (types : Point) → (code_ways program method locals in_loop code types).fits ≡ true → LoopsInBlocks code
  code_blocks End in_loop types fits = tt
  code_blocks (Do done code) in_loop types fits = code_blocks code in_loop _ (and_parts _ _ fits).1
  code_blocks (If asked one two code) in_loop types fits =
      let answers = condition_ways program method locals asked types in
      let a = and_parts answers.fits _ fits in
      let b = and_parts (code_ways program method locals in_loop one answers.holds).fits _ a.1 in
      let c = and_parts (code_ways program method locals in_loop two answers.fails).fits _ b.1 in
      (asked_straight asked types a.0, code_blocks one in_loop answers.holds b.0, code_blocks two in_loop answers.fails c.0, code_blocks code in_loop _ c.1)
  code_blocks (Break code) in_loop types fits = code_blocks code in_loop _ (and_parts in_loop _ fits).1
  code_blocks (Continue code) in_loop types fits = code_blocks code in_loop _ (and_parts in_loop _ fits).1
  code_blocks (Return value span code) in_loop types fits = code_blocks code in_loop _ (and_parts _ _ fits).1
  code_blocks (Throw name span code) in_loop types fits = code_blocks code in_loop _ fits
  code_blocks (Loop test_first asked body again number scope code) in_loop types fits =
      let kept = point_below scope types in
      let answers = condition_ways program method locals asked kept in
      let start = body_start test_first answers kept in
      let turn = code_ways program method locals true body start in
      let a = and_parts (answers.fits && (turn.fits && ((code_ways program method locals false again kept).fits && ((is_straight_condition asked && is_straight again) && _)))) (code_ways program method locals in_loop code (meeting answers.fails turn.breaks)).fits fits in
      let b = and_parts answers.fits _ a.0 in
      let c = and_parts turn.fits _ b.1 in
      let d = and_parts (code_ways program method locals false again kept).fits _ c.1 in
      let e = and_parts (is_straight_condition asked && is_straight again) _ d.1 in
      let f = and_parts (is_straight_condition asked) (is_straight again) e.0 in
      (f.0, f.1, code_blocks body true start c.0, code_blocks code in_loop (meeting answers.fails turn.breaks) a.1)

pub formed_loops : (program : Program) → Formed program → (number : ℕ) → number < length program.methods → HasFormedLoops (body_of (method_at program number))
formed_loops program formed number within =
    let method = method_at program number in
    let types = locals_of program formed.0 formed.1 number in
    let numbers = loop_numbers (body_of method) in
    let a = and_parts (is_class program method.class) _ (method_is program formed.0 formed.1 number within) in
    let b = and_parts (params_fit program method 0 method.params method.param_types) _ a.1 in
    let c = and_parts (at_most (param_slots method) method.slots) _ b.1 in
    let d = and_parts (at_most method.slots 512) _ c.1 in
    let e = and_parts (locals_fit program method types 0 method.locals types) _ d.1 in
    let f = and_parts (result_fits program method) _ e.1 in
    let g = and_parts (constructor_fits program method) _ f.1 in
    let h = and_parts (overrides_fit program method method.overrides) _ g.1 in
    let i = and_parts (same_numbers numbers (numbers_from 0 (length numbers))) _ h.1 in
    let j = and_parts (at_most (length numbers) 128) _ i.1 in
    let k = and_parts (nat_lt (code_size (body_of method)) 268435456) _ j.1 in
    let l = and_parts (super_calls_fit program method) (body_fits program method types) k.1 in
    record { blocks = code_blocks program method types (body_of method) _ _ l.1; below = same_below 0 (length numbers) (length numbers) numbers (omega arith) i.0 }
