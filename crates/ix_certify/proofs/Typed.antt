-- Of a body that fits, each operation fits some types, and each test too.
use Rattle.std.specs.Prelude.{◌≡◌, ℕ, Bool, true, false, ◌&&◌, List}
use Rattle.std.proofs.lemmas.Bool.{and_parts}
use Rattle.ix_core.specs.declared.claim.Type_.{Type_}
use Rattle.ix_core.specs.declared.op.Op.{Op}
use Rattle.ix_core.specs.declared.op.Test.{Test}
use Rattle.ix_core.specs.declared.program.Method.{Method}
use Rattle.ix_core.specs.declared.program.Program.{Program}
use Rattle.ix_core.specs.Types.{Point, meeting, point_below}
use Rattle.ix_core.specs.Code.{Code, End, Do, If, Break, Continue, Return, Throw, Loop, Condition, Known, Compare, Truth, Both, Either, Opposite}
use Rattle.ix_core.specs.Formed.{op_fits, op_types, operand_fits, code_ways, condition_ways, body_start, is_straight, is_straight_condition}
use Rattle.ix_certify.proofs.Fitting.{AllFit, AllAsked}

module _ (program : Program) (method : Method) (locals : List Type_) where
  abbrev pub OpTyped : Op → Type 0
  OpTyped done = (types : Point) × (op_fits program method locals types done done.kind ≡ true)

  abbrev pub TestTyped : Test → Type 0
  TestTyped test = (types : Point) × (operand_fits program method types test.left test.ty ≡ true) × (operand_fits program method types test.right test.ty ≡ true)

  -- what fits of a loop
  record LoopFits (asks : Condition) (inside again behind : Code) (in_loop : Bool) : Type 0 where
    kept : Point
    asked : (condition_ways program method locals asks kept).fits ≡ true
    start : Point
    body : (code_ways program method locals true inside start).fits ≡ true
    next : (code_ways program method locals false again kept).fits ≡ true
    left : Point
    rest : (code_ways program method locals in_loop behind left).fits ≡ true

  loop_fits : (test_first : Bool) (asked : Condition) (body again : Code) (number scope : ℕ) (code : Code) (in_loop : Bool) (types : Point)
      → (code_ways program method locals in_loop (Loop test_first asked body again number scope code) types).fits ≡ true → LoopFits asked body again code in_loop
  loop_fits test_first asked body again number scope code in_loop types fits =
      let kept = point_below scope types in
      let answers = condition_ways program method locals asked kept in
      let start = body_start test_first answers kept in
      let turn = code_ways program method locals true body start in
      let a = and_parts (answers.fits && (turn.fits && ((code_ways program method locals false again kept).fits && ((is_straight_condition asked && is_straight again) && _)))) (code_ways program method locals in_loop code (meeting answers.fails turn.breaks)).fits fits in
      let b = and_parts answers.fits _ a.0 in
      let c = and_parts turn.fits _ b.1 in
      let d = and_parts (code_ways program method locals false again kept).fits _ c.1 in
      record { kept = kept; asked = b.0; start = start; body = c.0; next = d.0; left = meeting answers.fails turn.breaks; rest = a.1 }

  mutual
    all_typed : (code : Code) (in_loop : Bool) (types : Point) → (code_ways program method locals in_loop code types).fits ≡ true → AllFit OpTyped TestTyped code
    all_typed End in_loop types fits = tt
    all_typed (Do op code) in_loop types fits =
        let a = and_parts (op_fits program method locals types op op.kind) (code_ways program method locals in_loop code (op_types program method locals types op op.kind)).fits fits in
        ((types, a.0), all_typed code in_loop (op_types program method locals types op op.kind) a.1)
    all_typed (If asked one two code) in_loop types fits =
        let answers = condition_ways program method locals asked types in
        let a = and_parts answers.fits _ fits in
        let b = and_parts (code_ways program method locals in_loop one answers.holds).fits _ a.1 in
        let c = and_parts (code_ways program method locals in_loop two answers.fails).fits _ b.1 in
        (all_asked asked types a.0, all_typed one in_loop answers.holds b.0, all_typed two in_loop answers.fails c.0, all_typed code in_loop _ c.1)
    all_typed (Break code) in_loop types fits = all_typed code in_loop _ (and_parts in_loop _ fits).1
    all_typed (Continue code) in_loop types fits = all_typed code in_loop _ (and_parts in_loop _ fits).1
    all_typed (Return value span code) in_loop types fits = all_typed code in_loop _ (and_parts _ _ fits).1
    all_typed (Throw name span code) in_loop types fits = all_typed code in_loop _ fits
    all_typed (Loop test_first asked body again number scope code) in_loop types fits =
        let l = loop_fits test_first asked body again number scope code in_loop types fits in
        (all_asked asked l.kept l.asked, all_typed body true l.start l.body, all_typed again false l.kept l.next, all_typed code in_loop l.left l.rest)

    all_asked : (asked : Condition) (types : Point) → (condition_ways program method locals asked types).fits ≡ true → AllAsked OpTyped TestTyped asked
    all_asked (Known answer) types fits = tt
    all_asked (Compare code test) types fits =
        let before = code_ways program method locals false code types in
        let a = and_parts (is_straight code) _ fits in
        let b = and_parts before.fits _ a.1 in
        let c = and_parts (operand_fits program method before.ends test.left test.ty) _ b.1 in
        (all_typed code false types b.0, (before.ends, c.0, c.1))
    all_asked (Truth code slot) types fits =
        let before = code_ways program method locals false code types in
        let a = and_parts (is_straight code) _ fits in
        let b = and_parts before.fits _ a.1 in
        all_typed code false types b.0
    all_asked (Both asked later) types fits =
        let a = and_parts (condition_ways program method locals asked types).fits _ fits in
        (all_asked asked types a.0, all_asked later _ a.1)
    all_asked (Either asked later) types fits =
        let a = and_parts (condition_ways program method locals asked types).fits _ fits in
        (all_asked asked types a.0, all_asked later _ a.1)
    all_asked (Opposite asked) types fits = all_asked asked types fits

  pub body_typed : (body : Code) (types : Point) → (code_ways program method locals false body types).fits ≡ true → AllFit OpTyped TestTyped body
  body_typed body types fits = all_typed body false types fits
