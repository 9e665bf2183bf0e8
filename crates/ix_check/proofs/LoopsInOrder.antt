-- The loops of a formed body are numbered in the order of their heads.
use Rattle.std.specs.Prelude.{◌≡◌, ℕ, zero, suc, ◌+◌, ◌<◌, ◌==◌, Bool, true, false, ◌&&◌, Some, List, [], ◌∷◌, ◌++◌, length, refl}
use Rattle.std.specs.Cmp.Derive.{both_true}
use Rattle.std.proofs.Common.{arith, subst}
use Rattle.std.proofs.lemmas.Bool.{and_parts, false≢true}
use Rattle.std.proofs.lemmas.List.{length-append}
use Rattle.ix_core.specs.declared.claim.Type_.{Type_}
use Rattle.ix_core.specs.declared.program.Method.{Method}
use Rattle.ix_core.specs.declared.program.Program.{Program}
use Rattle.ix_core.specs.Code.{block_code, Code, End, Do, If, Break, Continue, Return, Throw, Loop, Condition, Known, Compare, Truth, Both, Either, Opposite}
use Rattle.ix_core.specs.Formed.{Formed, entry_type, loop_numbers, numbers_from, same_numbers, is_straight, is_straight_condition, code_ways, condition_ways, body_start}
use Rattle.ix_core.specs.Tables.{method_at, body_of}
use Rattle.ix_core.specs.Types.{Point, meeting, point_below}
use Rattle.ix_core.proofs.Cases.{equal}
use Rattle.ix_graph.specs.Graph.{Part, Source, Unreached, From, Through, Onward, leads, code_parts, condition_parts, method_parts}
use Rattle.ix_graph.specs.Heads.{AreInOrder}
use Rattle.ix_soundness.proofs.Ready.{types_at, parts}

-- ---- numbers in order

-- the numbers are those from one on, in order
abbrev AreNext : ℕ → List ℕ → Type 0
AreNext first [] = Unit {0}
AreNext first (number ∷ numbers) = (number ≡ first) × AreNext (suc first) numbers

same_next : (first count : ℕ) (numbers : List ℕ) → same_numbers numbers (numbers_from first count) ≡ true → AreNext first numbers
same_next first count [] same = tt
same_next first zero (number ∷ numbers) same = absurd (false≢true same)
same_next first (suc count) (number ∷ numbers) same =
    let parts = and_parts (number == first) (same_numbers numbers (numbers_from (first + 1) count)) same in
    let h : first + 1 ≡ suc first = omega arith in
    (equal number first parts.0, subst (λ n. AreNext n numbers) h (same_next (first + 1) count numbers parts.1))

split_next : (first : ℕ) (front back : List ℕ) → AreNext first (front ++ back) → AreNext first front × AreNext (first + length front) back
split_next first [] back next = (tt, let h : first ≡ first + 0 = omega arith in subst (λ n. AreNext n back) h next)
split_next first (number ∷ front) back next =
    let rest = split_next (suc first) front back next.1 in
    let h : suc first + length front ≡ first + suc (length front) = omega arith in
    ((next.0, rest.0), subst (λ n. AreNext n back) h rest.1)

-- ---- parts without a loop

leads_in_order : (first : ℕ) (source : Source) (target : ℕ) (parts : List Part) → AreInOrder first parts → AreInOrder first (leads source target parts)
leads_in_order first Unreached target parts order = order
leads_in_order first (From node pass) target parts order = order

mutual
  straight_in_order : (code : Code) (first at : ℕ) (source : Source) (end break continue : ℕ) (parts : List Part) → is_straight code ≡ true → AreInOrder first parts → AreInOrder first (code_parts code at source end break continue parts)
  straight_in_order End first at source end break continue parts is order = leads_in_order first source end parts order
  straight_in_order (Do op code) first at source end break continue parts is order =
      leads_in_order first source at _ (straight_in_order code first (suc at) (From at (Through op)) end break continue parts is order)
  straight_in_order (If asked one two code) first at source end break continue parts is order =
      let a = and_parts (is_straight_condition asked) (is_straight one && (is_straight two && is_straight code)) is in
      let b = and_parts (is_straight one) (is_straight two && is_straight code) a.1 in
      let c = and_parts (is_straight two) (is_straight code) b.1 in
      asked_in_order asked first _ source at (suc at) break continue _ a.0
      (straight_in_order one first _ (From at Onward) (suc (suc at)) break continue _ b.0
      (straight_in_order two first _ (From (suc at) Onward) (suc (suc at)) break continue _ c.0
      (straight_in_order code first _ (From (suc (suc at)) Onward) end break continue parts c.1 order)))
  straight_in_order (Break code) first at source end break continue parts is order = absurd (false≢true is)
  straight_in_order (Continue code) first at source end break continue parts is order = absurd (false≢true is)
  straight_in_order (Return value span code) first at source end break continue parts is order = absurd (false≢true is)
  straight_in_order (Throw name span code) first at source end break continue parts is order = absurd (false≢true is)
  straight_in_order (Loop test_first asked body next number scope code) first at source end break continue parts is order = absurd (false≢true is)

  asked_in_order : (asked : Condition) (first at : ℕ) (source : Source) (holds fails break continue : ℕ) (parts : List Part) → is_straight_condition asked ≡ true → AreInOrder first parts
      → AreInOrder first (condition_parts asked at source holds fails break continue parts)
  asked_in_order (Known true) first at source holds fails break continue parts is order = leads_in_order first source holds parts order
  asked_in_order (Known false) first at source holds fails break continue parts is order = leads_in_order first source fails parts order
  asked_in_order (Compare code test) first at source holds fails break continue parts is order = straight_in_order code first (suc at) source at break continue parts is order
  asked_in_order (Truth code slot) first at source holds fails break continue parts is order = straight_in_order code first (suc at) source at break continue parts is order
  asked_in_order (Both asked later) first at source holds fails break continue parts is order =
      let a = and_parts (is_straight_condition asked) (is_straight_condition later) is in
      asked_in_order asked first (suc at) source at fails break continue _ a.0 (asked_in_order later first _ (From at Onward) holds fails break continue parts a.1 order)
  asked_in_order (Either asked later) first at source holds fails break continue parts is order =
      let a = and_parts (is_straight_condition asked) (is_straight_condition later) is in
      asked_in_order asked first (suc at) source holds at break continue _ a.0 (asked_in_order later first _ (From at Onward) holds fails break continue parts a.1 order)
  asked_in_order (Opposite asked) first at source holds fails break continue parts is order = asked_in_order asked first at source fails holds break continue parts is order

-- ---- bodies that fit

module _ (program : Program) (method : Method) (locals : List Type_) where
  asked_straight : (asked : Condition) (types : Point) → (condition_ways program method locals asked types).fits ≡ true → is_straight_condition asked ≡ true
  asked_straight (Known answer) types fits = refl
  asked_straight (Compare code test) types fits = (and_parts (is_straight code) _ fits).0
  asked_straight (Truth code slot) types fits = (and_parts (is_straight code) _ fits).0
  asked_straight (Both asked later) types fits =
      let first = condition_ways program method locals asked types in
      let a = and_parts first.fits (condition_ways program method locals later first.holds).fits fits in
      both_true (asked_straight asked types a.0) (asked_straight later first.holds a.1)
  asked_straight (Either asked later) types fits =
      let first = condition_ways program method locals asked types in
      let a = and_parts first.fits (condition_ways program method locals later first.fails).fits fits in
      both_true (asked_straight asked types a.0) (asked_straight later first.fails a.1)
  asked_straight (Opposite asked) types fits = asked_straight asked types fits

  behind : (first : ℕ) (front back : List ℕ) (parts : List Part) → AreInOrder (first + length (front ++ back)) parts → AreInOrder ((first + length front) + length back) parts
  behind first front back parts order =
      let e = length-append front back in
      let h : first + length (front ++ back) ≡ (first + length front) + length back = omega (arith, e) in
      subst (λ n. AreInOrder n parts) h order

  -- what fits of a loop, and the types before its body and behind it
  record LoopFits (asks : Condition) (inside again behind_it : Code) (in_loop : Bool) : Type 0 where
    asked : is_straight_condition asks ≡ true
    start : Point
    body : (code_ways program method locals true inside start).fits ≡ true
    next : is_straight again ≡ true
    left : Point
    rest : (code_ways program method locals in_loop behind_it left).fits ≡ true

  loop_fits : (test_first : Bool) (asked : Condition) (body again : Code) (number scope : ℕ) (code : Code) (in_loop : Bool) (types : Point) → (code_ways program method locals in_loop (Loop test_first asked body again number scope code) types).fits ≡ true
      → LoopFits asked body again code in_loop
  loop_fits test_first asked body again number scope code in_loop types fits =
      let kept = point_below scope types in
      let answers = condition_ways program method locals asked kept in
      let start = body_start test_first answers kept in
      let turn = code_ways program method locals true body start in
      let a = and_parts (answers.fits && (turn.fits && ((code_ways program method locals false again kept).fits && ((is_straight_condition asked && is_straight again) && _)))) (code_ways program method locals in_loop code (meeting answers.fails turn.breaks)).fits fits in
      let b = and_parts answers.fits _ a.0 in
      let c = and_parts turn.fits _ b.1 in
      let d = and_parts (code_ways program method locals false again kept).fits _ c.1 in
      let e = and_parts (is_straight_condition asked && is_straight again) _ d.1 in
      let f = and_parts (is_straight_condition asked) (is_straight again) e.0 in
      record { asked = f.0; start = start; body = c.0; next = f.1; left = meeting answers.fails turn.breaks; rest = a.1 }

  behind_loop : (first : ℕ) (body code : Code) (parts : List Part) → AreInOrder (first + suc (length (loop_numbers body ++ loop_numbers code))) parts
      → AreInOrder ((suc first + length (loop_numbers body)) + length (loop_numbers code)) parts
  behind_loop first body code parts order =
      let e = length-append (loop_numbers body) (loop_numbers code) in
      let h : first + suc (length (loop_numbers body ++ loop_numbers code)) ≡ (suc first + length (loop_numbers body)) + length (loop_numbers code) = omega (arith, e) in
      subst (λ n. AreInOrder n parts) h order

  code_in_order : (code : Code) (in_loop : Bool) (types : Point) (first at : ℕ) (source : Source) (end break continue : ℕ) (parts : List Part) → (code_ways program method locals in_loop code types).fits ≡ true
      → AreNext first (loop_numbers code) → AreInOrder (first + length (loop_numbers code)) parts → AreInOrder first (code_parts code at source end break continue parts)
  code_in_order End in_loop types first at source end break continue parts fits next order =
      let h : first + 0 ≡ first = omega arith in leads_in_order first source end parts (subst (λ n. AreInOrder n parts) h order)
  code_in_order (Do op code) in_loop types first at source end break continue parts fits next order =
      leads_in_order first source at _ (code_in_order code in_loop _ first (suc at) (From at (Through op)) end break continue parts (and_parts _ _ fits).1 next order)
  code_in_order (If asked one two code) in_loop types first at source end break continue parts fits next order =
      let a = and_parts (condition_ways program method locals asked types).fits _ fits in
      let b = and_parts (code_ways program method locals in_loop one (condition_ways program method locals asked types).holds).fits _ a.1 in
      let c = and_parts (code_ways program method locals in_loop two (condition_ways program method locals asked types).fails).fits _ b.1 in
      let m = split_next first (loop_numbers one) (loop_numbers two ++ loop_numbers code) next in
      let n = split_next (first + length (loop_numbers one)) (loop_numbers two) (loop_numbers code) m.1 in
      let o = behind (first + length (loop_numbers one)) (loop_numbers two) (loop_numbers code) parts (behind first (loop_numbers one) (loop_numbers two ++ loop_numbers code) parts order) in
      asked_in_order asked first _ source at (suc at) break continue _ (asked_straight asked types a.0)
      (code_in_order one in_loop (condition_ways program method locals asked types).holds first _ (From at Onward) (suc (suc at)) break continue _ b.0 m.0
      (code_in_order two in_loop (condition_ways program method locals asked types).fails (first + length (loop_numbers one)) _ (From (suc at) Onward) (suc (suc at)) break continue _ c.0 n.0
      (code_in_order code in_loop _ ((first + length (loop_numbers one)) + length (loop_numbers two)) _ (From (suc (suc at)) Onward) end break continue parts c.1 n.1 o)))
  code_in_order (Break code) in_loop types first at source end break continue parts fits next order =
      leads_in_order first source break _ (code_in_order code in_loop _ first at Unreached end break continue parts (and_parts in_loop _ fits).1 next order)
  code_in_order (Continue code) in_loop types first at source end break continue parts fits next order =
      leads_in_order first source continue _ (code_in_order code in_loop _ first at Unreached end break continue parts (and_parts in_loop _ fits).1 next order)
  code_in_order (Return value span code) in_loop types first at source end break continue parts fits next order =
      leads_in_order first source at _ (code_in_order code in_loop _ first (suc at) Unreached end break continue parts (and_parts _ _ fits).1 next order)
  code_in_order (Throw name span code) in_loop types first at source end break continue parts fits next order =
      leads_in_order first source at _ (code_in_order code in_loop _ first (suc at) Unreached end break continue parts fits next order)
  code_in_order (Loop true asked body again number scope code) in_loop types first at source end break continue parts fits next order =
      let l = loop_fits true asked body again number scope code in_loop types fits in
      let m = split_next (suc first) (loop_numbers body) (loop_numbers code) next.1 in (
        next.0,
        leads_in_order (suc first) source at _
            (asked_in_order asked (suc first) _ _ _ _ _ _ _ l.asked
            (code_in_order body true l.start (suc first) _ _ _ _ _ _ l.body m.0
            (straight_in_order again (suc first + length (loop_numbers body)) _ _ _ _ _ _ l.next
            (code_in_order code in_loop l.left (suc first + length (loop_numbers body)) _ (From (suc (suc at)) Onward) end break continue parts l.rest m.1 (behind_loop first body code parts order))))),
      )
  code_in_order (Loop false asked body again number scope code) in_loop types first at source end break continue parts fits next order =
      let l = loop_fits false asked body again number scope code in_loop types fits in
      let m = split_next (suc first) (loop_numbers body) (loop_numbers code) next.1 in (
        next.0,
        leads_in_order (suc first) source at _
            (asked_in_order asked (suc first) _ _ _ _ _ _ _ l.asked
            (code_in_order body true l.start (suc first) _ _ _ _ _ _ l.body m.0
            (straight_in_order again (suc first + length (loop_numbers body)) _ _ _ _ _ _ l.next
            (code_in_order code in_loop l.left (suc first + length (loop_numbers body)) _ (From (suc (suc at)) Onward) end break continue parts l.rest m.1 (behind_loop first body code parts order))))),
      )

  pub body_in_order : (body : Code) (types : Point) → (code_ways program method locals false body types).fits ≡ true → same_numbers (loop_numbers body) (numbers_from 0 (length (loop_numbers body))) ≡ true → AreInOrder 0 (method_parts body)
  body_in_order body types fits same = code_in_order body false types 0 2 (From 0 Onward) 1 1 1 [] fits (same_next 0 (length (loop_numbers body)) (loop_numbers body) same) tt

-- the loops of each method of a formed program
pub loops_in_order : (program : Program) → Formed program → (number : ℕ) → number < length program.methods → AreInOrder 0 (method_parts (block_code (method_at program number).body))
loops_in_order program formed number lt =
    let has = parts program formed number lt in
    let method = method_at program number in
    body_in_order program method (types_at program formed number) (body_of method) (Some (entry_type program method)) has.body has.loops
