-- The graph of a formed body has a head for each loop.
use Rattle.std.specs.Prelude.{◌≡◌, ℕ, suc, ◌+◌, true, false, ◌&&◌, List, [], ◌∷◌, ◌++◌, length, refl}
use Rattle.std.proofs.Common.{arith, ap, ◌∙◌}
use Rattle.std.proofs.lemmas.Bool.{and_parts, false≢true}
use Rattle.std.proofs.lemmas.List.{length-append}
use Rattle.ix_core.specs.Code.{Code, End, Do, If, Break, Continue, Return, Throw, Loop, Condition, Known, Compare, Truth, Both, Either, Opposite}
use Rattle.ix_core.specs.Formed.{loop_numbers, is_straight, is_straight_condition}
use Rattle.ix_cert.proofs.FormedLoops.{LoopsInBlocks}
use Rattle.ix_graph.specs.Graph.{Part, Source, Unreached, From, Through, Onward, leads, behind_code, behind_condition, code_parts, condition_parts, method_parts}
use Rattle.ix_graph.specs.Heads.{heads_in}

leads_heads : (source : Source) (target : ℕ) (parts : List Part) → heads_in (leads source target parts) ≡ heads_in parts
leads_heads Unreached target parts = refl
leads_heads (From node pass) target parts = refl

-- ---- parts without a loop

mutual
  straight_heads : (code : Code) (at : ℕ) (source : Source) (end break continue : ℕ) (parts : List Part) → is_straight code ≡ true → heads_in (code_parts code at source end break continue parts) ≡ heads_in parts
  straight_heads End at source end break continue parts is = leads_heads source end parts
  straight_heads (Do done code) at source end break continue parts is =
      leads_heads source at (code_parts code (suc at) (From at (Through done)) end break continue parts) ∙ straight_heads code (suc at) (From at (Through done)) end break continue parts is
  straight_heads (If asked one two code) at source end break continue parts is =
      let a = and_parts (is_straight_condition asked) (is_straight one && (is_straight two && is_straight code)) is in
      let b = and_parts (is_straight one) (is_straight two && is_straight code) a.1 in
      let c = and_parts (is_straight two) (is_straight code) b.1 in
      let third = suc (suc (suc at)) in
      let holds = behind_condition asked third in
      let fails = behind_code one holds in
      let rest = code_parts code (behind_code two fails) (From (suc (suc at)) Onward) end break continue parts in
      let second = code_parts two fails (From (suc at) Onward) (suc (suc at)) break continue rest in
      let first = code_parts one holds (From at Onward) (suc (suc at)) break continue second in
      asked_heads asked third source at (suc at) break continue first a.0
      ∙ (straight_heads one holds (From at Onward) (suc (suc at)) break continue second b.0
      ∙ (straight_heads two fails (From (suc at) Onward) (suc (suc at)) break continue rest c.0 ∙ straight_heads code (behind_code two fails) (From (suc (suc at)) Onward) end break continue parts c.1))
  straight_heads (Break code) at source end break continue parts is = absurd (false≢true is)
  straight_heads (Continue code) at source end break continue parts is = absurd (false≢true is)
  straight_heads (Return value span code) at source end break continue parts is = absurd (false≢true is)
  straight_heads (Throw name span code) at source end break continue parts is = absurd (false≢true is)
  straight_heads (Loop test_first asked body next number scope code) at source end break continue parts is = absurd (false≢true is)

  asked_heads : (asked : Condition) (at : ℕ) (source : Source) (holds fails break continue : ℕ) (parts : List Part) → is_straight_condition asked ≡ true
      → heads_in (condition_parts asked at source holds fails break continue parts) ≡ heads_in parts
  asked_heads (Known true) at source holds fails break continue parts is = leads_heads source holds parts
  asked_heads (Known false) at source holds fails break continue parts is = leads_heads source fails parts
  asked_heads (Compare code test) at source holds fails break continue parts is = straight_heads code (suc at) source at break continue parts is
  asked_heads (Truth code slot) at source holds fails break continue parts is = straight_heads code (suc at) source at break continue parts is
  asked_heads (Both asked later) at source holds fails break continue parts is =
      let a = and_parts (is_straight_condition asked) (is_straight_condition later) is in
      let behind = behind_condition asked (suc at) in
      asked_heads asked (suc at) source at fails break continue (condition_parts later behind (From at Onward) holds fails break continue parts) a.0
      ∙ asked_heads later behind (From at Onward) holds fails break continue parts a.1
  asked_heads (Either asked later) at source holds fails break continue parts is =
      let a = and_parts (is_straight_condition asked) (is_straight_condition later) is in
      let behind = behind_condition asked (suc at) in
      asked_heads asked (suc at) source holds at break continue (condition_parts later behind (From at Onward) holds fails break continue parts) a.0
      ∙ asked_heads later behind (From at Onward) holds fails break continue parts a.1
  asked_heads (Opposite asked) at source holds fails break continue parts is = asked_heads asked at source fails holds break continue parts is

-- ---- parts with loops

abbrev heads : List Part → ℕ
heads parts = length (heads_in parts)

-- the loops of one block and of another
both_count : (first second : List ℕ) (behind between all : ℕ) → between ≡ length second + behind → all ≡ length first + between → all ≡ length (first ++ second) + behind
both_count first second behind between all one two =
    let sum = length-append first second in
    omega (arith, one, two, sum)

-- of a loop's body and of what stands behind it
loop_count : (number : ℕ) (body code : List ℕ) (behind left between all : ℕ) → left ≡ length code + behind → between ≡ left → all ≡ length body + between → suc all ≡ length (number ∷ (body ++ code)) + behind
loop_count number body code behind left between all one two three =
    let sum = length-append body code in
    let head : length (number ∷ (body ++ code)) ≡ suc (length (body ++ code)) = refl in
    omega (arith, one, two, three, sum, head)

code_heads : (code : Code) (at : ℕ) (source : Source) (end break continue : ℕ) (parts : List Part) → LoopsInBlocks code → heads (code_parts code at source end break continue parts) ≡ length (loop_numbers code) + heads parts
code_heads End at source end break continue parts own =
    let same = ap length (leads_heads source end parts) in
    same ∙ omega arith
code_heads (Do done code) at source end break continue parts own =
    ap length (leads_heads source at (code_parts code (suc at) (From at (Through done)) end break continue parts)) ∙ code_heads code (suc at) (From at (Through done)) end break continue parts own
code_heads (If asked one two code) at source end break continue parts own =
    let third = suc (suc (suc at)) in
    let holds = behind_condition asked third in
    let fails = behind_code one holds in
    let rest = code_parts code (behind_code two fails) (From (suc (suc at)) Onward) end break continue parts in
    let second = code_parts two fails (From (suc at) Onward) (suc (suc at)) break continue rest in
    let first = code_parts one holds (From at Onward) (suc (suc at)) break continue second in
    let c = code_heads code (behind_code two fails) (From (suc (suc at)) Onward) end break continue parts own.3 in
    let b = code_heads two fails (From (suc at) Onward) (suc (suc at)) break continue rest own.2 in
    let a = code_heads one holds (From at Onward) (suc (suc at)) break continue second own.1 in
    ap length (asked_heads asked third source at (suc at) break continue first own.0)
    ∙ both_count (loop_numbers one) (loop_numbers two ++ loop_numbers code) (heads parts) (heads second) (heads first) (both_count (loop_numbers two) (loop_numbers code) (heads parts) (heads rest) (heads second) c b) a
code_heads (Break code) at source end break continue parts own =
    ap length (leads_heads source break (code_parts code at Unreached end break continue parts)) ∙ code_heads code at Unreached end break continue parts own
code_heads (Continue code) at source end break continue parts own =
    ap length (leads_heads source continue (code_parts code at Unreached end break continue parts)) ∙ code_heads code at Unreached end break continue parts own
code_heads (Return value span code) at source end break continue parts own =
    ap length (leads_heads source at (code_parts code (suc at) Unreached end break continue parts)) ∙ code_heads code (suc at) Unreached end break continue parts own
code_heads (Throw name span code) at source end break continue parts own =
    ap length (leads_heads source at (code_parts code (suc at) Unreached end break continue parts)) ∙ code_heads code (suc at) Unreached end break continue parts own
code_heads (Loop true asked body next number scope code) at source end break continue parts own =
    let turn = suc at in
    let out = suc turn in
    let again = suc out in
    let second = behind_condition asked (suc again) in
    let third = behind_code body second in
    let rest = code_parts code (behind_code next third) (From out Onward) end break continue parts in
    let step = code_parts next third (From again Onward) at out continue rest in
    let inside = code_parts body second (From turn Onward) again out again step in
    let asking = condition_parts asked (suc again) (From at Onward) turn out out continue inside in
    let c = code_heads code (behind_code next third) (From out Onward) end break continue parts own.3 in
    let b = ap length (straight_heads next third (From again Onward) at out continue rest own.1) in
    let a = code_heads body second (From turn Onward) again out again step own.2 in
    ap (λ list. suc (length list)) (leads_heads source at asking ∙ asked_heads asked (suc again) (From at Onward) turn out out continue inside own.0)
    ∙ loop_count number (loop_numbers body) (loop_numbers code) (heads parts) (heads rest) (heads step) (heads inside) c b a
code_heads (Loop false asked body next number scope code) at source end break continue parts own =
    let turn = suc at in
    let out = suc turn in
    let again = suc out in
    let second = behind_condition asked (suc again) in
    let third = behind_code body second in
    let rest = code_parts code (behind_code next third) (From out Onward) end break continue parts in
    let step = code_parts next third (From again Onward) turn out continue rest in
    let inside = code_parts body second (From at Onward) again out again step in
    let asking = condition_parts asked (suc again) (From turn Onward) at out out continue inside in
    let c = code_heads code (behind_code next third) (From out Onward) end break continue parts own.3 in
    let b = ap length (straight_heads next third (From again Onward) turn out continue rest own.1) in
    let a = code_heads body second (From at Onward) again out again step own.2 in
    ap (λ list. suc (length list)) (leads_heads source at asking ∙ asked_heads asked (suc again) (From turn Onward) at out out continue inside own.0)
    ∙ loop_count number (loop_numbers body) (loop_numbers code) (heads parts) (heads rest) (heads step) (heads inside) c b a

pub method_heads : (body : Code) → LoopsInBlocks body → length (heads_in (method_parts body)) ≡ length (loop_numbers body)
method_heads body own =
    let count = code_heads body 2 (From 0 Onward) 1 1 1 [] own in
    let none : heads [] ≡ 0 = refl in
    count ∙ omega (arith, none)
