-- What is made of a statement or a condition, by what is made of its parts.
use Rattle.std.proofs.Common.{◌≡◌, ℕ, suc, ◌+◌, Bool, true, false, List, [], ◌∷◌, Result, Ok, Err, length, length-append, drop, get_or, ◌<◌, arith, refl, ap, sym, ◌∙◌, subst}
use Rattle.std.specs.Result.{IfOk, result_and}
use Rattle.std.proofs.Math.Seq.{drop-cons}
use Rattle.std.proofs.Common.{add-one}
use Rattle.ix_core.specs.declared.code.Item.{Item}
use Rattle.ix_core.specs.Code.{Code, End, If, Loop, Condition, Both, Either, Opposite, item_code, items_code}
use Rattle.ix_graph.specs.declared.node.Edge.TheVariants.{WhenTrue, WhenFalse}
use Rattle.ix_graph.specs.Graph.{Kind, Joins, Heads, Pass, Onward, Part, NodePart, EdgePart, Source, Unreached, From, leads, behind_code, behind_condition, code_parts, condition_parts}
use Rattle.ix_graph.specs.Built.{Made, size, with_node, with_edge, led, branched, with_parts, edge_of, MakesCode, MakesItem, MakesCondition, ordered, AddsTurns}
use Rattle.ix_graph.specs.declared.builder.Jumps.{Jumps}
use Rattle.ix_graph.specs.declared.builder.Turns.{Turns}
use Rattle.ix_graph.specs.declared.builder.Ways.{Ways}

-- ---- one node, one edge

led_parts : (made : Made) (source : Source) (target : ℕ) (parts : List Part) → with_parts made (leads source target parts) ≡ with_parts (led made source target) parts
led_parts made Unreached target parts = refl
led_parts made (From node pass) target parts = refl

-- the same with what is known of what was made
pub led_as : (made new : Made) (source : Source) (target : ℕ) (parts : List Part) → new ≡ led made source target → with_parts made (leads source target parts) ≡ with_parts new parts
led_as made new source target parts is = led_parts made source target parts ∙ ap (λ m. with_parts m parts) (sym is)

pub led_size : (made : Made) (source : Source) (target : ℕ) → size (led made source target) ≡ size made
led_size made Unreached target = refl
led_size made (From node pass) target = refl

pub node_size : (made new : Made) (kind : Kind) → new ≡ with_node made kind → size new ≡ suc (size made)
node_size made new kind is = omega (arith, ap size is, length-append made.kinds (kind ∷ []))

-- ---- items

pub item_as : {one other : Code → Code} {source last : Source} {leave again : ℕ} {old new : Made} → ((rest : Code) → one rest ≡ other rest) → MakesItem other source last leave again old new
    → MakesItem one source last leave again old new
item_as {one} {other} {source} {last} {leave} {again} {old} {new} same makes = record {
  numbers = λ at rest is. ap (λ c. behind_code c at) (same rest) ∙ makes.numbers at rest is;
  parts = λ at rest end more is. ap (λ c. with_parts old (code_parts c at source end leave again more)) (same rest) ∙ makes.parts at rest end more is;
}

pub ask_as : {one other : Condition} {source : Source} {holds fails leave again : ℕ} {old new : Made} → one ≡ other → MakesCondition one source holds fails leave again old new
    → MakesCondition other source holds fails leave again old new
ask_as {one} {other} {source} {holds} {fails} {leave} {again} {old} {new} is makes = subst (λ c. MakesCondition c source holds fails leave again old new) is makes

-- what is made of code, with what is known of its ends
code_at : {code : Code} {node at end end' leave again : ℕ} {old new : Made} → node ≡ at → end ≡ end' → MakesCode code (From node Onward) end leave again old new → MakesCode code (From at Onward) end' leave again old new
code_at {code} {node} {at} {end} {end'} {leave} {again} {old} {new} starts ends makes =
    subst (λ n. MakesCode code (From n Onward) end' leave again old new) starts (subst (λ e. MakesCode code (From node Onward) e leave again old new) ends makes)

ask_at : {asked : Condition} {source source' : Source} {holds holds' fails fails' leave again : ℕ} {old new : Made} → source ≡ source' → holds ≡ holds' → fails ≡ fails' → MakesCondition asked source holds fails leave again old new
    → MakesCondition asked source' holds' fails' leave again old new
ask_at {asked} {source} {source'} {holds} {holds'} {fails} {fails'} {leave} {again} {old} {new} starts so not makes =
    subst (λ o. MakesCondition asked o holds' fails' leave again old new) starts
    (subst (λ h. MakesCondition asked source h fails' leave again old new) so (subst (λ f. MakesCondition asked source holds f leave again old new) not makes))

-- a node to which the source leads, and behind which control comes from `last`
pub node_makes : (item : Code → Code) (kind : Kind) (source : Source) (last : ℕ → Source) (leave again number : ℕ) (old new : Made)
    → ((at : ℕ) (rest : Code) → behind_code (item rest) at ≡ behind_code rest (suc at))
    → ((at : ℕ) (rest : Code) (end : ℕ) (more : List Part) → code_parts (item rest) at source end leave again more ≡ NodePart at kind ∷ leads source at (code_parts rest (suc at) (last at) end leave again more))
    → number ≡ size old → new ≡ led (with_node old kind) source (size old) → MakesItem item source (last number) leave again old new
node_makes item kind source last leave again number old new numbers parts here made =
    let grown : size new ≡ suc (size old) = ap size made ∙ (led_size (with_node old kind) source (size old) ∙ node_size old (with_node old kind) kind refl) in
    record {
      numbers = λ at rest is. numbers at rest ∙ ap (behind_code rest) (ap suc is ∙ sym grown);
      parts = λ at rest end more is.
          let after = code_parts rest (suc at) (last at) end leave again more in
          ap (with_parts old) (parts at rest end more)
          ∙ (led_as (with_node old kind) new source at after (made ∙ ap (led (with_node old kind) source) (sym is))
          ∙ (ap (λ n. with_parts new (code_parts rest n (last at) end leave again more)) (ap suc is ∙ sym grown)
          ∙ ap (λ n. with_parts new (code_parts rest (size new) (last n) end leave again more)) (is ∙ sym here)));
    }

-- The source leads to the target, and from nowhere control comes to what follows.
pub left_makes : (item : Code → Code) (source : Source) (target leave again : ℕ) (old new : Made)
    → ((at : ℕ) (rest : Code) → behind_code (item rest) at ≡ behind_code rest at)
    → ((at : ℕ) (rest : Code) (end : ℕ) (more : List Part) → code_parts (item rest) at source end leave again more ≡ leads source target (code_parts rest at Unreached end leave again more))
    → new ≡ led old source target → MakesItem item source Unreached leave again old new
left_makes item source target leave again old new numbers parts made =
    let same : size new ≡ size old = ap size made ∙ led_size old source target in
    record {
      numbers = λ at rest is. numbers at rest ∙ ap (behind_code rest) (is ∙ sym same);
      parts = λ at rest end more is.
          ap (with_parts old) (parts at rest end more)
          ∙ (led_as old new source target (code_parts rest at Unreached end leave again more) made
          ∙ ap (λ n. with_parts new (code_parts rest n Unreached end leave again more)) (is ∙ sym same));
    }

-- what a call did, where an answer is given behind it
pub done_then : {A B E : Type 0} (done : Result A E) (answer : B) (whole : Result B E) (P : A → Type 0) (Q : B → Type 0) → whole ≡ result_and done (Ok answer) → IfOk done P → ((one : A) → P one → Q answer) → IfOk whole Q
done_then (Ok one) answer whole P Q is holds so = subst (λ r. IfOk r Q) (sym is) (so one holds)
done_then (Err e) answer whole P Q is holds so = subst (λ r. IfOk r Q) (sym is) tt

pub if_makes : (asked : Condition) (first second : Code) (source : Source) (leave again holds fails behind : ℕ) (old m1 m2 m3 m4 m5 new : Made)
    → holds ≡ size old → m1 ≡ with_node old Joins → fails ≡ size m1 → m2 ≡ with_node m1 Joins → behind ≡ size m2 → m3 ≡ with_node m2 Joins
    → MakesCondition asked source holds fails leave again m3 m4
    → MakesCode first (From holds Onward) behind leave again m4 m5
    → MakesCode second (From fails Onward) behind leave again m5 new
    → MakesItem (If asked first second) source (From behind Onward) leave again old new
if_makes asked first second source leave again holds fails behind old m1 m2 m3 m4 m5 new h e1 f e2 j e3 ask one two =
    let s1 = node_size old m1 Joins e1 in
    let s2 = node_size m1 m2 Joins e2 in
    let s3 = node_size m2 m3 Joins e3 in
    let made : m3 ≡ with_node (with_node (with_node old Joins) Joins) Joins = e3 ∙ (ap (λ m. with_node m Joins) e2 ∙ ap (λ m. with_node (with_node m Joins) Joins) e1) in
    let asks : (at : ℕ) → at ≡ size old → MakesCondition asked source at (suc at) leave again m3 m4 = λ at is. ask_at refl (omega (arith, h, is)) (omega (arith, f, s1, is)) ask in
    let firsts : (at : ℕ) → at ≡ size old → MakesCode first (From at Onward) (suc (suc at)) leave again m4 m5 = λ at is. code_at (omega (arith, h, is)) (omega (arith, j, s1, s2, is)) one in
    let seconds : (at : ℕ) → at ≡ size old → MakesCode second (From (suc at) Onward) (suc (suc at)) leave again m5 new = λ at is. code_at (omega (arith, f, s1, is)) (omega (arith, j, s1, s2, is)) two in
    let third : (at : ℕ) → at ≡ size old → suc (suc (suc at)) ≡ size m3 = λ at is. omega (arith, s1, s2, s3, is) in
    let n4 : (at : ℕ) → at ≡ size old → behind_condition asked (suc (suc (suc at))) ≡ size m4 = λ at is. (asks at is).numbers (suc (suc (suc at))) (third at is) in
    let n5 : (at : ℕ) → at ≡ size old → behind_code first (behind_condition asked (suc (suc (suc at)))) ≡ size m5 = λ at is. (firsts at is).numbers _ (n4 at is) in
    let n6 : (at : ℕ) → at ≡ size old → behind_code second (behind_code first (behind_condition asked (suc (suc (suc at))))) ≡ size new = λ at is. (seconds at is).numbers _ (n5 at is) in
    record {
      numbers = λ at rest is. ap (behind_code rest) (n6 at is);
      parts = λ at rest end more is.
          let same : suc (suc at) ≡ behind = omega (arith, j, s1, s2, is) in
          let at_fails = behind_code first (behind_condition asked (suc (suc (suc at)))) in
          let rest3 = code_parts rest (behind_code second at_fails) (From (suc (suc at)) Onward) end leave again more in
          let rest2 = code_parts second at_fails (From (suc at) Onward) (suc (suc at)) leave again rest3 in
          let rest1 = code_parts first (behind_condition asked (suc (suc (suc at)))) (From at Onward) (suc (suc at)) leave again rest2 in
          ap (λ m. with_parts m (condition_parts asked (suc (suc (suc at))) source at (suc at) leave again rest1)) (sym made)
          ∙ ((asks at is).parts (suc (suc (suc at))) rest1 (third at is)
          ∙ ((firsts at is).parts _ rest2 (n4 at is)
          ∙ ((seconds at is).parts _ rest3 (n5 at is)
          ∙ (ap (λ n. with_parts new (code_parts rest n (From (suc (suc at)) Onward) end leave again more)) (n6 at is)
          ∙ ap (λ n. with_parts new (code_parts rest (size new) (From n Onward) end leave again more)) same))));
    }

loop_parts : (asked : Condition) (body next : Code) (source : Source) (again0 number scope head turn out again tested begun : ℕ) (old m1 m2 m3 m4 m5 m6 m7 new : Made)
    → head ≡ size old → m1 ≡ with_node old (Heads number scope) → turn ≡ size m1 → m2 ≡ with_node m1 Joins → out ≡ size m2 → m3 ≡ with_node m2 Joins → again ≡ size m3 → m4 ≡ with_node m3 Joins
    → m5 ≡ led m4 source head
    → MakesCondition asked (From tested Onward) begun out out again0 m5 m6
    → MakesCode body (From begun Onward) again out again m6 m7
    → MakesCode next (From again Onward) tested out again0 m7 new
    → (at : ℕ) → head ≡ at → turn ≡ suc at → out ≡ suc (suc at) → again ≡ suc (suc (suc at)) → (more : ℕ → List Part)
    → (behind_code next (behind_code body (behind_condition asked (suc (suc (suc (suc at)))))) ≡ size new)
    × (with_parts old (NodePart at (Heads number scope) ∷ NodePart (suc at) Joins ∷ NodePart (suc (suc at)) Joins ∷ NodePart (suc (suc (suc at))) Joins
    ∷ leads source at (condition_parts asked (suc (suc (suc (suc at)))) (From tested Onward) begun (suc (suc at)) (suc (suc at)) again0
    (code_parts body (behind_condition asked (suc (suc (suc (suc at))))) (From begun Onward) (suc (suc (suc at))) (suc (suc at)) (suc (suc (suc at)))
    (code_parts next (behind_code body (behind_condition asked (suc (suc (suc (suc at)))))) (From (suc (suc (suc at))) Onward) tested (suc (suc at)) again0
    (more (behind_code next (behind_code body (behind_condition asked (suc (suc (suc (suc at))))))))))))
    ≡ with_parts new (more (size new)))
loop_parts asked body next source again0 number scope head turn out again tested begun old m1 m2 m3 m4 m5 m6 m7 new h e1 t e2 o e3 g e4 e5 ask one two at h' t' o' g' more =
    let s1 = node_size old m1 (Heads number scope) e1 in
    let s2 = node_size m1 m2 Joins e2 in
    let s3 = node_size m2 m3 Joins e3 in
    let s4 = node_size m3 m4 Joins e4 in
    let first = suc (suc (suc (suc at))) in
    let made : m4 ≡ with_node (with_node (with_node (with_node old (Heads number scope)) Joins) Joins) Joins =
    e4 ∙ (ap (λ m. with_node m Joins) e3 ∙ (ap (λ m. with_node (with_node m Joins) Joins) e2 ∙ ap (λ m. with_node (with_node (with_node m Joins) Joins) Joins) e1)) in
    let begins : first ≡ size m5 = omega (arith, ap size e5, led_size m4 source head, s1, s2, s3, s4, h, h') in
    let asks : MakesCondition asked (From tested Onward) begun (suc (suc at)) (suc (suc at)) again0 m5 m6 =
    subst (λ n. MakesCondition asked (From tested Onward) begun n n again0 m5 m6) o' ask in
    let bodies : MakesCode body (From begun Onward) (suc (suc (suc at))) (suc (suc at)) (suc (suc (suc at))) m6 m7 =
    subst (λ n. MakesCode body (From begun Onward) n (suc (suc at)) n m6 m7) g' (subst (λ n. MakesCode body (From begun Onward) again n again m6 m7) o' one) in
    let nexts : MakesCode next (From (suc (suc (suc at))) Onward) tested (suc (suc at)) again0 m7 new =
    subst (λ n. MakesCode next (From n Onward) tested (suc (suc at)) again0 m7 new) g' (subst (λ n. MakesCode next (From again Onward) tested n again0 m7 new) o' two) in
    let n6 : behind_condition asked first ≡ size m6 = asks.numbers first begins in
    let n7 : behind_code body (behind_condition asked first) ≡ size m7 = bodies.numbers (behind_condition asked first) n6 in
    let n8 : behind_code next (behind_code body (behind_condition asked first)) ≡ size new = nexts.numbers (behind_code body (behind_condition asked first)) n7 in
    let rest3 = more (behind_code next (behind_code body (behind_condition asked first))) in
    let rest2 = code_parts next (behind_code body (behind_condition asked first)) (From (suc (suc (suc at))) Onward) tested (suc (suc at)) again0 rest3 in
    let rest1 = code_parts body (behind_condition asked first) (From begun Onward) (suc (suc (suc at))) (suc (suc at)) (suc (suc (suc at))) rest2 in
    let rest0 = condition_parts asked first (From tested Onward) begun (suc (suc at)) (suc (suc at)) again0 rest1 in (
      n8,
      ap (λ m. with_parts m (leads source at rest0)) (sym made)
          ∙ (led_as m4 m5 source at rest0 (e5 ∙ ap (led m4 source) h')
          ∙ (asks.parts first rest1 begins
          ∙ (bodies.parts (behind_condition asked first) rest2 n6
          ∙ (nexts.parts (behind_code body (behind_condition asked first)) rest3 n7
          ∙ ap (λ n. with_parts new (more n)) n8)))),
    )

pub loop_makes : (test_first : Bool) (asked : Condition) (body next : Code) (source : Source) (leave0 again0 number scope head turn out again tested begun : ℕ) (old m1 m2 m3 m4 m5 m6 m7 new : Made)
    → head ≡ size old → m1 ≡ with_node old (Heads number scope) → turn ≡ size m1 → m2 ≡ with_node m1 Joins → out ≡ size m2 → m3 ≡ with_node m2 Joins → again ≡ size m3 → m4 ≡ with_node m3 Joins
    → m5 ≡ led m4 source head
    → tested ≡ (ordered test_first head turn).0 → begun ≡ (ordered test_first head turn).1
    → MakesCondition asked (From tested Onward) begun out out again0 m5 m6
    → MakesCode body (From begun Onward) again out again m6 m7
    → MakesCode next (From again Onward) tested out again0 m7 new
    → MakesItem (Loop test_first asked body next number scope) source (From out Onward) leave0 again0 old new
loop_makes true asked body next source leave0 again0 number scope head turn out again tested begun old m1 m2 m3 m4 m5 m6 m7 new h e1 t e2 o e3 g e4 e5 is_tested is_begun ask one two =
    let s1 = node_size old m1 (Heads number scope) e1 in
    let s2 = node_size m1 m2 Joins e2 in
    let s3 = node_size m2 m3 Joins e3 in
    let all = λ (at : ℕ) (is : at ≡ size old) (more : ℕ → List Part).
    loop_parts asked body next source again0 number scope head turn out again at (suc at) old m1 m2 m3 m4 m5 m6 m7 new h e1 t e2 o e3 g e4 e5
    (ask_at (let e : tested ≡ at = omega (arith, is_tested, h, is) in ap (λ n. From n Onward) e) (omega (arith, is_begun, t, s1, is)) refl ask)
    (code_at (omega (arith, is_begun, t, s1, is)) refl one) (code_at refl (omega (arith, is_tested, h, is)) two)
    at (omega (arith, h, is)) (omega (arith, t, s1, is)) (omega (arith, o, s1, s2, is)) (omega (arith, g, s1, s2, s3, is)) more in
    record {
      numbers = λ at rest is. ap (behind_code rest) (all at is (λ n. [])).0;
      parts = λ at rest end more is.
          let behind : suc (suc at) ≡ out = omega (arith, o, s1, s2, is) in
          (all at is (λ n. code_parts rest n (From (suc (suc at)) Onward) end leave0 again0 more)).1 ∙ ap (λ n. with_parts new (code_parts rest (size new) (From n Onward) end leave0 again0 more)) behind;
    }
loop_makes false asked body next source leave0 again0 number scope head turn out again tested begun old m1 m2 m3 m4 m5 m6 m7 new h e1 t e2 o e3 g e4 e5 is_tested is_begun ask one two =
    let s1 = node_size old m1 (Heads number scope) e1 in
    let s2 = node_size m1 m2 Joins e2 in
    let s3 = node_size m2 m3 Joins e3 in
    let all = λ (at : ℕ) (is : at ≡ size old) (more : ℕ → List Part).
    loop_parts asked body next source again0 number scope head turn out again (suc at) at old m1 m2 m3 m4 m5 m6 m7 new h e1 t e2 o e3 g e4 e5
    (ask_at (let e : tested ≡ suc at = omega (arith, is_tested, t, s1, is) in ap (λ n. From n Onward) e) (omega (arith, is_begun, h, is)) refl ask)
    (code_at (omega (arith, is_begun, h, is)) refl one) (code_at refl (omega (arith, is_tested, t, s1, is)) two)
    at (omega (arith, h, is)) (omega (arith, t, s1, is)) (omega (arith, o, s1, s2, is)) (omega (arith, g, s1, s2, s3, is)) more in
    record {
      numbers = λ at rest is. ap (behind_code rest) (all at is (λ n. [])).0;
      parts = λ at rest end more is.
          let behind : suc (suc at) ≡ out = omega (arith, o, s1, s2, is) in
          (all at is (λ n. code_parts rest n (From (suc (suc at)) Onward) end leave0 again0 more)).1 ∙ ap (λ n. with_parts new (code_parts rest (size new) (From n Onward) end leave0 again0 more)) behind;
    }

-- ---- conditions

-- the nodes of a loop, added one behind another
pub turns_added : (kind : Kind) (source : Source) (test_first : Bool) (head turn out again : ℕ) (asked_and_begun : ℕ × ℕ) (old m1 m4 new : Made)
    → head ≡ size old → m1 ≡ with_node old kind → turn ≡ size m1 → out ≡ suc (size m1) → again ≡ suc (suc (size m1)) → m4 ≡ with_node (with_node (with_node m1 Joins) Joins) Joins
    → asked_and_begun ≡ ordered test_first head turn → new ≡ led m4 source head
    → AddsTurns old new kind source test_first (record { tested = asked_and_begun.0; begun = asked_and_begun.1; out = out; again = again })
turns_added kind source test_first head turn out again both old m1 m4 new h e1 t o g e4 is_both e5 =
    let s1 = node_size old m1 kind e1 in
    let same : both ≡ ordered test_first (size old) (suc (size old)) = is_both ∙ (ap (λ n. ordered test_first n turn) h ∙ ap (ordered test_first (size old)) (t ∙ s1)) in
    record {
      made = e5 ∙ (ap (led m4 source) h ∙ ap (λ m. led m source (size old)) (e4 ∙ ap (λ m. with_node (with_node (with_node m Joins) Joins) Joins) e1));
      tested = ap (λ (b : ℕ × ℕ). b.0) same;
      begun = ap (λ (b : ℕ × ℕ). b.1) same;
      out = o ∙ ap suc s1;
      again = g ∙ ap (λ n. suc (suc n)) s1;
    }

-- the same, of the nodes that were added for the loop
pub turns_makes : (test_first : Bool) (asked : Condition) (body next : Code) (source : Source) (leave again number scope : ℕ) (turns : Turns) (around within : Jumps) (ways : Ways) (old m5 m6 m7 new : Made)
    → AddsTurns old m5 (Heads number scope) source test_first turns
    → around ≡ record { leave = turns.out; again = again } → within ≡ record { leave = around.leave; again = turns.again } → ways ≡ record { holds = turns.begun; fails = turns.out }
    → MakesCondition asked (From turns.tested Onward) ways.holds ways.fails around.leave around.again m5 m6
    → MakesCode body (From turns.begun Onward) turns.again within.leave within.again m6 m7
    → MakesCode next (From turns.again Onward) turns.tested around.leave around.again m7 new
    → MakesItem (Loop test_first asked body next number scope) source (From turns.out Onward) leave again old new
turns_makes test_first asked body next source leave again number scope turns around within ways old m5 m6 m7 new adds is_around is_within is_ways ask one two =
    let m1 = with_node old (Heads number scope) in
    let m2 = with_node m1 Joins in
    let m3 = with_node m2 Joins in
    let s1 = node_size old m1 (Heads number scope) refl in
    let s2 = node_size m1 m2 Joins refl in
    let s3 = node_size m2 m3 Joins refl in
    let inside = is_within ∙ ap (λ (j : Jumps). record { leave = j.leave; again = turns.again }) is_around in
    loop_makes test_first asked body next source leave again number scope (size old) (suc (size old)) turns.out turns.again turns.tested turns.begun old m1 m2 m3 (with_node m3 Joins) m5 m6 m7 new
    refl refl (sym s1) refl (adds.out ∙ sym (s2 ∙ ap suc s1)) refl (adds.again ∙ sym (s3 ∙ ap suc (s2 ∙ ap suc s1))) refl adds.made adds.tested adds.begun
    (subst (λ (w : Ways). MakesCondition asked (From turns.tested Onward) w.holds w.fails turns.out again m5 m6) is_ways
    (subst (λ (j : Jumps). MakesCondition asked (From turns.tested Onward) ways.holds ways.fails j.leave j.again m5 m6) is_around ask))
    (subst (λ (j : Jumps). MakesCode body (From turns.begun Onward) turns.again j.leave j.again m6 m7) inside one)
    (subst (λ (j : Jumps). MakesCode next (From turns.again Onward) turns.tested j.leave j.again m7 new) is_around two)

-- a node that is tested, behind the code that comes before it
pub read_makes : (asked : Condition) (kind : Kind) (when_true when_false : Pass) (code : Code) (source : Source) (holds fails leave again at0 : ℕ) (old m1 m2 new : Made)
    → ((at : ℕ) → behind_condition asked at ≡ behind_code code (suc at))
    → ((at : ℕ) (more : List Part) → condition_parts asked at source holds fails leave again more
    ≡ NodePart at kind ∷ EdgePart at when_true holds ∷ EdgePart at when_false fails ∷ code_parts code (suc at) source at leave again more)
    → edge_of when_true ≡ WhenTrue → edge_of when_false ≡ WhenFalse
    → at0 ≡ size old → m1 ≡ with_node old kind → m2 ≡ branched m1 at0 holds fails → MakesCode code source at0 leave again m2 new → MakesCondition asked source holds fails leave again old new
read_makes asked kind when_true when_false code source holds fails leave again at0 old m1 m2 new numbers parts is_true is_false here added split makes =
    let grown : size m2 ≡ suc (size old) = omega (arith, ap size split, node_size old m1 kind added) in
    record {
      numbers = λ at is. numbers at ∙ makes.numbers (suc at) (omega (arith, grown, is));
      parts = λ at more is.
          let rest = code_parts code (suc at) source at leave again more in
          let there : at0 ≡ at = omega (arith, here, is) in
          let first : with_node old kind ≡ m1 = sym added in
          let second : with_edge (with_edge m1 at WhenTrue holds) at WhenFalse fails ≡ m2 = ap (λ n. branched m1 n holds fails) (sym there) ∙ sym split in
          ap (with_parts old) (parts at more)
          ∙ (ap (λ e. with_parts (with_edge (with_edge (with_node old kind) at e holds) at (edge_of when_false) fails) rest) is_true
          ∙ (ap (λ e. with_parts (with_edge (with_edge (with_node old kind) at WhenTrue holds) at e fails) rest) is_false
          ∙ (ap (λ m. with_parts (with_edge (with_edge m at WhenTrue holds) at WhenFalse fails) rest) first
          ∙ (ap (λ m. with_parts m rest) second
          ∙ (subst (λ e. MakesCode code source e leave again m2 new) there makes).parts (suc at) more (omega (arith, grown, is))))));
    }

pub both_makes : (first second : Condition) (source : Source) (holds fails leave again between : ℕ) (old m1 m2 new : Made)
    → between ≡ size old → m1 ≡ with_node old Joins → MakesCondition first source between fails leave again m1 m2 → MakesCondition second (From between Onward) holds fails leave again m2 new
    → MakesCondition (Both first second) source holds fails leave again old new
both_makes first second source holds fails leave again between old m1 m2 new here added one two =
    let grown = node_size old m1 Joins added in
    let firsts = λ (at : ℕ) (is : at ≡ size old). ask_at {source' = source} {holds' = at} {fails' = fails} refl (omega (arith, here, is)) refl one in
    let seconds = λ (at : ℕ) (is : at ≡ size old). ask_at {source' = From at Onward} {holds' = holds} {fails' = fails} (let e : between ≡ at = omega (arith, here, is) in ap (λ n. From n Onward) e) refl refl two in
    let counts = λ (at : ℕ) (is : at ≡ size old). (firsts at is).numbers (suc at) (omega (arith, grown, is)) in
    record {
      numbers = λ at is. (seconds at is).numbers (behind_condition first (suc at)) (counts at is);
      parts = λ at more is.
          let rest = condition_parts second (behind_condition first (suc at)) (From at Onward) holds fails leave again more in
          ap (λ m. with_parts m (condition_parts first (suc at) source at fails leave again rest)) (sym added)
          ∙ ((firsts at is).parts (suc at) rest (omega (arith, grown, is)) ∙ (seconds at is).parts (behind_condition first (suc at)) more (counts at is));
    }

pub either_makes : (first second : Condition) (source : Source) (holds fails leave again between : ℕ) (old m1 m2 new : Made)
    → between ≡ size old → m1 ≡ with_node old Joins → MakesCondition first source holds between leave again m1 m2 → MakesCondition second (From between Onward) holds fails leave again m2 new
    → MakesCondition (Either first second) source holds fails leave again old new
either_makes first second source holds fails leave again between old m1 m2 new here added one two =
    let grown = node_size old m1 Joins added in
    let firsts = λ (at : ℕ) (is : at ≡ size old). ask_at {source' = source} {holds' = holds} {fails' = at} refl refl (omega (arith, here, is)) one in
    let seconds = λ (at : ℕ) (is : at ≡ size old). ask_at {source' = From at Onward} {holds' = holds} {fails' = fails} (let e : between ≡ at = omega (arith, here, is) in ap (λ n. From n Onward) e) refl refl two in
    let counts = λ (at : ℕ) (is : at ≡ size old). (firsts at is).numbers (suc at) (omega (arith, grown, is)) in
    record {
      numbers = λ at is. (seconds at is).numbers (behind_condition first (suc at)) (counts at is);
      parts = λ at more is.
          let rest = condition_parts second (behind_condition first (suc at)) (From at Onward) holds fails leave again more in
          ap (λ m. with_parts m (condition_parts first (suc at) source holds at leave again rest)) (sym added)
          ∙ ((firsts at is).parts (suc at) rest (omega (arith, grown, is)) ∙ (seconds at is).parts (behind_condition first (suc at)) more (counts at is));
    }

pub opposite_makes : (asked : Condition) (source : Source) (holds fails leave again : ℕ) (old new : Made) → MakesCondition asked source fails holds leave again old new
    → MakesCondition (Opposite asked) source holds fails leave again old new
opposite_makes asked source holds fails leave again old new makes = record { numbers = makes.numbers; parts = makes.parts }

-- ---- blocks

-- From the whole code is made what comes before the rest of it, to which control comes from `last`.
pub record MakesSome (whole rest : Code) (source last : Source) (leave again : ℕ) (old now : Made) : Type 0 where
  pub numbers : (at : ℕ) → at ≡ size old → behind_code whole at ≡ behind_code rest (size now)
  pub parts : (at end : ℕ) (more : List Part) → at ≡ size old → with_parts old (code_parts whole at source end leave again more) ≡ with_parts now (code_parts rest (size now) last end leave again more)

pub some_begins : (whole : Code) (source : Source) (leave again : ℕ) (old : Made) → MakesSome whole whole source source leave again old old
some_begins whole source leave again old = record {
  numbers = λ at is. ap (behind_code whole) is;
  parts = λ at end more is. ap (λ n. with_parts old (code_parts whole n source end leave again more)) is;
}

-- one item more
pub some_goes : (items : List Item) (index : ℕ) (item : Item) (source last behind : Source) (leave again : ℕ) (old now new : Made) → index < length items → item ≡ get_or items index item
    → MakesSome (items_code items) (items_code (drop index items)) source last leave again old now → MakesItem (item_code item) last behind leave again now new
    → MakesSome (items_code items) (items_code (drop (index + 1) items)) source behind leave again old new
some_goes items index item source last behind leave again old now new within is so_far makes =
    let cut : drop index items ≡ item ∷ drop (index + 1) items = drop-cons items index item within ∙ (ap (λ s. s ∷ drop (suc index) items) (sym is) ∙ rw add-one refl) in
    let rest = items_code (drop (index + 1) items) in
    let code : items_code (drop index items) ≡ item_code item rest = ap items_code cut in
    record {
      numbers = λ at here. so_far.numbers at here ∙ (ap (λ c. behind_code c (size now)) code ∙ makes.numbers (size now) rest refl);
      parts = λ at end more here.
          so_far.parts at end more here ∙ (ap (λ c. with_parts now (code_parts c (size now) last end leave again more)) code ∙ makes.parts (size now) rest end more refl);
    }

-- and then nothing more
pub some_ends : (whole rest : Code) (source last : Source) (end leave again : ℕ) (old now new : Made) → rest ≡ End → MakesSome whole rest source last leave again old now → new ≡ led now last end
    → MakesCode whole source end leave again old new
some_ends whole rest source last end leave again old now new none so_far is =
    let same : size new ≡ size now = ap size is ∙ led_size now last end in
    record {
      numbers = λ at here. so_far.numbers at here ∙ (ap (λ c. behind_code c (size now)) none ∙ sym same);
      parts = λ at more here. so_far.parts at end more here ∙ (ap (λ c. with_parts now (code_parts c (size now) last end leave again more)) none ∙ led_as now new last end more is);
    }
