-- A statement appends items whose loops have the next numbers, takes slots upwards and adds its locals behind.
use Rattle.std.proofs.Common.{◌≡◌, ℕ, zero, suc, ◌+◌, max, Bool, true, false, List, [], ◌∷◌, ◌++◌, map, Option, Some, None, Ok, Err, refl, sym, ap, subst, ◌∙◌, arith, append_assoc}
use Rattle.std.specs.Prelude.{if◌then◌else◌, nat_lt}
use Rattle.std.proofs.lemmas.Bool.Decides.{nat_tests}
use Rattle.std.proofs.lemmas.List.{append-nil}
use Rattle.ix_text.specs.declared.span.Span.{Span}
use Rattle.ix_core.specs.declared.claim.Type_.{Type_}
use Rattle.ix_core.specs.declared.code.Block.{Block}
use Rattle.ix_core.specs.declared.code.Cond.{Cond}
use Rattle.ix_core.specs.declared.code.Item.{Item}
use Rattle.ix_core.specs.declared.code.Item.TheVariants as item
use Rattle.ix_core.specs.declared.op.Literal.TheVariants as literal
use Rattle.ix_core.specs.declared.op.OpKind.TheVariants as op
use Rattle.ix_core.specs.Code.{Code, End, items_code, block_code, item_code}
use Rattle.ix_core.specs.Formed.{loop_numbers, numbers_from, super_calls, own_super_calls}
use Rattle.ix_core.proofs.Translated.{item_code-If, item_code-Loop}
use Rattle.ix_tree.specs.declared.annot.Ident.{Ident}
use Rattle.ix_tree.specs.declared.decl.LocalDecl.{LocalDecl}
use Rattle.ix_tree.specs.declared.expr.Expr.{Expr}
use Rattle.ix_tree.specs.declared.expr.Init.{Init}
use Rattle.ix_tree.specs.declared.stmt.Stmt.{Stmt, Stmt-F, ind-Stmt, map-Stmt, roll-Stmt, fold-roll-Stmt}
use Rattle.ix_tree.specs.declared.stmt.StmtKind.{StmtKind, StmtKind-F, map-StmtKind, roll-StmtKind, fold-StmtKind, fold-roll-StmtKind}
use Rattle.ix_meaning.specs.declared.note.Which.TheVariants as which
use Rattle.ix_plain.specs.declared.body.Body.{Body}
use Rattle.ix_plain.specs.declared.made.Made.{Made}
use Rattle.ix_plain.specs.declared.made.Spot.TheVariants as spot
use Rattle.ix_plain.specs.Scope.{Site, declared_type, declared_claims}
use Rattle.ix_plain.specs.Parts.{Within, ◌>>=◌, Value, Asked, empty, done, computed, write, default, most_slots}
use Rattle.ix_plain.specs.Assigned.{assigns, init_assigns}
use Rattle.ix_plain.specs.Values.{lowering, filling}
use Rattle.ix_plain.specs.Statements as statements
use Rattle.ix_plain.specs.Statements.{Running, Run, Inside, Evaluated, Tested, behind, with_last, behind_value, evaluated, init_evaluated, used, ran, all_ran, tested, tested_if, with_free, inside, in_loop, most_loops, scope_for, with_local, no_block}
use Rattle.ix_formed.specs.Additions.{Makes, AllOf, code_before, IsPlain, IsPlainCondition, Adds, Asks, Rises}
use Rattle.ix_formed.specs.Extensions.{IsNumbered, HasSlotIn, Moves, Extends, Computes, IsTested, Nests, Runs}
use Rattle.ix_formed.proofs.PlainItems.{makes_more, makes_then, before_append, items_before, plain_none, plain_both, plain_op, plain_supers}
use Rattle.ix_formed.proofs.ExpressionsAdd.{expression_adds, initialiser_adds, computed_adds}

-- ---- numbers

numbers_both : (first count more : ℕ) → numbers_from first (count + more) ≡ numbers_from first count ++ numbers_from (first + count) more
numbers_both first zero more = let a : 0 + more ≡ more = omega arith in let b : first + 0 ≡ first = omega arith in ap (numbers_from first) a ∙ ap (λ n. numbers_from n more) (sym b)
numbers_both first (suc count) more =
    let a : suc count + more ≡ suc (count + more) = omega arith in
    let b : (first + 1) + count ≡ first + suc count = omega arith in
    ap (numbers_from first) a ∙ ap (λ numbers. first ∷ numbers) (numbers_both (first + 1) count more ∙ ap (λ n. numbers_from (first + 1) count ++ numbers_from n more) b)

pub numbered_none : (first : ℕ) → IsNumbered first 0 []
numbered_none first = record { loops = λ rest. refl; supers = λ rest. refl; own_supers = λ rest. refl }

pub plain_numbered : (first : ℕ) (items : List Item) → IsPlain items → IsNumbered first 0 items
plain_numbered first items plain = record { loops = plain.loops; supers = plain.supers; own_supers = plain.own_supers }

pub numbered_both : (first count more : ℕ) (items others : List Item) → IsNumbered first count items → IsNumbered (first + count) more others → IsNumbered first (count + more) (items ++ others)
numbered_both first count more items others a b = record {
  loops = λ rest.
      ap loop_numbers (before_append items others rest) ∙ a.loops (code_before others rest) ∙ ap (λ numbers. numbers_from first count ++ numbers) (b.loops rest)
      ∙ sym (append_assoc (numbers_from first count) (numbers_from (first + count) more) (loop_numbers rest)) ∙ ap (λ numbers. numbers ++ loop_numbers rest) (sym (numbers_both first count more));
  supers = λ rest. ap super_calls (before_append items others rest) ∙ a.supers (code_before others rest) ∙ b.supers rest;
  own_supers = λ rest. ap own_super_calls (before_append items others rest) ∙ a.own_supers (code_before others rest) ∙ b.own_supers rest;
}

-- ---- lists of locals

all_append : {A : Type 0} (P : A → Type 0) (xs ys : List A) → AllOf P xs → AllOf P ys → AllOf P (xs ++ ys)
all_append P [] ys a b = b
all_append P (x ∷ xs) ys a b = (a.0, all_append P xs ys a.1 b)

all_more : {A : Type 0} (P Q : A → Type 0) → ((x : A) → P x → Q x) → (xs : List A) → AllOf P xs → AllOf Q xs
all_more P Q more [] a = tt
all_more P Q more (x ∷ xs) a = (more x a.0, all_more P Q more xs a.1)

-- ---- bodies that move on

pub moves_none : (body : Body) → Moves body body 0
moves_none body = record {
  loops = omega arith;
  free = omega arith;
  most = omega arith;
  within = λ w. w;
  locals = [];
  grown = sym (append-nil body.locals);
  placed = tt;
}

pub moves_both : (first second third : Body) (count more : ℕ) → Moves first second count → Moves second third more → Moves first third (count + more)
moves_both first second third count more a b = record {
  loops = omega (arith, a.loops, b.loops);
  free = omega (arith, a.free, b.free);
  most = omega (arith, a.most, b.most);
  within = λ w. b.within (a.within w);
  locals = a.locals ++ b.locals;
  grown = b.grown ∙ ap (λ locals. locals ++ b.locals) a.grown ∙ append_assoc first.locals a.locals b.locals;
  placed = all_append (HasSlotIn first.made.free third.most) a.locals b.locals
      (all_more (HasSlotIn first.made.free second.most) (HasSlotIn first.made.free third.most) (λ l h. (h.0, (let u = h.1 in let m = b.most in omega (arith, u, m)))) a.locals a.placed)
      (all_more (HasSlotIn second.made.free third.most) (HasSlotIn first.made.free third.most) (λ l h. ((let u = h.0 in let m = a.free in omega (arith, u, m)), h.1)) b.locals b.placed);
}

pub extends_none : (body : Body) → Extends body body
extends_none body = record { count = 0; moves = moves_none body; items = []; appended = sym (append-nil body.made.items); numbered = numbered_none body.loops }

pub extends_both : (first second third : Body) → Extends first second → Extends second third → Extends first third
extends_both first second third a b = record {
  count = a.count + b.count;
  moves = moves_both first second third a.count b.count a.moves b.moves;
  items = a.items ++ b.items;
  appended = b.appended ∙ ap (λ items. items ++ b.items) a.appended ∙ append_assoc first.made.items a.items b.items;
  numbered = numbered_both first.loops a.count b.count a.items b.items a.numbered (subst (λ n. IsNumbered n b.count b.items) a.moves.loops b.numbered);
}

then_extends : (body : Body) (r : Within Body) (next : Body → Within Body) → Makes (Extends body) r → ((second : Body) → Makes (Extends second) (next second)) → Makes (Extends body) (r >>= next)
then_extends body r next first second =
    makes_then (Extends body) (Extends body) r next first
    (λ middle a. makes_more (Extends middle) (Extends body) (λ third b. extends_both body middle third a b) (next middle) (second middle))

-- ---- full expressions

pub behind_moves : (body : Body) (items : List Item) (free : ℕ) → Rises body.made.free free → Moves body (behind body items free) 0
behind_moves body items free r = record {
  loops = omega arith;
  free = omega arith;
  most = omega arith;
  within = λ w. record {
    free = let f = w.free in omega (arith, f);
    slots = let f = r.few (let a = w.free in let b = w.slots in omega (arith, a, b)) in let b = w.slots in omega (arith, f, b);
    loops = w.loops;
  };
  locals = [];
  grown = sym (append-nil body.locals);
  placed = tt;
}

computes_extends : (body after : Body) → Computes body after → Extends body after
computes_extends body after c = record { count = 0; moves = c.moves; items = c.items; appended = c.appended; numbered = plain_numbered body.loops c.items c.plain }

computes_none : (body : Body) → Computes body body
computes_none body = record { moves = moves_none body; items = []; appended = sym (append-nil body.made.items); plain = plain_none }

pub computes_both : (first second third : Body) → Computes first second → Computes second third → Computes first third
computes_both first second third a b = record {
  moves = moves_both first second third 0 0 a.moves b.moves;
  items = a.items ++ b.items;
  appended = b.appended ∙ ap (λ items. items ++ b.items) a.appended ∙ append_assoc first.made.items a.items b.items;
  plain = plain_both a.items b.items a.plain b.plain;
}

behind_computes : (body : Body) (v : Value) → Adds body.made v.made → Computes body (behind body v.made.items v.made.free)
behind_computes body v a = record { moves = behind_moves body v.made.items v.made.free a.slots; items = a.items; appended = a.appended; plain = a.plain }

-- a value's items are computed
abbrev pub EvaluatedComputes : Body → Within Evaluated → Type 0
EvaluatedComputes body r = Makes (λ v. Computes body v.body) r

behind_value_computes : (body : Body) (r : Within Value) → Makes (λ v. Adds body.made v.made) r → EvaluatedComputes body (r >>= behind_value body)
behind_value_computes body r adds = makes_then (λ v. Adds body.made v.made) (λ (e : Evaluated). Computes body e.body) r (behind_value body) adds (λ v a. behind_computes body v a)

evaluated_computes : (site : Site) (e : Expr) (body : Body) → EvaluatedComputes body (evaluated site e body)
evaluated_computes site e body = behind_value_computes body _ ((expression_adds e).value (scope_for site body (assigns e).inside) body.made)

pub init_evaluated_computes : (site : Site) (i : Init) (ty : Type_) (body : Body) → EvaluatedComputes body (init_evaluated site i ty body)
init_evaluated_computes site i ty body = behind_value_computes body _ (initialiser_adds i (scope_for site body (init_assigns i)) ty body.made)

-- ---- one item

last_moves : (body middle : Body) (last : Item) (count : ℕ) → Moves body middle count → Moves body (with_last middle last) count
last_moves body middle last count m = record {
  loops = m.loops;
  free = m.free;
  most = m.most;
  within = λ w. let i = m.within w in record { free = i.free; slots = i.slots; loops = i.loops };
  locals = m.locals;
  grown = m.grown;
  placed = m.placed;
}

pub last_extends : (body : Body) (last : Item) → IsNumbered body.loops 0 (last ∷ []) → Extends body (with_last body last)
last_extends body last numbered = record { count = 0; moves = last_moves body body last 0 (moves_none body); items = last ∷ []; appended = refl; numbered = numbered }

pub last_computes : (body : Body) (last : Item) → IsPlain (last ∷ []) → Computes body (with_last body last)
last_computes body last plain = record { moves = last_moves body body last 0 (moves_none body); items = last ∷ []; appended = refl; plain = plain }

-- a value, and an item that uses it
used_extends : (body : Body) (r : Within Evaluated) (last : Evaluated → Item) → EvaluatedComputes body r → ((v : Evaluated) (first : ℕ) → IsNumbered first 0 (last v ∷ []))
    → Makes (Extends body) (r >>= (λ v. Ok (with_last v.body (last v))))
used_extends body r last computed numbered =
    makes_then (λ (v : Evaluated). Computes body v.body) (Extends body) r _ computed
    (λ v c. extends_both body v.body (with_last v.body (last v)) (computes_extends body v.body c) (last_extends v.body (last v) (numbered v v.body.loops)))

pub used_computes : (body : Body) (r : Within Evaluated) (last : Evaluated → Item) → EvaluatedComputes body r → ((v : Evaluated) → IsPlain (last v ∷ []))
    → Makes (Computes body) (r >>= (λ v. Ok (with_last v.body (last v))))
used_computes body r last computed plain =
    makes_then (λ (v : Evaluated). Computes body v.body) (Computes body) r _ computed
    (λ v c. computes_both body v.body (with_last v.body (last v)) c (last_computes v.body (last v) (plain v)))

ran_computes : (site : Site) (e : Expr) (body : Body) → Makes (Computes body) (ran site e body)
ran_computes site e body = makes_then (λ (v : Evaluated). Computes body v.body) (Computes body) (evaluated site e body) _ (evaluated_computes site e body) (λ v a. a)

all_ran_computes : (es : List Expr) (site : Site) (body : Body) → Makes (Computes body) (all_ran es site body)
all_ran_computes [] site body = computes_none body
all_ran_computes (e ∷ es) site body = makes_then (Computes body) (Computes body) (ran site e body) (all_ran es site) (ran_computes site e body)
    (λ middle a. makes_more (Computes middle) (Computes body) (λ third b. computes_both body middle third a b) (all_ran es site middle) (all_ran_computes es site middle))

-- ---- conditions

tested_well : (site : Site) (e : Expr) (body : Body) → Makes (IsTested body) (tested site e body)
tested_well site e body = makes_then (Asks body.made.free) (IsTested body) ((lowering e).condition (scope_for site body (assigns e).inside) body.made.free) _
    ((expression_adds e).condition (scope_for site body (assigns e).inside) body.made.free)
    (λ asked a. record { moves = behind_moves body body.made.items asked.free a.slots; same = refl; plain = a.plain })

tested_if_well : (e : Option Expr) (site : Site) (body : Body) → Makes (IsTested body) (tested_if e site body)
tested_if_well (Some e) site body = tested_well site e body
tested_if_well None site body = record { moves = moves_none body; same = refl; plain = record { straight = refl; supers = refl } }

-- ---- blocks of their own

-- a body in whose place another block is made
abbrev begun_block : Body → Body
begun_block body = record body { made = empty body.made.free }

nested_moves : (body inner : Body) (count : ℕ) → Moves (begun_block body) inner count → Moves body (record inner { made = body.made }) count
nested_moves body inner count m = record {
  loops = m.loops;
  free = omega arith;
  most = m.most;
  within = λ w. let i = m.within (record { free = w.free; slots = w.slots; loops = w.loops }) in let up = m.most in let f = w.free in record { free = omega (arith, up, f); slots = i.slots; loops = i.loops };
  locals = m.locals;
  grown = m.grown;
  placed = m.placed;
}

inside_nests : (run : Body → Within Body) (body : Body) → Makes (Extends (begun_block body)) (run (begun_block body)) → Makes (Nests body) (inside run body)
inside_nests run body extends = makes_then (Extends (begun_block body)) (Nests body) (run (begun_block body)) _ extends
    (λ inner x. record {
      count = x.count;
      moves = nested_moves body inner x.count x.moves;
      same = refl;
      numbered = subst (IsNumbered body.loops x.count) (sym x.appended) x.numbered;
    })

branch_nests : (part : Running) → Runs part → (site : Site) (body : Body) → Makes (Nests body) (statements.branch part site body)
branch_nests part runs site body = inside_nests (part.run site part.span.to) body (runs site part.span.to (begun_block body))

abbrev OptionRuns : Option Running → Type 0
OptionRuns None = Unit {0}
OptionRuns (Some part) = Runs part

branch_if_nests : (part : Option Running) → OptionRuns part → (site : Site) (body : Body) → Makes (Nests body) (statements.branch_if part site body)
branch_if_nests None runs site body = record { count = 0; moves = moves_none body; same = refl; numbered = numbered_none body.loops }
branch_if_nests (Some part) runs site body = branch_nests part runs site body

-- ---- items that hold blocks

block_loops : (first count : ℕ) (items : List Item) → IsNumbered first count items → loop_numbers (items_code items) ≡ numbers_from first count
block_loops first count items n = ap loop_numbers (items_before items) ∙ n.loops End ∙ append-nil (numbers_from first count)

block_supers : (first count : ℕ) (items : List Item) → IsNumbered first count items → super_calls (items_code items) ≡ 0
block_supers first count items n = ap super_calls (items_before items) ∙ n.supers End

if_numbered : (first count more : ℕ) (asked : Cond) (one two : Block) → IsPlainCondition asked → IsNumbered first count one.items → IsNumbered (first + count) more two.items
    → IsNumbered first (count + more) (item.If asked one two ∷ [])
if_numbered first count more asked one two plain a b = record {
  loops = λ rest.
      ap loop_numbers (item_code-If asked one two rest)
      ∙ ap (λ numbers. numbers ++ (loop_numbers (block_code two) ++ loop_numbers rest)) (block_loops first count one.items a)
      ∙ ap (λ numbers. numbers_from first count ++ (numbers ++ loop_numbers rest)) (block_loops (first + count) more two.items b)
      ∙ sym (append_assoc (numbers_from first count) (numbers_from (first + count) more) (loop_numbers rest))
      ∙ ap (λ numbers. numbers ++ loop_numbers rest) (sym (numbers_both first count more));
  supers = λ rest. ap super_calls (item_code-If asked one two rest) ∙ (let x = plain.supers in let y = block_supers first count one.items a in let z = block_supers (first + count) more two.items b in omega (arith, x, y, z));
  own_supers = λ rest. ap own_super_calls (item_code-If asked one two rest);
}

loop_numbered : (first count : ℕ) (test_first : Bool) (asked : Cond) (body next : Block) (scope : ℕ) → IsPlainCondition asked → IsNumbered (first + 1) count body.items → IsPlain next.items
    → IsNumbered first (suc count) (item.Loop test_first asked body next first scope ∷ [])
loop_numbered first count test_first asked body next scope plain a b = record {
  loops = λ rest.
      ap loop_numbers (item_code-Loop test_first asked body next first scope rest)
      ∙ ap (λ numbers. first ∷ (numbers ++ loop_numbers rest)) (block_loops (first + 1) count body.items a);
  supers = λ rest. ap super_calls (item_code-Loop test_first asked body next first scope rest)
      ∙ (let x = plain.supers in let y = block_supers (first + 1) count body.items a in let z = plain_supers next.items b in omega (arith, x, y, z));
  own_supers = λ rest. ap own_super_calls (item_code-Loop test_first asked body next first scope rest);
}

-- an item behind what moved the body on and made no item of it
closed_extends : (body middle : Body) (last : Item) (count : ℕ) → Moves body middle count → middle.made ≡ body.made → IsNumbered body.loops count (last ∷ []) → Extends body (with_last middle last)
closed_extends body middle last count m same numbered = record {
  count = count;
  moves = last_moves body middle last count m;
  items = last ∷ [];
  appended = ap (λ (made : Made). made.items ++ last ∷ []) same;
  numbered = numbered;
}

-- ---- choices and loops

moves_as : (body after : Body) (count other : ℕ) → count ≡ other → Moves body after count → Moves body after other
moves_as body after count other e m = subst (λ n. Moves body after n) e m

numbered_as : (first other count : ℕ) (items : List Item) → first ≡ other → IsNumbered first count items → IsNumbered other count items
numbered_as first other count items e n = subst (λ k. IsNumbered k count items) e n

chosen_extends : (condition : Expr) (first : Running) (second : Option Running) → Runs first → OptionRuns second → (site : Site) (body : Body)
    → Makes (Extends body) (statements.chosen condition first second site body)
chosen_extends condition first second one two site body =
    makes_then (IsTested body) (Extends body) (tested site condition body) _ (tested_well site condition body)
    (λ asked t. makes_then (Nests asked.body) (Extends body) (statements.branch first site asked.body) _ (branch_nests first one site asked.body)
    (λ holds h. makes_then (Nests holds.body) (Extends body) (statements.branch_if second site holds.body) _ (branch_if_nests second two site holds.body)
    (λ fails f.
    let start : asked.body.loops ≡ body.loops = (let e = t.moves.loops in omega (arith, e)) in
    let later : holds.body.loops ≡ body.loops + h.count = (let e = h.moves.loops in omega (arith, e, start)) in
    let zero : 0 + (h.count + f.count) ≡ h.count + f.count = omega arith in
    closed_extends body fails.body (item.If asked.cond holds.block fails.block) (h.count + f.count)
    (moves_as body fails.body (0 + (h.count + f.count)) (h.count + f.count) zero
    (moves_both body asked.body fails.body 0 (h.count + f.count) t.moves (moves_both asked.body holds.body fails.body h.count f.count h.moves f.moves)))
    (f.same ∙ h.same ∙ t.same)
    (if_numbered body.loops h.count f.count asked.cond holds.block fails.block t.plain
    (numbered_as asked.body.loops body.loops h.count holds.block.items start h.numbered)
    (numbered_as holds.body.loops (body.loops + h.count) f.count fails.block.items later f.numbered)))))

-- a loop's number is taken
loop_taken : (body : Body) (b : Bool) → b ≡ nat_lt body.loops most_loops → Makes (λ begun. Moves body begun 1 × (begun.made ≡ body.made)) (if b then Ok (record body { loops = body.loops + 1 }) else Err which.Loops)
loop_taken body true e = (
  record {
    loops = refl;
    free = omega arith;
    most = omega arith;
    within = λ w. record { free = w.free; slots = w.slots; loops = grind (arith, nat_tests) };
    locals = [];
    grown = sym (append-nil body.locals);
    placed = tt;
  },
  refl,
)
loop_taken body false e = tt

abbrev Begins : Body → Body → Type 0
Begins body begun = Moves body begun 1 × (begun.made ≡ body.made)

loop_begins : (body : Body) → Makes (Begins body) (in_loop body)
loop_begins body = loop_taken body (nat_lt body.loops most_loops) refl

while_extends : (condition : Expr) (turn : Running) → Runs turn → (site : Site) (body : Body) → Makes (Extends body) (statements.while condition turn site body)
while_extends condition turn runs site body =
    makes_then (Begins body) (Extends body) (in_loop body) _ (loop_begins body)
    (λ begun b. makes_then (IsTested begun) (Extends body) (tested site condition begun) _ (tested_well site condition begun)
    (λ asked t. makes_then (Nests asked.body) (Extends body) (statements.branch turn site asked.body) _ (branch_nests turn runs site asked.body)
    (λ inner n.
    let start : asked.body.loops ≡ body.loops + 1 = (let e = t.moves.loops in let d = b.0.loops in omega (arith, e, d)) in
    let all : 1 + (0 + n.count) ≡ suc n.count = omega arith in
    closed_extends body inner.body (item.Loop true asked.cond inner.block no_block body.loops body.made.free) (suc n.count)
    (moves_as body inner.body (1 + (0 + n.count)) (suc n.count) all
    (moves_both body begun inner.body 1 (0 + n.count) b.0 (moves_both begun asked.body inner.body 0 n.count t.moves n.moves)))
    (n.same ∙ t.same ∙ b.1)
    (loop_numbered body.loops n.count true asked.cond inner.block no_block body.made.free t.plain
    (numbered_as asked.body.loops (body.loops + 1) n.count inner.block.items start n.numbered) plain_none))))

do_extends : (turn : Running) (condition : Expr) → Runs turn → (site : Site) (body : Body) → Makes (Extends body) (statements.do_while turn condition site body)
do_extends turn condition runs site body =
    makes_then (Begins body) (Extends body) (in_loop body) _ (loop_begins body)
    (λ begun b. makes_then (Nests begun) (Extends body) (statements.branch turn site begun) _ (branch_nests turn runs site begun)
    (λ inner n. makes_then (IsTested inner.body) (Extends body) (tested site condition inner.body) _ (tested_well site condition inner.body)
    (λ asked t.
    let all : 1 + (n.count + 0) ≡ suc n.count = omega arith in
    closed_extends body asked.body (item.Loop false asked.cond inner.block no_block body.loops body.made.free) (suc n.count)
    (moves_as body asked.body (1 + (n.count + 0)) (suc n.count) all
    (moves_both body begun asked.body 1 (n.count + 0) b.0 (moves_both begun inner.body asked.body n.count 0 n.moves t.moves)))
    (t.same ∙ n.same ∙ b.1)
    (loop_numbered body.loops n.count false asked.cond inner.block no_block body.made.free t.plain
    (numbered_as begun.loops (body.loops + 1) n.count inner.block.items b.0.loops n.numbered) plain_none))))

-- what is computed between the turns of a loop
computed_inside : (update : List Expr) (site : Site) (body : Body) → Makes (λ (next : Inside). Moves body next.body 0 × (next.body.made ≡ body.made) × IsPlain next.block.items) (inside (all_ran update site) body)
computed_inside update site body =
    makes_then (Computes (begun_block body)) (λ (next : Inside). Moves body next.body 0 × (next.body.made ≡ body.made) × IsPlain next.block.items) (all_ran update site (begun_block body)) _
    (all_ran_computes update site (begun_block body))
    (λ inner c. (nested_moves body inner 0 c.moves, refl, subst IsPlain (sym c.appended) c.plain))

-- a local's slot is free again behind its scope
freed_extends : (body after : Body) → Extends body after → Extends body (with_free body.made.free after)
freed_extends body after x = record {
  count = x.count;
  moves = record {
    loops = x.moves.loops;
    free = omega arith;
    most = x.moves.most;
    within = λ w. let i = x.moves.within w in let up = x.moves.most in let f = w.free in record { free = omega (arith, up, f); slots = i.slots; loops = i.loops };
    locals = x.moves.locals;
    grown = x.moves.grown;
    placed = x.moves.placed;
  };
  items = x.items;
  appended = x.appended;
  numbered = x.numbered;
}

each_extends : (parts : List Running) → AllOf Runs parts → (site : Site) (end : ℕ) (body : Body) → Makes (Extends body) (statements.each parts site end body)
each_extends [] all site end body = extends_none body
each_extends (first ∷ rest) all site end body = then_extends body (first.run site end body) _ (all.0 site end body) (λ second. each_extends rest all.1 site end second)

for_extends : (first : List Running) (condition : Option Expr) (update : List Expr) (turn : Running) → AllOf Runs first → Runs turn → (end : ℕ) (site : Site) (body : Body)
    → Makes (Extends body) (statements.counted first condition update turn end site body)
for_extends first condition update turn all runs end site body =
    makes_then (Extends body) (Extends body) (statements.each first site end body) _ (each_extends first all site end body)
    (λ start x. makes_then (Begins start) (Extends body) (in_loop start) _ (loop_begins start)
    (λ begun b. makes_then (IsTested begun) (Extends body) (tested_if condition site begun) _ (tested_if_well condition site begun)
    (λ asked t. makes_then (Nests asked.body) (Extends body) (statements.branch turn site asked.body) _ (branch_nests turn runs site asked.body)
    (λ inner n. makes_then (λ (next : Inside). Moves inner.body next.body 0 × (next.body.made ≡ inner.body.made) × IsPlain next.block.items) (Extends body) (inside (all_ran update site) inner.body) _
    (computed_inside update site inner.body)
    (λ next m.
    let begin : asked.body.loops ≡ start.loops + 1 = (let e = t.moves.loops in let d = b.0.loops in omega (arith, e, d)) in
    let count : 1 + (0 + (n.count + 0)) ≡ suc n.count = omega arith in
    let loop = item.Loop true asked.cond inner.block next.block start.loops start.made.free in
    let looped : Extends start (with_last next.body loop) = closed_extends start next.body loop (suc n.count)
    (moves_as start next.body (1 + (0 + (n.count + 0))) (suc n.count) count
    (moves_both start begun next.body 1 (0 + (n.count + 0)) b.0 (moves_both begun asked.body next.body 0 (n.count + 0) t.moves (moves_both asked.body inner.body next.body n.count 0 n.moves m.0))))
    (m.1 ∙ n.same ∙ t.same ∙ b.1)
    (loop_numbered start.loops n.count true asked.cond inner.block next.block start.made.free t.plain
    (numbered_as asked.body.loops (start.loops + 1) n.count inner.block.items begin n.numbered) m.2) in
    freed_extends body (with_last next.body loop) (extends_both body start (with_last next.body loop) x looped))))))

-- ---- declarations of locals

local_added : (name : Ident) (end : ℕ) (site : Site) (body : Body) (b : Bool) → b ≡ nat_lt body.made.free most_slots
    → Makes (Computes body) (if b then Ok (record {
      made = record { items = body.made.items; free = body.made.free + 1 };
      locals = body.locals ++ (record { slot = body.made.free; name = name.text; claims = declared_claims (site.names.declared name.span) }, record { from = name.span.from; to = end }) ∷ [];
      most = max body.most (body.made.free + 1);
      loops = body.loops;
    }) else Err which.Slots)
local_added name end site body true e = record {
  moves = record {
    loops = omega arith;
    free = omega arith;
    most = omega arith;
    within = λ w. record { free = omega arith; slots = (let s = w.slots in grind (arith, nat_tests)); loops = w.loops };
    locals = (record { slot = body.made.free; name = name.text; claims = declared_claims (site.names.declared name.span) }, record { from = name.span.from; to = end }) ∷ [];
    grown = refl;
    placed = ((omega arith, omega arith), tt);
  };
  items = [];
  appended = sym (append-nil body.made.items);
  plain = plain_none;
}
local_added name end site body false e = tt

with_local_computes : (name : Ident) (end : ℕ) (site : Site) (body : Body) → Makes (Computes body) (with_local name end site body)
with_local_computes name end site body = local_added name end site body (nat_lt body.made.free most_slots) refl

initialised_computes : (slot : ℕ) (ty : Type_) (name : Span) (init : Option Init) (site : Site) (body : Body) → Makes (Computes body) (statements.initialised slot ty name init site body)
initialised_computes slot ty name None site body =
    used_computes body _ (λ v. write (spot.Variable slot) v.slot ty name name name)
    (behind_value_computes body _ (computed_adds body.made (op.Const body.made.free (default ty)) name refl))
    (λ v. plain_op (record { kind = op.Copy slot v.slot ty; span = name; parts = name ∷ name ∷ [] }) refl)
initialised_computes slot ty name (Some init) site body =
    used_computes body _ (λ v. write (spot.Variable slot) v.slot ((filling init).ty site ty) (filling init).span name (filling init).span)
    (init_evaluated_computes site init ty body)
    (λ v. plain_op (record { kind = op.Copy slot v.slot ((filling init).ty site ty); span = (filling init).span; parts = name ∷ (filling init).span ∷ [] }) refl)

then_computes : (body : Body) (r : Within Body) (next : Body → Within Body) → Makes (Computes body) r → ((second : Body) → Makes (Computes second) (next second)) → Makes (Computes body) (r >>= next)
then_computes body r next first second =
    makes_then (Computes body) (Computes body) r next first
    (λ middle a. makes_more (Computes middle) (Computes body) (λ third b. computes_both body middle third a b) (next middle) (second middle))

declaration_computes : (decl : LocalDecl) (site : Site) (end : ℕ) (body : Body) → Makes (Computes body) (statements.declaration decl site end body)
declaration_computes decl site end body = then_computes body (with_local decl.name end site body) _ (with_local_computes decl.name end site body)
    (λ second. initialised_computes body.made.free (declared_type (site.names.declared decl.name.span)) decl.name.span decl.init site second)

declarations_compute : (decls : List LocalDecl) (site : Site) (end : ℕ) (body : Body) → Makes (Computes body) (statements.declarations decls site end body)
declarations_compute [] site end body = computes_none body
declarations_compute (decl ∷ decls) site end body = then_computes body (statements.declaration decl site end body) _ (declaration_computes decl site end body)
    (λ second. declarations_compute decls site end second)

-- ---- all forms

jump_numbered : (first : ℕ) (last : Item) → ((rest : Code) → loop_numbers (item_code last rest) ≡ loop_numbers rest) → ((rest : Code) → super_calls (item_code last rest) ≡ super_calls rest)
    → ((rest : Code) → own_super_calls (item_code last rest) ≡ own_super_calls rest) → IsNumbered first 0 (last ∷ [])
jump_numbered first last loops supers own = record { loops = loops; supers = supers; own_supers = own }

answer_block_numbered : (first : ℕ) (holds : Bool) (slot : ℕ) (span : Span) → IsNumbered first 0 (statements.answer holds slot span).items
answer_block_numbered first holds slot span =
    numbered_both first 0 0 (done (op.Const slot (literal.Bool holds)) span [] ∷ []) (item.Return (Some slot) span ∷ [])
    (plain_numbered first (done (op.Const slot (literal.Bool holds)) span [] ∷ []) (plain_op (record { kind = op.Const slot (literal.Bool holds); span = span; parts = [] }) refl))
    (jump_numbered (first + 0) (item.Return (Some slot) span) (λ rest. refl) (λ rest. refl) (λ rest. refl))

answer_numbered : (first : ℕ) (asked : Cond) (slot : ℕ) (span : Span) → IsPlainCondition asked → IsNumbered first 0 (statements.answer_item asked slot span ∷ [])
answer_numbered first asked slot span plain =
    if_numbered first 0 0 asked (statements.answer true slot span) (statements.answer false slot span) plain (answer_block_numbered first true slot span) (answer_block_numbered (first + 0) false slot span)

answered_extends : (site : Site) (e : Expr) (body : Body) → Makes (Extends body) (statements.answered site e body)
answered_extends site e body =
    makes_then (Asks body.made.free) (Extends body) ((lowering e).condition (scope_for site body (assigns e).inside) body.made.free) _ ((expression_adds e).condition (scope_for site body (assigns e).inside) body.made.free)
    (λ asked a. taken asked a (nat_lt asked.free most_slots) refl)
  where
    taken : (asked : Asked) → Asks body.made.free asked → (b : Bool) → nat_lt asked.free most_slots ≡ b
        → Makes (Extends body) ((if b then Ok (record { made = record { items = body.made.items ++ statements.answer_item asked.cond asked.free e.span ∷ []; free = asked.free + 1 }; slot = asked.free }) else Err which.Slots)
        >>= (λ (value : Value). Ok (behind body value.made.items value.made.free)))
    taken asked a true lt = record {
      count = 0;
      moves = behind_moves body (body.made.items ++ statements.answer_item asked.cond asked.free e.span ∷ []) (asked.free + 1) (record { up = (let u = a.slots.up in omega (arith, u)); few = λ le. grind (arith, nat_tests) });
      items = statements.answer_item asked.cond asked.free e.span ∷ [];
      appended = refl;
      numbered = answer_numbered body.loops asked.cond asked.free e.span a.plain;
    }
    taken asked a false lt = tt

returned_extends : (value : Option Expr) (span : Span) (site : Site) (body : Body) → Makes (Extends body) (statements.returned value span site body)
returned_extends None span site body = last_extends body (item.Return None span) (jump_numbered body.loops (item.Return None span) (λ rest. refl) (λ rest. refl) (λ rest. refl))
returned_extends (Some e) span site body = answers_or_not site.answers
  where
    answers_or_not : (b : Bool) → Makes (Extends body) (if b then statements.answered site e body else used site e (λ slot. item.Return (Some slot) e.span) body)
    answers_or_not true = answered_extends site e body
    answers_or_not false = used_extends body (evaluated site e body) (λ v. item.Return (Some v.slot) e.span) (evaluated_computes site e body)
        (λ v first. jump_numbered first (item.Return (Some v.slot) e.span) (λ rest. refl) (λ rest. refl) (λ rest. refl))

computes_makes : (body : Body) (r : Within Body) → Makes (Computes body) r → Makes (Extends body) r
computes_makes body r c = makes_more (Computes body) (Extends body) (λ after x. computes_extends body after x) r c

abbrev kind_run : StmtKind → Span → Run
kind_run = fold-StmtKind (Span → Run) Running statements.kind_step statements.stmt_step

abbrev KindRuns : StmtKind → Type 0
KindRuns k = (span : Span) (site : Site) (end : ℕ) (body : Body) → Makes (Extends body) (kind_run k span site end body)

abbrev StmtRuns : Stmt → Type 0
StmtRuns s = Runs (statements.statement s)

module _ {K S : Type 0} (kind : K → StmtKind) (stmt : S → Stmt) (stmt_runs : (s : S) → StmtRuns (stmt s)) where
  all_run : (ss : List S) → AllOf Runs (map statements.statement (map stmt ss))
  all_run [] = tt
  all_run (s ∷ ss) = (stmt_runs s, all_run ss)

  run_layer : (y : StmtKind-F K S) (span : Span) (site : Site) (end : ℕ) (body : Body)
      → Makes (Extends body) (statements.kind_step (map-StmtKind StmtKind Stmt (Span → Run) Running kind_run statements.statement (map-StmtKind K S StmtKind Stmt kind stmt y)) span site end body)
  run_layer (StmtKind-F.Block ss) span site end body =
      makes_then (Extends body) (Extends body) (statements.each (map statements.statement (map stmt ss)) site span.to body) _
      (each_extends (map statements.statement (map stmt ss)) (all_run ss) site span.to body) (λ inner x. freed_extends body inner x)
  run_layer StmtKind-F.Empty span site end body = extends_none body
  run_layer (StmtKind-F.Local decls) span site end body = computes_makes body (statements.declarations decls site end body) (declarations_compute decls site end body)
  run_layer (StmtKind-F.If condition first None) span site end body = chosen_extends condition (statements.statement (stmt first)) None (stmt_runs first) tt site body
  run_layer (StmtKind-F.If condition first (Some second)) span site end body =
      chosen_extends condition (statements.statement (stmt first)) (Some (statements.statement (stmt second))) (stmt_runs first) (stmt_runs second) site body
  run_layer (StmtKind-F.While condition turn) span site end body = while_extends condition (statements.statement (stmt turn)) (stmt_runs turn) site body
  run_layer (StmtKind-F.Do turn condition) span site end body = do_extends (statements.statement (stmt turn)) condition (stmt_runs turn) site body
  run_layer (StmtKind-F.For first condition update turn) span site end body =
      for_extends (map statements.statement (map stmt first)) condition update (statements.statement (stmt turn)) (all_run first) (stmt_runs turn) span.to site body
  run_layer StmtKind-F.Break span site end body = last_extends body item.Break (jump_numbered body.loops item.Break (λ rest. refl) (λ rest. refl) (λ rest. refl))
  run_layer StmtKind-F.Continue span site end body = last_extends body item.Continue (jump_numbered body.loops item.Continue (λ rest. refl) (λ rest. refl) (λ rest. refl))
  run_layer (StmtKind-F.Return value) span site end body = returned_extends value span site body
  run_layer (StmtKind-F.Throw name) span site end body =
      last_extends body (item.Throw name.text span) (jump_numbered body.loops (item.Throw name.text span) (λ rest. refl) (λ rest. refl) (λ rest. refl))
  run_layer (StmtKind-F.Print value) span site end body =
      used_extends body (evaluated site value body) (λ v. done (op.Print v.slot) value.span []) (evaluated_computes site value body)
      (λ v first. plain_numbered first (done (op.Print v.slot) value.span [] ∷ []) (plain_op (record { kind = op.Print v.slot; span = value.span; parts = [] }) refl))
  run_layer (StmtKind-F.Run e) span site end body = computes_makes body (ran site e body) (ran_computes site e body)

  run_rolled : (y : StmtKind-F K S) → KindRuns (roll-StmtKind (map-StmtKind K S StmtKind Stmt kind stmt y))
  run_rolled y span site end body =
      let a = fold-roll-StmtKind (Span → Run) Running statements.kind_step statements.stmt_step (map-StmtKind K S StmtKind Stmt kind stmt y) in
      subst (λ (f : Span → Run). Makes (Extends body) (f span site end body)) (sym a) (run_layer y span site end body)

  stmt_rolled : ((k : K) → KindRuns (kind k)) → (y : Stmt-F K S) → StmtRuns (roll-Stmt (map-Stmt K S StmtKind Stmt kind stmt y))
  stmt_rolled kind_runs y =
      let a = fold-roll-Stmt (Span → Run) Running statements.kind_step statements.stmt_step (map-Stmt K S StmtKind Stmt kind stmt y) in
      subst Runs (sym a) (λ site end body. kind_runs y.kind y.span site end body)

pub statement_extends : (s : Stmt) → Runs (statements.statement s)
statement_extends = ind-Stmt KindRuns StmtRuns
    (λ x y e. subst (λ layer. KindRuns (roll-StmtKind layer)) e (run_rolled (λ k. k.0) (λ s. s.0) (λ s. s.1) y))
    (λ x y e. subst (λ layer. StmtRuns (roll-Stmt layer)) e (stmt_rolled (λ k. k.0) (λ s. s.0) (λ s. s.1) (λ k. k.1) y))

statements_run : (ss : List Stmt) → AllOf Runs (map statements.statement ss)
statements_run [] = tt
statements_run (s ∷ ss) = (statement_extends s, statements_run ss)

pub statements_extend : (ss : List Stmt) (site : Site) (end : ℕ) (body : Body) → Makes (Extends body) (statements.each (map statements.statement ss) site end body)
statements_extend ss site end body = each_extends (map statements.statement ss) (statements_run ss) site end body
