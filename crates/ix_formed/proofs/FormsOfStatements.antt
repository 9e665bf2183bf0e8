-- A statement gives few items besides its operations: three for each statement and two for each expression in it.
use Rattle.std.proofs.Common.{◌≡◌, ◌≤◌, ℕ, ◌+◌, max, Bool, true, false, List, [], ◌∷◌, ◌++◌, map, Option, Some, None, Ok, Err, refl, sym, ap, subst, ◌∙◌, arith}
use Rattle.std.specs.Prelude.{if◌then◌else◌, nat_lt}
use Rattle.ix_text.specs.declared.span.Span.{Span}
use Rattle.ix_core.specs.declared.claim.Type_.{Type_}
use Rattle.ix_core.specs.declared.code.Block.{Block}
use Rattle.ix_core.specs.declared.code.Cond.{Cond}
use Rattle.ix_core.specs.declared.code.Item.{Item}
use Rattle.ix_core.specs.declared.code.Item.TheVariants as item
use Rattle.ix_core.specs.declared.op.OpKind.TheVariants as op
use Rattle.ix_core.specs.Code.{End, cond_code, block_code, item_code}
use Rattle.ix_core.proofs.Translated.{item_code-If, item_code-Loop}
use Rattle.ix_tree.specs.declared.annot.Ident.{Ident}
use Rattle.ix_tree.specs.declared.decl.LocalDecl.{LocalDecl}
use Rattle.ix_tree.specs.declared.decl.Member.{Member}
use Rattle.ix_tree.specs.declared.decl.Member.TheVariants as member
use Rattle.ix_tree.specs.declared.decl.MethodDecl.{MethodDecl}
use Rattle.ix_tree.specs.declared.expr.Expr.{Expr}
use Rattle.ix_tree.specs.declared.expr.Init.{Init}
use Rattle.ix_tree.specs.declared.stmt.Stmt.{Stmt, Stmt-F, ind-Stmt, map-Stmt, roll-Stmt, fold-roll-Stmt}
use Rattle.ix_tree.specs.declared.stmt.StmtKind.{StmtKind, StmtKind-F, map-StmtKind, roll-StmtKind, fold-StmtKind, fold-roll-StmtKind}
use Rattle.ix_tree.specs.Parts as parts
use Rattle.ix_tree.specs.Parts.{Part, together, listed, mods_parts, type_parts, elsewhere, expr_parts, init_parts, decl_parts, stmt_parts, member_parts}
use Rattle.ix_meaning.specs.declared.note.Which.TheVariants as which
use Rattle.ix_plain.specs.declared.body.Body.{Body}
use Rattle.ix_plain.specs.declared.made.Made.{Made}
use Rattle.ix_plain.specs.declared.made.Spot.TheVariants as spot
use Rattle.ix_plain.specs.Scope.{Site, Scope, declared_type, constructor_at}
use Rattle.ix_plain.specs.Parts.{Within, ◌>>=◌, Value, Asked, empty, done, computed, write, default}
use Rattle.ix_plain.specs.Assigned.{assigns, init_assigns, all_assign}
use Rattle.ix_plain.specs.Values.{Arguments, lowering, filling, arguments_from, calling}
use Rattle.ix_plain.specs.Statements as statements
use Rattle.ix_plain.specs.Statements.{Running, Run, Inside, Evaluated, Tested, behind, with_last, behind_value, evaluated, init_evaluated, used, ran, all_ran, tested, tested_if, inside, in_loop, most_loops, scope_for, with_local, no_block}
use Rattle.ix_plain.specs.Members.{next_field}
use Rattle.ix_plain.specs.Program as program
use Rattle.ix_plain.specs.Program.{Home, start, args_or_none}
use Rattle.ix_formed.specs.Additions.{Makes}
use Rattle.ix_formed.specs.Sizes.{code_forms, condition_forms, item_forms}
use Rattle.ix_formed.proofs.CodeSizes.{forms_append, forms_of_items}
use Rattle.ix_formed.proofs.ExpressionNotes.{total_append}
use Rattle.ix_formed.proofs.FormsOfExpressions.{Adds, part_forms, parts_forms, AllForms, sum, expression_forms, initialiser_forms, computed_adds, taking_adds, calling_adds, arguments_add}
use Rattle.ix_formed.proofs.PlainItems.{makes_more, makes_then}

abbrev pub body_forms : Body → ℕ
body_forms body = item_forms body.made.items

-- so many more in the body
abbrev pub Grows : Body → ℕ → Body → Type 0
Grows body n after = body_forms after ≤ body_forms body + n

pub then_grows : (body : Body) (n m : ℕ) (r : Within Body) (next : Body → Within Body) → Makes (Grows body n) r → ((second : Body) → Makes (Grows second m) (next second)) → Makes (Grows body (n + m)) (r >>= next)
then_grows body n m r next first second =
    makes_then (Grows body n) (Grows body (n + m)) r next first
    (λ middle a. makes_more (Grows middle m) (Grows body (n + m)) (λ third b. omega (arith, a, b)) (next middle) (second middle))

pub grows_as : (body : Body) (n m : ℕ) (r : Within Body) → n ≤ m → Makes (Grows body n) r → Makes (Grows body m) r
grows_as body n m r le g = makes_more (Grows body n) (Grows body m) (λ after a. omega (arith, a, le)) r g

-- ---- full expressions

abbrev EvaluatedGrows : Body → ℕ → Within Evaluated → Type 0
EvaluatedGrows body n r = Makes (λ (e : Evaluated). Grows body n e.body) r

behind_grows : (body : Body) (n : ℕ) (r : Within Value) → Makes (λ v. Adds body.made n v.made) r → EvaluatedGrows body n (r >>= behind_value body)
behind_grows body n r adds = makes_then (λ v. Adds body.made n v.made) (λ (e : Evaluated). Grows body n e.body) r (behind_value body) adds (λ v a. a)

evaluated_grows : (site : Site) (e : Expr) (body : Body) → EvaluatedGrows body (parts_forms (expr_parts e)) (evaluated site e body)
evaluated_grows site e body = behind_grows body (parts_forms (expr_parts e)) _ ((expression_forms e).value (scope_for site body (assigns e).inside) body.made)

init_grows : (site : Site) (i : Init) (ty : Type_) (body : Body) → EvaluatedGrows body (parts_forms (init_parts i)) (init_evaluated site i ty body)
init_grows site i ty body = behind_grows body (parts_forms (init_parts i)) _ (initialiser_forms i (scope_for site body (init_assigns i)) ty body.made)

last_grows : (body : Body) (last : Item) (n : ℕ) → code_forms (item_code last End) ≤ n → Grows body n (with_last body last)
last_grows body last n le = let e = forms_append body.made.items (last ∷ []) in omega (arith, e, le)

used_grows : (body : Body) (n k : ℕ) (r : Within Evaluated) (last : Evaluated → Item) → EvaluatedGrows body n r → ((v : Evaluated) → code_forms (item_code (last v) End) ≤ k)
    → Makes (Grows body (n + k)) (r >>= (λ v. Ok (with_last v.body (last v))))
used_grows body n k r last computed few =
    makes_then (λ (v : Evaluated). Grows body n v.body) (Grows body (n + k)) r _ computed (λ v c. let g = last_grows v.body (last v) k (few v) in omega (arith, c, g))

ran_grows : (site : Site) (e : Expr) (body : Body) → Makes (Grows body (parts_forms (expr_parts e))) (ran site e body)
ran_grows site e body = makes_then (λ (v : Evaluated). Grows body (parts_forms (expr_parts e)) v.body) (Grows body (parts_forms (expr_parts e))) (evaluated site e body) _ (evaluated_grows site e body) (λ v a. a)

all_ran_grows : (es : List Expr) (site : Site) (body : Body) → Makes (Grows body (parts_forms (listed (parts.each expr_parts es)))) (all_ran es site body)
all_ran_grows es site body = makes_more (Grows body (parts_forms (together (parts.each expr_parts es)))) (Grows body (parts_forms (listed (parts.each expr_parts es)))) (λ after a. omega (arith, a)) (all_ran es site body) (together_grows es body)
  where
    together_grows : (es : List Expr) (body : Body) → Makes (Grows body (parts_forms (together (parts.each expr_parts es)))) (all_ran es site body)
    together_grows [] body = omega arith
    together_grows (e ∷ es) body =
        let a = total_append part_forms (expr_parts e) (together (parts.each expr_parts es)) in
        grows_as body (parts_forms (expr_parts e) + parts_forms (together (parts.each expr_parts es))) _ _ (omega (arith, a))
        (then_grows body (parts_forms (expr_parts e)) (parts_forms (together (parts.each expr_parts es))) (ran site e body) (all_ran es site) (ran_grows site e body) (λ second. together_grows es second))

-- ---- conditions

pub record IsTested (body : Body) (n : ℕ) (asked : Tested) : Type 0 where
  pub cond : condition_forms (cond_code asked.cond) ≤ n
  pub same : asked.body.made ≡ body.made

tested_is : (site : Site) (e : Expr) (body : Body) → Makes (IsTested body (parts_forms (expr_parts e))) (tested site e body)
tested_is site e body = makes_then (λ (a : Asked). condition_forms (cond_code a.cond) ≤ parts_forms (expr_parts e)) (IsTested body (parts_forms (expr_parts e)))
    ((lowering e).condition (scope_for site body (assigns e).inside) body.made.free) _ ((expression_forms e).condition (scope_for site body (assigns e).inside) body.made.free)
    (λ asked le. record { cond = le; same = refl })

tested_if_is : (e : Option Expr) (site : Site) (body : Body) → Makes (IsTested body (1 + parts_forms (parts.maybe expr_parts e))) (tested_if e site body)
tested_if_is (Some e) site body = makes_more (IsTested body (parts_forms (expr_parts e))) (IsTested body (1 + parts_forms (expr_parts e))) (λ t a. record { cond = (let c = a.cond in omega (arith, c)); same = a.same }) (tested site e body) (tested_is site e body)
tested_if_is None site body = record { cond = omega arith; same = refl }

-- ---- blocks of their own

pub record IsInside (body : Body) (n : ℕ) (made : Inside) : Type 0 where
  pub block : code_forms (block_code made.block) ≤ n
  pub same : made.body.made ≡ body.made

abbrev begun_block : Body → Body
begun_block body = record body { made = empty body.made.free }

inside_is : (run : Body → Within Body) (body : Body) (n : ℕ) → Makes (Grows (begun_block body) n) (run (begun_block body)) → Makes (IsInside body n) (inside run body)
inside_is run body n grows = makes_then (Grows (begun_block body) n) (IsInside body n) (run (begun_block body)) _ grows
    (λ inner g. record { block = (let e = forms_of_items inner.made.items in omega (arith, e, g)); same = refl })

abbrev Runs : Running → ℕ → Type 0
Runs part n = (site : Site) (end : ℕ) (body : Body) → Makes (Grows body n) (part.run site end body)

branch_is : (part : Running) (n : ℕ) → Runs part n → (site : Site) (body : Body) → Makes (IsInside body n) (statements.branch part site body)
branch_is part n runs site body = inside_is (part.run site part.span.to) body n (runs site part.span.to (begun_block body))

abbrev OptionRuns : Option Running → ℕ → Type 0
OptionRuns None n = Unit {0}
OptionRuns (Some part) n = Runs part n

branch_if_is : (part : Option Running) (n : ℕ) → OptionRuns part n → (site : Site) (body : Body) → Makes (IsInside body n) (statements.branch_if part site body)
branch_if_is None n runs site body = record { block = omega arith; same = refl }
branch_if_is (Some part) n runs site body = branch_is part n runs site body

-- an item behind what made no item of the body
closed_grows : (body middle : Body) (last : Item) (n : ℕ) → middle.made ≡ body.made → code_forms (item_code last End) ≤ n → Grows body n (with_last middle last)
closed_grows body middle last n same le = let e = forms_append middle.made.items (last ∷ []) in let s = ap (λ (m : Made). item_forms m.items) same in omega (arith, e, s, le)

-- ---- choices and loops

chosen_grows : (condition : Expr) (first : Running) (second : Option Running) (n m : ℕ) → Runs first n → OptionRuns second m → (site : Site) (body : Body)
    → Makes (Grows body (1 + (parts_forms (expr_parts condition) + (n + m)))) (statements.chosen condition first second site body)
chosen_grows condition first second n m one two site body =
    makes_then (IsTested body (parts_forms (expr_parts condition))) (Grows body (1 + (parts_forms (expr_parts condition) + (n + m)))) (tested site condition body) _ (tested_is site condition body)
    (λ asked t. makes_then (IsInside asked.body n) (Grows body (1 + (parts_forms (expr_parts condition) + (n + m)))) (statements.branch first site asked.body) _ (branch_is first n one site asked.body)
    (λ holds h. makes_then (IsInside holds.body m) (Grows body (1 + (parts_forms (expr_parts condition) + (n + m)))) (statements.branch_if second site holds.body) _ (branch_if_is second m two site holds.body)
    (λ fails f. closed_grows body fails.body (item.If asked.cond holds.block fails.block) (1 + (parts_forms (expr_parts condition) + (n + m))) (f.same ∙ h.same ∙ t.same)
    (let e = ap code_forms (item_code-If asked.cond holds.block fails.block End) in let a = t.cond in let b = h.block in let c = f.block in omega (arith, e, a, b, c)))))

loop_taken : (body : Body) (b : Bool) → Makes (λ begun. begun.made ≡ body.made) (if b then Ok (record body { loops = body.loops + 1 }) else Err which.Loops)
loop_taken body true = refl
loop_taken body false = tt

loop_begins : (body : Body) → Makes (λ begun. begun.made ≡ body.made) (in_loop body)
loop_begins body = loop_taken body (nat_lt body.loops most_loops)

loop_few : (test_first : Bool) (asked : Cond) (body next : Block) (number scope c n m : ℕ) → condition_forms (cond_code asked) ≤ c → code_forms (block_code body) ≤ n → code_forms (block_code next) ≤ m
    → code_forms (item_code (item.Loop test_first asked body next number scope) End) ≤ 1 + (c + (n + m))
loop_few test_first asked body next number scope c n m x y z = let e = ap code_forms (item_code-Loop test_first asked body next number scope End) in omega (arith, e, x, y, z)

while_grows : (condition : Expr) (turn : Running) (n : ℕ) → Runs turn n → (site : Site) (body : Body) → Makes (Grows body (1 + (parts_forms (expr_parts condition) + (n + 0)))) (statements.while condition turn site body)
while_grows condition turn n runs site body =
    makes_then (λ (begun : Body). begun.made ≡ body.made) (Grows body (1 + (parts_forms (expr_parts condition) + (n + 0)))) (in_loop body) _ (loop_begins body)
    (λ begun b. makes_then (IsTested begun (parts_forms (expr_parts condition))) (Grows body (1 + (parts_forms (expr_parts condition) + (n + 0)))) (tested site condition begun) _ (tested_is site condition begun)
    (λ asked t. makes_then (IsInside asked.body n) (Grows body (1 + (parts_forms (expr_parts condition) + (n + 0)))) (statements.branch turn site asked.body) _ (branch_is turn n runs site asked.body)
    (λ inner i. closed_grows body inner.body (item.Loop true asked.cond inner.block no_block body.loops body.made.free) (1 + (parts_forms (expr_parts condition) + (n + 0))) (i.same ∙ t.same ∙ b)
    (loop_few true asked.cond inner.block no_block body.loops body.made.free (parts_forms (expr_parts condition)) n 0 t.cond i.block (omega arith)))))

do_grows : (turn : Running) (condition : Expr) (n : ℕ) → Runs turn n → (site : Site) (body : Body) → Makes (Grows body (1 + (parts_forms (expr_parts condition) + (n + 0)))) (statements.do_while turn condition site body)
do_grows turn condition n runs site body =
    makes_then (λ (begun : Body). begun.made ≡ body.made) (Grows body (1 + (parts_forms (expr_parts condition) + (n + 0)))) (in_loop body) _ (loop_begins body)
    (λ begun b. makes_then (IsInside begun n) (Grows body (1 + (parts_forms (expr_parts condition) + (n + 0)))) (statements.branch turn site begun) _ (branch_is turn n runs site begun)
    (λ inner i. makes_then (IsTested inner.body (parts_forms (expr_parts condition))) (Grows body (1 + (parts_forms (expr_parts condition) + (n + 0)))) (tested site condition inner.body) _ (tested_is site condition inner.body)
    (λ asked t. closed_grows body asked.body (item.Loop false asked.cond inner.block no_block body.loops body.made.free) (1 + (parts_forms (expr_parts condition) + (n + 0))) (t.same ∙ i.same ∙ b)
    (loop_few false asked.cond inner.block no_block body.loops body.made.free (parts_forms (expr_parts condition)) n 0 t.cond i.block (omega arith)))))

abbrev AllRun : List Running → List ℕ → Type 0
AllRun [] [] = Unit {0}
AllRun (part ∷ parts) (n ∷ ns) = Runs part n × AllRun parts ns
AllRun _ _ = ⊥

each_grows : (rs : List Running) (ns : List ℕ) → AllRun rs ns → (site : Site) (end : ℕ) (body : Body) → Makes (Grows body (sum ns)) (statements.each rs site end body)
each_grows [] [] all site end body = omega arith
each_grows [] (n ∷ ns) all site end body = absurd all
each_grows (r ∷ rs) [] all site end body = absurd all
each_grows (r ∷ rs) (n ∷ ns) all site end body = then_grows body n (sum ns) (r.run site end body) _ (all.0 site end body) (λ second. each_grows rs ns all.1 site end second)

for_grows : (first : List Running) (ns : List ℕ) (condition : Option Expr) (update : List Expr) (turn : Running) (n : ℕ) → AllRun first ns → Runs turn n → (end : ℕ) (site : Site) (body : Body)
    → Makes (Grows body (sum ns + (1 + ((1 + parts_forms (parts.maybe expr_parts condition)) + (n + parts_forms (listed (parts.each expr_parts update))))))) (statements.counted first condition update turn end site body)
for_grows first ns condition update turn n all runs end site body =
    let c = 1 + parts_forms (parts.maybe expr_parts condition) in
    let u = parts_forms (listed (parts.each expr_parts update)) in
    makes_then (Grows body (sum ns)) (Grows body (sum ns + (1 + (c + (n + u))))) (statements.each first site end body) _ (each_grows first ns all site end body)
    (λ begin x. makes_then (λ (begun : Body). begun.made ≡ begin.made) (Grows body (sum ns + (1 + (c + (n + u))))) (in_loop begin) _ (loop_begins begin)
    (λ begun b. makes_then (IsTested begun c) (Grows body (sum ns + (1 + (c + (n + u))))) (tested_if condition site begun) _ (tested_if_is condition site begun)
    (λ asked t. makes_then (IsInside asked.body n) (Grows body (sum ns + (1 + (c + (n + u))))) (statements.branch turn site asked.body) _ (branch_is turn n runs site asked.body)
    (λ inner i. makes_then (IsInside inner.body u) (Grows body (sum ns + (1 + (c + (n + u))))) (inside (all_ran update site) inner.body) _ (inside_is (all_ran update site) inner.body u (all_ran_grows update site (begun_block inner.body)))
    (λ next m.
    let g = closed_grows begin next.body (item.Loop true asked.cond inner.block next.block begin.loops begin.made.free) (1 + (c + (n + u))) (m.same ∙ i.same ∙ t.same ∙ b)
    (loop_few true asked.cond inner.block next.block begin.loops begin.made.free c n u t.cond i.block m.block) in
    omega (arith, x, g))))))

-- ---- declarations of locals

local_grows : (name : Ident) (end : ℕ) (site : Site) (body : Body) → Makes (Grows body 0) (with_local name end site body)
local_grows name end site body = within (nat_lt body.made.free 512)
  where
    within : (b : Bool) → Makes (Grows body 0) (if b then Ok (record {
      made = record { items = body.made.items; free = body.made.free + 1 };
      locals = body.locals ++ (record { slot = body.made.free; name = name.text; claims = Rattle.ix_plain.specs.Scope.declared_claims (site.names.declared name.span) }, record { from = name.span.from; to = end }) ∷ [];
      most = max body.most (body.made.free + 1);
      loops = body.loops;
    }) else Err which.Slots)
    within true = omega arith
    within false = tt

initialised_grows : (slot : ℕ) (ty : Type_) (name : Span) (init : Option Init) (site : Site) (body : Body) → Makes (Grows body (parts_forms (parts.maybe init_parts init))) (statements.initialised slot ty name init site body)
initialised_grows slot ty name None site body =
    used_grows body 0 0 _ (λ v. write (spot.Variable slot) v.slot ty name name name) (behind_grows body 0 _ (computed_adds body.made (op.Const body.made.free (default ty)) name)) (λ v. omega arith)
initialised_grows slot ty name (Some init) site body =
    grows_as body (parts_forms (init_parts init) + 0) (parts_forms (init_parts init)) _ (omega arith)
    (used_grows body (parts_forms (init_parts init)) 0 _ (λ v. write (spot.Variable slot) v.slot ((filling init).ty site ty) (filling init).span name (filling init).span) (init_grows site init ty body) (λ v. omega arith))

decl_has_init : (d : LocalDecl) → parts_forms (parts.maybe init_parts d.init) ≤ parts_forms (decl_parts d)
decl_has_init d =
    let a = total_append part_forms (mods_parts d.mods) (type_parts d.ty ++ elsewhere d.name ∷ parts.maybe init_parts d.init) in
    let b = total_append part_forms (type_parts d.ty) (elsewhere d.name ∷ parts.maybe init_parts d.init) in omega (arith, a, b)

declaration_grows : (d : LocalDecl) (site : Site) (end : ℕ) (body : Body) → Makes (Grows body (parts_forms (decl_parts d))) (statements.declaration d site end body)
declaration_grows d site end body =
    let h = decl_has_init d in
    grows_as body (0 + parts_forms (parts.maybe init_parts d.init)) (parts_forms (decl_parts d)) _ (omega (arith, h))
    (then_grows body 0 (parts_forms (parts.maybe init_parts d.init)) (with_local d.name end site body) _ (local_grows d.name end site body)
    (λ second. initialised_grows body.made.free (declared_type (site.names.declared d.name.span)) d.name.span d.init site second))

declarations_grow : (ds : List LocalDecl) (site : Site) (end : ℕ) (body : Body) → Makes (Grows body (parts_forms (listed (parts.each decl_parts ds)))) (statements.declarations ds site end body)
declarations_grow ds site end body = makes_more (Grows body (parts_forms (together (parts.each decl_parts ds)))) (Grows body (parts_forms (listed (parts.each decl_parts ds)))) (λ after a. omega (arith, a)) (statements.declarations ds site end body) (together_grow ds body)
  where
    together_grow : (ds : List LocalDecl) (body : Body) → Makes (Grows body (parts_forms (together (parts.each decl_parts ds)))) (statements.declarations ds site end body)
    together_grow [] body = omega arith
    together_grow (d ∷ ds) body =
        let a = total_append part_forms (decl_parts d) (together (parts.each decl_parts ds)) in
        grows_as body (parts_forms (decl_parts d) + parts_forms (together (parts.each decl_parts ds))) _ _ (omega (arith, a))
        (then_grows body (parts_forms (decl_parts d)) (parts_forms (together (parts.each decl_parts ds))) (statements.declaration d site end body) _ (declaration_grows d site end body) (λ second. together_grow ds second))

-- ---- all forms

-- both answers, each with its return
answer_few : (asked : Cond) (slot : ℕ) (span : Span) (n : ℕ) → condition_forms (cond_code asked) ≤ n → code_forms (item_code (statements.answer_item asked slot span) End) ≤ 3 + n
answer_few asked slot span n le =
    let e = ap code_forms (item_code-If asked (statements.answer true slot span) (statements.answer false slot span) End) in omega (arith, e, le)

answered_grows : (site : Site) (e : Expr) (body : Body) → Makes (Grows body (3 + parts_forms (expr_parts e))) (statements.answered site e body)
answered_grows site e body =
    makes_then (λ (a : Asked). condition_forms (cond_code a.cond) ≤ parts_forms (expr_parts e)) (Grows body (3 + parts_forms (expr_parts e)))
    ((lowering e).condition (scope_for site body (assigns e).inside) body.made.free) _ ((expression_forms e).condition (scope_for site body (assigns e).inside) body.made.free)
    (λ asked le. makes_then (λ (v : Value). Adds body.made (3 + parts_forms (expr_parts e)) v.made) (Grows body (3 + parts_forms (expr_parts e))) _ _
    (taking_adds (record { items = body.made.items; free = asked.free }) (statements.answer_item asked.cond asked.free e.span) (3 + parts_forms (expr_parts e)) (answer_few asked.cond asked.free e.span (parts_forms (expr_parts e)) le))
    (λ v a. a))

returned_grows : (value : Option Expr) (span : Span) (site : Site) (body : Body) → Makes (Grows body (3 + parts_forms (parts.maybe expr_parts value))) (statements.returned value span site body)
returned_grows None span site body = last_grows body (item.Return None span) 3 (omega arith)
returned_grows (Some e) span site body = answers_or_not site.answers
  where
    answers_or_not : (b : Bool) → Makes (Grows body (3 + parts_forms (expr_parts e))) (if b then statements.answered site e body else used site e (λ slot. item.Return (Some slot) e.span) body)
    answers_or_not true = answered_grows site e body
    answers_or_not false =
        grows_as body (parts_forms (expr_parts e) + 1) (3 + parts_forms (expr_parts e)) _ (omega arith)
        (used_grows body (parts_forms (expr_parts e)) 1 (evaluated site e body) (λ v. item.Return (Some v.slot) e.span) (evaluated_grows site e body) (λ v. omega arith))

abbrev kind_run : StmtKind → Span → Run
kind_run = fold-StmtKind (Span → Run) Running statements.kind_step statements.stmt_step

abbrev kind_parts : StmtKind → List Part
kind_parts = fold-StmtKind (List Part) (List Part) parts.stmt_kind_step parts.stmt_step

abbrev KindRuns : StmtKind → Type 0
KindRuns k = (span : Span) (site : Site) (end : ℕ) (body : Body) → Makes (Grows body (3 + parts_forms (kind_parts k))) (kind_run k span site end body)

abbrev StmtRuns : Stmt → Type 0
StmtRuns s = Runs (statements.statement s) (parts_forms (stmt_parts s))

module _ {K S : Type 0} (kind : K → StmtKind) (stmt : S → Stmt) (stmt_runs : (s : S) → StmtRuns (stmt s)) where
  all_run : (ss : List S) → AllRun (map statements.statement (map stmt ss)) (map (λ s. parts_forms (stmt_parts (stmt s))) ss)
  all_run [] = tt
  all_run (s ∷ ss) = (stmt_runs s, all_run ss)

  all_sum : (ss : List S) → sum (map (λ s. parts_forms (stmt_parts (stmt s))) ss) ≤ parts_forms (listed (map stmt_parts (map stmt ss)))
  all_sum ss = let e = together_sum ss in omega (arith, e)
    where
      together_sum : (ss : List S) → sum (map (λ s. parts_forms (stmt_parts (stmt s))) ss) ≡ parts_forms (together (map stmt_parts (map stmt ss)))
      together_sum [] = refl
      together_sum (s ∷ ss) = let a = together_sum ss in let b = total_append part_forms (stmt_parts (stmt s)) (together (map stmt_parts (map stmt ss))) in omega (arith, a, b)

  run_layer : (y : StmtKind-F K S) (span : Span) (site : Site) (end : ℕ) (body : Body)
      → Makes (Grows body (3 + parts_forms (parts.stmt_kind_step (map-StmtKind StmtKind Stmt (List Part) (List Part) kind_parts stmt_parts (map-StmtKind K S StmtKind Stmt kind stmt y)))))
      (statements.kind_step (map-StmtKind StmtKind Stmt (Span → Run) Running kind_run statements.statement (map-StmtKind K S StmtKind Stmt kind stmt y)) span site end body)
  run_layer (StmtKind-F.Block ss) span site end body =
      let le = all_sum ss in
      makes_then (Grows body (sum (map (λ (s : S). parts_forms (stmt_parts (stmt s))) ss))) (Grows body (3 + parts_forms (listed (map stmt_parts (map stmt ss))))) (statements.each (map statements.statement (map stmt ss)) site span.to body) _
      (each_grows (map statements.statement (map stmt ss)) (map (λ (s : S). parts_forms (stmt_parts (stmt s))) ss) (all_run ss) site span.to body) (λ inner x. omega (arith, x, le))
  run_layer StmtKind-F.Empty span site end body = omega arith
  run_layer (StmtKind-F.Local decls) span site end body = grows_as body (parts_forms (listed (parts.each decl_parts decls))) _ _ (omega arith) (declarations_grow decls site end body)
  run_layer (StmtKind-F.If condition first None) span site end body =
      let a = total_append part_forms (expr_parts condition) (stmt_parts (stmt first)) in
      grows_as body (1 + (parts_forms (expr_parts condition) + (parts_forms (stmt_parts (stmt first)) + 0))) _ _ (omega (arith, a))
      (chosen_grows condition (statements.statement (stmt first)) None (parts_forms (stmt_parts (stmt first))) 0 (stmt_runs first) tt site body)
  run_layer (StmtKind-F.If condition first (Some second)) span site end body =
      let a = total_append part_forms (expr_parts condition) (stmt_parts (stmt first) ++ stmt_parts (stmt second)) in
      let b = total_append part_forms (stmt_parts (stmt first)) (stmt_parts (stmt second)) in
      grows_as body (1 + (parts_forms (expr_parts condition) + (parts_forms (stmt_parts (stmt first)) + parts_forms (stmt_parts (stmt second))))) _ _ (omega (arith, a, b))
      (chosen_grows condition (statements.statement (stmt first)) (Some (statements.statement (stmt second))) (parts_forms (stmt_parts (stmt first))) (parts_forms (stmt_parts (stmt second))) (stmt_runs first) (stmt_runs second) site body)
  run_layer (StmtKind-F.While condition turn) span site end body =
      let a = total_append part_forms (expr_parts condition) (stmt_parts (stmt turn)) in
      grows_as body (1 + (parts_forms (expr_parts condition) + (parts_forms (stmt_parts (stmt turn)) + 0))) _ _ (omega (arith, a)) (while_grows condition (statements.statement (stmt turn)) (parts_forms (stmt_parts (stmt turn))) (stmt_runs turn) site body)
  run_layer (StmtKind-F.Do turn condition) span site end body =
      let a = total_append part_forms (stmt_parts (stmt turn)) (expr_parts condition) in
      grows_as body (1 + (parts_forms (expr_parts condition) + (parts_forms (stmt_parts (stmt turn)) + 0))) _ _ (omega (arith, a)) (do_grows (statements.statement (stmt turn)) condition (parts_forms (stmt_parts (stmt turn))) (stmt_runs turn) site body)
  run_layer (StmtKind-F.For first condition update turn) span site end body =
      let ns = map (λ (s : S). parts_forms (stmt_parts (stmt s))) first in
      let le = all_sum first in
      let updates = listed (parts.each expr_parts update) in
      let a = total_append part_forms (listed (map stmt_parts (map stmt first))) (parts.maybe expr_parts condition ++ (updates ++ stmt_parts (stmt turn))) in
      let b = total_append part_forms (parts.maybe expr_parts condition) (updates ++ stmt_parts (stmt turn)) in
      let c = total_append part_forms updates (stmt_parts (stmt turn)) in
      grows_as body (sum ns + (1 + ((1 + parts_forms (parts.maybe expr_parts condition)) + (parts_forms (stmt_parts (stmt turn)) + parts_forms updates)))) _ _ (omega (arith, le, a, b, c))
      (for_grows (map statements.statement (map stmt first)) ns condition update (statements.statement (stmt turn)) (parts_forms (stmt_parts (stmt turn))) (all_run first) (stmt_runs turn) span.to site body)
  run_layer StmtKind-F.Break span site end body = last_grows body item.Break 3 (omega arith)
  run_layer StmtKind-F.Continue span site end body = last_grows body item.Continue 3 (omega arith)
  run_layer (StmtKind-F.Return value) span site end body = returned_grows value span site body
  run_layer (StmtKind-F.Throw name) span site end body = last_grows body (item.Throw name.text span) 3 (omega arith)
  run_layer (StmtKind-F.Print value) span site end body =
      grows_as body (parts_forms (expr_parts value) + 0) _ _ (omega arith)
      (used_grows body (parts_forms (expr_parts value)) 0 (evaluated site value body) (λ v. done (op.Print v.slot) value.span []) (evaluated_grows site value body) (λ v. omega arith))
  run_layer (StmtKind-F.Run e) span site end body = grows_as body (parts_forms (expr_parts e)) _ _ (omega arith) (ran_grows site e body)

  run_rolled : (y : StmtKind-F K S) → KindRuns (roll-StmtKind (map-StmtKind K S StmtKind Stmt kind stmt y))
  run_rolled y span site end body =
      let layer = map-StmtKind K S StmtKind Stmt kind stmt y in
      let a = fold-roll-StmtKind (Span → Run) Running statements.kind_step statements.stmt_step layer in
      let b = fold-roll-StmtKind (List Part) (List Part) parts.stmt_kind_step parts.stmt_step layer in
      subst (λ (ps : List Part). Makes (Grows body (3 + parts_forms ps)) (kind_run (roll-StmtKind layer) span site end body)) (sym b)
      (subst (λ (f : Span → Run). Makes (Grows body (3 + parts_forms (parts.stmt_kind_step (map-StmtKind StmtKind Stmt (List Part) (List Part) kind_parts stmt_parts layer)))) (f span site end body)) (sym a) (run_layer y span site end body))

  stmt_rolled : ((k : K) → KindRuns (kind k)) → (y : Stmt-F K S) → StmtRuns (roll-Stmt (map-Stmt K S StmtKind Stmt kind stmt y))
  stmt_rolled kind_runs y =
      let layer = map-Stmt K S StmtKind Stmt kind stmt y in
      let a = fold-roll-Stmt (Span → Run) Running statements.kind_step statements.stmt_step layer in
      let b = fold-roll-Stmt (List Part) (List Part) parts.stmt_kind_step parts.stmt_step layer in
      subst (λ (ps : List Part). Runs (statements.statement (roll-Stmt layer)) (parts_forms ps)) (sym b)
      (subst (λ (r : Running). Runs r (3 + parts_forms (kind_parts (kind y.kind)))) (sym a) (λ site end body. kind_runs y.kind y.span site end body))

statement_grows : (s : Stmt) → StmtRuns s
statement_grows = ind-Stmt KindRuns StmtRuns
    (λ x y e. subst (λ layer. KindRuns (roll-StmtKind layer)) e (run_rolled (λ k. k.0) (λ s. s.0) (λ s. s.1) y))
    (λ x y e. subst (λ layer. StmtRuns (roll-Stmt layer)) e (stmt_rolled (λ k. k.0) (λ s. s.0) (λ s. s.1) (λ k. k.1) y))

pub statements_grow : (ss : List Stmt) (site : Site) (end : ℕ) (body : Body) → Makes (Grows body (parts_forms (together (parts.each stmt_parts ss)))) (statements.each (map statements.statement ss) site end body)
statements_grow [] site end body = omega arith
statements_grow (s ∷ ss) site end body =
    let a = total_append part_forms (stmt_parts s) (together (parts.each stmt_parts ss)) in
    grows_as body (parts_forms (stmt_parts s) + parts_forms (together (parts.each stmt_parts ss))) _ _ (omega (arith, a))
    (then_grows body (parts_forms (stmt_parts s)) (parts_forms (together (parts.each stmt_parts ss))) ((statements.statement s).run site end body) _ (statement_grows s site end body) (λ second. statements_grow ss site end second))

-- ---- what a constructor begins with

args_all : (es : List Expr) → AllForms (map lowering es) (map (λ e. parts_forms (expr_parts e)) es)
args_all [] = tt
args_all (e ∷ es) = (expression_forms e, args_all es)

args_sum : (es : List Expr) → sum (map (λ e. parts_forms (expr_parts e)) es) ≡ parts_forms (together (parts.each expr_parts es))
args_sum [] = refl
args_sum (e ∷ es) = let a = args_sum es in let b = total_append part_forms (expr_parts e) (together (parts.each expr_parts es)) in omega (arith, a, b)

super_grows : (site : Site) (parent : Option ℕ) (args : List Expr) (span : Span) (body : Body) → Makes (Grows body (parts_forms (together (parts.each expr_parts args)))) (program.super_call site parent args span body)
super_grows site None args span body = omega arith
super_grows site (Some parent) args span body =
    let ns = map (λ (e : Expr). parts_forms (expr_parts e)) args in
    let s = args_sum args in
    makes_then (λ (g : Arguments). Adds body.made (sum ns) g.made) (Grows body (parts_forms (together (parts.each expr_parts args)))) (arguments_from [] (map lowering args) (scope_for site body (all_assign args)) body.made) _
    (arguments_add [] (map lowering args) ns (args_all args) (scope_for site body (all_assign args)) body.made)
    (λ given a. makes_then (λ (v : Value). Adds given.made 0 v.made) (Grows body (parts_forms (together (parts.each expr_parts args)))) (calling op.SuperCall (constructor_at site parent) (Some 0) parent span given) _
    (calling_adds op.SuperCall (constructor_at site parent) (Some 0) parent span given) (λ v b. omega (arith, a, b, s)))

field_grows : (site : Site) (field : ℕ) (d : LocalDecl) (init : Option Init) (body : Body) → Makes (Grows body (parts_forms (parts.maybe init_parts init))) (program.field_initialised site field d init body)
field_grows site field d None body = omega arith
field_grows site field d (Some init) body =
    grows_as body (parts_forms (init_parts init) + 0) (parts_forms (init_parts init)) _ (omega arith)
    (used_grows body (parts_forms (init_parts init)) 0 _ (λ v. done (op.WriteField 0 field v.slot) (filling init).span (d.name.span ∷ (filling init).span ∷ [])) (init_grows site init (declared_type (site.names.declared d.name.span)) body) (λ v. omega arith))

member_grows : (b : Bool) (site : Site) (field : ℕ) (d : LocalDecl) (body : Body) → Makes (Grows body (parts_forms (decl_parts d))) (if b then Ok body else program.field_initialised site field d d.init body)
member_grows true site field d body = omega arith
member_grows false site field d body = let h = decl_has_init d in grows_as body (parts_forms (parts.maybe init_parts d.init)) (parts_forms (decl_parts d)) _ h (field_grows site field d d.init body)

fields_grow : (site : Site) (field : ℕ) (ms : List Member) (body : Body) → Makes (Grows body (parts_forms (together (parts.each member_parts ms)))) (program.fields_initialised site field ms body)
fields_grow site field [] body = omega arith
fields_grow site field (member.Field d ∷ ms) body =
    let a = total_append part_forms (decl_parts d) (together (parts.each member_parts ms)) in
    grows_as body (parts_forms (decl_parts d) + parts_forms (together (parts.each member_parts ms))) _ _ (omega (arith, a))
    (then_grows body (parts_forms (decl_parts d)) (parts_forms (together (parts.each member_parts ms))) (program.member_initialised site field d body) _ (member_grows d.mods.is_static site field d body)
    (λ second. fields_grow site (next_field field d) ms second))
fields_grow site field (member.Method m ∷ ms) body =
    let a = total_append part_forms (parts.method_parts m) (together (parts.each member_parts ms)) in
    grows_as body (parts_forms (together (parts.each member_parts ms))) _ _ (omega (arith, a)) (fields_grow site field ms body)

pub constructor_grows : (site : Site) (home : Home) (args : List Expr) (span : Span) (body : Body)
    → Makes (Grows body (parts_forms (together (parts.each expr_parts args)) + parts_forms (together (parts.each member_parts home.members)))) (program.constructor_start site home args span body)
constructor_grows site home args span body =
    then_grows body (parts_forms (together (parts.each expr_parts args))) (parts_forms (together (parts.each member_parts home.members))) (program.super_call site home.parent args span body) _ (super_grows site home.parent args span body)
    (λ second. fields_grow site home.field home.members second)

-- ---- whole bodies

written_or_not : (b : Bool) (site : Site) (home : Home) (d : MethodDecl) (body : Body)
    → Makes (Grows body (parts_forms (together (parts.each expr_parts (args_or_none d.parent_args))) + parts_forms (together (parts.each member_parts home.members))))
    (if b then program.constructor_start site home (args_or_none d.parent_args) d.name.span body else Ok body)
written_or_not true site home d body = constructor_grows site home (args_or_none d.parent_args) d.name.span body
written_or_not false site home d body = omega arith

pub written_body_grows : (site : Site) (home : Home) (d : MethodDecl) (free : ℕ)
    → Makes (λ body. body_forms body ≤ (parts_forms (together (parts.each expr_parts (args_or_none d.parent_args))) + parts_forms (together (parts.each member_parts home.members))) + parts_forms (together (parts.each stmt_parts d.body)))
    (program.written_body site home d free)
written_body_grows site home d free =
    let n = parts_forms (together (parts.each expr_parts (args_or_none d.parent_args))) + parts_forms (together (parts.each member_parts home.members)) in
    let m = parts_forms (together (parts.each stmt_parts d.body)) in
    makes_more (Grows (start free) (n + m)) (λ body. body_forms body ≤ n + m) (λ body g. omega (arith, g)) (program.written_body site home d free)
    (then_grows (start free) n m (program.written_start site home d (start free)) _ (written_or_not d.constructor site home d (start free)) (λ begun. statements_grow d.body site d.span.to begun))
