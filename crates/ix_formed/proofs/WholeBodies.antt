-- The body of a method: within the limits, its loops numbered in order, and the parent's constructor called once where it has to be.
use Rattle.std.proofs.Common.{◌≡◌, ◌≤◌, ℕ, ◌+◌, Bool, true, false, List, [], ◌∷◌, ◌++◌, map, Option, Some, None, Ok, Err, refl, sym, ap, subst, ◌∙◌, arith, append_assoc}
use Rattle.std.specs.Prelude.{if◌then◌else◌, nat_lt, ◌&&◌}
use Rattle.std.proofs.lemmas.Bool.Decides.{nat_tests}
use Rattle.std.proofs.lemmas.List.{append-nil}
use Rattle.ix_text.specs.declared.span.Span.{Span}
use Rattle.ix_core.specs.declared.code.Item.{Item}
use Rattle.ix_core.specs.declared.op.CallOp.{CallOp}
use Rattle.ix_core.specs.declared.op.OpKind.TheVariants as op
use Rattle.ix_core.specs.Code.{End, items_code}
use Rattle.ix_core.specs.Formed.{loop_numbers, numbers_from, super_calls, own_super_calls, one_if, is_some_of}
use Rattle.ix_tree.specs.declared.decl.LocalDecl.{LocalDecl}
use Rattle.ix_tree.specs.declared.decl.Member.{Member}
use Rattle.ix_tree.specs.declared.decl.Member.TheVariants as member
use Rattle.ix_tree.specs.declared.decl.MethodDecl.{MethodDecl}
use Rattle.ix_tree.specs.declared.expr.Expr.{Expr}
use Rattle.ix_tree.specs.declared.expr.Init.{Init}
use Rattle.ix_meaning.specs.declared.note.Which.TheVariants as which
use Rattle.ix_plain.specs.declared.body.Body.{Body}
use Rattle.ix_plain.specs.declared.made.Made.{Made}
use Rattle.ix_plain.specs.Scope.{Site, constructor_at, declared_type}
use Rattle.ix_plain.specs.Parts.{Value, done, most_slots}
use Rattle.ix_plain.specs.Assigned.{all_assign}
use Rattle.ix_plain.specs.Members.{next_field}
use Rattle.ix_plain.specs.Values.{Arguments, lowering, filling, arguments_from, calling}
use Rattle.ix_plain.specs.Statements.{scope_for, behind, each, statement}
use Rattle.ix_plain.specs.Program as program
use Rattle.ix_plain.specs.Program.{Home, start, args_or_none}
use Rattle.ix_formed.specs.Additions.{Makes, AllOf, code_before, IsPlain, Adds, Grows}
use Rattle.ix_formed.specs.Extensions.{IsWithin, HasSlotIn, Extends, Computes}
use Rattle.ix_formed.specs.Bodies.{CallsParent, Starts, IsBody}
use Rattle.ix_formed.proofs.PlainItems.{makes_more, makes_then, before_append, items_before, plain_none, plain_op}
use Rattle.ix_formed.proofs.ExpressionsAdd.{expression_adds, arguments_add, rises_both}
use Rattle.ix_formed.proofs.StatementsExtend.{moves_none, moves_both, behind_moves, used_computes, init_evaluated_computes, statements_extend}

-- ---- items

plain_calls : (items : List Item) → IsPlain items → CallsParent 0 items
plain_calls items p = record { loops = p.loops; supers = λ rest. let e = p.supers rest in omega (arith, e); own_supers = λ rest. let e = p.own_supers rest in omega (arith, e) }

calls_both : (calls more : ℕ) (items others : List Item) → CallsParent calls items → CallsParent more others → CallsParent (calls + more) (items ++ others)
calls_both calls more items others a b = record {
  loops = λ rest. ap loop_numbers (before_append items others rest) ∙ a.loops (code_before others rest) ∙ b.loops rest;
  supers = λ rest. ap super_calls (before_append items others rest) ∙ (let x = a.supers (code_before others rest) in let y = b.supers rest in omega (arith, x, y));
  own_supers = λ rest. ap own_super_calls (before_append items others rest) ∙ (let x = a.own_supers (code_before others rest) in let y = b.own_supers rest in omega (arith, x, y));
}

super_item : (call : CallOp) (span : Span) → CallsParent 1 (done (op.SuperCall call) span [] ∷ [])
super_item call span = record { loops = λ rest. refl; supers = λ rest. refl; own_supers = λ rest. refl }

-- ---- the parent's constructor

starts_none : (body : Body) → Starts 0 body body
starts_none body = record { moves = moves_none body; items = []; appended = sym (append-nil body.made.items); parent = plain_calls [] plain_none }

starts_both : (calls more : ℕ) (first second third : Body) → Starts calls first second → Starts more second third → Starts (calls + more) first third
starts_both calls more first second third a b = record {
  moves = moves_both first second third 0 0 a.moves b.moves;
  items = a.items ++ b.items;
  appended = b.appended ∙ ap (λ items. items ++ b.items) a.appended ∙ append_assoc first.made.items a.items b.items;
  parent = calls_both calls more a.items b.items a.parent b.parent;
}

starts_as : (calls other : ℕ) (body after : Body) → calls ≡ other → Starts calls body after → Starts other body after
starts_as calls other body after e s = subst (λ n. Starts n body after) e s

computes_starts : (body after : Body) → Computes body after → Starts 0 body after
computes_starts body after c = record { moves = c.moves; items = c.items; appended = c.appended; parent = plain_calls c.items c.plain }

taken_starts : (body : Body) (given : Made) → Adds body.made given → (call : CallOp) (span : Span) (b : Bool) → b ≡ nat_lt given.free most_slots
    → Makes (λ (v : Value). Starts 1 body (behind body v.made.items v.made.free))
    (if b then Ok (record { made = record { items = given.items ++ done (op.SuperCall call) span [] ∷ []; free = given.free + 1 }; slot = given.free }) else Err which.Slots)
taken_starts body given a call span true e = record {
  moves = behind_moves body (given.items ++ done (op.SuperCall call) span [] ∷ []) (given.free + 1)
      (rises_both body.made.free given.free (given.free + 1) a.slots (record { up = omega arith; few = λ few. grind (arith, nat_tests) }));
  items = a.items ++ done (op.SuperCall call) span [] ∷ [];
  appended = ap (λ items. items ++ done (op.SuperCall call) span [] ∷ []) a.appended ∙ append_assoc body.made.items a.items (done (op.SuperCall call) span [] ∷ []);
  parent = calls_both 0 1 a.items (done (op.SuperCall call) span [] ∷ []) (plain_calls a.items a.plain) (super_item call span);
}
taken_starts body given a call span false e = tt

all_grow : (args : List Expr) → AllOf Grows (map lowering args)
all_grow [] = tt
all_grow (first ∷ rest) = (expression_adds first, all_grow rest)

parent_starts : (site : Site) (parent : ℕ) (args : List Expr) (span : Span) (body : Body) → Makes (Starts 1 body) (program.parent_call site parent args span body)
parent_starts site parent args span body =
    makes_then (λ (g : Arguments). Adds body.made g.made) (Starts 1 body) (arguments_from [] (map lowering args) (scope_for site body (all_assign args)) body.made) _
    (arguments_add [] (map lowering args) (all_grow args) (scope_for site body (all_assign args)) body.made)
    (λ given a. makes_then (λ (v : Value). Starts 1 body (behind body v.made.items v.made.free)) (Starts 1 body) (calling op.SuperCall (constructor_at site parent) (Some 0) parent span given) _
    (taken_starts body given.made a _ span (nat_lt given.made.free most_slots) refl) (λ v s. s))

-- how often the parent's constructor has to be called
abbrev pub calls_of : Option ℕ → ℕ
calls_of parent = one_if (is_some_of parent)

super_starts : (site : Site) (parent : Option ℕ) (args : List Expr) (span : Span) (body : Body) → Makes (Starts (calls_of parent) body) (program.super_call site parent args span body)
super_starts site None args span body = starts_none body
super_starts site (Some parent) args span body = parent_starts site parent args span body

-- ---- fields

field_computes : (site : Site) (field : ℕ) (decl : LocalDecl) (init : Option Init) (body : Body) → Makes (Computes body) (program.field_initialised site field decl init body)
field_computes site field decl None body = (record { moves = moves_none body; items = []; appended = sym (append-nil body.made.items); plain = plain_none })
field_computes site field decl (Some init) body =
    used_computes body _ (λ v. done (op.WriteField 0 field v.slot) (filling init).span (decl.name.span ∷ (filling init).span ∷ []))
    (init_evaluated_computes site init (declared_type (site.names.declared decl.name.span)) body)
    (λ v. plain_op (record { kind = op.WriteField 0 field v.slot; span = (filling init).span; parts = decl.name.span ∷ (filling init).span ∷ [] }) refl)

static_or_not : (b : Bool) (site : Site) (field : ℕ) (decl : LocalDecl) (body : Body) → Makes (Computes body) (if b then Ok body else program.field_initialised site field decl decl.init body)
static_or_not true site field decl body = record { moves = moves_none body; items = []; appended = sym (append-nil body.made.items); plain = plain_none }
static_or_not false site field decl body = field_computes site field decl decl.init body

fields_start : (site : Site) (field : ℕ) (members : List Member) (body : Body) → Makes (Starts 0 body) (program.fields_initialised site field members body)
fields_start site field [] body = starts_none body
fields_start site field (member.Field decl ∷ members) body =
    makes_then (Computes body) (Starts 0 body) (program.member_initialised site field decl body) _ (static_or_not decl.mods.is_static site field decl body)
    (λ second c. makes_more (Starts 0 second) (Starts 0 body) (λ third s. starts_both 0 0 body second third (computes_starts body second c) s)
    (program.fields_initialised site (next_field field decl) members second) (fields_start site (next_field field decl) members second))
fields_start site field (member.Method decl ∷ members) body = fields_start site field members body

pub constructor_starts : (site : Site) (home : Home) (args : List Expr) (span : Span) (body : Body) → Makes (Starts (calls_of home.parent) body) (program.constructor_start site home args span body)
constructor_starts site home args span body =
    makes_then (Starts (calls_of home.parent) body) (Starts (calls_of home.parent) body) (program.super_call site home.parent args span body) _ (super_starts site home.parent args span body)
    (λ second a. makes_more (Starts 0 second) (Starts (calls_of home.parent) body)
    (λ third b. starts_as (calls_of home.parent + 0) (calls_of home.parent) body third (omega arith) (starts_both (calls_of home.parent) 0 body second third a b))
    (program.fields_initialised site home.field home.members second) (fields_start site home.field home.members second))

-- ---- whole bodies

-- the calls of the parent's constructor that a method or a constructor has
abbrev pub calls_in : Bool → Option ℕ → ℕ
calls_in constructor parent = one_if (constructor && is_some_of parent)

written_or_not : (b : Bool) (site : Site) (home : Home) (decl : MethodDecl) (body : Body)
    → Makes (Starts (calls_in b home.parent) body) (if b then program.constructor_start site home (args_or_none decl.parent_args) decl.name.span body else Ok body)
written_or_not true site home decl body = constructor_starts site home (args_or_none decl.parent_args) decl.name.span body
written_or_not false site home decl body = starts_none body

start_within : (free : ℕ) → free ≤ most_slots → IsWithin (start free)
start_within free few = record { free = omega arith; slots = few; loops = omega arith }

whole : (free calls : ℕ) (begun body : Body) → free ≤ most_slots → Starts calls (start free) begun → Extends begun body → IsBody free calls body
whole free calls begun body few s x =
    let none : begun.loops ≡ 0 = (let e = s.moves.loops in omega (arith, e)) in
    let all = moves_both (start free) begun body 0 x.count s.moves x.moves in
    let items : body.made.items ≡ s.items ++ x.items = x.appended ∙ ap (λ items. items ++ x.items) s.appended in
    let counted : body.loops ≡ x.count = (let e = x.moves.loops in omega (arith, e, none)) in
    record {
      within = all.within (start_within free few);
      most = all.most;
      locals = subst (AllOf (HasSlotIn free body.most)) (sym all.grown) all.placed;
      loops = ap (λ items. loop_numbers (items_code items)) items ∙ ap loop_numbers (items_before (s.items ++ x.items)) ∙ ap loop_numbers (before_append s.items x.items End)
          ∙ s.parent.loops (code_before x.items End) ∙ x.numbered.loops End ∙ append-nil (numbers_from begun.loops x.count)
          ∙ ap (λ n. numbers_from n x.count) none ∙ ap (numbers_from 0) (sym counted);
      supers = ap (λ items. super_calls (items_code items)) items ∙ ap super_calls (items_before (s.items ++ x.items)) ∙ ap super_calls (before_append s.items x.items End)
          ∙ s.parent.supers (code_before x.items End) ∙ (let e = x.numbered.supers End in omega (arith, e));
      own_supers = ap (λ items. own_super_calls (items_code items)) items ∙ ap own_super_calls (items_before (s.items ++ x.items)) ∙ ap own_super_calls (before_append s.items x.items End)
          ∙ s.parent.own_supers (code_before x.items End) ∙ (let e = x.numbered.own_supers End in omega (arith, e));
    }

pub written_body_is : (site : Site) (home : Home) (decl : MethodDecl) (free : ℕ) → free ≤ most_slots → Makes (IsBody free (calls_in decl.constructor home.parent)) (program.written_body site home decl free)
written_body_is site home decl free few =
    makes_then (Starts (calls_in decl.constructor home.parent) (start free)) (IsBody free (calls_in decl.constructor home.parent)) (program.written_start site home decl (start free)) _
    (written_or_not decl.constructor site home decl (start free))
    (λ begun s. makes_more (Extends begun) (IsBody free (calls_in decl.constructor home.parent)) (λ body x. whole free (calls_in decl.constructor home.parent) begun body few s x)
    (each (map statement decl.body) site decl.span.to begun) (statements_extend decl.body site decl.span.to begun))

-- of a constructor that isn't written
pub default_body_is : (site : Site) (home : Home) (span : Span) → Makes (IsBody 1 (calls_of home.parent)) (program.constructor_start site home [] span (start 1))
default_body_is site home span =
    makes_more (Starts (calls_of home.parent) (start 1)) (IsBody 1 (calls_of home.parent))
    (λ body s. whole 1 (calls_of home.parent) body body (omega arith) s (record { count = 0; moves = moves_none body; items = []; appended = sym (append-nil body.made.items); numbered = record { loops = λ rest. refl; supers = λ rest. refl; own_supers = λ rest. refl } }))
    (program.constructor_start site home [] span (start 1)) (constructor_starts site home [] span (start 1))
