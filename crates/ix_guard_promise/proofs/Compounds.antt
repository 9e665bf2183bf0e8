-- Choices, loops and statements of one full expression, as lowering makes them, where their parts are guarded.
use Rattle.std.proofs.Common.{◌≡◌, ℕ, Bool, true, false, List, [], ◌∷◌, ◌++◌, map, Option, None, Some, Ok, Err, refl, sym, ap, subst, ◌∙◌}
use Rattle.std.specs.Prelude.{◌&&◌, ◌+◌, if◌then◌else◌, nat_lt}
use Rattle.std.proofs.lemmas.Bool.{false≢true, and_parts}
use Rattle.ix_text.specs.declared.span.Span.{Span}
use Rattle.ix_core.specs.declared.code.Block.{Block}
use Rattle.ix_core.specs.declared.code.Cond.{Cond}
use Rattle.ix_core.specs.declared.code.Item.{Item}
use Rattle.ix_core.specs.declared.code.Item.TheVariants as item
use Rattle.ix_core.specs.declared.op.Literal.TheVariants as literal
use Rattle.ix_core.specs.declared.op.Op.{Op}
use Rattle.ix_core.specs.declared.op.OpKind.TheVariants as op
use Rattle.ix_core.specs.Code.{End, Return, item_code, cond_code, block_code}
use Rattle.ix_core.proofs.Translated.{item_code-If, item_code-Loop, cond_code-Known}
use Rattle.ix_tree.specs.declared.expr.Expr.{Expr}
use Rattle.ix_meaning.specs.declared.note.Which.TheVariants as which
use Rattle.ix_plain.specs.declared.body.Body.{Body}
use Rattle.ix_plain.specs.declared.made.Made.{Made}
use Rattle.ix_plain.specs.Scope.{Scope}
use Rattle.ix_plain.specs.Parts.{◌>>=◌, Asked as plain_asked, Value, with_item, done, most_slots}
use Rattle.ix_plain.specs.Assigned.{assigns}
use Rattle.ix_plain.specs.Values.{lowering}
use Rattle.ix_plain.specs.Statements as plain
use Rattle.ix_plain.specs.Statements.{Running, Inside, Tested, scope_for, ran, all_ran, tested, tested_if, branch, branch_if, inside, with_last, behind, in_loop, no_block, answer, answer_item}
use Rattle.ix_formed.specs.Additions.{Makes, AllOf}
use Rattle.ix_formed.proofs.PlainItems.{makes_more, makes_then}
use Rattle.ix_source.specs.Running.{Ground}
use Rattle.ix_source.specs.SoundStatements.{StatementSoundness, running_of, where_made, begun, used_at, used_if, part_sound, part_if, each_sound, all_ran_at, chosen_sound, while_sound, do_sound, loop_sound, for_sound}
use Rattle.ix_guard_promise.specs.Known.{Known, Nowhere, Unknown, accessed}
use Rattle.ix_guard_promise.specs.Known as flow
use Rattle.ix_guard_promise.specs.Guards.{Guarded, GuardedAsked, IsGuarded, ends, does, chooses, returns, loops, certain}
use Rattle.ix_guard_promise.proofs.Saying.{says_unknown}
use Rattle.ix_guard_promise.proofs.GuardedPieces.{guarded_more}
use Rattle.ix_guard_promise.proofs.Growing.{with_sound, Grows, grows_none, grows_both, grows_less, grows_item, KeepsKnown, ran_grows, used_grows, tested_grows, Nests, inside_nests, loop_same}

-- ---- an operation that is no access

abbrev is_one : Option (ℕ × ℕ) → Bool
is_one None = false
is_one (Some access) = true

pub never_accessed : (place : Span) (before : Known) (done : Op) → accessed done.kind ≡ None → IsGuarded place before done
never_accessed place before done none access said stands = absurd (false≢true (ap is_one (sym none ∙ said)))

module _ (place : Span) (g : Ground) where
  -- What a statement adds is guarded, where it is sound and nothing is known before it.
  abbrev pub IsFine : StatementSoundness → Type 0
  IsFine x = (end : ℕ) (body : Body) → x.sound g end body ≡ true → Makes (λ (after : Body). Grows place Unknown Unknown body.made after.made) (x.running.run g.site end body)

  abbrev pub FineIf : Option StatementSoundness → Type 0
  FineIf None = Unit {0}
  FineIf (Some x) = IsFine x

  abbrev pub running_if : Option StatementSoundness → Option Running
  running_if None = None
  running_if (Some x) = Some x.running

  -- ---- parts

  branch_nests : (x : StatementSoundness) → IsFine x → (body : Body) → part_sound x g body ≡ true → Makes (Nests place body) (branch x.running g.site body)
  branch_nests x fine body sound = inside_nests place (x.running.run g.site x.running.span.to) body (fine x.running.span.to (begun body) sound)

  branch_if_nests : (x : Option StatementSoundness) → FineIf x → (body : Body) → part_if x g body ≡ true → Makes (Nests place body) (branch_if (running_if x) g.site body)
  branch_if_nests None fine body sound = record { same = refl; guarded = ends Unknown Unknown tt }
  branch_if_nests (Some x) fine body sound = branch_nests x fine body sound

  -- ---- choices

  if_guarded : (known : Known) (asked : Cond) (first second : Block) → GuardedAsked place known (cond_code asked) known known → Guarded place Unknown (block_code first) Unknown → Guarded place Unknown (block_code second) Unknown
      → Guarded place known (item_code (item.If asked first second) End) Unknown
  if_guarded known asked first second question one two =
      subst (λ code. Guarded place known code Unknown) (sym (item_code-If asked first second End))
      (chooses (cond_code asked) (block_code first) (block_code second) End known known known Unknown Unknown question
      (guarded_more place (block_code first) known Unknown Unknown (says_unknown known) one) (guarded_more place (block_code second) known Unknown Unknown (says_unknown known) two)
      (ends Unknown Unknown tt))

  pub chosen_grows : (known : Known) (expr : Expr) (first : StatementSoundness) (second : Option StatementSoundness) (body : Body) → KeepsKnown place known (scope_for g.site body (assigns expr).inside) body.made expr
      → IsFine first → FineIf second → chosen_sound expr first second g body ≡ true
      → Makes (λ (after : Body). Grows place known Unknown body.made after.made) (plain.chosen expr first.running (running_if second) g.site body)
  chosen_grows known expr first second body keeps one two sound =
      let Goal : Body → Type 0 = λ after. Grows place known Unknown body.made after.made in
      let Asked : Tested → Type 0 = λ asked. (asked.body.made ≡ body.made) × GuardedAsked place known (cond_code asked.cond) known known in
      let so : Tested → Bool = λ asked. part_sound first g asked.body && where_made (branch first.running g.site asked.body) (λ holds. part_if second g holds.body) in
      makes_then (λ asked. Asked asked × (so asked ≡ true)) Goal (tested g.site expr body) _
      (with_sound Asked (tested g.site expr body) so (tested_grows place g.site known expr body keeps) (and_parts (used_at expr g body) (where_made (tested g.site expr body) so) sound).1)
      (λ asked a.
      let parts = and_parts (part_sound first g asked.body) (where_made (branch first.running g.site asked.body) (λ holds. part_if second g holds.body)) a.1 in
      makes_then (λ (holds : Inside). Nests place asked.body holds × (part_if second g holds.body ≡ true)) Goal (branch first.running g.site asked.body) _
      (with_sound (Nests place asked.body) (branch first.running g.site asked.body) (λ holds. part_if second g holds.body) (branch_nests first one asked.body parts.0) parts.1)
      (λ holds b.
      makes_then (Nests place holds.body) Goal (branch_if (running_if second) g.site holds.body) _ (branch_if_nests second two holds.body b.1)
      (λ fails c.
      subst (λ (made : Made). Grows place known Unknown body.made (with_item made (item.If asked.cond holds.block fails.block))) (sym (c.same ∙ b.0.same ∙ a.0.0))
      (grows_item place known Unknown body.made (item.If asked.cond holds.block fails.block) (if_guarded known asked.cond holds.block fails.block a.0.1 b.0.guarded c.guarded)))))

  -- ---- loops, before which nothing need be known

  loop_guarded : (test_first : Bool) (asked : Cond) (turn next : Block) (number scope : ℕ) → GuardedAsked place Unknown (cond_code asked) Unknown Unknown → Guarded place Unknown (block_code turn) Unknown
      → Guarded place Unknown (block_code next) Unknown → Guarded place Unknown (item_code (item.Loop test_first asked turn next number scope) End) Unknown
  loop_guarded test_first asked turn next number scope question one two =
      subst (λ code. Guarded place Unknown code Unknown) (sym (item_code-Loop test_first asked turn next number scope End))
      (loops test_first (cond_code asked) (block_code turn) (block_code next) number scope End Unknown Unknown question one two (ends Unknown Unknown tt))

  -- an expression that keeps what is known wherever it stands
  abbrev pub IsElse : Expr → Type 0
  IsElse expr = (scope : Scope) (made : Made) → KeepsKnown place Unknown scope made expr

  abbrev Asked : Body → Tested → Type 0
  Asked body asked = (asked.body.made ≡ body.made) × GuardedAsked place Unknown (cond_code asked.cond) Unknown Unknown

  else_tested : (expr : Expr) → IsElse expr → (body : Body) → Makes (Asked body) (tested g.site expr body)
  else_tested expr is body = tested_grows place g.site Unknown expr body (is (scope_for g.site body (assigns expr).inside) body.made)

  pub while_grows : (expr : Expr) (turn : StatementSoundness) (body : Body) → IsElse expr → IsFine turn → while_sound expr turn g body ≡ true
      → Makes (λ (after : Body). Grows place Unknown Unknown body.made after.made) (plain.while expr turn.running g.site body)
  while_grows expr turn body is one sound =
      let Goal : Body → Type 0 = λ after. Grows place Unknown Unknown body.made after.made in
      let so : Body → Bool = λ begun. used_at expr g begun && where_made (tested g.site expr begun) (λ asked. part_sound turn g asked.body) in
      makes_then (λ (begun : Body). (begun.made ≡ body.made) × (so begun ≡ true)) Goal (in_loop body) _ (with_sound (λ (begun : Body). begun.made ≡ body.made) (in_loop body) so (loop_same body) sound)
      (λ begun a.
      makes_then (λ asked. Asked begun asked × (part_sound turn g asked.body ≡ true)) Goal (tested g.site expr begun) _
      (with_sound (Asked begun) (tested g.site expr begun) (λ asked. part_sound turn g asked.body) (else_tested expr is begun)
      (and_parts (used_at expr g begun) (where_made (tested g.site expr begun) (λ asked. part_sound turn g asked.body)) a.1).1)
      (λ asked b.
      makes_then (Nests place asked.body) Goal (branch turn.running g.site asked.body) _ (branch_nests turn one asked.body b.1)
      (λ made c.
      let last = item.Loop true asked.cond made.block no_block body.loops body.made.free in
      subst (λ (m : Made). Grows place Unknown Unknown body.made (with_item m last)) (sym (c.same ∙ b.0.0 ∙ a.0))
      (grows_item place Unknown Unknown body.made last (loop_guarded true asked.cond made.block no_block body.loops body.made.free b.0.1 c.guarded (ends Unknown Unknown tt))))))

  pub do_grows : (turn : StatementSoundness) (expr : Expr) (body : Body) → IsElse expr → IsFine turn → do_sound turn expr g body ≡ true
      → Makes (λ (after : Body). Grows place Unknown Unknown body.made after.made) (plain.do_while turn.running expr g.site body)
  do_grows turn expr body is one sound =
      let Goal : Body → Type 0 = λ after. Grows place Unknown Unknown body.made after.made in
      let so : Body → Bool = λ begun. part_sound turn g begun && where_made (branch turn.running g.site begun) (λ made. used_at expr g made.body) in
      makes_then (λ (begun : Body). (begun.made ≡ body.made) × (so begun ≡ true)) Goal (in_loop body) _ (with_sound (λ (begun : Body). begun.made ≡ body.made) (in_loop body) so (loop_same body) sound)
      (λ begun a.
      makes_then (Nests place begun) Goal (branch turn.running g.site begun) _
      (branch_nests turn one begun (and_parts (part_sound turn g begun) (where_made (branch turn.running g.site begun) (λ made. used_at expr g made.body)) a.1).0)
      (λ made b.
      makes_then (Asked made.body) Goal (tested g.site expr made.body) _ (else_tested expr is made.body)
      (λ asked c.
      let last = item.Loop false asked.cond made.block no_block body.loops body.made.free in
      subst (λ (m : Made). Grows place Unknown Unknown body.made (with_item m last)) (sym (c.0 ∙ b.same ∙ a.0))
      (grows_item place Unknown Unknown body.made last (loop_guarded false asked.cond made.block no_block body.loops body.made.free c.1 b.guarded (ends Unknown Unknown tt))))))

  -- ---- `for`

  abbrev pub ElseIf : Option Expr → Type 0
  ElseIf None = Unit {0}
  ElseIf (Some expr) = IsElse expr

  tested_if_else : (condition : Option Expr) → ElseIf condition → (body : Body) → Makes (Asked body) (tested_if condition g.site body)
  tested_if_else None is body = (refl, subst (λ asked. GuardedAsked place Unknown asked Unknown Unknown) (sym (cond_code-Known true)) (certain true Unknown Unknown tt))
  tested_if_else (Some expr) is body = else_tested expr is body

  all_ran_grows : (exprs : List Expr) → AllOf IsElse exprs → (body : Body) → Makes (λ (after : Body). Grows place Unknown Unknown body.made after.made) (all_ran exprs g.site body)
  all_ran_grows [] are body = grows_none place Unknown body.made body.made refl
  all_ran_grows (expr ∷ rest) are body =
      makes_then (λ (next : Body). Grows place Unknown Unknown body.made next.made) (λ (after : Body). Grows place Unknown Unknown body.made after.made) (ran g.site expr body) _
      (ran_grows place g.site Unknown expr body (are.0 (scope_for g.site body (assigns expr).inside) body.made))
      (λ next a. makes_more (λ (after : Body). Grows place Unknown Unknown next.made after.made) (λ (after : Body). Grows place Unknown Unknown body.made after.made)
      (λ after b. grows_both place Unknown Unknown Unknown body.made next.made after.made a b) (all_ran rest g.site next) (all_ran_grows rest are.1 next))

  -- its first part may be any statements
  pub for_grows : (first : List StatementSoundness) (condition : Option Expr) (update : List Expr) (turn : StatementSoundness) (end : ℕ) (body : Body)
      → Makes (λ (after : Body). Grows place Unknown Unknown body.made after.made) (plain.each (map running_of first) g.site end body) → ElseIf condition → AllOf IsElse update → IsFine turn
      → for_sound first condition update turn end g body ≡ true
      → Makes (λ (after : Body). Grows place Unknown Unknown body.made after.made) (plain.counted (map running_of first) condition update turn.running end g.site body)
  for_grows first condition update turn end body start is are one sound =
      let Goal : Body → Type 0 = λ after. Grows place Unknown Unknown body.made after.made in
      let start_is : Body → Type 0 = λ (begun : Body). Grows place Unknown Unknown body.made begun.made in
      makes_then (λ begun. start_is begun × (loop_sound condition update turn g begun ≡ true)) Goal (plain.each (map running_of first) g.site end body) _
      (with_sound start_is (plain.each (map running_of first) g.site end body) (loop_sound condition update turn g) start
      (and_parts (each_sound first g end body) (where_made (plain.each (map running_of first) g.site end body) (loop_sound condition update turn g)) sound).1)
      (λ head h.
      let so : Body → Bool = λ inner. used_if condition g inner && where_made (tested_if condition g.site inner) (λ asked.
      part_sound turn g asked.body && where_made (branch turn.running g.site asked.body) (λ made. all_ran_at update g (begun made.body))) in
      makes_then (λ (inner : Body). (inner.made ≡ head.made) × (so inner ≡ true)) Goal (in_loop head) _ (with_sound (λ (inner : Body). inner.made ≡ head.made) (in_loop head) so (loop_same head) h.1)
      (λ inner a.
      let so_turn : Tested → Bool = λ asked. part_sound turn g asked.body && where_made (branch turn.running g.site asked.body) (λ made. all_ran_at update g (begun made.body)) in
      makes_then (λ asked. Asked inner asked × (so_turn asked ≡ true)) Goal (tested_if condition g.site inner) _
      (with_sound (Asked inner) (tested_if condition g.site inner) so_turn (tested_if_else condition is inner)
      (and_parts (used_if condition g inner) (where_made (tested_if condition g.site inner) so_turn) a.1).1)
      (λ asked b.
      makes_then (Nests place asked.body) Goal (branch turn.running g.site asked.body) _
      (branch_nests turn one asked.body (and_parts (part_sound turn g asked.body) (where_made (branch turn.running g.site asked.body) (λ made. all_ran_at update g (begun made.body))) b.1).0)
      (λ made c.
      makes_then (Nests place made.body) Goal (inside (all_ran update g.site) made.body) _ (inside_nests place (all_ran update g.site) made.body (all_ran_grows update are (begun made.body)))
      (λ next d.
      let last = item.Loop true asked.cond made.block next.block head.loops head.made.free in
      grows_both place Unknown Unknown Unknown body.made head.made (with_item (record { items = next.body.made.items; free = body.made.free }) last) h.0
      (record {
        items = last ∷ [];
        appended = ap (λ (m : Made). m.items ++ last ∷ []) (d.same ∙ c.same ∙ b.0.0 ∙ a.0);
        guarded = loop_guarded true asked.cond made.block next.block head.loops head.made.free b.0.1 c.guarded d.guarded;
      }))))))

  -- ---- statements of one full expression, whatever is known before it

  module _ (known : Known) where
    pub printed_grows : (expr : Expr) (body : Body) → KeepsKnown place known (scope_for g.site body (assigns expr).inside) body.made expr
        → Makes (λ (after : Body). Grows place known Unknown body.made after.made) (plain.printed expr g.site body)
    printed_grows expr body keeps =
        used_grows place g.site known expr body keeps Unknown (λ slot. done (op.Print slot) expr.span [])
        (λ slot. let print : Op = record { kind = op.Print slot; span = expr.span; parts = [] } in
        does print End known Unknown (never_accessed place known print refl) (ends (flow.behind (op.Print slot) known) Unknown (says_unknown (flow.behind (op.Print slot) known))))

    return_guarded : (value : Option ℕ) (span : Span) → Guarded place known (item_code (item.Return value span) End) Unknown
    return_guarded value span = returns value span End known Unknown (ends Nowhere Unknown tt)

    answer_guarded : (holds : Bool) (slot : ℕ) (span : Span) → Guarded place known (block_code (answer holds slot span)) Unknown
    answer_guarded holds slot span =
        let constant : Op = record { kind = op.Const slot (literal.Bool holds); span = span; parts = [] } in
        does constant (Return (Some slot) span End) known Unknown (never_accessed place known constant refl)
        (returns (Some slot) span End (flow.behind (op.Const slot (literal.Bool holds)) known) Unknown (ends Nowhere Unknown tt))

    answered_grows : (expr : Expr) (body : Body) → KeepsKnown place known (scope_for g.site body (assigns expr).inside) body.made expr
        → Makes (λ (after : Body). Grows place known Unknown body.made after.made) (plain.answered g.site expr body)
    answered_grows expr body keeps =
        makes_then (λ (asked : plain_asked). GuardedAsked place known (cond_code asked.cond) known known) (λ (after : Body). Grows place known Unknown body.made after.made)
        ((lowering expr).condition (scope_for g.site body (assigns expr).inside) body.made.free) _ keeps.condition
        (λ asked question. taken asked question (nat_lt asked.free most_slots))
      where
        taken : (asked : plain_asked) → GuardedAsked place known (cond_code asked.cond) known known → (b : Bool)
            → Makes (λ (after : Body). Grows place known Unknown body.made after.made)
            ((if b then Ok (record { made = record { items = body.made.items ++ answer_item asked.cond asked.free expr.span ∷ []; free = asked.free + 1 }; slot = asked.free }) else Err which.Slots)
            >>= (λ (value : Value). Ok (behind body value.made.items value.made.free)))
        taken asked question true = record {
          items = answer_item asked.cond asked.free expr.span ∷ [];
          appended = refl;
          guarded = subst (λ code. Guarded place known code Unknown) (sym (item_code-If asked.cond (answer true asked.free expr.span) (answer false asked.free expr.span) End))
              (chooses (cond_code asked.cond) (block_code (answer true asked.free expr.span)) (block_code (answer false asked.free expr.span)) End known known known Unknown Unknown question
              (answer_guarded true asked.free expr.span) (answer_guarded false asked.free expr.span) (ends Unknown Unknown tt));
        }
        taken asked question false = tt

    abbrev pub KeepsIf : Option Expr → Body → Type 0
    KeepsIf None body = Unit {0}
    KeepsIf (Some expr) body = KeepsKnown place known (scope_for g.site body (assigns expr).inside) body.made expr

    pub returned_grows : (value : Option Expr) (span : Span) (body : Body) → KeepsIf value body → Makes (λ (after : Body). Grows place known Unknown body.made after.made) (plain.returned value span g.site body)
    returned_grows None span body keeps = grows_item place known Unknown body.made (item.Return None span) (return_guarded None span)
    returned_grows (Some expr) span body keeps = answers_or_not g.site.answers
      where
        answers_or_not : (b : Bool) → Makes (λ (after : Body). Grows place known Unknown body.made after.made)
            (if b then plain.answered g.site expr body else plain.used g.site expr (λ slot. item.Return (Some slot) expr.span) body)
        answers_or_not true = answered_grows expr body keeps
        answers_or_not false = used_grows place g.site known expr body keeps Unknown (λ slot. item.Return (Some slot) expr.span) (λ slot. return_guarded (Some slot) expr.span)

    pub runs_grow : (expr : Expr) (body : Body) → KeepsKnown place known (scope_for g.site body (assigns expr).inside) body.made expr
        → Makes (λ (after : Body). Grows place known Unknown body.made after.made) (ran g.site expr body)
    runs_grow expr body keeps =
        makes_more (λ (after : Body). Grows place known known body.made after.made) (λ (after : Body). Grows place known Unknown body.made after.made)
        (λ after a. grows_less place known known body.made after.made a) (ran g.site expr body) (ran_grows place g.site known expr body keeps)

    -- one item that goes elsewhere, or nothing
    pub jump_grows : (body : Body) (last : Item) → Guarded place known (item_code last End) Unknown → Grows place known Unknown body.made (with_last body last).made
    jump_grows body last guarded = grows_item place known Unknown body.made last guarded
