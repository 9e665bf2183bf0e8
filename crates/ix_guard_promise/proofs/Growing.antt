-- What is added to a body, by what is known before it and behind it: one piece after the other, full expressions, and parts in blocks of their own.
use Rattle.std.proofs.Common.{◌≡◌, ℕ, Bool, true, false, List, [], ◌∷◌, ◌++◌, Ok, Err, refl, sym, ap, subst, ◌∙◌, append_assoc}
use Rattle.std.specs.Prelude.{if◌then◌else◌, nat_lt, ◌+◌}
use Rattle.std.proofs.lemmas.List.{append-nil}
use Rattle.ix_text.specs.declared.span.Span.{Span}
use Rattle.ix_core.specs.declared.code.Item.{Item}
use Rattle.ix_core.specs.Code.{End, item_code, items_code, cond_code, block_code}
use Rattle.ix_tree.specs.declared.expr.Expr.{Expr}
use Rattle.ix_meaning.specs.declared.note.Which.TheVariants as which
use Rattle.ix_plain.specs.declared.body.Body.{Body}
use Rattle.ix_plain.specs.declared.made.Made.{Made}
use Rattle.ix_plain.specs.Scope.{Site, Scope}
use Rattle.ix_plain.specs.Parts.{Within, with_item}
use Rattle.ix_plain.specs.Assigned.{assigns}
use Rattle.ix_plain.specs.Values.{lowering}
use Rattle.ix_plain.specs.Statements.{Inside, Tested, Evaluated, scope_for, evaluated, behind_value, used, ran, tested, inside, in_loop, most_loops}
use Rattle.ix_formed.specs.Additions.{Makes}
use Rattle.ix_formed.proofs.PlainItems.{makes_more, makes_then}
use Rattle.ix_source.specs.SoundStatements.{where_made, begun}
use Rattle.ix_guard_promise.specs.Known as flow
use Rattle.ix_guard_promise.specs.Known.{Known, Unknown, Says}
use Rattle.ix_guard_promise.specs.Guards.{Guarded, GuardedAsked, ends}
use Rattle.ix_guard_promise.specs.Pieces.{IsElsewhere, Keeps}
use Rattle.ix_guard_promise.proofs.Saying.{says_itself, says_unknown}
use Rattle.ix_guard_promise.proofs.GuardedPieces.{guarded_more, elsewhere, elsewhere_asked, keeps, keeps_asked}
use Rattle.ix_guard_promise.proofs.GuardedItems.{items_then}
use Rattle.ix_guard_promise.specs.KeptSlots.{Leaves, LeavesAsked, Appends}
use Rattle.ix_guard_promise.specs.Laws.{LowersEach}

-- ---- what was made

pub so_made : {A : Type 0} (r : Within A) (so : A → Bool) → where_made r so ≡ true → Makes (λ made. so made ≡ true) r
so_made (Ok made) so e = e
so_made (Err limit) so e = tt

-- a part of what is so, in what was made before
pub with_sound : {A : Type 0} (P : A → Type 0) (r : Within A) (so : A → Bool) → Makes P r → where_made r so ≡ true → Makes (λ made. P made × (so made ≡ true)) r
with_sound P (Ok made) so holds e = (holds, e)
with_sound P (Err limit) so holds e = tt

module _ (place : Span) where
  -- Items are appended, in which each access at the place is guarded.
  pub record Grows (start end : Known) (before after : Made) : Type 0 where
    pub items : List Item
    pub appended : after.items ≡ before.items ++ items
    pub guarded : Guarded place start (items_code items) end

  pub grows_none : (known : Known) (before after : Made) → after.items ≡ before.items → Grows known known before after
  grows_none known before after same = record { items = []; appended = same ∙ sym (append-nil before.items); guarded = ends known known (says_itself known) }

  pub grows_both : (start between end : Known) (first second third : Made) → Grows start between first second → Grows between end second third → Grows start end first third
  grows_both start between end first second third a b = record {
    items = a.items ++ b.items;
    appended = b.appended ∙ ap (λ items. items ++ b.items) a.appended ∙ append_assoc first.items a.items b.items;
    guarded = items_then place a.items b.items start between end a.guarded b.guarded;
  }

  -- where more is known before it, or nothing need be known behind it
  pub grows_more : (strong start end : Known) (before after : Made) → Says strong start → Grows start end before after → Grows strong end before after
  grows_more strong start end before after says a = record { items = a.items; appended = a.appended; guarded = guarded_more place (items_code a.items) strong start end says a.guarded }

  pub grows_less : (start end : Known) (before after : Made) → Grows start end before after → Grows start Unknown before after
  grows_less start end before after a = grows_both start end Unknown before after after a
      (record { items = []; appended = sym (append-nil after.items); guarded = ends end Unknown (says_unknown end) })

  -- one item
  pub grows_item : (start end : Known) (before : Made) (item : Item) → Guarded place start (item_code item End) end → Grows start end before (with_item before item)
  grows_item start end before item guarded = record { items = item ∷ []; appended = refl; guarded = guarded }

  -- ---- full expressions that keep what is known

  pub record KeepsKnown (known : Known) (scope : Scope) (made : Made) (expr : Expr) : Type 0 where
    pub value : Makes (λ v. Grows known known made v.made) ((lowering expr).value scope made)
    pub condition : Makes (λ asked. GuardedAsked place known (cond_code asked.cond) known known) ((lowering expr).condition scope made.free)

  pub elsewhere_grows : (before after : Made) → Appends (IsElsewhere place) before after → Grows Unknown Unknown before after
  elsewhere_grows before after a = record { items = a.items; appended = a.appended; guarded = elsewhere place (items_code a.items) a.each }

  pub keeps_grows : (array index : ℕ) (before after : Made) → Leaves (Keeps place array index) before after → Grows (flow.Inside array index) (flow.Inside array index) before after
  keeps_grows array index before after a = record { items = a.items; appended = a.appended; guarded = keeps place array index (items_code a.items) a.each a.no_loop }

  pub elsewhere_known : (scope : Scope) (made : Made) (expr : Expr) → LowersEach (IsElsewhere place) scope made expr → KeepsKnown Unknown scope made expr
  elsewhere_known scope made expr l = record {
    value = makes_more (λ v. Leaves (IsElsewhere place) made v.made) (λ v. Grows Unknown Unknown made v.made)
        (λ v a. record { items = a.items; appended = a.appended; guarded = elsewhere place (items_code a.items) a.each }) ((lowering expr).value scope made) l.value;
    condition = makes_more (LeavesAsked (IsElsewhere place) made.free) (λ asked. GuardedAsked place Unknown (cond_code asked.cond) Unknown Unknown)
        (λ asked a. elsewhere_asked place (cond_code asked.cond) a.each) ((lowering expr).condition scope made.free) l.condition;
  }

  pub keeps_known : (array index : ℕ) (scope : Scope) (made : Made) (expr : Expr) → LowersEach (Keeps place array index) scope made expr → KeepsKnown (flow.Inside array index) scope made expr
  keeps_known array index scope made expr l = record {
    value = makes_more (λ v. Leaves (Keeps place array index) made v.made) (λ v. Grows (flow.Inside array index) (flow.Inside array index) made v.made)
        (λ v a. keeps_grows array index made v.made a) ((lowering expr).value scope made) l.value;
    condition = makes_more (LeavesAsked (Keeps place array index) made.free) (λ asked. GuardedAsked place (flow.Inside array index) (cond_code asked.cond) (flow.Inside array index) (flow.Inside array index))
        (λ asked a. keeps_asked place array index (cond_code asked.cond) a.each a.no_loop) ((lowering expr).condition scope made.free) l.condition;
  }

  module _ (site : Site) (known : Known) (expr : Expr) (body : Body) (keeps : KeepsKnown known (scope_for site body (assigns expr).inside) body.made expr) where
    abbrev scope : Scope
    scope = scope_for site body (assigns expr).inside

    pub evaluated_grows : Makes (λ (v : Evaluated). Grows known known body.made v.body.made) (evaluated site expr body)
    evaluated_grows =
        makes_then (λ v. Grows known known body.made v.made) (λ (v : Evaluated). Grows known known body.made v.body.made) ((lowering expr).value scope body.made) (behind_value body) keeps.value
        (λ v a. record { items = a.items; appended = a.appended; guarded = a.guarded })

    pub ran_grows : Makes (λ (after : Body). Grows known known body.made after.made) (ran site expr body)
    ran_grows = makes_then (λ (v : Evaluated). Grows known known body.made v.body.made) (λ (after : Body). Grows known known body.made after.made) (evaluated site expr body) _ evaluated_grows (λ v a. a)

    -- an item that uses the value
    pub used_grows : (end : Known) (item : ℕ → Item) → ((slot : ℕ) → Guarded place known (item_code (item slot) End) end) → Makes (λ (after : Body). Grows known end body.made after.made) (used site expr item body)
    used_grows end item guarded =
        makes_then (λ (v : Evaluated). Grows known known body.made v.body.made) (λ (after : Body). Grows known end body.made after.made) (evaluated site expr body) _ evaluated_grows
        (λ v a. grows_both known known end body.made v.body.made (with_item v.body.made (item v.slot)) a (grows_item known end v.body.made (item v.slot) (guarded v.slot)))

    -- a condition, which is no item
    pub tested_grows : Makes (λ (asked : Tested). (asked.body.made ≡ body.made) × GuardedAsked place known (cond_code asked.cond) known known) (tested site expr body)
    tested_grows =
        makes_then (λ asked. GuardedAsked place known (cond_code asked.cond) known known) (λ (asked : Tested). (asked.body.made ≡ body.made) × GuardedAsked place known (cond_code asked.cond) known known)
        ((lowering expr).condition scope body.made.free) _ keeps.condition (λ asked a. (refl, a))

  -- ---- what is made in a block of its own

  pub record Nests (body : Body) (made : Inside) : Type 0 where
    pub same : made.body.made ≡ body.made
    pub guarded : Guarded place Unknown (block_code made.block) Unknown

  pub inside_nests : (run : Body → Within Body) (body : Body) → Makes (λ (inner : Body). Grows Unknown Unknown (begun body).made inner.made) (run (begun body)) → Makes (Nests body) (inside run body)
  inside_nests run body grows =
      makes_then (λ (inner : Body). Grows Unknown Unknown (begun body).made inner.made) (Nests body) (run (begun body)) _ grows
      (λ inner a. record { same = refl; guarded = subst (λ items. Guarded place Unknown (items_code items) Unknown) (sym a.appended) a.guarded })

-- ---- loops

pub loop_same : (body : Body) → Makes (λ (begun : Body). begun.made ≡ body.made) (in_loop body)
loop_same body = by_room (nat_lt body.loops most_loops)
  where
    by_room : (b : Bool) → Makes (λ (begun : Body). begun.made ≡ body.made) (if b then Ok (record body { loops = body.loops + 1 }) else Err which.Loops)
    by_room true = refl
    by_room false = tt
