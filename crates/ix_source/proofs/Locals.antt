-- A declaration of a local keeps its meaning: its initialiser is evaluated, and then the local is in scope and holds the value.
use Rattle.std.proofs.Common.{◌≡◌, ◌≤◌, ◌<◌, ◌⊎◌, inl, inr, ℕ, ◌+◌, true, false, List, [], ◌∷◌, ◌++◌, length, Some, None, refl, sym, ap, subst, ◌∙◌, arith, append_assoc}
use Rattle.std.specs.Prelude.{◌==◌, if◌then◌else◌, max, nat_lt, slice_set}
use Rattle.std.proofs.lemmas.Bool.Decides.{nat_tests}
use Rattle.std.proofs.lemmas.List.{append-nil, length-set, length-append}
use Rattle.ix_text.specs.declared.span.Span.{Span}
use Rattle.ix_core.specs.declared.claim.Type_.{Type_}
use Rattle.ix_core.specs.declared.code.Item.{Item}
use Rattle.ix_core.specs.declared.op.OpKind.TheVariants as op
use Rattle.ix_core.specs.declared.program.Local.{Local}
use Rattle.ix_core.specs.Code.{item_code}
use Rattle.ix_core.specs.Heap.{Held, value_at}
use Rattle.ix_core.specs.Tasks.{code_then}
use Rattle.ix_core.proofs.Cases.{by_test, differ, equal}
use Rattle.ix_core.proofs.Heaps.{value_set, value_other}
use Rattle.ix_meaning.specs.declared.note.Meaning.{Meaning}
use Rattle.ix_meaning.specs.declared.note.Meaning.TheVariants as meaning
use Rattle.ix_plain.specs.declared.body.Body.{Body}
use Rattle.ix_plain.specs.declared.made.Spot.TheVariants as spot
use Rattle.ix_plain.specs.Scope.{is_among}
use Rattle.ix_plain.specs.Parts.{Value, write}
use Rattle.ix_plain.specs.Statements.{scope_of, behind, with_last}
use Rattle.ix_source.specs.Runs.{Now, Result as Ended, Gives, Stops, Cuts, Action, ◌>>=◌, go_on, held_by, assigns}
use Rattle.ix_source.specs.Values.{assign}
use Rattle.ix_source.specs.Statements.{Completion, Normal, normally}
use Rattle.ix_source.specs.Seen.{at, Decides}
use Rattle.ix_source.specs.Along.{Setting, IsSet, Agrees}
use Rattle.ix_source.specs.Kept.{code_before, IsIn, nothing_known, Done}
use Rattle.ix_source.specs.Running.{Ground, owner, in_scope, Stands, AlongWith, Runs}
use Rattle.ix_source.specs.SoundStatements.{declaring}
use Rattle.ix_source.proofs.Made.{code_append, did}
use Rattle.ix_source.proofs.Slots.{held_here, held_there, this_there}
use Rattle.ix_source.proofs.Statements.{in_scope_at, in_scope_low, value_then}
use Rattle.ix_source.proofs.Scopes.{owner_is, owner_more, owner_within, slot_more, scope_low, kind_is}
use Rattle.ix_source.proofs.Simple.{most_first, most_second}

some_is : (a b : Meaning) → Some a ≡ Some b → a ≡ b
some_is a b e = cc e

other_slot : (slot free : ℕ) → slot < free → (slot == free) ≡ false
other_slot slot free low = by_test (slot == free) (λ e. absurd (let same = equal slot free e in let none : ⊥ = omega (arith, low, same) in none)) (λ e. e)

module _ (g : Ground) (body : Body) (local : Local) (span : Span) (at_free : local.slot ≡ body.made.free) where
  -- its slot is taken
  abbrev pub begun : Body
  begun = record { made = record { items = body.made.items; free = body.made.free + 1 }; locals = body.locals ++ (local, span) ∷ []; most = max body.most (body.made.free + 1); loops = body.loops }

  -- where its initialiser stands
  pub declaring_set : (assigned : List ℕ) → ((slot : ℕ) → begun.made.free ≤ slot → is_among slot assigned ≡ false) → (g.has_this ≡ true → owner g.site body.locals 0 ≡ None) → (g.has_this ≡ true → 0 < body.made.free) → (g.has_this ≡ true → is_among 0 assigned ≡ false) → IsSet (declaring g body begun assigned)
  declaring_set assigned assigned_low this_none this_low this_stays = record {
    kind = λ slot m own. kind_is g body [] slot m (owner_is g.site body.locals slot m (scope_low g body [] slot m own).1);
    temporaries = assigned_low;
    own = λ slot m own. slot_more g.site body.locals ((local, span) ∷ []) (scope_of g.site begun assigned) (scope_of g.site body []) refl refl refl refl slot m (scope_low g body [] slot m own).1;
    low = λ slot m own. let low = (scope_low g body [] slot m own).0 in omega (arith, low);
    this = λ has. by_test (nat_lt 0 body.made.free) (λ t. ap (λ b. if b then owner g.site body.locals 0 else None) t ∙ this_none has) (λ t. ap (λ b. if b then owner g.site body.locals 0 else None) t);
    this_low = λ has. let low = this_low has in omega (arith, low);
    this_stays = this_stays;
  }

  module _ (assigned : List ℕ) (low : body.made.free ≤ body.most) (this_low : g.has_this ≡ true → 0 < body.made.free) (v : Value) (action : Action Held) (ty : Type_) (whole target from : Span) where
    abbrev z : Setting
    z = declaring g body begun assigned

    abbrev number : ℕ
    number = length body.locals

    abbrev last : Item
    last = write (spot.Variable body.made.free) v.slot ty whole target from

    abbrev pub after : Body
    after = with_last (behind begun v.made.items v.made.free) last

    -- in scope behind it are the new local and what was in scope before
    after_owner : (slot : ℕ) (m : Meaning) → in_scope g.site after.locals after.made.free slot ≡ Some m → ((slot ≡ body.made.free) × (m ≡ meaning.Local number)) ⊎ (in_scope g.site body.locals body.made.free slot ≡ Some m)
    after_owner slot m e =
        let under = in_scope_low g after.locals after.made.free slot m e in
        let own : owner g.site (body.locals ++ (local, span) ∷ []) slot ≡ Some m = sym (in_scope_at g after.locals after.made.free slot under) ∙ e in
        by_test (local.slot == slot)
        (λ t. inl (sym (equal local.slot slot t) ∙ at_free, sym (some_is (meaning.Local number) m (sym (ap (λ b. if b then Some (meaning.Local number) else owner g.site body.locals slot) t) ∙ sym (owner_more g.site body.locals (local, span) slot) ∙ own))))
        (λ t. inr (by_test (nat_lt slot body.made.free)
        (λ u. let below : slot < body.made.free = grind (arith, nat_tests) in
        in_scope_at g body.locals body.made.free slot below ∙ sym (ap (λ b. if b then Some (meaning.Local number) else owner g.site body.locals slot) t) ∙ sym (owner_more g.site body.locals (local, span) slot) ∙ own)
        (λ u. absurd (differ local.slot slot t (let above : body.made.free ≤ slot = grind (arith, nat_tests) in let same : body.made.free ≡ slot = omega (arith, above, under) in at_free ∙ same)))))

    module _ (slots : List Held) (now : Now) (value : Held) (room : body.made.free < length slots) (agrees : Agrees z slots now.variables) (held : value_at slots v.slot ≡ value) where
      abbrev written : List Held
      written = slice_set slots body.made.free (value_at slots v.slot)

      abbrev later : Now
      later = assigns (Some (meaning.Local number)) value now

      old_held : (slot : ℕ) (m : Meaning) → in_scope g.site body.locals body.made.free slot ≡ Some m → value_at written slot ≡ held_by later.variables (Some m)
      old_held slot m own =
          let (below, owns) = scope_low g body [] slot m own in
          value_other slots body.made.free slot (value_at slots v.slot) (other_slot slot body.made.free below) ∙ agrees.held slot m own
          ∙ sym (held_there (meaning.Local number) m (kind_is g body [] slot m (owner_is g.site body.locals slot m owns))
          (λ same. let within = owner_within g.site body.locals slot number (owns ∙ ap Some same) in let none : ⊥ = omega (arith, within) in none) value now.variables)

      this_held : g.has_this ≡ true → (value_at written 0 ≡ g.this) × (later.variables.this ≡ g.this)
      this_held has = (value_other slots body.made.free 0 (value_at slots v.slot) (other_slot 0 body.made.free (this_low has)) ∙ (agrees.this has).0, this_there (Some (meaning.Local number)) value now.variables ∙ (agrees.this has).1)

      new_held : value_at written body.made.free ≡ held_by later.variables (Some (meaning.Local number))
      new_held = value_set slots body.made.free (value_at slots v.slot) room ∙ held ∙ sym (held_here (meaning.Local number) refl value now.variables)

      held_after : (slot : ℕ) (m : Meaning) → ((slot ≡ body.made.free) × (m ≡ meaning.Local number)) ⊎ (in_scope g.site body.locals body.made.free slot ≡ Some m) → value_at written slot ≡ held_by later.variables (Some m)
      held_after slot m (inl (at_slot, is)) = ap (value_at written) at_slot ∙ new_held ∙ ap (λ m. held_by later.variables (Some m)) (sym is)
      held_after slot m (inr own) = old_held slot m own

      stands_before : Stands g body written later
      stands_before = record { held = old_held; this = this_held }

      stands_after : Stands g after written later
      stands_after = record { held = λ slot m own. held_after slot m (after_owner slot m own); this = this_held }

    -- the initialiser, and the write of its value
    pub local_runs : Done z nothing_known begun.made v.made (λ x. action) (IsIn v.slot) → Runs g body after 1 (action >>= assign (Some (meaning.Local number)) >>= normally)
    local_runs d = record {
      items = d.items ++ last ∷ [];
      appended = ap (λ items. items ++ last ∷ []) d.appended ∙ append_assoc body.made.items d.items (last ∷ []);
      up = omega arith;
      most = let m = most_first body.most (body.made.free + 1) in let k = most_first begun.most v.made.free in omega (arith, m, k);
      free = let m = most_second body.most (body.made.free + 1) in let k = most_first begun.most v.made.free in omega (arith, m, k);
      counted = length-append body.locals ((local, span) ∷ []);
      owners = λ slot under. owner_more g.site body.locals (local, span) slot
          ∙ ap (λ b. if b then Some (meaning.Local number) else owner g.site body.locals slot) (by_test (local.slot == slot) (λ t. absurd (let same = equal local.slot slot t in let none : ⊥ = omega (arith, same, at_free, under) in none)) (λ t. t));
      does = λ f rest tasks slots now room stands decides.
          let k = most_second begun.most v.made.free in
          let up = d.up in
          let begins : Decides g.tables (at f (code_then (code_before d.items (item_code last rest)) tasks) slots now.heap now.wrapped) = subst (λ code. Decides g.tables (at f (code_then code tasks) slots now.heap now.wrapped)) (code_append d.items (last ∷ []) rest) decides in
          subst (λ code. AlongWith g f (at f (code_then code tasks) slots now.heap now.wrapped) (code_then rest tasks) tasks g.depth body after slots now ((action >>= assign (Some (meaning.Local number)) >>= normally) now)) (sym (code_append d.items (last ∷ []) rest))
          (subst (λ r. AlongWith g f (at f (code_then (code_before d.items (item_code last rest)) tasks) slots now.heap now.wrapped) (code_then rest tasks) tasks g.depth body after slots now r) (sym (assigned_then (action now)))
          (value_then g z refl f (at f (code_then (code_before d.items (item_code last rest)) tasks) slots now.heap now.wrapped) (λ value. code_then (item_code last rest) tasks) (IsIn v.slot) begun.made.free (code_then rest tasks) tasks g.depth body after slots now (omega arith) (action now) ends begins
          (d.does tt f (item_code last rest) tasks slots now (omega (arith, k, room)) (record { held = stands.held; this = stands.this }) tt begins)
          (λ value later behind keeps agrees held decides_then.
          let same = keeps.size in
          let roomy : body.made.free < length behind = omega (arith, k, up, room, same) in
          record {
            behind = slice_set behind body.made.free (value_at behind v.slot);
            shows = [];
            to = code_then rest tasks;
            leads = did z f (op.Copy body.made.free v.slot ty) whole (target ∷ from ∷ []) rest tasks behind (slice_set behind body.made.free (value_at behind v.slot)) later.heap later.heap later.wrapped refl;
            events = sym (append-nil later.events);
            size = length-set behind body.made.free (value_at behind v.slot);
            stands = stands_before behind later value roomy agrees held;
            stands_then = stands_after behind later value roomy agrees held;
            follows = refl;
          })));
    }
      where
        ends : Held → Action Completion
        ends value now = Gives Normal (assigns (Some (meaning.Local number)) value now)

        assigned_then : (r : Ended Held) → go_on normally (go_on (assign (Some (meaning.Local number))) r) ≡ go_on ends r
        assigned_then (Gives value now) = refl
        assigned_then (Stops ending now) = refl
        assigned_then (Cuts now) = refl
