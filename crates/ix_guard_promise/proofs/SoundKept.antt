-- A sound expression is kept in a body where both variables are in scope: none of the names that it assigns means one of them, and at the place it only makes the access on them.
use Rattle.std.proofs.Common.{◌≡◌, ◌≤◌, ◌<◌, ℕ, Bool, true, false, List, [], ◌∷◌, ◌++◌, map, length, Option, Some, None, Ok, Err, Result, refl, ap, subst, ◌∙◌, arith}
use Rattle.std.specs.Prelude.{◌==◌, ◌||◌, if◌then◌else◌, nat_lt}
use Rattle.std.specs.List.{list_any}
use Rattle.std.proofs.lemmas.Bool.{and_parts, or_parts, false≢true}
use Rattle.std.proofs.lemmas.Bool.Decides.{nat_tests}
use Rattle.ix_text.specs.declared.span.Span.{Span}
use Rattle.ix_core.specs.declared.claim.Type_.{Type_}
use Rattle.ix_core.specs.declared.op.OpKind.TheVariants as op
use Rattle.ix_core.specs.declared.program.Local.{Local}
use Rattle.ix_tree.specs.declared.annot.Ident.{Ident}
use Rattle.ix_tree.specs.declared.decl.LocalDecl.{LocalDecl}
use Rattle.ix_tree.specs.declared.expr.Expr.{Expr}
use Rattle.ix_tree.specs.declared.expr.Init.{Init}
use Rattle.ix_meaning.specs.declared.note.Meaning.{Meaning}
use Rattle.ix_meaning.specs.declared.note.Meaning.TheVariants as meaning
use Rattle.ix_meaning.specs.Resolved.{Names}
use Rattle.ix_plain.specs.declared.body.Body.{Body}
use Rattle.ix_plain.specs.Scope.{Scope, slot_of, declared_type}
use Rattle.ix_plain.specs.Parts.{Within, ◌>>=◌, computed, default, most_slots}
use Rattle.ix_plain.specs.Assigned.{assigns, init_assigns}
use Rattle.ix_plain.specs.Statements.{scope_of, assigned_by, behind_value, init_evaluated, with_local, initialised, declaration}
use Rattle.ix_plain.specs.Values.{filling}
use Rattle.ix_formed.specs.Additions.{Makes}
use Rattle.ix_formed.proofs.NumberLists.{all_so, all_split}
use Rattle.ix_formed.proofs.PlainItems.{makes_more, makes_then, makes_both}
use Rattle.ix_source.specs.Along.{Setting}
use Rattle.ix_source.specs.Running.{Ground, owner, in_scope, standing}
use Rattle.ix_source.specs.Sound as sound
use Rattle.ix_source.specs.Sound.{init_soundness}
use Rattle.ix_source.specs.SoundStatements.{where_made, ran_at, used_at, declaring, local_init, declared_sound}
use Rattle.ix_source.proofs.Scopes.{owner_more, slot_more, scope_low}
use Rattle.ix_guard.specs.Accesses as accesses
use Rattle.ix_guard.specs.Accesses.{parts_of, init_parts, decl_parts, all_decl_parts}
use Rattle.ix_guard.specs.Tests.{is_variable, same_variable}
use Rattle.ix_guard_promise.specs.AllAccesses.{AnyAccess, all_accesses, init_accesses, decl_accesses, maybe, each_of}
use Rattle.ix_guard_promise.specs.OnlyThere.{Names as NamesIn, IsOnThese, OnlyThere}
use Rattle.ix_guard_promise.specs.InScope.{IsAt, IsUnnamed, Calls, IsOfThese, OnlyOf}
use Rattle.ix_guard_promise.specs.KeptSlots.{AreBelow}
use Rattle.ix_guard_promise.specs.Targets.{AssignsApart, OwnsAmong, IsKept, IsInitKept, MaybeKept, DeclsKept}
use Rattle.ix_guard_promise.proofs.KeptExpressions.{makes_all}
use Rattle.ix_guard_promise.proofs.KeptFits.{slot_same, apart_same}
use Rattle.ix_guard_promise.proofs.KeptNames.{others_apart}
use Rattle.ix_guard_promise.proofs.KeptSound.{IsOwner, named_owner, sound_owns, init_sound_owns}

makes_then_both : {A E : Type 0} (P Q R : A → Type 0) (r : Result A E) → Makes P r → Makes Q r → ((made : A) → P made → Q made → R made) → Makes R r
makes_then_both P Q R r p q on = makes_more (λ made. P made × Q made) R (λ made both. on made both.0 both.1) r (makes_both P Q r p q)

made_if : {A E : Type 0} (P : A → Type 0) (b : Bool) (made : A) (limit : E) → P made → Makes P (if b then Ok made else Err limit)
made_if P true made limit holds = holds
made_if P false made limit holds = tt

made_so : {A : Type 0} (r : Within A) (so : A → Bool) → where_made r so ≡ true → Makes (λ made. so made ≡ true) r
made_so (Ok made) so e = e
made_so (Err limit) so e = tt

-- ---- variables in scope

-- A variable that is sound where it is named is in scope, in its slot.
pub named_at : (g : Ground) (body : Body) (assigned : List ℕ) (variable : Meaning) → is_variable (Some variable) ≡ true → sound.named (standing g body assigned) (Some variable) ≡ true
    → IsAt g body variable (slot_of (scope_of g.site body []) (Some variable))
named_at g body assigned variable is named = record {
  in_slot = refl;
  holds = ap (in_scope g.site body.locals body.made.free) (slot_same g.site body [] assigned (Some variable)) ∙ named_owner (standing g body assigned) (Some variable) is named;
}

-- What the name of a variable means is some variable.
pub variable_some : (m : Option Meaning) → is_variable m ≡ true → (variable : Meaning) × (m ≡ Some variable)
variable_some (Some variable) is = (variable, refl)
variable_some None is = absurd (false≢true is)

-- The slots of variables in scope are below the first that is free.
pub at_below : (g : Ground) (body : Body) (first second : Meaning) (array index : ℕ) → IsAt g body first array → IsAt g body second index → AreBelow array index body.made.free
at_below g body first second array index one two =
    record { array_below = (scope_low g body [] array first one.holds).0; index_below = (scope_low g body [] index second two.holds).0 }

-- One local more, in a slot that was free, and the variables in scope stay so in their slots.
pub record Grows (before after : Body) : Type 0 where
  pub local : Local × Span
  pub locals : after.locals ≡ before.locals ++ local ∷ []
  pub at_free : local.0.slot ≡ before.made.free
  pub up : before.made.free ≤ after.made.free

module _ (g : Ground) (before after : Body) (grows : Grows before after) (variable : Meaning) (slot : ℕ) (there : IsAt g before variable slot) where
  owned : owner g.site before.locals slot ≡ Some variable
  owned = (scope_low g before [] slot variable there.holds).1

  low : slot < before.made.free
  low = (scope_low g before [] slot variable there.holds).0

  pub grown_slot : (assigned : List ℕ) → slot_of (scope_of g.site after assigned) (Some variable) ≡ slot
  grown_slot assigned = slot_more g.site before.locals (grows.local ∷ []) (scope_of g.site after assigned) (scope_of g.site before []) refl refl grows.locals refl slot variable owned

  pub grown_at : IsAt g after variable slot
  grown_at =
      let under : nat_lt slot after.made.free ≡ true = (let x = low in let y = grows.up in grind (arith, nat_tests)) in
      let other : (grows.local.0.slot == slot) ≡ false = (let x = low in let y = grows.at_free in grind (arith, nat_tests)) in
      record {
        in_slot = grown_slot [];
        holds = ap (λ b. if b then owner g.site after.locals slot else None) under ∙ ap (λ ls. owner g.site ls slot) grows.locals
            ∙ owner_more g.site before.locals grows.local slot ∙ ap (λ b. if b then Some (meaning.Local (length before.locals)) else owner g.site before.locals slot) other ∙ owned;
      }

-- ---- accesses

calls_in : (scope : Scope) (variable : Meaning) (slot : ℕ) (name : Option Ident) → is_variable (Some variable) ≡ true → slot_of scope (Some variable) ≡ slot → Calls scope.site.names variable name
    → NamesIn scope slot name
calls_in scope variable slot None is at calls = absurd calls
calls_in scope variable slot (Some name) is at calls = record { variable = ap is_variable calls ∙ is; in_slot = ap (slot_of scope) calls ∙ at }

-- An access on names of two variables is one on what is in their slots.
pub only_there : (scope : Scope) (place : Span) (first second : Meaning) (array index : ℕ) (accesses : List AnyAccess) → is_variable (Some first) ≡ true → is_variable (Some second) ≡ true
    → slot_of scope (Some first) ≡ array → slot_of scope (Some second) ≡ index → OnlyOf scope.site.names place first second accesses → OnlyThere place array index scope accesses
only_there scope place first second array index accesses one two array_at index_at only =
    all_so (IsOfThese scope.site.names place first second) (IsOnThese place array index scope)
    (λ access these here. let t = these here in (calls_in scope first array access.array one array_at t.0, calls_in scope second index access.index two index_at t.1)) accesses only

-- ---- names that are assigned

unnamed_split : (names : Names) (variable : Meaning) (spans more : List Span) → IsUnnamed names variable (spans ++ more) → IsUnnamed names variable spans × IsUnnamed names variable more
unnamed_split names variable [] more none = (refl, none)
unnamed_split names variable (span ∷ spans) more none =
    let o = or_parts (same_variable (Some variable) (names.meaning span)) (list_any (same_variable (Some variable)) (map names.meaning (spans ++ more))) none in
    let rest = unnamed_split names variable spans more o.1 in
    (ap (λ b. b || list_any (same_variable (Some variable)) (map names.meaning spans)) o.0 ∙ rest.0, rest.1)

apart_at : (z : Setting) (first second : Meaning) (array index : ℕ) (spans : List Span) → slot_of z.scope (Some first) ≡ array → slot_of z.scope (Some second) ≡ index
    → z.owner array ≡ Some first → z.owner index ≡ Some second → IsUnnamed z.scope.site.names first spans → IsUnnamed z.scope.site.names second spans
    → ((v : Option Meaning) → IsOwner z v → OwnsAmong z.scope v spans) → AssignsApart array index z.scope spans
apart_at z first second array index spans array_at index_at array_is index_is one two owns =
    subst (λ a. AssignsApart a index z.scope spans) array_at (subst (λ i. AssignsApart (slot_of z.scope (Some first)) i z.scope spans) index_at
    (others_apart z.scope (Some first) (Some second) spans one two (owns (Some first) (ap z.owner array_at ∙ array_is)) (owns (Some second) (ap z.owner index_at ∙ index_is))))

module _ (g : Ground) (place : Span) (first second : Meaning) (one : is_variable (Some first) ≡ true) (two : is_variable (Some second) ≡ true) where
  -- What is asked of the names that are assigned and of the accesses: on the names of the source alone.
  pub record Spares (assigned : List Span) (accesses : List AnyAccess) : Type 0 where
    pub first_free : IsUnnamed g.site.names first assigned
    pub second_free : IsUnnamed g.site.names second assigned
    pub only : OnlyOf g.site.names place first second accesses

  module _ (array index : ℕ) where
    -- Both are in scope in a body.
    pub record AreAt (body : Body) : Type 0 where
      pub first_at : IsAt g body first array
      pub second_at : IsAt g body second index

    pub are_below : (body : Body) → AreAt body → AreBelow array index body.made.free
    are_below body at = at_below g body first second array index at.first_at at.second_at

    -- A sound expression.
    pub sound_kept : (body : Body) (e : Expr) → AreAt body → Spares (parts_of e).assigned (all_accesses e) → ran_at e g body ≡ true → IsKept place array index g.site e body
    sound_kept body e at spares is =
        let assigned = assigned_by g.site body (assigns e).inside in
        let z = standing g body assigned in
        record {
          apart = apart_same g.site body assigned [] array index (parts_of e).assigned (apart_at z first second array index (parts_of e).assigned
              (slot_same g.site body assigned [] (Some first) ∙ at.first_at.in_slot) (slot_same g.site body assigned [] (Some second) ∙ at.second_at.in_slot)
              at.first_at.holds at.second_at.holds spares.first_free spares.second_free (λ v own. sound_owns z e v is own));
          only = only_there (scope_of g.site body []) place first second array index (all_accesses e) one two at.first_at.in_slot at.second_at.in_slot spares.only;
        }

    -- one whose value is used
    pub used_kept : (body : Body) (e : Expr) → AreAt body → Spares (parts_of e).assigned (all_accesses e) → used_at e g body ≡ true → IsKept place array index g.site e body
    used_kept body e at spares is = sound_kept body e at spares (and_parts (ran_at e g body) _ is).0

    -- A sound initialiser of a local, in the body where the local is in scope.
    pub init_sound_kept : (before inner : Body) (init : Init) → Grows before inner → AreAt before → Spares (init_parts init).assigned (init_accesses init)
        → init_soundness init (declaring g before inner (assigned_by g.site inner (init_assigns init))) ≡ true → IsInitKept place array index g.site init inner
    init_sound_kept before inner init grows at spares is =
        let assigned = assigned_by g.site inner (init_assigns init) in
        let z = declaring g before inner assigned in
        record {
          apart = apart_same g.site inner assigned [] array index (init_parts init).assigned (apart_at z first second array index (init_parts init).assigned
              (grown_slot g before inner grows first array at.first_at assigned) (grown_slot g before inner grows second index at.second_at assigned)
              at.first_at.holds at.second_at.holds spares.first_free spares.second_free (λ v own. init_sound_owns z init v is own));
          only = only_there (scope_of g.site inner []) place first second array index (init_accesses init) one two
              (grown_slot g before inner grows first array at.first_at []) (grown_slot g before inner grows second index at.second_at []) spares.only;
        }

    -- ---- declarations of locals

    maybe_kept : (before inner : Body) (init : Option Init) (name : Span) → Grows before inner → AreAt before → Spares (accesses.maybe init).assigned (maybe init_accesses init)
        → local_init init name g before inner ≡ true → MaybeKept place array index g.site init inner
    maybe_kept before inner None name grows at spares is = tt
    maybe_kept before inner (Some init) name grows at spares is = init_sound_kept before inner init grows at spares is

    local_grows : (name : Ident) (end : ℕ) (body : Body) → Makes (Grows body) (with_local name end g.site body)
    local_grows name end body = made_if (Grows body) (nat_lt body.made.free most_slots) _ _ (record { local = _; locals = refl; at_free = refl; up = omega arith })

    -- behind the initialiser the same locals are in scope, and the same slots are free
    record SameScope (before after : Body) : Type 0 where
      locals : after.locals ≡ before.locals
      free : after.made.free ≡ before.made.free

    initialised_same : (slot : ℕ) (ty : Type_) (name : Span) (init : Option Init) (inner : Body) → Makes (SameScope inner) (initialised slot ty name init g.site inner)
    initialised_same slot ty name None inner =
        makes_then (λ v. SameScope inner v.body) (SameScope inner) (computed inner.made (op.Const inner.made.free (default ty)) name >>= behind_value inner) _
        (makes_then (λ v. Unit {0}) (λ v. SameScope inner v.body) (computed inner.made (op.Const inner.made.free (default ty)) name) (behind_value inner)
        (makes_all (λ v. Unit {0}) (computed inner.made (op.Const inner.made.free (default ty)) name) (λ v. tt)) (λ v t. record { locals = refl; free = refl }))
        (λ v same. record { locals = same.locals; free = same.free })
    initialised_same slot ty name (Some init) inner =
        makes_then (λ v. SameScope inner v.body) (SameScope inner) (init_evaluated g.site init ty inner) _
        (makes_then (λ v. Unit {0}) (λ v. SameScope inner v.body) ((filling init).value (scope_of g.site inner (assigned_by g.site inner (init_assigns init))) ty inner.made) (behind_value inner)
        (makes_all (λ v. Unit {0}) ((filling init).value (scope_of g.site inner (assigned_by g.site inner (init_assigns init))) ty inner.made) (λ v. tt)) (λ v t. record { locals = refl; free = refl }))
        (λ v same. record { locals = same.locals; free = same.free })

    grows_on : (body inner after : Body) → Grows body inner → SameScope inner after → Grows body after
    grows_on body inner after grows same = record { local = grows.local; locals = same.locals ∙ grows.locals; at_free = grows.at_free; up = let x = grows.up in let y = same.free in omega (arith, x, y) }

    pub declaration_grows : (decl : LocalDecl) (end : ℕ) (body : Body) → Makes (Grows body) (declaration decl g.site end body)
    declaration_grows decl end body =
        makes_then (Grows body) (Grows body) (with_local decl.name end g.site body) _ (local_grows decl.name end body)
        (λ inner grows. makes_more (SameScope inner) (Grows body) (λ after same. grows_on body inner after grows same)
        (initialised body.made.free (declared_type (g.site.names.declared decl.name.span)) decl.name.span decl.init g.site inner)
        (initialised_same body.made.free (declared_type (g.site.names.declared decl.name.span)) decl.name.span decl.init inner))

    grown_are_at : (before after : Body) → Grows before after → AreAt before → AreAt after
    grown_are_at before after grows at = record { first_at = grown_at g before after grows first array at.first_at; second_at = grown_at g before after grows second index at.second_at }

    -- Sound declarations, one after the other.
    pub declared_kept : (end : ℕ) (decls : List LocalDecl) (body : Body) → AreAt body → Spares (all_decl_parts decls).assigned (each_of decl_accesses decls) → declared_sound decls g end body ≡ true
        → DeclsKept place array index g.site end decls body
    declared_kept end [] body at spares is = tt
    declared_kept end (decl ∷ decls) body at spares is =
        let s = and_parts (where_made (with_local decl.name end g.site body) (local_init decl.init decl.name.span g body)) (where_made (declaration decl g.site end body) (declared_sound decls g end)) is in
        let a = unnamed_split g.site.names first (decl_parts decl).assigned (all_decl_parts decls).assigned spares.first_free in
        let b = unnamed_split g.site.names second (decl_parts decl).assigned (all_decl_parts decls).assigned spares.second_free in
        let o = all_split (IsOfThese g.site.names place first second) (decl_accesses decl) (each_of decl_accesses decls) spares.only in (
          makes_then_both (Grows body) (λ inner. local_init decl.init decl.name.span g body inner ≡ true) (MaybeKept place array index g.site decl.init) (with_local decl.name end g.site body)
              (local_grows decl.name end body) (made_so (with_local decl.name end g.site body) (local_init decl.init decl.name.span g body) s.0)
              (λ inner grows sound. maybe_kept body inner decl.init decl.name.span grows at (record { first_free = a.0; second_free = b.0; only = o.0 }) sound),
          makes_then_both (Grows body) (λ after. declared_sound decls g end after ≡ true) (DeclsKept place array index g.site end decls) (declaration decl g.site end body)
              (declaration_grows decl end body) (made_so (declaration decl g.site end body) (declared_sound decls g end) s.1)
              (λ after grows sound. declared_kept end decls after (grown_are_at body after grows at) (record { first_free = a.1; second_free = b.1; only = o.1 }) sound),
        )
