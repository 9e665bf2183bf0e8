-- Two properties of operations that all that an expression becomes may have: that it keeps what a guard's test tells of two slots, and that it is no access at a place.
use Rattle.std.proofs.Common.{◌≡◌, ◌≤◌, ◌<◌, ℕ, false, List, [], ◌∷◌, Option, Some, None, refl, sym, subst, ◌∙◌, arith}
use Rattle.std.specs.Prelude.{◌==◌}
use Rattle.std.proofs.lemmas.Bool.Decides.{nat_tests}
use Rattle.ix_text.specs.declared.span.Span.{Span}
use Rattle.ix_core.specs.declared.op.Op.{Op}
use Rattle.ix_core.specs.declared.op.OpKind.TheVariants as op
use Rattle.ix_tree.specs.declared.annot.Ident.{Ident}
use Rattle.ix_meaning.specs.declared.note.Meaning.{Meaning}
use Rattle.ix_meaning.specs.declared.note.Meaning.TheVariants as meaning
use Rattle.ix_plain.specs.declared.body.Body.{Body}
use Rattle.ix_plain.specs.declared.made.Spot.{Spot}
use Rattle.ix_plain.specs.declared.made.Spot.TheVariants as spot
use Rattle.ix_plain.specs.Scope.{Site, Scope, slot_of, meaning_at, is_among}
use Rattle.ix_plain.specs.Statements.{scope_of}
use Rattle.ix_plain.specs.Values.{named_spot}
use Rattle.ix_formed.specs.Additions.{AllOf}
use Rattle.ix_formed.proofs.NumberLists.{all_so}
use Rattle.ix_guard_promise.specs.Known.{Known, Unknown, Inside, accessed, IsInside}
use Rattle.ix_guard_promise.specs.Guards.{IsGuarded}
use Rattle.ix_guard_promise.specs.Pieces.{IsElsewhere, Keeps}
use Rattle.ix_guard_promise.specs.AllAccesses.{AnyAccess}
use Rattle.ix_guard_promise.specs.AtPlace.{IsOff}
use Rattle.ix_guard_promise.specs.OnlyThere.{Names, IsOnThese, OnlyThere}
use Rattle.ix_guard_promise.specs.KeptSlots.{AreBelow}
use Rattle.ix_guard_promise.specs.Targets.{IsApart, AssignsApart}
use Rattle.ix_guard_promise.proofs.KeptItems.{Allows}
use Rattle.ix_guard_promise.proofs.KeptExpressions.{IsInSlot, FitCells}

pub other_slot : (slot free : ℕ) → slot < free → (slot == free) ≡ false
other_slot slot free low = grind (arith, nat_tests)

-- ---- the accesses of an operation

-- what is no access is guarded whatever is known,
no_access : (place : Span) (known : Known) (done : Op) → accessed done.kind ≡ None → IsGuarded place known done
no_access place known done none access is at = absurd (none_some (sym none ∙ is))
  where
    none_some : {A : Type 0} {x : A} → ◌≡◌ {A = Option A} None (Some x) → ⊥
    none_some e = cc e

abbrev MaybeInside : Known → Option (ℕ × ℕ) → Type 0
MaybeInside known None = Unit {0}
MaybeInside known (Some access) = IsInside known access

-- and so is an access that is inside where it stands at the place.
one_access : (place : Span) (known : Known) (done : Op) (of at : ℕ) → accessed done.kind ≡ Some (of, at) → (done.span ≡ place → IsInside known (of, at)) → IsGuarded place known done
one_access place known done of at one inside access is here = subst (MaybeInside known) (sym one ∙ is) (inside here)

-- ---- that keeps what a guard's test tells

-- The spot is a field, a variable in neither slot, or a cell: at the place the one whose array and index are in these slots.
abbrev pub IsBeside : (place : Span) → (array index : ℕ) → Spot → Type 0
IsBeside place array index (spot.Variable slot) = ((array == slot) ≡ false) × ((index == slot) ≡ false)
IsBeside place array index (spot.FieldOf object field) = Unit {0}
IsBeside place array index (spot.Cell of at ty span) = span ≡ place → (array ≡ of) × (index ≡ at)

pub below_on : (array index free more : ℕ) → AreBelow array index free → free ≤ more → AreBelow array index more
below_on array index free more below up = record {
  array_below = let low = below.array_below in omega (arith, low, up);
  index_below = let low = below.index_below in omega (arith, low, up);
}

pub kept_allows : (place : Span) (array index : ℕ) → Allows (Keeps place array index) (AreBelow array index) (IsBeside place array index)
kept_allows place array index = record {
  on = below_on array index;
  fresh = λ done free low none target. record {
    array_stays = target array ∙ other_slot array free low.array_below;
    index_stays = target index ∙ other_slot index free low.index_below;
    access = no_access place (Inside array index) done none;
  };
  loads = λ free of at ty span parts low aims. record {
    array_stays = other_slot array free low.array_below;
    index_stays = other_slot index free low.index_below;
    access = one_access place (Inside array index) (record { kind = op.Load free of at ty; span = span; parts = parts }) of at refl aims;
  };
  stores = λ of at value ty span parts aims. record {
    array_stays = refl;
    index_stays = refl;
    access = one_access place (Inside array index) (record { kind = op.Store of at value ty; span = span; parts = parts }) of at refl aims;
  };
  copies = λ slot value ty span parts aims. record {
    array_stays = aims.0;
    index_stays = aims.1;
    access = no_access place (Inside array index) (record { kind = op.Copy slot value ty; span = span; parts = parts }) refl;
  };
  fields = λ object field value span parts. record {
    array_stays = refl;
    index_stays = refl;
    access = no_access place (Inside array index) (record { kind = op.WriteField object field value; span = span; parts = parts }) refl;
  };
  of_fields = λ object field. tt;
  prints = λ value span parts. record {
    array_stays = refl;
    index_stays = refl;
    access = no_access place (Inside array index) (record { kind = op.Print value; span = span; parts = parts }) refl;
  };
  own = λ slot low. (other_slot array slot low.array_below, other_slot index slot low.index_below);
}

-- The full expression assigns neither variable.
pub record Unassigned (array index : ℕ) (assigned : List ℕ) : Type 0 where
  pub array_free : is_among array assigned ≡ false
  pub index_free : is_among index assigned ≡ false

named_slot : (scope : Scope) (name : Option Ident) (slot at : ℕ) → is_among slot scope.assigned ≡ false → Names scope slot name → IsInSlot scope name at → slot ≡ at
named_slot scope None slot at free means here = absurd means
named_slot scope (Some name) slot at free means here = sym (here slot means free)

pub kept_cells : (place : Span) (array index : ℕ) (scope : Scope) → Unassigned array index scope.assigned → FitCells (IsBeside place array index) scope (IsOnThese place array index scope)
kept_cells place array index scope free access fit of at ty first second here =
    let these = fit here in
    (named_slot scope access.array array of free.array_free these.0 first, named_slot scope access.index index at free.index_free these.1 second)

-- ---- full expressions in a body, whatever they assign

module _ (site : Site) (body : Body) (one other : List ℕ) where
  pub slot_same : (m : Option Meaning) → slot_of (scope_of site body one) m ≡ slot_of (scope_of site body other) m
  slot_same (Some (meaning.Local n)) = refl
  slot_same (Some (meaning.Param n)) = refl
  slot_same (Some (meaning.FieldNamed n)) = refl
  slot_same (Some (meaning.Constant n)) = refl
  slot_same (Some (meaning.ClassNamed n)) = refl
  slot_same (Some (meaning.MethodNamed n)) = refl
  slot_same (Some meaning.LengthOf) = refl
  slot_same None = refl

  name_same : (slot : ℕ) (name : Option Ident) → Names (scope_of site body one) slot name → Names (scope_of site body other) slot name
  name_same slot None means = means
  name_same slot (Some name) means = record { variable = means.variable; in_slot = sym (slot_same (site.names.meaning name.span)) ∙ means.in_slot }

  apart_of_both : (array index : ℕ) (m : Option Meaning) → IsApart array index (named_spot (scope_of site body one) m) → IsApart array index (named_spot (scope_of site body other) m)
  apart_of_both array index (Some (meaning.Local n)) apart = apart
  apart_of_both array index (Some (meaning.Param n)) apart = apart
  apart_of_both array index (Some (meaning.FieldNamed n)) apart = apart
  apart_of_both array index (Some (meaning.Constant n)) apart = apart
  apart_of_both array index (Some (meaning.ClassNamed n)) apart = apart
  apart_of_both array index (Some (meaning.MethodNamed n)) apart = apart
  apart_of_both array index (Some meaning.LengthOf) apart = apart
  apart_of_both array index None apart = apart

  pub apart_same : (array index : ℕ) (spans : List Span) → AssignsApart array index (scope_of site body one) spans → AssignsApart array index (scope_of site body other) spans
  apart_same array index spans apart = all_so (λ span. IsApart array index (named_spot (scope_of site body one) (meaning_at (scope_of site body one) span)))
      (λ span. IsApart array index (named_spot (scope_of site body other) (meaning_at (scope_of site body other) span))) (λ span a. apart_of_both array index (site.names.meaning span) a) spans apart

  module _ (place : Span) (array index : ℕ) where
    pub only_same : (accesses : List AnyAccess) → OnlyThere place array index (scope_of site body one) accesses → OnlyThere place array index (scope_of site body other) accesses
    only_same accesses only = all_so (IsOnThese place array index (scope_of site body one)) (IsOnThese place array index (scope_of site body other))
        (λ access fit here. let these = fit here in (name_same array access.array these.0, name_same index access.index these.1)) accesses only

    beside : (m : Option Meaning) → IsApart array index (named_spot (scope_of site body one) m) → IsBeside place array index (named_spot (scope_of site body other) m)
    beside (Some (meaning.Local n)) apart = apart
    beside (Some (meaning.Param n)) apart = apart
    beside (Some (meaning.FieldNamed n)) apart = apart
    beside (Some (meaning.Constant n)) apart = apart
    beside (Some (meaning.ClassNamed n)) apart = apart
    beside (Some (meaning.MethodNamed n)) apart = apart
    beside (Some meaning.LengthOf) apart = apart
    beside None apart = apart

    pub all_beside : (spans : List Span) → AssignsApart array index (scope_of site body one) spans
        → AllOf (λ span. IsBeside place array index (named_spot (scope_of site body other) (meaning_at (scope_of site body other) span))) spans
    all_beside spans apart = all_so (λ span. IsApart array index (named_spot (scope_of site body one) (meaning_at (scope_of site body one) span)))
        (λ span. IsBeside place array index (named_spot (scope_of site body other) (meaning_at (scope_of site body other) span))) (λ span a. beside (site.names.meaning span) a) spans apart

-- ---- that is no access at the place

abbrev pub IsOffSpot : Span → Spot → Type 0
IsOffSpot place (spot.Variable slot) = Unit {0}
IsOffSpot place (spot.FieldOf object field) = Unit {0}
IsOffSpot place (spot.Cell of at ty span) = span ≡ place → ⊥

-- whatever is free
abbrev pub Anywhere : ℕ → Type 0
Anywhere free = Unit {0}

pub elsewhere_allows : (place : Span) → Allows (IsElsewhere place) Anywhere (IsOffSpot place)
elsewhere_allows place = record {
  on = λ free more low up. tt;
  fresh = λ done free low none target. no_access place Unknown done none;
  loads = λ free of at ty span parts low aims. one_access place Unknown (record { kind = op.Load free of at ty; span = span; parts = parts }) of at refl aims;
  stores = λ of at value ty span parts aims. one_access place Unknown (record { kind = op.Store of at value ty; span = span; parts = parts }) of at refl aims;
  copies = λ slot value ty span parts aims. no_access place Unknown (record { kind = op.Copy slot value ty; span = span; parts = parts }) refl;
  fields = λ object field value span parts. no_access place Unknown (record { kind = op.WriteField object field value; span = span; parts = parts }) refl;
  of_fields = λ object field. tt;
  prints = λ value span parts. no_access place Unknown (record { kind = op.Print value; span = span; parts = parts }) refl;
  own = λ slot low. tt;
}

pub elsewhere_cells : (place : Span) (scope : Scope) → FitCells (IsOffSpot place) scope (IsOff place)
elsewhere_cells place scope access fit of at ty first second = fit

off_spot : (place : Span) (scope : Scope) (m : Option Meaning) → IsOffSpot place (named_spot scope m)
off_spot place scope (Some (meaning.Local n)) = tt
off_spot place scope (Some (meaning.Param n)) = tt
off_spot place scope (Some (meaning.FieldNamed n)) = tt
off_spot place scope (Some (meaning.Constant n)) = tt
off_spot place scope (Some (meaning.ClassNamed n)) = tt
off_spot place scope (Some (meaning.MethodNamed n)) = tt
off_spot place scope (Some meaning.LengthOf) = tt
off_spot place scope None = tt

pub all_off : (place : Span) (scope : Scope) (spans : List Span) → AllOf (λ span. IsOffSpot place (named_spot scope (meaning_at scope span))) spans
all_off place scope [] = tt
all_off place scope (span ∷ spans) = (off_spot place scope (meaning_at scope span), all_off place scope spans)
