-- What an expression assigns is apart from the slots of two variables that aren't among those that it assigns.
use Rattle.std.proofs.Common.{◌≡◌, Bool, false, not, List, [], ◌∷◌, map, Option, Some, None, true, refl, sym}
use Rattle.std.specs.List.{list_any}
use Rattle.std.proofs.lemmas.Bool.{or_parts, and_parts}
use Rattle.ix_text.specs.declared.span.Span.{Span}
use Rattle.ix_tree.specs.declared.annot.Ident.{Ident}
use Rattle.ix_meaning.specs.declared.note.Meaning.{Meaning}
use Rattle.ix_meaning.specs.declared.note.Meaning.TheVariants as meaning
use Rattle.ix_plain.specs.Scope.{Scope, slot_of, meaning_at}
use Rattle.ix_plain.specs.Values.{named_spot}
use Rattle.ix_guard.specs.Tests as tests
use Rattle.ix_guard.specs.Tests.{Changes, same_variable, is_variable, is_called, is_kept}
use Rattle.ix_guard_promise.specs.Targets.{IsApart, AssignsApart, OwnsSlot, OwnsAmong}

module _ (scope : Scope) (array index : Option Meaning) where
  meaning_apart : (m : Option Meaning) → same_variable array m ≡ false → same_variable index m ≡ false → OwnsSlot scope array m → OwnsSlot scope index m
      → IsApart (slot_of scope array) (slot_of scope index) (named_spot scope m)
  meaning_apart (Some (meaning.Local number)) one two own_array own_index = (own_array one, own_index two)
  meaning_apart (Some (meaning.Param number)) one two own_array own_index = (own_array one, own_index two)
  meaning_apart (Some (meaning.FieldNamed field)) one two own_array own_index = tt
  meaning_apart (Some (meaning.Constant n)) one two own_array own_index = absurd own_array
  meaning_apart (Some (meaning.ClassNamed class)) one two own_array own_index = absurd own_array
  meaning_apart (Some (meaning.MethodNamed method)) one two own_array own_index = absurd own_array
  meaning_apart (Some meaning.LengthOf) one two own_array own_index = absurd own_array
  meaning_apart None one two own_array own_index = absurd own_array

  -- none of the assigned names means one of the two variables
  pub others_apart : (spans : List Span) → list_any (same_variable array) (map scope.site.names.meaning spans) ≡ false → list_any (same_variable index) (map scope.site.names.meaning spans) ≡ false
      → OwnsAmong scope array spans → OwnsAmong scope index spans → AssignsApart (slot_of scope array) (slot_of scope index) scope spans
  others_apart [] one two own_array own_index = tt
  others_apart (span ∷ spans) one two own_array own_index =
      let a = or_parts (same_variable array (meaning_at scope span)) (list_any (same_variable array) (map scope.site.names.meaning spans)) one in
      let i = or_parts (same_variable index (meaning_at scope span)) (list_any (same_variable index) (map scope.site.names.meaning spans)) two in
      (meaning_apart (meaning_at scope span) a.0 i.0 own_array.0 own_index.0, others_apart spans a.1 i.1 own_array.1 own_index.1)

not_true : (b : Bool) → not b ≡ true → b ≡ false
not_true true e = sym e
not_true false e = refl

-- What is kept by the guard's test of names is a variable, and isn't assigned.
pub kept_variable : (site : tests.Site) (changes : Changes) (name : Ident) → is_kept site changes name ≡ true → is_variable (site.names.meaning name.span) ≡ true
kept_variable site changes name kept = (and_parts (is_variable (site.names.meaning name.span)) _ kept).0

pub kept_unassigned : (site : tests.Site) (changes : Changes) (name : Ident) → is_kept site changes name ≡ true → list_any (same_variable (site.names.meaning name.span)) changes.assigned ≡ false
kept_unassigned site changes name kept =
    let first = and_parts (is_variable (site.names.meaning name.span)) _ kept in
    let second = and_parts (not (list_any (same_variable (site.names.meaning name.span)) changes.assigned)) (not (list_any (is_called name) changes.declared)) first.1 in
    not_true (list_any (same_variable (site.names.meaning name.span)) changes.assigned) second.0
