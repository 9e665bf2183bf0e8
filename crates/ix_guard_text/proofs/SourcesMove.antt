-- The notes of a source whose places are moved.
use Rattle.std.proofs.Common.{◌≡◌, ℕ, ◌+◌, Bool, true, false, List, [], ◌∷◌, ◌++◌, map, Option, Some, None, refl, sym, ap, ap₂, ◌∙◌, subst}
use Rattle.std.specs.Prelude.{if◌then◌else◌, ◌||◌}
use Rattle.ix_text.specs.declared.span.Span.{Span}
use Rattle.ix_tree.specs.declared.annot.Ident.{Ident}
use Rattle.ix_tree.specs.declared.decl.ClassDecl.{ClassDecl}
use Rattle.ix_tree.specs.declared.decl.Member.{Member}
use Rattle.ix_tree.specs.declared.decl.Member.TheVariants as member
use Rattle.ix_tree.specs.declared.decl.Unit.{Unit as Source}
use Rattle.ix_meaning.specs.declared.members.Signature.{Signature}
use Rattle.ix_meaning.specs.declared.note.Meaning.TheVariants.{ClassNamed}
use Rattle.ix_meaning.specs.declared.note.Note.{Note}
use Rattle.ix_meaning.specs.declared.note.Rule.TheVariants as rule
use Rattle.ix_meaning.specs.Classes.{is_cyclic, parents}
use Rattle.ix_meaning.specs.Declarators as declared
use Rattle.ix_meaning.specs.Members.{World, world, methods, next_fields}
use Rattle.ix_meaning.specs.Source.{Place, is_taken, is_constructor, has_constructor, default_notes_of, implicit_super_of, class_use_notes, parent_use, place, head_notes, member_named, member_notes, class_notes, notes_from, notes}
use Rattle.ix_guard_text.specs.Bare.{bare_maybe as maybe}
use Rattle.ix_guard_text.specs.Moved.{Move, moved_span, moved_name, moved_member, moved_class, moved_source}
use Rattle.ix_guard_text.specs.MovedNotes.{AreMoved, IsInjective}
use Rattle.ix_guard_text.proofs.NotesMove.{none, both, used, is_wrong, if_wrong}
use Rattle.ix_guard_text.specs.MovedScopes.{moved_signature, moved_world, moved_place}
use Rattle.ix_guard_text.proofs.ExpressionsMove.{some_moved}
use Rattle.ix_guard_text.proofs.MembersMove.{implicit_moves, member_named_moved, next_fields_moved, members_moves}
use Rattle.ix_guard_text.proofs.FieldsMove.{members_moved}
use Rattle.ix_guard_text.proofs.WorldsMove.{parents_moved, methods_moved, world_moves}

-- the notes of a class that has these members
abbrev pub class_notes_of : World → List (Option ℕ) → List Signature → ℕ → ℕ → ClassDecl → List Member → List Note
class_notes_of w ps ms c next k members =
    head_notes w (is_cyclic ps c) c k ++ (member_notes (place w ms c k) (member_named k.members) 0 next members ++ default_notes_of w c k)

module _ (move : Move) where
  -- ---- one class

  class_use_moves : (c : Option ℕ) (p : Span) → AreMoved move (class_use_notes c p) (class_use_notes c (moved_span move p))
  class_use_moves None p = is_wrong rule.UnknownName p
  class_use_moves (Some c) p = used p (ClassNamed c) none

  parent_use_moves : (w : World) (parent : Option Ident) → AreMoved move (parent_use w parent) (parent_use (moved_world move w) (maybe (moved_name move) parent))
  parent_use_moves w None = none
  parent_use_moves w (Some name) = class_use_moves (w.class name.text) name.span

  head_moves : (w : World) (cyclic : Bool) (c : ℕ) (k : ClassDecl) → AreMoved move (head_notes w cyclic c k) (head_notes (moved_world move w) cyclic c (moved_class move k))
  head_moves w cyclic c k =
      both (if_wrong (is_taken (w.class k.name.text) c) rule.DuplicateName k.name.span) (both (parent_use_moves w k.parent) (if_wrong cyclic rule.CyclicClass k.name.span))

  is_constructor_moved : (m : Member) → is_constructor (moved_member move m) ≡ is_constructor m
  is_constructor_moved (member.Field d) = refl
  is_constructor_moved (member.Method m) = refl

  has_constructor_moved : (ms : List Member) → has_constructor (map (moved_member move) ms) ≡ has_constructor ms
  has_constructor_moved [] = refl
  has_constructor_moved (m ∷ ms) = ap₂ (λ (a : Bool) (b : Bool). a || b) (is_constructor_moved m) (has_constructor_moved ms)

  default_moves : (w : World) (c : ℕ) (k : ClassDecl) → AreMoved move (default_notes_of w c k) (default_notes_of (moved_world move w) c (moved_class move k))
  default_moves w c k =
      subst (λ b. AreMoved move (default_notes_of w c k) (if b then [] else implicit_super_of (moved_world move w) (w.parent c) (moved_span move k.name.span))) (sym (has_constructor_moved k.members)) (by (has_constructor k.members))
    where
      by : (b : Bool) → AreMoved move (if b then [] else implicit_super_of w (w.parent c) k.name.span) (if b then [] else implicit_super_of (moved_world move w) (w.parent c) (moved_span move k.name.span))
      by true = none
      by false = implicit_moves move w (w.parent c) k.name.span

  place_moved : (w : World) (ms : List Signature) (c : ℕ) (k : ClassDecl) → place (moved_world move w) (map (moved_signature move) ms) c (moved_class move k) ≡ moved_place move (place w ms c k)
  place_moved w ms c k =
      ap (λ (b : Bool). let l : Place = record { world = moved_world move w; methods = map (moved_signature move) ms; class = c; class_name = k.name.text; extends = b } in l) (some_moved (moved_name move) k.parent)

  pub class_moves : (w : World) (ps : List (Option ℕ)) (ms : List Signature) (c next : ℕ) (k : ClassDecl) (own : List Member)
      → AreMoved move (class_notes_of w ps ms c next k own) (class_notes_of (moved_world move w) ps (map (moved_signature move) ms) c next (moved_class move k) (map (moved_member move) own))
  class_moves w ps ms c next k own =
      let was = member_notes (place w ms c k) (member_named k.members) 0 next own in
      both (head_moves w (is_cyclic ps c) c k)
      (both
      (subst (λ (l : Place). AreMoved move was (member_notes l (member_named (map (moved_member move) k.members)) 0 next (map (moved_member move) own))) (sym (place_moved w ms c k))
      (subst (λ (named : List ℕ → Option ℕ). AreMoved move was (member_notes (moved_place move (place w ms c k)) named 0 next (map (moved_member move) own))) (sym (member_named_moved move k.members))
      (members_moves move (place w ms c k) (member_named k.members) 0 next own)))
      (default_moves w c k))

  -- ---- all classes, where no two places come to one

  module _ (apart : IsInjective move) where
    whole_moves : (w : World) (ps : List (Option ℕ)) (ms : List Signature) (c next : ℕ) (k : ClassDecl)
        → AreMoved move (class_notes w ps ms c next k) (class_notes (moved_world move w) ps (map (moved_signature move) ms) c next (moved_class move k))
    whole_moves w ps ms c next k =
        subst (λ (own : List Member). AreMoved move (class_notes w ps ms c next k) (class_notes_of (moved_world move w) ps (map (moved_signature move) ms) c next (moved_class move k) own))
        (sym (members_moved move apart k.members)) (class_moves w ps ms c next k (declared.members k.members))

    classes_move : (w : World) (ps : List (Option ℕ)) (ms : List Signature) (c next : ℕ) (ks : List ClassDecl)
        → AreMoved move (notes_from w ps ms c next ks) (notes_from (moved_world move w) ps (map (moved_signature move) ms) c next (map (moved_class move) ks))
    classes_move w ps ms c next [] = none
    classes_move w ps ms c next (k ∷ ks) =
        both (whole_moves w ps ms c next k)
        (subst (λ n. AreMoved move (notes_from w ps ms (c + 1) (next_fields next k.members) ks) (notes_from (moved_world move w) ps (map (moved_signature move) ms) (c + 1) n (map (moved_class move) ks)))
        (sym (next_fields_moved move next k.members)) (classes_move w ps ms (c + 1) (next_fields next k.members) ks))

    -- The notes of the moved source are those of the source, at their places moved.
    pub notes_move : (unit : Source) → AreMoved move (notes unit.classes) (notes (moved_source move unit).classes)
    notes_move unit =
        let cs = unit.classes in
        let there = map (moved_class move) cs in
        let equal : notes_from (moved_world move (world cs)) (parents cs) (map (moved_signature move) (methods cs)) 0 0 there ≡ notes there =
        ap₂ (λ (w : World) (ps : List (Option ℕ)). notes_from w ps (map (moved_signature move) (methods cs)) 0 0 there) (sym (world_moves move apart cs)) (sym (parents_moved move cs))
        ∙ ap (λ (ms : List Signature). notes_from (world there) (parents there) ms 0 0 there) (sym (methods_moved move cs)) in
        subst (AreMoved move (notes cs)) equal (classes_move (world cs) (parents cs) (methods cs) 0 0 cs)
