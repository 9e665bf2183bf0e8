-- Accepted sources with the same tree up to places have notes that are the same up to places, whichever of their fields are declared together.
use Rattle.std.proofs.Common.{◌≡◌, ℕ, ◌+◌, List, [], ◌∷◌, ◌++◌, map, Option, None, refl, sym, ap, ap₂, ◌∙◌, subst}
use Rattle.std.proofs.lemmas.List.{map-append}
use Rattle.ix_tree.specs.declared.decl.ClassDecl.{ClassDecl}
use Rattle.ix_tree.specs.declared.decl.Member.{Member}
use Rattle.ix_tree.specs.declared.decl.Unit.{Unit as Source}
use Rattle.ix_meaning.specs.declared.members.Field.{Field}
use Rattle.ix_meaning.specs.declared.members.Signature.{Signature}
use Rattle.ix_meaning.specs.declared.note.Note.{Note}
use Rattle.ix_meaning.specs.Classes.{is_cyclic, class_named, parents}
use Rattle.ix_meaning.specs.Declarators as declared
use Rattle.ix_meaning.specs.Members.{ClassOf, World, world, methods, fields_in, fields_from, fields, next_fields}
use Rattle.ix_meaning.specs.Source.{place, head_notes, default_notes_of, member_named, member_notes, class_notes, notes_from, notes}
use Rattle.ix_formed.specs.Additions.{AllOf}
use Rattle.ix_formed.specs.NoErrors.{IsClean}
use Rattle.ix_formed.proofs.CleanNotes.{clean_parts}
use Rattle.ix_formed.proofs.NumberLists.{all_joined}
use Rattle.ix_guard_text.specs.Bare.{bare_member, bare_class, bare_source}
use Rattle.ix_guard_text.proofs.MembersMove.{next_fields_moved}
use Rattle.ix_guard_text.proofs.WorldsMove.{fields_in_moved}
use Rattle.ix_guard_text.proofs.SourcesMove.{class_notes_of}
use Rattle.ix_guard_text.specs.Alike.{AreAlike}
use Rattle.ix_guard_text.specs.Gathered.{gathered, bare_field, bare_signature, bare_world}
use Rattle.ix_guard_text.specs.Joint.{ClassShares, IsJoint}
use Rattle.ix_guard_text.proofs.NotesAlike.{none, both, flipped, chained}
use Rattle.ix_guard_text.proofs.WorldsAgain.{class_named_again, parents_again, methods_again, world_with}
use Rattle.ix_guard_text.proofs.SourcesAlike.{class_alike}
use Rattle.ix_guard_text.proofs.ErrorsAgain.{clean_again}
use Rattle.ix_guard_text.proofs.JointFields.{members_trim, members_clean, fields_trim}

-- ---- fields, each by itself

abbrev alone_from : ClassOf → ℕ → ℕ → List ClassDecl → List Field
alone_from class c next [] = []
alone_from class c next (k ∷ ks) = fields_in class c next k.members ++ alone_from class (c + 1) (next_fields next k.members) ks

fields_alone : (class : ClassOf) (c next : ℕ) (ks : List ClassDecl) → AllOf ClassShares ks → fields_from class c next ks ≡ alone_from class c next ks
fields_alone class c next [] shares = refl
fields_alone class c next (k ∷ ks) shares =
    ap₂ (λ (xs : List Field) (ys : List Field). xs ++ ys) (fields_trim class c next None k.members shares.0) (fields_alone class (c + 1) (next_fields next k.members) ks shares.1)

alone_bare : (class : ClassOf) (c next : ℕ) (ks : List ClassDecl) → map bare_field (alone_from class c next ks) ≡ alone_from class c next (map bare_class ks)
alone_bare class c next [] = refl
alone_bare class c next (k ∷ ks) =
    map-append bare_field (fields_in class c next k.members) (alone_from class (c + 1) (next_fields next k.members) ks)
    ∙ ap₂ (λ (xs : List Field) (ys : List Field). xs ++ ys) (sym (fields_in_moved gathered class c next k.members)) (alone_bare class (c + 1) (next_fields next k.members) ks)
    ∙ ap (λ n. fields_in class c next (map bare_member k.members) ++ alone_from class (c + 1) n (map bare_class ks)) (sym (next_fields_moved gathered next k.members))

fields_anywhere : (us vs : List ClassDecl) → map bare_class us ≡ map bare_class vs → AllOf ClassShares us → AllOf ClassShares vs → map bare_field (fields us) ≡ map bare_field (fields vs)
fields_anywhere us vs e one two =
    ap (λ (fs : List Field). map bare_field fs) (fields_alone (class_named us) 0 0 us one)
    ∙ alone_bare (class_named us) 0 0 us
    ∙ ap₂ (λ (class : ClassOf) (ks : List ClassDecl). alone_from class 0 0 ks) (class_named_again us vs e) e
    ∙ sym (alone_bare (class_named vs) 0 0 vs)
    ∙ sym (ap (λ (fs : List Field). map bare_field fs) (fields_alone (class_named vs) 0 0 vs two))

pub world_anywhere : (us vs : List ClassDecl) → map bare_class us ≡ map bare_class vs → AllOf ClassShares us → AllOf ClassShares vs → bare_world (world us) ≡ bare_world (world vs)
world_anywhere us vs e one two = world_with us vs e (fields_anywhere us vs e one two)

-- ---- notes of classes, each field by itself

abbrev alone_notes_from : World → List (Option ℕ) → List Signature → ℕ → ℕ → List ClassDecl → List Note
alone_notes_from w ps ms c next [] = []
alone_notes_from w ps ms c next (k ∷ ks) = class_notes_of w ps ms c next k k.members ++ alone_notes_from w ps ms (c + 1) (next_fields next k.members) ks

alone_alike : (w : World) (ps : List (Option ℕ)) (ms : List Signature) (c next : ℕ) (ks : List ClassDecl)
    → AreAlike (alone_notes_from w ps ms c next ks) (alone_notes_from (bare_world w) ps (map bare_signature ms) c next (map bare_class ks))
alone_alike w ps ms c next [] = none
alone_alike w ps ms c next (k ∷ ks) =
    both (class_alike w ps ms c next k k.members)
    (subst (λ n. AreAlike (alone_notes_from w ps ms (c + 1) (next_fields next k.members) ks) (alone_notes_from (bare_world w) ps (map bare_signature ms) (c + 1) n (map bare_class ks))) (sym (next_fields_moved gathered next k.members))
    (alone_alike w ps ms (c + 1) (next_fields next k.members) ks))

module _ (w : World) (ps : List (Option ℕ)) (ms : List Signature) where
  abbrev head : ℕ → ClassDecl → List Note
  head c k = head_notes w (is_cyclic ps c) c k

  abbrev inner : ℕ → ℕ → ClassDecl → List Member → List Note
  inner c next k members = member_notes (place w ms c k) (member_named k.members) 0 next members

  abbrev default : ℕ → ClassDecl → List Note
  default c k = default_notes_of w c k

  class_trim : (c next : ℕ) (k : ClassDecl) → ClassShares k → AllOf IsClean (class_notes_of w ps ms c next k k.members) → class_notes w ps ms c next k ≡ class_notes_of w ps ms c next k k.members
  class_trim c next k shares clean =
      let a = clean_parts (head c k) (inner c next k k.members ++ default c k) clean in
      let b = clean_parts (inner c next k k.members) (default c k) a.1 in
      ap (λ (ns : List Note). head c k ++ (ns ++ default c k)) (members_trim (place w ms c k) (member_named k.members) 0 next None k.members shares b.0)

  class_clean : (c next : ℕ) (k : ClassDecl) → ClassShares k → AllOf IsClean (class_notes w ps ms c next k) → AllOf IsClean (class_notes_of w ps ms c next k k.members)
  class_clean c next k shares clean =
      let a = clean_parts (head c k) (inner c next k (declared.members k.members) ++ default c k) clean in
      let b = clean_parts (inner c next k (declared.members k.members)) (default c k) a.1 in
      all_joined IsClean (head c k) (inner c next k k.members ++ default c k) a.0
      (all_joined IsClean (inner c next k k.members) (default c k) (members_clean (place w ms c k) (member_named k.members) 0 next None k.members tt shares b.0) b.1)

  classes_trim : (c next : ℕ) (ks : List ClassDecl) → AllOf ClassShares ks → AllOf IsClean (alone_notes_from w ps ms c next ks) → notes_from w ps ms c next ks ≡ alone_notes_from w ps ms c next ks
  classes_trim c next [] shares clean = refl
  classes_trim c next (k ∷ ks) shares clean =
      let a = clean_parts (class_notes_of w ps ms c next k k.members) (alone_notes_from w ps ms (c + 1) (next_fields next k.members) ks) clean in
      ap₂ (λ (xs : List Note) (ys : List Note). xs ++ ys) (class_trim c next k shares.0 a.0) (classes_trim (c + 1) (next_fields next k.members) ks shares.1 a.1)

  classes_clean : (c next : ℕ) (ks : List ClassDecl) → AllOf ClassShares ks → AllOf IsClean (notes_from w ps ms c next ks) → AllOf IsClean (alone_notes_from w ps ms c next ks)
  classes_clean c next [] shares clean = tt
  classes_clean c next (k ∷ ks) shares clean =
      let a = clean_parts (class_notes w ps ms c next k) (notes_from w ps ms (c + 1) (next_fields next k.members) ks) clean in
      all_joined IsClean (class_notes_of w ps ms c next k k.members) (alone_notes_from w ps ms (c + 1) (next_fields next k.members) ks) (class_clean c next k shares.0 a.0)
      (classes_clean (c + 1) (next_fields next k.members) ks shares.1 a.1)

-- ---- whole sources

abbrev alone_notes : List ClassDecl → List Note
alone_notes all = alone_notes_from (world all) (parents all) (methods all) 0 0 all

alone_again : (us vs : List ClassDecl) → map bare_class us ≡ map bare_class vs → AllOf ClassShares us → AllOf ClassShares vs → AreAlike (alone_notes us) (alone_notes vs)
alone_again us vs e one two =
    let equal : alone_notes_from (bare_world (world us)) (parents us) (map bare_signature (methods us)) 0 0 (map bare_class us)
    ≡ alone_notes_from (bare_world (world vs)) (parents vs) (map bare_signature (methods vs)) 0 0 (map bare_class vs) =
    ap₂ (λ (w : World) (ps : List (Option ℕ)). alone_notes_from w ps (map bare_signature (methods us)) 0 0 (map bare_class us)) (world_anywhere us vs e one two) (parents_again us vs e)
    ∙ ap₂ (λ (ms : List Signature) (ks : List ClassDecl). alone_notes_from (bare_world (world vs)) (parents vs) ms 0 0 ks) (methods_again us vs e) e in
    chained (subst (AreAlike (alone_notes us)) equal (alone_alike (world us) (parents us) (methods us) 0 0 us)) (flipped (alone_alike (world vs) (parents vs) (methods vs) 0 0 vs))

-- Where no note of one is an error, they have as many notes, each the same up to its place.
pub notes_anywhere : (unit other : Source) → bare_source unit ≡ bare_source other → IsJoint unit → IsJoint other → AllOf IsClean (notes unit.classes) → AreAlike (notes unit.classes) (notes other.classes)
notes_anywhere unit other same one two clean =
    let us = unit.classes in
    let vs = other.classes in
    let e : map bare_class us ≡ map bare_class vs = ap (λ (source : Source). source.classes) same in
    let alike = alone_again us vs e one two in
    let alone = classes_clean (world us) (parents us) (methods us) 0 0 us one clean in
    let others = clean_again (alone_notes us) (alone_notes vs) alike.same alone in
    let here : notes us ≡ alone_notes us = classes_trim (world us) (parents us) (methods us) 0 0 us one alone in
    let there : notes vs ≡ alone_notes vs = classes_trim (world vs) (parents vs) (methods vs) 0 0 vs two others in
    subst (λ (ns : List Note). AreAlike ns (notes vs)) (sym here) (subst (AreAlike (alone_notes us)) (sym there) alike)
