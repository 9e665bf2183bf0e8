-- In an accepted source the initialisers of each class's fields stand beside its methods and fit; so it is around each method.
use Rattle.std.proofs.Common.{◌≡◌, ◌≤◌, ℕ, ◌+◌, true, List, [], ◌∷◌, ◌++◌, length, map, Option, refl, sym, subst, ◌∙◌, arith, append_assoc, length-append}
use Rattle.std.proofs.lemmas.Bool.{and_parts}
use Rattle.ix_core.specs.declared.program.Field.{Field}
use Rattle.ix_core.specs.declared.program.Program.{Program}
use Rattle.ix_tree.specs.declared.decl.ClassDecl.{ClassDecl}
use Rattle.ix_tree.specs.declared.decl.MethodDecl.{MethodDecl}
use Rattle.ix_tree.specs.declared.decl.Unit.{Unit as Source}
use Rattle.ix_tree.specs.Parts.{Part, together, each, class_parts, unit_parts}
use Rattle.ix_tree.specs.Placed.{LaidOut, row, class_piece, Placed}
use Rattle.ix_meaning.specs.declared.members.Signature.{Signature}
use Rattle.ix_meaning.specs.Classes.{parents}
use Rattle.ix_meaning.specs.Limits.{methods_of, all_methods}
use Rattle.ix_meaning.specs.Members as members
use Rattle.ix_meaning.specs.Members.{world}
use Rattle.ix_meaning.specs.Resolved.{names}
use Rattle.ix_meaning.specs.Source.{Place, place, member_named}
use Rattle.ix_plain.specs.declared.numbers.Next.{Next}
use Rattle.ix_plain.specs.Counts.{most_counted}
use Rattle.ix_plain.specs.Members.{next_behind, first_numbers}
use Rattle.ix_plain.specs.Program.{Tables, Home, home, tables}
use Rattle.ix_formed.specs.Additions.{AllOf}
use Rattle.ix_formed.specs.NoErrors.{Agrees, ClassesSay}
use Rattle.ix_formed.specs.Readable.{is_readable, is_readable_member}
use Rattle.ix_formed.specs.Shape.{fields_of_class, fields_of, field_count, IsNext}
use Rattle.ix_formed.specs.Written.{is_written_member, each_true}
use Rattle.ix_formed.proofs.ClassesFit.{numbers_go}
use Rattle.ix_formed.proofs.DeclaredFields.{next_counts}
use Rattle.ix_formed.proofs.FieldPlaces.{Beside, AllStand, ClassStands, class_stands}
use Rattle.ix_formed.proofs.FieldsFit.{IsAccepted, fields_are_all, is_small, said}
use Rattle.ix_formed.proofs.FieldTypes.{AllTyped, members_typed}
use Rattle.ix_formed.proofs.HeadsAre.{AreSo}
use Rattle.ix_formed.proofs.NumberLists.{all_split}
use Rattle.ix_formed.proofs.Numbering.{goes, goes_on, fields_counted}
use Rattle.ix_formed.proofs.SourceMethods.{IsAmong, IsSound, all_among, methods_sound}

-- What is so of a written method in its class.
pub record IsMember (unit : Source) (p : Program) (l : Place) (at : Home) (d : MethodDecl) : Type 0 where
  pub sound : IsSound (unit_parts unit) d
  -- the initialisers of the class's fields
  pub stand : AllStand (unit_parts unit) (Beside d.span) at.members
  pub typed : AllTyped p (names unit) (unit_parts unit) l at.field at.members

module _ (unit : Source) (p : Program) (is : IsAccepted unit p) where
  abbrev all : List Part
  all = unit_parts unit

  abbrev t : Tables
  t = tables (names unit) unit.classes

  -- the initialisers of a class's fields
  pub record HasFields (ss : List Signature) (c : ℕ) (next : Next) (k : ClassDecl) : Type 0 where
    pub stands : ClassStands (unit_parts unit) k.members
    pub typed : AllTyped p (names unit) (unit_parts unit) (place (world unit.classes) ss c k) next.field k.members

  abbrev pub AllHaveFields : List Signature → ℕ → Next → List ClassDecl → Type 0
  AllHaveFields ss c next [] = Unit {0}
  AllHaveFields ss c next (k ∷ ks) = HasFields ss c next k × AllHaveFields ss (c + 1) (next_behind next k) ks

  classes_have : (start lo hi : ℕ) (ps : List (Option ℕ)) (ss : List Signature) (c : ℕ) (next : Next) (ks : List ClassDecl) (before : List Field) → IsNext next ks → p.fields ≡ before ++ fields_of (names unit) c ks → length before ≡ next.field
      → ClassesSay (Agrees (names unit) all) (world unit.classes) ps ss c next.field ks → each_true (λ (k : ClassDecl). each_true is_written_member k.members) ks ≡ true
      → LaidOut start lo hi (row (map class_piece ks)) → AllOf (IsAmong all) (together (each class_parts ks)) → is_readable ks ≡ true → AllHaveFields ss c next ks
  classes_have start lo hi ps ss c next [] before go e count says wr laid among readable = tt
  classes_have start lo hi ps ss c next (k ∷ ks) before go e count says wr laid among readable =
      let w = and_parts (each_true is_written_member k.members) (each_true (λ (k : ClassDecl). each_true is_written_member k.members) ks) wr in
      let r = and_parts (each_true is_readable_member k.members) (is_readable ks) readable in
      let a = all_split (IsAmong all) (class_parts k) (together (each class_parts ks)) among in
      let own = fields_of_class (names unit) c k.members in
      let later = fields_of (names unit) (c + 1) ks in
      let few : next.field + field_count k.members ≤ most_counted = (let f = go.fields in omega (arith, f)) in
      let joined = length-append before own in
      let counted = next_counts (names unit) all p next.field c k.members in
      let long : length (before ++ own) ≡ members.next_fields next.field k.members = omega (arith, joined, counted, count) in
      let same : members.next_fields next.field k.members ≡ (next_behind next k).field = (let g = (goes next k ks go).field in let f = (fields_counted (names unit) c k.members).0 in omega (arith, counted, g, f)) in (
        record {
          stands = class_stands all start lo hi k ks laid a.0 r.0;
          typed = members_typed unit p is (place (world unit.classes) ss c k) (member_named k.members) 0 c next.field k.members before later refl e count few says.0.members w.0;
        },
        classes_have start k.span.to hi ps ss (c + 1) (next_behind next k) ks (before ++ own) (goes_on next k ks go) (e ∙ sym (append_assoc before own later)) (long ∙ same)
            (subst (λ n. ClassesSay (Agrees (names unit) all) (world unit.classes) ps ss (c + 1) n ks) same says.1) w.1 laid.3 a.1 r.1,
      )

  -- The initialisers of all classes stand beside the methods, and fit.
  pub all_have_fields : (end : ℕ) → Placed end unit → is_readable unit.classes ≡ true → AllHaveFields (members.methods unit.classes) 0 (first_numbers unit.classes) unit.classes
  all_have_fields end placed readable =
      classes_have 0 0 end (parents unit.classes) (members.methods unit.classes) 0 (first_numbers unit.classes) unit.classes [] (numbers_go unit p is) (fields_are_all unit p is) refl (said unit p is) is.written placed
      (all_among [] all is.can.short).1 readable

  -- ---- around each method

  around_each : (l : Place) (at : Home) (ds : List MethodDecl) → AllTyped p (names unit) all l at.field at.members → AllOf (λ (d : MethodDecl). AllStand all (Beside d.span) at.members) ds → AllOf (IsSound all) ds → AllOf (IsMember unit p l at) ds
  around_each l at [] typed beside sound = tt
  around_each l at (d ∷ ds) typed beside sound = (record { sound = sound.0; stand = beside.0; typed = typed }, around_each l at ds typed beside.1 sound.1)

  around : (ss : List Signature) (c : ℕ) (next : Next) (ks : List ClassDecl) → AllHaveFields ss c next ks → AllOf (IsSound all) (all_methods ks) → AreSo unit p is (IsMember unit p) t refl ss c next ks
  around ss c next [] have sound = tt
  around ss c next (k ∷ ks) have sound =
      let s = all_split (IsSound all) (methods_of k.members) (all_methods ks) sound in (
        around_each (place (world unit.classes) ss c k) (home t next k) (methods_of k.members) have.0.typed have.0.stands.beside s.0,
        around ss (c + 1) (next_behind next k) ks have.1 s.1,
      )

  -- What is so of each method of the source.
  pub members_are : (end : ℕ) → Placed end unit → is_readable unit.classes ≡ true → AreSo unit p is (IsMember unit p) t refl (members.methods unit.classes) 0 (first_numbers unit.classes) unit.classes
  members_are end placed readable =
      around (members.methods unit.classes) 0 (first_numbers unit.classes) unit.classes (all_have_fields end placed readable) (methods_sound unit end is.can placed readable (is_small unit p is).params)
