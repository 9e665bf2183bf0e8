-- What all notes of a source are, those of each member are.
use Rattle.std.proofs.Common.{◌≡◌, ℕ, ◌+◌, Bool, true, false, List, [], ◌∷◌, ◌++◌, Option, Some, None, refl}
use Rattle.ix_core.specs.declared.claim.Claim.{Claim}
use Rattle.ix_core.specs.declared.claim.Type_.{Type_}
use Rattle.ix_tree.specs.declared.annot.BaseTree.{BaseTree}
use Rattle.ix_tree.specs.declared.annot.BaseTree.TheVariants as tree
use Rattle.ix_tree.specs.declared.annot.TypeTree.{TypeTree}
use Rattle.ix_tree.specs.declared.decl.ClassDecl.{ClassDecl}
use Rattle.ix_tree.specs.declared.decl.LocalDecl.{LocalDecl}
use Rattle.ix_tree.specs.declared.decl.Member.{Member}
use Rattle.ix_tree.specs.declared.decl.Member.TheVariants as member
use Rattle.ix_text.specs.declared.span.Span.{Span}
use Rattle.ix_meaning.specs.declared.members.Signature.{Signature}
use Rattle.ix_meaning.specs.declared.note.Note.{Note}
use Rattle.ix_meaning.specs.declared.note.Note.TheVariants.{Wrong}
use Rattle.ix_meaning.specs.declared.note.NameError.{NameError}
use Rattle.ix_meaning.specs.declared.note.Rule.{Rule}
use Rattle.ix_meaning.specs.Annotated.{class_use, based, written}
use Rattle.ix_meaning.specs.Classes.{is_cyclic}
use Rattle.ix_meaning.specs.Members.{World, next_member, next_fields}
use Rattle.ix_meaning.specs.Rules.{duplicate_name}
use Rattle.ix_meaning.specs.Source as source
use Rattle.ix_meaning.specs.Source.{Place, place, member_name, member_named, is_taken, one_member, head_notes, default_notes_of, member_notes, class_notes, notes_from}
use Rattle.ix_meaning.specs.Types.{wrong_if}
use Rattle.ix_meaning.specs.Declarators as declared
use Rattle.ix_meaning.specs.Declarators.{annots_before, annots_behind, first_of, members_behind}
use Rattle.ix_formed.specs.NoErrors.{Say, AllSay, MembersSay, ClassesSay}
use Rattle.ix_formed.proofs.FurtherDeclarators.{written_in}

pub said_parts : (So : Note → Type 0) (xs ys : List Note) → Say So (xs ++ ys) → Say So xs × Say So ys
said_parts So [] ys a = (tt, a)
said_parts So (x ∷ xs) ys a = let r = said_parts So xs ys a.1 in ((a.0, r.0), r.1)

module _ (So : Note → Type 0) where
  all_say : (l : Place) (named : List ℕ → Option ℕ) (i next : ℕ) (ms : List Member) → Say So (member_notes l named i next ms) → AllSay So l named i next ms
  all_say l named i next [] said = tt
  all_say l named i next (m ∷ ms) said =
      let a = said_parts So (source.named_member l named i next m) (member_notes l named (i + 1) (next_member next m) ms) said in
      let b = said_parts So (duplicate_name (is_taken (named (member_name m).text) i) (member_name m).span) (one_member l next m) a.0 in
      (b.0, b.1, all_say l named (i + 1) (next_member next m) ms a.1)

  members_say : (l : Place) (named : List ℕ → Option ℕ) (i next : ℕ) (first : Option LocalDecl) (ms : List Member) → AllSay So l named i next (members_behind first ms) → MembersSay So l named i next ms
  members_say l named i next first [] said = tt
  members_say l named i next first (member.Field d ∷ ms) said =
      (said.0, (annots_before first d, annots_behind first d, written_in first d, said.1), members_say l named (i + 1) (next_member next (member.Field d)) (Some (first_of first d)) ms said.2)
  members_say l named i next first (member.Method m ∷ ms) said = (said.0, said.1, members_say l named (i + 1) next None ms said.2)

  pub classes_say : (w : World) (ps : List (Option ℕ)) (ms : List Signature) (c next : ℕ) (ks : List ClassDecl) → Say So (notes_from w ps ms c next ks) → ClassesSay So w ps ms c next ks
  classes_say w ps ms c next [] said = tt
  classes_say w ps ms c next (k ∷ ks) said =
      let a = said_parts So (class_notes w ps ms c next k) (notes_from w ps ms (c + 1) (next_fields next k.members) ks) said in
      let b = said_parts So (head_notes w (is_cyclic ps c) c k) (member_notes (place w ms c k) (member_named k.members) 0 next (declared.members k.members) ++ default_notes_of w c k) a.0 in
      let d = said_parts So (member_notes (place w ms c k) (member_named k.members) 0 next (declared.members k.members)) (default_notes_of w c k) b.1 in
      let each = all_say (place w ms c k) (member_named k.members) 0 next (declared.members k.members) d.0 in
      (record { head = b.0; members = members_say (place w ms c k) (member_named k.members) 0 next None k.members each; fields = each; default = d.1 }, classes_say w ps ms (c + 1) (next_fields next k.members) ks a.1)

  -- ---- where no note is an error

  module _ (no_error : (error : NameError) → So (Wrong error) → ⊥) where
    pub not_broken : (broken : Bool) (r : Rule) (span : Span) → Say So (wrong_if broken r span) → broken ≡ false
    not_broken true r span said = absurd (no_error (record { rule = r; span = span }) said.0)
    not_broken false r span said = refl

    -- a type whose class is known is one
    pub type_known : (class : List ℕ → Option ℕ) (ty : TypeTree) (claims : List Claim) → Say So (written class ty []).notes → (t : Type_) × ((written class ty claims).ty ≡ Some t)
    type_known class ty claims said = by_base ty.base said
      where
        by_class : (o : Option ℕ) (span : Span) → Say So (class_use o ty.depth [] span).notes → (t : Type_) × ((class_use o ty.depth claims span).ty ≡ Some t)
        by_class None span said = absurd (no_error _ said.0)
        by_class (Some c) span said = (_, refl)

        by_base : (of : BaseTree) → Say So (based class of ty.depth []).notes → (t : Type_) × ((based class of ty.depth claims).ty ≡ Some t)
        by_base tree.Int said = (_, refl)
        by_base tree.Boolean said = (_, refl)
        by_base (tree.Named name) said = by_class (class name.text) name.span said
