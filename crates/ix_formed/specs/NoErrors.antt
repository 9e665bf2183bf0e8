-- A source without errors on names: what all its notes say.
use Rattle.std.specs.Prelude.{◌≡◌, ◌≤◌, ℕ, true, ◌+◌, List, [], ◌∷◌, Option, Some}
use Rattle.ix_text.specs.declared.span.Span.{Span}
use Rattle.ix_core.specs.Formed.{one_if}
use Rattle.ix_tree.specs.Parts.{Part, elsewhere}
use Rattle.ix_meaning.specs.declared.note.Note.{Note}
use Rattle.ix_meaning.specs.declared.note.Note.TheVariants.{Use, Typed, Declares, Wrong, WrongAnnot}
use Rattle.ix_tree.specs.declared.decl.ClassDecl.{ClassDecl}
use Rattle.ix_tree.specs.declared.annot.Annot.{Annot}
use Rattle.ix_tree.specs.declared.decl.Member.{Member}
use Rattle.ix_tree.specs.declared.decl.Member.TheVariants.{Field, Method}
use Rattle.ix_meaning.specs.declared.members.Signature.{Signature}
use Rattle.ix_meaning.specs.Classes.{is_cyclic}
use Rattle.ix_meaning.specs.Declarators as declared
use Rattle.ix_meaning.specs.Declarators.{with_annots}
use Rattle.ix_meaning.specs.Members.{World, next_member, next_fields}
use Rattle.ix_meaning.specs.Rules.{duplicate_name}
use Rattle.ix_meaning.specs.Source.{Place, place, member_name, member_named, is_taken, one_member, head_notes, default_notes_of}
use Rattle.ix_formed.specs.Additions.{AllOf}
use Rattle.ix_formed.specs.Written.{is_written_type}
use Rattle.ix_meaning.specs.Listed.{same_span}
use Rattle.ix_meaning.specs.Resolved.{Names}
use Rattle.ix_formed.specs.Weights.{total}

-- The note is no error.
abbrev pub IsClean : Note → Type 0
IsClean (Use span meaning) = Unit {0}
IsClean (Typed span ty) = Unit {0}
IsClean (Declares span declared) = Unit {0}
IsClean (Wrong error) = ⊥
IsClean (WrongAnnot error) = ⊥

-- an identifier outside types stands at that place
abbrev pub named_at : Span → Part → ℕ
named_at span (elsewhere name) = one_if (same_span name.span span)
named_at span _ = 0

-- What the note says the table says, and it is no error; of a use where a name stands outside types.
abbrev pub Agrees : Names → List Part → Note → Type 0
Agrees names parts (Use span m) = 1 ≤ total (named_at span) parts → names.meaning span ≡ Some m
Agrees names parts (Typed span ty) = names.type_of span ≡ Some ty
Agrees names parts (Declares span d) = names.declared span ≡ Some d
Agrees names parts (Wrong error) = ⊥
Agrees names parts (WrongAnnot error) = ⊥

-- ---- what a source says, member by member

-- each note of the list is so
abbrev pub Say : (Note → Type 0) → List Note → Type 0
Say So notes = AllOf So notes

module _ (So : Note → Type 0) where
  -- members from that number on, where the next instance field has that number
  abbrev pub AllSay : Place → (List ℕ → Option ℕ) → ℕ → ℕ → List Member → Type 0
  AllSay l named i next [] = Unit {0}
  AllSay l named i next (m ∷ ms) =
      Say So (duplicate_name (is_taken (named (member_name m).text) i) (member_name m).span) × Say So (one_member l next m) × AllSay l named (i + 1) (next_member next m) ms

  -- A field says so with some annotations: its own, or those of the first of its declaration.
  abbrev pub MemberSays : Place → ℕ → Member → Type 0
  MemberSays l next (Field d) =
      (before : List Annot) × (behind : List Annot) × (is_written_type d.ty ≡ true → is_written_type (with_annots before behind d).ty ≡ true) × Say So (one_member l next (Field (with_annots before behind d)))
  MemberSays l next (Method m) = Say So (one_member l next (Method m))

  abbrev pub MembersSay : Place → (List ℕ → Option ℕ) → ℕ → ℕ → List Member → Type 0
  MembersSay l named i next [] = Unit {0}
  MembersSay l named i next (m ∷ ms) =
      Say So (duplicate_name (is_taken (named (member_name m).text) i) (member_name m).span) × MemberSays l next m × MembersSay l named (i + 1) (next_member next m) ms

  pub record ClassSays (w : World) (ps : List (Option ℕ)) (ms : List Signature) (c next : ℕ) (k : ClassDecl) : Type 0 where
    pub head : Say So (head_notes w (is_cyclic ps c) c k)
    pub members : MembersSay (place w ms c k) (member_named k.members) 0 next k.members
    pub fields : AllSay (place w ms c k) (member_named k.members) 0 next (declared.members k.members)
    pub default : Say So (default_notes_of w c k)

  abbrev pub ClassesSay : World → List (Option ℕ) → List Signature → ℕ → ℕ → List ClassDecl → Type 0
  ClassesSay w ps ms c next [] = Unit {0}
  ClassesSay w ps ms c next (k ∷ ks) = ClassSays w ps ms c next k × ClassesSay w ps ms (c + 1) (next_fields next k.members) ks
