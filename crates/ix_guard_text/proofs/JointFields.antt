-- A further field of a declaration says what it would say by itself, where nothing is wrong.
use Rattle.std.proofs.Common.{◌≡◌, ℕ, ◌+◌, Bool, true, false, List, [], ◌∷◌, ◌++◌, Option, Some, None, refl, sym, ap, ap₂, ◌∙◌, subst}
use Rattle.std.specs.Prelude.{if◌then◌else◌, nat_lt, not, ◌||◌, ◌==◌}
use Rattle.std.proofs.lemmas.Bool.{false≢true}
use Rattle.ix_core.specs.declared.claim.Claim.{Claim}
use Rattle.ix_core.specs.declared.claim.Name.TheVariants as name
use Rattle.ix_core.specs.declared.claim.Type_.{Type_}
use Rattle.ix_core.proofs.Cases.{by_test}
use Rattle.ix_tree.specs.declared.annot.Annot.{Annot}
use Rattle.ix_tree.specs.declared.annot.Mods.{Mods}
use Rattle.ix_tree.specs.declared.annot.TypeTree.{TypeTree}
use Rattle.ix_tree.specs.declared.decl.LocalDecl.{LocalDecl}
use Rattle.ix_tree.specs.declared.decl.Member.{Member}
use Rattle.ix_tree.specs.declared.decl.Member.TheVariants as member
use Rattle.ix_annot.specs.declared.scope.Target.{Target}
use Rattle.ix_annot.specs.declared.scope.Target.TheVariants as on
use Rattle.ix_annot.specs.Named.{Names}
use Rattle.ix_core.specs.SameClaims.{distinct}
use Rattle.ix_meaning.specs.declared.members.Field.{Field}
use Rattle.ix_meaning.specs.declared.note.Note.{Note}
use Rattle.ix_meaning.specs.declared.note.Rule.TheVariants as rule
use Rattle.ix_meaning.specs.Annotated.{Declaration, given, aimed, names_nothing, written, is_element, unless, is_int_tree, target_before, declaration, static_field, variable, of_variable}
use Rattle.ix_meaning.specs.Bodies.{declares_note, init_notes}
use Rattle.ix_meaning.specs.Declarators.{counting, counting_behind, with_annots, further, is_further, field_in, first_of, members_behind}
use Rattle.ix_meaning.specs.Members.{ClassOf, field_type, field_of, next_field, fields_in}
use Rattle.ix_meaning.specs.Rules.{duplicate_name}
use Rattle.ix_meaning.specs.Scope.{annot_names}
use Rattle.ix_meaning.specs.Source as source
use Rattle.ix_meaning.specs.Source.{Place, member_scope, field_declaration, field_notes, is_taken, named_member, member_notes}
use Rattle.ix_meaning.specs.Types.{wrong_if}
use Rattle.ix_meaning.specs.Inheritance.{hides}
use Rattle.ix_formed.specs.Additions.{AllOf}
use Rattle.ix_formed.specs.NoErrors.{IsClean}
use Rattle.ix_formed.specs.Written.{is_empty, is_written_type}
use Rattle.ix_formed.proofs.CleanNotes.{clean_parts}
use Rattle.ix_formed.proofs.NumberLists.{all_joined}
use Rattle.ix_guard_text.specs.Joint.{SharesWith, AllShare}
use Rattle.ix_guard_text.proofs.UncountedAnnots.{is_variable}
use Rattle.ix_guard_text.proofs.CountedAnnots.{Clean, claims_counted, counting_clean, AllSettled, settled, clean_again, no_notes}

-- ---- the annotations of a further field, where it has those of the first one

-- without the annotations that count no claim
abbrev pub trimmed_type : TypeTree → TypeTree
trimmed_type ty = record ty { annots = counting ty.annots }

abbrev pub trimmed : LocalDecl → LocalDecl
trimmed d = record d { mods = record d.mods { annots = counting d.mods.annots }; ty = trimmed_type d.ty }

behind_is : (ty : TypeTree) → is_written_type ty ≡ true → (if nat_lt 0 ty.depth then counting ty.annots else []) ≡ counting ty.annots
behind_is ty w = by (nat_lt 0 ty.depth) ty.annots w
  where
    by : (b : Bool) (annots : List Annot) → (is_empty annots || b) ≡ true → (if b then counting annots else []) ≡ counting annots
    by true annots w = refl
    by false [] w = refl
    by false (a ∷ annots) w = absurd (false≢true w)

further_is : (first d : LocalDecl) → first.mods ≡ d.mods → first.ty ≡ d.ty → is_written_type d.ty ≡ true → further first d ≡ trimmed d
further_is first d m t w =
    ap₂ (λ (mods : Mods) (ty : TypeTree). with_annots (counting mods.annots) (if nat_lt 0 d.ty.depth then counting ty.annots else []) d) m t
    ∙ ap (λ (annots : List Annot). with_annots (counting d.mods.annots) annots d) (behind_is d.ty w)

abbrev field_by : Bool → LocalDecl → LocalDecl → LocalDecl
field_by b first d = with_annots (if b then counting first.mods.annots else d.mods.annots) (if b then counting_behind first d else d.ty.annots) d

-- What a further field is: itself without those annotations, or a field that begins a declaration.
pub trimmed_or_not : {G : Type 0} (first : Option LocalDecl) (d : LocalDecl) → SharesWith first d → is_written_type d.ty ≡ true
    → ((x : LocalDecl) → first ≡ Some x → (x.mods ≡ d.mods) → (x.ty ≡ d.ty) → field_in first d ≡ trimmed d → first_of first d ≡ x → G) → (field_in first d ≡ d → first_of first d ≡ d → G) → G
trimmed_or_not None d shares w then_so else_so = else_so refl refl
trimmed_or_not (Some x) d shares w then_so else_so =
    by_test (is_further (Some x) d)
    (λ t. let same = shares t in then_so x refl same.0 same.1 (ap (λ b. field_by b x d) t ∙ further_is x d same.0 same.1 w) (ap (λ b. if b then x else d) t))
    (λ f. else_so (ap (λ b. field_by b x d) f) (ap (λ b. if b then x else d) f))

-- ---- declarations

abbrev pub first_target : LocalDecl → Target
first_target d = if d.mods.is_static then on.Other else target_before d.ty

abbrev pub second_target : LocalDecl → Target
second_target d = if d.mods.is_static then on.Other else on.Array

before_is_variable : (ty : TypeTree) → is_variable (target_before ty) ≡ true
before_is_variable ty = by (is_int_tree ty.base) (ty.depth == 0)
  where
    by : (a b : Bool) → is_variable (if a then (if b then on.Int else on.Element) else on.Other) ≡ true
    by true true = refl
    by true false = refl
    by false b = refl

abbrev pub Fine : Target → Target → List Annot → TypeTree → Type 0
Fine first second before ty = AllSettled first before × AllSettled second ty.annots

module _ (class : ClassOf) (names : Names) (first second : Target) (one : is_variable first ≡ true) (two : is_variable second ≡ true) (before : List Annot) (ty : TypeTree) where
  abbrev whole : Declaration
  whole = declaration class names first second before ty

  abbrev part : Declaration
  part = declaration class names first second (counting before) (trimmed_type ty)

  claims_trimmed : part.claims ≡ whole.claims
  claims_trimmed =
      ap₂ (λ (cs : List Claim) (ds : List Claim). distinct (unless (is_element first) cs ++ ds)) (claims_counted (aimed names first) one before) (claims_counted (aimed names second) two ty.annots)

  abbrev parts_of_whole : AllOf IsClean whole.notes → AllOf IsClean (written class ty []).notes × Clean (aimed names first) before × Clean (aimed names second) ty.annots
  parts_of_whole clean =
      let a = clean_parts (written class ty []).notes ((given (aimed names first) before).notes ++ (given (aimed names second) ty.annots).notes) clean in
      let b = clean_parts (given (aimed names first) before).notes (given (aimed names second) ty.annots).notes a.1 in
      (a.0, b.0, b.1)

  notes_trimmed : AllOf IsClean whole.notes → part.notes ≡ whole.notes
  notes_trimmed clean =
      let p = parts_of_whole clean in
      let (w, a, b) = p in
      ap₂ (λ (xs : List Note) (ys : List Note). (written class ty []).notes ++ (xs ++ ys))
      (no_notes (aimed names first) (counting before) (counting_clean (aimed names first) before a) ∙ sym (no_notes (aimed names first) before a))
      (no_notes (aimed names second) (counting ty.annots) (counting_clean (aimed names second) ty.annots b) ∙ sym (no_notes (aimed names second) ty.annots b))

  fine_whole : AllOf IsClean whole.notes → Fine first second before ty
  fine_whole clean = let (w, a, b) = parts_of_whole clean in (settled (aimed names first) one before a, settled (aimed names second) two ty.annots b)

  whole_clean : Fine first second before ty → AllOf IsClean part.notes → AllOf IsClean whole.notes
  whole_clean fine clean =
      let a = clean_parts (written class ty []).notes ((given (aimed names first) (counting before)).notes ++ (given (aimed names second) (counting ty.annots)).notes) clean in
      let b = clean_parts (given (aimed names first) (counting before)).notes (given (aimed names second) (counting ty.annots)).notes a.1 in
      all_joined IsClean (written class ty []).notes ((given (aimed names first) before).notes ++ (given (aimed names second) ty.annots).notes) a.0
      (all_joined IsClean (given (aimed names first) before).notes (given (aimed names second) ty.annots).notes (clean_again (aimed names first) one before fine.0 b.0) (clean_again (aimed names second) two ty.annots fine.1 b.1))

-- what a declaration and the one without those annotations have in common
record Trims (part whole : Declaration) (first second : Target) (d : LocalDecl) : Type 0 where
  pub claims : part.claims ≡ whole.claims
  pub notes : AllOf IsClean whole.notes → part.notes ≡ whole.notes
  pub fine : AllOf IsClean whole.notes → Fine first second d.mods.annots d.ty
  pub clean : Fine first second d.mods.annots d.ty → AllOf IsClean part.notes → AllOf IsClean whole.notes

trims : (class : ClassOf) (names : Names) (first second : Target) → is_variable first ≡ true → is_variable second ≡ true → (d : LocalDecl)
    → Trims (declaration class names first second (counting d.mods.annots) (trimmed_type d.ty)) (declaration class names first second d.mods.annots d.ty) first second d
trims class names first second one two d = record {
  claims = claims_trimmed class names first second one two d.mods.annots d.ty;
  notes = notes_trimmed class names first second one two d.mods.annots d.ty;
  fine = fine_whole class names first second one two d.mods.annots d.ty;
  clean = whole_clean class names first second one two d.mods.annots d.ty;
}

field_trims : (l : Place) (f : Field) (d : LocalDecl) → f.is_static ≡ d.mods.is_static → Trims (field_declaration l f (trimmed d)) (field_declaration l f d) (first_target d) (second_target d) d
field_trims l f d same =
    subst (λ b. Trims (field_declaration l f (trimmed d)) (field_declaration l f d) (if b then on.Other else target_before d.ty) (if b then on.Other else on.Array) d) same (by f.is_static)
  where
    by : (b : Bool) → Trims
        (if b then static_field l.world.class (counting d.mods.annots) (trimmed_type d.ty)
        else variable l.world.class (annot_names (member_scope l true) (Some (name.FieldNamed (source.field_number f.meaning))) None) (counting d.mods.annots) (trimmed_type d.ty))
        (if b then static_field l.world.class d.mods.annots d.ty else variable l.world.class (annot_names (member_scope l true) (Some (name.FieldNamed (source.field_number f.meaning))) None) d.mods.annots d.ty)
        (if b then on.Other else target_before d.ty) (if b then on.Other else on.Array) d
    by true = trims l.world.class (names_nothing on.Other) on.Other on.Other refl refl d
    by false = trims l.world.class (annot_names (member_scope l true) (Some (name.FieldNamed (source.field_number f.meaning))) None) (target_before d.ty) on.Array (before_is_variable d.ty) refl d

-- ---- fields

type_trimmed : (class : ClassOf) (d : LocalDecl) → field_type class (trimmed d) ≡ field_type class d
type_trimmed class d =
    ap (λ (cs : List Claim). (written class d.ty (if d.mods.is_static then [] else cs)).ty)
    (ap (λ (cs : List Claim). if is_element (target_before d.ty) then distinct cs else []) (claims_counted (names_nothing (target_before d.ty)) (before_is_variable d.ty) d.mods.annots))

field_trimmed : (class : ClassOf) (c next : ℕ) (d : LocalDecl) → field_of class c next (trimmed d) ≡ field_of class c next d
field_trimmed class c next d = ap (λ (ty : Option Type_). let f : Field = record (field_of class c next d) { ty = ty } in f) (type_trimmed class d)

-- the notes of a field that is declared so
abbrev notes_with : Place → Field → LocalDecl → List Note → List Claim → List Note
notes_with l f d said claims =
    wrong_if (source.is_refused f) rule.NotStatic d.name.span
    ++ (duplicate_name (hides l.world f) d.name.span
    ++ (said
    ++ (declares_note d.name.span f.ty (of_variable (if f.is_static then [] else claims))
    ++ init_notes d.init (member_scope l (not f.is_static)) f.ty)))

notes_trim : (l : Place) (f : Field) (d : LocalDecl) → f.is_static ≡ d.mods.is_static → AllOf IsClean (field_notes l f d) → field_notes l f (trimmed d) ≡ field_notes l f d
notes_trim l f d same clean =
    let t = field_trims l f d same in
    let a = clean_parts (wrong_if (source.is_refused f) rule.NotStatic d.name.span) _ clean in
    let b = clean_parts (duplicate_name (hides l.world f) d.name.span) _ a.1 in
    let c = clean_parts (field_declaration l f d).notes _ b.1 in
    ap₂ (λ (said : List Note) (claims : List Claim). notes_with l f d said claims) (t.notes c.0) t.claims

fine_field : (l : Place) (f : Field) (d : LocalDecl) → f.is_static ≡ d.mods.is_static → AllOf IsClean (field_notes l f d) → Fine (first_target d) (second_target d) d.mods.annots d.ty
fine_field l f d same clean =
    let t = field_trims l f d same in
    let a = clean_parts (wrong_if (source.is_refused f) rule.NotStatic d.name.span) _ clean in
    let b = clean_parts (duplicate_name (hides l.world f) d.name.span) _ a.1 in
    let c = clean_parts (field_declaration l f d).notes _ b.1 in
    t.fine c.0

clean_field : (l : Place) (f : Field) (d : LocalDecl) → f.is_static ≡ d.mods.is_static → Fine (first_target d) (second_target d) d.mods.annots d.ty → AllOf IsClean (field_notes l f (trimmed d))
    → AllOf IsClean (field_notes l f d)
clean_field l f d same fine clean =
    let t = field_trims l f d same in
    let wrong = wrong_if (source.is_refused f) rule.NotStatic d.name.span in
    let double = duplicate_name (hides l.world f) d.name.span in
    let said = (field_declaration l f (trimmed d)).notes in
    let a = clean_parts wrong _ clean in
    let b = clean_parts double _ a.1 in
    let c = clean_parts said _ b.1 in
    let rest : AllOf IsClean (declares_note d.name.span f.ty (of_variable (if f.is_static then [] else (field_declaration l f d).claims)) ++ init_notes d.init (member_scope l (not f.is_static)) f.ty) =
    subst (λ (claims : List Claim). AllOf IsClean (declares_note d.name.span f.ty (of_variable (if f.is_static then [] else claims)) ++ init_notes d.init (member_scope l (not f.is_static)) f.ty)) t.claims c.1 in
    all_joined IsClean wrong _ a.0 (all_joined IsClean double _ b.0 (all_joined IsClean (field_declaration l f d).notes _ (t.clean fine c.0) rest))

-- ---- all members of a class

abbrev FineOf : Mods → TypeTree → Type 0
FineOf mods ty = Fine (if mods.is_static then on.Other else target_before ty) (if mods.is_static then on.Other else on.Array) mods.annots ty

-- Nothing is wrong with what the field says that began the declaration.
abbrev FineFirst : Option LocalDecl → Type 0
FineFirst None = Unit {0}
FineFirst (Some first) = FineOf first.mods first.ty

module _ (l : Place) (named : List ℕ → Option ℕ) where
  abbrev field_named : ℕ → ℕ → LocalDecl → List Note
  field_named i next d = named_member l named i next (member.Field d)

  abbrev double : ℕ → LocalDecl → List Note
  double i d = duplicate_name (is_taken (named d.name.text) i) d.name.span

  trim_one : (i next : ℕ) (d : LocalDecl) → AllOf IsClean (field_named i next d) → field_named i next (trimmed d) ≡ field_named i next d
  trim_one i next d clean =
      let c = clean_parts (double i d) _ clean in
      ap (λ (f : Field). double i d ++ field_notes l f (trimmed d)) (field_trimmed l.world.class l.class next d)
      ∙ ap (λ (ns : List Note). double i d ++ ns) (notes_trim l (field_of l.world.class l.class next d) d refl c.1)

  trim_field : (i next : ℕ) (first : Option LocalDecl) (d : LocalDecl) → SharesWith first d → is_written_type d.ty ≡ true → AllOf IsClean (field_named i next d) → field_named i next (field_in first d) ≡ field_named i next d
  trim_field i next first d shares w clean =
      trimmed_or_not first d shares w (λ x is m t e f. ap (field_named i next) e ∙ trim_one i next d clean) (λ e f. ap (field_named i next) e)

  pub members_trim : (i next : ℕ) (first : Option LocalDecl) (ms : List Member) → AllShare first ms → AllOf IsClean (member_notes l named i next ms)
      → member_notes l named i next (members_behind first ms) ≡ member_notes l named i next ms
  members_trim i next first [] shares clean = refl
  members_trim i next first (member.Field d ∷ ms) shares clean =
      let c = clean_parts (field_named i next d) (member_notes l named (i + 1) (next_field next d) ms) clean in
      ap₂ (λ (xs : List Note) (ys : List Note). xs ++ ys) (trim_field i next first d shares.0 shares.1 c.0) (members_trim (i + 1) (next_field next d) (Some (first_of first d)) ms shares.2 c.1)
  members_trim i next first (member.Method m ∷ ms) shares clean =
      let c = clean_parts (named_member l named i next (member.Method m)) (member_notes l named (i + 1) next ms) clean in
      ap (λ (ys : List Note). named_member l named i next (member.Method m) ++ ys) (members_trim (i + 1) next None ms shares c.1)

  -- one field, by itself, and the field that begins its declaration
  abbrev IsFine : ℕ → ℕ → Option LocalDecl → LocalDecl → Type 0
  IsFine i next first d = AllOf IsClean (field_named i next d) × FineFirst (Some (first_of first d))

  fine_again : (i next : ℕ) (first : Option LocalDecl) (d : LocalDecl) → FineFirst first → AllOf IsClean (field_named i next (field_in first d)) → (x : LocalDecl) → first ≡ Some x → x.mods ≡ d.mods → x.ty ≡ d.ty
      → field_in first d ≡ trimmed d → first_of first d ≡ x → IsFine i next first d
  fine_again i next first d fine clean x is m t e f =
      let fine_x : FineOf x.mods x.ty = subst FineFirst is fine in
      let fine_d : FineOf d.mods d.ty = subst (λ (mods : Mods). FineOf mods d.ty) m (subst (λ (ty : TypeTree). FineOf x.mods ty) t fine_x) in
      let kept : AllOf IsClean (double i d ++ field_notes l (field_of l.world.class l.class next (trimmed d)) (trimmed d)) = subst (λ (y : LocalDecl). AllOf IsClean (field_named i next y)) e clean in
      let c = clean_parts (double i d) _ kept in
      let own : AllOf IsClean (field_notes l (field_of l.world.class l.class next d) (trimmed d)) = subst (λ (y : Field). AllOf IsClean (field_notes l y (trimmed d))) (field_trimmed l.world.class l.class next d) c.1 in
      (all_joined IsClean (double i d) _ c.0 (clean_field l (field_of l.world.class l.class next d) d refl fine_d own), subst (λ (y : LocalDecl). FineOf y.mods y.ty) (sym f) fine_x)

  fine_alone : (i next : ℕ) (first : Option LocalDecl) (d : LocalDecl) → AllOf IsClean (field_named i next (field_in first d)) → field_in first d ≡ d → first_of first d ≡ d → IsFine i next first d
  fine_alone i next first d clean e f =
      let kept : AllOf IsClean (field_named i next d) = subst (λ (y : LocalDecl). AllOf IsClean (field_named i next y)) e clean in
      let c = clean_parts (double i d) _ kept in
      (kept, subst (λ (y : LocalDecl). FineOf y.mods y.ty) (sym f) (fine_field l (field_of l.world.class l.class next d) d refl c.1))

  pub members_clean : (i next : ℕ) (first : Option LocalDecl) (ms : List Member) → FineFirst first → AllShare first ms → AllOf IsClean (member_notes l named i next (members_behind first ms))
      → AllOf IsClean (member_notes l named i next ms)
  members_clean i next first [] fine shares clean = tt
  members_clean i next first (member.Field d ∷ ms) fine shares clean =
      let c = clean_parts (field_named i next (field_in first d)) (member_notes l named (i + 1) (next_field next d) (members_behind (Some (first_of first d)) ms)) clean in
      let here : IsFine i next first d = trimmed_or_not first d shares.0 shares.1 (fine_again i next first d fine c.0) (fine_alone i next first d c.0) in
      all_joined IsClean (field_named i next d) (member_notes l named (i + 1) (next_field next d) ms) here.0 (members_clean (i + 1) (next_field next d) (Some (first_of first d)) ms here.1 shares.2 c.1)
  members_clean i next first (member.Method m ∷ ms) fine shares clean =
      let c = clean_parts (named_member l named i next (member.Method m)) (member_notes l named (i + 1) next (members_behind None ms)) clean in
      all_joined IsClean (named_member l named i next (member.Method m)) (member_notes l named (i + 1) next ms) c.0 (members_clean (i + 1) next None ms tt shares c.1)

pub fields_trim : (class : ClassOf) (c next : ℕ) (first : Option LocalDecl) (ms : List Member) → AllShare first ms → fields_in class c next (members_behind first ms) ≡ fields_in class c next ms
fields_trim class c next first [] shares = refl
fields_trim class c next first (member.Field d ∷ ms) shares =
    ap₂ (λ (f : Field) (fs : List Field). f ∷ fs)
    (trimmed_or_not first d shares.0 shares.1 (λ x is m t e f. ap (field_of class c next) e ∙ field_trimmed class c next d) (λ e f. ap (field_of class c next) e))
    (fields_trim class c (next_field next d) (Some (first_of first d)) ms shares.2)
fields_trim class c next first (member.Method m ∷ ms) shares = fields_trim class c next None ms shares
