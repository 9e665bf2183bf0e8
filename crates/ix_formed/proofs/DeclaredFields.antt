-- The fields of the program are the instance fields of the source.
use Rattle.std.proofs.Common.{◌≡◌, ◌<◌, ℕ, ◌+◌, ℤ, Bool, true, false, List, [], ◌∷◌, ◌++◌, length, Option, Some, None, refl, sym, ap, subst, ◌∙◌, arith, append_assoc, length-append}
use Rattle.std.specs.Prelude.{if◌then◌else◌, ◌&&◌, not, slice_get, unwrap_or, option_map, is_some}
use Rattle.std.specs.Option.{option_and_then}
use Rattle.std.proofs.lemmas.Bool.{false≢true, and_parts}
use Rattle.ix_core.specs.declared.claim.Type_.{Type_}
use Rattle.ix_core.specs.declared.program.Field.{Field}
use Rattle.ix_core.specs.declared.program.Program.{Program}
use Rattle.ix_core.specs.Machine.{is_int}
use Rattle.ix_core.specs.Tables.{field_at, no_field}
use Rattle.ix_core.proofs.Cases.{by_test}
use Rattle.ix_tree.specs.declared.decl.ClassDecl.{ClassDecl}
use Rattle.ix_tree.specs.declared.decl.LocalDecl.{LocalDecl}
use Rattle.ix_tree.specs.declared.decl.Member.{Member}
use Rattle.ix_tree.specs.declared.decl.Member.TheVariants as member
use Rattle.ix_tree.specs.Parts.{Part}
use Rattle.ix_meaning.specs.declared.members.Field.{Field as Known}
use Rattle.ix_meaning.specs.declared.members.Signature.{Signature}
use Rattle.ix_meaning.specs.declared.note.Meaning.{Meaning}
use Rattle.ix_meaning.specs.declared.note.Meaning.TheVariants.{FieldNamed, Constant}
use Rattle.ix_meaning.specs.declared.note.Note.{Note}
use Rattle.ix_meaning.specs.declared.note.NameError.{NameError}
use Rattle.ix_meaning.specs.declared.note.Rule.TheVariants as rule
use Rattle.ix_meaning.specs.Annotated.{written, element_claims, target_before, of_variable}
use Rattle.ix_meaning.specs.Bodies.{declares_note}
use Rattle.ix_meaning.specs.Inheritance.{hides}
use Rattle.ix_meaning.specs.Members as members
use Rattle.ix_meaning.specs.Members.{World, field_type, constant, is_int_type, literal}
use Rattle.ix_meaning.specs.Resolved.{Names}
use Rattle.ix_meaning.specs.Rules.{duplicate_name}
use Rattle.ix_meaning.specs.Source as source
use Rattle.ix_meaning.specs.Source.{Place, place}
use Rattle.ix_meaning.specs.Types.{wrong_if}
use Rattle.ix_meaning.specs.Declarators as declarators
use Rattle.ix_plain.specs.Members.{field_of}
use Rattle.ix_formed.proofs.FurtherDeclarators.{fields_same, written_members}
use Rattle.ix_plain.specs.Scope.{declared_type}
use Rattle.ix_formed.specs.Additions.{AllOf}
use Rattle.ix_formed.specs.NoErrors.{Agrees, Say, AllSay, ClassesSay}
use Rattle.ix_formed.specs.Shape.{own_field, fields_of_class, fields_of}
use Rattle.ix_formed.specs.Written.{is_written_type, is_written_init, is_written_decl, is_written_member, each_true, maybe_true}
use Rattle.ix_formed.proofs.ClaimsFit.{Whenever}
use Rattle.ix_formed.proofs.Constants.{literal_is_int}
use Rattle.ix_formed.proofs.EachMember.{said_parts, not_broken, type_known}
use Rattle.ix_formed.proofs.NumberLists.{all_joined}

module _ (names : Names) (parts : List Part) where
  abbrev pub Says : List Note → Type 0
  Says notes = Say (Agrees names parts) notes

  no_error : (error : NameError) → ⊥ → ⊥
  no_error error wrong = wrong

  -- a written constant is an int
  constant_is_int : (d : LocalDecl) → is_written_decl d ≡ true → Whenever (λ n. is_int n ≡ true) (constant d)
  constant_is_int d w = final_or_not (d.mods.is_final && is_int_type d.ty) (and_parts (is_written_type d.ty) (maybe_true is_written_init d.init) w).1
    where
      initialised : (o : _) → maybe_true is_written_init o ≡ true → Whenever (λ n. is_int n ≡ true) (option_and_then literal o)
      initialised None w = tt
      initialised (Some i) w = literal_is_int i w

      final_or_not : (b : Bool) → maybe_true is_written_init d.init ≡ true → Whenever (λ n. is_int n ≡ true) (if b then option_and_then literal d.init else None)
      final_or_not true w = initialised d.init w
      final_or_not false w = tt

  -- what the notes of a field say of its type and its meaning
  pub field_typed : (l : Place) (f : Known) (d : LocalDecl) (ty : Type_) → f.ty ≡ Some ty → Says (source.field_notes l f d)
      → names.declared d.name.span ≡ Some (record { ty = ty; claims = of_variable (if f.is_static then [] else (source.field_declaration l f d).claims) })
  field_typed l f d ty e said =
      let a = said_parts (Agrees names parts) (wrong_if (source.is_refused f) rule.NotStatic d.name.span) _ said in
      let b = said_parts (Agrees names parts) (duplicate_name (hides l.world f) d.name.span) _ a.1 in
      let c = said_parts (Agrees names parts) (source.field_declaration l f d).notes _ b.1 in
      let g = said_parts (Agrees names parts) (declares_note d.name.span f.ty (of_variable (if f.is_static then [] else (source.field_declaration l f d).claims))) _ c.1 in
      (subst (λ (o : Option Type_). Says (declares_note d.name.span o (of_variable (if f.is_static then [] else (source.field_declaration l f d).claims)))) e g.0).0

  -- the type of a field that has no error is known
  pub field_has_type : (l : Place) (c next : ℕ) (d : LocalDecl) → Says (source.field_notes l (members.field_of l.world.class c next d) d) → (ty : Type_) × (field_type l.world.class d ≡ Some ty)
  field_has_type l c next d said =
      let f = members.field_of l.world.class c next d in
      let a = said_parts (Agrees names parts) (wrong_if (source.is_refused f) rule.NotStatic d.name.span) _ said in
      let b = said_parts (Agrees names parts) (duplicate_name (hides l.world f) d.name.span) _ a.1 in
      let g = said_parts (Agrees names parts) (source.field_declaration l f d).notes _ b.1 in
      type_known (Agrees names parts) no_error l.world.class d.ty (if d.mods.is_static then [] else element_claims (target_before d.ty) d.mods.annots) (written_notes d.mods.is_static g.0)
    where
      written_notes : (b : Bool) → Says (if b then Rattle.ix_meaning.specs.Annotated.static_field l.world.class d.mods.annots d.ty
          else Rattle.ix_meaning.specs.Annotated.variable l.world.class (Rattle.ix_meaning.specs.Scope.annot_names (source.member_scope l true)
          (Some (Rattle.ix_core.specs.declared.claim.Name.TheVariants.FieldNamed (source.field_number (members.field_of l.world.class c next d).meaning))) None) d.mods.annots d.ty).notes → Says (written l.world.class d.ty []).notes
      written_notes true said = (said_parts (Agrees names parts) (written l.world.class d.ty []).notes _ said).0
      written_notes false said = (said_parts (Agrees names parts) (written l.world.class d.ty []).notes _ said).0

  module _ (p : Program) where
    -- what a field of the source is in the program
    abbrev pub MeansField : Known → Option Meaning → Type 0
    MeansField f (Some (FieldNamed k)) = (k < length p.fields) × ((field_at p k).class ≡ f.class) × (f.ty ≡ Some (field_at p k).ty) × ((field_at p k).is_final ≡ f.is_final) × (f.is_static ≡ false)
    MeansField f (Some (Constant n)) = (is_int n ≡ true) × ((ty : Type_) × (f.ty ≡ Some ty)) × (f.is_static ≡ true)
    MeansField f None = ⊥
    MeansField f _ = Unit {0}

    abbrev pub IsField : Known → Type 0
    IsField f = MeansField f f.meaning

    pub get_behind : (before : List Field) (x : Field) (later : List Field) → slice_get (before ++ x ∷ later) (length before) ≡ Some x
    get_behind [] x later = refl
    get_behind (y ∷ before) x later = get_behind before x later

    static_field_is : (l : Place) (c next : ℕ) (d : LocalDecl) → is_written_decl d ≡ true → d.mods.is_static ≡ true → Says (source.field_notes l (members.field_of l.world.class c next d) d)
        → IsField (members.field_of l.world.class c next d)
    static_field_is l c next d w static said =
        let f = members.field_of l.world.class c next d in
        let meaning : f.meaning ≡ option_map (λ n. Constant n) (constant d) = ap (λ b. if b then option_map (λ n. Constant n) (constant d) else Some (FieldNamed next)) static in
        let refused = not_broken (Agrees names parts) no_error (source.is_refused f) rule.NotStatic d.name.span (said_parts (Agrees names parts) (wrong_if (source.is_refused f) rule.NotStatic d.name.span) _ said).0 in
        let some : is_some (option_map (λ n. Constant n) (constant d)) ≡ true = is_some_constant (constant d) (sym (ap (λ b. b && not (is_some f.meaning)) static ∙ ap (λ o. not (is_some o)) meaning) ∙ refused) in
        subst (MeansField f) (sym meaning) (by_constant (constant d) (constant_is_int d w) some)
      where
        is_some_constant : (o : Option ℤ) → not (is_some (option_map (λ n. Constant n) o)) ≡ false → is_some (option_map (λ n. Constant n) o) ≡ true
        is_some_constant None e = absurd (false≢true (sym e))
        is_some_constant (Some n) e = refl

        by_constant : (o : Option ℤ) → Whenever (λ n. is_int n ≡ true) o → is_some (option_map (λ n. Constant n) o) ≡ true → MeansField (members.field_of l.world.class c next d) (option_map (λ n. Constant n) o)
        by_constant None int some = absurd (false≢true some)
        by_constant (Some n) int some = (int, field_has_type l c next d said, static)

    pub instance_field_is : (l : Place) (c next : ℕ) (d : LocalDecl) (before later : List Field) → l.class ≡ c → d.mods.is_static ≡ false → p.fields ≡ before ++ field_of names c d ∷ later → length before ≡ next
        → Says (source.field_notes l (members.field_of l.world.class c next d) d) → IsField (members.field_of l.world.class c next d)
    instance_field_is l c next d before later class static e count said =
        let f = members.field_of l.world.class c next d in
        let meaning : f.meaning ≡ Some (FieldNamed next) = ap (λ b. if b then option_map (λ n. Constant n) (constant d) else Some (FieldNamed next)) static in
        let typed = field_has_type l c next d said in
        let table = field_typed l f d typed.0 typed.1 said in
        let here : field_at p next ≡ field_of names c d =
        ap (λ n. unwrap_or (slice_get p.fields n) no_field) (sym count) ∙ ap (λ (l : List Field). unwrap_or (slice_get l (length before)) no_field) e ∙ ap (λ (o : Option Field). unwrap_or o no_field) (get_behind before (field_of names c d) later) in
        let long = ap (λ (l : List Field). length l) e in
        let more = length-append before (field_of names c d ∷ later) in
        let ty : (field_at p next).ty ≡ typed.0 = ap (λ (x : Field). x.ty) here ∙ ap declared_type table in
        subst (MeansField f) (sym meaning)
        (omega (arith, long, more, count), ap (λ (x : Field). x.class) here, typed.1 ∙ ap (λ t. Some t) (sym ty), ap (λ (x : Field). x.is_final) here, static)

    fields_in_class : (l : Place) (named : List ℕ → Option ℕ) (i c next : ℕ) (ms : List Member) (before later : List Field) → l.class ≡ c → p.fields ≡ before ++ (fields_of_class names c ms ++ later) → length before ≡ next
        → AllSay (Agrees names parts) l named i next ms → each_true is_written_member ms ≡ true → AllOf IsField (members.fields_in l.world.class c next ms)
    fields_in_class l named i c next [] before later class e count said w = tt
    fields_in_class l named i c next (member.Method m ∷ ms) before later class e count said w =
        fields_in_class l named (i + 1) c next ms before later class e count said.2 (and_parts (is_written_member (member.Method m)) (each_true is_written_member ms) w).1
    fields_in_class l named i c next (member.Field d ∷ ms) before later class e count said w =
        let parts_w = and_parts (is_written_decl d) (each_true is_written_member ms) w in
        let own : Says (source.field_notes l (members.field_of l.world.class c next d) d) = subst (λ n. Says (source.field_notes l (members.field_of l.world.class n next d) d)) class said.1 in
        by_test d.mods.is_static
        (λ t.
        let none : own_field names c d ≡ [] = ap (λ b. if b then [] else field_of names c d ∷ []) t in
        let stays : members.next_field next d ≡ next = ap (λ b. if b then next else next + 1) t in (
          static_field_is l c next d parts_w.0 t own,
          fields_in_class l named (i + 1) c (members.next_field next d) ms before later class
              (e ∙ ap (λ (x : List Field). before ++ ((x ++ fields_of_class names c ms) ++ later)) none) (count ∙ sym stays) said.2 parts_w.1,
        ))
        (λ f.
        let one : own_field names c d ≡ field_of names c d ∷ [] = ap (λ b. if b then [] else field_of names c d ∷ []) f in
        let up : members.next_field next d ≡ next + 1 = ap (λ b. if b then next else next + 1) f in
        let all : p.fields ≡ before ++ field_of names c d ∷ (fields_of_class names c ms ++ later) = e ∙ ap (λ (x : List Field). before ++ ((x ++ fields_of_class names c ms) ++ later)) one in (
          instance_field_is l c next d before (fields_of_class names c ms ++ later) class f all count own,
          fields_in_class l named (i + 1) c (members.next_field next d) ms (before ++ field_of names c d ∷ []) later class
              (all ∙ sym (append_assoc before (field_of names c d ∷ []) (fields_of_class names c ms ++ later)))
              (let a = length-append before (field_of names c d ∷ []) in omega (arith, a, count, up)) said.2 parts_w.1,
        ))

    -- the number of the next field is that of those before
    pub next_counts : (next : ℕ) (c : ℕ) (ms : List Member) → members.next_fields next ms ≡ next + length (fields_of_class names c ms)
    next_counts next c [] = omega arith
    next_counts next c (member.Method m ∷ ms) = next_counts next c ms
    next_counts next c (member.Field d ∷ ms) =
        by_test d.mods.is_static
        (λ t. let none : own_field names c d ≡ [] = ap (λ b. if b then [] else field_of names c d ∷ []) t in
        let stays : members.next_field next d ≡ next = ap (λ b. if b then next else next + 1) t in
        let rest = next_counts (members.next_field next d) c ms in
        let l = ap (λ (x : List Field). length (x ++ fields_of_class names c ms)) none in omega (arith, rest, stays, l))
        (λ f. let one : own_field names c d ≡ field_of names c d ∷ [] = ap (λ b. if b then [] else field_of names c d ∷ []) f in
        let up : members.next_field next d ≡ next + 1 = ap (λ b. if b then next else next + 1) f in
        let rest = next_counts (members.next_field next d) c ms in
        let l = ap (λ (x : List Field). length (x ++ fields_of_class names c ms)) one in omega (arith, rest, up, l))

    fields_from_is : (w : World) (ps : List (Option ℕ)) (ss : List Signature) (c next : ℕ) (ks : List ClassDecl) (before : List Field) → p.fields ≡ before ++ fields_of names c ks → length before ≡ next
        → ClassesSay (Agrees names parts) w ps ss c next ks → each_true (λ (k : ClassDecl). each_true is_written_member k.members) ks ≡ true → AllOf IsField (members.fields_from w.class c next ks)
    fields_from_is w ps ss c next [] before e count said wr = tt
    fields_from_is w ps ss c next (k ∷ ks) before e count said wr =
        let parts_w = and_parts (each_true is_written_member k.members) (each_true (λ (k : ClassDecl). each_true is_written_member k.members) ks) wr in
        let own = fields_of_class names c k.members in
        let all = e ∙ ap (λ (l : List Field). before ++ (l ++ fields_of names (c + 1) ks)) (sym (fields_same names c None k.members)) in
        all_joined IsField (members.fields_in w.class c next (declarators.members k.members)) (members.fields_from w.class (c + 1) (members.next_fields next k.members) ks)
        (fields_in_class (place w ss c k) (source.member_named k.members) 0 c next (declarators.members k.members) before (fields_of names (c + 1) ks) refl all count said.0.fields
        (written_members None k.members parts_w.0))
        (fields_from_is w ps ss (c + 1) (members.next_fields next k.members) ks (before ++ own) (e ∙ sym (append_assoc before own (fields_of names (c + 1) ks)))
        (let a = length-append before own in let b = next_counts next c k.members in omega (arith, a, b, count)) said.1 parts_w.1)

    -- Each field of the source is the program's field of its number, or a constant.
    pub all_fields_are : (decls : List ClassDecl) → p.fields ≡ fields_of names 0 decls → ClassesSay (Agrees names parts) (members.world decls) (Rattle.ix_meaning.specs.Classes.parents decls) (members.methods decls) 0 0 decls
        → each_true (λ (k : ClassDecl). each_true is_written_member k.members) decls ≡ true → AllOf IsField (members.fields decls)
    all_fields_are decls e said w = fields_from_is (members.world decls) (Rattle.ix_meaning.specs.Classes.parents decls) (members.methods decls) 0 0 decls [] e refl said w
