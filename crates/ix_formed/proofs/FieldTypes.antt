-- What the initialisers of a class's fields say in an accepted source, and what their fields are in its program.
use Rattle.std.proofs.Common.{◌≡◌, ◌≤◌, ◌<◌, ℕ, ◌+◌, true, false, List, [], ◌∷◌, ◌++◌, length, Option, Some, sym, ap, subst, ◌∙◌, arith, append_assoc, length-append}
use Rattle.std.specs.Prelude.{if◌then◌else◌, not, slice_get, unwrap_or, option_map}
use Rattle.std.proofs.lemmas.Bool.{and_parts}
use Rattle.ix_core.specs.declared.program.Field.{Field}
use Rattle.ix_core.specs.declared.program.Program.{Program}
use Rattle.ix_core.specs.Tables.{field_at, no_field}
use Rattle.ix_core.specs.Types.{is_type}
use Rattle.ix_core.proofs.Cases.{by_test}
use Rattle.ix_tree.specs.declared.annot.Annot.{Annot}
use Rattle.ix_tree.specs.declared.decl.LocalDecl.{LocalDecl}
use Rattle.ix_tree.specs.declared.decl.Member.{Member}
use Rattle.ix_tree.specs.declared.decl.Member.TheVariants as member
use Rattle.ix_tree.specs.declared.decl.Unit.{Unit as Source}
use Rattle.ix_tree.specs.declared.expr.Init.{Init}
use Rattle.ix_tree.specs.Parts.{Part, unit_parts}
use Rattle.ix_meaning.specs.declared.note.Meaning.TheVariants.{FieldNamed, Constant}
use Rattle.ix_meaning.specs.declared.note.Rule.TheVariants as rule
use Rattle.ix_meaning.specs.Annotated.{of_variable}
use Rattle.ix_meaning.specs.Bodies.{declares_note, init_notes}
use Rattle.ix_meaning.specs.Inheritance.{hides}
use Rattle.ix_meaning.specs.Members as members
use Rattle.ix_meaning.specs.Members.{constant}
use Rattle.ix_meaning.specs.Resolved.{Names, names}
use Rattle.ix_meaning.specs.Rules.{duplicate_name}
use Rattle.ix_meaning.specs.Source as source
use Rattle.ix_meaning.specs.Source.{Place}
use Rattle.ix_meaning.specs.Types.{wrong_if}
use Rattle.ix_meaning.specs.Values as reading
use Rattle.ix_plain.specs.Counts.{one, most_counted}
use Rattle.ix_meaning.specs.Declarators.{with_annots}
use Rattle.ix_plain.specs.Members.{field_of, next_field}
use Rattle.ix_formed.proofs.FurtherDeclarators.{written_with}
use Rattle.ix_plain.specs.Scope.{declared_type}
use Rattle.ix_formed.specs.NoErrors.{Agrees, MembersSay}
use Rattle.ix_formed.specs.Shape.{own_field, fields_of_class, field_count}
use Rattle.ix_formed.specs.Written.{is_written_type, is_written_init, is_written_decl, is_written_member, each_true, maybe_true}
use Rattle.ix_formed.proofs.AcceptedMembers.{field_real}
use Rattle.ix_formed.proofs.DeclaredFields.{Says, MeansField, get_behind, instance_field_is}
use Rattle.ix_formed.proofs.EachMember.{said_parts}
use Rattle.ix_formed.proofs.FieldsFit.{IsAccepted, fields_do_fit}
use Rattle.ix_formed.proofs.Numbering.{one_more}

module _ (p : Program) (table : Names) (all : List Part) where
  -- the initialiser of a field, by the field's number
  pub record IsTyped (l : Place) (k : ℕ) (d : LocalDecl) (i : Init) : Type 0 where
    pub written : is_written_init i ≡ true
    pub there : k < length p.fields
    pub own : (field_at p k).class ≡ l.class
    pub ty : (field_at p k).ty ≡ declared_type (table.declared d.name.span)
    pub real : is_type p (field_at p k).ty ≡ true
    pub said : Says table all (reading.filling i (source.member_scope l true) (Some (field_at p k).ty))

  -- each initialiser of an instance field, where the first field has that number
  abbrev pub AllTyped : Place → ℕ → List Member → Type 0
  AllTyped l k [] = Unit {0}
  AllTyped l k (member.Field d ∷ ms) = (d.mods.is_static ≡ false → (i : Init) → d.init ≡ Some i → IsTyped l k d i) × AllTyped l (next_field k d) ms
  AllTyped l k (member.Method m ∷ ms) = AllTyped l k ms

module _ (unit : Source) (p : Program) (is : IsAccepted unit p) where
  abbrev table : Names
  table = names unit

  abbrev all : List Part
  all = unit_parts unit

  one_typed : (l : Place) (c k : ℕ) (d : LocalDecl) (before later : List Field) → l.class ≡ c → d.mods.is_static ≡ false → p.fields ≡ before ++ field_of table c d ∷ later → length before ≡ k
      → Says table all (source.field_notes l (members.field_of l.world.class c k d) d) → is_written_decl d ≡ true → (i : Init) → d.init ≡ Some i → IsTyped p table all l k d i
  one_typed l c k d before later class static e count said wr i init =
      let f = members.field_of l.world.class c k d in
      let meaning : f.meaning ≡ Some (FieldNamed k) = ap (λ b. if b then option_map (λ n. Constant n) (constant d) else Some (FieldNamed k)) static in
      let has = subst (MeansField table all p f) meaning (instance_field_is table all p l c k d before later class static e count said) in
      let here : field_at p k ≡ field_of table c d =
      ap (λ n. unwrap_or (slice_get p.fields n) no_field) (sym count) ∙ ap (λ (l : List Field). unwrap_or (slice_get l (length before)) no_field) e ∙ ap (λ (o : Option Field). unwrap_or o no_field) (get_behind table all p before (field_of table c d) later) in
      let claims = if f.is_static then [] else (source.field_declaration l f d).claims in
      let a = said_parts (Agrees table all) (wrong_if (source.is_refused f) rule.NotStatic d.name.span) _ said in
      let b = said_parts (Agrees table all) (duplicate_name (hides l.world f) d.name.span) _ a.1 in
      let g = said_parts (Agrees table all) (source.field_declaration l f d).notes _ b.1 in
      let own = said_parts (Agrees table all) (declares_note d.name.span f.ty (of_variable claims)) _ g.1 in
      let told = subst (λ o. Says table all (init_notes o (source.member_scope l (not d.mods.is_static)) f.ty)) init own.1 in
      let instance = subst (λ b. Says table all (reading.filling i (source.member_scope l (not b)) f.ty)) static told in
      record {
        written = subst (λ o. maybe_true is_written_init o ≡ true) init (and_parts (is_written_type d.ty) (maybe_true is_written_init d.init) wr).1;
        there = has.0;
        own = has.1 ∙ sym class;
        ty = ap (λ (x : Field). x.ty) here;
        real = field_real unit p is 0 p.fields k (fields_do_fit unit p is) has.0;
        said = subst (λ o. Says table all (reading.filling i (source.member_scope l true) o)) has.2 instance;
      }

  -- whatever annotations it has
  with_own : (l : Place) (k : ℕ) (before behind : List Annot) (d : LocalDecl) (init : Init) → IsTyped p table all l k (with_annots before behind d) init → IsTyped p table all l k d init
  with_own l k before behind d init h = record { written = h.written; there = h.there; own = h.own; ty = h.ty; real = h.real; said = h.said }

  -- the members of a class, where the first field has that number
  pub members_typed : (l : Place) (named : List ℕ → Option ℕ) (i c k : ℕ) (ms : List Member) (before later : List Field) → l.class ≡ c → p.fields ≡ before ++ (fields_of_class table c ms ++ later) → length before ≡ k → k + field_count ms ≤ most_counted
      → MembersSay (Agrees table all) l named i k ms → each_true is_written_member ms ≡ true → AllTyped p table all l k ms
  members_typed l named i c k [] before later class e count few said wr = tt
  members_typed l named i c k (member.Method m ∷ ms) before later class e count few said wr =
      members_typed l named (i + 1) c k ms before later class e count few said.2 (and_parts (is_written_member (member.Method m)) (each_true is_written_member ms) wr).1
  members_typed l named i c k (member.Field d ∷ ms) before later class e count few said wr =
      let parts_w = and_parts (is_written_decl d) (each_true is_written_member ms) wr in
      by_test d.mods.is_static
      (λ t.
      let none : own_field table c d ≡ [] = ap (λ b. if b then [] else field_of table c d ∷ []) t in
      let stays : members.next_field k d ≡ k = ap (λ b. if b then k else k + 1) t in
      let same : next_field k d ≡ k = ap (λ b. if b then k else one k) t in
      let counted : ◌≡◌ {A = ℕ} (if d.mods.is_static then 0 else 1) 0 = ap (λ b. if b then 0 else 1) t in (
        (λ free. absurd (no (sym t ∙ free))),
        subst (λ n. AllTyped p table all l n ms) (stays ∙ sym same)
            (members_typed l named (i + 1) c (members.next_field k d) ms before later class (e ∙ ap (λ (x : List Field). before ++ ((x ++ fields_of_class table c ms) ++ later)) none) (count ∙ sym stays)
            (omega (arith, few, stays, counted)) said.2 parts_w.1),
      ))
      (λ f.
      let one_own : own_field table c d ≡ field_of table c d ∷ [] = ap (λ b. if b then [] else field_of table c d ∷ []) f in
      let up : members.next_field k d ≡ k + 1 = ap (λ b. if b then k else k + 1) f in
      let counted : ◌≡◌ {A = ℕ} (if d.mods.is_static then 0 else 1) 1 = ap (λ b. if b then 0 else 1) f in
      let same : next_field k d ≡ k + 1 = ap (λ b. if b then k else one k) f ∙ one_more k (omega (arith, few, counted)) in
      let fields : p.fields ≡ before ++ field_of table c d ∷ (fields_of_class table c ms ++ later) = e ∙ ap (λ (x : List Field). before ++ ((x ++ fields_of_class table c ms) ++ later)) one_own in
      let own = subst (λ n. Says table all (source.field_notes l (members.field_of l.world.class n k (with_annots said.1.0 said.1.1 d)) (with_annots said.1.0 said.1.1 d))) class said.1.3 in (
        (λ free init is_init. with_own l k said.1.0 said.1.1 d init (one_typed l c k (with_annots said.1.0 said.1.1 d) before (fields_of_class table c ms ++ later) class free fields count own (written_with said.1.0 said.1.1 d said.1.2 parts_w.0) init is_init)),
        subst (λ n. AllTyped p table all l n ms) (up ∙ sym same)
            (members_typed l named (i + 1) c (members.next_field k d) ms (before ++ field_of table c d ∷ []) later class
            (fields ∙ sym (append_assoc before (field_of table c d ∷ []) (fields_of_class table c ms ++ later)))
            (let a = length-append before (field_of table c d ∷ []) in omega (arith, a, count, up)) (omega (arith, few, up, counted)) said.2 parts_w.1),
      ))
    where
      no : true ≡ false → ⊥
      no e = cc
