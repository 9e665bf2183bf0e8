-- The fields of an accepted source's program fit: each has a class and a type of the program, and its claims fit.
use Rattle.std.proofs.Common.{◌≡◌, ◌≤◌, ◌<◌, ◌^◌, ℕ, ◌+◌, Bool, true, false, List, [], ◌∷◌, ◌++◌, length, Option, Some, None, Ok, refl, sym, ap, subst, ◌∙◌, arith}
use Rattle.std.specs.Prelude.{if◌then◌else◌, ◌==◌, ◌||◌, ◌&&◌, not}
use Rattle.std.specs.List.{list_all}
use Rattle.std.proofs.lemmas.Bool.{false≢true, and_parts}
use Rattle.ix_core.specs.declared.claim.Name.TheVariants as name
use Rattle.ix_core.specs.declared.program.Class.{Class}
use Rattle.ix_core.specs.declared.program.Field.{Field}
use Rattle.ix_core.specs.declared.program.Program.{Program}
use Rattle.ix_core.specs.Formed.{fields_fit, claim_fits, others, field_type_of_name}
use Rattle.ix_core.specs.Tables.{class_at, field_at, all_fields, is_among, most_on_way}
use Rattle.ix_core.specs.Types.{is_class, is_type, is_below}
use Rattle.ix_core.proofs.Cases.{by_test}
use Rattle.ix_tree.specs.declared.decl.ClassDecl.{ClassDecl}
use Rattle.ix_tree.specs.declared.decl.LocalDecl.{LocalDecl}
use Rattle.ix_tree.specs.declared.decl.Member.{Member}
use Rattle.ix_tree.specs.declared.decl.Member.TheVariants as member
use Rattle.ix_tree.specs.declared.decl.Unit.{Unit as Source}
use Rattle.ix_tree.specs.Parts.{CanResolve, unit_parts}
use Rattle.ix_meaning.specs.declared.members.Signature.{Signature}
use Rattle.ix_meaning.specs.declared.note.Meaning.TheVariants.{FieldNamed, Constant}
use Rattle.ix_meaning.specs.Annotated.{Declaration, variable, written, element_claims, target_before}
use Rattle.ix_meaning.specs.Classes as classes
use Rattle.ix_meaning.specs.Classes.{parents, parent, supers, class_named}
use Rattle.ix_meaning.specs.Members as members
use Rattle.ix_meaning.specs.Members.{World, world}
use Rattle.ix_meaning.specs.Resolved.{names, Accepts}
use Rattle.ix_meaning.specs.Scope.{annot_names}
use Rattle.ix_meaning.specs.Source as source
use Rattle.ix_meaning.specs.Source.{place, members_in, notes}
use Rattle.ix_meaning.specs.Declarators.{with_annots}
use Rattle.ix_plain.specs.Members.{field_of, first_numbers}
use Rattle.ix_formed.proofs.FurtherDeclarators.{written_with}
use Rattle.ix_plain.specs.Scope.{declared_type, declared_claims}
use Rattle.ix_plain.specs.Program as program
use Rattle.ix_formed.specs.Additions.{AllOf}
use Rattle.ix_formed.specs.NoErrors.{Agrees, MembersSay, ClassesSay}
use Rattle.ix_formed.specs.Shape.{IsSmall, HasShape, own_field, fields_of_class, fields_of}
use Rattle.ix_formed.specs.Written.{is_written, is_written_type, is_written_init, is_written_decl, is_written_member, each_true, maybe_true}
use Rattle.ix_formed.proofs.AllMethods.{program_has}
use Rattle.ix_formed.proofs.ClaimsFit.{all_true}
use Rattle.ix_formed.proofs.ClassesHaveWays.{acyclic, few_supers, parent_within, parents_length, parents_same, named_within}
use Rattle.ix_formed.proofs.DeclaredFields.{Says, IsField, MeansField, field_typed, field_has_type, next_counts, all_fields_are}
use Rattle.ix_formed.proofs.DeclaredTypes.{Fit, NamesClasses, declared_is_type, variable_fits}
use Rattle.ix_formed.proofs.EachMember.{classes_say}
use Rattle.ix_formed.proofs.NamesAgree.{notes_agree}
use Rattle.ix_formed.proofs.Numbering.{classes_behind, fields_behind}
use Rattle.ix_formed.proofs.NumberLists.{both_true}
use Rattle.ix_formed.proofs.ProgramsHaveShape.{shape_of, less_is, classes_length}
use Rattle.ix_formed.proofs.ScopesKnow.{scope_knows, this_fits, FieldsAreKnown}
use Rattle.ix_formed.proofs.SmallSources.{small}
use Rattle.ix_formed.proofs.Superclasses.{is_above, above_is_class, has_field}

-- An accepted source, and its program.
pub record IsAccepted (unit : Source) (p : Program) : Type 0 where
  pub can : CanResolve unit
  pub accepts : Accepts unit
  pub written : is_written unit.classes ≡ true
  pub few : members_in unit.classes + 1 < 2 ^ 32
  pub made : program.program (names unit) unit.classes ≡ Ok p

module _ (unit : Source) (p : Program) (is : IsAccepted unit p) where
  abbrev pub decls : List ClassDecl
  decls = unit.classes

  pub is_small : IsSmall unit.classes
  is_small = small unit.classes is.accepts.within (let f = is.few in omega (arith, f))

  pub shape : HasShape p
  shape = shape_of (names unit) unit.classes p is.made is.accepts.within is.few

  pub said : ClassesSay (Agrees (names unit) (unit_parts unit)) (world unit.classes) (parents unit.classes) (members.methods unit.classes) 0 0 unit.classes
  said = classes_say (Agrees (names unit) (unit_parts unit)) (world unit.classes) (parents unit.classes) (members.methods unit.classes) 0 0 unit.classes (notes_agree unit is.can is.accepts)

  pub fields_are_all : p.fields ≡ fields_of (names unit) 0 unit.classes
  fields_are_all = (program_has (names unit) unit.classes p is.made).2 ∙ fields_behind (names unit) [] 0 unit.classes (let a = is_small.classes in omega (arith, a))

  pub fields_known : AllOf (IsField (names unit) (unit_parts unit) p) (members.fields unit.classes)
  fields_known = all_fields_are (names unit) (unit_parts unit) p unit.classes fields_are_all said is.written

  pub class_count : length p.classes ≡ length unit.classes
  class_count =
      ap (λ (l : List Class). length l) ((program_has (names unit) unit.classes p is.made).1 ∙ classes_behind [] (first_numbers unit.classes) (world unit.classes).parent unit.classes)
      ∙ classes_length (first_numbers unit.classes) (world unit.classes).parent unit.classes

  pub parent_count : length (parents unit.classes) ≡ length unit.classes
  parent_count = parents_length (class_named unit.classes) unit.classes

  pub names_classes : NamesClasses p (class_named unit.classes)
  names_classes name number e = let lt = named_within unit.classes name number e in let c = class_count in omega (arith, lt, c)

  pub same_parents : (class : ℕ) → (class_at p class).parent ≡ parent (parents unit.classes) class
  same_parents class = parents_same (names unit) unit.classes p is_small is.made class

  pub no_cycle : (class : ℕ) → class < length (parents unit.classes) → classes.is_cyclic (parents unit.classes) class ≡ false
  no_cycle class lt = acyclic unit is.accepts class (let c = parent_count in omega (arith, lt, c))

  pub parents_there : (class above : ℕ) → parent (parents unit.classes) class ≡ Some above → above < length (parents unit.classes)
  parents_there class above e = let lt = parent_within unit.classes class above e in let c = parent_count in omega (arith, lt, c)

  pub few_above : (class : ℕ) → class < length (parents unit.classes) → 1 + length (supers (parents unit.classes) class) ≤ most_on_way
  few_above class lt = few_supers unit is.accepts class (let c = parent_count in omega (arith, lt, c))

  -- a class, or one of its superclasses
  pub below : (class other : ℕ) → class < length unit.classes → classes.is_among other (class ∷ supers (parents unit.classes) class) ≡ true → is_below p class other ≡ true
  below class other lt e = is_above p (parents unit.classes) same_parents no_cycle parents_there few_above class (let c = parent_count in omega (arith, lt, c)) other e

  pub above_there : (class other : ℕ) → class < length unit.classes → classes.is_among other (class ∷ supers (parents unit.classes) class) ≡ true → other < length unit.classes
  above_there class other lt e =
      let b = above_is_class p (parents unit.classes) same_parents no_cycle parents_there few_above class (let c = parent_count in omega (arith, lt, c)) other e in let c = parent_count in omega (arith, b, c)

  -- an instance field of a class above is one of all fields of the class
  pub inherits : (class field : ℕ) → class < length unit.classes → field < length p.fields → classes.is_among (field_at p field).class (class ∷ supers (parents unit.classes) class) ≡ true → is_among (all_fields p class) field ≡ true
  inherits class field lt there e =
      has_field p (parents unit.classes) same_parents shape.fields class field there
      (let a = above_there class (field_at p field).class lt e in let c = class_count in omega (arith, a, c)) (below class (field_at p field).class lt e)

  -- ---- claims of fields

  not_or : (a b : Bool) → (true && (not a && not b)) ≡ false → (a || b) ≡ true
  not_or true b e = refl
  not_or false true e = refl
  not_or false false e = absurd (false≢true (sym e))

  field_known : (field : Field) (c number : ℕ) → field.class ≡ c → c < length unit.classes
      → FieldsAreKnown (Some (name.FieldNamed number)) (others (name.FieldNamed number) (field_type_of_name p field)) (names unit) (unit_parts unit) p c (c ∷ supers (parents unit.classes) c)
  field_known field c number same lt f k known meaning there free other =
      let has = subst (MeansField (names unit) (unit_parts unit) p f) meaning known in
      let here : classes.is_among (field_at p k).class (c ∷ supers (parents unit.classes) c) ≡ true = ap (λ n. classes.is_among n (c ∷ supers (parents unit.classes) c)) has.1 ∙ there in
      let inherited = inherits c k lt has.0 here in
      let own_or_final = not_or (f.class == c) f.is_final free in
      let allowed : (((field_at p k).class == field.class) || (field_at p k).is_final) ≡ true =
      ap (λ n. (n == field.class) || (field_at p k).is_final) has.1 ∙ ap (λ n. (f.class == n) || (field_at p k).is_final) same ∙ ap (λ b. (f.class == c) || b) has.3 ∙ own_or_final in
      ap (λ b. if b then None else field_type_of_name p field (name.FieldNamed k)) other
      ∙ ap (λ b. if b then Some (field_at p k).ty else None)
      (both_true (is_among (all_fields p field.class) k) (((field_at p k).class == field.class) || (field_at p k).is_final) (ap (λ n. is_among (all_fields p n) k) same ∙ inherited) allowed)

  -- one field
  one_field_fits : (w : World) (ss : List Signature) (c next : ℕ) (k : ClassDecl) (d : LocalDecl) → w ≡ world unit.classes → c < length unit.classes → d.mods.is_static ≡ false → is_written_decl d ≡ true
      → Says (names unit) (unit_parts unit) (source.field_notes (place w ss c k) (members.field_of w.class c next d) d)
      → (is_class p c ≡ true) × (is_type p (field_of (names unit) c d).ty ≡ true)
      × Fit (field_of (names unit) c d).ty (others (name.FieldNamed next) (field_type_of_name p (field_of (names unit) c d))) (field_of (names unit) c d).claims
  one_field_fits w ss c next k d same lt static wr says =
      let l = place w ss c k in
      let f = members.field_of w.class c next d in
      let field = field_of (names unit) c d in
      let typed = field_has_type (names unit) (unit_parts unit) l c next d says in
      let table = field_typed (names unit) (unit_parts unit) l f d typed.0 typed.1 says in
      let ty : field.ty ≡ typed.0 = ap declared_type table in
      let written_ty : (written w.class d.ty (element_claims (target_before d.ty) d.mods.annots)).ty ≡ Some typed.0 =
      sym (ap (λ b. (written w.class d.ty (if b then [] else element_claims (target_before d.ty) d.mods.annots)).ty) static) ∙ typed.1 in
      let there : NamesClasses p w.class = subst (λ (w : World). NamesClasses p w.class) (sym same) names_classes in
      let scope = source.member_scope l true in
      let types = others (name.FieldNamed next) (field_type_of_name p field) in
      let meaning : source.field_number f.meaning ≡ next = ap source.field_number (ap (λ b. if b then Rattle.std.specs.Prelude.option_map (λ n. Constant n) (members.constant d) else Some (FieldNamed next)) static) in
      let above : FieldsAreKnown (Some (name.FieldNamed next)) types (names unit) (unit_parts unit) p c (c ∷ w.supers c) =
      subst (λ (w : World). FieldsAreKnown (Some (name.FieldNamed next)) types (names unit) (unit_parts unit) p c (c ∷ w.supers c)) (sym same) (field_known field c next refl lt) in
      let this = this_fits (Some (name.FieldNamed next)) types (names unit) (unit_parts unit) p c scope refl (members.fields unit.classes)
      (λ a text. ap (λ (w : World). w.field a text) same) fields_known (λ e. above) in
      let knows = scope_knows (Some (name.FieldNamed next)) types scope None tt this in
      let declared : (source.field_declaration l f d) ≡ variable w.class (annot_names scope (Some (name.FieldNamed next)) None) d.mods.annots d.ty =
      ap (λ b. if b then Rattle.ix_meaning.specs.Annotated.static_field w.class d.mods.annots d.ty else variable w.class (annot_names scope (Some (name.FieldNamed (source.field_number f.meaning))) None) d.mods.annots d.ty) static
      ∙ ap (λ n. variable w.class (annot_names scope (Some (name.FieldNamed n)) None) d.mods.annots d.ty) meaning in
      let claims : field.claims ≡ (variable w.class (annot_names scope (Some (name.FieldNamed next)) None) d.mods.annots d.ty).claims =
      ap declared_claims table ∙ ap (λ b. if b then [] else (source.field_declaration l f d).claims) static ∙ ap (λ (x : Declaration). x.claims) declared in (
        less_is c (length p.classes) (let n = class_count in omega (arith, lt, n)),
        subst (λ t. is_type p t ≡ true) (sym ty) (declared_is_type p w.class there d.ty d.mods.annots typed.0 written_ty),
        subst (λ t. Fit t types field.claims) (sym ty)
            (subst (Fit typed.0 types) (sym claims)
            (variable_fits w.class (annot_names scope (Some (name.FieldNamed next)) None) d.mods.annots d.ty types (and_parts (is_written_type d.ty) (maybe_true is_written_init d.init) wr).0 knows typed.0 written_ty)),
      )

  class_fields_fit : (w : World) (ss : List Signature) (k : ClassDecl) (named : List ℕ → Option ℕ) (i c next : ℕ) (ms : List Member) → w ≡ world unit.classes → c < length unit.classes
      → MembersSay (Agrees (names unit) (unit_parts unit)) (place w ss c k) named i next ms → each_true is_written_member ms ≡ true → (later : List Field) → fields_fit p (next + length (fields_of_class (names unit) c ms)) later ≡ true
      → fields_fit p next (fields_of_class (names unit) c ms ++ later) ≡ true
  class_fields_fit w ss k named i c next [] same lt says wr later rest = let e : next + 0 ≡ next = omega arith in subst (λ n. fields_fit p n later ≡ true) e rest
  class_fields_fit w ss k named i c next (member.Method m ∷ ms) same lt says wr later rest =
      class_fields_fit w ss k named (i + 1) c next ms same lt says.2 (and_parts (is_written_member (member.Method m)) (each_true is_written_member ms) wr).1 later rest
  class_fields_fit w ss k named i c next (member.Field d ∷ ms) same lt says wr later rest =
      let parts_w = and_parts (is_written_decl d) (each_true is_written_member ms) wr in
      by_test d.mods.is_static
      (λ t.
      let none : own_field (names unit) c d ≡ [] = ap (λ b. if b then [] else field_of (names unit) c d ∷ []) t in
      let stays : members.next_field next d ≡ next = ap (λ b. if b then next else next + 1) t in
      subst (λ (x : List Field). fields_fit p next ((x ++ fields_of_class (names unit) c ms) ++ later) ≡ true) (sym none)
      (class_fields_fit w ss k named (i + 1) c next ms same lt (subst (λ n. MembersSay (Agrees (names unit) (unit_parts unit)) (place w ss c k) named (i + 1) n ms) stays says.2) parts_w.1 later
      (subst (λ (x : List Field). fields_fit p (next + length (x ++ fields_of_class (names unit) c ms)) later ≡ true) none rest)))
      (λ f.
      let one : own_field (names unit) c d ≡ field_of (names unit) c d ∷ [] = ap (λ b. if b then [] else field_of (names unit) c d ∷ []) f in
      let up : members.next_field next d ≡ next + 1 = ap (λ b. if b then next else next + 1) f in
      let fit = one_field_fits w ss c next k (with_annots says.1.0 says.1.1 d) same lt f (written_with says.1.0 says.1.1 d says.1.2 parts_w.0) says.1.3 in
      let field = field_of (names unit) c d in
      let types = others (name.FieldNamed next) (field_type_of_name p field) in
      let count : next + length (field ∷ fields_of_class (names unit) c ms) ≡ (next + 1) + length (fields_of_class (names unit) c ms) = omega arith in
      let more = class_fields_fit w ss k named (i + 1) c (next + 1) ms same lt (subst (λ n. MembersSay (Agrees (names unit) (unit_parts unit)) (place w ss c k) named (i + 1) n ms) up says.2) parts_w.1 later
      (subst (λ n. fields_fit p n later ≡ true) count (subst (λ (x : List Field). fields_fit p (next + length (x ++ fields_of_class (names unit) c ms)) later ≡ true) one rest)) in
      subst (λ (x : List Field). fields_fit p next ((x ++ fields_of_class (names unit) c ms) ++ later) ≡ true) (sym one)
      (both_true (is_class p c) (is_type p field.ty && (list_all (claim_fits field.ty types) field.claims && fields_fit p (next + 1) (fields_of_class (names unit) c ms ++ later))) fit.0
      (both_true (is_type p field.ty) (list_all (claim_fits field.ty types) field.claims && fields_fit p (next + 1) (fields_of_class (names unit) c ms ++ later)) fit.1
      (both_true (list_all (claim_fits field.ty types) field.claims) (fields_fit p (next + 1) (fields_of_class (names unit) c ms ++ later)) (all_true (claim_fits field.ty types) field.claims fit.2) more))))

  all_fields_fit : (ps : List (Option ℕ)) (ss : List Signature) (c next : ℕ) (ks : List ClassDecl) → ClassesSay (Agrees (names unit) (unit_parts unit)) (world unit.classes) ps ss c next ks
      → each_true (λ (k : ClassDecl). each_true is_written_member k.members) ks ≡ true → c + length ks ≤ length unit.classes → fields_fit p next (fields_of (names unit) c ks) ≡ true
  all_fields_fit ps ss c next [] says wr le = refl
  all_fields_fit ps ss c next (k ∷ ks) says wr le =
      let parts_w = and_parts (each_true is_written_member k.members) (each_true (λ (k : ClassDecl). each_true is_written_member k.members) ks) wr in
      let count = next_counts (names unit) (unit_parts unit) p next c k.members in
      class_fields_fit (world unit.classes) ss k (source.member_named k.members) 0 c next k.members refl (omega (arith, le)) says.0.members parts_w.0 (fields_of (names unit) (c + 1) ks)
      (subst (λ n. fields_fit p n (fields_of (names unit) (c + 1) ks) ≡ true) count (all_fields_fit ps ss (c + 1) (members.next_fields next k.members) ks says.1 parts_w.1 (omega (arith, le))))

  -- All fields of the program fit.
  pub fields_do_fit : fields_fit p 0 p.fields ≡ true
  fields_do_fit =
      subst (λ (l : List Field). fields_fit p 0 l ≡ true) (sym fields_are_all)
      (all_fields_fit (parents unit.classes) (members.methods unit.classes) 0 0 unit.classes said is.written (omega arith))
