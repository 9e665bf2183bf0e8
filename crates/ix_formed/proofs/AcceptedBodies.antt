-- What a body of an accepted source stands in: the members that its names mean, and types and claims of its locals that fit.
use Rattle.std.proofs.Common.{◌≡◌, ◌≤◌, ◌<◌, ℕ, true, false, List, [], ◌∷◌, length, Option, Some, None, ap, subst, ◌∙◌, arith}
use Rattle.std.specs.Prelude.{if◌then◌else◌, not, nat_lt, slice_get}
use Rattle.std.specs.List.{list_all}
use Rattle.std.proofs.lemmas.Bool.Decides.{nat_tests}
use Rattle.ix_text.specs.declared.span.Span.{Span}
use Rattle.ix_annot.specs.Named.{is_own, what_holds}
use Rattle.ix_core.specs.declared.claim.Name.{Name}
use Rattle.ix_core.specs.declared.claim.Name.TheVariants as name
use Rattle.ix_core.specs.declared.claim.Type_.{Type_}
use Rattle.ix_core.specs.declared.program.Local.{Local}
use Rattle.ix_core.specs.declared.program.Method.{Method}
use Rattle.ix_core.specs.declared.program.Program.{Program}
use Rattle.ix_core.specs.Formed.{claim_fits, others, local_named_type, in_scope_type, starts_within, at_most}
use Rattle.ix_core.specs.Types.{bool_type}
use Rattle.ix_core.specs.Tables.{field_at, all_fields, is_among, param_slot}
use Rattle.ix_tree.specs.declared.decl.LocalDecl.{LocalDecl}
use Rattle.ix_tree.specs.declared.decl.Unit.{Unit as Source}
use Rattle.ix_tree.specs.Parts.{unit_parts}
use Rattle.ix_meaning.specs.declared.note.Meaning.{Meaning}
use Rattle.ix_meaning.specs.declared.note.Meaning.TheVariants as meaning
use Rattle.ix_meaning.specs.Bodies.{local_declaration, own_names}
use Rattle.ix_meaning.specs.Classes as classes
use Rattle.ix_meaning.specs.Classes.{parents, supers}
use Rattle.ix_meaning.specs.Members as members
use Rattle.ix_meaning.specs.Members.{World, world}
use Rattle.ix_meaning.specs.Resolved.{names}
use Rattle.ix_meaning.specs.Scope.{Known as Variable, Scope as Names, known_as, type_or_void}
use Rattle.ix_plain.specs.Members.{heads, constructors}
use Rattle.ix_plain.specs.Scope.{Site}
use Rattle.ix_formed.specs.Additions.{AllOf}
use Rattle.ix_formed.specs.Typed.{HasMembers}
use Rattle.ix_formed.specs.TypedStatements.{Ground, IsGround, IsNamed, HasVariable, Scoped, Begins}
use Rattle.ix_formed.specs.Written.{is_written_type}
use Rattle.ix_formed.proofs.AcceptedConstructors.{constructor_is}
use Rattle.ix_formed.proofs.AcceptedMembers.{itself, further, fitting, field_is}
use Rattle.ix_formed.proofs.AcceptedMethods.{class_is, method_is, created_is}
use Rattle.ix_formed.proofs.ClaimsFit.{all_true, Whenever}
use Rattle.ix_formed.proofs.ClassesHaveWays.{named_within}
use Rattle.ix_formed.proofs.DeclaredFields.{MeansField}
use Rattle.ix_formed.proofs.DeclaredTypes.{declared_is_type, variable_fits}
use Rattle.ix_formed.proofs.FieldsFit.{IsAccepted, names_classes, fields_known, inherits}
use Rattle.ix_formed.proofs.NumberLists.{both_true}
use Rattle.ix_formed.proofs.ScopedLocals.{get_front}
use Rattle.ix_formed.proofs.ScopesKnow.{KnownFits, FieldsAreKnown, scope_knows, this_fits}

module _ (unit : Source) (p : Program) (is : IsAccepted unit p) where
  -- what names mean the program has
  pub has_members : (site : Site) → site.heads ≡ heads unit.classes → site.constructors ≡ constructors unit.classes → HasMembers p site (world unit.classes)
  has_members site same_heads same_constructors = record {
    classes = λ text class e. class_is unit p is class (named_within unit.classes text class e);
    fields = λ class text f there e. field_is unit p is site class text f there e;
    methods = λ class text m there e. method_is unit p is site same_heads class text m there e;
    constructors = λ class there. constructor_is unit p is site same_constructors class there;
    fitting = fitting unit p is;
    itself = itself unit p is;
    created = created_is unit p is;
    further = further unit p is;
  }

  module _ (method : Method) (locals : List Type_) (site : Site) (class : ℕ) (there : class < length unit.classes) (own_class : method.class ≡ class) where
    abbrev pub ground : Ground
    ground = record { program = p; method = method; locals = locals; site = site; world = world unit.classes; class = class; parts = unit_parts unit }

    -- ---- claims of locals

    at_least : (n m : ℕ) → n ≤ m → at_most n m ≡ true
    at_least n m le = grind (arith, nat_tests)

    is_less : (n m : ℕ) → n < m → nat_lt n m ≡ true
    is_less n m lt = grind (arith, nat_tests)

    module _ (s : Names) (d : LocalDecl) (ls : List (Local × Span)) (ts : List Type_) (free lo end at : ℕ) (scoped : Scoped ground s ls ts free lo end) (from : lo ≤ d.name.span.from) (begins : Begins ground ls ts at) where
      abbrev own : Option Name
      own = Some (name.Local s.next)

      abbrev span : Span
      span = record { from = d.name.span.from; to = end }

      abbrev types : Name → Option Type_
      types = others (name.Local s.next) (local_named_type p method locals span)

      other_type : (n : Name) → is_own own n ≡ false → types n ≡ local_named_type p method locals span n
      other_type n e = ap (λ b. if b then None else local_named_type p method locals span n) e

      variable_known : (within : d.name.span.from < end) (v : Variable) → HasVariable ground ls ts free lo end v → KnownFits own types v
      variable_known within v has = by_meaning v.meaning has.named
        where
          by_meaning : (m : Meaning) → IsNamed ground ls ts lo end has.ty m → Whenever (Rattle.ix_formed.proofs.ScopesKnow.FoundFits own types) (known_as m v.ty)
          by_meaning (meaning.Local n) named =
              let local : Local × Span = named.0 in
              let placed : slice_get method.locals n ≡ Some local = ap (λ (l : List (Local × Span)). slice_get l n) begins.locals ∙ get_front ls begins.later n local named.1 in
              let typed : slice_get locals n ≡ Some has.ty = ap (λ (l : List Type_). slice_get l n) begins.types ∙ get_front ts begins.later_types n has.ty named.2 in
              let starts : starts_within span local.1 ≡ true =
              both_true (at_most local.1.from d.name.span.from) (nat_lt d.name.span.from local.1.to) (let a = named.3 in at_least local.1.from d.name.span.from (omega (arith, a, from))) (let a = named.4 in is_less d.name.span.from local.1.to (omega (arith, a, within))) in
              λ free_field other. (
                has.ty,
                other_type (name.Local n) other ∙ ap (λ (o : Option (Local × Span)). in_scope_type span o (slice_get locals n)) placed ∙ ap (λ (o : Option Type_). in_scope_type span (Some local) o) typed
                    ∙ ap (λ b. if b then Some has.ty else None) starts,
                ap (λ (o : Option Type_). what_holds (type_or_void o)) has.typed,
              )
          by_meaning (meaning.Param n) named = λ free_field other. (has.ty, other_type (name.Param n) other ∙ named, ap (λ (o : Option Type_). what_holds (type_or_void o)) has.typed)
          by_meaning (meaning.FieldNamed n) named = absurd named
          by_meaning (meaning.Constant n) named = absurd named
          by_meaning (meaning.ClassNamed n) named = absurd named
          by_meaning (meaning.MethodNamed n) named = absurd named
          by_meaning meaning.LengthOf named = absurd named

      all_known : (within : d.name.span.from < end) (vs : List Variable) → AllOf (HasVariable ground ls ts free lo end) vs → AllOf (KnownFits own types) vs
      all_known within [] all = tt
      all_known within (v ∷ vs) all = (variable_known within v all.0, all_known within vs all.1)

      fields_named : s.names_fields ≡ true → FieldsAreKnown own types (names unit) (unit_parts unit) p class (s.class ∷ s.world.supers s.class)
      fields_named allowed f k known meaning_is above free_field other =
          let has = subst (MeansField (names unit) (unit_parts unit) p f) meaning_is known in
          let up : classes.is_among f.class (class ∷ supers (parents unit.classes) class) ≡ true =
          subst (λ (w : World). classes.is_among f.class (class ∷ w.supers class) ≡ true) scoped.world (subst (λ n. classes.is_among f.class (n ∷ s.world.supers n) ≡ true) scoped.class above) in
          let among = inherits unit p is class k there has.0 (ap (λ n. classes.is_among n (class ∷ supers (parents unit.classes) class)) has.1 ∙ up) in
          let may : not method.is_static ≡ true = ap not (scoped.fields allowed) in
          other_type (name.FieldNamed k) other
          ∙ ap (λ b. if b then Some (field_at p k).ty else None) (both_true (not method.is_static) (is_among (all_fields p method.class) k) may (ap (λ n. is_among (all_fields p n) k) own_class ∙ among))

      claims_fit : d.name.span.from < end → is_written_type d.ty ≡ true → (ty : Type_) → (local_declaration d s).ty ≡ Some ty → list_all (claim_fits ty types) (local_declaration d s).claims ≡ true
      claims_fit within wr ty typed =
          all_true (claim_fits ty types) (local_declaration d s).claims
          (variable_fits s.world.class (own_names d s) d.mods.annots d.ty types wr
          (scope_knows own types s (Some d.name.text) (all_known within s.names scoped.variables)
          (this_fits own types (names unit) (unit_parts unit) p class s scoped.class (members.fields unit.classes) (λ a text. ap (λ (w : World). w.field a text) scoped.world) (fields_known unit p is) fields_named))
          ty typed)

    -- What a body stands in, where its site has the numbers of the source's methods.
    pub is_ground : site.heads ≡ heads unit.classes → site.constructors ≡ constructors unit.classes → site.class ≡ class → (method.constructor ≡ true → 1 ≤ param_slot method 0) → (site.answers ≡ true → method.result ≡ bool_type) → IsGround ground
    is_ground same_heads same_constructors same_class with_this answers = record {
      members = has_members site same_heads same_constructors;
      class = same_class;
      class_there = class_is unit p is class there;
      method_class = own_class;
      with_this = with_this;
      answers = answers;
      declared_types = λ tree annots ty e. declared_is_type p (world unit.classes).class (names_classes unit p is) tree annots ty e;
      declared_claims = λ s d ls ts free lo end at scoped counted wr from within begins ty typed. claims_fit s d ls ts free lo end at scoped from begins within wr ty typed;
    }
