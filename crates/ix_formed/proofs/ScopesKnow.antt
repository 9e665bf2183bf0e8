-- What an annotation may name has the type that it has in the program.
use Rattle.std.proofs.Common.{◌≡◌, ℕ, Bool, true, false, List, [], ◌∷◌, Option, Some, None, refl, sym, ap, subst, ◌∙◌}
use Rattle.std.specs.Prelude.{if◌then◌else◌, ◌==◌, ◌||◌, ◌&&◌, not, bytes_eq}
use Rattle.std.proofs.lemmas.Bool.{false≢true, and_parts}
use Rattle.ix_core.specs.declared.claim.Base.TheVariants as base
use Rattle.ix_core.specs.declared.claim.Name.{Name}
use Rattle.ix_core.specs.declared.claim.Name.TheVariants as name
use Rattle.ix_core.specs.declared.claim.Type_.{Type_}
use Rattle.ix_core.specs.declared.claim.Type_.TheVariants as type
use Rattle.ix_core.specs.declared.program.Program.{Program}
use Rattle.ix_core.specs.Formed.{is_int_of, is_array_of}
use Rattle.ix_core.specs.Tables.{field_at}
use Rattle.ix_core.specs.Types.{is_int_type, is_array_type}
use Rattle.ix_core.proofs.Cases.{equal}
use Rattle.ix_tree.specs.Parts.{Part}
use Rattle.ix_annot.specs.declared.scope.Found.{Found}
use Rattle.ix_annot.specs.declared.scope.Holds.TheVariants as holds
use Rattle.ix_annot.specs.declared.texts.Naming.{Naming}
use Rattle.ix_annot.specs.declared.texts.Naming.TheVariants.{Parameter, OfThis, Variable}
use Rattle.ix_annot.specs.Expansion.{is_field, may_change}
use Rattle.ix_annot.specs.Named.{or_else, what_holds, same_holding, is_own, fitting}
use Rattle.ix_meaning.specs.declared.members.Field.{Field}
use Rattle.ix_meaning.specs.declared.note.Meaning.{Meaning}
use Rattle.ix_meaning.specs.declared.note.Meaning.TheVariants.{Local, Param, FieldNamed, Constant, MethodNamed, ClassNamed, LengthOf}
use Rattle.ix_meaning.specs.Classes as classes
use Rattle.ix_meaning.specs.Members.{own_field, nearest, or_nearest}
use Rattle.ix_meaning.specs.Resolved.{Names}
use Rattle.ix_meaning.specs.Scope.{Scope, Known, meant, is_pending, known_as, known_found, is_param, param_numbered, found_at, annot_names, instance_field, instance_field_in, field_of_this, type_or_void}
use Rattle.ix_formed.specs.Additions.{AllOf}
use Rattle.ix_formed.proofs.ClaimsFit.{Whenever, Knows}
use Rattle.ix_formed.proofs.DeclaredFields.{IsField, MeansField}
use Rattle.ix_formed.proofs.NumberLists.{is_itself}

module _ (own : Option Name) (types : Name → Option Type_) where
  -- what is found has the type that it has in the program, where the annotation may name it
  abbrev pub FoundFits : Found → Type 0
  FoundFits v = (is_field own && v.may_change) ≡ false → is_own own v.name ≡ false → (ty : Type_) × (types v.name ≡ Some ty) × (v.holds ≡ what_holds ty)

  holds_int : (ty : Type_) → same_holding holds.Int (what_holds ty) ≡ true → is_int_type ty ≡ true
  holds_int type.Void e = absurd (false≢true e)
  holds_int (type.Plain base.Int) e = refl
  holds_int (type.Plain base.Bool) e = absurd (false≢true e)
  holds_int (type.Plain (base.Class c)) e = absurd (false≢true e)
  holds_int (type.Array of depth claims) e = absurd (false≢true e)

  holds_array : (ty : Type_) → same_holding holds.Array (what_holds ty) ≡ true → is_array_type ty ≡ true
  holds_array type.Void e = absurd (false≢true e)
  holds_array (type.Plain base.Int) e = absurd (false≢true e)
  holds_array (type.Plain base.Bool) e = absurd (false≢true e)
  holds_array (type.Plain (base.Class c)) e = absurd (false≢true e)
  holds_array (type.Array of depth claims) e = refl

  not_true : (b : Bool) → not b ≡ true → b ≡ false
  not_true true e = absurd (false≢true e)
  not_true false e = refl

  fits_int : (v : Found) → FoundFits v → (is_field own && v.may_change) ≡ false → (b : Bool) → b ≡ (same_holding holds.Int v.holds && not (is_own own v.name)) → Whenever (λ n. is_int_of (types n) ≡ true) (if b then Some v.name else None)
  fits_int v fits free false e = tt
  fits_int v fits free true e =
      let parts = and_parts (same_holding holds.Int v.holds) (not (is_own own v.name)) (sym e) in
      let is = fits free (not_true (is_own own v.name) parts.1) in
      ap is_int_of is.1 ∙ holds_int is.0 (sym (ap (same_holding holds.Int) is.2) ∙ parts.0)

  fits_array : (v : Found) → FoundFits v → (is_field own && v.may_change) ≡ false → (b : Bool) → b ≡ (same_holding holds.Array v.holds && not (is_own own v.name)) → Whenever (λ n. is_array_of (types n) ≡ true) (if b then Some v.name else None)
  fits_array v fits free false e = tt
  fits_array v fits free true e =
      let parts = and_parts (same_holding holds.Array v.holds) (not (is_own own v.name)) (sym e) in
      let is = fits free (not_true (is_own own v.name) parts.1) in
      ap is_array_of is.1 ∙ holds_array is.0 (sym (ap (same_holding holds.Array) is.2) ∙ parts.0)

  named_int : (o : Option Found) → Whenever FoundFits o → (is_field own && may_change o) ≡ false → Whenever (λ n. is_int_of (types n) ≡ true) (fitting holds.Int own o)
  named_int None fits free = tt
  named_int (Some v) fits free = fits_int v fits free (same_holding holds.Int v.holds && not (is_own own v.name)) refl

  named_array : (o : Option Found) → Whenever FoundFits o → (is_field own && may_change o) ≡ false → Whenever (λ n. is_array_of (types n) ≡ true) (fitting holds.Array own o)
  named_array None fits free = tt
  named_array (Some v) fits free = fits_array v fits free (same_holding holds.Array v.holds && not (is_own own v.name)) refl

  -- ---- the names in scope

  abbrev pub KnownFits : Known → Type 0
  KnownFits k = Whenever FoundFits (known_as k.meaning k.ty)

  meant_fits : (text : List ℕ) (ks : List Known) → AllOf KnownFits ks → Whenever FoundFits (known_found (meant text ks))
  meant_fits text [] all = tt
  meant_fits text (k ∷ ks) all = here (bytes_eq k.name text) (meant_fits text ks all.1)
    where
      here : (b : Bool) → Whenever FoundFits (known_found (meant text ks)) → Whenever FoundFits (known_found (if b then Some k else meant text ks))
      here true rest = all.0
      here false rest = rest

  numbered_fits : (number : ℕ) (ks : List Known) → AllOf KnownFits ks → Whenever FoundFits (known_found (param_numbered number ks))
  numbered_fits number [] all = tt
  numbered_fits number (k ∷ ks) all = here (is_param number k.meaning) (numbered_fits number ks all.1)
    where
      here : (b : Bool) → Whenever FoundFits (known_found (param_numbered number ks)) → Whenever FoundFits (known_found (if b then Some k else param_numbered number ks))
      here true rest = all.0
      here false rest = rest

  else_fits : (first second : Option Found) → Whenever FoundFits first → Whenever FoundFits second → Whenever FoundFits (or_else first second)
  else_fits None second a b = b
  else_fits (Some v) second a b = a

  found_fits : (s : Scope) (own_local : Option (List ℕ)) → AllOf KnownFits s.names → ((text : List ℕ) → Whenever FoundFits (field_of_this s text)) → (naming : Naming) → Whenever FoundFits (found_at s own_local naming)
  found_fits s own_local known field (Parameter number) = numbered_fits number s.names known
  found_fits s own_local known field (OfThis text) = field text
  found_fits s own_local known field (Variable text) = pending_or_not (is_pending own_local text)
    where
      pending_or_not : (b : Bool) → Whenever FoundFits (if b then None else or_else (known_found (meant text s.names)) (field_of_this s text))
      pending_or_not true = tt
      pending_or_not false = else_fits (known_found (meant text s.names)) (field_of_this s text) (meant_fits text s.names known) (field text)

  pub scope_knows : (s : Scope) (own_local : Option (List ℕ)) → AllOf KnownFits s.names → ((text : List ℕ) → Whenever FoundFits (field_of_this s text)) → Knows (annot_names s own own_local) types
  scope_knows s own_local known field = record {
    ints = λ naming free. named_int (found_at s own_local naming) (found_fits s own_local known field naming) free;
    arrays = λ naming free. named_array (found_at s own_local naming) (found_fits s own_local known field naming) free;
  }

  -- ---- fields of `this`

  module _ (names : Names) (parts : List Part) (p : Program) (class : ℕ) where
    -- an instance field of that class or of a superclass, which the annotation may name
    abbrev pub FieldsAreKnown : List ℕ → Type 0
    FieldsAreKnown above = (f : Field) (k : ℕ) → IsField names parts p f → f.meaning ≡ Some (FieldNamed k) → classes.is_among f.class above ≡ true
        → (is_field own && (not (f.class == class) && not f.is_final)) ≡ false → is_own own (name.FieldNamed k) ≡ false → types (name.FieldNamed k) ≡ Some (field_at p k).ty

    field_fits : (f : Field) (m : Option Meaning) → f.meaning ≡ m → IsField names parts p f
        → ((k : ℕ) → f.meaning ≡ Some (FieldNamed k) → (is_field own && (not (f.class == class) && not f.is_final)) ≡ false → is_own own (name.FieldNamed k) ≡ false → types (name.FieldNamed k) ≡ Some (field_at p k).ty)
        → Whenever FoundFits (instance_field class m f)
    field_fits f (Some (FieldNamed k)) e is known =
        let has = subst (MeansField names parts p f) e is in
        λ free other. ((field_at p k).ty, known k e free other, ap (λ (o : Option Type_). what_holds (type_or_void o)) has.2)
    field_fits f None e is known = tt
    field_fits f (Some (Local n)) e is known = tt
    field_fits f (Some (Param n)) e is known = tt
    field_fits f (Some (Constant n)) e is known = tt
    field_fits f (Some (MethodNamed n)) e is known = tt
    field_fits f (Some (ClassNamed n)) e is known = tt
    field_fits f (Some LengthOf) e is known = tt

    -- the first field of a class with that name is one of the source, of that class
    pub own_field_is : (P : Field → Type 0) (fs : List Field) (c : ℕ) (text : List ℕ) → AllOf P fs → Whenever (λ f. P f × (f.class ≡ c)) (own_field fs c text)
    own_field_is P [] c text all = tt
    own_field_is P (f ∷ fs) c text all = here (f.class == c && bytes_eq f.name text) refl (own_field_is P fs c text all.1)
      where
        here : (b : Bool) → (f.class == c && bytes_eq f.name text) ≡ b → Whenever (λ f. P f × (f.class ≡ c)) (own_field fs c text) → Whenever (λ f. P f × (f.class ≡ c)) (if b then Some f else own_field fs c text)
        here true e rest = (all.0, equal f.class c (and_parts (f.class == c) (bytes_eq f.name text) e).0)
        here false e rest = rest

    nearest_fits : (fs : List Field) → AllOf (IsField names parts p) fs → (text : List ℕ) (above further : List ℕ) → FieldsAreKnown above → ((a : ℕ) → classes.is_among a further ≡ true → classes.is_among a above ≡ true)
        → Whenever FoundFits (nearest (λ a. instance_field_in class (own_field fs a text)) further)
    nearest_fits fs all text above [] known within = tt
    nearest_fits fs all text above (c ∷ cs) known within =
        or_fits (instance_field_in class (own_field fs c text)) (nearest (λ a. instance_field_in class (own_field fs a text)) cs)
        (own_fits (own_field fs c text) (own_field_is (IsField names parts p) fs c text all))
        (nearest_fits fs all text above cs known (λ a e. within a (or_later (c == a) (classes.is_among a cs) e)))
      where
        or_later : (a b : Bool) → b ≡ true → (a || b) ≡ true
        or_later true b e = refl
        or_later false b e = e

        or_fits : (first second : Option Found) → Whenever FoundFits first → Whenever FoundFits second → Whenever FoundFits (or_nearest first second)
        or_fits None second a b = b
        or_fits (Some v) second a b = a

        own_fits : (o : Option Field) → Whenever (λ f. IsField names parts p f × (f.class ≡ c)) o → Whenever FoundFits (instance_field_in class o)
        own_fits None is = tt
        own_fits (Some f) is =
            let here : classes.is_among f.class (c ∷ cs) ≡ true = ap (λ n. (c == n) || classes.is_among n cs) is.1 ∙ ap (λ b. b || classes.is_among c cs) (is_itself c) in
            field_fits f f.meaning refl is.0 (λ k e free other. known f k is.0 e (within f.class here) free other)

    pub this_fits : (s : Scope) → s.class ≡ class → (fs : List Field) → ((a : ℕ) (text : List ℕ) → s.world.field a text ≡ own_field fs a text) → AllOf (IsField names parts p) fs
        → (s.names_fields ≡ true → FieldsAreKnown (s.class ∷ s.world.supers s.class)) → (text : List ℕ) → Whenever FoundFits (field_of_this s text)
    this_fits s same fs world all known text = named_or_not s.names_fields refl
      where
        agrees : (above : List ℕ) → nearest (λ a. instance_field_in s.class (s.world.field a text)) above ≡ nearest (λ a. instance_field_in class (own_field fs a text)) above
        agrees [] = refl
        agrees (c ∷ cs) =
            ap (λ o. or_nearest o (nearest (λ a. instance_field_in s.class (s.world.field a text)) cs)) (ap (λ n. instance_field_in n (s.world.field c text)) same ∙ ap (instance_field_in class) (world c text))
            ∙ ap (or_nearest (instance_field_in class (own_field fs c text))) (agrees cs)

        named_or_not : (b : Bool) → s.names_fields ≡ b → Whenever FoundFits (if b then nearest (λ a. instance_field_in s.class (s.world.field a text)) (s.class ∷ s.world.supers s.class) else None)
        named_or_not false e = tt
        named_or_not true e = subst (Whenever FoundFits) (sym (agrees (s.class ∷ s.world.supers s.class)))
            (nearest_fits fs all text (s.class ∷ s.world.supers s.class) (s.class ∷ s.world.supers s.class) (known e) (λ a there. there))
