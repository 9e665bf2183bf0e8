-- Calls and creations of objects without errors on names are sound.
use Rattle.std.proofs.Common.{◌≡◌, ℕ, Bool, true, false, List, length, Option, Some, None, refl, sym, ap, subst, ◌∙◌}
use Rattle.std.specs.Prelude.{◌||◌, nat_lt, not, is_some}
use Rattle.std.proofs.lemmas.Bool.{false≢true}
use Rattle.ix_text.specs.declared.span.Span.{Span}
use Rattle.ix_core.specs.declared.claim.Base.TheVariants as base
use Rattle.ix_core.specs.declared.claim.Type_.{Type_}
use Rattle.ix_core.specs.declared.claim.Type_.TheVariants as type
use Rattle.ix_core.specs.Tables.{method_at, default_result}
use Rattle.ix_core.specs.Types.{class_type, is_void, is_class}
use Rattle.ix_tree.specs.declared.annot.Ident.{Ident}
use Rattle.ix_tree.specs.Parts.{elsewhere}
use Rattle.ix_meaning.specs.declared.note.Rule.TheVariants as rule
use Rattle.ix_meaning.specs.Members.{Callee, method_named, constructor_params}
use Rattle.ix_meaning.specs.Rules as rules
use Rattle.ix_meaning.specs.Values as reading
use Rattle.ix_meaning.specs.Values.{Reading, KindReading, Object, no_object, of_class, value, valued}
use Rattle.ix_plain.specs.Scope.{meaning_at, type_at, or_void, head_at}
use Rattle.ix_plain.specs.Values.{Lowering}
use Rattle.ix_formed.specs.Typed as typed
use Rattle.ix_formed.specs.Typed.{Told, IsHere, MethodIs, ReceiverIs, Fits}
use Rattle.ix_formed.proofs.NumberLists.{both_true}
use Rattle.ix_formed.proofs.TypedChecks.{parted, kept, Tabled, reading_at}
use Rattle.ix_formed.proofs.TypedNames.{there_is}
use Rattle.ix_source.specs.Along.{Setting}
use Rattle.ix_source.specs.Sound as sound
use Rattle.ix_source.specs.Sound.{Soundness, used}
use Rattle.ix_source.specs.WellNamed.{View, viewed, IsSeen, IsSound}
use Rattle.ix_source.proofs.SoundParts.{AllAre, given_used, computed_sound}
use Rattle.ix_source.proofs.SoundNames.{this_is}
use Rattle.ix_source.proofs.SoundSelections.{object_used}

-- a method gives something back, or its result is `void`
gives_or_void : (ty : Type_) → (is_some (default_result ty) || is_void ty) ≡ true
gives_or_void type.Void = refl
gives_or_void (type.Plain b) = refl
gives_or_void (type.Array b depth claims) = refl

module _ (y : typed.Setting) (set : typed.IsSet y) (v : View) (n : IsSeen y v) (ls : List Lowering) (rs : List Reading) (ss : List Soundness) (all : AllAre y set v ls rs ss) (ident : Ident) (here : IsHere y (elsewhere ident)) (span : Span) where
  abbrev z : Setting
  z = viewed y v

  abbrev IsCalled : Option Soundness → Type 0
  IsCalled object = sound.called object ss span z (meaning_at y.scope ident.span) ≡ true

  -- what stands before the dot, by whether the method has a `this`
  received_as : (object : Option Soundness) (is given : Bool) → is ≡ given → (given ≡ true → sound.received object true z ≡ true) → (given ≡ false → sound.received object false z ≡ true) → sound.received object is z ≡ true
  received_as object true given e unused taken = unused (sym e)
  received_as object false given e unused taken = taken (sym e)

  called_sound : (class : ℕ) (m : Callee) → MethodIs y.program y.scope.site class m → method_named y.names.world class ident.text ≡ Some m → (object : Option Soundness)
      → (m.signature.is_static ≡ true → sound.received object true z ≡ true) → (m.signature.is_static ≡ false → sound.received object false z ≡ true)
      → Told y (reading.called y.names ident.span rs m).notes → Tabled y span m.signature.result → IsCalled object
  called_sound class m is e object unused taken said table =
      let number = m.number in
      let result = (method_at y.program number).result in
      let same : type_at y.scope span ≡ result = ap or_void (table result is.result) in
      let gives : sound.has_result z number span ≡ true = ap (λ o. is_some o || is_void (type_at y.scope span)) (n.results number).0 ∙ ap (λ t. is_some (default_result result) || is_void t) same ∙ gives_or_void result in
      let receives = received_as object (head_at y.scope.site number).is_static m.signature.is_static is.head_static unused taken in
      let given = given_used y set v ls rs ss all number m.signature.params is.takes ident.span said.1 in
      subst (λ o. sound.called object ss span z o ≡ true) (sym (said.0 here))
      (both_true (sound.is_method z.tables z.scope.site number) _ (both_true (nat_lt number (length y.scope.site.heads)) _ (there_is number (length y.scope.site.heads) (n.numbers.methods class ident.text m e)) (ap not ((n.results number).1 ∙ is.constructor)))
      (both_true (sound.has_result z number span) _ gives (both_true (sound.received object (head_at y.scope.site number).is_static z) _ receives given)))

  -- ---- without a dot

  abbrev pub bare_reading : KindReading
  bare_reading = valued (λ s p. reading.bare_call s ident rs (method_named s.world s.class ident.text))

  bare_called : (o : Option Callee) → method_named y.names.world y.names.class ident.text ≡ o → Told y (reading.bare_call y.names ident rs o).notes → Tabled y span (reading.bare_call y.names ident rs o).ty → IsCalled None
  bare_called None e said table = absurd said.0
  bare_called (Some m) e said table =
      let q = parted y (rules.not_static y.names m.signature.is_static ident.span) (reading.called y.names ident.span rs m).notes said in
      called_sound y.names.class m (set.members.methods y.names.class ident.text m set.class_there e) e None (λ static. refl) (λ static. this_is y set v n m.signature.is_static ident.span static q.0) q.1 table

  pub bare_sound : IsSound y v (sound.computes (λ at. sound.called None ss span at (meaning_at at.scope ident.span)) span) (reading_at y set bare_reading span)
  bare_sound = computed_sound y set v span bare_reading (sound.computes (λ at. sound.called None ss span at (meaning_at at.scope ident.span)) span) refl (λ at. refl) refl refl
      (λ said table. bare_called (method_named y.names.world y.names.class ident.text) refl said table)

  -- ---- behind a dot

  module _ (l : Lowering) (r : Reading) (s : Soundness) (f : Fits y l r) (k : IsSound y v s r) where
    abbrev pub dot_reading : KindReading
    dot_reading = valued (λ s p. reading.behind (r.receiver s).notes (reading.call_on s ident rs (r.receiver s).object))

    class_called : (class : ℕ) (o : Option Callee) → is_class y.program class ≡ true → method_named y.names.world class ident.text ≡ o → s.unused z ≡ true → Told y (reading.class_call y.names ident rs o).notes → Tabled y span (reading.class_call y.names ident rs o).ty → IsCalled (Some s)
    class_called class None is e unused said table = absurd said.0
    class_called class (Some m) is e unused said table =
        let q = parted y (rules.not_static_in_class m.signature.is_static ident.span) (reading.called y.names ident.span rs m).notes said in
        called_sound class m (set.members.methods class ident.text m is e) e (Some s) (λ static. unused) (λ no. absurd (false≢true (sym no ∙ kept y m.signature.is_static rule.NotStatic ident.span q.0))) q.1 table

    object_called : (class : ℕ) (o : Option Callee) → is_class y.program class ≡ true → method_named y.names.world class ident.text ≡ o → s.unused z ≡ true → used s z ≡ true → Told y (reading.instance_call y.names ident rs o).notes → Tabled y span (reading.instance_call y.names ident rs o).ty
        → IsCalled (Some s)
    object_called class None is e unused taken said table = absurd said.0
    object_called class (Some m) is e unused taken said table = called_sound class m (set.members.methods class ident.text m is e) e (Some s) (λ static. unused) (λ no. taken) said table

    by_object : (o : Object) → ReceiverIs y r.span l o → ((ty : Type_) → o ≡ value ty → ReceiverIs y r.span l (value ty) → used s z ≡ true) → s.unused z ≡ true → Told y (reading.call_on y.names ident rs o).notes → Tabled y span (reading.call_on y.names ident rs o).ty → IsCalled (Some s)
    by_object no_object is taken unused said table = absurd is
    by_object (of_class class) is taken unused said table = class_called class (method_named y.names.world class ident.text) is refl unused said table
    by_object (value (type.Plain (base.Class class))) is taken unused said table = object_called class (method_named y.names.world class ident.text) is.0 refl unused (taken (class_type class) refl is) said table
    by_object (value (type.Array b depth claims)) is taken unused said table = absurd said.0
    by_object (value (type.Plain base.Int)) is taken unused said table = absurd (false≢true is.1)
    by_object (value (type.Plain base.Bool)) is taken unused said table = absurd (false≢true is.1)
    by_object (value type.Void) is taken unused said table = absurd (false≢true is.1)

    pub dot_sound : IsSound y v (sound.computes (λ at. sound.called (Some s) ss span at (meaning_at at.scope ident.span)) span) (reading_at y set dot_reading span)
    dot_sound = computed_sound y set v span dot_reading (sound.computes (λ at. sound.called (Some s) ss span at (meaning_at at.scope ident.span)) span) refl (λ at. refl) refl refl
        (λ said table.
        let q = parted y (r.receiver y.names).notes (reading.call_on y.names ident rs (r.receiver y.names).object).notes said in
        by_object (r.receiver y.names).object (f.receiver q.0) (λ ty e is. object_used y set v l r s f k q.0 ty e is) (k.unused q.0) q.1 table)

  -- ---- new objects

  abbrev pub new_reading : KindReading
  new_reading = valued (λ s p. reading.creation s ident rs (s.world.class ident.text))

  created_sound : (o : Option ℕ) → y.names.world.class ident.text ≡ o → Told y (reading.creation y.names ident rs o).notes → sound.created ss z (meaning_at y.scope ident.span) ≡ true
  created_sound None e said = absurd said.0
  created_sound (Some class) e said =
      let there = set.members.classes ident.text class e in
      subst (λ o. sound.created ss z o ≡ true) (sym (said.0 here))
      (both_true (nat_lt class (length y.scope.site.constructors)) _ (there_is class (length y.scope.site.constructors) (n.numbers.classes ident.text class e))
      (given_used y set v ls rs ss all (Rattle.ix_plain.specs.Scope.constructor_at y.scope.site class) (constructor_params y.names.world class) (set.members.constructors class there).takes ident.span said.1))

  pub new_sound : IsSound y v (sound.computes (λ at. sound.created ss at (meaning_at at.scope ident.span)) span) (reading_at y set new_reading span)
  new_sound = computed_sound y set v span new_reading (sound.computes (λ at. sound.created ss at (meaning_at at.scope ident.span)) span) refl (λ at. refl) refl refl (λ said table. created_sound (y.names.world.class ident.text) refl said)
