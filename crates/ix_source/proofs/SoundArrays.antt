-- Elements, new arrays and initialisers without errors on names are sound.
use Rattle.std.proofs.Common.{◌≡◌, Bool, true, false, List, [], ◌∷◌, ◌++◌, Some, None, refl, subst}
use Rattle.std.specs.Prelude.{if◌then◌else◌, nat_lt, is_some}
use Rattle.std.proofs.lemmas.Bool.{false≢true}
use Rattle.ix_text.specs.declared.span.Span.{Span}
use Rattle.ix_core.specs.declared.claim.Type_.{Type_}
use Rattle.ix_core.specs.declared.claim.Type_.TheVariants as type
use Rattle.ix_core.specs.declared.program.Program.{Program}
use Rattle.ix_core.specs.SameClaims.{distinct}
use Rattle.ix_core.specs.Types.{int_type, cell_type, is_type, is_array}
use Rattle.ix_tree.specs.declared.annot.TypeTree.{TypeTree}
use Rattle.ix_tree.specs.declared.expr.Init.{Init-F}
use Rattle.ix_meaning.specs.declared.note.Rule.TheVariants as rule
use Rattle.ix_meaning.specs.Annotated.{given, names_nothing, written}
use Rattle.ix_meaning.specs.Rules as rules
use Rattle.ix_meaning.specs.Types as types
use Rattle.ix_meaning.specs.Types.{judged, of, element, element_in, type_note}
use Rattle.ix_meaning.specs.Values as reading
use Rattle.ix_meaning.specs.Values.{Reading, KindReading, valued, check}
use Rattle.ix_plain.specs.Values.{Lowering}
use Rattle.ix_formed.specs.NoErrors.{Agrees}
use Rattle.ix_formed.specs.Typed as typed
use Rattle.ix_formed.specs.Typed.{Told, IsResult, Fits}
use Rattle.ix_formed.proofs.EachMember.{type_known}
use Rattle.ix_formed.proofs.NumberLists.{both_true}
use Rattle.ix_formed.proofs.TypedArrays.{cell_is}
use Rattle.ix_formed.proofs.TypedChecks.{parted, kept, reading_at}
use Rattle.ix_source.specs.Along.{Setting}
use Rattle.ix_source.specs.Sound as sound
use Rattle.ix_source.specs.Sound.{Soundness, used}
use Rattle.ix_source.specs.WellNamed.{View, viewed, IsSound, IsSoundTarget, IsSoundFilling}
use Rattle.ix_source.proofs.SoundParts.{used_is, check_used, computed_sound}

-- what has elements is an array
array_real : (p : Program) (ty : Type_) → IsResult p ty → is_some (element ty) ≡ true → is_type p ty ≡ true
array_real p type.Void result e = absurd (false≢true e)
array_real p (type.Plain b) result e = absurd (false≢true e)
array_real p (type.Array b depth claims) result e = result

array_is : (p : Program) (ty : Type_) → is_type p ty ≡ true → is_some (element ty) ≡ true → is_array p ty ≡ true
array_is p type.Void real e = absurd (false≢true e)
array_is p (type.Plain b) real e = absurd (false≢true e)
array_is p (type.Array b depth claims) real e = real

module _ (y : typed.Setting) (set : typed.IsSet y) (v : View) where
  abbrev z : Setting
  z = viewed y v

  -- ---- elements

  module _ (l m : Lowering) (a b : Reading) (s t : Soundness) (f : Fits y l a) (g : Fits y m b) (h : IsSound y v s a) (k : IsSound y v t b) where
    array_used : Told y (reading.array_part a y.names).notes → used s z ≡ true
    array_used = by_null a.is_null
      where
        by_null : (n : Bool) → Told y (if n then judged None (types.wrong rule.TypeMismatch a.span) else judged (element_in (a.judge y.names).ty) ((a.judge y.names).notes ++ reading.no_array (a.judge y.names).ty a.span)).notes → used s z ≡ true
        by_null true said = absurd said.0
        by_null false said =
            let q = parted y (a.judge y.names).notes (reading.no_array (a.judge y.names).ty a.span) said in
            let j = f.value q.0 in
            let w = subst (λ o. Told y (reading.no_array o a.span)) j.typed q.1 in
            used_is y set v s a.span h.span (h.value q.0) j.ty j.table (array_real y.program j.ty j.of_type (kept y (is_some (element j.ty)) rule.TypeMismatch a.span w))

    access_used : Told y (reading.access a b y.names).notes → sound.both_used s t z ≡ true
    access_used said =
        let q = parted y (reading.array_part a y.names).notes (check b y.names (of int_type)).notes said in
        both_true (used s z) (used t z) (array_used q.0) (check_used y set v m b t g k int_type refl q.1)

    abbrev element_reading : KindReading
    element_reading = valued (λ s p. reading.access a b s)

    pub element_sound : (span : Span) → IsSound y v (sound.element s t span) (reading_at y set element_reading span)
    element_sound span = computed_sound y set v span element_reading (sound.element s t span) refl (λ at. refl) refl refl (λ said table. access_used said)

    pub element_target : (span : Span) → IsSoundTarget y v (sound.element s t span) (reading_at y set element_reading span)
    element_target span said = access_used (parted y (reading.access a b y.names).notes (type_note (reading.access a b y.names).ty span) said).0

  -- ---- new arrays

  pub new_array_sound : (tree : TypeTree) (l : Lowering) (r : Reading) (s : Soundness) (span : Span) → Fits y l r → IsSound y v s r → IsSound y v (sound.computes (used s) span) (reading_at y set (valued (λ s p. reading.sized r s (reading.created s tree))) span)
  new_array_sound tree l r s span f k = computed_sound y set v span (valued (λ s p. reading.sized r s (reading.created s tree))) (sound.computes (used s) span) refl (λ at. refl) refl refl
      (λ said table. check_used y set v l r s f k int_type refl (parted y (reading.created y.names tree).notes (check r y.names (of int_type)).notes said).1)

  created_is : (tree : TypeTree) → nat_lt 0 tree.depth ≡ true → Told y (reading.created y.names tree).notes → (ty : Type_) × ((reading.created y.names tree).ty ≡ Some ty) × (is_array y.program ty ≡ true)
  created_is tree deep said =
      let a = parted y (written y.names.world.class tree []).notes (given (names_nothing (reading.created_target tree)) tree.annots).notes said in
      let known = type_known (λ note. Agrees y.scope.site.names y.parts note) (λ error wrong. wrong) y.names.world.class tree (distinct (given (names_nothing (reading.created_target tree)) tree.annots).claims) a.0 in
      (known.0, known.1, set.members.created tree known.0 deep known.1)

  -- ---- lists in braces

  abbrev pub AllFilled : List (Setting → Bool) → List reading.Filling → Type 0
  AllFilled [] [] = Unit {0}
  AllFilled (s ∷ ss) (f ∷ fs) = IsSoundFilling y v s f × AllFilled ss fs
  AllFilled _ _ = ⊥

  fillings_sound : (ss : List (Setting → Bool)) (fs : List reading.Filling) → AllFilled ss fs → (ty : Type_) → is_type y.program ty ≡ true → Told y (reading.fillings fs y.names (Some ty)) → sound.all_sound ss z ≡ true
  fillings_sound [] [] all ty real said = refl
  fillings_sound (s ∷ ss) (f ∷ fs) all ty real said =
      let q = parted y (f y.names (Some ty)) (reading.fillings fs y.names (Some ty)) said in
      both_true (s z) _ (all.0 ty real q.0) (fillings_sound ss fs all.1 ty real q.1)
  fillings_sound [] (f ∷ fs) all ty real said = absurd all
  fillings_sound (s ∷ ss) [] all ty real said = absurd all

  -- the entries of an array of that type
  entries_sound : (ss : List (Setting → Bool)) (fs : List reading.Filling) → AllFilled ss fs → (ty : Type_) → is_array y.program ty ≡ true → Told y (reading.fillings fs y.names (element_in (Some ty))) → sound.all_sound ss z ≡ true
  entries_sound ss fs all ty array said =
      let cell = cell_is y.program ty array in
      fillings_sound ss fs all (cell_type ty) cell.1 (subst (λ o. Told y (reading.fillings fs y.names o)) cell.0 said)

  pub new_items_sound : (tree : TypeTree) (ss : List (Setting → Bool)) (fs : List reading.Filling) (span : Span) → nat_lt 0 tree.depth ≡ true → AllFilled ss fs
      → IsSound y v (sound.computes (sound.all_sound ss) span) (reading_at y set (valued (λ s p. reading.filled fs s (reading.created s tree))) span)
  new_items_sound tree ss fs span deep all = computed_sound y set v span (valued (λ s p. reading.filled fs s (reading.created s tree))) (sound.computes (sound.all_sound ss) span) refl (λ at. refl) refl refl
      (λ said table.
      let a = parted y (reading.created y.names tree).notes (reading.fillings fs y.names (element_in (reading.created y.names tree).ty)) said in
      let is = created_is tree deep a.0 in
      entries_sound ss fs all is.0 is.2 (subst (λ o. Told y (reading.fillings fs y.names (element_in o))) is.1 a.1))

  -- ---- initialisers

  pub value_filled : (l : Lowering) (r : Reading) (s : Soundness) → Fits y l r → IsSound y v s r → IsSoundFilling y v (sound.init_step (Init-F.Value s)) (reading.init_step (Init-F.Value r))
  value_filled l r s f k ty real said = check_used y set v l r s f k ty real said

  pub items_filled : (ss : List (Setting → Bool)) (fs : List reading.Filling) (span : Span) → AllFilled ss fs → IsSoundFilling y v (sound.init_step (Init-F.Items ss span)) (reading.init_step (Init-F.Items fs span))
  items_filled ss fs span all ty real said =
      let a = parted y (rules.list_mismatch (of ty) span) (reading.fillings fs y.names (element ty)) said in
      entries_sound ss fs all ty (array_is y.program ty real (kept y (is_some (element ty)) rule.TypeMismatch span a.0)) a.1
