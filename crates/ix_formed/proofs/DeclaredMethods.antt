-- The methods of the program have the classes, parameters and results of the source's.
use Rattle.std.proofs.Common.{◌≡◌, ℕ, ◌+◌, Bool, true, false, List, [], ◌∷◌, ◌++◌, map, Option, Some, None, refl, sym, ap, subst, ◌∙◌}
use Rattle.std.specs.Prelude.{if◌then◌else◌, ◌||◌, not}
use Rattle.std.proofs.lemmas.Bool.{false≢true, and_parts}
use Rattle.ix_core.specs.declared.claim.Type_.{Type_}
use Rattle.ix_core.specs.declared.claim.Type_.TheVariants.{Void}
use Rattle.ix_tree.specs.declared.annot.TypeTree.{TypeTree}
use Rattle.ix_tree.specs.declared.decl.LocalDecl.{LocalDecl}
use Rattle.ix_tree.specs.declared.decl.MethodDecl.{MethodDecl}
use Rattle.ix_tree.specs.Parts.{Part}
use Rattle.ix_meaning.specs.declared.members.Signature.{Signature}
use Rattle.ix_meaning.specs.declared.note.Note.{Note}
use Rattle.ix_meaning.specs.declared.note.NameError.{NameError}
use Rattle.ix_meaning.specs.Annotated.{variable, written, element_claims, target_before, given, of_variable, marked}
use Rattle.ix_meaning.specs.Bodies.{declares_note, all_told, telling}
use Rattle.ix_meaning.specs.Members.{signature, param_type, result_type}
use Rattle.ix_meaning.specs.Resolved.{Names}
use Rattle.ix_meaning.specs.Rules.{duplicate_name}
use Rattle.ix_meaning.specs.Scope.{Scope}
use Rattle.ix_meaning.specs.Source as source
use Rattle.ix_meaning.specs.Source.{Place}
use Rattle.ix_plain.specs.Scope.{declared_type}
use Rattle.ix_formed.specs.NoErrors.{Agrees}
use Rattle.ix_formed.specs.Shape.{types_of}
use Rattle.ix_formed.specs.Written.{is_written_method, has_no_result}
use Rattle.ix_formed.proofs.DeclaredFields.{Says}
use Rattle.ix_formed.proofs.EachMember.{said_parts, type_known}

module _ (names : Names) (parts : List Part) where
  abbrev Told : List Note → Type 0
  Told notes = Says names parts notes

  none_wrong : (error : NameError) → ⊥ → ⊥
  none_wrong error wrong = wrong

  -- ---- the notes of a method, one part after the other

  pub record MethodSays (l : Place) (m : Signature) (d : MethodDecl) : Type 0 where
    pub constructor : Told (source.constructor_notes l d)
    pub inherited : Told (source.inherited_notes l m)
    pub result : Told (source.result_given l (source.head_scope l m d) m d).notes
    pub marks : Told (source.method_given l (source.head_scope l m d) m d.mods.annots).notes
    pub declares : Told (declares_note d.name.span m.result (marked (source.result_given l (source.head_scope l m d) m d).claims (source.method_given l (source.head_scope l m d) m d.mods.annots)))
    pub params : Told (source.param_notes l (source.head_scope l m d) [] 0 d.params)
    pub supers : Told (source.super_notes l (source.body_scope l m d) d)
    pub body : Told ((all_told (map telling d.body)).notes (source.body_scope l m d))

  pub method_says : (l : Place) (m : Signature) (d : MethodDecl) → Told (source.method_notes l m d) → MethodSays l m d
  method_says l m d said =
      let So = Agrees names parts in
      let a = said_parts So (source.constructor_notes l d) _ said in
      let b = said_parts So (source.inherited_notes l m) _ a.1 in
      let c = said_parts So (source.result_given l (source.head_scope l m d) m d).notes _ b.1 in
      let e = said_parts So (source.method_given l (source.head_scope l m d) m d.mods.annots).notes _ c.1 in
      let f = said_parts So (declares_note d.name.span m.result (marked (source.result_given l (source.head_scope l m d) m d).claims (source.method_given l (source.head_scope l m d) m d.mods.annots))) _ e.1 in
      let g = said_parts So (source.param_notes l (source.head_scope l m d) [] 0 d.params) _ f.1 in
      let h = said_parts So (source.super_notes l (source.body_scope l m d) d) _ g.1 in
      record { constructor = a.0; inherited = b.0; result = c.0; marks = e.0; declares = f.0; params = g.0; supers = h.0; body = h.1 }

  -- ---- parameters

  -- what the notes of a parameter say
  pub record ParamSays (l : Place) (s : Scope) (k : ℕ) (d : LocalDecl) : Type 0 where
    pub ty : Type_
    pub typed : param_type l.world.class d ≡ Some ty
    pub table : names.declared d.name.span ≡ Some (record { ty = ty; claims = of_variable (source.param_declaration l s k d).claims })

  abbrev pub ParamsSay : Place → Scope → ℕ → List LocalDecl → Type 0
  ParamsSay l s k [] = Unit {0}
  ParamsSay l s k (d ∷ ds) = ParamSays l s k d × ParamsSay l s (k + 1) ds

  pub params_say : (l : Place) (s : Scope) (before : List LocalDecl) (k : ℕ) (ds : List LocalDecl) → Told (source.param_notes l s before k ds) → ParamsSay l s k ds
  params_say l s before k [] said = tt
  params_say l s before k (d ∷ ds) said =
      let So = Agrees names parts in
      let own = source.param_declaration l s k d in
      let a = said_parts So (duplicate_name (source.is_named_in before d.name.text) d.name.span) _ said in
      let b = said_parts So own.notes _ a.1 in
      let c = said_parts So (declares_note d.name.span own.ty (of_variable own.claims)) _ b.1 in
      let known = type_known So none_wrong l.world.class d.ty (element_claims (target_before d.ty) d.mods.annots) (said_parts So (written l.world.class d.ty []).notes _ b.0).0 in (
        record { ty = known.0; typed = known.1; table = (subst (λ (o : Option Type_). Told (declares_note d.name.span o (of_variable own.claims))) known.1 c.0).0 },
        params_say l s (before ++ d ∷ []) (k + 1) ds c.1,
      )

  pub params_typed : (l : Place) (s : Scope) (k : ℕ) (ds : List LocalDecl) → ParamsSay l s k ds → map (λ t. Some t) (types_of names ds) ≡ map (param_type l.world.class) ds
  params_typed l s k [] say = refl
  params_typed l s k (d ∷ ds) say =
      ap (λ (t : Type_). Some t ∷ map (λ t. Some t) (types_of names ds)) (ap declared_type say.0.table) ∙ ap (λ (o : Option Type_). o ∷ map (λ t. Some t) (types_of names ds)) (sym say.0.typed)
      ∙ ap (λ (os : List (Option Type_)). param_type l.world.class d ∷ os) (params_typed l s (k + 1) ds say.1)

  -- ---- results

  -- what the notes of a method say of its result
  pub record ResultSays (l : Place) (m : Signature) (d : MethodDecl) : Type 0 where
    pub ty : Type_
    pub typed : m.result ≡ Some ty
    pub table : names.declared d.name.span ≡ Some (record { ty = ty; claims = marked (source.result_given l (source.head_scope l m d) m d).claims (source.method_given l (source.head_scope l m d) m d.mods.annots) })

  pub result_says : (l : Place) (d : MethodDecl) → is_written_method d ≡ true → MethodSays l (signature l.world.class l.class d) d → ResultSays l (signature l.world.class l.class d) d
  result_says l d w says =
      let m = signature l.world.class l.class d in
      let known = typed d.result refl (and_parts (not d.constructor || has_no_result d.result) _ w).0 says.result in
      record {
        ty = known.0;
        typed = known.1;
        table = (subst (λ (o : Option Type_). Told (declares_note d.name.span o (marked (source.result_given l (source.head_scope l m d) m d).claims (source.method_given l (source.head_scope l m d) m d.mods.annots)))) known.1 says.declares).0;
      }
    where
      typed : (result : Option TypeTree) → result ≡ d.result → (not d.constructor || has_no_result d.result) ≡ true
          → Told (source.result_given l (source.head_scope l (signature l.world.class l.class d) d) (signature l.world.class l.class d) d).notes → (t : Type_) × (result_type l.world.class d.mods.annots d.result ≡ Some t)
      typed None e w said = (Void, ap (result_type l.world.class d.mods.annots) (sym e))
      typed (Some ty) e w said =
          let s = source.head_scope l (signature l.world.class l.class d) d in
          let no_constructor : d.constructor ≡ false = by_constructor d.constructor (ap (λ r. not d.constructor || has_no_result r) e ∙ w) in
          let given_notes : Told (source.result_of l s (Rattle.ix_meaning.specs.Annotated.of_result d.mods.annots) (Some ty)).notes =
          subst (λ (r : Option TypeTree). Told (source.result_of l s (Rattle.ix_meaning.specs.Annotated.of_result d.mods.annots) r).notes) (sym e)
          (subst (λ b. Told (if b then source.nothing_declared else source.result_of l s (Rattle.ix_meaning.specs.Annotated.of_result d.mods.annots) d.result).notes) no_constructor said) in
          let known = type_known (Agrees names parts) none_wrong l.world.class ty (element_claims (target_before ty) (Rattle.ix_meaning.specs.Annotated.of_result d.mods.annots))
          (said_parts (Agrees names parts) (written l.world.class ty []).notes _ given_notes).0 in
          (known.0, ap (result_type l.world.class d.mods.annots) (sym e) ∙ known.1)
        where
          by_constructor : (b : Bool) → (not b || false) ≡ true → b ≡ false
          by_constructor true e = absurd (false≢true e)
          by_constructor false e = refl
