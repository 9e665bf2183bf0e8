-- Names mean the same in a scope whose fields and methods are at their places moved.
use Rattle.std.proofs.Common.{◌≡◌, ℕ, List, [], ◌∷◌, Option, Some, None, refl, ap, ◌∙◌}
use Rattle.std.proofs.Math.Path.{fun_ext}
use Rattle.std.specs.Prelude.{if◌then◌else◌}
use Rattle.ix_core.specs.declared.claim.Name.{Name}
use Rattle.ix_annot.specs.declared.scope.Found.{Found}
use Rattle.ix_annot.specs.declared.scope.Target.TheVariants as on
use Rattle.ix_annot.specs.declared.texts.Naming.{Naming}
use Rattle.ix_annot.specs.declared.texts.Naming.TheVariants.{Parameter, OfThis, Variable}
use Rattle.ix_annot.specs.Named.{Names, or_else}
use Rattle.ix_meaning.specs.declared.members.Field.{Field}
use Rattle.ix_meaning.specs.declared.note.Meaning.{Meaning}
use Rattle.ix_meaning.specs.declared.note.Meaning.TheVariants as m
use Rattle.ix_meaning.specs.Members.{World, Callee, or_nearest, nearest, field_named, method_named, params_in, constructor_params}
use Rattle.ix_meaning.specs.Scope.{Scope, is_pending, known_found, meant, instance_field, instance_field_in, field_of_this, found_at, annot_names}
use Rattle.ix_guard_text.specs.Bare.{bare_maybe as maybe}
use Rattle.ix_guard_text.specs.Moved.{Move}
use Rattle.ix_guard_text.specs.MovedScopes.{moved_field, moved_callee, moved_world, moved_scope}

or_nearest_moved : {A : Type 0} (of : A → A) (first further : Option A) → or_nearest (maybe of first) (maybe of further) ≡ maybe of (or_nearest first further)
or_nearest_moved of None further = refl
or_nearest_moved of (Some a) further = refl

pub nearest_moved : {A : Type 0} (of : A → A) (own : ℕ → Option A) (classes : List ℕ) → nearest (λ c. maybe of (own c)) classes ≡ maybe of (nearest own classes)
nearest_moved of own [] = refl
nearest_moved of own (c ∷ classes) = ap (or_nearest (maybe of (own c))) (nearest_moved of own classes) ∙ or_nearest_moved of (own c) (nearest own classes)

module _ (move : Move) where
  -- ---- members

  pub field_moved : (w : World) (c : ℕ) (name : List ℕ) → field_named (moved_world move w) c name ≡ maybe (moved_field move) (field_named w c name)
  field_moved w c name = nearest_moved (moved_field move) (λ a. w.field a name) (c ∷ w.supers c)

  pub method_moved : (w : World) (c : ℕ) (name : List ℕ) → method_named (moved_world move w) c name ≡ maybe (moved_callee move) (method_named w c name)
  method_moved w c name = nearest_moved (moved_callee move) (λ a. w.method a name) (c ∷ w.supers c)

  params_moved : (c : Option Callee) → params_in (maybe (moved_callee move) c) ≡ params_in c
  params_moved None = refl
  params_moved (Some c) = refl

  pub constructor_moved : (w : World) (c : ℕ) → constructor_params (moved_world move w) c ≡ constructor_params w c
  constructor_moved w c = params_moved (w.constructor c)

  -- ---- what an annotation may name

  instance_moved : (c : ℕ) (meaning : Option Meaning) (f : Field) → instance_field c meaning (moved_field move f) ≡ instance_field c meaning f
  instance_moved c None f = refl
  instance_moved c (Some (m.Local k)) f = refl
  instance_moved c (Some (m.Param k)) f = refl
  instance_moved c (Some (m.FieldNamed k)) f = refl
  instance_moved c (Some (m.Constant k)) f = refl
  instance_moved c (Some (m.ClassNamed k)) f = refl
  instance_moved c (Some (m.MethodNamed k)) f = refl
  instance_moved c (Some m.LengthOf) f = refl

  instance_in_moved : (c : ℕ) (f : Option Field) → instance_field_in c (maybe (moved_field move) f) ≡ instance_field_in c f
  instance_in_moved c None = refl
  instance_in_moved c (Some f) = instance_moved c f.meaning f

  of_this_moved : (s : Scope) (text : List ℕ) → field_of_this (moved_scope move s) text ≡ field_of_this s text
  of_this_moved s text = ap (λ (own : ℕ → Option Found). if s.names_fields then nearest own (s.class ∷ s.world.supers s.class) else None) (fun_ext (λ a. instance_in_moved s.class (s.world.field a text)))

  found_moved : (s : Scope) (own_local : Option (List ℕ)) (naming : Naming) → found_at (moved_scope move s) own_local naming ≡ found_at s own_local naming
  found_moved s own_local (Parameter number) = refl
  found_moved s own_local (OfThis text) = of_this_moved s text
  found_moved s own_local (Variable text) = ap (λ (f : Option Found). if is_pending own_local text then None else or_else (known_found (meant text s.names)) f) (of_this_moved s text)

  pub annot_names_moved : (s : Scope) (own : Option Name) (own_local : Option (List ℕ)) → annot_names (moved_scope move s) own own_local ≡ annot_names s own own_local
  annot_names_moved s own own_local = ap (λ (found : Naming → Option Found). let names : Names = record { found = found; target = on.Other; own = own } in names) (fun_ext (found_moved s own_local))
