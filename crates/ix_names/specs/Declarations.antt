-- Parts of the declarations of members, by the scope that they stand in.
use Rattle.std.specs.Prelude.{ℕ, ◌+◌, Bool, false, Some, None, List, [], ◌∷◌, ◌++◌}
use Rattle.ix_tree.specs.declared.decl.LocalDecl.{LocalDecl}
use Rattle.ix_core.specs.declared.claim.Name.TheVariants as name
use Rattle.ix_meaning.specs.declared.note.Meaning.TheVariants.{Param}
use Rattle.ix_meaning.specs.declared.note.Note.{Note}
use Rattle.ix_meaning.specs.Annotated.{Declaration, variable, of_variable}
use Rattle.ix_meaning.specs.Bodies.{declares_note}
use Rattle.ix_meaning.specs.Members.{World, param_type}
use Rattle.ix_meaning.specs.Rules.{duplicate_name}
use Rattle.ix_meaning.specs.Scope.{Scope, Known, annot_names}
use Rattle.ix_meaning.specs.Source.{is_named_in}

-- the scope of a member that declares no parameters
abbrev pub member_scope : World → ℕ → Bool → Scope
member_scope w class has_object = record {
  world = w;
  class = class;
  has_object = has_object;
  in_constructor = false;
  in_loop = false;
  result = None;
  pending = None;
  names = [];
  next = 0;
  names_fields = has_object;
}

abbrev pub instance_declaration : Scope → ℕ → LocalDecl → Declaration
instance_declaration s number d = variable s.world.class (annot_names s (Some (name.FieldNamed number)) None) d.mods.annots d.ty

abbrev pub param_known : World → ℕ → LocalDecl → Known
param_known w k d = record { name = d.name.text; meaning = Param k; ty = param_type w.class d; is_fixed = d.mods.is_final }

abbrev pub params_from : World → ℕ → List LocalDecl → List Known
params_from w k [] = []
params_from w k (d ∷ ds) = param_known w k d ∷ params_from w (k + 1) ds

abbrev pub param_declaration : Scope → ℕ → LocalDecl → Declaration
param_declaration s number d = variable s.world.class (annot_names s (Some (name.Param number)) None) d.mods.annots d.ty

-- one parameter, behind those before it
abbrev pub param_notes : Scope → List LocalDecl → ℕ → LocalDecl → List Note
param_notes s before k d =
    duplicate_name (is_named_in before d.name.text) d.name.span
    ++ ((param_declaration s k d).notes
    ++ declares_note d.name.span (param_declaration s k d).ty (of_variable (param_declaration s k d).claims))

abbrev pub params_notes : Scope → List LocalDecl → ℕ → List LocalDecl → List Note
params_notes s before k [] = []
params_notes s before k (d ∷ ds) = param_notes s before k d ++ params_notes s (before ++ d ∷ []) (k + 1) ds
