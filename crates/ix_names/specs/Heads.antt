-- Parts of a method or constructor, by the scope that they stand in.
use Rattle.std.specs.Prelude.{ℕ, Bool, not, ◌||◌, if◌then◌else◌, Option, Some, None, List, [], ◌++◌, map}
use Rattle.ix_tree.specs.declared.annot.Annot.{Annot}
use Rattle.ix_tree.specs.declared.annot.TypeTree.{TypeTree}
use Rattle.ix_tree.specs.declared.decl.MethodDecl.{MethodDecl}
use Rattle.ix_core.specs.declared.claim.Type_.TheVariants.{Void}
use Rattle.ix_meaning.specs.declared.members.Signature.{Signature}
use Rattle.ix_meaning.specs.declared.note.Note.{Note}
use Rattle.ix_meaning.specs.Annotated.{Given, given, aimed, Declaration, variable, marked, of_result}
use Rattle.ix_meaning.specs.Bodies.{all_told, telling, declares_note}
use Rattle.ix_meaning.specs.Members.{World}
use Rattle.ix_meaning.specs.Scope.{Scope, annot_names}
use Rattle.ix_meaning.specs.Source.{method_target, nothing_declared, return_need, outside_object}
use Rattle.ix_class_members.specs.declared.part.Part.{Part}
use Rattle.ix_class_members.specs.declared.part.Part.TheVariants.{All, OfMethod}
use Rattle.ix_class_members.specs.Parts.{chosen}
use Rattle.ix_names.specs.Declarations.{member_scope, params_from, params_notes}
use Rattle.ix_names.specs.Parents.{super_notes}

abbrev pub part : Bool → Part
part constructor = if constructor then All else OfMethod

abbrev pub method_given : Scope → Signature → List Annot → Given
method_given s m annots = given (aimed (annot_names s None None) (method_target m)) (chosen (part m.constructor) annots)

abbrev pub result_of : Scope → List Annot → Option TypeTree → Declaration
result_of s annots None = record { ty = Some Void; claims = []; notes = (given (annot_names s None None) (of_result annots)).notes }
result_of s annots (Some ty) = variable s.world.class (annot_names s None None) (of_result annots) ty

abbrev pub result_given : Scope → Signature → MethodDecl → Declaration
result_given s m d = if m.constructor then nothing_declared else result_of s d.mods.annots d.result

abbrev pub head_notes : Scope → Signature → MethodDecl → List Note
head_notes s m d =
    (result_given s m d).notes
    ++ ((method_given s m d.mods.annots).notes
    ++ (declares_note d.name.span m.result (marked (result_given s m d).claims (method_given s m d.mods.annots))
    ++ params_notes s [] 0 d.params))

abbrev pub head_scope : World → ℕ → Signature → MethodDecl → Scope
head_scope w class m d = record (member_scope w class (not (m.is_static || m.constructor))) { names = params_from w 0 d.params }

-- the scope of the body, from that of the head
abbrev pub in_body : Scope → Signature → MethodDecl → Scope
in_body s m d = record s { has_object = not m.is_static; in_constructor = m.constructor; result = return_need m d.result; names_fields = not m.is_static }

abbrev pub body_notes : Scope → Bool → MethodDecl → List Note
body_notes s extends d = super_notes (outside_object s) extends d ++ (all_told (map telling d.body)).notes s
