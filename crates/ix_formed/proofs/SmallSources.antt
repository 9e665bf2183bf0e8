-- A source that passes no limit on names has few declarations.
use Rattle.std.proofs.Common.{◌≡◌, ◌≤◌, ◌<◌, ℕ, zero, suc, ◌+◌, Bool, true, false, List, [], ◌∷◌, length, Option, Some, None, refl, arith}
use Rattle.std.specs.Prelude.{if◌then◌else◌}
use Rattle.ix_tree.specs.declared.annot.Ident.{Ident}
use Rattle.ix_tree.specs.declared.decl.ClassDecl.{ClassDecl}
use Rattle.ix_tree.specs.declared.decl.LocalDecl.{LocalDecl}
use Rattle.ix_tree.specs.declared.decl.Member.{Member}
use Rattle.ix_tree.specs.declared.decl.Member.TheVariants as member
use Rattle.ix_tree.specs.declared.decl.MethodDecl.{MethodDecl}
use Rattle.ix_annot.specs.Named.{or_else}
use Rattle.ix_meaning.specs.declared.note.Which.{Which}
use Rattle.ix_meaning.specs.declared.note.Which.TheVariants as which
use Rattle.ix_meaning.specs.Limits.{limit, past_names, past_params, past_claims, class_names, method_names, param_names, all_methods, all_annots, most_classes, most_methods, most_params}
use Rattle.ix_meaning.specs.Source.{members_in}
use Rattle.ix_plain.specs.Counts.{most_counted}
use Rattle.ix_formed.specs.Additions.{AllOf}
use Rattle.ix_formed.specs.Shape.{IsSmall, field_count, all_field_count}

none_first : {A : Type 0} (first second : Option A) → or_else first second ≡ None → (first ≡ None) × (second ≡ None)
none_first None second e = (refl, e)
none_first (Some x) second e = absurd cc

few_names : (w : Which) (names : List Ident) (most : ℕ) → past_names w most names ≡ None → length names ≤ most
few_names w [] most e = omega arith
few_names w (name ∷ names) zero e = absurd cc
few_names w (name ∷ names) (suc most) e = let le = few_names w names most e in omega (arith, le)

class_names_length : (decls : List ClassDecl) → length (class_names decls) ≡ length decls
class_names_length [] = refl
class_names_length (decl ∷ decls) = let e = class_names_length decls in omega (arith, e)

method_names_length : (methods : List MethodDecl) → length (method_names methods) ≡ length methods
method_names_length [] = refl
method_names_length (method ∷ methods) = let e = method_names_length methods in omega (arith, e)

param_names_length : (params : List LocalDecl) → length (param_names params) ≡ length params
param_names_length [] = refl
param_names_length (param ∷ params) = let e = param_names_length params in omega (arith, e)

few_params : (methods : List MethodDecl) → past_params methods ≡ None → AllOf (λ (m : MethodDecl). length m.params ≤ 32) methods
few_params [] e = tt
few_params (method ∷ methods) e =
    let parts = none_first (past_names which.Parameters most_params (param_names method.params)) (past_params methods) e in
    ((let le = few_names which.Parameters (param_names method.params) most_params parts.0 in let l = param_names_length method.params in omega (arith, le, l)), few_params methods parts.1)

pub small : (decls : List ClassDecl) → limit decls ≡ None → members_in decls < most_counted → IsSmall decls
small decls e members =
    let one = none_first (past_names which.Classes most_classes (class_names decls))
    (or_else (past_names which.Methods most_methods (method_names (all_methods decls))) (or_else (past_params (all_methods decls)) (past_claims (all_annots decls)))) e in
    let two = none_first (past_names which.Methods most_methods (method_names (all_methods decls))) (or_else (past_params (all_methods decls)) (past_claims (all_annots decls))) one.1 in
    let three = none_first (past_params (all_methods decls)) (past_claims (all_annots decls)) two.1 in
    record {
      classes = let le = few_names which.Classes (class_names decls) most_classes one.0 in let l = class_names_length decls in omega (arith, le, l);
      methods = let le = few_names which.Methods (method_names (all_methods decls)) most_methods two.0 in let l = method_names_length (all_methods decls) in omega (arith, le, l);
      params = few_params (all_methods decls) three.0;
      members = members;
    }

few_fields_in : (members : List Member) → field_count members ≤ length members
few_fields_in [] = omega arith
few_fields_in (member.Field decl ∷ members) = static_or_not decl.mods.is_static (few_fields_in members)
  where
    static_or_not : (b : Bool) → field_count members ≤ length members → (if b then 0 else 1) + field_count members ≤ length (member.Field decl ∷ members)
    static_or_not true le = omega (arith, le)
    static_or_not false le = omega (arith, le)
few_fields_in (member.Method decl ∷ members) = let le = few_fields_in members in omega (arith, le)

pub few_fields : (decls : List ClassDecl) → all_field_count decls ≤ members_in decls
few_fields [] = omega arith
few_fields (decl ∷ decls) = let a = few_fields_in decl.members in let b = few_fields decls in omega (arith, a, b)
