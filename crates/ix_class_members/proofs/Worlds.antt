-- The tables of all classes, one after the other.
use Rattle.std.proofs.Common.{rules, subst, ◌≡◌, ⊎_elim, not, ◌&&◌, bytes_eq, ℕ, ◌+◌, ◌≤◌, Option, Some, None, List, [], ◌∷◌, ◌++◌, length, ap, sym, ◌∙◌, slice_get, zero, suc}
use Rattle.std.proofs.lemmas.Option.{slice_get_cases}
use mathlib.Core.Path.{fun_ext}
use Rattle.std.specs.HashMap.{get_by_text}
use Rattle.ix_tree.specs.declared.decl.ClassDecl.{ClassDecl}
use Rattle.ix_meaning.specs.declared.members.Field.{Field}
use Rattle.ix_meaning.specs.declared.members.Signature.{Signature}
use Rattle.ix_meaning.specs.Classes.{class_named, parents, parent, supers}
use Rattle.ix_meaning.specs.Members.{World, Callee, world, fields, methods, own_field, own_method, own_constructor, is_method_named, is_constructor_named, class_name}
use Rattle.ix_class_members.specs.declared.world.ClassWorld.{ClassWorld}
use Rattle.ix_class_members.specs.declared.world.World.{World as Tables}
use Rattle.ix_class_members.specs.World.{parent_in, supers_in, field_in, method_in, constructor_in, number_in, callable_at, shown, IsWorld, IsClass, AreClasses}
use Rattle.ix_class_members.proofs.FirstNumbers.{own_field_numbered, callable_numbered}
use Rattle.ix_class_members.proofs.NoMembers.{no_field_past, no_method_past, no_parent_past, no_supers}

abbrev made : (List ℕ → Option ℕ) → (ℕ → Option ℕ) → (ℕ → List ℕ) → (ℕ → List ℕ → Option Field) → (ℕ → List ℕ → Option Callee) → (ℕ → Option Callee) → World
made a b c d e f = record { class = a; parent = b; supers = c; field = d; method = e; constructor = f }

same_world : (a b : World) → a.class ≡ b.class → a.parent ≡ b.parent → a.supers ≡ b.supers → a.field ≡ b.field → a.method ≡ b.method → a.constructor ≡ b.constructor → a ≡ b
same_world a b h1 h2 h3 h4 h5 h6 =
    ap (λ x. made x a.parent a.supers a.field a.method a.constructor) h1
    ∙ ap (λ x. made b.class x a.supers a.field a.method a.constructor) h2
    ∙ ap (λ x. made b.class b.parent x a.field a.method a.constructor) h3
    ∙ ap (λ x. made b.class b.parent b.supers x a.method a.constructor) h4
    ∙ ap (λ x. made b.class b.parent b.supers b.field x a.constructor) h5
    ∙ ap (λ x. made b.class b.parent b.supers b.field b.method x) h6

module _ (ps : List (Option ℕ)) (fs : List Field) (ms : List Signature) (all : List ClassDecl) where
  pub pushed : (c : ℕ) (ws : List ClassWorld) (w : ClassWorld) → AreClasses ps fs ms all c ws → IsClass ps fs ms all (c + length ws) w → AreClasses ps fs ms all c (ws ++ w ∷ [])
  pushed c [] w are is = (subst (λ n. IsClass ps fs ms all n w) (search rules) is, tt)
  pushed c (v ∷ ws) w are is = (are.0, pushed (c + 1) ws w are.1 (subst (λ n. IsClass ps fs ms all n w) (search rules) is))

  class_at : (c k : ℕ) (ws : List ClassWorld) (w : ClassWorld) → AreClasses ps fs ms all c ws → slice_get ws k ≡ Some w → IsClass ps fs ms all (c + k) w
  class_at c k [] w are is = cc
  class_at c zero (v ∷ ws) w are is = subst (λ n. IsClass ps fs ms all n w) (search rules) (subst (λ x. IsClass ps fs ms all c x) (search rules) are.0)
  class_at c (suc k) (v ∷ ws) w are is = subst (λ n. IsClass ps fs ms all n w) (search rules) (class_at (c + 1) k ws w are.1 is)

-- ---- the whole

module _ (all : List ClassDecl) (w : Tables) (ps : List (Option ℕ)) (parents_are : ps ≡ parents all) (fields_are : w.fields ≡ fields all) (methods_are : w.methods ≡ methods all)
    (are : AreClasses ps w.fields w.methods all 0 w.classes) (count : length w.classes ≡ length all) where
  past : (c : ℕ) → length w.classes ≤ c → length all ≤ c
  past c le = subst (λ n. n ≤ c) count le

  is_class : (c : ℕ) (v : ClassWorld) → slice_get w.classes c ≡ Some v → IsClass ps w.fields w.methods all c v
  is_class c v is = subst (λ n. IsClass ps w.fields w.methods all n v) (search rules) (class_at ps w.fields w.methods all 0 c w.classes v are is)

  no_parent : (c : ℕ) → length w.classes ≤ c → parent ps c ≡ None
  no_parent c le = ap (λ q. parent q c) parents_are ∙ no_parent_past (class_named all) all c (past c le)

  parent_is : (c : ℕ) → parent_in (slice_get w.classes c) ≡ parent ps c
  parent_is c =
      ⊎_elim
      (λ h. ap parent_in h.2 ∙ (is_class c h.0 h.2).parent)
      (λ h. ap parent_in h.1 ∙ sym (no_parent c h.0))
      (slice_get_cases w.classes c).1

  supers_is : (c : ℕ) → supers_in (slice_get w.classes c) ≡ supers ps c
  supers_is c =
      ⊎_elim
      (λ h. ap supers_in h.2 ∙ (is_class c h.0 h.2).supers)
      (λ h. ap supers_in h.1 ∙ sym (no_supers ps c (no_parent c h.0)))
      (slice_get_cases w.classes c).1

  field_is : (c : ℕ) (name : List ℕ) → field_in (slice_get w.classes c) name w.fields ≡ own_field (fields all) c name
  field_is c name =
      ⊎_elim
      (λ h. ap (λ o. field_in o name w.fields) h.2 ∙ ap (λ found. number_in found w.fields) ((is_class c h.0 h.2).fields name) ∙ own_field_numbered c name w.fields ∙ ap (λ fs. own_field fs c name) fields_are)
      (λ h. ap (λ o. field_in o name w.fields) h.1 ∙ sym (no_field_past (class_named all) c name all (past c h.0)))
      (slice_get_cases w.classes c).1

  method_is : (c : ℕ) (name : List ℕ) → method_in (slice_get w.classes c) name w.methods ≡ own_method (methods all) c name
  method_is c name =
      ⊎_elim
      (λ h. ap (λ o. method_in o name w.methods) h.2 ∙ ap (λ found. callable_at found w.methods) ((is_class c h.0 h.2).methods name) ∙ callable_numbered (is_method_named c name) w.methods ∙ ap (λ ms. own_method ms c name) methods_are)
      (λ h. ap (λ o. method_in o name w.methods) h.1 ∙ sym (no_method_past (class_named all) c (λ m. not m.constructor && bytes_eq m.name name) all (past c h.0)))
      (slice_get_cases w.classes c).1

  constructor_is : (c : ℕ) → constructor_in (slice_get w.classes c) w.methods ≡ own_constructor (methods all) c (class_name (slice_get all c))
  constructor_is c =
      ⊎_elim
      (λ h. ap (λ o. constructor_in o w.methods) h.2 ∙ ap (λ found. callable_at found w.methods) (is_class c h.0 h.2).constructor ∙ callable_numbered (is_constructor_named c (class_name (slice_get all c))) w.methods ∙ ap (λ ms. own_constructor ms c (class_name (slice_get all c))) methods_are)
      (λ h. ap (λ o. constructor_in o w.methods) h.1 ∙ sym (no_method_past (class_named all) c (λ m. m.constructor && bytes_eq m.name (class_name (slice_get all c))) all (past c h.0)))
      (slice_get_cases w.classes c).1

  pub is_world : get_by_text w.table ≡ class_named all → IsWorld all w ps
  is_world table_is = record {
    world =
        same_world (shown w) (world all) table_is
        (fun_ext (λ c. parent_is c ∙ ap (λ q. parent q c) parents_are))
        (fun_ext (λ c. supers_is c ∙ ap (λ q. supers q c) parents_are))
        (fun_ext (λ c. fun_ext (λ name. field_is c name)))
        (fun_ext (λ c. fun_ext (λ name. method_is c name)))
        (fun_ext constructor_is);
    fields = fields_are;
    methods = methods_are;
    parents = parents_are;
  }
