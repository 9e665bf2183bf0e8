-- The classes, fields and methods of sources that are the same up to places.
use Rattle.std.proofs.Common.{◌≡◌, ℕ, ◌+◌, List, [], ◌∷◌, ◌++◌, map, Option, refl, sym, ap, ap₂, ◌∙◌}
use Rattle.std.proofs.Math.Path.{fun_ext}
use Rattle.std.specs.Prelude.{slice_get}
use Rattle.std.proofs.lemmas.List.{map-append}
use Rattle.ix_tree.specs.declared.decl.ClassDecl.{ClassDecl}
use Rattle.ix_tree.specs.declared.decl.Member.{Member}
use Rattle.ix_meaning.specs.declared.members.Field.{Field}
use Rattle.ix_meaning.specs.declared.members.Signature.{Signature}
use Rattle.ix_meaning.specs.Classes.{class_named, parents}
use Rattle.ix_meaning.specs.Declarators as declared
use Rattle.ix_meaning.specs.Members.{ClassOf, next_fields, fields_in, fields_from, fields, methods, class_name, world}
use Rattle.ix_guard_text.specs.Bare.{bare_member, bare_class}
use Rattle.ix_guard_text.proofs.MembersMove.{next_fields_moved}
use Rattle.ix_guard_text.proofs.WorldsMove.{class_named_moved, parents_moved, methods_moved, fields_in_moved, class_name_is, world_of, world_is}
use Rattle.ix_guard_text.specs.Alike.{joined}
use Rattle.ix_guard_text.specs.Gathered.{gathered, bare_field, bare_signature, bare_world}
use Rattle.ix_guard_text.proofs.FieldsAgain.{members_again}

-- ---- fields

pub next_again : (next : ℕ) (ms ns : List Member) → map bare_member ms ≡ map bare_member ns → next_fields next ms ≡ next_fields next ns
next_again next ms ns e = sym (next_fields_moved gathered next ms) ∙ ap (next_fields next) e ∙ next_fields_moved gathered next ns

fields_from_again : (class : ClassOf) (c next : ℕ) (us vs : List ClassDecl) → map bare_class us ≡ map bare_class vs → map joined us ≡ map joined vs
    → map bare_field (fields_from class c next us) ≡ map bare_field (fields_from class c next vs)
fields_from_again class c next [] [] e j = refl
fields_from_again class c next [] (v ∷ vs) e j = cc
fields_from_again class c next (u ∷ us) [] e j = cc
fields_from_again class c next (u ∷ us) (v ∷ vs) e j =
    let here : bare_class u ≡ bare_class v = cc in
    let later : map bare_class us ≡ map bare_class vs = cc in
    let here_joined : joined u ≡ joined v = cc in
    let later_joined : map joined us ≡ map joined vs = cc in
    let same : map bare_member u.members ≡ map bare_member v.members = ap (λ (k : ClassDecl). k.members) here in
    let first : map bare_field (fields_in class c next (declared.members u.members)) ≡ map bare_field (fields_in class c next (declared.members v.members)) =
    sym (fields_in_moved gathered class c next (declared.members u.members))
    ∙ ap (fields_in class c next) (members_again u.members v.members same here_joined)
    ∙ fields_in_moved gathered class c next (declared.members v.members) in
    let rest : map bare_field (fields_from class (c + 1) (next_fields next u.members) us) ≡ map bare_field (fields_from class (c + 1) (next_fields next v.members) vs) =
    fields_from_again class (c + 1) (next_fields next u.members) us vs later later_joined
    ∙ ap (λ n. map bare_field (fields_from class (c + 1) n vs)) (next_again next u.members v.members same) in
    map-append bare_field (fields_in class c next (declared.members u.members)) (fields_from class (c + 1) (next_fields next u.members) us)
    ∙ ap₂ (λ (xs : List Field) (ys : List Field). xs ++ ys) first rest
    ∙ sym (map-append bare_field (fields_in class c next (declared.members v.members)) (fields_from class (c + 1) (next_fields next v.members) vs))

-- ---- what two sources have in common

pub class_named_again : (us vs : List ClassDecl) → map bare_class us ≡ map bare_class vs → class_named us ≡ class_named vs
class_named_again us vs e = sym (class_named_moved gathered us) ∙ ap class_named e ∙ class_named_moved gathered vs

pub parents_again : (us vs : List ClassDecl) → map bare_class us ≡ map bare_class vs → parents us ≡ parents vs
parents_again us vs e = sym (parents_moved gathered us) ∙ ap parents e ∙ parents_moved gathered vs

pub methods_again : (us vs : List ClassDecl) → map bare_class us ≡ map bare_class vs → map bare_signature (methods us) ≡ map bare_signature (methods vs)
methods_again us vs e = sym (methods_moved gathered us) ∙ ap methods e ∙ methods_moved gathered vs

pub fields_again : (us vs : List ClassDecl) → map bare_class us ≡ map bare_class vs → map joined us ≡ map joined vs → map bare_field (fields us) ≡ map bare_field (fields vs)
fields_again us vs e j =
    ap (λ (class : ClassOf). map bare_field (fields_from class 0 0 us)) (class_named_again us vs e) ∙ fields_from_again (class_named vs) 0 0 us vs e j

class_name_again : (us vs : List ClassDecl) → map bare_class us ≡ map bare_class vs → (c : ℕ) → class_name (slice_get us c) ≡ class_name (slice_get vs c)
class_name_again us vs e c = sym (class_name_is gathered us c) ∙ ap (λ (cs : List ClassDecl). class_name (slice_get cs c)) e ∙ class_name_is gathered vs c

-- ---- the whole

-- where the fields are the same up to places
pub world_with : (us vs : List ClassDecl) → map bare_class us ≡ map bare_class vs → map bare_field (fields us) ≡ map bare_field (fields vs) → bare_world (world us) ≡ bare_world (world vs)
world_with us vs e same =
    world_is gathered us
    ∙ ap₂ (λ (class : ClassOf) (ps : List (Option ℕ)). world_of class ps (map bare_field (fields us)) (map bare_signature (methods us)) (λ c. class_name (slice_get us c))) (class_named_again us vs e) (parents_again us vs e)
    ∙ ap₂ (λ (fs : List Field) (ms : List Signature). world_of (class_named vs) (parents vs) fs ms (λ c. class_name (slice_get us c))) same (methods_again us vs e)
    ∙ ap (λ (names : ℕ → List ℕ). world_of (class_named vs) (parents vs) (map bare_field (fields vs)) (map bare_signature (methods vs)) names) (fun_ext (class_name_again us vs e))
    ∙ sym (world_is gathered vs)

pub world_again : (us vs : List ClassDecl) → map bare_class us ≡ map bare_class vs → map joined us ≡ map joined vs → bare_world (world us) ≡ bare_world (world vs)
world_again us vs e j = world_with us vs e (fields_again us vs e j)
