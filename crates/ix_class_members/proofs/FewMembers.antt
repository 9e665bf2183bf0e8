-- There are no more fields, and no more methods, than members.
use Rattle.std.proofs.Common.{rules, ◌≡◌, ℕ, suc, ◌+◌, ◌≤◌, List, [], ◌∷◌, length, Option, None, refl, ap}
use Rattle.std.proofs.lemmas.List.{length-append}
use Rattle.ix_tree.specs.declared.decl.ClassDecl.{ClassDecl}
use Rattle.ix_tree.specs.declared.decl.LocalDecl.{LocalDecl}
use Rattle.ix_tree.specs.declared.decl.Member.{Member}
use Rattle.ix_tree.specs.declared.decl.Member.TheVariants as member
use Rattle.ix_meaning.specs.Declarators.{first_behind, members_behind, members}
use Rattle.ix_meaning.specs.Members.{ClassOf, next_field, next_fields, fields_in, fields_from, methods_in, methods_from}
use Rattle.ix_meaning.specs.Source.{members_in}

as_many : (first : Option LocalDecl) (ms : List Member) → length (members_behind first ms) ≡ length ms
as_many first [] = refl
as_many first (m ∷ ms) = ap suc (as_many (first_behind first m) ms)

module _ (class : ClassOf) where
  fields_within : (c next : ℕ) (ms : List Member) → length (fields_in class c next ms) ≤ length ms
  fields_within c next [] = search rules
  fields_within c next (member.Field d ∷ ms) = let rest : length (fields_in class c (next_field next d) ms) ≤ length ms = fields_within c (next_field next d) ms in search rules
  fields_within c next (member.Method m ∷ ms) = let rest : length (fields_in class c next ms) ≤ length ms = fields_within c next ms in search rules

  pub few_fields : (c next : ℕ) (ks : List ClassDecl) → length (fields_from class c next ks) ≤ members_in ks
  few_fields c next [] = search rules
  few_fields c next (k ∷ ks) =
      let same : length (members k.members) ≡ length k.members = as_many None k.members in
      let here : length (fields_in class c next (members k.members)) ≤ length (members k.members) = fields_within c next (members k.members) in
      let rest : length (fields_from class (c + 1) (next_fields next k.members) ks) ≤ members_in ks = few_fields (c + 1) (next_fields next k.members) ks in
      let both : length (fields_from class c next (k ∷ ks)) ≡ length (fields_in class c next (members k.members)) + length (fields_from class (c + 1) (next_fields next k.members) ks) =
      length-append (fields_in class c next (members k.members)) (fields_from class (c + 1) (next_fields next k.members) ks) in
      search rules

  methods_within : (c : ℕ) (ms : List Member) → length (methods_in class c ms) ≤ length ms
  methods_within c [] = search rules
  methods_within c (member.Field d ∷ ms) = let rest : length (methods_in class c ms) ≤ length ms = methods_within c ms in search rules
  methods_within c (member.Method m ∷ ms) = let rest : length (methods_in class c ms) ≤ length ms = methods_within c ms in search rules

  pub few_methods : (c : ℕ) (ks : List ClassDecl) → length (methods_from class c ks) ≤ members_in ks
  few_methods c [] = search rules
  few_methods c (k ∷ ks) =
      let here : length (methods_in class c k.members) ≤ length k.members = methods_within c k.members in
      let rest : length (methods_from class (c + 1) ks) ≤ members_in ks = few_methods (c + 1) ks in
      let both : length (methods_from class c (k ∷ ks)) ≡ length (methods_in class c k.members) + length (methods_from class (c + 1) ks) =
      length-append (methods_in class c k.members) (methods_from class (c + 1) ks) in
      search rules
