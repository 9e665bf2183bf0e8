-- What isn't the number of a class has no members and no superclasses.
use Rattle.std.proofs.Common.{rules, subst, suc, lt_irrefl, ◌≡◌, ℕ, ◌+◌, ◌==◌, ◌<◌, ◌≤◌, Bool, false, ◌&&◌, cond, Option, Some, None, List, [], ◌∷◌, ◌++◌, length, refl, ap, sym, ◌∙◌, bytes_eq}
use Rattle.std.proofs.lemmas.Bool.{ne_eqb}
use Rattle.std.proofs.lemmas.Option.{slice_get_past}
use Rattle.ix_tree.specs.declared.decl.ClassDecl.{ClassDecl}
use Rattle.ix_tree.specs.declared.decl.Member.{Member}
use Rattle.ix_tree.specs.declared.decl.Member.TheVariants as member
use Rattle.ix_meaning.specs.Declarators.{members}
use Rattle.ix_meaning.specs.declared.members.Field.{Field}
use Rattle.ix_meaning.specs.declared.members.Signature.{Signature}
use Rattle.ix_meaning.specs.Classes.{parents_by, parent, parent_in, onward, way_up, unseen, supers}
use Rattle.ix_meaning.specs.Members.{ClassOf, next_field, next_fields, fields_in, fields_from, signature, methods_in, methods_from, own_field, callable_if}
use Rattle.ix_class_members.specs.First.{is_field_named}
use Rattle.ix_class_members.proofs.FirstNumbers.{the_callee}

-- ---- lists of which none passes a test

abbrev NonePass : {A : Type 0} → (A → Bool) → List A → Type 0
NonePass passes [] = Unit {0}
NonePass passes (a ∷ more) = (passes a ≡ false) × NonePass passes more

none_append : {A : Type 0} (passes : A → Bool) (xs ys : List A) → NonePass passes xs → NonePass passes ys → NonePass passes (xs ++ ys)
none_append passes [] ys hx hy = hy
none_append passes (x ∷ xs) ys hx hy = (hx.0, none_append passes xs ys hx.1 hy)

no_own_field : (c : ℕ) (name : List ℕ) (fs : List Field) → NonePass (is_field_named c name) fs → own_field fs c name ≡ None
no_own_field c name [] h = refl
no_own_field c name (f ∷ fs) h = ap (λ b. cond b (Some f) (own_field fs c name)) h.0 ∙ no_own_field c name fs h.1

pub no_callable : (passes : Signature → Bool) (k : ℕ) (ms : List Signature) → NonePass passes ms → callable_if passes k ms ≡ None
no_callable passes k [] h = refl
no_callable passes k (m ∷ ms) h =
    ap (λ b. cond b (Some (the_callee k m)) (callable_if passes (k + 1) ms)) h.0 ∙ no_callable passes (k + 1) ms h.1

-- ---- members of other classes

module _ (class : ClassOf) where
  fields_apart : (a c next : ℕ) (name : List ℕ) (ms : List Member) → (a == c) ≡ false → NonePass (is_field_named c name) (fields_in class a next ms)
  fields_apart a c next name [] ne = tt
  fields_apart a c next name (member.Field d ∷ ms) ne = (ap (λ b. b && bytes_eq d.name.text name) ne, fields_apart a c (next_field next d) name ms ne)
  fields_apart a c next name (member.Method m ∷ ms) ne = fields_apart a c next name ms ne

  before : (a c n : ℕ) → a + suc n ≤ c → (a == c) ≡ false
  before a c n le = let lt : a < c = search rules in ne_eqb a c (λ e. lt_irrefl c (subst (λ n. n < c) e lt))

  all_fields_apart : (a c next : ℕ) (name : List ℕ) (ks : List ClassDecl) → a + length ks ≤ c → NonePass (is_field_named c name) (fields_from class a next ks)
  all_fields_apart a c next name [] le = tt
  all_fields_apart a c next name (k ∷ ks) le =
      none_append (is_field_named c name) (fields_in class a next (members k.members)) (fields_from class (a + 1) (next_fields next k.members) ks)
      (fields_apart a c next name (members k.members) (before a c (length ks) le))
      (all_fields_apart (a + 1) c (next_fields next k.members) name ks (search rules))

  pub no_field_past : (c : ℕ) (name : List ℕ) (ks : List ClassDecl) → length ks ≤ c → own_field (fields_from class 0 0 ks) c name ≡ None
  no_field_past c name ks le = no_own_field c name (fields_from class 0 0 ks) (all_fields_apart 0 c 0 name ks (search rules))

  -- a test that asks for the class first
  module _ (c : ℕ) (also : Signature → Bool) where
    methods_apart : (a : ℕ) (ms : List Member) → (a == c) ≡ false → NonePass (λ m. m.class == c && also m) (methods_in class a ms)
    methods_apart a [] ne = tt
    methods_apart a (member.Field d ∷ ms) ne = methods_apart a ms ne
    methods_apart a (member.Method m ∷ ms) ne = (ap (λ b. b && also (signature class a m)) ne, methods_apart a ms ne)

    all_methods_apart : (a : ℕ) (ks : List ClassDecl) → a + length ks ≤ c → NonePass (λ m. m.class == c && also m) (methods_from class a ks)
    all_methods_apart a [] le = tt
    all_methods_apart a (k ∷ ks) le =
        none_append (λ m. m.class == c && also m) (methods_in class a k.members) (methods_from class (a + 1) ks)
        (methods_apart a k.members (before a c (length ks) le))
        (all_methods_apart (a + 1) ks (search rules))

    pub no_method_past : (ks : List ClassDecl) → length ks ≤ c → callable_if (λ m. m.class == c && also m) 0 (methods_from class 0 ks) ≡ None
    no_method_past ks le = no_callable (λ m. m.class == c && also m) 0 (methods_from class 0 ks) (all_methods_apart 0 ks (search rules))

-- ---- superclasses

length_parents : (class : ClassOf) (ks : List ClassDecl) → length (parents_by class ks) ≡ length ks
length_parents class [] = refl
length_parents class (k ∷ ks) = ap suc (length_parents class ks)

pub no_parent_past : (class : ClassOf) (ks : List ClassDecl) (c : ℕ) → length ks ≤ c → parent (parents_by class ks) c ≡ None
no_parent_past class ks c le =
    let past : length (parents_by class ks) ≤ c = subst (λ n. n ≤ c) (sym (length_parents class ks)) le in
    ap parent_in (slice_get_past (parents_by class ks) c past)

up_from : (ps turns : List (Option ℕ)) (c : ℕ) → parent ps c ≡ None → way_up ps turns c ≡ []
up_from ps [] c none = refl
up_from ps (turn ∷ turns) c none = ap (onward (way_up ps turns)) none

pub no_supers : (ps : List (Option ℕ)) (c : ℕ) → parent ps c ≡ None → supers ps c ≡ []
no_supers ps c none = ap (unseen (c ∷ [])) (up_from ps ps c none)
