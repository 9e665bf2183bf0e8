-- Classes, fields and methods have the numbers of their places.
use Rattle.std.proofs.Common.{◌≡◌, ◌≤◌, ◌<◌, ℕ, suc, ◌+◌, Bool, true, false, List, [], ◌∷◌, ◌++◌, length, Option, refl, sym, ap, subst, ◌∙◌, arith, append_assoc, length-append}
use Rattle.std.specs.Prelude.{if◌then◌else◌, nat_lt, ◌==◌}
use Rattle.std.proofs.lemmas.Bool.Decides.{nat_tests}
use Rattle.std.proofs.lemmas.List.{append-nil}
use Rattle.ix_core.specs.declared.program.Class.{Class}
use Rattle.ix_core.specs.declared.program.Field.{Field}
use Rattle.ix_core.specs.Formed.{numbers_from, are_same_numbers, numbers_where}
use Rattle.ix_tree.specs.declared.decl.ClassDecl.{ClassDecl}
use Rattle.ix_tree.specs.declared.decl.LocalDecl.{LocalDecl}
use Rattle.ix_tree.specs.declared.decl.Member.{Member}
use Rattle.ix_tree.specs.declared.decl.Member.TheVariants as member
use Rattle.ix_meaning.specs.Limits.{methods_of, all_methods}
use Rattle.ix_meaning.specs.Resolved.{Names}
use Rattle.ix_meaning.specs.Source.{has_constructor}
use Rattle.ix_plain.specs.declared.numbers.Next.{Next}
use Rattle.ix_plain.specs.Counts.{one, most_counted}
use Rattle.ix_plain.specs.Members.{next_methods, next_fields, next_behind, field_of, with_field, fields_in, fields_from, own_fields, class_of, classes_from}
use Rattle.ix_formed.specs.Additions.{AllOf}
use Rattle.ix_formed.specs.Shape.{classes_of, own_field, fields_of_class, fields_of, field_count, IsNext, AllNumbered, ListsFields}
use Rattle.ix_formed.proofs.NumberLists.{from_ascends, ascends_same, Ascends, all_so, all_joined, where_here}

-- ---- numbers that go up by one

up_or_not : (b : Bool) (n : ℕ) → b ≡ nat_lt n most_counted → n < most_counted → (if b then n + 1 else n) ≡ n + 1
up_or_not true n e lt = refl
up_or_not false n e lt = absurd (grind (arith, nat_tests))

pub one_more : (n : ℕ) → n < most_counted → one n ≡ n + 1
one_more n lt = up_or_not (nat_lt n most_counted) n refl lt

fields_up : (next : ℕ) (members : List Member) → next + field_count members ≤ most_counted → next_fields next members ≡ next + field_count members
fields_up next [] le = omega arith
fields_up next (member.Field decl ∷ members) le = static_or_not decl.mods.is_static le (λ n f. fields_up n members f)
  where
    static_or_not : (b : Bool) → next + ((if b then 0 else 1) + field_count members) ≤ most_counted
        → ((n : ℕ) → n + field_count members ≤ most_counted → next_fields n members ≡ n + field_count members)
        → next_fields (if b then next else one next) members ≡ next + ((if b then 0 else 1) + field_count members)
    static_or_not true le rest = let e = rest next (omega (arith, le)) in omega (arith, e)
    static_or_not false le rest =
        let up = one_more next (omega (arith, le)) in
        ap (λ n. next_fields n members) up ∙ (let e = rest (next + 1) (omega (arith, le)) in omega (arith, e))
fields_up next (member.Method decl ∷ members) le = fields_up next members le

pub methods_up : (next : ℕ) (members : List Member) → next + length (methods_of members) ≤ most_counted → next_methods next members ≡ next + length (methods_of members)
methods_up next [] le = omega arith
methods_up next (member.Field decl ∷ members) le = methods_up next members le
methods_up next (member.Method decl ∷ members) le =
    let up = one_more next (omega (arith, le)) in
    ap (λ n. next_methods n members) up ∙ (let e = methods_up (next + 1) members (omega (arith, le)) in omega (arith, e))

default_up : (b : Bool) (next : ℕ) → next + (if b then 0 else 1) ≤ most_counted → (if b then next else one next) ≡ next + (if b then 0 else 1)
default_up true next le = omega arith
default_up false next le = one_more next (omega (arith, le))

-- the numbers behind a class
pub record Goes (next : Next) (decl : ClassDecl) : Type 0 where
  pub class : (next_behind next decl).class ≡ next.class + 1
  pub field : (next_behind next decl).field ≡ next.field + field_count decl.members
  pub method : (next_behind next decl).method ≡ next.method + length (methods_of decl.members)
  pub default : (next_behind next decl).default ≡ next.default + (if has_constructor decl.members then 0 else 1)

pub goes : (next : Next) (decl : ClassDecl) (decls : List ClassDecl) → IsNext next (decl ∷ decls) → Goes next decl
goes next decl decls is = record {
  class = one_more next.class (let e = is.classes in omega (arith, e));
  field = fields_up next.field decl.members (let e = is.fields in omega (arith, e));
  method = methods_up next.method decl.members (let e = is.methods in let l = length-append (methods_of decl.members) (all_methods decls) in omega (arith, e, l));
  default = default_up (has_constructor decl.members) next.default (let e = is.defaults in omega (arith, e));
}

pub goes_on : (next : Next) (decl : ClassDecl) (decls : List ClassDecl) → IsNext next (decl ∷ decls) → IsNext (next_behind next decl) decls
goes_on next decl decls is =
    let g = goes next decl decls is in
    record {
      classes = let e = is.classes in let f = g.class in omega (arith, e, f);
      fields = let e = is.fields in let f = g.field in omega (arith, e, f);
      methods = let e = is.methods in let f = g.method in let l = length-append (methods_of decl.members) (all_methods decls) in omega (arith, e, f, l);
      defaults = let e = is.defaults in let f = g.default in omega (arith, e, f);
    }

-- ---- classes

pub classes_behind : (classes : List Class) (next : Next) (parent : ℕ → Option ℕ) (decls : List ClassDecl) → classes_from classes next parent decls ≡ classes ++ classes_of next parent decls
classes_behind classes next parent [] = sym (append-nil classes)
classes_behind classes next parent (decl ∷ decls) =
    classes_behind (classes ++ class_of next (parent next.class) decl ∷ []) (next_behind next decl) parent decls
    ∙ append_assoc classes (class_of next (parent next.class) decl ∷ []) (classes_of (next_behind next decl) parent decls)

-- ---- fields

fields_in_behind : (names : Names) (fields : List Field) (class : ℕ) (members : List Member) → fields_in names fields class members ≡ fields ++ fields_of_class names class members
fields_in_behind names fields class [] = sym (append-nil fields)
fields_in_behind names fields class (member.Field decl ∷ members) =
    fields_in_behind names (with_field names fields class decl) class members ∙ static_or_not decl.mods.is_static
  where
    static_or_not : (b : Bool) → (if b then fields else fields ++ field_of names class decl ∷ []) ++ fields_of_class names class members
        ≡ fields ++ ((if b then [] else field_of names class decl ∷ []) ++ fields_of_class names class members)
    static_or_not true = refl
    static_or_not false = append_assoc fields (field_of names class decl ∷ []) (fields_of_class names class members)
fields_in_behind names fields class (member.Method decl ∷ members) = fields_in_behind names fields class members

pub fields_behind : (names : Names) (fields : List Field) (class : ℕ) (decls : List ClassDecl) → class + length decls ≤ most_counted → fields_from names fields class decls ≡ fields ++ fields_of names class decls
fields_behind names fields class [] le = sym (append-nil fields)
fields_behind names fields class (decl ∷ decls) le =
    let up = one_more class (omega (arith, le)) in
    ap (λ n. fields_from names (fields_in names fields class decl.members) n decls) up
    ∙ fields_behind names (fields_in names fields class decl.members) (class + 1) decls (omega (arith, le))
    ∙ ap (λ l. l ++ fields_of names (class + 1) decls) (fields_in_behind names fields class decl.members)
    ∙ append_assoc fields (fields_of_class names class decl.members) (fields_of names (class + 1) decls)

own_field_counted : (names : Names) (class : ℕ) (decl : LocalDecl) → (length (own_field names class decl) ≡ (if decl.mods.is_static then 0 else 1)) × AllOf (λ (field : Field). field.class ≡ class) (own_field names class decl)
own_field_counted names class decl = static_or_not decl.mods.is_static
  where
    static_or_not : (b : Bool) → (length (if b then [] else field_of names class decl ∷ []) ≡ (if b then 0 else 1)) × AllOf (λ (field : Field). field.class ≡ class) (if b then [] else field_of names class decl ∷ [])
    static_or_not true = (refl, tt)
    static_or_not false = (refl, (refl, tt))

pub fields_counted : (names : Names) (class : ℕ) (members : List Member) → (length (fields_of_class names class members) ≡ field_count members) × AllOf (λ (field : Field). field.class ≡ class) (fields_of_class names class members)
fields_counted names class [] = (refl, tt)
fields_counted names class (member.Field decl ∷ members) =
    let one = own_field_counted names class decl in
    let rest = fields_counted names class members in (
      (let l = length-append (own_field names class decl) (fields_of_class names class members) in let a = one.0 in let b = rest.0 in omega (arith, l, a, b)),
      all_joined (λ (field : Field). field.class ≡ class) (own_field names class decl) (fields_of_class names class members) one.1 rest.1,
    )
fields_counted names class (member.Method decl ∷ members) = fields_counted names class members

later_fields : (names : Names) (class : ℕ) (decls : List ClassDecl) → AllOf (λ (field : Field). class ≤ field.class) (fields_of names class decls)
later_fields names class [] = tt
later_fields names class (decl ∷ decls) =
    all_joined (λ (field : Field). class ≤ field.class) (fields_of_class names class decl.members) (fields_of names (class + 1) decls)
    (all_so (λ (field : Field). field.class ≡ class) (λ (field : Field). class ≤ field.class) (λ field e. omega (arith, e)) (fields_of_class names class decl.members) (fields_counted names class decl.members).1)
    (all_so (λ (field : Field). class + 1 ≤ field.class) (λ (field : Field). class ≤ field.class) (λ field e. omega (arith, e)) (fields_of names (class + 1) decls) (later_fields names (class + 1) decls))

-- a class lists the numbers of its own fields
field_numbers : (fields : List ℕ) (next : ℕ) (members : List Member) → next + field_count members ≤ most_counted → own_fields fields next members ≡ fields ++ numbers_from next (field_count members)
field_numbers fields next [] le = sym (append-nil fields)
field_numbers fields next (member.Field decl ∷ members) le = static_or_not decl.mods.is_static le (λ numbers n f. field_numbers numbers n members f)
  where
    static_or_not : (b : Bool) → next + ((if b then 0 else 1) + field_count members) ≤ most_counted
        → ((numbers : List ℕ) (n : ℕ) → n + field_count members ≤ most_counted → own_fields numbers n members ≡ numbers ++ numbers_from n (field_count members))
        → own_fields (if b then fields else fields ++ next ∷ []) (if b then next else one next) members ≡ fields ++ numbers_from next ((if b then 0 else 1) + field_count members)
    static_or_not true le rest = let e : field_count members ≡ 0 + field_count members = omega arith in rest fields next (omega (arith, le)) ∙ ap (λ n. fields ++ numbers_from next n) e
    static_or_not false le rest =
        let up = one_more next (omega (arith, le)) in
        let e : suc (field_count members) ≡ 1 + field_count members = omega arith in
        ap (λ n. own_fields (fields ++ next ∷ []) n members) up ∙ rest (fields ++ next ∷ []) (next + 1) (omega (arith, le))
        ∙ append_assoc fields (next ∷ []) (numbers_from (next + 1) (field_count members)) ∙ ap (λ n. fields ++ numbers_from next n) e
field_numbers fields next (member.Method decl ∷ members) le = field_numbers fields next members le

pub classes_have_fields : (names : Names) (all : List Field) (next : Next) (parent : ℕ → Option ℕ) (decls : List ClassDecl) (before : List Field) → IsNext next decls
    → all ≡ before ++ fields_of names next.class decls → length before ≡ next.field → AllOf (λ (field : Field). field.class < next.class) before → AllNumbered (ListsFields all) next.class (classes_of next parent decls)
classes_have_fields names all next parent [] before is e l less = tt
classes_have_fields names all next parent (decl ∷ decls) before is e l less =
    let g = goes next decl decls is in
    let own = fields_of_class names next.class decl.members in
    let later = fields_of names (next.class + 1) decls in
    let counted = fields_counted names next.class decl.members in
    let few : next.field + field_count decl.members ≤ most_counted = (let f = is.fields in omega (arith, f)) in
    let here = ap (numbers_where (λ (field : Field). field.class == next.class) 0) e
    ∙ where_here (λ (field : Field). field.class) next.class 0 before own later less counted.1
    (all_so (λ (field : Field). next.class + 1 ≤ field.class) (λ (field : Field). next.class < field.class) (λ field f. omega (arith, f)) later (later_fields names (next.class + 1) decls)) in
    let numbers = field_numbers [] next.field decl.members few in
    let start : 0 + length before ≡ next.field = omega (arith, l) in
    let wanted = here ∙ ap (λ n. numbers_from n (length own)) start ∙ ap (numbers_from next.field) counted.0 in
    let ascends : Ascends next.field (numbers_from next.field (field_count decl.members)) =
    subst (Ascends next.field) (append-nil (numbers_from next.field (field_count decl.members))) (from_ascends next.field (field_count decl.members) [] tt) in (
      ap (λ numbers. are_same_numbers numbers (numbers_where (λ (field : Field). field.class == next.class) 0 all)) numbers
          ∙ ap (are_same_numbers (numbers_from next.field (field_count decl.members))) wanted ∙ ascends_same next.field (numbers_from next.field (field_count decl.members)) ascends,
      subst (λ n. AllNumbered (ListsFields all) n (classes_of (next_behind next decl) parent decls)) g.class
          (classes_have_fields names all (next_behind next decl) parent decls (before ++ own) (goes_on next decl decls is)
          (e ∙ sym (append_assoc before own later) ∙ ap (λ n. (before ++ own) ++ fields_of names n decls) (sym g.class))
          (let a = length-append before own in let b = counted.0 in let c = g.field in omega (arith, a, b, c, l))
          (let d = g.class in all_joined (λ (field : Field). field.class < (next_behind next decl).class) before own
          (all_so (λ (field : Field). field.class < next.class) (λ (field : Field). field.class < (next_behind next decl).class) (λ field f. omega (arith, f, d)) before less)
          (all_so (λ (field : Field). field.class ≡ next.class) (λ (field : Field). field.class < (next_behind next decl).class) (λ field f. omega (arith, f, d)) own counted.1))),
    )
