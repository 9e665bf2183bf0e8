-- A class lists its own methods, written ones first and then its default constructor.
use Rattle.std.proofs.Common.{◌≡◌, ◌≤◌, ◌<◌, ℕ, suc, ◌+◌, Bool, true, false, List, [], ◌∷◌, ◌++◌, length, Option, refl, sym, ap, subst, ◌∙◌, arith, append_assoc, length-append}
use Rattle.std.specs.Prelude.{if◌then◌else◌, ◌==◌}
use Rattle.std.proofs.lemmas.List.{append-nil}
use Rattle.ix_core.specs.declared.program.Method.{Method}
use Rattle.ix_core.specs.Formed.{numbers_from, are_same_numbers, numbers_where}
use Rattle.ix_tree.specs.declared.decl.ClassDecl.{ClassDecl}
use Rattle.ix_tree.specs.declared.decl.Member.{Member}
use Rattle.ix_tree.specs.declared.decl.Member.TheVariants as member
use Rattle.ix_meaning.specs.Limits.{methods_of, all_methods}
use Rattle.ix_meaning.specs.Source.{has_constructor}
use Rattle.ix_plain.specs.declared.numbers.Next.{Next}
use Rattle.ix_plain.specs.Counts.{most_counted}
use Rattle.ix_plain.specs.Members.{next_behind, own_methods, written_methods, first_numbers}
use Rattle.ix_plain.specs.Program.{Tables, Home, home}
use Rattle.ix_formed.specs.Additions.{AllOf}
use Rattle.ix_formed.specs.Shape.{AreMethods, AreAllMethods, AreDefaults, IfElse, IsOneDefault, classes_of, default_count, all_field_count, IsNext, AllNumbered, ListsMethods}
use Rattle.ix_formed.proofs.NumberLists.{from_ascends, ascends_same, Ascends, all_so, all_joined, where_here, where_append}
use Rattle.ix_formed.proofs.Numbering.{one_more, goes, goes_on, methods_up}

pub method_numbers : (methods : List ℕ) (next : ℕ) (members : List Member) → next + length (methods_of members) ≤ most_counted → own_methods methods next members ≡ methods ++ numbers_from next (length (methods_of members))
method_numbers methods next [] le = sym (append-nil methods)
method_numbers methods next (member.Field decl ∷ members) le = method_numbers methods next members le
method_numbers methods next (member.Method decl ∷ members) le =
    let up = one_more next (omega (arith, le)) in
    let e : suc (length (methods_of members)) ≡ length (methods_of (member.Method decl ∷ members)) = omega arith in
    ap (λ n. own_methods (methods ++ next ∷ []) n members) up ∙ method_numbers (methods ++ next ∷ []) (next + 1) members (omega (arith, le))
    ∙ append_assoc methods (next ∷ []) (numbers_from (next + 1) (length (methods_of members))) ∙ ap (λ n. methods ++ numbers_from next n) e

-- ---- the classes of methods

module _ (tables : Tables) where
  pub counted_methods : (at : Home) (members : List Member) (methods : List Method) → AreMethods tables at members methods
      → (length methods ≡ length (methods_of members)) × AllOf (λ (method : Method). method.class ≡ at.class) methods
  counted_methods at [] methods are = (ap (λ (l : List Method). length l) are, subst (AllOf (λ (method : Method). method.class ≡ at.class)) (sym are) tt)
  counted_methods at (member.Field decl ∷ members) methods are = counted_methods at members methods are
  counted_methods at (member.Method decl ∷ members) methods are =
      let rest = counted_methods at members are.1 are.4 in (
        ap (λ (l : List Method). length l) are.2 ∙ (let e = rest.0 in omega (arith, e)),
        subst (AllOf (λ (method : Method). method.class ≡ at.class)) (sym are.2) (ap (λ (m : Method). m.class) are.3.same, rest.1),
      )

  later_methods : (next : Next) (decls : List ClassDecl) (methods : List Method) → IsNext next decls → AreAllMethods tables next decls methods
      → AllOf (λ (method : Method). next.class ≤ method.class) methods
  later_methods next [] methods is are = subst (AllOf (λ (method : Method). next.class ≤ method.class)) (sym are) tt
  later_methods next (decl ∷ decls) methods is are =
      let up = (goes next decl decls is).class in
      subst (AllOf (λ (method : Method). next.class ≤ method.class)) (sym are.2)
      (all_joined (λ (method : Method). next.class ≤ method.class) are.0 are.1
      (all_so (λ (method : Method). method.class ≡ next.class) (λ (method : Method). next.class ≤ method.class) (λ method e. omega (arith, e)) are.0
      (counted_methods (home tables next decl) decl.members are.0 are.3).1)
      (all_so (λ (method : Method). (next_behind next decl).class ≤ method.class) (λ (method : Method). next.class ≤ method.class) (λ method e. omega (arith, e, up)) are.1
      (later_methods (next_behind next decl) decls are.1 (goes_on next decl decls is) are.4)))

  later_defaults : (next : Next) (decls : List ClassDecl) (methods : List Method) → IsNext next decls → AreDefaults tables next decls methods
      → AllOf (λ (method : Method). next.class ≤ method.class) methods
  later_defaults next [] methods is are = subst (AllOf (λ (method : Method). next.class ≤ method.class)) (sym are) tt
  later_defaults next (decl ∷ decls) methods is are =
      let up = (goes next decl decls is).class in
      one_or_none (has_constructor decl.members) are
      (λ others rest. all_so (λ (method : Method). (next_behind next decl).class ≤ method.class) (λ (method : Method). next.class ≤ method.class) (λ method e. omega (arith, e, up)) others
      (later_defaults (next_behind next decl) decls others (goes_on next decl decls is) rest))
    where
      one_or_none : (b : Bool) → IfElse b (AreDefaults tables (next_behind next decl) decls methods) (IsOneDefault (AreDefaults tables (next_behind next decl) decls) tables (home tables next decl) decl.name.span methods)
          → ((others : List Method) → AreDefaults tables (next_behind next decl) decls others → AllOf (λ (method : Method). next.class ≤ method.class) others)
          → AllOf (λ (method : Method). next.class ≤ method.class) methods
      one_or_none true are rest = rest methods are
      one_or_none false are rest =
          subst (AllOf (λ (method : Method). next.class ≤ method.class)) (sym are.2)
          ((let e = ap (λ (m : Method). m.class) are.3.same in omega (arith, e)), rest are.1 are.4)

  -- the default constructor of a class, and those behind it
  split_defaults : (next : Next) (decl : ClassDecl) (decls : List ClassDecl) (methods : List Method) → AreDefaults tables next (decl ∷ decls) methods
      → (own : List Method) × (later : List Method) × (methods ≡ own ++ later) × (length own ≡ (if has_constructor decl.members then 0 else 1))
      × AllOf (λ (method : Method). method.class ≡ next.class) own × AreDefaults tables (next_behind next decl) decls later
  split_defaults next decl decls methods are = one_or_none (has_constructor decl.members) are
    where
      one_or_none : (b : Bool) → IfElse b (AreDefaults tables (next_behind next decl) decls methods) (IsOneDefault (AreDefaults tables (next_behind next decl) decls) tables (home tables next decl) decl.name.span methods)
          → (own : List Method) × (later : List Method) × (methods ≡ own ++ later) × (length own ≡ (if b then 0 else 1))
          × AllOf (λ (method : Method). method.class ≡ next.class) own × AreDefaults tables (next_behind next decl) decls later
      one_or_none true are = ([], methods, refl, refl, tt, are)
      one_or_none false are = (are.0 ∷ [], are.1, are.2, refl, (ap (λ (m : Method). m.class) are.3.same, tt), are.4)

-- ---- what a class lists

pub default_numbers : (b : Bool) (numbers : List ℕ) (default : ℕ) → (if b then numbers else numbers ++ default ∷ []) ≡ numbers ++ numbers_from default (if b then 0 else 1)
default_numbers true numbers default = sym (append-nil numbers)
default_numbers false numbers default = refl

one_ascends : (b : Bool) (low default : ℕ) → low ≤ default → Ascends low (numbers_from default (if b then 0 else 1))
one_ascends true low default le = tt
one_ascends false low default le = (le, tt)

pub classes_have_methods : (tables : Tables) (all : List Method) (next : Next) (parent : ℕ → Option ℕ) (decls : List ClassDecl) (before written first default : List Method) → IsNext next decls
    → all ≡ (before ++ written) ++ (first ++ default) → AreAllMethods tables next decls written → AreDefaults tables next decls default
    → length before ≡ next.method → length (before ++ written) + length first ≡ next.default
    → AllOf (λ (method : Method). method.class < next.class) before → AllOf (λ (method : Method). method.class < next.class) first
    → AllNumbered (ListsMethods all) next.class (classes_of next parent decls)
classes_have_methods tables all next parent [] before written first default is e w d l m less few = tt
classes_have_methods tables all next parent (decl ∷ decls) before written first default is e w d l m less few =
    let g = goes next decl decls is in
    let on = goes_on next decl decls is in
    let is_of = λ (method : Method). method.class == next.class in
    let at = home tables next decl in
    let own = w.0 in
    let later = w.1 in
    let counted = counted_methods tables at decl.members own w.3 in
    let s = split_defaults tables next decl decls default d in
    let up = g.class in
    let enough : next.method + length (methods_of decl.members) ≤ most_counted = (let f = is.methods in let k = length-append (methods_of decl.members) (all_methods decls) in omega (arith, f, k)) in
    let above = λ (methods : List Method) (a : AllOf (λ (method : Method). (next_behind next decl).class ≤ method.class) methods).
    all_so (λ (method : Method). (next_behind next decl).class ≤ method.class) (λ (method : Method). next.class < method.class) (λ method f. omega (arith, f, up)) methods a in
    let here = ap (numbers_where is_of 0) e ∙ where_append is_of 0 (before ++ written) (first ++ default)
    ∙ ap (λ (l : List Method). numbers_where is_of 0 (before ++ l) ++ numbers_where is_of (0 + length (before ++ written)) (first ++ default)) w.2
    ∙ ap (λ (l : List Method). numbers_where is_of 0 (before ++ (own ++ later)) ++ numbers_where is_of (0 + length (before ++ written)) (first ++ l)) s.2
    ∙ ap (λ numbers. numbers ++ numbers_where is_of (0 + length (before ++ written)) (first ++ (s.0 ++ s.1)))
    (where_here (λ (method : Method). method.class) next.class 0 before own later less counted.1 (above later (later_methods tables (next_behind next decl) decls later on w.4)))
    ∙ ap (λ numbers. numbers_from (0 + length before) (length own) ++ numbers)
    (where_here (λ (method : Method). method.class) next.class (0 + length (before ++ written)) first s.0 s.1 few s.4 (above s.1 (later_defaults tables (next_behind next decl) decls s.1 on s.5))) in
    let start : 0 + length before ≡ next.method = omega (arith, l) in
    let second : (0 + length (before ++ written)) + length first ≡ next.default = omega (arith, m) in
    let wanted = here
    ∙ ap (λ n. numbers_from n (length own) ++ numbers_from ((0 + length (before ++ written)) + length first) (length s.0)) start
    ∙ ap (λ n. numbers_from next.method n ++ numbers_from ((0 + length (before ++ written)) + length first) (length s.0)) counted.0
    ∙ ap (λ n. numbers_from next.method (length (methods_of decl.members)) ++ numbers_from n (length s.0)) second
    ∙ ap (λ n. numbers_from next.method (length (methods_of decl.members)) ++ numbers_from next.default n) s.3 in
    let numbers = default_numbers (has_constructor decl.members) (own_methods [] next.method decl.members) next.default
    ∙ ap (λ numbers. numbers ++ numbers_from next.default (if has_constructor decl.members then 0 else 1)) (method_numbers [] next.method decl.members enough) in
    let listed = numbers_from next.method (length (methods_of decl.members)) ++ numbers_from next.default (if has_constructor decl.members then 0 else 1) in
    let low : next.method + length (methods_of decl.members) ≤ next.default =
    (let a = length-append before written in let b = ap (λ (l : List Method). length l) w.2 in let c = length-append own later in let f = counted.0 in omega (arith, a, b, c, f, l, m)) in
    let ascends : Ascends next.method listed = from_ascends next.method (length (methods_of decl.members)) (numbers_from next.default (if has_constructor decl.members then 0 else 1))
    (one_ascends (has_constructor decl.members) (next.method + length (methods_of decl.members)) next.default low) in (
      ap (λ numbers. are_same_numbers numbers (numbers_where is_of 0 all)) numbers ∙ ap (are_same_numbers listed) wanted ∙ ascends_same next.method listed ascends,
      subst (λ n. AllNumbered (ListsMethods all) n (classes_of (next_behind next decl) parent decls)) g.class
          (classes_have_methods tables all (next_behind next decl) parent decls (before ++ own) later (first ++ s.0) s.1 on
          (e ∙ ap (λ (l : List Method). (before ++ l) ++ (first ++ default)) w.2 ∙ ap (λ (l : List Method). l ++ (first ++ default)) (sym (append_assoc before own later))
          ∙ ap (λ (l : List Method). ((before ++ own) ++ later) ++ (first ++ l)) s.2 ∙ ap (λ (l : List Method). ((before ++ own) ++ later) ++ l) (sym (append_assoc first s.0 s.1)))
          w.4 s.5
          (let a = length-append before own in let b = counted.0 in let c = g.method in omega (arith, a, b, c, l))
          (let a = length-append (before ++ own) later in let b = length-append before own in let c = length-append before written in let f = ap (λ (l : List Method). length l) w.2 in
          let h = length-append own later in let i = length-append first s.0 in let j = s.3 in let k = g.default in omega (arith, a, b, c, f, h, i, j, k, m))
          (all_joined (λ (method : Method). method.class < (next_behind next decl).class) before own
          (all_so (λ (method : Method). method.class < next.class) (λ (method : Method). method.class < (next_behind next decl).class) (λ method f. omega (arith, f, up)) before less)
          (all_so (λ (method : Method). method.class ≡ next.class) (λ (method : Method). method.class < (next_behind next decl).class) (λ method f. omega (arith, f, up)) own counted.1))
          (all_joined (λ (method : Method). method.class < (next_behind next decl).class) first s.0
          (all_so (λ (method : Method). method.class < next.class) (λ (method : Method). method.class < (next_behind next decl).class) (λ method f. omega (arith, f, up)) first few)
          (all_so (λ (method : Method). method.class ≡ next.class) (λ (method : Method). method.class < (next_behind next decl).class) (λ method f. omega (arith, f, up)) s.0 s.4))),
    )

-- ---- the first numbers

all_written : (before : ℕ) (decls : List ClassDecl) → before + length (all_methods decls) ≤ most_counted → written_methods before decls ≡ before + length (all_methods decls)
all_written before [] le = omega arith
all_written before (decl ∷ decls) le =
    let l = length-append (methods_of decl.members) (all_methods decls) in
    let up = methods_up before decl.members (omega (arith, le, l)) in
    ap (λ n. written_methods n decls) up ∙ (let e = all_written (before + length (methods_of decl.members)) decls (omega (arith, le, l)) in omega (arith, e, l))

few_defaults : (decls : List ClassDecl) → default_count decls ≤ length decls
few_defaults [] = omega arith
few_defaults (decl ∷ decls) = one_or_none (has_constructor decl.members) (few_defaults decls)
  where
    one_or_none : (b : Bool) → default_count decls ≤ length decls → (if b then 0 else 1) + default_count decls ≤ length (decl ∷ decls)
    one_or_none true le = omega (arith, le)
    one_or_none false le = omega (arith, le)

pub first_next : (decls : List ClassDecl) → length decls ≤ 256 → length (all_methods decls) ≤ 4096 → all_field_count decls ≤ most_counted → IsNext (first_numbers decls) decls
first_next decls classes methods fields =
    let w = all_written 0 decls (omega (arith, methods)) in
    let d = few_defaults decls in
    record { classes = omega (arith, classes); fields = omega (arith, fields); methods = omega (arith, methods); defaults = omega (arith, w, d, classes, methods) }

pub first_default : (decls : List ClassDecl) → length (all_methods decls) ≤ 4096 → (first_numbers decls).default ≡ length (all_methods decls)
first_default decls methods = let w = all_written 0 decls (omega (arith, methods)) in omega (arith, w)
