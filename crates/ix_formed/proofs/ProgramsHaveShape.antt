-- A program has what its source says by itself: numbers in order, slots and loops within the limits, one call of the parent's constructor where it has to be.
use Rattle.std.proofs.Common.{◌≡◌, ◌≤◌, ◌<◌, ◌^◌, ℕ, zero, suc, ◌+◌, Bool, true, false, List, [], ◌∷◌, ◌++◌, length, Option, None, Ok, refl, sym, ap, subst, ◌∙◌, arith, append_assoc, length-append}
use Rattle.std.specs.Prelude.{if◌then◌else◌, nat_lt, ◌==◌, ◌&&◌, ◌||◌, not, slice_get, unwrap_or, count_by}
use Rattle.std.proofs.lemmas.Bool.Decides.{nat_tests}
use Rattle.std.proofs.lemmas.List.{append-nil}
use Rattle.std.proofs.lemmas.List.Recursion.{is_count_by}
use Rattle.ix_text.specs.declared.span.Span.{Span}
use Rattle.ix_core.specs.declared.claim.Type_.{Type_}
use Rattle.ix_core.specs.declared.program.Class.{Class}
use Rattle.ix_core.specs.declared.program.Local.{Local}
use Rattle.ix_core.specs.declared.program.Method.{Method}
use Rattle.ix_core.specs.declared.program.Program.{Program}
use Rattle.ix_core.specs.Code.{items_code}
use Rattle.ix_core.specs.Tables.{param_slot, param_slots, body_of, class_at, no_class}
use Rattle.ix_core.specs.Types.{is_class}
use Rattle.ix_core.specs.Formed.{at_most, is_target, loop_numbers, numbers_from, same_numbers, super_calls, own_super_calls, one_if, is_some_of, has_parent}
use Rattle.ix_tree.specs.declared.decl.ClassDecl.{ClassDecl}
use Rattle.ix_tree.specs.declared.decl.LocalDecl.{LocalDecl}
use Rattle.ix_tree.specs.declared.decl.Member.{Member}
use Rattle.ix_tree.specs.declared.decl.Member.TheVariants as member
use Rattle.ix_tree.specs.declared.decl.MethodDecl.{MethodDecl}
use Rattle.ix_meaning.specs.Limits.{limit, methods_of, all_methods}
use Rattle.ix_meaning.specs.Resolved.{Names}
use Rattle.ix_meaning.specs.Source.{has_constructor, members_in}
use Rattle.ix_plain.specs.declared.body.Body.{Body}
use Rattle.ix_plain.specs.declared.numbers.Next.{Next}
use Rattle.ix_plain.specs.Counts.{most_counted}
use Rattle.ix_plain.specs.Members.{next_behind, first_numbers, is_static, params_from, param_types_from, slot_behind}
use Rattle.ix_plain.specs.Parts.{block}
use Rattle.ix_plain.specs.Scope.{declared_type, declared_claims}
use Rattle.ix_plain.specs.Program as program
use Rattle.ix_plain.specs.Program.{Tables, Home, site, home, tables, start, written_head, default_head, first_param, written_body, constructor_start}
use Rattle.ix_formed.specs.Additions.{AllOf}
use Rattle.ix_formed.specs.Extensions.{HasSlotIn}
use Rattle.ix_formed.specs.Bodies.{IsBody}
use Rattle.ix_formed.specs.Shape.{IsSmall, IsMethod, IsDefault, AreMethods, AreAllMethods, AreDefaults, IfElse, IsOneDefault, classes_of, fields_of, IsNext, AllNumbered, params_of, types_of, AreInSlots, ListsFields, ListsMethods, MethodHasShape, HasShape, all_field_count}
use Rattle.ix_formed.proofs.PlainItems.{made_is}
use Rattle.ix_formed.proofs.NumberLists.{all_so, all_joined, both_true, from_length, same_itself}
use Rattle.ix_formed.proofs.Numbering.{one_more, goes, goes_on, classes_behind, fields_behind, classes_have_fields}
use Rattle.ix_formed.proofs.MethodNumbers.{counted_methods, classes_have_methods, first_next, first_default}
use Rattle.ix_formed.proofs.AllMethods.{program_has}
use Rattle.ix_formed.proofs.SmallSources.{small, few_fields}
use Rattle.ix_formed.proofs.WholeBodies.{calls_of, calls_in, written_body_is, default_body_is}

-- ---- tests

pub at_most_is : (n m : ℕ) → n ≤ m → at_most n m ≡ true
at_most_is n m le = grind (arith, nat_tests)

pub less_is : (n m : ℕ) → n < m → nat_lt n m ≡ true
less_is n m lt = grind (arith, nat_tests)

-- ---- parameters

pub params_behind : (names : Names) (params : List Local) (slot : ℕ) (decls : List LocalDecl) → slot + length decls ≤ most_counted → params_from names params slot decls ≡ params ++ params_of names slot decls
params_behind names params slot [] le = sym (append-nil params)
params_behind names params slot (decl ∷ decls) le =
    let up = one_more slot (omega (arith, le)) in
    let param : Local = record { slot = slot; name = decl.name.text; claims = declared_claims (names.declared decl.name.span) } in
    ap (λ n. params_from names (params ++ param ∷ []) n decls) up ∙ params_behind names (params ++ param ∷ []) (slot + 1) decls (omega (arith, le))
    ∙ append_assoc params (param ∷ []) (params_of names (slot + 1) decls)

pub types_behind : (names : Names) (types : List Type_) (decls : List LocalDecl) → param_types_from names types decls ≡ types ++ types_of names decls
types_behind names types [] = sym (append-nil types)
types_behind names types (decl ∷ decls) =
    types_behind names (types ++ declared_type (names.declared decl.name.span) ∷ []) decls ∙ append_assoc types (declared_type (names.declared decl.name.span) ∷ []) (types_of names decls)

pub slots_behind : (slot : ℕ) (decls : List LocalDecl) → slot + length decls ≤ most_counted → slot_behind slot decls ≡ slot + length decls
slots_behind slot [] le = omega arith
slots_behind slot (decl ∷ decls) le =
    let up = one_more slot (omega (arith, le)) in
    ap (λ n. slot_behind n decls) up ∙ (let e = slots_behind (slot + 1) decls (omega (arith, le)) in omega (arith, e))

pub params_length : (names : Names) (slot : ℕ) (decls : List LocalDecl) → length (params_of names slot decls) ≡ length decls
params_length names slot [] = refl
params_length names slot (decl ∷ decls) = let e = params_length names (slot + 1) decls in omega (arith, e)

pub types_length : (names : Names) (decls : List LocalDecl) → length (types_of names decls) ≡ length decls
types_length names [] = refl
types_length names (decl ∷ decls) = let e = types_length names decls in omega (arith, e)

first_slot : (b : Bool) (method : Method) (number : ℕ) → method.is_static ≡ b → param_slot method number ≡ first_param b + number
first_slot true method number e = ap (λ s. if s then number else number + 1) e ∙ omega arith
first_slot false method number e = ap (λ s. if s then number else number + 1) e ∙ omega arith

in_slots : (names : Names) (method : Method) (b : Bool) (number : ℕ) (decls : List LocalDecl) → method.is_static ≡ b → AreInSlots method number (params_of names (first_param b + number) decls)
in_slots names method b number [] e = tt
in_slots names method b number (decl ∷ decls) e =
    let up : (first_param b + number) + 1 ≡ first_param b + (number + 1) = omega arith in
    (sym (first_slot b method number e), subst (λ n. AreInSlots method (number + 1) (params_of names n decls)) (sym up) (in_slots names method b (number + 1) decls e))

few_first : (b : Bool) → first_param b ≤ 1
few_first true = omega arith
few_first false = omega arith

constructor_or_static : (constructor static : Bool) → (not constructor || not (static && not constructor)) ≡ true
constructor_or_static true true = refl
constructor_or_static true false = refl
constructor_or_static false true = refl
constructor_or_static false false = refl

-- ---- one method

module _ (p : Program) where
  -- what a body has, of a method whose parameters and `this` have so many slots
  body_shape : (method : Method) (free calls : ℕ) (body : Body) → IsBody free calls body → method.locals ≡ body.locals → method.slots ≡ body.most → method.body ≡ block body.made → param_slots method ≡ free
      → is_class p method.class ≡ true → AreInSlots method 0 method.params → length method.params ≡ length method.param_types → (not method.constructor || not method.is_static) ≡ true
      → calls ≡ one_if (method.constructor && has_parent p method) → MethodHasShape p method
  body_shape method free calls body is locals slots code first class params types static count =
      let loops : loop_numbers (body_of method) ≡ numbers_from 0 body.loops = ap (λ b. loop_numbers (items_code b.items)) code ∙ is.loops in
      let long : length (loop_numbers (body_of method)) ≡ body.loops = ap length loops ∙ from_length 0 body.loops in
      record {
        class = class;
        params = params;
        types = types;
        static = static;
        first = at_most_is (param_slots method) method.slots (let a = is.most in omega (arith, a, slots, first));
        slots = at_most_is method.slots 512 (let a = is.within.slots in omega (arith, a, slots));
        locals = subst (AllOf (λ (local : Local × Span). is_target p method local.0.slot ≡ true)) (sym locals)
            (all_so (HasSlotIn free body.most) (λ (local : Local × Span). is_target p method local.0.slot ≡ true)
            (λ local h. both_true (nat_lt local.0.slot method.slots) (at_most (param_slots method) local.0.slot)
            (less_is local.0.slot method.slots (let a = h.1 in omega (arith, a, slots)))
            (at_most_is (param_slots method) local.0.slot (let a = h.0 in omega (arith, a, first)))) body.locals is.locals);
        loops = ap (λ n. same_numbers (loop_numbers (body_of method)) (numbers_from 0 n)) long
            ∙ ap (λ numbers. same_numbers numbers (numbers_from 0 body.loops)) loops ∙ same_itself (numbers_from 0 body.loops);
        few_loops = at_most_is (length (loop_numbers (body_of method))) 128 (let a = is.within.loops in omega (arith, a, long));
        supers =
            let a : super_calls (body_of method) ≡ one_if (method.constructor && has_parent p method) = ap (λ b. super_calls (items_code b.items)) code ∙ is.supers ∙ count in
            let b : own_super_calls (body_of method) ≡ one_if (method.constructor && has_parent p method) = ap (λ b. own_super_calls (items_code b.items)) code ∙ is.own_supers ∙ count in
            both_true (super_calls (body_of method) == one_if (method.constructor && has_parent p method)) (own_super_calls (body_of method) == one_if (method.constructor && has_parent p method))
            (grind (arith, nat_tests)) (grind (arith, nat_tests));
      }

  -- the class is there, and its parent is the home's
  pub record IsHome (at : Home) : Type 0 where
    pub class : at.class < length p.classes
    pub parent : (class_at p at.class).parent ≡ at.parent

  written_shape : (t : Tables) (at : Home) (decl : MethodDecl) (method : Method) → IsHome at → length decl.params ≤ 32 → IsMethod t at decl method → MethodHasShape p method
  written_shape t at decl method here few is =
      let head = written_head t at decl in
      let static = is_static decl in
      let few_slots : first_param static + length decl.params ≤ 33 = (let f = few_first static in omega (arith, f, few)) in
      let enough : first_param static + length decl.params ≤ most_counted = omega (arith, few_slots) in
      let free = slot_behind (first_param static) decl.params in
      let behind : free ≡ first_param static + length decl.params = slots_behind (first_param static) decl.params enough in
      let params : method.params ≡ params_of t.names (first_param static) decl.params = ap (λ (m : Method). m.params) is.same ∙ params_behind t.names [] (first_param static) decl.params enough in
      let types : method.param_types ≡ types_of t.names decl.params = ap (λ (m : Method). m.param_types) is.same ∙ types_behind t.names [] decl.params in
      let count : length method.params ≡ length decl.params = ap (λ (l : List Local). length l) params ∙ params_length t.names (first_param static) decl.params in
      let stands : method.is_static ≡ static = ap (λ (m : Method). m.is_static) is.same in
      let class : method.class ≡ at.class = ap (λ (m : Method). m.class) is.same in
      let constructor : method.constructor ≡ decl.constructor = ap (λ (m : Method). m.constructor) is.same in
      let body = made_is (IsBody free (calls_in decl.constructor at.parent)) (written_body (site t at head) at decl free) is.body (written_body_is (site t at head) at decl free (omega (arith, behind, few_slots))) is.made in
      let zero : first_param static ≡ first_param static + 0 = omega arith in
      body_shape method free (calls_in decl.constructor at.parent) is.body body (ap (λ (m : Method). m.locals) is.same) (ap (λ (m : Method). m.slots) is.same) (ap (λ (m : Method). m.body) is.same)
      (first_slot static method (length method.params) stands ∙ ap (λ n. first_param static + n) count ∙ sym behind)
      (less_is method.class (length p.classes) (let h = here.class in omega (arith, h, class)))
      (subst (AreInSlots method 0) (ap (λ n. params_of t.names n decl.params) (sym zero) ∙ sym params) (in_slots t.names method static 0 decl.params stands))
      (count ∙ sym (types_length t.names decl.params) ∙ sym (ap (λ (l : List Type_). length l) types))
      (ap (λ c. not c || not method.is_static) constructor ∙ ap (λ s. not decl.constructor || not s) stands ∙ constructor_or_static decl.constructor decl.mods.is_static)
      (ap (λ (parent : Option ℕ). one_if (decl.constructor && is_some_of parent)) (sym here.parent)
      ∙ ap (λ n. one_if (decl.constructor && is_some_of (class_at p n).parent)) (sym class) ∙ ap (λ c. one_if (c && has_parent p method)) (sym constructor))

  default_shape : (t : Tables) (at : Home) (span : Span) (method : Method) → IsHome at → IsDefault t at span method → MethodHasShape p method
  default_shape t at span method here is =
      let class : method.class ≡ at.class = ap (λ (m : Method). m.class) is.same in
      let constructor : method.constructor ≡ true = ap (λ (m : Method). m.constructor) is.same in
      let stands : method.is_static ≡ false = ap (λ (m : Method). m.is_static) is.same in
      let params : method.params ≡ [] = ap (λ (m : Method). m.params) is.same in
      let types : method.param_types ≡ [] = ap (λ (m : Method). m.param_types) is.same in
      let body = made_is (IsBody 1 (calls_of at.parent)) (constructor_start (site t at (default_head at span)) at [] span (start 1)) is.body (default_body_is (site t at (default_head at span)) at span) is.made in
      body_shape method 1 (calls_of at.parent) is.body body (ap (λ (m : Method). m.locals) is.same) (ap (λ (m : Method). m.slots) is.same) (ap (λ (m : Method). m.body) is.same)
      (first_slot false method (length method.params) stands ∙ (let e = ap (λ (l : List Local). length l) params in omega (arith, e)))
      (less_is method.class (length p.classes) (let h = here.class in omega (arith, h, class)))
      (subst (AreInSlots method 0) (sym params) tt)
      (ap (λ (l : List Local). length l) params ∙ sym (ap (λ (l : List Type_). length l) types))
      (ap (λ s. not method.constructor || not s) stands ∙ (let or_true : (b : Bool) → (b || true) ≡ true = either_true in or_true (not method.constructor)))
      (ap (λ (parent : Option ℕ). one_if (is_some_of parent)) (sym here.parent)
      ∙ ap (λ n. one_if (is_some_of (class_at p n).parent)) (sym class) ∙ ap (λ c. one_if (c && has_parent p method)) (sym constructor))
    where
      either_true : (b : Bool) → (b || true) ≡ true
      either_true true = refl
      either_true false = refl

-- ---- all methods

split_all : {A : Type 0} (P : A → Type 0) (xs ys : List A) → AllOf P (xs ++ ys) → AllOf P xs × AllOf P ys
split_all P [] ys a = (tt, a)
split_all P (x ∷ xs) ys a = let r = split_all P xs ys a.1 in ((a.0, r.0), r.1)

abbrev FewParams : MethodDecl → Type 0
FewParams m = length m.params ≤ 32

module _ (p : Program) (t : Tables) where
  members_shape : (at : Home) (members : List Member) (methods : List Method) → IsHome p at → AllOf FewParams (methods_of members) → AreMethods t at members methods → AllOf (MethodHasShape p) methods
  members_shape at [] methods here few are = subst (AllOf (MethodHasShape p)) (sym are) tt
  members_shape at (member.Field decl ∷ members) methods here few are = members_shape at members methods here few are
  members_shape at (member.Method decl ∷ members) methods here few are =
      subst (AllOf (MethodHasShape p)) (sym are.2) (written_shape p t at decl are.0 here few.0 are.3, members_shape at members are.1 here few.1 are.4)

  module _ (total : ℕ) (homes : (class : ℕ) → class < total → (class < length p.classes) × ((class_at p class).parent ≡ t.world.parent class)) where
    home_is : (next : Next) (decl : ClassDecl) → next.class < total → IsHome p (home t next decl)
    home_is next decl lt = record { class = (homes next.class lt).0; parent = (homes next.class lt).1 }

    all_shape : (next : Next) (decls : List ClassDecl) (methods : List Method) → IsNext next decls → next.class + length decls ≡ total → AllOf FewParams (all_methods decls) → AreAllMethods t next decls methods
        → AllOf (MethodHasShape p) methods
    all_shape next [] methods is count few are = subst (AllOf (MethodHasShape p)) (sym are) tt
    all_shape next (decl ∷ decls) methods is count few are =
        let parts = split_all FewParams (methods_of decl.members) (all_methods decls) few in
        let up = (goes next decl decls is).class in
        subst (AllOf (MethodHasShape p)) (sym are.2)
        (all_joined (MethodHasShape p) are.0 are.1
        (members_shape (home t next decl) decl.members are.0 (home_is next decl (omega (arith, count))) parts.0 are.3)
        (all_shape (next_behind next decl) decls are.1 (goes_on next decl decls is) (omega (arith, count, up)) parts.1 are.4))

    defaults_shape : (next : Next) (decls : List ClassDecl) (methods : List Method) → IsNext next decls → next.class + length decls ≡ total → AreDefaults t next decls methods → AllOf (MethodHasShape p) methods
    defaults_shape next [] methods is count are = subst (AllOf (MethodHasShape p)) (sym are) tt
    defaults_shape next (decl ∷ decls) methods is count are =
        let up = (goes next decl decls is).class in
        one_or_none (has_constructor decl.members) are (home_is next decl (omega (arith, count)))
        (λ others rest. defaults_shape (next_behind next decl) decls others (goes_on next decl decls is) (omega (arith, count, up)) rest)
      where
        one_or_none : (b : Bool) → IfElse b (AreDefaults t (next_behind next decl) decls methods) (IsOneDefault (AreDefaults t (next_behind next decl) decls) t (home t next decl) decl.name.span methods)
            → IsHome p (home t next decl) → ((others : List Method) → AreDefaults t (next_behind next decl) decls others → AllOf (MethodHasShape p) others) → AllOf (MethodHasShape p) methods
        one_or_none true are here rest = rest methods are
        one_or_none false are here rest = subst (AllOf (MethodHasShape p)) (sym are.2) (default_shape p t (home t next decl) decl.name.span are.0 here are.3, rest are.1 are.4)

-- ---- classes

pub classes_length : (next : Next) (parent : ℕ → Option ℕ) (decls : List ClassDecl) → length (classes_of next parent decls) ≡ length decls
classes_length next parent [] = refl
classes_length next parent (decl ∷ decls) = let e = classes_length (next_behind next decl) parent decls in omega (arith, e)

pub class_found : (next : Next) (parent : ℕ → Option ℕ) (decls : List ClassDecl) (k : ℕ) → IsNext next decls → k < length decls
    → (unwrap_or (slice_get (classes_of next parent decls) k) no_class).parent ≡ parent (next.class + k)
class_found next parent [] k is lt = absurd (omega (arith, lt))
class_found next parent (decl ∷ decls) zero is lt = let e : next.class ≡ next.class + 0 = omega arith in ap parent e
class_found next parent (decl ∷ decls) (suc k) is lt =
    let up = (goes next decl decls is).class in
    let e : (next_behind next decl).class + k ≡ next.class + suc k = omega (arith, up) in
    class_found (next_behind next decl) parent decls k (goes_on next decl decls is) (omega (arith, lt)) ∙ ap parent e

-- ---- counts

abbrev pub counted : {A : Type 0} → (A → Bool) → List A → ℕ
counted is [] = 0
counted is (x ∷ xs) = if is x then 1 + counted is xs else counted is xs

pub counted_is : {A : Type 0} (is : A → Bool) (xs : List A) → counted is xs ≡ count_by is xs
counted_is is xs = is_count_by (counted is) is refl (λ x xs. refl) xs

counted_append : {A : Type 0} (is : A → Bool) (xs ys : List A) → counted is (xs ++ ys) ≡ counted is xs + counted is ys
counted_append is [] ys = omega arith
counted_append is (x ∷ xs) ys = one_or_none (is x) (counted_append is xs ys)
  where
    one_or_none : (b : Bool) → counted is (xs ++ ys) ≡ counted is xs + counted is ys
        → (if b then 1 + counted is (xs ++ ys) else counted is (xs ++ ys)) ≡ (if b then 1 + counted is xs else counted is xs) + counted is ys
    one_or_none true e = omega (arith, e)
    one_or_none false e = e

counted_few : {A : Type 0} (is : A → Bool) (xs : List A) → counted is xs ≤ length xs
counted_few is [] = omega arith
counted_few is (x ∷ xs) = one_or_none (is x) (counted_few is xs)
  where
    one_or_none : (b : Bool) → counted is xs ≤ length xs → (if b then 1 + counted is xs else counted is xs) ≤ length (x ∷ xs)
    one_or_none true le = omega (arith, le)
    one_or_none false le = omega (arith, le)

counted_none : {A : Type 0} (is : A → Bool) (xs : List A) → AllOf (λ x. is x ≡ false) xs → counted is xs ≡ 0
counted_none is [] all = refl
counted_none is (x ∷ xs) all = ap (λ b. if b then 1 + counted is xs else counted is xs) all.0 ∙ counted_none is xs all.1

defaults_unwritten : (t : Tables) (next : Next) (decls : List ClassDecl) (methods : List Method) → AreDefaults t next decls methods → AllOf (λ (method : Method). method.written ≡ false) methods
defaults_unwritten t next [] methods are = subst (AllOf (λ (method : Method). method.written ≡ false)) (sym are) tt
defaults_unwritten t next (decl ∷ decls) methods are = one_or_none (has_constructor decl.members) are (λ others rest. defaults_unwritten t (next_behind next decl) decls others rest)
  where
    one_or_none : (b : Bool) → IfElse b (AreDefaults t (next_behind next decl) decls methods) (IsOneDefault (AreDefaults t (next_behind next decl) decls) t (home t next decl) decl.name.span methods)
        → ((others : List Method) → AreDefaults t (next_behind next decl) decls others → AllOf (λ (method : Method). method.written ≡ false) others) → AllOf (λ (method : Method). method.written ≡ false) methods
    one_or_none true are rest = rest methods are
    one_or_none false are rest = subst (AllOf (λ (method : Method). method.written ≡ false)) (sym are.2) (ap (λ (m : Method). m.written) are.3.same, rest are.1 are.4)

pub written_length : (t : Tables) (next : Next) (decls : List ClassDecl) (methods : List Method) → AreAllMethods t next decls methods → length methods ≡ length (all_methods decls)
written_length t next [] methods are = ap (λ (l : List Method). length l) are
written_length t next (decl ∷ decls) methods are =
    let a = ap (λ (l : List Method). length l) are.2 in let b = length-append are.0 are.1 in let c = (counted_methods t (home t next decl) decl.members are.0 are.3).0 in
    let d = written_length t (next_behind next decl) decls are.1 are.4 in let e = length-append (methods_of decl.members) (all_methods decls) in omega (arith, a, b, c, d, e)

-- ---- the program

-- What the program of a source has, whatever its names mean.
pub program_shape : (names : Names) (decls : List ClassDecl) (p : Program) → IsSmall decls → program.program names decls ≡ Ok p → HasShape p
program_shape names decls p small e =
    let has = program_has names decls p e in
    let methods = has.0 in
    let t = tables names decls in
    let first = first_numbers decls in
    let few : all_field_count decls ≤ most_counted = (let a = few_fields decls in let b = small.members in omega (arith, a, b)) in
    let is = first_next decls small.classes small.methods few in
    let classes : p.classes ≡ classes_of first t.world.parent decls = has.1 ∙ classes_behind [] first t.world.parent decls in
    let enough : 0 + length decls ≤ most_counted = (let a = small.classes in omega (arith, a)) in
    let fields : p.fields ≡ fields_of names 0 decls = has.2 ∙ fields_behind names [] 0 decls enough in
    let long : length p.classes ≡ length decls = ap (λ (l : List Class). length l) classes ∙ classes_length first t.world.parent decls in
    let homes : (class : ℕ) → class < length decls → (class < length p.classes) × ((class_at p class).parent ≡ t.world.parent class) = λ class lt.
    (let here : class < length p.classes = omega (arith, lt, long) in
    let zero : 0 + class ≡ class = omega arith in
    (here, ap (λ (l : List Class). (unwrap_or (slice_get l class) no_class).parent) classes ∙ class_found first t.world.parent decls class is lt ∙ ap t.world.parent zero)) in
    let total : first.class + length decls ≡ length decls = omega arith in
    record {
      fields = subst (AllNumbered (ListsFields p.fields) 0) (sym classes) (classes_have_fields names p.fields first t.world.parent decls [] is fields refl tt);
      methods = subst (AllNumbered (ListsMethods p.methods) 0) (sym classes)
          (classes_have_methods t p.methods first t.world.parent decls [] methods.written [] methods.default is methods.same methods.are_written methods.are_default refl
          (let a = first_default decls small.methods in let b = written_length t first decls methods.written methods.are_written in omega (arith, a, b)) tt tt);
      written = at_most_is (count_by (λ (method : Method). method.written) p.methods) 4096
          (let a = counted_is (λ (method : Method). method.written) p.methods in
          let b = ap (λ (l : List Method). counted (λ (method : Method). method.written) l) methods.same in
          let c = counted_append (λ (method : Method). method.written) methods.written methods.default in
          let d = counted_few (λ (method : Method). method.written) methods.written in
          let f = counted_none (λ (method : Method). method.written) methods.default (defaults_unwritten t first decls methods.default methods.are_default) in
          let g = written_length t first decls methods.written methods.are_written in
          let h = small.methods in omega (arith, a, b, c, d, f, g, h));
      each = subst (AllOf (MethodHasShape p)) (sym methods.same)
          (all_joined (MethodHasShape p) methods.written methods.default
          (all_shape p t (length decls) homes first decls methods.written is total small.params methods.are_written)
          (defaults_shape p t (length decls) homes first decls methods.default is total methods.are_default));
    }

-- The same, of a source that passes no limit on names.
pub shape_of : (names : Names) (decls : List ClassDecl) (p : Program) → program.program names decls ≡ Ok p → limit decls ≡ None → members_in decls + 1 < 2 ^ 32 → HasShape p
shape_of names decls p e within few = program_shape names decls p (small decls within (omega (arith, few))) e
