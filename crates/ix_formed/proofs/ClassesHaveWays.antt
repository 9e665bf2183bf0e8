-- Each class of an accepted source has its parent's number, and its way up ends.
use Rattle.std.proofs.Common.{◌≡◌, ◌≤◌, ◌<◌, ◌^◌, ℕ, zero, suc, ◌+◌, Bool, true, false, List, [], ◌∷◌, ◌++◌, length, Option, Some, None, Ok, refl, sym, ap, subst, ◌∙◌, arith}
use Rattle.std.specs.Prelude.{if◌then◌else◌, nat_lt, ◌&&◌, slice_get, unwrap_or, bytes_eq}
use Rattle.std.proofs.lemmas.Bool.Decides.{nat_tests}
use Rattle.std.proofs.lemmas.Option.{slice_get_past}
use Rattle.ix_core.specs.declared.program.Class.{Class}
use Rattle.ix_core.specs.declared.program.Program.{Program}
use Rattle.ix_core.specs.Formed.{parent_fits, ends_within}
use Rattle.ix_core.specs.Tables.{class_at, no_class, most_on_way}
use Rattle.ix_tree.specs.declared.annot.Ident.{Ident}
use Rattle.ix_tree.specs.declared.decl.ClassDecl.{ClassDecl}
use Rattle.ix_tree.specs.declared.decl.Unit.{Unit as Source}
use Rattle.ix_meaning.specs.declared.members.Signature.{Signature}
use Rattle.ix_meaning.specs.declared.note.Rule.TheVariants as rule
use Rattle.ix_meaning.specs.Classes.{class_named, first_class, first_or, parents, parents_by, parent, parent_in, parent_in_table, is_cyclic, supers}
use Rattle.ix_meaning.specs.Limits.{past_inheritance, most_inherited}
use Rattle.ix_meaning.specs.Members.{World, world, methods}
use Rattle.ix_meaning.specs.Declarators as declared
use Rattle.ix_meaning.specs.Resolved.{Names, Accepts}
use Rattle.ix_meaning.specs.Rules.{duplicate_name}
use Rattle.ix_meaning.specs.Source.{notes, notes_from, class_notes, head_notes, parent_use, member_notes, place, member_named, default_notes_of, next_fields, is_taken, members_in}
use Rattle.ix_meaning.specs.Types.{wrong_if}
use Rattle.ix_plain.specs.declared.numbers.Next.{Next}
use Rattle.ix_plain.specs.Counts.{most_counted}
use Rattle.ix_plain.specs.Members.{next_behind, first_numbers}
use Rattle.ix_plain.specs.Program as program
use Rattle.ix_core.proofs.Cases.{by_test}
use Rattle.ix_formed.specs.Additions.{AllOf}
use Rattle.ix_formed.specs.NoErrors.{IsClean}
use Rattle.ix_formed.specs.Shape.{IsSmall, IsNext, AllNumbered, classes_of, all_field_count}
use Rattle.ix_formed.proofs.CleanNotes.{all_clean, clean_parts, unbroken}
use Rattle.ix_formed.proofs.Numbering.{goes, goes_on, classes_behind}
use Rattle.ix_formed.proofs.NumberLists.{both_true}
use Rattle.ix_formed.proofs.MethodNumbers.{first_next}
use Rattle.ix_formed.proofs.AllMethods.{program_has}
use Rattle.ix_formed.proofs.SmallSources.{small, few_fields}
use Rattle.ix_formed.proofs.ProgramsHaveShape.{less_is, classes_length, class_found}
use Rattle.ix_formed.proofs.WaysUp.{way_ends}

-- ---- numbers of classes

pub parents_length : (class : List ℕ → Option ℕ) (decls : List ClassDecl) → length (parents_by class decls) ≡ length decls
parents_length class [] = refl
parents_length class (decl ∷ decls) = let e = parents_length class decls in omega (arith, e)

first_below : (name : List ℕ) (found : Option ℕ) (k : ℕ) (decls : List ClassDecl) (class : ℕ) → ((n : ℕ) → found ≡ Some n → n < k) → first_class name found k decls ≡ Some class → class < k + length decls
first_below name found k [] class below e = let lt = below class e in omega (arith, lt)
first_below name found k (decl ∷ decls) class below e =
    let lt = first_below name (first_or found name decl.name.text k) (k + 1) decls class (one_below found (bytes_eq decl.name.text name) below) e in omega (arith, lt)
  where
    named_below : (b : Bool) (n : ℕ) → (if b then Some k else None) ≡ Some n → n < k + 1
    named_below true n f = let same : k ≡ n = cc in omega (arith, same)
    named_below false n f = absurd cc

    one_below : (found : Option ℕ) (b : Bool) → ((n : ℕ) → found ≡ Some n → n < k) → (n : ℕ) → first_or found name decl.name.text k ≡ Some n → n < k + 1
    one_below (Some m) b below n f = let lt = below n f in omega (arith, lt)
    one_below None b below n f = named_below (bytes_eq decl.name.text name) n f

-- a class that a name means is one of the source
pub named_within : (decls : List ClassDecl) (name : List ℕ) (class : ℕ) → class_named decls name ≡ Some class → class < length decls
named_within decls name class e = let lt = first_below name None 0 decls class (λ n f. absurd cc) e in omega (arith, lt)

parent_named : (of : List ℕ → Option ℕ) (most : ℕ) → ((name : List ℕ) (class : ℕ) → of name ≡ Some class → class < most) → (decls : List ClassDecl) (k class : ℕ)
    → parent (parents_by of decls) k ≡ Some class → class < most
parent_named of most within [] k class e = absurd cc
parent_named of most within (decl ∷ decls) zero class e = named decl.parent e
  where
    named : (name : Option Ident) → parent_in_table of name ≡ Some class → class < most
    named None e = absurd cc
    named (Some name) e = within name.text class e
parent_named of most within (decl ∷ decls) (suc k) class e = parent_named of most within decls k class e

pub parent_within : (decls : List ClassDecl) (k class : ℕ) → parent (parents decls) k ≡ Some class → class < length decls
parent_within decls k class e = parent_named (class_named decls) (length decls) (named_within decls) decls k class e

-- ---- no class is its own superclass

acyclic_from : (w : World) (ps : List (Option ℕ)) (ms : List Signature) (c next : ℕ) (decls : List ClassDecl) → AllOf IsClean (notes_from w ps ms c next decls)
    → (k : ℕ) → k < length decls → is_cyclic ps (c + k) ≡ false
acyclic_from w ps ms c next [] clean k lt = absurd (omega (arith, lt))
acyclic_from w ps ms c next (decl ∷ decls) clean zero lt =
    let own = (clean_parts (class_notes w ps ms c next decl) (notes_from w ps ms (c + 1) (next_fields next decl.members) decls) clean).0 in
    let head = (clean_parts (head_notes w (is_cyclic ps c) c decl) (member_notes (place w ms c decl) (member_named decl.members) 0 next (declared.members decl.members) ++ default_notes_of w c decl) own).0 in
    let behind = (clean_parts (duplicate_name (is_taken (w.class decl.name.text) c) decl.name.span) (parent_use w decl.parent ++ wrong_if (is_cyclic ps c) rule.CyclicClass decl.name.span) head).1 in
    let last = (clean_parts (parent_use w decl.parent) (wrong_if (is_cyclic ps c) rule.CyclicClass decl.name.span) behind).1 in
    let zero : c ≡ c + 0 = omega arith in
    ap (is_cyclic ps) (sym zero) ∙ unbroken (is_cyclic ps c) rule.CyclicClass decl.name.span last
acyclic_from w ps ms c next (decl ∷ decls) clean (suc k) lt =
    let rest = (clean_parts (class_notes w ps ms c next decl) (notes_from w ps ms (c + 1) (next_fields next decl.members) decls) clean).1 in
    let e : (c + 1) + k ≡ c + suc k = omega arith in
    ap (is_cyclic ps) (sym e) ∙ acyclic_from w ps ms (c + 1) (next_fields next decl.members) decls rest k (omega (arith, lt))

pub acyclic : (unit : Source) → Accepts unit → (class : ℕ) → class < length unit.classes → is_cyclic (parents unit.classes) class ≡ false
acyclic unit accepts class lt =
    let e : 0 + class ≡ class = omega arith in
    ap (is_cyclic (parents unit.classes)) (sym e)
    ∙ acyclic_from (world unit.classes) (parents unit.classes) (methods unit.classes) 0 0 unit.classes (all_clean (notes unit.classes) accepts.no_errors) class lt

few_from : (ps : List (Option ℕ)) (c : ℕ) (decls : List ClassDecl) → past_inheritance ps c decls ≡ None → (k : ℕ) → k < length decls → 1 + length (supers ps (c + k)) ≤ 32
few_from ps c [] none k lt = absurd (omega (arith, lt))
few_from ps c (decl ∷ decls) none k lt = by_test (nat_lt most_inherited (1 + length (supers ps c)))
    (λ t. let some = sym (ap (λ b. if b then Some (Rattle.ix_meaning.specs.Limits.passed Rattle.ix_meaning.specs.declared.note.Which.TheVariants.Inheritance decl.name) else past_inheritance ps (c + 1) decls) t) ∙ none in absurd cc)
    (λ f. here_or_later k lt f (sym (ap (λ b. if b then Some (Rattle.ix_meaning.specs.Limits.passed Rattle.ix_meaning.specs.declared.note.Which.TheVariants.Inheritance decl.name) else past_inheritance ps (c + 1) decls) f) ∙ none)
    (λ rest j below. few_from ps (c + 1) decls rest j below))
  where
    here_or_later : (k : ℕ) → k < length (decl ∷ decls) → nat_lt most_inherited (1 + length (supers ps c)) ≡ false → past_inheritance ps (c + 1) decls ≡ None
        → (past_inheritance ps (c + 1) decls ≡ None → (j : ℕ) → j < length decls → 1 + length (supers ps ((c + 1) + j)) ≤ 32) → 1 + length (supers ps (c + k)) ≤ 32
    here_or_later zero lt f none later =
        let e : c ≡ c + 0 = omega arith in
        let le : 1 + length (supers ps c) ≤ 32 = grind (arith, nat_tests) in
        subst (λ n. 1 + length (supers ps n) ≤ 32) e le
    here_or_later (suc k) lt f none later =
        let e : (c + 1) + k ≡ c + suc k = omega arith in
        subst (λ n. 1 + length (supers ps n) ≤ 32) e (later none k (omega (arith, lt)))

pub few_supers : (unit : Source) → Accepts unit → (class : ℕ) → class < length unit.classes → 1 + length (supers (parents unit.classes) class) ≤ 32
few_supers unit accepts class lt =
    let e : 0 + class ≡ class = omega arith in
    subst (λ n. 1 + length (supers (parents unit.classes) n) ≤ 32) e (few_from (parents unit.classes) 0 unit.classes accepts.few_inherited class lt)

-- ---- the program's classes

-- the parent of each class of the program is that of the source
pub parents_same : (names : Names) (decls : List ClassDecl) (p : Program) → IsSmall decls → program.program names decls ≡ Ok p → (class : ℕ) → (class_at p class).parent ≡ parent (parents decls) class
parents_same names decls p is_small e class =
    let has = program_has names decls p e in
    let first = first_numbers decls in
    let w = world decls in
    let few : all_field_count decls ≤ most_counted = (let a = few_fields decls in let b = is_small.members in omega (arith, a, b)) in
    let is = first_next decls is_small.classes is_small.methods few in
    let classes : p.classes ≡ classes_of first w.parent decls = has.1 ∙ classes_behind [] first w.parent decls in
    let zero : 0 + class ≡ class = omega arith in
    by_test (nat_lt class (length decls))
    (λ t. let lt : class < length decls = grind (arith, nat_tests) in
    ap (λ (l : List Class). (unwrap_or (slice_get l class) no_class).parent) classes ∙ class_found first w.parent decls class is lt ∙ ap w.parent zero)
    (λ f. let le : length decls ≤ class = grind (arith, nat_tests) in
    let long = ap (λ (l : List Class). length l) classes ∙ classes_length first w.parent decls in
    let past = parents_length (class_named decls) decls in
    ap (λ (o : Option Class). (unwrap_or o no_class).parent) (slice_get_past p.classes class (omega (arith, le, long)))
    ∙ sym (ap parent_in (slice_get_past (parents decls) class (omega (arith, le, past)))))

abbrev pub HasWay : Program → ℕ → Class → Type 0
HasWay p number class = (parent_fits p class.parent && ends_within p most_on_way (Some number)) ≡ true

parent_is_there : (p : Program) (o : Option ℕ) → ((class : ℕ) → o ≡ Some class → class < length p.classes) → parent_fits p o ≡ true
parent_is_there p None within = refl
parent_is_there p (Some class) within = less_is class (length p.classes) (within class refl)

ways_from : (p : Program) (parent : ℕ → Option ℕ) (total : ℕ) → ((class : ℕ) → class < total → HasWay p class (record (class_at p class) { parent = parent class })) → (next : Next) (decls : List ClassDecl) → IsNext next decls
    → next.class + length decls ≡ total → AllNumbered (HasWay p) next.class (classes_of next parent decls)
ways_from p parent total ways next [] is count = tt
ways_from p parent total ways next (decl ∷ decls) is count =
    let up = (goes next decl decls is).class in (
      ways next.class (omega (arith, count)),
      subst (λ n. AllNumbered (HasWay p) n (classes_of (next_behind next decl) parent decls)) up
          (ways_from p parent total ways (next_behind next decl) decls (goes_on next decl decls is) (omega (arith, count, up))),
    )

-- Each class's parent is there, and its way up ends within the limit.
pub classes_have_ways : (names : Names) (unit : Source) (p : Program) → Accepts unit → members_in unit.classes + 1 < 2 ^ 32 → program.program names unit.classes ≡ Ok p
    → AllNumbered (HasWay p) 0 p.classes
classes_have_ways names unit p accepts few e =
    let decls = unit.classes in
    let is_small = small decls accepts.within (omega (arith, few)) in
    let has = program_has names decls p e in
    let first = first_numbers decls in
    let w = world decls in
    let ps = parents decls in
    let is = first_next decls is_small.classes is_small.methods (let a = few_fields decls in let b = is_small.members in omega (arith, a, b)) in
    let classes : p.classes ≡ classes_of first w.parent decls = has.1 ∙ classes_behind [] first w.parent decls in
    let long : length p.classes ≡ length decls = ap (λ (l : List Class). length l) classes ∙ classes_length first w.parent decls in
    let same = parents_same names decls p is_small e in
    let all : length ps ≡ length decls = parents_length (class_named decls) decls in
    let total : first.class + length decls ≡ length decls = omega arith in
    subst (AllNumbered (HasWay p) 0) (sym classes)
    (ways_from p w.parent (length decls)
    (λ class lt. both_true (parent_fits p (w.parent class)) (ends_within p most_on_way (Some class))
    (parent_is_there p (w.parent class) (λ above f. let b = parent_within decls class above f in omega (arith, b, long)))
    (way_ends ps (λ c below. acyclic unit accepts c (omega (arith, below, all))) (λ c above f. let b = parent_within decls c above f in omega (arith, b, all))
    p same most_on_way class (omega (arith, lt, all)) (few_supers unit accepts class lt)))
    first decls is total)
