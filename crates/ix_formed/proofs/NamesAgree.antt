-- The table of an accepted source says at each place what the one note there says.
use Rattle.std.proofs.Common.{◌≡◌, ◌≢◌, ◌≤◌, ℕ, ◌+◌, Bool, true, false, List, [], ◌∷◌, ◌++◌, refl, sym, ap, ◌∙◌, arith, append_assoc}
use Rattle.std.specs.Prelude.{◌==◌}
use Rattle.std.proofs.lemmas.Bool.{and_parts}
use Rattle.ix_text.specs.declared.span.Span.{Span}
use Rattle.ix_core.specs.Formed.{one_if}
use Rattle.ix_core.proofs.Cases.{by_test, equal}
use Rattle.ix_tree.specs.declared.annot.Ident.{Ident}
use Rattle.ix_tree.specs.declared.decl.Unit.{Unit as Source}
use Rattle.ix_tree.specs.Parts.{Part, expression, statement, declaration, in_type, elsewhere, entries, Apart, All, AllApart, CanResolve, unit_parts}
use Rattle.ix_meaning.specs.declared.note.Note.{Note}
use Rattle.ix_meaning.specs.declared.note.Note.TheVariants.{Use, Typed, Declares, Wrong, WrongAnnot}
use Rattle.ix_meaning.specs.Listed.{same_span}
use Rattle.ix_meaning.specs.Resolved.{names, meaning_at, type_at, declared_at, or_found, Accepts}
use Rattle.ix_meaning.specs.Source.{notes}
use Rattle.ix_formed.specs.Additions.{AllOf}
use Rattle.ix_formed.specs.NoErrors.{IsClean, Agrees, named_at}
use Rattle.ix_formed.specs.Weights.{total, IsWeighed}
use Rattle.ix_formed.proofs.CleanNotes.{all_clean}
use Rattle.ix_formed.proofs.ExpressionNotes.{total_append}
use Rattle.ix_formed.proofs.NumberLists.{is_itself, both_true}
use Rattle.ix_formed.proofs.SourceNotes.{notes_weigh_less}

-- ---- spans

same_itself : (a : Span) → same_span a a ≡ true
same_itself a = both_true (a.from == a.from) (a.to == a.to) (is_itself a.from) (is_itself a.to)

abbrev span_of : ℕ → ℕ → Span
span_of from to = record { from = from; to = to }

same_is : (a b : Span) → same_span a b ≡ true → a ≡ b
same_is a b e =
    let parts = and_parts (a.from == b.from) (a.to == b.to) e in
    let from = equal a.from b.from parts.0 in
    let to = equal a.to b.to parts.1 in
    ap (λ n. span_of n a.to) from ∙ ap (λ n. span_of b.from n) to

-- ---- what is weighed

abbrev typed_note : Span → Note → ℕ
typed_note q (Typed span ty) = one_if (same_span span q)
typed_note q _ = 0

abbrev typed_part : Span → Part → ℕ
typed_part q (expression span) = one_if (same_span span q)
typed_part q _ = 0

abbrev used_note : Span → Note → ℕ
used_note q (Use span m) = one_if (same_span span q)
used_note q _ = 0

abbrev used_part : Span → Part → ℕ
used_part q (elsewhere name) = one_if (same_span name.span q)
used_part q (in_type name) = one_if (same_span name.span q)
used_part q _ = 0

abbrev declared_note : Span → Note → ℕ
declared_note q (Declares span d) = one_if (same_span span q)
declared_note q _ = 0

typed_weighed : (q : Span) → IsWeighed (typed_note q) (typed_part q)
typed_weighed q = record { typed = λ span ty. omega arith; used = λ name m. omega arith; used_in_type = λ name m. omega arith; declared = λ name d. omega arith; wrong = λ e. refl; wrong_annot = λ e. refl }

used_weighed : (q : Span) → IsWeighed (used_note q) (used_part q)
used_weighed q = record { typed = λ span ty. omega arith; used = λ name m. omega arith; used_in_type = λ name m. omega arith; declared = λ name d. omega arith; wrong = λ e. refl; wrong_annot = λ e. refl }

declared_weighed : (q : Span) → IsWeighed (declared_note q) (named_at q)
declared_weighed q = record { typed = λ span ty. omega arith; used = λ name m. omega arith; used_in_type = λ name m. omega arith; declared = λ name d. omega arith; wrong = λ e. refl; wrong_annot = λ e. refl }

-- ---- parts at one place

one_is : (b : Bool) → one_if b ≤ 1
one_is true = omega arith
one_is false = omega arith

-- where one stands there, no later one does
none_later : (weight : Part → ℕ) (part : Part) (ps : List Part) → ((other : Part) → Apart part other → weight other ≡ 0) → All (Apart part) ps → total weight ps ≡ 0
none_later weight part [] none all = refl
none_later weight part (p ∷ ps) none all = let a = none p all.0 in let b = none_later weight part ps none all.1 in omega (arith, a, b)

differs : (a b q : Span) → a ≢ b → same_span a q ≡ true → one_if (same_span b q) ≡ 0
differs a b q apart e = by_test (same_span b q) (λ t. absurd (apart (same_is a q e ∙ sym (same_is b q t)))) (λ f. ap one_if f)

typed_apart : (q span : Span) → same_span span q ≡ true → (other : Part) → Apart (expression span) other → typed_part q other ≡ 0
typed_apart q span e (expression other) apart = differs span other q apart e
typed_apart q span e (statement other) apart = refl
typed_apart q span e declaration apart = refl
typed_apart q span e (in_type other) apart = refl
typed_apart q span e (elsewhere other) apart = refl
typed_apart q span e (entries n) apart = refl

typed_once : (q : Span) (ps : List Part) → AllApart ps → total (typed_part q) ps ≤ 1
typed_once q [] apart = omega arith
typed_once q (expression span ∷ ps) apart =
    by_test (same_span span q)
    (λ t. let a = none_later (typed_part q) (expression span) ps (typed_apart q span t) apart.0 in let b = ap one_if t in omega (arith, a, b))
    (λ f. let a = typed_once q ps apart.1 in let b = ap one_if f in omega (arith, a, b))
typed_once q (statement span ∷ ps) apart = let a = typed_once q ps apart.1 in omega (arith, a)
typed_once q (declaration ∷ ps) apart = let a = typed_once q ps apart.1 in omega (arith, a)
typed_once q (in_type name ∷ ps) apart = let a = typed_once q ps apart.1 in omega (arith, a)
typed_once q (elsewhere name ∷ ps) apart = let a = typed_once q ps apart.1 in omega (arith, a)
typed_once q (entries n ∷ ps) apart = let a = typed_once q ps apart.1 in omega (arith, a)

used_apart : (q : Span) (name : Ident) → same_span name.span q ≡ true → (other : Part) → Apart (elsewhere name) other → used_part q other ≡ 0
used_apart q name e (expression other) apart = refl
used_apart q name e (statement other) apart = refl
used_apart q name e declaration apart = refl
used_apart q name e (in_type other) apart = differs name.span other.span q apart e
used_apart q name e (elsewhere other) apart = differs name.span other.span q apart e
used_apart q name e (entries n) apart = refl

in_type_apart : (q : Span) (name : Ident) → same_span name.span q ≡ true → (other : Part) → Apart (in_type name) other → named_at q other ≡ 0
in_type_apart q name e (expression other) apart = refl
in_type_apart q name e (statement other) apart = refl
in_type_apart q name e declaration apart = refl
in_type_apart q name e (in_type other) apart = refl
in_type_apart q name e (elsewhere other) apart = differs name.span other.span q apart e
in_type_apart q name e (entries n) apart = refl

named_apart : (q : Span) (name : Ident) → same_span name.span q ≡ true → (other : Part) → Apart (elsewhere name) other → named_at q other ≡ 0
named_apart q name e (expression other) apart = refl
named_apart q name e (statement other) apart = refl
named_apart q name e declaration apart = refl
named_apart q name e (in_type other) apart = refl
named_apart q name e (elsewhere other) apart = differs name.span other.span q apart e
named_apart q name e (entries n) apart = refl

named_once : (q : Span) (ps : List Part) → AllApart ps → total (named_at q) ps ≤ 1
named_once q [] apart = omega arith
named_once q (elsewhere name ∷ ps) apart =
    by_test (same_span name.span q)
    (λ t. let a = none_later (named_at q) (elsewhere name) ps (named_apart q name t) apart.0 in let b = ap one_if t in omega (arith, a, b))
    (λ f. let a = named_once q ps apart.1 in let b = ap one_if f in omega (arith, a, b))
named_once q (statement span ∷ ps) apart = let a = named_once q ps apart.1 in omega (arith, a)
named_once q (declaration ∷ ps) apart = let a = named_once q ps apart.1 in omega (arith, a)
named_once q (in_type name ∷ ps) apart = let a = named_once q ps apart.1 in omega (arith, a)
named_once q (expression span ∷ ps) apart = let a = named_once q ps apart.1 in omega (arith, a)
named_once q (entries n ∷ ps) apart = let a = named_once q ps apart.1 in omega (arith, a)

-- where a name stands outside types, no other does
used_once : (q : Span) (ps : List Part) → AllApart ps → 1 ≤ total (named_at q) ps → total (used_part q) ps ≤ 1
used_once q [] apart there = omega arith
used_once q (elsewhere name ∷ ps) apart there =
    by_test (same_span name.span q)
    (λ t. let a = none_later (used_part q) (elsewhere name) ps (used_apart q name t) apart.0 in let b = ap one_if t in omega (arith, a, b))
    (λ f. let b = ap one_if f in let a = used_once q ps apart.1 (omega (arith, there, b)) in omega (arith, a, b))
used_once q (in_type name ∷ ps) apart there =
    by_test (same_span name.span q)
    (λ t. let a = none_later (named_at q) (in_type name) ps (in_type_apart q name t) apart.0 in absurd (omega (arith, a, there)))
    (λ f. let b = ap one_if f in let a = used_once q ps apart.1 (omega (arith, there)) in omega (arith, a, b))
used_once q (statement span ∷ ps) apart there = let a = used_once q ps apart.1 (omega (arith, there)) in omega (arith, a)
used_once q (declaration ∷ ps) apart there = let a = used_once q ps apart.1 (omega (arith, there)) in omega (arith, a)
used_once q (expression span ∷ ps) apart there = let a = used_once q ps apart.1 (omega (arith, there)) in omega (arith, a)
used_once q (entries n ∷ ps) apart there = let a = used_once q ps apart.1 (omega (arith, there)) in omega (arith, a)

-- ---- look-ups behind notes of other places

not_there : (b : Bool) (n : ℕ) → one_if b + n ≡ 0 → b ≡ false
not_there true n e = absurd (omega (arith, e))
not_there false n e = refl

typed_behind : (q : Span) (before ns : List Note) → total (typed_note q) before ≡ 0 → type_at q (before ++ ns) ≡ type_at q ns
typed_behind q [] ns e = refl
typed_behind q (Typed span ty ∷ before) ns e =
    let f = not_there (same_span span q) (total (typed_note q) before) e in
    let rest : total (typed_note q) before ≡ 0 = omega (arith, e) in
    ap (λ b. or_found b ty (type_at q (before ++ ns))) f ∙ typed_behind q before ns rest
typed_behind q (Use span m ∷ before) ns e = typed_behind q before ns (omega (arith, e))
typed_behind q (Declares span d ∷ before) ns e = typed_behind q before ns (omega (arith, e))
typed_behind q (Wrong error ∷ before) ns e = typed_behind q before ns (omega (arith, e))
typed_behind q (WrongAnnot error ∷ before) ns e = typed_behind q before ns (omega (arith, e))

used_behind : (q : Span) (before ns : List Note) → total (used_note q) before ≡ 0 → meaning_at q (before ++ ns) ≡ meaning_at q ns
used_behind q [] ns e = refl
used_behind q (Use span m ∷ before) ns e =
    let f = not_there (same_span span q) (total (used_note q) before) e in
    let rest : total (used_note q) before ≡ 0 = omega (arith, e) in
    ap (λ b. or_found b m (meaning_at q (before ++ ns))) f ∙ used_behind q before ns rest
used_behind q (Typed span ty ∷ before) ns e = used_behind q before ns (omega (arith, e))
used_behind q (Declares span d ∷ before) ns e = used_behind q before ns (omega (arith, e))
used_behind q (Wrong error ∷ before) ns e = used_behind q before ns (omega (arith, e))
used_behind q (WrongAnnot error ∷ before) ns e = used_behind q before ns (omega (arith, e))

declared_behind : (q : Span) (before ns : List Note) → total (declared_note q) before ≡ 0 → declared_at q (before ++ ns) ≡ declared_at q ns
declared_behind q [] ns e = refl
declared_behind q (Declares span d ∷ before) ns e =
    let f = not_there (same_span span q) (total (declared_note q) before) e in
    let rest : total (declared_note q) before ≡ 0 = omega (arith, e) in
    ap (λ b. or_found b d (declared_at q (before ++ ns))) f ∙ declared_behind q before ns rest
declared_behind q (Typed span ty ∷ before) ns e = declared_behind q before ns (omega (arith, e))
declared_behind q (Use span m ∷ before) ns e = declared_behind q before ns (omega (arith, e))
declared_behind q (Wrong error ∷ before) ns e = declared_behind q before ns (omega (arith, e))
declared_behind q (WrongAnnot error ∷ before) ns e = declared_behind q before ns (omega (arith, e))

-- ---- all notes

module _ (unit : Source) (can : CanResolve unit) where
  abbrev all : List Note
  all = notes unit.classes

  one_before : (weight : Note → ℕ) (before rest : List Note) (first : Note) → all ≡ before ++ first ∷ rest → weight first ≡ 1 → total weight all ≤ 1 → total weight before ≡ 0
  one_before weight before rest first e one few = let a = ap (total weight) e in let b = total_append weight before (first ∷ rest) in omega (arith, a, b, one, few)

  agree : (before ns : List Note) → all ≡ before ++ ns → AllOf IsClean ns → AllOf (Agrees (names unit) (unit_parts unit)) ns
  agree before [] e clean = tt
  agree before (Typed q ty ∷ ns) e clean =
      let few = (let a = notes_weigh_less (typed_note q) (typed_part q) (typed_weighed q) unit in let b = typed_once q (unit_parts unit) can.apart in le_one (total (typed_note q) all) (total (typed_part q) (unit_parts unit)) a b) in
      let none = one_before (typed_note q) before ns (Typed q ty) e (ap one_if (same_itself q)) few in (
        ap (type_at q) e ∙ typed_behind q before (Typed q ty ∷ ns) none ∙ ap (λ b. or_found b ty (type_at q ns)) (same_itself q),
        agree (before ++ Typed q ty ∷ []) ns (e ∙ sym (append_assoc before (Typed q ty ∷ []) ns)) clean.1,
      )
    where
      le_one : (a b : ℕ) → a ≤ b → b ≤ 1 → a ≤ 1
      le_one a b x y = omega (arith, x, y)
  agree before (Use q m ∷ ns) e clean = (
    (λ there.
        let few = (let a = notes_weigh_less (used_note q) (used_part q) (used_weighed q) unit in let b = used_once q (unit_parts unit) can.apart there in le_one (total (used_note q) all) (total (used_part q) (unit_parts unit)) a b) in
        let none = one_before (used_note q) before ns (Use q m) e (ap one_if (same_itself q)) few in
        ap (meaning_at q) e ∙ used_behind q before (Use q m ∷ ns) none ∙ ap (λ b. or_found b m (meaning_at q ns)) (same_itself q)),
    agree (before ++ Use q m ∷ []) ns (e ∙ sym (append_assoc before (Use q m ∷ []) ns)) clean.1,
  )
    where
      le_one : (a b : ℕ) → a ≤ b → b ≤ 1 → a ≤ 1
      le_one a b x y = omega (arith, x, y)
  agree before (Declares q d ∷ ns) e clean =
      let few = (let a = notes_weigh_less (declared_note q) (named_at q) (declared_weighed q) unit in let b = named_once q (unit_parts unit) can.apart in le_one (total (declared_note q) all) (total (named_at q) (unit_parts unit)) a b) in
      let none = one_before (declared_note q) before ns (Declares q d) e (ap one_if (same_itself q)) few in (
        ap (declared_at q) e ∙ declared_behind q before (Declares q d ∷ ns) none ∙ ap (λ b. or_found b d (declared_at q ns)) (same_itself q),
        agree (before ++ Declares q d ∷ []) ns (e ∙ sym (append_assoc before (Declares q d ∷ []) ns)) clean.1,
      )
    where
      le_one : (a b : ℕ) → a ≤ b → b ≤ 1 → a ≤ 1
      le_one a b x y = omega (arith, x, y)
  agree before (Wrong error ∷ ns) e clean = absurd clean.0
  agree before (WrongAnnot error ∷ ns) e clean = absurd clean.0

-- The table of an accepted source agrees with all its notes, and none is an error.
pub notes_agree : (unit : Source) → CanResolve unit → Accepts unit → AllOf (Agrees (names unit) (unit_parts unit)) (notes unit.classes)
notes_agree unit can accepts = agree unit can [] (notes unit.classes) refl (all_clean (notes unit.classes) accepts.no_errors)
