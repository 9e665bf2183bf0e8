-- The members of a class have different names.
use Rattle.std.proofs.Common.{◌≡◌, ◌≢◌, ◌≤◌, ◌<◌, ℕ, ◌+◌, Bool, true, false, List, [], ◌∷◌, ◌++◌, length, Option, Some, None, refl, sym, ap, subst, ◌∙◌, arith, append_assoc, length-append}
use Rattle.std.specs.Prelude.{if◌then◌else◌, nat_lt, bytes_eq}
use Rattle.std.proofs.lemmas.Bool.{false≢true}
use Rattle.std.proofs.lemmas.Bool.Decides.{nat_tests}
use Rattle.std.proofs.lemmas.Slice.Eq.{bytes_eq-Decides}
use Rattle.ix_core.proofs.Cases.{by_test}
use Rattle.ix_tree.specs.declared.decl.Member.{Member}
use Rattle.ix_tree.specs.declared.decl.Member.TheVariants as member
use Rattle.ix_tree.specs.declared.decl.MethodDecl.{MethodDecl}
use Rattle.ix_tree.specs.Parts.{Part}
use Rattle.ix_meaning.specs.declared.note.Rule.TheVariants as rule
use Rattle.ix_meaning.specs.Classes.{first_or}
use Rattle.ix_meaning.specs.Limits.{methods_of}
use Rattle.ix_meaning.specs.Resolved.{Names}
use Rattle.ix_meaning.specs.Source.{Place, member_name, first_member, member_named, is_taken, next_member}
use Rattle.ix_formed.specs.Additions.{AllOf}
use Rattle.ix_formed.specs.NoErrors.{Agrees, MembersSay}
use Rattle.ix_formed.proofs.EachMember.{not_broken}

pub same_text : (a b : List ℕ) → bytes_eq a b ≡ true → a ≡ b
same_text a b = (bytes_eq-Decides a b).0

text_same : (a : List ℕ) → bytes_eq a a ≡ true
text_same a = (bytes_eq-Decides a a).1 refl

-- once found it stays
found_stays : (name : List ℕ) (k i : ℕ) (ms : List Member) → first_member name (Some k) i ms ≡ Some k
found_stays name k i [] = refl
found_stays name k i (m ∷ ms) = found_stays name k (i + 1) ms

-- the first member of a name that one of them has stands no later
found_by_then : (name : List ℕ) (found : Option ℕ) (i : ℕ) (before : List Member) (m : Member) (rest : List Member) → (member_name m).text ≡ name → ((k : ℕ) → found ≡ Some k → k < i)
    → (k : ℕ) × (first_member name found i (before ++ m ∷ rest) ≡ Some k) × (k ≤ i + length before)
found_by_then name (Some k) i before m rest same early = (k, found_stays name k i (before ++ m ∷ rest), (let lt = early k refl in omega (arith, lt)))
found_by_then name None i [] m rest same early =
    let e : bytes_eq (member_name m).text name ≡ true = subst (λ n. bytes_eq (member_name m).text n ≡ true) same (text_same (member_name m).text) in
    (i, ap (λ b. first_member name (if b then Some i else None) (i + 1) rest) e ∙ found_stays name i (i + 1) rest, omega arith)
found_by_then name None i (x ∷ before) m rest same early =
    let r = found_by_then name (first_or None name (member_name x).text i) (i + 1) before m rest same (early_then (bytes_eq (member_name x).text name)) in
    (r.0, r.1, (let le = r.2 in omega (arith, le)))
  where
    early_then : (b : Bool) → (k : ℕ) → (if b then Some i else None) ≡ Some k → k < i + 1
    early_then true k e = let same : i ≡ k = cc in omega (arith, same)
    early_then false k e = absurd cc

-- no two members have one name
abbrev pub Differ : List Member → Type 0
Differ [] = Unit {0}
Differ (m ∷ ms) = AllOf (λ (other : Member). (member_name other).text ≢ (member_name m).text) ms × Differ ms

module _ (names : Names) (parts : List Part) (l : Place) (all : List Member) where
  not_taken : (o : Option ℕ) (k i : ℕ) → o ≡ Some k → k < i → is_taken o i ≡ false → ⊥
  not_taken o k i e lt free = let t : is_taken o i ≡ true = ap (λ o. is_taken o i) e ∙ less_true k i lt in false≢true (sym free ∙ t)
    where
      less_true : (a b : ℕ) → a < b → nat_lt a b ≡ true
      less_true a b lt = grind (arith, nat_tests)

  later_differ : (m : Member) (before between ms : List Member) (i next : ℕ) → all ≡ before ++ m ∷ (between ++ ms) → i ≡ length before + 1 + length between
      → MembersSay (Agrees names parts) l (member_named all) i next ms → AllOf (λ (other : Member). (member_name other).text ≢ (member_name m).text) ms
  later_differ m before between [] i next e count said = tt
  later_differ m before between (x ∷ ms) i next e count said = (
    (λ same.
        let found = found_by_then (member_name x).text None 0 before m (between ++ x ∷ ms) (sym same) (λ k f. absurd cc) in
        let free = not_broken (Agrees names parts) (λ error wrong. wrong) (is_taken (member_named all (member_name x).text) i) rule.DuplicateName (member_name x).span said.0 in
        not_taken (member_named all (member_name x).text) found.0 i (ap (λ (ms : List Member). member_named ms (member_name x).text) e ∙ found.1) (let le = found.2 in omega (arith, le, count)) free),
    later_differ m before (between ++ x ∷ []) ms (i + 1) (next_member next x)
        (e ∙ ap (λ (l : List Member). before ++ m ∷ l) (sym (append_assoc between (x ∷ []) ms))) (let a = length-append between (x ∷ []) in omega (arith, a, count)) said.2,
  )

  members_differ : (before ms : List Member) (i next : ℕ) → all ≡ before ++ ms → i ≡ length before → MembersSay (Agrees names parts) l (member_named all) i next ms → Differ ms
  members_differ before [] i next e count said = tt
  members_differ before (m ∷ ms) i next e count said = (
    later_differ m before [] ms (i + 1) (next_member next m) e (omega (arith, count)) said.2,
    members_differ (before ++ m ∷ []) ms (i + 1) (next_member next m) (e ∙ sym (append_assoc before (m ∷ []) ms)) (let a = length-append before (m ∷ []) in omega (arith, a, count)) said.2,
  )

  pub all_differ : (next : ℕ) → MembersSay (Agrees names parts) l (member_named all) 0 next all → Differ all
  all_differ next said = members_differ [] all 0 next refl refl said

-- ---- counts of numbers

abbrev pub counted : (ℕ → Bool) → List ℕ → ℕ
counted is [] = 0
counted is (x ∷ xs) = if is x then 1 + counted is xs else counted is xs

-- a test that asks for one name, of the methods of a class from that number on
abbrev pub AsksName : (ℕ → Bool) → List ℕ → ℕ → List MethodDecl → Type 0
AsksName is name first [] = Unit {0}
AsksName is name first (d ∷ ds) = (is first ≡ true → d.name.text ≡ name) × AsksName is name (first + 1) ds

abbrev pub numbers : ℕ → List MethodDecl → List ℕ
numbers first [] = []
numbers first (d ∷ ds) = first ∷ numbers (first + 1) ds

pub none_asked : (is : ℕ → Bool) (name : List ℕ) (first : ℕ) (ms : List Member) → AllOf (λ (other : Member). (member_name other).text ≢ name) ms → AsksName is name first (methods_of ms) → counted is (numbers first (methods_of ms)) ≡ 0
none_asked is name first [] other asks = refl
none_asked is name first (member.Field d ∷ ms) other asks = none_asked is name first ms other.1 asks
none_asked is name first (member.Method d ∷ ms) other asks =
    by_test (is first) (λ t. absurd (other.0 (asks.0 t)))
    (λ f. ap (λ b. if b then 1 + counted is (numbers (first + 1) (methods_of ms)) else counted is (numbers (first + 1) (methods_of ms))) f ∙ none_asked is name (first + 1) ms other.1 asks.1)

pub one_asked : (is : ℕ → Bool) (name : List ℕ) (first : ℕ) (ms : List Member) → Differ ms → AsksName is name first (methods_of ms) → counted is (numbers first (methods_of ms)) ≤ 1
one_asked is name first [] differ asks = omega arith
one_asked is name first (member.Field d ∷ ms) differ asks = one_asked is name first ms differ.1 asks
one_asked is name first (member.Method d ∷ ms) differ asks =
    by_test (is first)
    (λ t.
    let rest = none_asked is name (first + 1) ms (subst (λ n. AllOf (λ (other : Member). (member_name other).text ≢ n) ms) (asks.0 t) differ.0) asks.1 in
    let e = ap (λ b. if b then 1 + counted is (numbers (first + 1) (methods_of ms)) else counted is (numbers (first + 1) (methods_of ms))) t in omega (arith, rest, e))
    (λ f.
    let rest = one_asked is name (first + 1) ms differ.1 asks.1 in
    let e = ap (λ b. if b then 1 + counted is (numbers (first + 1) (methods_of ms)) else counted is (numbers (first + 1) (methods_of ms))) f in omega (arith, rest, e))
