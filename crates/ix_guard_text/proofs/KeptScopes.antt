-- Statements that leave a scope as others do, and say nothing wrong where those don't.
use Rattle.std.proofs.Common.{◌≡◌, ℕ, ◌+◌, List, [], ◌∷◌, ◌++◌, map, None, refl, sym, ap, ap₂, subst, ◌∙◌, arith}
use Rattle.ix_text.specs.declared.span.Span.{Span}
use Rattle.ix_meaning.specs.declared.note.Note.{Note}
use Rattle.ix_meaning.specs.Bodies.{Telling, telling, all_told, condition, after, nothing, then_told, closed, inside, looped, noted_then, then_noted}
use Rattle.ix_meaning.specs.Scope.{Scope, Known}
use Rattle.ix_formed.proofs.CleanNotes.{clean_parts}
use Rattle.ix_guard.specs.Accesses.{Access}
use Rattle.ix_guard.specs.Trees.{is_outside, test_tree, test_trees}
use Rattle.ix_guard_text.proofs.AccessesFit.{Clean, AllFit}
use Rattle.ix_guard_text.proofs.TestsClean.{clean_both, condition_clean, test_is}

-- The place stands in no local's own initialiser.
abbrev pub IsOpen : Scope → Type 0
IsOpen s = s.pending ≡ None

-- The second does with a scope what the first does, and says nothing wrong where this doesn't.
pub record Keeps (t u : Telling) : Type 0 where
  pub declares : u.declares ≡ t.declares
  pub names : (s : Scope) → u.names s ≡ t.names s
  pub clean : (s : Scope) → IsOpen s → Clean (t.notes s) → Clean (u.notes s)

pub kept : (t : Telling) → Keeps t t
kept t = record { declares = refl; names = λ s. refl; clean = λ s o c. c }

pub kept_as : (t u v : Telling) → v ≡ u → Keeps t u → Keeps t v
kept_as t u v e k = subst (Keeps t) (sym e) k

pub chained : (t u v : Telling) → Keeps t u → Keeps u v → Keeps t v
chained t u v a b = record { declares = b.declares ∙ a.declares; names = λ s. b.names s ∙ a.names s; clean = λ s o c. b.clean s o (a.clean s o c) }

after_same : (t u : Telling) → Keeps t u → (s : Scope) → after u s ≡ after t s
after_same t u k s = ap₂ (λ (names : List Known) (n : ℕ). record s { names = names; next = s.next + n }) (k.names s) k.declares

behind_clean : (t u : Telling) → Keeps t u → (f : Scope → List Note) (s : Scope) → Clean (f (after t s)) → Clean (f (after u s))
behind_clean t u k f s c = subst (λ (z : Scope). Clean (f z)) (sym (after_same t u k s)) c

pub kept_then : (t u v w : Telling) → Keeps t u → Keeps v w → Keeps (then_told t v) (then_told u w)
kept_then t u v w a b = record {
  declares = ap₂ (λ (m : ℕ) (n : ℕ). m + n) a.declares b.declares;
  names = λ s. ap w.names (after_same t u a s) ∙ b.names (after t s);
  clean = λ s o c.
      let parts = clean_parts (t.notes s) (v.notes (after t s)) c in
      clean_both (u.notes s) (w.notes (after u s)) (a.clean s o parts.0) (behind_clean t u a w.notes s (b.clean (after t s) o parts.1));
}

pub kept_closed : (t u : Telling) → Keeps t u → Keeps (closed t) (closed u)
kept_closed t u k = record { declares = k.declares; names = λ s. refl; clean = k.clean }

-- in a block of its own, what declares nothing in its own
pub kept_in_block : (t u : Telling) → ((s : Scope) → t.names s ≡ s.names) → Keeps t u → Keeps t (closed u)
kept_in_block t u stays k = record { declares = k.declares; names = λ s. sym (stays s); clean = k.clean }

pub kept_looped : (t u : Telling) → Keeps t u → Keeps (looped t) (looped u)
kept_looped t u k = record { declares = k.declares; names = λ s. k.names (inside s); clean = λ s o c. k.clean (inside s) o c }

pub kept_noted_then : (f : Scope → List Note) (t u : Telling) → Keeps t u → Keeps (noted_then f t) (noted_then f u)
kept_noted_then f t u k = record {
  declares = k.declares;
  names = k.names;
  clean = λ s o c. let parts = clean_parts (f s) (t.notes s) c in clean_both (f s) (u.notes s) parts.0 (k.clean s o parts.1);
}

pub kept_then_noted : (t u : Telling) (f : Scope → List Note) → Keeps t u → Keeps (then_noted t f) (then_noted u f)
kept_then_noted t u f k = record {
  declares = k.declares;
  names = k.names;
  clean = λ s o c. let parts = clean_parts (t.notes s) (f (after t s)) c in clean_both (u.notes s) (f (after u s)) (k.clean s o parts.0) (behind_clean t u k f s parts.1);
}

-- ---- lists

nothing_after : (s : Scope) → after nothing s ≡ s
nothing_after s = let e : s.next + 0 ≡ s.next = omega arith in ap (λ (n : ℕ). record s { next = n }) e

-- one statement in a list
pub one_told : (t u : Telling) → Keeps t u → Keeps t (then_told u nothing)
one_told t u k = record {
  declares = (let e = k.declares in omega (arith, e));
  names = k.names;
  clean = λ s o c. clean_both (u.notes s) [] (k.clean s o c) tt;
}

regrouped : (a b c : Telling) → Keeps (then_told (then_told a b) c) (then_told a (then_told b c))
regrouped a b c = record {
  declares = omega arith;
  names = λ s. ap c.names (same s);
  clean = λ s o said.
      let parts = clean_parts (a.notes s ++ b.notes (after a s)) (c.notes (after (then_told a b) s)) said in
      let first = clean_parts (a.notes s) (b.notes (after a s)) parts.0 in
      clean_both (a.notes s) (b.notes (after a s) ++ c.notes (after b (after a s))) first.0
      (clean_both (b.notes (after a s)) (c.notes (after b (after a s))) first.1 (subst (λ (z : Scope). Clean (c.notes z)) (sym (same s)) parts.1));
}
  where
    same : (s : Scope) → after b (after a s) ≡ after (then_told a b) s
    same s = let e : (s.next + a.declares) + b.declares ≡ s.next + (a.declares + b.declares) = omega arith in ap (λ (n : ℕ). record s { names = b.names (after a s); next = n }) e

pub told_both : (ts us : List Telling) → Keeps (then_told (all_told ts) (all_told us)) (all_told (ts ++ us))
told_both [] us = record {
  declares = omega arith;
  names = λ s. ap (all_told us).names (sym (nothing_after s));
  clean = λ s o c. subst (λ (z : Scope). Clean ((all_told us).notes z)) (nothing_after s) c;
}
told_both (t ∷ ts) us =
    chained (then_told (then_told t (all_told ts)) (all_told us)) (then_told t (then_told (all_told ts) (all_told us))) (then_told t (all_told (ts ++ us)))
    (regrouped t (all_told ts) (all_told us)) (kept_then t t (then_told (all_told ts) (all_told us)) (all_told (ts ++ us)) (kept t) (told_both ts us))

-- ---- tests

test_then : (f : Scope → List Note) (t w : Telling) → Keeps t w → ((s : Scope) → IsOpen s → Clean (t.notes s) → Clean (f s)) → Keeps t (then_told (noted_then f nothing) w)
test_then f t w k said = record {
  declares = (let e = k.declares in omega (arith, e));
  names = λ s. ap w.names (nothing_after s) ∙ k.names s;
  clean = λ s o c. clean_both (f s ++ []) (w.notes (after nothing s)) (clean_both (f s) [] (said s o c) tt) (subst (λ (z : Scope). Clean (w.notes z)) (sym (nothing_after s)) (k.clean s o c));
}

-- Tests in front of statements that keep a statement keep it, where their accesses are those of arrays at ints.
pub tests_before : (span : Span) (accesses : List Access) (t : Telling) (us : List Telling) → Keeps t (all_told us) → ((s : Scope) → IsOpen s → Clean (t.notes s) → AllFit s accesses)
    → Keeps t (all_told (map telling (test_trees span accesses) ++ us))
tests_before span [] t us k fit = k
tests_before span (access ∷ rest) t us k fit =
    let later = all_told (map telling (test_trees span rest) ++ us) in
    kept_as t (then_told (noted_then (condition (is_outside span access)) nothing) later) (then_told (telling (test_tree span access)) later) (ap (λ (first : Telling). then_told first later) (test_is span access))
    (test_then (condition (is_outside span access)) t later (tests_before span rest t us k (λ s o c. (fit s o c).1)) (λ s o c. condition_clean s span access (fit s o c).0))
