-- Two classes made one.
use Rattle.std.specs.Prelude.{◌≡◌, ◌⊎◌, ℕ, suc, zero, ◌+◌, ◌≤◌, true, cond, List, [], ◌∷◌, Some, slice_get, take, length, refl}
use Rattle.std.proofs.Common.{arith, add-one, inl, inr, sym, ap, ◌∙◌, subst, ⊎_elim}
use Rattle.ix_lattice.specs.LookUps.{by_test}
use Rattle.ix_core.specs.declared.fact.Path.{Path}
use Rattle.ix_core.specs.declared.fact.Fact.{Fact}
use Rattle.ix_core.specs.declared.fact.Fact.TheVariants.{Same}
use Rattle.ix_facts.specs.Bounds.{is_path}
use Rattle.ix_facts.specs.Facts.{IsIn}
use Rattle.ix_facts.specs.Closure.{Follows, turned, joined}
use Rattle.ix_fact_table.specs.Classes.{Roots, root_of, replaced, relabelled, AreRoots, Coarser, Alike, AreSound}

pub root_relabelled : (old new : Path) (roots : Roots) (x : Path) → root_of (relabelled old new roots) x ≡ replaced old new (root_of roots x)
root_relabelled old new [] x = refl
root_relabelled old new (entry ∷ roots) x = by_test (is_path entry.0 x) (λ t. rw t refl) (λ t. rw t (root_relabelled old new roots x))

-- one root in another's place
abbrev pub Joined : Roots → Roots → Path → Path → Type 0
Joined old new a b = (x : Path) → root_of new x ≡ replaced (root_of old b) (root_of old a) (root_of old x)

by_itself : (old new : Path) → cond (is_path old new) new new ≡ new
by_itself old new = by_test (is_path old new) (λ t. rw t refl) (λ t. rw t refl)

pub joined_roots : (old new : Roots) (a b : Path) → AreRoots old → Joined old new a b → AreRoots new
joined_roots old new a b are is x =
    let r = root_of old a in
    let s = root_of old b in
    by_test (is_path s (root_of old x))
    (λ t.
    let to : root_of new x ≡ r = is x ∙ ap (λ u. cond u r (root_of old x)) t in
    let still : root_of new r ≡ r = is r ∙ (ap (replaced s r) (are a) ∙ by_itself s r) in
    ap (root_of new) to ∙ (still ∙ sym to))
    (λ t.
    let to : root_of new x ≡ root_of old x = is x ∙ ap (λ u. cond u r (root_of old x)) t in
    let still : root_of new (root_of old x) ≡ root_of old x = is (root_of old x) ∙ (ap (replaced s r) (are x) ∙ ap (λ u. cond u r (root_of old x)) t) in
    ap (root_of new) to ∙ (still ∙ sym to))

pub joined_coarser : (old new : Roots) (a b : Path) → Joined old new a b → Coarser old new
joined_coarser old new a b is x y e = is x ∙ (ap (replaced (root_of old b) (root_of old a)) e ∙ sym (is y))

module _ (same_path : (p q : Path) → is_path p q ≡ true → p ≡ q) (path_refl : (p : Path) → is_path p p ≡ true) where
  -- where both have one root already, nothing changes
  pub already : (old : Roots) (a b : Path) → is_path (root_of old b) (root_of old a) ≡ true → Joined old old a b
  already old a b t x =
      let e = same_path (root_of old b) (root_of old a) t in
      by_test (is_path (root_of old b) (root_of old x)) (λ u. rw u (sym (same_path (root_of old b) (root_of old x) u) ∙ e)) (λ u. rw u refl)

  pub joined_same : (old new : Roots) (a b : Path) → Joined old new a b → root_of new a ≡ root_of new b
  joined_same old new a b is =
      let r = root_of old a in
      let s = root_of old b in
      let left : root_of new a ≡ r = is a ∙ by_itself s r in
      let right : root_of new b ≡ r = is b ∙ ap (λ u. cond u r s) (path_refl s) in
      left ∙ sym right

  module _ (facts : List Fact) where
    alike_back : (a b : Path) → Alike facts a b → Alike facts b a
    alike_back a b h = ⊎_elim (λ e. inl (sym e)) (λ f. inr (turned a b f)) h

    alike_along : (a b c : Path) → Alike facts a b → Alike facts b c → Alike facts a c
    alike_along a b c h k =
        ⊎_elim
        (λ e. subst (λ x. Alike facts x c) (sym e) k)
        (λ f. ⊎_elim (λ e. inr (subst (λ x. Follows facts (Same a x)) e f)) (λ g. inr (joined a b c f g)) k)
        h

    pub joined_sound : (old new : Roots) (a b : Path) → Alike facts a b → Joined old new a b → AreSound facts old → AreSound facts new
    joined_sound old new a b h is sound x =
        let r = root_of old a in
        let s = root_of old b in
        by_test (is_path s (root_of old x))
        (λ t.
        let to : root_of new x ≡ r = is x ∙ ap (λ u. cond u r (root_of old x)) t in
        let e : s ≡ root_of old x = same_path s (root_of old x) t in
        let b_x : Alike facts b x = alike_along b s x (alike_back s b (sound b)) (subst (λ y. Alike facts y x) (sym e) (sound x)) in
        subst (λ y. Alike facts y x) (sym to) (alike_along r a x (sound a) (alike_along a b x h b_x)))
        (λ t.
        let to : root_of new x ≡ root_of old x = is x ∙ ap (λ u. cond u r (root_of old x)) t in
        subst (λ y. Alike facts y x) (sym to) (sound x))

-- ---- going over the facts of a list

pub in_next : (facts : List Fact) (k : ℕ) (f g : Fact) → slice_get facts k ≡ Some f → IsIn g (take (k + 1) facts) → IsIn g (take k facts) ⊎ (f ≡ g)
in_next facts k f g at i = in_next_suc facts k f g at (rw add-one at i) where
  in_next_suc : (facts : List Fact) (k : ℕ) (f g : Fact) → slice_get facts k ≡ Some f → IsIn g (take (suc k) facts) → IsIn g (take k facts) ⊎ (f ≡ g)
  in_next_suc [] k f g at i = absurd i
  in_next_suc (x ∷ facts) zero f g at i = let e : x ≡ f = cc in ⊎_elim (λ s. inr (sym e ∙ sym s)) (λ j. absurd j) i
  in_next_suc (x ∷ facts) (suc k) f g at i = ⊎_elim (λ s. inl (inl s)) (λ j. ⊎_elim (λ u. inl (inr u)) (λ u. inr u) (in_next_suc facts k f g at j)) i

pub in_all : (facts : List Fact) (k : ℕ) (g : Fact) → length facts ≤ k → IsIn g facts → IsIn g (take k facts)
in_all [] k g h i = absurd i
in_all (x ∷ facts) zero g h i = absurd (omega arith)
in_all (x ∷ facts) (suc k) g h i = ⊎_elim (λ s. inl s) (λ j. inr (in_all facts k g (omega arith) j)) i

pub in_at : (facts : List Fact) (k : ℕ) (f : Fact) → slice_get facts k ≡ Some f → IsIn f facts
in_at [] k f at = absurd cc
in_at (x ∷ facts) zero f at = let e : x ≡ f = cc in inl (sym e)
in_at (x ∷ facts) (suc k) f at = inr (in_at facts k f at)
