-- The list of posts that fail has exactly the errors of the rule.
use Rattle.std.specs.Prelude.{◌≡◌, ◌⊎◌, ◌↔◌, ℕ, zero, suc, ◌+◌, Bool, true, false, cond, slice_get, Option, Some, None, List, [], ◌∷◌, refl}
use Rattle.std.proofs.Common.{arith, inl, inr, ap, sym, ◌∙◌, subst, ⊎_elim}
use Rattle.std.proofs.lemmas.Bool.{false≢true, and_parts}
use Rattle.ix_text.specs.declared.span.Span.{Span}
use Rattle.ix_core.specs.declared.claim.Post.{Post}
use Rattle.ix_core.specs.declared.error.Error.{Error}
use Rattle.ix_core.specs.declared.program.Method.{Method}
use Rattle.ix_facts.specs.Stores.{Stored}
use Rattle.ix_rules_hold.specs.MachineSteps.{on_paths, own_path}
use Rattle.ix_errors.specs.declared.ranked.Ranked.{Ranked}
use Rattle.ix_errors.specs.Exactly.{AreExactly}
use Rattle.ix_errors.specs.Refusals.{post_fails, post_refusals}
use Rattle.ix_signatures.specs.SignErrors.{Refuses, unproved, counts_at, post_subject, value_place, PostClaim}
use Rattle.ix_errors.proofs.Refused.{fails_refused, exactly_none, exactly_same}

module _ (store : Stored) (method : Method) (number : ℕ) (value : Option ℕ) (known : Option Bool) (span : Span) where
  abbrev Refused : Post → Type 0
  Refused post = (counts_at post.when value known ≡ true) × Refuses store (on_paths (own_path method) post.claim) (own_path method post.on)

  abbrev error_of : Post → Error
  error_of post = unproved 18 span (post_subject number post.on) post.claim

  -- the test fails exactly where the post counts and is refused
  fails_exactly : (post : Post) → (post_fails store method value known post ≡ true) ↔ Refused post
  fails_exactly post = (
    λ e. let both = and_parts (counts_at post.when value known) _ e in (both.0, (fails_refused (on_paths (own_path method) post.claim) (own_path method post.on) store).0 both.1),
    λ r. rw r.0 ((fails_refused (on_paths (own_path method) post.claim) (own_path method post.on) store).1 r.1),
  )

  -- from a post of this rank on
  abbrev From : ℕ → List Post → Error → ℕ → Type 0
  From first posts error rank = (k : ℕ) × (rank ≡ first + k) × (post : Post) × (slice_get posts k ≡ Some post) × Refused post × (error ≡ error_of post)

  later : (first : ℕ) (post : Post) (posts : List Post) (error : Error) (rank : ℕ) → From (suc first) posts error rank → From first (post ∷ posts) error rank
  later first post posts error rank d = (suc d.0, d.1 ∙ omega arith, d.2, d.3, d.4, d.5)

  -- the first post, or a later one
  parts : (first : ℕ) (post : Post) (posts : List Post) (error : Error) (rank : ℕ) → From first (post ∷ posts) error rank
      → ((rank ≡ first) × Refused post × (error ≡ error_of post)) ⊎ From (suc first) posts error rank
  parts first post posts error rank (zero, e, other, at, refused, is) =
      let same : other ≡ post = cc in
      inl (e ∙ omega arith, subst Refused same refused, is ∙ ap error_of same)
  parts first post posts error rank (suc k, e, other, at, refused, is) = inr (k, e ∙ omega arith, other, at, refused, is)

  by : (first : ℕ) (post : Post) (posts : List Post) (rest : List Ranked) → AreExactly (From (suc first) posts) rest → (t : Bool) → post_fails store method value known post ≡ t
      → AreExactly (From first (post ∷ posts)) (cond t (record { error = error_of post; rank = first } ∷ rest) rest)
  by first post posts rest ih true so = record {
    all = λ error rank d. ⊎_elim (λ x. inl (let e = x.0 in let i = x.2 in cc)) (λ x. inr (ih.all error rank x)) (parts first post posts error rank d);
    only = λ found i. ⊎_elim
        (λ e. subst (λ (x : Ranked). From first (post ∷ posts) x.error x.rank) (sym e) (0, omega arith, post, refl, (fails_exactly post).0 so, refl))
        (λ j. later first post posts found.error found.rank (ih.only found j))
        i;
  }
  by first post posts rest ih false so = record {
    all = λ error rank d. ⊎_elim (λ x. absurd (false≢true (sym so ∙ (fails_exactly post).1 x.1))) (λ x. ih.all error rank x) (parts first post posts error rank d);
    only = λ found i. later first post posts found.error found.rank (ih.only found i);
  }

  from : (first : ℕ) (posts : List Post) → AreExactly (From first posts) (post_refusals store method number value known span first posts)
  from first [] = exactly_none (From first []) (λ error rank d. let none : None ≡ Some d.2 = d.3 in absurd cc)
  from first (post ∷ posts) = by first post posts (post_refusals store method number value known span (suc first) posts) (from (suc first) posts) (post_fails store method value known post) refl

pub posts_are : (method : Method) (number : ℕ) (value : Option ℕ) (known : Option Bool) (span : Span) (store : Stored)
    → AreExactly (PostClaim method number value known span store) (post_refusals store method number value known (value_place method value span) 0 method.posts)
posts_are method number value known span store =
    let place = value_place method value span in
    exactly_same (From store method number value known place 0 method.posts) (PostClaim method number value known span store) (post_refusals store method number value known place 0 method.posts)
    (λ error rank. (
      λ d. record { post = d.2; promised = let e : rank ≡ d.0 = d.1 ∙ omega arith in subst (λ k. slice_get method.posts k ≡ Some d.2) (sym e) d.3; counts = d.4.0; refused = d.4.1; is = d.5 },
      λ u. (rank, omega arith, u.post, u.promised, (u.counts, u.refused), u.is),
    ))
    (from store method number value known place 0 method.posts)
