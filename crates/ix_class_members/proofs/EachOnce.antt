-- Claims, and likewise posts, are taken one at a time, each that was not met before.
use Rattle.std.proofs.Common.{◌≡◌, Bool, true, false, not, ◌&&◌, ◌||◌, cond, List, [], ◌∷◌, ◌++◌, Option, Some, None, filter, refl, ap, sym, ◌∙◌, subst, append_assoc}
use Rattle.std.proofs.lemmas.List.Folds.{list_any-append}
use Rattle.std.proofs.lemmas.Bool.{and_parts}
use Rattle.ix_core.specs.declared.claim.Claim.{Claim}
use Rattle.ix_core.specs.declared.claim.Claim.TheVariants.{Same}
use Rattle.ix_core.specs.declared.claim.Name.{Name}
use Rattle.ix_core.specs.declared.claim.Post.{Post}
use Rattle.ix_core.specs.Posts.{same_answer, same_when, same_post}
use Rattle.ix_core.specs.SameClaims.{same_claim, same_name}
use Rattle.ix_core.proofs.RepeatedClaims.{same_claims}
use Rattle.ix_class_members.specs.Seen.{met, unmet}

module _ {A : Type 0} (same : A → A → Bool) where
  abbrev others : A → List A → List A
  others one some = filter (λ other. not (same one other)) some

  module _ (same_is : (a b : A) → same a b ≡ true → a ≡ b) where
    -- one that was met takes its like out already
    again_by : (before : List A) (one other : A) (some : List A) (alike seen : Bool) → same one other ≡ alike → met same before other ≡ seen → met same before one ≡ true
        → unmet same before (others one some) ≡ unmet same before some → unmet same before (cond (not alike) (other ∷ others one some) (others one some)) ≡ unmet same before (other ∷ some)
    again_by before one other some true true is at seen_one rest = rest ∙ sym (ap (λ b. cond (not b) (other ∷ unmet same before some) (unmet same before some)) at)
    again_by before one other some true false is at seen_one rest =
        let e : one ≡ other = same_is one other is in let s : met same before other ≡ true = subst (λ c. met same before c ≡ true) e seen_one in cc
    again_by before one other some false true is at seen_one rest =
        ap (λ b. cond (not b) (other ∷ unmet same before (others one some)) (unmet same before (others one some))) at
        ∙ rest ∙ sym (ap (λ b. cond (not b) (other ∷ unmet same before some) (unmet same before some)) at)
    again_by before one other some false false is at seen_one rest =
        ap (λ b. cond (not b) (other ∷ unmet same before (others one some)) (unmet same before (others one some))) at
        ∙ ap (λ l. other ∷ l) rest ∙ sym (ap (λ b. cond (not b) (other ∷ unmet same before some) (unmet same before some)) at)

    again : (before : List A) (one : A) (some : List A) → met same before one ≡ true → unmet same before (others one some) ≡ unmet same before some
    again before one [] is = refl
    again before one (other ∷ some) is = again_by before one other some (same one other) (met same before other) refl refl is (again before one some is)

    pub met_again : (before : List A) (one : A) (some : List A) → met same before one ≡ true → unmet same before (one ∷ filter (λ other. not (same one other)) some) ≡ unmet same before some
    met_again before one some is = ap (λ b. cond (not b) (one ∷ unmet same before (others one some)) (unmet same before (others one some))) is ∙ again before one some is

  -- and one that was not met takes its like out from now on
  met_more : (before : List A) (one other : A) → met same (before ++ one ∷ []) other ≡ (met same before other || (same one other || false))
  met_more before one other = list_any-append (λ c. same c other) before (one ∷ [])

  once_by : (before : List A) (one other : A) (some : List A) (alike seen : Bool) → same one other ≡ alike → met same before other ≡ seen
      → unmet same before (others one some) ≡ unmet same (before ++ one ∷ []) some
      → unmet same before (cond (not alike) (other ∷ others one some) (others one some)) ≡ cond (not (seen || (alike || false))) (other ∷ unmet same (before ++ one ∷ []) some) (unmet same (before ++ one ∷ []) some)
  once_by before one other some true true is at rest = rest
  once_by before one other some true false is at rest = rest
  once_by before one other some false true is at rest = ap (λ b. cond (not b) (other ∷ unmet same before (others one some)) (unmet same before (others one some))) at ∙ rest
  once_by before one other some false false is at rest =
      ap (λ b. cond (not b) (other ∷ unmet same before (others one some)) (unmet same before (others one some))) at ∙ ap (λ l. other ∷ l) rest

  once : (before : List A) (one : A) (some : List A) → unmet same before (others one some) ≡ unmet same (before ++ one ∷ []) some
  once before one [] = refl
  once before one (other ∷ some) =
      once_by before one other some (same one other) (met same before other) refl refl (once before one some)
      ∙ sym (ap (λ b. cond (not b) (other ∷ unmet same (before ++ one ∷ []) some) (unmet same (before ++ one ∷ []) some)) (met_more before one other))

  pub met_first : (before : List A) (one : A) (some : List A) → met same before one ≡ false
      → (before ++ one ∷ []) ++ unmet same (before ++ one ∷ []) some ≡ before ++ unmet same before (one ∷ filter (λ other. not (same one other)) some)
  met_first before one some is =
      append_assoc before (one ∷ []) (unmet same (before ++ one ∷ []) some)
      ∙ ap (λ l. before ++ one ∷ l) (sym (once before one some))
      ∙ sym (ap (λ b. before ++ cond (not b) (one ∷ unmet same before (others one some)) (unmet same before (others one some))) is)

-- nothing was met before the first
pub all_unmet : {A : Type 0} (same : A → A → Bool) (some : List A) → unmet same [] some ≡ some
all_unmet same [] = refl
all_unmet same (one ∷ some) = ap (λ l. one ∷ l) (all_unmet same some)

-- ---- posts that count as one are one

same_answers : (a b : Bool) → same_answer a b ≡ true → a ≡ b
same_answers true b h = sym h
same_answers false true h = cc
same_answers false false h = refl

same_whens : (a b : Option Bool) → same_when a b ≡ true → a ≡ b
same_whens None None h = refl
same_whens (Some a) (Some b) h = ap Some (same_answers a b h)
same_whens None (Some b) h = cc
same_whens (Some a) None h = cc

same_names : (x y : Name) → same_name x y ≡ true → x ≡ y
same_names x y h = let e : Same x ≡ Same y = same_claims (Same x) (Same y) h in cc

pub same_posts : (post other : Post) → same_post post other ≡ true → post ≡ other
same_posts post other h =
    let p = and_parts (same_when post.when other.when) (same_name post.on other.on && same_claim post.claim other.claim) h in
    let q = and_parts (same_name post.on other.on) (same_claim post.claim other.claim) p.1 in
    ap (λ (w : Option Bool). record post { when = w }) (same_whens post.when other.when p.0)
    ∙ ap (λ (n : Name). record post { when = other.when; on = n }) (same_names post.on other.on q.0)
    ∙ ap (λ (c : Claim). record other { claim = c }) (same_claims post.claim other.claim q.1)
