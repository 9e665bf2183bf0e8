-- Posts that are true give the facts that the rules add, and posts that the rules show are true; those of an overridden method are among those of the overriding one.
use Rattle.std.specs.Prelude.{◌≡◌, ◌⊎◌, ℕ, zero, suc, Bool, true, false, List, [], ◌∷◌, slice_get, Option, None, Some, refl}
use Rattle.std.proofs.Common.{sym, ap, ◌∙◌, subst, ⊎_elim}
use Rattle.std.proofs.lemmas.Bool.{and_parts, or_cases, false≢true}
use Rattle.ix_core.specs.declared.claim.Claim.{Claim}
use Rattle.ix_core.specs.declared.claim.Claim.TheVariants.{Search}
use Rattle.ix_core.specs.declared.claim.Name.{Name}
use Rattle.ix_core.specs.declared.claim.Post.{Post}
use Rattle.ix_core.specs.declared.fact.Fact.{Fact}
use Rattle.ix_core.specs.declared.fact.Path.{Path}
use Rattle.ix_core.specs.Claims.{True}
use Rattle.ix_core.specs.Formed.{are_same_posts, ends_with}
use Rattle.ix_core.specs.Heap.{Held, Boolean, Reading}
use Rattle.ix_core.specs.Numbers.{Numbers}
use Rattle.ix_core.specs.Objects.{PostsName}
use Rattle.ix_core.specs.Posts.{PostsHold, speaks_of, same_answer, same_when, same_post}
use Rattle.ix_core.specs.SameClaims.{same_name, same_claim}
use Rattle.ix_core.proofs.RepeatedClaims.{same_claims}
use Rattle.ix_core.proofs.Stack.{claim_named}
use Rattle.ix_facts.specs.Assume.{ClaimHolds, claim_facts}
use Rattle.ix_facts.specs.Exact.{if_so}
use Rattle.ix_facts.specs.Facts.{AllHold}
use Rattle.ix_facts.proofs.ClaimLaws.{claim_facts_hold}
use Rattle.ix_facts.proofs.FactLists.{all_hold_app}
use Rattle.ix_rules_hold.specs.MachineSteps.{on_paths, reading_at}
use Rattle.ix_rules_hold.proofs.MachineTests.{claim_holds, claim_true}
use Rattle.ix_signatures.specs.Signs.{posts_facts}
use Rattle.ix_signatures.specs.SignErrors.{counts_at}

pub if_so_hold : (v : Numbers) (test : Bool) (facts : List Fact) → (test ≡ true → AllHold facts v) → AllHold (if_so test facts) v
if_so_hold v true facts h = h refl
if_so_hold v false facts h = tt

-- ---- a post, where its names have other readings

post_named : (post : Post) (f g : Name → Reading) → ((name : Name) → PostsName (post ∷ []) name → f name ≡ g name) → True post.claim (f post.on) f → True post.claim (g post.on) g
post_named post f g same is =
    subst (λ r. True post.claim r g) (same post.on (0, 0, post, refl, refl)) (claim_named post.claim (f post.on) f g (λ name at e. same name (0, suc at, post, refl, e)) is)

first_names : (post : Post) (posts : List Post) (name : Name) → PostsName (post ∷ []) name → PostsName (post ∷ posts) name
first_names post posts name (zero, at, other, is, named) = (0, at, other, is, named)
first_names post posts name (suc k, at, other, is, named) = absurd cc

later_names : (post : Post) (posts : List Post) (name : Name) → PostsName posts name → PostsName (post ∷ posts) name
later_names post posts name is = (suc is.0, is.1, is.2, is.3, is.4)

pub posts_read : (posts : List Post) (f g : Name → Reading) (value : Option Held) → ((name : Name) → f name ≡ g name) → PostsHold posts f value → PostsHold posts g value
posts_read [] f g value same is = tt
posts_read (post ∷ posts) f g value same is = (λ speaks. post_named post f g (λ name named. same name) (is.0 speaks), posts_read posts f g value same is.1)

-- ---- the facts of posts

-- the posts that are asked for are of a return of this value
abbrev pub Agrees : Option Bool → Option Held → Type 0
Agrees None value = Unit {0}
Agrees (Some answer) value = value ≡ Some (Boolean answer)

agrees_speaks : (when wanted : Option Bool) (value : Option Held) → same_when when wanted ≡ true → Agrees wanted value → speaks_of when value ≡ true
agrees_speaks None None value e agrees = refl
agrees_speaks None (Some wanted) value e agrees = absurd (false≢true e)
agrees_speaks (Some answer) None value e agrees = absurd (false≢true e)
agrees_speaks (Some answer) (Some wanted) value e agrees = subst (λ v. speaks_of (Some answer) v ≡ true) (sym agrees) e

pub posts_hold : (path : Name → Path) (wanted : Option Bool) (posts : List Post) (v : Numbers) (names : Name → Reading) (value : Option Held) → Agrees wanted value
    → ((name : Name) → PostsName posts name → names name ≡ reading_at v (path name)) → PostsHold posts names value → AllHold (posts_facts path wanted posts) v
posts_hold path wanted [] v names value agrees same is = tt
posts_hold path wanted (post ∷ posts) v names value agrees same is =
    all_hold_app v (if_so (same_when post.when wanted) (claim_facts (on_paths path post.claim) (path post.on))) (posts_facts path wanted posts)
    (if_so_hold v (same_when post.when wanted) (claim_facts (on_paths path post.claim) (path post.on))
    (λ e. claim_facts_hold v (on_paths path post.claim) (path post.on)
    (claim_holds v path (path post.on) post.claim
    (post_named post names (λ name. reading_at v (path name)) (λ name named. same name (first_names post posts name named)) (is.0 (agrees_speaks post.when wanted value e agrees))))))
    (posts_hold path wanted posts v names value agrees (λ name named. same name (later_names post posts name named)) is.1)

-- ---- what the rules show of posts

pub posts_true : (path : Name → Path) (posts : List Post) (v : Numbers) (names : Name → Reading) (value : Option Held) → ((name : Name) → PostsName posts name → names name ≡ reading_at v (path name))
    → ((k : ℕ) (post : Post) → slice_get posts k ≡ Some post → speaks_of post.when value ≡ true → ClaimHolds (on_paths path post.claim) (path post.on) v) → PostsHold posts names value
posts_true path [] v names value same each = tt
posts_true path (post ∷ posts) v names value same each = (
  λ speaks. post_named post (λ name. reading_at v (path name)) names (λ name named. sym (same name (first_names post posts name named))) (claim_true v path (path post.on) post.claim (each 0 post refl speaks)),
  posts_true path posts v names value (λ name named. same name (later_names post posts name named)) (λ k other is. each (suc k) other is),
)

-- where nothing is returned only the posts of every return speak, which count
pub counts_nothing : (when : Option Bool) (value : Option ℕ) (known : Option Bool) → speaks_of when None ≡ true → counts_at when value known ≡ true
counts_nothing None value known e = refl
counts_nothing (Some answer) value known e = absurd (false≢true e)

-- what speaks of a value that is returned counts, where the answer that is written out is the value
pub counts_value : (when : Option Bool) (slot : ℕ) (known : Option Bool) (held : Held) → ((answer : Bool) → known ≡ Some answer → held ≡ Boolean answer) → speaks_of when (Some held) ≡ true → counts_at when (Some slot) known ≡ true
counts_value None slot known held written e = refl
counts_value (Some answer) slot None held written e = refl
counts_value (Some answer) slot (Some known) held written e = subst (λ h. speaks_of (Some answer) (Some h) ≡ true) (written known refl) e

-- ---- posts that end with others

same_answers : (a b : Bool) → same_answer a b ≡ true → a ≡ b
same_answers true b e = sym e
same_answers false true e = absurd (false≢true e)
same_answers false false e = refl

same_whens : (a b : Option Bool) → same_when a b ≡ true → a ≡ b
same_whens None None e = refl
same_whens None (Some b) e = absurd (false≢true e)
same_whens (Some a) None e = absurd (false≢true e)
same_whens (Some a) (Some b) e = ap Some (same_answers a b e)

same_names : (x y : Name) → same_name x y ≡ true → x ≡ y
same_names x y e = let same : Search x ≡ Search y = same_claims (Search x) (Search y) e in cc

same_posts : (x y : Post) → same_post x y ≡ true → x ≡ y
same_posts x y e =
    let one = and_parts (same_when x.when y.when) _ e in
    let two = and_parts (same_name x.on y.on) (same_claim x.claim y.claim) one.1 in
    let when = same_whens x.when y.when one.0 in
    let on = same_names x.on y.on two.0 in
    let claim = same_claims x.claim y.claim two.1 in
    λ i. record { when = when i; on = on i; claim = claim i }

same_lists : (posts others : List Post) → are_same_posts posts others ≡ true → posts ≡ others
same_lists [] [] e = refl
same_lists [] (other ∷ others) e = absurd (false≢true e)
same_lists (post ∷ posts) [] e = absurd (false≢true e)
same_lists (post ∷ posts) (other ∷ others) e =
    let both = and_parts (same_post post other) (are_same_posts posts others) e in
    ap (λ p. p ∷ posts) (same_posts post other both.0) ∙ ap (λ l. other ∷ l) (same_lists posts others both.1)

pub posts_end : (posts others : List Post) (names : Name → Reading) (value : Option Held) → ends_with posts others ≡ true → PostsHold posts names value → PostsHold others names value
posts_end [] others names value e is = subst (λ l. PostsHold l names value) (same_lists [] others e) is
posts_end (post ∷ posts) others names value e is =
    ⊎_elim (λ same. subst (λ l. PostsHold l names value) (same_lists (post ∷ posts) others same) is) (λ later. posts_end posts others names value later is.1)
    (or_cases (are_same_posts (post ∷ posts) others) (ends_with posts others) e)
