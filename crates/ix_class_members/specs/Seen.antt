-- Claims and posts that were met before.
use Rattle.std.specs.Prelude.{Bool, not, List, filter}
use Rattle.std.specs.List.{list_any}
use Rattle.ix_core.specs.declared.claim.Claim.{Claim}
use Rattle.ix_core.specs.declared.claim.Post.{Post}
use Rattle.ix_core.specs.Posts.{same_post}
use Rattle.ix_core.specs.SameClaims.{same_claim}

-- one of them is the same
abbrev pub met : {A : Type 0} → (A → A → Bool) → List A → A → Bool
met same before one = list_any (λ other. same other one) before

-- those that none of them is
abbrev pub unmet : {A : Type 0} → (A → A → Bool) → List A → List A → List A
unmet same before some = filter (λ one. not (met same before one)) some

abbrev pub seen : List Claim → Claim → Bool
seen = met same_claim

abbrev pub unseen : List Claim → List Claim → List Claim
unseen = unmet same_claim

abbrev pub seen_post : List Post → Post → Bool
seen_post = met same_post

abbrev pub unseen_posts : List Post → List Post → List Post
unseen_posts = unmet same_post
