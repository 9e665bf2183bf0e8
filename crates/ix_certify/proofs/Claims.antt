-- What claims add, where each name that has a type stands for a path that is within.
use Rattle.std.specs.Prelude.{◌≡◌, Bool, true, ◌&&◌, List, [], ◌∷◌, filter, Option, None, Some, refl}
use Rattle.std.specs.List.{list_all}
use Rattle.std.proofs.Common.{sym, ◌∙◌}
use Rattle.std.proofs.lemmas.Bool.{and_parts, false≢true}
use Rattle.ix_core.specs.declared.claim.Claim.{Claim}
use Rattle.ix_core.specs.declared.claim.Claim.TheVariants.{Range, Low, Length, Same, Less, Upper, Search, Negative}
use Rattle.ix_core.specs.declared.claim.Name.{Name}
use Rattle.ix_core.specs.declared.claim.Off.{Off}
use Rattle.ix_core.specs.declared.claim.Off.TheVariants as off
use Rattle.ix_core.specs.declared.claim.Post.{Post}
use Rattle.ix_core.specs.declared.claim.Type_.{Type_}
use Rattle.ix_core.specs.declared.fact.Path.{Path}
use Rattle.ix_core.specs.Formed.{claim_fits, offset_fits, is_int_of, is_array_of, others}
use Rattle.ix_core.specs.Posts.{same_when}
use Rattle.ix_core.specs.SameClaims.{same_name}
use Rattle.ix_core.specs.Types.{int_type, is_int_type, is_array_type}
use Rattle.ix_core.proofs.Cases.{by_test}
use Rattle.ix_rules_hold.specs.MachineSteps.{on_paths, path_offset}
use Rattle.ix_signatures.specs.Signs.{claims_facts, posts_facts}
use Rattle.ix_facts.specs.Assume.{claim_facts}
use Rattle.ix_certify.proofs.Paths.{OffsetWithin, ClaimWithin}
use Rattle.ix_certify.proofs.ListsWithin.{Each, none, both, if_within}
use Rattle.ix_certify.proofs.Tests.{claim_within}

-- each name that has a type stands for one of these paths
abbrev pub AllNamed : (Path → Type 0) → (Name → Option Type_) → (Name → Path) → Type 0
AllNamed In types path = (name : Name) (ty : Type_) → types name ≡ Some ty → In (path name)

module _ (In : Path → Type 0) (types : Name → Option Type_) (path : Name → Path) (named : AllNamed In types path) where
  by_type : (name : Name) (o : Option Type_) → types name ≡ o → is_array_of o ≡ true → In (path name)
  by_type name None e h = absurd (false≢true h)
  by_type name (Some ty) e h = named name ty e

  by_int : (name : Name) (o : Option Type_) → types name ≡ o → is_int_of o ≡ true → In (path name)
  by_int name None e h = absurd (false≢true h)
  by_int name (Some ty) e h = named name ty e

  array_in : (name : Name) → is_array_of (types name) ≡ true → In (path name)
  array_in name h = by_type name (types name) refl h

  int_in : (name : Name) → is_int_of (types name) ≡ true → In (path name)
  int_in name h = by_int name (types name) refl h

  offset_in : (o : Off) → offset_fits types o ≡ true → OffsetWithin In (path_offset path o)
  offset_in off.Nothing h = tt
  offset_in (off.Plus name) h = int_in name h
  offset_in (off.Minus name) h = int_in name h

  claim_in : (ty : Type_) (claim : Claim) → claim_fits ty types claim ≡ true → ClaimWithin In (on_paths path claim)
  claim_in ty (Range low high) h = tt
  claim_in ty (Low low) h = tt
  claim_in ty (Length least) h = tt
  claim_in ty (Same other) h = array_in other (and_parts (is_array_type ty) (is_array_of (types other)) h).1
  claim_in ty (Less name constant) h = int_in name (and_parts (is_int_type ty) (is_int_of (types name)) h).1
  claim_in ty (Upper array offset constant) h =
      let a = and_parts (is_int_type ty) (is_array_of (types array) && offset_fits types offset) h in
      let b = and_parts (is_array_of (types array)) (offset_fits types offset) a.1 in
      (array_in array b.0, offset_in offset b.1)
  claim_in ty (Search array) h = array_in array (and_parts (is_int_type ty) (is_array_of (types array)) h).1
  claim_in ty (Negative array) h = array_in array (and_parts (is_int_type ty) (is_array_of (types array)) h).1

  pub claims_in : (ty : Type_) (claims : List Claim) (p : Path) → list_all (claim_fits ty types) claims ≡ true → In p → Each In (claims_facts path p claims)
  claims_in ty [] p h i = none
  claims_in ty (claim ∷ claims) p h i =
      let a = and_parts (claim_fits ty types claim) (list_all (claim_fits ty types) claims) h in
      both In (claim_facts (on_paths path claim) p) (claims_facts path p claims) (claim_within In (on_paths path claim) p (claim_in ty claim a.0) i) (claims_in ty claims p a.1 i)

  -- and some of them
  pub filtered_in : (test : Claim → Bool) (ty : Type_) (claims : List Claim) (p : Path) → list_all (claim_fits ty types) claims ≡ true → In p → Each In (claims_facts path p (filter test claims))
  filtered_in test ty [] p h i = none
  filtered_in test ty (claim ∷ claims) p h i =
      let a = and_parts (claim_fits ty types claim) (list_all (claim_fits ty types) claims) h in
      by_test (test claim)
      (λ t. rw t (both In (claim_facts (on_paths path claim) p) (claims_facts path p (filter test claims)) (claim_within In (on_paths path claim) p (claim_in ty claim a.0) i) (filtered_in test ty claims p a.1 i)))
      (λ t. rw t (filtered_in test ty claims p a.1 i))

  abbrev pub post_suits : Post → Bool
  post_suits post = is_int_of (types post.on) && claim_fits int_type types post.claim

  -- the posts of an answer, or of every return
  pub posts_in : (wanted : Option Bool) (posts : List Post) → list_all post_suits posts ≡ true → Each In (posts_facts path wanted posts)
  posts_in wanted [] h = none
  posts_in wanted (post ∷ posts) h =
      let a = and_parts (post_suits post) (list_all post_suits posts) h in
      let b = and_parts (is_int_of (types post.on)) (claim_fits int_type types post.claim) a.0 in
      both In _ (posts_facts path wanted posts)
      (if_within In (same_when post.when wanted) _ (claim_within In (on_paths path post.claim) (path post.on) (claim_in int_type post.claim b.1) (int_in post.on b.0)))
      (posts_in wanted posts a.1)

-- a declaration's own name aside
pub others_named : (In : Path → Type 0) (itself : Name) (types : Name → Option Type_) (path : Name → Path) → AllNamed In types path → AllNamed In (others itself types) path
others_named In itself types path named name ty is =
    by_test (same_name itself name) (λ t. absurd (nothing ty (sym (rw t refl) ∙ is))) (λ t. named name ty (sym (rw t refl) ∙ is))
  where
    nothing : (ty : Type_) → ◌≡◌ {A = Option Type_} None (Some ty) → ⊥
    nothing ty is = cc
