-- Variables in scope own their slots, also where locals were added in slots behind theirs.
use Rattle.std.proofs.Common.{◌≡◌, ◌≤◌, ◌<◌, ℕ, ◌+◌, false, List, [], ◌∷◌, ◌++◌, length, Option, Some, None, refl, sym, ap, ◌∙◌, arith}
use Rattle.std.specs.Prelude.{if◌then◌else◌, ◌==◌, nat_lt}
use Rattle.std.proofs.lemmas.Bool.Decides.{nat_tests}
use Rattle.ix_text.specs.declared.span.Span.{Span}
use Rattle.ix_core.specs.declared.claim.Type_.{Type_}
use Rattle.ix_core.specs.declared.program.Local.{Local}
use Rattle.ix_core.proofs.Cases.{by_test, equal}
use Rattle.ix_meaning.specs.declared.note.Meaning.{Meaning}
use Rattle.ix_meaning.specs.declared.note.Meaning.TheVariants as meaning
use Rattle.ix_meaning.specs.Scope.{Known as Variable}
use Rattle.ix_plain.specs.Scope.{Site, slot_of, slot_in_locals}
use Rattle.ix_formed.specs.Additions.{AllOf}
use Rattle.ix_formed.specs.TypedStatements.{Ground, HasVariable, scope_in}
use Rattle.ix_formed.proofs.NumberLists.{is_itself, all_joined}
use Rattle.ix_formed.proofs.ScopedLocals.{slot_front, get_behind}
use Rattle.ix_source.specs.Running.{owner, local_owner, param_owner, in_scope}
use Rattle.ix_source.specs.WellNamed.{Owned}

-- the slot of each of these locals is none below that number
abbrev pub Behind : ℕ → List (Local × Span) → Type 0
Behind free locals = AllOf (λ (local : Local × Span). free ≤ local.0.slot) locals

-- ---- the owner of a slot, where there are more locals

owner_both : (number : ℕ) (xs ys : List (Local × Span)) (slot : ℕ) (found : Option Meaning) → local_owner number (xs ++ ys) slot found ≡ local_owner (number + length xs) ys slot (local_owner number xs slot found)
owner_both number [] ys slot found = let e : number ≡ number + 0 = omega arith in ap (λ n. local_owner n ys slot found) e
owner_both number (x ∷ xs) ys slot found =
    let e : (number + 1) + length xs ≡ number + length (x ∷ xs) = omega arith in
    let now = if x.0.slot == slot then Some (meaning.Local number) else found in
    owner_both (number + 1) xs ys slot now ∙ ap (λ n. local_owner n ys slot (local_owner (number + 1) xs slot now)) e

other_slot : (one slot : ℕ) → slot < one → (one == slot) ≡ false
other_slot one slot lt = by_test (one == slot) (λ t. let e = equal one slot t in absurd (omega (arith, e, lt))) (λ f. f)

owner_others : (number : ℕ) (ys : List (Local × Span)) (slot free : ℕ) (found : Option Meaning) → slot < free → Behind free ys → local_owner number ys slot found ≡ found
owner_others number [] slot free found lt behind = refl
owner_others number (x ∷ ys) slot free found lt behind =
    ap (λ b. local_owner (number + 1) ys slot (if b then Some (meaning.Local number) else found)) (other_slot x.0.slot slot (let le = behind.0 in omega (arith, lt, le)))
    ∙ owner_others (number + 1) ys slot free found lt behind.1

pub owner_more : (site : Site) (xs ys : List (Local × Span)) (slot free : ℕ) → slot < free → Behind free ys → owner site (xs ++ ys) slot ≡ owner site xs slot
owner_more site xs ys slot free lt behind = owner_both 0 xs ys slot (param_owner 0 site.params slot None) ∙ owner_others (0 + length xs) ys slot free (local_owner 0 xs slot (param_owner 0 site.params slot None)) lt behind

-- the last local owns its slot
pub owner_last : (site : Site) (xs : List (Local × Span)) (x : Local × Span) → owner site (xs ++ x ∷ []) x.0.slot ≡ Some (meaning.Local (length xs))
owner_last site xs x =
    let found = local_owner 0 xs x.0.slot (param_owner 0 site.params x.0.slot None) in
    let e : 0 + length xs ≡ length xs = omega arith in
    owner_both 0 xs (x ∷ []) x.0.slot (param_owner 0 site.params x.0.slot None)
    ∙ ap (λ b. if b then Some (meaning.Local (0 + length xs)) else found) (is_itself x.0.slot) ∙ ap (λ n. Some (meaning.Local n)) e

pub in_scope_is : (site : Site) (locals : List (Local × Span)) (free slot : ℕ) → slot < free → in_scope site locals free slot ≡ owner site locals slot
in_scope_is site locals free slot lt = by_test (nat_lt slot free) (λ t. ap (λ b. if b then owner site locals slot else None) t) (λ f. absurd (let h : free ≤ slot = grind (arith, nat_tests) in omega (arith, lt, h)))

-- ---- variables

module _ (g : Ground) where
  abbrev pub OwnedIn : List Variable → List (Local × Span) → Type 0
  OwnedIn names locals = Owned (owner g.site locals) (scope_in g locals) names

  one_more : (xs ys : List (Local × Span)) (ts : List Type_) (free lo hi : ℕ) (v : Variable) → HasVariable g xs ts free lo hi v → Behind free ys → owner g.site xs (slot_of (scope_in g xs) (Some v.meaning)) ≡ Some v.meaning
      → owner g.site (xs ++ ys) (slot_of (scope_in g (xs ++ ys)) (Some v.meaning)) ≡ Some v.meaning
  one_more xs ys ts free lo hi v is behind own =
      let same = slot_front g xs ys ts lo hi is.ty v.meaning is.named in
      ap (owner g.site (xs ++ ys)) same ∙ owner_more g.site xs ys (slot_of (scope_in g xs) (Some v.meaning)) free is.low behind ∙ own

  -- locals in other slots were added
  pub owned_more : (vs : List Variable) (xs ys : List (Local × Span)) (ts : List Type_) (free lo hi : ℕ) → AllOf (HasVariable g xs ts free lo hi) vs → Behind free ys → OwnedIn vs xs → OwnedIn vs (xs ++ ys)
  owned_more [] xs ys ts free lo hi all behind owned = tt
  owned_more (v ∷ vs) xs ys ts free lo hi all behind owned = (one_more xs ys ts free lo hi v all.0 behind owned.0, owned_more vs xs ys ts free lo hi all.1 behind owned.1)

  -- and a local that is in scope
  pub owned_last : (vs : List Variable) (xs : List (Local × Span)) (x : Local × Span) (ts : List Type_) (lo hi : ℕ) (v : Variable) → AllOf (HasVariable g xs ts x.0.slot lo hi) vs → v.meaning ≡ meaning.Local (length xs) → OwnedIn vs xs → OwnedIn (vs ++ v ∷ []) (xs ++ x ∷ [])
  owned_last vs xs x ts lo hi v all means owned =
      all_joined (λ (v : Variable). owner g.site (xs ++ x ∷ []) (slot_of (scope_in g (xs ++ x ∷ [])) (Some v.meaning)) ≡ Some v.meaning) vs (v ∷ []) (owned_more vs xs (x ∷ []) ts x.0.slot lo hi all (omega arith, tt) owned) (own, tt)
    where
      slot_is : slot_of (scope_in g (xs ++ x ∷ [])) (Some (meaning.Local (length xs))) ≡ x.0.slot
      slot_is = ap slot_in_locals (get_behind xs x [] (length xs) refl)

      own : owner g.site (xs ++ x ∷ []) (slot_of (scope_in g (xs ++ x ∷ [])) (Some v.meaning)) ≡ Some v.meaning
      own = ap (λ m. owner g.site (xs ++ x ∷ []) (slot_of (scope_in g (xs ++ x ∷ [])) (Some m))) means ∙ ap (owner g.site (xs ++ x ∷ [])) slot_is ∙ owner_last g.site xs x ∙ ap (λ m. Some m) (sym means)

  -- in the initialiser of a local, which is in none of these slots
  pub owned_pending : (vs : List Variable) (xs ys : List (Local × Span)) (ts : List Type_) (free lo hi : ℕ) → AllOf (HasVariable g xs ts free lo hi) vs → OwnedIn vs xs → Owned (in_scope g.site xs free) (scope_in g (xs ++ ys)) vs
  owned_pending [] xs ys ts free lo hi all owned = tt
  owned_pending (v ∷ vs) xs ys ts free lo hi all owned =
      let same = slot_front g xs ys ts lo hi all.0.ty v.meaning all.0.named in (
        ap (in_scope g.site xs free) same ∙ in_scope_is g.site xs free (slot_of (scope_in g xs) (Some v.meaning)) all.0.low ∙ owned.0,
        owned_pending vs xs ys ts free lo hi all.1 owned.1,
      )

  -- as a full expression has it
  pub owned_there : (vs : List Variable) (locals : List (Local × Span)) (ts : List Type_) (free lo hi : ℕ) → AllOf (HasVariable g locals ts free lo hi) vs → OwnedIn vs locals → Owned (in_scope g.site locals free) (scope_in g locals) vs
  owned_there [] locals ts free lo hi all owned = tt
  owned_there (v ∷ vs) locals ts free lo hi all owned = (in_scope_is g.site locals free (slot_of (scope_in g locals) (Some v.meaning)) all.0.low ∙ owned.0, owned_there vs locals ts free lo hi all.1 owned.1)
