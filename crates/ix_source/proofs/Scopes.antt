-- Where a full expression stands in a body, each slot below the first that is free holds one variable, whose slot it is.
use Rattle.std.proofs.Common.{◌≡◌, ◌≤◌, ◌<◌, ◌⊎◌, inl, inr, ℕ, zero, suc, ◌+◌, Bool, true, false, List, [], ◌∷◌, ◌++◌, length, Option, Some, None, refl, sym, ap, subst, ◌∙◌, arith, append_assoc}
use Rattle.std.specs.Prelude.{◌==◌, if◌then◌else◌, nat_lt, slice_get}
use Rattle.std.proofs.lemmas.Bool.Decides.{nat_tests}
use Rattle.std.proofs.lemmas.List.{length-append}
use Rattle.ix_text.specs.declared.span.Span.{Span}
use Rattle.ix_core.specs.declared.program.Local.{Local}
use Rattle.ix_core.proofs.Cases.{by_test, equal}
use Rattle.ix_meaning.specs.declared.note.Meaning.{Meaning}
use Rattle.ix_meaning.specs.declared.note.Meaning.TheVariants as meaning
use Rattle.ix_plain.specs.declared.body.Body.{Body}
use Rattle.ix_plain.specs.Scope.{Site, Scope, slot_of, slot_in_locals, slot_in_params, is_among}
use Rattle.ix_plain.specs.Statements.{scope_of}
use Rattle.ix_source.specs.Along.{IsSet, is_variable}
use Rattle.ix_source.specs.Running.{Ground, owner, param_owner, local_owner, in_scope, standing}

at_end : {A : Type 0} (before : List A) (a : A) (later : List A) → slice_get (before ++ a ∷ later) (length before) ≡ Some a
at_end [] a later = refl
at_end (b ∷ before) a later = at_end before a later

-- The owner that is found is one of these locals, or was found before.
abbrev LocalIs : List (Local × Span) → ℕ → Meaning → Type 0
LocalIs locals slot m = (k : ℕ) × (m ≡ meaning.Local k) × (slot_in_locals (slice_get locals k) ≡ slot)

abbrev ParamIs : List Local → ℕ → Meaning → Type 0
ParamIs params slot m = (k : ℕ) × (m ≡ meaning.Param k) × (slot_in_params (slice_get params k) ≡ slot)

same_meaning : (a b : Meaning) → Some a ≡ Some b → a ≡ b
same_meaning a b e = cc e

local_found : (before locals : List (Local × Span)) (slot : ℕ) (found : Option Meaning) (m : Meaning) → local_owner (length before) locals slot found ≡ Some m → (found ≡ Some m) ⊎ LocalIs (before ++ locals) slot m
local_found before [] slot found m e = inl e
local_found before (l ∷ ls) slot found m e = go (local_found (before ++ l ∷ []) ls slot (if l.0.slot == slot then Some (meaning.Local (length before)) else found) m
    (subst (λ n. local_owner n ls slot (if l.0.slot == slot then Some (meaning.Local (length before)) else found) ≡ Some m) (sym (length-append before (l ∷ []))) e))
  where
    here : (b : Bool) → (l.0.slot == slot) ≡ b → (if b then Some (meaning.Local (length before)) else found) ≡ Some m → (found ≡ Some m) ⊎ LocalIs (before ++ l ∷ ls) slot m
    here true is e = inr (length before, sym (same_meaning (meaning.Local (length before)) m e), ap slot_in_locals (at_end before l ls) ∙ equal l.0.slot slot is)
    here false is e = inl e

    go : ((if l.0.slot == slot then Some (meaning.Local (length before)) else found) ≡ Some m) ⊎ LocalIs ((before ++ l ∷ []) ++ ls) slot m → (found ≡ Some m) ⊎ LocalIs (before ++ l ∷ ls) slot m
    go (inl e) = here (l.0.slot == slot) refl e
    go (inr is) = inr (subst (λ locals. LocalIs locals slot m) (append_assoc before (l ∷ []) ls) is)

param_found : (before params : List Local) (slot : ℕ) (found : Option Meaning) (m : Meaning) → param_owner (length before) params slot found ≡ Some m → (found ≡ Some m) ⊎ ParamIs (before ++ params) slot m
param_found before [] slot found m e = inl e
param_found before (l ∷ ls) slot found m e = go (param_found (before ++ l ∷ []) ls slot (if l.slot == slot then Some (meaning.Param (length before)) else found) m
    (subst (λ n. param_owner n ls slot (if l.slot == slot then Some (meaning.Param (length before)) else found) ≡ Some m) (sym (length-append before (l ∷ []))) e))
  where
    here : (b : Bool) → (l.slot == slot) ≡ b → (if b then Some (meaning.Param (length before)) else found) ≡ Some m → (found ≡ Some m) ⊎ ParamIs (before ++ l ∷ ls) slot m
    here true is e = inr (length before, sym (same_meaning (meaning.Param (length before)) m e), ap slot_in_params (at_end before l ls) ∙ equal l.slot slot is)
    here false is e = inl e

    go : ((if l.slot == slot then Some (meaning.Param (length before)) else found) ≡ Some m) ⊎ ParamIs ((before ++ l ∷ []) ++ ls) slot m → (found ≡ Some m) ⊎ ParamIs (before ++ l ∷ ls) slot m
    go (inl e) = here (l.slot == slot) refl e
    go (inr is) = inr (subst (λ params. ParamIs params slot m) (append_assoc before (l ∷ []) ls) is)

none_some : {G : Type 0} (m : Meaning) → None ≡ Some m → G
none_some m e = absurd (cc e)

pub owner_is : (site : Site) (locals : List (Local × Span)) (slot : ℕ) (m : Meaning) → owner site locals slot ≡ Some m → LocalIs locals slot m ⊎ ParamIs site.params slot m
owner_is site locals slot m e = go (local_found [] locals slot (param_owner 0 site.params slot None) m e)
  where
    params : (None ≡ Some m) ⊎ ParamIs site.params slot m → LocalIs locals slot m ⊎ ParamIs site.params slot m
    params (inl e) = none_some m e
    params (inr is) = inr is

    go : (param_owner 0 site.params slot None ≡ Some m) ⊎ LocalIs locals slot m → LocalIs locals slot m ⊎ ParamIs site.params slot m
    go (inl e) = params (param_found [] site.params slot None m e)
    go (inr is) = inl is

-- ---- one local more

pub local_more : (n : ℕ) (locals : List (Local × Span)) (x : Local × Span) (slot : ℕ) (found : Option Meaning) → local_owner n (locals ++ x ∷ []) slot found ≡ (if x.0.slot == slot then Some (meaning.Local (n + length locals)) else local_owner n locals slot found)
local_more n [] x slot found = ap (λ k. if x.0.slot == slot then Some (meaning.Local k) else found) (let e : n ≡ n + 0 = omega arith in e)
local_more n (l ∷ ls) x slot found =
    local_more (n + 1) ls x slot (if l.0.slot == slot then Some (meaning.Local n) else found)
    ∙ ap (λ k. if x.0.slot == slot then Some (meaning.Local k) else local_owner (n + 1) ls slot (if l.0.slot == slot then Some (meaning.Local n) else found)) (let e : (n + 1) + length ls ≡ n + length (l ∷ ls) = omega arith in e)

-- the new one owns its slot, and others are owned as before
pub owner_more : (site : Site) (locals : List (Local × Span)) (x : Local × Span) (slot : ℕ) → owner site (locals ++ x ∷ []) slot ≡ (if x.0.slot == slot then Some (meaning.Local (length locals)) else owner site locals slot)
owner_more site locals x slot =
    local_more 0 locals x slot (param_owner 0 site.params slot None) ∙ ap (λ k. if x.0.slot == slot then Some (meaning.Local k) else owner site locals slot) (let e : 0 + length locals ≡ length locals = omega arith in e)

same_local : (a b : ℕ) → Some (meaning.Local a) ≡ Some (meaning.Local b) → a ≡ b
same_local a b e = cc e

local_within : (n : ℕ) (locals : List (Local × Span)) (slot : ℕ) (found : Option Meaning) (k : ℕ) → local_owner n locals slot found ≡ Some (meaning.Local k) → (found ≡ Some (meaning.Local k)) ⊎ (k < n + length locals)
local_within n [] slot found k e = inl e
local_within n (l ∷ ls) slot found k e = go (local_within (n + 1) ls slot (if l.0.slot == slot then Some (meaning.Local n) else found) k e)
  where
    here : (b : Bool) → (if b then Some (meaning.Local n) else found) ≡ Some (meaning.Local k) → (found ≡ Some (meaning.Local k)) ⊎ (k < n + length (l ∷ ls))
    here true e = inr (let same = same_local n k e in omega (arith, same))
    here false e = inl e

    go : ((if l.0.slot == slot then Some (meaning.Local n) else found) ≡ Some (meaning.Local k)) ⊎ (k < (n + 1) + length ls) → (found ≡ Some (meaning.Local k)) ⊎ (k < n + length (l ∷ ls))
    go (inl e) = here (l.0.slot == slot) e
    go (inr low) = inr (omega (arith, low))

not_param : (n : ℕ) (k : ℕ) → Some (meaning.Param n) ≡ Some (meaning.Local k) → ⊥
not_param n k e = cc e

no_param : (n : ℕ) (params : List Local) (slot : ℕ) (found : Option Meaning) (k : ℕ) → (found ≡ Some (meaning.Local k) → ⊥) → param_owner n params slot found ≡ Some (meaning.Local k) → ⊥
no_param n [] slot found k other e = other e
no_param n (p ∷ ps) slot found k other e = no_param (n + 1) ps slot (if p.slot == slot then Some (meaning.Param n) else found) k (here (p.slot == slot)) e
  where
    here : (b : Bool) → (if b then Some (meaning.Param n) else found) ≡ Some (meaning.Local k) → ⊥
    here true e = not_param n k e
    here false e = other e

-- a local that owns a slot is one of the locals
pub owner_within : (site : Site) (locals : List (Local × Span)) (slot k : ℕ) → owner site locals slot ≡ Some (meaning.Local k) → k < length locals
owner_within site locals slot k e = go (local_within 0 locals slot (param_owner 0 site.params slot None) k e)
  where
    go : (param_owner 0 site.params slot None ≡ Some (meaning.Local k)) ⊎ (k < 0 + length locals) → k < length locals
    go (inl e) = absurd (no_param 0 site.params slot None k (λ e. none_some (meaning.Local k) e) e)
    go (inr low) = omega (arith, low)

get_more : {A : Type 0} (xs ys : List A) (k : ℕ) → k < length xs → slice_get (xs ++ ys) k ≡ slice_get xs k
get_more [] ys k low = absurd (let e : ⊥ = omega (arith, low) in e)
get_more (x ∷ xs) ys zero low = refl
get_more (x ∷ xs) ys (suc k) low = get_more xs ys k (omega (arith, low))

-- its slot is the same where there are more locals
pub slot_more : (site : Site) (locals more : List (Local × Span)) (scope fewer : Scope) → scope.site ≡ site → fewer.site ≡ site → scope.locals ≡ locals ++ more → fewer.locals ≡ locals → (slot : ℕ) (m : Meaning) → owner site locals slot ≡ Some m → slot_of scope (Some m) ≡ slot
slot_more site locals more scope fewer e1 e2 e3 e4 slot m e = go (owner_is site locals slot m e)
  where
    go : LocalIs locals slot m ⊎ ParamIs site.params slot m → slot_of scope (Some m) ≡ slot
    go (inl (k, is, at)) =
        let low = owner_within site locals slot k (e ∙ ap Some is) in
        ap (λ m. slot_of scope (Some m)) is ∙ ap (λ ls. slot_in_locals (slice_get ls k)) e3 ∙ ap slot_in_locals (get_more locals more k low) ∙ at
    go (inr (k, is, at)) = ap (λ m. slot_of scope (Some m)) is ∙ ap (λ (s : Site). slot_in_params (slice_get s.params k)) e1 ∙ at

module _ (g : Ground) (body : Body) (assigned : List ℕ) where
  pub scope_low : (slot : ℕ) (m : Meaning) → in_scope g.site body.locals body.made.free slot ≡ Some m → (slot < body.made.free) × (owner g.site body.locals slot ≡ Some m)
  scope_low slot m e = go (nat_lt slot body.made.free) refl e
    where
      go : (b : Bool) → nat_lt slot body.made.free ≡ b → (if b then owner g.site body.locals slot else None) ≡ Some m → (slot < body.made.free) × (owner g.site body.locals slot ≡ Some m)
      go true is e = (grind (arith, nat_tests), e)
      go false is e = none_some m e

  pub kind_is : (slot : ℕ) (m : Meaning) → LocalIs body.locals slot m ⊎ ParamIs g.site.params slot m → is_variable m ≡ true
  kind_is slot m (inl (k, is, e)) = ap is_variable is
  kind_is slot m (inr (k, is, e)) = ap is_variable is

  slot_is : (slot : ℕ) (m : Meaning) → LocalIs body.locals slot m ⊎ ParamIs g.site.params slot m → slot_of (scope_of g.site body assigned) (Some m) ≡ slot
  slot_is slot m (inl (k, is, e)) = ap (λ m. slot_of (scope_of g.site body assigned) (Some m)) is ∙ e
  slot_is slot m (inr (k, is, e)) = ap (λ m. slot_of (scope_of g.site body assigned) (Some m)) is ∙ e

  -- What is asked besides: the variables that the expression assigns are in scope, and where there is `this` slot 0 is no variable's.
  pub standing_set : ((slot : ℕ) → body.made.free ≤ slot → is_among slot assigned ≡ false) → (g.has_this ≡ true → owner g.site body.locals 0 ≡ None) → (g.has_this ≡ true → 0 < body.made.free) → (g.has_this ≡ true → is_among 0 assigned ≡ false) → IsSet (standing g body assigned)
  standing_set assigned_low this_none this_low this_stays = record {
    kind = λ slot m own. kind_is slot m (owner_is g.site body.locals slot m (scope_low slot m own).1);
    temporaries = assigned_low;
    own = λ slot m own. slot_is slot m (owner_is g.site body.locals slot m (scope_low slot m own).1);
    low = λ slot m own. (scope_low slot m own).0;
    this = λ has. by_test (nat_lt 0 body.made.free) (λ t. ap (λ b. if b then owner g.site body.locals 0 else None) t ∙ this_none has) (λ t. ap (λ b. if b then owner g.site body.locals 0 else None) t);
    this_low = this_low;
    this_stays = this_stays;
  }
