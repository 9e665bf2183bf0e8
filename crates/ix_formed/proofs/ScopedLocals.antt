-- Which variable a slot is at a place, where locals are added behind.
use Rattle.std.proofs.Common.{◌≡◌, ◌≤◌, ◌<◌, ℕ, zero, suc, Bool, true, false, List, [], ◌∷◌, ◌++◌, length, Option, Some, None, refl, sym, ap, subst, ◌∙◌, arith, length-append, append_assoc}
use Rattle.std.specs.Prelude.{if◌then◌else◌, nat_lt, ◌&&◌, ◌==◌, slice_get}
use Rattle.std.proofs.lemmas.Bool.{false≢true}
use Rattle.std.proofs.lemmas.Bool.Decides.{nat_tests}
use Rattle.ix_text.specs.declared.span.Span.{Span}
use Rattle.ix_core.specs.declared.claim.Type_.{Type_}
use Rattle.ix_core.specs.declared.program.Local.{Local}
use Rattle.ix_core.specs.Formed.{at_most, first_type, local_type_from, param_type_from, starts_within}
use Rattle.ix_core.specs.Tables.{param_slot}
use Rattle.ix_core.specs.Types.{Point}
use Rattle.ix_meaning.specs.declared.note.Meaning.{Meaning}
use Rattle.ix_meaning.specs.declared.note.Meaning.TheVariants as meaning
use Rattle.ix_meaning.specs.Scope.{Known as Variable, Scope as Names}
use Rattle.ix_plain.specs.Scope.{slot_of, slot_in_locals}
use Rattle.ix_formed.specs.Additions.{AllOf}
use Rattle.ix_formed.specs.Points.{Known, Keeps}
use Rattle.ix_formed.specs.TypedStatements.{Ground, Within, type_in, scope_in, IsNamed, IsResult, HasVariable, Scoped, Stands, Outside, IsDeclared, Begins}
use Rattle.ix_formed.proofs.NumberLists.{all_so, all_joined}

-- ---- lists

pub get_front : {A : Type 0} (xs ys : List A) (n : ℕ) (x : A) → slice_get xs n ≡ Some x → slice_get (xs ++ ys) n ≡ Some x
get_front [] ys n x e = absurd cc
get_front (y ∷ xs) ys zero x e = e
get_front (y ∷ xs) ys (suc n) x e = get_front xs ys n x e

pub get_behind : {A : Type 0} (xs : List A) (x : A) (ys : List A) (n : ℕ) → n ≡ length xs → slice_get (xs ++ x ∷ ys) n ≡ Some x
get_behind [] x ys zero e = refl
get_behind [] x ys (suc n) e = absurd (omega (arith, e))
get_behind (y ∷ xs) x ys zero e = absurd (omega (arith, e))
get_behind (y ∷ xs) x ys (suc n) e = get_behind xs x ys n (omega (arith, e))

first_both : (a b c : Option Type_) → first_type a (first_type b c) ≡ first_type (first_type a b) c
first_both None b c = refl
first_both (Some a) b c = refl

pub first_is : (a b : Option Type_) (ty : Type_) → a ≡ Some ty → first_type a b ≡ Some ty
first_is a b ty e = ap (λ a. first_type a b) e

pub first_none : (a b : Option Type_) → first_type a b ≡ None → (a ≡ None) × (b ≡ None)
first_none None b e = (refl, e)
first_none (Some a) b e = absurd cc

-- ---- the type of a local in a slot at a place

pub locals_both : (xs ys : List (Local × Span)) (ts us : List Type_) → length ts ≡ length xs → (slot : ℕ) (span : Span)
    → local_type_from (xs ++ ys) (ts ++ us) slot span ≡ first_type (local_type_from xs ts slot span) (local_type_from ys us slot span)
locals_both [] ys [] us e slot span = refl
locals_both [] ys (t ∷ ts) us e slot span = absurd (omega (arith, e))
locals_both (x ∷ xs) ys [] us e slot span = absurd (omega (arith, e))
locals_both (x ∷ xs) ys (t ∷ ts) us e slot span = here ((x.0.slot == slot) && starts_within span x.1) (locals_both xs ys ts us (omega (arith, e)) slot span)
  where
    here : (b : Bool) → local_type_from (xs ++ ys) (ts ++ us) slot span ≡ first_type (local_type_from xs ts slot span) (local_type_from ys us slot span)
        → (if b then Some t else local_type_from (xs ++ ys) (ts ++ us) slot span) ≡ first_type (if b then Some t else local_type_from xs ts slot span) (local_type_from ys us slot span)
    here true rest = refl
    here false rest = rest

and_false : (a b : Bool) → b ≡ false → (a && b) ≡ false
and_false true b e = e
and_false false b e = refl

pub outside_none : (lo hi : ℕ) (ys : List (Local × Span)) (us : List Type_) → AllOf (Outside lo hi) ys → (slot : ℕ) (span : Span) → Within lo hi span → local_type_from ys us slot span ≡ None
outside_none lo hi [] us all slot span within = refl
outside_none lo hi (y ∷ ys) [] all slot span within = refl
outside_none lo hi (y ∷ ys) (u ∷ us) all slot span within =
    ap (λ b. if b then Some u else local_type_from ys us slot span) (and_false (y.0.slot == slot) (starts_within span y.1) (all.0 span within)) ∙ outside_none lo hi ys us all.1 slot span within

-- a scope that ended, and one that begins later
pub ended_outside : (lo hi : ℕ) (l : Local × Span) → l.1.to ≤ lo → Outside lo hi l
ended_outside lo hi l le span within = and_false (at_most l.1.from span.from) (nat_lt span.from l.1.to) (ended span.from l.1.to (let a = within.0 in omega (arith, a, le)))
  where
    ended : (from to : ℕ) → to ≤ from → nat_lt from to ≡ false
    ended from to le = grind (arith, nat_tests)

pub later_outside : (lo hi : ℕ) (l : Local × Span) → hi ≤ l.1.from → Outside lo hi l
later_outside lo hi l le span within = ap (λ b. b && nat_lt span.from l.1.to) (later l.1.from span.from (let a = within.1 in omega (arith, a, le)))
  where
    later : (from at : ℕ) → at < from → at_most from at ≡ false
    later from at lt = grind (arith, nat_tests)

-- ---- slots of their own

both_hold : (a b : Bool) → a ≡ true → b ≡ true → (a && b) ≡ true
both_hold true true a b = refl
both_hold true false a b = b
both_hold false b a c = a

same_is : (s t : ℕ) → s ≡ t → (s == t) ≡ true
same_is s t e = grind (arith, nat_tests, e)

-- a local of which none in scope has the slot, before locals that are declared later
pub slot_is_own : (xs later : List (Local × Span)) (ts : List Type_) (local : Local × Span) (mid : ℕ) → length ts ≡ length xs → local_type_from xs ts local.0.slot local.1 ≡ None → local.1.from < mid
    → AllOf (λ (l : Local × Span). mid ≤ l.1.from) later → (other : ℕ) (held : Local × Span) → slice_get ((xs ++ local ∷ []) ++ later) other ≡ Some held → starts_within local.1 held.1 ≡ true → held.0.slot ≡ local.0.slot
    → other ≡ length xs
slot_is_own [] later ts local mid e none lt behind zero held is within same = refl
slot_is_own [] later ts local mid e none lt behind (suc other) held is within same = absurd (not_later later other behind is)
  where
    not_later : (ls : List (Local × Span)) (n : ℕ) → AllOf (λ (l : Local × Span). mid ≤ l.1.from) ls → slice_get ls n ≡ Some held → ⊥
    not_later [] n all is = absurd cc
    not_later (l ∷ ls) zero all is =
        let at : l ≡ held = cc in
        let le : mid ≤ held.1.from = subst (λ (h : Local × Span). mid ≤ h.1.from) at all.0 in
        false≢true (sym (later_outside local.1.from mid held le local.1 (omega arith, lt)) ∙ within)
    not_later (l ∷ ls) (suc n) all is = not_later ls n all.1 is
slot_is_own (x ∷ xs) later [] local mid e none lt behind other held is within same = absurd (omega (arith, e))
slot_is_own (x ∷ xs) later (t ∷ ts) local mid e none lt behind zero held is within same =
    let at : x ≡ held = cc in
    let found : ((x.0.slot == local.0.slot) && starts_within local.1 x.1) ≡ true =
    subst (λ (h : Local × Span). ((h.0.slot == local.0.slot) && starts_within local.1 h.1) ≡ true) (sym at) (both_hold (held.0.slot == local.0.slot) (starts_within local.1 held.1) (same_is held.0.slot local.0.slot same) within) in
    let some : ◌≡◌ {A = Option Type_} (Some t) None = sym (ap (λ b. if b then Some t else local_type_from xs ts local.0.slot local.1) found) ∙ none in
    absurd cc
slot_is_own (x ∷ xs) later (t ∷ ts) local mid e none lt behind (suc other) held is within same =
    let rest = slot_is_own xs later ts local mid (omega (arith, e)) (not_first ((x.0.slot == local.0.slot) && starts_within local.1 x.1) none) lt behind other held is within same in
    omega (arith, rest)
  where
    not_first : (b : Bool) → (if b then Some t else local_type_from xs ts local.0.slot local.1) ≡ None → local_type_from xs ts local.0.slot local.1 ≡ None
    not_first true e = absurd cc
    not_first false e = e

module _ (g : Ground) where
  pub type_more : (xs ys : List (Local × Span)) (ts us : List Type_) → length ts ≡ length xs → (lo hi : ℕ) → AllOf (Outside lo hi) ys → (slot : ℕ) (span : Span) → Within lo hi span → type_in g (xs ++ ys) (ts ++ us) slot span ≡ type_in g xs ts slot span
  type_more xs ys ts us e lo hi all slot span within =
      let p = param_type_from (param_slot g.method 0) g.method.param_types slot in
      ap (first_type p) (locals_both xs ys ts us e slot span ∙ ap (first_type (local_type_from xs ts slot span)) (outside_none lo hi ys us all slot span within) ∙ none_behind (local_type_from xs ts slot span))
    where
      none_behind : (o : Option Type_) → first_type o None ≡ o
      none_behind None = refl
      none_behind (Some t) = refl

  -- ---- variables, where locals are added

  pub slot_front : (xs ys : List (Local × Span)) (ts : List Type_) (lo hi : ℕ) (ty : Type_) (m : Meaning) → IsNamed g xs ts lo hi ty m → slot_of (scope_in g (xs ++ ys)) (Some m) ≡ slot_of (scope_in g xs) (Some m)
  slot_front xs ys ts lo hi ty (meaning.Local n) is = ap slot_in_locals (get_front xs ys n is.0 is.1) ∙ sym (ap slot_in_locals is.1)
  slot_front xs ys ts lo hi ty (meaning.Param n) is = refl
  slot_front xs ys ts lo hi ty (meaning.FieldNamed n) is = absurd is
  slot_front xs ys ts lo hi ty (meaning.Constant n) is = absurd is
  slot_front xs ys ts lo hi ty (meaning.ClassNamed n) is = absurd is
  slot_front xs ys ts lo hi ty (meaning.MethodNamed n) is = absurd is
  slot_front xs ys ts lo hi ty meaning.LengthOf is = absurd is

  named_front : (xs ys : List (Local × Span)) (ts us : List Type_) (lo hi from to : ℕ) (ty : Type_) (m : Meaning) → lo ≤ from → to ≤ hi → IsNamed g xs ts lo hi ty m → IsNamed g (xs ++ ys) (ts ++ us) from to ty m
  named_front xs ys ts us lo hi from to ty (meaning.Local n) le up is =
      (is.0, get_front xs ys n is.0 is.1, get_front ts us n ty is.2, (let a = is.3 in omega (arith, a, le)), (let a = is.4 in omega (arith, a, up)))
  named_front xs ys ts us lo hi from to ty (meaning.Param n) le up is = is
  named_front xs ys ts us lo hi from to ty (meaning.FieldNamed n) le up is = absurd is
  named_front xs ys ts us lo hi from to ty (meaning.Constant n) le up is = absurd is
  named_front xs ys ts us lo hi from to ty (meaning.ClassNamed n) le up is = absurd is
  named_front xs ys ts us lo hi from to ty (meaning.MethodNamed n) le up is = absurd is
  named_front xs ys ts us lo hi from to ty meaning.LengthOf le up is = absurd is

  variable_more : (xs ys : List (Local × Span)) (ts us : List Type_) (free more lo hi from to : ℕ) → length ts ≡ length xs → free ≤ more → lo ≤ from → to ≤ hi → (v : Variable) → HasVariable g xs ts free lo hi v → HasVariable g (xs ++ ys) (ts ++ us) more from to v
  variable_more xs ys ts us free more lo hi from to e grows le up v is =
      let slot = slot_front xs ys ts lo hi is.ty v.meaning is.named in
      record {
        ty = is.ty;
        typed = is.typed;
        real = is.real;
        named = named_front xs ys ts us lo hi from to is.ty v.meaning le up is.named;
        first = subst (λ n. param_slot g.method 0 ≤ n) (sym slot) is.first;
        low = (let a = is.low in omega (arith, a, slot, grows));
        declared = λ span within.
            let p = param_type_from (param_slot g.method 0) g.method.param_types (slot_of (scope_in g xs) (Some v.meaning)) in
            ap (λ n. type_in g (xs ++ ys) (ts ++ us) n span) slot
            ∙ ap (first_type p) (locals_both xs ys ts us e (slot_of (scope_in g xs) (Some v.meaning)) span)
            ∙ first_both p (local_type_from xs ts (slot_of (scope_in g xs) (Some v.meaning)) span) (local_type_from ys us (slot_of (scope_in g xs) (Some v.meaning)) span)
            ∙ first_is (type_in g xs ts (slot_of (scope_in g xs) (Some v.meaning)) span) _ is.ty
            (is.declared span ((let a = within.0 in omega (arith, a, le)), (let a = within.1 in omega (arith, a, up))));
      }

  pub variables_more : (xs ys : List (Local × Span)) (ts us : List Type_) (free more lo hi from to : ℕ) → length ts ≡ length xs → free ≤ more → lo ≤ from → to ≤ hi → (vs : List Variable) → AllOf (HasVariable g xs ts free lo hi) vs → AllOf (HasVariable g (xs ++ ys) (ts ++ us) more from to) vs
  variables_more xs ys ts us free more lo hi from to e grows le up vs all =
      all_so (HasVariable g xs ts free lo hi) (HasVariable g (xs ++ ys) (ts ++ us) more from to) (λ v is. variable_more xs ys ts us free more lo hi from to e grows le up v is) vs all

  -- with so many more locals, none of which holds there

  pub scoped_more : (s : Names) (xs ys : List (Local × Span)) (ts us : List Type_) (free lo hi from to : ℕ) → Scoped g s xs ts free lo hi → length us ≡ length ys → lo ≤ from → to ≤ hi → AllOf (Outside from to) ys
      → Scoped g s (xs ++ ys) (ts ++ us) free from to
  scoped_more s xs ys ts us free lo hi from to is e le up outside = record {
    world = is.world;
    class = is.class;
    in_constructor = is.in_constructor;
    object = is.object;
    fields = is.fields;
    result = is.result;
    params = is.params;
    first = is.first;
    typed = (let a = length-append ts us in let b = length-append xs ys in let c = is.typed in omega (arith, a, b, c, e));
    variables = variables_more xs ys ts us free free lo hi from to is.typed (omega arith) le up s.names is.variables;
    unused = λ slot low span within. type_more xs ys ts us is.typed from to outside slot span within
        ∙ is.unused slot low span ((let a = within.0 in omega (arith, a, le)), (let a = within.1 in omega (arith, a, up)));
  }

  -- between other places
  pub scoped_within : (s : Names) (xs : List (Local × Span)) (ts : List Type_) (free lo hi from to : ℕ) → lo ≤ from → to ≤ hi → Scoped g s xs ts free lo hi → Scoped g s xs ts free from to
  scoped_within s xs ts free lo hi from to le up is = record {
    world = is.world;
    class = is.class;
    in_constructor = is.in_constructor;
    object = is.object;
    fields = is.fields;
    result = is.result;
    params = is.params;
    first = is.first;
    typed = is.typed;
    variables = all_so (HasVariable g xs ts free lo hi) (HasVariable g xs ts free from to) (λ v x. record {
      ty = x.ty;
      typed = x.typed;
      real = x.real;
      named = named_within v.meaning x.ty x.named;
      first = x.first;
      low = x.low;
      declared = λ span within. x.declared span ((let a = within.0 in omega (arith, a, le)), (let a = within.1 in omega (arith, a, up)));
    }) s.names is.variables;
    unused = λ slot low span within. is.unused slot low span ((let a = within.0 in omega (arith, a, le)), (let a = within.1 in omega (arith, a, up)));
  }
    where
      named_within : (m : Meaning) (ty : Type_) → IsNamed g xs ts lo hi ty m → IsNamed g xs ts from to ty m
      named_within (meaning.Local n) ty x = (x.0, x.1, x.2, (let a = x.3 in omega (arith, a, le)), (let a = x.4 in omega (arith, a, up)))
      named_within (meaning.Param n) ty x = x
      named_within (meaning.FieldNamed n) ty x = absurd x
      named_within (meaning.Constant n) ty x = absurd x
      named_within (meaning.ClassNamed n) ty x = absurd x
      named_within (meaning.MethodNamed n) ty x = absurd x
      named_within meaning.LengthOf ty x = absurd x

  -- in a scope with the same names
  pub scoped_for : (s t : Names) (xs : List (Local × Span)) (ts : List Type_) (free lo hi : ℕ) → t.world ≡ s.world → t.class ≡ s.class → t.in_constructor ≡ s.in_constructor → (t.has_object ≡ true → s.has_object ≡ true) → (t.names_fields ≡ true → s.names_fields ≡ true) → t.result ≡ s.result → t.names ≡ s.names
      → Scoped g s xs ts free lo hi → Scoped g t xs ts free lo hi
  scoped_for s t xs ts free lo hi world class constructor object fields result names is = record {
    world = world ∙ is.world;
    class = class ∙ is.class;
    in_constructor = λ e. is.in_constructor (sym constructor ∙ e);
    object = λ e. is.object (object e);
    fields = λ e. is.fields (fields e);
    result = subst (IsResult g) (sym result) is.result;
    params = is.params;
    first = is.first;
    typed = is.typed;
    variables = subst (AllOf (HasVariable g xs ts free lo hi)) (sym names) is.variables;
    unused = is.unused;
  }

  pub stands_for : (s t : Names) (xs : List (Local × Span)) (point : Point) → (t.has_object ≡ true → s.has_object ≡ true) → t.names ≡ s.names → Stands g s xs point → Stands g t xs point
  stands_for s t xs point object names stands = record {
    variables = subst (AllOf (λ (v : Variable). (ty : Type_) → v.ty ≡ Some ty → Known point (slot_of (scope_in g xs) (Some v.meaning)) ty)) (sym names) stands.variables;
    this = λ e. stands.this (object e);
  }

  -- what stands at a point still does, where slots keep their types and locals are added
  pub stands_more : (s : Names) (xs ys : List (Local × Span)) (ts : List Type_) (free lo hi : ℕ) (before after : Point) → Scoped g s xs ts free lo hi → Keeps free before after → (s.has_object ≡ true → 1 ≤ free) → Stands g s xs before → Stands g s (xs ++ ys) after
  stands_more s xs ys ts free lo hi before after is keeps one stands = record { variables = each s.names is.variables stands.variables; this = λ has. keeps 0 (one has) _ (stands.this has) }
    where
      each : (vs : List Variable) → AllOf (HasVariable g xs ts free lo hi) vs → AllOf (λ (v : Variable). (ty : Type_) → v.ty ≡ Some ty → Known before (slot_of (scope_in g xs) (Some v.meaning)) ty) vs
          → AllOf (λ (v : Variable). (ty : Type_) → v.ty ≡ Some ty → Known after (slot_of (scope_in g (xs ++ ys)) (Some v.meaning)) ty) vs
      each [] all known = tt
      each (v ∷ vs) all known = (
        (λ ty typed. subst (λ n. Known after n ty) (sym (slot_front xs ys ts lo hi all.0.ty v.meaning all.0.named)) (keeps (slot_of (scope_in g xs) (Some v.meaning)) all.0.low ty (known.0 ty typed))),
        each vs all.1 known.1,
      )

  pub has_first : (s : Names) (xs : List (Local × Span)) (ts : List Type_) (free lo hi : ℕ) → Scoped g s xs ts free lo hi → s.has_object ≡ true → 1 ≤ free
  has_first s xs ts free lo hi is has = let a = is.object has in let b = is.first in omega (arith, a, b)

  -- by all locals of the method
  pub type_final : (xs : List (Local × Span)) (ts : List Type_) (at lo hi : ℕ) → length ts ≡ length xs → Begins g xs ts at → hi ≤ at → (slot : ℕ) (span : Span) → Within lo hi span → type_in g g.method.locals g.locals slot span ≡ type_in g xs ts slot span
  type_final xs ts at lo hi e b le slot span within =
      ap (λ l. type_in g l g.locals slot span) b.locals ∙ ap (λ t. type_in g (xs ++ b.later) t slot span) b.types
      ∙ type_more xs b.later ts b.later_types e lo hi
      (all_so (λ (l : Local × Span). at ≤ l.1.from) (Outside lo hi) (λ l behind. later_outside lo hi l (omega (arith, behind, le))) b.later b.behind) slot span within

  -- what begins behind something that declares locals begins before it
  pub begins_before : (xs ys : List (Local × Span)) (ts us : List Type_) (at before until : ℕ) → AllOf (IsDeclared before until) ys → before ≤ at → Begins g (xs ++ ys) (ts ++ us) at → Begins g xs ts before
  begins_before xs ys ts us at before until places le b = record {
    later = ys ++ b.later;
    later_types = us ++ b.later_types;
    locals = b.locals ∙ append_assoc xs ys b.later;
    types = b.types ∙ append_assoc ts us b.later_types;
    behind = all_joined (λ (l : Local × Span). before ≤ l.1.from) ys b.later
        (all_so (IsDeclared before until) (λ (l : Local × Span). before ≤ l.1.from) (λ l d. d.0) ys places)
        (all_so (λ (l : Local × Span). at ≤ l.1.from) (λ (l : Local × Span). before ≤ l.1.from) (λ l d. omega (arith, d, le)) b.later b.behind);
  }
