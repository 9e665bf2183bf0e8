-- Declarations of locals.
use Rattle.std.proofs.Common.{◌≡◌, ◌≤◌, ◌<◌, ℕ, ◌+◌, true, false, List, [], ◌∷◌, ◌++◌, length, Some, None, refl, sym, ap, subst, ◌∙◌, arith, length-append}
use Rattle.std.specs.Prelude.{if◌then◌else◌, ◌&&◌, not, nat_lt, ◌==◌, unwrap_or}
use Rattle.std.proofs.lemmas.Bool.{false≢true}
use Rattle.std.proofs.lemmas.Bool.Decides.{nat_tests}
use Rattle.ix_text.specs.declared.span.Span.{Span}
use Rattle.ix_core.specs.declared.claim.Base.TheVariants as base
use Rattle.ix_core.specs.declared.claim.Type_.{Type_}
use Rattle.ix_core.specs.declared.claim.Type_.TheVariants as type
use Rattle.ix_core.specs.declared.code.Item.TheVariants as item
use Rattle.ix_core.specs.declared.op.Op.{Op}
use Rattle.ix_core.specs.declared.op.OpKind.TheVariants as op
use Rattle.ix_core.specs.declared.program.Local.{Local}
use Rattle.ix_core.specs.Formed.{at_most, assigned, first_type, local_type_from, param_type_from, starts_within, op_fits, op_types, copy_fits, variable_type, literal_fits, literal_type, is_slot, reads}
use Rattle.ix_core.specs.Tables.{param_slot}
use Rattle.ix_core.specs.Types.{Point, is_type, is_of}
use Rattle.ix_meaning.specs.declared.note.Meaning.TheVariants as meaning
use Rattle.ix_meaning.specs.Scope.{Known as Variable, Scope as Names}
use Rattle.ix_plain.specs.Parts.{default}
use Rattle.ix_plain.specs.Scope.{slot_of}
use Rattle.ix_formed.specs.Additions.{AllOf}
use Rattle.ix_formed.specs.Points.{Known, Keeps, Leads}
use Rattle.ix_formed.specs.TypedStatements.{Ground, Within, type_in, scope_in, IsNamed, HasVariable, Scoped, Stands, Begins}
use Rattle.ix_formed.proofs.NumberLists.{both_true, is_itself, is_less, all_joined}
use Rattle.ix_formed.proofs.ScopedLocals.{get_behind, first_none, locals_both, type_final, stands_more, has_first, variables_more}
use Rattle.ix_formed.proofs.TypedPoints.{op_leads, reads_known}

module _ (g : Ground) where
  -- ---- a new local

  -- its slot is the first that is free, and it is in scope from its name on
  module _ (s : Names) (xs : List (Local × Span)) (ts : List Type_) (free lo end : ℕ) (scoped : Scoped g s xs ts free lo end) (x : Local × Span) (ty : Type_) (slot : x.0.slot ≡ free) (from : lo ≤ x.1.from) (to : x.1.to ≡ end) where
    own_scope : (span : Span) → Within x.1.from end span → starts_within span x.1 ≡ true
    own_scope span within = both_true (at_most x.1.from span.from) (nat_lt span.from x.1.to) (low x.1.from span.from within.0) (high span.from x.1.to (let a = within.1 in omega (arith, a, to)))
      where
        low : (a b : ℕ) → a ≤ b → nat_lt a (b + 1) ≡ true
        low a b le = grind (arith, nat_tests)

        high : (a b : ℕ) → a < b → nat_lt a b ≡ true
        high a b lt = grind (arith, nat_tests)

    within_before : (span : Span) → Within x.1.from end span → Within lo end span
    within_before span within = ((let a = within.0 in omega (arith, a, from)), within.1)

    -- at each place in its scope its slot is its own
    pub own_declared : (span : Span) → Within x.1.from end span → type_in g (xs ++ x ∷ []) (ts ++ ty ∷ []) free span ≡ Some ty
    own_declared span within =
        let p = param_type_from (param_slot g.method 0) g.method.param_types free in
        let old = first_none p (local_type_from xs ts free span) (scoped.unused free (omega arith) span (within_before span within)) in
        let same : (x.0.slot == free) ≡ true = ap (λ n. n == free) slot ∙ is_itself free in
        ap (λ o. first_type o (local_type_from (xs ++ x ∷ []) (ts ++ ty ∷ []) free span)) old.0
        ∙ locals_both xs (x ∷ []) ts (ty ∷ []) scoped.typed free span
        ∙ ap (λ o. first_type o (local_type_from (x ∷ []) (ty ∷ []) free span)) old.1
        ∙ ap (λ b. if b then Some ty else None) (both_true (x.0.slot == free) (starts_within span x.1) same (own_scope span within))

    unused_behind : (other : ℕ) → free + 1 ≤ other → (span : Span) → Within x.1.from end span → type_in g (xs ++ x ∷ []) (ts ++ ty ∷ []) other span ≡ None
    unused_behind other le span within =
        let p = param_type_from (param_slot g.method 0) g.method.param_types other in
        let old = first_none p (local_type_from xs ts other span) (scoped.unused other (omega (arith, le)) span (within_before span within)) in
        let differs : (x.0.slot == other) ≡ false = ap (λ n. n == other) slot ∙ is_less free other (omega (arith, le)) in
        ap (λ o. first_type o (local_type_from (xs ++ x ∷ []) (ts ++ ty ∷ []) other span)) old.0
        ∙ locals_both xs (x ∷ []) ts (ty ∷ []) scoped.typed other span
        ∙ ap (λ o. first_type o (local_type_from (x ∷ []) (ty ∷ []) other span)) old.1
        ∙ ap (λ b. if b && starts_within span x.1 then Some ty else None) differs

    -- the scope, where its name isn't yet in scope
    pub scoped_pending : Scoped g s (xs ++ x ∷ []) (ts ++ ty ∷ []) (free + 1) x.1.from end
    scoped_pending = record {
      world = scoped.world;
      class = scoped.class;
      in_constructor = scoped.in_constructor;
      object = scoped.object;
      fields = scoped.fields;
      result = scoped.result;
      params = (let a = scoped.params in omega (arith, a));
      first = (let a = scoped.first in omega (arith, a));
      typed = (let a = length-append ts (ty ∷ []) in let b = length-append xs (x ∷ []) in let c = scoped.typed in omega (arith, a, b, c));
      variables = variables_more g xs (x ∷ []) ts (ty ∷ []) free (free + 1) lo end x.1.from end scoped.typed (omega arith) from (omega arith) s.names scoped.variables;
      unused = unused_behind;
    }

    -- the local, as one of the variables
    pub own_variable : (v : Variable) → v.meaning ≡ meaning.Local (length xs) → v.ty ≡ Some ty → is_type g.program ty ≡ true → HasVariable g (xs ++ x ∷ []) (ts ++ ty ∷ []) (free + 1) x.1.from end v
    own_variable v means typed real =
        let at = get_behind xs x [] (length xs) refl in
        let is_slot_of : slot_of (scope_in g (xs ++ x ∷ [])) (Some v.meaning) ≡ free =
        ap (λ m. slot_of (scope_in g (xs ++ x ∷ [])) (Some m)) means ∙ ap Rattle.ix_plain.specs.Scope.slot_in_locals at ∙ slot in
        record {
          ty = ty;
          typed = typed;
          real = real;
          named = subst (IsNamed g (xs ++ x ∷ []) (ts ++ ty ∷ []) x.1.from end ty) (sym means) (x, at, get_behind ts ty [] (length xs) (sym scoped.typed), omega arith, omega (arith, to));
          first = subst (λ n. param_slot g.method 0 ≤ n) (sym is_slot_of) scoped.first;
          low = omega (arith, is_slot_of);
          declared = λ span within. ap (λ n. type_in g (xs ++ x ∷ []) (ts ++ ty ∷ []) n span) is_slot_of ∙ own_declared span within;
        }

    -- behind its declaration it is in scope
    pub scoped_declared : (t : Names) (v : Variable) → t.world ≡ s.world → t.class ≡ s.class → t.in_constructor ≡ s.in_constructor → t.has_object ≡ s.has_object → t.names_fields ≡ s.names_fields → t.result ≡ s.result → t.names ≡ s.names ++ v ∷ []
        → v.meaning ≡ meaning.Local (length xs) → v.ty ≡ Some ty → is_type g.program ty ≡ true → Scoped g t (xs ++ x ∷ []) (ts ++ ty ∷ []) (free + 1) x.1.from end
    scoped_declared t v world class constructor object fields result names means typed real = record {
      world = world ∙ scoped.world;
      class = class ∙ scoped.class;
      in_constructor = λ e. scoped.in_constructor (sym constructor ∙ e);
      object = λ e. scoped.object (sym object ∙ e);
      fields = λ e. scoped.fields (sym fields ∙ e);
      result = subst (Rattle.ix_formed.specs.TypedStatements.IsResult g) (sym result) scoped.result;
      params = (let a = scoped.params in omega (arith, a));
      first = (let a = scoped.first in omega (arith, a));
      typed = scoped_pending.typed;
      variables = subst (AllOf (HasVariable g (xs ++ x ∷ []) (ts ++ ty ∷ []) (free + 1) x.1.from end)) (sym names)
          (all_joined (HasVariable g (xs ++ x ∷ []) (ts ++ ty ∷ []) (free + 1) x.1.from end) s.names (v ∷ []) scoped_pending.variables (own_variable v means typed real, tt));
      unused = unused_behind;
    }

    pub stands_declared : (t : Names) (v : Variable) (before behind : Point) → t.has_object ≡ s.has_object → t.names ≡ s.names ++ v ∷ [] → v.meaning ≡ meaning.Local (length xs) → v.ty ≡ Some ty → Keeps free before behind → Known behind free ty
        → Stands g s xs before → Stands g t (xs ++ x ∷ []) behind
    stands_declared t v before behind object names means typed keeps known stands =
        let old = stands_more g s xs (x ∷ []) ts free lo end before behind scoped keeps (has_first g s xs ts free lo end scoped) stands in
        let at = get_behind xs x [] (length xs) refl in
        let is_slot_of : slot_of (scope_in g (xs ++ x ∷ [])) (Some v.meaning) ≡ free =
        ap (λ m. slot_of (scope_in g (xs ++ x ∷ [])) (Some m)) means ∙ ap Rattle.ix_plain.specs.Scope.slot_in_locals at ∙ slot in
        record {
          variables = subst (AllOf (λ (v : Variable). (ty : Type_) → v.ty ≡ Some ty → Known behind (slot_of (scope_in g (xs ++ x ∷ [])) (Some v.meaning)) ty)) (sym names)
              (all_joined (λ (v : Variable). (ty : Type_) → v.ty ≡ Some ty → Known behind (slot_of (scope_in g (xs ++ x ∷ [])) (Some v.meaning)) ty) s.names (v ∷ []) old.variables
              ((λ other e. (let same : ty ≡ other = cc in subst (λ n. Known behind n other) (sym is_slot_of) (subst (Known behind free) same known))), tt));
          this = λ e. old.this (sym object ∙ e);
        }

    -- ---- the copy into it

    pub copy_leads : (at hi : ℕ) → hi ≤ at → hi ≤ end → Begins g (xs ++ x ∷ []) (ts ++ ty ∷ []) at → (o : Op) (source : ℕ) (given : Type_) (point : Point) → o.kind ≡ op.Copy free source given → Within x.1.from hi o.span → length o.parts ≡ 2 → free < g.method.slots
        → source < g.method.slots → not (free == source) ≡ true → (held : Type_) → Known point source held → is_of g.program held given ≡ true → is_of g.program given ty ≡ true
        → Leads g.program g.method g.locals (item.Do o ∷ []) point (assigned free ty point)
    copy_leads at hi le up begins o source given point kind within two lt low apart held known fits below =
        let declared : variable_type g.program g.method g.locals free o.span ≡ Some ty =
        type_final g (xs ++ x ∷ []) (ts ++ ty ∷ []) at x.1.from hi scoped_pending.typed begins le free o.span within ∙ own_declared o.span (within.0, (let a = within.1 in omega (arith, a, up))) in
        let types : op_types g.program g.method g.locals point o o.kind ≡ assigned free ty point =
        ap (op_types g.program g.method g.locals point o) kind ∙ ap (λ q. assigned free (unwrap_or q given) point) declared in
        let read = reads_known g.program g.method g.locals point source held given low known fits in
        let pair : (length o.parts == 2) ≡ true = ap (λ n. n == 2) two in
        let most : at_most (param_slot g.method 0) free ≡ true = most_is (param_slot g.method 0) free scoped.first in
        let copy : copy_fits g.program g.method g.locals (variable_type g.program g.method g.locals free o.span) free source given o.parts ≡ true =
        ap (λ q. copy_fits g.program g.method g.locals q free source given o.parts) declared
        ∙ both_true (length o.parts == 2) _ pair (both_true (is_of g.program given ty) _ below (both_true (is_slot g.program g.method free) _ (slot_is free lt) most)) in
        let fit : op_fits g.program g.method g.locals point o o.kind ≡ true = ap (op_fits g.program g.method g.locals point o) kind
        ∙ both_true (reads g.program g.method point source given) _ read (both_true (not (free == source)) _ apart copy) in
        subst (λ q. Leads g.program g.method g.locals (item.Do o ∷ []) point q) types (op_leads g.program g.method g.locals o point fit)
      where
        slot_is : (slot : ℕ) → slot < g.method.slots → nat_lt slot g.method.slots ≡ true
        slot_is slot lt = grind (arith, nat_tests)

        most_is : (a b : ℕ) → a ≤ b → nat_lt a (b + 1) ≡ true
        most_is a b le = grind (arith, nat_tests)

  -- ---- defaults

  pub default_is : (ty : Type_) → is_type g.program ty ≡ true → (literal_type (default ty) ≡ ty) × (literal_fits g.program g.method (default ty) ≡ true)
  default_is type.Void real = absurd (false≢true real)
  default_is (type.Plain base.Int) real = (refl, refl)
  default_is (type.Plain base.Bool) real = (refl, refl)
  default_is (type.Plain (base.Class class)) real = (refl, real)
  default_is (type.Array b depth claims) real = (refl, real)
