-- A claim on a local of a formed program names no local of the same slot, where each local has a slot of its own.
use Rattle.std.specs.Prelude.{◌≡◌, ℕ, zero, suc, ◌+◌, ◌≤◌, ◌<◌, ◌==◌, nat_lt, Bool, true, false, if◌then◌else◌, List, [], ◌∷◌, length, slice_get, Option, None, Some, option_map, unwrap_or, refl}
use Rattle.std.specs.List.{list_all}
use Rattle.std.proofs.Common.{arith, sym, ap, subst, ◌∙◌}
use Rattle.std.proofs.lemmas.Bool.{and_parts, false≢true}
use Rattle.std.proofs.lemmas.Bool.Decides.{nat_tests}
use Rattle.std.proofs.lemmas.Option.{slice_get_past}
use Rattle.ix_text.specs.declared.span.Span.{Span}
use Rattle.ix_core.specs.declared.claim.Name.TheVariants.{Local}
use Rattle.ix_core.specs.declared.claim.Type_.{Type_}
use Rattle.ix_core.specs.declared.program.Local.{Local as Variable}
use Rattle.ix_core.specs.declared.program.Method.{Method}
use Rattle.ix_core.specs.declared.program.Program.{Program}
use Rattle.ix_core.specs.Formed.{Formed, at_most, claim_fits, others, local_named_type, in_scope_type, starts_within, params_fit, locals_fit, is_target}
use Rattle.ix_core.specs.Tables.{no_method, method_at, param_slots}
use Rattle.ix_core.specs.Types.{is_class, is_type}
use Rattle.ix_core.proofs.Cases.{by_test, equal}
use Rattle.ix_core.proofs.FormedParts.{locals_of, method_is}
use Rattle.ix_core.specs.Ready.{local_slot, LocalsApart}
use Rattle.ix_formed.specs.OwnSlots.{HaveOwnSlots, AllOwnSlots}
use Rattle.ix_formed.proofs.NamesInScope.{HasType, names_typed}

module _ (program : Program) (method : Method) (held : List Type_) where
  -- the claims of a local fit its type
  local_fits : (number : ℕ) (locals : List (Variable × Span)) (types : List Type_) → locals_fit program method held number locals types ≡ true → (k : ℕ) (local : Variable × Span) → slice_get locals k ≡ Some local
      → (ty : Type_) × (list_all (claim_fits ty (others (Local (number + k)) (local_named_type program method held local.1))) local.0.claims ≡ true)
  local_fits number [] types fits k local is = absurd cc
  local_fits number (first ∷ locals) [] fits k local is = absurd (false≢true fits)
  local_fits number (first ∷ locals) (ty ∷ types) fits zero local is =
      let a = and_parts (is_target program method first.0.slot) _ fits in
      let b = and_parts (is_type program ty) _ a.1 in
      let c = and_parts (list_all (claim_fits ty (others (Local number) (local_named_type program method held first.1))) first.0.claims) (locals_fit program method held (number + 1) locals types) b.1 in
      let at : first ≡ local = ap (λ (o : Option (Variable × Span)). unwrap_or o first) is in
      let h : number ≡ number + 0 = omega arith in (
        ty,
        subst (λ (l : Variable × Span). list_all (claim_fits ty (others (Local (number + 0)) (local_named_type program method held l.1))) l.0.claims ≡ true) at
            (subst (λ n. list_all (claim_fits ty (others (Local n) (local_named_type program method held first.1))) first.0.claims ≡ true) h c.0),
      )
  local_fits number (first ∷ locals) (ty ∷ types) fits (suc k) local is =
      let a = and_parts (is_target program method first.0.slot) _ fits in
      let b = and_parts (is_type program ty) _ a.1 in
      let c = and_parts (list_all (claim_fits ty (others (Local number) (local_named_type program method held first.1))) first.0.claims) (locals_fit program method held (number + 1) locals types) b.1 in
      let rest = local_fits (number + 1) locals types c.1 k local is in
      let h : (number + 1) + k ≡ number + suc k = omega arith in
      (rest.0, subst (λ n. list_all (claim_fits rest.0 (others (Local n) (local_named_type program method held local.1))) local.0.claims ≡ true) h rest.1)

  module _ (own : HaveOwnSlots method.locals) (k : ℕ) (local : Variable × Span) (there : slice_get method.locals k ≡ Some local) where
    differs : (other : ℕ) → (k == other) ≡ false → other ≡ k → ⊥
    differs other differ same = grind (arith, nat_tests)

    within : (inside : Bool) (ty : Option Type_) (named : Type_) → (if inside then ty else None) ≡ Some named → inside ≡ true
    within true ty named is = refl
    within false ty named is = absurd cc

    -- a local that is in scope has another slot
    other_slot : (other : ℕ) (named : Type_) → (k == other) ≡ false → (o : Option (Variable × Span)) → slice_get method.locals other ≡ o → in_scope_type local.1 o (slice_get held other) ≡ Some named
        → (unwrap_or (option_map (λ (l : Variable × Span). l.0.slot) o) 0 == local.0.slot) ≡ false
    other_slot other named differ None found is = absurd cc
    other_slot other named differ (Some variable) found is =
        by_test (variable.0.slot == local.0.slot)
        (λ t. absurd (differs other differ (own k local there other variable found (within (starts_within local.1 variable.1) (slice_get held other) named is) (equal variable.0.slot local.0.slot t))))
        (λ t. t)

    named_apart : (other : ℕ) → HasType (others (Local k) (local_named_type program method held local.1)) (Local other) → (local_slot method other == local.0.slot) ≡ false
    named_apart other named =
        by_test (k == other)
        (λ t. let none : ◌≡◌ {A = Option Type_} None (Some named.0) = subst (λ b. (if b then None else local_named_type program method held local.1 (Local other)) ≡ Some named.0) t named.1 in absurd cc)
        (λ t.
        let is = subst (λ b. (if b then None else local_named_type program method held local.1 (Local other)) ≡ Some named.0) t named.1 in
        other_slot other named.0 t (slice_get method.locals other) refl is)

module _ (program : Program) (formed : Formed program) (own : AllOwnSlots program) where
  locals_all : (number : ℕ) → number < length program.methods
      → locals_fit program (method_at program number) (locals_of program formed.0 formed.1 number) 0 (method_at program number).locals (locals_of program formed.0 formed.1 number) ≡ true
  locals_all number lt =
      let method = method_at program number in
      let types = locals_of program formed.0 formed.1 number in
      let a = and_parts (is_class program method.class) _ (method_is program formed.0 formed.1 number lt) in
      let b = and_parts (params_fit program method 0 method.params method.param_types) _ a.1 in
      let c = and_parts (at_most (param_slots method) method.slots) _ b.1 in
      let d = and_parts (at_most method.slots 512) _ c.1 in
      (and_parts (locals_fit program method types 0 method.locals types) _ d.1).0

  no_local : (number k : ℕ) (local : Variable × Span) → length program.methods ≤ number → slice_get (method_at program number).locals k ≡ Some local → ⊥
  no_local number k local le is =
      let past : method_at program number ≡ no_method = ap (λ (o : Option Method). unwrap_or o no_method) (slice_get_past program.methods number le) in
      let none : ◌≡◌ {A = Option (Variable × Span)} None (Some local) = sym (ap (λ (m : Method). slice_get m.locals k) past) ∙ is in
      absurd cc

  pub own_slots_apart : LocalsApart program
  own_slots_apart number k other local is names =
      by_test (nat_lt number (length program.methods))
      (λ t.
      let lt : number < length program.methods = grind (arith, nat_tests) in
      let method = method_at program number in
      let types = locals_of program formed.0 formed.1 number in
      let fits = local_fits program method types 0 method.locals types (locals_all number lt) k local is in
      let h : 0 + k ≡ k = omega arith in
      let fit = subst (λ n. list_all (claim_fits fits.0 (others (Local n) (local_named_type program method types local.1))) local.0.claims ≡ true) h fits.1 in
      named_apart program method types (own number) k local is other (names_typed (others (Local k) (local_named_type program method types local.1)) fits.0 local.0.claims (Local other) fit names))
      (λ t. let le : length program.methods ≤ number = grind (arith, nat_tests) in absurd (no_local number k local le is))
