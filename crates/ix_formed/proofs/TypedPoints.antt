-- How items that fit lead from the types at one point to those at another, and which types stay known.
use Rattle.std.proofs.Common.{◌≡◌, ◌≤◌, ◌<◌, ℕ, Bool, true, List, [], ◌∷◌, ◌++◌, Some, None, refl, sym, ap, ◌∙◌, arith}
use Rattle.std.specs.Prelude.{if◌then◌else◌, ◌==◌, nat_lt}
use Rattle.std.proofs.lemmas.Bool.Decides.{nat_tests}
use Rattle.ix_core.specs.declared.claim.Type_.{Type_}
use Rattle.ix_core.specs.declared.code.Item.{Item}
use Rattle.ix_core.specs.declared.code.Item.TheVariants as item
use Rattle.ix_core.specs.declared.op.Op.{Op}
use Rattle.ix_core.specs.declared.program.Method.{Method}
use Rattle.ix_core.specs.declared.program.Program.{Program}
use Rattle.ix_core.specs.Formed.{Ways, also, assigned, op_fits, op_types, code_ways, is_slot, type_fits, reads}
use Rattle.ix_core.specs.Types.{Point, meeting, if_same, is_of}
use Rattle.ix_core.proofs.Cases.{by_test, equal}
use Rattle.ix_formed.specs.Additions.{code_before}
use Rattle.ix_formed.specs.Points.{Known, Keeps, Leads}
use Rattle.ix_formed.proofs.NumberLists.{both_true, is_itself}
use Rattle.ix_formed.proofs.PlainItems.{before_append}
use Rattle.ix_formed.proofs.SameTypes.{same_itself}

-- ---- what is known at a point

pub keeps_none : (count : ℕ) (types : Point) → Keeps count types types
keeps_none count types slot lt ty known = known

pub keeps_both : (count more : ℕ) (first second third : Point) → count ≤ more → Keeps count first second → Keeps more second third → Keeps count first third
keeps_both count more first second third le a b slot lt ty known = b slot (omega (arith, lt, le)) ty (a slot lt ty known)

pub assigned_known : (target : ℕ) (ty : Type_) (types : Point) → Known (assigned target ty types) target ty
assigned_known target ty None = tt
assigned_known target ty (Some types) = ap (λ b. if b then Some ty else types target) (is_itself target)

-- another slot keeps its type, and the same one where it has that type
pub assigned_keeps : (target : ℕ) (ty : Type_) (types : Point) (slot : ℕ) (other : Type_) → (slot ≡ target → other ≡ ty) → Known types slot other → Known (assigned target ty types) slot other
assigned_keeps target ty None slot other same known = tt
assigned_keeps target ty (Some types) slot other same known =
    by_test (slot == target)
    (λ t. ap (λ b. if b then Some ty else types slot) t ∙ ap (λ x. Some x) (sym (same (equal slot target t))))
    (λ f. ap (λ b. if b then Some ty else types slot) f ∙ known)

-- a new temporary
pub new_keeps : (target : ℕ) (ty : Type_) (types : Point) → Keeps target types (assigned target ty types)
new_keeps target ty types slot lt other known = assigned_keeps target ty types slot other (λ same. absurd (omega (arith, lt, same))) known

-- ---- where two ways meet

pub meeting_known : (first second : Point) (slot : ℕ) (ty : Type_) → Known first slot ty → Known second slot ty → Known (meeting first second) slot ty
meeting_known None second slot ty a b = b
meeting_known (Some types) None slot ty a b = a
meeting_known (Some types) (Some others) slot ty a b =
    ap (λ o. if_same o (others slot)) a ∙ ap (if_same (Some ty)) b ∙ ap (λ c. if c then Some ty else None) (same_itself ty)

pub meeting_keeps : (count : ℕ) (before first second : Point) → Keeps count before first → Keeps count before second → Keeps count before (meeting first second)
meeting_keeps count before first second a b slot lt ty known = meeting_known first second slot ty (a slot lt ty known) (b slot lt ty known)

-- ---- steps

module _ (p : Program) (method : Method) (locals : List Type_) where
  pub leads_none : (types : Point) → Leads p method locals [] types types
  leads_none types in_loop rest = refl

  pub leads_both : (items more : List Item) (first second third : Point) → Leads p method locals items first second → Leads p method locals more second third → Leads p method locals (items ++ more) first third
  leads_both items more first second third a b in_loop rest =
      ap (λ code. code_ways p method locals in_loop code first) (before_append items more rest) ∙ a in_loop (code_before more rest) ∙ b in_loop rest

  fitting_also : (fits : Bool) (rest : Ways) → fits ≡ true → also fits rest ≡ rest
  fitting_also fits rest e = ap (λ b. also b rest) e

  -- an operation that fits
  pub op_leads : (o : Op) (types : Point) → op_fits p method locals types o o.kind ≡ true → Leads p method locals (item.Do o ∷ []) types (op_types p method locals types o o.kind)
  op_leads o types fits in_loop rest = fitting_also (op_fits p method locals types o o.kind) (code_ways p method locals in_loop rest (op_types p method locals types o o.kind)) fits

  -- a slot that holds a value of a type below the wanted one
  pub reads_known : (types : Point) (slot : ℕ) (ty wanted : Type_) → slot < method.slots → Known types slot ty → is_of p ty wanted ≡ true → reads p method types slot wanted ≡ true
  reads_known None slot ty wanted lt known of = both_true (is_slot p method slot) true (slot_is slot lt) refl
    where
      slot_is : (slot : ℕ) → slot < method.slots → nat_lt slot method.slots ≡ true
      slot_is slot lt = grind (arith, nat_tests)
  reads_known (Some types) slot ty wanted lt known of =
      both_true (is_slot p method slot) (type_fits p method (types slot) wanted) (slot_is slot lt) (ap (λ o. type_fits p method o wanted) known ∙ of)
    where
      slot_is : (slot : ℕ) → slot < method.slots → nat_lt slot method.slots ≡ true
      slot_is slot lt = grind (arith, nat_tests)
