-- What is asked of a program that is checked, beside that it is formed. Every program that comes of a source has it.
use Rattle.std.specs.Prelude.{◌≡◌, ℕ, ◌<◌, ◌^◌, ◌==◌, false, length, slice_get, Some, option_map, unwrap_or}
use Rattle.ix_text.specs.declared.span.Span.{Span}
use Rattle.ix_core.specs.declared.claim.Name.TheVariants.{Local}
use Rattle.ix_core.specs.declared.program.Local.{Local as Variable}
use Rattle.ix_core.specs.declared.program.Method.{Method}
use Rattle.ix_core.specs.declared.program.Program.{Program}
use Rattle.ix_core.specs.Formed.{Formed}
use Rattle.ix_core.specs.Objects.{Names}
use Rattle.ix_core.specs.Tables.{method_at}

-- The locals of each method, and the fields, can be counted with 32 bits. The plain form doesn't ask for it: locals may share slots, of which there are few, and no part of a formed
-- program says how many fields there are.
pub record HasFew (program : Program) : Type 0 where
  pub locals : (number : ℕ) → length (method_at program number).locals < 2 ^ 32
  pub fields : length program.fields < 2 ^ 32

-- the slot of a local; 0 where the method has no such local
abbrev pub local_slot : Method → ℕ → ℕ
local_slot method number = unwrap_or (option_map (λ local. local.0.slot) (slice_get method.locals number)) 0

-- A claim on a local names no other local of the same slot. Two locals of which one is in scope with the other have slots of their own, but the plain form
-- doesn't ask for it.
abbrev pub LocalsApart : Program → Type 0
LocalsApart program = (number k other : ℕ) (local : Variable × Span) → slice_get (method_at program number).locals k ≡ Some local → Names local.0.claims (Local other) → (local_slot (method_at program number) other == local.0.slot) ≡ false

-- Methods, locals and fields have numbers of 32 bits, and a claim on a local names no other local of its slot.
pub record CanCheck (program : Program) : Type 0 where
  pub methods : length program.methods < 2 ^ 32
  pub few : HasFew program
  pub apart : LocalsApart program

-- A program that may be checked: it is formed, and has what is asked beside.
pub record IsReady (program : Program) : Type 0 where
  pub formed : Formed program
  pub can : CanCheck program
