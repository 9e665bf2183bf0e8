-- Labels that say the same, method by method and loop by loop.
use Rattle.std.specs.Prelude.{◌≡◌, ℕ, zero, suc, ◌<◌, ◌==◌, false, not, List, [], ◌∷◌, length, slice_get, unwrap_or}
use Rattle.std.proofs.Common.{arith, ap, sym, ◌∙◌}
use Rattle.std.proofs.lemmas.Bool.{false≢true}
use Rattle.ix_core.specs.declared.program.Method.{Method}
use Rattle.ix_core.specs.Tables.{no_method}
use Rattle.ix_core.proofs.Cases.{by_test, equal}
use Rattle.ix_facts.specs.Stores.{Stored, Unreachable, SayTheSame}
use Rattle.ix_cert.specs.Labellings.{loops_of, has_part}
use Rattle.ix_cert.specs.SameLabels.{SameStores, SameForMethod, SameLabels}

-- a store of a list, by its number; where there is none, the unreachable one
abbrev pub store_at : List Stored → ℕ → Stored
store_at stores loop = unwrap_or (slice_get stores loop) Unreachable

same_at : (stores others : List Stored) (loop : ℕ) → SameStores stores others → loop < length stores → SayTheSame (store_at stores loop) (store_at others loop)
same_at [] others loop same within = absurd (omega (arith, within))
same_at (store ∷ stores) [] loop same within = absurd same
same_at (store ∷ stores) (other ∷ others) zero same within = same.0
same_at (store ∷ stores) (other ∷ others) (suc loop) same within = same_at stores others loop same.1 (omega (arith, within))

no_part : (count : ℕ) → not (count == 0) ≡ false → count ≡ 0
no_part count off =
    by_test (count == 0)
    (λ t. equal count 0 t)
    (λ t. absurd (false≢true (sym off ∙ ap not t)))

pub same_loop : (method : Method) (stores others : List Stored) → SameForMethod method stores others → (loop : ℕ) → loop < loops_of method
    → SayTheSame (store_at stores loop) (store_at others loop)
same_loop method stores others same loop within =
    by_test (has_part method)
    (λ t. let count = same.count in same_at stores others loop (same.same t) (omega (arith, count, within)))
    (λ t. let empty = no_part (loops_of method) t in absurd (omega (arith, empty, within)))

pub same_method : (methods : List Method) (labels others : List (List Stored)) (number : ℕ) → SameLabels methods labels others → number < length methods
    → SameForMethod (unwrap_or (slice_get methods number) no_method) (unwrap_or (slice_get labels number) []) (unwrap_or (slice_get others number) [])
same_method [] labels others number same within = absurd (omega (arith, within))
same_method (method ∷ methods) [] others number same within = absurd same
same_method (method ∷ methods) (stores ∷ labels) [] number same within = absurd same
same_method (method ∷ methods) (stores ∷ labels) (more ∷ others) zero same within = same.0
same_method (method ∷ methods) (stores ∷ labels) (more ∷ others) (suc number) same within = same_method methods labels others number same.1 (omega (arith, within))
