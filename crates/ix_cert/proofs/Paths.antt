-- A path's text, without its first byte.
use Rattle.std.specs.Prelude.{◌≡◌, ℕ, ◌<◌, ◌^◌, List, ◌∷◌, ◌++◌, decimal, drop, Some, refl}
use Rattle.std.proofs.Common.{arith, ap, sym, ◌∙◌}
use Rattle.ix_core.specs.declared.fact.Path.{Path}
use Rattle.ix_core.specs.declared.fact.Path.TheVariants.{Slot, FieldOf}
use Rattle.ix_cert.specs.Lines.{path_text}
use Rattle.ix_cert.specs.Reading.{Lacks, IsCut, IsSmall}
use Rattle.ix_cert.proofs.Bytes.{lacks_no, cut_once, decimal_lacks, some_same}

abbrev pub behind_s : Path → List ℕ
behind_s (Slot slot) = decimal slot
behind_s (FieldOf slot field) = decimal slot ++ 46 ∷ decimal field

pub digits_of : (text digits : List ℕ) (p : Path) → digits ≡ drop 1 text → text ≡ path_text p → digits ≡ behind_s p
digits_of text digits (Slot slot) d e = d ∙ ap (drop 1) e
digits_of text digits (FieldOf slot field) d e = d ∙ ap (drop 1) e

pub slot_is : (digits : List ℕ) (p : Path) → IsSmall p → Lacks 46 digits → digits ≡ behind_s p → (n : ℕ) × (p ≡ Slot n) × (n < 2 ^ 32) × (digits ≡ decimal n)
slot_is digits (Slot slot) small lacks e = (slot, refl, small, e)
slot_is digits (FieldOf slot field) small lacks e = absurd (lacks_no 46 digits (decimal slot) (decimal field) lacks e)

pub field_is : (digits first second : List ℕ) (p : Path) → IsSmall p → IsCut 46 digits first second → digits ≡ behind_s p
    → (m : ℕ) × (n : ℕ) × (p ≡ FieldOf m n) × (m < 2 ^ 32) × (n < 2 ^ 32) × (first ≡ decimal m) × (second ≡ decimal n)
field_is digits first second (Slot slot) small cut e = absurd (lacks_no 46 (decimal slot) first second (decimal_lacks 46 slot (omega arith) (omega arith)) (sym e ∙ cut.1))
field_is digits first second (FieldOf slot field) small cut e =
    let same = cut_once 46 first second (decimal slot) (decimal field) cut.0 (decimal_lacks 46 slot (omega arith) (omega arith)) (sym cut.1 ∙ e) in
    (slot, field, refl, small.0, small.1, same.0, same.1)

-- numbers that were read, as the path that they are of
pub slot_read : (found slot : ℕ) (p : Path) → Some found ≡ Some slot → p ≡ Slot slot → Some (Slot found) ≡ Some p
slot_read found slot p one is = ap Some (ap Slot (some_same found slot one) ∙ sym is)

pub field_read : (found_slot found_field slot field : ℕ) (p : Path) → Some found_slot ≡ Some slot → Some found_field ≡ Some field → p ≡ FieldOf slot field → Some (FieldOf found_slot found_field) ≡ Some p
field_read found_slot found_field slot field p one two is =
    ap Some (ap (λ n. FieldOf n found_field) (some_same found_slot slot one) ∙ (ap (FieldOf slot) (some_same found_field field two) ∙ sym is))
