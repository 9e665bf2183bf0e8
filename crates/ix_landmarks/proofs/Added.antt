-- What is added to lists of numbers.
use Rattle.std.proofs.Common.{◌≡◌, ◌⊎◌, inl, inr, ◌↔◌, ℤ, pos, ◌+ℤ◌, ◌-ℤ◌, ◌≤ℤ◌, List, [], ◌∷◌, ◌++◌, refl, sym, ap, subst, ◌∙◌, arith, append_assoc}
use Rattle.std.proofs.lemmas.Int.{ints, by_lt_z}
use Rattle.ix_core.specs.declared.program.Program.{Program}
use Rattle.ix_core.specs.Code.{Code, Condition}
use Rattle.ix_facts.specs.MethodLandmarks.{code_numbers, condition_numbers}
use Rattle.ix_facts.specs.Round.{IsAmong, IsLandmark}
use Rattle.std.specs.Prelude.{FitsSigned}
use Rattle.std.specs.Int.{w32, saturate_signed}
use Rattle.ix_num.specs.Ints.{IsInt, least_int, greatest_int}
use Rattle.ix_landmarks.specs.Items.{AddsItem, AddsNear}

-- ---- statements and conditions

pub asks_as : (program : Program) (old new : List ℤ) (one other : Condition) → one ≡ other → new ≡ old ++ condition_numbers program other → new ≡ old ++ condition_numbers program one
asks_as program old new one other same is = subst (λ k. new ≡ old ++ condition_numbers program k) (sym same) is

pub two_parts : (old between new first second : List ℤ) → between ≡ old ++ first → new ≡ between ++ second → new ≡ old ++ (first ++ second)
two_parts old between new first second one two = two ∙ ap (λ xs. xs ++ second) one ∙ append_assoc old first second

pub three_parts : (program : Program) (asked : Condition) (first second : Code) (item : Code → Code) (old one two new : List ℤ)
    → ((rest : Code) → code_numbers program (item rest) ≡ condition_numbers program asked ++ (code_numbers program first ++ (code_numbers program second ++ code_numbers program rest)))
    → one ≡ old ++ condition_numbers program asked → two ≡ one ++ code_numbers program first → new ≡ two ++ code_numbers program second → AddsItem program item old new
three_parts program asked first second item old one two new of a b c = record {
  more = condition_numbers program asked ++ (code_numbers program first ++ code_numbers program second);
  added = two_parts old one new (condition_numbers program asked) (code_numbers program first ++ code_numbers program second) a (two_parts one two new (code_numbers program first) (code_numbers program second) b c);
  of = λ rest. of rest
      ∙ ap (λ xs. condition_numbers program asked ++ xs) (sym (append_assoc (code_numbers program first) (code_numbers program second) (code_numbers program rest)))
      ∙ sym (append_assoc (condition_numbers program asked) (code_numbers program first ++ code_numbers program second) (code_numbers program rest));
}

-- ---- members

pub among_left : (n : ℤ) (xs ys : List ℤ) → IsAmong n xs → IsAmong n (xs ++ ys)
among_left n [] ys has = absurd has
among_left n (x ∷ xs) ys (inl is) = inl is
among_left n (x ∷ xs) ys (inr has) = inr (among_left n xs ys has)

pub among_right : (n : ℤ) (xs ys : List ℤ) → IsAmong n ys → IsAmong n (xs ++ ys)
among_right n [] ys has = has
among_right n (x ∷ xs) ys has = inr (among_right n xs ys has)

pub among_either : (n : ℤ) (xs ys : List ℤ) → IsAmong n (xs ++ ys) → IsAmong n xs ⊎ IsAmong n ys
among_either n [] ys has = inr has
among_either n (x ∷ xs) ys (inl is) = inl (inl is)
among_either n (x ∷ xs) ys (inr has) = elim (among_either n xs ys has) [
  | inl left ↦ inl (inr left)
  | inr right ↦ inr right
]

-- ---- landmarks

more_landmarks : (numbers more : List ℤ) (n : ℤ) → IsLandmark numbers n → IsLandmark (numbers ++ more) n
more_landmarks numbers more n mark = record {
  int = mark.int;
  is = elim mark.is [
    | inl end ↦ inl end
    | inr (inl small) ↦ inr (inl small)
    | inr (inr near) ↦ inr (inr (near.0, among_left near.0 numbers more near.1, near.2, near.3))
  ];
}

-- the landmarks for one number more
pub near_more : (numbers : List ℤ) (c : ℤ) (old new : List ℤ) → ((n : ℤ) → IsAmong n old ↔ IsLandmark numbers n) → AddsNear c old new → (n : ℤ) → IsAmong n new ↔ IsLandmark (numbers ++ c ∷ []) n
near_more numbers c old new before near n = (
  λ has. elim (among_either n old near.near (subst (IsAmong n) near.added has)) [
    | inl left ↦ more_landmarks numbers (c ∷ []) n ((before n).0 left)
    | inr right ↦ let r = near.only n right in record { int = r.0; is = inr (inr (c, among_right c numbers (c ∷ []) (inl refl), r.1, r.2)) }
  ],
  λ mark. subst (IsAmong n) (sym near.added) (elim mark.is [
    | inl end ↦ among_left n old near.near ((before n).1 (record { int = mark.int; is = inl end }))
    | inr (inl small) ↦ among_left n old near.near ((before n).1 (record { int = mark.int; is = inr (inl small) }))
    | inr (inr close) ↦ elim (among_either close.0 numbers (c ∷ []) close.1) [
      | inl left ↦ among_left n old near.near ((before n).1 (record { int = mark.int; is = inr (inr (close.0, left, close.2, close.3)) }))
      | inr (inl is) ↦ among_right n old near.near (near.all n mark.int (subst (λ k. (k -ℤ pos 1) ≤ℤ n) is close.2) (subst (λ k. n ≤ℤ (k +ℤ pos 1)) is close.3))
      | inr (inr none) ↦ absurd none
    ]
  ]),
)

-- ---- ints beside an int

pub int_of_signed : (n : ℤ) → FitsSigned w32 n → IsInt n
int_of_signed n fits = record { from = omega (arith, ints, fits); to = omega (arith, ints, fits) }

-- one below, or at the least int the same
abbrev pub IsBelow : ℤ → ℤ → Type 0
IsBelow n below = (least_int ≤ℤ below) × ((n -ℤ pos 1) ≤ℤ below) × (below ≤ℤ n) × ((below ≡ (n -ℤ pos 1)) ⊎ (n ≡ least_int))

-- one above, or at the greatest int the same
abbrev pub IsAbove : ℤ → ℤ → Type 0
IsAbove n above = (above ≤ℤ greatest_int) × (above ≤ℤ (n +ℤ pos 1)) × (n ≤ℤ above) × ((above ≡ (n +ℤ pos 1)) ⊎ (n ≡ greatest_int))

pub one_below : (n : ℤ) → IsInt n → IsBelow n (saturate_signed w32 (n -ℤ pos 1))
one_below n int = let f = int.from in let t = int.to in (grind (arith, ints), grind (arith, ints), grind (arith, ints), grind (arith, ints))

pub one_above : (n : ℤ) → IsInt n → IsAbove n (saturate_signed w32 (n +ℤ pos 1))
one_above n int = let f = int.from in let t = int.to in (grind (arith, ints), grind (arith, ints), grind (arith, ints), grind (arith, ints))

pub near_of : (n below above : ℤ) (old new : List ℤ) → IsInt n → IsBelow n below → IsAbove n above → new ≡ old ++ below ∷ n ∷ above ∷ [] → AddsNear n old new
near_of n below above old new int b a added = record {
  near = below ∷ n ∷ above ∷ [];
  added = added;
  only = λ m has. elim has [
    | inl is ↦ (record { from = omega (arith, ints, is, b.0); to = omega (arith, ints, is, b.2, int.to) }, omega (arith, ints, is, b.1), omega (arith, ints, is, b.2))
    | inr (inl is) ↦ (subst IsInt (sym is) int, omega (arith, ints, is), omega (arith, ints, is))
    | inr (inr (inl is)) ↦ (record { from = omega (arith, ints, is, a.2, int.from); to = omega (arith, ints, is, a.0) }, omega (arith, ints, is, a.2), omega (arith, ints, is, a.1))
    | inr (inr (inr none)) ↦ absurd none
  ];
  all = λ m is low high. by_lt_z m n
      (λ less. elim b.3 [
        | inl one ↦ inl (omega (arith, ints, one, less, low))
        | inr end ↦ absurd (omega (arith, ints, end, less, is.from))
      ])
      (λ least. by_lt_z n m
      (λ more. elim a.3 [
        | inl one ↦ inr (inr (inl (omega (arith, ints, one, more, high))))
        | inr end ↦ absurd (omega (arith, ints, end, more, is.to))
      ])
      (λ most. inr (inl (omega (arith, ints, least, most)))));
}
