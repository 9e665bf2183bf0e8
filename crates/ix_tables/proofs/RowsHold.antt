-- A row of the low table, as one test tells it, keeps the three laws.
use Rattle.std.proofs.Common.{◌≡◌, ◌&&◌, ◌==◌, Bool, true, false, not, sym, refl, List, get_or, All}
use Rattle.std.specs.List.{list_all}
use Rattle.std.proofs.lemmas.Bool.{and_parts, not-true}
use Rattle.std.proofs.lemmas.List.Sums.{AllPass-from_list_all}
use Rattle.ix_num.specs.declared.arith.Arith.{Arith}
use Rattle.ix_num.specs.declared.arith.Arith.TheVariants.{Add, Sub, Mul, Div, Rem, And, Or, Xor, Shl, Shr, Ushr}
use Rattle.ix_tables.specs.declared.low.Low.{Low}
use Rattle.ix_tables.specs.declared.low.Low.TheVariants.{Unknown, MinusOne, Zero, One}
use Rattle.ix_tables.specs.LowTable.{low_of, is_known, needs_fits_of}
use Rattle.ix_tables.specs.Rows.{Row, low_rows, answer_in, flag_in, class_place, IsSoundRow, IsBestRow, HasFitsFlagRow}
use Rattle.ix_tables.specs.TableLaws.{IsSound, IsBest}
use Rattle.ix_tables.proofs.EachCase.{every_pair, each_pair}
use Rattle.ix_tables.proofs.AnswersHold.{low_of_sound}
use Rattle.ix_tables.proofs.AnswersAreBest.{low_of_best}
use Rattle.ix_tables.proofs.FlagsHold.{flag_holds}

same_class : (x y : Low) → class_place x == class_place y ≡ true → x ≡ y
same_class Unknown Unknown h = refl
same_class Unknown MinusOne h = cc
same_class Unknown Zero h = cc
same_class Unknown One h = cc
same_class MinusOne Unknown h = cc
same_class MinusOne MinusOne h = refl
same_class MinusOne Zero h = cc
same_class MinusOne One h = cc
same_class Zero Unknown h = cc
same_class Zero MinusOne h = cc
same_class Zero Zero h = refl
same_class Zero One h = cc
same_class One Unknown h = cc
same_class One MinusOne h = cc
same_class One Zero h = cc
same_class One One h = refl

abbrev pub is_flag : Bool → Bool → Bool
is_flag true b = b
is_flag false b = not b

same_flag : (a b : Bool) → is_flag a b ≡ true → a ≡ b
same_flag true b h = sym h
same_flag false b h = sym (not-true b h)

-- the row has a known answer, and the answer and the flag of the definition
abbrev pub is_row : Row → Bool
is_row r = is_known (low_of r.0 r.1 r.2) && (class_place r.3 == class_place (low_of r.0 r.1 r.2) && is_flag r.4 (needs_fits_of r.0 r.1 r.2))

record TellsRow (r : Row) : Type 0 where
  known : is_known (low_of r.0 r.1 r.2) ≡ true
  answer : r.3 ≡ low_of r.0 r.1 r.2
  flag : r.4 ≡ needs_fits_of r.0 r.1 r.2

told : (r : Row) → is_row r ≡ true → TellsRow r
told r h =
    let both = and_parts (is_known (low_of r.0 r.1 r.2)) _ h in
    let rest = and_parts (class_place r.3 == class_place (low_of r.0 r.1 r.2)) (is_flag r.4 (needs_fits_of r.0 r.1 r.2)) both.1 in
    record { known = both.0; answer = same_class r.3 (low_of r.0 r.1 r.2) rest.0; flag = same_flag r.4 (needs_fits_of r.0 r.1 r.2) rest.1 }

pub sound_row : (r : Row) → is_row r ≡ true → IsSoundRow r
sound_row r h = rw ((told r h).answer) (low_of_sound r.0 r.1 r.2)

pub best_row : (r : Row) → is_row r ≡ true → IsBestRow r
best_row r h = rw ((told r h).answer) (low_of_best r.0 r.1 r.2)

pub flag_row : (r : Row) → is_row r ≡ true → HasFitsFlagRow r
flag_row r h = let t = told r h in rw (t.answer, t.flag) (flag_holds r.0 r.1 r.2 t.known)

-- what a test tells of each row holds of all rows that pass it
pub all_rows : (P : Row → Type 0) → ((r : Row) → is_row r ≡ true → P r) → (rows : List Row) → list_all is_row rows ≡ true → All P rows
all_rows P each rows h = λ k d below. each (get_or rows k d) (AllPass-from_list_all is_row rows h k d below)

pub all_low_rows : (P : Row → Type 0) → ((r : Row) → is_row r ≡ true → P r) → All P low_rows
all_low_rows P each = all_rows P each low_rows refl

-- ---- the answer and the flag that a look-up finds

abbrev pub finds_answer : Arith → Low → Low → Bool
finds_answer op x y = class_place (answer_in low_rows op x y) == class_place (low_of op x y)

abbrev pub finds_flag : Arith → Low → Low → Bool
finds_flag op x y = is_flag (flag_in low_rows op x y) (needs_fits_of op x y)

all_answers : (op : Arith) → every_pair (finds_answer op) ≡ true
all_answers Add = refl
all_answers Sub = refl
all_answers Mul = refl
all_answers Div = refl
all_answers Rem = refl
all_answers And = refl
all_answers Or = refl
all_answers Xor = refl
all_answers Shl = refl
all_answers Shr = refl
all_answers Ushr = refl

all_flags : (op : Arith) → every_pair (finds_flag op) ≡ true
all_flags Add = refl
all_flags Sub = refl
all_flags Mul = refl
all_flags Div = refl
all_flags Rem = refl
all_flags And = refl
all_flags Or = refl
all_flags Xor = refl
all_flags Shl = refl
all_flags Shr = refl
all_flags Ushr = refl

pub low_answer : (op : Arith) (x y : Low) → answer_in low_rows op x y ≡ low_of op x y
low_answer op x y = same_class (answer_in low_rows op x y) (low_of op x y) (each_pair (finds_answer op) (all_answers op) x y)

pub low_flag : (op : Arith) (x y : Low) → flag_in low_rows op x y ≡ needs_fits_of op x y
low_flag op x y = same_flag (flag_in low_rows op x y) (needs_fits_of op x y) (each_pair (finds_flag op) (all_flags op) x y)

pub answer_sound : (op : Arith) (x y : Low) → IsSound op x y (answer_in low_rows op x y)
answer_sound op x y = rw (low_answer op x y) (low_of_sound op x y)

pub answer_best : (op : Arith) (x y : Low) → IsBest op x y (answer_in low_rows op x y)
answer_best op x y = rw (low_answer op x y) (low_of_best op x y)
