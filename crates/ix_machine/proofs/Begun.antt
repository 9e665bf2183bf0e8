-- The arrays and the values of inputs, one input at a time.
use Rattle.std.proofs.Common.{◌≡◌, ◌<◌, ◌≤◌, ◌+◌, ℕ, List, [], ◌∷◌, ◌++◌, length, drop, refl, ap, sym, ◌∙◌, arith, append_assoc, append-nil, slice_get, Some}
use Rattle.std.proofs.Math.ListN.{drop_of_length-le}
use Rattle.std.proofs.lemmas.List.{length-append, length-map}
use Rattle.std.specs.Prelude.{ℤ}
use Rattle.std.proofs.Common.{◌≢◌, map, subst, get_or, unwrap_or, Option}
use Rattle.std.proofs.lemmas.Option.{slice_get_read}
use Rattle.ix_core.specs.declared.claim.Type_.{Type_}
use Rattle.ix_core.specs.declared.program.Method.{Method}
use Rattle.ix_core.specs.declared.program.Program.{Program}
use Rattle.ix_core.specs.Tables.{method_at, no_method}
use Rattle.ix_machine_inputs.specs.Words.{AreValues, IsFirstWrong}
use Rattle.ix_machine.specs.Starts.{types_at}
use Rattle.ix_core.specs.Heap.{Held, Num, Heap, cells_used}
use Rattle.ix_core.specs.Safe.{Input, Whole, Flag, Ints, input_heap, input_values}
use Rattle.ix_machine_inputs.proofs.Parameters.{at_place}

used_more : (heap more : Heap) → cells_used (heap ++ more) ≡ cells_used heap + cells_used more
used_more [] more = omega arith
used_more (object ∷ heap) more = omega (arith, used_more heap more)

-- the array of the first input, if it has one, and those of the others
heap_cons : (input : Input) (inputs : List Input) (ty : Type_) (types : List Type_) → input_heap (input ∷ inputs) (ty ∷ types) ≡ input_heap (input ∷ []) (ty ∷ []) ++ input_heap inputs types
heap_cons (Whole n) inputs ty types = refl
heap_cons (Flag answer) inputs ty types = refl
heap_cons (Ints ns) inputs ty types = refl

same_from : (number other : ℕ) (inputs : List Input) → number ≡ other → input_values number inputs ≡ input_values other inputs
same_from number other inputs is = ap (λ (n : ℕ). input_values n inputs) is

-- the value of the first input, and those of the others, which number their arrays behind its own
values_cons : (number : ℕ) (input : Input) (inputs : List Input) (ty : Type_) → input_values number (input ∷ inputs) ≡ input_values number (input ∷ []) ++ input_values (number + length (input_heap (input ∷ []) (ty ∷ []))) inputs
values_cons number (Whole n) inputs ty = ap (λ (values : List Held). input_values number (Whole n ∷ []) ++ values) (same_from number (number + 0) inputs (omega arith))
values_cons number (Flag answer) inputs ty = ap (λ (values : List Held). input_values number (Flag answer ∷ []) ++ values) (same_from number (number + 0) inputs (omega arith))
values_cons number (Ints ns) inputs ty = refl

pub made_step : (heap more all : Heap) (inputs : List Input) (types : List Type_) (k : ℕ) (input : Input) (ty : Type_) → slice_get inputs k ≡ Some input → slice_get types k ≡ Some ty
    → heap ++ input_heap (drop k inputs) (drop k types) ≡ all → more ≡ heap ++ input_heap (input ∷ []) (ty ∷ []) → more ++ input_heap (drop (k + 1) inputs) (drop (k + 1) types) ≡ all
made_step heap more all inputs types k input ty at there is made =
    ap (λ (h : Heap). h ++ input_heap (drop (k + 1) inputs) (drop (k + 1) types)) made
    ∙ (append_assoc heap (input_heap (input ∷ []) (ty ∷ [])) (input_heap (drop (k + 1) inputs) (drop (k + 1) types))
    ∙ (ap (λ (h : Heap). heap ++ h) (sym (heap_cons input (drop (k + 1) inputs) ty (drop (k + 1) types)))
    ∙ (rw (at_place inputs k input at, at_place types k ty there) at is)))

pub values_step : (heap more : Heap) (values all : List Held) (inputs : List Input) (k : ℕ) (input : Input) (ty : Type_) (held : Held) → slice_get inputs k ≡ Some input
    → values ++ input_values (length heap) (drop k inputs) ≡ all → more ≡ heap ++ input_heap (input ∷ []) (ty ∷ []) → held ∷ [] ≡ input_values (length heap) (input ∷ [])
    → (values ++ held ∷ []) ++ input_values (length more) (drop (k + 1) inputs) ≡ all
values_step heap more values all inputs k input ty held at is made value =
    let count : length more ≡ length heap + length (input_heap (input ∷ []) (ty ∷ [])) = ap length made ∙ length-append heap (input_heap (input ∷ []) (ty ∷ [])) in
    append_assoc values (held ∷ []) (input_values (length more) (drop (k + 1) inputs))
    ∙ (ap (λ (vs : List Held). values ++ (held ∷ [] ++ vs)) (same_from _ _ (drop (k + 1) inputs) count)
    ∙ (ap (λ (vs : List Held). values ++ (vs ++ input_values (length heap + length (input_heap (input ∷ []) (ty ∷ []))) (drop (k + 1) inputs))) value
    ∙ (ap (λ (vs : List Held). values ++ vs) (sym (values_cons (length heap) input (drop (k + 1) inputs) ty))
    ∙ rw (at_place inputs k input at) at is)))

-- an array that is too large makes all arrays too large
pub too_large : (heap all : Heap) (inputs : List Input) (types : List Type_) (k : ℕ) (input : Input) (ty : Type_) (most : ℕ) → slice_get inputs k ≡ Some input → slice_get types k ≡ Some ty
    → heap ++ input_heap (drop k inputs) (drop k types) ≡ all → most < cells_used (heap ++ input_heap (input ∷ []) (ty ∷ [])) → most < cells_used all
too_large heap all inputs types k input ty most at there is large =
    let whole = made_step heap (heap ++ input_heap (input ∷ []) (ty ∷ [])) all inputs types k input ty at there is refl in
    omega (arith, large, ap cells_used whole, used_more (heap ++ input_heap (input ∷ []) (ty ∷ [])) (input_heap (drop (k + 1) inputs) (drop (k + 1) types)))

-- one more array, of so many cells
pub one_more : (heap : Heap) (ns : List ℤ) (ty : Type_) → cells_used (heap ++ input_heap (Ints ns ∷ []) (ty ∷ [])) ≡ cells_used heap + (length ns + 1)
one_more heap ns ty = omega (arith, used_more heap (input_heap (Ints ns ∷ []) (ty ∷ [])), length-map ns Num)

-- where no input is left
pub none_left : (heap all : Heap) (inputs : List Input) (types : List Type_) (k : ℕ) → length inputs ≤ k → heap ++ input_heap (drop k inputs) (drop k types) ≡ all → heap ≡ all
none_left heap all inputs types k past is = sym (append-nil heap) ∙ (ap (λ (is : List Input). heap ++ input_heap is (drop k types)) (sym (drop_of_length-le inputs past)) ∙ is)

pub no_value_left : (values all : List Held) (inputs : List Input) (number k : ℕ) → length inputs ≤ k → values ++ input_values number (drop k inputs) ≡ all → values ≡ all
no_value_left values all inputs number k past is = sym (append-nil values) ∙ (ap (λ (is : List Input). values ++ input_values number is) (sym (drop_of_length-le inputs past)) ∙ is)

-- the method of a place among the methods
pub method_found : (program : Program) (place method : ℕ) (found : Method) → place < length program.methods → found ≡ get_or program.methods place found → method ≡ place → found ≡ method_at program method
method_found program place method found within is same =
    ap (λ (m : Option Method). unwrap_or m no_method) (sym (slice_get_read program.methods _ place found refl within is)) ∙ ap (λ (n : ℕ). method_at program n) (sym same)

pub entry_found : (found : Option ℕ) (place method : ℕ) → Some place ≡ found → method ≡ place → found ≡ Some method
entry_found found place method is same = sym (ap Some same ∙ is)

pub counts : {A B : Type 0} (f : A → B) (words : List A) (types all : List Type_) → types ≡ all → length words ≡ length types → length (map f words) ≡ length all
counts f words types all is same = length-map words f ∙ (same ∙ ap length is)

pub counts_not : {A B : Type 0} (f : A → B) (words : List A) (types all : List Type_) → types ≡ all → length words ≢ length types → length (map f words) ≢ length all
counts_not f words types all is other = λ same. other (sym (length-map words f) ∙ (same ∙ ap length (sym is)))

pub values_found : (program : Program) (method : ℕ) (types : List Type_) (found : Method) (words : List (List ℕ)) (inputs : List Input) → types ≡ found.param_types → found ≡ method_at program method
    → AreValues types words inputs → AreValues (types_at program method) words inputs
values_found program method types found words inputs is same values = subst (λ (ts : List Type_). AreValues ts words inputs) (is ∙ ap (λ (m : Method). m.param_types) same) values

pub wrong_found : (program : Program) (method : ℕ) (types : List Type_) (found : Method) (words : List (List ℕ)) (number other : ℕ) → types ≡ found.param_types → found ≡ method_at program method
    → IsFirstWrong types words number → other ≡ number → IsFirstWrong (types_at program method) words other
wrong_found program method types found words number other is same wrong e =
    subst (λ (n : ℕ). IsFirstWrong (types_at program method) words n) (sym e) (subst (λ (ts : List Type_). IsFirstWrong ts words number) (is ∙ ap (λ (m : Method). m.param_types) same) wrong)
