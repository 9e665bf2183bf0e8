-- A word of a type is the word of a value of that type alone.
use Rattle.std.specs.Prelude.{◌≡◌, ◌<◌, ◌≤◌, ℕ, ℤ, List, length, Option, None, Some, refl}
use Rattle.ix_core.specs.declared.claim.Claim.{Claim}
use Rattle.ix_core.specs.declared.claim.Base as base_
use Rattle.std.proofs.Common.{Result, Ok, Err, IfOk, option_map}
use Rattle.ix_machine_inputs.specs.declared.input.Input as code
use Rattle.ix_machine_inputs.specs.Shown.{input_of}
use Rattle.ix_machine_inputs.proofs.Pieces.{none_shorter}
use Rattle.ix_core.specs.declared.claim.Base.TheVariants as base
use Rattle.ix_core.specs.declared.claim.Type_.TheVariants as type
use Rattle.ix_core.specs.Inputs.{IsValueOf}
use Rattle.ix_core.specs.Safe.{Input, Whole, Flag, Ints}
use Rattle.ix_machine_inputs.specs.Words.{WritesInt, WritesBool, WritesInts, WritesInput}

no_int : (word : List ℕ) → WritesInt word None → (input : Input) → IsValueOf (type.Plain base.Int) word input → ⊥
no_int word none (Whole n) is = none n is.typed is.written
no_int word none (Flag answer) is = is.typed
no_int word none (Ints ns) is = is.typed

no_bool : (word : List ℕ) → WritesBool word None → (input : Input) → IsValueOf (type.Plain base.Bool) word input → ⊥
no_bool word none (Whole n) is = is.typed
no_bool word none (Flag answer) is = none answer is.written
no_bool word none (Ints ns) is = is.typed

pub int_is : (word : List ℕ) → WritesInt word None → WritesInput (type.Plain base.Int) word None
int_is word none = no_int word none

pub bool_is : (word : List ℕ) → WritesBool word None → WritesInput (type.Plain base.Bool) word None
bool_is word none = no_bool word none

no_array : (word : List ℕ) (element : List Claim) → WritesInts word None → (input : Input) → IsValueOf (type.Array base.Int 1 element) word input → ⊥
no_array word element none (Whole n) is = is.typed
no_array word element none (Flag answer) is = is.typed
no_array word element none (Ints ns) is = none ns is.typed.1 is.written

pub array_is : (word : List ℕ) (element : List Claim) → WritesInts word None → WritesInput (type.Array base.Int 1 element) word None
array_is word element none = no_array word element none

pub long_is : (word : List ℕ) (element : List Claim) (ns : List ℤ) → WritesInts word (Some ns) → 2147483647 < length ns → (input : Input) → IsValueOf (type.Array base.Int 1 element) word input → ⊥
long_is word element ns of long (Whole n) is = is.typed
long_is word element ns of long (Flag answer) is = is.typed
long_is word element ns of long (Ints ms) is = none_shorter word ns ms of long is.typed.1 is.written is.typed.2

pub ints_are : (word : List ℕ) (element : List Claim) (ns : List ℤ) → WritesInts word (Some ns) → length ns ≤ 2147483647 → WritesInput (type.Array base.Int 1 element) word (Some (Ints ns))
ints_are word element ns of short = record { written = of.0; typed = (refl, of.1, short) }

-- ---- types without values among words

no_void : (word : List ℕ) (input : Input) → IsValueOf type.Void word input → ⊥
no_void word (Whole n) is = is.typed
no_void word (Flag answer) is = is.typed
no_void word (Ints ns) is = is.typed

no_object : (word : List ℕ) (class : ℕ) (input : Input) → IsValueOf (type.Plain (base.Class class)) word input → ⊥
no_object word class (Whole n) is = is.typed
no_object word class (Flag answer) is = is.typed
no_object word class (Ints ns) is = is.typed

no_bools : (word : List ℕ) (depth : ℕ) (element : List Claim) (input : Input) → IsValueOf (type.Array base.Bool depth element) word input → ⊥
no_bools word depth element (Whole n) is = is.typed
no_bools word depth element (Flag answer) is = is.typed
no_bools word depth element (Ints ns) is = is.typed

no_objects : (word : List ℕ) (class depth : ℕ) (element : List Claim) (input : Input) → IsValueOf (type.Array (base.Class class) depth element) word input → ⊥
no_objects word class depth element (Whole n) is = is.typed
no_objects word class depth element (Flag answer) is = is.typed
no_objects word class depth element (Ints ns) is = is.typed

no_arrays : (word : List ℕ) (depth : ℕ) (element : List Claim) → (depth ≡ 1 → ⊥) → (input : Input) → IsValueOf (type.Array base.Int depth element) word input → ⊥
no_arrays word depth element other (Whole n) is = is.typed
no_arrays word depth element other (Flag answer) is = is.typed
no_arrays word depth element other (Ints ns) is = other is.typed.0

pub void_is : (word : List ℕ) → WritesInput type.Void word None
void_is word = no_void word

pub object_is : (word : List ℕ) (class : ℕ) → WritesInput (type.Plain (base.Class class)) word None
object_is word class = no_object word class

pub bools_are : (word : List ℕ) (depth : ℕ) (element : List Claim) → WritesInput (type.Array base.Bool depth element) word None
bools_are word depth element = no_bools word depth element

pub objects_are : (word : List ℕ) (class depth : ℕ) (element : List Claim) → WritesInput (type.Array (base.Class class) depth element) word None
objects_are word class depth element = no_objects word class depth element

pub arrays_are : (word : List ℕ) (depth : ℕ) (element : List Claim) → (depth ≡ 1 → ⊥) → WritesInput (type.Array base.Int depth element) word None
arrays_are word depth element other = no_arrays word depth element other

-- what is said of all claims on elements is said of these
pub of_element : {E : Type 0} (word : List ℕ) (of : base_.Base) (depth : ℕ) (element : List Claim) (r : Result (Option code.Input) E)
    → IfOk r (λ found. (every : List Claim) → WritesInput (type.Array of depth every) word (option_map input_of found)) → IfOk r (λ found. WritesInput (type.Array of depth element) word (option_map input_of found))
of_element word of depth element (Ok found) is = is element
of_element word of depth element (Err error) is = is
