-- What an annotation claims, with the names as they are written, or that its arguments are bad.
use Rattle.std.specs.Prelude.{ℕ, ◌==◌, int_le, ℤ, pos, neg_ℤ, Bool, true, false, not, ◌&&◌, ◌||◌, if◌then◌else◌, Option, Some, None, option_map, is_some, List, [], ◌∷◌, ◌++◌, length, drop, codes, bytes_eq}
use Rattle.std.specs.Option.{option_and_then}
use Rattle.std.specs.Str.{chars}
use Rattle.ix_tree.specs.declared.annot.AnnotArg.{AnnotArg}
use Rattle.ix_tree.specs.declared.annot.AnnotValue.{AnnotValue}
use Rattle.ix_tree.specs.declared.annot.AnnotValue.TheVariants.{Number, Texts, Truth}
use Rattle.ix_core.specs.declared.claim.Claim.{Claim}
use Rattle.ix_core.specs.declared.claim.Claim.TheVariants.{Range, Low, Length}
use Rattle.ix_annot.specs.declared.texts.Naming.{Naming}
use Rattle.ix_annot.specs.declared.texts.Offset.{Offset}
use Rattle.ix_annot.specs.declared.texts.Offset.TheVariants.{Constant}
use Rattle.ix_annot.specs.declared.table.Says.{Says}
use Rattle.ix_annot.specs.declared.table.Says.TheVariants.{Nothing, EffectFree, AtLeast, Between, LengthAtLeast, Arrays, Offsets, Bounds, Ensures, EnsuresIf}
use Rattle.ix_annot.specs.declared.arguments.Written.{Written}
use Rattle.ix_annot.specs.declared.arguments.Written.TheVariants.{OfArray, Upper, Less}
use Rattle.ix_annot.specs.declared.arguments.Plan.{Plan}
use Rattle.ix_annot.specs.Texts.{array_text, bound_text, offset_text}
use Rattle.ix_annot.specs.Table.{arg_name, argument}

abbrev pub Text : Type 0
Text = List ℕ

-- ---- RULE bad.argument: an argument is unknown or given twice

abbrev pub takes : Says → Text → Bool
takes Between name = bytes_eq name (codes "from") || bytes_eq name (codes "to")
takes LengthAtLeast name = bytes_eq name (codes "value")
takes (Arrays least each) name = bytes_eq name (codes "value")
takes Offsets name = bytes_eq name (codes "value") || bytes_eq name (codes "offset")
takes Bounds name = bytes_eq name (codes "value")
takes Ensures name = bytes_eq name (codes "value") || (bytes_eq name (codes "targetValue") || bytes_eq name (codes "offset"))
takes EnsuresIf name = bytes_eq name (codes "expression") || (bytes_eq name (codes "result") || (bytes_eq name (codes "targetValue") || bytes_eq name (codes "offset")))
takes _ name = false

abbrev pub are_taken : Says → List AnnotArg → Bool
are_taken says [] = true
are_taken says (arg ∷ args) = takes says (arg_name arg.name) && (not (is_some (argument (arg_name arg.name) args)) && are_taken says args)

-- ---- RULE bad.argument: a number is missing, of the wrong kind, or no int; `from` is above `to`; the least length is negative

abbrev pub least_int : ℤ
least_int = neg_ℤ (pos 2147483648)

abbrev pub greatest_int : ℤ
greatest_int = pos 2147483647

abbrev pub as_int : ℤ → Option ℤ
as_int n = if int_le least_int n && int_le n greatest_int then Some n else None

-- the int of an argument, where a missing one stands for `otherwise`
abbrev pub int_or : ℤ → Option AnnotValue → Option ℤ
int_or otherwise None = Some otherwise
int_or otherwise (Some (Number n)) = as_int n
int_or otherwise (Some _) = None

abbrev pub range : ℤ → ℤ → Option Claim
range low high = if int_le low high then Some (Range low high) else None

abbrev pub range_of : List AnnotArg → Option Claim
range_of args = option_and_then (λ low. option_and_then (range low) (int_or greatest_int (argument (codes "to") args))) (int_or least_int (argument (codes "from") args))

abbrev pub length_from : ℤ → Option Claim
length_from least = if int_le (pos 0) least then Some (Length least) else None

abbrev pub length_of : List AnnotArg → Option Claim
length_of args = option_and_then length_from (int_or (pos 0) (argument (codes "value") args))

-- ---- RULE bad.argument: texts are missing, of the wrong kind, or of no stated form; offsets are as many as arrays, or none

abbrev pub texts : Option AnnotValue → Option (List Text)
texts (Some (Texts entries)) = Some entries
texts _ = None

abbrev pub texts_or_none : Option AnnotValue → Option (List Text)
texts_or_none None = Some []
texts_or_none value = texts value

-- An array without an entry in `offset` has the offset 0.
abbrev pub first_offset : List Text → Option Offset
first_offset [] = Some (Constant (pos 0))
first_offset (offset ∷ offsets) = offset_text (chars offset)

abbrev pub upper : Option Naming → Option Offset → Option Written
upper (Some array) (Some offset) = Some (Upper array offset)
upper _ _ = None

-- the claim of one text, where these are the offsets of it and of the texts behind it
abbrev pub written : Says → Text → List Text → Option Written
written (Arrays least each) entry offsets = option_map (λ array. OfArray each array) (array_text (chars entry))
written Offsets entry offsets = upper (array_text (chars entry)) (first_offset offsets)
written Ensures entry offsets = upper (array_text (chars entry)) (first_offset offsets)
written EnsuresIf entry offsets = upper (array_text (chars entry)) (first_offset offsets)
written _ entry offsets = option_map (λ bound. Less bound.0 bound.1) (bound_text (chars entry))

-- one and the others, where there are all of them
abbrev pub with_others : {A : Type 0} → Option A → Option (List A) → Option (List A)
with_others (Some one) (Some others) = Some (one ∷ others)
with_others _ _ = None

-- those, and behind them the others, where there are all of them
abbrev pub preceded_by : {A : Type 0} → List A → Option (List A) → Option (List A)
preceded_by those others = option_map (λ more. those ++ more) others

abbrev pub all_written : Says → List Text → List Text → Option (List Written)
all_written says [] offsets = Some []
all_written says (entry ∷ entries) offsets = with_others (written says entry offsets) (all_written says entries (drop 1 offsets))

abbrev pub matched : Says → List Text → List Text → Option (List Written)
matched says entries offsets = if length offsets == 0 || length offsets == length entries then all_written says entries offsets else None

-- the argument that lists the arrays or the bounds
abbrev pub listed_in : Says → Text
listed_in Ensures = codes "targetValue"
listed_in EnsuresIf = codes "targetValue"
listed_in _ = codes "value"

abbrev pub claims_written : Says → List AnnotArg → Option (List Written)
claims_written says args =
    option_and_then (λ entries. option_and_then (matched says entries) (texts_or_none (argument (codes "offset") args))) (texts (argument (listed_in says) args))

-- ---- RULE bad.argument: an answer is missing, or no truth value

abbrev pub truth : Option AnnotValue → Option Bool
truth (Some (Truth answer)) = Some answer
truth _ = None

-- ---- what a method's claims are promised of

abbrev pub all_named : List Text → Option (List Naming)
all_named [] = Some []
all_named (entry ∷ entries) = with_others (array_text (chars entry)) (all_named entries)

abbrev pub promised_on : Text → List AnnotArg → Option (List Naming)
promised_on name args = option_and_then all_named (texts (argument name args))

-- ---- the whole

abbrev pub plan_with : Bool → List Claim → List Written → Plan
plan_with effect_free first written = record { first = first; written = written; effect_free = effect_free; promise = None }

abbrev pub one_claim : Claim → Plan
one_claim claim = plan_with false (claim ∷ []) []

abbrev pub lowest : Option ℤ → List Claim
lowest None = []
lowest (Some least) = Low least ∷ []

abbrev pub promised : Option Bool → Option (List Naming) → Option (List Written) → Option Plan
promised when (Some on) (Some claims) = Some (record { first = []; written = claims; effect_free = false; promise = Some (record { when = when; on = on }) })
promised when _ _ = None

abbrev pub promised_if : Option Bool → Option (List Naming) → Option (List Written) → Option Plan
promised_if None on claims = None
promised_if (Some answer) on claims = promised (Some answer) on claims

abbrev pub plan_of : Says → List AnnotArg → Option Plan
plan_of Nothing args = Some (plan_with false [] [])
plan_of EffectFree args = Some (plan_with true [] [])
plan_of (AtLeast least) args = Some (one_claim (Low least))
plan_of Between args = option_map one_claim (range_of args)
plan_of LengthAtLeast args = option_map one_claim (length_of args)
plan_of (Arrays least each) args = option_map (plan_with false (lowest least)) (claims_written (Arrays least each) args)
plan_of Ensures args = promised None (promised_on (codes "value") args) (claims_written Ensures args)
plan_of EnsuresIf args = promised_if (truth (argument (codes "result") args)) (promised_on (codes "expression") args) (claims_written EnsuresIf args)
plan_of says args = option_map (plan_with false []) (claims_written says args)

-- None where an argument is bad.
unfoldable pub plan : Says → List AnnotArg → Option Plan
plan says args = if are_taken says args then plan_of says args else None
