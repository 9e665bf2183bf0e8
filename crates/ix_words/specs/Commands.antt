-- Which words are a command, and which.
use Rattle.std.specs.Prelude.{ℕ, Bool, true, false, List, [], ◌∷◌, Option, Some, None, if◌then◌else◌, codes, option_map, option_and_then}
use Rattle.std.specs.Str.{bytes_eq}
use Rattle.ix_words.specs.Values.{number_in, limits_of, sums_of, AreInRange}
use Rattle.ix_words.specs.declared.values.Limits.{Limits}
use Rattle.ix_words.specs.declared.values.Sums.{Sums}
use Rattle.ix_words.specs.Words.{Text, Options, Parsed, parsed, text_of, has}

-- A command, with what it is given: `library` says whether the source is joined with the library, `certificate` whether an accepted source's certificate is written, and `traced` whether a
-- run's accesses are.
pub data Command : Type 0 where
  Check : (sums : Sums) (certificate library : Bool) (file : Text) → Command
  Run : (limits : Limits) (traced library : Bool) (file entry : Text) (inputs : List Text) → Command
  Bench : (count : ℕ) → Command
  Verify : (library : Bool) (file cert : Text) → Command
  Guard : (sums : Sums) (file : Text) → Command

-- whether the option `--library` is given, which takes no value
abbrev pub has_library : Parsed → Bool
has_library p = has (codes "library") p

-- whether the option `--certificate` is given, which takes no value
abbrev pub has_certificate : Parsed → Bool
has_certificate p = has (codes "certificate") p

-- whether the option `--trace` is given, which takes no value
abbrev pub has_trace : Parsed → Bool
has_trace p = has (codes "trace") p

-- `check [--sums ideal|int32] [--certificate] [--library] FILE`
abbrev pub check_options : Options
check_options = (codes "sums", true) ∷ (codes "certificate", false) ∷ (codes "library", false) ∷ []

abbrev pub check_of : Parsed → List Text → Option Command
check_of p (file ∷ []) = option_map (λ sums. Check sums (has_certificate p) (has_library p) file) (sums_of (text_of (codes "sums") p))
check_of p _ = None

-- `run [--steps N] [--cells N] [--frames N] [--trace] [--library] FILE CLASS.METHOD INPUTS`
abbrev pub run_options : Options
run_options = (codes "steps", true) ∷ (codes "cells", true) ∷ (codes "frames", true) ∷ (codes "trace", false) ∷ (codes "library", false) ∷ []

abbrev pub run_of : Parsed → List Text → Option Command
run_of p (file ∷ entry ∷ inputs) = option_map (λ limits. Run limits (has_trace p) (has_library p) file entry inputs) (limits_of (text_of (codes "steps") p) (text_of (codes "cells") p) (text_of (codes "frames") p))
run_of p _ = None

-- `bench N`
abbrev pub bench_options : Options
bench_options = []

abbrev pub bench_of : Parsed → List Text → Option Command
bench_of p (word ∷ []) = option_map Bench (number_in 1 1000 word)
bench_of p _ = None

-- `verify [--library] FILE CERT`
abbrev pub verify_options : Options
verify_options = (codes "library", false) ∷ []

abbrev pub verify_of : Parsed → List Text → Option Command
verify_of p (file ∷ cert ∷ []) = Some (Verify (has_library p) file cert)
verify_of p _ = None

-- `guard [--sums ideal|int32] FILE`
abbrev pub guard_options : Options
guard_options = (codes "sums", true) ∷ []

abbrev pub guard_of : Parsed → List Text → Option Command
guard_of p (file ∷ []) = option_map (λ sums. Guard sums file) (sums_of (text_of (codes "sums") p))
guard_of p _ = None

-- the command of these options, of which each list of positionals makes one or none
abbrev pub command_with : Options → (Parsed → List Text → Option Command) → List Text → Option Command
command_with options make words = option_and_then (λ p. make p p.positionals) (parsed options words)

-- the command that the words are: the first picks it, and is compared exactly
abbrev pub command_of : List Text → Option Command
command_of [] = None
command_of (first ∷ words) =
    if bytes_eq first (codes "check") then command_with check_options check_of words
    else if bytes_eq first (codes "run") then command_with run_options run_of words
    else if bytes_eq first (codes "bench") then command_with bench_options bench_of words
    else if bytes_eq first (codes "verify") then command_with verify_options verify_of words
    else if bytes_eq first (codes "guard") then command_with guard_options guard_of words
    else None

-- the limits of a run lie in their ranges
abbrev pub HasLimits : Command → Type 0
HasLimits (Run limits traced library file entry inputs) = AreInRange limits
HasLimits _ = Unit {0}
