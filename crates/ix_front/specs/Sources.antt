-- What a command names: its source and its certificate, and the bytes that it judges.
use Rattle.std.specs.Prelude.{ℕ, Bool, true, false, List, ◌++◌, Option, Some, None, codes, decimal, option_and_then}
use Rattle.ix_core.specs.declared.program.Program.{Program}
use Rattle.ix_gen.specs.Workload.{workload}
use Rattle.ix_library.specs.Library.{joined}
use Rattle.ix_words.specs.Words.{Text}
use Rattle.ix_words.specs.Commands.{Command, Check, Run, Bench, Verify, Guard}
use Rattle.ix_front.specs.Found.{Whole, Found}

-- the file that a command names as its source
abbrev pub file_in : Command → Option Text
file_in (Check sums certificate library file) = Some file
file_in (Run limits traced library file entry inputs) = Some file
file_in (Bench count) = None
file_in (Verify library file cert) = Some file
file_in (Guard sums file) = Some file

abbrev pub file_of : Option Command → Option Text
file_of command = option_and_then file_in command

-- the file that a command names as a certificate
abbrev pub cert_in : Command → Option Text
cert_in (Verify library file cert) = Some cert
cert_in _ = None

abbrev pub cert_of : Option Command → Option Text
cert_of command = option_and_then cert_in command

-- what `bench` calls its workload where a source is named
abbrev pub bench_name : ℕ → List ℕ
bench_name count = codes "bench " ++ decimal count

-- the name of the source that a command judges, and its bytes: those of its file, joined with the library where that is asked, or the workload of `bench`
abbrev pub source_name : Command → List ℕ
source_name (Check sums certificate library file) = file
source_name (Run limits traced library file entry inputs) = file
source_name (Bench count) = bench_name count
source_name (Verify library file cert) = file
source_name (Guard sums file) = file

-- the bytes of a file that are judged: these alone, or joined with the library
abbrev pub judged_bytes : Bool → List ℕ → List ℕ
judged_bytes true bytes = joined bytes
judged_bytes false bytes = bytes

abbrev pub source_bytes : Command → List ℕ → List ℕ
source_bytes (Check sums certificate library file) bytes = judged_bytes library bytes
source_bytes (Run limits traced library file entry inputs) bytes = judged_bytes library bytes
source_bytes (Bench count) bytes = workload count
source_bytes (Verify library file cert) bytes = judged_bytes library bytes
source_bytes (Guard sums file) bytes = bytes

-- The certificate is opened: the source has no errors on names and is within the limits.
abbrev pub NeedsCert : Command → List ℕ → Type 0
NeedsCert (Verify library file cert) bytes = (program : Program) × Found (judged_bytes library bytes) (Whole program)
NeedsCert _ bytes = ⊥

abbrev pub AsksCert : Option Command → List ℕ → Type 0
AsksCert None bytes = ⊥
AsksCert (Some command) bytes = NeedsCert command bytes
