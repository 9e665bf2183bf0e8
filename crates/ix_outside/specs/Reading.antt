-- How much of a file is read.
use Rattle.std.specs.Prelude.{◌≡◌, ◌<◌, ◌+◌, ◌⊎◌, ℕ, List, length, take}

-- How many bytes a source may have: reading stops once one more was handed out.
abbrev pub most_bytes : ℕ
most_bytes = 1048576

-- how many bytes a certificate may have
abbrev pub most_certificate : ℕ
most_certificate = 16777216

-- The most turns of reading a file that may have so many bytes: each takes a byte at least until the end, and reading stops once one more was taken: byte 1,048,577 of a
-- source, byte 16,777,217 of a certificate.
abbrev pub most_turns : ℕ → ℕ
most_turns most = most + 1

-- the first bytes of all
abbrev pub IsFront : List ℕ → List ℕ → Type 0
IsFront all read = take (length read) all ≡ read

-- The bytes that were read are all of them, or more than the file may have and the first of all.
abbrev pub IsAllOrPast : ℕ → List ℕ → List ℕ → Type 0
IsAllOrPast most all read = (read ≡ all) ⊎ ((most < length read) × IsFront all read)
