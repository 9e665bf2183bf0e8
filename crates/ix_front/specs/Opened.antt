-- Which files are opened for a command, and how often they are read.
use Rattle.std.specs.Prelude.{◌≡◌, ◌≤◌, ◌+◌, ℕ, List, [], ◌∷◌, ◌++◌, Option, Some, None, option_map}
use Rattle.ix_words.specs.Words.{Text}
use Rattle.ix_words.specs.Commands.{Command}
use Rattle.ix_front.specs.Found.{Finding, TooLong, Broken, Past, Misnamed, Whole}
use Rattle.ix_outside.specs.Outside.{Files, bytes_under, Rose}
use Rattle.ix_front.specs.Sources.{file_of, cert_of, cert_in}

-- the bytes of a named file; none where none is named
abbrev pub bytes_of : Option (List ℕ) → Files → List ℕ
bytes_of None files = []
bytes_of (Some file) files = bytes_under file files

-- the text of the named certificate, where one is named
abbrev pub cert_bytes_of : Option (List ℕ) → Files → Option (List ℕ)
cert_bytes_of named files = option_map (λ cert. bytes_under cert files) named

abbrev pub listed : Option (List ℕ) → List (List ℕ)
listed None = []
listed (Some file) = file ∷ []

-- the names that are opened: the file that is named as the source, and behind it the one that is named as a certificate, where that was opened
abbrev pub names_of : Option Command → Option (List ℕ) → List (List ℕ)
names_of asked None = listed (file_of asked)
names_of asked (Some text) = listed (file_of asked) ++ listed (cert_of asked)

-- the file that was opened last
abbrev pub last_of : Option Command → Option (List ℕ) → Option (List ℕ)
last_of asked None = file_of asked
last_of asked (Some text) = cert_of asked

-- Of the source at most `first` reads were made, and, where a certificate was opened, at most `second` of it: `before`, `between` and `after` count them.
abbrev pub ReadsWithin : Option (List ℕ) → (first second before between after : ℕ) → Type 0
ReadsWithin None first second before between after = after ≤ before + first
ReadsWithin (Some text) first second before between after = (between ≤ before + first) × (after ≤ between + second)

-- A named file that is not sure was not read, and the count of faults rose.
pub record WasUnread (IsSure : List ℕ → Type 0) (before after : ℕ) (named : Option (List ℕ)) : Type 0 where
  pub file : List ℕ
  pub file_is : named ≡ Some file
  pub unsure : IsSure file → ⊥
  pub rose : Rose before after

-- what is handed out of a file that is named
abbrev pub given_of : Option Text → List ℕ → List (List ℕ)
given_of None bytes = []
given_of (Some file) bytes = bytes ∷ []

-- the certificate that is opened of a source of which this is found
abbrev pub opened_by : Command → Finding → Option Text
opened_by command TooLong = None
opened_by command (Broken at key) = None
opened_by command (Past at name) = None
opened_by command (Misnamed errors) = None
opened_by command (Whole program) = cert_in command

-- something was handed out of a file that is opened
abbrev pub IsOpened : Option Text → Option (List ℕ) → Type 0
IsOpened None cert = Unit {0}
IsOpened (Some name) cert = (text : List ℕ) × (cert ≡ Some text)
