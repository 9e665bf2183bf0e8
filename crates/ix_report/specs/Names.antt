-- The texts of errors on names, as bytes. A line ends with LF, which is 10.
use Rattle.std.specs.Prelude.{ℕ, ◌≤◌, Bool, ◌&&◌, ◌==◌, List, [], ◌∷◌, ◌++◌, length, flat_map, codes, decimal}
use Rattle.std.specs.List.{All}
use Rattle.std.specs.Str.{bytes_eq}
use Rattle.ix_text.specs.Lines.{place}
use Rattle.ix_meaning.specs.declared.note.NameError.{NameError}
use Rattle.ix_meaning.specs.declared.note.Rule.{Rule}
use Rattle.ix_meaning.specs.declared.note.Rule.TheVariants as rule
use Rattle.ix_meaning.specs.declared.note.Which.{Which}
use Rattle.ix_meaning.specs.declared.note.Which.TheVariants as which
use Rattle.ix_report.specs.Once.{told as told_of}

-- what users know a rule by
abbrev pub key : Rule → List ℕ
key rule.UnknownName = codes "unknown.name"
key rule.DuplicateName = codes "duplicate.name"
key rule.TypeMismatch = codes "type.mismatch"
key rule.WrongArguments = codes "wrong.arguments"
key rule.CyclicClass = codes "cyclic.class"
key rule.NotStatic = codes "not.static"
key rule.FinalAssigned = codes "final.assigned"
key rule.NotAssignable = codes "not.assignable"
key rule.BreakOutside = codes "break.outside"
key rule.UnknownAnnotation = codes "unknown.annotation"
key rule.BadArgument = codes "bad.argument"
key rule.BadName = codes "bad.name"
key rule.WrongTarget = codes "wrong.target"
key rule.InheritedName = codes "inherited.name"

-- what users know a limit by
abbrev pub limit_name : Which → List ℕ
limit_name which.Classes = codes "classes"
limit_name which.Methods = codes "methods"
limit_name which.Parameters = codes "parameters"
limit_name which.Claims = codes "claims"
limit_name which.Inheritance = codes "inheritance"
limit_name which.Loops = codes "loops"
limit_name which.Slots = codes "slots"
limit_name which.Ops = codes "ops"

-- Each of these errors starts in a text of so many bytes, or at its end.
abbrev pub StartWithin : ℕ → List NameError → Type 0
StartWithin end errors = All (λ (error : NameError). error.span.from ≤ end) errors

-- `FILE:LINE:COLUMN: KEY`, with the place where the error starts in the text
abbrev pub error_line : List ℕ → List ℕ → NameError → List ℕ
error_line file text error =
    file ++ codes ":" ++ decimal (place text error.span.from).0 ++ codes ":" ++ decimal (place text error.span.from).1 ++ codes ": " ++ key error.rule ++ 10 ∷ []

abbrev pub error_lines : List ℕ → List ℕ → List NameError → List ℕ
error_lines file text errors = flat_map (error_line file text) errors

-- ---- each line once

abbrev pub start : NameError → ℕ
start error = error.span.from

-- Two errors have one line: they start at one place, and users know their rules by one key.
abbrev pub have_one_line : NameError → NameError → Bool
have_one_line one other = one.span.from == other.span.from && bytes_eq (key one.rule) (key other.rule)

-- the errors without those whose line was told before
abbrev pub told : List NameError → List NameError
told errors = told_of have_one_line errors

-- a line for each error, in their order, each line once, and one with the number of these lines
abbrev pub misnamed : List ℕ → List ℕ → List NameError → List ℕ
misnamed file text errors = error_lines file text (told errors) ++ (codes "rejected: " ++ decimal (length (told errors)) ++ codes " errors" ++ 10 ∷ [])
