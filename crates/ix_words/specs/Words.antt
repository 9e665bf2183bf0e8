-- What the words behind the first say: options, each at most once, which take a value or none, and positionals.
use Rattle.std.specs.Prelude.{◌&&◌, ◌||◌, ◌==◌, ℕ, Bool, true, false, not, List, [], ◌∷◌, ◌++◌, Option, Some, None, if◌then◌else◌, codes, is_some, length, option_and_then, slice_get}
use Rattle.std.specs.Str.{bytes_eq}
use Rattle.clap.specs.Lexer.{long_of, strip_byte}

abbrev pub Text : Type 0
Text = List ℕ

-- the options, each with its value where it takes one, and the positionals, in order
pub record Parsed : Type 0 where
  pub options : List (Text × List Text)
  pub positionals : List Text

abbrev pub nothing_parsed : Parsed
nothing_parsed = record { options = []; positionals = [] }

-- the word `--`
abbrev pub is_end : Text → Bool
is_end w = bytes_eq w (45 ∷ 45 ∷ [])

abbrev pub begins_with_dash : Text → Bool
begins_with_dash w = is_some (strip_byte 45 w)

-- the options of a command by their names, and whether each takes a value
abbrev pub Options : Type 0
Options = List (Text × Bool)

abbrev pub kind_of : Options → Text → Option Bool
kind_of [] n = None
kind_of (o ∷ os) n = if bytes_eq o.0 n then Some o.1 else kind_of os n

abbrev pub knows : Options → Text → Bool
knows names n = is_some (kind_of names n)

abbrev pub value_of : Text → List (Text × List Text) → Option (List Text)
value_of n [] = None
value_of n (o ∷ os) = if bytes_eq o.0 n then Some o.1 else value_of n os

abbrev pub with_option : Text → List Text → Parsed → Parsed
with_option n vs p = record p { options = p.options ++ (n, vs) ∷ [] }

abbrev pub with_positionals : List Text → Parsed → Parsed
with_positionals ws p = record p { positionals = p.positionals ++ ws }

-- the option n is given with these values, if it isn't given yet
abbrev pub given : Text → List Text → Parsed → (Parsed → Option Parsed) → Option Parsed
given n vs p next = if is_some (value_of n p.options) then None else next (with_option n vs p)

-- the option n, with the value that its own word has
abbrev pub option_met : Text → Option Text → Parsed → (Option Text → Parsed → Option Parsed) → Option Parsed
option_met n None p next = next (Some n) p
option_met n (Some v) p next = given n (v ∷ []) p (next None)

-- the option n, which takes no value
abbrev pub flag_met : Text → Option Text → Parsed → (Option Text → Parsed → Option Parsed) → Option Parsed
flag_met n None p next = given n [] p (next None)
flag_met n (Some v) p next = None

abbrev pub option_or_flag : Option Bool → Text × Option Text → Parsed → (Option Text → Parsed → Option Parsed) → Option Parsed
option_or_flag None q p next = None
option_or_flag (Some true) q p next = option_met q.0 q.1 p next
option_or_flag (Some false) q p next = flag_met q.0 q.1 p next

-- a word that is no `--`: an option, with its own value or not, or a positional
abbrev pub word_met : Options → Text → Option (Text × Option Text) → Parsed → (Option Text → Parsed → Option Parsed) → Option Parsed
word_met names w None p next = next None (with_positionals (w ∷ []) p)
word_met names w (Some q) p next = option_or_flag (kind_of names q.0) q p next

-- the next word, after the words that gave p, where `waiting` is the option that wants a value
abbrev pub next_word : Options → Option Text → Parsed → Text → List Text → (Option Text → Parsed → Option Parsed) → Option Parsed
next_word names (Some n) p w ws next = if begins_with_dash w then None else given n (w ∷ []) p (next None)
next_word names None p w ws next = if is_end w then Some (with_positionals ws p) else word_met names w (long_of w) p next

abbrev pub ended : Option Text → Parsed → Option Parsed
ended None p = Some p
ended (Some n) p = None

-- what the words say, where none but options begins with `-`
abbrev pub parsed_from : Options → Option Text → Parsed → List Text → Option Parsed
parsed_from names waiting p [] = ended waiting p
parsed_from names waiting p (w ∷ ws) = next_word names waiting p w ws (λ o q. parsed_from names o q ws)

-- the word is an option, or has a character other than `-` first
abbrev pub is_fit : Text → Bool
is_fit w = is_some (long_of w) || not (begins_with_dash w || length w == 0)

-- each word before `--` is
abbrev pub are_fit : List Text → Bool
are_fit [] = true
are_fit (w ∷ ws) = is_end w || (is_fit w && are_fit ws)

-- what the words say, for a command of these options; none where they are refused
abbrev pub parsed : Options → List Text → Option Parsed
parsed names ws = if are_fit ws then parsed_from names None nothing_parsed ws else None

-- the value that an option is given
abbrev pub text_of : Text → Parsed → Option Text
text_of n p = option_and_then (λ vs. slice_get vs 0) (value_of n p.options)

-- whether an option is given
abbrev pub has : Text → Parsed → Bool
has n p = is_some (value_of n p.options)

abbrev pub words_id : Text
words_id = codes "words"
