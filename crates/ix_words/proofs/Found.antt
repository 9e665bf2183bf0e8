-- What clap found, as what the words say.
use Rattle.std.proofs.Common.{◌≡◌, ◌∙◌, ℕ, Bool, true, refl, sym, ap, subst, List, [], ◌∷◌, Option, Some, None, map, length, get_or, drop, ◌≤◌, ◌<◌, arith}
use Rattle.std.specs.Borrow.{Bor}
use Rattle.std.specs.Prelude.{Result, Ok, Err, IfOk, codes, option_map, option_and_then, slice_get, is_some, unwrap_or}
use Rattle.clap.specs.Matches.{first_value, matched_of, raw_values, found_of}
use Rattle.clap.specs.declared.parser.matches.ArgMatches.{ArgMatches}
use Rattle.clap.specs.declared.parser.matches.MatchedArg.{MatchedArg}
use Rattle.clap.specs.Walk.{Row}
use Rattle.clap.proofs.WalkLemmas.{first_value-rows, raw_values-rows}
use Rattle.ix_words.specs.Words.{Text, Options, Parsed, knows, value_of, text_of, has, words_id}
use Rattle.ix_words.specs.Values.{number_in, limits_of, sums_of}
use Rattle.ix_words.specs.declared.values.Sums.{Sums}
use Rattle.ix_words.specs.declared.values.Limits.{Limits}
use Rattle.ix_words.specs.Commands.{Command, Check, Run, Bench, Verify, Guard, has_library, has_trace, has_certificate, check_of, run_of, bench_of, verify_of, guard_of, command_with, command_of}
use Rattle.ix_words.specs.Kinds.{options_in, made_in}
use Rattle.ix_words.specs.Shown.{shown}
use Rattle.ix_words.specs.declared.commands.Kind.{Kind}
use Rattle.ix_words.specs.declared.commands.Command as code
use Rattle.ix_words.specs.Clap.{Says, Reads, row, rows_in, words_row, positionals_in}

listed : (ps : List Text) → unwrap_or (option_map (λ (r : Row). r.values) (words_row ps)) [] ≡ ps
listed [] = refl
listed (p ∷ ps) = refl

says_rest : (options : Options) (q : Parsed) (m : ArgMatches) → Says options q (rows_in m) → positionals_in m ≡ q.positionals
says_rest options q m says = ap (λ o. unwrap_or (option_map (λ (r : Row). r.values) o) []) says.words ∙ listed q.positionals

pub says_text : (options : Options) (q : Parsed) (m : ArgMatches) (n : Text) → knows options n ≡ true → Says options q (rows_in m) → first_value (found_of m) n ≡ text_of n q
says_text options q m n k says = first_value-rows (found_of m) n ∙ (ap (option_and_then (λ (r : Row). slice_get r.values 0)) (says.options n k) ∙ go (value_of n q.options))
  where
    go : (o : Option (List Text)) → option_and_then (λ (r : Row). slice_get r.values 0) (option_map (row n) o) ≡ option_and_then (λ vs. slice_get vs 0) o
    go None = refl
    go (Some vs) = refl

pub says_has : (options : Options) (q : Parsed) (m : ArgMatches) (n : Text) → knows options n ≡ true → Says options q (rows_in m) → is_some (matched_of (found_of m) n) ≡ has n q
says_has options q m n k says = sym (some_of (matched_of (found_of m) n)) ∙ (ap is_some (raw_values-rows (found_of m) n) ∙ (ap (λ o. is_some (option_map (λ (r : Row). r.values) o)) (says.options n k) ∙ go (value_of n q.options)))
  where
    some_of : (o : Option MatchedArg) → is_some (option_map raw_values o) ≡ is_some o
    some_of None = refl
    some_of (Some a) = refl

    go : (o : Option (List Text)) → is_some (option_map (λ (r : Row). r.values) (option_map (row n) o)) ≡ is_some o
    go None = refl
    go (Some vs) = refl

-- the positionals as the code gets them
pub some_rest : (m : ArgMatches) (list : List (Bor Text)) → Some (map (λ w. w.now) list) ≡ option_map raw_values (matched_of (found_of m) words_id) → map (λ w. w.now) list ≡ positionals_in m
some_rest m list is = ap (λ o. unwrap_or o []) (is ∙ raw_values-rows (found_of m) words_id)

pub no_rest : (m : ArgMatches) → None ≡ option_map raw_values (matched_of (found_of m) words_id) → [] ≡ positionals_in m
no_rest m is = ap (λ o. unwrap_or o []) (is ∙ raw_values-rows (found_of m) words_id)

abbrev pub some_text : Bor Text
some_text = record { ref_ptr = (0, 0); now = [] }

-- a command from what is found; `list` are the positionals of the code
pub said : (options : Options) (make : Parsed → List Text → Option Command) (q : Parsed) (m : ArgMatches) (list : List (Bor Text)) (command : Option Command)
    → Says options q (rows_in m) → map (λ w. w.now) list ≡ positionals_in m → command ≡ make q (map (λ w. w.now) list) → command ≡ make q q.positionals
said options make q m list command says rest is = is ∙ ap (make q) (rest ∙ says_rest options q m says)

-- the command of these options, by what is made of all that the words may say
pub made : (options : Options) (make : Parsed → List Text → Option Command) (ws : List Text) (o : Option ArgMatches) (m : ArgMatches) (command : Option Command)
    → Reads options ws o → o ≡ Some m → ((q : Parsed) → Says options q (rows_in m) → command ≡ make q q.positionals) → command ≡ command_with options make ws
made options make ws None m command reads is each = cc
made options make ws (Some n) m command (q, parses, says) is each =
    let one : n ≡ m = cc in
    each q (subst (λ n. Says options q (rows_in n)) one says) ∙ sym (ap (option_and_then (λ p. make p p.positionals)) parses)

pub refused : (options : Options) (make : Parsed → List Text → Option Command) (ws : List Text) (o : Option ArgMatches) → Reads options ws o → o ≡ None → None ≡ command_with options make ws
refused options make ws None reads none = sym (ap (option_and_then (λ p. make p p.positionals)) reads)
refused options make ws (Some m) reads none = cc

pub answered : {E : Type 0} (kind : Kind) (first : Text) (words : List Text) (names : Options) (o : Option ArgMatches) (m : ArgMatches) (r : Result (Option code.Command) E) → names ≡ options_in kind → Reads names words o → o ≡ Some m
    → command_of (first ∷ words) ≡ command_with (options_in kind) (made_in kind) words
    → IfOk r (λ command. (q : Parsed) → Says (options_in kind) q (rows_in m) → option_map shown command ≡ made_in kind q q.positionals) → IfOk r (λ command. option_map shown command ≡ command_of (first ∷ words))
answered kind first words names o m (Err e) same reads is of each = tt
answered kind first words names o m (Ok command) same reads is of each =
    made (options_in kind) (made_in kind) words o m (option_map shown command) (subst (λ names. Reads names words o) same reads) is each ∙ sym of

-- ---- check

pub no_check : (q : Parsed) (list : List (Bor Text)) → (length list ≡ 1 → ⊥) → None ≡ check_of q (map (λ w. w.now) list)
no_check q [] other = refl
no_check q (x ∷ []) other = absurd (other refl)
no_check q (x ∷ y ∷ list) other = refl

pub one_check : (q : Parsed) (list : List (Bor Text)) (d : Bor Text) (sums : Option Sums) (word : Option Text) (certificate library : Bool) → length list ≡ 1
    → sums ≡ sums_of word → word ≡ text_of (codes "sums") q → certificate ≡ has_certificate q → library ≡ has_library q
    → option_map (λ s. Check s certificate library (get_or list 0 d).now) sums ≡ check_of q (map (λ w. w.now) list)
one_check q (x ∷ []) d sums word certificate library one is a asked given =
    ap (λ l. option_map (λ s. Check s certificate l x.now) sums) given ∙ ap (λ c. option_map (λ s. Check s c (has_library q) x.now) sums) asked
    ∙ ap (option_map (λ s. Check s (has_certificate q) (has_library q) x.now)) (is ∙ ap sums_of a)
one_check q [] d sums word certificate library one is a asked given = absurd (omega arith)
one_check q (x ∷ y ∷ list) d sums word certificate library one is a asked given = absurd (omega arith)

-- ---- bench

pub no_bench : (q : Parsed) (list : List (Bor Text)) → (length list ≡ 1 → ⊥) → None ≡ bench_of q (map (λ w. w.now) list)
no_bench q [] other = refl
no_bench q (x ∷ []) other = absurd (other refl)
no_bench q (x ∷ y ∷ list) other = refl

pub one_bench : (q : Parsed) (list : List (Bor Text)) (d : Bor Text) (number : Option ℕ) → length list ≡ 1 → number ≡ number_in 1 1000 (get_or list 0 d).now
    → option_map Bench number ≡ bench_of q (map (λ w. w.now) list)
one_bench q (x ∷ []) d number one is = ap (option_map Bench) is
one_bench q [] d number one is = absurd (omega arith)
one_bench q (x ∷ y ∷ list) d number one is = absurd (omega arith)

-- ---- run

pub no_run : (q : Parsed) (list : List (Bor Text)) → length list < 2 → None ≡ run_of q (map (λ w. w.now) list)
no_run q [] few = refl
no_run q (x ∷ []) few = refl
no_run q (x ∷ y ∷ list) few = absurd (omega arith)

pub one_run : (q : Parsed) (list : List (Bor Text)) (d : Bor Text) (limits : Option Limits) (steps cells frames : Option Text) (inputs : List Text) (traced library : Bool) → 2 ≤ length list
    → limits ≡ limits_of steps cells frames → steps ≡ text_of (codes "steps") q → cells ≡ text_of (codes "cells") q → frames ≡ text_of (codes "frames") q
    → inputs ≡ map (λ w. w.now) (drop 2 list) → traced ≡ has_trace q → library ≡ has_library q
    → option_map (λ l. Run l traced library (get_or list 0 d).now (get_or list 1 d).now inputs) limits ≡ run_of q (map (λ w. w.now) list)
one_run q [] d limits steps cells frames inputs traced library two is a b e i asked given = absurd (omega arith)
one_run q (x ∷ []) d limits steps cells frames inputs traced library two is a b e i asked given = absurd (omega arith)
one_run q (x ∷ y ∷ list) d limits steps cells frames inputs traced library two is a b e i asked given =
    ap (λ s. option_map (λ l. Run l traced library x.now y.now s) limits) i
    ∙ ap (λ t. option_map (λ l. Run l t library x.now y.now (map (λ w. w.now) list)) limits) asked
    ∙ ap (λ t. option_map (λ l. Run l (has_trace q) t x.now y.now (map (λ w. w.now) list)) limits) given
    ∙ ap (option_map (λ l. Run l (has_trace q) (has_library q) x.now y.now (map (λ w. w.now) list)))
    (is ∙ (ap (λ s. limits_of s cells frames) a ∙ (ap (λ s. limits_of (text_of (codes "steps") q) s frames) b ∙ ap (limits_of (text_of (codes "steps") q) (text_of (codes "cells") q)) e)))

-- ---- verify

pub no_verify : (q : Parsed) (list : List (Bor Text)) → (length list ≡ 2 → ⊥) → None ≡ verify_of q (map (λ w. w.now) list)
no_verify q [] other = refl
no_verify q (x ∷ []) other = refl
no_verify q (x ∷ y ∷ []) other = absurd (other refl)
no_verify q (x ∷ y ∷ z ∷ list) other = refl

pub one_verify : (q : Parsed) (list : List (Bor Text)) (d : Bor Text) (library : Bool) → length list ≡ 2 → library ≡ has_library q
    → Some (Verify library (get_or list 0 d).now (get_or list 1 d).now) ≡ verify_of q (map (λ w. w.now) list)
one_verify q (x ∷ y ∷ []) d library two given = ap (λ l. Some (Verify l x.now y.now)) given
one_verify q [] d library two given = absurd (omega arith)
one_verify q (x ∷ []) d library two given = absurd (omega arith)
one_verify q (x ∷ y ∷ z ∷ list) d library two given = absurd (omega arith)

-- ---- guard

pub no_guard : (q : Parsed) (list : List (Bor Text)) → (length list ≡ 1 → ⊥) → None ≡ guard_of q (map (λ w. w.now) list)
no_guard q [] other = refl
no_guard q (x ∷ []) other = absurd (other refl)
no_guard q (x ∷ y ∷ list) other = refl

pub one_guard : (q : Parsed) (list : List (Bor Text)) (d : Bor Text) (sums : Option Sums) (word : Option Text) → length list ≡ 1 → sums ≡ sums_of word → word ≡ text_of (codes "sums") q
    → option_map (λ s. Guard s (get_or list 0 d).now) sums ≡ guard_of q (map (λ w. w.now) list)
one_guard q (x ∷ []) d sums word one is a = ap (option_map (λ s. Guard s x.now)) (is ∙ ap sums_of a)
one_guard q [] d sums word one is a = absurd (omega arith)
one_guard q (x ∷ y ∷ list) d sums word one is a = absurd (omega arith)
