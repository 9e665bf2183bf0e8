-- Modifiers, parameters and declarators that are in the grammar are read, where there is room for them.
use Rattle.std.proofs.Common.{◌≡◌, ℕ, ◌≤◌, ◌+◌, ◌-◌, ◌==◌, true, false, List, [], ◌∷◌, ◌++◌, Option, Some, None, Ok, refl, sym, ap, ◌∙◌, append_assoc, arith, length-append, eqb-true, inl, inr}
use Rattle.std.proofs.lemmas.Bool.{le-leb}
use Rattle.ix_text.specs.declared.span.Span.{Span}
use Rattle.ix_lexer.specs.declared.token.Token.{Token}
use Rattle.ix_lexer.specs.declared.fixed.TheConstants.{AT, ASSIGN, COMMA, SEMICOLON, INT, BOOLEAN, THROWS, OPEN_PAREN, CLOSE_PAREN, OPEN_BRACE}
use Rattle.ix_tree.specs.declared.annot.Ident.{Ident}
use Rattle.ix_tree.specs.declared.annot.Annot.{Annot}
use Rattle.ix_grammar.specs.declared.declarations.FoundDecl.{FoundDecl}
use Rattle.ix_grammar.specs.declared.declarations.FoundMods.{FoundMods}
use Rattle.ix_grammar.specs.declared.declarations.Params.{Params}
use Rattle.ix_grammar.specs.declared.declarations.Shared.{Shared}
use Rattle.ix_grammar.specs.declared.declarations.Word.{Word}
use Rattle.ix_grammar.specs.declared.found.FoundDecls.{FoundDecls}
use Rattle.ix_grammar.specs.declared.found.FoundInit.{FoundInit}
use Rattle.ix_grammar.specs.declared.found.FoundType.{FoundType}
use Rattle.ix_lexer.proofs.Scans.{chosen}
use Rattle.ix_grammar_rules.specs.Rule.{Rule, pure, take, stop, loop, On, Done, Outcome, and_then, look, run}
use Rattle.ix_grammar.specs.Patterns.{sign, name_token, a_sign, a_name, one_of, row}
use Rattle.ix_grammar.specs.Lists.{IsSeparated, first_item, next_item}
use Rattle.ix_grammar_rules.specs.ListRules.{more_of}
use Rattle.ix_grammar.specs.AnnotGrammar.{IsAnnot, annot_height}
use Rattle.ix_grammar.specs.TypeGrammar as types
use Rattle.ix_grammar.specs.TypeGrammar.{IsType}
use Rattle.ix_grammar_rules.specs.TypeRules.{type_tree}
use Rattle.ix_grammar.specs.DeclGrammar as grammar
use Rattle.ix_grammar.specs.DeclGrammar.{IsMods, IsDecl, IsDecls, IsParam, IsParams, IsName, IsThrows, shared, with_word, with_annot, local_words, plain_decl, one_decl, with_decl, no_params, one_param, with_param, nothing, nothing_more}
use Rattle.ix_grammar_rules.specs.DeclRules.{next_mod, mods, decl_behind, decl, decls, param, some_params, params, a_thrown, throws}
use Rattle.ix_grammar_rules.proofs.Runs.{loop_on, loop_done}
use Rattle.ix_grammar_rules.proofs.ListsComplete.{separated_reads, more_done}
use Rattle.ix_grammar_rules.proofs.AnnotComplete.{NoParen, annot_marked, annot_starts, annot_takes, tall_annot}
use Rattle.ix_grammar_rules.proofs.TypeComplete.{NoAt, type_reads, type_starts}

-- ---- modifiers

-- None of the words is a sign that decides what stands there.
pub record AreWords (words : List (ℕ × Word)) : Type 0 where
  pub paren : row words OPEN_PAREN ≡ None
  pub at : row words AT ≡ None
  pub int : row words INT ≡ None
  pub boolean : row words BOOLEAN ≡ None

abbrev some_word : Word → Option Word
some_word w = Some w

-- A word is no sign that is none of the words.
pub word_is_not : (words : List (ℕ × Word)) (n : ℕ) → row words n ≡ None → (number : ℕ) (word : Word) → row words number ≡ Some word → (span : Span) (us : List Token) → look (a_sign n) (sign number span ∷ us) ≡ None
word_is_not words n none_of number word e span us = elim (chosen (number == n) (Some span) None (look (a_sign n) (sign number span ∷ us)) refl) [
  | inl h ↦ (
      let same : number ≡ n = eqb-true number n h.0 in
      let none : row words number ≡ None = ap (row words) same ∙ none_of in
      let clash : some_word word ≡ None = sym e ∙ none in
      absurd (cc))
  | inr h ↦ sym h.1
]

module _ (words : List (ℕ × Word)) (are : AreWords words) (left : ℕ) (room : 1 ≤ left) where
  word_turn : (found : FoundMods) (number : ℕ) (word : Word) (span : Span) (us : List Token) → row words number ≡ Some word → run (next_mod words left found) (sign number span ∷ us) ≡ Ok (On (with_word found word span), us)
  unfolding next_mod run
  word_turn found number word span us e = rw (e, le-leb 1 left room) refl

  annot_turn : (found : FoundMods) (ts : List Token) (a : Annot) → IsAnnot ts a → annot_height a ≤ left → (us : List Token) → NoParen us → run (next_mod words left found) (ts ++ us) ≡ Ok (On (with_annot found a), us)
  unfolding next_mod run
  annot_turn found ts a d le us c =
      let m = annot_marked left ts a d le us c in
      rw (m.is, are.at, le-leb 2 left (omega (arith, le, tall_annot a)), m.reads) refl

  mods_turn : (ts : List Token) (found : FoundMods) → IsMods words ts found → found.height ≤ left → (us : List Token) → NoParen us → run (mods words left) (ts ++ us) ≡ run (loop (next_mod words left) found) us
  unfolding mods
  mods_turn _ _ grammar.none le us c = refl
  mods_turn _ _ (grammar.word {tokens} {found} number span {word} e d) le us c =
      ap (run (mods words left)) (append_assoc tokens (sign number span ∷ []) us)
      ∙ mods_turn tokens found d le (sign number span ∷ us) (word_is_not words OPEN_PAREN are.paren number word e span us)
      ∙ loop_on (next_mod words left) found (with_word found word span) (sign number span ∷ us) us (word_turn found number word span us e) (omega arith)
  mods_turn _ _ (grammar.annot {before} {tokens} {found} {annot = a} d i) le us c =
      ap (run (mods words left)) (append_assoc before tokens us)
      ∙ mods_turn before found d (omega (arith, le)) (tokens ++ us) (annot_starts OPEN_PAREN refl tokens a i us)
      ∙ loop_on (next_mod words left) found (with_annot found a) (tokens ++ us) us (annot_turn found tokens a i (omega (arith, le)) us c) (omega (arith, length-append tokens us, annot_takes tokens a i))

  mods_end : (found : FoundMods) (us : List Token) → look (one_of words) us ≡ None → NoAt us → run (loop (next_mod words left) found) us ≡ Ok (found, us)
  unfolding next_mod run
  mods_end found us h k =
      let one : run (next_mod words left found) us ≡ Ok (Done found, us) = rw (h, k) refl in
      loop_done (next_mod words left) found found us us one

  pub mods_read : (ts : List Token) (found : FoundMods) → IsMods words ts found → found.height ≤ left → (us : List Token) → NoParen us → look (one_of words) us ≡ None → NoAt us → run (mods words left) (ts ++ us) ≡ Ok (found, us)
  mods_read ts found d le us c h k = mods_turn ts found d le us c ∙ mods_end found us h k

-- A type begins with no word.
pub type_no_word : (words : List (ℕ × Word)) → AreWords words → (ts : List Token) (ty : FoundType) → IsType ts ty → (us : List Token) → look (one_of words) (ts ++ us) ≡ None
type_no_word words w _ _ (types.type (types.int span) d) us = rw w.int refl
type_no_word words w _ _ (types.type (types.boolean span) d) us = rw w.boolean refl
type_no_word words w _ _ (types.type (types.named name) d) us = refl

pub local_are : AreWords local_words
local_are = record { paren = refl; at = refl; int = refl; boolean = refl }

-- ---- declarators

-- what may follow a declarator
pub data Parted : List Token → Type 0 where
  comma : (span : Span) (us : List Token) → Parted (sign COMMA span ∷ us)
  semicolon : (span : Span) (us : List Token) → Parted (sign SEMICOLON span ∷ us)

parted_no : (n : ℕ) → (COMMA == n) ≡ false → (SEMICOLON == n) ≡ false → (us : List Token) → Parted us → look (a_sign n) us ≡ None
parted_no n e f _ (comma span us) = rw e refl
parted_no n e f _ (semicolon span us) = rw f refl

-- Declarators as the first name and what is behind it.
pub record Headed (ts us : List Token) : Type 0 where
  pub name : Ident
  pub later : List Token
  pub is : ts ≡ name_token name ∷ later
  pub no_paren : NoParen (later ++ us)

module _ (IsInit : List Token → FoundInit → Type 0) (init : ℕ → Rule FoundInit)
    (init_reads : (ts : List Token) (found : FoundInit) → IsInit ts found → (room : ℕ) → found.height ≤ room → (us : List Token) → Parted us → run (init room) (ts ++ us) ≡ Ok (found, us))
    (left : ℕ) (all : Shared) where
  Starting : FoundDecl → Type 0
  Starting d = d.height ≤ left

  Declaring : FoundDecls → Type 0
  Declaring ds = ds.height ≤ left

  -- the declarators from the first name on
  FromName : Rule FoundDecls
  FromName = take a_name true (decls init left all) stop

  decl_reads : (ts : List Token) (d : FoundDecl) → IsDecl IsInit all ts d → Starting d → (us : List Token) → Parted us → run (decl init left all) (ts ++ us) ≡ Ok (d, us)
  unfolding decl decl_behind run Starting
  decl_reads _ _ (grammar.plain name) le us c = rw (parted_no ASSIGN refl refl us c) refl
  decl_reads _ _ (grammar.with_init name assign {tokens} {found} i) le us c = rw (init_reads tokens found i (left - 1) (omega (arith, le)) us c) refl

  first_decl : (ts : List Token) (d : FoundDecl) → IsDecl IsInit all ts d → Starting d → (us : List Token) → Parted us → run FromName (ts ++ us) ≡ run (more_of (decl init left all) with_decl (one_decl d)) us
  unfolding FromName decls decl_behind run Starting
  first_decl _ _ (grammar.plain name) le us c = rw (parted_no ASSIGN refl refl us c) refl
  first_decl _ _ (grammar.with_init name assign {tokens} {found} i) le us c = rw (init_reads tokens found i (left - 1) (omega (arith, le)) us c) refl

  decls_read : (ts : List Token) (ds : FoundDecls) → IsDecls IsInit all ts ds → Declaring ds → (end : Span) (us : List Token) → run FromName (ts ++ sign SEMICOLON end ∷ us) ≡ Ok (ds, sign SEMICOLON end ∷ us)
  unfolding Starting Declaring
  decls_read ts ds d le end us =
      separated_reads (IsDecl IsInit all) one_decl with_decl (decl init left all) Parted Starting Declaring (λ c us. comma c us) (λ d q. q) (λ ds d q. (omega (arith, q), omega (arith, q))) decl_reads
      (run FromName) (λ o. o) first_decl ts ds d le (sign SEMICOLON end ∷ us) (semicolon end us)
      ∙ more_done (decl init left all) with_decl ds (sign SEMICOLON end ∷ us) refl

  pub decls_headed : (ts : List Token) (ds : FoundDecls) → IsDecls IsInit all ts ds → (us : List Token) → Parted us → Headed ts us
  decls_headed _ _ (first_item (grammar.plain name)) us c = record { name = name; later = []; is = refl; no_paren = parted_no OPEN_PAREN refl refl us c }
  decls_headed _ _ (first_item (grammar.with_init name assign {tokens} i)) us c = record { name = name; later = sign ASSIGN assign ∷ tokens; is = refl; no_paren = refl }
  decls_headed _ _ (next_item {before} {tokens} {items = ds} span d i) us c =
      let h = decls_headed before ds d (sign COMMA span ∷ (tokens ++ us)) (comma span (tokens ++ us)) in
      record {
        name = h.name;
        later = h.later ++ sign COMMA span ∷ tokens;
        is = ap (λ y. y ++ sign COMMA span ∷ tokens) h.is;
        no_paren = ap (look (a_sign OPEN_PAREN)) (append_assoc h.later (sign COMMA span ∷ tokens) us) ∙ h.no_paren;
      }

  -- Behind the first name the declarators are read.
  named_begins : (name : Ident) (us : List Token) → run FromName (name_token name ∷ us) ≡ run (decls init left all name) us
  unfolding FromName run
  named_begins name us = refl

  pub headed_reads : (ts : List Token) (ds : FoundDecls) → IsDecls IsInit all ts ds → ds.height ≤ left → (end : Span) (us : List Token) → (h : Headed ts (sign SEMICOLON end ∷ us))
      → run (decls init left all h.name) (h.later ++ sign SEMICOLON end ∷ us) ≡ Ok (ds, sign SEMICOLON end ∷ us)
  unfolding Declaring
  headed_reads ts ds d le end us h = sym (named_begins h.name (h.later ++ sign SEMICOLON end ∷ us)) ∙ ap (λ y. run FromName (y ++ sign SEMICOLON end ∷ us)) (sym h.is) ∙ decls_read ts ds d le end us

  -- Declarators are higher than what they share.
  tall_decl : (ts : List Token) (d : FoundDecl) → IsDecl IsInit all ts d → 1 + all.height ≤ d.height
  tall_decl _ _ (grammar.plain name) = omega arith
  tall_decl _ _ (grammar.with_init name assign i) = omega arith

  pub tall_decls : (ts : List Token) (ds : FoundDecls) → IsDecls IsInit all ts ds → 1 + all.height ≤ ds.height
  tall_decls _ _ (first_item {tokens} {item = d} i) = tall_decl tokens d i
  tall_decls _ _ (next_item {before} {items = ds} span d i) = omega (arith, tall_decls before ds d)

-- ---- parameters

-- the same with the list of tokens to the right
three : (first second us : List Token) (t : Token) → (first ++ (second ++ t ∷ [])) ++ us ≡ first ++ (second ++ t ∷ us)
three first second us t = append_assoc first (second ++ t ∷ []) us ∙ ap (λ y. first ++ y) (append_assoc second (t ∷ []) us)

pub mods_before_type : (words : List (ℕ × Word)) → AreWords words → (left : ℕ) → 1 ≤ left → (before : List Token) (found : FoundMods) → IsMods words before found → found.height ≤ left → (ts : List Token) (ty : FoundType) → IsType ts ty → (us : List Token)
    → run (mods words left) (before ++ (ts ++ us)) ≡ Ok (found, ts ++ us)
mods_before_type words are left room before found m le ts ty t us = mods_read words are left room before found m le (ts ++ us) (type_starts OPEN_PAREN refl refl ts ty t us) (type_no_word words are ts ty t us) (type_starts AT refl refl ts ty t us)

param_parts : (left : ℕ) (before tokens us : List Token) (found : FoundMods) (ty : FoundType) (name : Ident) → run (mods local_words (left - 1)) (before ++ (tokens ++ name_token name ∷ us)) ≡ Ok (found, tokens ++ name_token name ∷ us)
    → run (type_tree (left - 1)) (tokens ++ name_token name ∷ us) ≡ Ok (ty, name_token name ∷ us) → run (param left) (before ++ (tokens ++ name_token name ∷ us)) ≡ Ok (plain_decl (shared found ty) name, us)
unfolding param run
param_parts left before tokens us found ty name h k = rw (h, k) refl

param_reads : (left : ℕ) (ts : List Token) (d : FoundDecl) → IsParam ts d → d.height ≤ left → (us : List Token) → run (param left) (ts ++ us) ≡ Ok (d, us)
param_reads left _ _ (grammar.param {before} {tokens} {mods = found} {ty} name m t) le us =
    ap (run (param left)) (three before tokens us (name_token name))
    ∙ param_parts left before tokens us found ty name
    (mods_before_type local_words local_are (left - 1) (omega (arith, le)) before found m (omega (arith, le)) tokens ty t (name_token name ∷ us))
    (type_reads (left - 1) tokens ty t (omega (arith, le)) (name_token name ∷ us) refl refl)

-- What begins with modifiers begins with no sign that is none of the words.
pub mods_start : (words : List (ℕ × Word)) (n : ℕ) → row words n ≡ None → (AT == n) ≡ false → (ts : List Token) (found : FoundMods) → IsMods words ts found → (us : List Token) → look (a_sign n) us ≡ None → look (a_sign n) (ts ++ us) ≡ None
mods_start words n w e _ _ grammar.none us c = c
mods_start words n w e _ _ (grammar.word {tokens} {found} number span {word} is d) us c = ap (look (a_sign n)) (append_assoc tokens (sign number span ∷ []) us)
    ∙ mods_start words n w e tokens found d (sign number span ∷ us) (word_is_not words n w number word is span us)
mods_start words n w e _ _ (grammar.annot {before} {tokens} {found} {annot = a} d i) us c = ap (look (a_sign n)) (append_assoc before tokens us)
    ∙ mods_start words n w e before found d (tokens ++ us) (annot_starts n e tokens a i us)

param_starts : (ts : List Token) (d : FoundDecl) → IsParam ts d → (us : List Token) → look (a_sign CLOSE_PAREN) (ts ++ us) ≡ None
param_starts _ _ (grammar.param {before} {tokens} {mods = found} {ty} name m t) us = ap (look (a_sign CLOSE_PAREN)) (three before tokens us (name_token name))
    ∙ mods_start local_words CLOSE_PAREN refl refl before found m (tokens ++ name_token name ∷ us) (type_starts CLOSE_PAREN refl refl tokens ty t (name_token name ∷ us))

Any : List Token → Type 0
Any us = Unit {0}

closing : Outcome Params → Outcome Params
closing o = and_then o (λ found. run (take (a_sign CLOSE_PAREN) true (λ right. pure found) stop))

first_param : (left : ℕ) (ts : List Token) (d : FoundDecl) → IsParam ts d → d.height ≤ left → (us : List Token) → Any us → run (params left) (ts ++ us) ≡ closing (run (more_of (param left) with_param (one_param d)) us)
unfolding params some_params closing run
first_param left ts d p le us c = rw (param_starts ts d p us, param_reads left ts d p le us) refl

closing_done : (left : ℕ) (found : Params) (right : Span) (us : List Token) → closing (run (more_of (param left) with_param found) (sign CLOSE_PAREN right ∷ us)) ≡ Ok (found, us)
unfolding closing run
closing_done left found right us = rw (more_done (param left) with_param found (sign CLOSE_PAREN right ∷ us) refl) refl

some_params_read : (left : ℕ) (ts : List Token) (found : Params) → IsSeparated IsParam one_param with_param ts found → found.height ≤ left → (right : Span) (us : List Token) → run (params left) (ts ++ sign CLOSE_PAREN right ∷ us) ≡ Ok (found, us)
unfolding Any
some_params_read left ts found d le right us =
    separated_reads IsParam one_param with_param (param left) Any (λ d. d.height ≤ left) (λ ps. ps.height ≤ left) (λ c us. tt) (λ d q. q) (λ ps d q. (omega (arith, q), omega (arith, q)))
    (λ ts d p le us c. param_reads left ts d p le us) (run (params left)) closing (first_param left) ts found d le (sign CLOSE_PAREN right ∷ us) tt
    ∙ closing_done left found right us

no_params_read : (left : ℕ) (right : Span) (us : List Token) → run (params left) (sign CLOSE_PAREN right ∷ us) ≡ Ok (no_params, us)
unfolding params run
no_params_read left right us = refl

-- Parameters as their opening parenthesis and what is read behind it.
pub record Opened (left : ℕ) (ts : List Token) (found : Params) (us : List Token) : Type 0 where
  pub opening : Span
  pub later : List Token
  pub is : ts ≡ sign OPEN_PAREN opening ∷ later
  pub reads : run (params left) (later ++ us) ≡ Ok (found, us)

pub params_read : (left : ℕ) (ts : List Token) (found : Params) → IsParams ts found → found.height ≤ left → (us : List Token) → Opened left ts found us
params_read left _ _ (grammar.none opening right) le us = record { opening = opening; later = sign CLOSE_PAREN right ∷ []; is = refl; reads = no_params_read left right us }
params_read left _ _ (grammar.some opening right {tokens} {params = found} d) le us = record {
  opening = opening;
  later = tokens ++ sign CLOSE_PAREN right ∷ [];
  is = refl;
  reads = ap (run (params left)) (append_assoc tokens (sign CLOSE_PAREN right ∷ []) us) ∙ some_params_read left tokens found d le right us;
}

-- ---- what a method throws

thrown_reads : (ts : List Token) (name : Ident) → IsName ts name → Unit {0} → (us : List Token) → Any us → run a_thrown (ts ++ us) ≡ Ok (name, us)
unfolding a_thrown run
thrown_reads _ _ (grammar.ident found) p us c = refl

first_thrown : (span : Span) (ts : List Token) (name : Ident) → IsName ts name → Unit {0} → (us : List Token) → Any us → run throws (sign THROWS span ∷ (ts ++ us)) ≡ run (more_of a_thrown nothing_more (nothing name)) us
unfolding throws run
first_thrown span _ _ (grammar.ident found) p us c = refl

pub throws_read : (ts : List Token) (u : Unit {0}) → IsThrows ts u → (brace : Span) (us : List Token) → run throws (ts ++ sign OPEN_BRACE brace ∷ us) ≡ Ok (tt, sign OPEN_BRACE brace ∷ us)
unfolding throws run Any
throws_read _ _ grammar.none brace us = refl
throws_read _ _ (grammar.throws span {tokens} {names} d) brace us =
    separated_reads IsName nothing nothing_more a_thrown Any (λ n. Unit {0}) (λ s. Unit {0}) (λ c us. tt) (λ n q. tt) (λ s n q. (tt, tt)) thrown_reads
    (λ ts. run throws (sign THROWS span ∷ ts)) (λ o. o) (first_thrown span) tokens names d tt (sign OPEN_BRACE brace ∷ us) tt
    ∙ more_done a_thrown nothing_more tt (sign OPEN_BRACE brace ∷ us) refl
