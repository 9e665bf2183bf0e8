-- Repetitions that are in the grammar are read.
use Rattle.std.proofs.Common.{◌≡◌, ◌<◌, List, ◌∷◌, ◌++◌, length, None, Ok, refl, sym, ap, subst, ◌∙◌, append_assoc, arith, length-append}
use Rattle.ix_text.specs.declared.span.Span.{Span}
use Rattle.ix_lexer.specs.declared.token.Token.{Token}
use Rattle.ix_lexer.specs.declared.fixed.TheConstants.{COMMA, CLOSE_BRACE}
use Rattle.ix_grammar_rules.specs.Rule.{Rule, loop, Turn, On, Done, Outcome, Parser, look, run}
use Rattle.ix_grammar.specs.Patterns.{sign, a_sign}
use Rattle.ix_grammar.specs.Lists.{IsSeparated, IsRepeated, first_item, next_item, no_item, one_more}
use Rattle.ix_grammar_rules.specs.ListRules.{next_of, more_of, next_inside, braces_of, placed}
use Rattle.ix_grammar_rules.proofs.Runs.{loop_on, loop_done}

-- ---- Item {"," Item}: C holds of what may follow an item, P of each item, Q of what is made of them

module _ {A S : Type 0} (Item : List Token → A → Type 0) (start : A → S) (add : S → A → S) (item : Rule A) (C : List Token → Type 0) (P : A → Type 0) (Q : S → Type 0)
    (comma_follows : (c : Span) (us : List Token) → C (sign COMMA c ∷ us)) (first_part : (x : A) → Q (start x) → P x) (parts : (s : S) (x : A) → Q (add s x) → Q s × P x)
    (reads : (ts : List Token) (x : A) → Item ts x → P x → (us : List Token) → C us → run item (ts ++ us) ≡ Ok (x, us)) where
  next_reads : (s : S) (x : A) (c : Span) (ts us : List Token) → Item ts x → P x → C us → run (more_of item add s) (sign COMMA c ∷ (ts ++ us)) ≡ run (more_of item add (add s x)) us
  unfolding more_of next_of run
  next_reads s x c ts us i p q =
      let one : run (next_of item add s) (sign COMMA c ∷ (ts ++ us)) ≡ Ok (On (add s x), us) = rw (reads ts x i p us q) refl in
      loop_on (next_of item add) s (add s x) (sign COMMA c ∷ (ts ++ us)) us one (omega (arith, length-append ts us))

  -- behind a first item that is read in some way
  pub separated_reads : {B : Type 0} (first : Parser B) (then_on : Outcome S → Outcome B)
      → ((ts : List Token) (x : A) → Item ts x → P x → (us : List Token) → C us → first (ts ++ us) ≡ then_on (run (more_of item add (start x)) us))
      → (ts : List Token) (s : S) → IsSeparated Item start add ts s → Q s → (us : List Token) → C us → first (ts ++ us) ≡ then_on (run (more_of item add s) us)
  separated_reads first then_on begun _ _ (first_item {tokens} {item = x} i) q us c = begun tokens x i (first_part x q) us c
  separated_reads first then_on begun _ _ (next_item {before} {tokens} {items = s} {item = x} comma d i) q us c =
      ap first (append_assoc before (sign COMMA comma ∷ tokens) us)
      ∙ separated_reads first then_on begun before s d (parts s x q).0 (sign COMMA comma ∷ (tokens ++ us)) (comma_follows comma (tokens ++ us))
      ∙ ap then_on (next_reads s x comma tokens us i (parts s x q).1 c)

-- the end of such a list
pub more_done : {A S : Type 0} (item : Rule A) (add : S → A → S) (s : S) (us : List Token) → look (a_sign COMMA) us ≡ None → run (more_of item add s) us ≡ Ok (s, us)
unfolding more_of next_of run
more_done item add s us h =
    let one : run (next_of item add s) us ≡ Ok (Done s, us) = rw h refl in
    loop_done (next_of item add) s s us us one

-- ---- {Item}

module _ {A S B : Type 0} (Item : List Token → A → Type 0) (none : S) (add : S → A → S) (body : S → Rule (Turn S B)) (C : List Token → Type 0) (P : A → Type 0) (Q : S → Type 0)
    (begins : (ts : List Token) (x : A) → Item ts x → (us : List Token) → C (ts ++ us)) (takes : (ts : List Token) (x : A) → Item ts x → 0 < length ts) (parts : (s : S) (x : A) → Q (add s x) → Q s × P x)
    (turn : (s : S) (ts : List Token) (x : A) → Item ts x → P x → (us : List Token) → C us → run (body s) (ts ++ us) ≡ Ok (On (add s x), us)) where
  turn_reads : (s : S) (ts : List Token) (x : A) → Item ts x → P x → (us : List Token) → C us → run (loop body s) (ts ++ us) ≡ run (loop body (add s x)) us
  turn_reads s ts x i p us c = loop_on body s (add s x) (ts ++ us) us (turn s ts x i p us c) (omega (arith, length-append ts us, takes ts x i))

  pub repeated_reads : (ts : List Token) (s : S) → IsRepeated Item none add ts s → Q s → (us : List Token) → C us → run (loop body none) (ts ++ us) ≡ run (loop body s) us
  repeated_reads _ _ no_item q us c = refl
  repeated_reads _ _ (one_more {before} {tokens} {items = s} {item = x} d i) q us c =
      ap (run (loop body none)) (append_assoc before tokens us) ∙ repeated_reads before s d (parts s x q).0 (tokens ++ us) (begins tokens x i us) ∙ turn_reads s tokens x i (parts s x q).1 us c

  -- at least one, of which the first is read in some way
  pub some_reads : {B' : Type 0} (first : Parser B') (then_on : Outcome B → Outcome B')
      → ((ts : List Token) (x : A) → Item ts x → P x → (us : List Token) → C us → first (ts ++ us) ≡ then_on (run (loop body (add none x)) us))
      → (before : List Token) (s : S) → IsRepeated Item none add before s → (ts : List Token) (x : A) → Item ts x → Q (add s x) → (us : List Token) → C us
      → first ((before ++ ts) ++ us) ≡ then_on (run (loop body (add s x)) us)
  some_reads first then_on begun _ _ no_item ts x i q us c = begun ts x i (parts none x q).1 us c
  some_reads first then_on begun _ _ (one_more {before} {tokens} {items = s} {item = y} d j) ts x i q us c =
      ap first (append_assoc (before ++ tokens) ts us)
      ∙ some_reads first then_on begun before s d tokens y j (parts (add s y) x q).0 (ts ++ us) (begins ts x i us)
      ∙ ap then_on (turn_reads (add s y) ts x i (parts (add s y) x q).1 us c)

-- What may follow a repetition and what its items begin with may stand where it stands.
pub repeated_starts : {A S : Type 0} (Item : List Token → A → Type 0) (none : S) (add : S → A → S) (C : List Token → Type 0) (begins : (ts : List Token) (x : A) → Item ts x → (us : List Token) → C (ts ++ us))
    (ts : List Token) (s : S) → IsRepeated Item none add ts s → (us : List Token) → C us → C (ts ++ us)
repeated_starts Item none add C begins _ _ no_item us c = c
repeated_starts Item none add C begins _ _ (one_more {before} {tokens} {items = s} {item = x} d i) us c =
    subst C (sym (append_assoc before tokens us)) (repeated_starts Item none add C begins before s d (tokens ++ us) (begins tokens x i us))

-- ---- {Item} "}"

module _ {A S : Type 0} (Item : List Token → A → Type 0) (none : S) (add : S → A → S) (item : Rule A) (C : List Token → Type 0) (P : A → Type 0) (Q : S → Type 0)
    (brace_follows : (right : Span) (us : List Token) → C (sign CLOSE_BRACE right ∷ us)) (begins : (ts : List Token) (x : A) → Item ts x → (us : List Token) → C (ts ++ us))
    (no_brace : (ts : List Token) (x : A) → Item ts x → (us : List Token) → look (a_sign CLOSE_BRACE) (ts ++ us) ≡ None) (takes : (ts : List Token) (x : A) → Item ts x → 0 < length ts)
    (parts : (s : S) (x : A) → Q (add s x) → Q s × P x) (reads : (ts : List Token) (x : A) → Item ts x → P x → (us : List Token) → C us → run item (ts ++ us) ≡ Ok (x, us)) where
  inside_turn : (s : S) (ts : List Token) (x : A) → Item ts x → P x → (us : List Token) → C us → run (next_inside item add s) (ts ++ us) ≡ Ok (On (add s x), us)
  unfolding next_inside run
  inside_turn s ts x i p us c = rw (no_brace ts x i us, reads ts x i p us c) refl

  brace_ends : (s : S) (right : Span) (us : List Token) → run (loop (next_inside item add) s) (sign CLOSE_BRACE right ∷ us) ≡ Ok (placed s right, us)
  unfolding next_inside run
  brace_ends s right us =
      let one : run (next_inside item add s) (sign CLOSE_BRACE right ∷ us) ≡ Ok (Done (placed s right), us) = refl in
      loop_done (next_inside item add) s (placed s right) (sign CLOSE_BRACE right ∷ us) us one

  pub braces_read : (ts : List Token) (s : S) → IsRepeated Item none add ts s → Q s → (right : Span) (us : List Token) → run (braces_of item add none) (ts ++ sign CLOSE_BRACE right ∷ us) ≡ Ok (placed s right, us)
  unfolding braces_of
  braces_read ts s d q right us = repeated_reads Item none add (next_inside item add) C P Q begins takes parts inside_turn ts s d q (sign CLOSE_BRACE right ∷ us) (brace_follows right us) ∙ brace_ends s right us
