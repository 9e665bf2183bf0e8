-- Types that are in the grammar are read, where there is room for them and no bracket and no annotation follows.
use Rattle.std.proofs.Common.{◌≡◌, ℕ, ◌≤◌, ◌+◌, ◌-◌, ◌==◌, max, true, false, List, [], ◌∷◌, ◌++◌, None, Ok, refl, ap, ◌∙◌, append_assoc, arith}
use Rattle.std.proofs.lemmas.Bool.{le-leb}
use Rattle.ix_text.specs.declared.span.Span.{Span}
use Rattle.ix_lexer.specs.declared.token.Token.{Token}
use Rattle.ix_lexer.specs.declared.fixed.TheConstants.{AT, INT, BOOLEAN, OPEN_BRACKET, CLOSE_BRACKET, OPEN_PAREN}
use Rattle.ix_tree.specs.declared.annot.Ident.{Ident}
use Rattle.ix_tree.specs.declared.annot.Annot.{Annot}
use Rattle.ix_tree.specs.declared.annot.BaseTree.{BaseTree}
use Rattle.ix_tree.specs.declared.annot.BaseTree.TheVariants.{Int, Boolean, Named}
use Rattle.ix_grammar.specs.declared.found.At.{At}
use Rattle.ix_grammar.specs.declared.found.FoundType.{FoundType}
use Rattle.ix_grammar.specs.declared.found.Notes.{Notes}
use Rattle.ix_grammar_rules.specs.Rule.{Rule, pure, take, stop, loop, On, Done, Outcome, Parser, and_then, look, run}
use Rattle.ix_grammar.specs.Patterns.{sign, name_token, a_sign}
use Rattle.ix_grammar.specs.Lists.{no_item, one_more}
use Rattle.ix_grammar.specs.AnnotGrammar.{IsAnnot, IsNotes, no_notes, with_note, annot_height}
use Rattle.ix_grammar_rules.specs.AnnotRules.{next_annot, annots_from}
use Rattle.ix_grammar.specs.TypeGrammar as grammar
use Rattle.ix_grammar.specs.TypeGrammar.{IsPairs, IsTypeRest, IsType, based, base_height, counted, array_of, plain_type}
use Rattle.ix_grammar_rules.specs.TypeRules.{next_pair, pairs, brackets, noted_array, type_rest, type_tree}
use Rattle.ix_grammar_rules.proofs.Runs.{loop_on, loop_done}
use Rattle.ix_grammar_rules.proofs.ListsComplete.{some_reads}
use Rattle.ix_grammar_rules.proofs.AnnotComplete.{NoParen, annot_marked, annot_starts, annot_takes, annot_turn, notes_done, tall_annot}

-- what may follow a type
abbrev pub NoBracket : List Token → Type 0
NoBracket us = look (a_sign OPEN_BRACKET) us ≡ None

abbrev pub NoAt : List Token → Type 0
NoAt us = look (a_sign AT) us ≡ None

-- ---- pairs of brackets

pair_reads : (found : At ℕ) (left right : Span) (us : List Token) → run (loop next_pair found) (sign OPEN_BRACKET left ∷ sign CLOSE_BRACKET right ∷ us) ≡ run (loop next_pair (counted (found.value + 1) right)) us
unfolding next_pair run
pair_reads found left right us =
    let one : run (next_pair found) (sign OPEN_BRACKET left ∷ sign CLOSE_BRACKET right ∷ us) ≡ Ok (On (counted (found.value + 1) right), us) = refl in
    loop_on next_pair found (counted (found.value + 1) right) (sign OPEN_BRACKET left ∷ sign CLOSE_BRACKET right ∷ us) us one (omega arith)

-- behind a first pair that is read in some way
pub pairs_read : {B : Type 0} (first : Parser B) (then_on : Outcome (At ℕ) → Outcome B)
    → ((left right : Span) (us : List Token) → first (sign OPEN_BRACKET left ∷ sign CLOSE_BRACKET right ∷ us) ≡ then_on (run (pairs 1 right) us))
    → (ts : List Token) (found : At ℕ) → IsPairs ts found → (us : List Token) → first (ts ++ us) ≡ then_on (run (loop next_pair found) us)
unfolding pairs
pairs_read first then_on begun _ _ (grammar.pair left right) us = begun left right us
pairs_read first then_on begun _ _ (grammar.more_pairs {tokens} {pairs = found} left right d) us =
    ap first (append_assoc tokens (sign OPEN_BRACKET left ∷ sign CLOSE_BRACKET right ∷ []) us)
    ∙ pairs_read first then_on begun tokens found d (sign OPEN_BRACKET left ∷ sign CLOSE_BRACKET right ∷ us) ∙ ap then_on (pair_reads found left right us)

pub pairs_done : (found : At ℕ) (us : List Token) → NoBracket us → run (loop next_pair found) us ≡ Ok (found, us)
unfolding next_pair run
pairs_done found us h =
    let one : run (next_pair found) us ≡ Ok (Done found, us) = rw h refl in
    loop_done next_pair found found us us one

pub pairs_start : (n : ℕ) → (OPEN_BRACKET == n) ≡ false → (ts : List Token) (found : At ℕ) → IsPairs ts found → (us : List Token) → look (a_sign n) (ts ++ us) ≡ None
pairs_start n e _ _ (grammar.pair left right) us = rw e refl
pairs_start n e _ _ (grammar.more_pairs {tokens} {pairs = found} left right d) us = ap (look (a_sign n)) (append_assoc tokens (sign OPEN_BRACKET left ∷ sign CLOSE_BRACKET right ∷ []) us)
    ∙ pairs_start n e tokens found d (sign OPEN_BRACKET left ∷ sign CLOSE_BRACKET right ∷ us)

-- ---- behind a base

arrayed : At BaseTree → Notes → Outcome (At ℕ) → Outcome FoundType
arrayed base notes o = and_then o (λ found. run (pure (array_of base notes found)))

arrayed_done : (base : At BaseTree) (notes : Notes) (found : At ℕ) (us : List Token) → NoBracket us → arrayed base notes (run (loop next_pair found) us) ≡ Ok (array_of base notes found, us)
unfolding arrayed run
arrayed_done base notes found us h = rw (pairs_done found us h) refl

opened : At BaseTree → Notes → Rule FoundType
opened base notes = take (a_sign OPEN_BRACKET) true (λ opening. brackets base notes) stop

opened_begins : (base : At BaseTree) (notes : Notes) (left right : Span) (us : List Token) → run (opened base notes) (sign OPEN_BRACKET left ∷ sign CLOSE_BRACKET right ∷ us) ≡ arrayed base notes (run (pairs 1 right) us)
unfolding opened brackets arrayed run
opened_begins base notes left right us = refl

opening : At BaseTree → Outcome Notes → Outcome FoundType
opening base o = and_then o (λ notes. run (opened base notes))

module _ (left : ℕ) (base : At BaseTree) (room : 1 + base_height base.value ≤ left) where
  plain_begins : (first right : Span) (us : List Token) → run (type_rest left base) (sign OPEN_BRACKET first ∷ sign CLOSE_BRACKET right ∷ us) ≡ arrayed base no_notes (run (pairs 1 right) us)
  unfolding type_rest brackets arrayed run
  plain_begins first right us = rw (le-leb (1 + base_height base.value) left room) refl

  noted_begins : (ts : List Token) (a : Annot) → IsAnnot ts a → annot_height a ≤ left - 1 → (us : List Token) → NoParen us
      → run (type_rest left base) (ts ++ us) ≡ opening base (run (loop (next_annot (left - 1)) (with_note no_notes a)) us)
  unfolding type_rest noted_array annots_from opening opened run
  noted_begins ts a d le us c =
      let m = annot_marked (left - 1) ts a d le us c in
      rw (m.is, le-leb 3 left (omega (arith, le, tall_annot a)), m.reads) refl

  noted_reads : (before tokens ts : List Token) (notes : Notes) (a : Annot) (found : At ℕ) → IsNotes before notes → IsAnnot tokens a → max notes.height (annot_height a) ≤ left - 1 → IsPairs ts found → (us : List Token) → NoBracket us
      → run (type_rest left base) ((before ++ tokens) ++ (ts ++ us)) ≡ Ok (array_of base (with_note notes a) found, us)
  unfolding annots_from opening run
  noted_reads before tokens ts notes a found d i le p us h =
      some_reads IsAnnot no_notes with_note (next_annot (left - 1)) NoParen (λ a. annot_height a ≤ left - 1) (λ n. n.height ≤ left - 1)
      (λ ts a i us. annot_starts OPEN_PAREN refl ts a i us) annot_takes (λ n a q. (omega (arith, q), omega (arith, q))) (annot_turn (left - 1))
      (run (type_rest left base)) (opening base) noted_begins before notes d tokens a i le (ts ++ us) (pairs_start OPEN_PAREN refl ts found p us)
      ∙ ap (opening base) (notes_done (left - 1) (with_note notes a) (ts ++ us) (pairs_start AT refl ts found p us))
      ∙ pairs_read (run (opened base (with_note notes a))) (arrayed base (with_note notes a)) (opened_begins base (with_note notes a)) ts found p us
      ∙ arrayed_done base (with_note notes a) found us h

plain_reads : (left : ℕ) (base : At BaseTree) (us : List Token) → NoBracket us → NoAt us → run (type_rest left base) us ≡ Ok (plain_type base, us)
unfolding type_rest run
plain_reads left base us h k = rw (h, k) refl

pub rest_reads : (left : ℕ) (base : At BaseTree) (ts : List Token) (ty : FoundType) → IsTypeRest base ts ty → ty.height ≤ left → (us : List Token) → NoBracket us → NoAt us → run (type_rest left base) (ts ++ us) ≡ Ok (ty, us)
rest_reads left base _ _ grammar.no_rest le us h k = plain_reads left base us h k
rest_reads left base _ _ (grammar.array {tokens} {pairs = found} no_item p) le us h k =
    pairs_read (run (type_rest left base)) (arrayed base no_notes) (plain_begins left base (omega (arith, le))) tokens found p us ∙ arrayed_done base no_notes found us h
rest_reads left base _ _ (grammar.array {tokens} {pairs = found} (one_more {before} {tokens = between} {items = notes} {item = a} d i) p) le us h k =
    ap (run (type_rest left base)) (append_assoc (before ++ between) tokens us)
    ∙ noted_reads left base (omega (arith, le)) before between tokens notes a found d i (omega (arith, le)) p us h

pub rest_starts : (n : ℕ) → (AT == n) ≡ false → (OPEN_BRACKET == n) ≡ false → (base : At BaseTree) (ts : List Token) (ty : FoundType) → IsTypeRest base ts ty → (us : List Token) → look (a_sign n) us ≡ None → look (a_sign n) (ts ++ us) ≡ None
rest_starts n e f base _ _ grammar.no_rest us h = h
rest_starts n e f base _ _ (grammar.array {tokens} {pairs = found} no_item p) us h = pairs_start n f tokens found p us
rest_starts n e f base _ _ (grammar.array {tokens} {pairs = found} (one_more {before} {tokens = between} {items = notes} {item = a} d i) p) us h =
    ap (look (a_sign n)) (append_assoc (before ++ between) tokens us) ∙ notes_start before between notes a d i (tokens ++ us)
  where
    notes_start : (before between : List Token) (notes : Notes) (a : Annot) → IsNotes before notes → IsAnnot between a → (us : List Token) → look (a_sign n) ((before ++ between) ++ us) ≡ None
    notes_start _ between _ a no_item i us = annot_starts n e between a i us
    notes_start _ between _ a (one_more {before} {tokens} {items = notes} {item = b} d j) i us = ap (look (a_sign n)) (append_assoc (before ++ tokens) between us) ∙ notes_start before tokens notes b d j (between ++ us)

-- ---- types

int_reads : (left : ℕ) (span : Span) (us : List Token) → 1 ≤ left → run (type_tree left) (sign INT span ∷ us) ≡ run (type_rest left (based Int span)) us
unfolding type_tree run
int_reads left span us le = rw (le-leb 1 left le) refl

boolean_reads : (left : ℕ) (span : Span) (us : List Token) → 1 ≤ left → run (type_tree left) (sign BOOLEAN span ∷ us) ≡ run (type_rest left (based Boolean span)) us
unfolding type_tree run
boolean_reads left span us le = rw (le-leb 1 left le) refl

named_reads : (left : ℕ) (name : Ident) (us : List Token) → 2 ≤ left → run (type_tree left) (name_token name ∷ us) ≡ run (type_rest left (based (Named name) name.span)) us
unfolding type_tree run
named_reads left name us le = rw (le-leb 2 left le) refl

-- A type is higher than its base.
pub over_base : (base : At BaseTree) (ts : List Token) (ty : FoundType) → IsTypeRest base ts ty → 1 + base_height base.value ≤ ty.height
over_base base _ _ grammar.no_rest = omega arith
over_base base _ _ (grammar.array d p) = omega arith

pub type_reads : (left : ℕ) (ts : List Token) (ty : FoundType) → IsType ts ty → ty.height ≤ left → (us : List Token) → NoBracket us → NoAt us → run (type_tree left) (ts ++ us) ≡ Ok (ty, us)
type_reads left _ _ (grammar.type {tokens} {ty} (grammar.int span) d) le us h k =
    int_reads left span (tokens ++ us) (omega (arith, le, over_base (based Int span) tokens ty d)) ∙ rest_reads left (based Int span) tokens ty d le us h k
type_reads left _ _ (grammar.type {tokens} {ty} (grammar.boolean span) d) le us h k =
    boolean_reads left span (tokens ++ us) (omega (arith, le, over_base (based Boolean span) tokens ty d)) ∙ rest_reads left (based Boolean span) tokens ty d le us h k
type_reads left _ _ (grammar.type {tokens} {ty} (grammar.named name) d) le us h k =
    named_reads left name (tokens ++ us) (omega (arith, le, over_base (based (Named name) name.span) tokens ty d)) ∙ rest_reads left (based (Named name) name.span) tokens ty d le us h k

pub type_starts : (n : ℕ) → (INT == n) ≡ false → (BOOLEAN == n) ≡ false → (ts : List Token) (ty : FoundType) → IsType ts ty → (us : List Token) → look (a_sign n) (ts ++ us) ≡ None
type_starts n e f _ _ (grammar.type (grammar.int span) d) us = rw e refl
type_starts n e f _ _ (grammar.type (grammar.boolean span) d) us = rw f refl
type_starts n e f _ _ (grammar.type (grammar.named name) d) us = refl
