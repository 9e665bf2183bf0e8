-- Annotations that are in the grammar are read, where there is room for them and no parenthesis follows.
use Rattle.std.proofs.Common.{◌≡◌, ℕ, ◌<◌, ◌≤◌, ◌==◌, max, true, false, List, [], ◌∷◌, ◌++◌, length, None, Ok, refl, ap, ◌∙◌, append_assoc, arith}
use Rattle.std.proofs.lemmas.Bool.{le-leb}
use Rattle.ix_text.specs.declared.span.Span.{Span}
use Rattle.ix_lexer.specs.declared.token.Token.{Token}
use Rattle.ix_lexer.specs.declared.fixed.TheConstants.{AT, OPEN_BRACE, CLOSE_BRACE, OPEN_PAREN, CLOSE_PAREN}
use Rattle.ix_tree.specs.declared.annot.Ident.{Ident}
use Rattle.ix_tree.specs.declared.annot.Annot.{Annot}
use Rattle.ix_tree.specs.declared.annot.AnnotArg.{AnnotArg}
use Rattle.ix_tree.specs.declared.annot.AnnotValue.{AnnotValue}
use Rattle.ix_tree.specs.declared.annot.AnnotValue.TheVariants.{Texts}
use Rattle.ix_grammar.specs.Nodes.{across}
use Rattle.ix_grammar.specs.declared.found.At.{At}
use Rattle.ix_grammar.specs.declared.found.Notes.{Notes}
use Rattle.ix_grammar_rules.specs.Rule.{Rule, pure, take, stop, On, Done, Outcome, and_then, look, run}
use Rattle.ix_grammar.specs.Patterns.{sign, name_token, a_sign, a_name}
use Rattle.ix_grammar.specs.Lists.{IsSeparated, first_item, next_item, alone, joined}
use Rattle.ix_grammar_rules.specs.ListRules.{more_of}
use Rattle.ix_grammar.specs.AnnotGrammar as grammar
use Rattle.ix_grammar.specs.AnnotGrammar.{IsText, IsValue, IsNamed, IsAnnot, IsNotes, no_notes, with_note, annot_height, args_height, arg_height, annot_to, plain_arg, valued}
use Rattle.ix_grammar_rules.specs.AnnotRules.{text, braced, negative, annot_value, named_value, named, named_args, plain_value, annot_args, annot_behind, annot, next_annot, annots_from, annots}
use Rattle.ix_grammar_rules.proofs.Runs.{loop_done}
use Rattle.ix_grammar_rules.proofs.ListsComplete.{separated_reads, more_done, repeated_reads}

-- whatever follows
abbrev Any : List Token → Type 0
Any us = Unit {0}

-- ---- values

text_reads : (ts : List Token) (x : List ℕ) → IsText ts x → Unit {0} → (us : List Token) → Any us → run text (ts ++ us) ≡ Ok (x, us)
unfolding text run
text_reads _ _ (grammar.text found) p us c = refl

-- behind the strings in braces
closing : Span → List (List ℕ) → Rule (At AnnotValue)
closing left texts = take (a_sign CLOSE_BRACE) true (λ right. pure (valued (Texts texts) (across left right))) stop

closed : Span → Outcome (List (List ℕ)) → Outcome (At AnnotValue)
closed left o = and_then o (λ texts. run (closing left texts))

first_text : (left : Span) (ts : List Token) (x : List ℕ) → IsText ts x → Unit {0} → (us : List Token) → Any us → run (braced left) (ts ++ us) ≡ closed left (run (more_of text joined (alone x)) us)
unfolding braced run closed closing
first_text left _ _ (grammar.text found) p us c = refl

closed_reads : (left right : Span) (texts : List (List ℕ)) (us : List Token) → closed left (run (more_of text joined texts) (sign CLOSE_BRACE right ∷ us)) ≡ Ok (valued (Texts texts) (across left right), us)
unfolding run closed closing
closed_reads left right texts us = rw (more_done text joined texts (sign CLOSE_BRACE right ∷ us) refl) refl

braced_reads : (left right : Span) (ts : List Token) (texts : List (List ℕ)) → IsSeparated IsText alone joined ts texts → (us : List Token) → run (braced left) (ts ++ sign CLOSE_BRACE right ∷ us) ≡ Ok (valued (Texts texts) (across left right), us)
braced_reads left right ts texts d us =
    separated_reads IsText alone joined text Any (λ x. Unit {0}) (λ s. Unit {0}) (λ c us. tt) (λ x q. tt) (λ s x q. (tt, tt)) text_reads (run (braced left)) (closed left) (first_text left) ts texts d tt (sign CLOSE_BRACE right ∷ us) tt
    ∙ closed_reads left right texts us

value_brace : (left : Span) (ts : List Token) → run annot_value (sign OPEN_BRACE left ∷ ts) ≡ run (braced left) ts
unfolding annot_value run
value_brace left ts = refl

pub value_reads : (ts : List Token) (v : At AnnotValue) → IsValue ts v → (us : List Token) → run annot_value (ts ++ us) ≡ Ok (v, us)
unfolding annot_value negative braced run
value_reads _ _ (grammar.number found) us = refl
value_reads _ _ (grammar.minus_number minus found) us = refl
value_reads _ _ (grammar.least minus span) us = refl
value_reads _ _ (grammar.one_text found) us = refl
value_reads _ _ (grammar.truth span) us = refl
value_reads _ _ (grammar.falsity span) us = refl
value_reads _ _ (grammar.no_texts left right) us = refl
value_reads _ _ (grammar.texts left right {tokens} {found} d) us =
    ap (λ y. run annot_value (sign OPEN_BRACE left ∷ y)) (append_assoc tokens (sign CLOSE_BRACE right ∷ []) us) ∙ value_brace left (tokens ++ sign CLOSE_BRACE right ∷ us) ∙ braced_reads left right tokens found d us

value_starts : (ts : List Token) (v : At AnnotValue) → IsValue ts v → (us : List Token) → (look (a_sign CLOSE_PAREN) (ts ++ us) ≡ None) × (look a_name (ts ++ us) ≡ None)
value_starts _ _ (grammar.number found) us = (refl, refl)
value_starts _ _ (grammar.minus_number minus found) us = (refl, refl)
value_starts _ _ (grammar.least minus span) us = (refl, refl)
value_starts _ _ (grammar.one_text found) us = (refl, refl)
value_starts _ _ (grammar.truth span) us = (refl, refl)
value_starts _ _ (grammar.falsity span) us = (refl, refl)
value_starts _ _ (grammar.no_texts left right) us = (refl, refl)
value_starts _ _ (grammar.texts left right d) us = (refl, refl)

-- ---- arguments

named_reads : (ts : List Token) (x : AnnotArg) → IsNamed ts x → Unit {0} → (us : List Token) → Any us → run named (ts ++ us) ≡ Ok (x, us)
unfolding named named_value run
named_reads _ _ (grammar.named name assign {tokens} {found} d) p us c = rw (value_reads tokens found d us) refl

-- behind named arguments
shut : Span → Ident → List AnnotArg → Rule Annot
shut at name args = take (a_sign CLOSE_PAREN) true (λ right. pure (annot_to at name args right)) stop

shutting : Span → Ident → Outcome (List AnnotArg) → Outcome Annot
shutting at name o = and_then o (λ args. run (shut at name args))

module _ (left : ℕ) (at : Span) (name : Ident) (room : 3 ≤ left) where
  first_named : (ts : List Token) (x : AnnotArg) → IsNamed ts x → Unit {0} → (us : List Token) → Any us
      → run (annot_args left at name) (ts ++ us) ≡ shutting at name (run (more_of named joined (alone x)) us)
  unfolding annot_args named_args named_value run shutting shut
  first_named _ _ (grammar.named first assign {tokens} {found} d) p us c = rw (le-leb 3 left room, value_reads tokens found d us) refl

  shut_reads : (right : Span) (args : List AnnotArg) (us : List Token) → shutting at name (run (more_of named joined args) (sign CLOSE_PAREN right ∷ us)) ≡ Ok (annot_to at name args right, us)
  unfolding run shutting shut
  shut_reads right args us = rw (more_done named joined args (sign CLOSE_PAREN right ∷ us) refl) refl

  pairs_read : (right : Span) (ts : List Token) (args : List AnnotArg) → IsSeparated IsNamed alone joined ts args → (us : List Token) → run (annot_args left at name) (ts ++ sign CLOSE_PAREN right ∷ us) ≡ Ok (annot_to at name args right, us)
  pairs_read right ts args d us =
      separated_reads IsNamed alone joined named Any (λ x. Unit {0}) (λ s. Unit {0}) (λ c us. tt) (λ x q. tt) (λ s x q. (tt, tt)) named_reads (run (annot_args left at name)) (shutting at name) first_named ts args d tt (sign CLOSE_PAREN right ∷ us) tt
      ∙ shut_reads right args us

plain_reads : (left : ℕ) (at : Span) (name : Ident) (right : Span) (ts : List Token) (v : At AnnotValue) → IsValue ts v → (us : List Token)
    → run (annot_args left at name) (ts ++ sign CLOSE_PAREN right ∷ us) ≡ Ok (annot_to at name (plain_arg v ∷ []) right, us)
unfolding annot_args plain_value run
plain_reads left at name right ts v d us = rw ((value_starts ts v d (sign CLOSE_PAREN right ∷ us)).0, (value_starts ts v d (sign CLOSE_PAREN right ∷ us)).1, value_reads ts v d (sign CLOSE_PAREN right ∷ us)) refl

-- A named argument has height 2.
args_joined : (args : List AnnotArg) (x : AnnotArg) → args_height (args ++ x ∷ []) ≡ max (args_height args) (arg_height x)
args_joined [] x = omega arith
args_joined (arg ∷ args) x = omega (arith, args_joined args x)

tall_named : (ts : List Token) (x : AnnotArg) → IsNamed ts x → 2 ≤ arg_height x
tall_named _ _ (grammar.named name assign d) = omega arith

tall_args : (ts : List Token) (args : List AnnotArg) → IsSeparated IsNamed alone joined ts args → 2 ≤ args_height args
tall_args _ _ (first_item {tokens} {item = x} i) = omega (arith, tall_named tokens x i)
tall_args _ _ (next_item {before} {tokens} {items = args} {item = x} comma d i) = omega (arith, tall_args before args d, args_joined args x)

-- ---- annotations

-- An annotation as its @ and what is read behind it.
pub record Marked (left : ℕ) (ts : List Token) (a : Annot) (us : List Token) : Type 0 where
  pub at : Span
  pub later : List Token
  pub is : ts ≡ sign AT at ∷ later
  pub reads : run (annot_behind left at) (later ++ us) ≡ Ok (a, us)

behind_paren : (left : ℕ) (at : Span) (name : Ident) (opening : Span) (ts : List Token) → run (annot_behind left at) (name_token name ∷ sign OPEN_PAREN opening ∷ ts) ≡ run (annot_args left at name) ts
unfolding annot_behind run
behind_paren left at name opening ts = refl

bare_reads : (left : ℕ) (at : Span) (name : Ident) (us : List Token) → look (a_sign OPEN_PAREN) us ≡ None → run (annot_behind left at) (name_token name ∷ us) ≡ Ok (annot_to at name [] name.span, us)
unfolding annot_behind run
bare_reads left at name us c = rw c refl

empty_reads : (left : ℕ) (at : Span) (name : Ident) (right : Span) (us : List Token) → run (annot_args left at name) (sign CLOSE_PAREN right ∷ us) ≡ Ok (annot_to at name [] right, us)
unfolding annot_args run
empty_reads left at name right us = refl

pub annot_marked : (left : ℕ) (ts : List Token) (a : Annot) → IsAnnot ts a → annot_height a ≤ left → (us : List Token) → look (a_sign OPEN_PAREN) us ≡ None → Marked left ts a us
annot_marked left _ _ (grammar.bare at name) le us c = record { at = at; later = name_token name ∷ []; is = refl; reads = bare_reads left at name us c }
annot_marked left _ _ (grammar.no_args at name opening right) le us c = record {
  at = at;
  later = name_token name ∷ sign OPEN_PAREN opening ∷ sign CLOSE_PAREN right ∷ [];
  is = refl;
  reads = behind_paren left at name opening (sign CLOSE_PAREN right ∷ us) ∙ empty_reads left at name right us;
}
annot_marked left _ _ (grammar.plain at name opening right {tokens} {found} d) le us c = record {
  at = at;
  later = name_token name ∷ sign OPEN_PAREN opening ∷ (tokens ++ sign CLOSE_PAREN right ∷ []);
  is = refl;
  reads = ap (λ y. run (annot_behind left at) (name_token name ∷ sign OPEN_PAREN opening ∷ y)) (append_assoc tokens (sign CLOSE_PAREN right ∷ []) us)
      ∙ behind_paren left at name opening (tokens ++ sign CLOSE_PAREN right ∷ us) ∙ plain_reads left at name right tokens found d us;
}
annot_marked left _ _ (grammar.with_names at name opening right {tokens} {args} d) le us c = record {
  at = at;
  later = name_token name ∷ sign OPEN_PAREN opening ∷ (tokens ++ sign CLOSE_PAREN right ∷ []);
  is = refl;
  reads = ap (λ y. run (annot_behind left at) (name_token name ∷ sign OPEN_PAREN opening ∷ y)) (append_assoc tokens (sign CLOSE_PAREN right ∷ []) us)
      ∙ behind_paren left at name opening (tokens ++ sign CLOSE_PAREN right ∷ us) ∙ pairs_read left at name (omega (arith, le, tall_args tokens args d)) right tokens args d us;
}

pub tall_annot : (a : Annot) → 2 ≤ annot_height a
tall_annot a = omega arith

pub annot_reads : (left : ℕ) (ts : List Token) (a : Annot) → IsAnnot ts a → annot_height a ≤ left → (us : List Token) → look (a_sign OPEN_PAREN) us ≡ None → run (annot left) (ts ++ us) ≡ Ok (a, us)
unfolding annot run
annot_reads left ts a d le us c =
    let m = annot_marked left ts a d le us c in
    rw (m.is, le-leb 2 left (omega (arith, le, tall_annot a)), m.reads) refl

pub annot_starts : (n : ℕ) → (AT == n) ≡ false → (ts : List Token) (a : Annot) → IsAnnot ts a → (us : List Token) → look (a_sign n) (ts ++ us) ≡ None
annot_starts n e _ _ (grammar.bare at name) us = rw e refl
annot_starts n e _ _ (grammar.no_args at name opening right) us = rw e refl
annot_starts n e _ _ (grammar.plain at name opening right d) us = rw e refl
annot_starts n e _ _ (grammar.with_names at name opening right d) us = rw e refl

pub annot_takes : (ts : List Token) (a : Annot) → IsAnnot ts a → 0 < length ts
annot_takes _ _ (grammar.bare at name) = omega arith
annot_takes _ _ (grammar.no_args at name opening right) = omega arith
annot_takes _ _ (grammar.plain at name opening right d) = omega arith
annot_takes _ _ (grammar.with_names at name opening right d) = omega arith

-- ---- lists of annotations

-- what may follow an annotation
abbrev pub NoParen : List Token → Type 0
NoParen us = look (a_sign OPEN_PAREN) us ≡ None

pub annot_turn : (left : ℕ) (notes : Notes) (ts : List Token) (a : Annot) → IsAnnot ts a → annot_height a ≤ left → (us : List Token) → NoParen us → run (next_annot left notes) (ts ++ us) ≡ Ok (On (with_note notes a), us)
unfolding next_annot run
annot_turn left notes ts a d le us c =
    let m = annot_marked left ts a d le us c in
    rw (m.is, le-leb 2 left (omega (arith, le, tall_annot a)), m.reads) refl

pub notes_read : (left : ℕ) (ts : List Token) (notes : Notes) → IsNotes ts notes → notes.height ≤ left → (us : List Token) → NoParen us → run (annots left) (ts ++ us) ≡ run (annots_from left notes) us
unfolding annots annots_from
notes_read left ts notes d le us c = repeated_reads IsAnnot no_notes with_note (next_annot left) NoParen (λ a. annot_height a ≤ left) (λ n. n.height ≤ left)
    (λ ts a i us. annot_starts OPEN_PAREN refl ts a i us) annot_takes (λ n a q. (omega (arith, q), omega (arith, q))) (annot_turn left) ts notes d le us c

pub notes_done : (left : ℕ) (notes : Notes) (us : List Token) → look (a_sign AT) us ≡ None → run (annots_from left notes) us ≡ Ok (notes, us)
unfolding annots_from next_annot run
notes_done left notes us h =
    let one : run (next_annot left notes) us ≡ Ok (Done notes, us) = rw h refl in
    loop_done (next_annot left) notes notes us us one
