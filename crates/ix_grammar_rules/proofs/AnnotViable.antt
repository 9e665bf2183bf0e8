-- Where annotations stop, what was taken goes on to some with room for them.
use Rattle.std.proofs.Common.{ℕ, ◌≤◌, List, [], ◌∷◌, ◌++◌, sym, subst, arith}
use Rattle.std.proofs.lemmas.List.{append-nil}
use Rattle.std.proofs.lemmas.Bool.{leb-true}
use Rattle.ix_text.specs.declared.span.Span.{Span}
use Rattle.ix_lexer.specs.declared.token.Token.{Token}
use Rattle.ix_lexer.specs.declared.fixed.TheConstants.{AT, ASSIGN, MINUS, OPEN_BRACE, CLOSE_BRACE, OPEN_PAREN, CLOSE_PAREN}
use Rattle.ix_tree.specs.declared.annot.Ident.{Ident}
use Rattle.ix_tree.specs.declared.annot.AnnotValue.TheVariants.{Texts}
use Rattle.ix_grammar.specs.Nodes.{across}
use Rattle.ix_grammar.specs.declared.found.At.{At}
use Rattle.ix_grammar.specs.declared.found.Notes.{Notes}
use Rattle.ix_grammar_rules.specs.Rule.{bind, On, Done}
use Rattle.ix_grammar.specs.Patterns.{sign, name_token, string_token, least_token}
use Rattle.ix_grammar.specs.Lists.{IsSeparated, first_item, no_item, one_more, alone, joined}
use Rattle.ix_grammar_rules.specs.ListRules.{more_of}
use Rattle.ix_grammar.specs.AnnotGrammar as grammar
use Rattle.ix_grammar.specs.AnnotGrammar.{IsText, IsValue, IsNamed, valued, plain_arg, named_arg, annot_to, no_notes, with_note}
use Rattle.ix_grammar_rules.specs.AnnotRules.{text, braced, negative, annot_value, named_value, named, named_args, plain_value, annot_args, annot_behind, next_annot, annots_from, annots}
use Rattle.ix_grammar_rules.proofs.SoundRules.{After}
use Rattle.ix_grammar_rules.proofs.ListsSound.{more_sound}
use Rattle.ix_grammar_rules.proofs.AnnotSound.{a_text_sound, value_sound, named_value_sound, named_sound, pairs_sound, low_args, Noted, annot_behind_sound, NotedAll, next_annot_sound}
use Rattle.ix_grammar_rules.proofs.ViableRules.{Goes, Viable, pure_viable, stop_viable, bind_viable, map_viable, loop_viable, sign_viable, name_viable, number_viable, least_viable, text_viable}
use Rattle.ix_grammar_rules.proofs.ListsViable.{here, some_name, done_goes, ended_viable, more_plain_viable}

-- ---- values

abbrev some_text : At (List ℕ)
some_text = record { value = []; span = here }

text_goes : Goes IsText []
text_goes = (_, _, grammar.text some_text)

a_text_viable : Viable IsText text
unfolding text
a_text_viable = text_viable _ _ _ (λ f. absurd (cc)) (λ f x. pure_viable _) (stop_viable text_goes)

braced_viable : (left : Span) → Viable (λ ts v. IsValue (sign OPEN_BRACE left ∷ ts) v) (braced left)
unfolding braced
braced_viable left = sign_viable _ _ _ _ (λ f. absurd (cc)) (λ f right. pure_viable _)
    (text_viable _ _ _ (λ f. absurd (cc)) (λ f x. ended_viable _ CLOSE_BRACE (λ texts right. valued (Texts texts) (across left right))
    (more_sound IsText alone joined text a_text_sound (alone x.value) _ (first_item (grammar.text x)))
    (more_plain_viable IsText alone joined text a_text_sound a_text_viable (alone x.value) _ (first_item (grammar.text x)))
    (λ found seen d right. grammar.texts left right d))
    (stop_viable (_, _, grammar.no_texts left here)))

negative_viable : (minus : Span) → Viable (λ ts v. IsValue (sign MINUS minus ∷ ts) v) (negative minus)
unfolding negative
negative_viable minus = number_viable _ _ _ (λ f. absurd (cc)) (λ f x. pure_viable _) (least_viable _ _ _ (λ f. absurd (cc)) (λ f s. pure_viable _) (stop_viable (least_token here ∷ [], _, grammar.least minus here)))

value_goes : Goes IsValue []
value_goes = (_, _, grammar.one_text some_text)

pub value_viable : Viable IsValue annot_value
unfolding annot_value
value_viable = sign_viable _ _ _ _ (λ f. absurd (cc)) (λ f minus. negative_viable minus) (number_viable _ _ _ (λ f. absurd (cc)) (λ f x. pure_viable _)
    (text_viable _ _ _ (λ f. absurd (cc)) (λ f x. pure_viable _) (sign_viable _ _ _ _ (λ f. absurd (cc)) (λ f s. pure_viable _) (sign_viable _ _ _ _ (λ f. absurd (cc)) (λ f s. pure_viable _)
    (sign_viable _ _ _ _ (λ f. absurd (cc)) (λ f left. braced_viable left) (stop_viable value_goes))))))

-- ---- arguments

named_goes : (name : Ident) → Goes (λ ts a. IsNamed (name_token name ∷ ts) a) []
named_goes name = (sign ASSIGN here ∷ string_token [] here ∷ [], _, grammar.named name here (grammar.one_text some_text))

named_value_viable : (name : Ident) → Viable (λ ts a. IsNamed (name_token name ∷ ts) a) (named_value name)
unfolding named_value
named_value_viable name = sign_viable _ _ _ _ (λ f. absurd (cc)) (λ f s. map_viable annot_value (named_arg name) value_sound value_viable (λ v seen d. grammar.named name s d)) (stop_viable (named_goes name))

named_viable : Viable IsNamed named
unfolding named
named_viable = name_viable _ _ _ (λ f. absurd (cc)) (λ f name. named_value_viable name) (stop_viable (let (others, a, d) = named_goes some_name in (name_token some_name ∷ others, a, d)))

pairs_viable : (name : Ident) → Viable (λ ts args. IsSeparated IsNamed alone joined (name_token name ∷ ts) args) (bind (named_value name) (λ arg. more_of named joined (alone arg)))
pairs_viable name = bind_viable _ _ (named_value_sound name) (named_value_viable name) (λ arg seen d. done_goes (IsSeparated IsNamed alone joined) (name_token name ∷ seen) (alone arg) (first_item d))
    (λ arg seen d. more_plain_viable IsNamed alone joined named named_sound named_viable (alone arg) (name_token name ∷ seen) (first_item d))

args_viable : (left : ℕ) (at : Span) (name : Ident) (opening : Span) → 2 ≤ left → Viable (λ ts a. Noted left (sign AT at ∷ name_token name ∷ sign OPEN_PAREN opening ∷ ts) a) (annot_args left at name)
unfolding annot_args named_args plain_value
args_viable left at name opening room = sign_viable _ _ _ _ (λ f. absurd (cc)) (λ f right. pure_viable _)
    (name_viable _ _ _ (λ f. (sign CLOSE_PAREN here ∷ [], _, (grammar.no_args at name opening here, room))) (λ fits first. ended_viable _ CLOSE_PAREN (annot_to at name) (pairs_sound first) (pairs_viable first)
    (λ args seen d right. (grammar.with_names at name opening right d, omega (arith, low_args args, leb-true 3 left fits))))
    (ended_viable _ CLOSE_PAREN (λ found right. annot_to at name (plain_arg found ∷ []) right) value_sound value_viable (λ v seen d right. (grammar.plain at name opening right d, room))))

-- ---- annotations

-- behind the @ and behind the name
pub annot_behind_goes : (left : ℕ) (at : Span) → 2 ≤ left → Goes (λ ts a. Noted left (sign AT at ∷ ts) a) []
annot_behind_goes left at room = (name_token some_name ∷ [], _, (grammar.bare at some_name, room))

pub annot_behind_viable : (left : ℕ) (at : Span) → 2 ≤ left → Viable (λ ts a. Noted left (sign AT at ∷ ts) a) (annot_behind left at)
unfolding annot_behind
annot_behind_viable left at room = name_viable _ _ _ (λ f. absurd (cc)) (λ f name. sign_viable _ _ _ _ (λ g. absurd (cc)) (λ g opening. args_viable left at name opening room) (pure_viable _)) (stop_viable (annot_behind_goes left at room))

next_annot_viable : (left : ℕ) (notes : Notes) (front : List Token) → NotedAll left front notes → Viable (After (NotedAll left) (NotedAll left) front) (next_annot left notes)
unfolding next_annot
next_annot_viable left notes front d = sign_viable _ _ _ _ (λ f. ([], Done notes, subst (λ y. NotedAll left y notes) (sym (append-nil front)) d))
    (λ fits at. map_viable _ (λ a. On (with_note notes a)) (annot_behind_sound left at (leb-true 2 left fits)) (annot_behind_viable left at (leb-true 2 left fits)) (λ a seen r. (one_more d.0 r.0, omega (arith, d.1, r.1))))
    (pure_viable _)

pub annots_from_viable : (left : ℕ) (notes : Notes) (front : List Token) → NotedAll left front notes → Viable (λ ts found. NotedAll left (front ++ ts) found) (annots_from left notes)
unfolding annots_from
annots_from_viable left notes front d = loop_viable (next_annot left) (NotedAll left) (NotedAll left) (next_annot_sound left) (next_annot_viable left) (λ s ts r. done_goes (NotedAll left) ts s r) notes front d

pub annots_viable : (left : ℕ) → Viable (NotedAll left) (annots left)
unfolding annots
annots_viable left = annots_from_viable left no_notes [] (no_item, omega arith)
