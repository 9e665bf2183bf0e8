-- Annotations that are read are in the grammar, and as high as is left at most.
use Rattle.std.proofs.Common.{ℕ, ◌≤◌, List, [], ◌∷◌, ◌++◌, Option, Some, None, sym, subst, arith}
use Rattle.std.proofs.lemmas.List.{append-nil}
use Rattle.std.proofs.lemmas.Bool.{leb-true}
use Rattle.ix_text.specs.declared.span.Span.{Span}
use Rattle.ix_lexer.specs.declared.token.Token.{Token}
use Rattle.ix_lexer.specs.declared.fixed.TheConstants.{AT, MINUS, OPEN_BRACE, OPEN_PAREN}
use Rattle.ix_tree.specs.declared.annot.Ident.{Ident}
use Rattle.ix_tree.specs.declared.annot.Annot.{Annot}
use Rattle.ix_tree.specs.declared.annot.AnnotArg.{AnnotArg}
use Rattle.ix_grammar.specs.declared.found.Notes.{Notes}
use Rattle.ix_grammar_rules.specs.Rule.{bind}
use Rattle.ix_grammar.specs.Patterns.{sign, name_token}
use Rattle.ix_grammar.specs.Lists.{IsSeparated, first_item, no_item, one_more, alone, joined}
use Rattle.ix_grammar_rules.specs.ListRules.{more_of}
use Rattle.ix_grammar.specs.AnnotGrammar as grammar
use Rattle.ix_grammar.specs.AnnotGrammar.{IsText, IsValue, IsNamed, IsAnnot, IsNotes, no_notes, with_note, annot_height, args_height, name_height}
use Rattle.ix_grammar_rules.specs.AnnotRules.{text, braced, negative, annot_value, named_value, named, named_args, plain_value, annot_args, annot_behind, annot, next_annot, annots_from, annots}
use Rattle.ix_grammar_rules.proofs.SoundRules.{Sound, pure_sound, stop_sound, bind_sound, sign_sound, name_sound, number_sound, least_sound, text_sound, loop_sound, After}
use Rattle.ix_grammar_rules.proofs.ListsSound.{sign_fits, name_fits, more_sound}

pub a_text_sound : Sound IsText text
unfolding text
a_text_sound = text_sound _ _ _ (λ x. pure_sound _ (grammar.text x)) stop_sound

braced_sound : (left : Span) → Sound (λ ts v. IsValue (sign OPEN_BRACE left ∷ ts) v) (braced left)
unfolding braced
braced_sound left = sign_sound _ _ _ _ (λ right. pure_sound _ (grammar.no_texts left right))
    (text_sound _ _ _ (λ x. bind_sound _ _ (more_sound IsText alone joined text a_text_sound (alone x.value) _ (first_item (grammar.text x)))
    (λ found seen d. sign_sound _ _ _ _ (λ right. pure_sound _ (grammar.texts left right d)) stop_sound)) stop_sound)

negative_sound : (minus : Span) → Sound (λ ts v. IsValue (sign MINUS minus ∷ ts) v) (negative minus)
unfolding negative
negative_sound minus = number_sound _ _ _ (λ x. pure_sound _ (grammar.minus_number minus x)) (least_sound _ _ _ (λ s. pure_sound _ (grammar.least minus s)) stop_sound)

pub value_sound : Sound IsValue annot_value
unfolding annot_value
value_sound = sign_sound _ _ _ _ negative_sound (number_sound _ _ _ (λ x. pure_sound _ (grammar.number x)) (text_sound _ _ _ (λ x. pure_sound _ (grammar.one_text x))
    (sign_sound _ _ _ _ (λ s. pure_sound _ (grammar.truth s)) (sign_sound _ _ _ _ (λ s. pure_sound _ (grammar.falsity s)) (sign_sound _ _ _ _ braced_sound stop_sound)))))

pub named_value_sound : (name : Ident) → Sound (λ ts a. IsNamed (name_token name ∷ ts) a) (named_value name)
unfolding named_value
named_value_sound name = sign_sound _ _ _ _ (λ s. bind_sound _ _ value_sound (λ v seen d. pure_sound _ (grammar.named name s (subst (λ y. IsValue y v) (sym (append-nil seen)) d)))) stop_sound

pub named_sound : Sound IsNamed named
unfolding named
named_sound = name_sound _ _ _ named_value_sound stop_sound

pub pairs_sound : (name : Ident) → Sound (λ ts args. IsSeparated IsNamed alone joined (name_token name ∷ ts) args) (bind (named_value name) (λ arg. more_of named joined (alone arg)))
pairs_sound name = bind_sound _ _ (named_value_sound name) (λ arg seen d. more_sound IsNamed alone joined named named_sound (alone arg) (name_token name ∷ seen) (first_item d))

-- a name and the argument itself
low_name : (name : Option Ident) → name_height name ≤ 1
low_name None = omega arith
low_name (Some name) = omega arith

pub low_args : (args : List AnnotArg) → args_height args ≤ 2
low_args [] = omega arith
low_args (arg ∷ args) = omega (arith, low_name arg.name, low_args args)

-- An annotation in the grammar, with room for it.
abbrev pub Noted : ℕ → List Token → Annot → Type 0
Noted left ts a = IsAnnot ts a × (annot_height a ≤ left)

args_sound : (left : ℕ) (at : Span) (name : Ident) (opening : Span) → 2 ≤ left → Sound (λ ts a. Noted left (sign AT at ∷ name_token name ∷ sign OPEN_PAREN opening ∷ ts) a) (annot_args left at name)
unfolding annot_args named_args plain_value
args_sound left at name opening room = sign_sound _ _ _ _ (λ right. pure_sound _ (grammar.no_args at name opening right, room))
    (name_fits _ _ _ (λ fits first. bind_sound _ _ (pairs_sound first) (λ args seen d. sign_sound _ _ _ _
    (λ right. pure_sound _ (grammar.with_names at name opening right d, omega (arith, low_args args, leb-true 3 left fits))) stop_sound))
    (bind_sound _ _ value_sound (λ v seen d. sign_sound _ _ _ _ (λ right. pure_sound _ (grammar.plain at name opening right d, room)) stop_sound)))

pub annot_behind_sound : (left : ℕ) (at : Span) → 2 ≤ left → Sound (λ ts a. Noted left (sign AT at ∷ ts) a) (annot_behind left at)
unfolding annot_behind
annot_behind_sound left at room = name_sound _ _ _ (λ name. sign_sound _ _ _ _ (λ opening. args_sound left at name opening room) (pure_sound _ (grammar.bare at name, room))) stop_sound

pub annot_sound : (left : ℕ) → Sound (Noted left) (annot left)
unfolding annot
annot_sound left = sign_fits _ _ _ _ (λ fits at. annot_behind_sound left at (leb-true 2 left fits)) stop_sound

-- Annotations in the grammar, with room for each.
abbrev pub NotedAll : ℕ → List Token → Notes → Type 0
NotedAll left ts notes = IsNotes ts notes × (notes.height ≤ left)

pub next_annot_sound : (left : ℕ) (notes : Notes) (front : List Token) → NotedAll left front notes → Sound (After (NotedAll left) (NotedAll left) front) (next_annot left notes)
unfolding next_annot
next_annot_sound left notes front d = sign_fits _ _ _ _
    (λ fits at. bind_sound _ _ (annot_behind_sound left at (leb-true 2 left fits)) (λ a seen r. pure_sound _
    (subst (λ y. IsNotes (front ++ sign AT at ∷ y) (with_note notes a)) (sym (append-nil seen)) (one_more d.0 r.0), omega (arith, d.1, r.1))))
    (pure_sound _ (subst (λ y. IsNotes y notes) (sym (append-nil front)) d.0, d.1))

pub annots_from_sound : (left : ℕ) (notes : Notes) (front : List Token) → NotedAll left front notes → Sound (λ ts found. NotedAll left (front ++ ts) found) (annots_from left notes)
unfolding annots_from
annots_from_sound left notes front d = loop_sound (next_annot left) (NotedAll left) (NotedAll left) (next_annot_sound left) notes front d

pub annots_sound : (left : ℕ) → Sound (NotedAll left) (annots left)
unfolding annots
annots_sound left = annots_from_sound left no_notes [] (no_item, omega arith)
