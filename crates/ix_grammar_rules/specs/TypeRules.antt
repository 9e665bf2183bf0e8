-- How types are read (JLS 4.1 to 4.3, 10.1). The number is the height that is left for a type.
use Rattle.std.specs.Prelude.{ℕ, ◌+◌, ◌-◌, nat_le, true}
use Rattle.ix_text.specs.declared.span.Span.{Span}
use Rattle.ix_lexer.specs.declared.fixed.TheConstants.{AT, INT, BOOLEAN, OPEN_BRACKET, CLOSE_BRACKET}
use Rattle.ix_tree.specs.declared.annot.BaseTree.{BaseTree}
use Rattle.ix_tree.specs.declared.annot.BaseTree.TheVariants.{Int, Boolean, Named}
use Rattle.ix_grammar.specs.declared.found.At.{At}
use Rattle.ix_grammar.specs.declared.found.FoundType.{FoundType}
use Rattle.ix_grammar.specs.declared.found.Notes.{Notes}
use Rattle.ix_grammar_rules.specs.Rule.{Rule, pure, take, bind, stop, loop, Turn, On, Done}
use Rattle.ix_grammar.specs.Patterns.{a_sign, a_name}
use Rattle.ix_grammar.specs.AnnotGrammar.{no_notes, with_note}
use Rattle.ix_grammar_rules.specs.AnnotRules.{annot_behind, annots_from}
use Rattle.ix_grammar.specs.TypeGrammar.{based, base_height, counted, array_of, plain_type}

-- "[" "]", or the end
unfoldable pub next_pair : At ℕ → Rule (Turn (At ℕ) (At ℕ))
next_pair pairs = take (a_sign OPEN_BRACKET) true (λ left. take (a_sign CLOSE_BRACKET) true (λ right. pure (On (counted (pairs.value + 1) right))) stop) (pure (Done pairs))

-- {"[" "]"}, behind so many pairs, of which the last bracket stands there
unfoldable pub pairs : ℕ → Span → Rule (At ℕ)
pairs n last = loop next_pair (counted n last)

-- "]" {"[" "]"}, behind the first bracket
unfoldable pub brackets : At BaseTree → Notes → Rule FoundType
brackets base notes = take (a_sign CLOSE_BRACKET) true (λ right. bind (pairs 1 right) (λ found. pure (array_of base notes found))) stop

-- Behind an @ that follows a base: Ident ["(" .. ")"] {Annot} "[" "]" {"[" "]"}
unfoldable pub noted_array : ℕ → At BaseTree → Span → Rule FoundType
noted_array left base at = bind (bind (annot_behind (left - 1) at) (λ first. annots_from (left - 1) (with_note no_notes first)))
    (λ notes. take (a_sign OPEN_BRACKET) true (λ opening. brackets base notes) stop)

-- Behind a base: nothing, or {Annot} "[" "]" {"[" "]"}. The name of an annotation has two nodes above it.
unfoldable pub type_rest : ℕ → At BaseTree → Rule FoundType
type_rest left base =
    take (a_sign OPEN_BRACKET) (nat_le (1 + base_height base.value) left) (λ opening. brackets base no_notes)
    (take (a_sign AT) (nat_le 3 left) (noted_array left base)
    (pure (plain_type base)))

-- Type = Base | Base {Annot} "[" "]" {"[" "]"}
unfoldable pub type_tree : ℕ → Rule FoundType
type_tree left =
    take (a_sign INT) (nat_le 1 left) (λ span. type_rest left (based Int span))
    (take (a_sign BOOLEAN) (nat_le 1 left) (λ span. type_rest left (based Boolean span))
    (take a_name (nat_le 2 left) (λ name. type_rest left (based (Named name) name.span))
    stop))
