-- The text of an identifier among the tokens of a text is one that is read as an identifier.
use Rattle.std.proofs.Common.{◌≡◌, ℕ, ◌==◌, ◌&&◌, not, Bool, true, false, List, [], ◌∷◌, ◌++◌, Option, Some, None, refl, sym, ap, subst, ◌∙◌, if◌then◌else◌}
use Rattle.std.specs.List.{list_all}
use Rattle.std.specs.Int.{cast_signed, w32}
use Rattle.std.specs.Str.{encode_utf8_all, all_scalars}
use Rattle.std.proofs.lemmas.Bool.{and_parts}
use Rattle.ix_lexer.specs.declared.elements.Element.{Element}
use Rattle.ix_lexer.specs.declared.elements.Element.TheVariants as element
use Rattle.ix_lexer.specs.declared.token.Token.{Token}
use Rattle.ix_lexer.specs.declared.token.TokenKind.{TokenKind}
use Rattle.ix_lexer.specs.declared.token.TokenKind.TheVariants as kind
use Rattle.ix_lexer.specs.Characters.{Text, starts_identifier, continues_identifier}
use Rattle.ix_lexer.specs.Elements.{IsElement, white_space, line_comment, comment, open_comment, word, number, quoted, open_string, sign}
use Rattle.ix_lexer.specs.Numbers.{number_of, is_hexadecimal}
use Rattle.ix_lexer.specs.Tokens.{kind_of, fixed_or, number_kind, number_in, words, between_quotes, Reads, none, gap, one, Tokens}
use Rattle.ix_guard_text.specs.Names.{IsName, IsNamed, HaveNames}

scalars_both : (u v : Text) → all_scalars (u ++ v) ≡ true → (all_scalars u ≡ true) × (all_scalars v ≡ true)
scalars_both [] v h = (refl, h)
scalars_both (c ∷ u) v h = let w = and_parts _ (all_scalars (u ++ v)) h in let r = scalars_both u v w.1 in (rw (w.0, r.0) refl, r.1)

record WordParts (w : Text) : Type 0 where
  pub start : ℕ
  pub later : Text
  pub starts : starts_identifier start ≡ true
  pub continues : list_all continues_identifier later ≡ true
  pub whole : w ≡ start ∷ later

word_parts : {which : Element} {w : Text} → IsElement which w → which ≡ element.Word → WordParts w
word_parts (white_space h) e = cc
word_parts (line_comment h) e = cc
word_parts (comment cs h) e = cc
word_parts open_comment e = cc
word_parts (word {c} {cs} s h) e = record { start = c; later = cs; starts = s; continues = h; whole = refl }
word_parts (number d h) e = cc
word_parts (quoted cs b) e = cc
word_parts open_string e = cc
word_parts (sign k) e = cc

same_text : (a b : List ℕ) → kind.Ident a ≡ kind.Ident b → a ≡ b
same_text a b e = cc

-- a word that is an identifier
word_named : (w : Text) → WordParts w → all_scalars w ≡ true → (what : TokenKind) → kind_of element.Word w ≡ Some what → IsNamed what
word_named w parts scalars (kind.Ident text) k = of_number (number_in 0 words w) refl k
  where
    of_number : (o : Option ℕ) → number_in 0 words w ≡ o → fixed_or (Some (kind.Ident (encode_utf8_all w))) o ≡ Some (kind.Ident text) → IsName text
    of_number None e f =
        let s : encode_utf8_all w ≡ text = same_text (encode_utf8_all w) text (let g : kind.Ident (encode_utf8_all w) ≡ kind.Ident text = cc in g) in
        record {
          start = parts.start;
          later = parts.later;
          starts = parts.starts;
          continues = parts.continues;
          scalars = ap all_scalars (sym parts.whole) ∙ scalars;
          spelled = ap encode_utf8_all (sym parts.whole) ∙ s;
          kind = ap (kind_of element.Word) (sym parts.whole) ∙ k;
        }
    of_number (Some n) e f = cc
word_named w parts scalars (kind.Fixed n) k = tt
word_named w parts scalars (kind.Int n) k = tt
word_named w parts scalars kind.MinLit k = tt
word_named w parts scalars (kind.Str text) k = tt

number_named : (hexadecimal : Bool) (o : Option ℕ) (what : TokenKind) → number_kind hexadecimal o ≡ Some what → IsNamed what
number_named hexadecimal None what h = cc
number_named hexadecimal (Some n) what h =
    elim (not hexadecimal && n == 2147483648) as (λ c. (if c then Some kind.MinLit else Some (kind.Int (cast_signed w32 n))) ≡ Some what → IsNamed what) [
      | true ↦ λ g. let k : kind.MinLit ≡ what = cc in subst IsNamed k tt
      | false ↦ λ g. let k : kind.Int (cast_signed w32 n) ≡ what = cc in subst IsNamed k tt
    ] h

sign_named : (o : Option ℕ) (what : TokenKind) → fixed_or None o ≡ Some what → IsNamed what
sign_named None what h = cc
sign_named (Some n) what h = let k : kind.Fixed n ≡ what = cc in subst IsNamed k tt

element_named : (which : Element) (w : Text) (what : TokenKind) → IsElement which w → all_scalars w ≡ true → kind_of which w ≡ Some what → IsNamed what
element_named element.Word w what i s k = word_named w (word_parts i refl) s what k
element_named element.Number w what i s k = number_named (is_hexadecimal w) (number_of w) what k
element_named element.Quoted w what i s k = let e : kind.Str (encode_utf8_all (between_quotes w)) ≡ what = cc in subst IsNamed e tt
element_named element.Sign w what i s k = sign_named (number_in 53 _ w) what k
element_named element.Gap w what i s k = cc
element_named element.OpenComment w what i s k = cc
element_named element.OpenString w what i s k = cc

read_names : {at to : ℕ} {text left : Text} {tokens : List Token} → Reads at text tokens to left → all_scalars text ≡ true → HaveNames tokens
read_names none h = tt
read_names (gap w rest e l r) h = read_names r (scalars_both w rest (ap all_scalars (sym e) ∙ h)).1
read_names (one which w rest what e l k r) h =
    let s = scalars_both w rest (ap all_scalars (sym e) ∙ h) in (element_named which w what l.0 s.0 k, read_names r s.1)

pub token_names : (bytes : List ℕ) (tokens : List Token) → Tokens bytes tokens → HaveNames tokens
token_names bytes tokens t = read_names t.2.1 t.1.0
