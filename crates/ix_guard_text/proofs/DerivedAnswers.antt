-- What the lexer and the parser may answer to bytes that derive a tree: that tree up to places, or that they are too many tokens or too deep.
use Rattle.std.proofs.Common.{◌≡◌, ℕ, ◌+◌, List, [], ◌∷◌, ◌++◌, length, take, Option, Some, None, Ok, Err, refl, sym, ap, subst, ◌∙◌, length-append, arith, ◌⊎◌, inl, inr}
use Rattle.ix_lexer.specs.declared.elements.Element.{Element}
use Rattle.ix_lexer.specs.declared.elements.Element.TheVariants as element
use Rattle.ix_lexer.specs.declared.token.Token.{Token}
use Rattle.ix_lexer.specs.declared.token.TokenKind.{TokenKind}
use Rattle.ix_lexer.specs.declared.token.LexError.{LexError}
use Rattle.ix_lexer.specs.declared.token.LexError.TheVariants as error
use Rattle.ix_lexer.specs.Characters.{Text}
use Rattle.ix_lexer.specs.Numbers.{is_hexadecimal, number_of}
use Rattle.ix_lexer.specs.Tokens.{Longest, kind_of, number_kind, Reads, none, gap, one, Stops, Complete, Stopped, StopsFirst, first_escape, Spells, Tokens, Fails}
use Rattle.ix_lexer.proofs.LongestElement.{found_same}
use Rattle.ix_lexer.proofs.OneReading.{found_longest, take_front, compare}
use Rattle.ix_lexer.proofs.WholeText.{same_text}
use Rattle.ix_tree.specs.declared.decl.Unit.{Unit as Source}
use Rattle.ix_grammar.specs.declared.classes.FoundUnit.{FoundUnit}
use Rattle.ix_grammar.specs.declared.error.ParseError.TheVariants as refusal
use Rattle.ix_grammar.specs.SourceGrammar.{IsSource}
use Rattle.ix_grammar.specs.Refusals.{HasTree, Refused}
use Rattle.ix_grammar_rules.specs.declared.stop.Stop.TheVariants as stop
use Rattle.ix_grammar_rules.specs.Rule.{Outcome, run}
use Rattle.ix_grammar_rules.specs.ClassRules.{program}
use Rattle.ix_grammar_rules.specs.SourceRules.{parts, source}
use Rattle.ix_grammar_rules.proofs.OverRules.{Further}
use Rattle.ix_grammar_rules.proofs.SourceLaws.{high_is_read, no_error}
use Rattle.ix_grammar_rules.proofs.SourceOver.{source_over}
use Rattle.ix_parser.proofs.Refusing.{has_tree, never_memory}
use Rattle.ix_parser.proofs.ExactPlaces.{refused_exact}
use Rattle.ix_parser.proofs.Answered.{viable, over}
use Rattle.ix_guard_text.specs.Bare.{bare_source}
use Rattle.ix_guard_text.proofs.LongestAgain.{not_empty}
use Rattle.ix_guard_text.specs.Derived.{Derives}

-- ---- tokens

no_longest : {which : Element} {w text : Text} → Longest which w text → text ≡ [] → ⊥
no_longest {which} {w} l e = absurd (omega (arith, not_empty l.0, ap length (sym l.1.1 ∙ e), length-append w l.1.0))

nothing_read : {at to : ℕ} {text left : Text} {tokens : List Token} → Reads at text tokens to left → text ≡ [] → (tokens ≡ []) × (left ≡ [])
nothing_read none e = (refl, e)
nothing_read (gap w rest s l r) e = absurd (no_longest l e)
nothing_read (one which w rest what s l k r) e = absurd (no_longest l e)

behind_nothing : (ts more : List Token) → more ≡ [] → ts ++ more ≡ ts
behind_nothing [] more e = e
behind_nothing (t ∷ ts) more e = ap (λ l. t ∷ l) (behind_nothing ts more e)

-- a text has one list of tokens, however many
one_complete : (text : Text) (ts us : List Token) → Complete text ts → Complete text us → ts ≡ us
one_complete text ts us a b = elim (compare a.1 b.1) [
  | inl g ↦ sym (behind_nothing ts g.0 (nothing_read g.1 refl).0) ∙ sym g.2
  | inr g ↦ g.2 ∙ behind_nothing us g.0 (nothing_read g.1 refl).0
]

pub one_lexing : (bytes : List ℕ) (ts us : List Token) → Tokens bytes ts → Tokens bytes us → ts ≡ us
one_lexing bytes ts us a b = one_complete a.0 ts us a.2 (subst (λ t. Complete t us) (same_text bytes b.0 a.0 b.1 a.1) b.2)

-- ---- why bytes that have tokens may be refused

abbrev TooMany : LexError → Type 0
TooMany why = (place : ℕ) × (why ≡ error.TooMany place)

stops_at_end : (why : LexError) (count at : ℕ) (text : Text) → Stops why count at text → text ≡ [] → TooMany why
stops_at_end (error.BadChar place) count at text s e = absurd (omega (arith, s.1, ap length e))
stops_at_end (error.OpenComment place) count at text s e = absurd (no_longest s.1.1 e)
stops_at_end (error.OpenString place) count at text s e = absurd (no_longest s.1.1 e)
stops_at_end (error.BadNumber place) count at text s e = absurd (no_longest s.1.1 e)
stops_at_end (error.TooMany place) count at text s e = (place, refl)
stops_at_end (error.BadUtf8 place) count at text s e = absurd s
stops_at_end error.Memory count at text s e = absurd s

-- two longest elements are one
one_element : (x y : Element) (w v text : Text) → Longest x w text → Longest y v text → (x ≡ y) × (w ≡ v)
one_element x y w v text l m =
    let same = found_same x y (length w) (length v) (sym (found_longest x w text l) ∙ found_longest y v text m) in
    let first : take (length w) text ≡ w = ap (take (length w)) l.1.1 ∙ take_front w l.1.0 in
    let second : take (length v) text ≡ v = ap (take (length v)) m.1.1 ∙ take_front v m.1.0 in
    (same.0, sym first ∙ ap (λ n. take n text) same.1 ∙ second)

-- a gap or a token is there
stops_before : (why : LexError) (count at : ℕ) (text : Text) → Stops why count at text → (which : Element) (w : Text) → Longest which w text → ((which ≡ element.Gap) ⊎ ((what : TokenKind) × (kind_of which w ≡ Some what))) → TooMany why
stops_before (error.BadChar place) count at text s which w l known = absurd (s.2 which w l.1.0 l.1.1 l.0)
stops_before (error.OpenComment place) count at text s which w l known =
    let e = one_element element.OpenComment which s.1.0 w text s.1.1 l in
    absurd (elim known [
      | inl g ↦ (let f : element.OpenComment ≡ element.Gap = e.0 ∙ g in cc)
      | inr k ↦ (let f : kind_of element.OpenComment w ≡ Some k.0 = ap (λ x. kind_of x w) e.0 ∙ k.1 in cc)
    ])
stops_before (error.OpenString place) count at text s which w l known =
    let e = one_element element.OpenString which s.1.0 w text s.1.1 l in
    absurd (elim known [
      | inl g ↦ (let f : element.OpenString ≡ element.Gap = e.0 ∙ g in cc)
      | inr k ↦ (let f : kind_of element.OpenString w ≡ Some k.0 = ap (λ x. kind_of x w) e.0 ∙ k.1 in cc)
    ])
stops_before (error.BadNumber place) count at text s which w l known =
    let e = one_element element.Number which s.1.0 w text s.1.1 l in
    absurd (elim known [
      | inl g ↦ (let f : element.Number ≡ element.Gap = e.0 ∙ g in cc)
      | inr k ↦ (
          let f : kind_of element.Number s.1.0 ≡ Some k.0 = ap (kind_of element.Number) e.1 ∙ ap (λ x. kind_of x w) e.0 ∙ k.1 in
          let n : number_of s.1.0 ≡ None = s.1.2 in
          let h : kind_of element.Number s.1.0 ≡ None = ap (number_kind (is_hexadecimal s.1.0)) n in cc
          )
    ])
stops_before (error.TooMany place) count at text s which w l known = (place, refl)
stops_before (error.BadUtf8 place) count at text s which w l known = absurd s
stops_before error.Memory count at text s which w l known = absurd s

stops_reading : (why : LexError) (count : ℕ) {at to : ℕ} {text left : Text} {tokens : List Token} → Reads at text tokens to left → left ≡ [] → Stops why count at text → TooMany why
stops_reading why count {at} {to} {text} none e s = stops_at_end why count at text s e
stops_reading why count {at} {to} {text} (gap w rest d l r) e s = stops_before why count at text s element.Gap w l (inl refl)
stops_reading why count {at} {to} {text} (one which w rest what d l k r) e s = stops_before why count at text s which w l (inr (what, k))

only_too_many : (text : Text) (ts : List Token) (why : LexError) → Complete text ts → Stopped text why → TooMany why
only_too_many text ts why a b = elim (compare a.1 b.3) [
  | inl g ↦ stops_at_end why (length b.0) b.1 b.2 b.5 (nothing_read g.1 refl).1
  | inr g ↦ stops_reading why (length b.0) g.1 refl b.5
]

stopped_first : (escape : Option ℕ) (text : Text) (why : LexError) → escape ≡ None → StopsFirst escape text why → Stopped text why
stopped_first None text why e s = s
stopped_first (Some place) text why e s = absurd (let h = e in cc)

fails_stopped : (bytes : List ℕ) (ts : List Token) (why : LexError) → Tokens bytes ts → (text : Text) → Spells text bytes → StopsFirst (first_escape text) text why → TooMany why
fails_stopped bytes ts why t text spelled s =
    let same : text ≡ t.0 = same_text bytes text t.0 spelled t.1 in
    let stopped : Stopped text why = stopped_first (first_escape text) text why (ap first_escape same ∙ t.3) s in
    only_too_many t.0 ts why t.2 (subst (λ x. Stopped x why) same stopped)

-- Bytes that have tokens are refused only where these are too many.
pub lexed_or_many : (bytes : List ℕ) (ts : List Token) (why : LexError) → Tokens bytes ts → Fails bytes why → TooMany why
lexed_or_many bytes ts (error.BadUtf8 place) t f = absurd (f.0 (t.0, (t.1.0, t.1.1)))
lexed_or_many bytes ts (error.BadChar place) t f = fails_stopped bytes ts (error.BadChar place) t f.0 f.1 f.2
lexed_or_many bytes ts (error.OpenComment place) t f = fails_stopped bytes ts (error.OpenComment place) t f.0 f.1 f.2
lexed_or_many bytes ts (error.OpenString place) t f = fails_stopped bytes ts (error.OpenString place) t f.0 f.1 f.2
lexed_or_many bytes ts (error.BadNumber place) t f = fails_stopped bytes ts (error.BadNumber place) t f.0 f.1 f.2
lexed_or_many bytes ts (error.TooMany place) t f = (place, refl)
lexed_or_many bytes ts error.Memory t f = fails_stopped bytes ts error.Memory t f.0 f.1 f.2

-- ---- trees

same_read : (a b : FoundUnit) (us : List Token) (o : Outcome FoundUnit) → o ≡ Ok (a, []) → o ≡ Ok (b, us) → (us ≡ []) × (b ≡ a)
same_read a b us o e f =
    let read : Outcome FoundUnit → FoundUnit × List Token = λ o. elim o as (λ o. FoundUnit × List Token) [ Ok p ↦ p | Err x ↦ (a, []) ] in
    let h : read (Ok (b, us)) ≡ read (Ok (a, [])) = ap read (sym f ∙ e) in
    (ap (λ (p : FoundUnit × List Token). p.1) h, ap (λ (p : FoundUnit × List Token). p.0) h)

-- tokens are one source, however high
pub one_source : (tokens : List Token) (a b : FoundUnit) → IsSource tokens a → IsSource tokens b → a ≡ b
one_source tokens a b d e =
    (same_read b a [] (run (program parts (a.height + b.height)) tokens) (high_is_read (a.height + b.height) tokens b e (omega arith)) (high_is_read (a.height + b.height) tokens a d (omega arith))).1

abbrev Deep : List Token → Type 0
Deep tokens = (place : ℕ) × Refused tokens (refusal.TooDeep place)

tree_or_deep : (tokens : List Token) (found : FoundUnit) → IsSource tokens found → (o : Outcome FoundUnit) → run source tokens ≡ o → Further o (run (program parts (found.height + 205)) tokens) → HasTree tokens found.unit ⊎ Deep tokens
tree_or_deep tokens found d (Ok (other, left)) h f =
    let e = same_read found other left (run (program parts (found.height + 205)) tokens) (high_is_read (found.height + 205) tokens found d (omega arith)) f in
    inl (subst (λ (x : FoundUnit). HasTree tokens x.unit) e.1 (has_tree tokens left other (ap length e.0) h))
tree_or_deep tokens found d (Err (stop.Syntax, left)) h f =
    absurd (no_error (stop.Syntax, left) found (run (program parts (found.height + 205)) tokens) f (high_is_read (found.height + 205) tokens found d (omega arith)))
tree_or_deep tokens found d (Err (stop.TooDeep, [])) h f = absurd (omega (arith, f))
tree_or_deep tokens found d (Err (stop.TooDeep, token ∷ later)) h f = inr (token.span.from, refused_exact viable over tokens (token ∷ later) stop.TooDeep (λ same. cc) h)
tree_or_deep tokens found d (Err (stop.Memory, left)) h f = absurd (never_memory tokens left h)

-- Tokens that are a source of any height have its tree, or are refused as too deep.
pub source_or_deep : (tokens : List Token) (found : FoundUnit) → IsSource tokens found → HasTree tokens found.unit ⊎ Deep tokens
source_or_deep tokens found d = tree_or_deep tokens found d (run source tokens) refl ((source_over over (found.height + 205) (omega arith)).at tokens)

-- ---- bytes that derive a tree

-- Their tokens have this tree up to places, or are refused as too deep.
pub derived_tree : (bytes : List ℕ) (unit : Source) → Derives bytes unit → (tokens : List Token) → Tokens bytes tokens → ((other : Source) × HasTree tokens other × (bare_source other ≡ bare_source unit)) ⊎ Deep tokens
derived_tree bytes unit d tokens t =
    let same : d.tokens ≡ tokens = one_lexing bytes d.tokens tokens d.text t in
    elim (source_or_deep tokens d.found (subst (λ l. IsSource l d.found) same d.is)) [
      | inl tree ↦ inl (d.found.unit, tree, d.same)
      | inr deep ↦ inr deep
    ]

-- A tree that their tokens have is this one up to places.
pub derived_only : (bytes : List ℕ) (unit : Source) → Derives bytes unit → (tokens : List Token) (other : Source) → Tokens bytes tokens → HasTree tokens other → bare_source other ≡ bare_source unit
derived_only bytes unit d tokens other t (height, low) =
    let same : d.tokens ≡ tokens = one_lexing bytes d.tokens tokens d.text t in
    let one = one_source tokens (record { unit = other; height = height }) d.found low.0 (subst (λ l. IsSource l d.found) same d.is) in
    ap (λ (x : FoundUnit). bare_source x.unit) one ∙ d.same

-- Where they are refused, their tokens are too many.
pub derived_many : (bytes : List ℕ) (unit : Source) → Derives bytes unit → (why : LexError) → Fails bytes why → TooMany why
derived_many bytes unit d why f = lexed_or_many bytes d.tokens why d.text f
