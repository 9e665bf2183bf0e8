-- A text has one list of tokens or one cause of failure, and never both.
use Rattle.std.proofs.Common.{◌≡◌, ℕ, ◌+◌, ◌≤◌, List, [], ◌∷◌, ◌++◌, length, take, Option, Some, None, refl, sym, ap, subst, ◌∙◌, length-append, arith, inl, inr}
use Rattle.ix_lexer.specs.declared.elements.Element.{Element}
use Rattle.ix_lexer.specs.declared.elements.Element.TheVariants as element
use Rattle.ix_lexer.specs.declared.token.Token.{Token}
use Rattle.ix_lexer.specs.declared.token.TokenKind.{TokenKind}
use Rattle.ix_lexer.specs.declared.token.LexError.{LexError}
use Rattle.ix_lexer.specs.declared.token.LexError.TheVariants as error
use Rattle.ix_lexer.specs.Characters.{Text}
use Rattle.ix_lexer.specs.Elements.{IsElement}
use Rattle.ix_lexer.specs.Numbers.{is_hexadecimal}
use Rattle.ix_lexer.specs.Scan.{Found, element_at}
use Rattle.ix_lexer.specs.Tokens.{Longest, kind_of, number_kind, Reads, none, gap, one, most_tokens, Stops, Complete, Stopped}
use Rattle.ix_lexer.proofs.LongestElement.{found}
use Rattle.ix_lexer.proofs.OneReading.{found_longest, longest_found, compare, take_front}

-- ---- what stops a reading, from the element at its place

abbrev judged : Element → ℕ → Option TokenKind → Option LexError
judged element.OpenComment at what = Some (error.OpenComment at)
judged element.OpenString at what = Some (error.OpenString at)
judged element.Gap at what = None
judged element.Number at None = Some (error.BadNumber at)
judged _ at _ = Some (error.TooMany at)

abbrev judge : ℕ → Text → Found → Option LexError
judge at text None = Some (error.BadChar at)
judge at text (Some r) = judged r.0 at (kind_of r.0 (take r.1 text))

abbrev verdict : ℕ → Text → Option LexError
verdict at [] = None
verdict at (c ∷ cs) = judge at (c ∷ cs) (element_at (c ∷ cs))

nothing_at_end : (which : Element) (n : ℕ) → element_at [] ≡ found which n → ⊥
unfolding element_at
nothing_at_end which n h = cc

verdict_of : (which : Element) (w text : Text) (at : ℕ) → Longest which w text → verdict at text ≡ judged which at (kind_of which w)
verdict_of which w [] at l = absurd (nothing_at_end which (length w) (found_longest which w [] l))
verdict_of which w (c ∷ cs) at l =
    ap (judge at (c ∷ cs)) (found_longest which w (c ∷ cs) l) ∙ ap (λ u. judged which at (kind_of which u)) (ap (take (length w)) l.1.1 ∙ take_front w l.1.0)

with_kind : (which : Element) (w : Text) (at : ℕ) (what : TokenKind) → kind_of which w ≡ Some what → judged which at (kind_of which w) ≡ Some (error.TooMany at)
with_kind element.Gap w at what h = cc
with_kind element.OpenComment w at what h = cc
with_kind element.OpenString w at what h = cc
with_kind element.Word w at what h = refl
with_kind element.Quoted w at what h = refl
with_kind element.Sign w at what h = refl
with_kind element.Number w at what h = rw h refl

no_element : (at : ℕ) (text : Text) → 1 ≤ length text → ((which : Element) (w rest : Text) → text ≡ w ++ rest → IsElement which w → ⊥) → (o : Found) → element_at text ≡ o → verdict at text ≡ Some (error.BadChar at)
no_element at [] h free o e = absurd (omega arith)
no_element at (c ∷ cs) h free None e = ap (judge at (c ∷ cs)) e
no_element at (c ∷ cs) h free (Some r) e = let l = longest_found r.0 r.1 (c ∷ cs) e in absurd (free r.0 l.0 l.2.1.0 l.2.1.1 l.2.0)

stops_verdict : (why : LexError) (count at : ℕ) (text : Text) → Stops why count at text → verdict at text ≡ Some why
stops_verdict (error.BadChar place) count at text s = no_element at text s.1 s.2 (element_at text) refl ∙ ap (λ k. Some (error.BadChar k)) (sym s.0)
stops_verdict (error.OpenComment place) count at text s = verdict_of element.OpenComment s.1.0 text at s.1.1 ∙ ap (λ k. Some (error.OpenComment k)) (sym s.0)
stops_verdict (error.OpenString place) count at text s = verdict_of element.OpenString s.1.0 text at s.1.1 ∙ ap (λ k. Some (error.OpenString k)) (sym s.0)
stops_verdict (error.BadNumber place) count at text s =
    verdict_of element.Number s.1.0 text at s.1.1 ∙ ap (λ o. judged element.Number at (number_kind (is_hexadecimal s.1.0) o)) s.1.2 ∙ ap (λ k. Some (error.BadNumber k)) (sym s.0)
stops_verdict (error.TooMany place) count at text s =
    verdict_of s.2.0 s.2.1 text at s.2.3 ∙ with_kind s.2.0 s.2.1 at s.2.2 s.2.4 ∙ ap (λ k. Some (error.TooMany k)) (sym s.0)
stops_verdict (error.BadUtf8 place) count at text s = absurd s
stops_verdict error.Memory count at text s = absurd s

full : (why : LexError) (count at : ℕ) (text : Text) → Stops why count at text → why ≡ error.TooMany at → count ≡ most_tokens
full why count at text s h = let t = subst (λ y. Stops y count at text) h s in t.1

-- ---- a reading that stops, or is at the end, does not go on

abbrev Halts : ℕ → ℕ → Text → Type 0
Halts count at text = (to : ℕ) (left : Text) (more : List Token) → Reads at text more to left → count + length more ≤ most_tokens → (more ≡ []) × (to ≡ at) × (left ≡ text)

halts_where_it_stops : (why : LexError) (count at : ℕ) (text : Text) → Stops why count at text → Halts count at text
halts_where_it_stops why count at text s _ _ _ none h = (refl, refl, refl)
halts_where_it_stops why count at text s _ _ _ (gap w rest d l r) h =
    let v = stops_verdict why count at text s in
    let u = verdict_of element.Gap w text at l in absurd cc
halts_where_it_stops why count at text s _ _ _ (one which w rest what d l k r) h =
    let v : verdict at text ≡ Some why = stops_verdict why count at text s in
    let u : verdict at text ≡ Some (error.TooMany at) = verdict_of which w text at l ∙ with_kind which w at what k in
    let same : why ≡ error.TooMany at = cc in
    absurd (omega (arith, full why count at text s same))

halts_at_end : (count at : ℕ) → Halts count at []
halts_at_end count at _ _ _ none h = (refl, refl, refl)
halts_at_end count at _ _ _ (gap w rest d l r) h = absurd (nothing_at_end element.Gap (length w) (found_longest element.Gap w [] l))
halts_at_end count at _ _ _ (one which w rest what d l k r) h = absurd (nothing_at_end which (length w) (found_longest which w [] l))

append_nothing : (ts more : List Token) → more ≡ [] → ts ++ more ≡ ts
append_nothing [] more h = h
append_nothing (t ∷ ts) more h = ap (λ us. t ∷ us) (append_nothing ts more h)

one_end : {text : Text} {ts us : List Token} {at bt : ℕ} {left last : Text} → Reads 0 text ts at left → Reads 0 text us bt last → length ts ≤ most_tokens → length us ≤ most_tokens
    → Halts (length ts) at left → Halts (length us) bt last → (ts ≡ us) × (at ≡ bt) × (left ≡ last)
one_end {text} {ts} {us} {at} {bt} {left} {last} r s m n h k =
    elim (compare r s) [
      | inl g ↦
          let e = h _ _ g.0 g.1 (omega (arith, ap length g.2, length-append ts g.0)) in
          (sym (append_nothing ts g.0 e.0) ∙ sym g.2, sym e.1, sym e.2)
      | inr g ↦
          let e = k _ _ g.0 g.1 (omega (arith, ap length g.2, length-append us g.0)) in
          (g.2 ∙ append_nothing us g.0 e.0, e.1, e.2)
    ]

-- ---- the laws

pub one_list : (text : Text) (ts us : List Token) → Complete text ts → Complete text us → length ts ≤ most_tokens → length us ≤ most_tokens → ts ≡ us
one_list text ts us a b m n = (one_end a.1 b.1 m n (halts_at_end (length ts) a.0) (halts_at_end (length us) b.0)).0

pub not_both : (text : Text) (ts : List Token) (why : LexError) → Complete text ts → length ts ≤ most_tokens → Stopped text why → ⊥
not_both text ts why a m b =
    let w = one_end a.1 b.3 m b.4 (halts_at_end (length ts) a.0) (halts_where_it_stops why (length b.0) b.1 b.2 b.5) in
    let v : verdict b.1 [] ≡ Some why = ap (verdict b.1) w.2 ∙ stops_verdict why (length b.0) b.1 b.2 b.5 in cc

pub one_cause : (text : Text) (x y : LexError) → Stopped text x → Stopped text y → x ≡ y
one_cause text x y a b =
    let w = one_end a.3 b.3 a.4 b.4 (halts_where_it_stops x (length a.0) a.1 a.2 a.5) (halts_where_it_stops y (length b.0) b.1 b.2 b.5) in
    let v : verdict a.1 a.2 ≡ Some x = stops_verdict x (length a.0) a.1 a.2 a.5 in
    let u : verdict b.1 b.2 ≡ Some y = stops_verdict y (length b.0) b.1 b.2 b.5 in
    let same : verdict a.1 a.2 ≡ verdict b.1 b.2 = ap (λ n. verdict n a.2) w.1 ∙ ap (verdict b.1) w.2 in cc
