-- Readings of texts that are written out, and pieces put together.
use Rattle.std.proofs.Common.{◌≡◌, ℕ, ◌+◌, ◌<◌, ◌==◌, not, Bool, true, false, List, [], ◌∷◌, ◌++◌, length, Some, refl, sym, ap, subst, ◌∙◌, append_assoc, length-append, arith, lit<}
use Rattle.std.specs.List.{list_all, prefix_len}
use Rattle.std.specs.Char.{is_ascii_digit}
use Rattle.std.specs.Str.{encode_utf8_all, all_scalars}
use Rattle.std.proofs.lemmas.Bool.{and_parts}
use Rattle.std.proofs.lemmas.Str.{encodes-append}
use Rattle.ix_lexer.specs.declared.elements.Element.{Element}
use Rattle.ix_lexer.specs.declared.elements.Element.TheVariants as element
use Rattle.ix_lexer.specs.declared.token.Token.{Token}
use Rattle.ix_lexer.specs.declared.token.TokenKind.{TokenKind}
use Rattle.ix_lexer.specs.Characters.{Text, backslash, starts_identifier, continues_identifier, is_white_space}
use Rattle.ix_lexer.specs.Elements.{IsStringBody}
use Rattle.ix_lexer.specs.Scan.{quoted, closing_quote, sign, element_at}
use Rattle.ix_lexer.specs.Tokens.{Longest, kind_of, size, token, Reads, none, gap, one}
use Rattle.ix_lexer.proofs.LongestElement.{found}
use Rattle.ix_lexer.proofs.OneReading.{take_front, reads_on}
use Rattle.ix_lexer.proofs.ReadingSteps.{size_append, longest_take}
use Rattle.ix_lexer.proofs.Scans.{quote_found}
use Rattle.ix_guard_text.specs.Woven.{kinds, IsReadAs, IsInserted}
use Rattle.ix_guard_text.specs.Names.{Piece}
use Rattle.ix_guard_text.proofs.LongestAgain.{starts_ascii}
use Rattle.ix_guard_text.proofs.SignFronts.{begins_word}

-- ---- what is found is the longest

longest_of : (which : Element) (w rest : Text) → element_at (w ++ rest) ≡ found which (length w) → Longest which w (w ++ rest)
longest_of which w rest h = subst (λ x. Longest which x (w ++ rest)) (take_front w rest) (longest_take which (length w) (w ++ rest) h)

run_length : (cs : Text) (d : ℕ) (rest : Text) → list_all continues_identifier cs ≡ true → continues_identifier d ≡ false → prefix_len continues_identifier (cs ++ d ∷ rest) ≡ length cs
run_length [] d rest h s = rw s refl
run_length (c ∷ cs) d rest h s = let w = and_parts (continues_identifier c) (list_all continues_identifier cs) h in rw w.0 (omega (arith, run_length cs d rest w.1 s))

-- a word before a character that doesn't go on with it
pub longest_word : (c : ℕ) (cs : Text) (d : ℕ) (rest : Text) → starts_identifier c ≡ true → list_all continues_identifier cs ≡ true → continues_identifier d ≡ false → Longest element.Word (c ∷ cs) ((c ∷ cs) ++ d ∷ rest)
unfolding element_at
longest_word c cs d rest s h no_more = longest_of element.Word (c ∷ cs) (d ∷ rest) (rw s (ap (λ n. found element.Word (1 + n)) (run_length cs d rest h no_more) ∙ ap (found element.Word) (let e : 1 + length cs ≡ length (c ∷ cs) = omega arith in e)))

-- the number 0 before a character that doesn't go on with it
pub longest_zero : (d : ℕ) (rest : Text) → continues_identifier d ≡ false → Longest element.Number (48 ∷ []) (48 ∷ d ∷ rest)
unfolding element_at
longest_zero d rest no_more = longest_of element.Number (48 ∷ []) (d ∷ rest) (rw (starts_ascii 48 (lit< tt)) (ap (λ n. found element.Number (1 + n)) (run_length [] d rest refl no_more)))

pub longest_blank : (rest : Text) → Longest element.Gap (32 ∷ []) (32 ∷ rest)
unfolding element_at
longest_blank rest = longest_of element.Gap (32 ∷ []) rest (rw (starts_ascii 32 (lit< tt)) refl)

pub longest_string : (cs rest : Text) → IsStringBody cs → Longest element.Quoted (34 ∷ (cs ++ 34 ∷ [])) ((34 ∷ (cs ++ 34 ∷ [])) ++ rest)
unfolding element_at
longest_string cs rest b =
    longest_of element.Quoted (34 ∷ (cs ++ 34 ∷ [])) rest
    (rw (starts_ascii 34 (lit< tt)) (ap (λ x. quoted (closing_quote false 1 x)) (append_assoc cs (34 ∷ []) rest) ∙ ap quoted (quote_found b 1 rest)
    ∙ ap (found element.Quoted) (let e : 1 + length cs + 1 ≡ length (34 ∷ (cs ++ 34 ∷ [])) = omega (arith, length-append cs (34 ∷ [])) in e)))

-- a sign, by what is found
pub longest_sign : (c : ℕ) (cs rest : Text) → c < 128 → begins_word c ≡ false → is_ascii_digit c ≡ false → is_white_space c ≡ false → (c == 34) ≡ false → (c == 47) ≡ false → sign ((c ∷ cs) ++ rest) ≡ found element.Sign (length (c ∷ cs))
    → Longest element.Sign (c ∷ cs) ((c ∷ cs) ++ rest)
unfolding element_at
longest_sign c cs rest low s d b q l is = let e : starts_identifier c ≡ false = starts_ascii c low ∙ s in longest_of element.Sign (c ∷ cs) rest (rw (e, d, b, q, l) is)

-- ---- readings step by step

-- This text is read as tokens of these kinds up to what is left.
pub record ReadsAs (at : ℕ) (text : Text) (what : List TokenKind) (left : Text) : Type 0 where
  pub tokens : List Token
  pub end : ℕ
  pub reads : Reads at text tokens end left
  pub same : kinds tokens ≡ what
  pub place : end + size left ≡ at + size text

pub read_none : (left : Text) (at : ℕ) → ReadsAs at left [] left
read_none left at = record { tokens = []; end = at; reads = none; same = refl; place = refl }

pub read_gap : (w rest : Text) {what : List TokenKind} {left : Text} → Longest element.Gap w (w ++ rest) → ((at : ℕ) → ReadsAs at rest what left) → (at : ℕ) → ReadsAs at (w ++ rest) what left
read_gap w rest {what} {left} l later at =
    let r = later (at + size w) in
    record { tokens = r.tokens; end = r.end; reads = gap w rest refl l r.reads; same = r.same; place = omega (arith, r.place, size_append w rest) }

pub read_one : (which : Element) (w rest : Text) (k : TokenKind) {what : List TokenKind} {left : Text} → Longest which w (w ++ rest) → kind_of which w ≡ Some k → ((at : ℕ) → ReadsAs at rest what left)
    → (at : ℕ) → ReadsAs at (w ++ rest) (k ∷ what) left
read_one which w rest k {what} {left} l is later at =
    let r = later (at + size w) in
    record { tokens = token k at (at + size w) ∷ r.tokens; end = r.end; reads = one which w rest k refl l is r.reads; same = ap (λ ks. k ∷ ks) r.same; place = omega (arith, r.place, size_append w rest) }

-- what is read up to what follows
pub read_as : (text : Text) (tokens : List Token) (at : ℕ) (rest : Text) → ReadsAs at (text ++ rest) (kinds tokens) rest → IsReadAs text tokens at rest
read_as text tokens at rest r =
    let e : r.end ≡ at + size text = omega (arith, r.place, size_append text rest) in
    record { found = r.tokens; reads = subst (λ n. Reads at (text ++ rest) r.tokens n rest) e r.reads; same = r.same }

-- ---- pieces

pub kinds_both : (ts us : List Token) → kinds (ts ++ us) ≡ kinds ts ++ kinds us
kinds_both [] us = refl
kinds_both (t ∷ ts) us = ap (λ l. t.kind ∷ l) (kinds_both ts us)

pub both_all : (test : ℕ → Bool) (u v : Text) → list_all test u ≡ true → list_all test v ≡ true → list_all test (u ++ v) ≡ true
both_all test [] v h k = k
both_all test (c ∷ u) v h k = let w = and_parts (test c) (list_all test u) h in rw (w.0, both_all test u v w.1 k) refl

pub both_scalars : (u v : Text) → all_scalars u ≡ true → all_scalars v ≡ true → all_scalars (u ++ v) ≡ true
both_scalars [] v h k = k
both_scalars (c ∷ u) v h k = let w = and_parts _ (all_scalars u) h in rw (w.0, both_scalars u v w.1 k) refl

abbrev pub no_piece : Piece [] []
no_piece = record {
  text = [];
  spelled = refl;
  scalars = refl;
  plain = refl;
  read = λ at rest. read_as [] [] at rest (read_none rest at);
}

abbrev pub two_pieces : (bytes others : List ℕ) (tokens later : List Token) → Piece bytes tokens → Piece others later → Piece (bytes ++ others) (tokens ++ later)
two_pieces bytes others tokens later p q = record {
  text = p.text ++ q.text;
  spelled = encodes-append p.text q.text ∙ ap (λ l. l ++ encode_utf8_all q.text) p.spelled ∙ ap (λ l. bytes ++ l) q.spelled;
  scalars = both_scalars p.text q.text p.scalars q.scalars;
  plain = both_all (λ c. not (c == backslash)) p.text q.text p.plain q.plain;
  read = λ at rest.
      let one = p.read at (q.text ++ rest) in
      let two = q.read (at + size p.text) rest in
      let reads : Reads at (p.text ++ (q.text ++ rest)) (one.found ++ two.found) (at + size p.text + size q.text) rest = reads_on one.reads two.reads in
      record {
        found = one.found ++ two.found;
        reads = subst (λ n. Reads at ((p.text ++ q.text) ++ rest) (one.found ++ two.found) n rest) (let e : at + size p.text + size q.text ≡ at + size (p.text ++ q.text) = omega (arith, size_append p.text q.text) in e)
            (subst (λ t. Reads at t (one.found ++ two.found) (at + size p.text + size q.text) rest) (sym (append_assoc p.text q.text rest)) reads);
        same = kinds_both one.found two.found ∙ ap (λ l. l ++ kinds two.found) one.same ∙ ap (λ l. kinds tokens ++ l) two.same ∙ sym (kinds_both tokens later);
      };
}

pub inserted_piece : (bytes : List ℕ) (first : ℕ) (later : Text) (tokens : List Token) → (p : Piece bytes tokens) → p.text ≡ first ∷ later → IsInserted bytes first tokens
inserted_piece bytes first later tokens p is = record {
  later = later;
  spelled = ap encode_utf8_all (sym is) ∙ p.spelled;
  scalars = ap all_scalars (sym is) ∙ p.scalars;
  plain = ap (list_all (λ c. not (c == backslash))) (sym is) ∙ p.plain;
  read = λ at rest. subst (λ t. IsReadAs t tokens at rest) is (p.read at rest);
}
