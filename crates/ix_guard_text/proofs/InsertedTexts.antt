-- The tokens of a text in which texts are inserted between its tokens.
use Rattle.std.proofs.Common.{◌≡◌, ℕ, zero, suc, ◌+◌, ◌-◌, ◌≤◌, ◌==◌, ◌&&◌, ◌||◌, not, Bool, true, false, List, [], ◌∷◌, ◌++◌, length, take, drop, Some, refl, sym, ap, subst, ◌∙◌, append_assoc, arith, inl, inr}
use Rattle.std.specs.Str.{encode_utf8_all, all_scalars}
use Rattle.std.proofs.lemmas.Bool.{and_parts, or_cases}
use Rattle.std.proofs.lemmas.Str.{encodes-append}
use Rattle.ix_lexer.specs.declared.elements.Element.{Element}
use Rattle.ix_lexer.specs.declared.elements.Element.TheVariants as element
use Rattle.ix_lexer.specs.declared.token.Token.{Token}
use Rattle.ix_lexer.specs.declared.token.TokenKind.{TokenKind}
use Rattle.ix_lexer.specs.Characters.{Text}
use Rattle.ix_lexer.specs.Scan.{stays_in_line}
use Rattle.ix_lexer.specs.Tokens.{Longest, kind_of, size, token, Reads, one, Tokens}
use Rattle.ix_lexer.proofs.OneReading.{reads_on}
use Rattle.ix_guard_text.specs.Woven.{kinds, Added, with_added, IsInserted, is_word_like, may_open, Woven, done, keep, before, behind}
use Rattle.ix_guard_text.proofs.LongestAgain.{is_wordy, opens, Front, ends, same, inserted, longest_again}
use Rattle.ix_guard_text.proofs.Escapes.{escapes, none_escapes, escapes_none, ends_plain, behind_plain, both_plain, no_backslash}
use Rattle.ix_guard_text.proofs.Gaps.{IsTokenElement, token_element, begins_in_line, token_ends_plain, Step, step, only_gaps, wordy_kind}

-- ---- lists

kinds_both : (ts us : List Token) → kinds (ts ++ us) ≡ kinds ts ++ kinds us
kinds_both [] us = refl
kinds_both (t ∷ ts) us = ap (λ l. t.kind ∷ l) (kinds_both ts us)

take_behind : (u v : List ℕ) (n : ℕ) → length u ≤ n → take n (u ++ v) ≡ u ++ take (n - length u) v
take_behind [] v n le = let e : n - 0 ≡ n = omega arith in ap (λ k. take k v) (sym e)
take_behind (c ∷ u) v zero le = absurd (omega (arith, le))
take_behind (c ∷ u) v (suc n) le = let e : suc n - length (c ∷ u) ≡ n - length u = omega arith in ap (λ l. c ∷ l) (take_behind u v n (omega (arith, le)) ∙ ap (λ k. u ++ take k v) (sym e))

drop_behind : (u v : List ℕ) (n : ℕ) → length u ≤ n → drop n (u ++ v) ≡ drop (n - length u) v
drop_behind [] v n le = let e : n - 0 ≡ n = omega arith in ap (λ k. drop k v) (sym e)
drop_behind (c ∷ u) v zero le = absurd (omega (arith, le))
drop_behind (c ∷ u) v (suc n) le = let e : suc n - length (c ∷ u) ≡ n - length u = omega arith in drop_behind u v n (omega (arith, le)) ∙ ap (λ k. drop k v) (sym e)

-- nothing is inserted before that place
abbrev Later : ℕ → List Added → Type 0
Later at [] = Unit {0}
Later at (new ∷ added) = at ≤ new.place

passed : (at : ℕ) (u v : List ℕ) (added : List Added) → Later (at + length u) added → with_added at (u ++ v) added ≡ u ++ with_added (at + length u) v added
passed at u v [] le = refl
passed at u v (new ∷ added) le =
    let n = new.place - at in
    let m : n - length u ≡ new.place - (at + length u) = omega (arith, le) in
    let fits : length u ≤ n = omega (arith, le) in
    let t : take n (u ++ v) ≡ u ++ take (new.place - (at + length u)) v = take_behind u v n fits ∙ ap (λ k. u ++ take k v) m in
    let d : drop n (u ++ v) ≡ drop (new.place - (at + length u)) v = drop_behind u v n fits ∙ ap (λ k. drop k v) m in
    let whole = ap (λ l. l ++ (new.bytes ++ with_added new.place (drop n (u ++ v)) added)) t ∙ ap (λ l. (u ++ take (new.place - (at + length u)) v) ++ (new.bytes ++ with_added new.place l added)) d in
    whole ∙ append_assoc u (take (new.place - (at + length u)) v) (new.bytes ++ with_added new.place (drop (new.place - (at + length u)) v) added)

-- bytes that are inserted right there
at_once : (at : ℕ) (v : List ℕ) (new : Added) (added : List Added) → new.place ≡ at → with_added at v (new ∷ added) ≡ new.bytes ++ with_added at v added
at_once at v new added e =
    let z : new.place - at ≡ 0 = omega (arith, e) in
    ap (λ k. take k v ++ (new.bytes ++ with_added new.place (drop k v) added)) z ∙ ap (λ k. new.bytes ++ with_added k v added) e

scalars_both : (u v : Text) → all_scalars (u ++ v) ≡ true → (all_scalars u ≡ true) × (all_scalars v ≡ true)
scalars_both [] v h = (refl, h)
scalars_both (c ∷ u) v h = let w = and_parts _ (all_scalars (u ++ v)) h in let r = scalars_both u v w.1 in (rw (w.0, r.0) refl, r.1)

both_scalars : (u v : Text) → all_scalars u ≡ true → all_scalars v ≡ true → all_scalars (u ++ v) ≡ true
both_scalars [] v h k = k
both_scalars (c ∷ u) v h k = let w = and_parts _ (all_scalars u) h in rw (w.0, both_scalars u v w.1 k) refl

-- ---- what the new text is

-- the new text goes on behind an element that may be a word or not
abbrev Goes : Bool → Text → Text → Type 0
Goes word text new = (which : Element) → (which ≡ element.Gap → ⊥) → (is_wordy which ≡ true → word ≡ true) → Front which text new

record Fresh (word : Bool) (at : ℕ) (text : Text) (added : List Added) (news : List Token) (bt : ℕ) : Type 0 where
  pub new : Text
  pub found : List Token
  pub end : ℕ
  pub reads : Reads bt new found end []
  pub same : kinds found ≡ kinds news
  pub bytes : encode_utf8_all new ≡ with_added at (encode_utf8_all text) added
  pub places : Later at added
  pub goes : Goes word text new
  pub scalars : all_scalars text ≡ true → all_scalars new ≡ true
  pub clean : escapes true text ≡ false → escapes true new ≡ false

same_front : (word : Bool) (u v w : Text) → 1 ≤ length u → Goes word (u ++ v) (u ++ w)
same_front word [] v w le = absurd (omega (arith, le))
same_front word (c ∷ u) v w le = λ which some is. same

or_true : (b : Bool) → (b || true) ≡ true
or_true true = refl
or_true false = refl

or_both : (a b : Bool) → (a || (b || true)) ≡ true
or_both true b = refl
or_both false b = or_true b

may_be : (which : Element) (word : Bool) (c : ℕ) → (is_wordy which ≡ true → word ≡ true) → may_open word c ≡ true → opens which c ≡ true
may_be which true c f h =
    elim (or_cases (c == 32) (c == 123 || (c == 105 && false)) h) [
      | inl e ↦ let g : (c == 32) ≡ true = e in rw g refl
      | inr k ↦ elim (or_cases (c == 123) (c == 105 && false) k) [
        | inl e ↦ let g : (c == 123) ≡ true = e in rw g (or_true (c == 32))
        | inr e ↦ let g : false ≡ true = (and_parts (c == 105) false e).1 in cc
      ]
    ]
may_be which false c f h = rw (not_wordy which f) h
  where
    not_wordy : (which : Element) → (is_wordy which ≡ true → false ≡ true) → is_wordy which ≡ false
    not_wordy which f = elim (is_wordy which) as (λ b. (b ≡ true → false ≡ true) → b ≡ false) [ true ↦ λ g. let x : false ≡ true = g refl in cc | false ↦ λ g. refl ] f

inserted_front : (word : Bool) (text : Text) (c : ℕ) (later : Text) → may_open word c ≡ true → Goes word text (c ∷ later)
inserted_front word text c later h = λ which some is. inserted (may_be which word c is h) (λ e. absurd (some e))

-- a gap goes on with an inserted text where a token followed it
gap_opens : (word : Bool) (c : ℕ) → may_open word c ≡ true → opens element.Gap c ≡ true
gap_opens word c h =
    elim (or_cases (c == 32) (c == 123 || (c == 105 && not word)) h) [
      | inl e ↦ let g : (c == 32) ≡ true = e in rw g refl
      | inr k ↦ elim (or_cases (c == 123) (c == 105 && not word) k) [
        | inl e ↦ let g : (c == 123) ≡ true = e in rw g (or_true (c == 32))
        | inr e ↦ let g : (c == 105) ≡ true = (and_parts (c == 105) (not word) e).0 in rw g (or_both (c == 32) (c == 123))
      ]
    ]

abbrev InText : Text → Type 0
InText text = (d : ℕ) × (more : Text) × (text ≡ d ∷ more) × (stays_in_line d ≡ true)

gap_front : (word : Bool) (left : Text) (c : ℕ) (later : Text) → may_open word c ≡ true → InText left → Front element.Gap left (c ∷ later)
gap_front word left c later h begins = inserted (gap_opens word c h) (λ e. begins)

token_front : (word rest new : Text) → InText word → Front element.Gap (word ++ rest) (word ++ new)
token_front [] rest new begins = let e = begins.2 in cc
token_front (c ∷ word) rest new begins = same

front_self : (which : Element) (text : Text) → Front which text text
front_self which [] = ends
front_self which (c ∷ text) = same

later_before : (a b : ℕ) (added : List Added) → a ≤ b → Later b added → Later a added
later_before a b [] le h = tt
later_before a b (new ∷ added) le h = omega (arith, le, h)

in_text : (word rest : Text) → InText word → InText (word ++ rest)
in_text word rest begins = (begins.0, begins.1 ++ rest, ap (λ t. t ++ rest) begins.2, begins.3)

encoded : (u v : Text) → encode_utf8_all (u ++ v) ≡ encode_utf8_all u ++ encode_utf8_all v
encoded u v = encodes-append u v

-- ---- the three ways on

-- What is known of a token that is next, with the gaps before it.
record Next (at : ℕ) (skipped part rest : Text) (to : ℕ) (what : TokenKind) : Type 0 where
  pub which : Element
  pub place : to ≡ at + size skipped + size part
  pub gaps : (bt : ℕ) (new : Text) → Front element.Gap (part ++ rest) new → Reads bt (skipped ++ new) [] (bt + size skipped) new
  pub plain : ends_plain skipped ≡ true
  pub long : Longest which part (part ++ rest)
  pub kind : kind_of which part ≡ Some what
  pub token : IsTokenElement which
  pub begins : InText part
  pub ends : ends_plain part ≡ true

next_of : (at : ℕ) (text : Text) (t : Token) (ts : List Token) (end : ℕ) (s : Step at text t ts end []) → Next at s.gaps.gap s.word s.rest t.span.to t.kind
next_of at text t ts end s =
    let token = token_element s.which s.word t.kind s.kind in
    let begins : InText s.word = begins_in_line s.long.0 token.some in
    record {
      which = s.which;
      place = omega (arith, s.to, s.gaps.place);
      gaps = λ bt new front. s.gaps.again bt new (subst (λ l. Front element.Gap l new) (sym s.whole) front);
      plain = s.gaps.plain begins.0 (begins.1 ++ s.rest) (s.whole ∙ ap (λ l. l ++ s.rest) begins.2) begins.3;
      long = s.long;
      kind = s.kind;
      token = token;
      begins = begins;
      ends = token_ends_plain s.long.0 token.some;
    }

text_of : (at : ℕ) (text : Text) (t : Token) (ts : List Token) (end : ℕ) (s : Step at text t ts end []) → s.gaps.gap ++ (s.word ++ s.rest) ≡ text
text_of at text t ts end s = ap (λ l. s.gaps.gap ++ l) (sym s.whole) ∙ sym s.gaps.whole

some_part : (part : Text) → InText part → 1 ≤ length part
some_part part begins = omega (arith, ap length begins.2)

-- a token that stays as it is, with what is new behind it
abbrev behind_token : (bt : ℕ) (skipped part : Text) → ℕ
behind_token bt skipped part = bt + size skipped + size part

longest_in : (at bt : ℕ) (skipped part rest : Text) (to : ℕ) (what : TokenKind) (added : List Added) (news : List Token) (n : Next at skipped part rest to what) (later : Fresh (is_word_like what) to rest added news bt)
    → Longest n.which part (part ++ later.new)
longest_in at bt skipped part rest to what added news n later =
    longest_again n.which part rest later.new n.long n.token.closed (later.goes n.which n.token.some (λ w. wordy_kind n.which part what n.kind w))

kept : (word : Bool) (at bt : ℕ) (skipped part rest : Text) (t : Token) (added : List Added) (news : List Token) (n : Next at skipped part rest t.span.to t.kind)
    (later : Fresh (is_word_like t.kind) t.span.to rest added news (behind_token bt skipped part)) → Fresh word at (skipped ++ (part ++ rest)) added (t ∷ news) bt
kept word at bt skipped part rest t added news n later =
    let long = longest_in at (behind_token bt skipped part) skipped part rest t.span.to t.kind added news n later in
    let to : ℕ = t.span.to in
    let front = encode_utf8_all skipped in
    let mid = encode_utf8_all part in
    let place : at + length front + length mid ≡ to = sym n.place in
    let places : Later (at + length front + length mid) added = subst (λ k. Later k added) (sym place) later.places in
    record {
      new = skipped ++ (part ++ later.new);
      found = token t.kind (bt + size skipped) (behind_token bt skipped part) ∷ later.found;
      end = later.end;
      reads = reads_on (n.gaps bt (part ++ later.new) (token_front part rest later.new n.begins)) (one n.which part later.new t.kind refl long n.kind later.reads);
      same = ap (λ l. t.kind ∷ l) later.same;
      bytes =
          encoded skipped (part ++ later.new) ∙ ap (λ l. front ++ l) (encoded part later.new ∙ ap (λ l. mid ++ l) (later.bytes ∙ ap (λ k. with_added k (encode_utf8_all rest) added) (sym place)))
          ∙ ap (λ l. front ++ l) (sym (passed (at + length front) mid (encode_utf8_all rest) added places))
          ∙ sym (passed at front (mid ++ encode_utf8_all rest) added (later_before (at + length front) (at + length front + length mid) added (omega arith) places))
          ∙ ap (λ l. with_added at l added) (ap (λ l. front ++ l) (sym (encoded part rest)) ∙ sym (encoded skipped (part ++ rest)));
      places = later_before at to added (omega (arith, n.place)) later.places;
      goes = goes_on skipped;
      scalars = λ h.
          let a = scalars_both skipped (part ++ rest) h in
          let b = scalars_both part rest a.1 in
          both_scalars skipped (part ++ later.new) a.0 (both_scalars part later.new b.0 (later.scalars b.1));
      clean = λ h.
          let a = behind_plain skipped (part ++ rest) n.plain h in
          let b = behind_plain part rest n.ends a.1 in
          both_plain skipped (part ++ later.new) n.plain a.0 (both_plain part later.new n.ends b.0 (later.clean b.1));
    }
  where
    goes_on : (u : Text) → Goes word (u ++ (part ++ rest)) (u ++ (part ++ later.new))
    goes_on [] = same_front word part rest later.new (some_part part n.begins)
    goes_on (c ∷ u) = λ which some is. same

-- a token with an inserted text before it
put_before : (word : Bool) (at bt : ℕ) (skipped part rest : Text) (t : Token) (new : Added) (first : ℕ) (tokens : List Token) (added : List Added) (news : List Token) → new.place ≡ at + size skipped
    → (text : IsInserted new.bytes first tokens) → may_open word first ≡ true → (n : Next at skipped part rest t.span.to t.kind)
    → Fresh (is_word_like t.kind) t.span.to rest added news (behind_token (bt + size skipped) (first ∷ text.later) part) → Fresh word at (skipped ++ (part ++ rest)) (new ∷ added) (tokens ++ t ∷ news) bt
put_before word at bt skipped part rest t new first tokens added news here text may n later =
    let x : Text = first ∷ text.later in
    let bt2 : ℕ = bt + size skipped in
    let long = longest_in at (behind_token bt2 x part) skipped part rest t.span.to t.kind added news n later in
    let to : ℕ = t.span.to in
    let front = encode_utf8_all skipped in
    let mid = encode_utf8_all part in
    let place : at + length front + length mid ≡ to = sym n.place in
    let places : Later (at + length front + length mid) added = subst (λ k. Later k added) (sym place) later.places in
    let read = text.read bt2 (part ++ later.new) in
    let ends_new = no_backslash x text.plain in
    record {
      new = skipped ++ (x ++ (part ++ later.new));
      found = read.found ++ token t.kind (bt2 + size x) (behind_token bt2 x part) ∷ later.found;
      end = later.end;
      reads = reads_on (n.gaps bt (x ++ (part ++ later.new)) (gap_front word (part ++ rest) first (text.later ++ (part ++ later.new)) may (in_text part rest n.begins)))
          (reads_on read.reads (one n.which part later.new t.kind refl long n.kind later.reads));
      same = kinds_both read.found _ ∙ ap (λ l. l ++ (t.kind ∷ kinds later.found)) read.same ∙ ap (λ l. kinds tokens ++ t.kind ∷ l) later.same ∙ sym (kinds_both tokens (t ∷ news));
      bytes =
          encoded skipped (x ++ (part ++ later.new)) ∙ ap (λ l. front ++ l) (encoded x (part ++ later.new) ∙ ap (λ l. l ++ encode_utf8_all (part ++ later.new)) text.spelled
          ∙ ap (λ l. new.bytes ++ l) (encoded part later.new ∙ ap (λ l. mid ++ l) (later.bytes ∙ ap (λ k. with_added k (encode_utf8_all rest) added) (sym place))
          ∙ sym (passed (at + length front) mid (encode_utf8_all rest) added places))
          ∙ sym (at_once (at + length front) (mid ++ encode_utf8_all rest) new added here))
          ∙ sym (passed at front (mid ++ encode_utf8_all rest) (new ∷ added) (omega (arith, here)))
          ∙ ap (λ l. with_added at l (new ∷ added)) (ap (λ l. front ++ l) (sym (encoded part rest)) ∙ sym (encoded skipped (part ++ rest)));
      places = omega (arith, here);
      goes = goes_on skipped;
      scalars = λ h.
          let a = scalars_both skipped (part ++ rest) h in
          let b = scalars_both part rest a.1 in
          both_scalars skipped (x ++ (part ++ later.new)) a.0 (both_scalars x (part ++ later.new) text.scalars (both_scalars part later.new b.0 (later.scalars b.1)));
      clean = λ h.
          let a = behind_plain skipped (part ++ rest) n.plain h in
          let b = behind_plain part rest n.ends a.1 in
          both_plain skipped (x ++ (part ++ later.new)) n.plain a.0 (both_plain x (part ++ later.new) ends_new.1 ends_new.0 (both_plain part later.new n.ends b.0 (later.clean b.1)));
    }
  where
    goes_on : (u : Text) → Goes word (u ++ (part ++ rest)) (u ++ ((first ∷ text.later) ++ (part ++ later.new)))
    goes_on [] = inserted_front word (part ++ rest) first (text.later ++ (part ++ later.new)) may
    goes_on (c ∷ u) = λ which some is. same

-- an inserted text right there
put_there : (word : Bool) (at bt : ℕ) (text : Text) (new : Added) (tokens : List Token) (added : List Added) (news : List Token) → new.place ≡ at → (x : IsInserted new.bytes 32 tokens)
    → Fresh word at text added news (bt + size (32 ∷ x.later)) → Fresh word at text (new ∷ added) (tokens ++ news) bt
put_there word at bt text new tokens added news here x later =
    let u : Text = 32 ∷ x.later in
    let read = x.read bt later.new in
    let ends_new = no_backslash u x.plain in
    record {
      new = u ++ later.new;
      found = read.found ++ later.found;
      end = later.end;
      reads = reads_on read.reads later.reads;
      same = kinds_both read.found later.found ∙ ap (λ l. l ++ kinds later.found) read.same ∙ ap (λ l. kinds tokens ++ l) later.same ∙ sym (kinds_both tokens news);
      bytes = encoded u later.new ∙ ap (λ l. l ++ encode_utf8_all later.new) x.spelled ∙ ap (λ l. new.bytes ++ l) later.bytes ∙ sym (at_once at (encode_utf8_all text) new added here);
      places = omega (arith, here);
      goes = inserted_front word text 32 (x.later ++ later.new) refl;
      scalars = λ h. both_scalars u later.new x.scalars (later.scalars h);
      clean = λ h. both_plain u later.new ends_new.1 ends_new.0 (later.clean h);
    }

fresh : {word last : Bool} {at end : ℕ} {olds news : List Token} {added : List Added} → Woven word at olds added news last end → (text : Text) (stop : ℕ) → Reads at text olds stop [] → (bt : ℕ) → Fresh word at text added news bt
fresh {word} {at = at} done text stop r bt =
    let g = only_gaps r refl in
    let stays : Fresh word at (g.gap ++ []) [] [] bt = record {
      new = g.gap ++ [];
      found = [];
      end = bt + size g.gap;
      reads = g.again bt [] ends;
      same = refl;
      bytes = refl;
      places = tt;
      goes = λ which some is. front_self which (g.gap ++ []);
      scalars = λ h. h;
      clean = λ h. h;
    } in
    subst (λ t. Fresh word at t [] [] bt) (sym g.whole) stays
fresh {word} {at = at} (keep {olds} {news} {added} t w) text stop r bt =
    let s = step r t olds refl in
    let later = fresh w s.rest stop s.later (behind_token bt s.gaps.gap s.word) in
    subst (λ l. Fresh word at l added (t ∷ news) bt) (text_of at text t olds stop s) (kept word at bt s.gaps.gap s.word s.rest t added news (next_of at text t olds stop s) later)
fresh {word} {at = at} (before {olds} {news} {added} t new first tokens here x may w) text stop r bt =
    let s = step r t olds refl in
    let later = fresh w s.rest stop s.later (behind_token (bt + size s.gaps.gap) (first ∷ x.later) s.word) in
    let place : new.place ≡ at + size s.gaps.gap = omega (arith, here, s.from, s.gaps.place) in
    subst (λ l. Fresh word at l (new ∷ added) (tokens ++ t ∷ news) bt) (text_of at text t olds stop s)
    (put_before word at bt s.gaps.gap s.word s.rest t new first tokens added news place x may (next_of at text t olds stop s) later)
fresh {word} {at = at} (behind {olds} {news} {added} new tokens here x w) text stop r bt =
    put_there word at bt text new tokens added news here x (fresh w text stop r (bt + size (32 ∷ x.later)))

-- Where texts are inserted so between the tokens of bytes, the new bytes have tokens of the kinds of the new ones.
pub inserted_tokens : (bytes : List ℕ) (olds news : List Token) (added : List Added) (last : Bool) (end : ℕ) → Tokens bytes olds → Woven true 0 olds added news last end
    → (found : List Token) × Tokens (with_added 0 bytes added) found × (kinds found ≡ kinds news)
inserted_tokens bytes olds news added last end (text, spells, complete, clean) w =
    let f = fresh w text complete.0 complete.1 0 in
    let spelled : encode_utf8_all f.new ≡ with_added 0 bytes added = f.bytes ∙ ap (λ b. with_added 0 b added) spells.1 in
    (f.found, (f.new, (f.scalars spells.0, spelled), (f.end, f.reads), escapes_none true 0 f.new (f.clean (none_escapes true 0 text clean))), f.same)
