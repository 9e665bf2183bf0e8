-- The tokens of a text in which texts are inserted between its tokens, each old one at its place moved.
use Rattle.std.proofs.Common.{◌≡◌, ℕ, zero, suc, ◌+◌, ◌-◌, ◌≤◌, ◌<◌, ◌==◌, ◌&&◌, ◌||◌, not, Bool, true, false, List, [], ◌∷◌, ◌++◌, length, take, drop, Some, refl, sym, ap, subst, ◌∙◌, append_assoc, arith, inl, inr}
use Rattle.std.specs.Str.{encode_utf8_all, all_scalars}
use Rattle.std.proofs.lemmas.Bool.{and_parts, or_cases}
use Rattle.std.proofs.lemmas.Str.{encodes-append, length-le-encodes}
use Rattle.ix_lexer.specs.declared.elements.Element.{Element}
use Rattle.ix_lexer.specs.declared.elements.Element.TheVariants as element
use Rattle.ix_lexer.specs.declared.token.Token.{Token}
use Rattle.ix_lexer.specs.declared.token.TokenKind.{TokenKind}
use Rattle.ix_lexer.specs.Characters.{Text}
use Rattle.ix_lexer.specs.Scan.{stays_in_line}
use Rattle.ix_lexer.specs.Tokens.{Longest, kind_of, size, token, Reads, none, gap, one, Tokens}
use Rattle.ix_lexer.proofs.OneReading.{reads_on}
use Rattle.ix_guard_text.specs.Woven.{kinds, Added, with_added, IsInserted, is_word_like, may_open}
use Rattle.ix_guard_text.proofs.LongestAgain.{is_wordy, opens, Front, ends, same, inserted, longest_again}
use Rattle.ix_guard_text.proofs.Escapes.{escapes, none_escapes, escapes_none, ends_plain, behind_plain, both_plain, no_backslash}
use Rattle.ix_guard_text.proofs.Gaps.{IsTokenElement, token_element, begins_in_line, token_ends_plain, Step, step, only_gaps, wordy_kind}
use Rattle.ix_guard_text.specs.Moved.{Move, moved_token}
use Rattle.ix_formed.specs.Additions.{AllOf}
use Rattle.ix_guard_text.specs.Interleaved as i
use Rattle.ix_guard_text.specs.Interleaved.{Piece, old, news, moving, Interleaved, done, keep, before, behind, Realised, kept, put}
use Rattle.ix_guard_text.specs.TestParts.{IsNew}
use Rattle.ix_guard_text.proofs.Shifts.{AllFrom, all_before, Moved, moved_first, moved_on, moved_behind, new_within, begins_at, ends_at}

-- ---- lists

-- tokens of the kinds of inserted ones that begin at new places, before others
all_put : (move : Move) (tokens found : List Token) (pieces : List Piece) (others : List Token) → kinds found ≡ kinds tokens → AllOf (λ (t : Token). IsNew move t.span.from) found → Realised move pieces others
    → Realised move (news tokens ++ pieces) (found ++ others)
all_put move [] [] pieces others e n r = r
all_put move [] (f ∷ found) pieces others e n r = cc
all_put move (t ∷ tokens) [] pieces others e n r = cc
all_put move (t ∷ tokens) (f ∷ found) pieces others e n r =
    let k : f.kind ≡ t.kind = cc in
    let l : kinds found ≡ kinds tokens = cc in
    put t f k n.0 (all_put move tokens found pieces others l n.1 r)

read_rises : {at to : ℕ} {text left : Text} {tokens : List Token} → Reads at text tokens to left → at ≤ to
read_rises none = omega arith
read_rises {at} {to} (gap w rest e l r) = omega (arith, read_rises r)
read_rises {at} {to} (one which w rest what e l k r) = omega (arith, read_rises r)

-- Tokens that are read begin within what is read.
begin_within : {P : ℕ → Type 0} {at to : ℕ} {text left : Text} {tokens : List Token} → Reads at text tokens to left → ((place : ℕ) → at ≤ place → place < to → P place) → AllOf (λ (t : Token). P t.span.from) tokens
begin_within none f = tt
begin_within {at = at} (gap w rest e l r) f = begin_within r (λ place le lt. f place (omega (arith, le)) lt)
begin_within {at = at} {to} (one which w rest what e l k r) f =
    let begins = begins_in_line l.0 (token_element which w what k).some in
    let some : 1 ≤ size w = omega (arith, length-le-encodes w, ap length begins.2) in
    (f at (omega arith) (omega (arith, some, read_rises r)), begin_within r (λ place le lt. f place (omega (arith, le)) lt))

take_behind : (u v : List ℕ) (n : ℕ) → length u ≤ n → take n (u ++ v) ≡ u ++ take (n - length u) v
take_behind [] v n le = let e : n - 0 ≡ n = omega arith in ap (λ k. take k v) (sym e)
take_behind (c ∷ u) v zero le = absurd (omega (arith, le))
take_behind (c ∷ u) v (suc n) le = let e : suc n - length (c ∷ u) ≡ n - length u = omega arith in ap (λ l. c ∷ l) (take_behind u v n (omega (arith, le)) ∙ ap (λ k. u ++ take k v) (sym e))

drop_behind : (u v : List ℕ) (n : ℕ) → length u ≤ n → drop n (u ++ v) ≡ drop (n - length u) v
drop_behind [] v n le = let e : n - 0 ≡ n = omega arith in ap (λ k. drop k v) (sym e)
drop_behind (c ∷ u) v zero le = absurd (omega (arith, le))
drop_behind (c ∷ u) v (suc n) le = let e : suc n - length (c ∷ u) ≡ n - length u = omega arith in drop_behind u v n (omega (arith, le)) ∙ ap (λ k. drop k v) (sym e)

-- nothing is inserted before that place
abbrev Later : ℕ → List Added → Type 0
Later at [] = Unit {0}
Later at (new ∷ added) = at ≤ new.place

passed : (at : ℕ) (u v : List ℕ) (added : List Added) → Later (at + length u) added → with_added at (u ++ v) added ≡ u ++ with_added (at + length u) v added
passed at u v [] le = refl
passed at u v (new ∷ added) le =
    let n = new.place - at in
    let m : n - length u ≡ new.place - (at + length u) = omega (arith, le) in
    let fits : length u ≤ n = omega (arith, le) in
    let t : take n (u ++ v) ≡ u ++ take (new.place - (at + length u)) v = take_behind u v n fits ∙ ap (λ k. u ++ take k v) m in
    let d : drop n (u ++ v) ≡ drop (new.place - (at + length u)) v = drop_behind u v n fits ∙ ap (λ k. drop k v) m in
    let whole = ap (λ l. l ++ (new.bytes ++ with_added new.place (drop n (u ++ v)) added)) t ∙ ap (λ l. (u ++ take (new.place - (at + length u)) v) ++ (new.bytes ++ with_added new.place l added)) d in
    whole ∙ append_assoc u (take (new.place - (at + length u)) v) (new.bytes ++ with_added new.place (drop (new.place - (at + length u)) v) added)

-- bytes that are inserted right there
at_once : (at : ℕ) (v : List ℕ) (new : Added) (added : List Added) → new.place ≡ at → with_added at v (new ∷ added) ≡ new.bytes ++ with_added at v added
at_once at v new added e =
    let z : new.place - at ≡ 0 = omega (arith, e) in
    ap (λ k. take k v ++ (new.bytes ++ with_added new.place (drop k v) added)) z ∙ ap (λ k. new.bytes ++ with_added k v added) e

scalars_both : (u v : Text) → all_scalars (u ++ v) ≡ true → (all_scalars u ≡ true) × (all_scalars v ≡ true)
scalars_both [] v h = (refl, h)
scalars_both (c ∷ u) v h = let w = and_parts _ (all_scalars (u ++ v)) h in let r = scalars_both u v w.1 in (rw (w.0, r.0) refl, r.1)

both_scalars : (u v : Text) → all_scalars u ≡ true → all_scalars v ≡ true → all_scalars (u ++ v) ≡ true
both_scalars [] v h k = k
both_scalars (c ∷ u) v h k = let w = and_parts _ (all_scalars u) h in rw (w.0, both_scalars u v w.1 k) refl

-- ---- what the new text is

-- the new text goes on behind an element that may be a word or not
abbrev Goes : Bool → Text → Text → Type 0
Goes word text new = (which : Element) → (which ≡ element.Gap → ⊥) → (is_wordy which ≡ true → word ≡ true) → Front which text new

record Fresh (move : Move) (word : Bool) (at : ℕ) (text : Text) (added : List Added) (pieces : List Piece) (bt by : ℕ) : Type 0 where
  pub new : Text
  pub found : List Token
  pub end : ℕ
  pub reads : Reads bt new found end []
  pub placed : bt ≡ at + by → Moved move at by added → Realised move pieces found
  pub all : AllFrom at added
  pub bytes : encode_utf8_all new ≡ with_added at (encode_utf8_all text) added
  pub places : Later at added
  pub goes : Goes word text new
  pub scalars : all_scalars text ≡ true → all_scalars new ≡ true
  pub clean : escapes true text ≡ false → escapes true new ≡ false

same_front : (word : Bool) (u v w : Text) → 1 ≤ length u → Goes word (u ++ v) (u ++ w)
same_front word [] v w le = absurd (omega (arith, le))
same_front word (c ∷ u) v w le = λ which some is. same

or_true : (b : Bool) → (b || true) ≡ true
or_true true = refl
or_true false = refl

or_both : (a b : Bool) → (a || (b || true)) ≡ true
or_both true b = refl
or_both false b = or_true b

may_be : (which : Element) (word : Bool) (c : ℕ) → (is_wordy which ≡ true → word ≡ true) → may_open word c ≡ true → opens which c ≡ true
may_be which true c f h =
    elim (or_cases (c == 32) (c == 123 || (c == 105 && false)) h) [
      | inl e ↦ let g : (c == 32) ≡ true = e in rw g refl
      | inr k ↦ elim (or_cases (c == 123) (c == 105 && false) k) [
        | inl e ↦ let g : (c == 123) ≡ true = e in rw g (or_true (c == 32))
        | inr e ↦ let g : false ≡ true = (and_parts (c == 105) false e).1 in cc
      ]
    ]
may_be which false c f h = rw (not_wordy which f) h
  where
    not_wordy : (which : Element) → (is_wordy which ≡ true → false ≡ true) → is_wordy which ≡ false
    not_wordy which f = elim (is_wordy which) as (λ b. (b ≡ true → false ≡ true) → b ≡ false) [ true ↦ λ g. let x : false ≡ true = g refl in cc | false ↦ λ g. refl ] f

inserted_front : (word : Bool) (text : Text) (c : ℕ) (later : Text) → may_open word c ≡ true → Goes word text (c ∷ later)
inserted_front word text c later h = λ which some is. inserted (may_be which word c is h) (λ e. absurd (some e))

-- a gap goes on with an inserted text where a token followed it
gap_opens : (word : Bool) (c : ℕ) → may_open word c ≡ true → opens element.Gap c ≡ true
gap_opens word c h =
    elim (or_cases (c == 32) (c == 123 || (c == 105 && not word)) h) [
      | inl e ↦ let g : (c == 32) ≡ true = e in rw g refl
      | inr k ↦ elim (or_cases (c == 123) (c == 105 && not word) k) [
        | inl e ↦ let g : (c == 123) ≡ true = e in rw g (or_true (c == 32))
        | inr e ↦ let g : (c == 105) ≡ true = (and_parts (c == 105) (not word) e).0 in rw g (or_both (c == 32) (c == 123))
      ]
    ]

abbrev InText : Text → Type 0
InText text = (d : ℕ) × (more : Text) × (text ≡ d ∷ more) × (stays_in_line d ≡ true)

gap_front : (word : Bool) (left : Text) (c : ℕ) (later : Text) → may_open word c ≡ true → InText left → Front element.Gap left (c ∷ later)
gap_front word left c later h begins = inserted (gap_opens word c h) (λ e. begins)

token_front : (word rest new : Text) → InText word → Front element.Gap (word ++ rest) (word ++ new)
token_front [] rest new begins = let e = begins.2 in cc
token_front (c ∷ word) rest new begins = same

front_self : (which : Element) (text : Text) → Front which text text
front_self which [] = ends
front_self which (c ∷ text) = same

later_before : (a b : ℕ) (added : List Added) → a ≤ b → Later b added → Later a added
later_before a b [] le h = tt
later_before a b (new ∷ added) le h = omega (arith, le, h)

in_text : (word rest : Text) → InText word → InText (word ++ rest)
in_text word rest begins = (begins.0, begins.1 ++ rest, ap (λ t. t ++ rest) begins.2, begins.3)

encoded : (u v : Text) → encode_utf8_all (u ++ v) ≡ encode_utf8_all u ++ encode_utf8_all v
encoded u v = encodes-append u v

-- ---- the three ways on

-- What is known of a token that is next, with the gaps before it.
record Next (at : ℕ) (skipped part rest : Text) (from to : ℕ) (what : TokenKind) : Type 0 where
  pub which : Element
  pub start : from ≡ at + size skipped
  pub some : 1 ≤ size part
  pub place : to ≡ at + size skipped + size part
  pub gaps : (bt : ℕ) (new : Text) → Front element.Gap (part ++ rest) new → Reads bt (skipped ++ new) [] (bt + size skipped) new
  pub plain : ends_plain skipped ≡ true
  pub long : Longest which part (part ++ rest)
  pub kind : kind_of which part ≡ Some what
  pub token : IsTokenElement which
  pub begins : InText part
  pub ends : ends_plain part ≡ true

some_part : (part : Text) → InText part → 1 ≤ length part
some_part part begins = omega (arith, ap length begins.2)

next_of : (at : ℕ) (text : Text) (t : Token) (ts : List Token) (end : ℕ) (s : Step at text t ts end []) → Next at s.gaps.gap s.word s.rest t.span.from t.span.to t.kind
next_of at text t ts end s =
    let token = token_element s.which s.word t.kind s.kind in
    let begins : InText s.word = begins_in_line s.long.0 token.some in
    record {
      which = s.which;
      start = omega (arith, s.from, s.gaps.place);
      some = omega (arith, length-le-encodes s.word, some_part s.word begins);
      place = omega (arith, s.to, s.gaps.place);
      gaps = λ bt new front. s.gaps.again bt new (subst (λ l. Front element.Gap l new) (sym s.whole) front);
      plain = s.gaps.plain begins.0 (begins.1 ++ s.rest) (s.whole ∙ ap (λ l. l ++ s.rest) begins.2) begins.3;
      long = s.long;
      kind = s.kind;
      token = token;
      begins = begins;
      ends = token_ends_plain s.long.0 token.some;
    }

text_of : (at : ℕ) (text : Text) (t : Token) (ts : List Token) (end : ℕ) (s : Step at text t ts end []) → s.gaps.gap ++ (s.word ++ s.rest) ≡ text
text_of at text t ts end s = ap (λ l. s.gaps.gap ++ l) (sym s.whole) ∙ sym s.gaps.whole

-- a token that stays as it is, with what is new behind it
abbrev behind_token : (bt : ℕ) (skipped part : Text) → ℕ
behind_token bt skipped part = bt + size skipped + size part

longest_in : (move : Move) (at bt by : ℕ) (skipped part rest : Text) (from to : ℕ) (what : TokenKind) (added : List Added) (pieces : List Piece) (n : Next at skipped part rest from to what) (later : Fresh move (is_word_like what) to rest added pieces bt by)
    → Longest n.which part (part ++ later.new)
longest_in move at bt by skipped part rest from to what added pieces n later =
    longest_again n.which part rest later.new n.long n.token.closed (later.goes n.which n.token.some (λ w. wordy_kind n.which part what n.kind w))

same_place : (move : Move) (t : Token) (from to : ℕ) → move.from t.span.from ≡ from → move.to t.span.to ≡ to → moved_token move t ≡ token t.kind from to
same_place move t from to e f = ap (λ n. token t.kind n (move.to t.span.to)) e ∙ ap (token t.kind from) f

put_old : (move : Move) (word : Bool) (at bt by : ℕ) (skipped part rest : Text) (t : Token) (added : List Added) (pieces : List Piece) (n : Next at skipped part rest t.span.from t.span.to t.kind)
    (later : Fresh move (is_word_like t.kind) t.span.to rest added pieces (behind_token bt skipped part) by) → Fresh move word at (skipped ++ (part ++ rest)) added (old t ∷ pieces) bt by
put_old move word at bt by skipped part rest t added pieces n later =
    let long = longest_in move at (behind_token bt skipped part) by skipped part rest t.span.from t.span.to t.kind added pieces n later in
    let to : ℕ = t.span.to in
    let front = encode_utf8_all skipped in
    let mid = encode_utf8_all part in
    let place : at + length front + length mid ≡ to = sym n.place in
    let places : Later (at + length front + length mid) added = subst (λ k. Later k added) (sym place) later.places in
    record {
      new = skipped ++ (part ++ later.new);
      found = token t.kind (bt + size skipped) (behind_token bt skipped part) ∷ later.found;
      end = later.end;
      reads = reads_on (n.gaps bt (part ++ later.new) (token_front part rest later.new n.begins)) (one n.which part later.new t.kind refl long n.kind later.reads);
      placed = λ e m.
          let here = begins_at move at by t.span.from t.span.to added m (omega (arith, n.start)) (omega (arith, n.start, n.place, n.some)) later.all in
          let there = ends_at move at by t.span.to added m (omega (arith, n.place, n.some)) later.all in
          let same = same_place move t (bt + size skipped) (behind_token bt skipped part) (omega (arith, here, e, n.start)) (omega (arith, there, e, n.place)) in
          subst (λ x. Realised move (old t ∷ pieces) (x ∷ later.found)) same (kept t (later.placed (omega (arith, e, n.place)) (moved_on move at t.span.to by added (omega (arith, n.place)) later.all m)));
      all = all_before at t.span.to added (omega (arith, n.place)) later.all;
      bytes =
          encoded skipped (part ++ later.new) ∙ ap (λ l. front ++ l) (encoded part later.new ∙ ap (λ l. mid ++ l) (later.bytes ∙ ap (λ k. with_added k (encode_utf8_all rest) added) (sym place)))
          ∙ ap (λ l. front ++ l) (sym (passed (at + length front) mid (encode_utf8_all rest) added places))
          ∙ sym (passed at front (mid ++ encode_utf8_all rest) added (later_before (at + length front) (at + length front + length mid) added (omega arith) places))
          ∙ ap (λ l. with_added at l added) (ap (λ l. front ++ l) (sym (encoded part rest)) ∙ sym (encoded skipped (part ++ rest)));
      places = later_before at to added (omega (arith, n.place)) later.places;
      goes = goes_on skipped;
      scalars = λ h.
          let a = scalars_both skipped (part ++ rest) h in
          let b = scalars_both part rest a.1 in
          both_scalars skipped (part ++ later.new) a.0 (both_scalars part later.new b.0 (later.scalars b.1));
      clean = λ h.
          let a = behind_plain skipped (part ++ rest) n.plain h in
          let b = behind_plain part rest n.ends a.1 in
          both_plain skipped (part ++ later.new) n.plain a.0 (both_plain part later.new n.ends b.0 (later.clean b.1));
    }
  where
    goes_on : (u : Text) → Goes word (u ++ (part ++ rest)) (u ++ (part ++ later.new))
    goes_on [] = same_front word part rest later.new (some_part part n.begins)
    goes_on (c ∷ u) = λ which some is. same

-- a token with an inserted text before it
put_before : (move : Move) (word : Bool) (at bt by : ℕ) (skipped part rest : Text) (t : Token) (new : Added) (first : ℕ) (tokens : List Token) (added : List Added) (pieces : List Piece) → new.place ≡ at + size skipped
    → (text : IsInserted new.bytes first tokens) → may_open word first ≡ true → (n : Next at skipped part rest t.span.from t.span.to t.kind)
    → Fresh move (is_word_like t.kind) t.span.to rest added pieces (behind_token (bt + size skipped) (first ∷ text.later) part) (by + length new.bytes)
    → Fresh move word at (skipped ++ (part ++ rest)) (new ∷ added) (news tokens ++ old t ∷ pieces) bt by
put_before move word at bt by skipped part rest t new first tokens added pieces here text may n later =
    let x : Text = first ∷ text.later in
    let bt2 : ℕ = bt + size skipped in
    let by2 : ℕ = by + length new.bytes in
    let long = longest_in move at (behind_token bt2 x part) by2 skipped part rest t.span.from t.span.to t.kind added pieces n later in
    let to : ℕ = t.span.to in
    let front = encode_utf8_all skipped in
    let mid = encode_utf8_all part in
    let place : at + length front + length mid ≡ to = sym n.place in
    let places : Later (at + length front + length mid) added = subst (λ k. Later k added) (sym place) later.places in
    let read = text.read bt2 (part ++ later.new) in
    let ends_new = no_backslash x text.plain in
    record {
      new = skipped ++ (x ++ (part ++ later.new));
      found = read.found ++ token t.kind (bt2 + size x) (behind_token bt2 x part) ∷ later.found;
      end = later.end;
      reads = reads_on (n.gaps bt (x ++ (part ++ later.new)) (gap_front word (part ++ rest) first (text.later ++ (part ++ later.new)) may (in_text part rest n.begins)))
          (reads_on read.reads (one n.which part later.new t.kind refl long n.kind later.reads));
      placed = λ e m.
          let all : AllFrom new.place (new ∷ added) = (omega arith, all_before new.place t.span.to added (omega (arith, here, n.place)) later.all) in
          let m1 = moved_on move at new.place by (new ∷ added) (omega (arith, here)) all m in
          let m2 = moved_behind move new.place by new added refl m1 in
          let first_place = begins_at move new.place by2 t.span.from t.span.to added m2 (omega (arith, here, n.start)) (omega (arith, n.start, n.place, n.some)) later.all in
          let last_place = ends_at move new.place by2 t.span.to added m2 (omega (arith, here, n.place, n.some)) later.all in
          let long_as : size x ≡ length new.bytes = ap length text.spelled in
          let same = same_place move t (bt2 + size x) (behind_token bt2 x part) (omega (arith, first_place, e, n.start, long_as)) (omega (arith, last_place, e, n.place, long_as)) in
          let behind_it = later.placed (omega (arith, e, n.place, long_as)) (moved_on move new.place t.span.to by2 added (omega (arith, here, n.place)) later.all m2) in
          let within = begin_within {P = IsNew move} read.reads (λ place le lt. new_within move new.place by place new added refl m1 (omega (arith, le, e, here)) (omega (arith, lt, e, here, long_as))) in
          all_put move tokens read.found (old t ∷ pieces) (token t.kind (bt2 + size x) (behind_token bt2 x part) ∷ later.found) read.same within
          (subst (λ y. Realised move (old t ∷ pieces) (y ∷ later.found)) same (kept t behind_it));
      all = (omega (arith, here), all_before at t.span.to added (omega (arith, n.place)) later.all);
      bytes =
          encoded skipped (x ++ (part ++ later.new)) ∙ ap (λ l. front ++ l) (encoded x (part ++ later.new) ∙ ap (λ l. l ++ encode_utf8_all (part ++ later.new)) text.spelled
          ∙ ap (λ l. new.bytes ++ l) (encoded part later.new ∙ ap (λ l. mid ++ l) (later.bytes ∙ ap (λ k. with_added k (encode_utf8_all rest) added) (sym place))
          ∙ sym (passed (at + length front) mid (encode_utf8_all rest) added places))
          ∙ sym (at_once (at + length front) (mid ++ encode_utf8_all rest) new added here))
          ∙ sym (passed at front (mid ++ encode_utf8_all rest) (new ∷ added) (omega (arith, here)))
          ∙ ap (λ l. with_added at l (new ∷ added)) (ap (λ l. front ++ l) (sym (encoded part rest)) ∙ sym (encoded skipped (part ++ rest)));
      places = omega (arith, here);
      goes = goes_on skipped;
      scalars = λ h.
          let a = scalars_both skipped (part ++ rest) h in
          let b = scalars_both part rest a.1 in
          both_scalars skipped (x ++ (part ++ later.new)) a.0 (both_scalars x (part ++ later.new) text.scalars (both_scalars part later.new b.0 (later.scalars b.1)));
      clean = λ h.
          let a = behind_plain skipped (part ++ rest) n.plain h in
          let b = behind_plain part rest n.ends a.1 in
          both_plain skipped (x ++ (part ++ later.new)) n.plain a.0 (both_plain x (part ++ later.new) ends_new.1 ends_new.0 (both_plain part later.new n.ends b.0 (later.clean b.1)));
    }
  where
    goes_on : (u : Text) → Goes word (u ++ (part ++ rest)) (u ++ ((first ∷ text.later) ++ (part ++ later.new)))
    goes_on [] = inserted_front word (part ++ rest) first (text.later ++ (part ++ later.new)) may
    goes_on (c ∷ u) = λ which some is. same

-- an inserted text right there
put_there : (move : Move) (word : Bool) (at bt by : ℕ) (text : Text) (new : Added) (tokens : List Token) (added : List Added) (pieces : List Piece) → new.place ≡ at → (x : IsInserted new.bytes 32 tokens)
    → Fresh move word at text added pieces (bt + size (32 ∷ x.later)) (by + length new.bytes) → Fresh move word at text (new ∷ added) (news tokens ++ pieces) bt by
put_there move word at bt by text new tokens added pieces here x later =
    let u : Text = 32 ∷ x.later in
    let read = x.read bt later.new in
    let ends_new = no_backslash u x.plain in
    record {
      new = u ++ later.new;
      found = read.found ++ later.found;
      end = later.end;
      reads = reads_on read.reads later.reads;
      placed = λ e m.
          let long_as : size u ≡ length new.bytes = ap length x.spelled in
          let within = begin_within {P = IsNew move} read.reads (λ place le lt. new_within move at by place new added here m (omega (arith, le, e)) (omega (arith, lt, e, long_as))) in
          all_put move tokens read.found pieces later.found read.same within (later.placed (omega (arith, e, long_as)) (moved_behind move at by new added here m));
      all = (omega (arith, here), later.all);
      bytes = encoded u later.new ∙ ap (λ l. l ++ encode_utf8_all later.new) x.spelled ∙ ap (λ l. new.bytes ++ l) later.bytes ∙ sym (at_once at (encode_utf8_all text) new added here);
      places = omega (arith, here);
      goes = inserted_front word text 32 (x.later ++ later.new) refl;
      scalars = λ h. both_scalars u later.new x.scalars (later.scalars h);
      clean = λ h. both_plain u later.new ends_new.1 ends_new.0 (later.clean h);
    }

fresh : (move : Move) {word last : Bool} {at end : ℕ} {tokens : List Token} {pieces : List Piece} {added : List Added} → Interleaved word at tokens added pieces last end → (text : Text) (stop : ℕ) → Reads at text tokens stop []
    → (bt by : ℕ) → Fresh move word at text added pieces bt by
fresh move {word} {at = at} done text stop r bt by =
    let g = only_gaps r refl in
    let stays : Fresh move word at (g.gap ++ []) [] [] bt by = record {
      new = g.gap ++ [];
      found = [];
      end = bt + size g.gap;
      reads = g.again bt [] ends;
      placed = λ e m. i.none;
      all = tt;
      bytes = refl;
      places = tt;
      goes = λ which some is. front_self which (g.gap ++ []);
      scalars = λ h. h;
      clean = λ h. h;
    } in
    subst (λ t. Fresh move word at t [] [] bt by) (sym g.whole) stays
fresh move {word} {at = at} (keep {tokens} {pieces} {added} t w) text stop r bt by =
    let s = step r t tokens refl in
    let later = fresh move w s.rest stop s.later (behind_token bt s.gaps.gap s.word) by in
    subst (λ l. Fresh move word at l added (old t ∷ pieces) bt by) (text_of at text t tokens stop s) (put_old move word at bt by s.gaps.gap s.word s.rest t added pieces (next_of at text t tokens stop s) later)
fresh move {word} {at = at} (before {tokens} {pieces} {added} t new first others here x may w) text stop r bt by =
    let s = step r t tokens refl in
    let later = fresh move w s.rest stop s.later (behind_token (bt + size s.gaps.gap) (first ∷ x.later) s.word) (by + length new.bytes) in
    let place : new.place ≡ at + size s.gaps.gap = omega (arith, here, s.from, s.gaps.place) in
    subst (λ l. Fresh move word at l (new ∷ added) (news others ++ old t ∷ pieces) bt by) (text_of at text t tokens stop s)
    (put_before move word at bt by s.gaps.gap s.word s.rest t new first others added pieces place x may (next_of at text t tokens stop s) later)
fresh move {word} {at = at} (behind {tokens} {pieces} {added} new others here x w) text stop r bt by =
    put_there move word at bt by text new others added pieces here x (fresh move w text stop r (bt + size (32 ∷ x.later)) (by + length new.bytes))

-- Where texts are inserted so between the tokens of bytes, the new bytes have tokens of the kinds of the pieces, and each old one stands at its place moved.
pub placed_tokens : (bytes : List ℕ) (tokens : List Token) (pieces : List Piece) (added : List Added) (last : Bool) (end : ℕ) → Tokens bytes tokens → Interleaved true 0 tokens added pieces last end
    → (found : List Token) × Tokens (with_added 0 bytes added) found × Realised (moving added) pieces found
placed_tokens bytes tokens pieces added last end (text, spells, complete, clean) w =
    let f = fresh (moving added) w text complete.0 complete.1 0 0 in
    let spelled : encode_utf8_all f.new ≡ with_added 0 bytes added = f.bytes ∙ ap (λ b. with_added 0 b added) spells.1 in
    (f.found, (f.new, (f.scalars spells.0, spelled), (f.end, f.reads), escapes_none true 0 f.new (f.clean (none_escapes true 0 text clean))), f.placed refl (moved_first added))
