-- The text of a test is read as the test's tokens, wherever it stands.
use Rattle.std.proofs.Common.{◌≡◌, ℕ, ◌<◌, ◌==◌, ◌&&◌, not, nat_lt, Bool, true, false, List, [], ◌∷◌, ◌++◌, refl, sym, ap, subst, ◌∙◌, append_assoc, lit<}
use Rattle.std.specs.Prelude.{codes, pos}
use Rattle.std.specs.List.{list_all}
use Rattle.std.specs.Str.{encode_utf8_all, all_scalars}
use Rattle.std.proofs.lemmas.Bool.{and_parts, ltb-true}
use Rattle.std.proofs.lemmas.Str.{encodes-append}
use borrow.Author.Tests.{eqb-true}
use Rattle.ix_lexer.specs.declared.elements.Element.TheVariants as element
use Rattle.ix_lexer.specs.declared.token.Token.{Token}
use Rattle.ix_lexer.specs.declared.token.TokenKind.{TokenKind}
use Rattle.ix_lexer.specs.declared.token.TokenKind.TheVariants as kind
use Rattle.ix_lexer.specs.declared.fixed.TheConstants.{IF, NULL, THROW, NEW, DOT, SEMICOLON, OPEN_PAREN, CLOSE_PAREN, OPEN_BRACE, CLOSE_BRACE, EQUAL, LESS, GREATER_OR_EQUAL, OR_ELSE}
use Rattle.ix_lexer.specs.Characters.{Text, backslash, starts_identifier, continues_identifier}
use Rattle.ix_lexer.specs.Elements.{signs, nothing, plain}
use Rattle.ix_lexer.specs.Scan.{sign}
use Rattle.ix_lexer.specs.Tokens.{Longest, words}
use Rattle.ix_guard_text.specs.Woven.{kinds}
use Rattle.ix_guard_text.specs.Names.{IsName, Piece}
use Rattle.ix_guard_text.proofs.LongestAgain.{starts_ascii, continues_ascii, goes_on}
use Rattle.ix_guard_text.proofs.SignFronts.{begins_word}
use Rattle.ix_guard_text.proofs.Readings.{longest_word, longest_zero, longest_blank, longest_string, longest_sign, ReadsAs, read_none, read_gap, read_one, read_as}
use Rattle.ix_guard_text.specs.Bare.{nowhere}
use Rattle.ix_guard.specs.Accesses.{Access}
use Rattle.ix_guard.specs.Tests.{test}
use Rattle.ix_guard_text.proofs.TestTokens.{test_tokens}

-- ---- signs and words that are written out

goes_all : (cs : Text) → list_all (λ c. nat_lt c 128 && goes_on c) cs ≡ true → list_all continues_identifier cs ≡ true
goes_all [] h = refl
goes_all (c ∷ cs) h =
    let w = and_parts (nat_lt c 128 && goes_on c) (list_all (λ c. nat_lt c 128 && goes_on c) cs) h in
    let v = and_parts (nat_lt c 128) (goes_on c) w.0 in
    let e : continues_identifier c ≡ true = continues_ascii c (ltb-true c 128 v.0) ∙ v.1 in
    rw (e, goes_all cs w.1) refl

stops : (d : ℕ) → d < 128 → goes_on d ≡ false → continues_identifier d ≡ false
stops d low h = continues_ascii d low ∙ h

written : (c : ℕ) (cs : Text) (d : ℕ) (rest : Text) → c < 128 → d < 128 → begins_word c ≡ true → list_all (λ c. nat_lt c 128 && goes_on c) cs ≡ true → goes_on d ≡ false → Longest element.Word (c ∷ cs) ((c ∷ cs) ++ d ∷ rest)
written c cs d rest low below s h e = longest_word c cs d rest (starts_ascii c low ∙ s) (goes_all cs h) (stops d below e)

-- an identifier before a character that doesn't go on with it
name_read : {bytes : List ℕ} (name : IsName bytes) (d : ℕ) (rest : Text) {what : List TokenKind} {left : Text} → d < 128 → goes_on d ≡ false → ((at : ℕ) → ReadsAs at (d ∷ rest) what left)
    → (at : ℕ) → ReadsAs at ((name.start ∷ name.later) ++ d ∷ rest) (kind.Ident bytes ∷ what) left
name_read {bytes} name d rest low e later = read_one element.Word (name.start ∷ name.later) (d ∷ rest) (kind.Ident bytes) (longest_word name.start name.later d rest name.starts name.continues (stops d low e)) name.kind later

pub blank : (rest : Text) {what : List TokenKind} {left : Text} → ((at : ℕ) → ReadsAs at rest what left) → (at : ℕ) → ReadsAs at (32 ∷ rest) what left
blank rest later = read_gap (32 ∷ []) rest (longest_blank rest) later

-- signs of one character that begin no other
open_paren : (rest : Text) {what : List TokenKind} {left : Text} → ((at : ℕ) → ReadsAs at rest what left) → (at : ℕ) → ReadsAs at (40 ∷ rest) (kind.Fixed OPEN_PAREN ∷ what) left
unfolding sign signs
open_paren rest later = read_one element.Sign (40 ∷ []) rest (kind.Fixed OPEN_PAREN) (longest_sign 40 [] rest (lit< tt) refl refl refl refl refl refl) refl later

close_paren : (rest : Text) {what : List TokenKind} {left : Text} → ((at : ℕ) → ReadsAs at rest what left) → (at : ℕ) → ReadsAs at (41 ∷ rest) (kind.Fixed CLOSE_PAREN ∷ what) left
unfolding sign signs
close_paren rest later = read_one element.Sign (41 ∷ []) rest (kind.Fixed CLOSE_PAREN) (longest_sign 41 [] rest (lit< tt) refl refl refl refl refl refl) refl later

pub open_brace : (rest : Text) {what : List TokenKind} {left : Text} → ((at : ℕ) → ReadsAs at rest what left) → (at : ℕ) → ReadsAs at (123 ∷ rest) (kind.Fixed OPEN_BRACE ∷ what) left
unfolding sign signs
open_brace rest later = read_one element.Sign (123 ∷ []) rest (kind.Fixed OPEN_BRACE) (longest_sign 123 [] rest (lit< tt) refl refl refl refl refl refl) refl later

pub close_brace : (rest : Text) {what : List TokenKind} {left : Text} → ((at : ℕ) → ReadsAs at rest what left) → (at : ℕ) → ReadsAs at (125 ∷ rest) (kind.Fixed CLOSE_BRACE ∷ what) left
unfolding sign signs
close_brace rest later = read_one element.Sign (125 ∷ []) rest (kind.Fixed CLOSE_BRACE) (longest_sign 125 [] rest (lit< tt) refl refl refl refl refl refl) refl later

semicolon : (rest : Text) {what : List TokenKind} {left : Text} → ((at : ℕ) → ReadsAs at rest what left) → (at : ℕ) → ReadsAs at (59 ∷ rest) (kind.Fixed SEMICOLON ∷ what) left
unfolding sign signs
semicolon rest later = read_one element.Sign (59 ∷ []) rest (kind.Fixed SEMICOLON) (longest_sign 59 [] rest (lit< tt) refl refl refl refl refl refl) refl later

dot : (rest : Text) {what : List TokenKind} {left : Text} → ((at : ℕ) → ReadsAs at rest what left) → (at : ℕ) → ReadsAs at (46 ∷ rest) (kind.Fixed DOT ∷ what) left
unfolding sign signs
dot rest later = read_one element.Sign (46 ∷ []) rest (kind.Fixed DOT) (longest_sign 46 [] rest (lit< tt) refl refl refl refl refl refl) refl later

-- signs before a blank
equal : (rest : Text) {what : List TokenKind} {left : Text} → ((at : ℕ) → ReadsAs at (32 ∷ rest) what left) → (at : ℕ) → ReadsAs at (61 ∷ 61 ∷ 32 ∷ rest) (kind.Fixed EQUAL ∷ what) left
unfolding sign signs
equal rest later = read_one element.Sign (61 ∷ 61 ∷ []) (32 ∷ rest) (kind.Fixed EQUAL) (longest_sign 61 (61 ∷ []) (32 ∷ rest) (lit< tt) refl refl refl refl refl refl) refl later

or_else : (rest : Text) {what : List TokenKind} {left : Text} → ((at : ℕ) → ReadsAs at (32 ∷ rest) what left) → (at : ℕ) → ReadsAs at (124 ∷ 124 ∷ 32 ∷ rest) (kind.Fixed OR_ELSE ∷ what) left
unfolding sign signs
or_else rest later = read_one element.Sign (124 ∷ 124 ∷ []) (32 ∷ rest) (kind.Fixed OR_ELSE) (longest_sign 124 (124 ∷ []) (32 ∷ rest) (lit< tt) refl refl refl refl refl refl) refl later

less : (rest : Text) {what : List TokenKind} {left : Text} → ((at : ℕ) → ReadsAs at (32 ∷ rest) what left) → (at : ℕ) → ReadsAs at (60 ∷ 32 ∷ rest) (kind.Fixed LESS ∷ what) left
unfolding sign signs
less rest later = read_one element.Sign (60 ∷ []) (32 ∷ rest) (kind.Fixed LESS) (longest_sign 60 [] (32 ∷ rest) (lit< tt) refl refl refl refl refl refl) refl later

at_least : (rest : Text) {what : List TokenKind} {left : Text} → ((at : ℕ) → ReadsAs at (32 ∷ rest) what left) → (at : ℕ) → ReadsAs at (62 ∷ 61 ∷ 32 ∷ rest) (kind.Fixed GREATER_OR_EQUAL ∷ what) left
unfolding sign signs
at_least rest later = read_one element.Sign (62 ∷ 61 ∷ []) (32 ∷ rest) (kind.Fixed GREATER_OR_EQUAL) (longest_sign 62 (61 ∷ []) (32 ∷ rest) (lit< tt) refl refl refl refl refl refl) refl later

-- ---- the pieces of a test between its names

-- `.length) throw new IndexOutOfBoundsException("guard"); `
last_read : (rest : Text) (at : ℕ)
    → ReadsAs at (codes ".length) throw new IndexOutOfBoundsException(\"guard\"); " ++ rest)
    (kind.Fixed DOT ∷ kind.Ident (codes "length") ∷ kind.Fixed CLOSE_PAREN ∷ kind.Fixed THROW ∷ kind.Fixed NEW ∷ kind.Ident (codes "IndexOutOfBoundsException") ∷ kind.Fixed OPEN_PAREN ∷ kind.Str (codes "guard") ∷ kind.Fixed CLOSE_PAREN ∷ kind.Fixed SEMICOLON ∷ []) rest
unfolding words lib.Utf8.encode
last_read rest =
    dot (codes "length) throw new IndexOutOfBoundsException(\"guard\"); " ++ rest)
    (read_one element.Word (codes "length") (codes ") throw new IndexOutOfBoundsException(\"guard\"); " ++ rest) (kind.Ident (codes "length"))
    (written 108 (codes "ength") 41 (codes " throw new IndexOutOfBoundsException(\"guard\"); " ++ rest) (lit< tt) (lit< tt) refl refl refl) refl
    (close_paren (codes " throw new IndexOutOfBoundsException(\"guard\"); " ++ rest) (blank (codes "throw new IndexOutOfBoundsException(\"guard\"); " ++ rest)
    (read_one element.Word (codes "throw") (codes " new IndexOutOfBoundsException(\"guard\"); " ++ rest) (kind.Fixed THROW)
    (written 116 (codes "hrow") 32 (codes "new IndexOutOfBoundsException(\"guard\"); " ++ rest) (lit< tt) (lit< tt) refl refl refl) refl
    (blank (codes "new IndexOutOfBoundsException(\"guard\"); " ++ rest)
    (read_one element.Word (codes "new") (codes " IndexOutOfBoundsException(\"guard\"); " ++ rest) (kind.Fixed NEW)
    (written 110 (codes "ew") 32 (codes "IndexOutOfBoundsException(\"guard\"); " ++ rest) (lit< tt) (lit< tt) refl refl refl) refl
    (blank (codes "IndexOutOfBoundsException(\"guard\"); " ++ rest)
    (read_one element.Word (codes "IndexOutOfBoundsException") (codes "(\"guard\"); " ++ rest) (kind.Ident (codes "IndexOutOfBoundsException"))
    (written 73 (codes "ndexOutOfBoundsException") 40 (codes "\"guard\"); " ++ rest) (lit< tt) (lit< tt) refl refl refl) refl
    (open_paren (codes "\"guard\"); " ++ rest)
    (read_one element.Quoted (codes "\"guard\"") (codes "); " ++ rest) (kind.Str (codes "guard")) (longest_string (codes "guard") (codes "); " ++ rest) (plain refl (plain refl (plain refl (plain refl (plain refl nothing)))))) refl
    (close_paren (codes "; " ++ rest) (semicolon (codes " " ++ rest) (blank rest (read_none rest))))))))))))))

-- `if (`
first_read : (rest : Text) {what : List TokenKind} {left : Text} → ((at : ℕ) → ReadsAs at rest what left) → (at : ℕ) → ReadsAs at (codes "if (" ++ rest) (kind.Fixed IF ∷ kind.Fixed OPEN_PAREN ∷ what) left
unfolding words
first_read rest later =
    read_one element.Word (codes "if") (codes " (" ++ rest) (kind.Fixed IF) (written 105 (codes "f") 32 (codes "(" ++ rest) (lit< tt) (lit< tt) refl refl refl) refl (blank (codes "(" ++ rest) (open_paren rest later))

-- ` == null || `
null_read : (rest : Text) {what : List TokenKind} {left : Text} → ((at : ℕ) → ReadsAs at rest what left) → (at : ℕ) → ReadsAs at (codes " == null || " ++ rest) (kind.Fixed EQUAL ∷ kind.Fixed NULL ∷ kind.Fixed OR_ELSE ∷ what) left
unfolding words
null_read rest later =
    blank (codes "== null || " ++ rest) (equal (codes "null || " ++ rest) (blank (codes "null || " ++ rest)
    (read_one element.Word (codes "null") (codes " || " ++ rest) (kind.Fixed NULL) (written 110 (codes "ull") 32 (codes "|| " ++ rest) (lit< tt) (lit< tt) refl refl refl) refl
    (blank (codes "|| " ++ rest) (or_else rest (blank rest later))))))

-- ` < 0 || `
low_read : (rest : Text) {what : List TokenKind} {left : Text} → ((at : ℕ) → ReadsAs at rest what left) → (at : ℕ) → ReadsAs at (codes " < 0 || " ++ rest) (kind.Fixed LESS ∷ kind.Int (pos 0) ∷ kind.Fixed OR_ELSE ∷ what) left
low_read rest later =
    blank (codes "< 0 || " ++ rest) (less (codes "0 || " ++ rest) (blank (codes "0 || " ++ rest)
    (read_one element.Number (codes "0") (codes " || " ++ rest) (kind.Int (pos 0)) (longest_zero 32 (codes "|| " ++ rest) (stops 32 (lit< tt) refl)) refl
    (blank (codes "|| " ++ rest) (or_else rest (blank rest later))))))

-- ` >= `
high_read : (rest : Text) {what : List TokenKind} {left : Text} → ((at : ℕ) → ReadsAs at rest what left) → (at : ℕ) → ReadsAs at (codes " >= " ++ rest) (kind.Fixed GREATER_OR_EQUAL ∷ what) left
high_read rest later = blank (codes ">= " ++ rest) (at_least rest (blank rest later))

-- ---- the whole

abbrev pub text_of : Text → Text → Text → Text
text_of a i rest = codes "if (" ++ (a ++ (codes " == null || " ++ (i ++ (codes " < 0 || " ++ (i ++ (codes " >= " ++ (a ++ (codes ".length) throw new IndexOutOfBoundsException(\"guard\"); " ++ rest))))))))

pub text_behind : (a i rest : Text) → text_of a i [] ++ rest ≡ text_of a i rest
text_behind a i rest =
    let d : Text = codes ".length) throw new IndexOutOfBoundsException(\"guard\"); " in
    let c : Text = codes " >= " ++ (a ++ d) in
    let b : Text = codes " < 0 || " ++ (i ++ c) in
    let e : Text = codes " == null || " ++ (i ++ b) in
    ap (λ t. codes "if (" ++ t) (append_assoc a e rest
    ∙ ap (λ t. a ++ (codes " == null || " ++ t)) (append_assoc i b rest
    ∙ ap (λ t. i ++ (codes " < 0 || " ++ t)) (append_assoc i c rest
    ∙ ap (λ t. i ++ (codes " >= " ++ t)) (append_assoc a d rest))))

pub test_read : (access : Access) (a : IsName access.array.text) (i : IsName access.index.text) (rest : Text) (at : ℕ) → ReadsAs at (text_of (a.start ∷ a.later) (i.start ∷ i.later) rest) (kinds (test_tokens access)) rest
test_read access a i rest =
    let d : Text = codes ".length) throw new IndexOutOfBoundsException(\"guard\"); " ++ rest in
    let c : Text = (a.start ∷ a.later) ++ d in
    let b : Text = (i.start ∷ i.later) ++ (codes " >= " ++ c) in
    let e : Text = (i.start ∷ i.later) ++ (codes " < 0 || " ++ b) in
    first_read ((a.start ∷ a.later) ++ (codes " == null || " ++ e))
    (name_read a 32 (codes "== null || " ++ e) (lit< tt) refl
    (null_read e (name_read i 32 (codes "< 0 || " ++ b) (lit< tt) refl
    (low_read b (name_read i 32 (codes ">= " ++ c) (lit< tt) refl
    (high_read c (name_read a 46 (codes "length) throw new IndexOutOfBoundsException(\"guard\"); " ++ rest) (lit< tt) refl (last_read rest))))))))

-- ---- its bytes and characters

not_backslash : (c : ℕ) (test : ℕ → Bool) → test c ≡ true → test 92 ≡ false → not (c == backslash) ≡ true
not_backslash c test h k = elim (c == 92) as (λ b. (c == 92) ≡ b → not b ≡ true) [
  | true ↦ λ e. let f : test 92 ≡ true = subst (λ n. test n ≡ true) (eqb-true c 92 e) h in cc
  | false ↦ λ e. refl
] refl

later_plain : (cs : Text) → list_all continues_identifier cs ≡ true → list_all (λ c. not (c == backslash)) cs ≡ true
later_plain [] h = refl
later_plain (c ∷ cs) h =
    let w = and_parts (continues_identifier c) (list_all continues_identifier cs) h in
    rw (not_backslash c continues_identifier w.0 (continues_ascii 92 (lit< tt)), later_plain cs w.1) refl

pub name_plain : {bytes : List ℕ} (n : IsName bytes) → list_all (λ c. not (c == backslash)) (n.start ∷ n.later) ≡ true
name_plain n = rw (not_backslash n.start starts_identifier n.starts (starts_ascii 92 (lit< tt)), later_plain n.later n.continues) refl

spelled_both : (u x : Text) (b y : List ℕ) → encode_utf8_all u ≡ b → encode_utf8_all x ≡ y → encode_utf8_all (u ++ x) ≡ b ++ y
spelled_both u x b y e f = encodes-append u x ∙ ap (λ l. l ++ encode_utf8_all x) e ∙ ap (λ l. b ++ l) f

pub scalars_both : (u v : Text) → all_scalars u ≡ true → all_scalars v ≡ true → all_scalars (u ++ v) ≡ true
scalars_both [] v h k = k
scalars_both (c ∷ u) v h k = let w = and_parts _ (all_scalars u) h in rw (w.0, scalars_both u v w.1 k) refl

pub plain_both : (u v : Text) → list_all (λ c. not (c == backslash)) u ≡ true → list_all (λ c. not (c == backslash)) v ≡ true → list_all (λ c. not (c == backslash)) (u ++ v) ≡ true
plain_both [] v h k = k
plain_both (c ∷ u) v h k = let w = and_parts (not (c == backslash)) (list_all (λ c. not (c == backslash)) u) h in rw (w.0, plain_both u v w.1 k) refl

-- a text put together from the left and from the right
from_right : (a i s t u v : List ℕ) → ((((((a ++ s) ++ i) ++ t) ++ i) ++ u) ++ a) ++ v ≡ a ++ (s ++ (i ++ (t ++ (i ++ (u ++ (a ++ v))))))
from_right a i s t u v =
    append_assoc (((((a ++ s) ++ i) ++ t) ++ i) ++ u) a v ∙ append_assoc ((((a ++ s) ++ i) ++ t) ++ i) u (a ++ v) ∙ append_assoc (((a ++ s) ++ i) ++ t) i (u ++ (a ++ v))
    ∙ append_assoc ((a ++ s) ++ i) t (i ++ (u ++ (a ++ v))) ∙ append_assoc (a ++ s) i (t ++ (i ++ (u ++ (a ++ v)))) ∙ append_assoc a s (i ++ (t ++ (i ++ (u ++ (a ++ v)))))

pub test_spelled : (access : Access) (a : IsName access.array.text) (i : IsName access.index.text) → encode_utf8_all (text_of (a.start ∷ a.later) (i.start ∷ i.later) []) ≡ test access
unfolding lib.Utf8.encode
test_spelled access a i =
    let x : Text = a.start ∷ a.later in
    let y : Text = i.start ∷ i.later in
    let d : Text = codes ".length) throw new IndexOutOfBoundsException(\"guard\"); " in
    let c : Text = codes " >= " ++ (x ++ d) in
    let b : Text = codes " < 0 || " ++ (y ++ c) in
    let e : Text = codes " == null || " ++ (y ++ b) in
    spelled_both (codes "if (") (x ++ e) (codes "if (") _ refl (spelled_both x e access.array.text _ a.spelled (spelled_both (codes " == null || ") (y ++ b) (codes " == null || ") _ refl (spelled_both y b access.index.text _ i.spelled
    (spelled_both (codes " < 0 || ") (y ++ c) (codes " < 0 || ") _ refl (spelled_both y c access.index.text _ i.spelled (spelled_both (codes " >= ") (x ++ d) (codes " >= ") _ refl (spelled_both x d access.array.text d a.spelled refl)))))))
    ∙ ap (λ l. codes "if (" ++ l) (sym (from_right access.array.text access.index.text (codes " == null || ") (codes " < 0 || ") (codes " >= ") d))

abbrev pub test_piece : (access : Access) → IsName access.array.text → IsName access.index.text → Piece (test access) (test_tokens access)
test_piece access a i =
    let x : Text = a.start ∷ a.later in
    let y : Text = i.start ∷ i.later in
    let d : Text = codes ".length) throw new IndexOutOfBoundsException(\"guard\"); " in
    let c : Text = codes " >= " ++ (x ++ d) in
    let b : Text = codes " < 0 || " ++ (y ++ c) in
    let e : Text = codes " == null || " ++ (y ++ b) in
    record {
      text = text_of x y [];
      spelled = test_spelled access a i;
      scalars = scalars_both (codes "if (") (x ++ e) refl (scalars_both x e a.scalars (scalars_both (codes " == null || ") (y ++ b) refl (scalars_both y b i.scalars
          (scalars_both (codes " < 0 || ") (y ++ c) refl (scalars_both y c i.scalars (scalars_both (codes " >= ") (x ++ d) refl (scalars_both x d a.scalars refl)))))));
      plain = plain_both (codes "if (") (x ++ e) refl (plain_both x e (name_plain a) (plain_both (codes " == null || ") (y ++ b) refl (plain_both y b (name_plain i)
          (plain_both (codes " < 0 || ") (y ++ c) refl (plain_both y c (name_plain i) (plain_both (codes " >= ") (x ++ d) refl (plain_both x d (name_plain a) refl)))))));
      read = λ at rest. read_as (text_of x y []) (test_tokens access) at rest (subst (λ t. ReadsAs at t (kinds (test_tokens access)) rest) (sym (text_behind x y rest)) (test_read access a i rest at));
    }

-- ---- braces

abbrev pub open_token : Token
open_token = record { kind = kind.Fixed OPEN_BRACE; span = nowhere }

abbrev pub close_token : Token
close_token = record { kind = kind.Fixed CLOSE_BRACE; span = nowhere }

pub open_spelled : encode_utf8_all (codes "{ ") ≡ codes "{ "
unfolding lib.Utf8.encode
open_spelled = refl

pub close_spelled : encode_utf8_all (codes " }") ≡ codes " }"
unfolding lib.Utf8.encode
close_spelled = refl

abbrev pub open_piece : Piece (codes "{ ") (open_token ∷ [])
open_piece = record {
  text = codes "{ ";
  spelled = open_spelled;
  scalars = refl;
  plain = refl;
  read = λ at rest. read_as (codes "{ ") (open_token ∷ []) at rest (open_brace (32 ∷ rest) (blank rest (read_none rest)) at);
}

abbrev pub close_piece : Piece (codes " }") (close_token ∷ [])
close_piece = record {
  text = codes " }";
  spelled = close_spelled;
  scalars = refl;
  plain = refl;
  read = λ at rest. read_as (codes " }") (close_token ∷ []) at rest (blank (125 ∷ rest) (close_brace rest (read_none rest)) at);
}
