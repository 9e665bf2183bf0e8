-- Sound, where the height that is left fits, and for the repetitions of the grammar.
use Rattle.std.proofs.Common.{◌≡◌, ℕ, Bool, true, false, List, [], ◌∷◌, ◌++◌, Option, Some, None, Ok, refl, sym, subst}
use Rattle.std.proofs.lemmas.List.{append-nil}
use Rattle.ix_text.specs.declared.span.Span.{Span}
use Rattle.ix_lexer.specs.declared.token.Token.{Token}
use Rattle.ix_lexer.specs.declared.fixed.TheConstants.{COMMA, CLOSE_BRACE}
use Rattle.ix_tree.specs.declared.annot.Ident.{Ident}
use Rattle.ix_grammar.specs.declared.found.At.{At}
use Rattle.ix_grammar_rules.specs.Rule.{Rule, take, Parser, look, taken, run}
use Rattle.ix_grammar.specs.Patterns.{sign, name_token, a_sign, a_name, one_of, row}
use Rattle.ix_grammar.specs.Lists.{IsSeparated, IsRepeated, next_item, no_item, one_more}
use Rattle.ix_grammar_rules.specs.ListRules.{next_of, more_of, next_inside, braces_of}
use Rattle.ix_grammar_rules.proofs.SoundRules.{Sound, weaken, pure_sound, bind_sound, sign_sound, name_sound, one_sound, loop_sound, After}

-- ---- a token that fits

not_taken : {A V : Type 0} (p : V → Parser A) (q : Parser A) (ts us : List Token) (a : A) (o : Option V) → taken false p q o ts ≡ Ok (a, us) → q ts ≡ Ok (a, us)
not_taken p q ts us a (Some v) h = absurd (cc)
not_taken p q ts us a None h = h

pub fits_sound : {A V : Type 0} {R : List Token → A → Type 0} (want : Token → Option V) (fits : Bool) (p : V → Rule A) (q : Rule A)
    → (fits ≡ true → Sound R (take want true p q)) → Sound R q → Sound R (take want fits p q)
unfolding run
fits_sound want true p q s sq = s refl
fits_sound want false p q s sq = record { at = λ ts us a h. sq.at ts us a (not_taken (λ v. run (p v)) (run q) ts us a (look want ts) h) }

pub sign_fits : {A : Type 0} {R : List Token → A → Type 0} (n : ℕ) (fits : Bool) (p : Span → Rule A) (q : Rule A)
    → (fits ≡ true → (s : Span) → Sound (λ seen a. R (sign n s ∷ seen) a) (p s)) → Sound R q → Sound R (take (a_sign n) fits p q)
sign_fits n fits p q sp sq = fits_sound (a_sign n) fits p q (λ f. sign_sound n true p q (sp f) sq) sq

pub name_fits : {A : Type 0} {R : List Token → A → Type 0} (fits : Bool) (p : Ident → Rule A) (q : Rule A)
    → (fits ≡ true → (x : Ident) → Sound (λ seen a. R (name_token x ∷ seen) a) (p x)) → Sound R q → Sound R (take a_name fits p q)
name_fits fits p q sp sq = fits_sound a_name fits p q (λ f. name_sound true p q (sp f) sq) sq

pub one_fits : {A V : Type 0} {R : List Token → A → Type 0} (table : List (ℕ × V)) (fits : Bool) (p : At V → Rule A) (q : Rule A)
    → (fits ≡ true → (number : ℕ) (x : At V) → row table number ≡ Some x.value → Sound (λ seen a. R (sign number x.span ∷ seen) a) (p x)) → Sound R q → Sound R (take (one_of table) fits p q)
one_fits table fits p q sp sq = fits_sound (one_of table) fits p q (λ f. one_sound table true p q (sp f) sq) sq

-- ---- repetitions: P holds of each item, and then Q of what is made of them

module _ {A S : Type 0} (Item : List Token → A → Type 0) (start : A → S) (add : S → A → S) (item : Rule A) (P : A → Type 0) (Q : S → Type 0)
    (keeps : (s : S) (x : A) → Q s → P x → Q (add s x)) (sound : Sound (λ ts x. Item ts x × P x) item) where
  unfoldable pub Read : List Token → S → Type 0
  Read ts s = IsSeparated Item start add ts s × Q s

  pub next_sound : (s : S) (front : List Token) → Read front s → Sound (After Read Read front) (next_of item add s)
  unfolding next_of Read
  next_sound s front d = sign_sound _ _ _ _
      (λ c. bind_sound _ _ sound (λ x seen r. pure_sound _ (subst (λ y. IsSeparated Item start add (front ++ sign COMMA c ∷ y) (add s x)) (sym (append-nil seen)) (next_item c d.0 r.0), keeps s x d.1 r.1)))
      (pure_sound _ (subst (λ y. IsSeparated Item start add y s) (sym (append-nil front)) d.0, d.1))

  pub more_fits : (s : S) (front : List Token) → IsSeparated Item start add front s → Q s → Sound (λ seen b. IsSeparated Item start add (front ++ seen) b × Q b) (more_of item add s)
  unfolding more_of Read
  more_fits s front d q = loop_sound (next_of item add) Read Read next_sound s front (d, q)

module _ {A S : Type 0} (Item : List Token → A → Type 0) (start : A → S) (add : S → A → S) (item : Rule A) (sound : Sound Item item) where
  pub more_sound : (s : S) (front : List Token) → IsSeparated Item start add front s → Sound (λ seen b. IsSeparated Item start add (front ++ seen) b) (more_of item add s)
  more_sound s front d = weaken _ (λ ts b r. r.0)
      (more_fits Item start add item (λ x. Unit {0}) (λ s. Unit {0}) (λ s x q p. tt) (weaken item (λ ts x r. (r, tt)) sound) s front d tt)

-- what the items and the brace are
abbrev pub Braces : {A S : Type 0} → (List Token → A → Type 0) → S → (S → A → S) → List Token → At S → Type 0
Braces Item none add ts found = (seen : List Token) × (ts ≡ seen ++ sign CLOSE_BRACE found.span ∷ []) × IsRepeated Item none add seen found.value

module _ {A S : Type 0} (Item : List Token → A → Type 0) (none : S) (add : S → A → S) (item : Rule A) (P : A → Type 0) (Q : S → Type 0)
    (zero_items : Q none) (keeps : (s : S) (x : A) → Q s → P x → Q (add s x)) (sound : Sound (λ ts x. Item ts x × P x) item) where
  unfoldable pub Inside : List Token → S → Type 0
  Inside ts s = IsRepeated Item none add ts s × Q s

  unfoldable pub Closed : List Token → At S → Type 0
  Closed ts found = Braces Item none add ts found × Q found.value

  pub inside_sound : (s : S) (front : List Token) → Inside front s → Sound (After Inside Closed front) (next_inside item add s)
  unfolding next_inside Inside Closed
  inside_sound s front d = sign_sound _ _ _ _
      (λ right. pure_sound _ ((front, refl, d.0), d.1))
      (bind_sound _ _ sound (λ x seen r. pure_sound _ (subst (λ y. IsRepeated Item none add (front ++ y) (add s x)) (sym (append-nil seen)) (one_more d.0 r.0), keeps s x d.1 r.1)))

  pub braces_fits : Sound (λ ts found. Braces Item none add ts found × Q found.value) (braces_of item add none)
  unfolding braces_of Inside Closed
  braces_fits = loop_sound (next_inside item add) Inside Closed inside_sound none [] (no_item, zero_items)
