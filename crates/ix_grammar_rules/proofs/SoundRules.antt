-- Sound, for the ways in which rules are put together: what a rule takes stands in a relation to what it gives.
use Rattle.std.proofs.Common.{◌≡◌, ℕ, zero, suc, ◌==◌, ℤ, nat_lt, Bool, List, [], ◌∷◌, ◌++◌, length, Option, Some, None, Ok, refl, sym, ap, subst, ◌∙◌, append_assoc, inl, inr, eqb-true}
use Rattle.std.proofs.lemmas.List.{append-nil}
use Rattle.ix_text.specs.declared.span.Span.{Span}
use Rattle.ix_lexer.specs.declared.token.Token.{Token}
use Rattle.ix_lexer.specs.declared.token.TokenKind.{TokenKind}
use Rattle.ix_lexer.specs.declared.token.TokenKind.TheVariants as k
use Rattle.ix_tree.specs.declared.annot.Ident.{Ident}
use Rattle.ix_tree.specs.declared.expr.BinaryOp.{BinaryOp}
use Rattle.ix_grammar.specs.declared.found.At.{At}
use Rattle.ix_lexer.proofs.Scans.{chosen}
use Rattle.ix_grammar_rules.specs.Rule.{Rule, pure, take, bind, stop, loop, Turn, On, Done, taken, turned, turns, run}
use Rattle.ix_grammar.specs.Patterns.{sign, name_token, number_token, least_token, string_token, a_sign, fixed_of, a_name, name_of, a_number, number_of, a_least, least_of, a_text, text_of, one_of, one_of_kind, row, with_span, an_operator, operator_of, at_level, binary_signs}
use Rattle.ix_grammar_rules.proofs.Runs.{same_ok, bind_ok}

pub record Sound {A : Type 0} (R : List Token → A → Type 0) (r : Rule A) : Type 0 where
  pub at : (ts us : List Token) (a : A) → run r ts ≡ Ok (a, us) → (seen : List Token) × (ts ≡ seen ++ us) × R seen a

pub weaken : {A : Type 0} {R Q : List Token → A → Type 0} (r : Rule A) → ((ts : List Token) (a : A) → R ts a → Q ts a) → Sound R r → Sound Q r
weaken r w s = record { at = λ ts us a h. let (seen, is, d) = s.at ts us a h in (seen, is, w seen a d) }

pub pure_sound : {A : Type 0} {R : List Token → A → Type 0} (a : A) → R [] a → Sound R (pure a)
unfolding run
pure_sound {A = A} {R = R} a h = record { at = λ ts us b e. let q = same_ok (a, ts) (b, us) e in ([], ap (λ (p : A × List Token). p.1) q, subst (λ b. R [] b) (ap (λ (p : A × List Token). p.0) q) h) }

pub stop_sound : {A : Type 0} {R : List Token → A → Type 0} → Sound R stop
unfolding run
stop_sound = record { at = λ ts us b e. absurd (cc) }

-- the wanted token, where it tells what it is
taken_sound : {A V : Type 0} {R : List Token → A → Type 0} (want : Token → Option V) (fits : Bool) (p : V → Rule A) (q : Rule A) (t : Token) (ts us : List Token) (a : A)
    → ((v : V) → want t ≡ Some v → Sound (λ seen a. R (t ∷ seen) a) (p v)) → Sound R q
    → (o : Option V) → want t ≡ o → taken fits (λ v. run (p v)) (run q) o (t ∷ ts) ≡ Ok (a, us) → (seen : List Token) × (t ∷ ts ≡ seen ++ us) × R seen a
taken_sound want fits p q t ts us a sp sq (Some v) e h = elim (chosen fits _ _ _ h) [
  | inl w ↦ (let l = sp v e in let (seen, is, r) = l.at ts us a w.1 in (t ∷ seen, ap (λ y. t ∷ y) is, r))
  | inr w ↦ absurd (cc)
]
taken_sound want fits p q t ts us a sp sq None e h = sq.at (t ∷ ts) us a h

pub take_sound : {A V : Type 0} {R : List Token → A → Type 0} (want : Token → Option V) (fits : Bool) (p : V → Rule A) (q : Rule A)
    → ((t : Token) (v : V) → want t ≡ Some v → Sound (λ seen a. R (t ∷ seen) a) (p v)) → Sound R q → Sound R (take want fits p q)
unfolding run
take_sound {R = R} want fits p q sp sq = record {
  at = λ ts us a h. elim ts as (λ ts. run (take want fits p q) ts ≡ Ok (a, us) → (seen : List Token) × (ts ≡ seen ++ us) × R seen a) [
    | [] ↦ λ h. sq.at [] us a h
    | t ∷ ts ↦ λ h. taken_sound want fits p q t ts us a (λ v e. sp t v e) sq (want t) refl h
  ] h;
}

pub bind_sound : {A B : Type 0} {R : List Token → A → Type 0} {Q : List Token → B → Type 0} (p : Rule A) (f : A → Rule B) → Sound R p → ((a : A) (seen : List Token) → R seen a → Sound (λ later b. Q (seen ++ later) b) (f a)) → Sound Q (bind p f)
unfolding run
bind_sound p f sp sf = record {
  at = λ ts us b h.
      let d = bind_ok (run p ts) (λ a. run (f a)) (b, us) h in
      let (seen, is, r) = sp.at ts d.0.1 d.0.0 d.1 in
      let l = sf d.0.0 seen r in
      let (later, same, q) = l.at d.0.1 us b d.2 in
      (seen ++ later, is ∙ ap (λ y. seen ++ y) same ∙ sym (append_assoc seen later us), q);
}

-- ---- the tokens that are wanted

abbrev pub some_of : {A : Type 0} → A → Option A
some_of x = Some x

pub some_same : {A : Type 0} (x y : A) → some_of x ≡ some_of y → x ≡ y
some_same x y h = cc

pub sign_is : (n : ℕ) (kind : TokenKind) (span s : Span) → fixed_of n kind span ≡ Some s → record { kind = kind; span = span } ≡ sign n s
sign_is n (k.Fixed m) span s h = elim (chosen (m == n) (Some span) None (Some s) h) [
  | inl w ↦ (let e : m ≡ n = eqb-true m n w.0 in rw (e, some_same span s w.1) refl)
  | inr w ↦ absurd (cc)
]
sign_is n (k.Ident x) span s h = absurd (cc)
sign_is n (k.Int x) span s h = absurd (cc)
sign_is n k.MinLit span s h = absurd (cc)
sign_is n (k.Str x) span s h = absurd (cc)

pub name_is : (kind : TokenKind) (span : Span) (x : Ident) → name_of kind span ≡ Some x → record { kind = kind; span = span } ≡ name_token x
name_is (k.Ident text) span x h = ap name_token (some_same (record { text = text; span = span }) x h)
name_is (k.Fixed m) span x h = absurd (cc)
name_is (k.Int n) span x h = absurd (cc)
name_is k.MinLit span x h = absurd (cc)
name_is (k.Str t) span x h = absurd (cc)

pub number_is : (kind : TokenKind) (span : Span) (x : At ℤ) → number_of kind span ≡ Some x → record { kind = kind; span = span } ≡ number_token x.value x.span
number_is (k.Int n) span x h = ap (λ (y : At ℤ). number_token y.value y.span) (some_same (record { value = n; span = span }) x h)
number_is (k.Ident t) span x h = absurd (cc)
number_is (k.Fixed m) span x h = absurd (cc)
number_is k.MinLit span x h = absurd (cc)
number_is (k.Str t) span x h = absurd (cc)

pub least_is : (kind : TokenKind) (span s : Span) → least_of kind span ≡ Some s → record { kind = kind; span = span } ≡ least_token s
least_is k.MinLit span s h = ap least_token (some_same span s h)
least_is (k.Ident t) span s h = absurd (cc)
least_is (k.Fixed m) span s h = absurd (cc)
least_is (k.Int n) span s h = absurd (cc)
least_is (k.Str t) span s h = absurd (cc)

pub text_is : (kind : TokenKind) (span : Span) (x : At (List ℕ)) → text_of kind span ≡ Some x → record { kind = kind; span = span } ≡ string_token x.value x.span
text_is (k.Str t) span x h = ap (λ (y : At (List ℕ)). string_token y.value y.span) (some_same (record { value = t; span = span }) x h)
text_is (k.Ident t) span x h = absurd (cc)
text_is (k.Fixed m) span x h = absurd (cc)
text_is (k.Int n) span x h = absurd (cc)
text_is k.MinLit span x h = absurd (cc)

spanned : {V : Type 0} (o : Option V) (span : Span) (x : At V) → with_span o span ≡ Some x → (span ≡ x.span) × (o ≡ Some x.value)
spanned {V = V} (Some v) span x h = let e = some_same (record { value = v; span = span }) x h in (ap (λ (y : At V). y.span) e, ap (λ (y : At V). some_of y.value) e)
spanned None span x h = absurd (cc)

pub one_is : {V : Type 0} (table : List (ℕ × V)) (kind : TokenKind) (span : Span) (x : At V) → one_of_kind table kind span ≡ Some x
    → (number : ℕ) × (record { kind = kind; span = span } ≡ sign number x.span) × (row table number ≡ Some x.value)
one_is table (k.Fixed m) span x h = let e = spanned (row table m) span x h in (m, ap (sign m) e.0, e.1)
one_is table (k.Ident t) span x h = absurd (cc)
one_is table (k.Int n) span x h = absurd (cc)
one_is table k.MinLit span x h = absurd (cc)
one_is table (k.Str t) span x h = absurd (cc)

moved : {A : Type 0} (R : List Token → A → Type 0) (r : Rule A) (t u : Token) → t ≡ u → Sound (λ seen a. R (u ∷ seen) a) r → Sound (λ seen a. R (t ∷ seen) a) r
moved R r t u e s = subst (λ x. Sound (λ seen a. R (x ∷ seen) a) r) (sym e) s

pub sign_sound : {A : Type 0} {R : List Token → A → Type 0} (n : ℕ) (fits : Bool) (p : Span → Rule A) (q : Rule A) → ((s : Span) → Sound (λ seen a. R (sign n s ∷ seen) a) (p s)) → Sound R q → Sound R (take (a_sign n) fits p q)
sign_sound {R = R} n fits p q sp sq = take_sound (a_sign n) fits p q (λ t s e. moved R (p s) t (sign n s) (sign_is n t.kind t.span s e) (sp s)) sq

pub name_sound : {A : Type 0} {R : List Token → A → Type 0} (fits : Bool) (p : Ident → Rule A) (q : Rule A) → ((x : Ident) → Sound (λ seen a. R (name_token x ∷ seen) a) (p x)) → Sound R q → Sound R (take a_name fits p q)
name_sound {R = R} fits p q sp sq = take_sound a_name fits p q (λ t x e. moved R (p x) t (name_token x) (name_is t.kind t.span x e) (sp x)) sq

pub number_sound : {A : Type 0} {R : List Token → A → Type 0} (fits : Bool) (p : At ℤ → Rule A) (q : Rule A) → ((x : At ℤ) → Sound (λ seen a. R (number_token x.value x.span ∷ seen) a) (p x)) → Sound R q → Sound R (take a_number fits p q)
number_sound {R = R} fits p q sp sq = take_sound a_number fits p q (λ t x e. moved R (p x) t (number_token x.value x.span) (number_is t.kind t.span x e) (sp x)) sq

pub least_sound : {A : Type 0} {R : List Token → A → Type 0} (fits : Bool) (p : Span → Rule A) (q : Rule A) → ((s : Span) → Sound (λ seen a. R (least_token s ∷ seen) a) (p s)) → Sound R q → Sound R (take a_least fits p q)
least_sound {R = R} fits p q sp sq = take_sound a_least fits p q (λ t s e. moved R (p s) t (least_token s) (least_is t.kind t.span s e) (sp s)) sq

pub text_sound : {A : Type 0} {R : List Token → A → Type 0} (fits : Bool) (p : At (List ℕ) → Rule A) (q : Rule A) → ((x : At (List ℕ)) → Sound (λ seen a. R (string_token x.value x.span ∷ seen) a) (p x)) → Sound R q → Sound R (take a_text fits p q)
text_sound {R = R} fits p q sp sq = take_sound a_text fits p q (λ t x e. moved R (p x) t (string_token x.value x.span) (text_is t.kind t.span x e) (sp x)) sq

-- a sign of a table
pub one_sound : {A V : Type 0} {R : List Token → A → Type 0} (table : List (ℕ × V)) (fits : Bool) (p : At V → Rule A) (q : Rule A)
    → ((number : ℕ) (x : At V) → row table number ≡ Some x.value → Sound (λ seen a. R (sign number x.span ∷ seen) a) (p x)) → Sound R q → Sound R (take (one_of table) fits p q)
one_sound {R = R} table fits p q sp sq = take_sound (one_of table) fits p q
    (λ t x e. let (number, is, found) = one_is table t.kind t.span x e in moved R (p x) t (sign number x.span) is (sp number x found)) sq

-- ---- repetitions: what the turns so far took stands in I to the state

abbrev pub After : {S B : Type 0} → (List Token → S → Type 0) → (List Token → B → Type 0) → List Token → List Token → Turn S B → Type 0
After I R front seen (On s) = I (front ++ seen) s
After I R front seen (Done b) = R (front ++ seen) b

module _ {S B : Type 0} (body : S → Rule (Turn S B)) (I : List Token → S → Type 0) (R : List Token → B → Type 0) (each : (s : S) (front : List Token) → I front s → Sound (After I R front) (body s)) where
  turned_sound : (before n : ℕ) (us : List Token) → ((t : S) (front vs : List Token) (b : B) → I front t → turns (λ x. run (body x)) n t vs ≡ Ok (b, us) → (seen : List Token) × (vs ≡ seen ++ us) × R (front ++ seen) b)
      → (r : Turn S B) (front seen vs : List Token) (b : B) → After I R front seen r → turned before (turns (λ x. run (body x)) n) r vs ≡ Ok (b, us) → (later : List Token) × (vs ≡ later ++ us) × R (front ++ (seen ++ later)) b
  turned_sound before n us ih (On t) front seen vs b i h = elim (chosen (nat_lt (length vs) before) _ _ _ h) [
    | inl w ↦ (let (later, same, q) = ih t (front ++ seen) vs b i w.1 in (later, same, subst (λ y. R y b) (append_assoc front seen later) q))
    | inr w ↦ absurd (cc)
  ]
  turned_sound before n us ih (Done c) front seen vs b r h = let q = same_ok (c, vs) (b, us) h in ([], ap (λ (p : B × List Token). p.1) q, subst (λ y. R (front ++ y) b) (sym (append-nil seen)) (subst (λ c. R (front ++ seen) c) (ap (λ (p : B × List Token). p.0) q) r))

  turns_sound : (n : ℕ) (s : S) (front ts us : List Token) (b : B) → I front s → turns (λ x. run (body x)) n s ts ≡ Ok (b, us) → (seen : List Token) × (ts ≡ seen ++ us) × R (front ++ seen) b
  turns_sound zero s front ts us b i h = absurd (cc)
  turns_sound (suc n) s front ts us b i h =
      let d = bind_ok (run (body s) ts) (turned (length ts) (turns (λ x. run (body x)) n)) (b, us) h in
      let l = each s front i in
      let (seen, is, r) = l.at ts d.0.1 d.0.0 d.1 in
      let (later, same, q) = turned_sound (length ts) n us (λ t later vs c j e. turns_sound n t later vs us c j e) d.0.0 front seen d.0.1 b r d.2 in
      (seen ++ later, is ∙ ap (λ y. seen ++ y) same ∙ sym (append_assoc seen later us), q)

  pub loop_sound : (s : S) (front : List Token) → I front s → Sound (λ seen b. R (front ++ seen) b) (loop body s)
  unfolding run
  loop_sound s front i = record { at = λ ts us b h. turns_sound (suc (length ts)) s front ts us b i h }

-- one rule, and what its node gives
pub map_sound : {A B : Type 0} {R : List Token → A → Type 0} {Q : List Token → B → Type 0} (p : Rule A) (f : A → B) → Sound R p → ((a : A) (seen : List Token) → R seen a → Q seen (f a)) → Sound Q (bind p (λ a. pure (f a)))
map_sound {Q = Q} p f sp w = bind_sound p _ sp (λ a seen r. pure_sound _ (subst (λ y. Q y (f a)) (sym (append-nil seen)) (w a seen r)))

-- an operator of a level
same_pair : (found : ℕ × BinaryOp) (level : ℕ) (op : BinaryOp) → found.0 ≡ level → found.1 ≡ op → Some found ≡ Some (level, op)
same_pair (m, o) level op a b = rw (a, b) refl

at_level_is : (level : ℕ) (o : Option (ℕ × BinaryOp)) (op : BinaryOp) → at_level level o ≡ Some op → o ≡ Some (level, op)
at_level_is level None op h = absurd (cc)
at_level_is level (Some found) op h = elim (chosen (found.0 == level) (Some found.1) None (Some op) h) [
  | inl w ↦ (let a : found.0 ≡ level = eqb-true found.0 level w.0 in let b : found.1 ≡ op = some_same found.1 op w.1 in same_pair found level op a b)
  | inr w ↦ absurd (cc)
]

pub operator_is : (level : ℕ) (kind : TokenKind) (span : Span) (x : At BinaryOp) → operator_of level kind span ≡ Some x
    → (number : ℕ) × (record { kind = kind; span = span } ≡ sign number x.span) × (row binary_signs number ≡ Some (level, x.value))
operator_is level (k.Fixed m) span x h = let e = spanned (at_level level (row binary_signs m)) span x h in (m, ap (sign m) e.0, at_level_is level (row binary_signs m) x.value e.1)
operator_is level (k.Ident t) span x h = absurd (cc)
operator_is level (k.Int n) span x h = absurd (cc)
operator_is level k.MinLit span x h = absurd (cc)
operator_is level (k.Str t) span x h = absurd (cc)

pub operator_sound : {A : Type 0} {R : List Token → A → Type 0} (level : ℕ) (fits : Bool) (p : At BinaryOp → Rule A) (q : Rule A)
    → ((number : ℕ) (x : At BinaryOp) → row binary_signs number ≡ Some (level, x.value) → Sound (λ seen a. R (sign number x.span ∷ seen) a) (p x)) → Sound R q → Sound R (take (an_operator level) fits p q)
operator_sound {R = R} level fits p q sp sq = take_sound (an_operator level) fits p q
    (λ t x e. let (number, is, found) = operator_is level t.kind t.span x e in moved R (p x) t (sign number x.span) is (sp number x found)) sq
