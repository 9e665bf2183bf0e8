-- What holds of everything that a rule gives.
use Rattle.std.proofs.Common.{◌≡◌, ℕ, zero, suc, nat_lt, Bool, true, List, length, Option, Some, None, Ok, ap, subst, inl, inr}
use Rattle.ix_lexer.specs.declared.token.Token.{Token}
use Rattle.ix_lexer.proofs.Scans.{chosen}
use Rattle.ix_grammar_rules.specs.Rule.{Rule, pure, take, bind, stop, loop, Turn, On, Done, look, rest, taken, turned, turns, run}
use Rattle.ix_grammar_rules.proofs.Runs.{same_ok, bind_ok}
use Rattle.ix_grammar_rules.proofs.SoundRules.{Sound}

pub record Gives {A : Type 0} (P : A → Type 0) (r : Rule A) : Type 0 where
  pub at : (ts us : List Token) (a : A) → run r ts ≡ Ok (a, us) → P a

pub gives_more : {A : Type 0} {P Q : A → Type 0} (r : Rule A) → ((a : A) → P a → Q a) → Gives P r → Gives Q r
gives_more r w g = record { at = λ ts us a h. w a (g.at ts us a h) }

pub sound_gives : {A : Type 0} {R : List Token → A → Type 0} {P : A → Type 0} (r : Rule A) → Sound R r → ((ts : List Token) (a : A) → R ts a → P a) → Gives P r
sound_gives r s w = record { at = λ ts us a h. let (seen, is, d) = s.at ts us a h in w seen a d }

-- sound, with what holds of all that it gives
pub both : {A : Type 0} {R : List Token → A → Type 0} {P : A → Type 0} (r : Rule A) → Sound R r → Gives P r → Sound (λ ts a. R ts a × P a) r
both r s g = record { at = λ ts us a h. let (seen, is, d) = s.at ts us a h in (seen, is, (d, g.at ts us a h)) }

pub pure_gives : {A : Type 0} {P : A → Type 0} (a : A) → P a → Gives P (pure a)
unfolding run
pure_gives {A = A} {P = P} a h = record { at = λ ts us b e. subst P (ap (λ (p : A × List Token). p.0) (same_ok (a, ts) (b, us) e)) h }

pub any_gives : {A : Type 0} {r : Rule A} → Gives (λ a. Unit {0}) r
any_gives = record { at = λ ts us a h. tt }

pub stop_gives : {A : Type 0} {P : A → Type 0} → Gives P stop
unfolding run
stop_gives = record { at = λ ts us b e. absurd (cc) }

taken_gives : {A V : Type 0} {P : A → Type 0} (fits : Bool) (p : V → Rule A) (q : Rule A) (ts us : List Token) (a : A) → (fits ≡ true → (v : V) → Gives P (p v)) → Gives P q
    → (o : Option V) → taken fits (λ v. run (p v)) (run q) o ts ≡ Ok (a, us) → P a
taken_gives fits p q ts us a gp gq (Some v) h = elim (chosen fits _ _ _ h) [
  | inl w ↦ (let l = gp w.0 v in l.at (rest ts) us a w.1)
  | inr w ↦ absurd (cc)
]
taken_gives fits p q ts us a gp gq None h = gq.at ts us a h

pub take_gives : {A V : Type 0} {P : A → Type 0} (want : Token → Option V) (fits : Bool) (p : V → Rule A) (q : Rule A) → (fits ≡ true → (v : V) → Gives P (p v)) → Gives P q → Gives P (take want fits p q)
unfolding run
take_gives want fits p q gp gq = record { at = λ ts us a h. taken_gives fits p q ts us a gp gq (look want ts) h }

pub bind_gives : {A B : Type 0} {P : A → Type 0} {Q : B → Type 0} (p : Rule A) (f : A → Rule B) → Gives P p → ((a : A) → P a → Gives Q (f a)) → Gives Q (bind p f)
unfolding run
bind_gives p f gp gf = record {
  at = λ ts us b h.
      let d = bind_ok (run p ts) (λ a. run (f a)) (b, us) h in
      let l = gf d.0.0 (gp.at ts d.0.1 d.0.0 d.1) in
      l.at d.0.1 us b d.2;
}

abbrev pub Turned : {S B : Type 0} → (S → Type 0) → (B → Type 0) → Turn S B → Type 0
Turned Q P (On s) = Q s
Turned Q P (Done b) = P b

module _ {S B : Type 0} (body : S → Rule (Turn S B)) (Q : S → Type 0) (P : B → Type 0) (each : (s : S) → Q s → Gives (Turned Q P) (body s)) where
  turned_gives : (before n : ℕ) (us : List Token) (b : B) → ((t : S) (vs : List Token) → Q t → turns (λ x. run (body x)) n t vs ≡ Ok (b, us) → P b) → (r : Turn S B) (vs : List Token) → Turned Q P r → turned before (turns (λ x. run (body x)) n) r vs ≡ Ok (b, us) → P b
  turned_gives before n us b ih (On t) vs i h = elim (chosen (nat_lt (length vs) before) _ _ _ h) [
    | inl w ↦ ih t vs i w.1
    | inr w ↦ absurd (cc)
  ]
  turned_gives before n us b ih (Done c) vs i h = subst P (ap (λ (p : B × List Token). p.0) (same_ok (c, vs) (b, us) h)) i

  turns_gives : (n : ℕ) (s : S) (ts us : List Token) (b : B) → Q s → turns (λ x. run (body x)) n s ts ≡ Ok (b, us) → P b
  turns_gives zero s ts us b i h = absurd (cc)
  turns_gives (suc n) s ts us b i h =
      let d = bind_ok (run (body s) ts) (turned (length ts) (turns (λ x. run (body x)) n)) (b, us) h in
      let l = each s i in
      turned_gives (length ts) n us b (λ t vs j e. turns_gives n t vs us b j e) d.0.0 d.0.1 (l.at ts d.0.1 d.0.0 d.1) d.2

  pub loop_gives : (s : S) → Q s → Gives P (loop body s)
  unfolding run
  loop_gives s i = record { at = λ ts us b h. turns_gives (suc (length ts)) s ts us b i h }
