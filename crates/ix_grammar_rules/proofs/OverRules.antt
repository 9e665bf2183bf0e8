-- Rules with more height left: what a rule reads, or refuses for a token that may not come, the one with more height reads or refuses
-- alike; and where a rule stops for the height, the other one takes that token.
use Rattle.std.proofs.Common.{◌≡◌, ℕ, zero, suc, ◌<◌, ◌≤◌, nat_lt, Bool, true, false, cond, List, [], ◌∷◌, length, Option, Some, None, Ok, Err, refl, ap, arith, length-append}
use Rattle.ix_lexer.specs.declared.token.Token.{Token}
use Rattle.ix_grammar_rules.specs.declared.stop.Stop.{Stop}
use Rattle.ix_grammar_rules.specs.declared.stop.Stop.TheVariants.{Syntax, TooDeep, Memory}
use Rattle.ix_grammar_rules.specs.Rule.{Rule, pure, take, bind, stop, loop, Turn, On, Done, Outcome, Parser, and_then, taken, turned, turns, run}
use Rattle.ix_grammar_rules.proofs.Runs.{local, left_of}
use Rattle.ix_grammar_rules.proofs.GiveRules.{Gives, Turned}

abbrev pub Refused : {A : Type 0} → Stop → List Token → Outcome A → Type 0
Refused Syntax us o = o ≡ Err (Syntax, us)
Refused TooDeep us o = length (left_of o) < length us
Refused Memory us o = Unit {0}

abbrev pub Further : {A : Type 0} → Outcome A → Outcome A → Type 0
Further (Ok p) o = o ≡ Ok p
Further (Err x) o = Refused x.0 x.1 o

-- the second rule has more height left than the first
pub record Over {A : Type 0} (r s : Rule A) : Type 0 where
  pub at : (ts : List Token) → Further (run r ts) (run s ts)

pub over_pure : {A : Type 0} (a : A) → Over (pure a) (pure a)
unfolding run
over_pure a = record { at = λ ts. refl }

pub over_stop : {A : Type 0} → Over {A = A} stop stop
unfolding run
over_stop = record { at = λ ts. refl }

-- what is left is no more than there was
left_short : {A : Type 0} (r : Rule A) (ts : List Token) → length (left_of (run r ts)) ≤ length ts
left_short r ts = let l = local r ts in omega (arith, ap length l.is, length-append l.seen (left_of (run r ts)))

over_taken : {A V : Type 0} (want : Token → Option V) (fits : Bool) (p p' : V → Rule A) (q q' : Rule A) (t : Token) (ts : List Token) → ((v : V) → fits ≡ true → Over (p v) (p' v)) → Over q q'
    → (o : Option V) → Further (taken fits (λ v. run (p v)) (run q) o (t ∷ ts)) (taken true (λ v. run (p' v)) (run q') o (t ∷ ts))
over_taken want true p p' q q' t ts op oq (Some v) = let o = op v refl in o.at ts
over_taken want false p p' q q' t ts op oq (Some v) = omega (arith, left_short (p' v) ts)
over_taken want fits p p' q q' t ts op oq None = oq.at (t ∷ ts)

over_true : {A V : Type 0} (want : Token → Option V) (fits : Bool) (p p' : V → Rule A) (q q' : Rule A) → ((v : V) → fits ≡ true → Over (p v) (p' v)) → Over q q' → Over (take want fits p q) (take want true p' q')
unfolding run
over_true want fits p p' q q' op oq = record {
  at = λ ts. elim ts as (λ ts. Further (run (take want fits p q) ts) (run (take want true p' q') ts)) [
    | [] ↦ oq.at []
    | t ∷ ts ↦ over_taken want fits p p' q q' t ts op oq (want t)
  ];
}

pub over_take : {A V : Type 0} (want : Token → Option V) (fits more : Bool) (p p' : V → Rule A) (q q' : Rule A) → more ≡ true → ((v : V) → fits ≡ true → Over (p v) (p' v)) → Over q q'
    → Over (take want fits p q) (take want more p' q')
over_take want fits true p p' q q' is op oq = over_true want fits p p' q q' op oq
over_take want fits false p p' q q' is op oq = absurd (cc)

-- ---- one after the other

left_then : {A B : Type 0} (o : Outcome A) (f : A → Rule B) → length (left_of (and_then o (λ a. run (f a)))) ≤ length (left_of o)
left_then (Ok p) f = left_short (f p.0) p.1
left_then (Err x) f = omega arith

over_then : {A B : Type 0} (o u : Outcome A) (f f' : A → Rule B) → Further o u → ((a : A) (us : List Token) → o ≡ Ok (a, us) → Over (f a) (f' a)) → Further (and_then o (λ a. run (f a))) (and_then u (λ a. run (f' a)))
over_then (Ok p) u f f' h of = let o = of p.0 p.1 refl in rw h (o.at p.1)
over_then (Err (Syntax, us)) u f f' h of = rw h refl
over_then (Err (TooDeep, us)) u f f' h of = omega (arith, h, left_then u f')
over_then (Err (Memory, us)) u f f' h of = tt

pub over_bind : {A B : Type 0} {P : A → Type 0} (p p' : Rule A) (f f' : A → Rule B) → Gives P p → Over p p' → ((a : A) → P a → Over (f a) (f' a)) → Over (bind p f) (bind p' f')
unfolding run
over_bind p p' f f' g op of = record { at = λ ts. over_then (run p ts) (run p' ts) f f' (op.at ts) (λ a us h. of a (g.at ts us a h)) }

-- ---- repetitions

left_cond : {A : Type 0} (b : Bool) (o : Outcome A) (us : List Token) → length (left_of o) ≤ length us → length (left_of (cond b o (Err (Syntax, us)))) ≤ length us
left_cond true o us le = le
left_cond false o us le = omega arith

left_turned : {S B : Type 0} (before : ℕ) (go : S → Parser B) → ((s : S) (us : List Token) → length (left_of (go s us)) ≤ length us) → (r : Turn S B) (us : List Token) → length (left_of (turned before go r us)) ≤ length us
left_turned before go each (On s) us = left_cond (nat_lt (length us) before) (go s us) us (each s us)
left_turned before go each (Done b) us = omega arith

left_more : {S B : Type 0} (o : Outcome (Turn S B)) (before : ℕ) (go : S → Parser B) → ((s : S) (us : List Token) → length (left_of (go s us)) ≤ length us) → length (left_of (and_then o (turned before go))) ≤ length (left_of o)
left_more (Ok p) before go each = left_turned before go each p.0 p.1
left_more (Err x) before go each = omega arith

left_turns : {S B : Type 0} (body : S → Rule (Turn S B)) (n : ℕ) (s : S) (ts : List Token) → length (left_of (turns (λ x. run (body x)) n s ts)) ≤ length ts
left_turns body zero s ts = omega arith
left_turns body (suc n) s ts = omega (arith, left_more (run (body s) ts) (length ts) (turns (λ x. run (body x)) n) (left_turns body n), left_short (body s) ts)

module _ {S B : Type 0} (body body' : S → Rule (Turn S B)) (Q : S → Type 0) (P : B → Type 0)
    (gives : (s : S) → Q s → Gives (Turned Q P) (body s)) (over : (s : S) → Q s → Over (body s) (body' s)) where
  over_cond : (b : Bool) (o u : Outcome B) (us : List Token) → Further o u → Further (cond b o (Err (Syntax, us))) (cond b u (Err (Syntax, us)))
  over_cond true o u us h = h
  over_cond false o u us h = refl

  over_turned : (before n : ℕ) → ((s : S) (us : List Token) → Q s → Further (turns (λ x. run (body x)) n s us) (turns (λ x. run (body' x)) n s us))
      → (r : Turn S B) (us : List Token) → Turned Q P r → Further (turned before (turns (λ x. run (body x)) n) r us) (turned before (turns (λ x. run (body' x)) n) r us)
  over_turned before n ih (On t) us q = over_cond (nat_lt (length us) before) (turns (λ x. run (body x)) n t us) (turns (λ x. run (body' x)) n t us) us (ih t us q)
  over_turned before n ih (Done b) us q = refl

  over_more : (o u : Outcome (Turn S B)) (before n : ℕ) → ((s : S) (us : List Token) → Q s → Further (turns (λ x. run (body x)) n s us) (turns (λ x. run (body' x)) n s us))
      → ((r : Turn S B) (us : List Token) → o ≡ Ok (r, us) → Turned Q P r) → Further o u
      → Further (and_then o (turned before (turns (λ x. run (body x)) n))) (and_then u (turned before (turns (λ x. run (body' x)) n)))
  over_more (Ok p) u before n ih g h = rw h (over_turned before n ih p.0 p.1 (g p.0 p.1 refl))
  over_more (Err (Syntax, us)) u before n ih g h = rw h refl
  over_more (Err (TooDeep, us)) u before n ih g h = omega (arith, h, left_more u before (turns (λ x. run (body' x)) n) (left_turns body' n))
  over_more (Err (Memory, us)) u before n ih g h = tt

  over_turns : (n : ℕ) (s : S) (ts : List Token) → Q s → Further (turns (λ x. run (body x)) n s ts) (turns (λ x. run (body' x)) n s ts)
  over_turns zero s ts q = refl
  over_turns (suc n) s ts q = let o = over s q in let g = gives s q in
      over_more (run (body s) ts) (run (body' s) ts) (length ts) n (λ t us p. over_turns n t us p) (λ r us h. g.at ts us r h) (o.at ts)

  pub over_loop : (s : S) → Q s → Over (loop body s) (loop body' s)
  unfolding run
  over_loop s q = record { at = λ ts. over_turns (suc (length ts)) s ts q }
