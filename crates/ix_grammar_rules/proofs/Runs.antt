-- What holds of every rule: it takes a front of the tokens, and reads the same where other tokens follow.
use Rattle.std.proofs.Common.{◌≡◌, ℕ, zero, suc, ◌+◌, ◌<◌, ◌≤◌, nat_lt, Bool, true, false, cond, List, [], ◌∷◌, ◌++◌, length, Option, Some, None, Ok, Err, refl, sym, ap, subst, ◌∙◌, append_assoc, arith, ◌⊎◌, inl, inr, length-append}
use Rattle.std.proofs.lemmas.Bool.{lt-ltb, ltb-true, ltb-false}
use Rattle.ix_lexer.specs.declared.token.Token.{Token}
use Rattle.ix_lexer.proofs.Scans.{chosen}
use Rattle.ix_grammar_rules.specs.declared.stop.Stop.{Stop}
use Rattle.ix_grammar_rules.specs.declared.stop.Stop.TheVariants.{Syntax}
use Rattle.ix_grammar_rules.specs.Rule.{Rule, pure, take, bind, stop, loop, Turn, On, Done, Outcome, Parser, and_then, look, rest, taken, turned, turns, run}

abbrev pub ok_of : {A : Type 0} → A × List Token → Outcome A
ok_of x = Ok x

pub same_ok : {A : Type 0} (x y : A × List Token) → ok_of x ≡ ok_of y → x ≡ y
same_ok x y h = cc

pub bind_ok : {A B : Type 0} (r : Outcome A) (f : A → Parser B) (y : B × List Token) → and_then r f ≡ Ok y → (p : A × List Token) × (r ≡ Ok p) × (f p.0 p.1 ≡ Ok y)
bind_ok (Ok p) f y h = (p, refl, h)
bind_ok (Err x) f y h = absurd (cc)

-- ---- a front of the tokens is taken

abbrev pub Front : List Token → List Token → Type 0
Front ts us = (seen : List Token) × (ts ≡ seen ++ us)

front_rest : (ts : List Token) → Front ts (rest ts)
front_rest [] = ([], refl)
front_rest (t ∷ ts) = (t ∷ [], refl)

pub front_then : (ts us vs : List Token) → Front ts us → Front us vs → Front ts vs
front_then ts us vs a b = (a.0 ++ b.0, a.1 ∙ ap (λ y. a.0 ++ y) b.1 ∙ sym (append_assoc a.0 b.0 vs))

Fronts : {A : Type 0} → Parser A → Type 0
Fronts {A} p = (ts us : List Token) (a : A) → p ts ≡ Ok (a, us) → Front ts us

turned_front : {S B : Type 0} (n : ℕ) (go : S → Parser B) → ((s : S) → Fronts (go s)) → (r : Turn S B) (vs us : List Token) (b : B) → turned n go r vs ≡ Ok (b, us) → Front vs us
unfolding Fronts
turned_front n go ih (On s) vs us b h = elim (chosen (nat_lt (length vs) n) _ _ _ h) [
  | inl w ↦ ih s vs us b w.1
  | inr w ↦ absurd (cc)
]
turned_front {B = B} n go ih (Done c) vs us b h = ([], ap (λ (p : B × List Token). p.1) (same_ok (c, vs) (b, us) h))

turns_front : {S B : Type 0} (body : S → Parser (Turn S B)) → ((s : S) → Fronts (body s)) → (n : ℕ) (s : S) → Fronts (turns body n s)
unfolding Fronts
turns_front body each zero s ts us b h = absurd (cc)
turns_front body each (suc n) s ts us b h =
    let d = bind_ok (body s ts) (turned (length ts) (turns body n)) (b, us) h in
    front_then ts d.0.1 us (each s ts d.0.1 d.0.0 d.1) (turned_front (length ts) (turns body n) (λ t. turns_front body each n t) d.0.0 d.0.1 us b d.2)

taken_front : {A V : Type 0} (fits : Bool) (p : V → Parser A) (q : Parser A) → ((v : V) → Fronts (p v)) → Fronts q → (o : Option V) → Fronts (taken fits p q o)
unfolding Fronts
taken_front fits p q sp sq (Some v) ts us a h = elim (chosen fits _ _ _ h) [
  | inl w ↦ front_then ts (rest ts) us (front_rest ts) (sp v (rest ts) us a w.1)
  | inr w ↦ absurd (cc)
]
taken_front fits p q sp sq None ts us a h = sq ts us a h

pub front : {A : Type 0} (r : Rule A) (ts us : List Token) (a : A) → run r ts ≡ Ok (a, us) → Front ts us
unfolding run Fronts
front {A = A} (pure b) ts us a h = ([], ap (λ (p : A × List Token). p.1) (same_ok (b, ts) (a, us) h))
front (take want fits p q) ts us a h = taken_front fits (λ v. run (p v)) (run q) (λ v. front (p v)) (front q) (look want ts) ts us a h
front (bind p f) ts us b h = let d = bind_ok (run p ts) (λ a. run (f a)) (b, us) h in front_then ts d.0.1 us (front p ts d.0.1 d.0.0 d.1) (front (f d.0.0) d.0.1 us b d.2)
front stop ts us a h = absurd (cc)
front (loop body s) ts us b h = turns_front (λ t. run (body t)) (λ t. front (body t)) (suc (length ts)) s ts us b h

-- ---- repetitions

-- a choice by a number that is less
abbrev Less : {A : Type 0} → ℕ → ℕ → A → A → A → Type 0
Less n k yes_case other z = ((n < k) × (yes_case ≡ z)) ⊎ ((nat_lt n k ≡ false) × (other ≡ z))

shorter : {A : Type 0} (n k : ℕ) (x y z : A) → cond (nat_lt n k) x y ≡ z → Less n k x y z
shorter n k x y z h = elim (chosen (nat_lt n k) x y z h) [
  | inl w ↦ inl (ltb-true n k w.0, w.1)
  | inr w ↦ inr w
]

choice_same : {A : Type 0} (n k : ℕ) (x y z : A) → (n < k → x ≡ y) → cond (nat_lt n k) x z ≡ cond (nat_lt n k) y z
choice_same n k x y z h = elim (shorter n k x z (cond (nat_lt n k) x z) refl) [
  | inl w ↦ rw (lt-ltb n k w.0) (h w.0)
  | inr w ↦ rw w.0 refl
]

turned_enough : {S B : Type 0} (n m k : ℕ) (p q : S → Parser B) → k ≤ n → k ≤ m → ((s : S) (ts : List Token) → length ts < n → length ts < m → p s ts ≡ q s ts)
    → (r : Outcome (Turn S B)) → and_then r (turned k p) ≡ and_then r (turned k q)
turned_enough n m k p q a b ih (Ok (On s, ts)) = choice_same (length ts) k (p s ts) (q s ts) (Err (Syntax, ts)) (λ l. ih s ts (omega (arith, l, a)) (omega (arith, l, b)))
turned_enough n m k p q a b ih (Ok (Done c, ts)) = refl
turned_enough n m k p q a b ih (Err x) = refl

-- any number of turns above the number of tokens does
enough : {S B : Type 0} (body : S → Parser (Turn S B)) (n m : ℕ) (s : S) (ts : List Token) → length ts < n → length ts < m → turns body n s ts ≡ turns body m s ts
enough body zero m s ts a b = absurd (omega (arith, a))
enough body (suc n) zero s ts a b = absurd (omega (arith, b))
enough body (suc n) (suc m) s ts a b = turned_enough n m (length ts) (turns body n) (turns body m) (omega (arith, a)) (omega (arith, b)) (λ t us l k. enough body n m t us l k) (body s ts)

pub b_cond : (b : Bool) → cond b true false ≡ b
b_cond true = refl
b_cond false = refl

none_taken : (m t k v w : ℕ) → nat_lt m t ≡ false → t ≡ k + m → w ≡ k + v → nat_lt v w ≡ false
none_taken m t k v w f e d = let g : t ≤ m = ltb-false m t f in elim (shorter v w true false (nat_lt v w) (b_cond (nat_lt v w))) [
  | inl l ↦ absurd (omega (arith, l.0, g, e, d))
  | inr r ↦ r.0
]

-- a turn that goes on
pub loop_on : {S B : Type 0} (body : S → Rule (Turn S B)) (s t : S) (ts us : List Token) → run (body s) ts ≡ Ok (On t, us) → length us < length ts → run (loop body s) ts ≡ run (loop body t) us
unfolding run
loop_on body s t ts us h l = rw (h, lt-ltb (length us) (length ts) l) (enough (λ x. run (body x)) (length ts) (suc (length us)) t us l (omega arith))

-- the last turn
pub loop_done : {S B : Type 0} (body : S → Rule (Turn S B)) (s : S) (b : B) (ts us : List Token) → run (body s) ts ≡ Ok (Done b, us) → run (loop body s) ts ≡ Ok (b, us)
unfolding run
loop_done body s b ts us h = rw h refl

-- a turn that isn't read
pub loop_stops : {S B : Type 0} (body : S → Rule (Turn S B)) (s : S) (ts us : List Token) (w : Stop) → run (body s) ts ≡ Err (w, us) → run (loop body s) ts ≡ Err (w, us)
unfolding run
loop_stops body s ts us w h = rw h refl

-- ---- what follows is of no account

abbrev pub first : List Token → Option Token
first [] = None
first (t ∷ ts) = Some t

abbrev look_at : {V : Type 0} → (Token → Option V) → Option Token → Option V
look_at want None = None
look_at want (Some t) = want t

look_first : {V : Type 0} (want : Token → Option V) (ts : List Token) → look want ts ≡ look_at want (first ts)
look_first want [] = refl
look_first want (t ∷ ts) = refl

look_same : {V : Type 0} (want : Token → Option V) (ts us : List Token) → first ts ≡ first us → look want us ≡ look want ts
look_same want ts us h = look_first want us ∙ ap (look_at want) (sym h) ∙ sym (look_first want ts)

first_same : (seen us vs : List Token) → first us ≡ first vs → first (seen ++ us) ≡ first (seen ++ vs)
first_same [] us vs h = h
first_same (t ∷ seen) us vs h = refl

-- the outcome on other tokens behind those that were taken
abbrev pub Elsewhere : {A : Type 0} → Outcome A → List Token → Outcome A
Elsewhere (Ok p) vs = Ok (p.0, vs)
Elsewhere (Err x) vs = Err (x.0, vs)

abbrev pub left_of : {A : Type 0} → Outcome A → List Token
left_of (Ok p) = p.1
left_of (Err x) = x.1

-- The outcome o on these tokens is that on others that begin alike, up to and with the first one that is left.
pub record Local {A : Type 0} (o : Outcome A) (p : Parser A) (ts : List Token) : Type 0 where
  pub seen : List Token
  pub is : ts ≡ seen ++ left_of o
  pub same : (vs : List Token) → first (left_of o) ≡ first vs → p (seen ++ vs) ≡ Elsewhere o vs

taken_local : {A V : Type 0} (want : Token → Option V) (fits : Bool) (here : V → Rule A) (other : Rule A) (t : Token) (ts : List Token)
    → ((v : V) → Local (run (here v) ts) (run (here v)) ts) → Local (run other (t ∷ ts)) (run other) (t ∷ ts)
    → (o : Option V) → want t ≡ o → Local (taken fits (λ v. run (here v)) (run other) o (t ∷ ts)) (λ us. taken fits (λ v. run (here v)) (run other) (look want us) us) (t ∷ ts)
taken_local want true here other t ts lh lo (Some v) e =
    let l = lh v in
    record { seen = t ∷ l.seen; is = ap (λ y. t ∷ y) l.is; same = λ vs h. rw e (l.same vs h) }
taken_local want false here other t ts lh lo (Some v) e =
    record { seen = []; is = refl; same = λ vs h. rw (look_same want (t ∷ ts) vs h, e) refl }
taken_local want fits here other t ts lh lo None e =
    record { seen = lo.seen; is = lo.is; same = λ vs h. rw (look_same want (t ∷ ts) (lo.seen ++ vs) (ap first lo.is ∙ first_same lo.seen (left_of (run other (t ∷ ts))) vs h), e) (lo.same vs h) }

bind_local : {A B : Type 0} (o : Outcome A) (p : Parser A) (f : A → Parser B) (ts : List Token) → Local o p ts → ((a : A) (ms : List Token) → Local (f a ms) (f a) ms) → Local (and_then o f) (λ us. and_then (p us) f) ts
bind_local (Ok (a, ms)) p f ts l each =
    let k = each a ms in
    record {
      seen = l.seen ++ k.seen;
      is = l.is ∙ ap (λ y. l.seen ++ y) k.is ∙ sym (append_assoc l.seen k.seen (left_of (f a ms)));
      same = λ vs h. rw (append_assoc, l.same (k.seen ++ vs) (ap first k.is ∙ first_same k.seen (left_of (f a ms)) vs h)) (k.same vs h);
    }
bind_local (Err x) p f ts l each = record { seen = l.seen; is = l.is; same = λ vs h. rw (l.same vs h) refl }

abbrev Turns : {S B : Type 0} → (S → Parser (Turn S B)) → S → Parser B
Turns body s us = turns body (suc (length us)) s us

turned_local : {S B : Type 0} (body : S → Parser (Turn S B)) (n : ℕ) (s : S) (ts : List Token) → length ts ≤ n → ((t : S) (ms : List Token) → length ms < n → Local (turns body n t ms) (Turns body t) ms)
    → (o : Outcome (Turn S B)) → Local o (body s) ts → Local (and_then o (turned (length ts) (turns body n))) (Turns body s) ts
turned_local body n s ts le ih (Ok (Done b, ms)) l = record { seen = l.seen; is = l.is; same = λ vs h. rw (l.same vs h) refl }
turned_local body n s ts le ih (Err x) l = record { seen = l.seen; is = l.is; same = λ vs h. rw (l.same vs h) refl }
turned_local body n s ts le ih (Ok (On t, ms)) l = elim (shorter (length ms) (length ts) (turns body n t ms) (Err (Syntax, ms)) (turned (length ts) (turns body n) (On t) ms) refl) [
  | inl w ↦ (
      let k = ih t ms (omega (arith, w.0, le)) in
      let is : ts ≡ l.seen ++ (k.seen ++ left_of (turns body n t ms)) = l.is ∙ ap (λ y. l.seen ++ y) k.is in
      subst (λ o. Local o (Turns body s) ts) w.1 (record {
        seen = l.seen ++ k.seen;
        is = is ∙ sym (append_assoc l.seen k.seen (left_of (turns body n t ms)));
        same = λ vs h.
            let one : body s (l.seen ++ (k.seen ++ vs)) ≡ Ok (On t, k.seen ++ vs) = l.same (k.seen ++ vs) (ap first k.is ∙ first_same k.seen (left_of (turns body n t ms)) vs h) in
            let takes : length (k.seen ++ vs) < length (l.seen ++ (k.seen ++ vs)) = omega (arith, w.0, ap length l.is, length-append l.seen ms, length-append l.seen (k.seen ++ vs)) in
            rw (append_assoc, one, lt-ltb (length (k.seen ++ vs)) (length (l.seen ++ (k.seen ++ vs))) takes)
            (enough body (length (l.seen ++ (k.seen ++ vs))) (suc (length (k.seen ++ vs))) t (k.seen ++ vs) takes (omega arith) ∙ k.same vs h);
      }))
  | inr w ↦ subst (λ o. Local o (Turns body s) ts) w.1 (record { seen = l.seen; is = l.is; same = λ vs h. rw (l.same vs h) (rw (none_taken (length ms) (length ts) (length l.seen) (length vs) (length (l.seen ++ vs)) w.0 (ap length l.is ∙ length-append l.seen ms) (length-append l.seen vs)) refl) })
]

turns_local : {S B : Type 0} (body : S → Parser (Turn S B)) → ((s : S) (ts : List Token) → Local (body s ts) (body s) ts) → (n : ℕ) (s : S) (ts : List Token) → length ts < n → Local (turns body n s ts) (Turns body s) ts
turns_local body each zero s ts lt = absurd (omega (arith, lt))
turns_local body each (suc n) s ts lt = turned_local body n s ts (omega (arith, lt)) (λ t ms l. turns_local body each n t ms l) (body s ts) (each s ts)

pub local : {A : Type 0} (r : Rule A) (ts : List Token) → Local (run r ts) (run r) ts
unfolding run
local (pure a) ts = record { seen = []; is = refl; same = λ vs h. refl }
local (take want fits here other) [] = let l = local other [] in record { seen = l.seen; is = l.is; same = λ vs h. rw (look_same want [] (l.seen ++ vs) (ap first l.is ∙ first_same l.seen (left_of (run other [])) vs h)) (l.same vs h) }
local (take want fits here other) (t ∷ ts) = taken_local want fits here other t ts (λ v. local (here v) ts) (local other (t ∷ ts)) (want t) refl
local (bind p f) ts = bind_local (run p ts) (run p) (λ a. run (f a)) ts (local p ts) (λ a ms. local (f a) ms)
local stop ts = record { seen = []; is = refl; same = λ vs h. refl }
local (loop body s) ts = turns_local (λ t. run (body t)) (λ t us. local (body t) us) (suc (length ts)) s ts (omega arith)
