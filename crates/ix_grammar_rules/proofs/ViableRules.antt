-- Where a rule stops, what it took goes on: to what stands in a relation to some node. For the ways in which rules are put together.
use Rattle.std.proofs.Common.{◌≡◌, ℕ, zero, suc, nat_lt, ℤ, Bool, true, false, List, [], ◌∷◌, ◌++◌, length, Option, Some, None, Ok, Err, refl, sym, ap, subst, ◌∙◌, append_assoc, ◌⊎◌, inl, inr}
use Rattle.std.proofs.lemmas.List.{append-nil}
use Rattle.ix_text.specs.declared.span.Span.{Span}
use Rattle.ix_lexer.specs.declared.token.Token.{Token}
use Rattle.ix_lexer.proofs.Scans.{chosen}
use Rattle.ix_grammar_rules.specs.declared.stop.Stop.{Stop}
use Rattle.ix_grammar_rules.specs.declared.stop.Stop.TheVariants.{Syntax, TooDeep}
use Rattle.ix_tree.specs.declared.annot.Ident.{Ident}
use Rattle.ix_tree.specs.declared.expr.BinaryOp.{BinaryOp}
use Rattle.ix_grammar.specs.declared.found.At.{At}
use Rattle.ix_grammar_rules.specs.Rule.{Rule, pure, take, bind, stop, loop, Turn, On, Done, Outcome, Parser, and_then, taken, turned, turns, run}
use Rattle.ix_grammar.specs.Patterns.{sign, name_token, number_token, least_token, string_token, a_sign, a_name, a_number, a_least, a_text, one_of, row, an_operator, binary_signs}
use Rattle.ix_grammar_rules.proofs.Runs.{bind_ok}
use Rattle.ix_grammar_rules.proofs.SoundRules.{Sound, After, sign_is, name_is, number_is, least_is, text_is, one_is, operator_is}

-- these tokens go on to some that stand in the relation
abbrev pub Goes : {A : Type 0} → (List Token → A → Type 0) → List Token → Type 0
Goes {A} R seen = (others : List Token) × (a : A) × R (seen ++ others) a

pub record Viable {A : Type 0} (R : List Token → A → Type 0) (r : Rule A) : Type 0 where
  pub at : (ts us : List Token) (why : Stop) → run r ts ≡ Err (why, us) → (seen : List Token) × (ts ≡ seen ++ us) × Goes R seen

-- ---- as they are put together

abbrev stopped_at : (A : Type 0) → Stop × List Token → Outcome A
stopped_at A x = Err x

stop_same : (A : Type 0) (x y : Stop × List Token) → stopped_at A x ≡ stopped_at A y → x ≡ y
stop_same A x y h = cc

err_same : {A : Type 0} (o : Outcome A) (x y : Stop × List Token) → o ≡ Err x → o ≡ Err y → x ≡ y
err_same o x y a b = cc

no_err : {A : Type 0} (o : Outcome A) (p : A × List Token) (x : Stop × List Token) → o ≡ Ok p → o ≡ Err x → ⊥
no_err o p x a b = cc

pub pure_viable : {A : Type 0} {R : List Token → A → Type 0} (a : A) → Viable R (pure a)
unfolding run
pure_viable {A = A} {R = R} a = record { at = λ ts us why e. absurd (no_err (Ok (a, ts)) (a, ts) (why, us) refl e) }

-- nothing was taken, and something could come
none_taken : {A : Type 0} (R : List Token → A → Type 0) (o : Outcome A) (x why : Stop) (ts us : List Token) → Goes R [] → o ≡ Err (x, ts) → o ≡ Err (why, us)
    → (seen : List Token) × (ts ≡ seen ++ us) × Goes R seen
none_taken R o x why ts us g a b = ([], ap (λ (p : Stop × List Token). p.1) (err_same o (x, ts) (why, us) a b), g)

pub stop_viable : {A : Type 0} {R : List Token → A → Type 0} → Goes R [] → Viable R stop
unfolding run
stop_viable {R = R} g = record { at = λ ts us why e. none_taken R (Err (Syntax, ts)) Syntax why ts us g refl e }

-- the wanted token, where it tells what it is
taken_viable : {A V : Type 0} (R : List Token → A → Type 0) (want : Token → Option V) (fits : Bool) (p : V → Rule A) (q : Rule A) (t : Token) (ts us : List Token) (why : Stop)
    → (fits ≡ false → Goes R []) → ((v : V) → fits ≡ true → want t ≡ Some v → Viable (λ seen a. R (t ∷ seen) a) (p v)) → Viable R q
    → (o : Option V) → want t ≡ o → taken fits (λ v. run (p v)) (run q) o (t ∷ ts) ≡ Err (why, us) → (seen : List Token) × (t ∷ ts ≡ seen ++ us) × Goes R seen
taken_viable R want true p q t ts us why g vp vq (Some v) e h =
    let l = vp v refl e in let (seen, is, (others, a, r)) = l.at ts us why h in (t ∷ seen, ap (λ y. t ∷ y) is, (others, a, r))
taken_viable R want false p q t ts us why g vp vq (Some v) e h = none_taken R (Err (TooDeep, t ∷ ts)) TooDeep why (t ∷ ts) us (g refl) refl h
taken_viable R want fits p q t ts us why g vp vq None e h = vq.at (t ∷ ts) us why h

pub take_viable : {A V : Type 0} {R : List Token → A → Type 0} (want : Token → Option V) (fits : Bool) (p : V → Rule A) (q : Rule A)
    → (fits ≡ false → Goes R []) → ((t : Token) (v : V) → fits ≡ true → want t ≡ Some v → Viable (λ seen a. R (t ∷ seen) a) (p v)) → Viable R q → Viable R (take want fits p q)
unfolding run
take_viable {R = R} want fits p q g vp vq = record {
  at = λ ts us why h. elim ts as (λ ts. run (take want fits p q) ts ≡ Err (why, us) → (seen : List Token) × (ts ≡ seen ++ us) × Goes R seen) [
    | [] ↦ λ h. vq.at [] us why h
    | t ∷ ts ↦ λ h. taken_viable R want fits p q t ts us why g (λ v f e. vp t v f e) vq (want t) refl h
  ] h;
}

pub bind_err : {A B : Type 0} (o : Outcome A) (f : A → Parser B) (x : Stop × List Token) → and_then o f ≡ Err x → (o ≡ Err x) ⊎ ((p : A × List Token) × (o ≡ Ok p) × (f p.0 p.1 ≡ Err x))
bind_err (Ok p) f x h = inr (p, refl, h)
bind_err {A = A} {B = B} (Err y) f x h = inl (ap (stopped_at A) (stop_same B y x h))

-- what goes on, further on
pub further_goes : {A B : Type 0} (R : List Token → A → Type 0) (Q : List Token → B → Type 0) (seen : List Token) → Goes R seen → ((a : A) (ts : List Token) → R ts a → Goes (λ later b. Q (ts ++ later) b) []) → Goes Q seen
further_goes R Q seen (others, a, r) f = let (more, b, q) = f a (seen ++ others) r in (others ++ more, b, subst (λ y. Q y b) (append_assoc seen others more) q)

pub bind_viable : {A B : Type 0} {R : List Token → A → Type 0} {Q : List Token → B → Type 0} (p : Rule A) (f : A → Rule B) → Sound R p → Viable R p
    → ((a : A) (seen : List Token) → R seen a → Goes (λ later b. Q (seen ++ later) b) []) → ((a : A) (seen : List Token) → R seen a → Viable (λ later b. Q (seen ++ later) b) (f a)) → Viable Q (bind p f)
unfolding run
bind_viable {R = R} {Q = Q} p f sp vp gf vf = record {
  at = λ ts us why h. elim (bind_err (run p ts) (λ a. run (f a)) (why, us) h) [
    | inl e ↦ (let (seen, is, g) = vp.at ts us why e in (seen, is, further_goes R Q seen g gf))
    | inr d ↦ (
        let (seen, is, r) = sp.at ts d.0.1 d.0.0 d.1 in
        let v = vf d.0.0 seen r in
        let (later, same, (others, b, q)) = v.at d.0.1 us why d.2 in
        (seen ++ later, is ∙ ap (λ y. seen ++ y) same ∙ sym (append_assoc seen later us), (others, b, subst (λ y. Q y b) (sym (append_assoc seen later others)) q)))
  ];
}

-- a rule that takes nothing where it stops, and then it always does
pub record Nothing {A : Type 0} (r : Rule A) : Type 0 where
  pub stops : (ts us : List Token) (a : A) → run r ts ≡ Ok (a, us) → ⊥
  pub here : (ts us : List Token) (why : Stop) → run r ts ≡ Err (why, us) → ts ≡ us

pub nothing_viable : {A : Type 0} {R : List Token → A → Type 0} (r : Rule A) → Nothing r → Goes R [] → Viable R r
nothing_viable r n g = record { at = λ ts us why h. ([], n.here ts us why h, g) }

pub nothing_bind : {A B : Type 0} (p : Rule A) (f : A → Rule B) → Nothing p → Nothing (bind p f)
unfolding run
nothing_bind p f n = record {
  stops = λ ts us b h. let d = bind_ok (run p ts) (λ a. run (f a)) (b, us) h in n.stops ts d.0.1 d.0.0 d.1;
  here = λ ts us why h. elim (bind_err (run p ts) (λ a. run (f a)) (why, us) h) [
    | inl e ↦ n.here ts us why e
    | inr d ↦ absurd (n.stops ts d.0.1 d.0.0 d.1)
  ];
}

-- one rule, and what its node gives
pub map_viable : {A B : Type 0} {R : List Token → A → Type 0} {Q : List Token → B → Type 0} (p : Rule A) (f : A → B) → Sound R p → Viable R p → ((a : A) (seen : List Token) → R seen a → Q seen (f a))
    → Viable Q (bind p (λ a. pure (f a)))
map_viable {Q = Q} p f sp vp w =
    bind_viable p _ sp vp (λ a seen r. ([], f a, subst (λ y. Q y (f a)) (sym (append-nil seen)) (w a seen r))) (λ a seen r. pure_viable (f a))

pub weaken_viable : {A : Type 0} {R Q : List Token → A → Type 0} (r : Rule A) → ((ts : List Token) (a : A) → R ts a → Q ts a) → Viable R r → Viable Q r
weaken_viable r w v = record { at = λ ts us why h. let (seen, is, (others, a, d)) = v.at ts us why h in (seen, is, (others, a, w (seen ++ others) a d)) }

-- ---- repetitions: what the turns so far took stands in I to the state, and each state can be the last

module _ {S B : Type 0} (body : S → Rule (Turn S B)) (I : List Token → S → Type 0) (R : List Token → B → Type 0)
    (each : (s : S) (front : List Token) → I front s → Sound (After I R front) (body s))
    (viable : (s : S) (front : List Token) → I front s → Viable (After I R front) (body s))
    (last : (s : S) (front : List Token) → I front s → Goes (λ later b. R (front ++ later) b) []) where
  turn_goes : (front seen : List Token) → Goes (After I R front) seen → Goes (λ later b. R (front ++ later) b) seen
  turn_goes front seen (others, On t, i) = let (more, b, r) = last t (front ++ (seen ++ others)) i in
      (others ++ more, b, subst (λ y. R y b) (append_assoc front (seen ++ others) more ∙ ap (λ y. front ++ y) (append_assoc seen others more)) r)
  turn_goes front seen (others, Done b, r) = (others, b, r)

  turned_viable : (before n : ℕ) (us : List Token) (why : Stop)
      → ((t : S) (front vs : List Token) → I front t → turns (λ x. run (body x)) n t vs ≡ Err (why, us) → (seen : List Token) × (vs ≡ seen ++ us) × Goes (λ later b. R (front ++ later) b) seen)
      → (r : Turn S B) (front seen vs : List Token) → After I R front seen r → turned before (turns (λ x. run (body x)) n) r vs ≡ Err (why, us)
      → (later : List Token) × (vs ≡ later ++ us) × Goes (λ more b. R (front ++ more) b) (seen ++ later)
  turned_viable before n us why ih (On t) front seen vs i h = elim (chosen (nat_lt (length vs) before) _ _ _ h) [
    | inl w ↦ (let (later, same, (others, b, r)) = ih t (front ++ seen) vs i w.1 in
        (later, same, (others, b, subst (λ y. R y b) (append_assoc front seen (later ++ others) ∙ ap (λ y. front ++ y) (sym (append_assoc seen later others))) r)))
    | inr w ↦ (let (others, b, r) = last t (front ++ seen) i in
        ([], ap (λ (p : Stop × List Token). p.1) (stop_same B (Syntax, vs) (why, us) w.1), (others, b, subst (λ y. R y b) (append_assoc front seen others ∙ ap (λ y. front ++ (y ++ others)) (sym (append-nil seen))) r)))
  ]
  turned_viable before n us why ih (Done c) front seen vs r h = absurd (no_err (Ok (c, vs)) (c, vs) (why, us) refl h)

  turns_viable : (n : ℕ) (s : S) (front ts us : List Token) (why : Stop) → I front s → turns (λ x. run (body x)) n s ts ≡ Err (why, us)
      → (seen : List Token) × (ts ≡ seen ++ us) × Goes (λ later b. R (front ++ later) b) seen
  turns_viable zero s front ts us why i h = none_taken (λ later b. R (front ++ later) b) (Err (Syntax, ts)) Syntax why ts us (last s front i) refl h
  turns_viable (suc n) s front ts us why i h = elim (bind_err (run (body s) ts) (turned (length ts) (turns (λ x. run (body x)) n)) (why, us) h) [
    | inl e ↦ (let v = viable s front i in let (seen, is, g) = v.at ts us why e in (seen, is, turn_goes front seen g))
    | inr d ↦ (
        let l = each s front i in
        let (seen, is, r) = l.at ts d.0.1 d.0.0 d.1 in
        let (later, same, g) = turned_viable (length ts) n us why (λ t fore vs j e. turns_viable n t fore vs us why j e) d.0.0 front seen d.0.1 r d.2 in
        (seen ++ later, is ∙ ap (λ y. seen ++ y) same ∙ sym (append_assoc seen later us), g))
  ]

  pub loop_viable : (s : S) (front : List Token) → I front s → Viable (λ later b. R (front ++ later) b) (loop body s)
  unfolding run
  loop_viable s front i = record { at = λ ts us why h. turns_viable (suc (length ts)) s front ts us why i h }

-- ---- the tokens that are wanted

moved : {A : Type 0} (R : List Token → A → Type 0) (r : Rule A) (t u : Token) → t ≡ u → Viable (λ seen a. R (u ∷ seen) a) r → Viable (λ seen a. R (t ∷ seen) a) r
moved R r t u e v = subst (λ x. Viable (λ seen a. R (x ∷ seen) a) r) (sym e) v

pub sign_viable : {A : Type 0} {R : List Token → A → Type 0} (n : ℕ) (fits : Bool) (p : Span → Rule A) (q : Rule A) → (fits ≡ false → Goes R [])
    → (fits ≡ true → (s : Span) → Viable (λ seen a. R (sign n s ∷ seen) a) (p s)) → Viable R q → Viable R (take (a_sign n) fits p q)
sign_viable {R = R} n fits p q g vp vq = take_viable (a_sign n) fits p q g (λ t s f e. moved R (p s) t (sign n s) (sign_is n t.kind t.span s e) (vp f s)) vq

pub name_viable : {A : Type 0} {R : List Token → A → Type 0} (fits : Bool) (p : Ident → Rule A) (q : Rule A) → (fits ≡ false → Goes R [])
    → (fits ≡ true → (x : Ident) → Viable (λ seen a. R (name_token x ∷ seen) a) (p x)) → Viable R q → Viable R (take a_name fits p q)
name_viable {R = R} fits p q g vp vq = take_viable a_name fits p q g (λ t x f e. moved R (p x) t (name_token x) (name_is t.kind t.span x e) (vp f x)) vq

pub number_viable : {A : Type 0} {R : List Token → A → Type 0} (fits : Bool) (p : At ℤ → Rule A) (q : Rule A) → (fits ≡ false → Goes R [])
    → (fits ≡ true → (x : At ℤ) → Viable (λ seen a. R (number_token x.value x.span ∷ seen) a) (p x)) → Viable R q → Viable R (take a_number fits p q)
number_viable {R = R} fits p q g vp vq = take_viable a_number fits p q g (λ t x f e. moved R (p x) t (number_token x.value x.span) (number_is t.kind t.span x e) (vp f x)) vq

pub least_viable : {A : Type 0} {R : List Token → A → Type 0} (fits : Bool) (p : Span → Rule A) (q : Rule A) → (fits ≡ false → Goes R [])
    → (fits ≡ true → (s : Span) → Viable (λ seen a. R (least_token s ∷ seen) a) (p s)) → Viable R q → Viable R (take a_least fits p q)
least_viable {R = R} fits p q g vp vq = take_viable a_least fits p q g (λ t s f e. moved R (p s) t (least_token s) (least_is t.kind t.span s e) (vp f s)) vq

pub text_viable : {A : Type 0} {R : List Token → A → Type 0} (fits : Bool) (p : At (List ℕ) → Rule A) (q : Rule A) → (fits ≡ false → Goes R [])
    → (fits ≡ true → (x : At (List ℕ)) → Viable (λ seen a. R (string_token x.value x.span ∷ seen) a) (p x)) → Viable R q → Viable R (take a_text fits p q)
text_viable {R = R} fits p q g vp vq = take_viable a_text fits p q g (λ t x f e. moved R (p x) t (string_token x.value x.span) (text_is t.kind t.span x e) (vp f x)) vq

-- a sign of a table
pub one_viable : {A V : Type 0} {R : List Token → A → Type 0} (table : List (ℕ × V)) (fits : Bool) (p : At V → Rule A) (q : Rule A) → (fits ≡ false → Goes R [])
    → (fits ≡ true → (number : ℕ) (x : At V) → row table number ≡ Some x.value → Viable (λ seen a. R (sign number x.span ∷ seen) a) (p x)) → Viable R q → Viable R (take (one_of table) fits p q)
one_viable {R = R} table fits p q g vp vq = take_viable (one_of table) fits p q g
    (λ t x f e. let (number, is, found) = one_is table t.kind t.span x e in moved R (p x) t (sign number x.span) is (vp f number x found)) vq

-- an operator of a level
pub operator_viable : {A : Type 0} {R : List Token → A → Type 0} (level : ℕ) (fits : Bool) (p : At BinaryOp → Rule A) (q : Rule A) → (fits ≡ false → Goes R [])
    → (fits ≡ true → (number : ℕ) (x : At BinaryOp) → row binary_signs number ≡ Some (level, x.value) → Viable (λ seen a. R (sign number x.span ∷ seen) a) (p x)) → Viable R q
    → Viable R (take (an_operator level) fits p q)
operator_viable {R = R} level fits p q g vp vq = take_viable (an_operator level) fits p q g
    (λ t x f e. let (number, is, found) = operator_is level t.kind t.span x e in moved R (p x) t (sign number x.span) is (vp f number x found)) vq
