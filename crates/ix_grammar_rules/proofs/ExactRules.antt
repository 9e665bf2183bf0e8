-- Rules that are sound, and that stop only where what they took goes on: both at once, for the ways in which rules are put together.
use Rattle.std.proofs.Common.{◌≡◌, ℕ, ℤ, Bool, true, false, List, [], ◌∷◌, ◌++◌, Option, Some, None, Ok, Err, refl, sym, ap, subst, ◌⊎◌, inl, inr}
use Rattle.std.proofs.lemmas.List.{append-nil}
use Rattle.ix_text.specs.declared.span.Span.{Span}
use Rattle.ix_lexer.specs.declared.token.Token.{Token}
use Rattle.ix_tree.specs.declared.annot.Ident.{Ident}
use Rattle.ix_tree.specs.declared.expr.BinaryOp.{BinaryOp}
use Rattle.ix_grammar.specs.declared.found.At.{At}
use Rattle.ix_grammar_rules.specs.declared.stop.Stop.{Stop}
use Rattle.ix_grammar_rules.specs.declared.stop.Stop.TheVariants.{Syntax, TooDeep}
use Rattle.ix_grammar_rules.specs.Rule.{Rule, pure, take, bind, stop, loop, Turn, Done, Outcome, Parser, and_then, look, run, taken}
use Rattle.ix_grammar_rules.proofs.Runs.{loop_done, loop_stops}
use Rattle.ix_grammar.specs.Patterns.{sign, name_token, number_token, least_token, a_sign, a_name, a_number, a_least, one_of, row, an_operator, binary_signs}
use Rattle.ix_grammar_rules.proofs.SoundRules.{Sound, After, weaken, pure_sound, stop_sound, bind_sound, map_sound, loop_sound, sign_sound, name_sound, number_sound, least_sound, one_sound, operator_sound}
use Rattle.ix_grammar_rules.proofs.ListsSound.{fits_sound}
use Rattle.ix_grammar_rules.proofs.ListsViable.{here, some_name}
use Rattle.ix_grammar_rules.proofs.ViableRules.{Goes, Viable, Nothing, pure_viable, stop_viable, bind_viable, map_viable, weaken_viable, nothing_viable, nothing_bind, loop_viable, sign_viable, name_viable, number_viable, least_viable, one_viable, operator_viable}

pub record Exact {A : Type 0} (R : List Token → A → Type 0) (r : Rule A) : Type 0 where
  pub sound : Sound R r
  pub viable : Viable R r
  pub goes : Goes R []

pub exact_more : {A : Type 0} {R Q : List Token → A → Type 0} (r : Rule A) → ((ts : List Token) (a : A) → R ts a → Q ts a) → Exact R r → Exact Q r
exact_more r w e = record { sound = weaken r w e.sound; viable = weaken_viable r w e.viable; goes = (let (others, a, d) = e.goes in (others, a, w others a d)) }

pub pure_exact : {A : Type 0} {R : List Token → A → Type 0} (a : A) → R [] a → Exact R (pure a)
pure_exact a r = record { sound = pure_sound a r; viable = pure_viable a; goes = ([], a, r) }

pub stop_exact : {A : Type 0} {R : List Token → A → Type 0} → Goes R [] → Exact R stop
stop_exact g = record { sound = stop_sound; viable = stop_viable g; goes = g }

pub bind_exact : {A B : Type 0} {R : List Token → A → Type 0} {Q : List Token → B → Type 0} (p : Rule A) (f : A → Rule B) → Exact R p
    → ((a : A) (seen : List Token) → R seen a → Exact (λ later b. Q (seen ++ later) b) (f a)) → Exact Q (bind p f)
bind_exact {R = R} {Q = Q} p f ep ef = record {
  sound = bind_sound p f ep.sound (λ a seen r. let e = ef a seen r in e.sound);
  viable = bind_viable p f ep.sound ep.viable (λ a seen r. let e = ef a seen r in e.goes) (λ a seen r. let e = ef a seen r in e.viable);
  goes = (let (others, a, r) = ep.goes in let e = ef a others r in let (more, b, q) = e.goes in (others ++ more, b, q));
}

pub map_exact : {A B : Type 0} {R : List Token → A → Type 0} {Q : List Token → B → Type 0} (p : Rule A) (f : A → B) → Exact R p → ((a : A) (seen : List Token) → R seen a → Q seen (f a))
    → Exact Q (bind p (λ a. pure (f a)))
map_exact p f e w = record {
  sound = map_sound p f e.sound w;
  viable = map_viable p f e.sound e.viable w;
  goes = (let (others, a, r) = e.goes in (others, f a, w a others r));
}

-- A rule that always stops and takes nothing, where something else could come.
pub nothing_exact : {A : Type 0} {R : List Token → A → Type 0} (r : Rule A) → Nothing r → Goes R [] → Exact R r
nothing_exact r n g = record { sound = record { at = λ ts us a h. absurd (n.stops ts us a h) }; viable = nothing_viable r n g; goes = g }

pub maybe_bind : {A B : Type 0} {R : List Token → A → Type 0} {Q : List Token → B → Type 0} (p : Rule A) (f : A → Rule B) → Exact R p ⊎ Nothing p → Goes Q []
    → ((a : A) (seen : List Token) → R seen a → Exact (λ later b. Q (seen ++ later) b) (f a)) → Exact Q (bind p f)
maybe_bind p f (inl e) g w = bind_exact p f e w
maybe_bind p f (inr n) g w = nothing_exact _ (nothing_bind p f n) g

pub maybe_map : {A B : Type 0} {R : List Token → A → Type 0} {Q : List Token → B → Type 0} (p : Rule A) (f : A → B) → Exact R p ⊎ Nothing p → Goes Q []
    → ((a : A) (seen : List Token) → R seen a → Q seen (f a)) → Exact Q (bind p (λ a. pure (f a)))
maybe_map p f (inl e) g w = map_exact p f e w
maybe_map p f (inr n) g w = nothing_exact _ (nothing_bind p _ n) g

-- nothing follows
pub after_exact : {A : Type 0} (R : List Token → A → Type 0) (front : List Token) (a : A) → R front a → Exact (λ later b. R (front ++ later) b) (pure a)
after_exact R front a r = pure_exact a (subst (λ y. R y a) (sym (append-nil front)) r)

pub done_exact : {S B : Type 0} (I : List Token → S → Type 0) (R : List Token → B → Type 0) (front : List Token) (b : B) → R front b → Exact (After I R front) (pure (Done b))
done_exact I R front b r = pure_exact (Done b) (subst (λ y. R y b) (sym (append-nil front)) r)

module _ {S B : Type 0} (body : S → Rule (Turn S B)) (I : List Token → S → Type 0) (R : List Token → B → Type 0)
    (each : (s : S) (front : List Token) → I front s → Exact (After I R front) (body s))
    (last : (s : S) (front : List Token) → I front s → Goes R front) where
  pub loop_exact : (s : S) (front : List Token) → I front s → Exact (λ later b. R (front ++ later) b) (loop body s)
  loop_exact s front i = record {
    sound = loop_sound body I R (λ t us j. let e = each t us j in e.sound) s front i;
    viable = loop_viable body I R (λ t us j. let e = each t us j in e.sound) (λ t us j. let e = each t us j in e.viable) last s front i;
    goes = last s front i;
  }

-- each state can be the last
pub turns_exact : {S : Type 0} (body : S → Rule (Turn S S)) (I : List Token → S → Type 0) → ((s : S) (front : List Token) → I front s → Exact (After I I front) (body s))
    → (s : S) (front : List Token) → I front s → Exact (λ later b. I (front ++ later) b) (loop body s)
turns_exact body I each s front i = loop_exact body I I each (λ t us j. ([], t, subst (λ y. I y t) (sym (append-nil us)) j)) s front i

-- ---- the tokens that are wanted

pub sign_exact : {A : Type 0} {R : List Token → A → Type 0} (n : ℕ) (fits : Bool) (p : Span → Rule A) (q : Rule A)
    → (fits ≡ true → (s : Span) → Exact (λ seen a. R (sign n s ∷ seen) a) (p s)) → Exact R q → Exact R (take (a_sign n) fits p q)
sign_exact n fits p q ep eq = record {
  sound = fits_sound (a_sign n) fits p q (λ f. sign_sound n true p q (λ s. let e = ep f s in e.sound) eq.sound) eq.sound;
  viable = sign_viable n fits p q (λ f. eq.goes) (λ f s. let e = ep f s in e.viable) eq.viable;
  goes = eq.goes;
}

pub name_exact : {A : Type 0} {R : List Token → A → Type 0} (fits : Bool) (p : Ident → Rule A) (q : Rule A)
    → (fits ≡ true → (x : Ident) → Exact (λ seen a. R (name_token x ∷ seen) a) (p x)) → Exact R q → Exact R (take a_name fits p q)
name_exact fits p q ep eq = record {
  sound = fits_sound a_name fits p q (λ f. name_sound true p q (λ x. let e = ep f x in e.sound) eq.sound) eq.sound;
  viable = name_viable fits p q (λ f. eq.goes) (λ f x. let e = ep f x in e.viable) eq.viable;
  goes = eq.goes;
}

pub number_exact : {A : Type 0} {R : List Token → A → Type 0} (fits : Bool) (p : At ℤ → Rule A) (q : Rule A)
    → (fits ≡ true → (x : At ℤ) → Exact (λ seen a. R (number_token x.value x.span ∷ seen) a) (p x)) → Exact R q → Exact R (take a_number fits p q)
number_exact fits p q ep eq = record {
  sound = fits_sound a_number fits p q (λ f. number_sound true p q (λ x. let e = ep f x in e.sound) eq.sound) eq.sound;
  viable = number_viable fits p q (λ f. eq.goes) (λ f x. let e = ep f x in e.viable) eq.viable;
  goes = eq.goes;
}

pub least_exact : {A : Type 0} {R : List Token → A → Type 0} (fits : Bool) (p : Span → Rule A) (q : Rule A)
    → (fits ≡ true → (s : Span) → Exact (λ seen a. R (least_token s ∷ seen) a) (p s)) → Exact R q → Exact R (take a_least fits p q)
least_exact fits p q ep eq = record {
  sound = fits_sound a_least fits p q (λ f. least_sound true p q (λ s. let e = ep f s in e.sound) eq.sound) eq.sound;
  viable = least_viable fits p q (λ f. eq.goes) (λ f s. let e = ep f s in e.viable) eq.viable;
  goes = eq.goes;
}

pub one_exact : {A V : Type 0} {R : List Token → A → Type 0} (table : List (ℕ × V)) (fits : Bool) (p : At V → Rule A) (q : Rule A)
    → (fits ≡ true → (number : ℕ) (x : At V) → row table number ≡ Some x.value → Exact (λ seen a. R (sign number x.span ∷ seen) a) (p x)) → Exact R q → Exact R (take (one_of table) fits p q)
one_exact table fits p q ep eq = record {
  sound = fits_sound (one_of table) fits p q (λ f. one_sound table true p q (λ number x is. let e = ep f number x is in e.sound) eq.sound) eq.sound;
  viable = one_viable table fits p q (λ f. eq.goes) (λ f number x is. let e = ep f number x is in e.viable) eq.viable;
  goes = eq.goes;
}

pub operator_exact : {A : Type 0} {R : List Token → A → Type 0} (level : ℕ) (fits : Bool) (p : At BinaryOp → Rule A) (q : Rule A)
    → (fits ≡ true → (number : ℕ) (x : At BinaryOp) → row binary_signs number ≡ Some (level, x.value) → Exact (λ seen a. R (sign number x.span ∷ seen) a) (p x)) → Exact R q
    → Exact R (take (an_operator level) fits p q)
operator_exact level fits p q ep eq = record {
  sound = fits_sound (an_operator level) fits p q (λ f. operator_sound level true p q (λ number x is. let e = ep f number x is in e.sound) eq.sound) eq.sound;
  viable = operator_viable level fits p q (λ f. eq.goes) (λ f number x is. let e = ep f number x is in e.viable) eq.viable;
  goes = eq.goes;
}

-- only this token may come
pub must_sign : {A : Type 0} {R : List Token → A → Type 0} (n : ℕ) (p : Span → Rule A) → ((s : Span) → Exact (λ seen a. R (sign n s ∷ seen) a) (p s)) → Exact R (take (a_sign n) true p stop)
must_sign n p ep = sign_exact n true p stop (λ f s. ep s) (stop_exact (let e = ep here in let (others, a, r) = e.goes in (sign n here ∷ others, a, r)))

pub end_sign : {A : Type 0} {R : List Token → A → Type 0} (n : ℕ) (p : Span → A) → ((s : Span) → R (sign n s ∷ []) (p s)) → Exact R (take (a_sign n) true (λ s. pure (p s)) stop)
end_sign n p w = must_sign n (λ s. pure (p s)) (λ s. pure_exact (p s) (w s))

pub must_name : {A : Type 0} {R : List Token → A → Type 0} (p : Ident → Rule A) → ((x : Ident) → Exact (λ seen a. R (name_token x ∷ seen) a) (p x)) → Exact R (take a_name true p stop)
must_name p ep = name_exact true p stop (λ f x. ep x) (stop_exact (let e = ep some_name in let (others, a, r) = e.goes in (name_token some_name ∷ others, a, r)))

-- ---- rules that take nothing

abbrev Refuses : {A : Type 0} → Outcome A → List Token → Type 0
Refuses {A} o ts = ((us : List Token) (a : A) → o ≡ Ok (a, us) → ⊥) × ((us : List Token) (why : Stop) → o ≡ Err (why, us) → ts ≡ us)

no_ok : {A : Type 0} (o : Outcome A) (x : Stop × List Token) (p : A × List Token) → o ≡ Err x → o ≡ Ok p → ⊥
no_ok o x p e h = cc

same_err : {A : Type 0} (o : Outcome A) (x y : Stop × List Token) → o ≡ Err x → o ≡ Err y → x ≡ y
same_err o x y e h = cc

refused_here : {A : Type 0} (w : Stop) (ts : List Token) (o : Outcome A) → o ≡ Err (w, ts) → Refuses o ts
refused_here w ts o e = (λ us a h. no_ok o (w, ts) (a, us) e h, λ us why h. ap (λ (p : Stop × List Token). p.1) (same_err o (w, ts) (why, us) e h))

pub nothing_stop : {A : Type 0} → Nothing {A = A} stop
unfolding run
nothing_stop = record { stops = λ ts us a h. let r = refused_here Syntax ts (Err (Syntax, ts)) refl in r.0 us a h; here = λ ts us why h. let r = refused_here Syntax ts (Err (Syntax, ts)) refl in r.1 us why h }

taken_refuses : {A V : Type 0} (p : V → Parser A) (q : Parser A) (ts : List Token) → Refuses (q ts) ts → (o : Option V) → Refuses (taken false p q o ts) ts
taken_refuses p q ts r (Some v) = refused_here TooDeep ts (Err (TooDeep, ts)) refl
taken_refuses p q ts r None = r

-- a rule that gives the same, or stops here
taken_idle : {A V : Type 0} (a : A) (p : V → Parser A) (q : Parser A) (ts : List Token) → (q ts ≡ Ok (a, ts)) ⊎ ((why : Stop) × (q ts ≡ Err (why, ts))) → (o : Option V)
    → (taken false p q o ts ≡ Ok (a, ts)) ⊎ ((why : Stop) × (taken false p q o ts ≡ Err (why, ts)))
taken_idle a p q ts i (Some v) = inr (TooDeep, refl)
taken_idle a p q ts i None = i

bound_idle : {A B : Type 0} (a : A) (o : Outcome A) (f : A → Parser B) (ts : List Token) → Refuses (f a ts) ts → (o ≡ Ok (a, ts)) ⊎ ((why : Stop) × (o ≡ Err (why, ts))) → Refuses (and_then o f) ts
bound_idle {A = A} a o f ts r (inl e) = subst (λ (o : Outcome A). Refuses (and_then o f) ts) (sym e) r
bound_idle a o f ts r (inr (why, e)) = refused_here why ts (and_then o f) (ap (λ o. and_then o f) e)

-- a token that is too high, where no other may come
pub nothing_take : {A V : Type 0} (want : Token → Option V) (fits : Bool) (p : V → Rule A) (q : Rule A) → fits ≡ false → Nothing q → Nothing (take want fits p q)
unfolding run
nothing_take want true p q e n = absurd (cc)
nothing_take want false p q e n = record {
  stops = λ ts us a h. let r = taken_refuses (λ v. run (p v)) (run q) ts (λ us a h. n.stops ts us a h, λ us why h. n.here ts us why h) (look want ts) in r.0 us a h;
  here = λ ts us why h. let r = taken_refuses (λ v. run (p v)) (run q) ts (λ us a h. n.stops ts us a h, λ us why h. n.here ts us why h) (look want ts) in r.1 us why h;
}

-- ---- rules that take nothing, and give always the same

pub record Idle {A : Type 0} (a : A) (r : Rule A) : Type 0 where
  pub at : (ts : List Token) → (run r ts ≡ Ok (a, ts)) ⊎ ((why : Stop) × (run r ts ≡ Err (why, ts)))

pub idle_pure : {A : Type 0} (a : A) → Idle a (pure a)
unfolding run
idle_pure a = record { at = λ ts. inl refl }

pub idle_take : {A V : Type 0} (a : A) (want : Token → Option V) (fits : Bool) (p : V → Rule A) (q : Rule A) → fits ≡ false → Idle a q → Idle a (take want fits p q)
unfolding run
idle_take a want true p q e i = absurd (cc)
idle_take a want false p q e i = record { at = λ ts. taken_idle a (λ v. run (p v)) (run q) ts (i.at ts) (look want ts) }

pub idle_bind : {A B : Type 0} (a : A) (p : Rule A) (f : A → Rule B) → Idle a p → Nothing (f a) → Nothing (bind p f)
unfolding run
idle_bind a p f i n = record {
  stops = λ ts us b h. let r = bound_idle a (run p ts) (λ a. run (f a)) ts (λ us b h. n.stops ts us b h, λ us why h. n.here ts us why h) (i.at ts) in r.0 us b h;
  here = λ ts us why h. let r = bound_idle a (run p ts) (λ a. run (f a)) ts (λ us b h. n.stops ts us b h, λ us why h. n.here ts us why h) (i.at ts) in r.1 us why h;
}

-- where the first turn is the last
pub idle_loop : {S : Type 0} (body : S → Rule (Turn S S)) (s : S) → Idle (Done s) (body s) → Idle s (loop body s)
idle_loop body s i = record { at = λ ts. at ts (i.at ts) }
  where
    at : (ts : List Token) → (run (body s) ts ≡ Ok (Done s, ts)) ⊎ ((why : Stop) × (run (body s) ts ≡ Err (why, ts))) → (run (loop body s) ts ≡ Ok (s, ts)) ⊎ ((why : Stop) × (run (loop body s) ts ≡ Err (why, ts)))
    at ts (inl e) = inl (loop_done body s s ts ts e)
    at ts (inr (why, e)) = inr (why, loop_stops body s ts ts why e)
