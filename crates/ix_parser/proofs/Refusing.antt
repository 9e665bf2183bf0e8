-- What the rules of a source give is a tree; they never stop for the height at the end of the tokens, and never for want of memory.
use Rattle.std.proofs.Common.{◌≡◌, ◌≤◌, ℕ, zero, suc, List, [], ◌∷◌, length, Bool, true, false, cond, Option, Some, None, Ok, Err, refl, sym, ap, subst, ◌∙◌, arith, nat_lt}
use Rattle.ix_lexer.specs.declared.token.Token.{Token}
use Rattle.ix_lexer.specs.Spans.{InOrder}
use Rattle.ix_tree.specs.declared.decl.Unit.{Unit as Source}
use Rattle.ix_tree.specs.Parts.{CanResolve}
use Rattle.ix_tree.specs.Heights.{unit_height}
use Rattle.ix_tree.specs.Placed.{Placed}
use Rattle.ix_grammar.specs.declared.classes.FoundUnit.{FoundUnit}
use Rattle.ix_grammar_rules.specs.declared.stop.Stop.{Stop}
use Rattle.ix_grammar_rules.specs.declared.stop.Stop.TheVariants as stop
use Rattle.ix_grammar_rules.specs.Rule.{Rule, pure, take, bind, stop, loop, Turn, On, Done, Outcome, Parser, and_then, taken, turned, turns, run}
use Rattle.ix_grammar_rules.specs.SourceRules.{source}
use Rattle.ix_grammar.specs.Refusals.{HasTree}
use Rattle.ix_grammar_rules.proofs.Runs.{same_ok}
use Rattle.ix_grammar_rules.proofs.ClassLaid.{source_placed}
use Rattle.ix_grammar_rules.proofs.SourceHeights.{source_low}
use Rattle.ix_grammar_rules.proofs.SourcePlaces.{source_can_resolve}
use Rattle.ix_grammar_rules.proofs.SourceLaws.{source_is, source_is_read}
use Rattle.ix_lexer.proofs.SplitInOrder.{some}

-- ---- what is too high is a token, and no rule wants memory

-- not for the height at the end of the tokens, and not for want of memory
abbrev MetAt : Stop × List Token → Type 0
MetAt x = (x.0 ≡ stop.TooDeep → x.1 ≡ [] → ⊥) × (x.0 ≡ stop.Memory → ⊥)

-- it did not stop so
abbrev Met : {A : Type 0} → Outcome A → Type 0
Met (Ok p) = Unit {0}
Met (Err x) = MetAt x

syntax_met : (us : List Token) → MetAt (stop.Syntax, us)
syntax_met us = (λ h. cc, λ h. cc)

deep_met : (t : Token) (ts : List Token) → MetAt (stop.TooDeep, t ∷ ts)
deep_met t ts = (λ deep end. some t ts end, λ h. cc)

meets_taken : {A V : Type 0} (want : Token → Option V) (fits : Bool) (here : V → Rule A) (other : Rule A) (t : Token) (ts : List Token)
    → ((v : V) → Met (run (here v) ts)) → Met (run other (t ∷ ts)) → (o : Option V) → Met (taken fits (λ v. run (here v)) (run other) o (t ∷ ts))
meets_taken want true here other t ts h o (Some v) = h v
meets_taken want false here other t ts h o (Some v) = deep_met t ts
meets_taken want fits here other t ts h o None = o

meets_then : {A B : Type 0} (o : Outcome A) (f : A → Parser B) → Met o → ((a : A) (us : List Token) → Met (f a us)) → Met (and_then o f)
meets_then (Ok p) f m each = each p.0 p.1
meets_then (Err x) f m each = m

meets_choice : {A : Type 0} (b : Bool) (o : Outcome A) (us : List Token) → Met o → Met (cond b o (Err (stop.Syntax, us)))
meets_choice true o us m = m
meets_choice false o us m = syntax_met us

meets_turned : {S B : Type 0} (before : ℕ) (go : S → Parser B) → ((s : S) (us : List Token) → Met (go s us)) → (r : Turn S B) (us : List Token) → Met (turned before go r us)
meets_turned before go each (On s) us = meets_choice (nat_lt (length us) before) (go s us) us (each s us)
meets_turned before go each (Done b) us = tt

meets_turns : {S B : Type 0} (body : S → Rule (Turn S B)) → ((s : S) (us : List Token) → Met (run (body s) us)) → (n : ℕ) (s : S) (us : List Token) → Met (turns (λ t. run (body t)) n s us)
meets_turns body each zero s us = syntax_met us
meets_turns body each (suc n) s us =
    meets_then (run (body s) us) (turned (length us) (turns (λ t. run (body t)) n)) (each s us)
    (λ r vs. meets_turned (length us) (turns (λ t. run (body t)) n) (λ t ws. meets_turns body each n t ws) r vs)

meets : {A : Type 0} (r : Rule A) (ts : List Token) → Met (run r ts)
unfolding run
meets (pure a) ts = tt
meets (take want fits here other) [] = meets other []
meets (take want fits here other) (t ∷ ts) = meets_taken want fits here other t ts (λ v. meets (here v) ts) (meets other (t ∷ ts)) (want t)
meets (bind p f) ts = meets_then (run p ts) (λ a. run (f a)) (meets p ts) (λ a us. meets (f a) us)
meets stop ts = syntax_met ts
meets (loop body s) ts = meets_turns body (λ t us. meets (body t) us) (suc (length ts)) s ts

pub never_at_end : (tokens : List Token) → run source tokens ≡ Err (stop.TooDeep, []) → ⊥
never_at_end tokens h = let m : Met (run source tokens) = meets source tokens in (subst (λ o. Met o) h m).0 refl refl

pub never_memory : (tokens left : List Token) → run source tokens ≡ Err (stop.Memory, left) → ⊥
never_memory tokens left h = let m : Met (run source tokens) = meets source tokens in (subst (λ o. Met o) h m).1 refl

-- ---- one outcome

abbrev err_of : Stop × List Token → Outcome FoundUnit
err_of x = Err x

same_err : (x y : Stop × List Token) → err_of x ≡ err_of y → x ≡ y
same_err x y h = cc

err_is : (o : Outcome FoundUnit) (a b : Stop) (us vs : List Token) → o ≡ Err (a, us) → o ≡ Err (b, vs) → (a ≡ b) × (us ≡ vs)
err_is o a b us vs x y = let e = same_err (a, us) (b, vs) (sym x ∙ y) in (ap (λ (p : Stop × List Token). p.0) e, ap (λ (p : Stop × List Token). p.1) e)

ok_is : (o : Outcome FoundUnit) (a b : FoundUnit) (us vs : List Token) → o ≡ Ok (a, us) → o ≡ Ok (b, vs) → (a ≡ b) × (us ≡ vs)
ok_is o a b us vs x y = let e = same_ok (a, us) (b, vs) (sym x ∙ y) in (ap (λ (p : FoundUnit × List Token). p.0) e, ap (λ (p : FoundUnit × List Token). p.1) e)

not_both : (o : Outcome FoundUnit) (a : FoundUnit) (b : Stop) (us vs : List Token) → o ≡ Ok (a, us) → o ≡ Err (b, vs) → ⊥
not_both o a b us vs x y = cc

-- ---- trees

pub has_tree : (tokens left : List Token) (found : FoundUnit) → length left ≡ 0 → run source tokens ≡ Ok (found, left) → HasTree tokens found.unit
has_tree tokens [] found none h = (found.height, source_is tokens found h)
has_tree tokens (token ∷ later) found none h = absurd (omega (arith, none))

pub placed : (tokens left : List Token) (found : FoundUnit) (end : ℕ) → length left ≡ 0 → run source tokens ≡ Ok (found, left) → InOrder 0 end tokens → Placed end found.unit
placed tokens [] found end none h order = let (is, low) = source_is tokens found h in source_placed tokens found end is order
placed tokens (token ∷ later) found end none h order = absurd (omega (arith, none))

pub low_tree : (tokens left : List Token) (found : FoundUnit) → length left ≡ 0 → run source tokens ≡ Ok (found, left) → unit_height found.unit ≤ 200
low_tree tokens [] found none h = let (is, low) = source_is tokens found h in omega (arith, low, source_low tokens found is)
low_tree tokens (token ∷ later) found none h = absurd (omega (arith, none))

pub can_resolve : (tokens left : List Token) (found : FoundUnit) (end : ℕ) → length left ≡ 0 → run source tokens ≡ Ok (found, left) → InOrder 0 end tokens → length tokens ≤ 200000 → CanResolve found.unit
can_resolve tokens [] found end none h order few = let (is, low) = source_is tokens found h in source_can_resolve tokens found end is order few
can_resolve tokens (token ∷ later) found end none h order few = absurd (omega (arith, none))

pub only_tree : (tokens left : List Token) (found : FoundUnit) (unit : Source) → run source tokens ≡ Ok (found, left) → HasTree tokens unit → (length left ≡ 0) × (found.unit ≡ unit)
only_tree tokens left found unit h (height, low) =
    let e = ok_is (run source tokens) found (record { unit = unit; height = height }) left [] h (source_is_read tokens (record { unit = unit; height = height }) low) in
    (ap length e.1, ap (λ (f : FoundUnit). f.unit) e.0)

pub no_tree : (tokens left : List Token) (why : Stop) (unit : Source) → run source tokens ≡ Err (why, left) → HasTree tokens unit → ⊥
no_tree tokens left why unit h (height, low) =
    not_both (run source tokens) (record { unit = unit; height = height }) why [] left (source_is_read tokens (record { unit = unit; height = height }) low) h
