-- Fields that are put onto the members before them as they are read are those that are read first.
use Rattle.std.proofs.Common.{◌≡◌, ℕ, zero, suc, max, nat_lt, Bool, true, false, cond, List, [], ◌∷◌, ◌++◌, length, Option, Some, None, Ok, Err, refl, sym, ap, ◌∙◌, append_assoc, arith}
use Rattle.ix_text.specs.declared.span.Span.{Span}
use Rattle.ix_lexer.specs.declared.fixed.TheConstants.{COMMA, SEMICOLON}
use Rattle.ix_lexer.specs.declared.token.Token.{Token}
use Rattle.ix_tree.specs.declared.annot.Ident.{Ident}
use Rattle.ix_tree.specs.declared.decl.LocalDecl.{LocalDecl}
use Rattle.ix_tree.specs.declared.decl.Member.{Member}
use Rattle.ix_tree.specs.declared.decl.Member.TheVariants.{Field}
use Rattle.ix_grammar.specs.declared.classes.Members.{Members}
use Rattle.ix_grammar.specs.declared.declarations.FoundDecl.{FoundDecl}
use Rattle.ix_grammar.specs.declared.declarations.Shared.{Shared}
use Rattle.ix_grammar_rules.specs.declared.stop.Stop.TheVariants.{Syntax}
use Rattle.ix_grammar.specs.declared.found.At.{At}
use Rattle.ix_grammar.specs.declared.found.FoundDecls.{FoundDecls}
use Rattle.ix_grammar_rules.specs.Rule.{Rule, Turn, On, Done, Outcome, Parser, and_then, look, rest, taken, turned, turns, run}
use Rattle.ix_grammar.specs.Patterns.{a_sign}
use Rattle.ix_grammar_rules.specs.ListRules.{next_of, more_of}
use Rattle.ix_grammar.specs.DeclGrammar.{one_decl, with_decl}
use Rattle.ix_grammar_rules.specs.DeclRules.{decl, decl_behind, decls}
use Rattle.ix_grammar_rules.specs.ExprRules.{init}
use Rattle.ix_grammar.specs.ClassGrammar.{fields, fields_of, with_members}
use Rattle.ix_grammar_rules.specs.Onto as spec
use Rattle.ix_grammar_rules.specs.Onto.{onto, with_field, each_field}

-- ---- a repetition whose states are seen through a function

abbrev Seen : {S T : Type 0} → (S → T) → Outcome S → Outcome T
Seen f o = and_then o (λ x us. Ok (f x, us))

seen_choice : {S T : Type 0} (f : S → T) (fits : Bool) (o : Outcome S) (p : Outcome T) (us : List Token) → Seen f o ≡ p → Seen f (cond fits o (Err (Syntax, us))) ≡ cond fits p (Err (Syntax, us))
seen_choice f true o p us same = same
seen_choice f false o p us same = refl

seen_turn : {A S T : Type 0} (add : S → A → S) (more : T → A → T) (f : S → T) → ((s : S) (x : A) → f (add s x) ≡ more (f s) x)
    → (n : ℕ) (go : S → Parser S) (other : T → Parser T) → ((s : S) (us : List Token) → Seen f (go s us) ≡ other (f s) us) → (s : S) (o : Outcome A)
    → Seen f (and_then (and_then o (λ x us. Ok (On (add s x), us))) (turned n go)) ≡ and_then (and_then o (λ x us. Ok (On (more (f s) x), us))) (turned n other)
seen_turn add more f law n go other same s (Err stopped) = refl
seen_turn add more f law n go other same s (Ok (x, us)) =
    seen_choice f (nat_lt (length us) n) (go (add s x) us) (other (more (f s) x) us) us (same (add s x) us ∙ ap (λ t. other t us) (law s x))

abbrev turn_of : {A S : Type 0} → Rule A → (S → A → S) → S → Option Span → Parser (Turn S S)
turn_of item add s found = taken true (λ comma us. and_then (run item us) (λ x vs. Ok (On (add s x), vs))) (λ us. Ok (Done s, us)) found

seen_next : {A S T : Type 0} (item : Rule A) (add : S → A → S) (more : T → A → T) (f : S → T) → ((s : S) (x : A) → f (add s x) ≡ more (f s) x)
    → (n : ℕ) (go : S → Parser S) (other : T → Parser T) → ((s : S) (us : List Token) → Seen f (go s us) ≡ other (f s) us) → (s : S) (ts : List Token) (found : Option Span)
    → Seen f (and_then (turn_of item add s found ts) (turned n go)) ≡ and_then (turn_of item more (f s) found ts) (turned n other)
seen_next item add more f law n go other same s ts None = refl
seen_next item add more f law n go other same s ts (Some comma) = seen_turn add more f law n go other same s (run item (rest ts))

seen_turns : {A S T : Type 0} (item : Rule A) (add : S → A → S) (more : T → A → T) (f : S → T) → ((s : S) (x : A) → f (add s x) ≡ more (f s) x)
    → (n : ℕ) (s : S) (ts : List Token) → Seen f (turns (λ t. run (next_of item add t)) n s ts) ≡ turns (λ t. run (next_of item more t)) n (f s) ts
unfolding run next_of
seen_turns item add more f law zero s ts = refl
seen_turns item add more f law (suc n) s ts =
    seen_next item add more f law (length ts) (turns (λ t. run (next_of item add t)) n) (turns (λ t. run (next_of item more t)) n) (λ t us. seen_turns item add more f law n t us) s ts (look (a_sign COMMA) ts)

seen_loop : {A S T : Type 0} (item : Rule A) (add : S → A → S) (more : T → A → T) (f : S → T) → ((s : S) (x : A) → f (add s x) ≡ more (f s) x)
    → (s : S) (ts : List Token) → Seen f (run (more_of item add s) ts) ≡ run (more_of item more (f s)) ts
unfolding run more_of
seen_loop item add more f law s ts = seen_turns item add more f law (suc (length ts)) s ts

-- ---- fields

fields_joined : (xs : List LocalDecl) (x : LocalDecl) → fields (xs ++ x ∷ []) ≡ fields xs ++ Field x ∷ []
fields_joined [] x = refl
fields_joined (y ∷ xs) x = ap (λ ms. Field y ∷ ms) (fields_joined xs x)

abbrev members_of : List Member → ℕ → Members
members_of found height = record { members = found; height = height }

greatest_of : (a b c : ℕ) → max a (max b c) ≡ max (max a b) c
greatest_of a b c = omega arith

abbrev behind : Members → FoundDecls → Members
behind before found = with_members before (fields_of found)

one_more : (before : Members) (found : FoundDecls) (x : FoundDecl) → behind before (with_decl found x) ≡ with_field (behind before found) x
one_more before found x =
    ap (λ ms. members_of (before.members ++ ms) (max before.height (max found.height x.height))) (fields_joined found.decls x.decl)
    ∙ ap (λ ms. members_of ms (max before.height (max found.height x.height))) (sym (append_assoc before.members (fields found.decls) (Field x.decl ∷ [])))
    ∙ ap (λ h. members_of ((before.members ++ fields found.decls) ++ Field x.decl ∷ []) h) (greatest_of before.height found.height x.height)

abbrev closed : Members → Parser (Turn Members (At Members))
closed members us = taken true (λ end vs. Ok (On members, vs)) (λ vs. Err (Syntax, vs)) (look (a_sign SEMICOLON) us) us

abbrev closing : FoundDecls → Parser Members
closing found us = taken true (λ end vs. Ok (fields_of found, vs)) (λ vs. Err (Syntax, vs)) (look (a_sign SEMICOLON) us) us

abbrev put : Members → Members → Parser (Turn Members (At Members))
put before found us = Ok (On (with_members before found), us)

abbrev taking : {A : Type 0} → A → List Token → Option Span → Outcome A
taking x us found = taken true (λ end vs. Ok (x, vs)) (λ vs. Err (Syntax, vs)) found us

put_at : (before : Members) (found : FoundDecls) (us : List Token) (end : Option Span) → and_then (taking (fields_of found) us end) (put before) ≡ taking (On (behind before found)) us end
put_at before found us None = refl
put_at before found us (Some end) = refl

ending : (before : Members) (o : Outcome FoundDecls) → and_then (and_then o closing) (put before) ≡ and_then (Seen (behind before) o) closed
ending before (Err stopped) = refl
ending before (Ok (found, us)) = put_at before found us (look (a_sign SEMICOLON) us)

some_more : (left : ℕ) (all : Shared) (before : Members) (first : FoundDecl) (us : List Token)
    → and_then (and_then (run (more_of (decl init left all) with_decl (one_decl first)) us) closing) (put before) ≡ and_then (run (more_of (decl init left all) with_field (with_field before first)) us) closed
some_more left all before first us =
    ending before (run (more_of (decl init left all) with_decl (one_decl first)) us)
    ∙ ap (λ o. and_then o closed) (seen_loop (decl init left all) with_decl with_field (behind before) (one_more before) (one_decl first) us)

each_more : (left : ℕ) (all : Shared) (before : Members) (o : Outcome FoundDecl)
    → and_then (and_then (and_then o (λ first us. run (more_of (decl init left all) with_decl (one_decl first)) us)) closing) (put before)
    ≡ and_then (and_then o (λ first us. run (more_of (decl init left all) with_field (with_field before first)) us)) closed
each_more left all before (Err stopped) = refl
each_more left all before (Ok (first, us)) = some_more left all before first us

pub same_fields : (left : ℕ) (all : Shared) (name : Ident) (before : Members) (ts : List Token) → run (onto before (spec.fields left all name)) ts ≡ run (each_field left all name before) ts
unfolding run onto spec.fields each_field decls
same_fields left all name before ts = each_more left all before (run (decl_behind init left all name) ts)
