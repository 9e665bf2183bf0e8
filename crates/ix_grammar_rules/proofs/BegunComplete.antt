-- An expression statement is read where a statement begins with no word of its own, if it doesn't begin as the print statement.
use Rattle.std.proofs.Common.{◌≡◌, ℕ, ◌+◌, ◌-◌, ◌<◌, ◌≤◌, nat_le, nat_lt, Bool, true, false, List, [], ◌∷◌, ◌++◌, length, Option, Some, None, Ok, Err, refl, sym, ap, subst, ◌∙◌, arith, length-append, ◌⊎◌, inl, inr}
use Rattle.std.proofs.lemmas.Bool.{lt-ltb, le-leb, leb-true, ltb-true}
use Rattle.ix_text.specs.declared.span.Span.{Span}
use Rattle.ix_lexer.specs.declared.token.Token.{Token}
use Rattle.ix_lexer.specs.declared.token.TokenKind.{TokenKind}
use Rattle.ix_lexer.specs.declared.token.TokenKind.TheVariants as k
use Rattle.ix_lexer.specs.declared.fixed.TheConstants.{DOT, OPEN_PAREN, OPEN_BRACKET, CLOSE_BRACKET, AT, FINAL, INT, BOOLEAN}
use Rattle.ix_tree.specs.declared.annot.Ident.{Ident}
use Rattle.ix_grammar_rules.specs.declared.stop.Stop.{Stop}
use Rattle.ix_grammar_rules.specs.declared.stop.Stop.TheVariants.{Syntax, TooDeep}
use Rattle.ix_grammar_rules.specs.declared.aims.Aim.TheVariants.{Statement}
use Rattle.ix_grammar.specs.declared.found.Found.{Found}
use Rattle.ix_grammar.specs.declared.found.Form.TheVariants as form
use Rattle.ix_grammar_rules.specs.declared.begun.Begun.{Begun}
use Rattle.ix_grammar_rules.specs.declared.begun.Begun.TheVariants.{Run}
use Rattle.ix_grammar_rules.specs.Rule.{Rule, pure, take, bind, stop, loop, Turn, On, Done, look, run, Outcome, and_then}
use Rattle.ix_grammar.specs.Patterns.{sign, name_token, a_sign, a_name, name_of, step_signs, assign_signs, one_of}
use Rattle.ix_grammar.specs.ExprNodes.{named, selected, element}
use Rattle.ix_grammar_rules.specs.ExprRules.{below, inner, further, field_or_call, name_or_call, index_unless, index, first_part, primary_of, prefixed, to_statement, statement_of, assignment, statement_expr}
use Rattle.ix_grammar.specs.StmtGrammar.{SYSTEM, OUT, PRINTLN, same_text, begins_print}
use Rattle.ix_grammar_rules.specs.StmtRules.{word_of, a_word, chain, go_on, field, run_named, guarded, indexed, named_first, println_part, out_part, system_part, print_or, local_or, begun}
use Rattle.ix_grammar_rules.proofs.CompleteRules.{then_assoc}
use Rattle.ix_grammar_rules.proofs.Runs.{loop_on, loop_done, loop_stops, front}
use Rattle.ix_grammar_rules.proofs.SoundRules.{sign_is, name_is}
use Rattle.ix_grammar_rules.proofs.GiveRules.{Gives, any_gives, pure_gives, take_gives, bind_gives}
use Rattle.ix_grammar_rules.proofs.ExprSound.{inner_sound, sound_below}
use Rattle.ix_grammar_rules.proofs.Follows.{Free, starts}

-- ---- the next token

pub seen_sign : (n : ℕ) (ts : List Token) → Free n ts ⊎ ((s : Span) × (us : List Token) × (ts ≡ sign n s ∷ us))
seen_sign n [] = inl refl
seen_sign n (t ∷ ts) = at (a_sign n t) refl
  where
    at : (o : Option Span) → a_sign n t ≡ o → Free n (t ∷ ts) ⊎ ((s : Span) × (us : List Token) × (t ∷ ts ≡ sign n s ∷ us))
    at None e = inl e
    at (Some s) e = let is : t ≡ sign n s = sign_is n t.kind t.span s e in inr (s, ts, ap (λ u. u ∷ ts) is)

pub seen_name : (ts : List Token) → (look a_name ts ≡ None) ⊎ ((x : Ident) × (us : List Token) × (ts ≡ name_token x ∷ us))
seen_name [] = inl refl
seen_name (t ∷ ts) = at (a_name t) refl
  where
    at : (o : Option Ident) → a_name t ≡ o → (look a_name (t ∷ ts) ≡ None) ⊎ ((x : Ident) × (us : List Token) × (t ∷ ts ≡ name_token x ∷ us))
    at None e = inl e
    at (Some x) e = let is : t ≡ name_token x = name_is t.kind t.span x e in inr (x, ts, ap (λ u. u ∷ ts) is)

-- ---- a chain that has begun

module _ (left : ℕ) where
  abbrev then_run : Found → Rule Begun
  then_run g = bind (to_statement (below (left - 1)) (left - 1) g g.form) (λ r. pure (Run r))

  chain_turn : (f g : Found) (ts us : List Token) → run (further (below (left - 1)) Statement (left - 1) f) ts ≡ Ok (On g, us) → length us < length ts → run (chain left f) ts ≡ run (chain left g) us
  unfolding chain run
  chain_turn f g ts us h lt = ap (λ o. and_then o (λ g. run (then_run g))) (loop_on (further (below (left - 1)) Statement (left - 1)) f g ts us h lt)

  chain_err : (f : Found) (ts us : List Token) (w : Stop) → run (further (below (left - 1)) Statement (left - 1) f) ts ≡ Err (w, us) → run (chain left f) ts ≡ Err (w, us)
  unfolding chain run
  chain_err f ts us w h = ap (λ o. and_then o (λ g. run (then_run g))) (loop_stops (further (below (left - 1)) Statement (left - 1)) f ts us w h)

  chain_end : (f : Found) (ts : List Token) → run (further (below (left - 1)) Statement (left - 1) f) ts ≡ Ok (Done f, ts) → run (chain left f) ts ≡ run (then_run f) ts
  unfolding chain run
  chain_end f ts h = ap (λ o. and_then o (λ g. run (then_run g))) (loop_done (further (below (left - 1)) Statement (left - 1)) f f ts ts h)

  -- ---- a dot and a name

  IsOn : Turn Found Found → Type 0
  IsOn (On f) = Unit {0}
  IsOn (Done f) = ⊥

  field_on : (f : Found) (x : Ident) → Gives IsOn (field_or_call (below (left - 1)) Statement (left - 1) f x)
  unfolding field_or_call IsOn
  field_on f x = take_gives _ _ _ _ (λ t o. bind_gives {P = λ r. Unit {0}} _ _ any_gives (λ r u. pure_gives _ tt)) (pure_gives _ tt)

  further_field : (f : Found) (dot : Span) (x : Ident) (ts : List Token) → f.height < left - 1 → run (further (below (left - 1)) Statement (left - 1) f) (sign DOT dot ∷ name_token x ∷ ts) ≡ run (field_or_call (below (left - 1)) Statement (left - 1) f x) ts
  unfolding further run
  further_field f dot x ts lt = rw (lt-ltb f.height (left - 1) lt) refl

  field_cases : (f : Found) (dot : Span) (x : Ident) (ts : List Token) (o : Outcome (Turn Found Found)) → run (field_or_call (below (left - 1)) Statement (left - 1) f x) ts ≡ o → run (further (below (left - 1)) Statement (left - 1) f) (sign DOT dot ∷ name_token x ∷ ts) ≡ o
      → run (chain left f) (sign DOT dot ∷ name_token x ∷ ts) ≡ and_then o (λ t. run (go_on left t))
  unfolding go_on IsOn
  field_cases f dot x ts (Ok (On g, us)) h e =
      let seen = front (field_or_call (below (left - 1)) Statement (left - 1) f x) ts us (On g) h in
      chain_turn f g (sign DOT dot ∷ name_token x ∷ ts) us e (omega (arith, ap length seen.1, length-append seen.0 us))
  field_cases f dot x ts (Ok (Done g, us)) h e = let n = field_on f x in absurd (n.at ts us (Done g) h)
  field_cases f dot x ts (Err (w, us)) h e = chain_err f (sign DOT dot ∷ name_token x ∷ ts) us w e

  -- a chain that goes on with a dot and a name
  field_chain : (f : Found) (dot : Span) (x : Ident) (ts : List Token) → f.height < left - 1 → run (chain left f) (sign DOT dot ∷ name_token x ∷ ts) ≡ run (field left f x) ts
  unfolding field run
  field_chain f dot x ts lt = field_cases f dot x ts (run (field_or_call (below (left - 1)) Statement (left - 1) f x) ts) refl (further_field f dot x ts lt)

  high_dot : (f : Found) (dot : Span) (ts : List Token) → nat_lt f.height (left - 1) ≡ false → run (further (below (left - 1)) Statement (left - 1) f) (sign DOT dot ∷ ts) ≡ Err (TooDeep, sign DOT dot ∷ ts)
  unfolding further run
  high_dot f dot ts h = rw h refl

  no_name : (f : Found) (dot : Span) (ts : List Token) → f.height < left - 1 → look a_name ts ≡ None → run (further (below (left - 1)) Statement (left - 1) f) (sign DOT dot ∷ ts) ≡ Err (Syntax, ts)
  unfolding further run
  no_name f dot ts lt h = rw (lt-ltb f.height (left - 1) lt, h) refl

  abbrev Good : Outcome Begun → Begun → List Token → Type 0
  Good o r us = o ≡ Ok (r, us)

  err_ok : (w : Stop × List Token) (r : Begun) (us : List Token) (o : Outcome Begun) → o ≡ Err w → Good o r us → ⊥
  err_ok w r us o e h = cc

  -- What a chain that is read goes on with behind a dot.
  record Dotted (f : Found) (ts us : List Token) (r : Begun) : Type 0 where
    name : Ident
    later : List Token
    is : ts ≡ name_token name ∷ later
    low : f.height < left - 1
    reads : run (field left f name) later ≡ Ok (r, us)

  dotted_low : (f : Found) (dot : Span) (ts us : List Token) (r : Begun) → run (chain left f) (sign DOT dot ∷ ts) ≡ Ok (r, us) → f.height < left - 1 → (look a_name ts ≡ None) ⊎ ((x : Ident) × (vs : List Token) × (ts ≡ name_token x ∷ vs)) → Dotted f ts us r
  dotted_low f dot ts us r h lt (inl n) = absurd (err_ok (Syntax, ts) r us (run (chain left f) (sign DOT dot ∷ ts)) (chain_err f (sign DOT dot ∷ ts) ts Syntax (no_name f dot ts lt n)) h)
  dotted_low f dot ts us r h lt (inr (x, vs, is)) = record { name = x; later = vs; is = is; low = lt; reads = sym (field_chain f dot x vs lt) ∙ subst (λ y. run (chain left f) (sign DOT dot ∷ y) ≡ Ok (r, us)) is h }

  dotted : (f : Found) (dot : Span) (ts us : List Token) (r : Begun) → run (chain left f) (sign DOT dot ∷ ts) ≡ Ok (r, us) → Dotted f ts us r
  dotted f dot ts us r h = at (nat_lt f.height (left - 1)) refl
    where
      at : (b : Bool) → nat_lt f.height (left - 1) ≡ b → Dotted f ts us r
      at true e = dotted_low f dot ts us r h (ltb-true f.height (left - 1) e) (seen_name ts)
      at false e = absurd (err_ok (TooDeep, sign DOT dot ∷ ts) r us (run (chain left f) (sign DOT dot ∷ ts)) (chain_err f (sign DOT dot ∷ ts) (sign DOT dot ∷ ts) TooDeep (high_dot f dot ts e)) h)

  -- a field, where no call follows
  plain_field : (f : Found) (x : Ident) (ts : List Token) → Free OPEN_PAREN ts → run (field left f x) ts ≡ run (chain left (selected f x)) ts
  unfolding field field_or_call go_on run
  plain_field f x ts o = rw o refl

  plain_name : (x : Ident) (ts : List Token) → Free OPEN_PAREN ts → run (run_named left x) ts ≡ run (chain left (named x)) ts
  unfolding run_named name_or_call run
  plain_name x ts o = rw o refl

  -- ---- a variable that ends before what is no statement

  variable_end : (f : Found) (ts : List Token) → f.form ≡ form.Variable → Free DOT ts → Free OPEN_BRACKET ts → run (further (below (left - 1)) Statement (left - 1) f) ts ≡ Ok (Done f, ts)
  unfolding further index_unless index run
  variable_end f ts v d o = rw (d, v, o) refl

  variable_stops : (f : Found) (ts : List Token) → f.form ≡ form.Variable → look (one_of assign_signs) ts ≡ None → look (one_of step_signs) ts ≡ None → run (then_run f) ts ≡ Err (Syntax, ts)
  unfolding to_statement assignment run
  variable_stops f ts v a s = rw (v, a, s) refl

  no_statement : (x : Ident) (ts us : List Token) (r : Begun) → Free OPEN_PAREN ts → Free DOT ts → Free OPEN_BRACKET ts → look (one_of assign_signs) ts ≡ None → look (one_of step_signs) ts ≡ None → run (run_named left x) ts ≡ Ok (r, us) → ⊥
  no_statement x ts us r p d o a s h = err_ok (Syntax, ts) r us (run (run_named left x) ts) (plain_name x ts p ∙ chain_end (named x) ts (variable_end (named x) ts refl d o) ∙ variable_stops (named x) ts refl a s) h

  -- ---- an index

  index_high : (x : Ident) (o : Span) (ts : List Token) → nat_le (1 + (2 + 1)) (left - 1) ≡ false → run (further (below (left - 1)) Statement (left - 1) (named x)) (sign OPEN_BRACKET o ∷ ts) ≡ Err (TooDeep, sign OPEN_BRACKET o ∷ ts)
  unfolding further index_unless index run
  index_high x o ts h = rw h refl

  close_index : Found → Found → Rule (Turn Found Found)
  close_index f g = take (a_sign CLOSE_BRACKET) true (λ right. pure (On (element f g right))) stop

  index_low : (x : Ident) (o : Span) (ts : List Token) → nat_le (1 + (2 + 1)) (left - 1) ≡ true → run (further (below (left - 1)) Statement (left - 1) (named x)) (sign OPEN_BRACKET o ∷ ts) ≡ and_then (run (inner (below (left - 1)) 1) ts) (λ g. run (close_index (named x) g))
  unfolding further index_unless index run close_index
  index_low x o ts h = rw h refl

  close_found : (f g : Found) (c : Span) (us : List Token) → run (close_index f g) (sign CLOSE_BRACKET c ∷ us) ≡ Ok (On (element f g c), us)
  unfolding close_index run
  close_found f g c us = refl

  close_missing : (f g : Found) (us : List Token) → Free CLOSE_BRACKET us → run (close_index f g) us ≡ Err (Syntax, us)
  unfolding close_index run
  close_missing f g us h = rw h refl

  -- no index begins with the closing bracket
  not_closed : (c : Span) (ts us : List Token) (g : Found) → run (inner (below (left - 1)) 1) (sign CLOSE_BRACKET c ∷ ts) ≡ Ok (g, us) → ⊥
  not_closed c ts us g h =
      let s = inner_sound (below (left - 1)) (sound_below (left - 1)) 1 in
      let (seen, is, d) = s.at (sign CLOSE_BRACKET c ∷ ts) us g h in
      let st = starts d us in some_none (seen ++ us) is st.bracket
    where
      some_none : (vs : List Token) → sign CLOSE_BRACKET c ∷ ts ≡ vs → Free CLOSE_BRACKET vs → ⊥
      some_none vs is n = let m : look (a_sign CLOSE_BRACKET) (sign CLOSE_BRACKET c ∷ ts) ≡ None = ap (look (a_sign CLOSE_BRACKET)) is ∙ n in found_none m
        where
          found_none : look (a_sign CLOSE_BRACKET) (sign CLOSE_BRACKET c ∷ ts) ≡ None → ⊥
          found_none m = cc

  indexed_reads : (x : Ident) (o c : Span) (ts us : List Token) (g : Found) → 5 ≤ left → run (inner (below (left - 1)) 1) ts ≡ Ok (g, sign CLOSE_BRACKET c ∷ us) → run (indexed left x) ts ≡ run (chain left (element (named x) g c)) us
  unfolding indexed guarded run
  indexed_reads x o c ts us g five h = rw (le-leb 5 left five, h) refl

  named_index : (x : Ident) (o : Span) (ts : List Token) → 4 ≤ left → Free CLOSE_BRACKET ts → run (named_first true left x) (sign OPEN_BRACKET o ∷ ts) ≡ run (indexed left x) ts
  unfolding named_first run
  named_index x o ts four h = rw (le-leb 4 left four, h) refl

  named_other : (x : Ident) (ts : List Token) → Free OPEN_BRACKET ts → Free AT ts → look a_name ts ≡ None → run (named_first true left x) ts ≡ run (run_named left x) ts
  unfolding named_first run
  named_other x ts o a n = rw (o, a, n) refl

  named_plain : (x : Ident) (ts : List Token) → run (named_first false left x) ts ≡ run (run_named left x) ts
  unfolding named_first
  named_plain x ts = refl

  index_found : (x : Ident) (o : Span) (ts us ms : List Token) (g : Found) (r : Begun) → nat_le (1 + (2 + 1)) (left - 1) ≡ true → run (inner (below (left - 1)) 1) ts ≡ Ok (g, ms) → run (chain left (named x)) (sign OPEN_BRACKET o ∷ ts) ≡ Ok (r, us)
      → Free CLOSE_BRACKET ms ⊎ ((c : Span) × (vs : List Token) × (ms ≡ sign CLOSE_BRACKET c ∷ vs)) → run (named_first true left x) (sign OPEN_BRACKET o ∷ ts) ≡ Ok (r, us)
  index_found x o ts us ms g r e i h (inl n) =
      let stops : run (further (below (left - 1)) Statement (left - 1) (named x)) (sign OPEN_BRACKET o ∷ ts) ≡ Err (Syntax, ms) = index_low x o ts e ∙ ap (λ y. and_then y (λ g. run (close_index (named x) g))) i ∙ close_missing (named x) g ms n in
      absurd (err_ok (Syntax, ms) r us (run (chain left (named x)) (sign OPEN_BRACKET o ∷ ts)) (chain_err (named x) (sign OPEN_BRACKET o ∷ ts) ms Syntax stops) h)
  index_found x o ts us ms g r e i h (inr (c, vs, is)) =
      let j : run (inner (below (left - 1)) 1) ts ≡ Ok (g, sign CLOSE_BRACKET c ∷ vs) = subst (λ y. run (inner (below (left - 1)) 1) ts ≡ Ok (g, y)) is i in
      let goes : run (further (below (left - 1)) Statement (left - 1) (named x)) (sign OPEN_BRACKET o ∷ ts) ≡ Ok (On (element (named x) g c), vs) = index_low x o ts e ∙ ap (λ y. and_then y (λ g. run (close_index (named x) g))) j ∙ close_found (named x) g c vs in
      let seen = front (inner (below (left - 1)) 1) ts (sign CLOSE_BRACKET c ∷ vs) g j in
      let turn = chain_turn (named x) (element (named x) g c) (sign OPEN_BRACKET o ∷ ts) vs goes (omega (arith, ap length seen.1, length-append seen.0 (sign CLOSE_BRACKET c ∷ vs))) in
      let low : 4 ≤ left - 1 = leb-true (1 + (2 + 1)) (left - 1) e in
      named_index x o ts (omega (arith, low)) (open_index x o ts (sign CLOSE_BRACKET c ∷ vs) g j) ∙ indexed_reads x o c ts vs g (omega (arith, low)) j ∙ sym turn ∙ h
    where
      open_index : (x : Ident) (o : Span) (ts us : List Token) (g : Found) → run (inner (below (left - 1)) 1) ts ≡ Ok (g, us) → Free CLOSE_BRACKET ts
      open_index x o ts us g j = at (seen_sign CLOSE_BRACKET ts)
        where
          at : Free CLOSE_BRACKET ts ⊎ ((c : Span) × (vs : List Token) × (ts ≡ sign CLOSE_BRACKET c ∷ vs)) → Free CLOSE_BRACKET ts
          at (inl n) = n
          at (inr (c, vs, is)) = absurd (not_closed c vs us g (subst (λ y. run (inner (below (left - 1)) 1) y ≡ Ok (g, us)) is j))

  index_same : (x : Ident) (o : Span) (ts us : List Token) (r : Begun) → run (chain left (named x)) (sign OPEN_BRACKET o ∷ ts) ≡ Ok (r, us) → run (named_first true left x) (sign OPEN_BRACKET o ∷ ts) ≡ Ok (r, us)
  index_same x o ts us r h = at (nat_le (1 + (2 + 1)) (left - 1)) refl
    where
      read : nat_le (1 + (2 + 1)) (left - 1) ≡ true → (y : Outcome Found) → run (inner (below (left - 1)) 1) ts ≡ y → run (named_first true left x) (sign OPEN_BRACKET o ∷ ts) ≡ Ok (r, us)
      read e (Ok (g, ms)) i = index_found x o ts us ms g r e i h (seen_sign CLOSE_BRACKET ms)
      read e (Err (w, ms)) i =
          let stops : run (further (below (left - 1)) Statement (left - 1) (named x)) (sign OPEN_BRACKET o ∷ ts) ≡ Err (w, ms) = index_low x o ts e ∙ ap (λ y. and_then y (λ g. run (close_index (named x) g))) i in
          absurd (err_ok (w, ms) r us (run (chain left (named x)) (sign OPEN_BRACKET o ∷ ts)) (chain_err (named x) (sign OPEN_BRACKET o ∷ ts) ms w stops) h)

      at : (b : Bool) → nat_le (1 + (2 + 1)) (left - 1) ≡ b → run (named_first true left x) (sign OPEN_BRACKET o ∷ ts) ≡ Ok (r, us)
      at true e = read e (run (inner (below (left - 1)) 1) ts) refl
      at false e = absurd (err_ok (TooDeep, sign OPEN_BRACKET o ∷ ts) r us (run (chain left (named x)) (sign OPEN_BRACKET o ∷ ts)) (chain_err (named x) (sign OPEN_BRACKET o ∷ ts) (sign OPEN_BRACKET o ∷ ts) TooDeep (index_high x o ts e)) h)

  -- Where a name begins an expression that is read, no declaration is read.
  first_same : (x : Ident) (ts us : List Token) (r : Begun) → run (run_named left x) ts ≡ Ok (r, us) → Free OPEN_BRACKET ts ⊎ ((s : Span) × (vs : List Token) × (ts ≡ sign OPEN_BRACKET s ∷ vs))
      → Free AT ts ⊎ ((s : Span) × (vs : List Token) × (ts ≡ sign AT s ∷ vs)) → (look a_name ts ≡ None) ⊎ ((y : Ident) × (vs : List Token) × (ts ≡ name_token y ∷ vs)) → run (named_first true left x) ts ≡ Ok (r, us)
  first_same x ts us r h (inr (o, vs, is)) a n = subst (λ y. run (named_first true left x) y ≡ Ok (r, us)) (sym is)
      (index_same x o vs us r (sym (plain_name x (sign OPEN_BRACKET o ∷ vs) refl) ∙ subst (λ y. run (run_named left x) y ≡ Ok (r, us)) is h))
  first_same x ts us r h (inl o) (inr (s, vs, is)) n = absurd (no_statement x (sign AT s ∷ vs) us r refl refl refl refl refl (subst (λ y. run (run_named left x) y ≡ Ok (r, us)) is h))
  first_same x ts us r h (inl o) (inl a) (inr (y, vs, is)) = absurd (no_statement x (name_token y ∷ vs) us r refl refl refl refl refl (subst (λ y. run (run_named left x) y ≡ Ok (r, us)) is h))
  first_same x ts us r h (inl o) (inl a) (inl n) = named_other x ts o a n ∙ h

  named_same : (locals : Bool) (x : Ident) (ts us : List Token) (r : Begun) → run (run_named left x) ts ≡ Ok (r, us) → run (named_first locals left x) ts ≡ Ok (r, us)
  named_same false x ts us r h = named_plain x ts ∙ h
  named_same true x ts us r h = first_same x ts us r h (seen_sign OPEN_BRACKET ts) (seen_sign AT ts) (seen_name ts)

  -- ---- the words of the print statement

  println_same : (x y z : Ident) (ts us : List Token) (r : Begun) → Free OPEN_PAREN ts → run (field left (selected (named x) y) z) ts ≡ Ok (r, us) → run (println_part left x y z) ts ≡ Ok (r, us)
  unfolding println_part run
  println_same x y z ts us r o h = rw o h

  out_dot : (x y z : Ident) (d : Span) (ts us : List Token) (r : Begun) → 5 ≤ left → (b : Bool) → same_text z.text PRINTLN ≡ b → (b ≡ true → Free OPEN_PAREN ts) → run (field left (selected (named x) y) z) ts ≡ Ok (r, us) → run (out_part left x y) (sign DOT d ∷ name_token z ∷ ts) ≡ Ok (r, us)
  unfolding out_part run
  out_dot x y z d ts us r five true e o h = rw e (println_same x y z ts us r (o refl) h)
  out_dot x y z d ts us r five false e o h = rw (e, le-leb 5 left five) h

  out_plain : (x y : Ident) (ts us : List Token) (r : Begun) → Free DOT ts → run (field left (named x) y) ts ≡ Ok (r, us) → run (out_part left x y) ts ≡ Ok (r, us)
  unfolding out_part run
  out_plain x y ts us r d h = rw d h

  system_dot : (locals : Bool) (x y : Ident) (d : Span) (ts us : List Token) (r : Begun) → 4 ≤ left → (b : Bool) → same_text y.text OUT ≡ b → (b ≡ true → run (out_part left x y) ts ≡ Ok (r, us)) → run (field left (named x) y) ts ≡ Ok (r, us)
      → run (system_part locals left x) (sign DOT d ∷ name_token y ∷ ts) ≡ Ok (r, us)
  unfolding system_part run
  system_dot locals x y d ts us r four true e o h = rw e (o refl)
  system_dot locals x y d ts us r four false e o h = rw (e, le-leb 4 left four) h

  system_plain : (locals : Bool) (x : Ident) (ts : List Token) → Free DOT ts → run (system_part locals left x) ts ≡ run (named_first locals left x) ts
  unfolding system_part run
  system_plain locals x ts d = rw d refl

  print_true : (x y z : Ident) (d e o : Span) (ts : List Token) → same_text x.text SYSTEM ≡ true → same_text y.text OUT ≡ true → same_text z.text PRINTLN ≡ true
      → begins_print (name_token x ∷ sign DOT d ∷ name_token y ∷ sign DOT e ∷ name_token z ∷ sign OPEN_PAREN o ∷ ts) ≡ true
  print_true x y z d e o ts a b c = rw (a, b, c) refl

  no_paren : (x y z : Ident) (d e : Span) (ts : List Token) → same_text x.text SYSTEM ≡ true → same_text y.text OUT ≡ true → same_text z.text PRINTLN ≡ true → begins_print (name_token x ∷ sign DOT d ∷ name_token y ∷ sign DOT e ∷ name_token z ∷ ts) ≡ false
      → Free OPEN_PAREN ts ⊎ ((s : Span) × (vs : List Token) × (ts ≡ sign OPEN_PAREN s ∷ vs)) → Free OPEN_PAREN ts
  no_paren x y z d e ts a b c p (inl n) = n
  no_paren x y z d e ts a b c p (inr (s, vs, is)) =
      absurd (both_ways (begins_print (name_token x ∷ sign DOT d ∷ name_token y ∷ sign DOT e ∷ name_token z ∷ ts)) (subst (λ w. begins_print (name_token x ∷ sign DOT d ∷ name_token y ∷ sign DOT e ∷ name_token z ∷ w) ≡ true) (sym is) (print_true x y z d e s vs a b c)) p)
    where
      both_ways : (b : Bool) → b ≡ true → b ≡ false → ⊥
      both_ways b t f = cc

  out_same : (x y : Ident) (d : Span) (ts us : List Token) (r : Begun) → same_text x.text SYSTEM ≡ true → same_text y.text OUT ≡ true → begins_print (name_token x ∷ sign DOT d ∷ name_token y ∷ ts) ≡ false → run (field left (named x) y) ts ≡ Ok (r, us)
      → Free DOT ts ⊎ ((s : Span) × (vs : List Token) × (ts ≡ sign DOT s ∷ vs)) → run (out_part left x y) ts ≡ Ok (r, us)
  out_same x y d ts us r a b p h (inl n) = out_plain x y ts us r n h
  out_same x y d ts us r a b p h (inr (e, vs, is)) =
      let c : run (chain left (selected (named x) y)) (sign DOT e ∷ vs) ≡ Ok (r, us) = sym (plain_field (named x) y (sign DOT e ∷ vs) refl) ∙ subst (λ w. run (field left (named x) y) w ≡ Ok (r, us)) is h in
      let m = dotted (selected (named x) y) e vs us r c in
      let low = m.low in
      let q : begins_print (name_token x ∷ sign DOT d ∷ name_token y ∷ sign DOT e ∷ name_token m.name ∷ m.later) ≡ false = subst (λ w. begins_print (name_token x ∷ sign DOT d ∷ name_token y ∷ sign DOT e ∷ w) ≡ false) m.is (subst (λ w. begins_print (name_token x ∷ sign DOT d ∷ name_token y ∷ w) ≡ false) is p) in
      let reads : run (out_part left x y) (sign DOT e ∷ name_token m.name ∷ m.later) ≡ Ok (r, us) = out_dot x y m.name e m.later us r (omega (arith, low)) (same_text m.name.text PRINTLN) refl (λ t. no_paren x y m.name d e m.later a b t q (seen_sign OPEN_PAREN m.later)) m.reads in
      subst (λ w. run (out_part left x y) w ≡ Ok (r, us)) (sym is) (subst (λ w. run (out_part left x y) (sign DOT e ∷ w) ≡ Ok (r, us)) (sym m.is) reads)

  system_same : (locals : Bool) (x : Ident) (ts us : List Token) (r : Begun) → same_text x.text SYSTEM ≡ true → begins_print (name_token x ∷ ts) ≡ false → run (run_named left x) ts ≡ Ok (r, us)
      → Free DOT ts ⊎ ((s : Span) × (vs : List Token) × (ts ≡ sign DOT s ∷ vs)) → run (system_part locals left x) ts ≡ Ok (r, us)
  system_same locals x ts us r a p h (inl n) = system_plain locals x ts n ∙ named_same locals x ts us r h
  system_same locals x ts us r a p h (inr (d, vs, is)) =
      let c : run (chain left (named x)) (sign DOT d ∷ vs) ≡ Ok (r, us) = sym (plain_name x (sign DOT d ∷ vs) refl) ∙ subst (λ w. run (run_named left x) w ≡ Ok (r, us)) is h in
      let m = dotted (named x) d vs us r c in
      let low = m.low in
      let q : begins_print (name_token x ∷ sign DOT d ∷ name_token m.name ∷ m.later) ≡ false = subst (λ w. begins_print (name_token x ∷ sign DOT d ∷ w) ≡ false) m.is (subst (λ w. begins_print (name_token x ∷ w) ≡ false) is p) in
      let reads : run (system_part locals left x) (sign DOT d ∷ name_token m.name ∷ m.later) ≡ Ok (r, us) = system_dot locals x m.name d m.later us r (omega (arith, low)) (same_text m.name.text OUT) refl (λ t. out_same x m.name d m.later us r a t q m.reads (seen_sign DOT m.later)) m.reads in
      subst (λ w. run (system_part locals left x) w ≡ Ok (r, us)) (sym is) (subst (λ w. run (system_part locals left x) (sign DOT d ∷ w) ≡ Ok (r, us)) (sym m.is) reads)

  -- ---- an expression statement

  abbrev pub run_expr : Rule Begun
  run_expr = bind (statement_expr (left - 1)) (λ f. pure (Run f))

  expr_low : (x : Ident) (ts : List Token) → nat_le 2 (left - 1) ≡ true → run run_expr (name_token x ∷ ts) ≡ run (run_named left x) ts
  unfolding run_named chain statement_of prefixed primary_of first_part run
  expr_low x ts e = rw e (
      then_assoc (and_then (run (name_or_call (below (left - 1)) Statement (left - 1) x) ts) (λ f. run (loop (further (below (left - 1)) Statement (left - 1)) f))) (λ f. run (to_statement (below (left - 1)) (left - 1) f f.form)) (λ f. run (pure (Run f)))
      ∙ then_assoc (run (name_or_call (below (left - 1)) Statement (left - 1) x) ts) (λ f. run (loop (further (below (left - 1)) Statement (left - 1)) f)) (λ f us. and_then (run (to_statement (below (left - 1)) (left - 1) f f.form) us) (λ f. run (pure (Run f)))))

  expr_high : (x : Ident) (ts : List Token) → nat_le 2 (left - 1) ≡ false → run run_expr (name_token x ∷ ts) ≡ Err (TooDeep, name_token x ∷ ts)
  unfolding statement_of prefixed primary_of first_part run
  expr_high x ts e = rw e refl

  begun_name : (prints : Bool) (x : Ident) (ts us : List Token) (r : Begun) → 3 ≤ left → (b : Bool) → same_text x.text SYSTEM ≡ b → run (named_first false left x) ts ≡ Ok (r, us) → ((l : Bool) → run (named_first l left x) ts ≡ Ok (r, us)) → (prints ≡ true → b ≡ true → (l : Bool) → run (system_part l left x) ts ≡ Ok (r, us))
      → (locals : Bool) → run (begun prints locals left) (name_token x ∷ ts) ≡ Ok (r, us)
  unfolding begun local_or print_or run
  begun_name true x ts us r three true e n f s true = rw (e, le-leb 2 left (omega (arith, three))) (s refl refl true)
  begun_name true x ts us r three true e n f s false = rw (e, le-leb 2 left (omega (arith, three))) (s refl refl false)
  begun_name true x ts us r three false e n f s true = rw (e, le-leb 3 left three) (f true)
  begun_name true x ts us r three false e n f s false = rw (e, le-leb 3 left three) (f false)
  begun_name false x ts us r three b e n f s true = rw (le-leb 3 left three) (f true)
  begun_name false x ts us r three b e n f s false = rw (le-leb 3 left three) (f false)

  begun_run_name : (prints locals : Bool) (x : Ident) (ts us : List Token) (r : Begun) → (prints ≡ true → begins_print (name_token x ∷ ts) ≡ false) → run run_expr (name_token x ∷ ts) ≡ Ok (r, us) → (b : Bool) → nat_le 2 (left - 1) ≡ b → run (begun prints locals left) (name_token x ∷ ts) ≡ Ok (r, us)
  begun_run_name prints locals x ts us r p h false e = absurd (err_ok (TooDeep, name_token x ∷ ts) r us (run run_expr (name_token x ∷ ts)) (expr_high x ts e) h)
  begun_run_name prints locals x ts us r p h true e =
      let n : run (run_named left x) ts ≡ Ok (r, us) = sym (expr_low x ts e) ∙ h in
      let low : 2 ≤ left - 1 = leb-true 2 (left - 1) e in
      begun_name prints x ts us r (omega (arith, low)) (same_text x.text SYSTEM) refl (named_same false x ts us r n) (λ l. named_same l x ts us r n)
      (λ t a l. system_same l x ts us r a (p t) n (seen_sign DOT ts)) locals

  other_word : (text : List ℕ) (ts : List Token) → look a_name ts ≡ None → look (a_word text) ts ≡ None
  other_word text [] h = refl
  other_word text (t ∷ ts) h = no_word t.kind t.span h
    where
      no_word : (kind : TokenKind) (span : Span) → name_of kind span ≡ None → word_of text kind span ≡ None
      no_word (k.Ident x) span h = absurd (cc)
      no_word (k.Fixed m) span h = refl
      no_word (k.Int n) span h = refl
      no_word k.MinLit span h = refl
      no_word (k.Str t) span h = refl

  begun_other : (prints locals : Bool) (ts : List Token) → look a_name ts ≡ None → Free FINAL ts → Free AT ts → Free INT ts → Free BOOLEAN ts → run (begun prints locals left) ts ≡ run run_expr ts
  unfolding begun local_or print_or run
  begun_other true true ts n a b c d = rw (a, b, c, d, other_word SYSTEM ts n, n) refl
  begun_other true false ts n a b c d = rw (other_word SYSTEM ts n, n) refl
  begun_other false true ts n a b c d = rw (a, b, c, d, n) refl
  begun_other false false ts n a b c d = rw n refl

  -- An expression statement that is read is read as such.
  pub begun_run : (prints locals : Bool) (ts us : List Token) (r : Begun) → Free FINAL ts → Free AT ts → Free INT ts → Free BOOLEAN ts → (prints ≡ true → begins_print ts ≡ false) → run run_expr ts ≡ Ok (r, us)
      → (look a_name ts ≡ None) ⊎ ((x : Ident) × (vs : List Token) × (ts ≡ name_token x ∷ vs)) → run (begun prints locals left) ts ≡ Ok (r, us)
  begun_run prints locals ts us r a b c d p h (inl n) = begun_other prints locals ts n a b c d ∙ h
  begun_run prints locals ts us r a b c d p h (inr (x, vs, is)) = subst (λ y. run (begun prints locals left) y ≡ Ok (r, us)) (sym is)
      (begun_run_name prints locals x vs us r (λ t. subst (λ y. begins_print y ≡ false) is (p t)) (subst (λ y. run run_expr y ≡ Ok (r, us)) is h) (nat_le 2 (left - 1)) refl)
