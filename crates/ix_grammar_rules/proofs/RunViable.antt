-- Where a statement that begins as an expression does stops, what was taken goes on.
use Rattle.std.proofs.Common.{◌≡◌, ℕ, ◌+◌, ◌-◌, ◌<◌, ◌≤◌, nat_le, nat_lt, arith, Bool, true, false, List, [], ◌∷◌, ◌++◌, refl, subst, append_assoc, ◌⊎◌, inl, inr}
use Rattle.std.proofs.lemmas.Bool.{leb-true, ltb-true, false_from_ne_true}
use Rattle.ix_text.specs.declared.span.Span.{Span}
use Rattle.ix_lexer.specs.declared.token.Token.{Token}
use Rattle.ix_lexer.specs.declared.fixed.TheConstants.{DOT, OPEN_BRACKET, CLOSE_BRACKET}
use Rattle.ix_tree.specs.declared.annot.Ident.{Ident}
use Rattle.ix_grammar_rules.specs.declared.aims.Aim.TheVariants.{Statement}
use Rattle.ix_grammar.specs.declared.found.Form.{Form}
use Rattle.ix_grammar.specs.declared.found.Form.TheVariants as form
use Rattle.ix_grammar.specs.declared.found.Found.{Found}
use Rattle.ix_grammar_rules.specs.declared.begun.Begun.{Begun}
use Rattle.ix_grammar_rules.specs.declared.begun.Begun.TheVariants.{Run}
use Rattle.ix_grammar_rules.specs.Rule.{pure, bind, loop, Turn, On, Done}
use Rattle.ix_grammar.specs.Patterns.{sign, name_token}
use Rattle.ix_grammar.specs.ExprNodes.{named, selected, element, makes_array}
use Rattle.ix_grammar_rules.specs.ExprRules.{extra, below, inner, name_or_call, field_or_call, index, index_unless, further, assignment, to_statement, statement_expr}
use Rattle.ix_grammar.specs.ExprGrammar as g
use Rattle.ix_grammar.specs.ExprGrammar.{Primary, Whole, IsExpr, IsStatementExpr}
use Rattle.ix_grammar_rules.specs.StmtRules.{chain, go_on, field, run_named, guarded, indexed}
use Rattle.ix_grammar_rules.proofs.ExactRules.{Exact, exact_more, stop_exact, bind_exact, map_exact, maybe_bind, maybe_map, nothing_exact, must_sign, nothing_stop, nothing_take, Idle, idle_pure, idle_take, idle_bind, idle_loop}
use Rattle.ix_grammar_rules.proofs.ExprExact.{Low, inner_exact, Prim, prim_of}
use Rattle.ix_grammar_rules.proofs.ExprViable.{room, below_false, name_or_call_exact, field_or_call_exact, chain_exact, to_statement_exact, exact_below, nothing_expr, maybe_statement}
use Rattle.ix_grammar_rules.proofs.ExprHeights.{extra_at_most}
use Rattle.ix_grammar_rules.proofs.Follows.{tall}
use Rattle.ix_grammar_rules.proofs.SoundRules.{After}
use Rattle.ix_grammar_rules.proofs.ViableRules.{Goes, Nothing, nothing_bind}

-- ---- a variable that is too high for a statement: no token that goes on with it fits

not_lower : (n left : ℕ) → left ≤ n → nat_lt n left ≡ false
not_lower n left le = false_from_ne_true (nat_lt n left) (λ e. omega (arith, le, ltb-true n left e))

module _ (left : ℕ) where
  further_idle : (f : Found) (c : Bool) → left ≤ f.height → Idle (Done f) (index_unless c (below left) Statement left f)
  unfolding index_unless index
  further_idle f true le = idle_pure (Done f)
  further_idle f false le = idle_take (Done f) _ _ _ _ (below_false (extra Statement form.Variable + (f.height + 1)) left (omega (arith, le))) (idle_pure (Done f))

  loop_idle : (f : Found) → left ≤ f.height → Idle f (loop (further (below left) Statement left) f)
  unfolding further
  loop_idle f le = idle_loop (further (below left) Statement left) f (idle_take (Done f) _ _ _ _ (not_lower f.height left le) (further_idle f (makes_array f.form) le))

  to_statement_nothing : (f : Found) (k : Form) → k ≡ form.Variable → left ≤ f.height → Nothing (to_statement (below left) left f k)
  unfolding to_statement assignment
  to_statement_nothing f form.Variable e le = nothing_take _ _ _ _ (not_lower f.height left le) (nothing_take _ _ _ _ (not_lower f.height left le) nothing_stop)
  to_statement_nothing f form.Statement e le = absurd (cc)
  to_statement_nothing f form.Array e le = absurd (cc)
  to_statement_nothing f form.Value e le = absurd (cc)

module _ (left : ℕ) where
  high_chain : (f : Found) → f.form ≡ form.Variable → left - 1 ≤ f.height → Nothing (chain left f)
  unfolding chain
  high_chain f v le = idle_bind f _ _ (loop_idle (left - 1) f le) (nothing_bind _ _ (to_statement_nothing (left - 1) f f.form v le))

  high_field : (f : Found) (x : Ident) → left - 1 ≤ f.height → Nothing (field left f x)
  unfolding field field_or_call go_on
  high_field f x le = idle_bind (On (selected f x)) _ _ (idle_take (On (selected f x)) _ _ _ _ (below_false (extra Statement form.Statement + (f.height + 1)) (left - 1) (omega (arith, le))) (idle_pure (On (selected f x))))
      (high_chain (selected f x) refl (omega (arith, le)))

  high_name : (x : Ident) → left ≤ 2 → Nothing (run_named left x)
  unfolding run_named name_or_call
  high_name x le = idle_bind (named x) _ _ (idle_take (named x) _ _ _ _ (below_false (extra Statement form.Statement + 2) (left - 1) (omega (arith, le))) (idle_pure (named x))) (high_chain (named x) refl (omega (arith, le)))

-- ---- Q is what the whole is: at least an expression that is a statement and low enough

module _ (left : ℕ) (Q : List Token → Begun → Type 0) (run_is : (ts : List Token) (f : Found) → IsStatementExpr ts f → f.height + 1 ≤ left → Q ts (Run f)) where
  abbrev Begins : List Token → Found → Type 0
  Begins = Prim Statement (left - 1)

  run_low : (ts : List Token) (f : Found) → IsStatementExpr ts f → f.height ≤ left - 1 → Q ts (Run f)
  run_low ts f d le = run_is ts f d (omega (arith, le, tall d.is))

  pub chain_of_exact : (f : Found) (front : List Token) → Begins front f → Exact (λ ts r. Q (front ++ ts) r) (chain left f)
  unfolding chain
  chain_of_exact f front p = bind_exact _ _ (chain_exact (left - 1) (below (left - 1)) (exact_below (left - 1)) Statement f front p)
      (λ h seen q. exact_more _ (λ ts r y. subst (λ y. Q y r) (append_assoc front seen ts) y)
      (map_exact _ _ (to_statement_exact (left - 1) (below (left - 1)) (exact_below (left - 1)) h (front ++ seen) h.form refl q) (λ r us y. run_low _ r y.0 y.1)))

  -- a primary with room for a statement
  pub room_for : (f : Found) (front : List Token) → IsExpr Primary front f → f.height + extra Statement f.form ≤ left - 1 → Begins front f
  room_for f front d le = prim_of Statement (left - 1) front f d le

  -- a variable that may be too high
  pub variable_chain_exact : (f : Found) (front : List Token) → IsExpr Primary front f → f.form ≡ form.Variable → Goes (λ ts r. Q (front ++ ts) r) [] → Exact (λ ts r. Q (front ++ ts) r) (chain left f)
  variable_chain_exact f front d v goes = at (room f.height (left - 1))
    where
      at : (f.height < left - 1) ⊎ (left - 1 ≤ f.height) → Exact (λ ts r. Q (front ++ ts) r) (chain left f)
      at (inl lt) = chain_of_exact f front (room_for f front d (omega (arith, lt, extra_at_most Statement f.form)))
      at (inr le) = nothing_exact _ (high_chain left f v le) goes

  -- behind a primary and these tokens
  after_all : (t : Turn Found Found) (front ts : List Token) → After Begins Begins front ts t → After Begins Begins [] (front ++ ts) t
  after_all (On f) front ts d = d
  after_all (Done f) front ts d = d

  go_on_exact : (t : Turn Found Found) (front : List Token) → After Begins Begins [] front t → Exact (λ ts r. Q (front ++ ts) r) (go_on left t)
  unfolding go_on
  go_on_exact (On f) front p = chain_of_exact f front p
  go_on_exact (Done f) front p = stop_exact (let (others, h, y) = p.goes in (others, Run h, run_low _ h y.0 y.1))

  low_field : (f : Found) (front : List Token) (dot : Span) (x : Ident) → IsExpr Primary front f → f.height < left - 1 → Exact (λ ts r. Q (front ++ (sign DOT dot ∷ name_token x ∷ ts)) r) (field left f x)
  unfolding field
  low_field f front dot x d lt = bind_exact _ _ (field_or_call_exact (left - 1) (below (left - 1)) (exact_below (left - 1)) Statement f front dot x d lt)
      (λ t seen y. exact_more _ (λ ts r b. subst (λ z. Q z r) (append_assoc front (sign DOT dot ∷ name_token x ∷ seen) ts) b) (go_on_exact t (front ++ (sign DOT dot ∷ name_token x ∷ seen)) (after_all t front (sign DOT dot ∷ name_token x ∷ seen) y)))

  -- behind a primary, a dot and a name
  pub field_exact : (f : Found) (front : List Token) (dot : Span) (x : Ident) → IsExpr Primary front f → Goes (λ ts r. Q (front ++ (sign DOT dot ∷ name_token x ∷ ts)) r) []
      → Exact (λ ts r. Q (front ++ (sign DOT dot ∷ name_token x ∷ ts)) r) (field left f x)
  field_exact f front dot x d goes = at (room f.height (left - 1))
    where
      at : (f.height < left - 1) ⊎ (left - 1 ≤ f.height) → Exact (λ ts r. Q (front ++ (sign DOT dot ∷ name_token x ∷ ts)) r) (field left f x)
      at (inl lt) = low_field f front dot x d lt
      at (inr le) = nothing_exact _ (high_field left f x le) goes

  low_name : (x : Ident) → 3 ≤ left → Exact (λ ts r. Q (name_token x ∷ ts) r) (run_named left x)
  unfolding run_named
  low_name x three = bind_exact _ _ (name_or_call_exact (left - 1) (below (left - 1)) (exact_below (left - 1)) Statement x (omega (arith, three))) (λ f seen p. chain_of_exact f (name_token x ∷ seen) p)

  -- behind a name
  pub run_named_exact : (x : Ident) → Goes (λ ts r. Q (name_token x ∷ ts) r) [] → Exact (λ ts r. Q (name_token x ∷ ts) r) (run_named left x)
  run_named_exact x goes = at (room 2 left)
    where
      at : (2 < left) ⊎ (left ≤ 2) → Exact (λ ts r. Q (name_token x ∷ ts) r) (run_named left x)
      at (inl lt) = low_name x lt
      at (inr le) = nothing_exact _ (high_name left x le) goes

  abbrev Indexes : List Token → Found → Type 0
  Indexes ts f = Low Whole 2 (left - 1) ts f × (5 ≤ left)

  indexes : (c : Bool) → nat_le 5 left ≡ c → Exact Indexes (guarded c (inner (below (left - 1)) 1)) ⊎ Nothing (guarded c (inner (below (left - 1)) 1))
  unfolding guarded
  indexes true e = inl (exact_more _ (λ ts f d. (d, leb-true 5 left e)) (inner_exact (left - 1) (below (left - 1)) (exact_below (left - 1)) 1 (omega arith) (omega (arith, leb-true 5 left e))))
  indexes false e = inr nothing_expr

  -- behind a name and a bracket
  pub indexed_exact : (x : Ident) (o : Span) → Goes (λ ts r. Q (name_token x ∷ sign OPEN_BRACKET o ∷ ts) r) [] → Exact (λ ts r. Q (name_token x ∷ sign OPEN_BRACKET o ∷ ts) r) (indexed left x)
  unfolding indexed
  indexed_exact x o goes = maybe_bind _ _ (indexes (nat_le 5 left) refl) goes
      (λ h seen d. must_sign CLOSE_BRACKET _ (λ r. exact_more _ (λ ts b y. subst (λ z. Q (name_token x ∷ sign OPEN_BRACKET o ∷ z) b) (append_assoc seen (sign CLOSE_BRACKET r ∷ []) ts) y)
      (chain_of_exact (element (named x) h r) (name_token x ∷ sign OPEN_BRACKET o ∷ (seen ++ sign CLOSE_BRACKET r ∷ [])) (room_for (element (named x) h r) _ (g.index o r (g.variable x) refl d.0.0) (omega (arith, d.0.1, d.1))))))

  -- an expression that begins with no name
  pub run_expr_exact : Goes Q [] → Exact Q (bind (statement_expr (left - 1)) (λ f. pure (Run f)))
  run_expr_exact goes = maybe_map _ _ (maybe_statement (left - 1)) goes (λ f seen y. run_low seen f y.0 y.1)
