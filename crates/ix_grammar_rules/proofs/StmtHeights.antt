-- No statement that is read is higher than the height that is left.
use Rattle.std.proofs.Common.{◌≡◌, ℕ, zero, suc, ◌+◌, ◌-◌, ◌<◌, ◌≤◌, max, Bool, true, false, List, Option, Some, None, refl, arith, ◌⊎◌, inl, inr}
use Rattle.std.proofs.lemmas.Bool.{ltb-true, leb-true}
use Rattle.ix_text.specs.declared.span.Span.{Span}
use Rattle.ix_tree.specs.declared.annot.Ident.{Ident}
use Rattle.ix_grammar.specs.declared.classes.Stmts.{Stmts}
use Rattle.ix_grammar_rules.specs.declared.aims.Aim.TheVariants.{Statement}
use Rattle.ix_grammar.specs.declared.found.At.{At}
use Rattle.ix_grammar.specs.declared.found.Found.{Found}
use Rattle.ix_lexer.specs.declared.token.Token.{Token}
use Rattle.ix_grammar.specs.declared.declarations.FoundMods.{FoundMods}
use Rattle.ix_grammar.specs.declared.found.FoundType.{FoundType}
use Rattle.ix_grammar.specs.declared.found.FoundStmt.{FoundStmt}
use Rattle.ix_grammar.specs.declared.found.Several.{Several}
use Rattle.ix_grammar.specs.declared.found.Form.{Form}
use Rattle.ix_grammar.specs.declared.found.Form.TheVariants as form
use Rattle.ix_grammar_rules.specs.declared.begun.Begun.{Begun}
use Rattle.ix_grammar_rules.specs.declared.begun.Begun.TheVariants.{Local, Run, Print}
use Rattle.ix_grammar_rules.specs.Rule.{Rule, Turn, On, Done}
use Rattle.ix_grammar_rules.specs.ListRules.{next_of, more_of, next_inside, braces_of}
use Rattle.ix_grammar.specs.ClassGrammar.{no_stmts, with_stmt}
use Rattle.ix_grammar.specs.ExprNodes.{no_exprs, with_expr, makes_array}
use Rattle.ix_grammar_rules.specs.ExprRules.{extra, below, name_or_call, field_or_call, index, index_unless, further, to_statement, statement_expr}
use Rattle.ix_grammar.specs.StmtGrammar.{maybe_height, one_run, with_run, one_expr}
use Rattle.ix_grammar_rules.specs.StmtRules.{StmtParts, declared, named_type, typed, modified, local_or, chain, go_on, field, run_named, indexed, named_first, println_part, out_part, system_part, print_or, begun, finished, condition, else_part, if_rule, while_rule, do_rule, for_body, for_update, for_condition, for_part, for_rule, return_rule, throw_end, throw_rule, block_rule, stmt_of, stmts_below, block_statement}
use Rattle.ix_grammar_rules.proofs.GiveRules.{Gives, gives_more, any_gives, pure_gives, stop_gives, take_gives, bind_gives, Turned, loop_gives}
use Rattle.ix_grammar_rules.proofs.ExprHeights.{Within, low_below, field_within, args_within, most, variable_to_statement, expr_within, statement_expr_within}
use Rattle.ix_grammar_rules.proofs.StmtSound.{IsBegun, begun_sound}

-- A variable may yet be too high: then no token that goes on with it fits.
abbrev Loose : ℕ → Found → Type 0
Loose left f = (0 < f.height) × ((f.form ≡ form.Variable) ⊎ (f.height ≤ left))

abbrev RunLow : ℕ → Begun → Type 0
RunLow left (Local mods ty found) = Unit {0}
RunLow left (Run f) = f.height + 1 ≤ left
RunLow left (Print system) = Unit {0}

no_variable : (f : Found) → f.form ≡ form.Statement → f.form ≡ form.Variable → ⊥
no_variable f e v = cc

module _ (left : ℕ) where
  index_loose : (c : Bool) (f : Found) → Loose left f → Gives (Turned (Loose left) (Loose left)) (index_unless c (below left) Statement left f)
  unfolding index_unless index
  index_loose true f w = pure_gives _ w
  index_loose false f w = take_gives _ _ _ _ (λ t o. bind_gives {P = λ g. Unit {0}} _ _ any_gives (λ g u. take_gives _ _ _ _ (λ v c. pure_gives _ (omega arith, inl refl)) stop_gives)) (pure_gives _ w)

  loosen : (t : Turn Found Found) → Turned (Within left) (Within left) t → Turned (Loose left) (Loose left) t
  loosen (On f) w = (w.0, inr w.1)
  loosen (Done f) w = (w.0, inr w.1)

  further_loose : (f : Found) → Loose left f → Gives (Turned (Loose left) (Loose left)) (further (below left) Statement left f)
  unfolding further
  further_loose f w = take_gives _ _ _ _ (λ t d. take_gives _ _ _ _ (λ u x. gives_more _ loosen (field_within left (below left) (low_below left) Statement f x w.0 (ltb-true f.height left t))) stop_gives)
      (index_loose (makes_array f.form) f w)

  low_of : (f : Found) → f.form ≡ form.Statement → (f.form ≡ form.Variable) ⊎ (f.height ≤ left) → f.height ≤ left
  low_of f e (inl v) = absurd (no_variable f e v)
  low_of f e (inr le) = le

  statement_loose : (f : Found) (k : Form) → f.form ≡ k → Loose left f → Gives (Within left) (to_statement (below left) left f k)
  unfolding to_statement
  statement_loose f form.Variable e w = variable_to_statement left (below left) (low_below left) f
  statement_loose f form.Statement e w = pure_gives _ (w.0, low_of f e w.1)
  statement_loose f form.Array e w = stop_gives
  statement_loose f form.Value e w = stop_gives

module _ (left : ℕ) where
  chain_low : (f : Found) → Loose (left - 1) f → Gives (RunLow left) (chain left f)
  unfolding chain
  chain_low f w = bind_gives _ _ (loop_gives (further (below (left - 1)) Statement (left - 1)) (Loose (left - 1)) (Loose (left - 1)) (further_loose (left - 1)) f w)
      (λ g v. bind_gives _ _ (statement_loose (left - 1) g g.form refl v) (λ h u. pure_gives _ (omega (arith, u.0, u.1))))

  turn_low : (t : Turn Found Found) → Turned (Loose (left - 1)) (Loose (left - 1)) t → Gives (RunLow left) (go_on left t)
  unfolding go_on
  turn_low (On f) w = chain_low f w
  turn_low (Done f) w = stop_gives

  -- a call that fits, or a variable
  field_loose : (f : Found) (x : Ident) → 0 < f.height → Gives (Turned (Loose (left - 1)) (Loose (left - 1))) (field_or_call (below (left - 1)) Statement (left - 1) f x)
  unfolding field_or_call
  field_loose f x pos = take_gives _ _ _ _ (λ t o. bind_gives _ _ (args_within (left - 1) (below (left - 1)) (low_below (left - 1)) Statement)
      (λ r w. pure_gives _ (omega arith, inr (omega (arith, pos, leb-true (extra Statement form.Statement + (f.height + 1)) (left - 1) t, most (extra Statement form.Statement) r.height (left - 1) w (omega (arith, leb-true (extra Statement form.Statement + (f.height + 1)) (left - 1) t)))))))
      (pure_gives _ (omega arith, inl refl))

  field_low : (f : Found) (x : Ident) → 0 < f.height → Gives (RunLow left) (field left f x)
  unfolding field
  field_low f x pos = bind_gives _ _ (field_loose f x pos) turn_low

  name_loose : (x : Ident) → Gives (Loose (left - 1)) (name_or_call (below (left - 1)) Statement (left - 1) x)
  unfolding name_or_call
  name_loose x = take_gives _ _ _ _ (λ t o. bind_gives _ _ (args_within (left - 1) (below (left - 1)) (low_below (left - 1)) Statement)
      (λ r w. pure_gives _ (omega arith, inr (omega (arith, leb-true (extra Statement form.Statement + 2) (left - 1) t, most (extra Statement form.Statement) r.height (left - 1) w (omega (arith, leb-true (extra Statement form.Statement + 2) (left - 1) t)))))))
      (pure_gives _ (omega arith, inl refl))

  run_named_low : (x : Ident) → Gives (RunLow left) (run_named left x)
  unfolding run_named
  run_named_low x = bind_gives _ _ (name_loose x) chain_low

  indexed_low : (x : Ident) → Gives (RunLow left) (indexed left x)
  unfolding indexed
  indexed_low x = bind_gives {P = λ g. Unit {0}} _ _ any_gives (λ g u. take_gives _ _ _ _ (λ t r. chain_low _ (omega arith, inl refl)) stop_gives)

  declared_low : (mods : FoundMods) (ty : FoundType) (x : Ident) → Gives (RunLow left) (declared left mods ty x)
  unfolding declared
  declared_low mods ty x = bind_gives {P = λ g. Unit {0}} _ _ any_gives (λ g u. pure_gives _ tt)

  named_type_low : (mods : FoundMods) (ty : FoundType) → Gives (RunLow left) (named_type left mods ty)
  unfolding named_type
  named_type_low mods ty = take_gives _ _ _ _ (λ t x. declared_low mods ty x) stop_gives

  typed_low : (mods : FoundMods) → Gives (RunLow left) (typed left mods)
  unfolding typed
  typed_low mods = bind_gives {P = λ g. Unit {0}} _ _ any_gives (λ ty u. named_type_low mods ty)

  modified_low : (mods : FoundMods) → Gives (RunLow left) (modified left mods)
  unfolding modified
  modified_low mods = bind_gives {P = λ g. Unit {0}} _ _ any_gives (λ m u. typed_low m)

  local_or_low : (locals : Bool) (other : Rule Begun) → Gives (RunLow left) other → Gives (RunLow left) (local_or locals left other)
  unfolding local_or
  local_or_low false other o = o
  local_or_low true other o = take_gives _ _ _ _ (λ t s. modified_low _) (take_gives _ _ _ _ (λ t s. bind_gives {P = λ g. Unit {0}} _ _ any_gives (λ n u. modified_low _))
      (take_gives _ _ _ _ (λ t s. bind_gives {P = λ g. Unit {0}} _ _ any_gives (λ ty u. named_type_low _ ty)) (take_gives _ _ _ _ (λ t s. bind_gives {P = λ g. Unit {0}} _ _ any_gives (λ ty u. named_type_low _ ty)) o)))

  named_first_low : (locals : Bool) (x : Ident) → Gives (RunLow left) (named_first locals left x)
  unfolding named_first
  named_first_low false x = run_named_low x
  named_first_low true x = take_gives _ _ _ _ (λ t o. take_gives _ _ _ _ (λ u r. bind_gives {P = λ g. Unit {0}} _ _ any_gives (λ p v. named_type_low _ _)) (indexed_low x))
      (take_gives _ _ _ _ (λ t at. bind_gives {P = λ g. Unit {0}} _ _ any_gives (λ ty u. named_type_low _ ty)) (take_gives _ _ _ _ (λ t y. declared_low _ _ y) (run_named_low x)))

  println_low : (a b c : Ident) → Gives (RunLow left) (println_part left a b c)
  unfolding println_part
  println_low a b c = take_gives _ _ _ _ (λ t o. pure_gives _ tt) (field_low _ c (omega arith))

  out_low : (a b : Ident) → Gives (RunLow left) (out_part left a b)
  unfolding out_part
  out_low a b = take_gives _ _ _ _ (λ t d. take_gives _ _ _ _ (λ u c. println_low a b c) (take_gives _ _ _ _ (λ u y. field_low _ y (omega arith)) stop_gives)) (field_low _ b (omega arith))

  system_low : (locals : Bool) (a : Ident) → Gives (RunLow left) (system_part locals left a)
  unfolding system_part
  system_low locals a = take_gives _ _ _ _ (λ t d. take_gives _ _ _ _ (λ u b. out_low a b) (take_gives _ _ _ _ (λ u y. field_low _ y (omega arith)) stop_gives)) (named_first_low locals a)

  print_or_low : (prints locals : Bool) (other : Rule Begun) → Gives (RunLow left) other → Gives (RunLow left) (print_or prints locals left other)
  unfolding print_or
  print_or_low false locals other o = o
  print_or_low true locals other o = take_gives _ _ _ _ (λ t a. system_low locals a) o

  begun_low : (prints locals : Bool) → Gives (RunLow left) (begun prints locals left)
  unfolding begun
  begun_low prints locals = local_or_low locals _ (print_or_low prints locals _ (take_gives _ _ _ _ (λ t x. named_first_low locals x) (bind_gives _ _ (statement_expr_within (left - 1)) (λ f w. pure_gives _ (omega (arith, w.0, w.1))))))

  abbrev BegunLow : Begun → Type 0
  BegunLow (Local mods ty found) = found.height + 1 ≤ left
  BegunLow (Run f) = f.height + 1 ≤ left
  BegunLow (Print system) = Unit {0}

  local_low : (ts : List Token) (r : Begun) → IsBegun left ts r → RunLow left r → BegunLow r
  local_low ts (Local mods ty found) d w = d.1
  local_low ts (Run f) d w = w
  local_low ts (Print system) d w = tt

  begun_within : (prints locals : Bool) → Gives BegunLow (begun prints locals left)
  begun_within prints locals = record { at = λ ts us r h. let s = begun_sound left prints locals in let g = begun_low prints locals in let (seen, is, d) = s.at ts us r h in local_low seen r d (g.at ts us r h) }

pub record LowStmts (left : ℕ) (p : StmtParts) : Type 0 where
  pub plain : Gives (λ (s : FoundStmt). s.height + 1 ≤ left) p.plain
  pub block : Gives (λ (s : FoundStmt). s.height + 1 ≤ left) p.block

module _ (left : ℕ) (p : StmtParts) (l : LowStmts left p) where
  abbrev Fits : FoundStmt → Type 0
  Fits s = s.height ≤ left

  finished_low : (r : Begun) → BegunLow left r → Gives Fits (finished left r)
  unfolding finished
  finished_low (Local mods ty found) w = take_gives _ _ _ _ (λ t e. pure_gives _ w) stop_gives
  finished_low (Run f) w = take_gives _ _ _ _ (λ t e. pure_gives _ w) stop_gives
  finished_low (Print system) w = bind_gives _ _ (expr_within (left - 1)) (λ f v. take_gives _ _ _ _ (λ t c. take_gives _ _ _ _ (λ t e. pure_gives _ (omega (arith, v.0, v.1))) stop_gives) stop_gives)

  condition_low : Gives (Within (left - 1)) (condition left)
  unfolding condition
  condition_low = take_gives _ _ _ _ (λ t o. bind_gives _ _ (expr_within (left - 1)) (λ f v. take_gives _ _ _ _ (λ t c. pure_gives _ v) stop_gives)) stop_gives

  pub if_low : (start : Span) → Gives Fits (if_rule p left start)
  unfolding if_rule else_part
  if_low start = bind_gives _ _ condition_low (λ f v. bind_gives _ _ l.plain (λ s w. take_gives _ _ _ _ (λ t m. bind_gives _ _ l.plain (λ o u. pure_gives _ (omega (arith, v.0, v.1, w, u)))) (pure_gives _ (omega (arith, v.0, v.1, w)))))

  while_low : (start : Span) → Gives Fits (while_rule p left start)
  unfolding while_rule
  while_low start = bind_gives _ _ condition_low (λ f v. bind_gives _ _ l.plain (λ s w. pure_gives _ (omega (arith, v.0, v.1, w))))

  do_low : (start : Span) → Gives Fits (do_rule p left start)
  unfolding do_rule
  do_low start = bind_gives _ _ l.plain (λ s w. take_gives _ _ _ _ (λ t m. bind_gives _ _ condition_low (λ f v. take_gives _ _ _ _ (λ t e. pure_gives _ (omega (arith, v.0, v.1, w))) stop_gives)) stop_gives)

  more_low : {A S : Type 0} (item : Rule A) (add : S → A → S) (P : A → Type 0) (Q : S → Type 0) → Gives P item → ((s : S) (a : A) → Q s → P a → Q (add s a)) → (s : S) → Q s → Gives Q (more_of item add s)
  unfolding more_of next_of
  more_low item add P Q g w s q = loop_gives _ Q Q (λ t r. take_gives _ _ _ _ (λ u c. bind_gives _ _ g (λ a x. pure_gives _ (w t a r x))) (pure_gives _ r)) s q

  abbrev maybe_low : Option Found → Type 0
  maybe_low None = 1 ≤ left
  maybe_low (Some f) = f.height + 1 ≤ left

  cond_height : (first : Stmts) (cond : Option Found) (u : Several) (s : FoundStmt) → first.height + 1 ≤ left → maybe_low cond → u.height + 1 ≤ left → s.height + 1 ≤ left → max (max first.height (maybe_height cond)) (max u.height s.height) + 1 ≤ left
  cond_height first None u s a b c d = omega (arith, a, c, d)
  cond_height first (Some f) u s a b c d = omega (arith, a, b, c, d)

  update_low : (start : Span) (first : Stmts) (cond : Option Found) → first.height + 1 ≤ left → maybe_low cond → Gives Fits (for_update p left start first cond)
  unfolding for_update for_body
  update_low start first cond a b = take_gives _ _ _ _ (λ t r. bind_gives _ _ l.plain (λ s w. pure_gives _ (cond_height first cond no_exprs s a b (omega (arith, a)) w)))
      (bind_gives _ _ (statement_expr_within (left - 1)) (λ f v. bind_gives _ _ (more_low (statement_expr (left - 1)) with_expr (Within (left - 1)) (λ s. s.height + 1 ≤ left) (statement_expr_within (left - 1)) (λ s g q x. omega (arith, q, x.0, x.1)) (one_expr f) (omega (arith, v.0, v.1)))
      (λ u q. take_gives _ _ _ _ (λ t r. bind_gives _ _ l.plain (λ s w. pure_gives _ (cond_height first cond u s a b q w))) stop_gives)))

  condition_part_low : (start : Span) (first : Stmts) → first.height + 1 ≤ left → 1 ≤ left → Gives Fits (for_condition p left start first)
  unfolding for_condition
  condition_part_low start first a one = take_gives _ _ _ _ (λ t e. update_low start first None a one) (bind_gives _ _ (expr_within (left - 1)) (λ f v. take_gives _ _ _ _ (λ t e. update_low start first (Some f) a (omega (arith, v.0, v.1))) stop_gives))

  part_low : (r : Begun) → BegunLow (left - 1) r → Gives (λ (s : Stmts). s.height + 1 ≤ left) (for_part left r)
  unfolding for_part
  part_low (Local mods ty found) w = pure_gives _ (omega (arith, w))
  part_low (Run f) w = more_low (statement_expr (left - 2)) with_run (Within (left - 2)) (λ s. s.height + 1 ≤ left) (statement_expr_within (left - 2)) (λ s g q x. omega (arith, q, x.0, x.1)) (one_run f) (omega (arith, w))
  part_low (Print system) w = stop_gives

  for_low : (start : Span) → 2 ≤ left → Gives Fits (for_rule p left start)
  unfolding for_rule
  for_low start two = take_gives _ _ _ _ (λ t o. take_gives _ _ _ _ (λ t e. condition_part_low start no_stmts (omega (arith, two)) (omega (arith, two)))
      (bind_gives _ _ (begun_within (left - 1) false true) (λ r w. bind_gives _ _ (part_low r w) (λ first q. take_gives _ _ _ _ (λ t e. condition_part_low start first q (omega (arith, two))) stop_gives)))) stop_gives

  return_low : (start : Span) → 1 ≤ left → Gives Fits (return_rule left start)
  unfolding return_rule
  return_low start one = take_gives _ _ _ _ (λ t e. pure_gives _ (omega (arith, one))) (bind_gives _ _ (expr_within (left - 1)) (λ f v. take_gives _ _ _ _ (λ t e. pure_gives _ (omega (arith, v.0, v.1))) stop_gives))

  throw_low : (start : Span) → 2 ≤ left → Gives Fits (throw_rule start)
  unfolding throw_rule throw_end
  throw_low start two = take_gives _ _ _ _ (λ t m. take_gives _ _ _ _ (λ t x. take_gives _ _ _ _ (λ t o. take_gives _ _ _ _
      (λ t r. take_gives _ _ _ _ (λ t c. take_gives _ _ _ _ (λ t e. pure_gives _ (omega (arith, two))) stop_gives) stop_gives)
      (take_gives _ _ _ _ (λ t c. take_gives _ _ _ _ (λ t e. pure_gives _ (omega (arith, two))) stop_gives) stop_gives)) stop_gives) stop_gives) stop_gives

  inside_low : (s : Stmts) → s.height + 1 ≤ left → Gives (Turned (λ (s : Stmts). s.height + 1 ≤ left) (λ (r : At Stmts). r.value.height + 1 ≤ left)) (next_inside p.block with_stmt s)
  unfolding next_inside
  inside_low s q = take_gives _ _ _ _ (λ t r. pure_gives _ q) (bind_gives _ _ l.block (λ a w. pure_gives _ (omega (arith, q, w))))

  block_low : (o : Span) → 1 ≤ left → Gives Fits (block_rule p o)
  unfolding block_rule braces_of
  block_low o one = bind_gives _ _ (loop_gives (next_inside p.block with_stmt) (λ s. s.height + 1 ≤ left) (λ (r : At Stmts). r.value.height + 1 ≤ left) inside_low no_stmts (omega (arith, one))) (λ r w. pure_gives _ w)

  stmt_low : (locals : Bool) → Gives Fits (stmt_of p locals left)
  unfolding stmt_of
  stmt_low locals = take_gives _ _ _ _ (λ t o. block_low o (leb-true 1 left t)) (take_gives _ _ _ _ (λ t e. pure_gives _ (leb-true 1 left t)) (take_gives _ _ _ _ (λ t s. if_low s) (take_gives _ _ _ _ (λ t s. while_low s)
      (take_gives _ _ _ _ (λ t s. do_low s) (take_gives _ _ _ _ (λ t s. for_low s (leb-true 2 left t))
      (take_gives _ _ _ _ (λ t s. take_gives _ _ _ _ (λ u e. pure_gives _ (leb-true 1 left t)) stop_gives) (take_gives _ _ _ _ (λ t s. take_gives _ _ _ _ (λ u e. pure_gives _ (leb-true 1 left t)) stop_gives)
      (take_gives _ _ _ _ (λ t s. return_low s (leb-true 1 left t)) (take_gives _ _ _ _ (λ t s. throw_low s (leb-true 2 left t)) (bind_gives _ _ (begun_within left true locals) finished_low))))))))))

pub low_stmts : (left : ℕ) → LowStmts left (stmts_below left)
unfolding stmts_below
low_stmts zero = record { plain = stop_gives; block = stop_gives }
low_stmts (suc left) = record { plain = gives_more _ (λ s w. omega (arith, w)) (stmt_low left (stmts_below left) (low_stmts left) false); block = gives_more _ (λ s w. omega (arith, w)) (stmt_low left (stmts_below left) (low_stmts left) true) }

pub block_statement_within : (left : ℕ) → Gives (λ (s : FoundStmt). s.height ≤ left) (block_statement left)
block_statement_within left = stmt_low left (stmts_below left) (low_stmts left) true
