-- Statements with more height left.
use Rattle.std.proofs.Common.{◌≡◌, ℕ, zero, suc, ◌+◌, ◌-◌, ◌<◌, ◌≤◌, nat_le, Bool, true, false, Option, Some, None, refl, sym, subst, arith}
use Rattle.std.proofs.lemmas.Bool.{le-leb, leb-true, ltb-true}
use Rattle.ix_text.specs.declared.span.Span.{Span}
use Rattle.ix_tree.specs.declared.annot.BaseTree.TheVariants.{Int, Boolean, Named}
use Rattle.ix_tree.specs.declared.annot.Ident.{Ident}
use Rattle.ix_grammar.specs.declared.classes.Stmts.{Stmts}
use Rattle.ix_grammar.specs.declared.declarations.FoundMods.{FoundMods}
use Rattle.ix_grammar.specs.declared.declarations.Word.TheVariants.{Final}
use Rattle.ix_grammar_rules.specs.declared.aims.Aim.TheVariants.{Statement}
use Rattle.ix_grammar.specs.declared.found.Form.TheVariants as form
use Rattle.ix_grammar.specs.declared.found.Found.{Found}
use Rattle.ix_grammar.specs.declared.found.FoundStmt.{FoundStmt}
use Rattle.ix_grammar.specs.declared.found.FoundType.{FoundType}
use Rattle.ix_grammar.specs.declared.found.Several.{Several}
use Rattle.ix_grammar_rules.specs.declared.begun.Begun.{Begun}
use Rattle.ix_grammar_rules.specs.declared.begun.Begun.TheVariants.{Local, Run, Print}
use Rattle.ix_grammar_rules.specs.Rule.{Rule, loop, Turn, On, Done}
use Rattle.ix_grammar.specs.TypeGrammar.{based}
use Rattle.ix_grammar.specs.DeclGrammar.{no_mods, with_word, with_annot, local_words, shared}
use Rattle.ix_grammar.specs.ClassGrammar.{no_stmts, with_stmt}
use Rattle.ix_grammar.specs.ExprNodes.{named, selected, element, no_exprs, with_expr, makes_array}
use Rattle.ix_grammar_rules.specs.ExprRules.{extra, below, inner, name_or_call, field_or_call, index, index_unless, further, expr, init}
use Rattle.ix_grammar.specs.StmtGrammar.{one_run, with_run, one_expr}
use Rattle.ix_grammar_rules.specs.StmtRules.{StmtParts, declared, named_type, typed, modified, local_or, chain, go_on, field, run_named, guarded, indexed, named_first, println_part, out_part, system_part, print_or, begun, finished, condition, else_part, if_rule, while_rule, do_rule, for_body, for_update, for_condition, for_part, for_rule, return_rule, throw_end, throw_rule, block_rule, stmt_of, stmts_below, stmt, block_statement}
use Rattle.ix_grammar_rules.proofs.GiveRules.{Gives, gives_more, pure_gives, stop_gives, take_gives, bind_gives, Turned, loop_gives}
use Rattle.ix_grammar_rules.proofs.ExprHeights.{Within, Lower, low_below, field_within, args_within, most, inner_low, expr_within}
use Rattle.ix_grammar_rules.proofs.Heights.{inner_below}
use Rattle.ix_grammar_rules.proofs.OverRules.{Over, over_pure, over_stop, over_take, over_bind, over_loop}
use Rattle.ix_grammar_rules.proofs.AnnotOver.{over_token, over_last, over_then, over_map, over_turns, more_over, braces_over, annot_behind_over, pairs_over, noted_array_over, type_rest_over, type_over}
use Rattle.ix_grammar_rules.proofs.DeclOver.{next_mod_over, decls_over}
use Rattle.ix_grammar_rules.proofs.ExprOver as e
use Rattle.ix_grammar_rules.proofs.ExprOver.{over_below, expr_over, statement_expr_over, init_over}

guarded_over : (d more : Bool) (r s : Rule Found) → more ≡ true → (d ≡ true → Over r s) → Over (expr 0) s → Over (guarded d r) (guarded more s)
unfolding guarded
guarded_over true true r s is p q = p refl
guarded_over false true r s is p q = q
guarded_over d false r s is p q = absurd (cc)

guarded_low : (n left : ℕ) (d : Bool) (r : Rule Found) → (d ≡ true → Gives (Lower n left) r) → Gives (Lower n left) (guarded d r)
unfolding guarded
guarded_low n left true r g = g refl
guarded_low n left false r g = gives_more _ (λ f w. absurd (omega (arith, w.0, w.1))) (expr_within 0)

-- ---- what begins with no word of its own

module _ (left more : ℕ) (room : left + 5 ≤ more) where
  -- An expression behind `System`, `out` or a name may be higher than what is left: then no token that goes on with it fits.
  abbrev Near : Found → Type 0
  Near f = (0 < f.height) × (f.height ≤ left + 2)

  abbrev NextNear : Turn Found Found → Type 0
  NextNear t = Turned Near Near t

  near : (t : Turn Found Found) → Turned (Within (left - 1)) (Within (left - 1)) t → NextNear t
  near (On f) w = (w.0, omega (arith, w.1))
  near (Done f) w = (w.0, omega (arith, w.1))

  unless_near : (c : Bool) (f : Found) → Near f → Gives NextNear (index_unless c (below (left - 1)) Statement (left - 1) f)
  unfolding index_unless index
  unless_near true f w = pure_gives _ w
  unless_near false f w = take_gives _ _ _ _ (λ t o. bind_gives _ _ (inner_low (left - 1) (below (left - 1)) (low_below (left - 1)) 1 (omega arith))
      (λ g v. take_gives _ _ _ _ (λ u r. pure_gives _ (omega arith, omega (arith, v.1, leb-true (extra Statement form.Variable + (f.height + 1)) (left - 1) t))) stop_gives)) (pure_gives _ w)

  further_near : (f : Found) → Near f → Gives NextNear (further (below (left - 1)) Statement (left - 1) f)
  unfolding further
  further_near f w = take_gives _ _ _ _ (λ t d. take_gives _ _ _ _ (λ u x. gives_more _ near (field_within (left - 1) (below (left - 1)) (low_below (left - 1)) Statement f x w.0 (ltb-true f.height (left - 1) t))) stop_gives)
      (unless_near (makes_array f.form) f w)

  lower : (left - 1) + 3 ≤ more - 1
  lower = omega (arith, room)

  parts : e.OverBelow (left - 1) (below (left - 1)) (below (more - 1))
  parts = over_below (left - 1) (more - 1) (omega (arith, room))

  chain_over : (f : Found) → Near f → Over (chain left f) (chain more f)
  unfolding chain
  chain_over f w = over_bind _ _ _ _ (loop_near f w)
      (over_loop (further (below (left - 1)) Statement (left - 1)) (further (below (more - 1)) Statement (more - 1)) Near Near further_near
      (λ g v. e.further_over (left - 1) (more - 1) lower (below (left - 1)) (below (more - 1)) (low_below (left - 1)) parts Statement g v.0 (omega (arith, v.1, room))) f w)
      (λ g v. over_map _ _ _ (e.to_statement_over (left - 1) (more - 1) lower (below (left - 1)) (below (more - 1)) (low_below (left - 1)) parts g g.form (omega (arith, v.1, room))))
    where
      loop_near : (f : Found) → Near f → Gives Near (loop (further (below (left - 1)) Statement (left - 1)) f)
      loop_near f w = loop_gives (further (below (left - 1)) Statement (left - 1)) Near Near further_near f w

  go_on_over : (t : Turn Found Found) → NextNear t → Over (go_on left t) (go_on more t)
  unfolding go_on
  go_on_over (On f) w = chain_over f w
  go_on_over (Done f) w = over_stop

  field_near : (f : Found) (x : Ident) → 0 < f.height → f.height ≤ left + 1 → Gives NextNear (field_or_call (below (left - 1)) Statement (left - 1) f x)
  unfolding field_or_call
  field_near f x pos le = take_gives _ _ _ _ (λ t o. bind_gives _ _ (args_within (left - 1) (below (left - 1)) (low_below (left - 1)) Statement)
      (λ r w. pure_gives _ (omega arith, omega (arith, le, most (extra Statement form.Statement) r.height (left - 1) w (omega (arith, pos, leb-true (extra Statement form.Statement + (f.height + 1)) (left - 1) t))))))
      (pure_gives _ (omega arith, omega (arith, pos, le)))

  field_over : (f : Found) (x : Ident) → 0 < f.height → f.height ≤ left + 1 → Over (field left f x) (field more f x)
  unfolding field
  field_over f x pos le = over_bind _ _ _ _ (field_near f x pos le)
      (e.field_over (left - 1) (more - 1) lower (below (left - 1)) (below (more - 1)) (low_below (left - 1)) parts Statement f x pos (omega (arith, le, room))) go_on_over

  name_near : (x : Ident) → Gives Near (name_or_call (below (left - 1)) Statement (left - 1) x)
  unfolding name_or_call
  name_near x = take_gives _ _ _ _ (λ t o. bind_gives _ _ (args_within (left - 1) (below (left - 1)) (low_below (left - 1)) Statement)
      (λ r w. pure_gives _ (omega arith, omega (arith, most (extra Statement form.Statement) r.height (left - 1) w (omega (arith, leb-true (extra Statement form.Statement + 2) (left - 1) t))))))
      (pure_gives _ (omega arith, omega arith))

  run_named_over : (x : Ident) → Over (run_named left x) (run_named more x)
  unfolding run_named
  run_named_over x = over_bind _ _ _ _ (name_near x) (e.called_over (left - 1) (more - 1) lower (below (left - 1)) (below (more - 1)) (low_below (left - 1)) parts Statement x) chain_over

  index_low : Gives (Lower 2 (left - 1)) (guarded (nat_le 5 left) (inner (below (left - 1)) 1))
  index_low = guarded_low 2 (left - 1) (nat_le 5 left) (inner (below (left - 1)) 1) (λ t. inner_low (left - 1) (below (left - 1)) (low_below (left - 1)) 1 (omega arith))

  index_over : 4 ≤ left → Over (guarded (nat_le 5 left) (inner (below (left - 1)) 1)) (guarded (nat_le 5 more) (inner (below (more - 1)) 1))
  index_over four = guarded_over (nat_le 5 left) (nat_le 5 more) (inner (below (left - 1)) 1) (inner (below (more - 1)) 1) (le-leb 5 more (omega (arith, room)))
      (λ t. let o = parts in o.inside 1 (omega arith) (omega (arith, leb-true 5 left t)))
      (subst (λ r. Over (expr 0) r) (sym (inner_below (more - 1) (more - 3) 1 (omega arith) (omega (arith, room, four)))) (expr_over 0 (more - 3) (omega (arith, room, four))))

  indexed_over : (x : Ident) → 4 ≤ left → Over (indexed left x) (indexed more x)
  unfolding indexed
  indexed_over x four = over_bind _ _ _ _ index_low (index_over four) (λ g w. over_token _ _ _ _ _ (λ right. chain_over (element (named x) g right) (omega arith, omega (arith, w.1, four))) over_stop)

  -- ---- declarations

  declared_over : (mods : FoundMods) (ty : FoundType) (x : Ident) → 3 ≤ left → Over (declared left mods ty x) (declared more mods ty x)
  unfolding declared
  declared_over mods ty x three = over_map _ _ _ (decls_over init init_over (left - 1) (more - 1) (shared mods ty) x (omega (arith, three)) (omega (arith, room, three)))

  named_type_over : (mods : FoundMods) (ty : FoundType) → 3 ≤ left → Over (named_type left mods ty) (named_type more mods ty)
  unfolding named_type
  named_type_over mods ty three = over_token _ _ _ _ _ (λ x. declared_over mods ty x three) over_stop

  typed_over : (mods : FoundMods) → 3 ≤ left → Over (typed left mods) (typed more mods)
  unfolding typed
  typed_over mods three = over_then _ _ _ _ (type_over (left - 2) (more - 2) (omega (arith, room, three))) (λ ty. named_type_over mods ty three)

  modified_over : (mods : FoundMods) → 3 ≤ left → Over (modified left mods) (modified more mods)
  unfolding modified
  modified_over mods three = over_then _ _ _ _ (over_turns _ _ (next_mod_over local_words (left - 2) (more - 2) (omega (arith, room, three))) mods) (λ all. typed_over all three)

  local_or_over : (locals : Bool) (other other' : Rule Begun) → Over other other' → Over (local_or locals left other) (local_or locals more other')
  unfolding local_or
  local_or_over false other other' o = o
  local_or_over true other other' o =
      over_take _ _ _ _ _ _ _ (le-leb 3 more (omega (arith, room))) (λ s f. modified_over (with_word no_mods Final s) (leb-true 3 left f))
      (over_take _ _ _ _ _ _ _ (le-leb 4 more (omega (arith, room))) (λ at f. over_then _ _ _ _ (annot_behind_over (left - 2) (more - 2) at (omega (arith, room))) (λ annot. modified_over (with_annot no_mods annot) (omega (arith, leb-true 4 left f))))
      (over_take _ _ _ _ _ _ _ (le-leb 3 more (omega (arith, room))) (λ s f. over_then _ _ _ _ (type_rest_over (left - 2) (more - 2) (based Int s) (omega (arith, room, leb-true 3 left f))) (λ ty. named_type_over no_mods ty (leb-true 3 left f)))
      (over_take _ _ _ _ _ _ _ (le-leb 3 more (omega (arith, room))) (λ s f. over_then _ _ _ _ (type_rest_over (left - 2) (more - 2) (based Boolean s) (omega (arith, room, leb-true 3 left f))) (λ ty. named_type_over no_mods ty (leb-true 3 left f))) o)))

  -- ---- behind a first name

  named_first_over : (locals : Bool) (x : Ident) → Over (named_first locals left x) (named_first locals more x)
  unfolding named_first
  named_first_over false x = run_named_over x
  named_first_over true x =
      over_take _ _ _ _ _ _ _ (le-leb 4 more (omega (arith, room)))
      (λ open_at f. over_token _ _ _ _ _ (λ right. over_then _ _ _ _ (pairs_over 1 right) (λ brackets. named_type_over no_mods _ (omega (arith, leb-true 4 left f)))) (indexed_over x (leb-true 4 left f)))
      (over_take _ _ _ _ _ _ _ (le-leb 5 more (omega (arith, room)))
      (λ at f. over_then _ _ _ _ (noted_array_over (left - 2) (more - 2) (based (Named x) x.span) at (omega (arith, room, leb-true 5 left f))) (λ ty. named_type_over no_mods ty (omega (arith, leb-true 5 left f))))
      (over_take _ _ _ _ _ _ _ (le-leb 4 more (omega (arith, room))) (λ y f. declared_over no_mods _ y (omega (arith, leb-true 4 left f))) (run_named_over x)))

  println_over : (system out println : Ident) → 2 ≤ left → Over (println_part left system out println) (println_part more system out println)
  unfolding println_part
  println_over system out println two = over_token _ _ _ _ _ (λ open_at. over_pure _) (field_over (selected (named system) out) println (omega arith) (omega (arith, two)))

  out_over : (system out : Ident) → 2 ≤ left → Over (out_part left system out) (out_part more system out)
  unfolding out_part
  out_over system out two = over_token _ _ _ _ _
      (λ dot. over_token _ _ _ _ _ (λ println. println_over system out println two)
      (over_take _ _ _ _ _ _ _ (le-leb 5 more (omega (arith, room))) (λ y f. field_over (selected (named system) out) y (omega arith) (omega (arith, two))) over_stop))
      (field_over (named system) out (omega arith) (omega (arith, two)))

  system_over : (locals : Bool) (system : Ident) → 2 ≤ left → Over (system_part locals left system) (system_part locals more system)
  unfolding system_part
  system_over locals system two = over_token _ _ _ _ _
      (λ dot. over_token _ _ _ _ _ (λ out. out_over system out two)
      (over_take _ _ _ _ _ _ _ (le-leb 4 more (omega (arith, room))) (λ y f. field_over (named system) y (omega arith) (omega (arith, two))) over_stop))
      (named_first_over locals system)

  print_or_over : (prints locals : Bool) (other other' : Rule Begun) → Over other other' → Over (print_or prints locals left other) (print_or prints locals more other')
  unfolding print_or
  print_or_over false locals other other' o = o
  print_or_over true locals other other' o = over_take _ _ _ _ _ _ _ (le-leb 2 more (omega (arith, room))) (λ system f. system_over locals system (leb-true 2 left f)) o

  pub begun_over : (prints locals : Bool) → Over (begun prints locals left) (begun prints locals more)
  unfolding begun
  begun_over prints locals = local_or_over locals _ _ (print_or_over prints locals _ _ (over_take _ _ _ _ _ _ _ (le-leb 3 more (omega (arith, room))) (λ x f. named_first_over locals x)
      (over_map _ _ _ (statement_expr_over (left - 1) (more - 1) (omega (arith, room))))))

  finished_over : (r : Begun) → Over (finished left r) (finished more r)
  unfolding finished
  finished_over (Local mods ty found) = over_last _ _
  finished_over (Run f) = over_last _ _
  finished_over (Print system) = over_then _ _ _ _ (expr_over (left - 1) (more - 1) (omega (arith, room))) (λ f. over_token _ _ _ _ _ (λ right. over_last _ _) over_stop)

-- ---- statements with a word of their own

-- the rules of the parts, where there is so much room that a token leads to them
record OverStmts (left : ℕ) (p q : StmtParts) : Type 0 where
  plain : 1 ≤ left → Over p.plain q.plain
  block : 1 ≤ left → Over p.block q.block

module _ (left more : ℕ) (room : left + 5 ≤ more) (p q : StmtParts) (o : OverStmts left p q) where
  condition_over : Over (condition left) (condition more)
  unfolding condition
  condition_over = over_token _ _ _ _ _ (λ open_at. over_then _ _ _ _ (expr_over (left - 1) (more - 1) (omega (arith, room))) (λ f. over_last _ _)) over_stop

  else_over : (start : Span) (f : Found) (found : FoundStmt) → 2 ≤ left → Over (else_part p start f found) (else_part q start f found)
  unfolding else_part
  else_over start f found two = over_token _ _ _ _ _ (λ middle. over_map _ _ _ (o.plain (omega (arith, two)))) (over_pure _)

  if_over : (start : Span) → 2 ≤ left → Over (if_rule p left start) (if_rule q more start)
  unfolding if_rule
  if_over start two = over_then _ _ _ _ condition_over (λ f. over_then _ _ _ _ (o.plain (omega (arith, two))) (λ found. else_over start f found two))

  while_over : (start : Span) → 2 ≤ left → Over (while_rule p left start) (while_rule q more start)
  unfolding while_rule
  while_over start two = over_then _ _ _ _ condition_over (λ f. over_map _ _ _ (o.plain (omega (arith, two))))

  do_over : (start : Span) → 2 ≤ left → Over (do_rule p left start) (do_rule q more start)
  unfolding do_rule
  do_over start two = over_then _ _ _ _ (o.plain (omega (arith, two))) (λ found. over_token _ _ _ _ _ (λ middle. over_then _ _ _ _ condition_over (λ f. over_last _ _)) over_stop)

  for_body_over : (start : Span) (first : Stmts) (cond : Option Found) (update : Several) → 2 ≤ left → Over (for_body p start first cond update) (for_body q start first cond update)
  unfolding for_body
  for_body_over start first cond update two = over_map _ _ _ (o.plain (omega (arith, two)))

  for_update_over : (start : Span) (first : Stmts) (cond : Option Found) → 2 ≤ left → Over (for_update p left start first cond) (for_update q more start first cond)
  unfolding for_update
  for_update_over start first cond two =
      let update = statement_expr_over (left - 1) (more - 1) (omega (arith, room)) in
      over_token _ _ _ _ _ (λ right. for_body_over start first cond no_exprs two)
      (over_then _ _ _ _ update (λ f. over_then _ _ _ _ (more_over _ _ with_expr (one_expr f) update) (λ all. over_token _ _ _ _ _ (λ right. for_body_over start first cond all two) over_stop)))

  for_condition_over : (start : Span) (first : Stmts) → 2 ≤ left → Over (for_condition p left start first) (for_condition q more start first)
  unfolding for_condition
  for_condition_over start first two = over_token _ _ _ _ _ (λ end. for_update_over start first None two)
      (over_then _ _ _ _ (expr_over (left - 1) (more - 1) (omega (arith, room))) (λ f. over_token _ _ _ _ _ (λ end. for_update_over start first (Some f) two) over_stop))

  for_part_over : (r : Begun) → 2 ≤ left → Over (for_part left r) (for_part more r)
  unfolding for_part
  for_part_over (Local mods ty found) two = over_pure _
  for_part_over (Run f) two = more_over _ _ with_run (one_run f) (statement_expr_over (left - 2) (more - 2) (omega (arith, room, two)))
  for_part_over (Print system) two = over_stop

  for_over : (start : Span) → 2 ≤ left → Over (for_rule p left start) (for_rule q more start)
  unfolding for_rule
  for_over start two = over_token _ _ _ _ _
      (λ open_at. over_token _ _ _ _ _ (λ end. for_condition_over start no_stmts two)
      (over_then _ _ _ _ (begun_over (left - 1) (more - 1) (omega (arith, room, two)) false true)
      (λ first. over_then _ _ _ _ (for_part_over first two) (λ stmts. over_token _ _ _ _ _ (λ end. for_condition_over start stmts two) over_stop)))) over_stop

  return_over : (start : Span) → Over (return_rule left start) (return_rule more start)
  unfolding return_rule
  return_over start = over_token _ _ _ _ _ (λ end. over_pure _) (over_then _ _ _ _ (expr_over (left - 1) (more - 1) (omega (arith, room))) (λ f. over_last _ _))

  throw_end_over : (start : Span) (x : Ident) → Over (throw_end start x) (throw_end start x)
  unfolding throw_end
  throw_end_over start x = over_token _ _ _ _ _ (λ right. over_last _ _) over_stop

  throw_over : (start : Span) → Over (throw_rule start) (throw_rule start)
  unfolding throw_rule
  throw_over start = over_token _ _ _ _ _ (λ middle. over_token _ _ _ _ _ (λ x. over_token _ _ _ _ _ (λ open_at. over_token _ _ _ _ _ (λ text. throw_end_over start x) (throw_end_over start x)) over_stop) over_stop) over_stop

  block_over : (open_at : Span) → 1 ≤ left → Over (block_rule p open_at) (block_rule q open_at)
  unfolding block_rule
  block_over open_at one = over_map _ _ _ (braces_over _ _ with_stmt no_stmts (o.block one))

  stmt_of_over : (locals : Bool) → Over (stmt_of p locals left) (stmt_of q locals more)
  unfolding stmt_of
  stmt_of_over locals =
      let one = le-leb 1 more (omega (arith, room)) in
      let two = le-leb 2 more (omega (arith, room)) in
      over_take _ _ _ _ _ _ _ one (λ s f. block_over s (leb-true 1 left f))
      (over_take _ _ _ _ _ _ _ one (λ s f. over_pure _)
      (over_take _ _ _ _ _ _ _ two (λ s f. if_over s (leb-true 2 left f))
      (over_take _ _ _ _ _ _ _ two (λ s f. while_over s (leb-true 2 left f))
      (over_take _ _ _ _ _ _ _ two (λ s f. do_over s (leb-true 2 left f))
      (over_take _ _ _ _ _ _ _ two (λ s f. for_over s (leb-true 2 left f))
      (over_take _ _ _ _ _ _ _ one (λ s f. over_last _ _)
      (over_take _ _ _ _ _ _ _ one (λ s f. over_last _ _)
      (over_take _ _ _ _ _ _ _ one (λ s f. return_over s)
      (over_take _ _ _ _ _ _ _ two (λ s f. throw_over s)
      (over_then _ _ _ _ (begun_over left more room true locals) (finished_over left more room)))))))))))

-- ---- every height

stmts_over : (left more : ℕ) → left + 5 ≤ more → OverStmts left (stmts_below left) (stmts_below more)
unfolding stmts_below
stmts_over zero more room = record { plain = λ one. absurd (omega (arith, one)); block = λ one. absurd (omega (arith, one)) }
stmts_over (suc left) zero room = absurd (omega (arith, room))
stmts_over (suc left) (suc more) room =
    let o = stmts_over left more (omega (arith, room)) in
    record { plain = λ one. stmt_of_over left more (omega (arith, room)) (stmts_below left) (stmts_below more) o false; block = λ one. stmt_of_over left more (omega (arith, room)) (stmts_below left) (stmts_below more) o true }

pub stmt_over : (left more : ℕ) → left + 5 ≤ more → Over (stmt left) (stmt more)
stmt_over left more room = stmt_of_over left more room (stmts_below left) (stmts_below more) (stmts_over left more room) false

pub block_statement_over : (left more : ℕ) → left + 5 ≤ more → Over (block_statement left) (block_statement more)
block_statement_over left more room = stmt_of_over left more room (stmts_below left) (stmts_below more) (stmts_over left more room) true
