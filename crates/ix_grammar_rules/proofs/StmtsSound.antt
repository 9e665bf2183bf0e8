-- What the rules of all statements read is in the grammar.
use Rattle.std.proofs.Common.{◌≡◌, ℕ, zero, suc, ◌-◌, nat_le, Bool, true, false, List, [], ◌∷◌, ◌++◌, Option, Some, None, refl, sym, ap, subst, append_assoc}
use Rattle.std.proofs.lemmas.List.{append-nil}
use Rattle.ix_text.specs.declared.span.Span.{Span}
use Rattle.ix_lexer.specs.declared.token.Token.{Token}
use Rattle.ix_lexer.specs.declared.fixed.TheConstants.{IF, ELSE, WHILE, DO, FOR, BREAK, CONTINUE, RETURN, THROW, NEW, SEMICOLON, OPEN_PAREN, CLOSE_PAREN, OPEN_BRACE, CLOSE_BRACE}
use Rattle.ix_tree.specs.declared.annot.Ident.{Ident}
use Rattle.ix_grammar.specs.declared.classes.Stmts.{Stmts}
use Rattle.ix_grammar.specs.declared.found.Found.{Found}
use Rattle.ix_grammar.specs.declared.found.FoundStmt.{FoundStmt}
use Rattle.ix_grammar.specs.declared.found.Several.{Several}
use Rattle.ix_grammar_rules.specs.declared.begun.Begun.{Begun}
use Rattle.ix_grammar_rules.specs.declared.begun.Begun.TheVariants.{Local, Run, Print}
use Rattle.ix_grammar_rules.specs.Rule.{Rule, pure, take, stop, Turn, On, Done}
use Rattle.ix_grammar.specs.Patterns.{sign, name_token, string_token, a_sign}
use Rattle.ix_grammar.specs.Lists.{first_item}
use Rattle.ix_grammar_rules.specs.ListRules.{next_inside, braces_of}
use Rattle.ix_grammar.specs.ClassGrammar.{no_stmts, with_stmt}
use Rattle.ix_grammar.specs.ExprNodes.{no_exprs, with_expr}
use Rattle.ix_grammar_rules.specs.ExprRules.{statement_expr}
use Rattle.ix_grammar.specs.ExprGrammar.{Whole, IsExpr, IsStatementExpr}
use Rattle.ix_grammar.specs.StmtGrammar as g
use Rattle.ix_grammar.specs.StmtGrammar.{IsStmt, IsBlockStmt, IsStmts, IsForFirst, IsMaybe, IsUpdate, IsReason, if_stmt, if_else_stmt, while_stmt, do_stmt, one_run, with_run, one_expr}
use Rattle.ix_grammar_rules.specs.StmtRules.{StmtParts, chain, go_on, field, run_named, named_first, println_part, out_part, system_part, print_or, local_or, condition, else_part, if_rule, while_rule, do_rule, for_body, for_update, for_condition, for_part, for_rule, return_rule, throw_end, throw_rule, block_rule, finished, stmt_of, stmts_below, block_statement, begun}
use Rattle.ix_grammar_rules.proofs.SoundRules.{Sound, After, weaken, pure_sound, stop_sound, bind_sound, sign_sound, name_sound, text_sound, map_sound, loop_sound}
use Rattle.ix_grammar_rules.proofs.ListsSound.{more_sound}
use Rattle.ix_grammar_rules.proofs.ExprSound.{expr_sound, statement_expr_sound}
use Rattle.ix_tree.specs.declared.stmt.StmtKind.TheVariants as k
use Rattle.ix_grammar.specs.Nodes.{across}
use Rattle.ix_grammar_rules.proofs.GiveRules.{Gives, any_gives, pure_gives, stop_gives, take_gives, bind_gives, both}
use Rattle.ix_grammar_rules.proofs.StmtSound.{Flagged, flag_false, flag_sign, flag_bind, flag_map, flag_if, flag_stop, flag_weaken, IsBegun, IsBegunStmt, IsPrint, begun_sound, begun_stmt_sound}

abbrev pub Plain : List Token → FoundStmt → Bool → Type 0
Plain seen a ends = IsStmt ends seen a

pub record SoundStmts (p : StmtParts) : Type 0 where
  pub plain : Flagged Plain p.plain
  pub block : Sound IsBlockStmt p.block

-- "(" Expr ")"
pub record IsCondition (ts : List Token) (f : Found) : Type 0 where
  pub left : Span
  pub right : Span
  pub inside : List Token
  pub is : ts ≡ sign OPEN_PAREN left ∷ (inside ++ sign CLOSE_PAREN right ∷ [])
  pub holds : IsExpr Whole inside f

condition_sound : (left : ℕ) → Sound IsCondition (condition left)
unfolding condition
condition_sound left = sign_sound OPEN_PAREN true _ _ (λ o. bind_sound _ _ (expr_sound (left - 1)) (λ f seen d. sign_sound CLOSE_PAREN true _ _ (λ c. pure_sound _ (record { left = o; right = c; inside = seen; is = refl; holds = d })) stop_sound)) stop_sound

-- what follows a condition
pub behind : (left right : Span) (inside later seen : List Token) → seen ≡ sign OPEN_PAREN left ∷ (inside ++ sign CLOSE_PAREN right ∷ []) → sign OPEN_PAREN left ∷ (inside ++ sign CLOSE_PAREN right ∷ later) ≡ seen ++ later
behind left right inside later seen is = rw is (ap (λ y. sign OPEN_PAREN left ∷ y) (sym (append_assoc inside (sign CLOSE_PAREN right ∷ []) later)))

unflagged : {P : List Token → FoundStmt → Type 0} (r : Rule FoundStmt) → Flagged (λ ts a e. P ts a) r → Sound P r
unflagged r s = record { at = λ ts us a h. let (seen, is, ends, d, f) = s.at ts us a h in (seen, is, d) }

-- ---- where no declaration may stand none is read

abbrev NoLocal : Begun → Type 0
NoLocal (Local mods ty found) = ⊥
NoLocal (Run f) = Unit {0}
NoLocal (Print system) = Unit {0}

module _ (left : ℕ) where
  chain_runs : (f : Found) → Gives NoLocal (chain left f)
  unfolding chain
  chain_runs f = record { at = λ ts us r h. let l = bind_gives {P = λ x. Unit {0}} _ _ any_gives (λ a u. bind_gives {P = λ x. Unit {0}} {Q = NoLocal} _ _ any_gives (λ b v. pure_gives (Run b) tt)) in l.at ts us r h }

  turn_runs : (t : Turn Found Found) → Gives NoLocal (go_on left t)
  unfolding go_on
  turn_runs (On f) = chain_runs f
  turn_runs (Done f) = stop_gives

  field_runs : (f : Found) (x : Ident) → Gives NoLocal (field left f x)
  unfolding field
  field_runs f x = bind_gives {P = λ x. Unit {0}} _ _ any_gives (λ t u. turn_runs t)

  named_runs : (x : Ident) → Gives NoLocal (named_first false left x)
  unfolding named_first run_named
  named_runs x = bind_gives {P = λ x. Unit {0}} _ _ any_gives (λ f u. chain_runs f)

  println_runs : (a b c : Ident) → Gives NoLocal (println_part left a b c)
  unfolding println_part
  println_runs a b c = take_gives _ _ _ _ (λ t o. pure_gives _ tt) (field_runs _ c)

  out_runs : (a b : Ident) → Gives NoLocal (out_part left a b)
  unfolding out_part
  out_runs a b = take_gives _ _ _ _ (λ t d. take_gives _ _ _ _ (λ t c. println_runs a b c) (take_gives _ _ _ _ (λ t y. field_runs _ y) stop_gives)) (field_runs _ b)

  system_runs : (a : Ident) → Gives NoLocal (system_part false left a)
  unfolding system_part
  system_runs a = take_gives _ _ _ _ (λ t d. take_gives _ _ _ _ (λ t b. out_runs a b) (take_gives _ _ _ _ (λ t y. field_runs _ y) stop_gives)) (named_runs a)

  begun_runs : Gives NoLocal (begun true false left)
  unfolding begun local_or print_or
  begun_runs = take_gives _ _ _ _ (λ t a. system_runs a) (take_gives _ _ _ _ (λ t x. named_runs x) (bind_gives {P = λ x. Unit {0}} _ _ any_gives (λ f u. pure_gives _ tt)))

  with_no_local : Sound (λ ts r. IsBegunStmt left ts r × NoLocal r) (begun true false left)
  with_no_local = both (begun true false left) (begun_stmt_sound false left) begun_runs

module _ (parts : StmtParts) (s : SoundStmts parts) (left : ℕ) where
  pub if_sound : (start : Span) → Flagged (λ ts a e. Plain (sign IF start ∷ ts) a e) (if_rule parts left start)
  unfolding if_rule else_part
  if_sound start = flag_bind _ _ (condition_sound left) (λ f seen c. flag_if _ _ (if_stmt start f) (if_else_stmt start f) s.plain s.plain
      (λ a later e d. subst (λ y. Plain (sign IF start ∷ y) (if_stmt start f a) true) (behind c.left c.right c.inside later seen c.is) (g.if_then start c.left c.right c.holds d))
      (λ a b later more m e d x. subst (λ y. Plain (sign IF start ∷ y) (if_else_stmt start f a b) e) (behind c.left c.right c.inside (later ++ (sign ELSE m ∷ more)) seen c.is) (g.if_else start c.left c.right m c.holds d x)))

  while_sound : (start : Span) → Flagged (λ ts a e. Plain (sign WHILE start ∷ ts) a e) (while_rule parts left start)
  unfolding while_rule
  while_sound start = flag_bind _ _ (condition_sound left) (λ f seen c. flag_map _ (while_stmt start f) s.plain
      (λ a later e d. subst (λ y. Plain (sign WHILE start ∷ y) (while_stmt start f a) e) (behind c.left c.right c.inside later seen c.is) (g.while_do start c.left c.right c.holds d)))

  -- any statement, with or without an `if` at its end
  any_plain : Sound (λ ts a. (ends : Bool) × IsStmt ends ts a) parts.plain
  any_plain = record { at = λ ts us a h. let p = s.plain in let (seen, is, ends, d, f) = p.at ts us a h in (seen, is, (ends, d)) }

  do_sound : (start : Span) → Sound (λ ts a. IsStmt false (sign DO start ∷ ts) a) (do_rule parts left start)
  unfolding do_rule
  do_sound start = bind_sound _ _ any_plain (λ a seen d. sign_sound WHILE true _ _ (λ w. bind_sound _ _ (condition_sound left) (λ f more c. sign_sound SEMICOLON true _ _
      (λ end. pure_sound _ (subst (λ y. IsStmt false (sign DO start ∷ (seen ++ (sign WHILE w ∷ y))) (do_stmt start a f end)) (behind c.left c.right c.inside (sign SEMICOLON end ∷ []) more c.is) (g.do_while start w c.left c.right end d.1 c.holds))) stop_sound)) stop_sound)

  -- ---- `for`

  for_body_sound : (start o fe ce right : Span) (ts us vs : List Token) (first : Stmts) (cond : Option Found) (update : Several) → IsForFirst ts first → IsMaybe us cond → IsUpdate vs update
      → Flagged (λ ws a e. Plain (sign FOR start ∷ sign OPEN_PAREN o ∷ (ts ++ sign SEMICOLON fe ∷ (us ++ sign SEMICOLON ce ∷ (vs ++ sign CLOSE_PAREN right ∷ ws)))) a e) (for_body parts start first cond update)
  unfolding for_body
  for_body_sound start o fe ce right ts us vs first cond update a b c = flag_map _ _ s.plain (λ f ws e d. g.for_do start o fe ce right a b c d)

  for_update_sound : (start o fe ce : Span) (ts us : List Token) (first : Stmts) (cond : Option Found) → IsForFirst ts first → IsMaybe us cond
      → Flagged (λ ws a e. Plain (sign FOR start ∷ sign OPEN_PAREN o ∷ (ts ++ sign SEMICOLON fe ∷ (us ++ sign SEMICOLON ce ∷ ws))) a e) (for_update parts left start first cond)
  unfolding for_update
  for_update_sound start o fe ce ts us first cond a b = flag_sign CLOSE_PAREN true _ _ (λ r. for_body_sound start o fe ce r ts us [] first cond no_exprs a b g.no_update)
      (flag_bind _ _ (statement_expr_sound (left - 1)) (λ f seen x. flag_bind _ _ (more_sound IsStatementExpr one_expr with_expr (statement_expr (left - 1)) (statement_expr_sound (left - 1)) (one_expr f) seen (first_item x))
      (λ update later d. flag_sign CLOSE_PAREN true _ _
      (λ r. flag_weaken _ (λ ws c e p. subst (λ y. Plain (sign FOR start ∷ sign OPEN_PAREN o ∷ (ts ++ sign SEMICOLON fe ∷ (us ++ sign SEMICOLON ce ∷ y))) c e) (append_assoc seen later (sign CLOSE_PAREN r ∷ ws)) p)
      (for_body_sound start o fe ce r ts us (seen ++ later) first cond update a b (g.updates d))) flag_stop)))

  for_condition_sound : (start o fe : Span) (ts : List Token) (first : Stmts) → IsForFirst ts first → Flagged (λ ws a e. Plain (sign FOR start ∷ sign OPEN_PAREN o ∷ (ts ++ sign SEMICOLON fe ∷ ws)) a e) (for_condition parts left start first)
  unfolding for_condition
  for_condition_sound start o fe ts first a = flag_sign SEMICOLON true _ _ (λ ce. for_update_sound start o fe ce ts [] first None a g.absent)
      (flag_bind _ _ (expr_sound (left - 1)) (λ f seen d. flag_sign SEMICOLON true _ _ (λ ce. for_update_sound start o fe ce ts seen first (Some f) a (g.present d)) flag_stop))

  for_part_sound : (r : Begun) (front : List Token) → IsBegun (left - 1) front r → Sound (λ later first. IsForFirst (front ++ later) first) (for_part left r)
  unfolding for_part
  for_part_sound (Local mods ty found) front d = pure_sound _ (subst (λ y. IsForFirst y (with_stmt no_stmts (g.local_stmt mods ty found found.end))) (sym (append-nil front)) (g.locals d.0))
  for_part_sound (Run f) front d = weaken _ (λ ts x y. g.runs y) (more_sound IsStatementExpr one_run with_run (statement_expr (left - 2)) (statement_expr_sound (left - 2)) (one_run f) front (first_item d))
  for_part_sound (Print system) front d = stop_sound

  for_sound : (start : Span) → Flagged (λ ts a e. Plain (sign FOR start ∷ ts) a e) (for_rule parts left start)
  unfolding for_rule
  for_sound start = flag_sign OPEN_PAREN true _ _ (λ o. flag_sign SEMICOLON true _ _ (λ fe. for_condition_sound start o fe [] no_stmts g.no_first)
      (flag_bind _ _ (begun_sound (left - 1) false true) (λ r seen d. flag_bind _ _ (for_part_sound r seen d) (λ first later x. flag_sign SEMICOLON true _ _
      (λ fe. flag_weaken _ (λ ws c e p. subst (λ y. Plain (sign FOR start ∷ sign OPEN_PAREN o ∷ y) c e) (append_assoc seen later (sign SEMICOLON fe ∷ ws)) p) (for_condition_sound start o fe (seen ++ later) first x)) flag_stop)))) flag_stop

  -- ---- the others

  return_sound : (start : Span) → Sound (λ ts a. IsStmt false (sign RETURN start ∷ ts) a) (return_rule left start)
  unfolding return_rule
  return_sound start = sign_sound SEMICOLON true _ _ (λ end. pure_sound _ (g.returns start end g.absent))
      (bind_sound _ _ (expr_sound (left - 1)) (λ f seen d. sign_sound SEMICOLON true _ _ (λ end. pure_sound _ (g.returns start end (g.present d))) stop_sound))

  throw_end_sound : (start m o : Span) (x : Ident) (reason : List Token) → IsReason reason → Sound (λ ts a. IsStmt false (sign THROW start ∷ sign NEW m ∷ name_token x ∷ sign OPEN_PAREN o ∷ (reason ++ ts)) a) (throw_end start x)
  unfolding throw_end
  throw_end_sound start m o x reason d = sign_sound CLOSE_PAREN true _ _ (λ c. sign_sound SEMICOLON true _ _ (λ end. pure_sound _ (g.throws start m x o c end d)) stop_sound) stop_sound

  throw_sound : (start : Span) → Sound (λ ts a. IsStmt false (sign THROW start ∷ ts) a) (throw_rule start)
  unfolding throw_rule
  throw_sound start = sign_sound NEW true _ _ (λ m. name_sound true _ _ (λ x. sign_sound OPEN_PAREN true _ _ (λ o. text_sound true _ _ (λ t. throw_end_sound start m o x (string_token t.value t.span ∷ []) (g.reason t.value t.span))
      (throw_end_sound start m o x [] g.no_reason)) stop_sound) stop_sound) stop_sound

  inside_sound : (found : Stmts) (front : List Token) → IsStmts front found → Sound (After IsStmts (λ ts r. (seen : List Token) × (ts ≡ seen ++ sign CLOSE_BRACE r.span ∷ []) × IsStmts seen r.value) front) (next_inside parts.block with_stmt found)
  unfolding next_inside
  inside_sound found front d = sign_sound CLOSE_BRACE true _ _ (λ r. pure_sound _ (front, refl, d)) (map_sound _ _ s.block (λ a seen x. g.one_more d x))

  block_sound : (o : Span) → Sound (λ ts a. IsStmt false (sign OPEN_BRACE o ∷ ts) a) (block_rule parts o)
  unfolding block_rule braces_of
  block_sound o = map_sound _ _ (loop_sound (next_inside parts.block with_stmt) IsStmts (λ ts r. (seen : List Token) × (ts ≡ seen ++ sign CLOSE_BRACE r.span ∷ []) × IsStmts seen r.value) inside_sound no_stmts [] g.none)
      (λ r ts d. subst (λ y. IsStmt false (sign OPEN_BRACE o ∷ y) (g.block_stmt o r.value r.span)) (sym d.1) (g.block o r.span d.2))

  -- ---- all of them; a declaration stands in a block alone

  pub print_end : (system end c : Span) (f : Found) (front seen : List Token) → IsPrint front system → IsExpr Whole seen f → IsStmt false (front ++ (seen ++ (sign CLOSE_PAREN c ∷ sign SEMICOLON end ∷ []))) (g.print_stmt system f end)
  print_end system end c f front seen p d = subst (λ y. IsStmt false (y ++ (seen ++ (sign CLOSE_PAREN c ∷ sign SEMICOLON end ∷ []))) (g.print_stmt system f end)) (sym p.is) (g.print system p.dot p.out p.second p.println p.left c end d)

  finish_stmt : (r : Begun) (front : List Token) → NoLocal r → IsBegunStmt left front r → Sound (λ ts a. IsStmt false (front ++ ts) a) (finished left r)
  unfolding finished
  finish_stmt (Local mods ty found) front no_local d = absurd no_local
  finish_stmt (Run f) front no_local d = sign_sound SEMICOLON true _ _ (λ end. pure_sound _ (g.runs end d.0 d.1)) stop_sound
  finish_stmt (Print system) front no_local d = bind_sound _ _ (expr_sound (left - 1)) (λ f seen x. sign_sound CLOSE_PAREN true _ _ (λ c. sign_sound SEMICOLON true _ _ (λ end. pure_sound _ (print_end system end c f front seen d x)) stop_sound) stop_sound)

  finish_block : (r : Begun) (front : List Token) → IsBegunStmt left front r → Sound (λ ts a. IsBlockStmt (front ++ ts) a) (finished left r)
  unfolding finished
  finish_block (Local mods ty found) front d = sign_sound SEMICOLON true _ _ (λ end. pure_sound _ (g.locals end d.0)) stop_sound
  finish_block (Run f) front d = weaken _ (λ ts a x. g.stmt x) (finish_stmt (Run f) front tt d)
  finish_block (Print system) front d = weaken _ (λ ts a x. g.stmt x) (finish_stmt (Print system) front tt d)

  -- the statements with a word of their own, before another rule
  worded : {R : List Token → FoundStmt → Bool → Type 0} (other : Rule FoundStmt) → ((ts : List Token) (a : FoundStmt) (e : Bool) → IsStmt e ts a → R ts a e) → Flagged R other
      → Flagged R (take (a_sign OPEN_BRACE) (nat_le 1 left) (block_rule parts) (take (a_sign SEMICOLON) (nat_le 1 left) (λ end. pure (g.stmt_node k.Empty 0 end)) (take (a_sign IF) (nat_le 2 left) (if_rule parts left)
      (take (a_sign WHILE) (nat_le 2 left) (while_rule parts left) (take (a_sign DO) (nat_le 2 left) (do_rule parts left) (take (a_sign FOR) (nat_le 2 left) (for_rule parts left)
      (take (a_sign BREAK) (nat_le 1 left) (λ start. take (a_sign SEMICOLON) true (λ end. pure (g.stmt_node k.Break 0 (across start end))) stop)
      (take (a_sign CONTINUE) (nat_le 1 left) (λ start. take (a_sign SEMICOLON) true (λ end. pure (g.stmt_node k.Continue 0 (across start end))) stop)
      (take (a_sign RETURN) (nat_le 1 left) (return_rule left) (take (a_sign THROW) (nat_le 2 left) throw_rule other))))))))))
  worded other w o = flag_sign OPEN_BRACE _ _ _ (λ b. flag_weaken _ (λ ts a e d. w _ a e d) (flag_false _ (block_sound b))) (flag_sign SEMICOLON _ _ _ (λ end. flag_false _ (pure_sound _ (w _ _ false (g.empty end))))
      (flag_sign IF _ _ _ (λ start. flag_weaken _ (λ ts a e d. w _ a e d) (if_sound start)) (flag_sign WHILE _ _ _ (λ start. flag_weaken _ (λ ts a e d. w _ a e d) (while_sound start))
      (flag_sign DO _ _ _ (λ start. flag_weaken _ (λ ts a e d. w _ a e d) (flag_false _ (do_sound start))) (flag_sign FOR _ _ _ (λ start. flag_weaken _ (λ ts a e d. w _ a e d) (for_sound start))
      (flag_sign BREAK _ _ _ (λ start. flag_false _ (sign_sound SEMICOLON true _ _ (λ end. pure_sound _ (w _ _ false (g.breaks start end))) stop_sound))
      (flag_sign CONTINUE _ _ _ (λ start. flag_false _ (sign_sound SEMICOLON true _ _ (λ end. pure_sound _ (w _ _ false (g.continues start end))) stop_sound))
      (flag_sign RETURN _ _ _ (λ start. flag_weaken _ (λ ts a e d. w _ a e d) (flag_false _ (return_sound start))) (flag_sign THROW _ _ _ (λ start. flag_weaken _ (λ ts a e d. w _ a e d) (flag_false _ (throw_sound start))) o)))))))))

  plain_sound : Flagged Plain (stmt_of parts false left)
  unfolding stmt_of
  plain_sound = worded _ (λ ts a e d. d) (flag_false _ (bind_sound _ _ (with_no_local left) (λ r seen d. finish_stmt r seen d.1 d.0)))

  block_stmt_sound : Sound IsBlockStmt (stmt_of parts true left)
  unfolding stmt_of
  block_stmt_sound = unflagged _ (worded {R = λ ts a e. IsBlockStmt ts a} _ (λ ts a e d. g.stmt d) (flag_false _ (bind_sound _ _ (begun_stmt_sound true left) (λ r seen d. finish_block r seen d))))

no_parts : StmtParts
no_parts = record { plain = stop; block = stop }

pub sound_stmts_below : (left : ℕ) → SoundStmts (stmts_below left)
unfolding stmts_below
sound_stmts_below zero = record { plain = flag_stop; block = stop_sound }
sound_stmts_below (suc left) = record { plain = plain_sound (stmts_below left) (sound_stmts_below left) left; block = block_stmt_sound (stmts_below left) (sound_stmts_below left) left }

pub block_statement_sound : (left : ℕ) → Sound IsBlockStmt (block_statement left)
block_statement_sound left = block_stmt_sound (stmts_below left) (sound_stmts_below left) left
