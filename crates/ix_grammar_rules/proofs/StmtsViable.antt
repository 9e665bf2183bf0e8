-- Where the rules of statements stop, what they took goes on to a statement that is low enough.
use Rattle.std.proofs.Common.{◌≡◌, ℕ, zero, suc, ◌+◌, ◌-◌, ◌<◌, ◌≤◌, arith, length, Bool, true, false, List, [], ◌∷◌, ◌++◌, Option, Some, None, Ok, Err, refl, sym, ap, subst, ◌∙◌, append_assoc, ◌⊎◌, inl, inr}
use Rattle.std.proofs.lemmas.List.{append-nil}
use Rattle.std.proofs.lemmas.Bool.{leb-true}
use Rattle.ix_text.specs.declared.span.Span.{Span}
use Rattle.ix_lexer.specs.declared.token.Token.{Token}
use Rattle.ix_lexer.specs.declared.fixed.TheConstants.{IF, ELSE, WHILE, DO, FOR, BREAK, CONTINUE, RETURN, THROW, NEW, SEMICOLON, OPEN_PAREN, CLOSE_PAREN, OPEN_BRACE, CLOSE_BRACE}
use Rattle.ix_tree.specs.declared.annot.Ident.{Ident}
use Rattle.ix_tree.specs.declared.stmt.StmtKind.TheVariants as k
use Rattle.ix_grammar.specs.Nodes.{across}
use Rattle.ix_grammar.specs.declared.classes.Stmts.{Stmts}
use Rattle.ix_grammar.specs.declared.declarations.FoundMods.{FoundMods}
use Rattle.ix_grammar_rules.specs.declared.stop.Stop.{Stop}
use Rattle.ix_grammar.specs.declared.found.At.{At}
use Rattle.ix_grammar.specs.declared.found.Found.{Found}
use Rattle.ix_grammar.specs.declared.found.FoundDecls.{FoundDecls}
use Rattle.ix_grammar.specs.declared.found.FoundStmt.{FoundStmt}
use Rattle.ix_grammar.specs.declared.found.FoundType.{FoundType}
use Rattle.ix_grammar.specs.declared.found.Several.{Several}
use Rattle.ix_grammar_rules.specs.declared.begun.Begun.{Begun}
use Rattle.ix_grammar_rules.specs.declared.begun.Begun.TheVariants.{Local, Run, Print}
use Rattle.ix_grammar_rules.specs.Rule.{Rule, pure, take, bind, On, Done, Outcome, look, taken, run}
use Rattle.ix_grammar.specs.Patterns.{sign, name_token, string_token, a_sign, a_text}
use Rattle.ix_grammar.specs.Lists.{IsSeparated, first_item}
use Rattle.ix_grammar_rules.specs.ListRules.{more_of, next_inside, braces_of, placed}
use Rattle.ix_grammar.specs.ClassGrammar.{no_stmts, with_stmt}
use Rattle.ix_grammar.specs.ExprNodes.{no_exprs, with_expr}
use Rattle.ix_grammar_rules.specs.ExprRules.{expr, statement_expr}
use Rattle.ix_grammar.specs.ExprGrammar.{Whole, IsExpr, IsStatementExpr}
use Rattle.ix_grammar.specs.StmtGrammar as g
use Rattle.ix_grammar.specs.StmtGrammar.{IsStmt, IsBlockStmt, IsStmts, IsLocal, IsForFirst, IsMaybe, IsUpdate, IsReason, begins_print, maybe_height, if_stmt, if_else_stmt, while_stmt, do_stmt, for_stmt, one_run, with_run, one_expr}
use Rattle.ix_grammar_rules.specs.StmtRules.{StmtParts, condition, else_part, if_rule, while_rule, do_rule, for_body, for_update, for_condition, for_part, for_rule, return_rule, throw_end, throw_rule, block_rule, finished, stmt_of, stmts_below, stmt, block_statement, begun}
use Rattle.ix_grammar_rules.proofs.GiveRules.{both}
use Rattle.ix_grammar_rules.proofs.SoundRules.{Sound, After, text_sound}
use Rattle.ix_grammar_rules.proofs.ListsSound.{fits_sound, more_fits}
use Rattle.ix_grammar_rules.proofs.StmtSound.{Flagged, IsPrint, six, print_reads, Printed, printed, not_print, front_print, cons_same}
use Rattle.ix_grammar_rules.proofs.StmtsSound.{SoundStmts, sound_stmts_below, IsCondition, behind, if_sound, print_end}
use Rattle.ix_grammar_rules.proofs.StmtHeights.{LowStmts, low_stmts, if_low}
use Rattle.ix_grammar_rules.proofs.ViableRules.{Goes, Viable, Nothing, nothing_bind, pure_viable, bind_viable, map_viable, weaken_viable, sign_viable, text_viable, bind_err, further_goes}
use Rattle.ix_grammar_rules.proofs.ListsViable.{here, more_viable}
use Rattle.ix_grammar_rules.proofs.ExactRules.{Exact, exact_more, pure_exact, bind_exact, map_exact, maybe_bind, maybe_map, loop_exact, sign_exact, must_sign, end_sign, must_name, nothing_stop, nothing_take}
use Rattle.ix_grammar_rules.proofs.ExprViable.{room, expr_exact, nothing_expr, statement_expr_exact, nothing_statement, below_false}
use Rattle.ix_grammar_rules.proofs.StmtViable.{Beg, begun_exact, begun_nothing}

-- ---- what begins as the print statement is nothing else

abbrev pub BegStmt : Bool → ℕ → List Token → Begun → Type 0
BegStmt locals left ts (Local mods ty found) = (locals ≡ true) × IsLocal ts mods ty found × (found.height + 1 ≤ left)
BegStmt locals left ts (Run f) = IsStatementExpr ts f × (begins_print ts ≡ false) × (f.height + 1 ≤ left)
BegStmt locals left ts (Print system) = IsPrint ts system × (2 ≤ left)

head_same : (t u : Token) (ts us : List Token) → t ∷ ts ≡ u ∷ us → t ≡ u
head_same t u ts us h = cc

tail_same : (t u : Token) (ts us : List Token) → t ∷ ts ≡ u ∷ us → ts ≡ us
tail_same t u ts us h = cc

-- what is missing of a list that these tokens begin
missing : (seen others all later : List Token) → length seen ≤ length all → seen ++ others ≡ all ++ later → (more : List Token) × (seen ++ more ≡ all)
missing [] others all later le h = (all, refl)
missing (t ∷ seen) others [] later le h = absurd (omega (arith, le))
missing (t ∷ seen) others (u ∷ all) later le h =
    let (more, is) = missing seen others all later (omega (arith, le)) (tail_same t u (seen ++ others) (all ++ later) h) in
    (more, cons_same t u (seen ++ more) all (head_same t u (seen ++ others) (all ++ later) h) is)

both_ways : (b : Bool) → b ≡ true → b ≡ false → ⊥
both_ways b t f = cc

short : (seen others : List Token) → begins_print (seen ++ others) ≡ true → begins_print seen ≡ false → length seen ≤ 6
short (t0 ∷ t1 ∷ t2 ∷ t3 ∷ t4 ∷ t5 ∷ later) others h n = absurd (both_ways (begins_print (t0 ∷ t1 ∷ t2 ∷ t3 ∷ t4 ∷ t5 ∷ later)) h n)
short [] others h n = omega arith
short (t0 ∷ []) others h n = omega arith
short (t0 ∷ t1 ∷ []) others h n = omega arith
short (t0 ∷ t1 ∷ t2 ∷ []) others h n = omega arith
short (t0 ∷ t1 ∷ t2 ∷ t3 ∷ []) others h n = omega arith
short (t0 ∷ t1 ∷ t2 ∷ t3 ∷ t4 ∷ []) others h n = omega arith

module _ (locals : Bool) (left : ℕ) (two : 2 ≤ left) where
  no_stop : (ts us : List Token) (why : Stop) → Printed ts → run (begun true locals left) ts ≡ Err (why, us) → ⊥
  no_stop ts us why p h =
      apart (run (begun true locals left) (six p.system p.dot p.out p.second p.println p.left p.later)) (Print p.system, p.later) (why, us)
      (print_reads locals left p.system p.dot p.out p.second p.println p.left p.later two) (subst (λ y. run (begun true locals left) y ≡ Err (why, us)) p.is h)
    where
      apart : (o : Outcome Begun) (x : Begun × List Token) (y : Stop × List Token) → o ≡ Ok x → o ≡ Err y → ⊥
      apart o x y a b = cc

  stops_before : (ts us : List Token) (why : Stop) → run (begun true locals left) ts ≡ Err (why, us) → (b : Bool) → begins_print ts ≡ b → begins_print ts ≡ false
  stops_before ts us why h true e = absurd (no_stop ts us why (printed ts e) h)
  stops_before ts us why h false e = e

  -- where the tokens of a witness begin the print statement, that is one
  printing : (seen others : List Token) (f : Found) → Beg true locals left (seen ++ others) (Run f) → begins_print seen ≡ false → (b : Bool) → begins_print (seen ++ others) ≡ b → Goes (BegStmt locals left) seen
  printing seen others f d n false e = (others, Run f, (d.0, e, d.1))
  printing seen others f d n true e =
      let p = printed (seen ++ others) e in
      let (more, is) = missing seen others (six p.system p.dot p.out p.second p.println p.left []) p.later (short seen others e n) p.is in
      (more, Print p.system, (record { dot = p.dot; out = p.out; second = p.second; println = p.println; left = p.left; is = is }, two))

  goes_print : (seen others : List Token) (r : Begun) → Beg true locals left (seen ++ others) r → begins_print seen ≡ false → Goes (BegStmt locals left) seen
  goes_print seen others (Local mods ty found) d n = (others, Local mods ty found, d)
  goes_print seen others (Run f) d n = printing seen others f d n (begins_print (seen ++ others)) refl
  goes_print seen others (Print system) d n = (others, Print system, (d.1, d.2))

  reads_print : (ts seen us : List Token) (r : Begun) → ts ≡ seen ++ us → run (begun true locals left) ts ≡ Ok (r, us) → Beg true locals left seen r → BegStmt locals left seen r
  reads_print ts seen us (Local mods ty found) is h d = d
  reads_print ts seen us (Run f) is h d = (d.0, front_print seen us (subst (λ y. begins_print y ≡ false) is (not_print locals left ts f us h (begins_print ts) refl)), d.1)
  reads_print ts seen us (Print system) is h d = (d.1, d.2)

  begun_stmt_exact : Exact (BegStmt locals left) (begun true locals left)
  begun_stmt_exact = let x = begun_exact true locals left (inr (refl, two)) in record {
    sound = record { at = λ ts us r h. let s = x.sound in let (seen, is, d) = s.at ts us r h in (seen, is, reads_print ts seen us r is h d) };
    viable = record {
      at = λ ts us why h. let v = x.viable in let (seen, is, (others, r, d)) = v.at ts us why h in
          (seen, is, goes_print seen others r d (front_print seen us (subst (λ y. begins_print y ≡ false) is (stops_before ts us why h (begins_print ts) refl))));
    };
    goes = (let (others, r, d) = x.goes in goes_print [] others r d refl);
  }

-- ---- statements; behind one, no `else` comes that it could not take

-- where it is known that none comes
record Cautious (ends : Bool) {A : Type 0} (R : List Token → A → Type 0) (r : Rule A) : Type 0 where
  at : (ts us : List Token) (why : Stop) → (ends ≡ true → look (a_sign ELSE) ts ≡ None) → run r ts ≡ Err (why, us) → (seen : List Token) × (ts ≡ seen ++ us) × Goes R seen

cautious : {A : Type 0} {R : List Token → A → Type 0} (ends : Bool) (r : Rule A) → Viable R r → Cautious ends R r
cautious ends r v = record { at = λ ts us why n h. v.at ts us why h }

flag_bind_viable : {A : Type 0} {P : List Token → FoundStmt → Bool → Type 0} {Q : List Token → A → Type 0} (p : Rule FoundStmt) (f : FoundStmt → Rule A) → Flagged P p → Viable (λ ts a. (ends : Bool) × P ts a ends) p
    → ((a : FoundStmt) (seen : List Token) (ends : Bool) → P seen a ends → Goes (λ later b. Q (seen ++ later) b) [])
    → ((a : FoundStmt) (seen : List Token) (ends : Bool) → P seen a ends → Cautious ends (λ later b. Q (seen ++ later) b) (f a)) → Viable Q (bind p f)
unfolding run
flag_bind_viable {P = P} {Q = Q} p f sp vp gf vf = record {
  at = λ ts us why h. elim (bind_err (run p ts) (λ a. run (f a)) (why, us) h) [
    | inl x ↦ (let (seen, is, goes) = vp.at ts us why x in (seen, is, further_goes (λ ts a. (ends : Bool) × P ts a ends) Q seen goes (λ a ts r. gf a ts r.0 r.1)))
    | inr d ↦ (
        let (seen, is, ends, r, n) = sp.at ts d.0.1 d.0.0 d.1 in
        let v = vf d.0.0 seen ends r in
        let (later, same, (others, b, q)) = v.at d.0.1 us why n d.2 in
        (seen ++ later, is ∙ ap (λ y. seen ++ y) same ∙ sym (append_assoc seen later us), (others, b, subst (λ y. Q y b) (sym (append_assoc seen later others)) q)))
  ];
}

-- a rule that takes no token but an `else`
no_else : {A : Type 0} {R : List Token → A → Type 0} (p : Span → Rule A) (a : A) → Cautious true R (take (a_sign ELSE) true p (pure a))
unfolding run
no_else {A = A} p a = record { at = λ ts us why n h. absurd (reads ts us why (look (a_sign ELSE) ts) (n refl) h) }
  where
    reads : (ts us : List Token) (why : Stop) (o : Option Span) → o ≡ None → taken true (λ s. run (p s)) (λ ts. Ok (a, ts)) o ts ≡ Err (why, us) → ⊥
    reads ts us why (Some s) n h = absurd (cc)
    reads ts us why None n h = absurd (cc)

text_exact : {A : Type 0} {R : List Token → A → Type 0} (fits : Bool) (p : At (List ℕ) → Rule A) (q : Rule A)
    → (fits ≡ true → (x : At (List ℕ)) → Exact (λ seen a. R (string_token x.value x.span ∷ seen) a) (p x)) → Exact R q → Exact R (take a_text fits p q)
text_exact fits p q ep eq = record {
  sound = fits_sound a_text fits p q (λ f. text_sound true p q (λ x. let e = ep f x in e.sound) eq.sound) eq.sound;
  viable = text_viable fits p q (λ f. eq.goes) (λ f x. let e = ep f x in e.viable) eq.viable;
  goes = eq.goes;
}

-- a statement that is so much lower
abbrev AnyLower : ℕ → List Token → FoundStmt → Type 0
AnyLower left ts a = ((ends : Bool) × IsStmt ends ts a) × (a.height + 1 ≤ left)

abbrev BlockLower : ℕ → List Token → FoundStmt → Type 0
BlockLower left ts a = IsBlockStmt ts a × (a.height + 1 ≤ left)

record ViableStmts (left : ℕ) (p : StmtParts) : Type 0 where
  plain : 2 ≤ left → Viable (AnyLower left) p.plain
  block : 2 ≤ left → Viable (BlockLower left) p.block
  none : left ≤ 1 → Nothing p.block

abbrev pub LowStmt : ℕ → List Token → FoundStmt → Type 0
LowStmt left ts a = ((ends : Bool) × IsStmt ends ts a) × (a.height ≤ left)

abbrev empty_stmt : FoundStmt
empty_stmt = g.stmt_node k.Empty 0 here

module _ (left : ℕ) where
  condition_exact : 2 ≤ left → Exact (λ ts f. IsCondition ts f × (f.height + 1 ≤ left)) (condition left)
  unfolding condition
  condition_exact two = must_sign OPEN_PAREN _ (λ o. bind_exact _ _ (expr_exact (left - 1) (omega (arith, two)))
      (λ f seen d. end_sign CLOSE_PAREN (λ c. f) (λ c. (record { left = o; right = c; inside = seen; is = refl; holds = d.0 }, omega (arith, d.1, two)))))

module _ (parts : StmtParts) (left : ℕ) (s : SoundStmts parts) (l : LowStmts left parts) (v : ViableStmts left parts) where
  flagged_low : Flagged (λ ts a ends. IsStmt ends ts a × (a.height + 1 ≤ left)) parts.plain
  flagged_low = record { at = λ ts us a h. let p = s.plain in let low = l.plain in let (seen, is, ends, d, n) = p.at ts us a h in (seen, is, ends, (d, low.at ts us a h), n) }

  any_sound : Sound (AnyLower left) parts.plain
  any_sound = record { at = λ ts us a h. let p = s.plain in let low = l.plain in let (seen, is, ends, d, n) = p.at ts us a h in (seen, is, ((ends, d), low.at ts us a h)) }

  any_exact : 2 ≤ left → Exact (AnyLower left) parts.plain
  any_exact two = record { sound = any_sound; viable = v.plain two; goes = (sign SEMICOLON here ∷ [], empty_stmt, ((false, g.empty here), omega (arith, two))) }

  -- ---- `if`

  if_goes : (start : Span) (f : Found) (seen : List Token) → 2 ≤ left → IsCondition seen f → f.height + 1 ≤ left → Goes (λ later b. LowStmt left (sign IF start ∷ (seen ++ later)) b) []
  if_goes start f seen two c h = (
    sign SEMICOLON here ∷ [],
    if_stmt start f empty_stmt,
    ((true, subst (λ y. IsStmt true (sign IF start ∷ y) (if_stmt start f empty_stmt)) (behind c.left c.right c.inside (sign SEMICOLON here ∷ []) seen c.is) (g.if_then start c.left c.right c.holds (g.empty here))), omega (arith, h, two)),
  )

  then_goes : (start : Span) (f : Found) (seen later : List Token) (a : FoundStmt) (ends : Bool) → IsCondition seen f → f.height + 1 ≤ left → IsStmt ends later a → a.height + 1 ≤ left
      → Goes (λ more b. LowStmt left (sign IF start ∷ (seen ++ (later ++ more))) b) []
  then_goes start f seen later a ends c h d j = (
    [],
    if_stmt start f a,
    subst (λ y. LowStmt left (sign IF start ∷ (seen ++ y)) (if_stmt start f a)) (sym (append-nil later))
        ((true, subst (λ y. IsStmt true (sign IF start ∷ y) (if_stmt start f a)) (behind c.left c.right c.inside later seen c.is) (g.if_then start c.left c.right c.holds d)), omega (arith, h, j)),
  )

  else_viable : (start : Span) (f : Found) (seen later : List Token) (a : FoundStmt) (ends : Bool) → 2 ≤ left → IsCondition seen f → f.height + 1 ≤ left → IsStmt ends later a → a.height + 1 ≤ left
      → Cautious ends (λ more b. LowStmt left (sign IF start ∷ (seen ++ (later ++ more))) b) (else_part parts start f a)
  unfolding else_part
  else_viable start f seen later a true two c h d j = no_else _ _
  else_viable start f seen later a false two c h d j = cautious false _ (sign_viable ELSE true _ _ (λ t. absurd (cc))
      (λ t m. map_viable parts.plain (if_else_stmt start f a) any_sound (v.plain two) (λ b more x. (
        (
          x.0.0,
          subst (λ y. IsStmt x.0.0 (sign IF start ∷ y) (if_else_stmt start f a b))
              (behind c.left c.right c.inside (later ++ (sign ELSE m ∷ more)) seen c.is) (g.if_else start c.left c.right m c.holds d x.0.1),
        ),
        omega (arith, h, j, x.1),
      )))
      (pure_viable _))

  if_viable : (start : Span) → 2 ≤ left → Viable (λ ts a. LowStmt left (sign IF start ∷ ts) a) (if_rule parts left start)
  unfolding if_rule
  if_viable start two = bind_viable _ _ (let x = condition_exact left two in x.sound) (let x = condition_exact left two in x.viable) (λ f seen c. if_goes start f seen two c.0 c.1)
      (λ f seen c. flag_bind_viable _ _ flagged_low (weaken_viable _ (λ ts a d. (d.0.0, (d.0.1, d.1))) (v.plain two)) (λ a later ends d. then_goes start f seen later a ends c.0 c.1 d.0 d.1)
      (λ a later ends d. else_viable start f seen later a ends two c.0 c.1 d.0 d.1))

  if_exact : (start : Span) → 2 ≤ left → Exact (λ ts a. LowStmt left (sign IF start ∷ ts) a) (if_rule parts left start)
  if_exact start two = record {
    sound = record { at = λ ts us a h. let x = if_sound parts s left start in let low = if_low left parts l start in let (seen, is, ends, d, n) = x.at ts us a h in (seen, is, ((ends, d), low.at ts us a h)) };
    viable = if_viable start two;
    goes = (let x = condition_exact left two in let (others, f, c) = x.goes in let (more, a, d) = if_goes start f others two c.0 c.1 in (others ++ more, a, d));
  }

  -- ---- `while`, `do`

  while_exact : (start : Span) → 2 ≤ left → Exact (λ ts a. LowStmt left (sign WHILE start ∷ ts) a) (while_rule parts left start)
  unfolding while_rule
  while_exact start two = bind_exact _ _ (condition_exact left two) (λ f seen c. map_exact _ (while_stmt start f) (any_exact two) (λ a later d. (
    (d.0.0, (let x = c.0 in subst (λ y. IsStmt d.0.0 (sign WHILE start ∷ y) (while_stmt start f a)) (behind x.left x.right x.inside later seen x.is) (g.while_do start x.left x.right x.holds d.0.1))),
    omega (arith, c.1, d.1),
  )))

  do_exact : (start : Span) → 2 ≤ left → Exact (λ ts a. LowStmt left (sign DO start ∷ ts) a) (do_rule parts left start)
  unfolding do_rule
  do_exact start two = bind_exact _ _ (any_exact two) (λ a seen d. must_sign WHILE _ (λ w. bind_exact _ _ (condition_exact left two) (λ f more c. end_sign SEMICOLON (do_stmt start a f) (λ end. (
    (false, (let x = c.0 in subst (λ y. IsStmt false (sign DO start ∷ (seen ++ (sign WHILE w ∷ y))) (do_stmt start a f end)) (behind x.left x.right x.inside (sign SEMICOLON end ∷ []) more x.is) (g.do_while start w x.left x.right end d.0.1 x.holds))),
    omega (arith, d.1, c.1),
  )))))

  -- ---- `for`

  -- a condition, where there is one
  abbrev LowMaybe : Option Found → Type 0
  LowMaybe cond = maybe_height cond + 1 ≤ left

  for_body_exact : (start o fe ce right : Span) (ts us vs : List Token) (first : Stmts) (cond : Option Found) (update : Several) → 2 ≤ left → IsForFirst ts first → first.height + 1 ≤ left → IsMaybe us cond → LowMaybe cond
      → IsUpdate vs update → update.height + 1 ≤ left
      → Exact (λ ws a. LowStmt left (sign FOR start ∷ sign OPEN_PAREN o ∷ (ts ++ sign SEMICOLON fe ∷ (us ++ sign SEMICOLON ce ∷ (vs ++ sign CLOSE_PAREN right ∷ ws)))) a) (for_body parts start first cond update)
  unfolding for_body
  for_body_exact start o fe ce right ts us vs first cond update two a h b i c j = map_exact _ (for_stmt start first cond update) (any_exact two)
      (λ f ws d. ((d.0.0, g.for_do start o fe ce right a b c d.0.1), omega (arith, h, i, j, d.1)))

  -- expressions that are statements, with commas between them, of the height `most` at most
  more_exact : {S : Type 0} (most : ℕ) (one : Found → S) (add : S → Found → S) (Q : S → Type 0) → ((x : S) (f : Found) → Q x → f.height ≤ most → Q (add x f)) → 2 ≤ most → (x : S) (front : List Token)
      → IsSeparated IsStatementExpr one add front x → Q x → Exact (λ seen b. IsSeparated IsStatementExpr one add (front ++ seen) b × Q b) (more_of (statement_expr most) add x)
  more_exact most one add Q keeps two x front d q = let item = statement_expr_exact most two in record {
    sound = more_fits IsStatementExpr one add (statement_expr most) (λ f. f.height ≤ most) Q keeps item.sound x front d q;
    viable = more_viable IsStatementExpr one add (statement_expr most) (λ f. f.height ≤ most) Q keeps item.sound item.viable x front d q;
    goes = ([], x, (subst (λ y. IsSeparated IsStatementExpr one add y x) (sym (append-nil front)) d, q));
  }

  -- an update where there is room for one
  abbrev Updating : List Token → Found → Type 0
  Updating ts f = (IsStatementExpr ts f × (f.height ≤ left - 1)) × (3 ≤ left)

  maybe_update : (2 < left) ⊎ (left ≤ 2) → Exact Updating (statement_expr (left - 1)) ⊎ Nothing (statement_expr (left - 1))
  maybe_update (inl lt) = inl (exact_more _ (λ ts f d. (d, lt)) (statement_expr_exact (left - 1) (omega (arith, lt))))
  maybe_update (inr le) = inr (nothing_statement (left - 1) (omega (arith, le)))

  for_update_exact : (start o fe ce : Span) (ts us : List Token) (first : Stmts) (cond : Option Found) → 2 ≤ left → IsForFirst ts first → first.height + 1 ≤ left → IsMaybe us cond → LowMaybe cond
      → Exact (λ ws a. LowStmt left (sign FOR start ∷ sign OPEN_PAREN o ∷ (ts ++ sign SEMICOLON fe ∷ (us ++ sign SEMICOLON ce ∷ ws))) a) (for_update parts left start first cond)
  unfolding for_update
  for_update_exact start o fe ce ts us first cond two a h b i = sign_exact CLOSE_PAREN true _ _ (λ t r. for_body_exact start o fe ce r ts us [] first cond no_exprs two a h b i g.no_update (omega (arith, two)))
      (maybe_bind _ _ (maybe_update (room 2 left))
      (let x = for_body_exact start o fe ce here ts us [] first cond no_exprs two a h b i g.no_update (omega (arith, two)) in let (others, b, d) = x.goes in (sign CLOSE_PAREN here ∷ others, b, d))
      (λ f seen x. bind_exact _ _ (more_exact (left - 1) one_expr with_expr (λ u. u.height + 1 ≤ left) (λ u f q le. omega (arith, q, le, two)) (omega (arith, x.1)) (one_expr f) seen (first_item x.0.0) (omega (arith, x.0.1, two)))
      (λ update later d. must_sign CLOSE_PAREN _
      (λ r. exact_more _ (λ ws c p. subst (λ y. LowStmt left (sign FOR start ∷ sign OPEN_PAREN o ∷ (ts ++ sign SEMICOLON fe ∷ (us ++ sign SEMICOLON ce ∷ y))) c) (append_assoc seen later (sign CLOSE_PAREN r ∷ ws)) p)
      (for_body_exact start o fe ce r ts us (seen ++ later) first cond update two a h b i (g.updates d.0) d.1)))))

  for_condition_exact : (start o fe : Span) (ts : List Token) (first : Stmts) → 2 ≤ left → IsForFirst ts first → first.height + 1 ≤ left
      → Exact (λ ws a. LowStmt left (sign FOR start ∷ sign OPEN_PAREN o ∷ (ts ++ sign SEMICOLON fe ∷ ws)) a) (for_condition parts left start first)
  unfolding for_condition
  for_condition_exact start o fe ts first two a h = sign_exact SEMICOLON true _ _ (λ t ce. for_update_exact start o fe ce ts [] first None two a h g.absent (omega (arith, two)))
      (bind_exact _ _ (expr_exact (left - 1) (omega (arith, two)))
      (λ f seen d. must_sign SEMICOLON _ (λ ce. for_update_exact start o fe ce ts seen first (Some f) two a h (g.present d.0) (omega (arith, d.1, two)))))

  abbrev LowFirst : List Token → Stmts → Type 0
  LowFirst ts first = IsForFirst ts first × (first.height + 1 ≤ left)

  for_part_exact : (r : Begun) (front : List Token) → 4 ≤ left → Beg false true (left - 1) front r → Exact (λ later first. LowFirst (front ++ later) first) (for_part left r)
  unfolding for_part
  for_part_exact (Local mods ty found) front four d = pure_exact _ (subst (λ y. IsForFirst y (with_stmt no_stmts (g.local_stmt mods ty found found.end))) (sym (append-nil front)) (g.locals d.1), omega (arith, d.2, four))
  for_part_exact (Run f) front four d = exact_more _ (λ ts x y. (g.runs y.0, y.1))
      (more_exact (left - 2) one_run with_run (λ u. u.height + 1 ≤ left) (λ u f q le. omega (arith, q, le, four)) (omega (arith, four)) (one_run f) front (first_item d.0) (omega (arith, d.1, four)))
  for_part_exact (Print system) front four d = absurd (not_so d.0)
    where
      not_so : false ≡ true → ⊥
      not_so h = cc

  -- a first part where there is room for one
  abbrev Firsting : List Token → Begun → Type 0
  Firsting ts r = Beg false true (left - 1) ts r × (4 ≤ left)

  maybe_first : (3 < left) ⊎ (left ≤ 3) → Exact Firsting (begun false true (left - 1)) ⊎ Nothing (begun false true (left - 1))
  maybe_first (inl lt) = inl (exact_more _ (λ ts r d. (d, lt)) (begun_exact false true (left - 1) (inl (omega (arith, lt)))))
  maybe_first (inr le) = inr (begun_nothing (left - 1) false true (omega (arith, le)) (λ t. absurd (cc)))

  for_exact : (start : Span) → 2 ≤ left → Exact (λ ts a. LowStmt left (sign FOR start ∷ ts) a) (for_rule parts left start)
  unfolding for_rule
  for_exact start two = must_sign OPEN_PAREN _ (λ o. sign_exact SEMICOLON true _ _ (λ t fe. for_condition_exact start o fe [] no_stmts two g.no_first (omega (arith, two)))
      (maybe_bind _ _ (maybe_first (room 3 left))
      (let x = for_condition_exact start o here [] no_stmts two g.no_first (omega (arith, two)) in let (others, a, d) = x.goes in (sign SEMICOLON here ∷ others, a, d))
      (λ r seen d. bind_exact _ _ (for_part_exact r seen d.1 d.0) (λ first later x. must_sign SEMICOLON _
      (λ fe. exact_more _ (λ ws c p. subst (λ y. LowStmt left (sign FOR start ∷ sign OPEN_PAREN o ∷ y) c) (append_assoc seen later (sign SEMICOLON fe ∷ ws)) p) (for_condition_exact start o fe (seen ++ later) first two x.0 x.1))))))

  -- ---- the others

  maybe_value : (1 < left) ⊎ (left ≤ 1) → Exact (λ ts f. IsExpr Whole ts f × (f.height + 1 ≤ left)) (expr (left - 1)) ⊎ Nothing (expr (left - 1))
  maybe_value (inl lt) = inl (exact_more _ (λ ts f d. (d.0, omega (arith, d.1, lt))) (expr_exact (left - 1) (omega (arith, lt))))
  maybe_value (inr le) = inr (let none : left - 1 ≡ 0 = omega (arith, le) in subst (λ n. Nothing (expr n)) (sym none) nothing_expr)

  return_exact : (start : Span) → 1 ≤ left → Exact (λ ts a. LowStmt left (sign RETURN start ∷ ts) a) (return_rule left start)
  unfolding return_rule
  return_exact start one = sign_exact SEMICOLON true _ _ (λ t end. pure_exact _ ((false, g.returns start end g.absent), omega (arith, one)))
      (maybe_bind _ _ (maybe_value (room 1 left)) (sign SEMICOLON here ∷ [], g.return_stmt start None here, ((false, g.returns start here g.absent), omega (arith, one)))
      (λ f seen d. end_sign SEMICOLON (g.return_stmt start (Some f)) (λ end. ((false, g.returns start end (g.present d.0)), omega (arith, d.1)))))

  throw_end_exact : (start m o : Span) (x : Ident) (reason : List Token) → 2 ≤ left → IsReason reason → Exact (λ ts a. LowStmt left (sign THROW start ∷ sign NEW m ∷ name_token x ∷ sign OPEN_PAREN o ∷ (reason ++ ts)) a) (throw_end start x)
  unfolding throw_end
  throw_end_exact start m o x reason two d = must_sign CLOSE_PAREN _ (λ c. end_sign SEMICOLON (g.throw_stmt start x) (λ end. ((false, g.throws start m x o c end d), omega (arith, two))))

  throw_exact : (start : Span) → 2 ≤ left → Exact (λ ts a. LowStmt left (sign THROW start ∷ ts) a) (throw_rule start)
  unfolding throw_rule
  throw_exact start two = must_sign NEW _ (λ m. must_name _ (λ x. must_sign OPEN_PAREN _ (λ o. text_exact true _ _ (λ t u. throw_end_exact start m o x (string_token u.value u.span ∷ []) two (g.reason u.value u.span))
      (throw_end_exact start m o x [] two g.no_reason))))

  -- ---- blocks

  abbrev Block : List Token → Stmts → Type 0
  Block ts found = IsStmts ts found × (found.height + 1 ≤ left)

  abbrev ClosedBlock : List Token → At Stmts → Type 0
  ClosedBlock ts r = ((seen : List Token) × (ts ≡ seen ++ sign CLOSE_BRACE r.span ∷ []) × IsStmts seen r.value) × (r.value.height + 1 ≤ left)

  maybe_block : (1 < left) ⊎ (left ≤ 1) → Exact (BlockLower left) parts.block ⊎ Nothing parts.block
  maybe_block (inl lt) = inl (record { sound = both parts.block s.block l.block; viable = v.block lt; goes = (sign SEMICOLON here ∷ [], empty_stmt, (g.stmt (g.empty here), lt)) })
  maybe_block (inr le) = inr (v.none le)

  closes : (found : Stmts) (front : List Token) → Block front found → Goes (λ later r. ClosedBlock (front ++ later) r) []
  closes found front d = (sign CLOSE_BRACE here ∷ [], placed found here, ((front, refl, d.0), d.1))

  inside_exact : (found : Stmts) (front : List Token) → Block front found → Exact (After Block ClosedBlock front) (next_inside parts.block with_stmt found)
  unfolding next_inside
  inside_exact found front d = sign_exact CLOSE_BRACE true _ _ (λ t r. pure_exact _ ((front, refl, d.0), d.1))
      (maybe_map parts.block (λ a. On (with_stmt found a)) (maybe_block (room 1 left)) (let (others, r, c) = closes found front d in (others, Done r, c)) (λ a seen x. (g.one_more d.0 x.0, omega (arith, d.1, x.1))))

  block_exact : (o : Span) → 1 ≤ left → Exact (λ ts a. LowStmt left (sign OPEN_BRACE o ∷ ts) a) (block_rule parts o)
  unfolding block_rule braces_of
  block_exact o one = map_exact _ (λ r. g.block_stmt o r.value r.span) (loop_exact (next_inside parts.block with_stmt) Block ClosedBlock inside_exact closes no_stmts [] (g.none, one))
      (λ r ts d. ((false, subst (λ y. IsStmt false (sign OPEN_BRACE o ∷ y) (g.block_stmt o r.value r.span)) (sym d.0.1) (g.block o r.span d.0.2)), d.1))

  -- ---- all of them: a statement, or a statement of a block, which may declare locals

  module _ (locals : Bool) (P : List Token → FoundStmt → Type 0) (plain : (ts : List Token) (a : FoundStmt) (ends : Bool) → IsStmt ends ts a → P ts a)
      (declares : locals ≡ true → (end : Span) (ts : List Token) (mods : FoundMods) (ty : FoundType) (found : FoundDecls) → IsLocal ts mods ty found → P (ts ++ sign SEMICOLON end ∷ []) (g.local_stmt mods ty found end)) where
    abbrev Lowly : List Token → FoundStmt → Type 0
    Lowly ts a = P ts a × (a.height ≤ left)

    finish_exact : (r : Begun) (front : List Token) → BegStmt locals left front r → Exact (λ ts a. Lowly (front ++ ts) a) (finished left r)
    unfolding finished
    finish_exact (Local mods ty found) front d = end_sign SEMICOLON (g.local_stmt mods ty found) (λ end. (declares d.0 end front mods ty found d.1, d.2))
    finish_exact (Run f) front d = end_sign SEMICOLON (g.run_stmt f) (λ end. (plain _ _ false (g.runs end d.0 d.1), d.2))
    finish_exact (Print system) front d = bind_exact _ _ (expr_exact (left - 1) (omega (arith, d.1)))
        (λ f seen x. must_sign CLOSE_PAREN _ (λ c. end_sign SEMICOLON (g.print_stmt system f) (λ end. (plain _ _ false (print_end parts s left system end c f front seen d.0 x.0), omega (arith, x.1, d.1)))))

    -- a beginning where there is room for one
    maybe_begun : (1 < left) ⊎ (left ≤ 1) → Exact (BegStmt locals left) (begun true locals left) ⊎ Nothing (begun true locals left)
    maybe_begun (inl lt) = inl (begun_stmt_exact locals left lt)
    maybe_begun (inr le) = inr (begun_nothing left true locals (omega (arith, le)) (λ t. le))

    low_stmt : (t : Token) (r : Rule FoundStmt) → Exact (λ ts a. LowStmt left (t ∷ ts) a) r → Exact (λ ts a. Lowly (t ∷ ts) a) r
    low_stmt t r x = exact_more r (λ ts a d. (plain (t ∷ ts) a d.0.0 d.0.1, d.1)) x

    stmt_exact : 1 ≤ left → Exact Lowly (stmt_of parts locals left)
    unfolding stmt_of
    stmt_exact one = sign_exact OPEN_BRACE _ _ _ (λ t o. low_stmt (sign OPEN_BRACE o) _ (block_exact o one)) (sign_exact SEMICOLON _ _ _ (λ t end. pure_exact _ (plain _ _ false (g.empty end), one))
        (sign_exact IF _ _ _ (λ t start. low_stmt (sign IF start) _ (if_exact start (leb-true 2 left t))) (sign_exact WHILE _ _ _ (λ t start. low_stmt (sign WHILE start) _ (while_exact start (leb-true 2 left t)))
        (sign_exact DO _ _ _ (λ t start. low_stmt (sign DO start) _ (do_exact start (leb-true 2 left t))) (sign_exact FOR _ _ _ (λ t start. low_stmt (sign FOR start) _ (for_exact start (leb-true 2 left t)))
        (sign_exact BREAK _ _ _ (λ t start. end_sign SEMICOLON (λ end. g.stmt_node k.Break 0 (across start end)) (λ end. (plain _ _ false (g.breaks start end), one)))
        (sign_exact CONTINUE _ _ _ (λ t start. end_sign SEMICOLON (λ end. g.stmt_node k.Continue 0 (across start end)) (λ end. (plain _ _ false (g.continues start end), one)))
        (sign_exact RETURN _ _ _ (λ t start. low_stmt (sign RETURN start) _ (return_exact start one)) (sign_exact THROW _ _ _ (λ t start. low_stmt (sign THROW start) _ (throw_exact start (leb-true 2 left t)))
        (maybe_bind _ _ (maybe_begun (room 1 left)) (sign SEMICOLON here ∷ [], empty_stmt, (plain _ _ false (g.empty here), one)) (λ r seen d. finish_exact r seen d)))))))))))

  plain_exact : 1 ≤ left → Exact (LowStmt left) (stmt_of parts false left)
  plain_exact one = stmt_exact false (λ ts a. (ends : Bool) × IsStmt ends ts a) (λ ts a ends d. (ends, d)) (λ h end ts mods ty found d. absurd (cc)) one

  abbrev LowBlock : List Token → FoundStmt → Type 0
  LowBlock ts a = IsBlockStmt ts a × (a.height ≤ left)

  block_stmt_exact : 1 ≤ left → Exact LowBlock (stmt_of parts true left)
  block_stmt_exact one = stmt_exact true IsBlockStmt (λ ts a ends d. g.stmt d) (λ h end ts mods ty found d. g.locals end d) one

-- where nothing is left
stmt_nothing : (parts : StmtParts) (locals : Bool) (left : ℕ) → left ≡ 0 → Nothing (stmt_of parts locals left)
unfolding stmt_of
stmt_nothing parts locals left z =
    let one = below_false 1 left (omega (arith, z)) in
    let two = below_false 2 left (omega (arith, z)) in
    nothing_take _ _ _ _ one (nothing_take _ _ _ _ one (nothing_take _ _ _ _ two (nothing_take _ _ _ _ two (nothing_take _ _ _ _ two (nothing_take _ _ _ _ two
    (nothing_take _ _ _ _ one (nothing_take _ _ _ _ one (nothing_take _ _ _ _ one (nothing_take _ _ _ _ two
    (nothing_bind _ _ (begun_nothing left true locals (omega (arith, z)) (λ t. omega (arith, z)))))))))))))

viable_stmts : (left : ℕ) → ViableStmts left (stmts_below left)
unfolding stmts_below
viable_stmts zero = record { plain = λ two. absurd (omega (arith, two)); block = λ two. absurd (omega (arith, two)); none = λ le. nothing_stop }
viable_stmts (suc left) = record {
  plain = λ two. let x = plain_exact (stmts_below left) left (sound_stmts_below left) (low_stmts left) (viable_stmts left) (omega (arith, two)) in weaken_viable _ (λ ts a d. (d.0, omega (arith, d.1))) x.viable;
  block = λ two. let x = block_stmt_exact (stmts_below left) left (sound_stmts_below left) (low_stmts left) (viable_stmts left) (omega (arith, two)) in weaken_viable _ (λ ts a d. (d.0, omega (arith, d.1))) x.viable;
  none = λ le. stmt_nothing (stmts_below left) true left (omega (arith, le));
}

pub stmt_viable : (left : ℕ) → 1 ≤ left → Viable (λ ts a. ((ends : Bool) × IsStmt ends ts a) × (a.height ≤ left)) (stmt left)
stmt_viable left one = let x = plain_exact (stmts_below left) left (sound_stmts_below left) (low_stmts left) (viable_stmts left) one in x.viable

pub block_statement_viable : (left : ℕ) → 1 ≤ left → Viable (λ ts (s : FoundStmt). IsBlockStmt ts s × (s.height ≤ left)) (block_statement left)
block_statement_viable left one = let x = block_stmt_exact (stmts_below left) left (sound_stmts_below left) (low_stmts left) (viable_stmts left) one in x.viable
