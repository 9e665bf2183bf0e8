-- Where a statement that begins with no word of its own stops, what it took goes on to one that is low enough. Where none is, nothing is taken.
use Rattle.std.proofs.Common.{◌≡◌, ℕ, ◌+◌, ◌-◌, ◌≤◌, arith, Bool, true, false, List, [], ◌∷◌, ◌++◌, refl, sym, subst, append_assoc, ◌⊎◌, inl, inr}
use Rattle.std.proofs.lemmas.List.{append-nil}
use Rattle.std.proofs.lemmas.Bool.{leb-true}
use Rattle.ix_text.specs.declared.span.Span.{Span}
use Rattle.ix_lexer.specs.declared.token.Token.{Token}
use Rattle.ix_lexer.specs.declared.fixed.TheConstants.{FINAL, INT, BOOLEAN, AT, DOT, OPEN_PAREN, CLOSE_PAREN, OPEN_BRACKET, CLOSE_BRACKET}
use Rattle.ix_tree.specs.declared.annot.Ident.{Ident}
use Rattle.ix_tree.specs.declared.annot.BaseTree.{BaseTree}
use Rattle.ix_tree.specs.declared.annot.BaseTree.TheVariants.{Int, Boolean, Named}
use Rattle.ix_grammar.specs.declared.declarations.FoundMods.{FoundMods}
use Rattle.ix_grammar.specs.declared.declarations.Word.TheVariants.{Final}
use Rattle.ix_grammar.specs.declared.found.At.{At}
use Rattle.ix_grammar.specs.declared.found.Found.{Found}
use Rattle.ix_grammar.specs.declared.found.FoundType.{FoundType}
use Rattle.ix_grammar_rules.specs.declared.begun.Begun.{Begun}
use Rattle.ix_grammar_rules.specs.declared.begun.Begun.TheVariants.{Local, Run, Print}
use Rattle.ix_grammar_rules.specs.Rule.{Rule, take, bind, Done}
use Rattle.ix_grammar.specs.Patterns.{sign, name_token}
use Rattle.ix_grammar.specs.Lists.{first_item, no_item, one_more}
use Rattle.ix_grammar.specs.AnnotGrammar.{no_notes, bare}
use Rattle.ix_grammar.specs.TypeGrammar as types
use Rattle.ix_grammar.specs.TypeGrammar.{based, counted, array_of, plain_type, IsType}
use Rattle.ix_grammar_rules.specs.TypeRules.{noted_array, type_rest}
use Rattle.ix_grammar.specs.DeclGrammar as decl
use Rattle.ix_grammar.specs.DeclGrammar.{no_mods, with_word, with_annot, local_words, shared, plain_decl, one_decl, IsMods}
use Rattle.ix_grammar_rules.specs.DeclRules.{next_mod}
use Rattle.ix_grammar.specs.ExprNodes.{named, selected, called, called_on, no_exprs, all_args}
use Rattle.ix_grammar_rules.specs.ExprRules.{init}
use Rattle.ix_grammar.specs.ExprGrammar as e
use Rattle.ix_grammar.specs.ExprGrammar.{Primary, IsExpr, IsInit, IsStatementExpr}
use Rattle.ix_grammar.specs.StmtGrammar as g
use Rattle.ix_grammar.specs.StmtGrammar.{SYSTEM, OUT, PRINTLN, word_token, IsLocal}
use Rattle.ix_grammar_rules.specs.StmtRules.{a_word, declared, named_type, typed, modified, local_or, named_first, println_part, out_part, system_part, print_or, begun}
use Rattle.ix_grammar_rules.proofs.SoundRules.{After}
use Rattle.ix_grammar_rules.proofs.ListsSound.{fits_sound}
use Rattle.ix_grammar_rules.proofs.AnnotSound.{annot_behind_sound}
use Rattle.ix_grammar_rules.proofs.TypeSound.{RestOf, type_sound, rest_fits, noted_array_sound}
use Rattle.ix_grammar_rules.proofs.DeclSound.{Modified, next_mod_sound, decls_sound}
use Rattle.ix_grammar_rules.proofs.Follows.{tall}
use Rattle.ix_grammar_rules.proofs.StmtSound.{init_both, word_is, word_name, the_word, word_sound, IsPrint}
use Rattle.ix_grammar_rules.proofs.ViableRules.{Goes, Viable, Nothing, nothing_bind, take_viable}
use Rattle.ix_grammar_rules.proofs.ListsViable.{here, some_name}
use Rattle.ix_grammar_rules.proofs.AnnotViable.{annot_behind_goes, annot_behind_viable}
use Rattle.ix_grammar_rules.proofs.TypeViable.{type_goes, type_viable, rest_fits_viable, noted_array_viable}
use Rattle.ix_grammar_rules.proofs.DeclViable.{next_mod_viable, decls_viable}
use Rattle.ix_grammar_rules.proofs.ExactRules.{Exact, exact_more, pure_exact, stop_exact, bind_exact, map_exact, turns_exact, sign_exact, name_exact, must_name, nothing_take}
use Rattle.ix_grammar_rules.proofs.ExprExact.{Prim, pairs_exact, statement_of_level}
use Rattle.ix_grammar_rules.proofs.ExprViable.{below_false, init_viable, nothing_statement}
use Rattle.ix_grammar_rules.proofs.RunViable as runs

-- ---- where there is no room

module _ (left : ℕ) where
  local_or_nothing : (locals : Bool) (other : Rule Begun) → left ≤ 2 → Nothing other → Nothing (local_or locals left other)
  unfolding local_or
  local_or_nothing false other le n = n
  local_or_nothing true other le n = let three = below_false 3 left (omega (arith, le)) in
      nothing_take _ _ _ _ three (nothing_take _ _ _ _ (below_false 4 left (omega (arith, le))) (nothing_take _ _ _ _ three (nothing_take _ _ _ _ three n)))

  print_or_nothing : (prints locals : Bool) (other : Rule Begun) → (prints ≡ true → left ≤ 1) → Nothing other → Nothing (print_or prints locals left other)
  unfolding print_or
  print_or_nothing false locals other le n = n
  print_or_nothing true locals other le n = nothing_take _ _ _ _ (below_false 2 left (let one = le refl in omega (arith, one))) n

  pub begun_nothing : (prints locals : Bool) → left ≤ 2 → (prints ≡ true → left ≤ 1) → Nothing (begun prints locals left)
  unfolding begun
  begun_nothing prints locals le one = local_or_nothing locals _ le (print_or_nothing prints locals _ one (nothing_take _ _ _ _ (below_false 3 left (omega (arith, le)))
      (nothing_bind _ _ (nothing_statement (left - 1) (omega (arith, le))))))

-- ---- a certain word

word_viable : {A : Type 0} {R : List Token → A → Type 0} (text : List ℕ) (fits : Bool) (p : Ident → Rule A) (q : Rule A) → (fits ≡ false → Goes R [])
    → (fits ≡ true → (s : Span) → Viable (λ seen a. R (word_token text s ∷ seen) a) (p (the_word text s))) → Viable R q → Viable R (take (a_word text) fits p q)
word_viable {R = R} text fits p q g vp vq = take_viable (a_word text) fits p q g (λ t x f e.
    let is : t ≡ word_token text x.span = word_is text t.kind t.span x e in
    let same : x ≡ the_word text x.span = word_name text t.kind t.span x e in
    subst (λ y. Viable (λ seen a. R (t ∷ seen) a) (p y)) (sym same) (subst (λ u. Viable (λ seen a. R (u ∷ seen) a) (p (the_word text x.span))) (sym is) (vp f x.span))) vq

word_exact : {A : Type 0} {R : List Token → A → Type 0} (text : List ℕ) (fits : Bool) (p : Ident → Rule A) (q : Rule A)
    → (fits ≡ true → (s : Span) → Exact (λ seen a. R (word_token text s ∷ seen) a) (p (the_word text s))) → Exact R q → Exact R (take (a_word text) fits p q)
word_exact text fits p q ep eq = record {
  sound = fits_sound (a_word text) fits p q (λ f. word_sound text true p q (λ s. let x = ep f s in x.sound) eq.sound) eq.sound;
  viable = word_viable text fits p q (λ f. eq.goes) (λ f s. let x = ep f s in x.viable) eq.viable;
  goes = eq.goes;
}

-- ---- what begins with no word of its own

-- Whether it may be the print statement, whether it may declare locals, and how high the statement may be.
abbrev pub Beg : Bool → Bool → ℕ → List Token → Begun → Type 0
Beg prints locals left ts (Local mods ty found) = (locals ≡ true) × IsLocal ts mods ty found × (found.height + 1 ≤ left)
Beg prints locals left ts (Run f) = IsStatementExpr ts f × (f.height + 1 ≤ left)
Beg prints locals left ts (Print system) = (prints ≡ true) × IsPrint ts system × (2 ≤ left)

module _ (prints locals : Bool) (left : ℕ) where
  abbrev Begins : List Token → Begun → Type 0
  Begins = Beg prints locals left

  -- ---- declarations

  -- behind what is in front: modifiers and a type
  declared_exact : locals ≡ true → (first second : List Token) (mods : FoundMods) (ty : FoundType) (x : Ident) → IsMods local_words first mods → IsType second ty → mods.height + 2 ≤ left → ty.height + 2 ≤ left → 3 ≤ left
      → Exact (λ ts r. Begins (first ++ (second ++ (name_token x ∷ ts))) r) (declared left mods ty x)
  unfolding declared
  declared_exact may first second mods ty x m t a b c = map_exact _ _ (record {
    sound = decls_sound IsInit init init_both (left - 1) (shared mods ty) x (omega (arith, a, b, c));
    viable = decls_viable IsInit init init_both init_viable (left - 1) (shared mods ty) x (omega (arith, c)) (omega (arith, a, b, c));
    goes = ([], one_decl (plain_decl (shared mods ty) x), (first_item (decl.plain x), omega (arith, a, b, c)));
  }) (λ found us d. (may, g.local m t d.0, omega (arith, d.1, c)))

  named_type_exact : locals ≡ true → (first second : List Token) (mods : FoundMods) (ty : FoundType) → IsMods local_words first mods → IsType second ty → mods.height + 2 ≤ left → ty.height + 2 ≤ left → 3 ≤ left
      → Exact (λ ts r. Begins (first ++ (second ++ ts)) r) (named_type left mods ty)
  unfolding named_type
  named_type_exact may first second mods ty m t a b c = must_name _ (λ x. declared_exact may first second mods ty x m t a b c)

  typed_exact : locals ≡ true → (first : List Token) (mods : FoundMods) → IsMods local_words first mods → mods.height + 2 ≤ left → 3 ≤ left → Exact (λ ts r. Begins (first ++ ts) r) (typed left mods)
  unfolding typed
  typed_exact may first mods m a c = bind_exact _ _ (record { sound = type_sound (left - 2); viable = type_viable (left - 2) (omega (arith, c)); goes = type_goes (left - 2) (omega (arith, c)) })
      (λ ty seen d. named_type_exact may first seen mods ty m d.0 a (omega (arith, d.1, c)) c)

  modified_exact : locals ≡ true → (front : List Token) (mods : FoundMods) → Modified local_words (left - 2) front mods → 3 ≤ left → Exact (λ ts r. Begins (front ++ ts) r) (modified left mods)
  unfolding modified
  modified_exact may front mods d c = bind_exact _ _ (turns_exact (next_mod local_words (left - 2)) (Modified local_words (left - 2)) next_exact mods front d)
      (λ all seen m. exact_more _ (λ ts r b. subst (λ y. Begins y r) (append_assoc front seen ts) b) (typed_exact may (front ++ seen) all m.0 (omega (arith, m.1, c)) c))
    where
      next_exact : (found : FoundMods) (before : List Token) → Modified local_words (left - 2) before found → Exact (After (Modified local_words (left - 2)) (Modified local_words (left - 2)) before) (next_mod local_words (left - 2) found)
      next_exact found before m = record {
        sound = next_mod_sound local_words (left - 2) found before m;
        viable = next_mod_viable local_words (left - 2) found before m;
        goes = ([], Done found, subst (λ y. Modified local_words (left - 2) y found) (sym (append-nil before)) m);
      }

  plain_exact : locals ≡ true → (token : Token) (base : At BaseTree) → types.IsBase (token ∷ []) base → 1 + types.base_height base.value ≤ left - 2 → 3 ≤ left
      → Exact (λ ts r. Begins (token ∷ ts) r) (bind (type_rest (left - 2) base) (named_type left no_mods))
  plain_exact may token base b h c = bind_exact _ _ (record { sound = rest_fits (left - 2) base h; viable = rest_fits_viable (left - 2) base h; goes = ([], plain_type base, (types.no_rest, h)) })
      (λ ty seen d. named_type_exact may [] (token ∷ seen) no_mods ty decl.none (types.type b d.0) (omega (arith, c)) (omega (arith, d.1, c)) c)

  local_or_exact : (c : Bool) (other : Rule Begun) → locals ≡ c → Exact Begins other → Exact Begins (local_or c left other)
  unfolding local_or
  local_or_exact false other may o = o
  local_or_exact true other may o = sign_exact FINAL _ _ _ (λ f s. modified_exact may (sign FINAL s ∷ []) (with_word no_mods Final s) (decl.word FINAL s refl decl.none, omega arith) (leb-true 3 left f))
      (sign_exact AT _ _ _ (λ f at. bind_exact _ _ (record {
        sound = annot_behind_sound (left - 2) at (omega (arith, leb-true 4 left f));
        viable = annot_behind_viable (left - 2) at (omega (arith, leb-true 4 left f));
        goes = annot_behind_goes (left - 2) at (omega (arith, leb-true 4 left f));
      }) (λ n seen d. modified_exact may (sign AT at ∷ seen) (with_annot no_mods n) (decl.annot decl.none d.0, omega (arith, d.1)) (omega (arith, leb-true 4 left f))))
      (sign_exact INT _ _ _ (λ f s. plain_exact may (sign INT s) (based Int s) (types.int s) (omega (arith, leb-true 3 left f)) (leb-true 3 left f))
      (sign_exact BOOLEAN _ _ _ (λ f s. plain_exact may (sign BOOLEAN s) (based Boolean s) (types.boolean s) (omega (arith, leb-true 3 left f)) (leb-true 3 left f)) o)))

  -- ---- what a name begins

  run_begins : (ts : List Token) (f : Found) → IsStatementExpr ts f → f.height + 1 ≤ left → Begins ts (Run f)
  run_begins ts f d le = (d, le)

  -- Behind a bracket: a type, which is lower than an assignment to an element.
  array_goes : locals ≡ true → (x : Ident) (o : Span) → 4 ≤ left → Goes (λ ts r. Begins (name_token x ∷ sign OPEN_BRACKET o ∷ ts) r) []
  array_goes may x o four = (
    sign CLOSE_BRACKET here ∷ name_token some_name ∷ [],
    Local no_mods (array_of (based (Named x) x.span) no_notes (counted 1 here)) (one_decl (plain_decl (shared no_mods (array_of (based (Named x) x.span) no_notes (counted 1 here))) some_name)),
    (may, g.local decl.none (types.type (types.named x) (types.array no_item (types.pair o here))) (first_item (decl.plain some_name)), omega (arith, four)),
  )

  named_first_exact : (c : Bool) (x : Ident) → locals ≡ c → Goes (λ ts r. Begins (name_token x ∷ ts) r) [] → Exact (λ ts r. Begins (name_token x ∷ ts) r) (named_first c left x)
  unfolding named_first
  named_first_exact false x may goes = runs.run_named_exact left Begins run_begins x goes
  named_first_exact true x may goes = sign_exact OPEN_BRACKET _ _ _
      (λ f o. sign_exact CLOSE_BRACKET true _ _ (λ t r. bind_exact _ _ (pairs_exact o r)
      (λ found seen p. named_type_exact may [] (name_token x ∷ sign OPEN_BRACKET o ∷ sign CLOSE_BRACKET r ∷ seen) no_mods (array_of (based (Named x) x.span) no_notes found) decl.none (types.type (types.named x) (types.array no_item p)) (omega (arith, leb-true 4 left f)) (omega (arith, leb-true 4 left f)) (omega (arith, leb-true 4 left f))))
      (runs.indexed_exact left Begins run_begins x o (array_goes may x o (leb-true 4 left f))))
      (sign_exact AT _ _ _ (λ f at. bind_exact _ _ (noted_exact x at (leb-true 5 left f))
      (λ ty seen d. named_type_exact may [] (name_token x ∷ sign AT at ∷ seen) no_mods ty decl.none (types.type (types.named x) d.0) (omega (arith, leb-true 5 left f)) (omega (arith, d.1, leb-true 5 left f)) (omega (arith, leb-true 5 left f))))
      (name_exact _ _ _ (λ f y. declared_exact may [] (name_token x ∷ []) no_mods (plain_type (based (Named x) x.span)) y decl.none (types.type (types.named x) types.no_rest) (omega (arith, leb-true 4 left f)) (omega (arith, leb-true 4 left f)) (omega (arith, leb-true 4 left f)))
      (runs.run_named_exact left Begins run_begins x goes)))
    where
      noted_exact : (x : Ident) (at : Span) → 5 ≤ left → Exact (λ ts ty. RestOf (left - 2) (based (Named x) x.span) (sign AT at ∷ ts) ty) (noted_array (left - 2) (based (Named x) x.span) at)
      noted_exact x at five = record {
        sound = noted_array_sound (left - 2) (based (Named x) x.span) at (omega (arith, five));
        viable = noted_array_viable (left - 2) (based (Named x) x.span) at (omega (arith, five));
        goes = (name_token some_name ∷ sign OPEN_BRACKET here ∷ sign CLOSE_BRACKET here ∷ [], _, (types.array (one_more no_item (bare at some_name)) (types.pair here here), omega (arith, five)));
      }

-- ---- the print statement, which is as low as any that begins so

module _ (locals : Bool) (left : ℕ) (two : 2 ≤ left) where
  abbrev MaybePrint : List Token → Begun → Type 0
  MaybePrint = Beg true locals left

  -- a call behind an expression, a dot and a name
  field_call : (f : Found) (front : List Token) (dot : Span) (y : Ident) → IsExpr Primary front f → f.height + 2 ≤ left → Goes (λ ts r. MaybePrint (front ++ (sign DOT dot ∷ name_token y ∷ ts)) r) []
  field_call f front dot y d le = (
    sign OPEN_PAREN here ∷ sign CLOSE_PAREN here ∷ [],
    Run (called_on f y (all_args no_exprs here)),
    (statement_of_level _ _ (e.primary (e.call_on dot y d (e.no_args here here))) refl, omega (arith, le, tall d)),
  )

  println_exact : (system dot out second println : Span)
      → Exact (λ ts r. MaybePrint (word_token SYSTEM system ∷ sign DOT dot ∷ word_token OUT out ∷ sign DOT second ∷ word_token PRINTLN println ∷ ts) r) (println_part left (the_word SYSTEM system) (the_word OUT out) (the_word PRINTLN println))
  unfolding println_part
  println_exact system dot out second println = sign_exact OPEN_PAREN true _ _ (λ t o. pure_exact _ (refl, record { dot = dot; out = out; second = second; println = println; left = o; is = refl }, two))
      (runs.field_exact left MaybePrint (run_begins true locals left) (selected (named (the_word SYSTEM system)) (the_word OUT out)) (word_token SYSTEM system ∷ sign DOT dot ∷ word_token OUT out ∷ []) second (the_word PRINTLN println)
      (e.select dot (the_word OUT out) (e.variable (the_word SYSTEM system)))
      (sign OPEN_PAREN here ∷ [], Print system, (refl, record { dot = dot; out = out; second = second; println = println; left = here; is = refl }, two)))

  out_exact : (system dot out : Span) → Exact (λ ts r. MaybePrint (word_token SYSTEM system ∷ sign DOT dot ∷ word_token OUT out ∷ ts) r) (out_part left (the_word SYSTEM system) (the_word OUT out))
  unfolding out_part
  out_exact system dot out = sign_exact DOT true _ _
      (λ t second. word_exact PRINTLN true _ _ (λ u println. println_exact system dot out second println)
      (name_exact _ _ _ (λ f y. runs.field_exact left MaybePrint (run_begins true locals left) (selected (named (the_word SYSTEM system)) (the_word OUT out)) (word_token SYSTEM system ∷ sign DOT dot ∷ word_token OUT out ∷ []) second y
      (e.select dot (the_word OUT out) (e.variable (the_word SYSTEM system)))
      (field_call (selected (named (the_word SYSTEM system)) (the_word OUT out)) (word_token SYSTEM system ∷ sign DOT dot ∷ word_token OUT out ∷ []) second y (e.select dot (the_word OUT out) (e.variable (the_word SYSTEM system))) (omega (arith, leb-true 5 left f))))
      (stop_exact (word_token PRINTLN here ∷ sign OPEN_PAREN here ∷ [], Print system, (refl, record { dot = dot; out = out; second = second; println = here; left = here; is = refl }, two)))))
      (runs.field_exact left MaybePrint (run_begins true locals left) (named (the_word SYSTEM system)) (word_token SYSTEM system ∷ []) dot (the_word OUT out) (e.variable (the_word SYSTEM system))
      (sign DOT here ∷ word_token PRINTLN here ∷ sign OPEN_PAREN here ∷ [], Print system, (refl, record { dot = dot; out = out; second = here; println = here; left = here; is = refl }, two)))

  system_exact : (system : Span) → Exact (λ ts r. MaybePrint (word_token SYSTEM system ∷ ts) r) (system_part locals left (the_word SYSTEM system))
  unfolding system_part
  system_exact system = sign_exact DOT true _ _
      (λ t dot. word_exact OUT true _ _ (λ u out. out_exact system dot out)
      (name_exact _ _ _ (λ f y. runs.field_exact left MaybePrint (run_begins true locals left) (named (the_word SYSTEM system)) (word_token SYSTEM system ∷ []) dot y (e.variable (the_word SYSTEM system))
      (field_call (named (the_word SYSTEM system)) (word_token SYSTEM system ∷ []) dot y (e.variable (the_word SYSTEM system)) (omega (arith, leb-true 4 left f))))
      (stop_exact (word_token OUT here ∷ sign DOT here ∷ word_token PRINTLN here ∷ sign OPEN_PAREN here ∷ [], Print system, (refl, record { dot = dot; out = here; second = here; println = here; left = here; is = refl }, two)))))
      (named_first_exact true locals left locals (the_word SYSTEM system) refl
      (sign DOT here ∷ word_token OUT here ∷ sign DOT here ∷ word_token PRINTLN here ∷ sign OPEN_PAREN here ∷ [], Print system, (refl, record { dot = here; out = here; second = here; println = here; left = here; is = refl }, two)))

-- Room for such a beginning: the print statement is the lowest.
abbrev pub Roomy : Bool → ℕ → Type 0
Roomy prints left = (3 ≤ left) ⊎ ((prints ≡ true) × (2 ≤ left))

module _ (prints locals : Bool) (left : ℕ) where
  begins_goes : Roomy prints left → Goes (Beg prints locals left) []
  begins_goes (inl three) = (
    name_token some_name ∷ sign OPEN_PAREN here ∷ sign CLOSE_PAREN here ∷ [],
    Run (called some_name (all_args no_exprs here)),
    (statement_of_level _ _ (e.primary (e.call some_name (e.no_args here here))) refl, omega (arith, three)),
  )
  begins_goes (inr (may, two)) = (
    word_token SYSTEM here ∷ sign DOT here ∷ word_token OUT here ∷ sign DOT here ∷ word_token PRINTLN here ∷ sign OPEN_PAREN here ∷ [],
    Print here,
    (may, record { dot = here; out = here; second = here; println = here; left = here; is = refl }, two),
  )

  call_goes : (x : Ident) → 3 ≤ left → Goes (λ ts r. Beg prints locals left (name_token x ∷ ts) r) []
  call_goes x three = (sign OPEN_PAREN here ∷ sign CLOSE_PAREN here ∷ [], Run (called x (all_args no_exprs here)), (statement_of_level _ _ (e.primary (e.call x (e.no_args here here))) refl, omega (arith, three)))

  print_or_exact : (c : Bool) (other : Rule Begun) → prints ≡ c → Exact (Beg prints locals left) other → Exact (Beg prints locals left) (print_or c locals left other)
  unfolding print_or
  print_or_exact false other may o = o
  print_or_exact true other may o = word_exact SYSTEM _ _ _ (λ f s. subst (λ c. Exact (λ ts r. Beg c locals left (word_token SYSTEM s ∷ ts) r) (system_part locals left (the_word SYSTEM s))) (sym may) (system_exact locals left (leb-true 2 left f) s)) o

  pub begun_exact : Roomy prints left → Exact (Beg prints locals left) (begun prints locals left)
  unfolding begun
  begun_exact fit = local_or_exact prints locals left locals _ refl (print_or_exact prints _ refl (name_exact _ _ _ (λ f x. named_first_exact prints locals left locals x refl (call_goes x (leb-true 3 left f))) (runs.run_expr_exact left (Beg prints locals left) (run_begins prints locals left) (begins_goes fit))))
