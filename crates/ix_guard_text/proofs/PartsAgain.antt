-- Parts of two trees that are the same up to places, at scopes that are the same but for the places of fields and methods: what they say, for an
-- induction over both trees.
use Rattle.std.proofs.Common.{◌≡◌, ℕ, zero, suc, List, [], ◌∷◌, ◌++◌, map, Option, Some, slice_get, refl, sym, ap, ap₂, ◌∙◌, subst}
use Rattle.ix_core.specs.declared.claim.Type_.{Type_}
use Rattle.ix_tree.specs.declared.decl.Member.{Member}
use Rattle.ix_tree.specs.declared.expr.Expr.{Expr}
use Rattle.ix_tree.specs.declared.expr.Init.{Init}
use Rattle.ix_tree.specs.declared.stmt.Stmt.{Stmt}
use Rattle.ix_meaning.specs.declared.note.Note.{Note}
use Rattle.ix_meaning.specs.Bodies.{Telling, telling, all_told, after}
use Rattle.ix_meaning.specs.Scope.{Scope}
use Rattle.ix_meaning.specs.Source.{Place, one_member}
use Rattle.ix_meaning.specs.Types.{Need, Judged}
use Rattle.ix_meaning.specs.Values.{Reading, Received, reading, filling, check}
use Rattle.ix_guard_text.specs.Bare.{bare_expr, bare_init, bare_stmt, bare_member}
use Rattle.ix_guard_text.proofs.NotesMove.{MovedJudged}
use Rattle.ix_guard_text.proofs.ExpressionsMove.{MovedReceived, check_moves, expression_moves, initialiser_moves}
use Rattle.ix_guard_text.proofs.StatementsMove.{MovedTelling, after_moved, statement_moves, body_moves}
use Rattle.ix_guard_text.proofs.MembersMove.{one_moves}
use Rattle.ix_guard_text.specs.Alike.{bare_note, AreAlike}
use Rattle.ix_guard_text.specs.Gathered.{gathered, bare_scope, bare_place}
use Rattle.ix_guard_text.specs.Same.{AllPairs}
use Rattle.ix_guard_text.proofs.NotesAlike.{flipped, chained, alike, SameJudged}

-- ---- expressions

judged_again : (j k l m : Judged) → MovedJudged gathered j k → k ≡ m → MovedJudged gathered l m → SameJudged j l
judged_again j k l m x e y = record {
  ty = x.ty ∙ ap (λ (n : Judged). n.ty) e ∙ sym y.ty;
  notes = chained (subst (λ (n : Judged). AreAlike j.notes n.notes) e (alike j.notes k.notes x.notes)) (flipped (alike l.notes m.notes y.notes));
}

-- Before a dot stands the same, up to places.
pub record SameReceived (a b : Received) : Type 0 where
  pub object : a.object ≡ b.object
  pub notes : AreAlike a.notes b.notes

received_again : (a b c d : Received) → MovedReceived gathered a b → b ≡ d → MovedReceived gathered c d → SameReceived a c
received_again a b c d x e y = record {
  object = x.object ∙ ap (λ (r : Received). r.object) e ∙ sym y.object;
  notes = chained (subst (λ (r : Received). AreAlike a.notes r.notes) e (alike a.notes b.notes x.notes)) (flipped (alike c.notes d.notes y.notes));
}

module _ (e f : Expr) (same : bare_expr e ≡ bare_expr f) (s t : Scope) (scopes : bare_scope s ≡ bare_scope t) where
  at_both : {A : Type 0} (of : Reading → Scope → A) → of (reading (bare_expr e)) (bare_scope s) ≡ of (reading (bare_expr f)) (bare_scope t)
  at_both of = ap₂ (λ (x : Expr) (z : Scope). of (reading x) z) same scopes

  -- as a value
  pub value_again : SameJudged ((reading e).judge s) ((reading f).judge t)
  value_again = judged_again _ _ _ _ ((expression_moves gathered e).judge s) (at_both (λ r z. r.judge z)) ((expression_moves gathered f).judge t)

  -- as the target of an assignment
  pub target_again : SameJudged ((reading e).assigned s) ((reading f).assigned t)
  target_again = judged_again _ _ _ _ ((expression_moves gathered e).assigned s) (at_both (λ r z. r.assigned z)) ((expression_moves gathered f).assigned t)

  -- before a dot
  pub receiver_again : SameReceived ((reading e).receiver s) ((reading f).receiver t)
  receiver_again = received_again _ _ _ _ ((expression_moves gathered e).receiver s) (at_both (λ r z. r.receiver z)) ((expression_moves gathered f).receiver t)

  -- where a place needs something
  pub needed_again : (need : Need) → SameJudged (check (reading e) s need) (check (reading f) t need)
  needed_again need =
      judged_again _ _ _ _ (check_moves gathered (reading e) (reading (bare_expr e)) (expression_moves gathered e) s need) (at_both (λ r z. check r z need))
      (check_moves gathered (reading f) (reading (bare_expr f)) (expression_moves gathered f) t need)

pub initialiser_again : (i j : Init) → bare_init i ≡ bare_init j → (s t : Scope) → bare_scope s ≡ bare_scope t → (ty : Option Type_) → AreAlike (filling i s ty) (filling j t ty)
initialiser_again i j same s t scopes ty =
    let equal : filling (bare_init i) (bare_scope s) ty ≡ filling (bare_init j) (bare_scope t) ty = ap₂ (λ (x : Init) (z : Scope). filling x z ty) same scopes in
    chained (subst (AreAlike (filling i s ty)) equal (alike _ _ ((initialiser_moves gathered i).at s ty))) (flipped (alike _ _ ((initialiser_moves gathered j).at t ty)))

-- ---- statements

-- Statements do the same, and the scopes behind them are the same.
pub record ToldAgain (t u : Telling) (s z : Scope) : Type 0 where
  pub notes : AreAlike (t.notes s) (u.notes z)
  pub behind : bare_scope (after t s) ≡ bare_scope (after u z)

told_again : (t b u c : Telling) → MovedTelling gathered t b → b ≡ c → MovedTelling gathered u c → (s z : Scope) → bare_scope s ≡ bare_scope z → ToldAgain t u s z
told_again t b u c x e y s z scopes = record {
  notes = chained (subst (AreAlike (t.notes s)) (ap₂ (λ (v : Telling) (w : Scope). v.notes w) e scopes) (alike _ _ (x.notes s))) (flipped (alike _ _ (y.notes z)));
  behind = after_moved gathered t b x s ∙ ap₂ (λ (v : Telling) (w : Scope). after v w) e scopes ∙ sym (after_moved gathered u c y z);
}

pub statement_again : (x y : Stmt) → bare_stmt x ≡ bare_stmt y → (s t : Scope) → bare_scope s ≡ bare_scope t → ToldAgain (telling x) (telling y) s t
statement_again x y same s t scopes = told_again _ _ _ _ (statement_moves gathered x) (ap telling same) (statement_moves gathered y) s t scopes

pub body_again : (xs ys : List Stmt) → map bare_stmt xs ≡ map bare_stmt ys → (s t : Scope) → bare_scope s ≡ bare_scope t → ToldAgain (all_told (map telling xs)) (all_told (map telling ys)) s t
body_again xs ys same s t scopes = told_again _ _ _ _ (body_moves gathered xs) (ap (λ (zs : List Stmt). all_told (map telling zs)) same) (body_moves gathered ys) s t scopes

-- ---- members

pub member_again : (l k : Place) → bare_place l ≡ bare_place k → (next : ℕ) (m n : Member) → bare_member m ≡ bare_member n → AreAlike (one_member l next m) (one_member k next n)
member_again l k places next m n same =
    let equal : one_member (bare_place l) next (bare_member m) ≡ one_member (bare_place k) next (bare_member n) = ap₂ (λ (p : Place) (x : Member). one_member p next x) places same in
    chained (subst (AreAlike (one_member l next m)) equal (alike _ _ (one_moves gathered l next m))) (flipped (alike _ _ (one_moves gathered k next n)))

-- ---- parts of lists of notes

pub alike_parts : (xs us ys vs : List Note) → map bare_note xs ≡ map bare_note us → (R : Note → Note → Type 0) → AllPairs R (xs ++ ys) (us ++ vs) → AllPairs R xs us × AllPairs R ys vs
alike_parts [] [] ys vs e R all = (tt, all)
alike_parts [] (u ∷ us) ys vs e R all = absurd cc
alike_parts (x ∷ xs) [] ys vs e R all = absurd cc
alike_parts (x ∷ xs) (u ∷ us) ys vs e R all =
    let later : map bare_note xs ≡ map bare_note us = cc in
    let rest = alike_parts xs us ys vs later R all.1 in
    ((all.0, rest.0), rest.1)

-- each note with the note of its number
pub alike_pairs : (ns ms : List Note) → map bare_note ns ≡ map bare_note ms → AllPairs (λ n m. bare_note n ≡ bare_note m) ns ms
alike_pairs [] [] e = tt
alike_pairs [] (m ∷ ms) e = absurd cc
alike_pairs (n ∷ ns) [] e = absurd cc
alike_pairs (n ∷ ns) (m ∷ ms) e =
    let here : bare_note n ≡ bare_note m = cc in
    let later : map bare_note ns ≡ map bare_note ms = cc in
    (here, alike_pairs ns ms later)

pub pair_at : {A : Type 0} (R : A → A → Type 0) (xs ys : List A) → AllPairs R xs ys → (i : ℕ) (x : A) → slice_get xs i ≡ Some x → (y : A) × (slice_get ys i ≡ Some y) × R x y
pair_at R [] [] all i x e = absurd cc
pair_at R [] (y ∷ ys) all i x e = absurd all
pair_at R (z ∷ xs) [] all i x e = absurd all
pair_at R (z ∷ xs) (y ∷ ys) all zero x e = let same : z ≡ x = cc in (y, refl, subst (λ w. R w y) same all.0)
pair_at R (z ∷ xs) (y ∷ ys) all (suc i) x e = pair_at R xs ys all.1 i x e
