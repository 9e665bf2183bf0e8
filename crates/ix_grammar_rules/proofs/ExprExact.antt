-- What the rules of expressions read is in the grammar and low enough, and where they stop, what they took goes on.
use Rattle.std.proofs.Common.{◌≡◌, ℕ, zero, suc, ◌+◌, ◌-◌, ◌<◌, ◌≤◌, arith, max, true, List, [], ◌∷◌, ◌++◌, refl, sym, subst, append_assoc, ◌⊎◌, inl, inr}
use Rattle.std.proofs.lemmas.List.{append-nil}
use Rattle.std.proofs.lemmas.Bool.{leb-true}
use Rattle.ix_text.specs.declared.span.Span.{Span}
use Rattle.ix_lexer.specs.declared.token.Token.{Token}
use Rattle.ix_lexer.specs.declared.fixed.TheConstants.{NEW, INT, BOOLEAN, AT, DOT, COMMA, OPEN_PAREN, CLOSE_PAREN, OPEN_BRACKET, CLOSE_BRACKET, OPEN_BRACE, CLOSE_BRACE}
use Rattle.ix_tree.specs.declared.annot.BaseTree.{BaseTree}
use Rattle.ix_tree.specs.declared.annot.BaseTree.TheVariants.{Int, Boolean, Named}
use Rattle.ix_tree.specs.declared.annot.Ident.{Ident}
use Rattle.ix_grammar_rules.specs.declared.aims.Aim.{Aim}
use Rattle.ix_grammar_rules.specs.declared.aims.Aim.TheVariants as aim
use Rattle.ix_grammar.specs.declared.found.Args.{Args}
use Rattle.ix_grammar.specs.declared.found.At.{At}
use Rattle.ix_grammar.specs.declared.found.Form.{Form}
use Rattle.ix_grammar.specs.declared.found.Form.TheVariants as form
use Rattle.ix_grammar.specs.declared.found.Found.{Found}
use Rattle.ix_grammar.specs.declared.found.FoundInit.{FoundInit}
use Rattle.ix_grammar.specs.declared.found.FoundItems.{FoundItems}
use Rattle.ix_grammar.specs.declared.found.Notes.{Notes}
use Rattle.ix_grammar.specs.declared.found.Several.{Several}
use Rattle.ix_grammar_rules.specs.Rule.{Rule, pure, take, bind, stop, loop, On, Done}
use Rattle.ix_grammar.specs.Patterns.{sign, name_token, a_sign}
use Rattle.ix_grammar.specs.Lists.{no_item, one_more}
use Rattle.ix_grammar.specs.AnnotGrammar.{IsNotes, no_notes, with_note}
use Rattle.ix_grammar_rules.specs.AnnotRules.{annot_behind, annots_from}
use Rattle.ix_grammar.specs.TypeGrammar as types
use Rattle.ix_grammar.specs.TypeGrammar.{based, base_height, counted, IsBase, IsPairs}
use Rattle.ix_grammar_rules.specs.TypeRules.{next_pair, pairs}
use Rattle.ix_grammar.specs.ExprNodes.{named, selected, called, called_on, created, created_type, new_array, new_items, no_exprs, with_expr, all_args, no_inits, with_init, closed_by}
use Rattle.ix_grammar_rules.specs.ExprRules.{extra, Parts, Below, inner, inner_init, more_exprs, args, more_inits, items, creation, object_or_array, noted_array, noted, array, array_rest}
use Rattle.ix_grammar.specs.ExprGrammar as g
use Rattle.ix_grammar.specs.ExprGrammar.{IsMorePairs, Kind, Primary, Whole, Level, IsExpr, IsExprs, IsArgs, IsInit, IsInits, IsItems, IsStatementExpr}
use Rattle.ix_grammar_rules.proofs.AnnotSound.{Noted, NotedAll, annot_behind_sound, annots_from_sound}
use Rattle.ix_grammar_rules.proofs.AnnotViable.{annot_behind_goes, annot_behind_viable, annots_from_viable}
use Rattle.ix_grammar_rules.proofs.ExactRules.{Exact, exact_more, pure_exact, stop_exact, bind_exact, map_exact, nothing_exact, done_exact, loop_exact, turns_exact, sign_exact, name_exact, must_sign, end_sign, must_name}
use Rattle.ix_grammar_rules.proofs.ExprHeights.{extra_at_most}
use Rattle.ix_grammar_rules.proofs.ExprSound.{IsVariable}
use Rattle.ix_grammar_rules.proofs.Follows.{tall}
use Rattle.ix_grammar_rules.proofs.ListsViable.{here, some_name}
use Rattle.ix_grammar_rules.proofs.SoundRules.{After}
use Rattle.ix_grammar_rules.proofs.TypeSound.{pairs_sound}
use Rattle.ix_grammar_rules.proofs.TypeViable.{pairs_viable}
use Rattle.ix_grammar_rules.proofs.ViableRules.{Goes, Nothing, nothing_bind}

-- so much lower than what is left
abbrev pub Low : Kind → ℕ → ℕ → List Token → Found → Type 0
Low kind n left ts f = IsExpr kind ts f × (f.height + n ≤ left)

abbrev pub LowInit : ℕ → ℕ → List Token → FoundInit → Type 0
LowInit n left ts i = IsInit ts i × (i.height + n ≤ left)

-- ---- arguments

module _ (e : Rule Found) (n left : ℕ) where
  LowExprs : List Token → Several → Type 0
  LowExprs ts s = IsExprs ts s × (s.height + n ≤ left)

  abbrev LowArgs : Span → List Token → Args → Type 0
  LowArgs o ts a = IsArgs (sign OPEN_PAREN o ∷ ts) a × (a.height + n ≤ left)

  more_exprs_exact : Exact (Low Whole n left) e → (s : Several) (front : List Token) → LowExprs front s → Exact (After LowExprs LowExprs front) (more_exprs e s)
  unfolding more_exprs LowExprs
  more_exprs_exact x s front d = sign_exact COMMA true _ _ (λ t c. map_exact _ _ x (λ f us y. (g.and c d.0 y.0, omega (arith, d.1, y.1)))) (done_exact LowExprs LowExprs front s d)

  some_args_exact : (o : Span) → Exact (Low Whole n left) e → Exact (LowArgs o) (bind e (λ f. bind (loop (more_exprs e) (with_expr no_exprs f)) (λ s. take (a_sign CLOSE_PAREN) true (λ right. pure (all_args s right)) stop)))
  unfolding LowExprs
  some_args_exact o x = bind_exact _ _ x (λ f us y. bind_exact _ _ (turns_exact (more_exprs e) LowExprs (more_exprs_exact x) (with_expr no_exprs f) us (g.one y.0, omega (arith, y.1)))
      (λ s vs d. end_sign CLOSE_PAREN (all_args s) (λ right. (subst (λ y. IsArgs (sign OPEN_PAREN o ∷ y) (all_args s right)) (append_assoc us vs (sign CLOSE_PAREN right ∷ [])) (g.some_args o right d.0), d.1))))

  -- behind the opening parenthesis
  pub args_exact : (o : Span) → n ≤ left → Exact (Low Whole n left) e ⊎ Nothing e → Exact (LowArgs o) (args e)
  unfolding args
  args_exact o le (inl x) = sign_exact CLOSE_PAREN true _ _ (λ t right. pure_exact _ (g.no_args o right, omega (arith, le))) (some_args_exact o x)
  args_exact o le (inr x) = sign_exact CLOSE_PAREN true _ _ (λ t right. pure_exact _ (g.no_args o right, omega (arith, le))) (nothing_exact _ (nothing_bind _ _ x) (sign CLOSE_PAREN here ∷ [], all_args no_exprs here, (g.no_args o here, omega (arith, le))))

-- ---- the entries of an array

module _ (e : Rule FoundInit) (n left : ℕ) where
  LowInits : List Token → FoundItems → Type 0
  LowInits ts s = IsInits ts s × (s.height + n ≤ left)

  abbrev pub LowItems : List Token → FoundItems → Type 0
  LowItems ts s = IsItems ts s × (s.height + n ≤ left)

  more_inits_exact : Exact (LowInit n left) e → (s : FoundItems) (front : List Token) → LowInits front s → Exact (After LowInits LowItems front) (more_inits e s)
  unfolding more_inits LowInits
  more_inits_exact x s front d = sign_exact COMMA true _ _
      (λ t c. sign_exact CLOSE_BRACE true _ _ (λ u right. pure_exact _ (g.with_comma c right d.0, d.1)) (map_exact _ _ x (λ i us y. (g.later c d.0 y.0, omega (arith, d.1, y.1)))))
      (end_sign CLOSE_BRACE (λ right. Done (closed_by s right)) (λ right. (g.some_items right d.0, d.1)))

  some_items_exact : (o : Span) → Exact (LowInit n left) e → Exact LowItems (bind e (λ i. loop (more_inits e) (with_init (no_inits o) i)))
  unfolding LowInits
  some_items_exact o x = bind_exact _ _ x (λ i us y. loop_exact (more_inits e) LowInits LowItems (more_inits_exact x)
      (λ s front d. (sign CLOSE_BRACE here ∷ [], closed_by s here, (g.some_items here d.0, d.1))) (with_init (no_inits o) i) us (g.first y.0, omega (arith, y.1)))

  pub items_exact : (o : Span) → n ≤ left → Exact (LowInit n left) e ⊎ Nothing e → Exact LowItems (items e o)
  unfolding items
  items_exact o le (inl x) = sign_exact CLOSE_BRACE true _ _ (λ t right. pure_exact _ (g.no_items right, omega (arith, le))) (some_items_exact o x)
  items_exact o le (inr x) = sign_exact CLOSE_BRACE true _ _ (λ t right. pure_exact _ (g.no_items right, omega (arith, le))) (nothing_exact _ (nothing_bind _ _ x) (sign CLOSE_BRACE here ∷ [], no_inits here, (g.no_items here, omega (arith, le))))

-- ---- the rules of the parts

-- no part is low enough
pub record NoParts (p : Parts) : Type 0 where
  pub whole : Nothing p.whole
  pub level : (m : ℕ) → Nothing (p.level m)
  pub init : Nothing p.init

pub record ExactParts (n left : ℕ) (p : Parts) : Type 0 where
  pub whole : n < left → Exact (Low Whole n left) p.whole
  pub level : n < left → (m : ℕ) → Exact (Low (Level m) n left) (p.level m)
  pub variable : n + 1 < left → Exact (λ ts f. IsVariable ts f × (f.height + n ≤ left)) p.variable
  pub init : n < left → Exact (LowInit n left) p.init
  pub none : left ≤ n → NoParts p

pub record ExactBelow (left : ℕ) (b : Below) : Type 0 where
  pub lower : ExactParts 1 left b.lower
  pub lowest : ExactParts 2 left b.lowest

pub inner_exact : (left : ℕ) (b : Below) → ExactBelow left b → (n : ℕ) → n ≤ 1 → n + 1 < left → Exact (Low Whole (n + 1) left) (inner b n)
inner_exact left b l zero one lt = let p = l.lower in p.whole lt
inner_exact left b l (suc zero) one lt = let p = l.lowest in p.whole lt
inner_exact left b l (suc (suc n)) one lt = absurd (omega (arith, one))

pub inner_init_exact : (left : ℕ) (b : Below) → ExactBelow left b → (n : ℕ) → n ≤ 1 → n + 1 < left → Exact (LowInit (n + 1) left) (inner_init b n)
inner_init_exact left b l zero one lt = let p = l.lower in p.init lt
inner_init_exact left b l (suc zero) one lt = let p = l.lowest in p.init lt
inner_init_exact left b l (suc (suc n)) one lt = absurd (omega (arith, one))

-- ---- what a primary is read for

wide : (n : ℕ) (ts : List Token) (f : Found) → IsExpr (Level 0) ts f → IsExpr (Level n) ts f
wide zero ts f d = d
wide (suc n) ts f d = g.wider (wide n ts f d)

pub statement_of_level : (ts : List Token) (f : Found) → IsExpr (Level 0) ts f → f.form ≡ form.Statement → IsStatementExpr ts f
statement_of_level ts f d e = record { is = g.binary (wide 10 ts f d); form = e }

abbrev pub Wanted : Aim → ℕ → List Token → Found → Type 0
Wanted aim.Value left ts f = IsExpr Primary ts f × (f.height ≤ left)
Wanted aim.Statement left ts f = IsStatementExpr ts f × (f.height ≤ left)
Wanted aim.Variable left ts f = IsVariable ts f × (f.height ≤ left)

-- A primary that goes on to what it is read for, and is low enough where it is that.
pub record Prim (a : Aim) (left : ℕ) (ts : List Token) (f : Found) : Type 0 where
  pub is : IsExpr Primary ts f
  pub low : extra a f.form ≡ 0 → f.height ≤ left
  pub goes : Goes (Wanted a left) ts

-- behind a primary: `.x()` and `.x`
call_behind : (left : ℕ) (front : List Token) (f : Found) → IsExpr Primary front f → f.height + 1 ≤ left → Goes (Wanted aim.Statement left) front
call_behind left front f d le = (
  sign DOT here ∷ name_token some_name ∷ sign OPEN_PAREN here ∷ sign CLOSE_PAREN here ∷ [],
  called_on f some_name (all_args no_exprs here),
  (statement_of_level _ _ (g.primary (g.call_on here some_name d (g.no_args here here))) refl, omega (arith, le, tall d)),
)

field_behind : (left : ℕ) (front : List Token) (f : Found) → IsExpr Primary front f → f.height + 1 ≤ left → Goes (Wanted aim.Variable left) front
field_behind left front f d le = (sign DOT here ∷ name_token some_name ∷ [], selected f some_name, ((g.select here some_name d, refl), omega (arith, le, tall d)))

-- a primary with room for what it is read for
complete : (a : Aim) (left : ℕ) (front : List Token) (f : Found) (k : Form) → f.form ≡ k → IsExpr Primary front f → f.height + extra a k ≤ left → Goes (Wanted a left) front
complete aim.Value left front f k e d le = ([], f, (subst (λ y. IsExpr Primary y f) (sym (append-nil front)) d, omega (arith, le)))
complete aim.Statement left front f form.Statement e d le = ([], f, (statement_of_level _ _ (g.primary (subst (λ y. IsExpr Primary y f) (sym (append-nil front)) d)) e, omega (arith, le)))
complete aim.Statement left front f form.Variable e d le = call_behind left front f d le
complete aim.Statement left front f form.Array e d le = call_behind left front f d le
complete aim.Statement left front f form.Value e d le = call_behind left front f d le
complete aim.Variable left front f form.Variable e d le = ([], f, ((subst (λ y. IsExpr Primary y f) (sym (append-nil front)) d, e), omega (arith, le)))
complete aim.Variable left front f form.Statement e d le = field_behind left front f d le
complete aim.Variable left front f form.Array e d le = field_behind left front f d le
complete aim.Variable left front f form.Value e d le = field_behind left front f d le

pub prim_of : (a : Aim) (left : ℕ) (front : List Token) (f : Found) → IsExpr Primary front f → f.height + extra a f.form ≤ left → Prim a left front f
prim_of a left front f d le = record { is = d; low = λ e. omega (arith, le); goes = complete a left front f f.form refl d le }

-- a name, and a field, which may be as high as a call of that name
pub prim_name : (a : Aim) (left : ℕ) (x : Ident) → 2 ≤ left → Prim a left (name_token x ∷ []) (named x)
prim_name aim.Value left x two = prim_of aim.Value left _ _ (g.variable x) two
prim_name aim.Variable left x two = prim_of aim.Variable left _ _ (g.variable x) two
prim_name aim.Statement left x two = record {
  is = g.variable x;
  low = λ e. absurd (omega (arith, e));
  goes = (sign OPEN_PAREN here ∷ sign CLOSE_PAREN here ∷ [], called x (all_args no_exprs here), (statement_of_level _ _ (g.primary (g.call x (g.no_args here here))) refl, two));
}

pub prim_field : (a : Aim) (left : ℕ) (front : List Token) (f : Found) (dot : Span) (x : Ident) → IsExpr Primary front f → f.height < left → Prim a left (front ++ sign DOT dot ∷ name_token x ∷ []) (selected f x)
prim_field aim.Value left front f dot x d lt = prim_of aim.Value left _ _ (g.select dot x d) (omega (arith, lt, tall d))
prim_field aim.Variable left front f dot x d lt = prim_of aim.Variable left _ _ (g.select dot x d) (omega (arith, lt, tall d))
prim_field aim.Statement left front f dot x d lt = record {
  is = g.select dot x d;
  low = λ e. absurd (omega (arith, e));
  goes = (
    sign OPEN_PAREN here ∷ sign CLOSE_PAREN here ∷ [],
    called_on f x (all_args no_exprs here),
    (
      subst (λ y. IsStatementExpr y (called_on f x (all_args no_exprs here))) (sym (append_assoc front (sign DOT dot ∷ name_token x ∷ []) (sign OPEN_PAREN here ∷ sign CLOSE_PAREN here ∷ [])))
          (statement_of_level _ _ (g.primary (g.call_on dot x d (g.no_args here here))) refl),
      omega (arith, lt, tall d),
    ),
  );
}

-- ---- creations

more_pairs_exact : (last : Span) (found : At ℕ) (front : List Token) → IsMorePairs last front found → Exact (After (IsMorePairs last) (IsMorePairs last) front) (next_pair found)
unfolding next_pair
more_pairs_exact last found front d = sign_exact OPEN_BRACKET true _ _ (λ t l. end_sign CLOSE_BRACKET (λ r. On (counted (found.value + 1) r)) (λ r. g.one_more l r d)) (done_exact (IsMorePairs last) (IsMorePairs last) front found d)

later_pairs_exact : (last : Span) → Exact (IsMorePairs last) (pairs 1 last)
unfolding pairs
later_pairs_exact last = turns_exact next_pair (IsMorePairs last) (more_pairs_exact last) (counted 1 last) [] g.no_more

pub pairs_exact : (o r : Span) → Exact (λ ts found. IsPairs (sign OPEN_BRACKET o ∷ sign CLOSE_BRACKET r ∷ ts) found) (pairs 1 r)
pairs_exact o r = record { sound = pairs_sound 1 r _ (types.pair o r); viable = pairs_viable 1 r _ (types.pair o r); goes = ([], counted 1 r, types.pair o r) }

annot_behind_exact : (k : ℕ) (at : Span) → 2 ≤ k → Exact (λ ts a. Noted k (sign AT at ∷ ts) a) (annot_behind k at)
annot_behind_exact k at two = record { sound = annot_behind_sound k at two; viable = annot_behind_viable k at two; goes = annot_behind_goes k at two }

annots_from_exact : (k : ℕ) (notes : Notes) (front : List Token) → NotedAll k front notes → Exact (λ ts found. NotedAll k (front ++ ts) found) (annots_from k notes)
annots_from_exact k notes front d = record { sound = annots_from_sound k notes front d; viable = annots_from_viable k notes front d; goes = ([], notes, subst (λ y. NotedAll k y notes) (sym (append-nil front)) d) }

module _ (left : ℕ) (b : Below) (l : ExactBelow left b) (a : Aim) where
  -- the parts of a call, where there is room for one
  pub call_args_exact : (o : Span) → extra a form.Statement + 2 ≤ left → Exact (λ ts r. IsArgs (sign OPEN_PAREN o ∷ ts) r × (r.height + (extra a form.Statement + 1) ≤ left)) (args (inner b (extra a form.Statement)))
  call_args_exact o room = args_exact (inner b (extra a form.Statement)) (extra a form.Statement + 1) left o (omega (arith, room)) (inl (inner_exact left b l (extra a form.Statement) (extra_at_most a form.Statement) (omega (arith, room))))

  module _ (start : Span) where
    -- the height of an array's type, and one more, with room for what it is read for
    abbrev Room : At BaseTree → Notes → Type 0
    Room base notes = extra a form.Array + (max (base_height base.value) notes.height + 2) ≤ left

    -- behind these tokens and a bracket
    rest_exact : (before base_tokens : List Token) (notes : Notes) (base : At BaseTree) → IsNotes before notes → IsBase base_tokens base → (o : Span) → Room base notes
        → Exact (λ ts f. Prim a left (sign NEW start ∷ (before ++ (base_tokens ++ (sign OPEN_BRACKET o ∷ ts)))) f) (array_rest b a start base notes)
    unfolding array_rest
    rest_exact before base_tokens notes base n p o room = sign_exact CLOSE_BRACKET true _ _
        (λ t r. bind_exact _ _ (pairs_exact o r) (λ found ps q. must_sign OPEN_BRACE _ (λ c. map_exact _ _
        (items_exact (inner_init b (extra a form.Array)) (extra a form.Array + 1) left c (omega (arith, room)) (inl (inner_init_exact left b l (extra a form.Array) (extra_at_most a form.Array) (omega (arith, room)))))
        (λ i us d. prim_of a left _ (new_items start (created_type base notes found) i) (g.array_of_items start c n p q d.0) (omega (arith, room, d.1))))))
        (bind_exact _ _ (inner_exact left b l (extra a form.Array) (extra_at_most a form.Array) (omega (arith, room))) (λ h us x. must_sign CLOSE_BRACKET _
        (λ r. map_exact _ _ (later_pairs_exact r) (λ found ps q. prim_of a left _ (new_array start (created_type base notes found) h found.span) (g.array_of_length start o r n p x.0 q) (omega (arith, room, x.1))))))

    array_exact : (before base_tokens : List Token) (notes : Notes) (base : At BaseTree) → IsNotes before notes → IsBase base_tokens base → Room base notes
        → Exact (λ ts f. Prim a left (sign NEW start ∷ (before ++ (base_tokens ++ ts))) f) (array b a start base notes)
    unfolding array
    array_exact before base_tokens notes base n p room = must_sign OPEN_BRACKET _ (λ o. rest_exact before base_tokens notes base n p o room)

    created_prim : (x : Ident) (o : Span) (us : List Token) (r : Args) → extra a form.Statement + 2 ≤ left → IsArgs (sign OPEN_PAREN o ∷ us) r → r.height + (extra a form.Statement + 1) ≤ left
        → Prim a left (sign NEW start ∷ name_token x ∷ sign OPEN_PAREN o ∷ us) (created start x r)
    created_prim x o us r room d le = prim_of a left _ (created start x r) (g.new_object start x d) (omega (arith, room, le))

    object_goes : (x : Ident) → extra a form.Statement + 2 ≤ left → Goes (λ ts f. Prim a left (sign NEW start ∷ name_token x ∷ ts) f) []
    object_goes x room = (sign OPEN_PAREN here ∷ sign CLOSE_PAREN here ∷ [], created start x (all_args no_exprs here), created_prim x here (sign CLOSE_PAREN here ∷ []) (all_args no_exprs here) room (g.no_args here here) (omega (arith, room)))

    object_exact : (x : Ident) → extra a form.Statement + 2 ≤ left → Exact (λ ts f. Prim a left (sign NEW start ∷ (name_token x ∷ ts)) f) (object_or_array b a left start x)
    unfolding object_or_array
    object_exact x room = sign_exact OPEN_PAREN true _ _ (λ t o. map_exact _ _ (call_args_exact o room) (λ r us d. created_prim x o us r room d.0 d.1))
        (sign_exact OPEN_BRACKET _ _ _ (λ t o. rest_exact [] (name_token x ∷ []) no_notes (based (Named x) x.span) no_item (types.named x) o (omega (arith, leb-true (extra a form.Array + 3) left t))) (stop_exact (object_goes x room)))

    noted_array_exact : (before : List Token) (notes : Notes) → IsNotes before notes → extra a form.Array + (notes.height + 2) ≤ left → extra a form.Array + 3 ≤ left
        → Exact (λ ts f. Prim a left (sign NEW start ∷ (before ++ ts)) f) (noted_array b a start notes)
    unfolding noted_array
    noted_array_exact before notes n h three = sign_exact INT true _ _ (λ t s. array_exact before (sign INT s ∷ []) notes (based Int s) n (types.int s) (omega (arith, h, three)))
        (sign_exact BOOLEAN true _ _ (λ t s. array_exact before (sign BOOLEAN s ∷ []) notes (based Boolean s) n (types.boolean s) (omega (arith, h, three)))
        (must_name _ (λ x. array_exact before (name_token x ∷ []) notes (based (Named x) x.span) n (types.named x) (omega (arith, h, three)))))

    noted_exact : (at : Span) → extra a form.Array + 4 ≤ left → Exact (λ ts f. Prim a left (sign NEW start ∷ (sign AT at ∷ ts)) f) (noted b a left start at)
    unfolding noted
    noted_exact at four = bind_exact _ _ (annot_behind_exact (left - (extra a form.Array + 2)) at (omega (arith, four)))
        (λ n seen d. bind_exact _ _ (annots_from_exact (left - (extra a form.Array + 2)) (with_note no_notes n) (sign AT at ∷ seen) (one_more no_item d.0, omega (arith, d.1)))
        (λ notes later e. exact_more _ (λ ts f p. subst (λ y. Prim a left (sign NEW start ∷ (sign AT at ∷ y)) f) (append_assoc seen later ts) p) (noted_array_exact ((sign AT at ∷ seen) ++ later) notes e.0 (omega (arith, e.1, four)) (omega (arith, four)))))

    pub creation_exact : extra a form.Statement + 2 ≤ left → Exact (λ ts f. Prim a left (sign NEW start ∷ ts) f) (creation b a left start)
    unfolding creation
    creation_exact room = name_exact true _ _ (λ t x. object_exact x room)
        (sign_exact INT _ _ _ (λ t s. array_exact [] (sign INT s ∷ []) no_notes (based Int s) no_item (types.int s) (omega (arith, leb-true (extra a form.Array + 2) left t)))
        (sign_exact BOOLEAN _ _ _ (λ t s. array_exact [] (sign BOOLEAN s ∷ []) no_notes (based Boolean s) no_item (types.boolean s) (omega (arith, leb-true (extra a form.Array + 2) left t)))
        (sign_exact AT _ _ _ (λ t at. noted_exact at (leb-true (extra a form.Array + 4) left t))
        (stop_exact (let (others, f, p) = object_goes some_name room in (name_token some_name ∷ others, f, p))))))
