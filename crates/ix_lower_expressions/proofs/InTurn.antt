-- Arguments and entries are made one after the other: what one more gives, one that is refused, and none that is left. The loops over them cite these.
use Rattle.std.proofs.Common.{◌≡◌, ℕ, suc, ◌+◌, ◌<◌, ◌≤◌, List, [], ◌∷◌, ◌++◌, drop, get_or, length, map, arith, sym, ap, ◌∙◌}
use Rattle.std.specs.Prelude.{Ok, Err}
use Rattle.std.proofs.Math.Seq.{drop-cons}
use Rattle.std.proofs.lemmas.List.{drop_all}
use Rattle.ix_core.specs.declared.claim.Type_.{Type_}
use Rattle.ix_core.specs.declared.op.Arg.{Arg}
use Rattle.ix_meaning.specs.declared.note.Which.{Which}
use Rattle.ix_text.specs.declared.span.Span.{Span}
use Rattle.ix_tree.specs.declared.expr.Expr.{Expr, fold_out-Expr}
use Rattle.ix_tree.specs.declared.expr.Init.{Init}
use Rattle.ix_plain.specs.declared.made.Made.{Made}
use Rattle.ix_plain.specs.Parts.{Within, Value, in_place, ◌>>=◌}
use Rattle.ix_plain.specs.Scope.{Scope}
use Rattle.ix_plain.specs.Values.{Lowering, Filling, Arguments, Entries, kind_step, init_step, expr_step, lowering, filling, arguments_from, entries_from}

-- the first of those that are left
pub first_left : {A : Type 0} (all : List A) (place : ℕ) (one : A) → place < length all → one ≡ get_or all place one → drop place all ≡ one ∷ drop (place + 1) all
first_left all place one within is =
    let on : suc place ≡ place + 1 = omega arith in
    drop-cons all place one within ∙ (ap (λ x. x ∷ drop (suc place) all) (sym is) ∙ ap (λ n. one ∷ drop n all) on)

pub span_is : (expr : Expr) → (lowering expr).span ≡ expr.span
span_is expr = ap (λ l. l.span) (fold_out-Expr (Span → Lowering) Filling Lowering kind_step init_step expr_step expr)

module _ (exprs : List Expr) (place : ℕ) (scope : Scope) where
  pub next_argument : (expr : Expr) (args new : List Arg) (made later : Made) (slot : ℕ) (whole : Within Arguments) → place < length exprs → expr ≡ get_or exprs place expr
      → (lowering expr).value scope made ≡ in_place later slot → new ≡ args ++ record { slot = slot; span = expr.span } ∷ []
      → whole ≡ arguments_from args (map lowering (drop place exprs)) scope made
      → whole ≡ arguments_from new (map lowering (drop (place + 1) exprs)) scope later
  next_argument expr args new made later slot whole within is value added so =
      let rest = map lowering (drop (place + 1) exprs) in
      so
      ∙ (ap (λ these. arguments_from args (map lowering these) scope made) (first_left exprs place expr within is)
      ∙ (ap (λ (v : Within Value). v >>= (λ value. arguments_from (args ++ record { slot = value.slot; span = (lowering expr).span } ∷ []) rest scope value.made)) value
      ∙ ap (λ all. arguments_from all rest scope later) (sym (added ∙ ap (λ (span : Span). args ++ record { slot = slot; span = span } ∷ []) (sym (span_is expr))))))

  pub argument_refused : (expr : Expr) (args : List Arg) (made : Made) (which : Which) (whole : Within Arguments) → place < length exprs → expr ≡ get_or exprs place expr
      → whole ≡ arguments_from args (map lowering (drop place exprs)) scope made → (lowering expr).value scope made ≡ Err which → whole ≡ Err which
  argument_refused expr args made which whole within is so refused =
      let rest = map lowering (drop (place + 1) exprs) in
      so
      ∙ (ap (λ these. arguments_from args (map lowering these) scope made) (first_left exprs place expr within is)
      ∙ ap (λ (v : Within Value). v >>= (λ value. arguments_from (args ++ record { slot = value.slot; span = (lowering expr).span } ∷ []) rest scope value.made)) refused)

  pub all_arguments : (args : List Arg) (made : Made) (whole : Within Arguments) → length exprs ≤ place
      → whole ≡ arguments_from args (map lowering (drop place exprs)) scope made → whole ≡ Ok (record { made = made; args = args })
  all_arguments args made whole past so = so ∙ ap (λ these. arguments_from args (map lowering these) scope made) (drop_all place exprs past)

module _ (inits : List Init) (place : ℕ) (scope : Scope) (cell : Type_) where
  pub next_entry : (init : Init) (slots new : List ℕ) (made later : Made) (slot : ℕ) (whole : Within Entries) → place < length inits → init ≡ get_or inits place init
      → (filling init).value scope cell made ≡ in_place later slot → new ≡ slots ++ slot ∷ []
      → whole ≡ entries_from slots (map filling (drop place inits)) scope cell made
      → whole ≡ entries_from new (map filling (drop (place + 1) inits)) scope cell later
  next_entry init slots new made later slot whole within is value added so =
      let rest = map filling (drop (place + 1) inits) in
      so
      ∙ (ap (λ these. entries_from slots (map filling these) scope cell made) (first_left inits place init within is)
      ∙ (ap (λ (v : Within Value). v >>= (λ value. entries_from (slots ++ value.slot ∷ []) rest scope cell value.made)) value
      ∙ ap (λ all. entries_from all rest scope cell later) (sym added)))

  pub entry_refused : (init : Init) (slots : List ℕ) (made : Made) (which : Which) (whole : Within Entries) → place < length inits → init ≡ get_or inits place init
      → whole ≡ entries_from slots (map filling (drop place inits)) scope cell made → (filling init).value scope cell made ≡ Err which → whole ≡ Err which
  entry_refused init slots made which whole within is so refused =
      let rest = map filling (drop (place + 1) inits) in
      so
      ∙ (ap (λ these. entries_from slots (map filling these) scope cell made) (first_left inits place init within is)
      ∙ ap (λ (v : Within Value). v >>= (λ value. entries_from (slots ++ value.slot ∷ []) rest scope cell value.made)) refused)

  pub all_entries : (slots : List ℕ) (made : Made) (whole : Within Entries) → length inits ≤ place
      → whole ≡ entries_from slots (map filling (drop place inits)) scope cell made → whole ≡ Ok (record { made = made; slots = slots })
  all_entries slots made whole past so = so ∙ ap (λ these. entries_from slots (map filling these) scope cell made) (drop_all place inits past)
