-- An error has an earlier one of its annotation exactly where the least rank there is below its own.
use Rattle.std.proofs.Common.{◌≡◌, ℕ, Bool, true, false, ◌&&◌, ◌||◌, cond, nat_lt, Option, Some, None, List, [], ◌∷◌, refl, ◌∙◌, ap, arith}
use Rattle.std.specs.List.{list_any}
use Rattle.std.proofs.lemmas.Bool.Decides.{nat_tests}
use Rattle.ix_text.specs.declared.span.Span.{Span}
use Rattle.ix_meaning.specs.declared.note.NameError.{NameError}
use Rattle.ix_meaning.specs.Listed.{rank, same_span, comes_before, firsts}
use Rattle.ix_symbols.specs.Ranks.{lesser, lesser_at, least_rank, is_below, not_above}

or_false : (b : Bool) → b ≡ (b || false)
or_false true = refl
or_false false = refl

or_assoc : (a b c : Bool) → ((a || b) || c) ≡ (a || (b || c))
or_assoc true b c = refl
or_assoc false b c = refl

two : (m r k : ℕ) → is_below (lesser (Some m) r) k ≡ (nat_lt m k || nat_lt r k)
two m r k = grind (arith, nat_tests)

one : (b : Bool) (least : Option ℕ) (r k : ℕ) → is_below (cond b (lesser least r) least) k ≡ (is_below least k || (b && nat_lt r k))
one false least r k = or_false (is_below least k)
one true None r k = refl
one true (Some m) r k = two m r k

any_below : (e : NameError) (least : Option ℕ) (all : List NameError) → is_below (least_rank e.span least all) (rank e.rule) ≡ (is_below least (rank e.rule) || list_any (comes_before e) all)
any_below e least [] = or_false (is_below least (rank e.rule))
any_below e least (x ∷ all) =
    any_below e (lesser_at e.span least x) all
    ∙ ap (λ b. b || list_any (comes_before e) all) (one (same_span x.span e.span) least (rank x.rule) (rank e.rule))
    ∙ or_assoc (is_below least (rank e.rule)) (comes_before e x) (list_any (comes_before e) all)

pub firsts_by_rank : (least : Span → Option ℕ) (all es : List NameError) → ((p : Span) → least p ≡ least_rank p None all) → not_above least es ≡ firsts all es
firsts_by_rank least all [] h = refl
firsts_by_rank least all (e ∷ es) h =
    ap (λ b. cond b (not_above least es) (e ∷ not_above least es)) (ap (λ l. is_below l (rank e.rule)) (h e.span) ∙ any_below e None all)
    ∙ ap (λ l. cond (list_any (comes_before e) all) l (e ∷ l)) (firsts_by_rank least all es h)
