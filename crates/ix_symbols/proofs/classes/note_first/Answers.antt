use Rattle.std.proofs.Common.{rules, ◌≡◌, ap, sym, cond, Bool, true, false, Option, Some, None, List, ℕ, arith, refl, is_some, bytes_eq}
use Rattle.std.proofs.lemmas.Slice.Eq.{bytes_eq-Decides}
use Rattle.std.proofs.lemmas.Map.Text.{text_keys}
use Rattle.std.specs.HashMap.{get_by_text}
use Rattle.ix_meaning.specs.Classes.{first_or}
use Rattle.ix_symbols.proofs.classes.note_first.Goals as goal

by_test : (b : Bool) (f g at : Option ℕ) (n name : List ℕ) (i : ℕ) → bytes_eq name n ≡ b → at ≡ None → (b ≡ true → f ≡ at) → g ≡ cond b (Some i) f → g ≡ first_or f n name i
by_test true (Some k) g at n name i t none same is = let e = same refl in cc
by_test false (Some k) g at n name i t none same is = is
by_test true None g at n name i t none same is = rw t is
by_test false None g at n name i t none same is = rw t is

put_first : (f g at : Option ℕ) (n name : List ℕ) (i : ℕ) → at ≡ None → (name ≡ n → f ≡ at) → g ≡ cond (bytes_eq name n) (Some i) f → g ≡ first_or f n name i
put_first f g at n name i none same is = by_test (bytes_eq name n) f g at n name i refl none (λ t. same ((bytes_eq-Decides name n).0 t)) is

none_from : (o : Option ℕ) → is_some o ≡ false → o ≡ None
none_from None h = refl
none_from (Some k) h = cc

pub returns : goal.returns
returns c = λ n.
    let old = c.args.classes.now in
    let none : get_by_text old c.args.name.now ≡ None = none_from (get_by_text old c.args.name.now) (search rules) in
    put_first (get_by_text old n) (get_by_text c.insert.new.self n) (get_by_text old c.args.name.now) n c.args.name.now c.args.number none (λ e. ap (λ q. get_by_text old q) (sym e))
    (grind (arith, text_keys))
