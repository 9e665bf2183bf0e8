-- A list that is cut to the length that it had, by what its items are seen as.
use Rattle.std.proofs.Common.{◌≡◌, ℕ, Bool, true, false, List, [], ◌++◌, map, take, length, if◌then◌else◌, sym, ap, ◌∙◌, append-nil, vec_len, Vec, arith}
use Rattle.std.specs.declared.alloc.Global.{Global}
use Rattle.std.proofs.lemmas.Grind.{common_steps}
use Rattle.std.proofs.lemmas.List.{take-map, length-map}
use Rattle.std.proofs.Math.Seq.{take-append_seam}

pub vec_length : {X : Type 0} (items : Vec X Global) → vec_len items ≡ length items.items
vec_length items = grind (arith, common_steps)

cut_seen : {X Y : Type 0} (f : X → Y) (old new : List X) (more : List Y) → map f new ≡ map f old ++ more → map f (take (length old) new) ≡ map f old
cut_seen f old new more longer =
    sym (take-map f (length old) new) ∙ ap (take (length old)) longer ∙ ap (λ count. take count (map f old ++ more)) (sym (length-map old f)) ∙ take-append_seam (map f old) more

pub cut_where : {X Y : Type 0} (f : X → Y) (old new cut : List X) (more : List Y) (count : ℕ) (answer : Bool) → map f new ≡ map f old ++ more → cut ≡ take count new → count ≡ length old → answer ≡ false
    → map f cut ≡ map f old ++ (if answer then more else [])
cut_where f old new cut more count true longer is same unasked = cc
cut_where f old new cut more count false longer is same _ = ap (map f) (is ∙ ap (λ n. take n new) same) ∙ cut_seen f old new more longer ∙ sym (append-nil (map f old))
