-- Room for a place, where there was room for another.
use Rattle.std.proofs.Common.{◌≡◌, Bool, ℕ, suc, ◌+◌, ◌<◌, ◌≤◌, get_or, drop, add-one, refl, List, [], ◌∷◌, ◌++◌, length, max, ◌∙◌, arith, ap, sym, length-append}
use Rattle.std.proofs.Math.Seq.{drop-cons}
use Rattle.std.specs.Borrow.{Bor}
use Rattle.ix_core.specs.declared.code.Block.{Block}
use Rattle.ix_core.specs.declared.code.Cond.{Cond}
use Rattle.ix_core.specs.declared.code.Cond.TheVariants as variant
use Rattle.ix_core.specs.declared.code.Item.{Item}
use Rattle.ix_core.specs.declared.code.Item.TheVariants as item
use Rattle.ix_core.specs.declared.code.Item as variant_item
use Rattle.ix_core.specs.declared.op.Test.{Test}
use Rattle.ix_core.specs.Code.{Code, End, If, Loop, cond_code, items_code, block_code, item_code}
use Rattle.ix_core.proofs.Translated.{cond_code-Compare, cond_code-Truth, cond_code-Both, cond_code-Either, cond_code-Opposite, item_code-If, item_code-Loop}
use Rattle.ix_machine_state.specs.Room.{code_above, code_values, condition_above, condition_values}
use Rattle.ix_machine_state.specs.declared.places.Place.{Place}
use Rattle.ix_machine_state.specs.declared.room.Room.{Room}
use Rattle.ix_machine_state.specs.Fits.{above, values, IsFree}

pub one_more : (places more : List Place) (place : Place) → more ≡ places ++ place ∷ [] → length more ≡ length places + 1
one_more places more place is = omega (arith, ap length is, length-append places (place ∷ []))

pub two_more : (places more : List Place) (place inner : Place) → more ≡ (places ++ place ∷ []) ++ inner ∷ [] → length more ≡ length places + 2
two_more places more place inner is = omega (arith, one_more (places ++ place ∷ []) more inner is, length-append places (place ∷ []))

-- in its place
pub free_same : {below : ℕ} {room new : Room} {place inner : Place} → IsFree below room place → new ≡ room → above inner ≤ above place → values inner ≤ values place → IsFree below new inner
free_same {below} {room} {new} {place} {inner} free is high many = record {
  above = omega (arith, free.above, high, ap (λ (r : Room). r.places) is);
  values = omega (arith, free.values, many, ap (λ (r : Room). r.values) is);
}

-- one above it
pub free_above : {below more : ℕ} {room new : Room} {place inner : Place} → IsFree below room place → new ≡ room → more ≡ below + 1 → 1 + above inner ≤ above place → values inner ≤ values place → IsFree more new inner
free_above {below} {more} {room} {new} {place} {inner} free is count high many = record {
  above = omega (arith, free.above, high, count, ap (λ (r : Room). r.places) is);
  values = omega (arith, free.values, many, ap (λ (r : Room). r.values) is);
}

-- ---- what a condition needs, by its parts

pub compare_is : (cond : Cond) (block : Block) (test : Test) (items : Bor (List Item)) → cond ≡ variant.Compare block test → items.now ≡ block.items
    → (condition_above (cond_code cond) ≡ 1 + code_above (items_code items.now)) × (condition_values (cond_code cond) ≡ code_values (items_code items.now))
compare_is cond block test items is same =
    let code = ap cond_code is ∙ cond_code-Compare block test in
    (ap condition_above code ∙ ap (λ xs. 1 + code_above (items_code xs)) (sym same), ap condition_values code ∙ ap (λ xs. code_values (items_code xs)) (sym same))

pub truth_is : (cond : Cond) (block : Block) (slot : ℕ) (items : Bor (List Item)) → cond ≡ variant.Truth block slot → items.now ≡ block.items
    → (condition_above (cond_code cond) ≡ 1 + code_above (items_code items.now)) × (condition_values (cond_code cond) ≡ code_values (items_code items.now))
truth_is cond block slot items is same =
    let code = ap cond_code is ∙ cond_code-Truth block slot in
    (ap condition_above code ∙ ap (λ xs. 1 + code_above (items_code xs)) (sym same), ap condition_values code ∙ ap (λ xs. code_values (items_code xs)) (sym same))

pub both_is : (cond first second : Cond) → cond ≡ variant.Both first second
    → (condition_above (cond_code cond) ≡ max (1 + condition_above (cond_code first)) (condition_above (cond_code second)))
    × (condition_values (cond_code cond) ≡ max (condition_values (cond_code first)) (condition_values (cond_code second)))
both_is cond first second is = let code = ap cond_code is ∙ cond_code-Both first second in (ap condition_above code, ap condition_values code)

pub either_is : (cond first second : Cond) → cond ≡ variant.Either first second
    → (condition_above (cond_code cond) ≡ max (1 + condition_above (cond_code first)) (condition_above (cond_code second)))
    × (condition_values (cond_code cond) ≡ max (condition_values (cond_code first)) (condition_values (cond_code second)))
either_is cond first second is = let code = ap cond_code is ∙ cond_code-Either first second in (ap condition_above code, ap condition_values code)

pub opposite_is : (cond asked : Cond) → cond ≡ variant.Opposite asked
    → (condition_above (cond_code cond) ≡ 1 + condition_above (cond_code asked)) × (condition_values (cond_code cond) ≡ condition_values (cond_code asked))
opposite_is cond asked is = let code = ap cond_code is ∙ cond_code-Opposite asked in (ap condition_above code, ap condition_values code)

pub above_is : {cond other : Cond} → cond ≡ other → condition_above (cond_code cond) ≡ condition_above (cond_code other)
above_is is = ap (λ c. condition_above (cond_code c)) is

pub values_is : {cond other : Cond} → cond ≡ other → condition_values (cond_code cond) ≡ condition_values (cond_code other)
values_is is = ap (λ c. condition_values (cond_code c)) is

-- ---- what an item needs, by its parts

pub if_is : (statement : Item) (asked : Cond) (first second : Block) (one two : Bor (List Item)) → statement ≡ item.If asked first second → one.now ≡ first.items → two.now ≡ second.items
    → (code_above (item_code statement End) ≡ max (2 + condition_above (cond_code asked)) (1 + max (code_above (items_code one.now)) (code_above (items_code two.now))))
    × (code_values (item_code statement End) ≡ max (condition_values (cond_code asked)) (max (code_values (items_code one.now)) (code_values (items_code two.now))))
if_is statement asked first second one two is here there =
    let code : item_code statement End ≡ If (cond_code asked) (items_code one.now) (items_code two.now) End =
    ap (λ i. item_code i End) is ∙ (item_code-If asked first second End
    ∙ (ap (λ xs. If (cond_code asked) (items_code xs) (block_code second) End) (sym here) ∙ ap (λ xs. If (cond_code asked) (items_code one.now) (items_code xs) End) (sym there))) in
    (omega (arith, ap code_above code), omega (arith, ap code_values code))

pub loop_is : (statement : Item) (test_first : Bool) (asked : Cond) (body next : Block) (number scope : ℕ) (one two : Bor (List Item)) → statement ≡ item.Loop test_first asked body next number scope
    → one.now ≡ body.items → two.now ≡ next.items
    → (code_above (item_code statement End) ≡ 3 + max (condition_above (cond_code asked)) (max (code_above (items_code one.now)) (code_above (items_code two.now))))
    × (code_values (item_code statement End) ≡ max (condition_values (cond_code asked)) (max (code_values (items_code one.now)) (code_values (items_code two.now))))
loop_is statement test_first asked body next number scope one two is here there =
    let code : item_code statement End ≡ Loop test_first (cond_code asked) (items_code one.now) (items_code two.now) number scope End =
    ap (λ i. item_code i End) is ∙ (item_code-Loop test_first asked body next number scope End
    ∙ (ap (λ xs. Loop test_first (cond_code asked) (items_code xs) (block_code next) number scope End) (sym here)
    ∙ ap (λ xs. Loop test_first (cond_code asked) (items_code one.now) (items_code xs) number scope End) (sym there))) in
    (omega (arith, ap code_above code), omega (arith, ap code_values code))

-- an item, and then those behind it
behind : (statement : Item) (rest : Code) → (code_above (item_code statement rest) ≡ max (code_above (item_code statement End)) (code_above rest))
    × (code_values (item_code statement rest) ≡ max (code_values (item_code statement End)) (code_values rest))
behind (variant_item.Do done) rest = (omega arith, omega arith)
behind (variant_item.If' asked shape_then first shape_else second) rest = (omega arith, omega arith)
behind variant_item.Break rest = (omega arith, omega arith)
behind variant_item.Continue rest = (omega arith, omega arith)
behind (variant_item.Return value span) rest = (omega arith, omega arith)
behind (variant_item.Throw name span) rest = (omega arith, omega arith)
behind (variant_item.Loop' test_first asked shape_body body shape_next next number scope) rest = (omega arith, omega arith)

pub first_is : (statement : Item) (items : List Item) → (code_above (items_code (statement ∷ items)) ≡ max (code_above (item_code statement End)) (code_above (items_code items)))
    × (code_values (items_code (statement ∷ items)) ≡ max (code_values (item_code statement End)) (code_values (items_code items)))
first_is statement items = behind statement (items_code items)

pub step_is : (items : List Item) (index : ℕ) (statement : Item) → index < length items → statement ≡ get_or items index statement
    → (code_above (items_code (drop index items)) ≡ max (code_above (item_code statement End)) (code_above (items_code (drop (index + 1) items))))
    × (code_values (items_code (drop index items)) ≡ max (code_values (item_code statement End)) (code_values (items_code (drop (index + 1) items))))
step_is items index statement within is =
    let cut : drop index items ≡ statement ∷ drop (index + 1) items = drop-cons items index statement within ∙ (ap (λ s. s ∷ drop (suc index) items) (sym is) ∙ rw add-one refl) in
    let parts = first_is statement (drop (index + 1) items) in
    (ap (λ xs. code_above (items_code xs)) cut ∙ parts.0, ap (λ xs. code_values (items_code xs)) cut ∙ parts.1)
