-- The size of a body is its operations and its other items and conditions; and the operations that are counted are all of its operations.
use Rattle.std.proofs.Common.{◌≡◌, ◌≤◌, ℕ, ◌+◌, ◌-◌, Bool, true, false, List, [], ◌∷◌, ◌++◌, map, refl, sym, ap, subst, ◌∙◌, arith}
use Rattle.std.specs.Prelude.{if◌then◌else◌, nat_lt}
use Rattle.std.proofs.lemmas.Bool.Decides.{nat_tests}
use Rattle.ix_core.specs.declared.code.Block.{Block, Block-F, ind-Block, map-Block, roll-Block, fold-roll-Block}
use Rattle.ix_core.specs.declared.code.Cond.{Cond, Cond-F, map-Cond, roll-Cond, fold-roll-Cond}
use Rattle.ix_core.specs.declared.code.Cond.TheVariants.{rolls-Known, rolls-Compare, rolls-Truth, rolls-Both, rolls-Either, rolls-Opposite}
use Rattle.ix_core.specs.declared.code.Item as raw
use Rattle.ix_core.specs.declared.code.Item.{Item, Item-F, map-Item, roll-Item, fold-roll-Item}
use Rattle.ix_core.specs.declared.code.Item.TheVariants.{rolls-Do, rolls-If, rolls-Break, rolls-Continue, rolls-Return, rolls-Throw, rolls-Loop}
use Rattle.ix_core.specs.Code.{Code, End, Do, If, Break, Continue, Return, Throw, Loop, Condition, Known, Compare, Truth, Both, Either, Opposite, item_code, cond_code, items_code, block_code}
use Rattle.ix_core.specs.Formed.{code_size, condition_size}
use Rattle.ix_core.proofs.Translated.{item_code-If, item_code-Loop, cond_code-Compare, cond_code-Truth, cond_code-Both, cond_code-Either, cond_code-Opposite}
use Rattle.ix_plain.specs.Counts.{Count, one, none, both, all, most_counted, cond_operations, item_operations, block_operations, operations, operations_of_item, operations_of_cond}
use Rattle.ix_formed.specs.Sizes.{code_operations, condition_operations, code_forms, condition_forms, item_forms}

-- ---- the size

mutual
  pub size_is : (code : Code) → code_size code ≡ code_operations code + code_forms code
  size_is End = omega arith
  size_is (Do done rest) = let a = size_is rest in omega (arith, a)
  size_is (If asked first second rest) = let a = condition_size_is asked in let b = size_is first in let c = size_is second in let d = size_is rest in omega (arith, a, b, c, d)
  size_is (Break rest) = let a = size_is rest in omega (arith, a)
  size_is (Continue rest) = let a = size_is rest in omega (arith, a)
  size_is (Return value span rest) = let a = size_is rest in omega (arith, a)
  size_is (Throw name span rest) = let a = size_is rest in omega (arith, a)
  size_is (Loop test_first asked body next number scope rest) = let a = condition_size_is asked in let b = size_is body in let c = size_is next in let d = size_is rest in omega (arith, a, b, c, d)

  condition_size_is : (asked : Condition) → condition_size asked ≡ condition_operations asked + condition_forms asked
  condition_size_is (Known answer) = omega arith
  condition_size_is (Compare code test) = let a = size_is code in omega (arith, a)
  condition_size_is (Truth code slot) = let a = size_is code in omega (arith, a)
  condition_size_is (Both asked later) = let a = condition_size_is asked in let b = condition_size_is later in omega (arith, a, b)
  condition_size_is (Either asked later) = let a = condition_size_is asked in let b = condition_size_is later in omega (arith, a, b)
  condition_size_is (Opposite asked) = let a = condition_size_is asked in omega (arith, a)

-- ---- items one behind the other

last_operations : (first : Item) (rest : Code) → code_operations (item_code first rest) ≡ code_operations (item_code first End) + code_operations rest
last_operations (raw.Do op) rest = omega arith
last_operations (raw.If' asked s first t second) rest = omega arith
last_operations raw.Break rest = omega arith
last_operations raw.Continue rest = omega arith
last_operations (raw.Return value span) rest = omega arith
last_operations (raw.Throw name span) rest = omega arith
last_operations (raw.Loop' test_first asked s body t next number scope) rest = omega arith

pub last_forms : (first : Item) (rest : Code) → code_forms (item_code first rest) ≡ code_forms (item_code first End) + code_forms rest
last_forms (raw.Do op) rest = omega arith
last_forms (raw.If' asked s first t second) rest = omega arith
last_forms raw.Break rest = omega arith
last_forms raw.Continue rest = omega arith
last_forms (raw.Return value span) rest = omega arith
last_forms (raw.Throw name span) rest = omega arith
last_forms (raw.Loop' test_first asked s body t next number scope) rest = omega arith

pub forms_of_items : (items : List Item) → code_forms (items_code items) ≡ item_forms items
forms_of_items [] = refl
forms_of_items (first ∷ rest) = last_forms first (items_code rest) ∙ (let e = forms_of_items rest in omega (arith, e))

pub forms_append : (items more : List Item) → item_forms (items ++ more) ≡ item_forms items + item_forms more
forms_append [] more = omega arith
forms_append (first ∷ items) more = let e = forms_append items more in omega (arith, e)

abbrev item_operations_of : List Item → ℕ
item_operations_of [] = 0
item_operations_of (first ∷ rest) = code_operations (item_code first End) + item_operations_of rest

operations_of_items : (items : List Item) → code_operations (items_code items) ≡ item_operations_of items
operations_of_items [] = refl
operations_of_items (first ∷ rest) = last_operations first (items_code rest) ∙ (let e = operations_of_items rest in omega (arith, e))

-- ---- counts that go up to the greatest number

-- A count reaches so many more, as far as is counted.
abbrev pub Reaches : Count → ℕ → Type 0
Reaches count m = (n k : ℕ) → k ≤ most_counted → k ≤ n + m → k ≤ count n

reaches_none : Reaches none 0
reaches_none n k few le = omega (arith, le)

reaches_one : Reaches one 1
reaches_one n k few le = up_or_not (nat_lt n most_counted) refl
  where
    up_or_not : (b : Bool) → b ≡ nat_lt n most_counted → k ≤ (if b then n + 1 else n)
    up_or_not true e = omega (arith, le)
    up_or_not false e = let past : most_counted ≤ n = grind (arith, nat_tests) in omega (arith, few, past)

reaches_both : (f g : Count) (a b : ℕ) → Reaches f a → Reaches g b → Reaches (both f g) (a + b)
reaches_both f g a b x y n k few le =
    let first = x n (k - b) (omega (arith, few)) (omega (arith, le)) in
    y (f n) k few (omega (arith, first))

reaches_as : (f : Count) (a b : ℕ) → b ≤ a → Reaches f a → Reaches f b
reaches_as f a b le x n k few more = x n k few (omega (arith, le, more))

abbrev sum_of : {X : Type 0} → (X → ℕ) → List X → ℕ
sum_of weight [] = 0
sum_of weight (x ∷ xs) = weight x + sum_of weight xs

reaches_all : {X : Type 0} (count : X → Count) (weight : X → ℕ) (xs : List X) → ((x : X) → Reaches (count x) (weight x)) → Reaches (all (map count xs)) (sum_of weight xs)
reaches_all count weight [] each = reaches_none
reaches_all count weight (x ∷ xs) each = reaches_both (count x) (all (map count xs)) (weight x) (sum_of weight xs) (each x) (reaches_all count weight xs each)

abbrev CondIs : Cond → Type 0
CondIs c = Reaches (operations_of_cond c) (condition_operations (cond_code c))

abbrev ItemIs : Item → Type 0
ItemIs i = Reaches (operations_of_item i) (code_operations (item_code i End))

abbrev BlockIs : Block → Type 0
BlockIs b = Reaches (operations b) (code_operations (block_code b))

module _ {C I B : Type 0} (of_cond : C → Cond) (of_item : I → Item) (of_block : B → Block) (cond_is : (c : C) → CondIs (of_cond c)) (block_is : (b : B) → BlockIs (of_block b)) where
  abbrev rolled_cond : Cond-F C I B → Cond
  rolled_cond y = roll-Cond (map-Cond C I B Cond Item Block of_cond of_item of_block y)

  abbrev rolled_item : Item-F C I B → Item
  rolled_item y = roll-Item (map-Item C I B Cond Item Block of_cond of_item of_block y)

  cond_layer : (y : Cond-F C I B)
      → Reaches (cond_operations (map-Cond Cond Item Block Count Count Count operations_of_cond operations_of_item operations (map-Cond C I B Cond Item Block of_cond of_item of_block y))) (condition_operations (cond_code (rolled_cond y)))
  cond_layer (Cond-F.Known answer) = subst (Reaches none) (sym (ap (λ c. condition_operations (cond_code c)) (rolls-Known answer))) reaches_none
  cond_layer (Cond-F.Compare b test) =
      subst (Reaches (operations (of_block b))) (sym (ap (λ c. condition_operations (cond_code c)) (rolls-Compare (of_block b) test) ∙ ap condition_operations (cond_code-Compare (of_block b) test))) (block_is b)
  cond_layer (Cond-F.Truth b slot) =
      subst (Reaches (operations (of_block b))) (sym (ap (λ c. condition_operations (cond_code c)) (rolls-Truth (of_block b) slot) ∙ ap condition_operations (cond_code-Truth (of_block b) slot))) (block_is b)
  cond_layer (Cond-F.Both x y) =
      subst (Reaches (both (operations_of_cond (of_cond x)) (operations_of_cond (of_cond y))))
      (sym (ap (λ c. condition_operations (cond_code c)) (rolls-Both (of_cond x) (of_cond y)) ∙ ap condition_operations (cond_code-Both (of_cond x) (of_cond y))))
      (reaches_both (operations_of_cond (of_cond x)) (operations_of_cond (of_cond y)) _ _ (cond_is x) (cond_is y))
  cond_layer (Cond-F.Either x y) =
      subst (Reaches (both (operations_of_cond (of_cond x)) (operations_of_cond (of_cond y))))
      (sym (ap (λ c. condition_operations (cond_code c)) (rolls-Either (of_cond x) (of_cond y)) ∙ ap condition_operations (cond_code-Either (of_cond x) (of_cond y))))
      (reaches_both (operations_of_cond (of_cond x)) (operations_of_cond (of_cond y)) _ _ (cond_is x) (cond_is y))
  cond_layer (Cond-F.Opposite x) =
      subst (Reaches (operations_of_cond (of_cond x))) (sym (ap (λ c. condition_operations (cond_code c)) (rolls-Opposite (of_cond x)) ∙ ap condition_operations (cond_code-Opposite (of_cond x)))) (cond_is x)

  item_layer : (y : Item-F C I B)
      → Reaches (item_operations (map-Item Cond Item Block Count Count Count operations_of_cond operations_of_item operations (map-Item C I B Cond Item Block of_cond of_item of_block y))) (code_operations (item_code (rolled_item y) End))
  item_layer (Item-F.Do op) = subst (Reaches one) (sym (ap (λ i. code_operations (item_code i End)) (rolls-Do op))) (reaches_as one 1 _ (omega arith) reaches_one)
  item_layer (Item-F.If c x y) =
      let f = operations_of_cond (of_cond c) in let g = operations (of_block x) in let h = operations (of_block y) in
      subst (Reaches (both f (both g h))) (sym (ap (λ i. code_operations (item_code i End)) (rolls-If (of_cond c) (of_block x) (of_block y)) ∙ ap code_operations (item_code-If (of_cond c) (of_block x) (of_block y) End)))
      (reaches_as (both f (both g h)) (condition_operations (cond_code (of_cond c)) + (code_operations (block_code (of_block x)) + code_operations (block_code (of_block y)))) _ (omega arith)
      (reaches_both f (both g h) _ _ (cond_is c) (reaches_both g h _ _ (block_is x) (block_is y))))
  item_layer Item-F.Break = subst (Reaches none) (sym (ap (λ i. code_operations (item_code i End)) rolls-Break)) reaches_none
  item_layer Item-F.Continue = subst (Reaches none) (sym (ap (λ i. code_operations (item_code i End)) rolls-Continue)) reaches_none
  item_layer (Item-F.Return value span) = subst (Reaches none) (sym (ap (λ i. code_operations (item_code i End)) (rolls-Return value span))) reaches_none
  item_layer (Item-F.Throw name span) = subst (Reaches none) (sym (ap (λ i. code_operations (item_code i End)) (rolls-Throw name span))) reaches_none
  item_layer (Item-F.Loop test_first c x y number scope) =
      let f = operations_of_cond (of_cond c) in let g = operations (of_block x) in let h = operations (of_block y) in
      subst (Reaches (both f (both g h)))
      (sym (ap (λ i. code_operations (item_code i End)) (rolls-Loop test_first (of_cond c) (of_block x) (of_block y) number scope) ∙ ap code_operations (item_code-Loop test_first (of_cond c) (of_block x) (of_block y) number scope End)))
      (reaches_as (both f (both g h)) (condition_operations (cond_code (of_cond c)) + (code_operations (block_code (of_block x)) + code_operations (block_code (of_block y)))) _ (omega arith)
      (reaches_both f (both g h) _ _ (cond_is c) (reaches_both g h _ _ (block_is x) (block_is y))))

  cond_rolled : (y : Cond-F C I B) → CondIs (rolled_cond y)
  cond_rolled y =
      subst (λ (f : Count). Reaches f (condition_operations (cond_code (rolled_cond y)))) (sym (fold-roll-Cond Count Count Count cond_operations item_operations block_operations (map-Cond C I B Cond Item Block of_cond of_item of_block y))) (cond_layer y)

  item_rolled : (y : Item-F C I B) → ItemIs (rolled_item y)
  item_rolled y =
      subst (λ (f : Count). Reaches f (code_operations (item_code (rolled_item y) End))) (sym (fold-roll-Item Count Count Count cond_operations item_operations block_operations (map-Item C I B Cond Item Block of_cond of_item of_block y))) (item_layer y)

  items_reach : ((i : I) → ItemIs (of_item i)) → (is : List I) → Reaches (all (map operations_of_item (map of_item is))) (item_operations_of (map of_item is))
  items_reach item_is [] = reaches_none
  items_reach item_is (i ∷ is) =
      reaches_both (operations_of_item (of_item i)) (all (map operations_of_item (map of_item is))) (code_operations (item_code (of_item i) End)) (item_operations_of (map of_item is)) (item_is i) (items_reach item_is is)

  block_rolled : ((i : I) → ItemIs (of_item i)) → (y : Block-F C I B) → BlockIs (roll-Block (map-Block C I B Cond Item Block of_cond of_item of_block y))
  block_rolled item_is y =
      subst (λ (f : Count). Reaches f (code_operations (items_code (map of_item y.items)))) (sym (fold-roll-Block Count Count Count cond_operations item_operations block_operations (map-Block C I B Cond Item Block of_cond of_item of_block y)))
      (subst (Reaches (all (map operations_of_item (map of_item y.items)))) (sym (operations_of_items (map of_item y.items))) (items_reach item_is y.items))

-- The count of a block's operations reaches them all.
pub operations_reach : (b : Block) → BlockIs b
operations_reach = ind-Block CondIs ItemIs BlockIs
    (λ x y e. subst (λ layer. CondIs (roll-Cond layer)) e (cond_rolled (λ c. c.0) (λ i. i.0) (λ b. b.0) (λ c. c.1) (λ b. b.1) y))
    (λ x y e. subst (λ layer. ItemIs (roll-Item layer)) e (item_rolled (λ c. c.0) (λ i. i.0) (λ b. b.0) (λ c. c.1) (λ b. b.1) y))
    (λ x y e. subst (λ layer. BlockIs (roll-Block layer)) e (block_rolled (λ c. c.0) (λ i. i.0) (λ b. b.0) (λ c. c.1) (λ b. b.1) (λ i. i.1) y))
