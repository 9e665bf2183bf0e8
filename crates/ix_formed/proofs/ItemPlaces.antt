-- What holds of the places of items, one behind the other.
use Rattle.std.proofs.Common.{ℕ, List, [], ◌∷◌, ◌++◌, sym, subst}
use Rattle.std.specs.List.{AllByRecursion}
use Rattle.ix_text.specs.declared.span.Span.{Span}
use Rattle.ix_core.specs.declared.code.Block.{Block}
use Rattle.ix_core.specs.declared.code.Cond.{Cond}
use Rattle.ix_core.specs.declared.code.Cond.TheVariants as cond
use Rattle.ix_core.specs.declared.code.Item as raw
use Rattle.ix_core.specs.declared.code.Item.{Item}
use Rattle.ix_core.specs.declared.code.Item.TheVariants as item
use Rattle.ix_core.specs.declared.op.OpKind.{OpKind}
use Rattle.ix_core.specs.declared.op.Test.{Test}
use Rattle.ix_core.specs.Code.{Code, End, item_code, cond_code, items_code}
use Rattle.ix_core.proofs.Translated.{item_code-If, item_code-Loop, cond_code-Compare, cond_code-Truth, cond_code-Both, cond_code-Either, cond_code-Opposite}
use Rattle.ix_plain.specs.Parts.{done}
use Rattle.ix_core.specs.CodePlaces.{CodePlaces, AskedPlaces, KindPlaces, TestPlaces}

pub all_both : {A : Type 0} (P : A → Type 0) (xs ys : List A) → AllByRecursion P xs → AllByRecursion P ys → AllByRecursion P (xs ++ ys)
all_both P [] ys a b = b
all_both P (x ∷ xs) ys a b = (a.0, all_both P xs ys a.1 b)

module _ (P : Span → Type 0) where
  abbrev pub ItemPlaces : Item → Type 0
  ItemPlaces i = CodePlaces P (item_code i End)

  abbrev pub ItemsPlaces : List Item → Type 0
  ItemsPlaces items = AllByRecursion ItemPlaces items

  abbrev pub CondPlaces : Cond → Type 0
  CondPlaces c = AskedPlaces P (cond_code c)

  in_front : (first : Item) (rest : Code) → ItemPlaces first → CodePlaces P rest → CodePlaces P (item_code first rest)
  in_front (raw.Do op) rest a b = (a.0, b)
  in_front (raw.If' asked s first t second) rest a b = (a.0, a.1, a.2, b)
  in_front raw.Break rest a b = b
  in_front raw.Continue rest a b = b
  in_front (raw.Return value span) rest a b = (a.0, b)
  in_front (raw.Throw name span) rest a b = (a.0, b)
  in_front (raw.Loop' test_first asked s body t next number scope) rest a b = (a.0, a.1, a.2, b)

  pub code_of_items : (items : List Item) → ItemsPlaces items → CodePlaces P (items_code items)
  code_of_items [] all = tt
  code_of_items (first ∷ rest) all = in_front first (items_code rest) all.0 (code_of_items rest all.1)

  -- ---- one item

  pub done_places : (kind : OpKind) (span : Span) (parts : List Span) → P span → AllByRecursion P parts → KindPlaces P kind → ItemPlaces (done kind span parts)
  done_places kind span parts a b c = ((a, b, c), tt)

  pub if_places : (asked : Cond) (first second : Block) → CondPlaces asked → ItemsPlaces first.items → ItemsPlaces second.items → ItemPlaces (item.If asked first second)
  if_places asked first second a b c = subst (CodePlaces P) (sym (item_code-If asked first second End)) (a, code_of_items first.items b, code_of_items second.items c, tt)

  pub loop_places : (test_first : _) (asked : Cond) (body next : Block) (number scope : ℕ) → CondPlaces asked → ItemsPlaces body.items → ItemsPlaces next.items
      → ItemPlaces (item.Loop test_first asked body next number scope)
  loop_places test_first asked body next number scope a b c =
      subst (CodePlaces P) (sym (item_code-Loop test_first asked body next number scope End)) (a, code_of_items body.items b, code_of_items next.items c, tt)

  -- ---- conditions

  pub compare_places : (block : Block) (test : Test) → ItemsPlaces block.items → TestPlaces P test → CondPlaces (cond.Compare block test)
  compare_places block test a b = subst (AskedPlaces P) (sym (cond_code-Compare block test)) (code_of_items block.items a, b)

  pub truth_places : (block : Block) (slot : ℕ) → ItemsPlaces block.items → CondPlaces (cond.Truth block slot)
  truth_places block slot a = subst (AskedPlaces P) (sym (cond_code-Truth block slot)) (code_of_items block.items a)

  pub both_places : (first second : Cond) → CondPlaces first → CondPlaces second → CondPlaces (cond.Both first second)
  both_places first second a b = subst (AskedPlaces P) (sym (cond_code-Both first second)) (a, b)

  pub either_places : (first second : Cond) → CondPlaces first → CondPlaces second → CondPlaces (cond.Either first second)
  either_places first second a b = subst (AskedPlaces P) (sym (cond_code-Either first second)) (a, b)

  pub opposite_places : (asked : Cond) → CondPlaces asked → CondPlaces (cond.Opposite asked)
  opposite_places asked a = subst (AskedPlaces P) (sym (cond_code-Opposite asked)) a
