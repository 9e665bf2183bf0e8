-- The walk over an item or a condition, by the walks over its parts.
use Rattle.std.proofs.Common.{◌≡◌, ℕ, suc, true, false, List, ◌∷◌, length, drop, get_or, ◌<◌, ◌+◌, refl, sym, ap, subst, ◌∙◌, Option, None, Some}
use Rattle.std.proofs.Common.{add-one}
use Rattle.std.proofs.Math.Seq.{drop-cons}
use Rattle.ix_text.specs.declared.span.Span.{Span}
use Rattle.ix_core.specs.declared.code.Item.{Item}
use Rattle.ix_core.specs.declared.op.Op.{Op}
use Rattle.ix_core.specs.declared.op.Test.{Test}
use Rattle.ix_core.specs.Code.{Code, End, Do, If, Break, Continue, Return, Throw, Loop, Condition, Compare, Truth, Both, Either, Opposite, item_code, items_code}
use Rattle.ix_core.specs.Posts.{last_done, written_answer}
use Rattle.ix_facts.specs.Stores.{Stored, Unreachable}
use Rattle.ix_flow.specs.Flow.{Doing, Returning}
use Rattle.ix_flow.specs.Walk.{Notes, IsLeast, Joins}
use Rattle.ix_errors.specs.declared.ranked.Ranked.{Ranked}
use Rattle.ix_verify.specs.declared.walk.Walk.{Walk}
use Rattle.ix_verify.specs.AtLabels.{label_of}
use Rattle.ix_verify.specs.Walking.{labels_in, rules, WalksCode, SplitsOn, JudgesLoop, AddsAt, WalksItem, AsksOn, TurnsOnce}

module _ (walk : Walk) where
  abbrev Seen : Type 0
  Seen = Notes Stored (List Ranked)

  -- ---- items

  pub item_as : (last : Option Op) (one other : Code → Code) (before : Stored) (old : Seen) (behind : Stored) (new : Seen) → ((rest : Code) → one rest ≡ other rest) → WalksItem walk last other before old behind new → WalksItem walk last one before old behind new
  item_as last one other before old behind new same walks = λ rest end m tail.
      subst (λ code. WalksCode walk last code before old end m) (sym (same rest))
      (walks rest end m (subst (λ code. WalksCode walk (last_done None code) rest behind new end m) (same End) tail))

  pub do_walks : (last : Option Op) (op : Op) (before : Stored) (old : Seen) (behind : Stored) (errors : List Ranked) → AddsAt walk (Doing op) before old.errors errors → IsLeast (rules walk) ((rules walk).After op before) behind
      → WalksItem walk last (Do op) before old behind (record old { errors = errors })
  do_walks last op before old behind errors adds least = λ rest end m tail. (errors, behind, adds, least, tail)

  pub if_walks : (last : Option Op) (asked : Condition) (first second : Code) (before : Stored) (old : Seen) (holds fails : Stored) (n1 : Seen) (one : Stored) (n2 : Seen) (two : Stored) (n3 : Seen) (joined : Stored)
      → SplitsOn walk last asked before old holds fails n1 → WalksCode walk None first holds n1 one n2 → WalksCode walk None second fails n2 two n3 → Joins (rules walk) one two joined → WalksItem walk last (If asked first second) before old joined n3
  if_walks last asked first second before old holds fails n1 one n2 two n3 joined splits w1 w2 joins = λ rest end m tail. (holds, fails, n1, one, n2, two, n3, joined, splits, w1, w2, joins, tail)

  pub break_walks : (last : Option Op) (before : Stored) (old : Seen) (breaks : Stored) → Joins (rules walk) old.breaks before breaks → WalksItem walk last Break before old Unreachable (record old { breaks = breaks })
  break_walks last before old breaks joins = λ rest end m tail. (breaks, joins, tail)

  pub continue_walks : (last : Option Op) (before : Stored) (old : Seen) (continues : Stored) → Joins (rules walk) old.continues before continues → WalksItem walk last Continue before old Unreachable (record old { continues = continues })
  continue_walks last before old continues joins = λ rest end m tail. (continues, joins, tail)

  pub return_walks : (last : Option Op) (value : Option ℕ) (span : Span) (before : Stored) (old : Seen) (errors : List Ranked) → AddsAt walk (Returning value (written_answer last value) span) before old.errors errors
      → WalksItem walk last (Return value span) before old Unreachable (record old { errors = errors })
  return_walks last value span before old errors adds = λ rest end m tail. (errors, adds, tail)

  pub throw_walks : (last : Option Op) (thrown : List ℕ) (span : Span) (before : Stored) (old : Seen) → WalksItem walk last (Throw thrown span) before old Unreachable old
  throw_walks last thrown span before old = λ rest end m tail. tail

  -- what is known behind an item by another name
  pub behind_as : (last : Option Op) (item : Code → Code) (before : Stored) (old : Seen) (behind other : Stored) (new : Seen) → behind ≡ other → WalksItem walk last item before old other new → WalksItem walk last item before old behind new
  behind_as last item before old behind other new is walks = subst (λ s. WalksItem walk last item before old s new) (sym is) walks

  -- behind a loop
  ended : (last : Option Op) (item : Code → Code) (before : Stored) (old n : Seen) (out around : Stored) (new : Seen) → out ≡ n.breaks → around ≡ old.breaks → new ≡ record n { breaks = around; failed = new.failed }
      → WalksItem walk last item before old n.breaks (record n { breaks = old.breaks; failed = new.failed }) → WalksItem walk last item before old out new
  ended last item before old n out around new is_out is_around is_new walks =
      behind_as last item before old out n.breaks new is_out
      (subst (λ (m : Seen). WalksItem walk last item before old n.breaks m) (sym (is_new ∙ ap (λ b. record n { breaks = b; failed = new.failed }) is_around)) walks)

  pub turn_once : (body next : Code) (before : Stored) (old : Seen) (start done : Stored) (n : Seen) (inner again after back : Stored) (new : Seen)
      → start ≡ Unreachable → inner ≡ n.continues → after ≡ old.continues
      → WalksCode walk None body before (record old { continues = start }) done n → Joins (rules walk) inner done again → WalksCode walk None next again (record n { continues = after }) back new
      → TurnsOnce walk body next before old back new
  turn_once body next before old start done n inner again after back new is_start is_inner is_after walks joins goes = record {
    done = done;
    found = n;
    again = again;
    walks = subst (λ s. WalksCode walk None body before (record old { continues = s }) done n) is_start walks;
    comes = subst (λ s. Joins (rules walk) s done again) is_inner joins;
    goes = subst (λ s. WalksCode walk None next again (record n { continues = s }) back new) is_after goes;
  }

  -- a `while` or a `for`, with what the code has in the places of these stores
  pub while_walks : (last : Option Op) (asked : Condition) (body next : Code) (number scope : ℕ) (before : Stored) (old : Seen) (start label turn : Stored) (n0 : Seen) (begun done : Stored) (n1 : Seen) (again outer : Stored) (n2 : Seen) (back : Stored) (n3 : Seen)
      (out around : Stored) (new : Seen) → start ≡ Unreachable → label ≡ label_of (labels_in walk) number → AsksOn walk asked label (record old { breaks = start }) turn n0
      → begun ≡ Unreachable → WalksCode walk None body turn (record n0 { continues = begun }) done n1
      → Joins (rules walk) n1.continues done again → outer ≡ n0.continues → n2 ≡ record n1 { continues = outer } → WalksCode walk None next again n2 back n3
      → JudgesLoop walk number scope before back n3.failed new.failed → out ≡ n3.breaks → around ≡ old.breaks → new ≡ record n3 { breaks = around; failed = new.failed }
      → WalksItem walk last (Loop true asked body next number scope) before old out new
  while_walks last asked body next number scope before old start label turn n0 begun done n1 again outer n2 back n3 out around new is_start is_label asks is_begun walks joins is_outer is_n2 goes judges is_out is_around is_new =
      let goes' = subst (λ (n : Seen). WalksCode walk None next again n back n3) is_n2 goes in
      let once = turn_once body next turn n0 begun done n1 n1.continues again outer back n3 is_begun refl is_outer walks joins goes' in
      let begins = subst (λ s. AsksOn walk asked s (record old { breaks = Unreachable }) turn n0) is_label (subst (λ s. AsksOn walk asked label (record old { breaks = s }) turn n0) is_start asks) in
      let item : WalksItem walk last (Loop true asked body next number scope) before old n3.breaks (record n3 { breaks = old.breaks; failed = new.failed }) = λ rest end m tail.
      (turn, begins.fails, record n0 { breaks = begins.breaks }, n0.breaks, once.done, once.found, once.again, back, n3, new.failed, begins.splits, begins.leaves, once.walks, once.comes, once.goes, judges, tail) in
      ended last (Loop true asked body next number scope) before old n3 out around new is_out is_around is_new item

  -- a `do`
  pub do_while_walks : (last : Option Op) (asked : Condition) (body next : Code) (number scope : ℕ) (before : Stored) (old : Seen) (start label begun done : Stored) (n1 : Seen) (again outer : Stored) (n2 : Seen) (tested : Stored) (n : Seen) (back : Stored) (n3 : Seen)
      (out around : Stored) (new : Seen) → start ≡ Unreachable → label ≡ label_of (labels_in walk) number
      → begun ≡ Unreachable → WalksCode walk None body label (record old { breaks = start; continues = begun }) done n1
      → Joins (rules walk) n1.continues done again → outer ≡ old.continues → n2 ≡ record n1 { continues = outer } → WalksCode walk None next again n2 tested n
      → AsksOn walk asked tested n back n3
      → JudgesLoop walk number scope before back n3.failed new.failed → out ≡ n3.breaks → around ≡ old.breaks → new ≡ record n3 { breaks = around; failed = new.failed }
      → WalksItem walk last (Loop false asked body next number scope) before old out new
  do_while_walks last asked body next number scope before old start label begun done n1 again outer n2 tested n back n3 out around new is_start is_label is_begun walks joins is_outer is_n2 goes asks judges is_out is_around is_new =
      let goes' = subst (λ (m : Seen). WalksCode walk None next again m tested n) is_n2 goes in
      let walks' = subst (λ s. WalksCode walk None body s (record old { breaks = Unreachable; continues = begun }) done n1) is_label (subst (λ s. WalksCode walk None body label (record old { breaks = s; continues = begun }) done n1) is_start walks) in
      let once = turn_once body next (label_of (labels_in walk) number) (record old { breaks = Unreachable }) begun done n1 n1.continues again outer tested n is_begun refl is_outer walks' joins goes' in
      let item : WalksItem walk last (Loop false asked body next number scope) before old n3.breaks (record n3 { breaks = old.breaks; failed = new.failed }) = λ rest end m tail.
      (once.done, once.found, once.again, tested, n, back, asks.fails, record n3 { breaks = asks.breaks }, n3.breaks, new.failed, once.walks, once.comes, once.goes, asks.splits, asks.leaves, judges, tail) in
      ended last (Loop false asked body next number scope) before old n3 out around new is_out is_around is_new item

  pub asks_on : (asked : Condition) (before : Stored) (old : Seen) (holds fails : Stored) (n : Seen) (breaks : Stored) → SplitsOn walk None asked before old holds fails n → Joins (rules walk) n.breaks fails breaks
      → AsksOn walk asked before old holds (record n { breaks = breaks })
  asks_on asked before old holds fails n breaks splits joins = record { fails = fails; breaks = n.breaks; splits = splits; leaves = joins }

  -- ---- blocks

  -- what is walked of a block before the rest of it
  abbrev pub WalksSome : Option Op → Code → Stored → Seen → Option Op → Code → Stored → Seen → Type 0
  WalksSome last whole before old done rest at now = (end : Stored) (m : Seen) → WalksCode walk done rest at now end m → WalksCode walk last whole before old end m

  pub some_begins : (last : Option Op) (whole : Code) (before at : Stored) (old : Seen) → at ≡ before → WalksSome last whole before old last whole at old
  some_begins last whole before at old is = λ end m tail. subst (λ s. WalksCode walk last whole s old end m) is tail

  pub some_goes : (last : Option Op) (items : List Item) (index : ℕ) (item : Item) (before : Stored) (old : Seen) (done next : Option Op) (at : Stored) (now : Seen) (behind : Stored) (new : Seen)
      → index < length items → item ≡ get_or items index item → next ≡ last_done None (item_code item End)
      → WalksSome last (items_code items) before old done (items_code (drop index items)) at now → WalksItem walk done (item_code item) at now behind new
      → WalksSome last (items_code items) before old next (items_code (drop (index + 1) items)) behind new
  some_goes last items index item before old done next at now behind new within is stands so_far walks = λ end m tail.
      let cut : drop index items ≡ item ∷ drop (index + 1) items = drop-cons items index item within ∙ (ap (λ s. s ∷ drop (suc index) items) (sym is) ∙ rw add-one refl) in
      so_far end m (subst (λ code. WalksCode walk done code at now end m) (sym (ap items_code cut))
      (walks (items_code (drop (index + 1) items)) end m (subst (λ (o : Option Op). WalksCode walk o (items_code (drop (index + 1) items)) behind new end m) stands tail)))

  pub some_ends : (last : Option Op) (whole rest : Code) (before : Stored) (old : Seen) (done : Option Op) (at : Stored) (now : Seen) → rest ≡ End → WalksSome last whole before old done rest at now → WalksCode walk last whole before old at now
  some_ends last whole rest before old done at now none so_far = so_far at now (subst (λ code. WalksCode walk done code at now at now) (sym none) (refl, refl))

  -- ---- conditions

  pub ask_as : (last : Option Op) (one other : Condition) (before : Stored) (old : Seen) (holds fails : Stored) (new : Seen) → one ≡ other → SplitsOn walk last other before old holds fails new → SplitsOn walk last one before old holds fails new
  ask_as last one other before old holds fails new is splits = subst (λ asked. SplitsOn walk last asked before old holds fails new) (sym is) splits

  pub compare_splits : (last : Option Op) (code : Code) (test : Test) (before : Stored) (old : Seen) (after holds fails : Stored) (new : Seen) → WalksCode walk last code before old after new
      → IsLeast (rules walk) ((rules walk).Tested true test after) holds → IsLeast (rules walk) ((rules walk).Tested false test after) fails → SplitsOn walk last (Compare code test) before old holds fails new
  compare_splits last code test before old after holds fails new walks so not = (after, walks, so, not)

  pub truth_splits : (last : Option Op) (code : Code) (slot : ℕ) (before : Stored) (old : Seen) (after holds fails : Stored) (new : Seen) → WalksCode walk last code before old after new
      → IsLeast (rules walk) ((rules walk).Told true (last_done None code) slot after) holds → IsLeast (rules walk) ((rules walk).Told false (last_done None code) slot after) fails → SplitsOn walk last (Truth code slot) before old holds fails new
  truth_splits last code slot before old after holds fails new walks so not = (after, walks, so, not)

  pub both_split : (last : Option Op) (first second : Condition) (before : Stored) (old : Seen) (between one : Stored) (n : Seen) (holds two : Stored) (new : Seen) (fails : Stored) → SplitsOn walk last first before old between one n
      → SplitsOn walk None second between n holds two new → Joins (rules walk) one two fails → SplitsOn walk last (Both first second) before old holds fails new
  both_split last first second before old between one n holds two new fails s1 s2 joins = (between, one, n, two, s1, s2, joins)

  pub either_splits : (last : Option Op) (first second : Condition) (before : Stored) (old : Seen) (one between : Stored) (n : Seen) (two fails : Stored) (new : Seen) (holds : Stored) → SplitsOn walk last first before old one between n
      → SplitsOn walk None second between n two fails new → Joins (rules walk) one two holds → SplitsOn walk last (Either first second) before old holds fails new
  either_splits last first second before old one between n two fails new holds s1 s2 joins = (one, between, n, two, s1, s2, joins)

  pub opposite_splits : (last : Option Op) (asked : Condition) (before : Stored) (old : Seen) (holds fails : Stored) (new : Seen) → SplitsOn walk last asked before old fails holds new → SplitsOn walk last (Opposite asked) before old holds fails new
  opposite_splits last asked before old holds fails new splits = splits
