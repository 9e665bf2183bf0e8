-- A number leads to the first that passes a test.
use Rattle.std.proofs.Common.{◌≡◌, ℕ, ◌+◌, Bool, true, false, cond, Option, Some, None, option_map, List, [], ◌∷◌, ◌++◌, length, refl, ap, sym, ◌∙◌, slice_get, get_or, drop, ◌<◌, append_assoc}
use Rattle.std.proofs.lemmas.List.{length-append, at_drop_more}
use Rattle.ix_meaning.specs.declared.members.Field.{Field}
use Rattle.ix_meaning.specs.declared.members.Signature.{Signature}
use Rattle.ix_meaning.specs.Members.{Callee, own_field, callable_if}
use Rattle.ix_class_members.specs.First.{found_or, first_where, is_field_named}
use Rattle.ix_class_members.specs.World.{number_in, numbered, callable_at}

at_end : {A : Type 0} (before : List A) (a : A) (more : List A) → slice_get (before ++ a ∷ more) (length before) ≡ Some a
at_end [] a more = refl
at_end (b ∷ before) a more = at_end before a more

module _ {A : Type 0} (passes : A → Bool) where
  -- once one is found it stays
  pub found_stays : (k j : ℕ) (list : List A) → first_where passes (Some k) j list ≡ Some k
  found_stays k j [] = refl
  found_stays k j (a ∷ more) = found_stays k (j + 1) more

  pub found_here : (list : List A) (k : ℕ) (a : A) → k < length list → passes (get_or list k a) ≡ true → first_where passes None k (drop k list) ≡ Some k
  found_here list k a lt is =
      at_drop_more (λ l. first_where passes None k l) list k a lt
      ∙ ap (λ b. first_where passes (found_or None b k) (k + 1) (drop (k + 1) list)) is
      ∙ found_stays k (k + 1) (drop (k + 1) list)

  module _ {B : Type 0} (made : ℕ → A → B) where
    abbrev pub picked : Option ℕ → List A → Option B
    picked None list = None
    picked (Some k) list = option_map (made k) (slice_get list k)

    abbrev pub first : ℕ → List A → Option B
    first k [] = None
    first k (a ∷ more) = cond (passes a) (Some (made k a)) (first (k + 1) more)

    more_before : (before : List A) (a : A) → length (before ++ a ∷ []) ≡ length before + 1
    more_before before a = length-append before (a ∷ [])

    one_by : (before : List A) (a : A) (more : List A) (b : Bool)
        → picked (first_where passes None (length (before ++ a ∷ [])) more) ((before ++ a ∷ []) ++ more) ≡ first (length (before ++ a ∷ [])) more
        → picked (first_where passes (found_or None b (length before)) (length before + 1) more) (before ++ a ∷ more) ≡ cond b (Some (made (length before) a)) (first (length before + 1) more)
    one_by before a more true rest =
        ap (λ found. picked found (before ++ a ∷ more)) (found_stays (length before) (length before + 1) more)
        ∙ ap (option_map (made (length before))) (at_end before a more)
    one_by before a more false rest =
        ap (λ k. picked (first_where passes None k more) (before ++ a ∷ more)) (sym (more_before before a))
        ∙ ap (λ list. picked (first_where passes None (length (before ++ a ∷ [])) more) list) (sym (append_assoc before (a ∷ []) more))
        ∙ rest
        ∙ ap (λ k. first k more) (more_before before a)

    picked_from : (before rest : List A) → picked (first_where passes None (length before) rest) (before ++ rest) ≡ first (length before) rest
    picked_from before [] = refl
    picked_from before (a ∷ more) = one_by before a more (passes a) (picked_from (before ++ a ∷ []) more)

    pub picked_first : (list : List A) → picked (first_where passes None 0 list) list ≡ first 0 list
    picked_first list = picked_from [] list

-- fields
same_option : {A : Type 0} (o : Option A) → o ≡ option_map (λ a. a) o
same_option None = refl
same_option (Some a) = refl

field_picked : (c : ℕ) (name : List ℕ) (found : Option ℕ) (fs : List Field) → number_in found fs ≡ picked (is_field_named c name) (λ k f. f) found fs
field_picked c name None fs = refl
field_picked c name (Some k) fs = same_option (slice_get fs k)

field_first : (c : ℕ) (name : List ℕ) (k : ℕ) (fs : List Field) → first (is_field_named c name) (λ k f. f) k fs ≡ own_field fs c name
field_first c name k [] = refl
field_first c name k (f ∷ fs) = ap (λ later. cond (is_field_named c name f) (Some f) later) (field_first c name (k + 1) fs)

pub own_field_numbered : (c : ℕ) (name : List ℕ) (fs : List Field) → number_in (first_where (is_field_named c name) None 0 fs) fs ≡ own_field fs c name
own_field_numbered c name fs =
    field_picked c name (first_where (is_field_named c name) None 0 fs) fs ∙ picked_first (is_field_named c name) (λ k f. f) fs ∙ field_first c name 0 fs

-- methods
abbrev pub the_callee : ℕ → Signature → Callee
the_callee k m = record { number = k; signature = m }

numbered_map : (k : ℕ) (o : Option Signature) → numbered k o ≡ option_map (the_callee k) o
numbered_map k None = refl
numbered_map k (Some m) = refl

method_picked : (passes : Signature → Bool) (found : Option ℕ) (ms : List Signature) → callable_at found ms ≡ picked passes the_callee found ms
method_picked passes None ms = refl
method_picked passes (Some k) ms = numbered_map k (slice_get ms k)

method_first : (passes : Signature → Bool) (k : ℕ) (ms : List Signature) → first passes the_callee k ms ≡ callable_if passes k ms
method_first passes k [] = refl
method_first passes k (m ∷ ms) = ap (λ later. cond (passes m) (Some (the_callee k m)) later) (method_first passes (k + 1) ms)

pub callable_numbered : (passes : Signature → Bool) (ms : List Signature) → callable_at (first_where passes None 0 ms) ms ≡ callable_if passes 0 ms
callable_numbered passes ms =
    method_picked passes (first_where passes None 0 ms) ms ∙ picked_first passes the_callee ms ∙ method_first passes 0 ms
