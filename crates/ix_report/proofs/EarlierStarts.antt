-- Errors that are told in the order of their starts: one that starts behind others has none of their lines.
use Rattle.std.proofs.Common.{◌≡◌, ℕ, ◌<◌, ◌≤◌, Bool, true, false, ◌||◌, if◌then◌else◌, List, [], ◌∷◌, ◌++◌, length, take, drop, refl, sym, ap, subst, ◌∙◌, arith}
use Rattle.std.specs.List.{All, list_any}
use Rattle.std.proofs.lemmas.List.{take-append-le, take-append-drop, length-append}
use Rattle.std.proofs.lemmas.List.Elements.{All-weaker, All-push, All-nil}
use Rattle.std.proofs.lemmas.List.Folds.{list_any_none, list_any-append}
use Rattle.std.proofs.Math.Seq.{take-length}
use Rattle.ix_report.specs.EarlierStarts.{Earlier}
use Rattle.ix_report.specs.Once.{tell, told as told_of, told_behind}

module _ {A : Type 0} (start : A → ℕ) where
  earlier_none : Earlier start [] 0 0
  earlier_none = record { within = omega arith; before = All-nil (λ (o : A). start o < 0); all = All-nil (λ (o : A). start o ≤ 0) }

  pub earlier_moved : (told : List A) (earlier last from : ℕ) → Earlier start told earlier last → last < from → Earlier start told (length told) from
  earlier_moved told earlier last from e later = record {
    within = omega arith;
    before = subst (λ (t : List A). All (λ (o : A). start o < from) t) (sym (take-length told)) (All-weaker (λ (o : A). start o ≤ last) (λ (o : A). start o < from) (λ o le. omega (arith, le, later)) told e.all);
    all = All-weaker (λ (o : A). start o ≤ last) (λ (o : A). start o ≤ from) (λ o le. omega (arith, le, later)) told e.all;
  }

  earlier_pushed : (told : List A) (earlier last : ℕ) (error : A) → Earlier start told earlier last → start error ≤ last → Earlier start (told ++ error ∷ []) earlier last
  earlier_pushed told earlier last error e at = record {
    within = subst (λ n. earlier ≤ n) (sym (length-append told (error ∷ []))) (omega (arith, e.within));
    before = subst (λ (t : List A). All (λ (o : A). start o < last) t) (sym (take-append-le earlier told (error ∷ []) e.within)) e.before;
    all = All-push (λ (o : A). start o ≤ last) told error e.all at;
  }

  module _ (have_one_line : A → A → Bool) where
    -- what starts before an error can be left out of the search for its line
    pub rest_suffices : ((one other : A) → (start one ≡ start other → ⊥) → have_one_line one other ≡ false) → (error : A) (told : List A) (earlier last : ℕ)
        → All (λ (other : A). start other < last) (take earlier told) → last ≤ start error → list_any (have_one_line error) (drop earlier told) ≡ list_any (have_one_line error) told
    rest_suffices apart error told earlier last before behind =
        let none = list_any_none (have_one_line error) (take earlier told)
        (All-weaker (λ (o : A). start o < last) (λ (o : A). have_one_line error o ≡ false) (λ o lt. apart error o (λ same. omega (arith, same, lt, behind))) (take earlier told) before) in
        sym (ap (list_any (have_one_line error)) (sym (take-append-drop earlier told))
        ∙ list_any-append (have_one_line error) (take earlier told) (drop earlier told)
        ∙ ap (λ b. b || list_any (have_one_line error) (drop earlier told)) none)

    -- ---- one error more is told

    tell_earlier : (test : Bool) (told : List A) (earlier last : ℕ) (error : A) → Earlier start told earlier last → start error ≤ last → Earlier start (if test then told else told ++ error ∷ []) earlier last
    tell_earlier true told earlier last error e at = e
    tell_earlier false told earlier last error e at = earlier_pushed told earlier last error e at

    pub tell_old : (told more : List A) (error : A) → true ≡ list_any (have_one_line error) told → more ≡ told → more ≡ tell have_one_line told error
    tell_old told more error old is = is ∙ ap (λ (b : Bool). if b then told else told ++ error ∷ []) old

    pub tell_new : (told more : List A) (error : A) → false ≡ list_any (have_one_line error) told → more ≡ told ++ error ∷ [] → more ≡ tell have_one_line told error
    tell_new told more error new is = is ∙ ap (λ (b : Bool). if b then told else told ++ error ∷ []) new

    -- so far so much was told, of errors of which these are left
    pub record IsTelling (errors told : List A) (earlier last : ℕ) (left : List A) : Type 0 where
      pub tells : told_of have_one_line errors ≡ told_behind have_one_line told left
      pub starts : Earlier start told earlier last

    pub telling_begins : (errors told left : List A) → told ≡ [] → left ≡ errors → IsTelling errors told 0 0 left
    telling_begins errors told left none all =
        subst (λ (t : List A). IsTelling errors t 0 0 left) (sym none)
        (subst (λ (l : List A). IsTelling errors [] 0 0 l) (sym all) (record { tells = refl; starts = earlier_none }))

    pub telling_more : (errors told more : List A) (was_earlier was_last earlier last : ℕ) (error : A) (left rest : List A)
        → IsTelling errors told was_earlier was_last left → left ≡ error ∷ rest → Earlier start told earlier last → start error ≤ last → more ≡ tell have_one_line told error
        → IsTelling errors more earlier last rest
    telling_more errors told more was_earlier was_last earlier last error left rest telling is starts at one = record {
      tells = telling.tells ∙ ap (told_behind have_one_line told) is ∙ ap (λ t. told_behind have_one_line t rest) (sym one);
      starts = subst (λ (t : List A). Earlier start t earlier last) (sym one) (tell_earlier (list_any (have_one_line error) told) told earlier last error starts at);
    }

    -- nothing is left
    pub all_told : (errors told left : List A) (earlier last : ℕ) → IsTelling errors told earlier last left → left ≡ [] → told ≡ told_of have_one_line errors
    all_told errors told left earlier last telling none = sym (telling.tells ∙ ap (told_behind have_one_line told) none)
