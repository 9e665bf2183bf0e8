-- Lines read as facts, one after the other.
use Rattle.std.specs.Prelude.{◌≡◌, ℕ, true, false, List, [], ◌∷◌, ◌++◌, codes, refl}
use Rattle.std.proofs.Common.{ap, sym, ◌∙◌, subst, inl, inr, append_assoc}
use Rattle.ix_core.specs.declared.fact.Fact.{Fact}
use Rattle.ix_facts.specs.Facts.{IsIn}
use Rattle.ix_facts.specs.Forget.{names}
use Rattle.ix_cert.specs.Labellings.{is_outside}
use Rattle.ix_cert.specs.Lines.{Ascend, AreLinesOf, IsAmong, fact_text, is_before, ended, lines_text}
use Rattle.ix_cert.specs.Reading.{Lacks, IsCut, MayBeRead, IsReadAs, Stops, FactsText, EndsLabel}
use Rattle.ix_cert.proofs.Bytes.{lacks_no, cut_once, nil_middle}
use Rattle.ix_cert.proofs.Orders.{fact_lacks, before_on}
use Rattle.ix_cert.proofs.Ends.{fact_before}

-- ---- the end of a label's lines

-- a line with its end, before the rest
pub line_first : (line rest : List ℕ) → ended line ++ rest ≡ line ++ 10 ∷ rest
line_first line rest = append_assoc line (codes "\n") rest

pub stops_none : (slots fields : ℕ) (last text : List ℕ) → Lacks 10 text → Stops slots fields last text
stops_none slots fields last text lacks = λ fact rest may behind e. lacks_no 10 text (fact_text fact) rest lacks (e ∙ line_first (fact_text fact) rest)

pub stops_cut : (slots fields : ℕ) (last text line rest : List ℕ) → IsCut 10 text line rest
    → ((fact : Fact) → MayBeRead slots fields fact → is_before last line ≡ true → fact_text fact ≡ line → ⊥) → Stops slots fields last text
stops_cut slots fields last text line rest cut none = λ fact other may behind e.
    let same = cut_once 10 line rest (fact_text fact) other cut.0 (fact_lacks fact may.small) (sym cut.1 ∙ (e ∙ line_first (fact_text fact) other)) in
    none fact may (subst (λ t. is_before last t ≡ true) (sym same.0) behind) (sym same.0)

-- ---- lines and facts side by side

abbrev pub AscendFrom : List ℕ → List (List ℕ) → Type 0
AscendFrom last [] = Unit {0}
AscendFrom last (line ∷ lines) = (is_before last line ≡ true) × AscendFrom line lines

abbrev pub AreReadAs : (slots fields : ℕ) → List Fact → List (List ℕ) → Type 0
AreReadAs slots fields [] [] = Unit {0}
AreReadAs slots fields [] (line ∷ lines) = ⊥
AreReadAs slots fields (fact ∷ facts) [] = ⊥
AreReadAs slots fields (fact ∷ facts) (line ∷ lines) = IsReadAs slots fields line fact × AreReadAs slots fields facts lines

-- each line is that of a fact that may be read
abbrev pub MayAllBeRead : (slots fields : ℕ) → List (List ℕ) → Type 0
MayAllBeRead slots fields [] = Unit {0}
MayAllBeRead slots fields (line ∷ lines) = ((fact : Fact) × MayBeRead slots fields fact × (line ≡ fact_text fact)) × MayAllBeRead slots fields lines

pub to_ascend : (last : List ℕ) (lines : List (List ℕ)) → AscendFrom last lines → Ascend lines
to_ascend last [] a = tt
to_ascend last (line ∷ []) a = tt
to_ascend last (line ∷ next ∷ lines) a = (a.1.0, to_ascend line (next ∷ lines) a.1)

from_ascend : (line : List ℕ) (lines : List (List ℕ)) → Ascend (line ∷ lines) → AscendFrom line lines
from_ascend line [] a = tt
from_ascend line (next ∷ lines) a = (a.0, from_ascend next lines a.1)

pub ascend_first : (slots fields : ℕ) (lines : List (List ℕ)) → Ascend lines → MayAllBeRead slots fields lines → AscendFrom [] lines
ascend_first slots fields [] a all = tt
ascend_first slots fields (line ∷ lines) a all = (subst (λ t. is_before [] t ≡ true) (sym all.0.2) (fact_before all.0.0), from_ascend line lines a)

pub ascend_lower : (low high : List ℕ) (lines : List (List ℕ)) → is_before low high ≡ true → AscendFrom high lines → AscendFrom low lines
ascend_lower low high [] h a = tt
ascend_lower low high (line ∷ lines) h a = (before_on low high line h a.0, a.1)

pub joined : (line lines rest : List ℕ) → (ended line ++ lines) ++ rest ≡ line ++ 10 ∷ (lines ++ rest)
joined line lines rest = append_assoc (ended line) lines rest ∙ line_first line (lines ++ rest)

-- the lines of what was read
pub lines_of : (slots fields : ℕ) (last text : List ℕ) (facts : List Fact) (rest : List ℕ) → FactsText slots fields last text facts rest
    → (lines : List (List ℕ)) × AscendFrom last lines × AreReadAs slots fields facts lines × (text ≡ lines_text lines ++ rest)
lines_of slots fields last text [] rest t = ([], tt, tt, t.0)
lines_of slots fields last text (fact ∷ facts) rest t =
    let r = lines_of slots fields t.0 t.1 facts rest t.3 in
    let whole : text ≡ t.0 ++ 10 ∷ t.1 = t.2.cut.1 in
    (t.0 ∷ r.0, (t.2.behind, r.1), (t.2.read, r.2), whole ∙ (ap (λ xs. t.0 ++ 10 ∷ xs) r.3 ∙ sym (joined t.0 (lines_text r.0) rest)))

-- lines that stand there are those that were read
pub match_lines : (slots fields : ℕ) (last text : List ℕ) (facts : List Fact) (rest : List ℕ) (lines : List (List ℕ)) (after : List ℕ)
    → FactsText slots fields last text facts rest → AscendFrom last lines → MayAllBeRead slots fields lines → text ≡ lines_text lines ++ after → EndsLabel after
    → (rest ≡ after) × AreReadAs slots fields facts lines
match_lines slots fields last text [] rest [] after t a all e ends = (sym t.0 ∙ e, tt)
match_lines slots fields last text [] rest (line ∷ lines) after t a all e ends =
    absurd
    (t.1 all.0.0 (lines_text lines ++ after) all.0.1
    (subst (λ x. is_before last x ≡ true) all.0.2 a.0)
    (e ∙ (append_assoc (ended line) (lines_text lines) after ∙ ap (λ x. ended x ++ (lines_text lines ++ after)) all.0.2)))
match_lines slots fields last text (fact ∷ facts) rest [] after t a all e ends =
    let whole : text ≡ t.0 ++ 10 ∷ t.1 = t.2.cut.1 in
    absurd (ends.fact fact t.1 (sym e ∙ (whole ∙ (sym (line_first t.0 t.1) ∙ ap (λ x. ended x ++ t.1) (sym t.2.read.text)))))
match_lines slots fields last text (fact ∷ facts) rest (line ∷ lines) after t a all e ends =
    let whole : text ≡ t.0 ++ 10 ∷ t.1 = t.2.cut.1 in
    let lacks = subst (Lacks 10) (sym all.0.2) (fact_lacks all.0.0 all.0.1.small) in
    let same = cut_once 10 t.0 t.1 line (lines_text lines ++ after) t.2.cut.0 lacks (sym whole ∙ (e ∙ joined line (lines_text lines) after)) in
    let r = match_lines slots fields t.0 t.1 facts rest lines after t.3 (subst (λ x. AscendFrom x lines) (sym same.0) a.1) all.1 same.1 ends in
    (r.0, (subst (λ x. IsReadAs slots fields x fact) same.0 t.2.read, r.1))

-- ---- members

pub line_among : (line : List ℕ) (lines : List (List ℕ)) → IsAmong line (line ∷ lines)
line_among line lines = ([], lines, refl)

pub among_more : (other line : List ℕ) (lines : List (List ℕ)) → IsAmong line lines → IsAmong line (other ∷ lines)
among_more other line lines among = (other ∷ among.0, among.1, ap (λ xs. other ∷ xs) among.2)

pub read_at : (slots fields : ℕ) (facts : List Fact) (lines : List (List ℕ)) (line : List ℕ) → AreReadAs slots fields facts lines → (before after : List (List ℕ)) → lines ≡ before ++ line ∷ after
    → (fact : Fact) × IsIn fact facts × IsReadAs slots fields line fact
read_at slots fields [] [] line all before after e = absurd (nil_middle before line after e)
read_at slots fields [] (x ∷ lines) line all before after e = absurd all
read_at slots fields (fact ∷ facts) [] line all before after e = absurd all
read_at slots fields (fact ∷ facts) (x ∷ lines) line all [] after e =
    let same : x ≡ line = cc in
    (fact, inl refl, subst (λ y. IsReadAs slots fields y fact) same all.0)
read_at slots fields (fact ∷ facts) (x ∷ lines) line all (y ∷ before) after e =
    let tail : lines ≡ before ++ line ∷ after = cc in
    let r = read_at slots fields facts lines line all.1 before after tail in
    (r.0, inr r.1, r.2)

pub line_at : (slots fields : ℕ) (facts : List Fact) (lines : List (List ℕ)) (fact : Fact) → AreReadAs slots fields facts lines → IsIn fact facts
    → (line : List ℕ) × IsAmong line lines × IsReadAs slots fields line fact
line_at slots fields [] lines fact all i = absurd i
line_at slots fields (f ∷ facts) [] fact all i = absurd all
line_at slots fields (f ∷ facts) (x ∷ lines) fact all (inl e) = (x, line_among x lines, subst (IsReadAs slots fields x) (sym e) all.0)
line_at slots fields (f ∷ facts) (x ∷ lines) fact all (inr i) =
    let r = line_at slots fields facts lines fact all.1 i in
    (r.0, among_more x r.0 lines r.1, r.2)

-- the lines are those of the facts that were read
pub lines_read : (slots fields : ℕ) (facts : List Fact) (lines : List (List ℕ)) → AscendFrom [] lines → AreReadAs slots fields facts lines → AreLinesOf facts lines
lines_read slots fields facts lines a all = (
  to_ascend [] lines a,
  λ line. (
    λ among.
        let r = read_at slots fields facts lines line all among.0 among.1 among.2 in
        (r.0, r.1, sym r.2.text),
    λ w.
        let r = line_at slots fields facts lines w.0 all w.1 in
        subst (λ x. IsAmong x lines) (sym r.2.text ∙ sym w.2) r.1,
  ),
)

pub each_inside : (slots fields : ℕ) (facts : List Fact) (lines : List (List ℕ)) (fact : Fact) → AreReadAs slots fields facts lines → IsIn fact facts → names (is_outside slots fields) fact ≡ false
each_inside slots fields facts lines fact all i = (line_at slots fields facts lines fact all i).2.inside
