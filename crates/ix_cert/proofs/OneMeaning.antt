-- A text is a certificate of one profile, and of labels that say the same.
use Rattle.std.specs.Prelude.{◌≡◌, ℕ, suc, ◌<◌, ◌^◌, Bool, true, false, List, [], ◌∷◌, ◌++◌, length, slice_get, unwrap_or, codes, decimal, refl}
use Rattle.std.proofs.Common.{arith, get_or, ap, sym, ◌∙◌, subst, inl, inr, ⊎_elim, append_assoc}
use Rattle.std.proofs.lemmas.Bool.{false≢true}
use Rattle.ix_core.specs.declared.fact.Fact.{Fact}
use Rattle.ix_core.specs.declared.fact.Profile.{Profile}
use Rattle.ix_core.specs.declared.fact.Profile.TheVariants.{Ideal, Int32}
use Rattle.ix_core.specs.declared.program.Method.{Method}
use Rattle.ix_core.specs.declared.program.Program.{Program}
use Rattle.ix_core.specs.Tables.{no_method}
use Rattle.ix_core.proofs.Cases.{differ}
use Rattle.ix_facts.specs.Facts.{IsIn, orders, is_default}
use Rattle.ix_facts.specs.Closure.{SaysAll}
use Rattle.ix_facts.specs.Stores.{Stored, Unreachable, Reached, SayTheSame}
use Rattle.ix_facts.proofs.FactLists.{from_in_orders, in_in_orders}
use Rattle.ix_facts.proofs.SaidLaws.{order_default}
use Rattle.ix_cert.specs.Lines.{AreLinesOf, IsAmong, fact_text, ended, lines_text}
use Rattle.ix_cert.specs.Labellings.{MayBeWritten, IsLabel, LabelsText, PartText, MethodsText, IsLabelling, has_part}
use Rattle.ix_core.specs.FirstLine.{profile_text}
use Rattle.ix_cert.specs.Reading.{Lacks, EndsLabel, in_text_order}
use Rattle.ix_cert.specs.SameLabels.{SameStores, SameLabels, HasSmallPaths}
use Rattle.ix_cert.proofs.Bytes.{cancel, cut_once}
use Rattle.ix_cert.proofs.Ends.{end_ends, labels_end, methods_end}
use Rattle.ix_cert.proofs.OneFact.{fact_once}
use Rattle.ix_cert.proofs.Orders.{fact_lacks, text_order_in}
use Rattle.ix_cert.proofs.ReadLines.{MayAllBeRead, joined}
use Rattle.ix_cert.proofs.WholeRead.{turned_forth, turned_back, may_be_read, from_facts, all_may, no_lines}

-- ---- the lines of a label

module _ (slots fields : ℕ) where
  first_line : (line : List ℕ) (lines : List (List ℕ)) (after : List ℕ) (f : Fact) → line ≡ fact_text f → lines_text (line ∷ lines) ++ after ≡ ended (fact_text f) ++ (lines_text lines ++ after)
  first_line line lines after f is = append_assoc (ended line) (lines_text lines) after ∙ ap (λ x. ended x ++ (lines_text lines ++ after)) is

  -- texts of facts' lines, up to what is no line, are cut in one way
  lines_once : (lines others : List (List ℕ)) (after behind : List ℕ) → MayAllBeRead slots fields lines → MayAllBeRead slots fields others → lines_text lines ++ after ≡ lines_text others ++ behind
      → EndsLabel after → EndsLabel behind → (lines ≡ others) × (after ≡ behind)
  lines_once [] [] after behind all more e ends stops = (refl, e)
  lines_once [] (other ∷ others) after behind all more e ends stops = absurd (ends.fact more.0.0 (lines_text others ++ behind) (e ∙ first_line other others behind more.0.0 more.0.2))
  lines_once (line ∷ lines) [] after behind all more e ends stops = absurd (stops.fact all.0.0 (lines_text lines ++ after) (sym e ∙ first_line line lines after all.0.0 all.0.2))
  lines_once (line ∷ lines) (other ∷ others) after behind all more e ends stops =
      let one = subst (Lacks 10) (sym all.0.2) (fact_lacks all.0.0 all.0.1.small) in
      let two = subst (Lacks 10) (sym more.0.2) (fact_lacks more.0.0 more.0.1.small) in
      let cut = cut_once 10 line (lines_text lines ++ after) other (lines_text others ++ behind) one two (sym (joined line (lines_text lines) after) ∙ (e ∙ joined other (lines_text others) behind)) in
      let rest = lines_once lines others after behind all.1 more.1 cut.1 ends stops in
      let first = cut.0 in
      let later = rest.0 in
      (cc, rest.1)

-- ---- facts with the same lines

-- each fact has one beside it that is written in the same order
abbrev Beside : List Fact → List Fact → Type 0
Beside facts others = (f : Fact) → IsIn f facts → (g : Fact) × IsIn g others × (in_text_order f ≡ in_text_order g)

beside_says : (facts others : List Fact) → Beside facts others → SaysAll others facts
beside_says facts others beside f said =
    ⊎_elim
    (λ d. inl d)
    (λ w.
    let r = from_in_orders w.0 facts w.1 in
    let b = beside r.0 r.1 in
    let order : IsIn w.0 (orders b.0) = turned_back w.0 b.0 (subst (λ k. IsIn w.0 (orders k)) b.2 (turned_forth w.0 r.0 r.2)) in
    let told : is_default b.0 ≡ false =
    sym (order_default b.0 (in_text_order b.0) (text_order_in b.0)) ∙ (sym (ap is_default b.2) ∙ (order_default r.0 (in_text_order r.0) (text_order_in r.0) ∙ r.3)) in
    inr (w.0, in_in_orders w.0 b.0 others b.1 order told, w.2))
    said

module _ (slots fields : ℕ) (x : slots < 2 ^ 32) (y : fields < 2 ^ 32) where
  lines_beside : (facts others : List Fact) (lines more : List (List ℕ)) → MayBeWritten slots fields facts → MayBeWritten slots fields others → AreLinesOf facts lines → AreLinesOf others more
      → lines ≡ more → Beside facts others
  lines_beside facts others lines more may can own are same f i =
      let there = subst (IsAmong (fact_text f)) same ((own.1 (fact_text f)).1 (f, i, refl)) in
      let w = (are.1 (fact_text f)).0 there in
      (w.0, w.1, fact_once f w.0 (may_be_read slots fields x y facts may f i).small (may_be_read slots fields x y others can w.0 w.1).small w.2)

  label_once : (store other : Stored) (lines others : List (List ℕ)) (after behind : List ℕ) → IsLabel slots fields store lines → IsLabel slots fields other others
      → lines_text lines ++ after ≡ lines_text others ++ behind → EndsLabel after → EndsLabel behind → (after ≡ behind) × SayTheSame store other
  label_once Unreachable Unreachable lines others after behind own are e ends stops =
      (cancel (codes "unreachable\n") after behind (ap (λ ls. lines_text ls ++ after) (sym own) ∙ (e ∙ ap (λ ls. lines_text ls ++ behind) are)), (tt, tt))
  label_once Unreachable (Reached more) lines others after behind own are e ends stops =
      absurd (no_lines (lines_text lines ++ after) after behind others (λ line among. let w = (are.3.1 line).0 among in (w.0, w.2)) (ap (λ ls. lines_text ls ++ after) own) e stops)
  label_once (Reached facts) Unreachable lines others after behind own are e ends stops =
      absurd (no_lines (lines_text others ++ behind) behind after lines (λ line among. let w = (own.3.1 line).0 among in (w.0, w.2)) (ap (λ ls. lines_text ls ++ behind) are) (sym e) ends)
  label_once (Reached facts) (Reached more) lines others after behind own are e ends stops =
      let from = from_facts slots fields x y own.0 lines (λ line among. (own.3.1 line).0 among) in
      let others_from = from_facts slots fields x y are.0 others (λ line among. (are.3.1 line).0 among) in
      let r = lines_once slots fields lines others after behind (all_may slots fields x y own.0 own.1 lines from) (all_may slots fields x y are.0 are.1 others others_from) e ends stops in
      let forth = beside_says own.0 are.0 (lines_beside own.0 are.0 lines others own.1 are.1 own.3 are.3 r.0) in
      let back = beside_says are.0 own.0 (lines_beside are.0 own.0 others lines are.1 own.1 are.3 own.3 (sym r.0)) in
      (r.1, (λ f said. own.2.1 f (back f (are.2.0 f said)), λ f said. are.2.1 f (forth f (own.2.0 f said))))

  -- ---- the labels of a method

  labels_once : (number : ℕ) (stores others : List Stored) (text rest behind : List ℕ) → length stores ≡ length others → LabelsText slots fields number stores text rest
      → LabelsText slots fields number others text behind → EndsLabel rest → EndsLabel behind → (rest ≡ behind) × SameStores stores others
  labels_once number [] [] text rest behind counted t u ends stops = (sym t ∙ u, tt)
  labels_once number [] (other ∷ others) text rest behind counted t u ends stops = absurd (omega (arith, counted))
  labels_once number (store ∷ stores) [] text rest behind counted t u ends stops = absurd (omega (arith, counted))
  labels_once number (store ∷ stores) (other ∷ others) text rest behind counted t u ends stops =
      let head = ended (codes "label " ++ decimal number) in
      let same = cancel head (lines_text t.0 ++ t.1) (lines_text u.0 ++ u.1) (sym t.3 ∙ u.3) in
      let label = label_once store other t.0 u.0 t.1 u.1 t.2 u.2 same (labels_end slots fields (suc number) stores t.1 rest t.4 ends) (labels_end slots fields (suc number) others u.1 behind u.4 stops) in
      let more = labels_once (suc number) stores others t.1 rest behind (omega (arith, counted)) t.4 (subst (λ xs. LabelsText slots fields (suc number) others xs behind) (sym label.0) u.4) ends stops in
      (more.0, (label.1, more.1))

  part_once : (has : Bool) (number : ℕ) (stores others : List Stored) (text rest behind : List ℕ) → length stores ≡ length others → PartText has slots fields number stores text rest
      → PartText has slots fields number others text behind → EndsLabel rest → EndsLabel behind → (rest ≡ behind) × (has ≡ true → SameStores stores others)
  part_once false number stores others text rest behind counted t u ends stops = (sym t ∙ u, λ is. absurd (false≢true is))
  part_once true number stores others text rest behind counted t u ends stops =
      let same = cancel (ended (codes "method " ++ decimal number)) t.0 u.0 (sym t.1 ∙ u.1) in
      let r = labels_once 0 stores others t.0 rest behind counted t.2 (subst (λ xs. LabelsText slots fields 0 others xs behind) (sym same) u.2) ends stops in
      (r.0, λ is. r.1)

-- ---- all methods

methods_once : (fields : ℕ) → fields < 2 ^ 32 → (number : ℕ) (methods : List Method) → ((k : ℕ) → k < length methods → (unwrap_or (slice_get methods k) no_method).slots < 2 ^ 32)
    → (labels others : List (List Stored)) (text rest behind : List ℕ) → MethodsText fields number methods labels text rest → MethodsText fields number methods others text behind → EndsLabel rest → EndsLabel behind
    → SameLabels methods labels others
methods_once fields y number [] few [] [] text rest behind t u ends stops = tt
methods_once fields y number [] few [] (stores ∷ others) text rest behind t u ends stops = absurd u
methods_once fields y number [] few (stores ∷ labels) others text rest behind t u ends stops = absurd t
methods_once fields y number (method ∷ methods) few [] others text rest behind t u ends stops = absurd t
methods_once fields y number (method ∷ methods) few (stores ∷ labels) [] text rest behind t u ends stops = absurd u
methods_once fields y number (method ∷ methods) few (stores ∷ labels) (more ∷ others) text rest behind t u ends stops =
    let part = part_once method.slots fields (few 0 (omega arith)) y (has_part method) number stores more text t.0 u.0 (t.1.0 ∙ sym u.1.0) t.1.1 u.1.1
    (methods_end fields (suc number) methods labels t.0 rest t.2 ends) (methods_end fields (suc number) methods others u.0 behind u.2 stops) in
    let later = subst (λ xs. MethodsText fields (suc number) methods others xs behind) (sym part.0) u.2 in
    (record { count = t.1.0; other = u.1.0; same = part.1 }, methods_once fields y (suc number) methods (λ k within. few (suc k) (omega (arith, within))) labels others t.0 rest behind t.2 later ends stops)

pub profile_once : (profile other : Profile) (a b : List ℕ) → ended (codes "certificate 1 " ++ profile_text profile) ++ a ≡ ended (codes "certificate 1 " ++ profile_text other) ++ b → (profile ≡ other) × (a ≡ b)
profile_once Ideal Ideal a b e = (refl, cancel (codes "certificate 1 ideal\n") a b e)
profile_once Ideal Int32 a b e = absurd (differ 100 110 refl (ap (λ xs. get_or xs 15 0) e))
profile_once Int32 Ideal a b e = absurd (differ 110 100 refl (ap (λ xs. get_or xs 15 0) e))
profile_once Int32 Int32 a b e = (refl, cancel (codes "certificate 1 int32\n") a b e)

pub one_meaning : (program : Program) (profile other : Profile) (labels others : List (List Stored)) (text : List ℕ) → HasSmallPaths program → IsLabelling program profile labels text
    → IsLabelling program other others text → (profile ≡ other) × SameLabels program.methods labels others
one_meaning program profile other labels others text small t u =
    let same = profile_once profile other t.0 u.0 (sym t.1 ∙ u.1) in
    let more = subst (λ xs. MethodsText (length program.fields) 0 program.methods others xs (codes "end\n")) (sym same.1) u.2 in
    (same.0, methods_once (length program.fields) small.fields 0 program.methods small.slots labels others t.0 (codes "end\n") (codes "end\n") t.2 more end_ends end_ends)
