-- What stands behind a label is no line of one: the first two bytes tell.
use Rattle.std.specs.Prelude.{◌≡◌, ℕ, suc, ◌+◌, ◌*◌, ◌==◌, Bool, true, false, List, [], ◌∷◌, ◌++◌, codes, decimal, refl}
use Rattle.std.proofs.Common.{get_or, ap, sym, ◌∙◌, subst, append_assoc}
use Rattle.ix_core.specs.declared.fact.Fact.{Fact}
use Rattle.ix_core.specs.declared.fact.Fact.TheVariants.{Rng, LenRng, Low, Same, IsLen, Less, Sum, Search, Neg, Upper}
use Rattle.ix_core.specs.declared.program.Method.{Method}
use Rattle.ix_core.proofs.Cases.{differ}
use Rattle.ix_facts.specs.Stores.{Stored}
use Rattle.ix_cert.specs.Lines.{fact_text, is_before, ended, lines_text}
use Rattle.ix_cert.specs.Labellings.{LabelsText, PartText, MethodsText, has_part}
use Rattle.ix_cert.specs.Reading.{EndsLabel, in_text_order, word_of, args_text}
use Rattle.ix_cert.proofs.Orders.{text_of}

-- ---- first bytes

abbrev first_two : List ℕ → ℕ
first_two text = get_or text 0 0 * 256 + get_or text 1 0

abbrev word_code : Fact → ℕ
word_code (Rng p l h) = 29294
word_code (LenRng a l h) = 27749
word_code (Low p c) = 27759
word_code (Same a b) = 29537
word_code (IsLen p a) = 26995
word_code (Less p q c) = 27749
word_code (Sum t y z) = 29557
word_code (Search p a) = 29541
word_code (Neg p a) = 28261
word_code (Upper p a o c) = 30064

word_starts : (f : Fact) (x : List ℕ) → first_two (word_of f ++ x) ≡ word_code f
word_starts (Rng p l h) x = refl
word_starts (LenRng a l h) x = refl
word_starts (Low p c) x = refl
word_starts (Same a b) x = refl
word_starts (IsLen p a) x = refl
word_starts (Less p q c) x = refl
word_starts (Sum t y z) x = refl
word_starts (Search p a) x = refl
word_starts (Neg p a) x = refl
word_starts (Upper p a o c) x = refl

abbrev NoWord : ℕ → Type 0
NoWord n = (f : Fact) → (word_code f == n) ≡ false

-- `label`, `method`, `end` and `unreachable`
no_label : NoWord 27745
no_label (Rng p l h) = refl
no_label _ = refl

no_method : NoWord 28005
no_method (Rng p l h) = refl
no_method _ = refl

no_end : NoWord 25966
no_end (Rng p l h) = refl
no_end _ = refl

no_unreachable : NoWord 30062
no_unreachable (Rng p l h) = refl
no_unreachable _ = refl

line_text : (f : Fact) (rest : List ℕ) → ended (fact_text f) ++ rest ≡ word_of (in_text_order f) ++ (args_text (in_text_order f) ++ (codes "\n" ++ rest))
line_text f rest =
    let g = in_text_order f in
    ap (λ xs. ended xs ++ rest) (text_of f) ∙ (append_assoc (word_of g ++ args_text g) (codes "\n") rest ∙ append_assoc (word_of g) (args_text g) (codes "\n" ++ rest))

no_fact : (n : ℕ) (text : List ℕ) → NoWord n → first_two text ≡ n → (f : Fact) (rest : List ℕ) → text ≡ ended (fact_text f) ++ rest → ⊥
no_fact n text none starts f rest e =
    let g = in_text_order f in
    differ (word_code g) n (none g) (sym (word_starts g (args_text g ++ (codes "\n" ++ rest))) ∙ ap first_two (sym (e ∙ line_text f rest)) ∙ starts)

pub fact_is_word : (f : Fact) (rest other : List ℕ) → codes "unreachable\n" ++ other ≡ ended (fact_text f) ++ rest → ⊥
fact_is_word f rest other e = no_fact 30062 (codes "unreachable\n" ++ other) no_unreachable refl f rest e

-- a fact's line isn't empty
word_before : (f : Fact) (x : List ℕ) → is_before [] (word_of f ++ x) ≡ true
word_before (Rng p l h) x = refl
word_before (LenRng a l h) x = refl
word_before (Low p c) x = refl
word_before (Same a b) x = refl
word_before (IsLen p a) x = refl
word_before (Less p q c) x = refl
word_before (Sum t y z) x = refl
word_before (Search p a) x = refl
word_before (Neg p a) x = refl
word_before (Upper p a o c) x = refl

pub fact_before : (f : Fact) → is_before [] (fact_text f) ≡ true
fact_before f = ap (is_before []) (text_of f) ∙ word_before (in_text_order f) (args_text (in_text_order f))

-- ---- what stands behind a label

ends_by : (n : ℕ) (text : List ℕ) → NoWord n → (30062 == n) ≡ false → first_two text ≡ n → EndsLabel text
ends_by n text none other starts = record {
  fact = no_fact n text none starts;
  unreachable = λ rest e. differ 30062 n other (sym (ap first_two e) ∙ starts);
}

pub label_ends : (x y : List ℕ) → EndsLabel (ended (codes "label " ++ x) ++ y)
label_ends x y = ends_by 27745 (ended (codes "label " ++ x) ++ y) no_label refl refl

pub method_ends : (x y : List ℕ) → EndsLabel (ended (codes "method " ++ x) ++ y)
method_ends x y = ends_by 28005 (ended (codes "method " ++ x) ++ y) no_method refl refl

pub end_ends : EndsLabel (codes "end\n")
end_ends = ends_by 25966 (codes "end\n") no_end refl refl

pub labels_end : (slots fields number : ℕ) (stores : List Stored) (text rest : List ℕ) → LabelsText slots fields number stores text rest → EndsLabel rest → EndsLabel text
labels_end slots fields number [] text rest e ends = subst EndsLabel (sym e) ends
labels_end slots fields number (store ∷ stores) text rest t ends = subst EndsLabel (sym t.3) (label_ends (decimal number) (lines_text t.0 ++ t.1))

part_ends : (has : Bool) (slots fields number : ℕ) (stores : List Stored) (text rest : List ℕ) → PartText has slots fields number stores text rest → EndsLabel rest → EndsLabel text
part_ends false slots fields number stores text rest e ends = subst EndsLabel (sym e) ends
part_ends true slots fields number stores text rest t ends = subst EndsLabel (sym t.1) (method_ends (decimal number) t.0)

pub methods_end : (fields number : ℕ) (methods : List Method) (labels : List (List Stored)) (text rest : List ℕ) → MethodsText fields number methods labels text rest → EndsLabel rest → EndsLabel text
methods_end fields number [] [] text rest e ends = subst EndsLabel (sym e) ends
methods_end fields number [] (stores ∷ labels) text rest t ends = absurd t
methods_end fields number (method ∷ methods) [] text rest t ends = absurd t
methods_end fields number (method ∷ methods) (stores ∷ labels) text rest t ends =
    part_ends (has_part method) method.slots fields number stores text t.0 t.1.1 (methods_end fields (suc number) methods labels t.0 rest t.2 ends)
