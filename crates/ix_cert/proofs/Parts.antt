-- Texts put together from their parts, and taken apart: label by label, method by method.
use Rattle.std.specs.Prelude.{◌≡◌, ℕ, zero, suc, ◌+◌, ◌<◌, ◌==◌, Bool, true, false, not, List, [], ◌∷◌, ◌++◌, length, map, drop, codes, decimal, refl}
use Rattle.std.proofs.Common.{arith, get_or, ◌≤◌, ap, sym, ◌∙◌, subst, append_assoc}
use Rattle.std.proofs.lemmas.List.{append-nil}
use Rattle.ix_core.specs.declared.fact.Profile.{Profile}
use Rattle.ix_core.specs.declared.program.Method.{Method}
use Rattle.ix_core.specs.declared.program.Program.{Program}
use Rattle.ix_facts.specs.Stores.{Stored, Unreachable, Reached}
use Rattle.ix_cert.specs.Lines.{ended, lines_text}
use Rattle.ix_cert.specs.Labellings.{IsLabel, IsLabelling, LabelsText, PartText, MethodText, MethodsText, has_part, loops_of}
use Rattle.ix_core.specs.FirstLine.{profile_text}
use Rattle.ix_cert.specs.Adding.{Adds, AddsLabel, AreLabels, AreLabelsText, AreMethodsText, AreOwnLines, IsMethodText, MayBeLabel, MayBeLabels, MayLabel}
use Rattle.ix_cert.specs.Reading.{LabelText, EndsLabel}
use Rattle.ix_cert.proofs.Bytes.{cancel}
use Rattle.ix_cert.proofs.Ends.{labels_end, methods_end}

-- ---- lists

pub map_pushed : {A B : Type 0} (f : A → B) (xs : List A) (x : A) (ys : List B) → map f (xs ++ x ∷ []) ++ ys ≡ map f xs ++ (f x ∷ ys)
map_pushed f [] x ys = refl
map_pushed f (a ∷ xs) x ys = ap (λ l. f a ∷ l) (map_pushed f xs x ys)

pub map_drop : {A B : Type 0} (f : A → B) (n : ℕ) (xs : List A) → map f (drop n xs) ≡ drop n (map f xs)
map_drop f zero xs = refl
map_drop f (suc n) [] = refl
map_drop f (suc n) (x ∷ xs) = map_drop f n xs

pub map_push : {A B : Type 0} (f : A → B) (xs : List A) (x : A) → map f (xs ++ x ∷ []) ≡ map f xs ++ f x ∷ []
map_push f [] x = refl
map_push f (a ∷ xs) x = ap (λ l. f a ∷ l) (map_push f xs x)

pub at_map : {A B : Type 0} (f : A → B) (xs : List A) (i : ℕ) (x : A) → i < length xs → x ≡ get_or xs i x → drop i (map f xs) ≡ f x ∷ drop (suc i) (map f xs)
at_map f [] i x h e = absurd (omega arith)
at_map f (y ∷ ys) zero x h e = ap (λ z. f z ∷ map f ys) (sym e)
at_map f (y ∷ ys) (suc i) x h e = at_map f ys i x (omega arith) e

pub at_drop : {A : Type 0} (xs : List A) (i : ℕ) (x : A) → i < length xs → x ≡ get_or xs i x → drop i xs ≡ x ∷ drop (suc i) xs
at_drop [] i x h e = absurd (omega arith)
at_drop (y ∷ ys) zero x h e = ap (λ z. z ∷ ys) (sym e)
at_drop (y ∷ ys) (suc i) x h e = at_drop ys i x (omega arith) e

pub drop_whole : {A : Type 0} (xs : List A) (i : ℕ) → length xs ≤ i → drop i xs ≡ []
drop_whole [] zero h = refl
drop_whole [] (suc i) h = refl
drop_whole (x ∷ xs) zero h = absurd (omega arith)
drop_whole (x ∷ xs) (suc i) h = drop_whole xs i (omega arith)

pub length_map : {A B : Type 0} (f : A → B) (xs : List A) → length (map f xs) ≡ length xs
length_map f [] = refl
length_map f (x ∷ xs) = ap suc (length_map f xs)

-- ---- labels written

own_label : (slots fields : ℕ) (store : Stored) (lines : List (List ℕ)) → AreOwnLines store lines → MayBeLabel slots fields store → IsLabel slots fields store lines
own_label slots fields Unreachable lines own may = own
own_label slots fields (Reached facts) lines own may = (facts, may, (λ f said. said, λ f said. said), own)

pub may_drop : (slots fields n : ℕ) (stores : List Stored) → MayBeLabels slots fields stores → MayBeLabels slots fields (drop n stores)
may_drop slots fields zero stores may = may
may_drop slots fields (suc n) [] may = tt
may_drop slots fields (suc n) (store ∷ stores) may = may_drop slots fields n stores may.1

-- the labels up to a number are written, whatever those behind are
pub record LabelsSoFar (stores : List Stored) (number : ℕ) (old new : List ℕ) : Type 0 where
  pub part : List ℕ
  pub added : new ≡ old ++ part
  pub is : (slots fields : ℕ) → MayBeLabels slots fields stores → (text rest : List ℕ) → LabelsText slots fields number (drop number stores) text rest → LabelsText slots fields 0 stores (part ++ text) rest

pub no_labels : (stores : List Stored) (old : List ℕ) → LabelsSoFar stores 0 old old
no_labels stores old = record { part = []; added = sym (append-nil old); is = λ slots fields may text rest t. t }

pub one_label : (stores : List Stored) (number : ℕ) (store : Stored) (old between new : List ℕ) → LabelsSoFar stores number old between → drop number stores ≡ store ∷ drop (suc number) stores
    → AddsLabel number store between new → LabelsSoFar stores (suc number) old new
one_label stores number store old between new sofar at adds = record {
  part = sofar.part ++ (ended (codes "label " ++ decimal number) ++ lines_text adds.lines);
  added = adds.added ∙ (ap (λ xs. xs ++ (ended (codes "label " ++ decimal number) ++ lines_text adds.lines)) sofar.added ∙ append_assoc old sofar.part (ended (codes "label " ++ decimal number) ++ lines_text adds.lines));
  is = λ slots fields may text rest t.
      let all = subst (MayBeLabels slots fields) at (may_drop slots fields number stores may) in
      let header = ended (codes "label " ++ decimal number) in
      let more : LabelsText slots fields number (store ∷ drop (suc number) stores) ((header ++ lines_text adds.lines) ++ text) rest = (adds.lines, text, own_label slots fields store adds.lines adds.own all.0, append_assoc header (lines_text adds.lines) text, t) in
      subst (λ xs. LabelsText slots fields 0 stores xs rest) (sym (append_assoc sofar.part (header ++ lines_text adds.lines) text))
      (sofar.is slots fields may ((header ++ lines_text adds.lines) ++ text) rest
      (subst (λ ss. LabelsText slots fields number ss ((header ++ lines_text adds.lines) ++ text) rest) (sym at) more));
}

pub all_labels : (stores : List Stored) (number : ℕ) (old new : List ℕ) → LabelsSoFar stores number old new → drop number stores ≡ [] → Adds (AreLabelsText stores) old new
all_labels stores number old new sofar end = record {
  part = sofar.part;
  added = sofar.added;
  is = λ rest slots fields may. sofar.is slots fields may rest rest (subst (λ ss. LabelsText slots fields number ss rest rest) (sym end) refl);
}

-- ---- methods written

-- whether a method has a part, by whether it has labels
pub part_by : (method : Method) (stores : List Stored) (has : Bool) → length stores ≡ loops_of method → not (length stores == 0) ≡ has → has_part method ≡ has
part_by method stores has same is = subst (λ n. not (n == 0) ≡ has) same is

pub method_part : (number : ℕ) (method : Method) (stores : List Stored) (old between new : List ℕ) → not (length stores == 0) ≡ true
    → between ≡ old ++ ended (codes "method " ++ decimal number) → Adds (AreLabelsText stores) between new → Adds (IsMethodText number method stores) old new
method_part number method stores old between new has header adds =
    let line = ended (codes "method " ++ decimal number) in
    record {
      part = line ++ adds.part;
      added = adds.added ∙ (ap (λ xs. xs ++ adds.part) header ∙ append_assoc old line adds.part);
      is = λ rest fields same may. (
        same,
        subst (λ b. PartText b method.slots fields number stores ((line ++ adds.part) ++ rest) rest) (sym (part_by method stores true same has))
            (adds.part ++ rest, append_assoc line adds.part rest, adds.is rest method.slots fields may),
      );
    }

pub no_part : (number : ℕ) (method : Method) (stores : List Stored) (old : List ℕ) → not (length stores == 0) ≡ false → Adds (IsMethodText number method stores) old old
no_part number method stores old has = record {
  part = [];
  added = sym (append-nil old);
  is = λ rest fields same may. (same, subst (λ b. PartText b method.slots fields number stores rest rest) (sym (part_by method stores false same has)) refl);
}

pub record MethodsSoFar (methods : List Method) (labels : List (List Stored)) (number : ℕ) (old new : List ℕ) : Type 0 where
  pub part : List ℕ
  pub added : new ≡ old ++ part
  pub is : (fields : ℕ) → MayLabel fields methods labels → (text rest : List ℕ) → MethodsText fields number (drop number methods) (drop number labels) text rest → MethodsText fields 0 methods labels (part ++ text) rest

pub no_methods : (methods : List Method) (labels : List (List Stored)) (old : List ℕ) → MethodsSoFar methods labels 0 old old
no_methods methods labels old = record { part = []; added = sym (append-nil old); is = λ fields may text rest t. t }

may_label_drop : (fields n : ℕ) (methods : List Method) (labels : List (List Stored)) → MayLabel fields methods labels → MayLabel fields (drop n methods) (drop n labels)
may_label_drop fields zero methods labels may = may
may_label_drop fields (suc n) [] [] may = tt
may_label_drop fields (suc n) [] (stores ∷ labels) may = absurd may
may_label_drop fields (suc n) (method ∷ methods) [] may = absurd may
may_label_drop fields (suc n) (method ∷ methods) (stores ∷ labels) may = may_label_drop fields n methods labels may.2

pub one_method : (methods : List Method) (labels : List (List Stored)) (number : ℕ) (method : Method) (stores : List Stored) (old between new : List ℕ) → MethodsSoFar methods labels number old between
    → drop number methods ≡ method ∷ drop (suc number) methods → drop number labels ≡ stores ∷ drop (suc number) labels → Adds (IsMethodText number method stores) between new
    → MethodsSoFar methods labels (suc number) old new
one_method methods labels number method stores old between new sofar at beside adds = record {
  part = sofar.part ++ adds.part;
  added = adds.added ∙ (ap (λ xs. xs ++ adds.part) sofar.added ∙ append_assoc old sofar.part adds.part);
  is = λ fields may text rest t.
      let all = subst (λ ms. MayLabel fields ms (stores ∷ drop (suc number) labels)) at (subst (MayLabel fields (drop number methods)) beside (may_label_drop fields number methods labels may)) in
      let more : MethodsText fields number (method ∷ drop (suc number) methods) (stores ∷ drop (suc number) labels) (adds.part ++ text) rest = (text, adds.is text fields all.0 all.1, t) in
      subst (λ xs. MethodsText fields 0 methods labels xs rest) (sym (append_assoc sofar.part adds.part text))
      (sofar.is fields may (adds.part ++ text) rest
      (subst (λ ms. MethodsText fields number ms (drop number labels) (adds.part ++ text) rest) (sym at)
      (subst (λ ls. MethodsText fields number (method ∷ drop (suc number) methods) ls (adds.part ++ text) rest) (sym beside) more)));
}

pub all_methods : (methods : List Method) (labels : List (List Stored)) (number : ℕ) (old new : List ℕ) → MethodsSoFar methods labels number old new → drop number methods ≡ [] → drop number labels ≡ []
    → Adds (AreMethodsText methods labels) old new
all_methods methods labels number old new sofar end done = record {
  part = sofar.part;
  added = sofar.added;
  is = λ rest fields may. sofar.is fields may rest rest (subst (λ ms. MethodsText fields number ms (drop number labels) rest rest) (sym end) (subst (λ ls. MethodsText fields number [] ls rest rest) (sym done) refl));
}

pub same_length : (fields : ℕ) (methods : List Method) (labels : List (List Stored)) → MayLabel fields methods labels → length labels ≡ length methods
same_length fields [] [] may = refl
same_length fields [] (stores ∷ labels) may = absurd may
same_length fields (method ∷ methods) [] may = absurd may
same_length fields (method ∷ methods) (stores ∷ labels) may = ap suc (same_length fields methods labels may.2)

-- the whole text
pub whole_text : (program : Program) (profile : Profile) (labels : List (List Stored)) (first second whole : List ℕ) → first ≡ [] ++ ended (codes "certificate 1 " ++ profile_text profile)
    → Adds (AreMethodsText program.methods labels) first second → whole ≡ second ++ codes "end\n" → AreLabels program labels → IsLabelling program profile labels whole
whole_text program profile labels first second whole head adds end may =
    let line = ended (codes "certificate 1 " ++ profile_text profile) in (
      adds.part ++ codes "end\n",
      end ∙ (ap (λ xs. xs ++ codes "end\n") (adds.added ∙ ap (λ xs. xs ++ adds.part) head) ∙ append_assoc line adds.part (codes "end\n")),
      adds.is (codes "end\n") (length program.fields) may,
    )

-- ---- labels read

-- what was read up to a number, before whatever labels follow, and that those follow which any certificate has there
pub record LabelsRead (slots fields count : ℕ) (start : List ℕ) (number : ℕ) (stores : List Stored) (text : List ℕ) : Type 0 where
  pub read : (later : List Stored) (rest : List ℕ) → LabelsText slots fields number later text rest → LabelsText slots fields 0 (stores ++ later) start rest
  pub left : (all : List Stored) (rest : List ℕ) → length all ≡ count → LabelsText slots fields 0 all start rest → EndsLabel rest → (later : List Stored) × (length later + number ≡ count) × LabelsText slots fields number later text rest

pub no_labels_read : (slots fields count : ℕ) (start : List ℕ) → LabelsRead slots fields count start 0 [] start
no_labels_read slots fields count start = record {
  read = λ later rest t. t;
  left = λ all rest counted t ends. (all, omega arith, t);
}

pub record NextLabel (slots fields number count : ℕ) (text rest : List ℕ) : Type 0 where
  pub store : Stored
  pub later : List Stored
  pub label : List ℕ
  pub behind : List ℕ
  pub line : text ≡ ended (codes "label " ++ decimal number) ++ label
  pub is : LabelText slots fields store label behind
  pub ends : EndsLabel behind
  pub counted : length later + suc number ≡ count
  pub more : LabelsText slots fields (suc number) later behind rest

next_of : (slots fields number count : ℕ) (text rest : List ℕ) (later : List Stored) → length later + number ≡ count → number < count → LabelsText slots fields number later text rest → EndsLabel rest
    → NextLabel slots fields number count text rest
next_of slots fields number count text rest [] counted below t ends = absurd (omega arith)
next_of slots fields number count text rest (store ∷ later) counted below t ends = record {
  store = store;
  later = later;
  label = lines_text t.0 ++ t.1;
  behind = t.1;
  line = t.3;
  is = (t.0, t.2, refl);
  ends = labels_end slots fields (suc number) later t.1 rest t.4 ends;
  counted = omega arith;
  more = t.4;
}

pub next_label : (slots fields count : ℕ) (start : List ℕ) (number : ℕ) (stores : List Stored) (text : List ℕ) → LabelsRead slots fields count start number stores text → number < count
    → (all : List Stored) (rest : List ℕ) → length all ≡ count → LabelsText slots fields 0 all start rest → EndsLabel rest → NextLabel slots fields number count text rest
next_label slots fields count start number stores text sofar below all rest counted t ends =
    let left = sofar.left all rest counted t ends in
    next_of slots fields number count text rest left.0 left.1 below left.2 ends

label_left : (slots fields number count : ℕ) (text label behind rest : List ℕ) → text ≡ ended (codes "label " ++ decimal number) ++ label
    → ((other : Stored) (rest : List ℕ) → LabelText slots fields other label rest → EndsLabel rest → behind ≡ rest)
    → NextLabel slots fields number count text rest → (later : List Stored) × (length later + suc number ≡ count) × LabelsText slots fields (suc number) later behind rest
label_left slots fields number count text label behind rest line each next =
    let same = cancel (ended (codes "label " ++ decimal number)) label next.label (sym line ∙ next.line) in
    let there = each next.store next.behind (subst (λ xs. LabelText slots fields next.store xs next.behind) (sym same) next.is) next.ends in
    (next.later, next.counted, subst (λ xs. LabelsText slots fields (suc number) next.later xs rest) (sym there) next.more)

-- a label more
pub label_more : (slots fields count : ℕ) (start : List ℕ) (number : ℕ) (stores : List Stored) (text label : List ℕ) (store : Stored) (behind : List ℕ)
    → LabelsRead slots fields count start number stores text → number < count → text ≡ ended (codes "label " ++ decimal number) ++ label → LabelText slots fields store label behind
    → ((other : Stored) (rest : List ℕ) → LabelText slots fields other label rest → EndsLabel rest → behind ≡ rest) → LabelsRead slots fields count start (suc number) (stores ++ store ∷ []) behind
label_more slots fields count start number stores text label store behind sofar below line is each = record {
  read = λ later rest t.
      let whole : text ≡ ended (codes "label " ++ decimal number) ++ (lines_text is.0 ++ behind) = line ∙ ap (λ xs. ended (codes "label " ++ decimal number) ++ xs) is.2 in
      subst (λ ss. LabelsText slots fields 0 ss start rest) (sym (append_assoc stores (store ∷ []) later)) (sofar.read (store ∷ later) rest (is.0, behind, is.1, whole, t));
  left = λ all rest counted t ends. label_left slots fields number count text label behind rest line each (next_label slots fields count start number stores text sofar below all rest counted t ends);
}

-- ---- a method read

pub part_none : (method : Method) (stores : List Stored) (fields number : ℕ) (text : List ℕ) → has_part method ≡ false → length stores ≡ loops_of method → MethodText fields number method stores text text
part_none method stores fields number text has same = (same, subst (λ b. PartText b method.slots fields number stores text text) (sym has) refl)

pub part_none_each : (method : Method) (stores : List Stored) (fields number : ℕ) (text rest : List ℕ) → has_part method ≡ false → MethodText fields number method stores text rest → text ≡ rest
part_none_each method stores fields number text rest has t = subst (λ b. PartText b method.slots fields number stores text rest) has t.1

pub part_some : (method : Method) (stores : List Stored) (fields number : ℕ) (text labels rest : List ℕ) → has_part method ≡ true → length stores ≡ loops_of method
    → text ≡ ended (codes "method " ++ decimal number) ++ labels → LabelsText method.slots fields 0 stores labels rest → MethodText fields number method stores text rest
part_some method stores fields number text labels rest has same line t = (same, subst (λ b. PartText b method.slots fields number stores text rest) (sym has) (labels, line, t))

pub part_some_each : (method : Method) (stores : List Stored) (fields number : ℕ) (text rest : List ℕ) → has_part method ≡ true → MethodText fields number method stores text rest
    → (labels : List ℕ) × (text ≡ ended (codes "method " ++ decimal number) ++ labels) × LabelsText method.slots fields 0 stores labels rest
part_some_each method stores fields number text rest has t = subst (λ b. PartText b method.slots fields number stores text rest) has t.1

-- ---- methods read

pub record MethodsRead (fields : ℕ) (methods : List Method) (start : List ℕ) (number : ℕ) (labels : List (List Stored)) (text : List ℕ) : Type 0 where
  pub read : (later : List (List Stored)) (rest : List ℕ) → MethodsText fields number (drop number methods) later text rest → MethodsText fields 0 methods (labels ++ later) start rest
  pub left : (all : List (List Stored)) (rest : List ℕ) → MethodsText fields 0 methods all start rest → EndsLabel rest → (later : List (List Stored)) × MethodsText fields number (drop number methods) later text rest

pub no_methods_read : (fields : ℕ) (methods : List Method) (start : List ℕ) → MethodsRead fields methods start 0 [] start
no_methods_read fields methods start = record {
  read = λ later rest t. t;
  left = λ all rest t ends. (all, t);
}

pub record NextMethod (fields number : ℕ) (method : Method) (methods : List Method) (text rest : List ℕ) : Type 0 where
  pub stores : List Stored
  pub later : List (List Stored)
  pub behind : List ℕ
  pub is : MethodText fields number method stores text behind
  pub ends : EndsLabel behind
  pub more : MethodsText fields (suc number) methods later behind rest

method_of : (fields number : ℕ) (method : Method) (methods : List Method) (text rest : List ℕ) (later : List (List Stored)) → MethodsText fields number (method ∷ methods) later text rest → EndsLabel rest
    → NextMethod fields number method methods text rest
method_of fields number method methods text rest [] t ends = absurd t
method_of fields number method methods text rest (stores ∷ later) t ends = record {
  stores = stores;
  later = later;
  behind = t.0;
  is = t.1;
  ends = methods_end fields (suc number) methods later t.0 rest t.2 ends;
  more = t.2;
}

pub next_method : (fields : ℕ) (methods : List Method) (start : List ℕ) (number : ℕ) (labels : List (List Stored)) (text : List ℕ) (method : Method) → MethodsRead fields methods start number labels text
    → drop number methods ≡ method ∷ drop (suc number) methods
    → (all : List (List Stored)) (rest : List ℕ) → MethodsText fields 0 methods all start rest → EndsLabel rest → NextMethod fields number method (drop (suc number) methods) text rest
next_method fields methods start number labels text method sofar at all rest t ends =
    let left = sofar.left all rest t ends in
    method_of fields number method (drop (suc number) methods) text rest left.0 (subst (λ ms. MethodsText fields number ms left.0 text rest) at left.1) ends

pub method_more : (fields : ℕ) (methods : List Method) (start : List ℕ) (number : ℕ) (labels : List (List Stored)) (text : List ℕ) (method : Method) (stores : List Stored) (behind : List ℕ)
    → MethodsRead fields methods start number labels text → drop number methods ≡ method ∷ drop (suc number) methods → MethodText fields number method stores text behind
    → ((other : List Stored) (rest : List ℕ) → MethodText fields number method other text rest → EndsLabel rest → behind ≡ rest) → MethodsRead fields methods start (suc number) (labels ++ stores ∷ []) behind
method_more fields methods start number labels text method stores behind sofar at is each = record {
  read = λ later rest t.
      subst (λ ls. MethodsText fields 0 methods ls start rest) (sym (append_assoc labels (stores ∷ []) later))
      (sofar.read (stores ∷ later) rest (subst (λ ms. MethodsText fields number ms (stores ∷ later) text rest) (sym at) (behind, is, t)));
  left = λ all rest t ends.
      let next = next_method fields methods start number labels text method sofar at all rest t ends in
      let there = each next.stores next.behind next.is next.ends in
      (next.later, subst (λ xs. MethodsText fields (suc number) (drop (suc number) methods) next.later xs rest) (sym there) next.more);
}

pub methods_read : (fields : ℕ) (methods : List Method) (start : List ℕ) (number : ℕ) (labels : List (List Stored)) (text : List ℕ) → MethodsRead fields methods start number labels text
    → drop number methods ≡ [] → MethodsText fields 0 methods labels start text
methods_read fields methods start number labels text sofar end =
    subst (λ ls. MethodsText fields 0 methods ls start text) (append-nil labels) (sofar.read [] text (subst (λ ms. MethodsText fields number ms [] text text) (sym end) refl))

methods_end_each : (fields number : ℕ) (text rest : List ℕ) (later : List (List Stored)) → MethodsText fields number [] later text rest → text ≡ rest
methods_end_each fields number text rest [] t = t
methods_end_each fields number text rest (stores ∷ later) t = absurd t

pub methods_each : (fields : ℕ) (methods : List Method) (start : List ℕ) (number : ℕ) (labels : List (List Stored)) (text : List ℕ) → MethodsRead fields methods start number labels text
    → drop number methods ≡ [] → (all : List (List Stored)) (rest : List ℕ) → MethodsText fields 0 methods all start rest → EndsLabel rest → text ≡ rest
methods_each fields methods start number labels text sofar end all rest t ends =
    let left = sofar.left all rest t ends in
    methods_end_each fields number text rest left.0 (subst (λ ms. MethodsText fields number ms left.0 text rest) end left.1)

labels_end_each : (slots fields number count : ℕ) (text rest : List ℕ) (later : List Stored) → length later + number ≡ count → number ≡ count → LabelsText slots fields number later text rest → text ≡ rest
labels_end_each slots fields number count text rest [] counted all t = t
labels_end_each slots fields number count text rest (store ∷ later) counted all t = absurd (omega arith)

pub labels_each : (slots fields count : ℕ) (start : List ℕ) (stores : List Stored) (text : List ℕ) → LabelsRead slots fields count start count stores text
    → (all : List Stored) (rest : List ℕ) → length all ≡ count → LabelsText slots fields 0 all start rest → EndsLabel rest → text ≡ rest
labels_each slots fields count start stores text sofar all rest counted t ends =
    let left = sofar.left all rest counted t ends in
    labels_end_each slots fields count count text rest left.0 left.1 refl left.2

pub labels_read : (slots fields count : ℕ) (start : List ℕ) (stores : List Stored) (text : List ℕ) → LabelsRead slots fields count start count stores text → LabelsText slots fields 0 stores start text
labels_read slots fields count start stores text sofar = subst (λ ss. LabelsText slots fields 0 ss start text) (append-nil stores) (sofar.read [] text refl)

pub methods_as : (fields other : ℕ) (methods others : List Method) (labels : List (List Stored)) (text same rest : List ℕ) → fields ≡ other → methods ≡ others → text ≡ same
    → MethodsText other 0 others labels same rest → MethodsText fields 0 methods labels text rest
methods_as fields other methods others labels text same rest a b c t =
    subst (λ n. MethodsText n 0 methods labels text rest) (sym a) (subst (λ ms. MethodsText other 0 ms labels text rest) (sym b) (subst (λ xs. MethodsText other 0 others labels xs rest) (sym c) t))
