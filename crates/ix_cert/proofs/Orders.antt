-- The text of a fact is that of the order in which it is written.
use Rattle.std.specs.Prelude.{◌≡◌, ◌≢◌, ℕ, ◌<◌, Bool, true, false, if◌then◌else◌, ℤ, List, [], ◌∷◌, ◌++◌, codes, refl}
use Rattle.std.specs.declared.cmp.Ordering.TheVariants.{Less as Before, Equal, Greater}
use Rattle.std.specs.declared.cmp.Ordering.{Ordering}
use Rattle.std.specs.Ordering.{is_lt, nat_cmp, ordering_reverse}
use Rattle.std.specs.Cmp.Lexicographic.{slice_cmp}
use Rattle.std.specs.Fmt.{signed_decimal}
use Rattle.std.proofs.Common.{arith, ap, sym, ◌∙◌, subst, inl, inr, append_assoc}
use Rattle.std.proofs.lemmas.Bool.{false≢true}
use Rattle.std.proofs.lemmas.Cmp.{nat_list_cmp_total, tied_itself}
use Rattle.ix_num.specs.Ints.{IsInt}
use Rattle.ix_core.specs.declared.fact.Fact.{Fact}
use Rattle.ix_core.specs.declared.fact.Fact.TheVariants.{Rng, LenRng, Low, Same, IsLen, Less, Sum, Search, Neg, Upper}
use Rattle.ix_core.specs.declared.fact.Path.{Path}
use Rattle.ix_core.specs.declared.fact.PathOff.{PathOff}
use Rattle.ix_core.specs.declared.fact.PathOff.TheVariants.{Nothing, Plus, Minus}
use Rattle.ix_core.proofs.Cases.{by_test}
use Rattle.ix_facts.specs.Facts.{IsIn, orders}
use Rattle.ix_facts.specs.Forget.{names}
use Rattle.ix_facts.proofs.SaidLaws.{order_names}
use Rattle.ix_cert.specs.Lines.{path_text, sum_bound, fact_text, is_before}
use Rattle.ix_cert.specs.Labellings.{is_outside}
use Rattle.ix_cert.specs.Reading.{Lacks, IsSmall, IsSmallOffset, IsSmallFact, MayBeRead, IsReadAs, in_text_order, offset_text, args_text, word_of, given_text}
use Rattle.ix_cert.proofs.Bytes.{lacks_both, lacks_tested, signed_lacks, path_lacks}

-- ---- the order of texts

flipped : (o : Ordering) → is_lt o ≡ true → is_lt (ordering_reverse o) ≡ false
flipped Before h = refl
flipped Equal h = absurd (false≢true h)
flipped Greater h = absurd (false≢true h)

pub before_flips : (a b : List ℕ) → is_before a b ≡ true → is_before b a ≡ false
before_flips a b h = ap is_lt (nat_list_cmp_total.antisymm b a) ∙ flipped (slice_cmp nat_cmp a b) h

is_less : (o : Ordering) → is_lt o ≡ true → o ≡ Before
is_less Before h = refl
is_less Equal h = absurd (false≢true h)
is_less Greater h = absurd (false≢true h)

pub before_on : (a b c : List ℕ) → is_before a b ≡ true → is_before b c ≡ true → is_before a c ≡ true
before_on a b c h k = ap is_lt (nat_list_cmp_total.trans a b c (is_less (slice_cmp nat_cmp a b) h) (is_less (slice_cmp nat_cmp b c) k))

pub before_itself : (a : List ℕ) → is_before a a ≡ false
before_itself a = ap is_lt (tied_itself nat_list_cmp_total a)

-- ---- the text

same_text : (t : Bool) (a b : Path) → codes "same " ++ (if t then path_text b ++ (codes " " ++ path_text a) else path_text a ++ (codes " " ++ path_text b)) ≡ given_text (if t then Same b a else Same a b)
same_text true a b = refl
same_text false a b = refl

sum_text : (u : Bool) (t y z : Path)
    → codes "sum " ++ (path_text t ++ (codes " " ++ (if u then path_text z ++ (codes " " ++ path_text y) else path_text y ++ (codes " " ++ path_text z)))) ≡ given_text (if u then Sum t z y else Sum t y z)
sum_text true t y z = refl
sum_text false t y z = refl

four : (a b m c : List ℕ) → ((a ++ 32 ∷ b) ++ 32 ∷ m) ++ 32 ∷ c ≡ a ++ 32 ∷ (b ++ 32 ∷ (m ++ 32 ∷ c))
four a b m c = append_assoc (a ++ 32 ∷ b) (32 ∷ m) (32 ∷ c) ∙ append_assoc a (32 ∷ b) (32 ∷ (m ++ 32 ∷ c))

upper_text : (t : Bool) (p a q : Path) (c : ℤ) → codes "upper " ++ ((if t then sum_bound q a p else sum_bound p a q) ++ (codes " " ++ signed_decimal c)) ≡ given_text (if t then Upper q a (Plus p) c else Upper p a (Plus q) c)
upper_text true p a q c = ap (λ xs. codes "upper " ++ xs) (four (path_text q) (path_text a) (43 ∷ path_text p) (signed_decimal c))
upper_text false p a q c = ap (λ xs. codes "upper " ++ xs) (four (path_text p) (path_text a) (43 ∷ path_text q) (signed_decimal c))

pub text_of : (f : Fact) → fact_text f ≡ given_text (in_text_order f)
text_of (Rng p l h) = refl
text_of (LenRng a l h) = refl
text_of (Low p c) = refl
text_of (Same a b) = same_text (is_before (path_text b) (path_text a)) a b
text_of (IsLen p a) = refl
text_of (Less p q c) = ap (λ xs. codes "less " ++ xs) (append_assoc (path_text p) (32 ∷ path_text q) (32 ∷ signed_decimal c))
text_of (Sum t y z) = sum_text (is_before (path_text z) (path_text y)) t y z
text_of (Search p a) = refl
text_of (Neg p a) = refl
text_of (Upper p a Nothing c) = ap (λ xs. codes "upper " ++ xs) (four (path_text p) (path_text a) (48 ∷ []) (signed_decimal c))
text_of (Upper p a (Plus q) c) = upper_text (is_before (path_text q) (path_text p)) p a q c
text_of (Upper p a (Minus q) c) = ap (λ xs. codes "upper " ++ xs) (four (path_text p) (path_text a) (45 ∷ path_text q) (signed_decimal c))

-- ---- what is the same in that order

pub text_order_in : (f : Fact) → IsIn (in_text_order f) (orders f)
text_order_in (Same a b) = by_test (is_before (path_text b) (path_text a)) (λ t. rw t (inr (inl refl))) (λ t. rw t (inl refl))
text_order_in (Sum t y z) = by_test (is_before (path_text z) (path_text y)) (λ u. rw u (inr (inl refl))) (λ u. rw u (inl refl))
text_order_in (Upper p a (Plus q) c) = by_test (is_before (path_text q) (path_text p)) (λ t. rw t (inr (inl refl))) (λ t. rw t (inl refl))
text_order_in (Upper p a Nothing c) = inl refl
text_order_in (Upper p a (Minus q) c) = inl refl
text_order_in (Rng p l h) = inl refl
text_order_in (LenRng a l h) = inl refl
text_order_in (Low p c) = inl refl
text_order_in (IsLen p a) = inl refl
text_order_in (Less p q c) = inl refl
text_order_in (Search p a) = inl refl
text_order_in (Neg p a) = inl refl

-- the text doesn't tell in which order the fact stood
pub ordered_text : (f : Fact) → fact_text (in_text_order f) ≡ fact_text f
ordered_text (Same a b) =
    by_test (is_before (path_text b) (path_text a))
    (λ t. let u = before_flips (path_text b) (path_text a) t in rw (t, u) refl)
    (λ t. rw (t, t) refl)
ordered_text (Sum t y z) =
    by_test (is_before (path_text z) (path_text y))
    (λ u. let v = before_flips (path_text z) (path_text y) u in rw (u, v) refl)
    (λ u. rw (u, u) refl)
ordered_text (Upper p a (Plus q) c) =
    by_test (is_before (path_text q) (path_text p))
    (λ t. let u = before_flips (path_text q) (path_text p) t in rw (t, u) refl)
    (λ t. rw (t, t) refl)
ordered_text (Upper p a Nothing c) = refl
ordered_text (Upper p a (Minus q) c) = refl
ordered_text (Rng p l h) = refl
ordered_text (LenRng a l h) = refl
ordered_text (Low p c) = refl
ordered_text (IsLen p a) = refl
ordered_text (Less p q c) = refl
ordered_text (Search p a) = refl
ordered_text (Neg p a) = refl

small_same : (t : Bool) (a b : Path) → IsSmall a → IsSmall b → IsSmallFact (if t then Same b a else Same a b)
small_same true a b x y = (y, x)
small_same false a b x y = (x, y)

small_sum : (u : Bool) (t y z : Path) → IsSmall t → IsSmall y → IsSmall z → IsSmallFact (if u then Sum t z y else Sum t y z)
small_sum true t y z a b c = (a, c, b)
small_sum false t y z a b c = (a, b, c)

small_upper : (t : Bool) (p a q : Path) (c : ℤ) → IsSmall p → IsSmall a → IsSmall q → IsInt c → IsSmallFact (if t then Upper q a (Plus p) c else Upper p a (Plus q) c)
small_upper true p a q c x y z n = (z, y, x, n)
small_upper false p a q c x y z n = (x, y, z, n)

pub small_order : (f : Fact) → IsSmallFact f → IsSmallFact (in_text_order f)
small_order (Same a b) s = small_same (is_before (path_text b) (path_text a)) a b s.0 s.1
small_order (Sum t y z) s = small_sum (is_before (path_text z) (path_text y)) t y z s.0 s.1 s.2
small_order (Upper p a (Plus q) c) s = small_upper (is_before (path_text q) (path_text p)) p a q c s.0 s.1 s.2 s.3
small_order (Upper p a Nothing c) s = s
small_order (Upper p a (Minus q) c) s = s
small_order (Rng p l h) s = s
small_order (LenRng a l h) s = s
small_order (Low p c) s = s
small_order (IsLen p a) s = s
small_order (Less p q c) s = s
small_order (Search p a) s = s
small_order (Neg p a) s = s

-- ---- a line's end is no byte of a fact's text

spaced : (a b : List ℕ) → Lacks 10 a → Lacks 10 b → Lacks 10 (a ++ 32 ∷ b)
spaced a b x y = lacks_both 10 a (32 ∷ b) x ((λ e. omega arith), y)

path_10 : (p : Path) → IsSmall p → Lacks 10 (path_text p)
path_10 p s = path_lacks 10 p (omega arith) s

int_10 : (n : ℤ) → IsInt n → Lacks 10 (signed_decimal n)
int_10 n s = signed_lacks 10 n (omega arith) (λ e. omega arith) s

pub offset_lacks : (byte : ℕ) (o : PathOff) → byte < 43 → byte < 46 → IsSmallOffset o → Lacks byte (offset_text o)
offset_lacks byte Nothing low high s = ((λ e. omega arith), tt)
offset_lacks byte (Plus q) low high s = ((λ e. omega arith), path_lacks byte q high s)
offset_lacks byte (Minus q) low high s = ((λ e. omega arith), path_lacks byte q high s)

args_10 : (f : Fact) → IsSmallFact f → Lacks 10 (args_text f)
args_10 (Rng p l h) s = spaced _ _ (path_10 p s.0) (spaced _ _ (int_10 l s.1) (int_10 h s.2))
args_10 (LenRng a l h) s = spaced _ _ (path_10 a s.0) (spaced _ _ (int_10 l s.1) (int_10 h s.2))
args_10 (Low p c) s = spaced _ _ (path_10 p s.0) (int_10 c s.1)
args_10 (Same a b) s = spaced _ _ (path_10 a s.0) (path_10 b s.1)
args_10 (IsLen p a) s = spaced _ _ (path_10 p s.0) (path_10 a s.1)
args_10 (Less p q c) s = spaced _ _ (path_10 p s.0) (spaced _ _ (path_10 q s.1) (int_10 c s.2))
args_10 (Sum t y z) s = spaced _ _ (path_10 t s.0) (spaced _ _ (path_10 y s.1) (path_10 z s.2))
args_10 (Search p a) s = spaced _ _ (path_10 p s.0) (path_10 a s.1)
args_10 (Neg p a) s = spaced _ _ (path_10 p s.0) (path_10 a s.1)
args_10 (Upper p a o c) s = spaced _ _ (path_10 p s.0) (spaced _ _ (path_10 a s.1) (spaced _ _ (offset_lacks 10 o (omega arith) (omega arith) s.2) (int_10 c s.3)))

word_10 : (f : Fact) → Lacks 10 (word_of f)
word_10 (Rng p l h) = lacks_tested 10 (codes "rng ") refl
word_10 (LenRng a l h) = lacks_tested 10 (codes "len ") refl
word_10 (Low p c) = lacks_tested 10 (codes "low ") refl
word_10 (Same a b) = lacks_tested 10 (codes "same ") refl
word_10 (IsLen p a) = lacks_tested 10 (codes "islen ") refl
word_10 (Less p q c) = lacks_tested 10 (codes "less ") refl
word_10 (Sum t y z) = lacks_tested 10 (codes "sum ") refl
word_10 (Search p a) = lacks_tested 10 (codes "search ") refl
word_10 (Neg p a) = lacks_tested 10 (codes "neg ") refl
word_10 (Upper p a o c) = lacks_tested 10 (codes "upper ") refl

pub fact_lacks : (f : Fact) → IsSmallFact f → Lacks 10 (fact_text f)
fact_lacks f s =
    let g = in_text_order f in
    subst (Lacks 10) (sym (text_of f)) (lacks_both 10 (word_of g) (args_text g) (word_10 g) (args_10 g (small_order f s)))

-- ---- a line that was read

-- what reading a line gives, where it is a fact's
abbrev pub Gives : List ℕ → (Fact → Type 0) → Type 0
Gives line Is = (f : Fact) → IsSmallFact f → line ≡ given_text f → Is f

pub read_as : (slots fields : ℕ) (line : List ℕ) (fact : Fact) → Gives line (λ f. fact ≡ f) → fact_text fact ≡ line → names (is_outside slots fields) fact ≡ false → IsReadAs slots fields line fact
read_as slots fields line fact gives text inside = record {
  text = text;
  inside = inside;
  only = λ other small e. gives (in_text_order other) (small_order other small) (sym e ∙ text_of other);
}

-- a line that is not read is no fact's
pub not_read : (slots fields : ℕ) (line : List ℕ) → Gives line (λ f. ⊥) → (other : Fact) → MayBeRead slots fields other → fact_text other ≢ line
not_read slots fields line gives other may e = gives (in_text_order other) (small_order other may.small) (sym e ∙ text_of other)

pub not_checked : (slots fields : ℕ) (line : List ℕ) (fact : Fact) → Gives line (λ f. fact ≡ f) → (fact_text fact ≡ line → names (is_outside slots fields) fact ≡ false → ⊥)
    → (other : Fact) → MayBeRead slots fields other → fact_text other ≢ line
not_checked slots fields line fact gives none other may e =
    let is : fact ≡ in_text_order other = gives (in_text_order other) (small_order other may.small) (sym e ∙ text_of other) in
    none (ap fact_text is ∙ ordered_text other ∙ e)
    (ap (names (is_outside slots fields)) is ∙ order_names (is_outside slots fields) other (in_text_order other) (text_order_in other) ∙ may.inside)
