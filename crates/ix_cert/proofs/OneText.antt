-- Labels that say the same have one text.
use Rattle.std.specs.Prelude.{◌≡◌, ◌⊎◌, ℕ, suc, Bool, true, false, not, ◌&&◌, if◌then◌else◌, ℤ, ◌≤ℤ◌, List, [], ◌∷◌, ◌++◌, length, codes, decimal, refl}
use Rattle.std.specs.declared.cmp.Ordering.{Ordering}
use Rattle.std.specs.declared.cmp.Ordering.TheVariants.{Less as Before, Equal, Greater}
use Rattle.std.specs.Ordering.{is_lt, is_eq, is_gt, nat_cmp, ordering_reverse, eq_by_cmp}
use Rattle.std.specs.Cmp.Lexicographic.{slice_cmp}
use Rattle.std.specs.Fmt.{signed_decimal}
use Rattle.std.proofs.Common.{arith, ap, sym, ◌∙◌, subst, inl, inr, ⊎_elim}
use Rattle.std.proofs.lemmas.Bool.{and_parts, false≢true}
use Rattle.std.proofs.lemmas.Cmp.{nat_list_cmp_total}
use Rattle.std.proofs.lemmas.Int.{ints}
use Rattle.std.proofs.lemmas.Map.Lookups.{exact_bytes}
use Rattle.ix_core.specs.declared.fact.Fact.{Fact}
use Rattle.ix_core.specs.declared.fact.Fact.TheVariants.{Rng, LenRng, Low, Same, IsLen, Less, Sum, Search, Neg, Upper}
use Rattle.ix_core.specs.declared.fact.Path.{Path}
use Rattle.ix_core.specs.declared.fact.PathOff.TheVariants.{Nothing, Plus, Minus}
use Rattle.ix_core.specs.declared.fact.Profile.{Profile}
use Rattle.ix_core.specs.declared.program.Method.{Method}
use Rattle.ix_core.specs.declared.program.Program.{Program}
use Rattle.ix_core.proofs.Cases.{by_test}
use Rattle.ix_facts.specs.Facts.{IsIn, Covers, orders, in_orders, is_default}
use Rattle.ix_facts.specs.Facts as covers
use Rattle.ix_facts.specs.Closure.{Default, SaysAll}
use Rattle.ix_facts.specs.Stores.{Stored, Unreachable, Reached, SayTheSame}
use Rattle.ix_facts.proofs.FactLists.{from_in_orders, covers_itself, covers_covers}
use Rattle.ix_facts.proofs.SaidLaws.{default_is, order_default, said_itself}
use Rattle.ix_facts.specs.PathOrder.{path_cmp}
use Rattle.ix_fact_table.specs.Apart.{compares_two, is_proper}
use Rattle.ix_fact_table.specs.Entries.{in_first_order, has_ends}
use Rattle.ix_fact_table.specs.EntryLaws.{order_first}
use Rattle.ix_fact_table.specs.FactOrder.{AtKey, fact_cmp, key_equal}
use Rattle.ix_fact_table.specs.FactOrder as keys
use Rattle.ix_fact_table.specs.MeetLaws.{covers_key}
use Rattle.ix_store.specs.WholeStores.{AreAStore}
use Rattle.ix_cert.specs.Lines.{Ascend, AreLinesOf, IsAmong, path_text, sum_bound, fact_text, is_before, ended, lines_text}
use Rattle.ix_cert.specs.Labellings.{IsLabel, LabelsText, PartText, MethodsText, IsLabelling, has_part}
use Rattle.ix_core.specs.FirstLine.{profile_text}
use Rattle.ix_cert.specs.SameLabels.{SameStores, SameLabels}
use Rattle.ix_cert.proofs.Bytes.{nil_middle, not_true}
use Rattle.ix_cert.proofs.Orders.{before_flips, before_on, before_itself}
use Rattle.ix_cert.proofs.ReadLines.{line_among, among_more}
use Rattle.ix_cert.proofs.WholeRead.{each_proper, one_at_key}

-- ---- texts of which neither comes first

tied_by : (a b : List ℕ) (o : Ordering) → slice_cmp nat_cmp a b ≡ o → is_lt o ≡ false → is_lt (ordering_reverse o) ≡ false → a ≡ b
tied_by a b Before e first back = absurd (false≢true (sym first))
tied_by a b Equal e first back = exact_bytes a b e
tied_by a b Greater e first back = absurd (false≢true (sym back))

tied : (a b : List ℕ) → is_before a b ≡ false → is_before b a ≡ false → a ≡ b
tied a b first back = tied_by a b (slice_cmp nat_cmp a b) refl first (sym (ap is_lt (nat_list_cmp_total.antisymm b a)) ∙ back)

-- ---- each order of a fact has its text

turned_if : (p q : Path) (text : Path → Path → List ℕ) → (path_text p ≡ path_text q → text q p ≡ text p q)
    → (if is_before (path_text p) (path_text q) then text p q else text q p) ≡ (if is_before (path_text q) (path_text p) then text q p else text p q)
turned_if p q text same =
    by_test (is_before (path_text p) (path_text q))
    (λ t. let u = before_flips (path_text p) (path_text q) t in rw (t, u) refl)
    (λ t.
    by_test (is_before (path_text q) (path_text p))
    (λ u. rw (t, u) refl)
    (λ u. rw (t, u) (same (tied (path_text p) (path_text q) t u))))

beside_turned : (p q : Path) → path_text p ≡ path_text q → path_text q ++ (codes " " ++ path_text p) ≡ path_text p ++ (codes " " ++ path_text q)
beside_turned p q e = subst (λ x. x ++ (codes " " ++ path_text p) ≡ path_text p ++ (codes " " ++ x)) e refl

bound_turned : (p a q : Path) → path_text p ≡ path_text q → sum_bound q a p ≡ sum_bound p a q
bound_turned p a q e =
    let word = codes " " ++ path_text a in
    subst (λ x. (x ++ word) ++ (codes " +" ++ path_text p) ≡ (path_text p ++ word) ++ (codes " +" ++ x)) e refl

order_text : (g f : Fact) → IsIn g (orders f) → fact_text g ≡ fact_text f
order_text g (Same a b) i =
    ⊎_elim
    (λ e. ap fact_text e)
    (λ j. ⊎_elim (λ e. ap fact_text e ∙ ap (λ x. codes "same " ++ x) (turned_if a b (λ p q. path_text p ++ (codes " " ++ path_text q)) (beside_turned a b))) (λ n. absurd n) j)
    i
order_text g (Sum t y z) i =
    ⊎_elim
    (λ e. ap fact_text e)
    (λ j. ⊎_elim (λ e. ap fact_text e ∙ ap (λ x. codes "sum " ++ (path_text t ++ (codes " " ++ x))) (turned_if y z (λ p q. path_text p ++ (codes " " ++ path_text q)) (beside_turned y z))) (λ n. absurd n) j)
    i
order_text g (Upper p a (Plus q) c) i =
    ⊎_elim
    (λ e. ap fact_text e)
    (λ j. ⊎_elim (λ e. ap fact_text e ∙ ap (λ x. codes "upper " ++ (x ++ (codes " " ++ signed_decimal c))) (turned_if p q (λ x y. sum_bound x a y) (bound_turned p a q))) (λ n. absurd n) j)
    i
order_text g (Upper p a Nothing c) i = ⊎_elim (λ e. ap fact_text e) (λ n. absurd n) i
order_text g (Upper p a (Minus q) c) i = ⊎_elim (λ e. ap fact_text e) (λ n. absurd n) i
order_text g (Rng p l h) i = ⊎_elim (λ e. ap fact_text e) (λ n. absurd n) i
order_text g (LenRng a l h) i = ⊎_elim (λ e. ap fact_text e) (λ n. absurd n) i
order_text g (Low p c) i = ⊎_elim (λ e. ap fact_text e) (λ n. absurd n) i
order_text g (IsLen p a) i = ⊎_elim (λ e. ap fact_text e) (λ n. absurd n) i
order_text g (Less p q c) i = ⊎_elim (λ e. ap fact_text e) (λ n. absurd n) i
order_text g (Search p a) i = ⊎_elim (λ e. ap fact_text e) (λ n. absurd n) i
order_text g (Neg p a) i = ⊎_elim (λ e. ap fact_text e) (λ n. absurd n) i

-- ---- facts that cover each other

-- what the first has where it covers the second
abbrev CoverParts : Fact → Fact → Type 0
CoverParts (Rng p l h) (Rng q m k) = (p ≡ q) × (m ≤ℤ l) × (h ≤ℤ k)
CoverParts (LenRng p l h) (LenRng q m k) = (p ≡ q) × (m ≤ℤ l) × (h ≤ℤ k)
CoverParts (Low p c) (Low q d) = (p ≡ q) × (d ≤ℤ c)
CoverParts (Same a b) (Same c d) = (a ≡ c) × (b ≡ d)
CoverParts (IsLen a b) (IsLen c d) = (a ≡ c) × (b ≡ d)
CoverParts (Less a b c) (Less p q d) = (a ≡ p) × (b ≡ q) × (c ≤ℤ d)
CoverParts (Sum t y z) (Sum u v w) = (t ≡ u) × (y ≡ v) × (z ≡ w)
CoverParts (Search a b) (Search c d) = (a ≡ c) × (b ≡ d)
CoverParts (Neg a b) (Neg c d) = (a ≡ c) × (b ≡ d)
CoverParts (Upper p a o c) (Upper q b x d) = (p ≡ q) × (a ≡ b) × (o ≡ x) × (d ≤ℤ c)
CoverParts _ _ = ⊥

cover_parts : (f g : Fact) → Covers f g → CoverParts f g
cover_parts _ _ (covers.rng p l h m k x y) = (refl, x, y)
cover_parts _ _ (covers.len_rng p l h m k x y) = (refl, x, y)
cover_parts _ _ (covers.low p c d x) = (refl, x)
cover_parts _ _ (covers.same a b) = (refl, refl)
cover_parts _ _ (covers.is_len p a) = (refl, refl)
cover_parts _ _ (covers.less p q c d x) = (refl, refl, x)
cover_parts _ _ (covers.sum t y z) = (refl, refl, refl)
cover_parts _ _ (covers.search p a) = (refl, refl)
cover_parts _ _ (covers.neg p a) = (refl, refl)
cover_parts _ _ (covers.upper p a o c d x) = (refl, refl, refl, x)

level : (m n : ℤ) → m ≤ℤ n → n ≤ℤ m → m ≡ n
level m n x y = omega (arith, ints, x, y)

one_of_both : (f g : Fact) → CoverParts f g → CoverParts g f → f ≡ g
one_of_both (Rng p l h) (Rng q m k) x y =
    let path = x.0 in
    let low = level l m y.1 x.1 in
    let high = level h k x.2 y.2 in
    cc
one_of_both (LenRng p l h) (LenRng q m k) x y =
    let path = x.0 in
    let low = level l m y.1 x.1 in
    let high = level h k x.2 y.2 in
    cc
one_of_both (Low p c) (Low q d) x y =
    let path = x.0 in
    let low = level c d y.1 x.1 in
    cc
one_of_both (Same a b) (Same c d) x y =
    let first = x.0 in
    let second = x.1 in
    cc
one_of_both (IsLen a b) (IsLen c d) x y =
    let first = x.0 in
    let second = x.1 in
    cc
one_of_both (Less a b c) (Less p q d) x y =
    let first = x.0 in
    let second = x.1 in
    let number = level c d x.2 y.2 in
    cc
one_of_both (Sum t y z) (Sum u v w) a b =
    let first = a.0 in
    let second = a.1 in
    let third = a.2 in
    cc
one_of_both (Search a b) (Search c d) x y =
    let first = x.0 in
    let second = x.1 in
    cc
one_of_both (Neg a b) (Neg c d) x y =
    let first = x.0 in
    let second = x.1 in
    cc
one_of_both (Upper p a o c) (Upper q b i d) x y =
    let first = x.0 in
    let second = x.1 in
    let offset = x.2 in
    let number = level c d y.3 x.3 in
    cc
one_of_both f g x y = absurd x

covers_once : (f g : Fact) → Covers f g → Covers g f → f ≡ g
covers_once f g x y = one_of_both f g (cover_parts f g x) (cover_parts g f y)

-- of a fact's orders only itself covers it
order_covers : (h f : Fact) → IsIn h (orders f) → Covers h f → h ≡ f
order_covers h (Same a b) i c =
    ⊎_elim
    (λ e. e)
    (λ j.
    ⊎_elim
    (λ e.
    let parts = cover_parts (Same b a) (Same a b) (subst (λ x. Covers x (Same a b)) e c) in
    let same : b ≡ a = parts.0 in
    e ∙ cc)
    (λ n. absurd n)
    j)
    i
order_covers h (Sum t y z) i c =
    ⊎_elim
    (λ e. e)
    (λ j.
    ⊎_elim
    (λ e.
    let parts = cover_parts (Sum t z y) (Sum t y z) (subst (λ x. Covers x (Sum t y z)) e c) in
    let same : z ≡ y = parts.1 in
    e ∙ cc)
    (λ n. absurd n)
    j)
    i
order_covers h (Upper p a (Plus q) n) i c =
    ⊎_elim
    (λ e. e)
    (λ j.
    ⊎_elim
    (λ e.
    let parts = cover_parts (Upper q a (Plus p) n) (Upper p a (Plus q) n) (subst (λ x. Covers x (Upper p a (Plus q) n)) e c) in
    let same : q ≡ p = parts.0 in
    e ∙ cc)
    (λ n. absurd n)
    j)
    i
order_covers h (Upper p a Nothing n) i c = ⊎_elim (λ e. e) (λ n. absurd n) i
order_covers h (Upper p a (Minus q) n) i c = ⊎_elim (λ e. e) (λ n. absurd n) i
order_covers h (Rng p l k) i c = ⊎_elim (λ e. e) (λ n. absurd n) i
order_covers h (LenRng a l k) i c = ⊎_elim (λ e. e) (λ n. absurd n) i
order_covers h (Low p n) i c = ⊎_elim (λ e. e) (λ n. absurd n) i
order_covers h (IsLen p a) i c = ⊎_elim (λ e. e) (λ n. absurd n) i
order_covers h (Less p q n) i c = ⊎_elim (λ e. e) (λ n. absurd n) i
order_covers h (Search p a) i c = ⊎_elim (λ e. e) (λ n. absurd n) i
order_covers h (Neg p a) i c = ⊎_elim (λ e. e) (λ n. absurd n) i

first_keys : (g f : Fact) → AtKey g f → AtKey (in_first_order g) (in_first_order f)
first_keys _ _ (keys.rng p l h m k) = keys.rng p l h m k
first_keys _ _ (keys.len_rng p l h m k) = keys.len_rng p l h m k
first_keys _ _ (keys.low p c d) = keys.low p c d
first_keys _ _ (keys.same a b) = by_test (is_gt (path_cmp a b)) (λ t. rw t (keys.same b a)) (λ t. rw t (keys.same a b))
first_keys _ _ (keys.is_len p a) = keys.is_len p a
first_keys _ _ (keys.less p q c d) = keys.less p q c d
first_keys _ _ (keys.sum t y z) = by_test (is_gt (path_cmp y z)) (λ u. rw u (keys.sum t z y)) (λ u. rw u (keys.sum t y z))
first_keys _ _ (keys.search p a) = keys.search p a
first_keys _ _ (keys.neg p a) = keys.neg p a
first_keys _ _ (keys.upper p a Nothing c d) = keys.upper p a Nothing c d
first_keys _ _ (keys.upper p a (Plus q) c d) = by_test (is_gt (path_cmp p q)) (λ t. rw t (keys.upper q a (Plus p) c d)) (λ t. rw t (keys.upper p a (Plus q) c d))
first_keys _ _ (keys.upper p a (Minus q) c d) = keys.upper p a (Minus q) c d

-- ---- a fact of a whole store is a fact of each that says the same, in one of its orders

not_default : (f : Fact) → Default f → is_default f ≡ false → ⊥
not_default f d told = false≢true (sym told ∙ default_is f d)

tells : (f : Fact) → is_proper f ≡ true → is_default f ≡ false
tells f proper = not_true (is_default f) (and_parts (not (is_default f)) (compares_two f) (and_parts (has_ends f) (not (is_default f) && compares_two f) proper).1).0

module _ (facts others : List Fact) (whole : AreAStore facts) (forth : SaysAll others facts) (back : SaysAll facts others) where
  -- what is said back of what covers the fact is the fact itself
  itself : (f g h : Fact) → IsIn f facts → Covers g f → IsIn h (in_orders facts) → Covers h g → f ≡ g
  itself f g h i covered there covering =
      let s = from_in_orders h facts there in
      let over : Covers h f = covers_covers h g f covering covered in
      let key : eq_by_cmp fact_cmp (in_first_order h) (in_first_order f) ≡ true = ap is_eq (key_equal (in_first_order h) (in_first_order f) (first_keys h f (covers_key h f over))) in
      let same : s.0 ≡ f = one_at_key facts whole.apart s.0 f s.1 i (subst (λ k. eq_by_cmp fact_cmp k (in_first_order f) ≡ true) (order_first s.0 h s.2) key) in
      let is : h ≡ f = order_covers h f (subst (λ k. IsIn h (orders k)) same s.2) over in
      covers_once f g (subst (λ k. Covers k g) is covering) covered

  same_line : (f : Fact) → IsIn f facts → (g : Fact) × IsIn g others × (fact_text f ≡ fact_text g)
  same_line f i =
      ⊎_elim
      (λ d. absurd (not_default f d (tells f (each_proper facts whole.proper f i))))
      (λ w.
      let r = from_in_orders w.0 others w.1 in
      ⊎_elim
      (λ d. absurd (not_default w.0 d (order_default r.0 w.0 r.2 ∙ r.3)))
      (λ v. (r.0, r.1, ap fact_text (itself f w.0 v.0 i w.2 v.1 v.2) ∙ order_text w.0 r.0 r.2))
      (back w.0 (inr (w.0, w.1, covers_itself w.0))))
      (forth f (said_itself facts f i))

-- ---- lists that ascend and have the same lines

abbrev Among : List ℕ → List (List ℕ) → Type 0
Among line [] = ⊥
Among line (other ∷ lines) = (line ≡ other) ⊎ Among line lines

among_by : (line : List ℕ) (lines before after : List (List ℕ)) → lines ≡ before ++ line ∷ after → Among line lines
among_by line [] before after e = absurd (nil_middle before line after e)
among_by line (other ∷ lines) [] after e = inl (cc)
among_by line (other ∷ lines) (b ∷ before) after e =
    let tail : lines ≡ before ++ line ∷ after = cc in
    inr (among_by line lines before after tail)

among_is : (line : List ℕ) (lines : List (List ℕ)) → Among line lines → IsAmong line lines
among_is line [] h = absurd h
among_is line (other ∷ lines) (inl e) = subst (λ x. IsAmong x (other ∷ lines)) (sym e) (line_among other lines)
among_is line (other ∷ lines) (inr h) = among_more other line lines (among_is line lines h)

ascend_tail : (line : List ℕ) (lines : List (List ℕ)) → Ascend (line ∷ lines) → Ascend lines
ascend_tail line [] a = tt
ascend_tail line (next ∷ lines) a = a.1

behind_first : (line other : List ℕ) (lines : List (List ℕ)) → Ascend (line ∷ lines) → Among other lines → is_before line other ≡ true
behind_first line other [] a h = absurd h
behind_first line other (next ∷ lines) a (inl e) = subst (λ x. is_before line x ≡ true) (sym e) a.0
behind_first line other (next ∷ lines) a (inr h) = before_on line next other a.0 (behind_first next other lines a.1 h)

not_both : (a b : List ℕ) → is_before a b ≡ true → is_before b a ≡ true → ⊥
not_both a b x y = false≢true (sym (before_flips a b x) ∙ y)

abbrev HasEach : List (List ℕ) → List (List ℕ) → Type 0
HasEach lines others = (line : List ℕ) → Among line lines → Among line others

one_first : (line other : List ℕ) (lines others : List (List ℕ)) → Ascend (line ∷ lines) → Ascend (other ∷ others) → HasEach (line ∷ lines) (other ∷ others) → HasEach (other ∷ others) (line ∷ lines) → line ≡ other
one_first line other lines others a b forth back =
    ⊎_elim
    (λ e. e)
    (λ behind. ⊎_elim (λ e. sym e) (λ later. absurd (not_both other line (behind_first other line others b behind) (behind_first line other lines a later))) (back other (inl refl)))
    (forth line (inl refl))

rest_each : (line other : List ℕ) (lines others : List (List ℕ)) → Ascend (line ∷ lines) → line ≡ other → HasEach (line ∷ lines) (other ∷ others) → HasEach lines others
rest_each line other lines others a same forth one h =
    ⊎_elim
    (λ e.
    let behind = subst (λ x. is_before line x ≡ true) (e ∙ sym same) (behind_first line one lines a h) in
    absurd (false≢true (sym (before_itself line) ∙ behind)))
    (λ there. there)
    (forth one (inr h))

same_lines : (lines others : List (List ℕ)) → Ascend lines → Ascend others → HasEach lines others → HasEach others lines → lines ≡ others
same_lines [] [] a b forth back = refl
same_lines [] (other ∷ others) a b forth back = absurd (back other (inl refl))
same_lines (line ∷ lines) [] a b forth back = absurd (forth line (inl refl))
same_lines (line ∷ lines) (other ∷ others) a b forth back =
    let first = one_first line other lines others a b forth back in
    let rest = same_lines lines others (ascend_tail line lines a) (ascend_tail other others b) (rest_each line other lines others a first forth) (rest_each other line others lines b (sym first) back) in
    cc

-- ---- labels

lines_each : (facts others : List Fact) (lines more : List (List ℕ)) → AreLinesOf facts lines → AreLinesOf others more
    → ((f : Fact) → IsIn f facts → (g : Fact) × IsIn g others × (fact_text f ≡ fact_text g)) → HasEach lines more
lines_each facts others lines more own are each line h =
    let among = among_is line lines h in
    let w = (own.1 line).0 among in
    let g = each w.0 w.1 in
    let there = (are.1 line).1 (g.0, g.1, w.2 ∙ g.2) in
    among_by line more there.0 there.1 there.2

label_lines : (slots fields : ℕ) (store other : Stored) (lines others : List (List ℕ)) → IsLabel slots fields store lines → IsLabel slots fields other others → SayTheSame store other → lines ≡ others
label_lines slots fields Unreachable Unreachable lines others own are same = own ∙ sym are
label_lines slots fields Unreachable (Reached more) lines others own are same = absurd same.1
label_lines slots fields (Reached facts) Unreachable lines others own are same = absurd same.0
label_lines slots fields (Reached facts) (Reached more) lines others own are same =
    let forth : SaysAll are.0 own.0 = λ f said. are.2.0 f (same.1 f (own.2.1 f said)) in
    let back : SaysAll own.0 are.0 = λ f said. own.2.0 f (same.0 f (are.2.1 f said)) in
    same_lines lines others own.3.0 are.3.0
    (lines_each own.0 are.0 lines others own.3 are.3 (same_line own.0 are.0 own.1.whole forth back))
    (lines_each are.0 own.0 others lines are.3 own.3 (same_line are.0 own.0 are.1.whole back forth))

labels_text : (slots fields number : ℕ) (stores others : List Stored) (text other rest : List ℕ) → LabelsText slots fields number stores text rest → LabelsText slots fields number others other rest
    → SameStores stores others → text ≡ other
labels_text slots fields number [] [] text other rest t u same = t ∙ sym u
labels_text slots fields number [] (more ∷ others) text other rest t u same = absurd same
labels_text slots fields number (store ∷ stores) [] text other rest t u same = absurd same
labels_text slots fields number (store ∷ stores) (more ∷ others) text other rest t u same =
    let head = ended (codes "label " ++ decimal number) in
    let lines = label_lines slots fields store more t.0 u.0 t.2 u.2 same.0 in
    let later = labels_text slots fields (suc number) stores others t.1 u.1 rest t.4 u.4 same.1 in
    t.3 ∙ (ap (λ ls. head ++ (lines_text ls ++ t.1)) lines ∙ (ap (λ xs. head ++ (lines_text u.0 ++ xs)) later ∙ sym u.3))

part_text : (has : Bool) (slots fields number : ℕ) (stores others : List Stored) (text other rest : List ℕ) → PartText has slots fields number stores text rest
    → PartText has slots fields number others other rest → (has ≡ true → SameStores stores others) → text ≡ other
part_text false slots fields number stores others text other rest t u same = t ∙ sym u
part_text true slots fields number stores others text other rest t u same =
    t.1 ∙ (ap (λ xs. ended (codes "method " ++ decimal number) ++ xs) (labels_text slots fields 0 stores others t.0 u.0 rest t.2 u.2 (same refl)) ∙ sym u.1)

methods_text : (fields number : ℕ) (methods : List Method) (labels others : List (List Stored)) (text other rest : List ℕ) → MethodsText fields number methods labels text rest
    → MethodsText fields number methods others other rest → SameLabels methods labels others → text ≡ other
methods_text fields number [] [] [] text other rest t u same = t ∙ sym u
methods_text fields number [] [] (more ∷ others) text other rest t u same = absurd u
methods_text fields number [] (stores ∷ labels) others text other rest t u same = absurd t
methods_text fields number (method ∷ methods) [] others text other rest t u same = absurd t
methods_text fields number (method ∷ methods) (stores ∷ labels) [] text other rest t u same = absurd u
methods_text fields number (method ∷ methods) (stores ∷ labels) (more ∷ others) text other rest t u same =
    let later = methods_text fields (suc number) methods labels others t.0 u.0 rest t.2 u.2 same.1 in
    part_text (has_part method) method.slots fields number stores more text other u.0 (subst (PartText (has_part method) method.slots fields number stores text) later t.1.1) u.1.1 same.0.same

pub one_text : (program : Program) (profile : Profile) (labels others : List (List Stored)) (text other : List ℕ) → IsLabelling program profile labels text → IsLabelling program profile others other
    → SameLabels program.methods labels others → text ≡ other
one_text program profile labels others text other t u same =
    let head = ended (codes "certificate 1 " ++ profile_text profile) in
    t.1 ∙ (ap (λ xs. head ++ xs) (methods_text (length program.fields) 0 program.methods labels others t.0 u.0 (codes "end\n") t.2 u.2 same) ∙ sym u.1)
