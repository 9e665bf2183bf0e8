-- The fact of a line, by the word that the line begins with, and a sum by its paths.
use Rattle.std.specs.Prelude.{◌≡◌, ◌≢◌, ℕ, ℤ, Option, Some, List, ◌++◌, codes, refl}
use Rattle.std.proofs.Common.{ap, sym, ◌∙◌}
use Rattle.ix_core.specs.declared.fact.Fact.{Fact}
use Rattle.ix_core.specs.declared.fact.Fact.TheVariants.{Rng, LenRng, Low, Same, IsLen, Less, Sum, Search, Neg, Upper}
use Rattle.ix_core.specs.declared.fact.Path.{Path}
use Rattle.ix_core.specs.declared.fact.PathOff.{PathOff}
use Rattle.ix_core.proofs.Cases.{differ}
use Rattle.ix_cert.specs.Reading.{IsSmallFact, args_text, given_text}
use Rattle.ix_cert.proofs.Bytes.{cancel}
use Rattle.ix_cert.proofs.OneFact.{first_three, word_code, word_starts}

module _ (line rest : List ℕ) (result : Option Fact) where
  pub read_Rng : line ≡ codes "rng " ++ rest → ((p : Path) (l h : ℤ) → IsSmallFact (Rng p l h) → rest ≡ args_text (Rng p l h) → result ≡ Some (Rng p l h))
      → (fact : Fact) → IsSmallFact fact → line ≡ given_text fact → result ≡ Some fact
  read_Rng cut read (Rng p l h) small is = read p l h small (cancel (codes "rng ") rest (args_text (Rng p l h)) (sym cut ∙ is))
  read_Rng cut read fact small is = absurd (differ (first_three (codes "rng ")) (word_code fact) refl (ap first_three (sym cut ∙ is) ∙ word_starts fact (args_text fact)))

  pub read_LenRng : line ≡ codes "len " ++ rest → ((a : Path) (l h : ℤ) → IsSmallFact (LenRng a l h) → rest ≡ args_text (LenRng a l h) → result ≡ Some (LenRng a l h))
      → (fact : Fact) → IsSmallFact fact → line ≡ given_text fact → result ≡ Some fact
  read_LenRng cut read (LenRng a l h) small is = read a l h small (cancel (codes "len ") rest (args_text (LenRng a l h)) (sym cut ∙ is))
  read_LenRng cut read fact small is = absurd (differ (first_three (codes "len ")) (word_code fact) refl (ap first_three (sym cut ∙ is) ∙ word_starts fact (args_text fact)))

  pub read_Low : line ≡ codes "low " ++ rest → ((p : Path) (c : ℤ) → IsSmallFact (Low p c) → rest ≡ args_text (Low p c) → result ≡ Some (Low p c))
      → (fact : Fact) → IsSmallFact fact → line ≡ given_text fact → result ≡ Some fact
  read_Low cut read (Low p c) small is = read p c small (cancel (codes "low ") rest (args_text (Low p c)) (sym cut ∙ is))
  read_Low cut read fact small is = absurd (differ (first_three (codes "low ")) (word_code fact) refl (ap first_three (sym cut ∙ is) ∙ word_starts fact (args_text fact)))

  pub read_Same : line ≡ codes "same " ++ rest → ((a b : Path) → IsSmallFact (Same a b) → rest ≡ args_text (Same a b) → result ≡ Some (Same a b))
      → (fact : Fact) → IsSmallFact fact → line ≡ given_text fact → result ≡ Some fact
  read_Same cut read (Same a b) small is = read a b small (cancel (codes "same ") rest (args_text (Same a b)) (sym cut ∙ is))
  read_Same cut read fact small is = absurd (differ (first_three (codes "same ")) (word_code fact) refl (ap first_three (sym cut ∙ is) ∙ word_starts fact (args_text fact)))

  pub read_IsLen : line ≡ codes "islen " ++ rest → ((p a : Path) → IsSmallFact (IsLen p a) → rest ≡ args_text (IsLen p a) → result ≡ Some (IsLen p a))
      → (fact : Fact) → IsSmallFact fact → line ≡ given_text fact → result ≡ Some fact
  read_IsLen cut read (IsLen p a) small is = read p a small (cancel (codes "islen ") rest (args_text (IsLen p a)) (sym cut ∙ is))
  read_IsLen cut read fact small is = absurd (differ (first_three (codes "islen ")) (word_code fact) refl (ap first_three (sym cut ∙ is) ∙ word_starts fact (args_text fact)))

  pub read_Less : line ≡ codes "less " ++ rest → ((p q : Path) (c : ℤ) → IsSmallFact (Less p q c) → rest ≡ args_text (Less p q c) → result ≡ Some (Less p q c))
      → (fact : Fact) → IsSmallFact fact → line ≡ given_text fact → result ≡ Some fact
  read_Less cut read (Less p q c) small is = read p q c small (cancel (codes "less ") rest (args_text (Less p q c)) (sym cut ∙ is))
  read_Less cut read fact small is = absurd (differ (first_three (codes "less ")) (word_code fact) refl (ap first_three (sym cut ∙ is) ∙ word_starts fact (args_text fact)))

  pub read_Sum : line ≡ codes "sum " ++ rest → ((t y z : Path) → IsSmallFact (Sum t y z) → rest ≡ args_text (Sum t y z) → result ≡ Some (Sum t y z))
      → (fact : Fact) → IsSmallFact fact → line ≡ given_text fact → result ≡ Some fact
  read_Sum cut read (Sum t y z) small is = read t y z small (cancel (codes "sum ") rest (args_text (Sum t y z)) (sym cut ∙ is))
  read_Sum cut read fact small is = absurd (differ (first_three (codes "sum ")) (word_code fact) refl (ap first_three (sym cut ∙ is) ∙ word_starts fact (args_text fact)))

  pub read_Search : line ≡ codes "search " ++ rest → ((p a : Path) → IsSmallFact (Search p a) → rest ≡ args_text (Search p a) → result ≡ Some (Search p a))
      → (fact : Fact) → IsSmallFact fact → line ≡ given_text fact → result ≡ Some fact
  read_Search cut read (Search p a) small is = read p a small (cancel (codes "search ") rest (args_text (Search p a)) (sym cut ∙ is))
  read_Search cut read fact small is = absurd (differ (first_three (codes "search ")) (word_code fact) refl (ap first_three (sym cut ∙ is) ∙ word_starts fact (args_text fact)))

  pub read_Neg : line ≡ codes "neg " ++ rest → ((p a : Path) → IsSmallFact (Neg p a) → rest ≡ args_text (Neg p a) → result ≡ Some (Neg p a))
      → (fact : Fact) → IsSmallFact fact → line ≡ given_text fact → result ≡ Some fact
  read_Neg cut read (Neg p a) small is = read p a small (cancel (codes "neg ") rest (args_text (Neg p a)) (sym cut ∙ is))
  read_Neg cut read fact small is = absurd (differ (first_three (codes "neg ")) (word_code fact) refl (ap first_three (sym cut ∙ is) ∙ word_starts fact (args_text fact)))

  pub read_Upper : line ≡ codes "upper " ++ rest → ((p a : Path) (o : PathOff) (c : ℤ) → IsSmallFact (Upper p a o c) → rest ≡ args_text (Upper p a o c) → result ≡ Some (Upper p a o c))
      → (fact : Fact) → IsSmallFact fact → line ≡ given_text fact → result ≡ Some fact
  read_Upper cut read (Upper p a o c) small is = read p a o c small (cancel (codes "upper ") rest (args_text (Upper p a o c)) (sym cut ∙ is))
  read_Upper cut read fact small is = absurd (differ (first_three (codes "upper ")) (word_code fact) refl (ap first_three (sym cut ∙ is) ∙ word_starts fact (args_text fact)))

-- no word of a fact stands first
pub no_word : (line : List ℕ) (no_Rng : (rest : List ℕ) → line ≢ codes "rng " ++ rest) (no_LenRng : (rest : List ℕ) → line ≢ codes "len " ++ rest) (no_Low : (rest : List ℕ) → line ≢ codes "low " ++ rest) (no_Same : (rest : List ℕ) → line ≢ codes "same " ++ rest) (no_IsLen : (rest : List ℕ) → line ≢ codes "islen " ++ rest) (no_Less : (rest : List ℕ) → line ≢ codes "less " ++ rest) (no_Sum : (rest : List ℕ) → line ≢ codes "sum " ++ rest) (no_Search : (rest : List ℕ) → line ≢ codes "search " ++ rest) (no_Neg : (rest : List ℕ) → line ≢ codes "neg " ++ rest) (no_Upper : (rest : List ℕ) → line ≢ codes "upper " ++ rest)
    → (fact : Fact) → line ≡ given_text fact → ⊥
no_word line no_Rng no_LenRng no_Low no_Same no_IsLen no_Less no_Sum no_Search no_Neg no_Upper (Rng p l h) is = no_Rng (args_text (Rng p l h)) is
no_word line no_Rng no_LenRng no_Low no_Same no_IsLen no_Less no_Sum no_Search no_Neg no_Upper (LenRng a l h) is = no_LenRng (args_text (LenRng a l h)) is
no_word line no_Rng no_LenRng no_Low no_Same no_IsLen no_Less no_Sum no_Search no_Neg no_Upper (Low p c) is = no_Low (args_text (Low p c)) is
no_word line no_Rng no_LenRng no_Low no_Same no_IsLen no_Less no_Sum no_Search no_Neg no_Upper (Same a b) is = no_Same (args_text (Same a b)) is
no_word line no_Rng no_LenRng no_Low no_Same no_IsLen no_Less no_Sum no_Search no_Neg no_Upper (IsLen p a) is = no_IsLen (args_text (IsLen p a)) is
no_word line no_Rng no_LenRng no_Low no_Same no_IsLen no_Less no_Sum no_Search no_Neg no_Upper (Less p q c) is = no_Less (args_text (Less p q c)) is
no_word line no_Rng no_LenRng no_Low no_Same no_IsLen no_Less no_Sum no_Search no_Neg no_Upper (Sum t y z) is = no_Sum (args_text (Sum t y z)) is
no_word line no_Rng no_LenRng no_Low no_Same no_IsLen no_Less no_Sum no_Search no_Neg no_Upper (Search p a) is = no_Search (args_text (Search p a)) is
no_word line no_Rng no_LenRng no_Low no_Same no_IsLen no_Less no_Sum no_Search no_Neg no_Upper (Neg p a) is = no_Neg (args_text (Neg p a)) is
no_word line no_Rng no_LenRng no_Low no_Same no_IsLen no_Less no_Sum no_Search no_Neg no_Upper (Upper p a o c) is = no_Upper (args_text (Upper p a o c)) is

-- a sum of paths that were read
pub some_Sum : (t u y v z w : Path) → u ≡ t → v ≡ y → w ≡ z → Some (Sum u v w) ≡ Some (Sum t y z)
some_Sum t u y v z w is one two = ap Some (ap (λ x. Sum x v w) is ∙ (ap (λ x. Sum t x w) one ∙ ap (Sum t y) two))

-- so of a difference, and of what an int is at least
pub some_Less : (p u q v : Path) (c d : ℤ) → u ≡ p → v ≡ q → d ≡ c → Some (Less u v d) ≡ Some (Less p q c)
some_Less p u q v c d one two is = ap Some (ap (λ x. Less x v d) one ∙ (ap (λ x. Less p x d) two ∙ ap (Less p q) is))

pub some_Low : (p u : Path) (c d : ℤ) → u ≡ p → d ≡ c → Some (Low u d) ≡ Some (Low p c)
some_Low p u c d one is = ap Some (ap (λ x. Low x d) one ∙ ap (Low p) is)

-- of ranges, and of a bound from an array's end
pub some_Rng : (p u : Path) (l m h n : ℤ) → u ≡ p → m ≡ l → n ≡ h → Some (Rng u m n) ≡ Some (Rng p l h)
some_Rng p u l m h n one low high = ap Some (ap (λ x. Rng x m n) one ∙ (ap (λ x. Rng p x n) low ∙ ap (Rng p l) high))

pub some_LenRng : (a u : Path) (l m h n : ℤ) → u ≡ a → m ≡ l → n ≡ h → Some (LenRng u m n) ≡ Some (LenRng a l h)
some_LenRng a u l m h n one low high = ap Some (ap (λ x. LenRng x m n) one ∙ (ap (λ x. LenRng a x n) low ∙ ap (LenRng a l) high))

pub some_Upper : (p u a v : Path) (o w : PathOff) (c d : ℤ) → u ≡ p → v ≡ a → w ≡ o → d ≡ c → Some (Upper u v w d) ≡ Some (Upper p a o c)
some_Upper p u a v o w c d one two at is = ap Some (ap (λ x. Upper x v w d) one ∙ (ap (λ x. Upper p x w d) two ∙ (ap (λ x. Upper p a x d) at ∙ ap (Upper p a o) is)))
