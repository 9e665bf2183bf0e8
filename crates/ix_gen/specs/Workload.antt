-- The source that `bench` checks, as bytes. A line ends with LF, which is 10.
use Rattle.std.specs.Prelude.{ℕ, zero, suc, ◌%◌, List, [], ◌∷◌, ◌++◌, codes, decimal}

abbrev pub line : List ℕ → List ℕ
line text = text ++ 10 ∷ []

-- a method that sums an array
abbrev pub sum_line : List ℕ → List ℕ
sum_line k = codes "  static int sum" ++ k ++ codes "(int[] a) { int s = 0; for (int i = 0; i < a.length; i++) s += a[i]; return s + " ++ k ++ line (codes "; }")

-- a method that reads the middle of an array's front
abbrev pub mid_line : List ℕ → List ℕ
mid_line k = codes "  static int mid" ++ k ++ codes "(int[] a, @IndexFor(\"#1\") int i) { int j = i / 2; return a[j] + " ++ k ++ line (codes "; }")

-- a method that sums a window of an array
abbrev pub win_line : List ℕ → List ℕ
win_line k = codes "  static int win" ++ k
    ++ codes "(int[] a, @NonNegative @LTLengthOf(value=\"#1\", offset=\"#3 - 1\") int p, @NonNegative int n) { int s = 0; for (int k = 0; k < n; k++) s += a[p + k]; return s + " ++ k
    ++ line (codes "; }")

-- the line of a method with this number, by the number's remainder by 3
abbrev pub method_by : ℕ → List ℕ → List ℕ
method_by zero k = sum_line k
method_by (suc zero) k = mid_line k
method_by _ k = win_line k

-- the line of the method of that number, from 0
abbrev pub method : ℕ → List ℕ
method k = method_by (k % 3) (decimal k)

-- the lines of the first methods
abbrev pub methods : ℕ → List ℕ
methods zero = []
methods (suc k) = methods k ++ method k

-- the class with that many methods
abbrev pub workload : ℕ → List ℕ
workload n = line (codes "class G {") ++ methods n ++ line (codes "}")
