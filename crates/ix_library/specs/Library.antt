-- The library, which is a source as any other: two classes that Java's own have under these names, in the part that an index checker needs (Java SE API, `java.lang.Math`,
-- `java.util.Arrays`). A line ends with LF, which is 10.
use Rattle.std.specs.Prelude.{ℕ, List, [], ◌∷◌, ◌++◌, codes}

abbrev pub lines_text : List (List ℕ) → List ℕ
lines_text [] = []
lines_text (line ∷ lines) = line ++ (10 ∷ lines_text lines)

abbrev pub library_lines : List (List ℕ)
library_lines =
    codes "class Math {" ∷
    codes "  @SideEffectFree static @LessThan({\"#1 + 1\", \"#2 + 1\"}) int min(int a, int b) {" ∷
    codes "    int r = a;" ∷
    codes "    if (b < r) r = b;" ∷
    codes "    return r;" ∷
    codes "  }" ∷
    codes "  @SideEffectFree static int max(int a, int b) {" ∷
    codes "    int r = a;" ∷
    codes "    if (b > r) r = b;" ∷
    codes "    return r;" ∷
    codes "  }" ∷
    codes "}" ∷
    codes "class Arrays {" ∷
    codes "  @SideEffectFree static int[] copyOf(int[] a, @NonNegative int n) {" ∷
    codes "    int[] r = new int[n];" ∷
    codes "    for (int i = 0; i < n && i < a.length; i++) r[i] = a[i];" ∷
    codes "    return r;" ∷
    codes "  }" ∷
    codes "  @SideEffectFree static void fill(int[] a, int v) {" ∷
    codes "    for (int i = 0; i < a.length; i++) a[i] = v;" ∷
    codes "  }" ∷
    codes "  @SideEffectFree static @SearchIndexFor(\"#1\") int binarySearch(int[] a, int key) {" ∷
    codes "    int lo = 0;" ∷
    codes "    int hi = a.length - 1;" ∷
    codes "    while (lo <= hi) {" ∷
    codes "      int mid = lo + (hi - lo) / 2;" ∷
    codes "      if (a[mid] == key) return mid;" ∷
    codes "      if (a[mid] < key) lo = mid + 1; else hi = mid - 1;" ∷
    codes "    }" ∷
    codes "    return ~lo;" ∷
    codes "  }" ∷
    codes "}" ∷
    []

abbrev pub library : List ℕ
library = lines_text library_lines

-- what is judged with the library: the source, a line end and the library
abbrev pub joined : List ℕ → List ℕ
joined source = source ++ (10 ∷ library)
