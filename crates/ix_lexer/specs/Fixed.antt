-- The tokens of fixed text, in the order of their numbers.
use Rattle.std.specs.Prelude.{ℕ, List, [], ◌∷◌, codes}

-- The words that are no identifiers: the keywords of JLS 3.9, the Boolean literals (JLS 3.10.3) and the null literal (JLS 3.10.7).
-- The number of the first is 0.
unfoldable pub words : List (List ℕ)
words =
    codes "abstract" ∷ codes "assert" ∷ codes "boolean" ∷ codes "break" ∷ codes "byte" ∷ codes "case" ∷ codes "catch" ∷ codes "char" ∷ codes "class" ∷
    codes "const" ∷ codes "continue" ∷ codes "default" ∷ codes "do" ∷ codes "double" ∷ codes "else" ∷ codes "enum" ∷ codes "extends" ∷ codes "final" ∷
    codes "finally" ∷ codes "float" ∷ codes "for" ∷ codes "goto" ∷ codes "if" ∷ codes "implements" ∷ codes "import" ∷ codes "instanceof" ∷ codes "int" ∷
    codes "interface" ∷ codes "long" ∷ codes "native" ∷ codes "new" ∷ codes "package" ∷ codes "private" ∷ codes "protected" ∷ codes "public" ∷ codes "return" ∷
    codes "short" ∷ codes "static" ∷ codes "strictfp" ∷ codes "super" ∷ codes "switch" ∷ codes "synchronized" ∷ codes "this" ∷ codes "throw" ∷ codes "throws" ∷
    codes "transient" ∷ codes "try" ∷ codes "void" ∷ codes "volatile" ∷ codes "while" ∷ codes "true" ∷ codes "false" ∷ codes "null" ∷ []

-- The separators and operators (JLS 3.11, 3.12). The number of the first is 53.
unfoldable pub signs : List (List ℕ)
signs =
    codes "(" ∷ codes ")" ∷ codes "{" ∷ codes "}" ∷ codes "[" ∷ codes "]" ∷ codes ";" ∷ codes "," ∷ codes "." ∷ codes "@" ∷
    codes "=" ∷ codes "==" ∷ codes "!=" ∷ codes "<" ∷ codes "<=" ∷ codes ">" ∷ codes ">=" ∷ codes "+" ∷ codes "-" ∷ codes "*" ∷
    codes "/" ∷ codes "%" ∷ codes "&" ∷ codes "|" ∷ codes "^" ∷ codes "!" ∷ codes "~" ∷ codes "&&" ∷ codes "||" ∷ codes "<<" ∷
    codes ">>" ∷ codes ">>>" ∷ codes "++" ∷ codes "--" ∷ codes "+=" ∷ codes "-=" ∷ codes "*=" ∷ codes "/=" ∷ codes "%=" ∷ codes "&=" ∷
    codes "|=" ∷ codes "^=" ∷ codes "<<=" ∷ codes ">>=" ∷ codes ">>>=" ∷ []
