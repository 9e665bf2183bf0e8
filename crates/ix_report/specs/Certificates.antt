-- The texts of certificates that were judged.
use Rattle.std.specs.Prelude.{ℕ, List, ◌++◌, codes, decimal}
use Rattle.ix_text.specs.Lines.{place}
use Rattle.ix_core.specs.declared.error.Error.{Error}
use Rattle.ix_report.specs.Texts.{line, key}

-- the line of a program that is accepted by a certificate, with that many methods and constructors written in it and that many labels in the certificate
abbrev pub verified : ℕ → ℕ → List ℕ
verified methods labels = codes "verified: " ++ (decimal methods ++ (codes " methods, " ++ (decimal labels ++ line (codes " labels"))))

-- the line of a certificate with too many bytes
abbrev pub past_certificate : List ℕ → List ℕ
past_certificate cert = cert ++ line (codes ": limit: certificate bytes")

-- ---- why a certificate is refused

-- its bytes are no certificate of the program
abbrev pub refused_form : List ℕ → List ℕ
refused_form cert = cert ++ line (codes ": certificate refused: form")

-- the label of this loop of this method fails
abbrev pub refused_loop : List ℕ → ℕ → ℕ → List ℕ
refused_loop cert method loop = cert ++ (codes ": certificate refused: method " ++ (decimal method ++ (codes ", loop " ++ line (decimal loop))))

-- this error is derived at the labels: its key, and where it starts in the source's text
abbrev pub refused_at : List ℕ → List ℕ → ℕ × ℕ → List ℕ
refused_at cert why at = cert ++ (codes ": certificate refused: " ++ (why ++ (codes " at " ++ (decimal at.0 ++ (codes ":" ++ line (decimal at.1))))))

abbrev pub refused_rule : List ℕ → List ℕ → Error → List ℕ
refused_rule cert text error = refused_at cert (key error.rule) (place text error.span.from)
