-- Places of nodes.
use Rattle.ix_text.specs.declared.span.Span.{Span}

-- from the start of the first piece of text to the end of the last
abbrev pub across : Span → Span → Span
across first last = record { from = first.from; to = last.to }
