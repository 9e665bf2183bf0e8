-- The fields of each class, as rows.
use Rattle.std.specs.Prelude.{◌≡◌, ℕ, List, length, map, min}
use Rattle.std.specs.Coded.{Coded-set, coded_ℕ, coded_list}
use Rattle.std.specs.Prelude.{Vec}
use Rattle.std.specs.declared.alloc.Global.{Global}
use Rattle.ix_core.specs.declared.program.Program.{Program}
use Rattle.ix_core.specs.Formed.{numbers_from}
use Rattle.ix_core.specs.Tables.{all_fields}

-- the classes that have numbers, which have 32 bits
abbrev pub numbered : Program → ℕ
numbered program = min (length program.classes) 4294967296

-- the rows are the fields of the classes, by their numbers
abbrev pub AreFields : Program → List (Vec ℕ Global) → Type 0
AreFields program rows = map (λ (row : Vec ℕ Global). row.items) rows ≡ map (all_fields program) (numbers_from 0 (numbered program))

pub fields_once : (program : Program) (rows : List (Vec ℕ Global)) → IsProp (AreFields program rows)
fields_once program rows = Coded-set (coded_list (coded_list coded_ℕ)) (map (λ (row : Vec ℕ Global). row.items) rows) (map (all_fields program) (numbers_from 0 (numbered program)))
