-- The names of what is found by its number.
use Rattle.std.proofs.Common.{◌≡◌, ℕ, [], Option, None, Some, ap, ◌∙◌}
use Rattle.std.specs.Prelude.{slice_get, option_map, option_and_then, unwrap_or}
use Rattle.ix_text.specs.declared.span.Span.{Span}
use Rattle.ix_core.specs.declared.program.Class.{Class}
use Rattle.ix_core.specs.declared.program.Field.{Field}
use Rattle.ix_core.specs.declared.program.Local.{Local}
use Rattle.ix_core.specs.declared.program.Method.{Method}
use Rattle.ix_core.specs.declared.program.Program.{Program}
use Rattle.ix_report.specs.Claims.{param_name, local_name, field_name, method_name, class_name}

pub param_named : (program : Program) (method number : ℕ) (found : Method) (param : Local) → slice_get program.methods method ≡ Some found → slice_get found.params number ≡ Some param → param_name program method number ≡ param.name
param_named program method number found param is also =
    ap (λ (m : Option Method). unwrap_or (option_map (λ (p : Local). p.name) (option_and_then (λ (m : Method). slice_get m.params number) m)) []) is
    ∙ ap (λ (p : Option Local). unwrap_or (option_map (λ (p : Local). p.name) p) []) also

pub method_named : (program : Program) (number : ℕ) (found : Method) → slice_get program.methods number ≡ Some found → method_name program number ≡ found.name
method_named program number found is = ap (λ (m : Option Method). unwrap_or (option_map (λ (m : Method). m.name) m) []) is

pub param_missing : (program : Program) (method number : ℕ) (found : Method) → slice_get program.methods method ≡ Some found → slice_get found.params number ≡ None → param_name program method number ≡ []
param_missing program method number found is none =
    ap (λ (m : Option Method). unwrap_or (option_map (λ (p : Local). p.name) (option_and_then (λ (m : Method). slice_get m.params number) m)) []) is
    ∙ ap (λ (p : Option Local). unwrap_or (option_map (λ (p : Local). p.name) p) []) none

pub local_named : (program : Program) (method number : ℕ) (found : Method) (local : Local × Span) → slice_get program.methods method ≡ Some found → slice_get found.locals number ≡ Some local → local_name program method number ≡ local.0.name
local_named program method number found local is also =
    ap (λ (m : Option Method). unwrap_or (option_map (λ (l : Local × Span). l.0.name) (option_and_then (λ (m : Method). slice_get m.locals number) m)) []) is
    ∙ ap (λ (l : Option (Local × Span)). unwrap_or (option_map (λ (l : Local × Span). l.0.name) l) []) also

pub local_missing : (program : Program) (method number : ℕ) (found : Method) → slice_get program.methods method ≡ Some found → slice_get found.locals number ≡ None → local_name program method number ≡ []
local_missing program method number found is none =
    ap (λ (m : Option Method). unwrap_or (option_map (λ (l : Local × Span). l.0.name) (option_and_then (λ (m : Method). slice_get m.locals number) m)) []) is
    ∙ ap (λ (l : Option (Local × Span)). unwrap_or (option_map (λ (l : Local × Span). l.0.name) l) []) none

pub field_named : (program : Program) (number : ℕ) (found : Field) → slice_get program.fields number ≡ Some found → field_name program number ≡ found.name
field_named program number found is = ap (λ (f : Option Field). unwrap_or (option_map (λ (f : Field). f.name) f) []) is

pub class_named : (program : Program) (number : ℕ) (found : Class) → slice_get program.classes number ≡ Some found → class_name program number ≡ found.name
class_named program number found is = ap (λ (c : Option Class). unwrap_or (option_map (λ (c : Class). c.name) c) []) is

-- ---- where nothing has the number

pub param_none : (program : Program) (method number : ℕ) → slice_get program.methods method ≡ None → param_name program method number ≡ []
param_none program method number none = ap (λ (m : Option Method). unwrap_or (option_map (λ (p : Local). p.name) (option_and_then (λ (m : Method). slice_get m.params number) m)) []) none

pub local_none : (program : Program) (method number : ℕ) → slice_get program.methods method ≡ None → local_name program method number ≡ []
local_none program method number none = ap (λ (m : Option Method). unwrap_or (option_map (λ (l : Local × Span). l.0.name) (option_and_then (λ (m : Method). slice_get m.locals number) m)) []) none

pub method_none : (program : Program) (number : ℕ) → slice_get program.methods number ≡ None → method_name program number ≡ []
method_none program number none = ap (λ (m : Option Method). unwrap_or (option_map (λ (m : Method). m.name) m) []) none

pub field_none : (program : Program) (number : ℕ) → slice_get program.fields number ≡ None → field_name program number ≡ []
field_none program number none = ap (λ (f : Option Field). unwrap_or (option_map (λ (f : Field). f.name) f) []) none

pub class_none : (program : Program) (number : ℕ) → slice_get program.classes number ≡ None → class_name program number ≡ []
class_none program number none = ap (λ (c : Option Class). unwrap_or (option_map (λ (c : Class). c.name) c) []) none
