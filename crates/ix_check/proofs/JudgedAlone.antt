-- A method is judged by itself and by signatures.
use Rattle.std.specs.Prelude.{◌≡◌, ℕ, map}
use Rattle.std.proofs.Common.{sym, ap, subst}
use Rattle.ix_core.specs.declared.error.Error.{Error}
use Rattle.ix_core.specs.declared.fact.Profile.{Profile}
use Rattle.ix_core.specs.declared.program.Method.{Method}
use Rattle.ix_core.specs.declared.program.Program.{Program}
use Rattle.ix_core.specs.Formed.{Formed}
use Rattle.ix_core.specs.Tables.{method_at}
use Rattle.ix_check.specs.MethodErrors.{IsErrorOf}
use Rattle.ix_check.specs.Signatures.{signature_of, signatures, ErrorsOf}
use Rattle.ix_check.proofs.DeclaredNames.{MethodDeclared, all_declared}
use Rattle.ix_check.proofs.SameErrors.{errors_of}
use Rattle.ix_check.proofs.SameSignature.{signature_at}

module _ (program : Program) (formed : Formed program) where
  declared : (k : ℕ) → MethodDeclared (method_at program k)
  declared k = all_declared program formed.0 formed.1 k

  -- a signature's signature is itself
  same_signature : (k : ℕ) → signature_of (method_at (signatures program) k) ≡ signature_of (method_at program k)
  same_signature k = ap signature_of (signature_at program k)

  pub from_signatures : (method : Method) (profile : Profile) (number : ℕ) (error : Error) (rank : ℕ) → ErrorsOf (signatures program) method number profile error rank → ErrorsOf program method number profile error rank
  from_signatures method profile number error rank e = errors_of program (map signature_of program.methods) 0 same_signature declared method number profile error rank e

  pub to_signatures : (method : Method) (profile : Profile) (number : ℕ) (error : Error) (rank : ℕ) → ErrorsOf program method number profile error rank → ErrorsOf (signatures program) method number profile error rank
  to_signatures method profile number error rank e =
      errors_of (signatures program) program.methods program.accesses (λ k. sym (same_signature k)) (λ k. subst MethodDeclared (sym (signature_at program k)) (declared k)) method number profile error rank e

pub same_errors : (program other : Program) → Formed program → Formed other → signatures program ≡ signatures other → (number : ℕ) → method_at program number ≡ method_at other number
    → (profile : Profile) (error : Error) (rank : ℕ) → IsErrorOf program profile number error rank → IsErrorOf other profile number error rank
same_errors program other formed others same number is profile error rank e =
    from_signatures other others (method_at other number) profile number error rank
    (subst (λ method. ErrorsOf (signatures other) method number profile error rank) is
    (subst (λ declared. ErrorsOf declared (method_at program number) number profile error rank) same (to_signatures program formed (method_at program number) profile number error rank e)))
