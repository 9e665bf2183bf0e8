pub mod Texts
pub mod Table
pub mod Named
pub mod Arguments
pub mod Expansion
-- Passed on from ix_core.
pub use Rattle.ix_core.specs.declared.claim.Type_
-- Passed on from ix_tree.
pub use Rattle.ix_tree.specs.declared.annot.Ident
pub use Rattle.ix_tree.specs.declared.decl.ClassDecl
pub use Rattle.ix_tree.specs.declared.decl.LocalDecl
pub use Rattle.ix_tree.specs.declared.decl.Member
pub use Rattle.ix_tree.specs.declared.decl.MethodDecl
pub use Rattle.ix_tree.specs.declared.expr.BinaryOp
pub use Rattle.ix_tree.specs.declared.expr.Expr
pub use Rattle.ix_tree.specs.declared.expr.ExprKind
pub use Rattle.ix_tree.specs.declared.expr.Init
pub use Rattle.ix_tree.specs.declared.expr.UnaryOp
pub use Rattle.ix_tree.specs.declared.stmt.Stmt
pub use Rattle.ix_tree.specs.declared.stmt.StmtKind
