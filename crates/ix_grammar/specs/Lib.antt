-- What has to be believed. In the order of reading: tokens and repetitions, the nodes and alternatives of annotations, types, modifiers
-- with declarators, members with classes, expressions and statements, a whole source; and last what `parse` answers.
pub mod Nodes
pub mod Patterns
pub mod Lists
pub mod AnnotGrammar
pub mod TypeGrammar
pub mod DeclGrammar
pub mod ClassGrammar
pub mod ExprNodes
pub mod ExprGrammar
pub mod StmtGrammar
pub mod SourceGrammar
pub mod Begins
pub mod Refusals
