-- The definitions, in reading order: Lists, Refusals, Syntax, LostTags, Chase, Qualified, QualifiedChase, Rewriting,
-- Renaming, Union, Writing, Evaluation, Targets, Explaining, NamedRules.
pub mod Lists
pub mod Refusals
pub mod Syntax
pub mod LostTags
pub mod Chase
pub mod Qualified
pub mod QualifiedChase
pub mod Rewriting
pub mod Renaming
pub mod Union
pub mod Writing
pub mod Evaluation
pub mod Targets
pub mod Explaining
pub mod NamedRules
pub mod Laws
