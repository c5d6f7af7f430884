-- The laws of the definitions: what each means, and that both readers agree.

-- on tests, lists, numbers and finite maps
pub mod Spellings
-- the steps
pub mod Syntax
pub mod Unbound
pub mod Fresh
pub mod Pigeonhole
pub mod Unifier
pub mod Steps
-- renaming
pub mod Equivalence
pub mod Variables
pub mod Promising
pub mod RenamingDecided
pub mod Merging
pub mod Rules
pub mod RespectRules
pub mod Respect
-- what every step keeps
pub mod StepShape
-- accepted unions
pub mod WrittenStep
pub mod UnionTests
pub mod Union
-- the union that is written
pub mod WritingGrows
pub mod Writing
-- answers from facts
pub mod Chase
pub mod LostTags
pub mod Matches
pub mod Answers
pub mod Finding
pub mod Binding
-- the renaming that is handed back
pub mod Targets
pub mod SmallestFound
-- the steps behind a tuple
pub mod Explaining
-- both readers agree
pub mod Soundness
pub mod Depth
pub mod Birth
pub mod Completeness
pub mod Agreement
pub mod Growth
pub mod Bounded
-- rules as written
pub mod QualifiedPlaces
pub mod QualifiedWritten
pub mod NamedRounds
pub mod QualifiedReadBy
pub mod QualifiedRead
pub mod Qualified
-- the rules behind an answer
pub mod NamedRules
