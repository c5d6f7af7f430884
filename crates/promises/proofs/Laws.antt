-- The promises in 01's words, and what they rest on.
pub mod Conditions
pub mod Checking
pub mod Apart
pub mod CheckPromises
pub mod AnswerBytes
pub mod Drawing
pub mod DrawPromises
pub mod LostTags
pub mod WritePromises
pub mod RenamePromises
pub mod ExplainPromises
pub mod Printing
pub mod Cut
pub mod Output
