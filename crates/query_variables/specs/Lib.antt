-- What the contracts cite, and that the fresh variable is in range.
pub mod UsedVariables
pub mod FreshVariable
