-- What the contracts cite, and laws of it.
pub mod Chains
pub mod WalkLaws
