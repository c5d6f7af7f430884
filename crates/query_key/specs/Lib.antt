-- A key that alike queries share: the definition, and what the code's words hold. The law is in proofs/KeyLaws.
pub mod Key
pub mod Colours
