-- What the contracts cite.
pub mod Keys
pub mod Facts
pub mod Union
