-- What the contracts cite.
pub mod Outside
pub mod Rules
