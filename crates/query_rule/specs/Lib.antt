-- What the contracts cite.
pub mod RuleOnAtom
