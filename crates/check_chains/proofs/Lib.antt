pub mod ChainLaws
pub mod NumberWalks
