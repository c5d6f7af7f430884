pub mod Described
pub mod PairPut
