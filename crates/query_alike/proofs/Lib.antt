pub mod GuessLaws
