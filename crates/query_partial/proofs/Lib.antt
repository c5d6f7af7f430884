pub mod PartialLaws
