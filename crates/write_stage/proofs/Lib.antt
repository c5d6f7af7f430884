pub mod StageProofs
