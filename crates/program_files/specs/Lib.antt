pub mod Files
pub mod FileCuts
pub mod Read
