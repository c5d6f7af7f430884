pub mod QuestionLaws
pub mod QuestionTests
