pub mod QuestionWords
pub mod QuestionLaws
