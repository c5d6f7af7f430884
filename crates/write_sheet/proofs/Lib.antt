pub mod PutLaws
pub mod NumberLaws
pub mod QuestionLaws
pub mod MemberLaws
pub mod UnionLaws
