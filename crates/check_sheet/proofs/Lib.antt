pub mod MembersLaws
