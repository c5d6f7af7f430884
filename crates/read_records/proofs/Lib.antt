pub mod PartnerLaws
pub mod RecordLaws
