-- A place of a list of steps: what is read, field by field.
pub mod FieldLaws
