-- How the places lent and the bytes that they are filled from belong together.
pub mod StepLaws
pub mod RoomLaws
pub mod PackedLaws
