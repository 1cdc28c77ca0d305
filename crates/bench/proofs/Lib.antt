-- The laws that make what is printed the layout's text (AnswerLaws, InputLaws), the length of the longest text (RoomLaws), what becomes of an input
-- (EndingLaws).
pub mod AnswerLaws
pub mod RoomLaws
pub mod EndingLaws
pub mod InputLaws
