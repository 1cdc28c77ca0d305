-- The cases of the four by four solver's call (FourLaws).
pub mod FourLaws
