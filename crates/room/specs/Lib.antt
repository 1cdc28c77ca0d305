-- What recovery and the fit need, from their settings alone. Of recovery: how many subtractions there are, what the answer says (Told), and what the call
-- promises (Promises). Of the fit: what the answers say (Sizes), what that tells (SizeLaws), and what the call promises (FitPromises).
pub mod Subtractions
pub mod Told
pub mod Promises
pub mod Sizes
pub mod SizeLaws
pub mod FitPromises
