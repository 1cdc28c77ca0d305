-- What the answers with a key say (Keys).
pub mod Keys
