-- What the degree cap says of width and sizes (Caps), and the lines as chunks of the values (Chunks).
pub mod Caps
pub mod Chunks
