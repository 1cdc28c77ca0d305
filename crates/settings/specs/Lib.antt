-- Settings of calls: indices of a support, the causes of refusal in their order, what a check means for a call, forms with one degree.
pub mod Indices
pub mod Causes
pub mod Settled
pub mod Forms
pub mod Taken
