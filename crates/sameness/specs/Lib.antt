-- Where a walk finds the coefficients of another form (Places), with the limits and steps of partners (Partners), and what is lent to it (Lent).
pub mod Places
pub mod Lent
pub mod Partners
