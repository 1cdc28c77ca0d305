-- The words of the contracts: the listing of the columns, tables of falling factorials, the parts of the fit, and what holds of an accepted fit (Fits, with
-- its law in FitsLaws).
pub mod Listing
pub mod Entries
pub mod Fitting
pub mod Asked
pub mod Fits
pub mod FitsLaws
