pub mod BitRows
pub mod Conditions
pub mod Rests
pub mod SignedBits
pub mod SumDefaults
pub mod Totals
