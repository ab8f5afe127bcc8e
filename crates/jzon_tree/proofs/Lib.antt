pub mod Values
pub mod Printing
pub mod Laws
