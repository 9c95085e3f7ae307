pub mod Asked
pub mod Bytes
pub mod Decimal
pub mod Parts
pub mod Words
