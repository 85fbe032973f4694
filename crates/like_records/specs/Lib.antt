-- Records of a CSV file and the fault of the first wrong one. Whole numbers in decimal.
pub mod Decimal
pub mod Fault
pub mod First
pub mod Reading
pub mod Rows
