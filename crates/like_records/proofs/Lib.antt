-- How CSV's reader finds records and fields, row by row, and how a decimal number grows digit by digit.
mod DecimalDigits
mod Fields
mod ReaderSteps
mod RecordsLeft
pub mod RowsRead
