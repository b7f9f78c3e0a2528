-- Single lines of a history.
pub mod Values
pub mod HistoryLines
