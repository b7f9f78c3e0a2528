pub mod Views
pub mod ServedRows
pub mod TurnSteps
pub mod SeatSteps
pub mod Dealing
pub mod Calls
pub mod Closing
