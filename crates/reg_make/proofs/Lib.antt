pub mod CallSums
pub mod Declaring
pub mod Withdrawing
pub mod WorkCounts
pub mod Numbers
pub mod Beginning
pub mod ServedCounts
