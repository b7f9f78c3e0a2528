-- Lines that stand, the first that can't, and histories.
pub mod OneFault
pub mod CheckOutcomes
pub mod CheckedLines
pub mod CheckedStates
pub mod ServingSteps
pub mod LinesToHistory
pub mod HistoryToLines
pub mod ToldRows
