pub mod SessionSteps
pub mod RoundSteps
pub mod PutFiles
