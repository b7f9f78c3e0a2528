mod Logs
mod Walks
mod Turns
mod Helped
mod Trials
mod TrialsWithdrawn
