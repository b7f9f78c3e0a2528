mod Pushes
mod WalkSteps
mod Cuts
mod Trials
