-- The text of a history, piece by piece.
pub mod Pieces
pub mod PrintedRounds
