-- Lines and the values in them: told by their texts, and read back.
pub mod WordsBack
pub mod CallsBack
pub mod RepliesBack
pub mod RowsBack
pub mod RunsBack
pub mod OneLine
pub mod ValueReading
pub mod HitReading
pub mod ReplyReading
pub mod LineReading
