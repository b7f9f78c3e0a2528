pub mod RunValues
