-- Printed statements that keep the rules where they stand read back as themselves.
pub mod ArgumentsBack
pub mod AssignBack
pub mod CheckpointBack
pub mod Counted
pub mod Fronts
pub mod LayersBack
pub mod LoneBack
pub mod NoCall
pub mod OpenBack
pub mod OpenedFiles
pub mod PartsBack
pub mod RowBack
pub mod StatementsBack
pub mod SystemCallBack
pub mod SystemsBack
pub mod UnlinedLayers
