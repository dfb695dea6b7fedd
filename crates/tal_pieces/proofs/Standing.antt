-- The statements of a text without faults keep the rules where they stand in the printed text.
pub mod ArgumentsFit
pub mod BodiesStand
pub mod CallsStand
pub mod FilesGrow
pub mod Fitting
pub mod LevelsAfter
pub mod LoneStands
pub mod Lower
pub mod MentionsStand
pub mod OpenStands
pub mod SourceStands
pub mod Stands
