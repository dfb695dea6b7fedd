pub mod ExpressionTable
pub mod StatementTable
pub mod DeclarationTable
pub mod WantedTable
pub mod Machine
pub mod Judged
