pub mod LaterTables
