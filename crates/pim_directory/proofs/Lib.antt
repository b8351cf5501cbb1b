pub mod PackedTables
