pub mod Tokens
pub mod Mnemonics
pub mod Statements
pub mod LineFaults
pub mod Lexemes
pub mod Rows
pub mod Sources
