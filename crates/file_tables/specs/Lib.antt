pub mod Tables
pub mod Kinds
