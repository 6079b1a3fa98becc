pub mod Gates
pub mod Advances
pub mod Pages
