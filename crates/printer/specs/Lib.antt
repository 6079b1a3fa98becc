pub mod Printed
pub mod Delivered
pub mod Readers
