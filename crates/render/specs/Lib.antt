pub mod Order
pub mod Rendered
pub mod Drafts
pub mod Call
