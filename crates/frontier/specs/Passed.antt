-- The tree's links, for those above that walk along them: definitions of crate avl, passed on.
pub use Rattle.avl.specs.Links.{link_of}
pub use Rattle.avl.specs.Holds.{top}
