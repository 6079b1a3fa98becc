-- Passed on from crate file_utf8.
pub use Rattle.file_utf8.specs.Tells.{tell_yes, tell_no, tell_same, tell_lt, tell_le, tell_eq, told_dec}
