-- What the proofs of several functions use.
mod Segments
mod Slots
mod Whole
mod Adding
mod Covering
mod Searching
mod Sifting
mod Presenting
