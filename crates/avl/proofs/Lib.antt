-- What the proofs of several functions use.
mod Steps
mod Turn
mod Signed
mod Into
mod Out
mod Look
