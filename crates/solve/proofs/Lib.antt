mod Turns
mod Least
mod Starts
mod Arranging
