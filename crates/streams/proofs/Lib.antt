mod Filled
mod Padded
