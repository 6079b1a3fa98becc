mod Told
mod Steps
mod Shifted
