mod Parts
mod Filing
