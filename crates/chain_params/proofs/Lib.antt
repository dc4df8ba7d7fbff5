mod Powers
mod Resampled
