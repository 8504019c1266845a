mod Fronts
mod Nexts
mod Onward
mod Passing
mod Pieces
mod Runs
mod Told
