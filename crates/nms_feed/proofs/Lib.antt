mod Moves
mod Ends
