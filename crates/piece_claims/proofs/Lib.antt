pub mod Sums
pub mod Seats
pub mod ClaimMoves
pub mod CountMoves
pub mod SeatMoves
pub mod Hands
pub mod Outcomes
pub mod Ends
