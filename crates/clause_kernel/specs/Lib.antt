pub mod Clauses
pub mod Propagation
pub mod Kernel
pub mod Arena
pub mod Marks
pub mod Opening
pub mod Pieces
