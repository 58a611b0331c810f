pub mod LinesOf
pub mod Looked
pub mod Answered
pub mod MarkedOnes
pub mod OneList
pub mod Marks
