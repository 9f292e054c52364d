pub mod History
pub mod Inside
pub mod Rule
pub mod Seat
pub mod Steps
pub mod Tells
pub mod Yard
