pub mod Names
pub mod Marks
pub mod Views
pub mod Rule
pub mod Seats
pub mod Meetings
pub mod Worlds
