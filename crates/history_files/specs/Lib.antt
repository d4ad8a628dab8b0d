-- what files stand for, what they are to a journal and an index, what is kept of it at every moment, and its laws
pub mod History
pub mod Standing
pub mod Keeps
pub mod Laws
