-- What the parts of select answer.
pub mod Asking
pub mod Selecting
