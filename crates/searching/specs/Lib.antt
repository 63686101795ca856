-- What the parts of check and match by a search string answer.
pub mod SearchPassing
