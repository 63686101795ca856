-- What match does with an answer of prepare that it does not judge by.
pub mod HandedBack
