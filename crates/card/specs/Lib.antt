-- Cards: how they are read, and how they are written.
pub mod Card
pub mod Encode
pub mod Trial
