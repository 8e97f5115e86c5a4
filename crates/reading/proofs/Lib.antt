-- What each section tells where it was got, what stands behind the rows once it is cleared, and the sections one after the other.
pub mod Got
pub mod Behind
pub mod Whole
