-- What the contracts of this crate cite, beside the definition of the file.
pub mod Items
