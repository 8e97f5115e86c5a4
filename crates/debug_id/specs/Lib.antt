-- What the contracts cite.
pub mod DebugId
