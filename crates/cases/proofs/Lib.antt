-- One statement: every starred case holds.
pub mod Hold
