-- The starred cases of document 01, in a single table.
pub mod Table
