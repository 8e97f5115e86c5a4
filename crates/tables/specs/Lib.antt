-- What a lent table holds, and what a read of records leaves in it.
pub mod Table
