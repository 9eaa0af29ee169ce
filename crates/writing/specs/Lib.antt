-- What is written of records, what the inner contracts say, and that the records' lines are the page's.
pub mod Steps
pub mod Facts
