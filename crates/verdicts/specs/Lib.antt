-- The verdict on a cell, and the page's section 'Walking the sheet' as definitions, for any verdicts, and what is proved of them. A reader must also believe the sums and ranges of `algebra`.
pub mod Judging
pub mod Walking
pub mod Facts
pub mod Operational
