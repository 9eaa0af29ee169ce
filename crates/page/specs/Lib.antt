-- Document 01 as definitions, in its order and words, and the statements that are proved of them. The section 'Walking the sheet' stands in `verdicts`, for any verdicts; the answers of the calls stand
-- with the calls. A reader must also believe the sums, binomials, places, digits and extremes of `algebra`, `Mode`, `mode_of`, `even_pair` and `AtCorners` of `forms`, and the verdict and `judged` of `verdicts`.
pub mod Sheet
pub mod Scaled
pub mod LocalForm
pub mod Bounds
pub mod Weight
pub mod Refusals
pub mod Numbers
pub mod SheetLine
pub mod SheetText
pub mod ListingText
pub mod CheckedSheets
pub mod DecimalFacts
pub mod Facts
pub mod ReadFacts
pub mod FaultFacts
pub mod Demand3
pub mod Raster
pub mod Cover
pub mod Label
pub mod Steps
