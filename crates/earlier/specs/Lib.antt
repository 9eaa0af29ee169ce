-- Definitions that a request replaced, named as the old ones, for what the request says of them. No call goes by them. #102 replaced the weight, #105 the bad line.
pub mod Weight
pub mod WeightAnswers
pub mod WeightStays
pub mod BadLine
pub mod BadLineStays
