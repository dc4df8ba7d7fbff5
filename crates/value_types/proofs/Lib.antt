pub mod ChainsBack
pub mod FoldLaws
pub mod Images
pub mod TypesBack
pub mod ValuesBack
