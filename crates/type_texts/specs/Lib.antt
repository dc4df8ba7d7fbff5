pub mod ChainNames
pub mod ReadsBack
pub mod PatternTexts
pub mod ParamTexts
pub mod TypeNames
