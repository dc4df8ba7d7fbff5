pub mod WrittenLines
pub mod AnswerLines
