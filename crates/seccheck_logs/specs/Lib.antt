pub mod LearnedLine
