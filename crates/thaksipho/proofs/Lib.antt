pub mod Fitting
pub mod TableWords
pub mod CompileWords
pub mod ListWords
