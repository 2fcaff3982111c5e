pub mod PairTurns
pub mod ListForms
pub mod PairLaws
pub mod FirstPairs
